-- What may be answered where a run is asked for: its text, or the lines of first results and that memory was wanted.
use Rattle.std.proofs.Common.{◌≡◌, ℕ, List, [], refl, sym, subst, ◌∙◌}
use Rattle.tam_graph.specs.Graphs.{Graph}
use Rattle.tam_run.specs.declared.level.Level.{Level}
use Rattle.tam_words.specs.declared.mode.Mode.TheVariants as mode
use Rattle.tam_input.specs.declared.ending.Ending.{Ending}
use Rattle.tam_input.specs.Inputs.{Request}
use Rattle.tl0_code.specs.ThreadCode.{Program}
use Rattle.rv_inst.specs.Images.{Image}
use Rattle.tam.specs.SaidRuns.{SaysRun, run_out}
use Rattle.tam.specs.GraphAnswers.{AsksGraph, Spells, run_of}
use Rattle.tam.specs.CodeAnswers.{AsksCode, code_run_of}
use Rattle.tam.specs.ImageAnswers.{AsksImage, image_run_of}
use Rattle.tam.specs.Due.{graph_run, code_run, image_run}
use Rattle.tam.specs.Answers.{AnswerTo, due, ran, code_ran, image_ran, made, wanted}
use Rattle.tam.proofs.Modes.{level-once, level-other, code-makes, image-makes, image-code}
use Rattle.tam.proofs.Spelling.{reads-once, code-once, image-once}
use Rattle.tam.proofs.Dues.{run-not-due}

module _ (ask : Request) (bytes : List ℕ) (level : Level) (g : Graph) (asks : AsksGraph ask bytes level g) where
  same-graph : (h : Graph) → Spells bytes h → h ≡ g
  same-graph h s = reads-once bytes g h asks.spelled.reads s.reads

  -- of a graph
  pub told-of : (end : Ending) (text : List ℕ) → AnswerTo ask bytes end text → SaysRun (run_of level ask g) end text
  told-of end text (due d) = absurd (run-not-due ask bytes (graph_run asks) end text d)
  told-of end text (ran {level = l} {g = h} a says) =
      subst (λ k. SaysRun (run_of k ask g) end text) (level-once l level (sym a.mode ∙ asks.mode))
      (subst (λ k. SaysRun (run_of l ask k) end text) (same-graph h a.spelled) says)
  told-of end text (code_ran a says) = absurd (level-other ask.mode mode.ExecTl0 level asks.mode a.mode refl)
  told-of end text (image_ran a says) = absurd (level-other ask.mode mode.ExecRv32 level asks.mode a.mode refl)
  told-of end text (made m s says) = absurd (level-other ask.mode mode.Make level asks.mode m refl)
  told-of end text wanted = run_out [] (run_of level ask g).report.printed refl

module _ (ask : Request) (bytes : List ℕ) (p : Program) (asks : AsksCode ask bytes p) where
  -- of thread code
  pub told-of-code : (end : Ending) (text : List ℕ) → AnswerTo ask bytes end text → SaysRun (code_run_of ask p) end text
  told-of-code end text (due d) = absurd (run-not-due ask bytes (code_run asks) end text d)
  told-of-code end text (ran {level = l} a says) = absurd (level-other ask.mode mode.ExecTl0 l a.mode asks.mode refl)
  told-of-code end text (code_ran {p = q} a says) =
      subst (λ k. SaysRun (code_run_of ask k) end text) (code-once bytes p q asks.spelled.reads a.spelled.reads) says
  told-of-code end text (image_ran a says) = absurd (image-code ask.mode a.mode asks.mode)
  told-of-code end text (made m s says) = absurd (code-makes ask.mode asks.mode m)
  told-of-code end text wanted = run_out [] (code_run_of ask p).report.printed refl

module _ (ask : Request) (bytes : List ℕ) (image : Image) (asks : AsksImage ask bytes image) where
  -- of an image
  pub told-of-image : (end : Ending) (text : List ℕ) → AnswerTo ask bytes end text → SaysRun (image_run_of ask image) end text
  told-of-image end text (due d) = absurd (run-not-due ask bytes (image_run asks) end text d)
  told-of-image end text (ran {level = l} a says) = absurd (level-other ask.mode mode.ExecRv32 l a.mode asks.mode refl)
  told-of-image end text (code_ran a says) = absurd (image-code ask.mode asks.mode a.mode)
  told-of-image end text (image_ran {image = i} a says) =
      subst (λ k. SaysRun (image_run_of ask k) end text) (image-once bytes image i asks.spelled a.spelled) says
  told-of-image end text (made m s says) = absurd (image-makes ask.mode asks.mode m)
  told-of-image end text wanted = run_out [] (image_run_of ask image).report.printed refl
