-- What a call leaves of the files.
use Rattle.std.proofs.Common.{◌≡◌, ◌≢◌, ◌⊎◌, inl, inr, ⊎_elim, ℕ, false, List, refl, sym, ◌∙◌, ap, true≢false}
use Rattle.std.specs.Prelude.{Option, Ok, Err}
use Rattle.tam_edge.specs.Whole.{AppendsPrefix}
use Rattle.tam_make.specs.declared.shape.Shape.{Shape}
use Rattle.tam_run.specs.Accounts.{Account}
use Rattle.tam_words.specs.Jobs.{Asked}
use Rattle.tam_input.specs.declared.ending.Ending.{Ending}
use Rattle.tam_input.specs.declared.ending.Ending.TheVariants.{ReadFault, WriteFault}
use Rattle.tam_input.specs.declared.refusal.Refusal.{Refusal}
use Rattle.tam_input.specs.declared.refusal.Refusal.TheVariants as refusal
use Rattle.tam_input.specs.Told.{Told}
use Rattle.tam_input.specs.Refusing.{refusal_ending, refusal_line, read_fault_line}
use Rattle.tam_input.specs.Inputs.{Request, KeepsNamed, IsFault, ReadsOut, Names}
use Rattle.tam.specs.GraphAnswers.{not_graph, not_accepted, listed, wrong_count}
use Rattle.tam.specs.CodeAnswers.{not_code, not_checked}
use Rattle.tam.specs.CodeAnswers as code
use Rattle.tam.specs.ImageAnswers.{not_image}
use Rattle.tam.specs.ImageAnswers as image
use Rattle.tam.specs.Due.{IsDue, of_graph, of_assembly, of_code, of_image, assembled, not_assembled}
use Rattle.tam.specs.Answers.{AnswerTo, due, ran, code_ran, image_ran, made, wanted}
use Rattle.tam.specs.SaidRuns.{SaysRun, whole_run, run_out}
use Rattle.tam.specs.MadeRuns.{levels, made_run, SaysLines, all_lines, first_lines, SaysMade, of_graph, no_graph}
use Rattle.tam.specs.Machines.{has_answered}
use Rattle.tam.specs.Headline.{IsDone, IsSaid, KeepsFiles}
use Rattle.tam.proofs.Endings.{broke-or}
use Rattle.tam.proofs.Running.{not-unread}
use Rattle.tam.proofs.SaidLines.{not-of-levels}

-- what is said of a run isn't a read fault
run-unread : (a : Account) (end : Ending) (text : List ℕ) → SaysRun a end text → end ≢ ReadFault
run-unread a end text whole_run z = absurd (not-unread _ _ z)
run-unread a end text (run_out prefix rest is) z = absurd (cc)

-- nor is what is said of lines under another ending
lines-unread : (lines : List (List ℕ)) (meant end : Ending) (text : List ℕ) → meant ≢ ReadFault → SaysLines lines meant end text → end ≢ ReadFault
lines-unread lines meant end text none all_lines z = absurd (none z)
lines-unread lines meant end text none (first_lines prefix rest is) z = absurd (cc)

-- nor of a large input
made-unread : (shape : Shape) (n : ℕ) (end : Ending) (text : List ℕ) → SaysMade shape n end text → end ≢ ReadFault
made-unread shape n end text (of_graph {g = g} reads accepted says) =
    lines-unread _ _ end text (not-of-levels ReadFault refl (made_run shape n g) levels) says
made-unread shape n end text no_graph = λ z. absurd (cc)

-- nor is what is due
due-unread : (ask : Request) (bytes : List ℕ) (end : Ending) (text : List ℕ) → IsDue ask bytes end text → end ≢ ReadFault
due-unread ask bytes end text (of_graph m (not_graph e)) z = absurd (cc)
due-unread ask bytes end text (of_graph m (not_accepted r e)) z = absurd (cc)
due-unread ask bytes end text (of_graph m (listed s e)) z = absurd (cc)
due-unread ask bytes end text (of_graph m (wrong_count l s d)) z = absurd (cc)
due-unread ask bytes end text (of_assembly m (assembled r)) z = absurd (cc)
due-unread ask bytes end text (of_assembly m (not_assembled e)) z = absurd (cc)
due-unread ask bytes end text (of_code m (not_code e)) z = absurd (cc)
due-unread ask bytes end text (of_code m (not_checked r e)) z = absurd (cc)
due-unread ask bytes end text (of_code m (code.wrong_count s d)) z = absurd (cc)
due-unread ask bytes end text (of_image m (not_image e)) z = absurd (cc)
due-unread ask bytes end text (of_image m (image.wrong_count s d)) z = absurd (cc)

-- an answer isn't a read fault
no-fault : (ask : Request) (bytes : List ℕ) (end : Ending) (text : List ℕ) → AnswerTo ask bytes end text → end ≢ ReadFault
no-fault ask bytes end text (due d) z = absurd (due-unread ask bytes end text d z)
no-fault ask bytes end text (ran a says) z = absurd (run-unread _ end text says z)
no-fault ask bytes end text (code_ran a says) z = absurd (run-unread _ end text says z)
no-fault ask bytes end text (image_ran a says) z = absurd (run-unread _ end text says z)
no-fault ask bytes end text (made {shape = s} m is says) z = absurd (made-unread s ask.count end text says z)
no-fault ask bytes end text wanted z = absurd (cc)

-- a read fault isn't a write fault
unread-broken : ReadFault ≡ WriteFault → ⊥
unread-broken e = cc

-- a refusal answers nothing
pub unanswered : (r : Refusal) → has_answered (refusal_ending r) ≡ false
unanswered refusal.NotRead = refl
unanswered refusal.TooLong = refl
unanswered refusal.NoMemory = refl
unanswered (refusal.Usage cause) = refl

module _ (words : Asked) (before now : Told) (old new : Option (List ℕ)) (end : Ending) where
  -- of a call that answers the bytes of a file
  pub answer-keeps : {X : Type 0} (x : X) (ask : Request) (bytes : List ℕ) (written written_new : ℕ) → KeepsNamed (Names words) before now (IsFault (Ok x))
      → ReadsOut (Names words) before.left now.left → IsDone (AnswerTo ask bytes) end old new written written_new → KeepsFiles words end before now old new
  answer-keeps x ask bytes written written_new kept out d = record {
    other_left = kept.other_left;
    other_faults = kept.other_faults;
    read_fault = λ e. let s = d.said (λ t. unread-broken (sym e ∙ t)) in absurd (no-fault ask bytes end s.0 s.1 e);
    fault_told = λ file changed. absurd (changed (kept.uncounted (λ f. f) file));
    read_out = λ file named s. out file named;
  }

  -- of a call that is refused
  pub refusal-keeps : (X : Type 0) (r : Refusal) (written written_new : ℕ) → KeepsNamed (Names words) before now (IsFault {X = X} (Err r))
      → IsSaid (refusal_ending r) (refusal_line r) end old new written written_new → KeepsFiles words end before now old new
  refusal-keeps X r written written_new kept said = record {
    other_left = kept.other_left;
    other_faults = kept.other_faults;
    read_fault = λ e. kept.counted (failed r (sym (said.said (λ t. unread-broken (sym e ∙ t))).0 ∙ e));
    fault_told = λ file changed. told r kept said file changed;
    read_out = λ file named told-so. ⊎_elim (λ e. absurd (true≢false (sym told-so ∙ ap has_answered e)))
        (λ n. absurd (true≢false (sym told-so ∙ ap has_answered (said.said n).0 ∙ unanswered r))) (broke-or end);
  }
    where
      failed : (r : Refusal) → refusal_ending r ≡ ReadFault → IsFault {X = X} (Err r)
      failed refusal.NotRead e = tt
      failed refusal.TooLong e = absurd (cc)
      failed refusal.NoMemory e = absurd (cc)
      failed (refusal.Usage cause) e = absurd (cc)

      told : (r : Refusal) → KeepsNamed (Names words) before now (IsFault {X = X} (Err r))
          → IsSaid (refusal_ending r) (refusal_line r) end old new written written_new → (file : List ℕ) → now.faults file ≢ before.faults file
          → (end ≡ ReadFault) ⊎ ((end ≡ WriteFault) × AppendsPrefix old new read_fault_line)
      told refusal.NotRead k s file changed = ⊎_elim (λ e. inr (e, s.broken e)) (λ n. inl (s.said n).0) (broke-or end)
      told refusal.TooLong k s file changed = absurd (changed (k.uncounted (λ f. f) file))
      told refusal.NoMemory k s file changed = absurd (changed (k.uncounted (λ f. f) file))
      told (refusal.Usage cause) k s file changed = absurd (changed (k.uncounted (λ f. f) file))
