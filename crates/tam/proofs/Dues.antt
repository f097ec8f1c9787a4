-- One thing is due to an input that is read, and none where a run of it is asked for.
use Rattle.std.proofs.Common.{◌≡◌, ℕ, ◌⊎◌, inl, inr, false, List, [], ◌∷◌, length, refl, sym, ap, subst, ◌∙◌, true≢false}
use Rattle.std.specs.Prelude.{Option, Some}
use Rattle.tam_graph.specs.declared.place.Place.{Place}
use Rattle.tam_graph.specs.declared.check_cause.CheckCause.{CheckCause}
use Rattle.tam_graph.specs.Graphs.{Graph, code_of, params_of}
use Rattle.tam_read.specs.Placed.{line_at, lines_in}
use Rattle.tam_check.specs.FirstFault.{first_fault as first_refused}
use Rattle.tam_run.specs.declared.level.Level.{Level}
use Rattle.tam_words.specs.declared.mode.Mode.TheVariants as mode
use Rattle.tam_words.specs.Names.{makes}
use Rattle.tam_input.specs.declared.ending.Ending.{Ending}
use Rattle.tam_input.specs.declared.ending.Ending.TheVariants.{NoMemory}
use Rattle.tam_input.specs.Inputs.{Request}
use Rattle.tl0_code.specs.declared.bad_cause.BadCause.{BadCause}
use Rattle.tl0_code.specs.ThreadCode.{Program}
use Rattle.tl0_code.specs.CodeRules.{first_fault as first_in_code}
use Rattle.rv_image.specs.declared.image_error.ImageCause.{ImageCause}
use Rattle.rv_image.specs.ImageFiles.{image_bytes}
use Rattle.rv_inst.specs.Images.{Image}
use Rattle.rv_asm.proofs.TextsRead.{one_image}
use Rattle.tam.specs.AnswerLines.{refused_line, read_cause_name, check_cause_name, asm_cause_name, code_text_cause_name}
use Rattle.tam.specs.AnswerLines.{refused_byte_line, image_cause_name}
use Rattle.tam.specs.GraphAnswers.{AsksGraph, GraphDue, not_graph, not_accepted, listed, wrong_count, listing}
use Rattle.tam.specs.CodeAnswers.{AsksCode, CodeDue, not_code, not_checked, code_fault_line, main_params}
use Rattle.tam.specs.CodeAnswers as code
use Rattle.tam.specs.ImageAnswers.{AsksImage, ImageDue, not_image}
use Rattle.tam.specs.ImageAnswers as image
use Rattle.tam.specs.Due.{AssemblyDue, assembled, not_assembled, IsDue, of_graph, of_assembly, of_code, of_image, HasRun, graph_run, code_run, image_run}
use Rattle.tam.specs.Answers.{AnswerTo, due, ran, code_ran, image_ran, made, wanted}
use Rattle.tam.proofs.Modes.{runs-graph, reads-other, level-other, lists-no, code-assembles, image-assembles, image-code}
use Rattle.tam.proofs.Spelling.{reads-once, no-fault, not-refused, code-once, no-text-fault, no-code-fault, no-asm-fault, image-once, no-image-fault}

-- ---- lines

-- a listing is one text
one-text : (a b : List ℕ) → ◌≡◌ {A = Option (List ℕ)} (Some a) (Some b) → a ≡ b
one-text a b e = cc

-- one fault has one line
fault-line : {C : Type 0} (name : C → List ℕ) (n m : ℕ) (c d : C) → ◌≡◌ {A = List (ℕ × C)} ((n, c) ∷ []) ((m, d) ∷ [])
    → refused_line n (name c) ≡ refused_line m (name d)
fault-line {C} name n m c d e = ap (λ (p : ℕ × C). refused_line p.0 (name p.1)) (first e)
  where
    first : ◌≡◌ {A = List (ℕ × C)} ((n, c) ∷ []) ((m, d) ∷ []) → ◌≡◌ {A = ℕ × C} (n, c) (m, d)
    first e = cc

-- so has that of a graph that is refused
place-line : (bytes : List ℕ) (p q : Place) (c d : CheckCause) → ◌≡◌ {A = Option (Place × CheckCause)} (Some (p, c)) (Some (q, d))
    → refused_line (line_at (lines_in bytes) p) (check_cause_name c) ≡ refused_line (line_at (lines_in bytes) q) (check_cause_name d)
place-line bytes p q c d e = ap (λ x. refused_line (line_at (lines_in bytes) x.0) (check_cause_name x.1)) (same e)
  where
    same : ◌≡◌ {A = Option (Place × CheckCause)} (Some (p, c)) (Some (q, d)) → ◌≡◌ {A = Place × CheckCause} (p, c) (q, d)
    same e = cc

-- and that of thread code that is
code-fault-line : (p : Program) (f h : ℕ × ℕ × BadCause) → ◌≡◌ {A = Option (ℕ × ℕ × BadCause)} (Some f) (Some h)
    → code_fault_line p f ≡ code_fault_line p h
code-fault-line p f h e = ap (code_fault_line p) (same e)
  where
    same : ◌≡◌ {A = Option (ℕ × ℕ × BadCause)} (Some f) (Some h) → f ≡ h
    same e = cc

-- and that of an image file that is refused
byte-line : (n m : ℕ) (c d : ImageCause) → ◌≡◌ {A = Option (ℕ × ImageCause)} (Some (n, c)) (Some (m, d))
    → refused_byte_line n (image_cause_name c) ≡ refused_byte_line m (image_cause_name d)
byte-line n m c d e = ap (λ (p : ℕ × ImageCause). refused_byte_line p.0 (image_cause_name p.1)) (same e)
  where
    same : ◌≡◌ {A = Option (ℕ × ImageCause)} (Some (n, c)) (Some (m, d)) → ◌≡◌ {A = ℕ × ImageCause} (n, c) (m, d)
    same e = cc

-- ---- one thing is due

module _ (ask : Request) (bytes : List ℕ) where
  -- to a graph's text
  graph-once : (a b : Ending) (s t : List ℕ) → GraphDue ask bytes a s → GraphDue ask bytes b t → (a ≡ b) × (s ≡ t)
  graph-once a b s t (not_graph {n = n} {cause = c} e) (not_graph {n = m} {cause = d} f) = (refl, fault-line read_cause_name n m c d (sym e ∙ f))
  graph-once a b s t (not_graph {n = n} {cause = c} e) (not_accepted {g = g} r f) = absurd (no-fault bytes g n c r e)
  graph-once a b s t (not_graph {n = n} {cause = c} e) (listed {g = g} p f) = absurd (no-fault bytes g n c p.reads e)
  graph-once a b s t (not_graph {n = n} {cause = c} e) (wrong_count {g = g} m p f) = absurd (no-fault bytes g n c p.reads e)
  graph-once a b s t (not_accepted {g = g} r e) (not_graph {n = n} {cause = c} f) = absurd (no-fault bytes g n c r f)
  graph-once a b s t (not_accepted {g = g} {place = p} {cause = c} r e) (not_accepted {g = h} {place = q} {cause = d} u f) =
      (refl, place-line bytes p q c d (sym e ∙ ap first_refused (reads-once bytes h g u r) ∙ f))
  graph-once a b s t (not_accepted {g = g} {place = l} {cause = c} r e) (listed {g = h} p f) =
      absurd (not-refused h l c p.accepted (subst (λ k. first_refused k ≡ Some (l, c)) (reads-once bytes h g p.reads r) e))
  graph-once a b s t (not_accepted {g = g} {place = l} {cause = c} r e) (wrong_count {g = h} m p f) =
      absurd (not-refused h l c p.accepted (subst (λ k. first_refused k ≡ Some (l, c)) (reads-once bytes h g p.reads r) e))
  graph-once a b s t (listed {g = g} p e) (not_graph {n = n} {cause = c} f) = absurd (no-fault bytes g n c p.reads f)
  graph-once a b s t (listed {g = g} p e) (not_accepted {g = h} {place = l} {cause = c} r f) =
      absurd (not-refused g l c p.accepted (subst (λ k. first_refused k ≡ Some (l, c)) (reads-once bytes g h p.reads r) f))
  graph-once a b s t (listed {g = g} {text = x} p e) (listed {g = h} {text = y} q f) =
      (refl, one-text x y (sym e ∙ ap (listing ask.mode) (reads-once bytes h g q.reads p.reads) ∙ f))
  graph-once a b s t (listed {g = g} {text = x} p e) (wrong_count {level = l} m q f) =
      absurd (lists-no ask.mode g x ((runs-graph ask.mode l m).lists_none g) e)
  graph-once a b s t (wrong_count {g = g} m p e) (not_graph {n = n} {cause = c} f) = absurd (no-fault bytes g n c p.reads f)
  graph-once a b s t (wrong_count {g = g} m p e) (not_accepted {g = h} {place = l} {cause = c} r f) =
      absurd (not-refused g l c p.accepted (subst (λ k. first_refused k ≡ Some (l, c)) (reads-once bytes g h p.reads r) f))
  graph-once a b s t (wrong_count {level = l} m p e) (listed {g = g} {text = x} q f) =
      absurd (lists-no ask.mode g x ((runs-graph ask.mode l m).lists_none g) f)
  graph-once a b s t (wrong_count m p e) (wrong_count l q f) = (refl, refl)

  -- to an assembly text
  assembly-once : (a b : Ending) (s t : List ℕ) → AssemblyDue bytes a s → AssemblyDue bytes b t → (a ≡ b) × (s ≡ t)
  assembly-once a b s t (assembled {image = i} r) (assembled {image = j} u) = (refl, ap image_bytes (one_image bytes i j r u))
  assembly-once a b s t (assembled {image = i} r) (not_assembled {n = n} {cause = c} e) = absurd (no-asm-fault bytes i n c r e)
  assembly-once a b s t (not_assembled {n = n} {cause = c} e) (assembled {image = i} r) = absurd (no-asm-fault bytes i n c r e)
  assembly-once a b s t (not_assembled {n = n} {cause = c} e) (not_assembled {n = k} {cause = d} f) = (refl, fault-line asm_cause_name n k c d (sym e ∙ f))

  -- to a text of thread code
  code-due-once : (a b : Ending) (s t : List ℕ) → CodeDue ask bytes a s → CodeDue ask bytes b t → (a ≡ b) × (s ≡ t)
  code-due-once a b s t (not_code {n = n} {cause = c} e) (not_code {n = m} {cause = d} f) = (refl, fault-line code_text_cause_name n m c d (sym e ∙ f))
  code-due-once a b s t (not_code {n = n} {cause = c} e) (not_checked {p = p} r f) = absurd (no-text-fault bytes p n c r e)
  code-due-once a b s t (not_code {n = n} {cause = c} e) (code.wrong_count {p = p} q f) = absurd (no-text-fault bytes p n c q.reads e)
  code-due-once a b s t (not_checked {p = p} r e) (not_code {n = n} {cause = c} f) = absurd (no-text-fault bytes p n c r f)
  code-due-once a b s t (not_checked {p = p} {fault = x} r e) (not_checked {p = q} {fault = y} u f) =
      let same : p ≡ q = code-once bytes q p u r in
      (refl, code-fault-line p x y (sym e ∙ ap first_in_code same ∙ f) ∙ ap (λ k. code_fault_line k y) same)
  code-due-once a b s t (not_checked {p = p} {fault = x} r e) (code.wrong_count {p = q} w f) =
      absurd (no-code-fault q x w.checked (subst (λ k. first_in_code k ≡ Some x) (code-once bytes q p w.reads r) e))
  code-due-once a b s t (code.wrong_count {p = p} w e) (not_code {n = n} {cause = c} f) = absurd (no-text-fault bytes p n c w.reads f)
  code-due-once a b s t (code.wrong_count {p = p} w e) (not_checked {p = q} {fault = x} r f) =
      absurd (no-code-fault p x w.checked (subst (λ k. first_in_code k ≡ Some x) (code-once bytes p q w.reads r) f))
  code-due-once a b s t (code.wrong_count w e) (code.wrong_count v f) = (refl, refl)

  -- to the file of an image
  image-due-once : (a b : Ending) (s t : List ℕ) → ImageDue ask bytes a s → ImageDue ask bytes b t → (a ≡ b) × (s ≡ t)
  image-due-once a b s t (not_image {n = n} {cause = c} e) (not_image {n = m} {cause = d} f) = (refl, byte-line n m c d (sym e ∙ f))
  image-due-once a b s t (not_image {n = n} {cause = c} e) (image.wrong_count {image = i} p f) = absurd (no-image-fault bytes i n c p e)
  image-due-once a b s t (image.wrong_count {image = i} p e) (not_image {n = n} {cause = c} f) = absurd (no-image-fault bytes i n c p f)
  image-due-once a b s t (image.wrong_count p e) (image.wrong_count q f) = (refl, refl)

  -- so one text is due, under one ending
  pub due-once : (a b : Ending) (s t : List ℕ) → IsDue ask bytes a s → IsDue ask bytes b t → (a ≡ b) × (s ≡ t)
  due-once a b s t (of_graph m d) (of_graph l e) = graph-once a b s t d e
  due-once a b s t (of_graph m d) (of_assembly l e) = absurd (reads-other ask.mode mode.Assemble m l refl)
  due-once a b s t (of_graph m d) (of_code l e) = absurd (reads-other ask.mode mode.ExecTl0 m l refl)
  due-once a b s t (of_graph m d) (of_image l e) = absurd (reads-other ask.mode mode.ExecRv32 m l refl)
  due-once a b s t (of_assembly m d) (of_graph l e) = absurd (reads-other ask.mode mode.Assemble l m refl)
  due-once a b s t (of_assembly m d) (of_assembly l e) = assembly-once a b s t d e
  due-once a b s t (of_assembly m d) (of_code l e) = absurd (code-assembles ask.mode l m)
  due-once a b s t (of_assembly m d) (of_image l e) = absurd (image-assembles ask.mode l m)
  due-once a b s t (of_code m d) (of_graph l e) = absurd (reads-other ask.mode mode.ExecTl0 l m refl)
  due-once a b s t (of_code m d) (of_assembly l e) = absurd (code-assembles ask.mode m l)
  due-once a b s t (of_code m d) (of_code l e) = code-due-once a b s t d e
  due-once a b s t (of_code m d) (of_image l e) = absurd (image-code ask.mode l m)
  due-once a b s t (of_image m d) (of_graph l e) = absurd (reads-other ask.mode mode.ExecRv32 l m refl)
  due-once a b s t (of_image m d) (of_assembly l e) = absurd (image-assembles ask.mode m l)
  due-once a b s t (of_image m d) (of_code l e) = absurd (image-code ask.mode m l)
  due-once a b s t (of_image m d) (of_image l e) = image-due-once a b s t d e

  -- ---- none is due where a run is asked for

  -- of a graph
  run-no-fault : {level : Level} {g : Graph} → AsksGraph ask bytes level g → (a : Ending) (s : List ℕ) → GraphDue ask bytes a s → ⊥
  run-no-fault {level} {g} asks a s (not_graph {n = n} {cause = c} e) = no-fault bytes g n c asks.spelled.reads e
  run-no-fault {level} {g} asks a s (not_accepted {g = h} {place = l} {cause = c} r e) =
      not-refused g l c asks.spelled.accepted (subst (λ k. first_refused k ≡ Some (l, c)) (reads-once bytes g h asks.spelled.reads r) e)
  run-no-fault {level} {g} asks a s (listed {g = h} {text = x} p e) = lists-no ask.mode h x ((runs-graph ask.mode level asks.mode).lists_none h) e
  run-no-fault {level} {g} asks a s (wrong_count {g = h} m p differ) =
      differ (subst (λ k. length ask.args ≡ params_of (code_of k k.main)) (sym (reads-once bytes g h asks.spelled.reads p.reads)) asks.one_each)

  -- of thread code
  code-no-fault : {p : Program} → AsksCode ask bytes p → (a : Ending) (s : List ℕ) → CodeDue ask bytes a s → ⊥
  code-no-fault {p} asks a s (not_code {n = n} {cause = c} e) = no-text-fault bytes p n c asks.spelled.reads e
  code-no-fault {p} asks a s (not_checked {p = q} {fault = x} r e) =
      no-code-fault p x asks.spelled.checked (subst (λ k. first_in_code k ≡ Some x) (code-once bytes p q asks.spelled.reads r) e)
  code-no-fault {p} asks a s (code.wrong_count {p = q} w differ) =
      differ (subst (λ k. length ask.args ≡ main_params k) (sym (code-once bytes p q asks.spelled.reads w.reads)) asks.one_each)

  -- of an image
  image-no-fault : {i : Image} → AsksImage ask bytes i → (a : Ending) (s : List ℕ) → ImageDue ask bytes a s → ⊥
  image-no-fault {i} asks a s (not_image {n = n} {cause = c} e) = no-image-fault bytes i n c asks.spelled e
  image-no-fault {i} asks a s (image.wrong_count {image = j} p differ) =
      differ (subst (λ k. length ask.args ≡ k.params) (sym (image-once bytes i j asks.spelled p)) asks.one_each)

  -- of each
  pub run-not-due : HasRun ask bytes → (a : Ending) (s : List ℕ) → IsDue ask bytes a s → ⊥
  run-not-due (graph_run asks) a s (of_graph m d) = run-no-fault asks a s d
  run-not-due (graph_run {level = l} asks) a s (of_assembly m d) = level-other ask.mode mode.Assemble l asks.mode m refl
  run-not-due (graph_run {level = l} asks) a s (of_code m d) = level-other ask.mode mode.ExecTl0 l asks.mode m refl
  run-not-due (graph_run {level = l} asks) a s (of_image m d) = level-other ask.mode mode.ExecRv32 l asks.mode m refl
  run-not-due (code_run asks) a s (of_graph m d) = reads-other ask.mode mode.ExecTl0 m asks.mode refl
  run-not-due (code_run asks) a s (of_assembly m d) = code-assembles ask.mode asks.mode m
  run-not-due (code_run asks) a s (of_code m d) = code-no-fault asks a s d
  run-not-due (code_run asks) a s (of_image m d) = image-code ask.mode m asks.mode
  run-not-due (image_run asks) a s (of_graph m d) = reads-other ask.mode mode.ExecRv32 m asks.mode refl
  run-not-due (image_run asks) a s (of_assembly m d) = image-assembles ask.mode asks.mode m
  run-not-due (image_run asks) a s (of_code m d) = image-code ask.mode asks.mode m
  run-not-due (image_run asks) a s (of_image m d) = image-no-fault asks a s d

  -- ---- what is answered

  -- what is answered is due, or a run is asked for, or memory was wanted
  pub answer-due : makes ask.mode ≡ false → (a : Ending) (s : List ℕ) → AnswerTo ask bytes a s
      → IsDue ask bytes a s ⊎ (HasRun ask bytes ⊎ (a ≡ NoMemory))
  answer-due read a s (due d) = inl d
  answer-due read a s (ran asks says) = inr (inl (graph_run asks))
  answer-due read a s (code_ran asks says) = inr (inl (code_run asks))
  answer-due read a s (image_ran asks says) = inr (inl (image_run asks))
  answer-due read a s (made m is says) = absurd (true≢false (sym (ap makes m) ∙ read))
  answer-due read a s wanted = inr (inr refl)
