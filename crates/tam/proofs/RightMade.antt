-- The runs of a large input that is asked for are right, and the sink took its lines.
use Rattle.std.proofs.Common.{◌≡◌, ◌≢◌, ◌⊎◌, inl, inr, ⊎_elim, ℕ, true, false, List, [], ◌∷◌, refl, sym, ◌∙◌, ap, subst, true≢false}
use Rattle.std.specs.Prelude.{Option, Some, None}
use Rattle.std.specs.Io.KnownBytes.{Appends}
use Rattle.tam_edge.specs.Whole.{AppendsPrefix}
use Rattle.tam_graph.specs.Graphs.{Graph}
use Rattle.tam_graph.specs.Reading.{Reads}
use Rattle.tam_graph.specs.Accepted.{IsAccepted}
use Rattle.tam_make.specs.declared.shape.Shape.{Shape}
use Rattle.tam_make.specs.MadeTexts.{IsCount, made_text}
use Rattle.tam_make.specs.MadeGraphs.{MadeTextsAreAccepted}
use Rattle.tam_msgs.specs.Runs.{joined}
use Rattle.tam_split.specs.GraphPartitions.{Partitions}
use Rattle.tam_flow.specs.BorneOut.{IsBorneOut}
use Rattle.tam_run.specs.declared.level.Level.{Level}
use Rattle.tam_run.specs.RightRuns.{RunsAreBorneOut, RunsAreRight, RoomIsQuiet, LiveRoomIsQuiet}
use Rattle.tam_words.specs.declared.mode.Mode.{Mode}
use Rattle.tam_words.specs.declared.mode.Mode.TheVariants as mode
use Rattle.tam_words.specs.declared.usage_cause.UsageCause.{UsageCause}
use Rattle.tam_words.specs.Names.{makes, reads_file, shape_of}
use Rattle.tam_words.specs.Options.{usual_limits}
use Rattle.tam_words.specs.Jobs.{Job, Usage, JobParts, IsMakeable, asked}
use Rattle.tam_words.proofs.JobParts.{IsRightJob, asked-right}
use Rattle.tam_input.specs.declared.ending.Ending.{Ending}
use Rattle.tam_input.specs.declared.ending.Ending.TheVariants.{NoMemory, WriteFault}
use Rattle.tam_input.specs.declared.refusal.Refusal.{Refusal}
use Rattle.tam_input.specs.Told.{Told, Contents}
use Rattle.tam_input.specs.Refusing.{Refuses, usage, order_failed, long_order, no_order, text_failed, too_long, wanted, text_file, unless_read}
use Rattle.tam_input.specs.Refusing.{refusal_ending, refusal_line}
use Rattle.tam_input.specs.Inputs.{Request}
use Rattle.tam.specs.MadeRuns.{argument_of, levels, made_run, made_lines, made_ending, SaysLines, all_lines, first_lines, SaysMade, of_graph, no_graph}
use Rattle.tam.specs.Due.{IsDue, of_graph, of_assembly, of_code, of_image}
use Rattle.tam.specs.Answers.{Answer, AnswerTo, refused, answered, due, ran, code_ran, image_ran, made, wanted as out}
use Rattle.tam.specs.RightMade.{AsksMade, LinesOut, TookLines, IsRightMade}
use Rattle.tam.specs.Headline.{IsDone}
use Rattle.tam.proofs.Endings.{broke-or}
use Rattle.tam.proofs.Modes.{level-other, reads-other}
use Rattle.tam.proofs.Saying.{done-more}
use Rattle.tam.proofs.SaidLines.{not-of-levels}
use Rattle.tam.proofs.MadeArguments.{made-arguments, usual-in-range}
use Rattle.tam.proofs.Spelling.{reads-once}

-- one mode makes its input
makes-is : (m : Mode) → makes m ≡ true → m ≡ mode.Make
makes-is mode.Graph e = absurd (true≢false (sym e))
makes-is mode.Tl0 e = absurd (true≢false (sym e))
makes-is mode.Rv32 e = absurd (true≢false (sym e))
makes-is mode.Check e = absurd (true≢false (sym e))
makes-is mode.EmitDg e = absurd (true≢false (sym e))
makes-is mode.Sets e = absurd (true≢false (sym e))
makes-is mode.Parts e = absurd (true≢false (sym e))
makes-is mode.EmitTl0 e = absurd (true≢false (sym e))
makes-is mode.EmitAsm e = absurd (true≢false (sym e))
makes-is mode.EmitImage e = absurd (true≢false (sym e))
makes-is mode.Assemble e = absurd (true≢false (sym e))
makes-is mode.ExecTl0 e = absurd (true≢false (sym e))
makes-is mode.ExecRv32 e = absurd (true≢false (sym e))
makes-is mode.Make e = refl

-- it is no other mode
not-other : (m other : Mode) → m ≡ mode.Make → m ≡ other → makes other ≡ false → ⊥
not-other m other e f none = true≢false (sym (ap makes (sym f ∙ e)) ∙ none)

-- a job is no fault
not-both : (job : JobParts) (cause : UsageCause) → Job job ≡ Usage cause → ⊥
not-both job cause e = cc

-- one job is asked for
job-once : (a b : JobParts) → Job a ≡ Job b → a ≡ b
job-once a b e = cc

-- no file is none
none-some : (file : List ℕ) → ◌≡◌ {A = Option (List ℕ)} None (Some file) → ⊥
none-some file e = cc

-- one shape is one shape
shape-once : (a b : Shape) → ◌≡◌ {A = Option Shape} (Some a) (Some b) → a ≡ b
shape-once a b e = cc

-- want of memory isn't a write fault
wanting-broken : NoMemory ≡ WriteFault → ⊥
wanting-broken e = cc

-- ---- what the sink took

module _ (lines : List (List ℕ)) (meant : Ending) where
  -- what is said is all of them, or that memory was wanted behind the first
  says-which : (Taken : List ℕ → Type 0) (end : Ending) (text : List ℕ) → SaysLines lines meant end text → Taken text
      → ((end ≡ meant) × Taken (joined lines)) ⊎ ((end ≡ NoMemory) × LinesOut Taken lines)
  says-which Taken end text all_lines taken = inl (refl, taken)
  says-which Taken end text (first_lines prefix rest is) taken = inr (refl, (prefix, rest, is, taken))

  -- by what was done
  took-lines : (end : Ending) (old new : Option (List ℕ)) (faults faults_new : ℕ) → meant ≢ NoMemory → meant ≢ WriteFault
      → IsDone (SaysLines lines meant) end old new faults faults_new → TookLines lines meant end old new
  took-lines end old new faults faults_new not-out not-broken done = record {
    whole = λ e. ⊎_elim (λ a. a.1) (λ o. absurd (not-out (sym e ∙ o.0))) (which (λ w. not-broken (sym e ∙ w)));
    first_lines = λ e. ⊎_elim (λ a. absurd (not-out (sym a.0 ∙ e))) (λ o. o.1) (which (λ w. wanting-broken (sym e ∙ w)));
    prefix = λ e. let b = done.broken e in ⊎_elim (λ a. inl a.1) (λ o. inr o.1) (says-which (AppendsPrefix old new) b.0 b.1 b.2 b.3);
    no_other = ⊎_elim (λ e. inr (inl e)) (λ n. ⊎_elim (λ a. inl a.0) (λ o. inr (inr o.0)) (which n)) (broke-or end);
  }
    where
      which : end ≢ WriteFault → ((end ≡ meant) × Appends old new (joined lines)) ⊎ ((end ≡ NoMemory) × LinesOut (Appends old new) lines)
      which n = let s = done.said n in says-which (Appends old new) end s.0 s.1 s.2

-- ---- what is answered

module _ (words : List (List ℕ)) (contents : Contents) (before now : Told) (shape : Shape) (n : ℕ) (asks : AsksMade (asked words) shape n) where
  right-job : IsRightJob asks.job
  right-job = asked-right words asks.job asks.asked

  -- the shape may have the number
  pub count-fits : IsCount shape n
  count-fits = subst (IsCount shape) asks.count_is (subst (λ o. IsMakeable o asks.job.count) asks.shape_is (right-job.makeable asks.makes_it))

  same-job : (job : JobParts) → asked words ≡ Job job → job ≡ asks.job
  same-job job e = job-once job asks.job (sym e ∙ asks.asked)

  mode-is : (job : JobParts) → asked words ≡ Job job → job.mode ≡ mode.Make
  mode-is job e = ap (λ j. j.mode) (same-job job e) ∙ makes-is asks.job.mode asks.makes_it

  -- no file is read
  no-order : (job : JobParts) → asked words ≡ Job job → (file : List ℕ) → job.order_file ≡ Some file → ⊥
  no-order job e file is = none-some file (sym (ap (λ j. j.order_file) (same-job job e) ∙ right-job.no_order_file asks.makes_it) ∙ is)

  no-text : (job : JobParts) → asked words ≡ Job job → (file : List ℕ) → text_file job ≡ Some file → ⊥
  no-text job e file is = none-some file (subst (λ t. (elim t [ true ↦ unless_read job.order_file job.name | false ↦ None ]) ≡ Some file)
      (ap reads_file (mode-is job e)) is)

  -- before anything is made, nothing is told but that memory was wanted
  early : (r : Refusal) → Refuses (asked words) contents before now r → SaysMade shape n (refusal_ending r) (refusal_line r)
  early r (usage {cause = c} e ends) = absurd (not-both asks.job c (sym asks.asked ∙ e))
  early r (order_failed {job = j} {file = f} e is rose ends) = absurd (no-order j e f is)
  early r (long_order {job = j} {file = f} e is more ends) = absurd (no-order j e f is)
  early r (no_order {job = j} {file = f} e is few none ends) = absurd (no-order j e f is)
  early r (text_failed {job = j} {file = f} e o is rose ends) = absurd (no-text j e f is)
  early r (too_long {job = j} {file = f} e o is more ends) = absurd (no-text j e f is)
  early r (wanted k few ends) = no_graph

  -- nothing is due
  none-due : (ask : Request) (bytes : List ℕ) → ask.mode ≡ mode.Make → (end : Ending) (text : List ℕ) → IsDue ask bytes end text → ⊥
  none-due ask bytes m end text (of_graph reads d) = reads-other ask.mode mode.Make reads m refl
  none-due ask bytes m end text (of_assembly assembles d) = not-other ask.mode mode.Assemble m assembles refl
  none-due ask bytes m end text (of_code runs-code d) = not-other ask.mode mode.ExecTl0 m runs-code refl
  none-due ask bytes m end text (of_image runs-image d) = not-other ask.mode mode.ExecRv32 m runs-image refl

  -- and then what is said of the large input
  of-request : (ask : Request) (bytes : List ℕ) → ask.mode ≡ mode.Make → ask.shape ≡ Some shape → ask.count ≡ n → (end : Ending) (text : List ℕ)
      → AnswerTo ask bytes end text → SaysMade shape n end text
  of-request ask bytes m s c end text (due d) = absurd (none-due ask bytes m end text d)
  of-request ask bytes m s c end text (ran {level = l} a says) = absurd (level-other ask.mode mode.Make l a.mode m refl)
  of-request ask bytes m s c end text (code_ran a says) = absurd (not-other ask.mode mode.ExecTl0 m a.mode refl)
  of-request ask bytes m s c end text (image_ran a says) = absurd (not-other ask.mode mode.ExecRv32 m a.mode refl)
  of-request ask bytes m s c end text (made {shape = k} makes-it is says) =
      subst (λ h. SaysMade h n end text) (shape-once k shape (sym is ∙ s)) (subst (λ i. SaysMade k i end text) c says)
  of-request ask bytes m s c end text out = no_graph

  -- so whatever is answered is said of it
  told-made : (end : Ending) (text : List ℕ) → Answer (asked words) contents before now end text → SaysMade shape n end text
  told-made end text (refused {refusal = r} is) = early r is
  told-made end text (answered {request = q} {bytes = b} input a) =
      let same = same-job input.job input.asked in
      of-request q b (ap (λ r. r.mode) input.same ∙ mode-is input.job input.asked)
      (ap (λ r. r.shape) input.same ∙ ap (λ j. shape_of j.name) same ∙ asks.shape_is)
      (ap (λ r. r.count) input.same ∙ ap (λ j. j.count) same ∙ asks.count_is) end text a

-- ---- the runs

module _ (law : MadeTextsAreAccepted) (borne : RunsAreBorneOut) (right : RunsAreRight) (room : RoomIsQuiet) (live : LiveRoomIsQuiet) (shape : Shape) (n : ℕ)
    (count : IsCount shape n) where
  abbrev graph : Graph
  graph = (law shape n count).0

  spelled : Reads (made_text shape n) graph × IsAccepted graph
  spelled = let m = law shape n count in (m.1, m.2)

  -- each run is borne out
  out-at : (level : Level) → (all : Partitions) × IsBorneOut graph all (argument_of shape n ∷ []) usual_limits (made_run shape n graph level).report
  out-at level =
      borne level graph (argument_of shape n ∷ []) [] usual_limits spelled.1 (made-arguments shape n count graph (law shape n count).3) usual-in-range

  -- what is said is said of the lines of this graph
  of-graph : (end : Ending) (text : List ℕ) → SaysMade shape n end text → SaysLines (made_lines shape n graph) (made_ending shape n graph) end text
  of-graph end text (of_graph {g = h} reads accepted says) =
      subst (λ k. SaysLines (made_lines shape n k) (made_ending shape n k) end text) (reads-once (made_text shape n) graph h spelled.0 reads) says
  of-graph end text no_graph = first_lines [] (made_lines shape n graph) refl

  -- the runs are right, and the sink took their lines
  pub made-right : (end : Ending) (old new : Option (List ℕ)) (faults faults_new : ℕ) → IsDone (SaysMade shape n) end old new faults faults_new
      → IsRightMade shape n end old new
  made-right end old new faults faults_new done = record {
    g = graph;
    spelled = record { reads = spelled.0; accepted = spelled.1 };
    right = λ level. let b = out-at level in right graph b.0 (argument_of shape n ∷ []) usual_limits (made_run shape n graph level).report b.1;
    complete = λ level. let b = out-at level in room graph b.0 (argument_of shape n ∷ []) usual_limits (made_run shape n graph level).report b.1;
    complete_live = λ level. live level graph (argument_of shape n ∷ []) [] usual_limits
        (record { accepted = spelled.1; arguments = made-arguments shape n count graph (law shape n count).3; ranges = usual-in-range });
    took = took-lines (made_lines shape n graph) (made_ending shape n graph) end old new faults faults_new
        (not-of-levels NoMemory refl (made_run shape n graph) levels)
        (not-of-levels WriteFault refl (made_run shape n graph) levels)
        (done-more old new faults faults_new (SaysMade shape n) (SaysLines (made_lines shape n graph) (made_ending shape n graph)) end of-graph done);
  }

-- a large input that is asked for is right
pub right-made : MadeTextsAreAccepted → RunsAreBorneOut → RunsAreRight → RoomIsQuiet → LiveRoomIsQuiet → (words : List (List ℕ)) (contents : Contents)
    (before now : Told)
    (end : Ending) (old new : Option (List ℕ)) (faults faults_new : ℕ) → IsDone (Answer (asked words) contents before now) end old new faults faults_new
    → (shape : Shape) (n : ℕ) → AsksMade (asked words) shape n → IsRightMade shape n end old new
right-made law borne right room live words contents before now end old new faults faults_new done shape n asks =
    made-right law borne right room live shape n (count-fits words contents before now shape n asks) end old new faults faults_new
    (done-more old new faults faults_new (Answer (asked words) contents before now) (SaysMade shape n) end
    (told-made words contents before now shape n asks) done)
