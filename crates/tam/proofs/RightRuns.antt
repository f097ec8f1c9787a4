-- Runs that are asked for are right, by the law of runs and by what was answered; other inputs are answered.
use Rattle.std.proofs.Common.{◌≡◌, ◌≢◌, ◌⊎◌, inl, inr, ⊎_elim, ℕ, false, List, [], length, refl, sym, ◌∙◌, subst, slice_get}
use Rattle.std.specs.Prelude.{Option, Some}
use Rattle.std.specs.Io.KnownBytes.{Appends}
use Rattle.tam_edge.specs.Whole.{AppendsPrefix}
use Rattle.tam_graph.specs.Graphs.{Graph, AreArguments, params_of, code_of as code_in}
use Rattle.tam_graph.specs.Accepted.{IsAccepted}
use Rattle.tam_msgs.specs.Messages.{AreLimits}
use Rattle.tam_run.specs.declared.level.Level.{Level}
use Rattle.tam_run.specs.declared.level.Level.TheVariants as level
use Rattle.tam_run.specs.Accounts.{Account, account_text}
use Rattle.tam_run.specs.RightRuns.{RunsAreBorneOut, RunsAreRight, RoomIsQuiet, LiveRoomIsQuiet}
use Rattle.tam_make.specs.MadeGraphs.{MadeTextsAreAccepted}
use Rattle.tam_words.specs.declared.mode.Mode.{Mode}
use Rattle.tam_words.specs.declared.mode.Mode.TheVariants as mode
use Rattle.tam_words.specs.declared.usage_cause.UsageCause.TheVariants.{ArgsCount}
use Rattle.tam_words.specs.Names.{makes}
use Rattle.tam_words.specs.Jobs.{Asked, asked}
use Rattle.tam_words.proofs.JobParts.{asked-right}
use Rattle.tam_input.specs.declared.ending.Ending.{Ending}
use Rattle.tam_input.specs.declared.ending.Ending.TheVariants.{ReadFault, WriteFault, NoMemory, Usage}
use Rattle.tam_input.specs.Endings.{code_of}
use Rattle.tam_input.specs.Told.{Told, Contents, Agrees}
use Rattle.tam_input.specs.Refusing.{usage_line, read_fault_line}
use Rattle.tam_input.specs.Inputs.{Request}
use Rattle.tam.specs.SaidRuns.{ending_of, SaysRun, whole_run, run_out}
use Rattle.rv_inst.specs.Harts.{Hart}
use Rattle.rv_image.specs.ImageFiles.{image_bytes}
use Rattle.rv_keep.specs.Image.{image_of}
use Rattle.tl0_code.specs.CodeTexts.{program_text}
use Rattle.tl0_keep.specs.Compiled.{compiled}
use Rattle.tl0_keep.specs.ThreadLaws.{CodeIsChecked}
use Rattle.tam_fits.specs.ShortTexts.{TextsByPairsAreShort}
use Rattle.tam_fits.specs.FileLaws.{ImagesAreInRange, ImagesHaveWords, FilesAreShort}
use Rattle.tam.specs.GraphAnswers.{run_of}
use Rattle.tam.specs.CodeAnswers.{code_run_of}
use Rattle.tam.specs.ImageAnswers.{image_run_of}
use Rattle.tam.specs.Due.{IsDue, HasRun}
use Rattle.tam.specs.Answers.{Answer, AnswerTo}
use Rattle.tam.specs.Asks.{AsksText, AsksEmitted}
use Rattle.tam.specs.Machines.{AsksMachine, HandsOver}
use Rattle.tam.specs.Headline.{IsRunOfGraph, IsDone, IsAnswered, IsRightRun, IsRightCall, KeepsFiles, RanOut, ReadFailed}
use Rattle.tam.specs.Headline.{TookRun}
use Rattle.tam.proofs.Endings.{broke-or}
use Rattle.tam.proofs.Running.{not-broken, not-unread, not-wanting}
use Rattle.tam.proofs.Asking.{told-input}
use Rattle.tam.proofs.Telling.{told-of, told-of-code, told-of-image}
use Rattle.tam.proofs.Emitted.{emitted-input, emitted-mode, emitted-makes, emitted-code, emitted-code-count, code-short}
use Rattle.tam.proofs.Emitted.{emitted-image, emitted-image-count, file-short}
use Rattle.tam.proofs.RightMade.{right-made}
use Rattle.tam.proofs.Dues.{answer-due, due-once, run-not-due}

-- a read fault isn't want of memory
unread-wanting : ReadFault ≡ NoMemory → ⊥
unread-wanting e = cc

-- nor a write fault
unread-broken : ReadFault ≡ WriteFault → ⊥
unread-broken e = cc

-- nor is want of memory one
wanting-broken : NoMemory ≡ WriteFault → ⊥
wanting-broken e = cc

module _ (words : Asked) (contents : Contents) (before now : Told) (end : Ending) (old new : Option (List ℕ)) (faults faults_new : ℕ)
    (done : IsDone (Answer words contents before now) end old new faults faults_new) where
  module _ (ask : Request) (bytes : List ℕ) (input : AsksText words contents ask bytes) (account : Account)
      (told : (e : Ending) (text : List ℕ) → AnswerTo ask bytes e text → SaysRun account e text) where
    abbrev Failed : Type 0
    Failed = ReadFailed words before now

    -- by the ending, what was written of a run
    abbrev Wrote : Type 0
    Wrote = ((end ≡ ending_of account.report) × Appends old new (account_text account)) ⊎ (((end ≡ ReadFault) × (Failed × Appends old new read_fault_line))
        ⊎ ((end ≡ NoMemory) × RanOut (Appends old new) account))

    -- where no write failed
    written : end ≢ WriteFault → Wrote
    written n = let s = done.said n in go s.0 (told-input words contents before now ask bytes input end s.0 s.1) s.2
      where
        of-run : (e : Ending) (text : List ℕ) → SaysRun account e text → Appends old new text
            → ((e ≡ ending_of account.report) × Appends old new (account_text account)) ⊎ ((e ≡ NoMemory) × RanOut (Appends old new) account)
        of-run e text whole_run a = inl (refl, a)
        of-run e text (run_out prefix rest is) a = inr (refl, (prefix, rest, is, a))

        go : (text : List ℕ) → AnswerTo ask bytes end text ⊎ ((end ≡ ReadFault) × (text ≡ read_fault_line) × ReadFailed words before now)
            → Appends old new text → Wrote
        go text (inr f) a = inr (inl (f.0, (f.2, subst (Appends old new) f.1 a)))
        go text (inl t) a = ⊎_elim (λ x. inl x) (λ x. inr (inr x)) (of-run end text (told end text t) a)

    -- and of one that broke off
    prefixes : end ≡ WriteFault → AppendsPrefix old new (account_text account)
        ⊎ (RanOut (AppendsPrefix old new) account ⊎ (Failed × AppendsPrefix old new read_fault_line))
    prefixes e = let b = done.broken e in go b.0 b.1 (told-input words contents before now ask bytes input b.0 b.1 b.2) b.3
      where
        of-run : (m : Ending) (text : List ℕ) → SaysRun account m text → AppendsPrefix old new text
            → AppendsPrefix old new (account_text account) ⊎ (RanOut (AppendsPrefix old new) account ⊎ (Failed × AppendsPrefix old new read_fault_line))
        of-run m text whole_run a = inl a
        of-run m text (run_out prefix rest is) a = inr (inl (prefix, rest, is, a))

        go : (m : Ending) (text : List ℕ) → AnswerTo ask bytes m text ⊎ ((m ≡ ReadFault) × (text ≡ read_fault_line) × ReadFailed words before now)
            → AppendsPrefix old new text
            → AppendsPrefix old new (account_text account) ⊎ (RanOut (AppendsPrefix old new) account ⊎ (Failed × AppendsPrefix old new read_fault_line))
        go m text (inr f) a = inr (inr (f.2, subst (AppendsPrefix old new) f.1 a))
        go m text (inl t) a = of-run m text (told m text t) a

    -- the sink took the text
    took : TookRun account Failed end old new
    took = record {
      whole = λ e. by-whole e (written (λ t. not-broken _ _ (sym e ∙ t)));
      first_lines = λ e. ⊎_elim (λ a. absurd (not-wanting _ _ (sym a.0 ∙ e)))
          (⊎_elim (λ b. absurd (unread-wanting (sym b.0 ∙ e))) (λ c. c.1)) (written (λ t. wanting-broken (sym e ∙ t)));
      fault = λ e. ⊎_elim (λ a. absurd (not-unread _ _ (sym a.0 ∙ e)))
          (⊎_elim (λ b. b.1) (λ c. absurd (unread-wanting (sym e ∙ c.0)))) (written (λ t. unread-broken (sym e ∙ t)));
      prefix = prefixes;
      no_other = ⊎_elim (λ e. inr (inr (inl e)))
          (λ n. ⊎_elim (λ a. inl a.0) (⊎_elim (λ b. inr (inl b.0)) (λ c. inr (inr (inr c.0)))) (written n)) (broke-or end);
    }
      where
        by-whole : end ≡ ending_of account.report → Wrote → Appends old new (account_text account)
        by-whole e (inl a) = a.1
        by-whole e (inr (inl b)) = absurd (not-unread _ _ (sym e ∙ b.0))
        by-whole e (inr (inr c)) = absurd (not-wanting _ _ (sym e ∙ c.0))

  module _ (ask : Request) (bytes : List ℕ) (asks : AsksText words contents ask bytes) (read : makes ask.mode ≡ false) where
    -- by the ending, what was written of an input
    abbrev WroteOf : Type 0
    WroteOf = ((text : List ℕ) × IsDue ask bytes end text × Appends old new text) ⊎ (HasRun ask bytes ⊎ ((end ≡ ReadFault) ⊎ (end ≡ NoMemory)))

    -- what was written is what is due, or a run is asked for
    written-due : end ≢ WriteFault → WroteOf
    written-due n = let s = done.said n in go s.0 (told-input words contents before now ask bytes asks end s.0 s.1) s.2
      where
        go : (text : List ℕ) → AnswerTo ask bytes end text ⊎ ((end ≡ ReadFault) × (text ≡ read_fault_line) × ReadFailed words before now)
            → Appends old new text → WroteOf
        go text (inr f) a = inr (inr (inl f.0))
        go text (inl t) a =
            ⊎_elim (λ d. inl (text, d, a)) (λ r. inr (⊎_elim (λ h. inl h) (λ m. inr (inr m)) r)) (answer-due ask bytes read end text t)

    -- so the input is answered
    input-answered : IsAnswered ask bytes end old new
    input-answered = record {
      given = λ meant text d. ⊎_elim (λ e. inr (inr (inl e))) (λ n. ⊎_elim
          (λ w. let same = due-once ask bytes end meant w.0 text w.1 d in inl (same.0, subst (Appends old new) same.1 w.2))
          (⊎_elim (λ h. absurd (run-not-due ask bytes h meant text d)) (⊎_elim (λ f. inr (inl f)) (λ m. inr (inr (inr m))))) (written-due n)) (broke-or end);
      no_other = ⊎_elim (λ e. inr (end, [], inr (inr (inl e)))) (λ n. ⊎_elim (λ w. inr (end, w.0, inl (refl, w.1)))
          (⊎_elim (λ h. inl h) (⊎_elim (λ f. inr (end, [], inr (inl f))) (λ m. inr (end, [], inr (inr (inr m)))))) (written-due n)) (broke-or end);
    }

-- the laws of runs, of large inputs, of thread code and of images
pub record Laws : Type 0 where
  pub made : MadeTextsAreAccepted
  pub borne : RunsAreBorneOut
  pub right : RunsAreRight
  pub room : RoomIsQuiet
  pub live : LiveRoomIsQuiet
  pub checked : CodeIsChecked
  pub short : TextsByPairsAreShort
  pub in_range : ImagesAreInRange
  pub have_words : ImagesHaveWords
  pub files_short : FilesAreShort

-- what the call makes sure of, by what was answered, by what it leaves of the files and by the machine that it hands out
pub right-call : Laws → (words : List (List ℕ)) (contents : Contents) (before now : Told) (end : Ending) (old new : Option (List ℕ))
    (faults faults_new : ℕ) (left left_new : Option Hart) → Agrees before.left contents → IsDone (Answer (asked words) contents before now) end old
    new faults faults_new
    → KeepsFiles (asked words) end before now old new → HandsOver (AsksMachine (asked words) contents) end left left_new
    → IsRightCall (asked words) before now (code_of end) old new faults faults_new left left_new
right-call law words contents before now end old new faults faults_new left left_new agrees done files machine = record {
  contents = contents;
  agrees = agrees;
  end = end;
  code_is = refl;
  done = done;
  run = λ level g ask asks.
      right-run level g ask asks.graph.spelled.accepted asks.graph.one_each asks.bytes asks.input (told-of ask asks.bytes level g asks.graph);
  code_run = λ p ask asks. taken ask asks.bytes asks.input (code_run_of ask p) (told-of-code ask asks.bytes p asks.code);
  image_run = λ image ask asks. taken ask asks.bytes asks.input (image_run_of ask image) (told-of-image ask asks.bytes image asks.file);
  emitted = λ g ask asks. threads-of-graph g ask asks;
  emitted_image = λ g ask asks. image-of-graph g ask asks;
  made = right-made law.made law.borne law.right law.room law.live words contents before now end old new faults faults_new done;
  answered = input-answered (asked words) contents before now end old new faults faults_new done;
  files = files;
  machine = machine;
}
  where
    taken : (ask : Request) (bytes : List ℕ) → AsksText (asked words) contents ask bytes → (account : Account)
        → ((e : Ending) (text : List ℕ) → AnswerTo ask bytes e text → SaysRun account e text) → TookRun account (ReadFailed (asked words) before now)
        end old new
    taken ask bytes input account told = took (asked words) contents before now end old new faults faults_new done ask bytes input account told

    arguments : (g : Graph) (ask : Request) (bytes : List ℕ) → AsksText (asked words) contents ask bytes → length ask.args ≡ params_of (code_in g g.main)
        → AreArguments g ask.args
    arguments g ask bytes input one = record {
      one_each = one;
      words = λ k w e. (asked-right words input.job input.asked).args_are_words k w (subst (λ q. slice_get q.args k ≡ Some w) input.same e);
    }

    limits : (ask : Request) (bytes : List ℕ) → AsksText (asked words) contents ask bytes → AreLimits ask.limits
    limits ask bytes input = subst (λ q. AreLimits q.limits) (sym input.same) (asked-right words input.job input.asked).limits_in_range

    right-run : (level : Level) (g : Graph) (ask : Request) → IsAccepted g → length ask.args ≡ params_of (code_in g g.main) → (bytes : List ℕ)
        → AsksText (asked words) contents ask bytes → ((e : Ending) (text : List ℕ) → AnswerTo ask bytes e text → SaysRun (run_of level ask g) e text)
        → IsRightRun level g ask (ReadFailed (asked words) before now) end old new
    right-run level g ask accepted one bytes input told =
        let b = law.borne level g ask.args ask.order ask.limits accepted (arguments g ask bytes input one) (limits ask bytes input) in
        record {
          right = law.right g b.0 ask.args ask.limits (run_of level ask g).report b.1;
          complete = law.room g b.0 ask.args ask.limits (run_of level ask g).report b.1;
          complete_live = law.live level g ask.args ask.order ask.limits
              (record { accepted = accepted; arguments = arguments g ask bytes input one; ranges = limits ask bytes input });
          took = taken ask bytes input (run_of level ask g) told;
        }

    run-of-graph : (level : Level) (g : Graph) (ask : Request) → IsAccepted g → (text : List ℕ) → AsksText (asked words) contents ask text
        → makes ask.mode ≡ false
        → (length ask.args ≡ params_of (code_in g g.main) → (e : Ending) (t : List ℕ) → AnswerTo ask text e t → SaysRun (run_of level ask g) e t)
        → (length ask.args ≢ params_of (code_in g g.main) → IsDue ask text Usage (usage_line ArgsCount))
        → IsRunOfGraph level g ask (ReadFailed (asked words) before now) end old new
    run-of-graph level g ask accepted text input none told due = record {
      run = λ one. right-run level g ask accepted one text input (told one);
      wrong_count = λ differ.
          (input-answered (asked words) contents before now end old new faults faults_new done ask text input none).given Usage (usage_line ArgsCount)
          (due differ);
    }

    threads-of-graph : (g : Graph) (ask : Request) → AsksEmitted mode.EmitTl0 mode.ExecTl0 (asked words) contents g ask
        → IsRunOfGraph level.Tl0 g ask (ReadFailed (asked words) before now) end old new
    threads-of-graph g ask asks =
        let text = program_text (compiled g) in
        let mode-is = emitted-mode mode.EmitTl0 mode.ExecTl0 (asked words) contents g ask asks in
        run-of-graph level.Tl0 g ask asks.accepted text
        (emitted-input mode.EmitTl0 mode.ExecTl0 (asked words) contents g ask asks text refl (code-short law.short g asks.accepted))
        (emitted-makes mode.EmitTl0 mode.ExecTl0 (asked words) contents g ask asks refl)
        (λ one. told-of-code ask text (compiled g) (emitted-code law.checked g asks.accepted ask mode-is one))
        (emitted-code-count law.checked g asks.accepted ask mode-is)

    image-of-graph : (g : Graph) (ask : Request) → AsksEmitted mode.EmitImage mode.ExecRv32 (asked words) contents g ask
        → IsRunOfGraph level.Rv32 g ask (ReadFailed (asked words) before now) end old new
    image-of-graph g ask asks =
        let file = image_bytes (image_of (compiled g)) in
        let mode-is = emitted-mode mode.EmitImage mode.ExecRv32 (asked words) contents g ask asks in
        run-of-graph level.Rv32 g ask asks.accepted file
        (emitted-input mode.EmitImage mode.ExecRv32 (asked words) contents g ask asks file refl (file-short law.files_short g asks.accepted))
        (emitted-makes mode.EmitImage mode.ExecRv32 (asked words) contents g ask asks refl)
        (λ one. told-of-image ask file (image_of (compiled g)) (emitted-image law.in_range law.have_words g asks.accepted ask mode-is one))
        (emitted-image-count law.in_range law.have_words g asks.accepted ask mode-is)
