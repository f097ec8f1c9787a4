-- What was done once a graph was run.
use Rattle.std.proofs.Common.{◌≡◌, ◌≢◌, ℕ, zero, suc, true, false, List, [], ◌∷◌, ◌++◌, length, refl, sym, ap, subst, ◌∙◌, arith, true≢false, ⊎_elim}
use Rattle.std.specs.Prelude.{Option, Some, IfSome}
use Rattle.std.specs.List.{flat_map}
use Rattle.std.specs.Io.KnownBytes.{Appends}
use Rattle.tam_edge.specs.Faults.{CountsFault}
use Rattle.tam_edge.specs.Whole.{AppendsPrefix}
use Rattle.tam_graph.specs.Graphs.{Graph, code_of, params_of}
use Rattle.tam_msgs.specs.declared.stop.Stop.{Stop}
use Rattle.tam_msgs.specs.declared.stop.Stop.TheVariants.{DoubleWrite, OutOfRange, FramesFull, CellsFull, BudgetSpent, NoMemory}
use Rattle.tam_msgs.specs.Runs.{End, Quiet, Double_write, Out_of_range, Frames_full, Cells_full, Budget_spent, Wild, Trap}
use Rattle.tam_msgs.specs.Runs.{result_line, missing_of}
use Rattle.tam_run.specs.Accounts.{Account, account_text}
use Rattle.tam_run.specs.Ends.{end_of_stop}
use Rattle.tam_run.specs.HandedOut.{is_whole_stop}
use Rattle.tam_run.specs.Writing.{WritesStopped, AppendsFirstLines, IsWild, IsTrap}
use Rattle.tam_input.specs.declared.ending.Ending.{Ending}
use Rattle.tam_input.specs.declared.ending.Ending.TheVariants.{Done, ResultsMissing, ReadFault, WriteFault, Broken}
use Rattle.tam_input.specs.declared.ending.Ending.TheVariants as wants
use Rattle.tam_input.specs.Refusing.{no_memory_line}
use Rattle.tam.specs.SaidRuns.{ending_by, ending_of, SaysRun, whole_run, run_out}
use Rattle.tam.specs.Machines.{has_answered}
use Rattle.tam.specs.Headline.{IsSaid, IsDone}
use Rattle.tam.specs.Stopping.{AnswersStop}
use Rattle.tam.proofs.Endings.{broke-or}
use Rattle.tam.proofs.Saying.{said-done, behind-done}

-- each end of a run answers
pub answered-run : (how : End) (ks : List ℕ) → has_answered (ending_by how ks) ≡ true
answered-run Quiet [] = refl
answered-run Quiet (k ∷ ks) = refl
answered-run (Double_write s t) ks = refl
answered-run (Out_of_range s i l) ks = refl
answered-run (Frames_full n) ks = refl
answered-run (Cells_full u l) ks = refl
answered-run (Budget_spent n) ks = refl
answered-run (Wild what n) ks = refl
answered-run (Trap pc cause) ks = refl

-- so none is an ending that doesn't
pub not-unanswered : (how : End) (ks : List ℕ) (end : Ending) → has_answered end ≡ false → ending_by how ks ≢ end
not-unanswered how ks end none e = true≢false (sym (answered-run how ks) ∙ ap has_answered e ∙ none)

-- as a write fault
pub not-broken : (how : End) (ks : List ℕ) → ending_by how ks ≢ WriteFault
not-broken how ks e = not-unanswered how ks WriteFault refl e

-- a read fault
pub not-unread : (how : End) (ks : List ℕ) → ending_by how ks ≢ ReadFault
not-unread how ks e = not-unanswered how ks ReadFault refl e

-- and want of memory
pub not-wanting : (how : End) (ks : List ℕ) → ending_by how ks ≢ wants.NoMemory
not-wanting how ks e = not-unanswered how ks wants.NoMemory refl e

-- how the program ends behind a quiet run
pub quiet-ending : (how : End) (ks : List ℕ) (missing : ℕ) (end : Ending) → how ≡ Quiet → missing ≡ length ks → (missing ≡ 0 → end ≡ Done)
    → (missing ≢ 0 → end ≡ ResultsMissing) → end ≡ ending_by how ks
quiet-ending how ks missing end q m none some = go ks m ∙ ap (λ h. ending_by h ks) (sym q)
  where
    go : (ls : List ℕ) → missing ≡ length ls → end ≡ ending_by Quiet ls
    go [] e = none e
    go (k ∷ ls) e = some (λ z. absurd (omega (arith, e, z)))

-- one end is told
some-is : (a b : End) → ◌≡◌ {A = Option End} (Some a) (Some b) → a ≡ b
some-is a b e = cc

-- how it ends behind a run that stopped
pub stop-ending : (how : End) (ks : List ℕ) (stop : Stop) (code : Ending) → Some how ≡ end_of_stop stop → IfSome (end_of_stop stop) (λ h. code ≡ ending_by h [])
    → code ≡ ending_by how ks
stop-ending how ks (DoubleWrite s t) code e c = c ∙ ap (λ h. ending_by h ks) (sym (some-is how (Double_write s t) e))
stop-ending how ks (OutOfRange s i l) code e c = c ∙ ap (λ h. ending_by h ks) (sym (some-is how (Out_of_range s i l) e))
stop-ending how ks (FramesFull n) code e c = c ∙ ap (λ h. ending_by h ks) (sym (some-is how (Frames_full n) e))
stop-ending how ks (CellsFull u l) code e c = c ∙ ap (λ h. ending_by h ks) (sym (some-is how (Cells_full u l) e))
stop-ending how ks (BudgetSpent n) code e c = c ∙ ap (λ h. ending_by h ks) (sym (some-is how (Budget_spent n) e))
stop-ending how ks NoMemory code e c = absurd (cc)

-- a quiet run answers
pub quiet-answered : (missing : ℕ) (end : Ending) → (missing ≡ 0 → end ≡ Done) → (missing ≢ 0 → end ≡ ResultsMissing) → has_answered end ≡ true
quiet-answered zero end none some = ap has_answered (none refl)
quiet-answered (suc n) end none some = ap has_answered (some (λ z. absurd (omega (arith, z))))

-- what was said answers as it was meant, but for a write fault
pub said-unanswered : (meant end : Ending) (text : List ℕ) (old new : Option (List ℕ)) (faults faults_new : ℕ) → IsSaid meant text end old new faults faults_new
    → has_answered meant ≡ false → has_answered end ≡ false
said-unanswered meant end text old new faults faults_new s none = ⊎_elim (λ e. ap has_answered e) (λ n. ap has_answered (s.said n).0 ∙ none) (broke-or end)

-- what stopped answers where memory wasn't wanted
pub stop-answered : (stop : Stop) (end : Ending) (old new : Option (List ℕ)) (faults faults_new : ℕ) → AnswersStop stop end old new faults faults_new
    → has_answered end ≡ is_whole_stop stop
stop-answered NoMemory end old new faults faults_new s = said-unanswered wants.NoMemory end no_memory_line old new faults faults_new s refl
stop-answered (DoubleWrite x y) end old new faults faults_new (code, kept, count) = ap has_answered code
stop-answered (OutOfRange x i l) end old new faults faults_new (code, kept, count) = ap has_answered code
stop-answered (FramesFull n) end old new faults faults_new (code, kept, count) = ap has_answered code
stop-answered (CellsFull u l) end old new faults faults_new (code, kept, count) = ap has_answered code
stop-answered (BudgetSpent n) end old new faults faults_new (code, kept, count) = ap has_answered code

-- one word for each param of `main`
pub one-each : (g : Graph) (args same : List ℕ) (main params : ℕ) → same ≡ args → main ≡ g.main → params ≡ params_of (code_of g main)
    → length same ≡ params → length args ≡ params_of (code_of g g.main)
one-each g args same main params e m p l = ap length (sym e) ∙ l ∙ p ∙ ap (λ n. params_of (code_of g n)) m

module _ (a : Account) (old new : Option (List ℕ)) (faults faults_new : ℕ) where
  -- a run was written whole
  pub whole-done : (end : Ending) → end ≡ ending_of a.report → Appends old new (account_text a) → faults_new ≡ faults
      → IsDone (SaysRun a) end old new faults faults_new
  whole-done end e taken same = record {
    said = λ n. (account_text a, subst (λ c. SaysRun a c (account_text a)) (sym e) whole_run, taken);
    none = λ n. same;
    broken = λ t. absurd (not-broken a.report.how (missing_of a.report.how a.report.results a.report.printed) (sym e ∙ t));
    fault = λ t. absurd (not-broken a.report.how (missing_of a.report.how a.report.results a.report.printed) (sym e ∙ t));
  }

  -- a write of a run failed
  pub broken-done : AppendsPrefix old new (account_text a) → CountsFault faults faults_new → IsDone (SaysRun a) WriteFault old new faults faults_new
  broken-done taken counted = record {
    said = λ n. absurd (n refl);
    none = λ n. absurd (n refl);
    broken = λ e. (ending_of a.report, account_text a, whole_run, taken);
    fault = λ e. counted;
  }

  -- a run was wild
  pub wild-done : Appends old new (account_text a) → IsWild a.report.how → faults_new ≡ faults → IsDone (SaysRun a) Broken old new faults faults_new
  wild-done taken (what, n, is) counted = whole-done Broken (ap (λ h. ending_by h (missing_of a.report.how a.report.results a.report.printed))
      (sym is)) taken counted

  -- or it trapped
  pub trap-done : Appends old new (account_text a) → IsTrap a.report.how → faults_new ≡ faults → IsDone (SaysRun a) Broken old new faults faults_new
  trap-done taken (pc, cause, is) counted =
      whole-done Broken (ap (λ h. ending_by h (missing_of a.report.how a.report.results a.report.printed)) (sym is)) taken counted

  -- memory was wanted in a run, which was said
  pub out-done : (mid : Option (List ℕ)) (faults_mid : ℕ) (end : Ending) → AppendsFirstLines old mid a.report.printed → faults_mid ≡ faults
      → IsSaid wants.NoMemory no_memory_line end mid new faults_mid faults_new → IsDone (SaysRun a) end old new faults faults_new
  out-done mid faults_mid end (prefix, rest, is, taken) same s =
      let Says : Ending → List ℕ → Type 0 = λ meant text. (meant ≡ wants.NoMemory) × (text ≡ no_memory_line) in
      behind-done old mid new faults faults_mid faults_new (flat_map result_line prefix) taken same Says (SaysRun a) end
      (λ meant text is-so. subst (λ t. SaysRun a meant (flat_map result_line prefix ++ t)) (sym is-so.1)
      (subst (λ m. SaysRun a m (flat_map result_line prefix ++ no_memory_line)) (sym is-so.0) (run_out prefix rest is)))
      (said-done mid new faults_mid faults_new Says wants.NoMemory end no_memory_line (refl, refl) s)

  -- an end was answered
  ended : (stop : Stop) (mid : Option (List ℕ)) (faults_mid : ℕ) (end : Ending) → Appends old mid (account_text a) × (Some a.report.how ≡ end_of_stop stop)
      → faults_mid ≡ faults → IfSome (end_of_stop stop) (λ how. end ≡ ending_by how []) × (new ≡ mid) × (faults_new ≡ faults_mid)
      → IsDone (SaysRun a) end old new faults faults_new
  ended stop mid faults_mid end (taken, how-is) same (code, kept, count) =
      whole-done end (stop-ending a.report.how (missing_of a.report.how a.report.results a.report.printed) stop end how-is code)
      (subst (λ n. Appends old n (account_text a)) (sym kept) taken) (count ∙ same)

  -- a run stopped, and its end was answered
  pub stopped-done : (stop : Stop) (mid : Option (List ℕ)) (faults_mid : ℕ) (end : Ending) → WritesStopped a old mid stop → faults_mid ≡ faults
      → AnswersStop stop end mid new faults_mid faults_new → IsDone (SaysRun a) end old new faults faults_new
  stopped-done NoMemory mid faults_mid end w same s = out-done mid faults_mid end w same s
  stopped-done (DoubleWrite x y) mid faults_mid end w same s = ended (DoubleWrite x y) mid faults_mid end w same s
  stopped-done (OutOfRange x i l) mid faults_mid end w same s = ended (OutOfRange x i l) mid faults_mid end w same s
  stopped-done (FramesFull n) mid faults_mid end w same s = ended (FramesFull n) mid faults_mid end w same s
  stopped-done (CellsFull u l) mid faults_mid end w same s = ended (CellsFull u l) mid faults_mid end w same s
  stopped-done (BudgetSpent n) mid faults_mid end w same s = ended (BudgetSpent n) mid faults_mid end w same s
