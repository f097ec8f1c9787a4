-- What was written of the text of a run.
use Rattle.std.proofs.Common.{◌≡◌, ◌≢◌, ◌⊎◌, inl, inr, ℕ, List, [], ◌∷◌, ◌++◌, refl, sym, ◌∙◌, ap, subst, append_assoc}
use Rattle.std.specs.Prelude.{Option, None, Some, Err}
use Rattle.std.specs.List.{flat_map}
use Rattle.std.specs.Io.KnownBytes.{Appends}
use Rattle.std.proofs.KnownBytes.{Appends-trans}
use Rattle.std.proofs.lemmas.List.{append-nil}
use Rattle.std.proofs.lemmas.Grind.{flat_map-append}
use Rattle.tam_edge.specs.Whole.{AppendsPrefix}
use Rattle.tam_msgs.specs.declared.stop.Stop.{Stop}
use Rattle.tam_msgs.specs.declared.stop.Stop.TheVariants.{DoubleWrite, OutOfRange, FramesFull, CellsFull, BudgetSpent, NoMemory}
use Rattle.tam_msgs.specs.Runs.{End, Report, result_line, joined, last_lines}
use Rattle.tam_run.specs.declared.broken.Broken.{Broken}
use Rattle.tam_run.specs.declared.broken.Broken.TheVariants as broken
use Rattle.tam_run.specs.declared.outcome.Outcome.{Outcome as RunOutcome}
use Rattle.tam_run.specs.declared.outcome.Outcome.TheVariants as outcome
use Rattle.tam_run.specs.declared.exec.Exec.{Exec}
use Rattle.tam_run.specs.declared.exec.Exec.TheVariants as exec
use Rattle.tam_run.specs.Accounts.{Account, account_text, text_with, instructions_of, instructions_line, closing_lines}
use Rattle.tam_run.specs.Ends.{end_of_stop}
use Rattle.tam_run.specs.Writing.{Puts, outcome_of, Finishes, FinishesStopped, FinishesSo, Writes, WritesStopped, Executes}
use Rattle.tam_run.proofs.Prefixes.{prefix-more, nothing-taken}

-- the text is the lines of the results and the lines behind them
text-parts : (r : Report) (instructions : Option ℕ) → text_with r instructions ≡ flat_map result_line r.printed ++ joined (closing_lines r instructions)
text-parts r None = ap (λ ls. flat_map result_line r.printed ++ joined ls) (sym (append-nil (last_lines r)))
text-parts r (Some n) =
    append_assoc (flat_map result_line r.printed) (joined (last_lines r)) (instructions_line n)
    ∙ ap (λ l. flat_map result_line r.printed ++ l) (ap (λ l. joined (last_lines r) ++ l) (sym (append-nil (instructions_line n)))
    ∙ sym (flat_map-append (λ (l : List ℕ). l) (last_lines r) (instructions_line n ∷ [])))

-- the lines of what is told behind those of the results
abbrev closing : Account → List (List ℕ)
closing a = closing_lines a.report (instructions_of a.machine)

-- the lines of printed results are a prefix of the text
text-prefix : (a : Account) (prefix rest : List (ℕ × ℕ)) → a.report.printed ≡ prefix ++ rest
    → account_text a ≡ flat_map result_line prefix ++ (flat_map result_line rest ++ joined (closing a))
text-prefix a prefix rest e =
    text-parts a.report (instructions_of a.machine)
    ∙ ap (λ l. flat_map result_line l ++ joined (closing a)) e ∙ ap (λ l. l ++ joined (closing a)) (flat_map-append result_line prefix rest)
    ∙ append_assoc (flat_map result_line prefix) (flat_map result_line rest) (joined (closing a))

-- a result more
pub line-more : (prefix : List (ℕ × ℕ)) (pair : ℕ × ℕ) → flat_map result_line (prefix ++ pair ∷ []) ≡ flat_map result_line prefix ++ result_line pair
line-more prefix pair = flat_map-append result_line prefix (pair ∷ []) ∙ ap (λ l. flat_map result_line prefix ++ l) (append-nil (result_line pair))

-- a prefix of a result's line behind the lines before it is a prefix of the text
line-broken : (a : Account) (prefix rest : List (ℕ × ℕ)) (pair : ℕ × ℕ) (old mid new : Option (List ℕ)) → a.report.printed ≡ (prefix ++ pair ∷ []) ++ rest
    → Appends old mid (flat_map result_line prefix) → AppendsPrefix mid new (result_line pair) → AppendsPrefix old new (account_text a)
line-broken a prefix rest pair old mid new e before after =
    prefix-more old mid new (flat_map result_line prefix) (result_line pair) (flat_map result_line rest ++ joined (closing a)) (account_text a) before after
    (text-prefix a (prefix ++ pair ∷ []) rest e ∙ ap (λ l. l ++ (flat_map result_line rest ++ joined (closing a))) (line-more prefix pair)
    ∙ append_assoc (flat_map result_line prefix) (result_line pair) (flat_map result_line rest ++ joined (closing a)))

module _ (a : Account) (old mid new : Option (List ℕ)) (before : Appends old mid (flat_map result_line a.report.printed)) where
  -- the last lines behind those of the results are the text
  text-whole : Appends mid new (joined (closing a)) → Appends old new (account_text a)
  text-whole after = subst (Appends old new) (sym (text-parts a.report (instructions_of a.machine))) (Appends-trans old mid new _ _ before after)

  -- so of a run by its outcome
  pub finish-writes : (result : RunOutcome) → Finishes a.report (instructions_of a.machine) mid new result → Writes a old new result
  finish-writes (outcome.Quiet m) after = (text-whole after.0, after.1, after.2)
  finish-writes (outcome.Stopped stop) after = stopped stop after
    where
      whole : (stop : Stop) → Appends mid new (joined (closing a)) × (Some a.report.how ≡ end_of_stop stop)
          → Appends old new (account_text a) × (Some a.report.how ≡ end_of_stop stop)
      whole stop h = (text-whole h.0, h.1)

      stopped : (stop : Stop) → FinishesStopped a.report (instructions_of a.machine) mid new stop → WritesStopped a old new stop
      stopped (DoubleWrite s t) h = whole (DoubleWrite s t) h
      stopped (OutOfRange s i l) h = whole (OutOfRange s i l) h
      stopped (FramesFull n) h = whole (FramesFull n) h
      stopped (CellsFull u l) h = whole (CellsFull u l) h
      stopped (BudgetSpent n) h = whole (BudgetSpent n) h
      stopped NoMemory h =
          (a.report.printed, [], sym (append-nil a.report.printed), subst (λ o. Appends old o (flat_map result_line a.report.printed)) (sym h) before)
  finish-writes outcome.WriteFault after =
      prefix-more old mid new (flat_map result_line a.report.printed) (joined (closing a)) [] (account_text a) before after
      (text-parts a.report (instructions_of a.machine)
      ∙ ap (λ l. flat_map result_line a.report.printed ++ l) (sym (append-nil (joined (closing a)))))

  -- and of a run that may be wild or trap
  pub finish-executes : (result : Exec) → FinishesSo a.report (instructions_of a.machine) mid new result → Executes a old new result
  finish-executes (exec.Run ended) after = finish-writes ended after
  finish-executes exec.Wild after = (text-whole after.0, after.1)
  finish-executes exec.Trap after = (text-whole after.0, after.1)

-- a result's line that broke off leaves the lines before it, or a prefix of the text
pub broken-writes : (a : Account) (prefix rest : List (ℕ × ℕ)) (pair : ℕ × ℕ) (old mid new : Option (List ℕ)) (b : Broken)
    → a.report.printed ≡ (prefix ++ pair ∷ []) ++ rest → Appends old mid (flat_map result_line prefix) → Puts {T = Unit {0}} mid new (result_line pair) (Err b)
    → Writes a old new (outcome_of b)
broken-writes a prefix rest pair old mid new broken.NoMemory is before after =
    (prefix, pair ∷ rest, is ∙ append_assoc prefix (pair ∷ []) rest, subst (λ o. Appends old o (flat_map result_line prefix)) (sym after) before)
broken-writes a prefix rest pair old mid new broken.WriteFault is before after = line-broken a prefix rest pair old mid new is before after

-- a stop is want of memory or isn't
pub is-no_memory : (stop : Stop) → (stop ≡ NoMemory) ⊎ (stop ≢ NoMemory)
is-no_memory NoMemory = inl refl
is-no_memory (DoubleWrite s t) = inr (λ e. cc)
is-no_memory (OutOfRange s i l) = inr (λ e. cc)
is-no_memory (FramesFull n) = inr (λ e. cc)
is-no_memory (CellsFull u l) = inr (λ e. cc)
is-no_memory (BudgetSpent n) = inr (λ e. cc)

-- a stop but want of memory is an end
pub stop-ends : (stop : Stop) → stop ≢ NoMemory → (how : End) × (end_of_stop stop ≡ Some how)
stop-ends (DoubleWrite s t) n = (_, refl)
stop-ends (OutOfRange s i l) n = (_, refl)
stop-ends (FramesFull m) n = (_, refl)
stop-ends (CellsFull u l) n = (_, refl)
stop-ends (BudgetSpent m) n = (_, refl)
stop-ends NoMemory n = absurd (n refl)

-- where nothing was written for want of memory
pub none-written : (a : Account) (old : Option (List ℕ)) (stop : Stop) → stop ≡ NoMemory → WritesStopped a old old stop
none-written a old stop e = subst (WritesStopped a old old) (sym e) ([], a.report.printed, refl, nothing-taken old)
