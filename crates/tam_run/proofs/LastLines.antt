-- What was written of the lines behind the results.
use Rattle.std.proofs.Common.{◌≡◌, ◌≢◌, ℕ, List, [], ◌∷◌, ◌++◌, refl, sym, ◌∙◌, ap, subst, true≢false, Vec}
use Rattle.std.specs.Prelude.{Option, Some, Result, Ok, Err, IsOk, IfOk, IfSome, MatchResult}
use Rattle.std.specs.declared.alloc.Global.{Global}
use Rattle.std.specs.Io.KnownBytes.{Appends}
use Rattle.tam_edge.specs.Whole.{AppendsPrefix}
use Rattle.tam_msgs.specs.declared.stop.Stop.{Stop}
use Rattle.tam_msgs.specs.declared.stop.Stop.TheVariants.{DoubleWrite, OutOfRange, FramesFull, CellsFull, BudgetSpent, NoMemory}
use Rattle.tam_msgs.specs.Runs.{End, Double_write, Out_of_range, Frames_full, Cells_full, Budget_spent, Report}
use Rattle.tam_msgs.specs.Runs.{line, end_text, joined}
use Rattle.tam_run.specs.declared.broken.Broken.{Broken}
use Rattle.tam_run.specs.declared.broken.Broken.TheVariants as broken
use Rattle.tam_run.specs.declared.tally.Tally.{Tally}
use Rattle.tam_run.specs.Accounts.{told_of, closing_lines}
use Rattle.tam_run.specs.Ends.{end_of_stop}
use Rattle.tam_run.specs.LineLists.{texts_of, bytes_of}
use Rattle.tam_run.specs.Tallies.{tally_lines}
use Rattle.tam_run.specs.Writing.{Puts, CountsPuts, CountsRun, outcome_of, Finishes, FinishesStopped}

-- lines one behind another are their bytes
bytes-joined : (lines : List (Vec ℕ Global)) → bytes_of lines ≡ joined (texts_of lines)
bytes-joined [] = refl
bytes-joined (l ∷ ls) = ap (λ b. l.items ++ b) (bytes-joined ls)

module _ {E : Type 0} (made : Result (Vec (Vec ℕ Global) Global) E) (lines : List (List ℕ)) (old new : Option (List ℕ)) where
  -- the lines were written
  pub lines-written : IfOk made (λ ls. texts_of ls.items ≡ lines)
      → MatchResult made (λ ls. Puts {T = Unit {0}} old new (bytes_of ls.items) (Ok tt))
      (λ _. (◌≡◌ {A = Result (Unit {0}) Broken} (Ok tt) (Err broken.NoMemory)) × (new ≡ old))
      → Appends old new (joined lines)
  lines-written = go made
    where
      go : (m : Result (Vec (Vec ℕ Global) Global) E) → IfOk m (λ ls. texts_of ls.items ≡ lines)
          → MatchResult m (λ ls. Puts {T = Unit {0}} old new (bytes_of ls.items) (Ok tt))
          (λ _. (◌≡◌ {A = Result (Unit {0}) Broken} (Ok tt) (Err broken.NoMemory)) × (new ≡ old))
          → Appends old new (joined lines)
      go (Ok ls) h t = subst (Appends old new) (bytes-joined ls.items ∙ ap joined h) t
      go (Err e) h t = let z = t.0 in absurd (cc)

  -- or their writing broke off
  pub lines-broken : (b : Broken) → IfOk made (λ ls. texts_of ls.items ≡ lines)
      → MatchResult made (λ ls. Puts {T = Unit {0}} old new (bytes_of ls.items) (Err b))
      (λ _. (◌≡◌ {A = Result (Unit {0}) Broken} (Err b) (Err broken.NoMemory)) × (new ≡ old))
      → Puts {T = Unit {0}} old new (joined lines) (Err b)
  lines-broken b = go b made
    where
      go : (b : Broken) (m : Result (Vec (Vec ℕ Global) Global) E) → IfOk m (λ ls. texts_of ls.items ≡ lines)
          → MatchResult m (λ ls. Puts {T = Unit {0}} old new (bytes_of ls.items) (Err b))
          (λ _. (◌≡◌ {A = Result (Unit {0}) Broken} (Err b) (Err broken.NoMemory)) × (new ≡ old))
          → Puts {T = Unit {0}} old new (joined lines) (Err b)
      go broken.NoMemory (Ok ls) h t = t
      go broken.NoMemory (Err e) h t = t.1
      go broken.WriteFault (Ok ls) h t = subst (AppendsPrefix old new) (bytes-joined ls.items ∙ ap joined h) t
      go broken.WriteFault (Err e) h t = let z = t.0 in absurd (cc)

-- what broke the last lines off ends the run so
pub finish-broken : (r : Report) (instructions : Option ℕ) (old new : Option (List ℕ)) (b : Broken)
    → Puts {T = Unit {0}} old new (joined (closing_lines r instructions)) (Err b) → Finishes r instructions old new (outcome_of b)
finish-broken r instructions old new broken.NoMemory t = t
finish-broken r instructions old new broken.WriteFault t = t

-- the last lines of a run that ended so, which isn't quiet: no result is said to be missing
abbrev pub EndLines : End → Type 0
EndLines how = (results : ℕ) (printed : List (ℕ × ℕ)) (tally : Tally)
    → closing_lines (told_of printed how results tally.counts) tally.instructions ≡ line (end_text how) ∷ tally_lines tally

-- so it is of a run that stopped
pub stop-lines : (stop : Stop) (how : End) → end_of_stop stop ≡ Some how → EndLines how
stop-lines stop how e = go stop how e
  where
    is : (h k : End) → Some h ≡ Some k → h ≡ k
    is h k e = cc

    go : (stop : Stop) (h : End) → end_of_stop stop ≡ Some h → EndLines h
    go (DoubleWrite s t) h e = subst EndLines (is (Double_write s t) h e) (λ results printed tally. refl)
    go (OutOfRange s i l) h e = subst EndLines (is (Out_of_range s i l) h e) (λ results printed tally. refl)
    go (FramesFull n) h e = subst EndLines (is (Frames_full n) h e) (λ results printed tally. refl)
    go (CellsFull u l) h e = subst EndLines (is (Cells_full u l) h e) (λ results printed tally. refl)
    go (BudgetSpent n) h e = subst EndLines (is (Budget_spent n) h e) (λ results printed tally. refl)
    go NoMemory h e = absurd (cc)

-- lines that were made behind the line of an end
pub lines-behind : {E F : Type 0} (made : Result (Vec (Vec ℕ Global) Global) E) (end : Result (Vec ℕ Global) F) (first : List ℕ) (rest : List (List ℕ))
    → IfOk end (λ l. l.items ≡ first) → (IsOk made → IsOk end) → IfOk made (λ ls. IfOk end (λ l. texts_of ls.items ≡ l.items ∷ rest))
    → IfOk made (λ ls. texts_of ls.items ≡ first ∷ rest)
lines-behind (Err x) end first rest h k t = tt
lines-behind (Ok ls) (Ok l) first rest h k t = t ∙ ap (λ (x : List ℕ). x ∷ rest) h
lines-behind (Ok ls) (Err x) first rest h k t = absurd (true≢false (sym (k refl)))

-- the writing of such lines: they are those of a run that ended so
module _ {E F : Type 0} (made : Result (Vec (Vec ℕ Global) Global) E) (end : Result (Vec ℕ Global) F) (how : End) (tally : Tally) (lines : EndLines how)
    (is : IfOk end (λ l. l.items ≡ line (end_text how))) (both : IsOk made → IsOk end)
    (behind : IfOk made (λ ls. IfOk end (λ l. texts_of ls.items ≡ l.items ∷ tally_lines tally))) (results : ℕ) (printed : List (ℕ × ℕ))
    (old new : Option (List ℕ)) where
  -- the lines that are to be written
  abbrev all-lines : List (List ℕ)
  all-lines = closing_lines (told_of printed how results tally.counts) tally.instructions

  -- they were made
  lines-made : IfOk made (λ ls. texts_of ls.items ≡ all-lines)
  lines-made = subst (λ (l : List (List ℕ)). IfOk made (λ ls. texts_of ls.items ≡ l)) (sym (lines results printed tally))
      (lines-behind made end (line (end_text how)) (tally_lines tally) is both behind)

  -- they were written
  pub end-written : MatchResult made (λ ls. Puts {T = Unit {0}} old new (bytes_of ls.items) (Ok tt))
      (λ _. (◌≡◌ {A = Result (Unit {0}) Broken} (Ok tt) (Err broken.NoMemory)) × (new ≡ old))
      → Appends old new (joined all-lines)
  end-written t = lines-written made all-lines old new lines-made t

  -- or their writing broke off
  pub end-broken : (b : Broken) → MatchResult made (λ ls. Puts {T = Unit {0}} old new (bytes_of ls.items) (Err b))
      (λ _. (◌≡◌ {A = Result (Unit {0}) Broken} (Err b) (Err broken.NoMemory)) × (new ≡ old))
      → Finishes (told_of printed how results tally.counts) tally.instructions old new (outcome_of b)
  end-broken b t = finish-broken (told_of printed how results tally.counts) tally.instructions old new b (lines-broken made all-lines old new b lines-made t)

-- the lines of a stop that has an end
pub lines-of_stop : {E : Type 0} (made : Result (Vec (Vec ℕ Global) Global) E) (stop : Stop) (how : End) (rest : List (List ℕ)) → end_of_stop stop ≡ Some how
    → IfOk made (λ ls. IfSome (end_of_stop stop) (λ h. texts_of ls.items ≡ line (end_text h) ∷ rest))
    → IfOk made (λ ls. texts_of ls.items ≡ line (end_text how) ∷ rest)
lines-of_stop (Ok ls) stop how rest e h = subst (λ o. IfSome o (λ h. texts_of ls.items ≡ line (end_text h) ∷ rest)) e h
lines-of_stop (Err x) stop how rest e h = tt

-- a stop but want of memory, whose lines were written
pub stop-finished : (r : Report) (instructions : Option ℕ) (old new : Option (List ℕ)) (stop : Stop) → stop ≢ NoMemory
    → Appends old new (joined (closing_lines r instructions)) → end_of_stop stop ≡ Some r.how → FinishesStopped r instructions old new stop
stop-finished r instructions old new (DoubleWrite s t) n a e = (a, sym e)
stop-finished r instructions old new (OutOfRange s i l) n a e = (a, sym e)
stop-finished r instructions old new (FramesFull n) m a e = (a, sym e)
stop-finished r instructions old new (CellsFull u l) n a e = (a, sym e)
stop-finished r instructions old new (BudgetSpent n) m a e = (a, sym e)
stop-finished r instructions old new NoMemory n a e = absurd (n refl)

-- what broke off leaves the count so
pub count-broken : (before now : ℕ) (b : Broken) → CountsPuts {T = Unit {0}} before now (Err b) → CountsRun before now (outcome_of b)
count-broken before now broken.NoMemory h = h
count-broken before now broken.WriteFault h = h
