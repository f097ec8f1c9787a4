-- What was done once a large input was run: level by level, as lines.
use Rattle.std.proofs.Common.{◌≡◌, ◌≢◌, ◌⊎◌, inl, inr, ℕ, ◌==◌, ◌+◌, ◌<◌, Bool, true, false, List, [], ◌∷◌, ◌++◌, map, take, drop, length, get_or}
use Rattle.std.proofs.Common.{refl, sym, ap, ap₂, ◌∙◌, subst, append_assoc, true≢false}
use Rattle.std.specs.Prelude.{Option, Some, None, flat_map}
use Rattle.std.specs.Io.KnownBytes.{Appends}
use Rattle.std.proofs.lemmas.List.{append-nil, take-append-drop, take_more}
use Rattle.std.proofs.lemmas.List.Folds.{flat_map-map}
use Rattle.std.proofs.lemmas.Grind.{flat_map-append}
use Rattle.tam_edge.specs.Faults.{CountsFault}
use Rattle.tam_edge.specs.Whole.{AppendsPrefix}
use Rattle.tam_msgs.specs.Runs.{Report, joined, result_line, last_lines, missing_of}
use Rattle.tam_run.specs.Accounts.{Account, account_text, closing_lines, instructions_of, instructions_line, instruction_lines, text_with}
use Rattle.tam_run.specs.declared.level.Level.{Level}
use Rattle.tam_input.specs.declared.ending.Ending.{Ending}
use Rattle.tam_input.specs.declared.ending.Ending.TheVariants.{Done, NoMemory, WriteFault}
use Rattle.tam_input.specs.Endings.{code_of}
use Rattle.tam_input.specs.Refusing.{no_memory_line}
use Rattle.tam.specs.SaidRuns.{ending_of, SaysRun, whole_run, run_out}
use Rattle.tam.specs.MadeRuns.{level_line, run_lines, level_lines, first_ending, levels_ending, SaysLines, all_lines, first_lines}
use Rattle.tam.specs.Machines.{has_answered}
use Rattle.tam.specs.Headline.{IsDone}
use Rattle.tam.proofs.Saying.{behind-done}
use Rattle.tam.proofs.Running.{answered-run, not-wanting}

-- ---- endings

-- runs at some levels that came to their ends answer
pub levels-answered : (run : Level → Account) (ls : List Level) → has_answered (levels_ending run ls) ≡ true
levels-answered run [] = refl
levels-answered run (l ∷ ls) = go (code_of (ending_of (run l).report) == 0) (levels-answered run ls)
  where
    go : (t : Bool) → has_answered (levels_ending run ls) ≡ true
        → has_answered (elim t [ true ↦ levels_ending run ls | false ↦ ending_of (run l).report ]) ≡ true
    go true more = more
    go false more = answered-run (run l).report.how (missing_of (run l).report.how (run l).report.results (run l).report.printed)

-- so their ending is none that doesn't
pub not-of-levels : (bad : Ending) → has_answered bad ≡ false → (run : Level → Account) (ls : List Level) → levels_ending run ls ≢ bad
not-of-levels bad none run ls e = true≢false (sym (levels-answered run ls) ∙ ap has_answered e ∙ none)

-- one level more
pub ending-more : (run : Level → Account) (ls : List Level) (l : Level)
    → levels_ending run (ls ++ l ∷ []) ≡ first_ending (levels_ending run ls ∷ ending_of (run l).report ∷ [])
ending-more run [] l = refl
ending-more run (k ∷ ls) l = go (code_of (ending_of (run k).report) == 0) refl (ending-more run ls l)
  where
    go : (t : Bool) → (code_of (ending_of (run k).report) == 0) ≡ t
        → levels_ending run (ls ++ l ∷ []) ≡ first_ending (levels_ending run ls ∷ ending_of (run l).report ∷ [])
        → (elim t [ true ↦ levels_ending run (ls ++ l ∷ []) | false ↦ ending_of (run k).report ])
        ≡ first_ending ((elim t [ true ↦ levels_ending run ls | false ↦ ending_of (run k).report ]) ∷ ending_of (run l).report ∷ [])
    go true e more = more
    go false e more = rw (first_ending, e) refl

-- ---- lines

-- mapped lists, one behind the other
map-both : {X Y : Type 0} (f : X → Y) (xs ys : List X) → map f (xs ++ ys) ≡ map f xs ++ map f ys
map-both f [] ys = refl
map-both f (x ∷ xs) ys = ap (λ l. f x ∷ l) (map-both f xs ys)

-- lines, one list behind the other
joined-both : (xs ys : List (List ℕ)) → joined (xs ++ ys) ≡ joined xs ++ joined ys
joined-both xs ys = flat_map-append (λ l. l) xs ys

-- the text of a report and of its instructions is its lines
text-lines : (r : Report) (instructions : Option ℕ) → joined (map result_line r.printed ++ closing_lines r instructions) ≡ text_with r instructions
text-lines r instructions =
    joined-both (map result_line r.printed) (closing_lines r instructions)
    ∙ ap₂ (λ a b. a ++ b) (flat_map-map (λ l. l) result_line r.printed) (joined-both (last_lines r) (instruction_lines instructions)) ∙ go instructions
  where
    go : (o : Option ℕ) → flat_map result_line r.printed ++ (joined (last_lines r) ++ joined (instruction_lines o)) ≡ text_with r o
    go None = ap (λ t. flat_map result_line r.printed ++ t) (append-nil (joined (last_lines r)))
    go (Some n) = ap (λ t. flat_map result_line r.printed ++ (joined (last_lines r) ++ t)) (append-nil (instructions_line n))
        ∙ sym (append_assoc (flat_map result_line r.printed) (joined (last_lines r)) (instructions_line n))

-- the text of a run is its lines
run-text : (a : Account) → joined (run_lines a) ≡ account_text a
run-text a = text-lines a.report (instructions_of a.machine)

-- what is said of a run is said of its lines
pub run-says : (a : Account) (end : Ending) (text : List ℕ) → SaysRun a end text → SaysLines (run_lines a) (ending_of a.report) end text
run-says a end text whole_run = subst (SaysLines (run_lines a) (ending_of a.report) (ending_of a.report)) (run-text a) all_lines
run-says a end text (run_out prefix rest is) =
    let closing = closing_lines a.report (instructions_of a.machine) in
    subst (λ t. SaysLines (run_lines a) (ending_of a.report) NoMemory (t ++ no_memory_line)) (flat_map-map (λ l. l) result_line prefix)
    (first_lines (map result_line prefix) (map result_line rest ++ closing)
    (ap (λ p. map result_line p ++ closing) is ∙ ap (λ l. l ++ closing) (map-both result_line prefix rest)
    ∙ append_assoc (map result_line prefix) (map result_line rest) closing))

module _ (lines : List (List ℕ)) (meant : Ending) where
  -- what is said of lines is said behind others
  pub behind-says : (before : List (List ℕ)) (end : Ending) (text : List ℕ) → SaysLines lines meant end text
      → SaysLines (before ++ lines) meant end (joined before ++ text)
  behind-says before end text all_lines = subst (SaysLines (before ++ lines) meant meant) (joined-both before lines) all_lines
  behind-says before end text (first_lines prefix rest is) =
      subst (SaysLines (before ++ lines) meant NoMemory)
      (ap (λ l. l ++ no_memory_line) (joined-both before prefix) ∙ append_assoc (joined before) (joined prefix) no_memory_line)
      (first_lines (before ++ prefix) rest (ap (λ l. before ++ l) is ∙ sym (append_assoc before prefix rest)))

  -- that memory was wanted behind the first of them is said with more lines behind them too
  out-before : (more : List (List ℕ)) (other end : Ending) (text : List ℕ) → meant ≢ NoMemory → SaysLines lines meant end text → end ≡ NoMemory
      → SaysLines (lines ++ more) other end text
  out-before more other end text not-out all_lines e = absurd (not-out e)
  out-before more other end text not-out (first_lines prefix rest is) e =
      first_lines prefix (rest ++ more) (ap (λ l. l ++ more) is ∙ append_assoc prefix rest more)

module _ (old new : Option (List ℕ)) where
  -- a prefix of a text is one of a longer text
  prefix-of-both : (text more : List ℕ) → AppendsPrefix old new text → AppendsPrefix old new (text ++ more)
  prefix-of-both text more (prefix, rest, is, taken) = (prefix, rest ++ more, ap (λ l. l ++ more) is ∙ append_assoc prefix rest more, taken)

  -- a prefix of what is said of lines is one of what is said with more lines behind them
  prefix-before : (lines more : List (List ℕ)) (meant other end : Ending) (text : List ℕ) → SaysLines lines meant end text → AppendsPrefix old new text
      → (e : Ending) × (t : List ℕ) × SaysLines (lines ++ more) other e t × AppendsPrefix old new t
  prefix-before lines more meant other end text all_lines taken = (
    other,
    joined (lines ++ more),
    all_lines,
    subst (AppendsPrefix old new) (sym (joined-both lines more))
        (prefix-of-both (joined lines) (joined more) taken),
  )
  prefix-before lines more meant other end text (first_lines prefix rest is) taken = (
    NoMemory,
    joined prefix ++ no_memory_line,
    first_lines prefix (rest ++ more) (ap (λ l. l ++ more) is ∙ append_assoc prefix rest more),
    taken,
  )

-- ---- places

-- a list is what stands before one place, that place, and what is behind it
pub list-at : {X : Type 0} (xs : List X) (i : ℕ) (x : X) → i < length xs → xs ≡ take i xs ++ get_or xs i x ∷ drop (i + 1) xs
list-at xs i x l =
    sym (take-append-drop (i + 1) xs) ∙ ap (λ t. t ++ drop (i + 1) xs) (take_more xs i x l) ∙ append_assoc (take i xs) (get_or xs i x ∷ []) (drop (i + 1) xs)

-- ---- what was done

module _ (old new : Option (List ℕ)) (faults faults_new : ℕ) where
  -- a prefix of the first lines was taken
  pub prefix-done : (lines more : List (List ℕ)) (other : Ending) → AppendsPrefix old new (joined lines) → CountsFault faults faults_new
      → IsDone (SaysLines (lines ++ more) other) WriteFault old new faults faults_new
  prefix-done lines more other taken counted = record {
    said = λ n. absurd (n refl);
    none = λ n. absurd (n refl);
    broken = λ e. prefix-before old new lines more other other other (joined lines) all_lines taken;
    fault = λ e. counted;
  }

  module _ (lines : List (List ℕ)) (meant end : Ending) (done : IsDone (SaysLines lines meant) end old new faults faults_new) where
    -- where nothing broke off, all lines were taken
    pub all-taken : end ≢ NoMemory → end ≢ WriteFault → (end ≡ meant) × Appends old new (joined lines) × (faults_new ≡ faults)
    all-taken not-out not-broken = let s = done.said not-broken in let t = go end s.0 not-out s.1 s.2 in (t.0, t.1, done.none not-broken)
      where
        go : (e : Ending) (text : List ℕ) → e ≢ NoMemory → SaysLines lines meant e text → Appends old new text
            → (e ≡ meant) × Appends old new (joined lines)
        go e text n all_lines taken = (refl, taken)
        go e text n (first_lines prefix rest is) taken = absurd (n refl)

    -- and where something did, so it did with more lines behind them
    pub broke-off : (more : List (List ℕ)) (other : Ending) → meant ≢ NoMemory → (end ≡ NoMemory) ⊎ (end ≡ WriteFault)
        → IsDone (SaysLines (lines ++ more) other) end old new faults faults_new
    broke-off more other not-out stops = record {
      said = λ n. let s = done.said n in (s.0, out-before lines meant more other end s.0 not-out s.1 (out n stops), s.2);
      none = done.none;
      broken = λ e. let b = done.broken e in prefix-before old new lines more meant other b.0 b.1 b.2 b.3;
      fault = done.fault;
    }
      where
        out : end ≢ WriteFault → (end ≡ NoMemory) ⊎ (end ≡ WriteFault) → end ≡ NoMemory
        out n (inl e) = e
        out n (inr e) = absurd (n e)

-- ---- level by level

-- behind the line of a level its run was written, or said to want memory
module _ (old mid new : Option (List ℕ)) (faults faults_mid faults_new : ℕ) (level : Level) (a : Account) where
  pub level-done : Appends old mid (level_line level) → faults_mid ≡ faults → (end : Ending) → IsDone (SaysRun a) end mid new faults_mid faults_new
      → IsDone (SaysLines (level_line level ∷ run_lines a) (ending_of a.report)) end old new faults faults_new
  level-done taken same end done =
      behind-done old mid new faults faults_mid faults_new (joined (level_line level ∷ []))
      (subst (Appends old mid) (sym (append-nil (level_line level))) taken) same (SaysRun a) (SaysLines (level_line level ∷ run_lines a) (ending_of a.report))
      end (λ meant text says. behind-says (run_lines a) (ending_of a.report) (level_line level ∷ []) meant text (run-says a meant text says)) done

-- where lines were taken whole, they were said
pub lines-done : (lines : List (List ℕ)) (meant end : Ending) (old new : Option (List ℕ)) (faults faults_new : ℕ) → meant ≢ WriteFault → end ≡ meant
    → Appends old new (joined lines) → faults_new ≡ faults → IsDone (SaysLines lines meant) end old new faults faults_new
lines-done lines meant end old new faults faults_new not-fault is taken same = record {
  said = λ n. (joined lines, subst (λ e. SaysLines lines meant e (joined lines)) (sym is) all_lines, taken);
  none = λ n. same;
  broken = λ e. absurd (not-fault (sym is ∙ e));
  fault = λ e. absurd (not-fault (sym is ∙ e));
}

-- a level behind others
module _ (run : Level → Account) (before : List Level) (level : Level) (old mid new : Option (List ℕ)) (faults faults_mid faults_new : ℕ) (end : Ending)
    (taken : Appends old mid (joined (level_lines run before))) (same : faults_mid ≡ faults)
    (done : IsDone (SaysLines (level_line level ∷ run_lines (run level)) (ending_of (run level).report)) end mid new faults_mid faults_new) where
  abbrev one : List (List ℕ)
  one = level_line level ∷ run_lines (run level)

  -- together with them
  with-before : IsDone (SaysLines (level_lines run before ++ one) (ending_of (run level).report)) end old new faults faults_new
  with-before =
      behind-done old mid new faults faults_mid faults_new (joined (level_lines run before)) taken same (SaysLines one (ending_of (run level).report))
      (SaysLines (level_lines run before ++ one) (ending_of (run level).report)) end
      (behind-says one (ending_of (run level).report) (level_lines run before)) done

  -- where it broke off, all of them did
  pub levels-broke-off : (after all : List Level) → all ≡ before ++ level ∷ after → (end ≡ NoMemory) ⊎ (end ≡ WriteFault)
      → IsDone (SaysLines (level_lines run all) (levels_ending run all)) end old new faults faults_new
  levels-broke-off after all is stops =
      let lines = append_assoc (level_lines run before) one (level_lines run after)
      ∙ sym (flat_map-append (λ l. level_line l ∷ run_lines (run l)) before (level ∷ after)) ∙ ap (level_lines run) (sym is) in
      subst (λ l. IsDone (SaysLines l (levels_ending run all)) end old new faults faults_new) lines
      (broke-off old new faults faults_new (level_lines run before ++ one) (ending_of (run level).report) end with-before (level_lines run after)
      (levels_ending run all) (not-wanting _ _) stops)

  -- where it didn't, they were written
  pub levels-written : (first earlier : Ending) (all : List Level) → all ≡ before ++ level ∷ [] → first ≡ levels_ending run before
      → earlier ≡ first_ending (first ∷ end ∷ []) → end ≢ NoMemory → end ≢ WriteFault
      → (earlier ≡ levels_ending run all) × Appends old new (joined (level_lines run all)) × (faults_new ≡ faults)
  levels-written first earlier all is first-is earlier-is not-out not-fault =
      let t = all-taken old new faults faults_new (level_lines run before ++ one) (ending_of (run level).report) end with-before not-out not-fault in
      let lines = ap (λ l. level_lines run before ++ l) (sym (append-nil one))
      ∙ sym (flat_map-append (λ l. level_line l ∷ run_lines (run l)) before (level ∷ [])) ∙ ap (level_lines run) (sym is) in (
        earlier-is ∙ ap (λ e. first_ending (e ∷ end ∷ [])) first-is ∙ ap (λ e. first_ending (levels_ending run before ∷ e ∷ [])) t.0
            ∙ sym (ending-more run before level) ∙ ap (levels_ending run) (sym is),
        subst (λ l. Appends old new (joined l)) lines t.1,
        t.2,
      )

-- where nothing broke off, a level answers
pub done-answers : (a : Account) (end : Ending) (lines : List (List ℕ)) (old new : Option (List ℕ)) (faults faults_new : ℕ)
    → IsDone (SaysLines lines (ending_of a.report)) end old new faults faults_new → end ≢ NoMemory → end ≢ WriteFault → has_answered end ≡ true
done-answers a end lines old new faults faults_new done not-out not-fault =
    ap has_answered (all-taken old new faults faults_new lines (ending_of a.report) end done not-out not-fault).0
    ∙ answered-run a.report.how (missing_of a.report.how a.report.results a.report.printed)
