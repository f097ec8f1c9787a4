-- What follows from right reports: with room a run is quiet, quiet runs agree, and no result that the rules give is missing.
use Rattle.std.proofs.Common.{◌≡◌, ℕ, suc, Bool, true, false, not, ◌==◌, List, [], ◌∷◌, ◌++◌, filter, Contains, Some}
use Rattle.std.proofs.Common.{slice_get, refl, sym, ap, ◌∙◌, arith, subst, inl, inr, IsPermutation}
use Rattle.std.proofs.lemmas.List.Sorted.{IsPermutation-refl, IsPermutation-sym, IsPermutation-trans, IsPermutation-cons, IsPermutation-middle}
use Rattle.tam_word.specs.Lists.{below, any_of}
use Rattle.tam_word.proofs.Members.{In, Distinct, in-get, in-any, any-in}
use Rattle.tam_graph.specs.Graphs.{Graph}
use Rattle.tam_fire.specs.FiringRules.{Result}
use Rattle.tam_msgs.specs.declared.limits.Limits.{Limits}
use Rattle.tam_msgs.specs.Runs.{End, Quiet, Double_write, Out_of_range, Frames_full, Cells_full, Budget_spent, Wild, Trap, Report, missing_of, is_without}
use Rattle.tam_run.specs.declared.level.Level.TheVariants as level
use Rattle.tam_run.specs.Levels.{told_at}
use Rattle.tam_flow.specs.Headline.{IsRight, LinesDiffer, HasCause}
use Rattle.tam_run.specs.RightRuns.{RunsAreBorneOut, RunsAreRight, HasRoom, RoomIsQuiet, LiveRoomIsQuiet, NoResultIsMissing}
use Rattle.tam_run.specs.RightRuns.{SameLines, QuietRunsAgree, QuietLevelsAgree}
use Rattle.tam_flow.proofs.JournalResults.{contains-in, in-contains}
use Rattle.tam_flow.proofs.RightJournals.{borne-right}
use Rattle.tam_run.proofs.GraphJournals.{run-borne}
use Rattle.tam_split.specs.GraphPartitions.{Partitions, singles, partitions}
use Rattle.tam_flow.specs.BorneOut.{BearsOut, IsBorneOut}
use Rattle.tam_run.specs.Writing.{IsWild, IsTrap}
use Rattle.tam_eval.specs.GraphRuns.{graph_told}
use Rattle.tam_eval.proofs.Enough.{enough-is_not_refused}
use Rattle.tl0_keep.specs.ThreadLaws.{IsJob, ThreadRunsAreBorneOut, RoomIsQuiet as Threads_quiet}
use Rattle.tam_fits.specs.ImageLaws.{ImagesTellThreads}
use Rattle.tam_fits.specs.LiveFrames.{ImageRoomIsQuiet}
use Rattle.tl0_keep.proofs.whole.Quiet.{aside-quiet}

-- ---- lists

-- where each element stands at one place, it stands once
distinct-places : {X : Type 0} (xs : List X) → ((i j : ℕ) (x : X) → slice_get xs i ≡ Some x → slice_get xs j ≡ Some x → i ≡ j) → Distinct xs
distinct-places [] h = tt
distinct-places {X} (x ∷ xs) h = (
  λ m. let r = in-get x xs m in later r.0 (h 0 (suc r.0) x refl r.1),
  distinct-places xs (λ i j y p q. less i j (h (suc i) (suc j) y p q)),
)
  where
    later : (n : ℕ) → 0 ≡ suc n → ⊥
    later n e = absurd (omega (arith, e))

    less : (i j : ℕ) → suc i ≡ suc j → i ≡ j
    less i j e = omega (arith, e)

-- a list around one of its elements
pub record Around {X : Type 0} (x : X) (xs : List X) : Type 0 where
  pub prefix : List X
  pub back : List X
  pub is : xs ≡ prefix ++ x ∷ back

-- each element has a list around it
around : {X : Type 0} (x : X) (xs : List X) → In x xs → Around x xs
around x [] h = absurd h
around {X} x (y ∷ ys) (inl e) = record { prefix = []; back = ys; is = ap (λ z. z ∷ ys) e }
around {X} x (y ∷ ys) (inr h) = let r = around x ys h in record { prefix = y ∷ r.prefix; back = r.back; is = ap (λ l. y ∷ l) r.is }

-- an element of a list but for one
in-rest : {X : Type 0} (x y : X) (prefix back : List X) → In y (prefix ++ x ∷ back) → (x ≡ y → ⊥) → In y (prefix ++ back)
in-rest x y [] back (inl e) n = absurd (n e)
in-rest x y [] back (inr h) n = h
in-rest x y (z ∷ prefix) back (inl e) n = inl e
in-rest x y (z ∷ prefix) back (inr h) n = inr (in-rest x y prefix back h n)

-- is one of the list
rest-in : {X : Type 0} (x y : X) (prefix back : List X) → In y (prefix ++ back) → In y (prefix ++ x ∷ back)
rest-in x y [] back h = inr h
rest-in x y (z ∷ prefix) back (inl e) = inl e
rest-in x y (z ∷ prefix) back (inr h) = inr (rest-in x y prefix back h)

-- what is left stands once
distinct-rest : {X : Type 0} (x : X) (prefix back : List X) → Distinct (prefix ++ x ∷ back) → (In x (prefix ++ back) → ⊥) × Distinct (prefix ++ back)
distinct-rest x [] back d = d
distinct-rest {X} x (z ∷ prefix) back d =
    let rest = distinct-rest x prefix back d.1 in (
      λ h. go h rest.0,
      (λ h. d.0 (rest-in x z prefix back h), rest.1),
    )
  where
    go : In x (z ∷ (prefix ++ back)) → (In x (prefix ++ back) → ⊥) → ⊥
    go (inl e) n = d.0 (subst (λ y. In y (prefix ++ x ∷ back)) (sym e) (middle prefix))
      where
        middle : (l : List X) → In x (l ++ x ∷ back)
        middle [] = inl refl
        middle (y ∷ l) = inr (middle l)
    go (inr h) n = n h

-- lists with the same elements, each once, are the same but for their order
pub same-permutation : {X : Type 0} (xs ys : List X) → Distinct xs → Distinct ys → ((x : X) → In x xs → In x ys) → ((x : X) → In x ys → In x xs)
    → IsPermutation xs ys
same-permutation [] [] d e f h = IsPermutation-refl []
same-permutation [] (y ∷ ys) d e f h = absurd (h y (inl refl))
same-permutation {X} (x ∷ xs) ys d e f h = go (around x ys (f x (inl refl))) (λ l. same-permutation xs l d.1)
  where
    go : Around x ys → ((l : List X) → Distinct l → ((y : X) → In y xs → In y l) → ((y : X) → In y l → In y xs) → IsPermutation xs l)
        → IsPermutation (x ∷ xs) ys
    go a rest = subst (IsPermutation (x ∷ xs)) (sym a.is) (IsPermutation-trans (x ∷ xs) (x ∷ (a.prefix ++ a.back)) (a.prefix ++ x ∷ a.back)
        (IsPermutation-cons x xs (a.prefix ++ a.back) (rest (a.prefix ++ a.back) apart.1 there back))
        (IsPermutation-sym (a.prefix ++ x ∷ a.back) (x ∷ (a.prefix ++ a.back)) (IsPermutation-middle a.prefix x a.back)))
      where
        apart : (In x (a.prefix ++ a.back) → ⊥) × Distinct (a.prefix ++ a.back)
        apart = distinct-rest x a.prefix a.back (subst Distinct a.is e)

        there : (y : X) → In y xs → In y (a.prefix ++ a.back)
        there y m = in-rest x y a.prefix a.back (subst (In y) a.is (f y (inr m))) (λ s. d.0 (subst (λ z. In z xs) (sym s) m))

        back : (y : X) → In y (a.prefix ++ a.back) → In y xs
        back y m = one (h y (subst (In y) (sym a.is) (rest-in x y a.prefix a.back m)))
          where
            one : In y (x ∷ xs) → In y xs
            one (inl s) = absurd (apart.0 (subst (λ z. In z (a.prefix ++ a.back)) (sym s) m))
            one (inr k) = k

-- ---- reports

-- the lines of a report stand once
lines-distinct : (r : Report) → LinesDiffer r → Distinct r.printed
lines-distinct r h = distinct-places {X = ℕ × ℕ} r.printed (λ i j x p q. h i j x.0 x.1 x.1 p q)

-- tests that agree leave the same
filter-same : (f g : ℕ → Bool) (xs : List ℕ) → ((x : ℕ) → f x ≡ g x) → filter f xs ≡ filter g xs
filter-same f g [] h = refl
filter-same f g (x ∷ xs) h = go (g x) refl (filter-same f g xs h)
  where
    go : (b : Bool) → g x ≡ b → filter f xs ≡ filter g xs → filter f (x ∷ xs) ≡ filter g (x ∷ xs)
    go true e i = rw (h x ∙ e, e) (ap (λ l. x ∷ l) i)
    go false e i = rw (h x ∙ e, e) i

-- lists with the same elements pass the same tests
any-same : {X : Type 0} (test : X → Bool) (xs ys : List X) → ((x : X) → In x xs → In x ys) → ((x : X) → In x ys → In x xs) → any_of test xs ≡ any_of test ys
any-same {X} test xs ys f h = go (any_of test xs) refl (any_of test ys) refl
  where
    go : (a : Bool) → any_of test xs ≡ a → (b : Bool) → any_of test ys ≡ b → any_of test xs ≡ any_of test ys
    go true p true q = p ∙ sym q
    go false p false q = p ∙ sym q
    go true p false q = let r = any-in test xs p in p ∙ sym (in-any test ys r.0 (f r.0 r.1) r.2)
    go false p true q = let r = any-in test ys q in in-any test xs r.0 (h r.0 r.1) r.2 ∙ sym q

module _ (g : Graph) (args : List ℕ) where
  -- two quiet reports that are right have the same lines
  same-lines : (r s : Report) (limits more : Limits) → IsRight g args limits r → IsRight g args more s → r.how ≡ Quiet → s.how ≡ Quiet
      → r.results ≡ s.results → SameLines r s
  same-lines r s limits more a b p q n = record {
    lines = same-permutation {X = ℕ × ℕ} r.printed s.printed (lines-distinct r a.each_once) (lines-distinct s b.each_once) there back;
    missing = ap (λ how. missing_of how r.results r.printed) p ∙ (ap (λ m. missing_of Quiet m r.printed) n
        ∙ (filter-same (is_without r.printed) (is_without s.printed) (below s.results)
        (λ k. ap not (any-same {X = ℕ × ℕ} (λ kw. kw.0 == k) r.printed s.printed there back)) ∙ ap (λ how. missing_of how s.results s.printed) (sym q)));
  }
    where
      there : (x : ℕ × ℕ) → In x r.printed → In x s.printed
      there x m = contains-in {X = ℕ × ℕ} s.printed x
          (((b.exact q).lines x.0 x.1).1 (((a.exact p).lines x.0 x.1).0 (in-contains {X = ℕ × ℕ} x r.printed m)))

      back : (x : ℕ × ℕ) → In x s.printed → In x r.printed
      back x m = contains-in {X = ℕ × ℕ} r.printed x
          (((a.exact p).lines x.0 x.1).1 (((b.exact q).lines x.0 x.1).0 (in-contains {X = ℕ × ℕ} x s.printed m)))

  -- with room no end but quiet has a cause
  room-quiet : (limits : Limits) → HasRoom g args limits → (how : End) → HasCause g args limits how → how ≡ Quiet
  room-quiet limits room how h = aside-quiet g args limits room.aside how refused h
    where
      refused : (n : ℕ) → how ≡ Frames_full n → ⊥
      refused n e =
          let c = subst (HasCause g args limits) e h in
          let few = room.activations c.1.0 c.1.1 c.1.2 in
          absurd (omega (arith, few, c.0, c.1.3))

  -- of a report that is right no result that the rules give is missing
  none-missing : (limits : Limits) (r : Report) → IsRight g args limits r → (k w : ℕ) → Result g args k w
      → ¬ Contains (missing_of r.how r.results r.printed) k
  none-missing limits r right k w given there = go r.how refl
    where
      empty : {j : ℕ} → Contains [] j → ⊥
      empty {j} h = contains-in [] j h

      other : (how : End) → r.how ≡ how → missing_of how r.results r.printed ≡ [] → ⊥
      other how e none = empty (subst (λ ks. Contains ks k) (ap (λ h. missing_of h r.results r.printed) e ∙ none) there)

      go : (how : End) → r.how ≡ how → ⊥
      go Quiet e = (((right.exact e).missing k).0 there).1 w given
      go (Double_write s t) e = other (Double_write s t) e refl
      go (Out_of_range s i l) e = other (Out_of_range s i l) e refl
      go (Frames_full n) e = other (Frames_full n) e refl
      go (Cells_full u l) e = other (Cells_full u l) e refl
      go (Budget_spent n) e = other (Budget_spent n) e refl
      go (Wild what n) e = other (Wild what n) e refl
      go (Trap pc cause) e = other (Trap pc cause) e refl

-- what is borne out isn't wild
pub borne-not_wild : (g : Graph) (all : Partitions) (args : List ℕ) (limits : Limits) (r : Report) → IsBorneOut g all args limits r → IsWild r.how → ⊥
borne-not_wild g all args limits r borne wild = subst (λ how. BearsOut g all args limits borne.events r.events how) wild.2 borne.ends

-- nor does it trap
pub borne-no_trap : (g : Graph) (all : Partitions) (args : List ℕ) (limits : Limits) (r : Report) → IsBorneOut g all args limits r → IsTrap r.how → ⊥
borne-no_trap g all args limits r borne trap = subst (λ how. BearsOut g all args limits borne.events r.events how) trap.2 borne.ends

-- ---- the law

-- each run is borne out
pub runs_are-borne : ThreadRunsAreBorneOut → ImagesTellThreads → RunsAreBorneOut
runs_are-borne borne alike level.Graph g args order limits accepted arguments ranges = (singles g, run-borne g args order limits accepted arguments ranges)
runs_are-borne borne alike level.Tl0 g args order limits accepted arguments ranges =
    (partitions g, borne g args order limits (record { accepted = accepted; arguments = arguments; ranges = ranges }))
runs_are-borne borne alike level.Rv32 g args order limits accepted arguments ranges =
    let job : IsJob g args limits = record { accepted = accepted; arguments = arguments; ranges = ranges } in (
      partitions g,
      subst (IsBorneOut g (partitions g) args limits) (sym (alike g args order limits job)) (borne g args order limits job),
    )

-- what is borne out is right
pub runs_are-right : RunsAreRight
runs_are-right g all args limits r borne = borne-right g all args limits r borne

-- with room it is quiet
pub room_is-quiet : RoomIsQuiet
room_is-quiet g all args limits r borne room = room-quiet g args limits room r.how (borne-right g all args limits r borne).cause

-- with room for the live ones, and for all else, it is quiet
pub live_room-is-quiet : Threads_quiet → ImageRoomIsQuiet → LiveRoomIsQuiet
live_room-is-quiet quiet images level.Graph g args order limits job room suffice =
    aside-quiet g args limits room (graph_told g args order limits).how (λ n e. enough-is_not_refused g args order limits n suffice e)
    (borne-right g (singles g) args limits (graph_told g args order limits) (run-borne g args order limits job.accepted job.arguments job.ranges)).cause
live_room-is-quiet quiet images level.Tl0 g args order limits job room suffice = quiet g args order limits job room suffice
live_room-is-quiet quiet images level.Rv32 g args order limits job room suffice = images g args order limits job room suffice

-- quiet runs agree
pub quiet_runs-agree : QuietRunsAgree
quiet_runs-agree g all others args limits more r s a b p q =
    same-lines g args r s limits more (borne-right g all args limits r a) (borne-right g others args more s b) p q (a.results ∙ sym b.results)

-- so do those of two levels
pub quiet_levels-agree : RunsAreBorneOut → QuietLevelsAgree
quiet_levels-agree borne one other g args order items limits more job again p q =
    let r = borne one g args order limits job.accepted job.arguments job.ranges in
    let s = borne other g args items more again.accepted again.arguments again.ranges in
    quiet_runs-agree g r.0 s.0 args limits more (told_at one g args order limits) (told_at other g args items more) r.1 s.1 p q

-- no result is missing
pub no_result-is_missing : NoResultIsMissing
no_result-is_missing g all args limits r k w borne given = none-missing g args limits r (borne-right g all args limits r borne) k w given
