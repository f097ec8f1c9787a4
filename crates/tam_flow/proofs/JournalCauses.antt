-- The causes of ends behind a journal: with a wish on its way the rules give one activation, or one array, more than there are.
use Rattle.std.proofs.Common.{◌≡◌, ℕ, ◌+◌, ◌<◌, true, false, Bool, List, [], ◌∷◌, length, Some, None, slice_get, refl, sym, ap, ◌∙◌}
use Rattle.std.proofs.Common.{arith, subst, inl, inr, true≢false, Option}
use Rattle.tam_word.specs.Lists.{below, has}
use Rattle.tam_word.proofs.Each.{all-at_place}
use Rattle.tam_word.proofs.Members.{In, in-flat_map}
use Rattle.tam_graph.specs.declared.kind.Kind.{Kind}
use Rattle.tam_graph.specs.declared.kind.Kind.TheVariants.{Alloc}
use Rattle.tam_graph.specs.Graphs.{Graph}
use Rattle.tam_split.specs.GraphPartitions.{Partitions}
use Rattle.tam_fire.specs.FiringRules.{Path, Begun, Holds, call_begins, IsAlloc, Asked}
use Rattle.tam_fire.proofs.Following.{holds-by}
use Rattle.tam_fire.proofs.Counting.{held-together}
use Rattle.tam_msgs.specs.declared.message.Message.{Message}
use Rattle.tam_msgs.specs.declared.message.Message.TheVariants.{Frame as Begin, Cells as Make}
use Rattle.tam_istr.specs.Cells.{cells_used}
use Rattle.tam_flow.specs.Journals.{State, Event, state_after, on_their_way, or_message}
use Rattle.tam_flow.specs.Told.{path_of, Tells}
use Rattle.tam_flow.specs.JournalLaws.{IsJournal}
use Rattle.tam_flow.specs.RunJournals.{IsCharged}
use Rattle.tam_flow.specs.Reached.{IsReached, IsThere, maker_of, cells_at}
use Rattle.tam_flow.proofs.Justified.{IsMessage, IsMade}
use Rattle.tam_flow.proofs.SoundStates.{IsSoundState, sound-journal}
use Rattle.tam_flow.proofs.Soundness.{sound}
use Rattle.tam_flow.proofs.SentOnce.{IsBegunBy, cons-tail, nil-cons}
use Rattle.tam_flow.proofs.DeliveredOnce.{once-journal}
use Rattle.tam_flow.proofs.MadeArrays.{IsMakerState, makers-journal}
use Rattle.tam_flow.proofs.JournalsReached.{journals-reached}
use Rattle.tam_flow.specs.Headline.{TooManyActivations, TooManyCells, TooManyEvents}
use Rattle.tam_flow.proofs.RuleCounts.{HasAsked, one-more_activation, one-more_array}

-- a message on its way was sent and hasn't arrived
on-way : (s : State) (m : Message) → In m (on_their_way s) → (n : ℕ) × (slice_get s.sent n ≡ Some m) × (has s.arrived n ≡ false)
on-way s m h = go (in-flat_map (λ n. elim (has s.arrived n) [ true ↦ [] | false ↦ or_message (slice_get s.sent n) ]) m (below (length s.sent)) h)
  where
    one : (n : ℕ) (o : Option Message) → slice_get s.sent n ≡ o → In m (or_message o) → slice_get s.sent n ≡ Some m
    one n None e j = absurd j
    one n (Some x) e (inl p) = e ∙ ap Some p
    one n (Some x) e (inr p) = absurd p

    go : (n : ℕ) × In n (below (length s.sent)) × In m (elim (has s.arrived n) [ true ↦ [] | false ↦ or_message (slice_get s.sent n) ])
        → (n : ℕ) × (slice_get s.sent n ≡ Some m) × (has s.arrived n ≡ false)
    go (n, i, j) = test (has s.arrived n) refl j
      where
        test : (t : Bool) → has s.arrived n ≡ t → In m (elim t [ true ↦ [] | false ↦ or_message (slice_get s.sent n) ])
            → (n : ℕ) × (slice_get s.sent n ≡ Some m) × (has s.arrived n ≡ false)
        test true e k = absurd k
        test false e k = (n, one n (slice_get s.sent n) refl k, e)

-- a node that is an alloc
alloc-is : (k : Kind) (n : ℕ) → k ≡ Alloc n → IsAlloc k
alloc-is k n e = subst IsAlloc (sym e) tt

-- equal pairs
pair-eq : {p q : Path} {x y : ℕ} → ◌≡◌ {A = Path × ℕ} (p, x) (q, y) → (p ≡ q) × (x ≡ y)
pair-eq e = (ap (λ (z : Path × ℕ). z.0) e, ap (λ (z : Path × ℕ). z.1) e)

-- equal makers
maker-eq : {f e x y : ℕ} → f ≡ e → x ≡ y → ◌≡◌ {A = ℕ × ℕ} (f, x) (e, y)
maker-eq {f} {e} {x} {y} p q = subst (λ z. ◌≡◌ {A = ℕ × ℕ} (f, x) (z, y)) p (subst (λ z. ◌≡◌ {A = ℕ × ℕ} (f, x) (f, z)) q refl)

module _ (g : Graph) (all : Partitions) (args : List ℕ) (events : List Event) (journal : IsJournal g all args events) where
  -- the state behind the journal
  abbrev s : State
  s = state_after g all args events

  -- it has its reasons
  reasons : IsSoundState g args (state_after g all args events)
  reasons = sound-journal g all args events journal

  -- it is reached
  reached : IsReached g all args (state_after g all args events)
  reached = journals-reached g all args events journal

  -- with a wish for an activation on its way the rules begin more than there are
  pub more-activations : (c f x : ℕ) → In (Begin c f x) (on_their_way (state_after g all args events))
      → TooManyActivations g args (length (state_after g all args events).world.activations)
  more-activations c f x way =
      one-more_activation g args (x ∷ path_of s.world f) (path_of s.world) (length s.world.activations)
      (subst (λ q. Holds g args (Begun (x ∷ q))) (sym reason.1.1) (holds-by g args (call_begins reason.2) (reason.4, tt))) reasons.world.began
      (λ j t e. fresh j t e (begun j t)) (λ i j l m e. apart i j l (reached.activations.paths_differ i j (omega (arith, l, m)) m e))
    where
      sent : (n : ℕ) × (slice_get (state_after g all args events).sent n ≡ Some (Begin c f x)) × (has (state_after g all args events).arrived n ≡ false)
      sent = on-way s (Begin c f x) way

      reason : IsMessage g args (state_after g all args events).world (Begin c f x)
      reason = all-at_place (IsMessage g args s.world) s.sent sent.0 (Begin c f x) reasons.sent sent.1

      begun : (j : ℕ) → IsThere (state_after g all args events).world j → IsBegunBy (state_after g all args events) j
      begun = (once-journal g all args events journal).begun_by

      apart : (i j : ℕ) → i < j → i ≡ j → ⊥
      apart i j l e = absurd (omega (arith, l, e))

      fresh : (j : ℕ) → IsThere (state_after g all args events).world j
          → x ∷ path_of (state_after g all args events).world f ≡ path_of (state_after g all args events).world j
          → IsBegunBy (state_after g all args events) j → ⊥
      fresh j t e (inl p) = nil-cons (sym p ∙ sym e)
      fresh j t e (inr (n, d, k, y, was, arrived, less, path)) =
          let both = cons-tail (sym path ∙ sym e) in
          let there : IsThere s.world k = omega (arith, less, t) in
          let same : k ≡ f = reached.activations.paths_differ k f there reason.1.0 both.1 in
          let first : slice_get s.sent n ≡ Some (Begin d f x) =
          subst (λ z. slice_get s.sent n ≡ Some (Begin d z x)) same (subst (λ z. slice_get s.sent n ≡ Some (Begin d k z)) both.0 was) in
          let one : n ≡ sent.0 = reached.once.one_begin n sent.0 d c f x first sent.1 in
          true≢false (sym (subst (λ z. has s.arrived z ≡ true) one arrived) ∙ sent.2)

  -- with a wish for an array on its way the rules ask for all the cells of the arrays, and those of the wish
  pub more-cells : (l f x limit : ℕ) → In (Make l f x) (on_their_way (state_after g all args events))
      → limit < cells_used (state_after g all args events).world.arrays + l → TooManyCells g args limit
  more-cells l f x limit way beyond =
      one-more_array g args (record { path = path_of s.world f; node = x; len = l }) array s.world.arrays limit
      (subst (λ q. HasAsked g args (record { path = q; node = x; len = l })) (sym reason.3.1) (alloc-is _ reason.1 reason.4, reason.6))
      (λ j m. old j (within j m)) (λ j m e. fresh j (within j m) (pair-eq e))
      (λ i j m n e. apart i j m (within i (omega (arith, m, n))) (within j n) (pair-eq e)) (λ j. refl) beyond
    where
      sent : (n : ℕ) × (slice_get (state_after g all args events).sent n ≡ Some (Make l f x)) × (has (state_after g all args events).arrived n ≡ false)
      sent = on-way s (Make l f x) way

      reason : IsMessage g args (state_after g all args events).world (Make l f x)
      reason = all-at_place (IsMessage g args s.world) s.sent sent.0 (Make l f x) reasons.sent sent.1

      makers : IsMakerState (state_after g all args events)
      makers = makers-journal g all args events journal

      within : (j : ℕ) → j < length (state_after g all args events).world.arrays → j < length (state_after g all args events).world.makers
      within j m = subst (λ n. j < n) reached.arrays.same_length m

      array : ℕ → Asked
      array j = record {
        path = path_of (state_after g all args events).world (maker_of (state_after g all args events).world j).0;
        node = (maker_of (state_after g all args events).world j).1;
        len = length (cells_at (state_after g all args events).world j);
      }

      old : (j : ℕ) → j < length (state_after g all args events).world.makers → HasAsked g args (array j)
      old j m = go (reasons.world.made j m)
        where
          go : IsMade g args (state_after g all args events).world j (length (cells_at (state_after g all args events).world j)) → HasAsked g args (array j)
          go h =
              subst (λ q. HasAsked g args (record { path = q; node = (maker_of s.world j).1; len = length (cells_at s.world j) })) (sym h.array.number.1)
              (subst (λ z. HasAsked g args (record { path = h.p; node = z; len = length (cells_at s.world j) })) (sym h.array.alloc)
              (alloc-is _ h.c h.allocs, h.fired))

      fresh : (j : ℕ) → j < length (state_after g all args events).world.makers
          → (path_of (state_after g all args events).world f
          ≡ path_of (state_after g all args events).world (maker_of (state_after g all args events).world j).0)
          × (x ≡ (maker_of (state_after g all args events).world j).1) → ⊥
      fresh j m e =
          let by = makers.makers j m in
          let same : f ≡ (maker_of s.world j).0 = reached.activations.paths_differ f (maker_of s.world j).0 reason.3.0 (reached.arrays.makers_there j m) e.0 in
          let was : slice_get s.sent by.0 ≡ Some (Make by.1 f x) =
          subst (λ z. slice_get s.sent by.0 ≡ Some (Make by.1 z x)) (sym same)
          (subst (λ z. slice_get s.sent by.0 ≡ Some (Make by.1 (maker_of s.world j).0 z)) (sym e.1) by.2) in
          let one : by.0 ≡ sent.0 = reached.once.one_make by.0 sent.0 by.1 l f x was sent.1 in
          true≢false (sym (subst (λ z. has s.arrived z ≡ true) one by.3) ∙ sent.2)

      apart : (i j : ℕ) → i < j → i < length (state_after g all args events).world.makers → j < length (state_after g all args events).world.makers
          → (path_of (state_after g all args events).world (maker_of (state_after g all args events).world i).0
          ≡ path_of (state_after g all args events).world (maker_of (state_after g all args events).world j).0)
          × ((maker_of (state_after g all args events).world i).1 ≡ (maker_of (state_after g all args events).world j).1) → ⊥
      apart i j less m n e =
          let same = reached.activations.paths_differ (maker_of s.world i).0 (maker_of s.world j).0 (reached.arrays.makers_there i m)
          (reached.arrays.makers_there j n) e.0 in
          let one : i ≡ j = reached.arrays.makers_differ i j m n (maker-eq same e.1) in
          absurd (omega (arith, less, one))

  -- events that are charged to what the journal tells have as many instances by the rules
  pub more-events : (made : ℕ) → IsCharged g all (state_after g all args events) made → TooManyEvents g args made
  more-events made charged =
      let known = held-together g args (Tells g all s) (sound g all args events journal) charged.0 charged.1 in
      (known.0, charged.0, known.1, omega (arith, charged.2))
