-- One event of the plain run keeps that there is a legal journal; an end is borne out by it.
use Rattle.std.proofs.Common.{◌≡◌, ℕ, zero, suc, ◌+◌, ◌<◌, ◌≤◌, ◌^◌, Bool, true, false, ◌==◌, List, [], ◌∷◌, ◌++◌, Option, Some, None, slice_get, length}
use Rattle.std.proofs.Common.{refl, sym, ap, subst, ◌∙◌, arith, true≢false}
use Rattle.std.proofs.lemmas.Option.{slice_get_within}
use Rattle.tam_word.specs.Lists.{any_of}
use Rattle.tam_word.proofs.Tests.{number-eq}
use Rattle.tam_word.proofs.Members.{Distinct, in-get, any-in}
use Rattle.tam_msgs.specs.declared.message.Message.TheVariants.{Frame as Begin}
use Rattle.tam_msgs.specs.declared.limits.Limits.{Limits}
use Rattle.tam_msgs.specs.Messages.{AreLimits}
use Rattle.tam_istr.specs.Cells.{Arrays, Cell, Access, NoArray, NotBelow, in_array}
use Rattle.tam_graph.specs.Graphs.{Graph, block_at, depth_at, AreArguments}
use Rattle.tam_graph.specs.Accepted.{IsAccepted}
use Rattle.tam_split.specs.GraphPartitions.{Partitions, are_valid, firing_order}
use Rattle.tam_split.specs.Partitions.{class_at, class_of}
use Rattle.tam_world.specs.Worlds.{its_code}
use Rattle.tam_flow.specs.Journals.{State, Event, Run, Deliver, initial, is_legal, is_legal_from, state_after, state_from, may_follow, after_event}
use Rattle.tam_flow.specs.Journals.{block_of_act, parts_of_act, has_run}
use Rattle.tam_flow.specs.JournalLaws.{IsJournal}
use Rattle.tam_flow.specs.Reached.{IsReached, Has}
use Rattle.tam_flow.specs.Told.{outlet_ran, outlet_place}
use Rattle.tam_flow.proofs.JournalsReached.{journals-reached}
use Rattle.tam_flow.proofs.OutsideWords.{IsOutState, out-journal}
use Rattle.tam_flow.proofs.EventSizes.{grows-event}
use Rattle.tam_flow.proofs.ActivationCounts.{size-each}
use Rattle.tl0_code.specs.Machines.{Machine}
use Rattle.tl0_keep.proofs.code.ThreadKinds.{ThreadKind}
use Rattle.tl0_keep.proofs.runs.ClassGoals.{OthersAre}
use Rattle.tl0_keep.proofs.runs.Keeps.{Rests}
use Rattle.tl0_keep.proofs.giving.Places.{get-before, get-behind}

-- ---- journals with an event more

-- a legal journal with an event that may follow
pub legal-push : (g : Graph) (all : Partitions) (s : State) (es : List Event) (e : Event) → is_legal_from g all s es ≡ true
    → may_follow g all (state_from g all s es) e ≡ true → is_legal_from g all s (es ++ e ∷ []) ≡ true
legal-push g all s [] e l m = rw (is_legal_from, m) refl
legal-push g all s (x ∷ es) e l m = go (may_follow g all s x) refl (legal-push g all (after_event g all s x) es e)
  where
    go : (t : Bool) → may_follow g all s x ≡ t
        → (is_legal_from g all (after_event g all s x) es ≡ true → may_follow g all (state_from g all (after_event g all s x) es) e ≡ true
        → is_legal_from g all (after_event g all s x) (es ++ e ∷ []) ≡ true) → is_legal_from g all s (x ∷ (es ++ e ∷ [])) ≡ true
    go true p f = rw (is_legal_from, p) (f (rw (is_legal_from, p) at l) m)
    go false p f = absurd (true≢false (sym (rw (is_legal_from, p) at l)))

-- leads on
pub state-push : (g : Graph) (all : Partitions) (s : State) (es : List Event) (e : Event)
    → state_from g all s (es ++ e ∷ []) ≡ after_event g all (state_from g all s es) e
state-push g all s [] e = refl
state-push g all s (x ∷ es) e = state-push g all (after_event g all s x) es e

-- ---- the state of a run

-- the run is here: its journal, and as few activations and arrays as are asked for
pub record Here (g : Graph) (all : Partitions) (args : List ℕ) (limits : Limits) (m : Machine) : Type 0 where
  pub events : List Event
  pub legal : is_legal g all args events ≡ true
  pub others : List (ℕ × ThreadKind)
  pub rests : Rests g all m (state_after g all args events) others
  pub few : length (state_after g all args events).world.activations < 2 ^ 32
  pub sized : length (state_after g all args events).world.activations + length (state_after g all args events).ran ≤ m.events + 1
  pub arrays : length (state_after g all args events).world.arrays ≤ m.events
  pub within : m.events ≤ limits.budget
  -- each event is the run of a class, of thread 0 or of a connector, or a delivery
  pub counted : m.events ≡ length (state_after g all args events).ran + length others + length (state_after g all args events).arrived
  pub others_once : Distinct others
  pub others_are : OthersAre g all (state_after g all args events) others

module _ (g : Graph) (accepted : IsAccepted g) (all : Partitions) (valid : are_valid g all ≡ true) (args : List ℕ) (arguments : AreArguments g args)
    (limits : Limits) (ranges : AreLimits limits) where
  -- a journal with few activations and arrays
  pub journal-of : (es : List Event) → is_legal g all args es ≡ true → length (state_after g all args es).world.activations < 2 ^ 32
      → length (state_after g all args es).world.arrays ≤ limits.budget → IsJournal g all args es
  journal-of es l few arrays = record {
    accepted = accepted;
    arguments = arguments;
    valid = valid;
    legal = l;
    few_activations = few;
    few_arrays = let b = ranges.budget in omega arith;
  }

  module _ (m : Machine) (here : Here g all args limits m) where
    -- the journal's state
    abbrev pub s : State
    s = state_after g all args here.events

    -- its journal
    pub journal : IsJournal g all args here.events
    journal = journal-of here.events here.legal here.few (let a = here.arrays in let b = here.within in omega arith)

    -- so it is reached
    pub reached : IsReached g all args (state_after g all args here.events)
    reached = journals-reached g all args here.events journal

    -- a machine in which no event of the journal was made
    pub goes-beside : (u : Machine) (others : List (ℕ × ThreadKind)) → Rests g all u (state_after g all args here.events) others → u.events ≡ m.events + 1
        → m.events + 1 ≤ limits.budget → length others ≡ suc (length here.others) → Distinct others
        → OthersAre g all (state_after g all args here.events) others → (h : Here g all args limits u) × (h.events ≡ here.events)
    goes-beside u others rests e w more once are = (
      record {
        events = here.events;
        legal = here.legal;
        others = others;
        rests = rests;
        few = here.few;
        sized = let a = here.sized in omega arith;
        arrays = let a = here.arrays in omega arith;
        within = omega arith;
        counted = let a = here.counted in omega arith;
        others_once = once;
        others_are = are;
      },
      refl,
    )

    module _ (e : Event) (may : may_follow g all (state_after g all args here.events) e ≡ true) where
      -- the journal with it
      abbrev pub more : List Event
      more = here.events ++ e ∷ []

      -- leads on
      pub leads-on : state_after g all args (here.events ++ e ∷ []) ≡ after_event g all (state_after g all args here.events) e
      leads-on = state-push g all (initial g args) here.events e

      -- is legal
      pub legal-on : is_legal g all args (here.events ++ e ∷ []) ≡ true
      legal-on = legal-push g all (initial g args) here.events e here.legal may

      -- a machine behind the event
      pub goes-with : (u : Machine) (others : List (ℕ × ThreadKind)) → Rests g all u (after_event g all (state_after g all args here.events) e) others
          → u.events ≡ m.events + 1 → m.events + 1 ≤ limits.budget
          → length (after_event g all (state_after g all args here.events) e).world.activations < 2 ^ 32
          → length (after_event g all (state_after g all args here.events) e).world.activations
          + length (after_event g all (state_after g all args here.events) e).ran ≤ u.events + 1
          → u.events ≡ length (after_event g all (state_after g all args here.events) e).ran + length others
          + length (after_event g all (state_after g all args here.events) e).arrived
          → Distinct others
          → OthersAre g all (after_event g all (state_after g all args here.events) e) others
          → (h : Here g all args limits u) × (h.events ≡ here.events ++ e ∷ [])
      goes-with u others rests c w few sized counted once are = (
        record {
          events = here.events ++ e ∷ [];
          legal = legal-on;
          others = others;
          rests = subst (λ z. Rests g all u z others) (sym leads-on) rests;
          few = subst (λ (z : State). length z.world.activations < 2 ^ 32) (sym leads-on) few;
          sized = subst (λ (z : State). length z.world.activations + length z.ran ≤ u.events + 1) (sym leads-on) sized;
          arrays = subst (λ (z : State). length z.world.arrays ≤ u.events) (sym leads-on)
              (let a = here.arrays in let b = (grows-event g all (state_after g all args here.events) e).arrays in omega arith);
          within = omega arith;
          counted = subst (λ (z : State). u.events ≡ length z.ran + length others + length z.arrived) (sym leads-on) counted;
          others_once = once;
          others_are = subst (λ (z : State). OthersAre g all z others) (sym leads-on) are;
        },
        refl,
      )

      -- the journal with it, where activations stay few
      pub journal-on : length (after_event g all (state_after g all args here.events) e).world.activations < 2 ^ 32 → m.events + 1 ≤ limits.budget
          → IsJournal g all args (here.events ++ e ∷ [])
      journal-on few w = journal-of (here.events ++ e ∷ []) legal-on
          (subst (λ (z : State). length z.world.activations < 2 ^ 32) (sym leads-on) few)
          (subst (λ (z : State). length z.world.arrays ≤ limits.budget) (sym leads-on)
          (let a = here.arrays in let b = (grows-event g all (state_after g all args here.events) e).arrays in omega arith))

    -- a class that ran moves no activation
    pub run-size : (i b k : ℕ) → length (after_event g all (state_after g all args here.events) (Run i b k)).world.activations
        ≡ length (state_after g all args here.events).world.activations
    run-size i b k = size-each g (block_of_act g (state_after g all args here.events) i b) i
        (record { world = (state_after g all args here.events).world; sends = [] })
        (firing_order (block_of_act g (state_after g all args here.events) i b).edges (class_at (parts_of_act g all (state_after g all args here.events) i b)
        k))

    -- once a wish for an activation was sent some class has run, so activations stay few
    pub wish-few : (n c f x : ℕ) → slice_get (state_after g all args here.events).sent n ≡ Some (Begin c f x)
        → length (state_after g all args here.events).world.activations ≤ m.events
    wish-few n c f x h =
        let r = (reached.once.begin_sender n c f x h).2 in
        let z = some-run (state_after g all args here.events).ran f x r in
        let a = here.sized in omega arith
      where
        some-run : (l : List (ℕ × ℕ × ℕ)) (f x : ℕ) → outlet_ran g all (record (state_after g all args here.events) { ran = l }) f x ≡ true
            → 0 < length l
        some-run [] f x h =
            let t = record (state_after g all args here.events) { ran = [] } in
            let r = any-in (λ y. has_run t f (block_at (its_code g t.world f) x) (class_of (parts_of_act g all t f (block_at (its_code g t.world f) x)) y))
            (outlet_place (block_of_act g t f (block_at (its_code g t.world f) x)) x) h in
            absurd (true≢false (sym r.2))
        some-run (r ∷ l) f x h = omega arith

    -- no printed word has the place of one that is printed next
    pub unprinted : (n i u : ℕ) → (may : may_follow g all (state_after g all args here.events) (Deliver n) ≡ true) → m.events + 1 ≤ limits.budget
        → after_event g all (state_after g all args here.events) (Deliver n)
        ≡ record (state_after g all args here.events) {
          printed = (state_after g all args here.events).printed ++ (i, u) ∷ [];
          arrived =
              n ∷ (state_after g all args here.events).arrived;
        }
        → any_of (λ (kw : ℕ × ℕ). kw.0 == i) (state_after g all args here.events).printed ≡ false
    unprinted n i u may w is = go (any_of (λ (kw : ℕ × ℕ). kw.0 == i) (state_after g all args here.events).printed) refl
      where
        out : IsOutState g args all (state_after g all args (here.events ++ Deliver n ∷ []))
        out = out-journal g all args (here.events ++ Deliver n ∷ [])
            (journal-on (Deliver n) may (subst (λ (z : State). length z.world.activations < 2 ^ 32) (sym is) here.few) w)

        now : state_after g all args (here.events ++ Deliver n ∷ [])
            ≡ record (state_after g all args here.events) {
              printed = (state_after g all args here.events).printed ++ (i, u) ∷ [];
              arrived =
                  n ∷ (state_after g all args here.events).arrived;
            }
        now = leads-on (Deliver n) may ∙ is

        twice : (p v : ℕ) → slice_get (state_after g all args here.events).printed p ≡ Some (i, v) → ⊥
        twice p v h =
            let l : p < length (state_after g all args here.events).printed = slice_get_within (state_after g all args here.events).printed p (i, v) h in
            let e = out.once p (length (state_after g all args here.events).printed) i v u
            (ap (λ (z : State). slice_get z.printed p) now ∙ (get-before (state_after g all args here.events).printed ((i, u) ∷ []) p l ∙ h))
            (ap (λ (z : State). slice_get z.printed (length (state_after g all args here.events).printed)) now
            ∙ get-behind (state_after g all args here.events).printed (i, u)) in
            omega arith

        go : (t : Bool) → any_of (λ (kw : ℕ × ℕ). kw.0 == i) (state_after g all args here.events).printed ≡ t
            → any_of (λ (kw : ℕ × ℕ). kw.0 == i) (state_after g all args here.events).printed ≡ false
        go false p = p
        go true p =
            let r = any-in (λ (kw : ℕ × ℕ). kw.0 == i) (state_after g all args here.events).printed p in
            let q = in-get r.0 (state_after g all args here.events).printed r.1 in
            absurd (twice q.0 r.0.1 (q.1 ∙ ap (λ (z : ℕ). Some (z, r.0.1)) (number-eq r.0.0 i r.2)))

    -- ---- arrays are there

    -- an access to an array that is there finds it
    pub found-array : (rows : Arrays) (a j : ℕ) (go : Option Cell → Access) → a < length rows → ((c : Cell) → go (Some c) ≡ NoArray → ⊥)
        → in_array j go (slice_get rows a) ≡ NoArray → ⊥
    found-array rows a j go l h e = array (slice_get rows a) refl e
      where
        none : slice_get rows a ≡ None → ⊥
        none q = past rows a l q
          where
            past : (rows : Arrays) (a : ℕ) → a < length rows → slice_get rows a ≡ None → ⊥
            past [] a l q = omega arith
            past (r ∷ rows) zero l q = cc
            past (r ∷ rows) (suc a) l q = past rows a (omega arith) q

        cell : (cells : List Cell) (o : Option Cell) → slice_get cells j ≡ o → in_array j go (Some cells) ≡ NoArray → ⊥
        cell cells None q e = apart (rw (in_array, q) at e)
          where
            apart : {n : ℕ} → NotBelow n ≡ NoArray → ⊥
            apart z = cc
        cell cells (Some c) q e = h c (rw (in_array, q) at e)

        array : (o : Option (List Cell)) → slice_get rows a ≡ o → in_array j go o ≡ NoArray → ⊥
        array None q e = none q
        array (Some cells) q e = cell cells (slice_get cells j) refl e

    -- a word of a node with a depth is an array's
    pub deep : (i x u d : ℕ) → Has (state_after g all args here.events) i x u
        → depth_at (its_code g (state_after g all args here.events).world i) x ≡ suc d
        → u < length (state_after g all args here.events).world.arrays
    deep i x u d h e = let r = ((reached.words.suit i x u h).by_depth d e).0 in let z = reached.arrays.same_length in omega arith
