-- Each state that a legal journal leaves has its reasons.
use Rattle.std.proofs.Common.{◌≡◌, ℕ, zero, suc, ◌^◌, ◌+◌, ◌<◌, Bool, true, false, ◌==◌, ◌&&◌, not, List, [], ◌∷◌, ◌++◌, zip, Option, Some, None, is_none}
use Rattle.std.proofs.Common.{length, slice_get, nat_lt, refl, sym, ap, ◌∙◌, arith, subst, inr, true≢false}
use Rattle.std.specs.List.{AllByRecursion}
use Rattle.tam_word.specs.Lists.{any_of, below}
use Rattle.tam_graph.specs.declared.kind.Kind.TheVariants.{Param}
use Rattle.tam_graph.specs.Graphs.{Graph, code_of, kind_at, depth_at, node_where, is_param}
use Rattle.tam_graph.specs.Accepted.{IsAccepted}
use Rattle.tam_msgs.specs.declared.message.Message.{Message}
use Rattle.tam_msgs.specs.declared.message.Message.TheVariants.{Word as Carry}
use Rattle.tam_msgs.specs.Messages.{outside}
use Rattle.tam_istr.specs.Cells.{Cell}
use Rattle.tam_split.specs.Blocks.{block_graph}
use Rattle.tam_split.specs.Partitions.{class_at}
use Rattle.tam_split.specs.GraphPartitions.{Partitions, are_valid, firing_order}
use Rattle.tam_fire.specs.FiringRules.{Word, Begun, Entered, Holds, code_at, the_code, body_is_entered, root_has_begun, param_has}
use Rattle.tam_fire.proofs.Following.{holds-by}
use Rattle.tam_world.specs.Worlds.{Delivery, Went, Printed, Faulted, Fault, activation_at, its_code, has_entered, word_of, delivered, opening, argument_message}
use Rattle.tam_flow.specs.Journals.{State, Event, Run, Deliver, initial, has_run, class_fired, block_of_act, parts_of_act, inlets_have_words, those_before_ran}
use Rattle.tam_flow.specs.Journals.{or_message, after_delivery, deliver_all, after_event, may_run, may_arrive, may_follow, is_legal_from, state_from}
use Rattle.tam_flow.specs.Journals.{state_after}
use Rattle.tam_flow.specs.Told.{path_of}
use Rattle.tam_flow.specs.JournalLaws.{IsJournal}
use Rattle.tam_flow.specs.Reached.{IsThere}
use Rattle.tam_word.proofs.Tests.{and-left, and-right, not-true, number-eq, test-below, below-test}
use Rattle.tam_word.proofs.Each.{all-append, all-at_place, all-map, all-more, all-flat}
use Rattle.tam_flow.proofs.ActivationLists.{entered-first}
use Rattle.tam_flow.proofs.Growing.{grows-same}
use Rattle.tam_flow.proofs.Justified.{IsMessage, IsSoundWorld, messages-later}
use Rattle.tam_flow.proofs.CellChanges.{none-some, some-eq}
use Rattle.tam_flow.proofs.Deliveries.{IsSoundEffect, IsSoundDelivery, IsFault, deliver}
use Rattle.tam_flow.proofs.Nodes.{where-each, is-param, root-words}
use Rattle.tam_graph.proofs.BranchBlocks.{has-body}
use Rattle.tam_flow.proofs.FiringReasons.{no-call}
use Rattle.tam_flow.proofs.ClassRuns.{IsReady, order-each, vertex-each, class-inside, sound-each}
use Rattle.tam_flow.proofs.ActivationCounts.{size-from}

-- the state: its world, its messages, its runs and its fault
pub record IsSoundState (g : Graph) (args : List ℕ) (s : State) : Type 0 where
  pub world : IsSoundWorld g args s.world
  pub sent : AllByRecursion (IsMessage g args s.world) s.sent
  pub ran : (i b c : ℕ) → has_run s i b c ≡ true → IsThere s.world i × (has_entered s.world i b ≡ true)
  pub faulty : (f : Fault) → s.fault ≡ Some f → IsFault g args s.world f

-- what is known of a class that may run
pub record IsRunnable (g : Graph) (all : Partitions) (s : State) (i b c : ℕ) : Type 0 where
  pub there : IsThere s.world i
  pub class : c < length (parts_of_act g all s i b)
  pub once : has_run s i b c ≡ false
  pub open_block : has_entered s.world i b ≡ true
  pub inlets : inlets_have_words (block_of_act g s i b) s i (class_at (parts_of_act g all s i b) c) ≡ true
  pub before : those_before_ran (block_of_act g s i b) (parts_of_act g all s i b) s i b c ≡ true

-- what passes the test may run
pub runnable : (g : Graph) (all : Partitions) (s : State) (i b c : ℕ) → may_run g all s i b c ≡ true → IsRunnable g all s i b c
runnable g all s i b c h = record {
  there = test-below i (length s.world.activations) (and-left t1 (t2 && (t3 && (t4 && (t5 && t6)))) h);
  class = test-below c (length (parts_of_act g all s i b)) (and-left t2 (t3 && (t4 && (t5 && t6))) h2);
  once = not-true (has_run s i b c) (and-left t3 (t4 && (t5 && t6)) h3);
  open_block = and-left t4 (t5 && t6) h4;
  inlets = and-left t5 t6 h5;
  before = and-right t5 t6 h5;
}
  where
    t1 : Bool
    t1 = nat_lt i (length s.world.activations)

    t2 : Bool
    t2 = nat_lt c (length (parts_of_act g all s i b))

    t3 : Bool
    t3 = not (has_run s i b c)

    t4 : Bool
    t4 = has_entered s.world i b

    t5 : Bool
    t5 = inlets_have_words (block_of_act g s i b) s i (class_at (parts_of_act g all s i b) c)

    t6 : Bool
    t6 = those_before_ran (block_of_act g s i b) (parts_of_act g all s i b) s i b c

    h2 : (t2 && (t3 && (t4 && (t5 && t6)))) ≡ true
    h2 = and-right t1 (t2 && (t3 && (t4 && (t5 && t6)))) h

    h3 : (t3 && (t4 && (t5 && t6))) ≡ true
    h3 = and-right t2 (t3 && (t4 && (t5 && t6))) h2

    h4 : (t4 && (t5 && t6)) ≡ true
    h4 = and-right t3 (t4 && (t5 && t6)) h3

    h5 : (t5 && t6) ≡ true
    h5 = and-right t4 (t5 && t6) h4

-- ---- the beginning

-- numbers from k on
abbrev pub counted : ℕ → ℕ → List ℕ
counted k zero = []
counted k (suc n) = k ∷ counted (suc k) n

-- counting on by one more
counted-more : (k n : ℕ) → counted k n ++ (k + n) ∷ [] ≡ counted k (suc n)
counted-more k zero = let e : k + 0 ≡ k = omega arith in ap (λ m. m ∷ []) e
counted-more k (suc n) = let e : k + suc n ≡ suc k + n = omega arith in ap (λ l. k ∷ l) (ap (λ m. counted (suc k) n ++ m ∷ []) e ∙ counted-more (suc k) n)

-- the numbers below n, counted from the front
pub below-counted : (n : ℕ) → below n ≡ counted 0 n
below-counted zero = refl
below-counted (suc n) = let e : n ≡ 0 + n = omega arith in ap (λ l. l ++ n ∷ []) (below-counted n) ∙ ap (λ m. counted 0 n ++ m ∷ []) e ∙ counted-more 0 n

-- each element of a list beside its place
placed-from : (all xs : List ℕ) (k : ℕ) → ((j : ℕ) → slice_get all (k + j) ≡ slice_get xs j)
    → AllByRecursion (λ e. slice_get all e.0 ≡ Some e.1) (zip (counted k (length xs)) xs)
placed-from all [] k h = tt
placed-from all (x ∷ xs) k h =
    let e : k + 0 ≡ k = omega arith in (
      subst (λ m. slice_get all m ≡ Some x) e (h 0),
      placed-from all xs (suc k)
          (λ j. let d : suc k + j ≡ k + suc j = omega arith in ap (slice_get all) d ∙ h (suc j)),
    )

-- each argument stands at its place
placed-each : (xs : List ℕ) → AllByRecursion (λ e. slice_get xs e.0 ≡ Some e.1) (zip (below (length xs)) xs)
placed-each xs =
    subst (λ l. AllByRecursion (λ e. slice_get xs e.0 ≡ Some e.1) (zip l xs)) (sym (below-counted (length xs)))
    (placed-from xs xs 0 (λ j. let e : 0 + j ≡ j = omega arith in ap (slice_get xs) e))

module _ (g : Graph) (args : List ℕ) (accepted : IsAccepted g) where
  -- at the opening the root alone is there
  only-root : (i : ℕ) → IsThere (opening g) i → i ≡ 0
  only-root i t = omega arith

  -- a code has a body
  pub opened : (c : ℕ) → c < length g.codes → 0 < length (code_of g c).owners
  opened c l = has-body (length g.codes) (code_of g c) (accepted.written c (below-test c (length g.codes) l))

  -- the main code is there
  main-there : g.main < length g.codes
  main-there = test-below g.main (length g.codes) accepted.has_main

  -- an empty list has no head
  nothing : {a : ℕ} {l : List ℕ} → [] ≡ a ∷ l → ⊥
  nothing e = cc

  -- nothing is no cell
  no-cell : {c : Cell} → None ≡ Some c → ⊥
  no-cell e = none-some e

  -- the opening has its reasons
  sound-opening : IsSoundWorld g args (opening g)
  sound-opening = record {
    codes = λ i t. subst (λ j. (activation_at (opening g) j).code < length g.codes) (sym (only-root i t)) main-there;
    path_codes = λ i t. subst (λ j. code_at g (path_of (opening g) j) ≡ (activation_at (opening g) j).code) (sym (only-root i t)) refl;
    callers = λ i t e. absurd (true≢false (subst (λ j. ((activation_at (opening g) j).caller == outside) ≡ false) (only-root i t) e));
    began = λ i t. subst (λ j. Holds g args (Begun (path_of (opening g) j))) (sym (only-root i t)) (0, root_has_begun);
    blocks = λ i b t h. block i b (only-root i t) h;
    words = λ i x u t h. absurd (nothing (subst (λ j. word_of (opening g) j x ≡ u ∷ []) (only-root i t) h));
    as_many = refl;
    made = λ a l. absurd (omega arith);
    cells = λ a j c e. absurd (no-cell e);
  }
    where
      block : (i b : ℕ) → i ≡ 0 → has_entered (opening g) i b ≡ true
          → Holds g args (Entered (path_of (opening g) i) b) × (b < length (the_code g (path_of (opening g) i)).owners)
      block i b e h =
          subst (λ j. Holds g args (Entered (path_of (opening g) j) b) × (b < length (the_code g (path_of (opening g) j)).owners)) (sym e)
          (subst (λ d. Holds g args (Entered [] d) × (d < length (the_code g []).owners))
          (entered-first b (subst (λ j. has_entered (opening g) j b ≡ true) e h))
          (holds-by g args body_is_entered ((0, root_has_begun), tt), opened g.main main-there))

  -- an argument on its way has its reason
  argument-message : (k v : ℕ) → slice_get args k ≡ Some v → AllByRecursion (IsMessage g args (opening g)) (argument_message g (k, v))
  argument-message k v e =
      all-map (IsMessage g args (opening g)) (λ x. Carry 0 x v) (node_where (code_of g g.main) (is_param k))
      (all-more (λ x. (x < length (code_of g g.main).nodes) × (is_param k (kind_at (code_of g g.main) x) ≡ true))
      (λ x. IsMessage g args (opening g) (Carry 0 x v)) each
      (node_where (code_of g g.main) (is_param k)) (where-each (code_of g g.main) (is_param k)))
    where
      flat : (b : Bool) → not b ≡ false → b ≡ true
      flat true h = refl
      flat false h = absurd (true≢false h)

      each : (x : ℕ) → (x < length (code_of g g.main).nodes) × (is_param k (kind_at (code_of g g.main) x) ≡ true) → IsMessage g args (opening g) (Carry 0 x v)
      each x m =
          let kind : kind_at (code_of g g.main) x ≡ Param k = is-param k _ m.1 in
          let deep : depth_at (code_of g g.main) x ≡ 0 = number-eq _ _ (flat _ (root-words g accepted g.main main-there x (Param k) m.0 kind refl)) in
          let here : 0 < 1 = omega arith in
          inr (
            [],
            (here, refl),
            record {
              value = Word v;
              means = inr (no-call _ (Param k) kind refl, rw deep refl);
              holds = (0, param_has kind e);
            },
          )

  -- so the state at the beginning has its reasons
  pub sound-initial : IsSoundState g args (initial g args)
  sound-initial = record {
    world = sound-opening;
    sent = all-flat (IsMessage g args (opening g)) (argument_message g) (zip (below (length args)) args)
        (all-more (λ e. slice_get args e.0 ≡ Some e.1) (λ e. AllByRecursion (IsMessage g args (opening g)) (argument_message g e))
        (λ e h. argument-message e.0 e.1 h)
        (zip (below (length args)) args) (placed-each args));
    ran = λ i b c h. absurd (true≢false (sym h));
    faulty = λ f e. absurd (none-some e);
  }

  -- ---- a class runs

  -- what passes the test of no fault has none
  pub no-fault : (o : Option Fault) → is_none o ≡ true → o ≡ None
  no-fault None h = refl
  no-fault (Some f) h = absurd (true≢false (sym h))

  -- what is known of the run of a class that may run
  module _ (all : Partitions) (s : State) (i b c : ℕ) (valid : are_valid g all ≡ true) (sound : IsSoundState g args s) (run : IsRunnable g all s i b c) where
    -- the block of a run is entered, and is a block of the code
    run-entered : Holds g args (Entered (path_of s.world i) b) × (b < length (the_code g (path_of s.world i)).owners)
    run-entered = sound.world.blocks i b run.there run.open_block

    -- and so of the activation's code
    pub run-block : b < length (its_code g s.world i).owners
    run-block = subst (λ n. b < length (code_of g n).owners) (sound.world.path_codes i run.there) run-entered.1

    -- each vertex of it is ready
    pub run-ready : (y : ℕ) → y < length (block_graph (its_code g s.world i) b).vertices
        → IsReady g args accepted s.world i run.there (block_graph (its_code g s.world i) b) y
    run-ready y l none =
        let v = vertex-each (its_code g s.world i) b y l in
        (v.0, subst (λ d. Holds g args (Entered (path_of s.world i) d)) (sym v.1) run-entered.0)

    -- the places of the class are places of the block
    pub run-within : AllByRecursion (λ y. y < length (block_graph (its_code g s.world i) b).vertices) (class_at (parts_of_act g all s i b) c)
    run-within = class-inside g all (activation_at s.world i).code b c valid (sound.world.codes i run.there) run-block

    -- the places that fire
    abbrev pub run_order : List ℕ
    run_order = firing_order (block_of_act g s i b).edges (class_at (parts_of_act g all s i b) c)

    -- so each vertex of the class is ready, in the order of firing
    pub order-ready : AllByRecursion (IsReady g args accepted s.world i run.there (block_of_act g s i b)) run_order
    order-ready =
        order-each (IsReady g args accepted s.world i run.there (block_of_act g s i b)) (block_of_act g s i b).edges (class_at (parts_of_act g all s i b) c)
        (all-more (λ y. y < length (block_graph (its_code g s.world i) b).vertices)
        (IsReady g args accepted s.world i run.there (block_of_act g s i b)) run-ready
        (class_at (parts_of_act g all s i b) c) run-within)

    -- and the run has its reasons
    pub run-effect : IsSoundEffect g args s.world (class_fired g all s i b c)
    run-effect =
        sound-each g args accepted s.world i run.there (block_of_act g s i b) (record { world = s.world; sends = [] }) run_order
        (record { world = sound.world; grows = grows-same s.world; sends = tt }) order-ready

  -- a run leaves a state that has its reasons
  sound-run : (all : Partitions) (s : State) (i b c : ℕ) → are_valid g all ≡ true → IsSoundState g args s → may_follow g all s (Run i b c) ≡ true
      → IsSoundState g args (after_event g all s (Run i b c))
  sound-run all s i b c valid sound may = record {
    world = effect.world;
    sent = all-append (IsMessage g args (class_fired g all s i b c).world) s.sent (class_fired g all s i b c).sends
        (messages-later g args s.world (class_fired g all s i b c).world effect.grows s.sent sound.sent) effect.sends;
    ran = λ j d e h. later j d (runs j d e h);
    faulty = λ f e. absurd (none-some (sym (no-fault (s.fault) (and-left (is_none s.fault) (may_run g all s i b c) may)) ∙ e));
  }
    where
      running : IsRunnable g all s i b c
      running = runnable g all s i b c (and-right (is_none s.fault) (may_run g all s i b c) may)

      effect : IsSoundEffect g args s.world (class_fired g all s i b c)
      effect = run-effect all s i b c valid sound running

      runs : (j d e : ℕ) → has_run (after_event g all s (Run i b c)) j d e ≡ true → IsThere s.world j × (has_entered s.world j d ≡ true)
      runs j d e h = go ((i == j) && ((b == d) && (c == e))) refl
        where
          go : (t : Bool) → ((i == j) && ((b == d) && (c == e))) ≡ t → IsThere s.world j × (has_entered s.world j d ≡ true)
          go true k =
              let first : i ≡ j = number-eq i j (and-left _ _ k) in
              let second : b ≡ d = number-eq b d (and-left _ _ (and-right _ _ k)) in
              subst (λ m. IsThere s.world m × (has_entered s.world m d ≡ true)) first
              (subst (λ m. IsThere s.world i × (has_entered s.world i m ≡ true)) second (running.there, running.open_block))
          go false k = sound.ran j d e (rw (any_of, k) at h)

      later : (j d : ℕ) → IsThere s.world j × (has_entered s.world j d ≡ true)
          → IsThere (class_fired g all s i b c).world j × (has_entered (class_fired g all s i b c).world j d ≡ true)
      later j d h = (effect.grows.there j h.0, effect.grows.blocks j d h.0 h.1)

  -- ---- a message arrives

  -- and so does a delivery
  pub sound-delivery : (s : State) (m : ℕ) (d : Delivery) → s.fault ≡ None → IsSoundState g args s → IsSoundDelivery g args s.world d
      → IsSoundState g args (after_delivery s m d)
  sound-delivery s m (Went e) whole sound h = record {
    world = h.world;
    sent = all-append (IsMessage g args e.world) s.sent e.sends (messages-later g args s.world e.world h.grows s.sent sound.sent) h.sends;
    ran = λ i b c r. let k = sound.ran i b c r in (h.grows.there i k.0, h.grows.blocks i b k.0 k.1);
    faulty = λ f r. absurd (none-some (sym whole ∙ r));
  }
  sound-delivery s m (Printed k v) whole sound h = record { world = sound.world; sent = sound.sent; ran = sound.ran; faulty = sound.faulty }
  sound-delivery s m (Faulted f) whole sound h =
      record { world = sound.world; sent = sound.sent; ran = sound.ran; faulty = λ e r. subst (λ x. IsFault g args s.world x) (some-eq r) h }

  -- ---- any event, and many

  -- so does each event
  pub sound-event : (all : Partitions) (s : State) (e : Event) → are_valid g all ≡ true → length s.world.activations < 2 ^ 32 → IsSoundState g args s
      → may_follow g all s e ≡ true → IsSoundState g args (after_event g all s e)
  sound-event all s (Run i b c) valid few sound may = sound-run all s i b c valid sound may
  sound-event all s (Deliver m) valid few sound may = go (slice_get s.sent m) refl
    where
      whole : s.fault ≡ None
      whole = no-fault s.fault (and-left (is_none s.fault) (may_arrive s m) may)

      go : (o : Option Message) → slice_get s.sent m ≡ o → IsSoundState g args (deliver_all s m (or_message o))
      go None e = sound
      go (Some x) e =
          sound-delivery s m (delivered s.world x) whole sound
          (deliver g args s.world sound.world few opened x (all-at_place (IsMessage g args s.world) s.sent m x sound.sent e))

  -- and each legal journal
  sound-from : (all : Partitions) (s : State) (es : List Event) → are_valid g all ≡ true → length (state_from g all s es).world.activations < 2 ^ 32
      → IsSoundState g args s
      → is_legal_from g all s es ≡ true → IsSoundState g args (state_from g all s es)
  sound-from all s [] valid few sound legal = sound
  sound-from all s (e ∷ es) valid few sound legal = go (may_follow g all s e) refl (sound-from all (after_event g all s e) es valid few)
    where
      go : (t : Bool) → may_follow g all s e ≡ t → (IsSoundState g args (after_event g all s e) → is_legal_from g all (after_event g all s e) es ≡ true
          → IsSoundState g args (state_from g all (after_event g all s e) es)) → IsSoundState g args (state_from g all (after_event g all s e) es)
      go true k ih = ih (sound-event all s e valid (let n = size-from g all s (e ∷ es) in omega (arith, n, few)) sound k) (rw (is_legal_from, k) at legal)
      go false k ih = absurd (true≢false (sym (rw (is_legal_from, k) at legal)))

-- the state behind a journal has its reasons
pub sound-journal : (g : Graph) (all : Partitions) (args : List ℕ) (events : List Event) → IsJournal g all args events
    → IsSoundState g args (state_after g all args events)
sound-journal g all args events journal =
    sound-from g args journal.accepted all (initial g args) events journal.valid journal.few_activations (sound-initial g args journal.accepted) journal.legal
