-- The run of a class's thread: vertex by vertex in firing order it does what the journal's run does, and then come the forks.
use Rattle.std.proofs.Common.{◌≡◌, ℕ, zero, suc, ◌<◌, Bool, true, false, ◌==◌, ◌&&◌, List, [], ◌∷◌, ◌++◌, map, filter, flat_map, length, refl, sym}
use Rattle.std.proofs.Common.{ap, ◌∙◌, subst}
use Rattle.std.proofs.Common.{inl, inr, ⊎_elim}
use Rattle.std.specs.List.{AllByRecursion}
use Rattle.std.proofs.lemmas.List.{append-nil, append_assoc}
use Rattle.std.proofs.lemmas.Option.{slice_get_within}
use Rattle.tam_word.specs.Lists.{any_of, below}
use Rattle.tam_word.proofs.Members.{In, all-in, in-has, below-in}
use Rattle.tam_word.proofs.Tests.{number-eq, self-eq, true-both}
use Rattle.tam_msgs.specs.declared.message.Message.{Message}
use Rattle.tam_graph.specs.Graphs.{Code, Graph, code_of, kind_at, block_at, operands_of, is_inlet, has_value, owner_of, chosen_branch}
use Rattle.tam_graph.specs.Accepted.{IsAccepted}
use Rattle.tam_graph.proofs.Walks.{is_edge}
use Rattle.tam_split.specs.Blocks.{BlockGraph, block_graph, vertex_at, or_vertex, vertices_in}
use Rattle.tam_split.specs.Partitions.{Parts, class_at, class_of, directly_before}
use Rattle.tam_split.specs.GraphPartitions.{Partitions, are_valid, firing_order}
use Rattle.tam_split.proofs.BlockVertices.{place-at}
use Rattle.tam_split.proofs.Firers.{Giver, giver-at, giver-inlet, operand-edge}
use Rattle.tam_split.proofs.LeastClasses.{IsValidAt, valid-at, class-below, class-only}
use Rattle.tam_world.specs.Worlds.{World, Effect, activation_at, its_code, word_of, has_entered, fired, firing_of}
use Rattle.tam_flow.specs.Journals.{State, Run, has_run, fire_each, class_fired, block_of_act, parts_of_act, after_event}
use Rattle.tam_flow.specs.Reached.{IsThere, IsReached, HasArrived, kind_of}
use Rattle.tam_flow.proofs.ActivationCounts.{then_one}
use Rattle.tam_flow.proofs.ClassRuns.{vertex-each, IsReady, sound-one, order-each}
use Rattle.tam_flow.proofs.Acyclic.{IsAcyclic, order-distinct, block-acyclic}
use Rattle.tam_flow.proofs.Deliveries.{IsSoundEffect}
use Rattle.tam_flow.proofs.FiringOrder.{IsOrdered, order-ordered}
use Rattle.tam_flow.proofs.Growing.{grows-same}
use Rattle.tam_flow.proofs.Pairs.{NoTwice}
use Rattle.tam_word.proofs.Each.{each-in, in-each, all-more}
use Rattle.tam_flow.proofs.FiringReasons.{HaveThese}
use Rattle.tam_flow.proofs.Gifts.{SameFrames, leaves-firing}
use Rattle.tam_flow.proofs.Kept.{word-act, kept-same, wish-same}
use Rattle.tam_flow.proofs.KeptFirings.{fresh}
use Rattle.tam_flow.proofs.KeptRuns.{IsTagged, IsOfFiring, IsKeptState, IsKeptRun, FiredWith, operand-has, fires-first, directly-before, kept-one}
use Rattle.tam_flow.proofs.KeptEvents.{run-onward}
use Rattle.tam_flow.proofs.Onward.{have-all, fires-with, onward-same}
use Rattle.tam_flow.proofs.Operands.{operand-taken}
use Rattle.tam_flow.proofs.SentOnce.{HasFired}
use Rattle.tam_flow.proofs.SoundStates.{IsSoundState, IsRunnable, run-block, order-ready, run-within}
use Rattle.tl0_code.specs.declared.instr.Instr.{Instr}
use Rattle.tl0_code.specs.Machines.{Machine, Plain, slot, Progress, Fine, Broken, spend, done, then_do, done_all}
use Rattle.tl0_keep.specs.Compiled.{slot_of, instrs_of, vertex_instrs, forks_to, parts_at, thread_of_class, inlet_place}
use Rattle.tl0_keep.proofs.code.ThreadKinds.{ThreadKind, Class, Word_of, Behind, number_of_thread, parts_for}
use Rattle.tl0_keep.proofs.code.InletVertices.{inlet-place_is}
use Rattle.tl0_keep.proofs.runs.Keeps.{Owed, ticket, parts_in, Keeps}
use Rattle.tl0_keep.proofs.code.CodeFacts.{CodeFacts}
use Rattle.tl0_keep.proofs.class_run.Slots.{operand-slot}
use Rattle.tl0_keep.proofs.class_run.Step.{fired_state, HaveSlots, IsFiring, HasCalls, Does}
use Rattle.tl0_keep.proofs.class_run.Branching.{CanSpend}
use Rattle.tl0_keep.proofs.class_run.Conds.{branch-kind}
use Rattle.tl0_keep.proofs.class_run.Fired.{does-node}
use Rattle.tl0_keep.proofs.class_run.Middle.{node-worded, call-came, first-entered, has-calls}
use Rattle.tl0_keep.proofs.class_run.Places.{has-places}

-- ---- instructions in turn

-- instructions behind instructions
pub done-append : (m k : Machine) (f : ℕ) (is js : List Instr) → done_all Plain m f is ≡ Fine k → done_all Plain m f (is ++ js) ≡ done_all Plain k f js
done-append m k f [] js e = ap (λ (r : Progress). then_do r (λ n. done_all Plain n f js)) e
done-append m k f (i ∷ is) js e = go (done Plain m f i) refl (λ n h. done-append n k f is js h)
  where
    go : (r : Progress) → done Plain m f i ≡ r → ((n : Machine) → done_all Plain n f is ≡ Fine k → done_all Plain n f (is ++ js) ≡ done_all Plain k f js)
        → then_do (done Plain m f i) (λ n. done_all Plain n f (is ++ js)) ≡ done_all Plain k f js
    go (Fine n) q more = ap (λ (r : Progress). then_do r (λ n. done_all Plain n f (is ++ js))) q
        ∙ more n (sym (ap (λ (r : Progress). then_do r (λ n. done_all Plain n f is)) q) ∙ e)
    go (Broken what n) q more = absurd (broken (sym (ap (λ (r : Progress). then_do r (λ n. done_all Plain n f is)) q) ∙ e))
      where
        broken : Broken what n ≡ Fine k → ⊥
        broken h = cc

-- and what they do in turn
pub does-both : (g : Graph) (all : Partitions) (others : List (ℕ × ThreadKind)) (m : Machine) (i : ℕ) (is js : List Instr) (u v : State) (due late : List Owed)
    → (first : Does g all others m i is u due) → Does g all others first.machine i js v late → Does g all others m i (is ++ js) v late
does-both g all others m i is js u v due late first then =
    record { machine = then.machine; does = done-append m first.machine i is js first.does ∙ then.does; keeps = then.keeps }

-- the slots of operands, one by one
pub slots-each : (m : Machine) (w : World) (i : ℕ) (c : Code) (xs vs : List ℕ) → HaveThese w i xs vs
    → ((a u : ℕ) → In a xs → word_of w i a ≡ u ∷ [] → slot m i (slot_of c a) ≡ u) → HaveSlots m i c xs vs
slots-each m w i c [] [] have each = tt
slots-each m w i c [] (v ∷ vs) have each = absurd have
slots-each m w i c (x ∷ xs) [] have each = absurd have
slots-each m w i c (x ∷ xs) (v ∷ vs) have each = (each x v (inl refl) have.0, slots-each m w i c xs vs have.1 (λ a u h k. each a u (inr h) k))

-- frames that stay through a world between
pub frames-on : (u v w : World) → SameFrames u v → SameFrames v w → SameFrames u w
frames-on u v w h k = record {
  as_many = k.as_many ∙ h.as_many;
  code = λ j. k.code j ∙ h.code j;
  caller = λ j. k.caller j ∙ h.caller j;
  call = λ j. k.call j ∙ h.call j;
}

-- what differs from each element of a list isn't in it
none-twice : (y z : ℕ) (ys : List ℕ) → AllByRecursion (λ x. y ≡ x → ⊥) ys → y ≡ z → In z ys → ⊥
none-twice y z ys h e m = each-in (λ x. y ≡ x → ⊥) ys z h m e

-- frames stay
frames-same : (w : World) → SameFrames w w
frames-same w = record { as_many = refl; code = λ j. refl; caller = λ j. refl; call = λ j. refl }

-- ---- the run

module _ (g : Graph) (args : List ℕ) (accepted : IsAccepted g) (all : Partitions) (valid : are_valid g all ≡ true) (s : State) (sound : IsSoundState g args s)
    (state : IsKeptState g all s) (i b c : ℕ) (run : IsRunnable g all s i b c) (reached : IsReached g all args s) (others : List (ℕ × ThreadKind))
    (facts : CodeFacts g all) (can : CanSpend g all others) where
  -- the code of the activation
  abbrev pub the_code : Code
  the_code = its_code g s.world i

  abbrev pub the_block : BlockGraph
  the_block = block_of_act g s i b

  abbrev pub the_parts : Parts
  the_parts = parts_of_act g all s i b

  abbrev pub the_class : List ℕ
  the_class = class_at (parts_of_act g all s i b) c

  -- the state in the middle of the run
  abbrev pub middle : Effect → State
  middle e = record s { world = e.world; sent = s.sent ++ e.sends; ran = (i, b, c) ∷ s.ran }

  -- the class has run there, and those before it
  ran-now : (e : Effect) → has_run (middle e) i b c ≡ true
  ran-now e = rw (any_of, true-both (i == i) ((b == b) && (c == c)) (self-eq i) (true-both (b == b) (c == c) (self-eq b) (self-eq c))) refl

  ran-before : (e : Effect) (j d k : ℕ) → has_run s j d k ≡ true → has_run (middle e) j d k ≡ true
  ran-before e j d k h = go ((i == j) && ((b == d) && (c == k))) refl
    where
      go : (t : Bool) → ((i == j) && ((b == d) && (c == k))) ≡ t → has_run (middle e) j d k ≡ true
      go true q = rw (any_of, q) refl
      go false q = rw (any_of, q) h

  code-there : (activation_at s.world i).code < length g.codes
  code-there = sound.world.codes i run.there

  parts-valid : IsValidAt the_block the_parts
  parts-valid = valid-at g all (activation_at s.world i).code b valid code-there (run-block g args accepted all s i b c valid sound run)

  module _ (due : List Owed) (done : List ℕ) (e : Effect) (m : Machine) (so_far : IsKeptRun g args accepted all valid s sound state i b c run done e)
      (frames : SameFrames s.world e.world) (keeps : Keeps g all m (middle e) others due) (y : ℕ) (inside : In y the_class)
      (within : y < length the_block.vertices) (before : (d : ℕ) → In d the_class → is_edge the_block.edges d y ≡ true → In d done)
      (new : In y done → ⊥) (places : (z : ℕ) → In z done → z < length the_block.vertices) (fires : (vertex_at the_block y).inlet ≡ false) where
    -- the node of the place
    abbrev the_node : ℕ
    the_node = (vertex_at (block_of_act g s i b) y).node

    in-block : (the_node < length the_code.nodes) × (block_at the_code the_node ≡ b)
    in-block = vertex-each the_code b y within

    -- the class of an operand that is an inlet has run
    operand-ran : (a : ℕ) → In a (operands_of the_code (kind_at the_code the_node)) → is_inlet (kind_at the_code a) ≡ true
        → has_run (middle e) i (block_at the_code a) (class_of (parts_at (parts_for all (activation_at s.world i).code) (block_at the_code a))
        (inlet_place (block_graph the_code (block_at the_code a)) a)) ≡ true
    operand-ran a h t =
        let taken = operand-taken g accepted (activation_at s.world i).code code-there the_node a (kind_at the_code the_node) in-block.0 refl h in
        let here : block_at the_code a ≡ b = taken.1 ∙ in-block.1 in
        let giver = giver-at the_code a (below-in a (length the_code.nodes) taken.0.there) in
        at-place a giver.0 t here (subst (λ k. Giver the_code k giver.0 a) here giver.1)
        (operand-edge the_code b giver.0 y the_node a
        (record { vertex = vertex_at the_block y; stands = place-at the_code b y within; of_node = refl; no_inlet = fires })
        (subst (λ k. Giver the_code k giver.0 a) here giver.1) h)
      where
        at-place : (a d : ℕ) → is_inlet (kind_at the_code a) ≡ true → block_at the_code a ≡ b → Giver the_code b d a → In (d, y) the_block.edges
            → has_run (middle e) i (block_at the_code a) (class_of (parts_at (parts_for all (activation_at s.world i).code) (block_at the_code a))
            (inlet_place (block_graph the_code (block_at the_code a)) a)) ≡ true
        at-place a d t here giver edge = subst (λ k. has_run (middle e) i k (class_of (parts_at (parts_for all (activation_at s.world i).code) k)
            (inlet_place (block_graph the_code k) a)) ≡ true) (sym here)
            (subst (λ z. has_run (middle e) i b (class_of the_parts z) ≡ true) (sym is) (go (class_of the_parts d == c) refl))
          where
            place : d < length the_block.vertices
            place = slice_get_within (vertices_in the_code b) d giver.vertex giver.stands

            vertex : vertex_at the_block d ≡ giver.vertex
            vertex = ap or_vertex giver.stands

            is : inlet_place (block_graph the_code b) a ≡ d
            is = inlet-place_is the_code b d a (record {
              inside = place;
              inlet = ap (λ v. v.inlet) vertex ∙ (giver-inlet the_code b d a giver ∙ t);
              of_node = ap (λ v. v.node) vertex ∙ giver.of_node;
            })

            go : (t : Bool) → (class_of the_parts d == c) ≡ t → has_run (middle e) i b (class_of the_parts d) ≡ true
            go true p = subst (λ k. has_run (middle e) i b k ≡ true) (sym (number-eq (class_of the_parts d) c p)) (ran-now e)
            go false p = ran-before e i b (class_of the_parts d) (ran p)
              where
                ran : (class_of the_parts d == c) ≡ false → has_run s i b (class_of the_parts d) ≡ true
                ran differ =
                    let own_class = class-only the_parts c y (parts-valid.once y within) (in-has the_class y inside) in
                    let h = all-in _ (below (length the_parts)) run.before (class_of the_parts d)
                    (below-in (class_of the_parts d) (length the_parts) (class-below the_parts d (parts-valid.once d place))) in
                    rw (directly-before the_block.edges the_parts d y c edge own_class differ) at h

    code : (activation_at e.world i).code ≡ (activation_at s.world i).code
    code = frames.code i

    there : IsThere e.world i
    there = so_far.on.there i run.there

    -- it fires for the first time, in a block that is entered
    first : FiredWith g args accepted all valid s sound state i b c run done i the_node → ⊥
    first = fires-first g args accepted all valid s sound state i b c run done e so_far y inside within before new fires places

    opened : has_entered e.world i (block_at (its_code g e.world i) the_node) ≡ true
    opened = subst (λ n. has_entered e.world i (block_at (code_of g n) the_node) ≡ true) (sym code)
        (subst (λ k. has_entered e.world i k ≡ true) (sym in-block.1) (so_far.on.blocks i b run.open_block))

    known : (activation_at e.world i).code < length g.codes
    known = subst (λ n. n < length g.codes) (sym code) code-there

    -- the words of its operands
    have : (vs : List ℕ) × HaveThese e.world i (operands_of (its_code g e.world i) (kind_of g e.world i the_node)) vs
    have = have-all e.world i (operands_of (its_code g e.world i) (kind_of g e.world i the_node))
        (λ a h. operand-has g args accepted all valid s sound state i b c run done e so_far y inside within before fires a
        (subst (λ n. In a (operands_of (code_of g n) (kind_at (code_of g n) the_node))) code h))

    is-firing : IsFiring g (middle e) m i the_node have.0
    is-firing = record {
      there = there;
      inside = subst (λ n. the_node < length (code_of g n).nodes) (sym code) in-block.0;
      have = have.1;
      slots = slots-each m e.world i (its_code g e.world i) (operands_of (its_code g e.world i) (kind_of g e.world i the_node)) have.0 have.1 slot-of;
      fresh = λ z t h w. fresh g accepted e.world (FiredWith g args accepted all valid s sound state i b c run done) (IsTagged so_far.tags) (HasArrived s)
          so_far.kept i
          there known the_node have.0 first opened z t h w;
      not_entered = λ d h w. first-entered g e.world (FiredWith g args accepted all valid s sound state i b c run done) (IsTagged so_far.tags) (HasArrived s)
          so_far.kept i
          the_node have.0 there first owners d h w;
      worded = λ j z u h. node-worded g e.world (FiredWith g args accepted all valid s sound state i b c run done) (IsTagged so_far.tags) (HasArrived s)
          so_far.kept j z u h;
    }
      where
        slot-of : (a u : ℕ) → In a (operands_of (its_code g e.world i) (kind_of g e.world i the_node)) → word_of e.world i a ≡ u ∷ []
            → slot m i (slot_of (its_code g e.world i) a) ≡ u
        slot-of a u h w =
            let mine = subst (λ n. In a (operands_of (code_of g n) (kind_at (code_of g n) the_node))) code h in
            let taken = operand-taken g accepted (activation_at s.world i).code code-there the_node a (kind_at the_code the_node) in-block.0 refl mine in
            operand-slot g all others facts m (middle e) due keeps i there known a u
            (subst (λ n. a < length (code_of g n).nodes) (sym code) taken.0.there)
            (subst (λ n. has_value (kind_at (code_of g n) a) ≡ true) (sym code) taken.0.value) w
            (λ t. subst (λ n. has_run (middle e) i (block_at (code_of g n) a) (class_of (parts_at (parts_for all n) (block_at (code_of g n) a))
            (inlet_place (block_graph (code_of g n) (block_at (code_of g n) a)) a)) ≡ true) (sym code)
            (operand-ran a mine (subst (λ n. is_inlet (kind_at (code_of g n) a) ≡ true) code t)))

        owners : (d p y n v : ℕ) → kind_of g e.world i d ≡ Rattle.tam_graph.specs.declared.kind.Kind.TheVariants.Cond p y n
            → (owner_of (its_code g e.world i) (chosen_branch (its_code g e.world i) d v) ≡ d ∷ []) × (0 < chosen_branch (its_code g e.world i) d v)
        owners d p y n v h = by_word v
          where
            own : (owner_of (its_code g e.world i) y ≡ d ∷ []) × (owner_of (its_code g e.world i) n ≡ d ∷ []) × (y ≡ n → ⊥) × (0 < y) × (0 < n)
            own = (facts.texts (activation_at e.world i).code known).branches d p y n h

            by_word : (v : ℕ) → (owner_of (its_code g e.world i) (chosen_branch (its_code g e.world i) d v) ≡ d ∷ [])
                × (0 < chosen_branch (its_code g e.world i) d v)
            by_word zero = subst (λ q. (owner_of (its_code g e.world i) q ≡ d ∷ []) × (0 < q)) (sym (branch-kind (its_code g e.world i) d 0 p y n h))
                (own.1, own.4)
            by_word (suc u) = subst (λ q. (owner_of (its_code g e.world i) q ≡ d ∷ []) × (0 < q)) (sym (branch-kind (its_code g e.world i) d (suc u) p y n h))
                (own.0, own.3)

    calls : HasCalls g (middle e)
    calls = has-calls g all args s reached (middle e) frames (λ j f d u h w. (
      call-came g e.world (FiredWith g args accepted all valid s sound state i b c run done) (IsTagged so_far.tags) (HasArrived s) so_far.kept j f d u h w,
      word-act e.world j f u w,
    ))

    -- the vertex's instructions do what its firing does
    pub does-vertex : Does g all others m i (vertex_instrs g the_code (parts_in g all s others i) (vertex_at the_block y))
        (middle (then_one g the_block i e y)) due
    does-vertex =
        subst (λ (is : List Instr). Does g all others m i is (middle (then_one g the_block i e y)) due) (sym instrs-are)
        (subst (λ (f : Effect). Does g all others m i (instrs_of g the_code (parts_in g all s others i) the_node (kind_at the_code the_node)) (middle f) due)
        (sym one-is)
        (subst (λ (ms : List Message). Does g all others m i (instrs_of g the_code (parts_in g all s others i) the_node (kind_at the_code the_node))
        (record s { world = (fired g e.world i the_node).world; sent = ms; ran = (i, b, c) ∷ s.ran }) due)
        (append_assoc s.sent e.sends (fired g e.world i the_node).sends)
        (subst (λ (f : Effect). Does g all others m i (instrs_of g the_code (parts_in g all s others i) the_node (kind_at the_code the_node))
        (fired_state (middle e) f.world f.sends) due) (sym (fires-with g e.world i the_node have.0 have.1))
        (subst (λ q. Does g all others m i (instrs_of g (code_of g q) (parts_for all q) the_node (kind_at (code_of g q) the_node))
        (fired_state (middle e) (firing_of g e.world i the_node (kind_of g e.world i the_node) have.0).world
        (firing_of g e.world i the_node (kind_of g e.world i the_node) have.0).sends) due) code
        (does-node g all others facts can m (middle e) due keeps i the_node have.0 is-firing calls
        (has-places g accepted (activation_at e.world i).code known))))))
      where
        instrs-are : vertex_instrs g the_code (parts_in g all s others i) (vertex_at the_block y)
            ≡ instrs_of g the_code (parts_in g all s others i) the_node (kind_at the_code the_node)
        instrs-are = rw (vertex_instrs, fires) refl

        one-is : then_one g the_block i e y
            ≡ record { world = (fired g e.world i the_node).world; sends = e.sends ++ (fired g e.world i the_node).sends }
        one-is = rw (then_one, fires) refl

    -- and frames stay
    pub frames-vertex : SameFrames s.world (then_one g the_block i e y).world
    frames-vertex = subst (λ (f : Effect). SameFrames s.world f.world) (sym one-is) (frames-on s.world e.world (fired g e.world i the_node).world frames
        (subst (λ (f : Effect). SameFrames e.world f.world) (sym (fires-with g e.world i the_node have.0 have.1))
        (leaves-firing g e.world i the_node (kind_of g e.world i the_node) have.0).frames))
      where
        one-is : then_one g the_block i e y
            ≡ record { world = (fired g e.world i the_node).world; sends = e.sends ++ (fired g e.world i the_node).sends }
        one-is = rw (then_one, fires) refl

  -- a vertex, also an inlet, with the frames behind it
  pub record DoesOne (due : List Owed) (e : Effect) (m : Machine) (y : ℕ) : Type 0 where
    pub does : Does g all others m i (vertex_instrs g the_code (parts_in g all s others i) (vertex_at the_block y)) (middle (then_one g the_block i e y)) due
    pub frames : SameFrames s.world (then_one g the_block i e y).world

  does-one : (due : List Owed) (done : List ℕ) (e : Effect) (m : Machine) (so_far : IsKeptRun g args accepted all valid s sound state i b c run done e)
      → SameFrames s.world e.world → Keeps g all m (middle e) others due → (y : ℕ) → In y the_class → y < length the_block.vertices
      → ((d : ℕ) → In d the_class → is_edge the_block.edges d y ≡ true → In d done) → (In y done → ⊥)
      → ((z : ℕ) → In z done → z < length the_block.vertices) → DoesOne due e m y
  does-one due done e m so_far frames keeps y inside within before new places = go (vertex_at the_block y).inlet refl
    where
      go : (t : Bool) → (vertex_at the_block y).inlet ≡ t → DoesOne due e m y
      go true d =
          let instrs : vertex_instrs g the_code (parts_in g all s others i) (vertex_at the_block y) ≡ [] = rw (vertex_instrs, d) refl in
          let one : then_one g the_block i e y ≡ e = rw (then_one, d) refl in
          record {
            does = subst (λ (is : List Instr). Does g all others m i is (middle (then_one g the_block i e y)) due) (sym instrs)
                (subst (λ (f : Effect). Does g all others m i [] (middle f) due) (sym one) (record { machine = m; does = refl; keeps = keeps }));
            frames = subst (λ (f : Effect). SameFrames s.world f.world) (sym one) frames;
          }
      go false d = record {
        does = does-vertex due done e m so_far frames keeps y inside within before new places d;
        frames = frames-vertex due done e m so_far frames keeps y inside within before new places d;
      }

  -- the instructions of vertices in turn
  abbrev pub instrs_for : List ℕ → List Instr
  instrs_for ys = flat_map (λ y. vertex_instrs g (its_code g s.world i) (parts_in g all s others i) (vertex_at (block_of_act g s i b) y)) ys

  does-each : (due : List Owed) (ys done : List ℕ) (e : Effect) (m : Machine) → IsKeptRun g args accepted all valid s sound state i b c run done e
      → IsSoundEffect g args s.world e → SameFrames s.world e.world → Keeps g all m (middle e) others due
      → AllByRecursion (IsReady g args accepted s.world i run.there (block_of_act g s i b)) ys
      → AllByRecursion (λ y. In y the_class) ys → AllByRecursion (λ y. y < length (block_of_act g s i b).vertices) ys → NoTwice ys
      → ((z : ℕ) → In z done → In z ys → ⊥) → ((z : ℕ) → In z done → z < length (block_of_act g s i b).vertices)
      → IsOrdered (block_of_act g s i b).edges the_class done ys
      → Does g all others m i (instrs_for ys) (middle (fire_each g (block_of_act g s i b) i e ys)) due
  does-each due [] done e m kept effect frames keeps ready inside within once fresh places order = record { machine = m; does = refl; keeps = keeps }
  does-each due (y ∷ ys) done e m kept effect frames keeps ready inside within once fresh places order =
      let one = does-one due done e m kept frames keeps y inside.0 within.0 order.0 (λ h. fresh y h (inl refl)) places in
      does-both g all others m i (vertex_instrs g the_code (parts_in g all s others i) (vertex_at the_block y)) (instrs_for ys)
      (middle (then_one g the_block i e y)) (middle (fire_each g the_block i e (y ∷ ys))) due due one.does
      (does-each due ys (y ∷ done) (then_one g (block_of_act g s i b) i e y) one.does.machine
      (kept-one g args accepted all valid s sound state i b c run done e kept y inside.0 within.0 order.0 (λ j t o. (effect.world.callers j t o).0)
      (λ h. fresh y h (inl refl)) places)
      (sound-one g args accepted s.world i run.there (block_of_act g s i b) e y effect ready.0) one.frames one.does.keeps ready.1 inside.1 within.1 once.1
      (λ z h k. ⊎_elim (λ p. none-twice y z ys once.0 p k) (λ p. fresh z p (inr k)) h)
      (λ z h. ⊎_elim (λ p. subst (λ n. n < length (block_of_act g s i b).vertices) p within.0) (λ p. places z p) h) order.1)

  -- all of the class, in firing order
  abbrev pub the_order : List ℕ
  the_order = firing_order (block_of_act g s i b).edges (class_at (parts_of_act g all s i b) c)

  -- nothing has fired
  kept-first : IsKeptRun g args accepted all valid s sound state i b c run [] (record { world = s.world; sends = [] })
  kept-first = record {
    on = onward-same s.world;
    tags = state.tags;
    same = state.same ∙ sym (append-nil s.sent);
    of_firings = all-more (IsOfFiring g s.world (HasFired g all s)) (IsOfFiring g s.world (FiredWith g args accepted all valid s sound state i b c run []))
        (λ t h k. wish-same g s.world (HasFired g all s) (FiredWith g args accepted all valid s sound state i b c run []) (λ j z h. inl h)
        t.0 t.1 t.2 (h k))
        state.tags state.of_firings;
    apart = state.apart;
    kept = kept-same g s.world (HasFired g all s) (FiredWith g args accepted all valid s sound state i b c run []) (IsTagged state.tags)
        (IsTagged state.tags) (HasArrived s) (HasArrived s) (λ j z h. inl h) (λ j z h. none j z h) (λ j z m h. h) (λ m h. h) state.kept;
  }
    where
      none : (j z : ℕ) → FiredWith g args accepted all valid s sound state i b c run [] j z → HasFired g all s j z
      none j z (inl h) = h
      none j z (inr h) = absurd h.1.1

  does-class : (due : List Owed) (m : Machine) → Keeps g all m (middle (record { world = s.world; sends = [] })) others due
      → Does g all others m i (instrs_for the_order) (middle (class_fired g all s i b c)) due
  does-class due m keeps = does-each due the_order [] (record { world = s.world; sends = [] }) m kept-first
      (record { world = sound.world; grows = grows-same s.world; sends = tt }) (frames-same s.world) keeps
      (order-ready g args accepted all s i b c valid sound run)
      (order-each (λ y. In y the_class) (block_of_act g s i b).edges the_class (in-each (λ y. In y the_class) the_class (λ x h. h)))
      (order-each (λ y. y < length (block_of_act g s i b).vertices) (block_of_act g s i b).edges the_class
      (run-within g args accepted all s i b c valid sound run))
      (order-distinct (block_of_act g s i b).edges acyclic the_class) (λ z h k. h) (λ z h. absurd h)
      (order-ordered (block_of_act g s i b).edges the_class acyclic)
    where
      acyclic : IsAcyclic (block_of_act g s i b).edges
      acyclic = block-acyclic g accepted (activation_at s.world i).code b (sound.world.codes i run.there)

  -- ---- the forks

  -- the classes directly behind it, and their tickets
  abbrev pub behind : List ℕ
  behind = filter (λ d. directly_before (block_of_act g s i b).edges (parts_of_act g all s i b) c d) (below (length (parts_of_act g all s i b)))

  abbrev pub tickets_behind : List ℕ → List Owed
  tickets_behind ks = map (λ d. ticket i (Class b d) (Behind c)) ks

  -- each fork spends its ticket
  does-forks : (v : State) → (activation_at v.world i).code ≡ (activation_at s.world i).code → (ks : List ℕ) (m : Machine)
      → Keeps g all m v others (tickets_behind ks) → Does g all others m i (forks_to (parts_in g all s others i) b ks) v []
  does-forks v code [] m keeps = record { machine = m; does = refl; keeps = keeps }
  does-forks v code (k ∷ ks) m keeps =
      let r = can.spends m v (tickets_behind ks) i (Class b k) (Behind c) keeps (λ x u e h. absurd (behind-word (ap (λ (t : Owed). t.1.source) e))) in
      let more = does-forks v code ks r.0 r.2 in
      let spent : spend m i (thread_of_class (parts_in g all s others i) b k) ≡ Fine r.0 =
      subst (λ q. spend m i (number_of_thread (code_of g q) (parts_for all q) (Class b k)) ≡ Fine r.0) code r.1 in
      record {
        machine = more.machine;
        does = ap (λ (o : Progress). then_do o (λ n. done_all Plain n i (forks_to (parts_in g all s others i) b ks))) spent ∙ more.does;
        keeps = more.keeps;
      }
    where
      behind-word : {x : ℕ} → Behind c ≡ Word_of x → ⊥
      behind-word e = cc

  -- ---- the whole

  -- the instructions of the class's thread lead to the state after the run, with no ticket due
  pub does-run : (m : Machine) → Keeps g all m (record s { ran = (i, b, c) ∷ s.ran }) others (tickets_behind behind)
      → Does g all others m i (instrs_for the_order ++ forks_to (parts_in g all s others i) b behind) (after_event g all s (Run i b c)) []
  does-run m keeps =
      let first = does-class (tickets_behind behind) m
      (subst (λ (ms : List Message). Keeps g all m (record s { sent = ms; ran = (i, b, c) ∷ s.ran }) others (tickets_behind behind))
      (sym (append-nil s.sent)) keeps) in
      does-both g all others m i (instrs_for the_order) (forks_to (parts_in g all s others i) b behind) (middle (class_fired g all s i b c))
      (after_event g all s (Run i b c)) (tickets_behind behind) [] first
      (does-forks (middle (class_fired g all s i b c)) ((run-onward g args accepted all valid s sound state i b c run).code i run.there) behind first.machine
      first.keeps)
