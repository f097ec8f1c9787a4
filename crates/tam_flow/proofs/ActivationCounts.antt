-- No event takes an activation away.
use Rattle.std.proofs.Common.{◌≡◌, ℕ, ◌≤◌, Bool, true, false, ◌==◌, List, [], ◌∷◌, ◌++◌, length, slice_get, refl, ◌∙◌, arith}
use Rattle.std.proofs.lemmas.List.{length-append}
use Rattle.tam_graph.specs.declared.kind.Kind.{Kind}
use Rattle.tam_graph.specs.declared.kind.Kind.TheVariants.{Const, Op as Operate, Seq, Call, Arg, Give, Alloc, Fetch, Store, Cond, Switch, Leave}
use Rattle.tam_msgs.specs.declared.message.Message.{Message}
use Rattle.tam_msgs.specs.declared.message.Message.TheVariants.{Word as Carry, Frame as Begin, Cells as Make, Fetch as Ask_cell, Store as Put_cell}
use Rattle.tam_msgs.specs.Messages.{outside}
use Rattle.tam_istr.specs.Cells.{Access, Now, Deferred, Stored, Twice, NotBelow, NoArray, fetched_from, stored_into}
use Rattle.tam_graph.specs.Graphs.{Graph, kind_at, operands_of, chosen_branch, node_in, owner_of, block_at, is_enter}
use Rattle.tam_split.specs.Blocks.{BlockGraph, vertex_at}
use Rattle.tam_split.specs.GraphPartitions.{Partitions, firing_order}
use Rattle.tam_split.specs.Partitions.{class_at}
use Rattle.tam_world.specs.Worlds.{World, Effect, Delivery, Went, Printed, Faulted, with_word, with_block, got, entered, all_got, its_code, words_of, merges_of}
use Rattle.tam_world.specs.Worlds.{firing_of, fired_with, fired, accessed, delivered, begun}
use Rattle.tam_flow.specs.Journals.{State, Event, Run, Deliver, fire_each, class_fired, block_of_act, parts_of_act, or_message, after_delivery, deliver_all}
use Rattle.tam_flow.specs.Journals.{after_event, state_from}
use Rattle.tam_word.proofs.Each.{length-changed_at}

-- how many activations a world has
abbrev pub size : World → ℕ
size w = length w.activations

-- a word leaves as many activations
pub size-got : (w : World) (i x v : ℕ) → size (got w i x v) ≡ size w
size-got w i x v = length-changed_at i (with_word x v) w.activations

-- so does a block that is entered
size-entered : (w : World) (i b : ℕ) → size (entered w i b) ≡ size w
size-entered w i b = length-changed_at i (with_block b) w.activations

-- so do several words
size-all_got : (w : World) (i : ℕ) (xs : List ℕ) (v : ℕ) → size (all_got w i xs v) ≡ size w
size-all_got w i [] v = refl
size-all_got w i (x ∷ xs) v = size-all_got (got w i x v) i xs v ∙ size-got w i x v

-- so does a firing, by what the node does
size-firing : (g : Graph) (w : World) (i x : ℕ) (k : Kind) (vs : List ℕ) → size (firing_of g w i x k vs).world ≡ size w
size-firing g w i x (Const v) [] = size-got w i x v
size-firing g w i x (Operate o l r) (u ∷ v ∷ []) = size-got w i x _
size-firing g w i x (Seq l r) (u ∷ v ∷ []) = size-got w i x u
size-firing g w i x (Call c) [] = refl
size-firing g w i x (Arg f k a) (v ∷ p ∷ []) = refl
size-firing g w i x (Give k a) (v ∷ []) = refl
size-firing g w i x (Alloc a) (n ∷ []) = refl
size-firing g w i x (Fetch a j) (u ∷ v ∷ []) = refl
size-firing g w i x (Store a j b) (t ∷ u ∷ v ∷ []) = refl
size-firing g w i x (Cond p y n) (v ∷ []) = size-entered w i (chosen_branch (its_code g w i) x v)
size-firing g w i x (Switch d k a) (u ∷ v ∷ []) = size-all_got w i (node_in (its_code g w i) (chosen_branch (its_code g w i) d u) (is_enter k)) v
size-firing g w i x (Leave k a) (v ∷ []) = size-all_got w i (merges_of (its_code g w i) k (owner_of (its_code g w i) (block_at (its_code g w i) x))) v
size-firing g w i x k vs = refl

-- whatever the node is
size-fired : (g : Graph) (w : World) (i x : ℕ) → size (fired g w i x).world ≡ size w
size-fired g w i x = go (words_of w i (operands_of (its_code g w i) (kind_at (its_code g w i) x)))
  where
    go : (ws : List (List ℕ)) → size (fired_with g w i x ws).world ≡ size w
    go [] = refl
    go (vs ∷ more) = size-firing g w i x (kind_at (its_code g w i) x) vs

-- an effect with what a vertex does behind it, where the vertex is no inlet
abbrev pub then_one : Graph → BlockGraph → ℕ → Effect → ℕ → Effect
then_one g b i e x = elim (vertex_at b x).inlet [
  | true ↦ e
  | false ↦ record { world = (fired g e.world i (vertex_at b x).node).world; sends = e.sends ++ (fired g e.world i (vertex_at b x).node).sends }
]

-- so does one more vertex that fires
size-one : (g : Graph) (b : BlockGraph) (i : ℕ) (e : Effect) (x : ℕ) → size (then_one g b i e x).world ≡ size e.world
size-one g b i e x = go (vertex_at b x).inlet refl
  where
    go : (t : Bool) → (vertex_at b x).inlet ≡ t → size (then_one g b i e x).world ≡ size e.world
    go true d = rw (then_one, d) refl
    go false d = rw (then_one, d) (size-fired g e.world i (vertex_at b x).node)

-- so do several
pub size-each : (g : Graph) (b : BlockGraph) (i : ℕ) (e : Effect) (xs : List ℕ) → size (fire_each g b i e xs).world ≡ size e.world
size-each g b i e [] = refl
size-each g b i e (x ∷ xs) = size-each g b i (then_one g b i e x) xs ∙ size-one g b i e x

-- what comes of a delivery has no fewer
abbrev Bigger : World → Delivery → Type 0
Bigger w (Went e) = size w ≤ size e.world
Bigger w (Printed k v) = Unit {0}
Bigger w (Faulted f) = Unit {0}

-- an access takes no activation away
size-accessed : (w : World) (s i : ℕ) (r : ℕ × ℕ) (v : ℕ) (a : Access) → Bigger w (accessed w s i r v a)
size-accessed w s i r v (Now u) = omega arith
size-accessed w s i r v (Deferred arrays) = omega arith
size-accessed w s i r v (Stored arrays readers) = omega arith
size-accessed w s i r v (Twice first) = tt
size-accessed w s i r v (NotBelow n) = tt
size-accessed w s i r v NoArray = tt

-- nor does a delivery
size-delivered : (w : World) (m : Message) → Bigger w (delivered w m)
size-delivered w (Carry f x v) = go (f == outside) refl
  where
    go : (b : Bool) → (f == outside) ≡ b → Bigger w (delivered w (Carry f x v))
    go true e = rw (delivered, e) tt
    go false e = rw (delivered, e) (omega (arith, size-got w f x v))
size-delivered w (Begin c f x) = omega (arith, length-append w.activations (begun c f x ∷ []))
size-delivered w (Make n f x) = omega arith
size-delivered w (Ask_cell a i f x s) = size-accessed w s i (f, x) 0 (fetched_from w.arrays a i (f, x))
size-delivered w (Put_cell a i v s) = size-accessed w s i (0, 0) v (stored_into w.arrays a i v s)

-- an event leaves no fewer
pub size-event : (g : Graph) (all : Partitions) (s : State) (e : Event) → size s.world ≤ size (after_event g all s e).world
size-event g all s (Run i b c) =
    let same : size (class_fired g all s i b c).world ≡ size s.world =
    size-each g (block_of_act g s i b) i (record { world = s.world; sends = [] })
    (firing_order (block_of_act g s i b).edges (class_at (parts_of_act g all s i b) c)) in
    omega (arith, same)
size-event g all s (Deliver m) = go (or_message (slice_get s.sent m))
  where
    after : (d : Delivery) → Bigger s.world d → size s.world ≤ size (after_delivery s m d).world
    after (Went e) h = h
    after (Printed k v) h = omega arith
    after (Faulted f) h = omega arith

    go : (ms : List Message) → size s.world ≤ size (deliver_all s m ms).world
    go [] = omega arith
    go (x ∷ xs) = after (delivered s.world x) (size-delivered s.world x)

-- and so do many
pub size-from : (g : Graph) (all : Partitions) (s : State) (es : List Event) → size s.world ≤ size (state_from g all s es).world
size-from g all s [] = omega arith
size-from g all s (e ∷ es) = let first = size-event g all s e in let rest = size-from g all (after_event g all s e) es in omega (arith, first, rest)
