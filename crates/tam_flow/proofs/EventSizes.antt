-- An event begins one activation at most and makes one array at most.
use Rattle.std.proofs.Common.{◌≡◌, ℕ, ◌+◌, ◌≤◌, Bool, true, false, ◌==◌, List, [], ◌∷◌, ◌++◌, replicate, length, slice_get, refl, ◌∙◌, ap, arith, ⊎_elim}
use Rattle.std.proofs.lemmas.List.{length-append, length-set}
use Rattle.tam_graph.specs.declared.kind.Kind.{Kind}
use Rattle.tam_graph.specs.declared.kind.Kind.TheVariants.{Const, Op as Operate, Seq, Call, Arg, Give, Alloc, Fetch, Store, Cond, Switch, Leave}
use Rattle.tam_msgs.specs.declared.message.Message.{Message}
use Rattle.tam_msgs.specs.declared.message.Message.TheVariants.{Word as Carry, Frame as Begin, Cells as Make, Fetch as Ask_cell, Store as Put_cell}
use Rattle.tam_msgs.specs.Messages.{outside}
use Rattle.tam_istr.specs.Cells.{Cell, Empty, with_cell}
use Rattle.tam_graph.specs.Graphs.{Graph, kind_at, operands_of, chosen_branch, node_in, owner_of, block_at, is_enter}
use Rattle.tam_split.specs.Blocks.{BlockGraph, vertex_at}
use Rattle.tam_split.specs.GraphPartitions.{Partitions, firing_order}
use Rattle.tam_split.specs.Partitions.{class_at}
use Rattle.tam_world.specs.Worlds.{World, Effect, Delivery, Went, Printed, Faulted, got, all_got, its_code, words_of, merges_of}
use Rattle.tam_world.specs.Worlds.{firing_of, fired_with, fired, delivered, begun}
use Rattle.tam_flow.specs.Journals.{State, Event, Run, Deliver, fire_each, class_fired, block_of_act, parts_of_act, or_message, after_delivery, deliver_all}
use Rattle.tam_flow.specs.Journals.{after_event}
use Rattle.tam_flow.proofs.ActivationCounts.{size-got, size-each, then_one}
use Rattle.tam_flow.proofs.Accesses.{fetch-cases, store-cases}

-- ---- a firing makes no array

-- several words leave the arrays as they are
arrays-all_got : (w : World) (i : ℕ) (xs : List ℕ) (v : ℕ) → (all_got w i xs v).arrays ≡ w.arrays
arrays-all_got w i [] v = refl
arrays-all_got w i (x ∷ xs) v = arrays-all_got (got w i x v) i xs v

-- so does a firing, by what the node does
arrays-firing : (g : Graph) (w : World) (i x : ℕ) (k : Kind) (vs : List ℕ) → (firing_of g w i x k vs).world.arrays ≡ w.arrays
arrays-firing g w i x (Const v) [] = refl
arrays-firing g w i x (Operate o l r) (u ∷ v ∷ []) = refl
arrays-firing g w i x (Seq l r) (u ∷ v ∷ []) = refl
arrays-firing g w i x (Call c) [] = refl
arrays-firing g w i x (Arg f k a) (v ∷ p ∷ []) = refl
arrays-firing g w i x (Give k a) (v ∷ []) = refl
arrays-firing g w i x (Alloc a) (n ∷ []) = refl
arrays-firing g w i x (Fetch a j) (u ∷ v ∷ []) = refl
arrays-firing g w i x (Store a j b) (t ∷ u ∷ v ∷ []) = refl
arrays-firing g w i x (Cond p y n) (v ∷ []) = refl
arrays-firing g w i x (Switch d k a) (u ∷ v ∷ []) = arrays-all_got w i (node_in (its_code g w i) (chosen_branch (its_code g w i) d u) (is_enter k)) v
arrays-firing g w i x (Leave k a) (v ∷ []) = arrays-all_got w i (merges_of (its_code g w i) k (owner_of (its_code g w i) (block_at (its_code g w i) x))) v
arrays-firing g w i x k vs = refl

-- whatever the node is
arrays-fired : (g : Graph) (w : World) (i x : ℕ) → (fired g w i x).world.arrays ≡ w.arrays
arrays-fired g w i x = go (words_of w i (operands_of (its_code g w i) (kind_at (its_code g w i) x)))
  where
    go : (ws : List (List ℕ)) → (fired_with g w i x ws).world.arrays ≡ w.arrays
    go [] = refl
    go (vs ∷ more) = arrays-firing g w i x (kind_at (its_code g w i) x) vs

-- so does one more vertex that fires
arrays-one : (g : Graph) (b : BlockGraph) (i : ℕ) (e : Effect) (x : ℕ) → (then_one g b i e x).world.arrays ≡ e.world.arrays
arrays-one g b i e x = go (vertex_at b x).inlet refl
  where
    go : (t : Bool) → (vertex_at b x).inlet ≡ t → (then_one g b i e x).world.arrays ≡ e.world.arrays
    go true d = rw (then_one, d) refl
    go false d = rw (then_one, d) (arrays-fired g e.world i (vertex_at b x).node)

-- so do several
arrays-each : (g : Graph) (b : BlockGraph) (i : ℕ) (e : Effect) (xs : List ℕ) → (fire_each g b i e xs).world.arrays ≡ e.world.arrays
arrays-each g b i e [] = refl
arrays-each g b i e (x ∷ xs) = arrays-each g b i (then_one g b i e x) xs ∙ arrays-one g b i e x

-- ---- a delivery

-- one activation more at most, and one array more
pub record GrowsByOne (v w : World) : Type 0 where
  pub activations : length w.activations ≤ length v.activations + 1
  pub arrays : length w.arrays ≤ length v.arrays + 1

-- what comes of a delivery has no more
abbrev GrowsBy : World → Delivery → Type 0
GrowsBy w (Went e) = GrowsByOne w e.world
GrowsBy w (Printed k v) = Unit {0}
GrowsBy w (Faulted f) = Unit {0}

-- a world with as many grows by one at most
same-grows : (v w : World) → length w.activations ≡ length v.activations → length w.arrays ≡ length v.arrays → GrowsByOne v w
same-grows v w a b = record { activations = omega (arith, a); arrays = omega (arith, b) }

-- a cell that changes leaves as many arrays
cell-grows : (w : World) (a j : ℕ) (c : Cell) → GrowsByOne w (record w { arrays = with_cell w.arrays a j c })
cell-grows w a j c = same-grows w (record w { arrays = with_cell w.arrays a j c }) refl (length-set w.arrays a _)

-- one delivery
grows-delivered : (w : World) (m : Message) → GrowsBy w (delivered w m)
grows-delivered w (Carry f x v) = go (f == outside) refl
  where
    go : (b : Bool) → (f == outside) ≡ b → GrowsBy w (delivered w (Carry f x v))
    go true e = rw (delivered, e) tt
    go false e = rw (delivered, e) (same-grows w (got w f x v) (size-got w f x v) refl)
grows-delivered w (Begin c f x) = record { activations = omega (arith, length-append w.activations (begun c f x ∷ [])); arrays = omega arith }
grows-delivered w (Make n f x) = record { activations = omega arith; arrays = omega (arith, length-append w.arrays (replicate n (Empty []) ∷ [])) }
grows-delivered w (Ask_cell a j f x s) =
    ⊎_elim (λ q. rw q.1 tt) (λ r. ⊎_elim (λ q. rw q.3 (same-grows w w refl refl)) (λ q. rw q.2 (cell-grows w a j (Empty (q.0 ++ (f, x) ∷ [])))) r)
    (fetch-cases w a j f x s)
grows-delivered w (Put_cell a j v s) = ⊎_elim (λ q. rw q.1 tt) (λ q. rw q.2 (cell-grows w a j _)) (store-cases w a j v s)

-- AN EVENT BEGINS ONE ACTIVATION AT MOST AND MAKES ONE ARRAY AT MOST
pub grows-event : (g : Graph) (all : Partitions) (s : State) (e : Event) → GrowsByOne s.world (after_event g all s e).world
grows-event g all s (Run i b c) =
    let order = firing_order (block_of_act g s i b).edges (class_at (parts_of_act g all s i b) c) in
    let start : Effect = record { world = s.world; sends = [] } in
    same-grows s.world (class_fired g all s i b c).world (size-each g (block_of_act g s i b) i start order)
    (ap length (arrays-each g (block_of_act g s i b) i start order))
grows-event g all s (Deliver m) = go (or_message (slice_get s.sent m))
  where
    after : (d : Delivery) → GrowsBy s.world d → GrowsByOne s.world (after_delivery s m d).world
    after (Went e) h = h
    after (Printed k v) h = same-grows s.world s.world refl refl
    after (Faulted f) h = same-grows s.world s.world refl refl

    go : (ms : List Message) → GrowsByOne s.world (deliver_all s m ms).world
    go [] = same-grows s.world s.world refl refl
    go (x ∷ xs) = after (delivered s.world x) (grows-delivered s.world x)
