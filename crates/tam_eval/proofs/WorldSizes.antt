-- How many activations and arrays there are: a firing changes neither, a delivery makes one more at most.
use Rattle.std.proofs.Common.{◌≡◌, ℕ, zero, suc, ◌+◌, ◌<◌, ◌≤◌, ◌^◌, Bool, true, false, List, [], ◌∷◌, ◌++◌, refl, sym, subst, ap, ◌∙◌}
use Rattle.std.proofs.Common.{◌==◌, length, slice_get, slice_set, unwrap_or, Some, None, Option, arith}
use Rattle.tam_graph.specs.declared.kind.Kind.{Kind}
use Rattle.tam_graph.specs.declared.kind.Kind.TheVariants.{Const, Op as Operate, Seq, Call, Arg, Give, Alloc, Fetch, Store, Cond, Switch, Leave}
use Rattle.tam_graph.specs.Graphs.{Graph, kind_at, operands_of, block_at, node_in, chosen_branch, is_enter, owner_of}
use Rattle.tam_msgs.specs.declared.message.Message.{Message}
use Rattle.tam_msgs.specs.declared.message.Message.TheVariants.{Word as Carry, Frame as Begin, Cells as Make, Fetch as Ask_cell, Store as Put_cell}
use Rattle.tam_msgs.specs.Messages.{outside}
use Rattle.tam_istr.specs.Cells.{Arrays, Cell, Empty, Filled, Access, Now, Deferred, Stored, Twice, NotBelow, NoArray, with_array}
use Rattle.tam_istr.specs.Cells.{fetch_of, store_of, in_array, fetched_from, stored_into}
use Rattle.tam_world.specs.Worlds.{World, Delivery, Went, Printed, Faulted, its_code, begun, with_word, got, all_got, merges_of, words_of}
use Rattle.tam_world.specs.Worlds.{firing_of, fired_with, fired, accessed, delivered}
use Rattle.tam_flow.proofs.Moves.{length-push}
use Rattle.tam_flow.proofs.DeliveryChanges.{arrays-fired}
use Rattle.tam_word.proofs.Each.{length-changed_at}

-- as few as the invariant of journals asks for
pub record Few (w : World) : Type 0 where
  pub activations : length w.activations < 2 ^ 32
  pub arrays : length w.arrays < 2 ^ 32

-- ---- firings

-- words make no activation
all_got-size : (w : World) (i : ℕ) (xs : List ℕ) (u : ℕ) → length (all_got w i xs u).activations ≡ length w.activations
all_got-size w i [] u = refl
all_got-size w i (x ∷ xs) u = all_got-size (got w i x u) i xs u ∙ length-changed_at i (with_word x u) w.activations

module _ (g : Graph) (w : World) (i x : ℕ) where
  -- nor does a firing, by what the node does
  firing-size : (k : Kind) (vs : List ℕ) → length (firing_of g w i x k vs).world.activations ≡ length w.activations
  firing-size (Const v) [] = length-changed_at i (with_word x v) w.activations
  firing-size (Operate o a b) (u ∷ v ∷ []) = length-changed_at i _ w.activations
  firing-size (Seq a b) (u ∷ v ∷ []) = length-changed_at i (with_word x u) w.activations
  firing-size (Call c) [] = refl
  firing-size (Arg f k a) (v ∷ p ∷ []) = refl
  firing-size (Give k a) (v ∷ []) = refl
  firing-size (Alloc n) (v ∷ []) = refl
  firing-size (Fetch a j) (u ∷ v ∷ []) = refl
  firing-size (Store a j b) (t ∷ u ∷ v ∷ []) = refl
  firing-size (Cond p y n) (v ∷ []) = length-changed_at i _ w.activations
  firing-size (Switch c k a) (u ∷ v ∷ []) = all_got-size w i (node_in (its_code g w i) (chosen_branch (its_code g w i) c u) (is_enter k)) v
  firing-size (Leave k a) (v ∷ []) = all_got-size w i (merges_of (its_code g w i) k (owner_of (its_code g w i) (block_at (its_code g w i) x))) v
  firing-size k vs = refl

  -- whatever the node is
  pub fired-size : length (fired g w i x).world.activations ≡ length w.activations
  fired-size = go (words_of w i (operands_of (its_code g w i) (kind_at (its_code g w i) x)))
    where
      go : (l : List (List ℕ)) → length (fired_with g w i x l).world.activations ≡ length w.activations
      go [] = refl
      go (vs ∷ more) = firing-size (kind_at (its_code g w i) x) vs

  -- so few stay few
  pub fired-few : Few w → Few (fired g w i x).world
  fired-few h = record {
    activations = subst (λ n. n < 2 ^ 32) (sym fired-size) h.activations;
    arrays = subst (λ (rows : Arrays). length rows < 2 ^ 32) (sym (arrays-fired g w i x)) h.arrays;
  }

-- ---- deliveries

-- at most so many activations and arrays
abbrev pub SizedAfter : ℕ → ℕ → Delivery → Type 0
SizedAfter a n (Went e) = (length e.world.activations ≤ a) × (length e.world.arrays ≤ n)
SizedAfter a n (Printed k v) = Unit {0}
SizedAfter a n (Faulted f) = Unit {0}

-- as many arrays as before
abbrev SameRows : Arrays → Access → Type 0
SameRows rows (Deferred more) = length more ≡ length rows
SameRows rows (Stored more rs) = length more ≡ length rows
SameRows rows (Now u) = Unit {0}
SameRows rows (Twice u) = Unit {0}
SameRows rows (NotBelow n) = Unit {0}
SameRows rows NoArray = Unit {0}

-- one set keeps the length
length-set : {X : Type 0} (xs : List X) (n : ℕ) (y : X) → length (slice_set xs n y) ≡ length xs
length-set [] n y = refl
length-set (x ∷ xs) zero y = refl
length-set (x ∷ xs) (suc n) y = ap suc (length-set xs n y)

-- one more array
length-more : (rows : Arrays) (n : ℕ) → length (with_array rows n) ≡ suc (length rows)
length-more [] n = refl
length-more (r ∷ rows) n = ap suc (length-more rows n)

-- a fetch keeps the number of arrays
fetch-rows : (rows : Arrays) (a i : ℕ) (r : ℕ × ℕ) → SameRows rows (fetched_from rows a i r)
fetch-rows rows a i r = array (slice_get rows a) refl
  where
    cell : (cells : List Cell) (o : Option Cell) → slice_get cells i ≡ o → SameRows rows (in_array i (fetch_of rows a i r) (Some cells))
    cell cells None q = rw (in_array, q) tt
    cell cells (Some (Filled u s)) q = rw (in_array, q) tt
    cell cells (Some (Empty rs)) q = rw (in_array, q) (length-set rows a (slice_set (unwrap_or (slice_get rows a) []) i (Empty (rs ++ r ∷ []))))

    array : (o : Option (List Cell)) → slice_get rows a ≡ o → SameRows rows (in_array i (fetch_of rows a i r) o)
    array None p = tt
    array (Some cells) p = cell cells (slice_get cells i) refl

-- and so does a store
store-rows : (rows : Arrays) (a i v t : ℕ) → SameRows rows (stored_into rows a i v t)
store-rows rows a i v t = array (slice_get rows a) refl
  where
    cell : (cells : List Cell) (o : Option Cell) → slice_get cells i ≡ o → SameRows rows (in_array i (store_of rows a i v t) (Some cells))
    cell cells None q = rw (in_array, q) tt
    cell cells (Some (Filled u s)) q = rw (in_array, q) tt
    cell cells (Some (Empty rs)) q = rw (in_array, q) (length-set rows a (slice_set (unwrap_or (slice_get rows a) []) i (Filled v t)))

    array : (o : Option (List Cell)) → slice_get rows a ≡ o → SameRows rows (in_array i (store_of rows a i v t) o)
    array None p = tt
    array (Some cells) p = cell cells (slice_get cells i) refl

-- an access makes none
accessed-sized : (w : World) (a n t j : ℕ) (r : ℕ × ℕ) (v : ℕ) (c : Access) → length w.activations ≤ a → length w.arrays ≤ n → SameRows w.arrays c
    → SizedAfter a n (accessed w t j r v c)
accessed-sized w a n t j r v (Now u) p q h = (p, q)
accessed-sized w a n t j r v (Deferred rows) p q h = (p, subst (λ k. k ≤ n) (sym h) q)
accessed-sized w a n t j r v (Stored rows rs) p q h = (p, subst (λ k. k ≤ n) (sym h) q)
accessed-sized w a n t j r v (Twice u) p q h = tt
accessed-sized w a n t j r v (NotBelow m) p q h = tt
accessed-sized w a n t j r v NoArray p q h = tt

-- a delivery makes one at most
pub delivered-sized : (w : World) (a n : ℕ) (m : Message) → length w.activations ≤ a → length w.arrays + 1 ≤ n
    → ((c f x : ℕ) → m ≡ Begin c f x → length w.activations + 1 ≤ a) → SizedAfter a n (delivered w m)
delivered-sized w a n (Carry f x v) p q h = go (f == outside) refl
  where
    go : (t : Bool) → (f == outside) ≡ t → SizedAfter a n (delivered w (Carry f x v))
    go true e = rw (delivered, e) tt
    go false e = let s = length-changed_at f (with_word x v) w.activations in rw (delivered, e) (omega arith, omega arith)
delivered-sized w a n (Begin c f x) p q h =
    let s = length-push w.activations (begun c f x) in
    let l : length w.activations + 1 ≤ a = h c f x refl in (omega arith, omega arith)
delivered-sized w a n (Make k f x) p q h = let s = length-more w.arrays k in (p, omega arith)
delivered-sized w a n (Ask_cell b j f x t) p q h = accessed-sized w a n t j (f, x) 0 (fetched_from w.arrays b j (f, x)) p (omega arith)
    (fetch-rows w.arrays b j (f, x))
delivered-sized w a n (Put_cell b j v t) p q h = accessed-sized w a n t j (0, 0) v (stored_into w.arrays b j v t) p (omega arith)
    (store-rows w.arrays b j v t)
