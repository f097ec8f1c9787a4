-- What a delivery does to cells, activations and wishes, whatever its reasons; and that a run changes no cell.
use Rattle.std.proofs.Common.{◌≡◌, ℕ, Bool, true, false, ◌==◌, List, [], ◌∷◌, ◌++◌, replicate, unwrap_or, Option, Some, None, slice_get, slice_set, refl, sym}
use Rattle.std.proofs.Common.{◌∙◌, subst, inl, inr, ◌⊎◌, ⊎_elim}
use Rattle.std.specs.List.{AllByRecursion}
use Rattle.tam_graph.specs.declared.kind.Kind.{Kind}
use Rattle.tam_graph.specs.declared.kind.Kind.TheVariants.{Const, Op as Operate, Seq, Call, Arg, Give, Alloc, Fetch, Store, Cond, Switch, Leave}
use Rattle.tam_msgs.specs.declared.message.Message.{Message}
use Rattle.tam_msgs.specs.declared.message.Message.TheVariants.{Word as Carry, Frame as Begin, Cells as Make, Fetch as Ask_cell, Store as Put_cell}
use Rattle.tam_msgs.specs.Messages.{outside, answers}
use Rattle.tam_istr.specs.Cells.{Cell, Empty, Filled, with_array, with_cell, in_array, fetch_of, store_of}
use Rattle.tam_graph.specs.Graphs.{Graph, kind_at, operands_of, chosen_branch, node_in, owner_of, block_at, is_enter}
use Rattle.tam_split.specs.Blocks.{BlockGraph, vertex_at}
use Rattle.tam_split.specs.GraphPartitions.{Partitions, firing_order}
use Rattle.tam_split.specs.Partitions.{class_at}
use Rattle.tam_world.specs.Worlds.{World, Effect, Delivery, Went, Printed, Faulted, Second_store, Outside_cells, got, all_got, its_code, words_of, merges_of}
use Rattle.tam_world.specs.Worlds.{firing_of, fired_with, fired, accessed, delivered}
use Rattle.tam_flow.specs.Journals.{State, fire_each, class_fired, block_of_act, parts_of_act}
use Rattle.tam_flow.specs.Reached.{cells_at, cell_at}
use Rattle.tam_flow.proofs.Growing.{with_begun}
use Rattle.tam_flow.proofs.Changes.{set-cases}
use Rattle.tam_flow.proofs.CellChanges.{some-eq, push-cases, all-same, cell-array}
use Rattle.tam_flow.proofs.ActivationCounts.{size, size-got, then_one}
use Rattle.tam_flow.proofs.Senders.{asks}

-- a filled cell was filled before, or by this message
abbrev pub FilledBy : World → Message → World → Type 0
FilledBy w m v = (a j u t : ℕ) → cell_at v a j ≡ Some (Filled u t) → (cell_at w a j ≡ Some (Filled u t)) ⊎ (m ≡ Put_cell a j u t)

-- the activations are as many, or the message began one
abbrev pub BegunBy : World → Message → World → Type 0
BegunBy w m v = (size v ≡ size w) ⊎ ((c f x : ℕ) × (m ≡ Begin c f x) × (v ≡ with_begun w c f x))

-- what comes of the delivery of m: words alone are sent, cells filled and activations begun by it; a second store finds a filled cell
abbrev pub ComesOf : World → Message → Delivery → Type 0
ComesOf w m (Went e) = AllByRecursion (λ x. asks x ≡ false) e.sends × FilledBy w m e.world × BegunBy w m e.world
ComesOf w m (Printed k v) = Unit {0}
ComesOf w m (Faulted (Second_store s t)) = (a j u v : ℕ) × (m ≡ Put_cell a j v t) × (cell_at w a j ≡ Some (Filled u s))
ComesOf w m (Faulted (Outside_cells t j n)) = Unit {0}

-- an empty cell isn't a filled one
empty-filled : {rs : List (ℕ × ℕ)} {u t : ℕ} → Empty rs ≡ Filled u t → ⊥
empty-filled e = cc

-- equal filled cells have one word and one site
filled-eq : {u v s t : ℕ} → Filled u s ≡ Filled v t → (u ≡ v) × (s ≡ t)
filled-eq e = (cc, cc)

-- a cell that changes leaves the others
pub changed-cell : (w : World) (a j : ℕ) (c : Cell) (b i : ℕ) (d : Cell) → cell_at (record w { arrays = with_cell w.arrays a j c }) b i ≡ Some d
    → (cell_at w b i ≡ Some d) ⊎ ((a ≡ b) × (j ≡ i) × (c ≡ d))
changed-cell w a j c b i d e = ⊎_elim old new (set-cases w.arrays a b (slice_set (cells_at w a) j c))
  where
    old : slice_get (with_cell w.arrays a j c) b ≡ slice_get w.arrays b → (cell_at w b i ≡ Some d) ⊎ ((a ≡ b) × (j ≡ i) × (c ≡ d))
    old r = inl (subst (λ o. slice_get (unwrap_or o []) i ≡ Some d) r e)

    new : (a ≡ b) × (slice_get (with_cell w.arrays a j c) b ≡ Some (slice_set (cells_at w a) j c)) → (cell_at w b i ≡ Some d) ⊎ ((a ≡ b) × (j ≡ i) × (c ≡ d))
    new r =
        let here : slice_get (slice_set (cells_at w a) j c) i ≡ Some d = subst (λ o. slice_get (unwrap_or o []) i ≡ Some d) r.1 e in
        ⊎_elim (λ s. inl (subst (λ k. cell_at w k i ≡ Some d) r.0 (sym s ∙ here))) (λ s. inr (r.0, s.0, some-eq (sym s.1 ∙ here)))
        (set-cases (cells_at w a) j i c)

-- answers to readers are words
answers-words : (v : ℕ) (rs : List (ℕ × ℕ)) → AllByRecursion (λ x. asks x ≡ false) (answers v rs)
answers-words v [] = tt
answers-words v (r ∷ rs) = (refl, answers-words v rs)

module _ (w : World) where
  -- what comes of a fetch
  comes-ask : (a j f x t : ℕ) → ComesOf w (Ask_cell a j f x t) (delivered w (Ask_cell a j f x t))
  comes-ask a j f x t = array (slice_get w.arrays a) refl
    where
      m : Message
      m = Ask_cell a j f x t

      cell : (cells : List Cell) (o : Option Cell) → slice_get cells j ≡ o
          → ComesOf w (Ask_cell a j f x t) (accessed w t j (f, x) 0 (in_array j (fetch_of w.arrays a j (f, x)) (Some cells)))
      cell cells None d = rw (in_array, d) tt
      cell cells (Some (Empty rs)) d =
          rw (in_array, d) (
            tt,
            (λ b i u s e. ⊎_elim inl (λ k. absurd (empty-filled k.2))
                (changed-cell w a j (Empty (rs ++ (f, x) ∷ [])) b i (Filled u s) e)),
            inl refl,
          )
      cell cells (Some (Filled u s)) d = rw (in_array, d) ((refl, tt), (λ b i v e h. inl h), inl refl)

      array : (o : Option (List Cell)) → slice_get w.arrays a ≡ o
          → ComesOf w (Ask_cell a j f x t) (accessed w t j (f, x) 0 (in_array j (fetch_of w.arrays a j (f, x)) o))
      array None e = tt
      array (Some cells) e = cell cells (slice_get cells j) refl

  -- of a store
  comes-put : (a j u t : ℕ) → ComesOf w (Put_cell a j u t) (delivered w (Put_cell a j u t))
  comes-put a j u t = array (slice_get w.arrays a) refl
    where
      fills : (b i v s : ℕ) → (a ≡ b) × (j ≡ i) × (Filled u t ≡ Filled v s) → Put_cell a j u t ≡ Put_cell b i v s
      fills b i v s k = let p : u ≡ v = (filled-eq k.2).0 in let q : t ≡ s = (filled-eq k.2).1 in rw (k.0, k.1, p, q) refl

      cell : (cells : List Cell) → slice_get w.arrays a ≡ Some cells → (o : Option Cell) → slice_get cells j ≡ o
          → ComesOf w (Put_cell a j u t) (accessed w t j (0, 0) u (in_array j (store_of w.arrays a j u t) (Some cells)))
      cell cells r None d = rw (in_array, d) tt
      cell cells r (Some (Empty rs)) d =
          rw (in_array, d) (
            answers-words u rs,
            (λ b i v s e. ⊎_elim inl (λ k. inr (fills b i v s k)) (changed-cell w a j (Filled u t) b i (Filled v s) e)),
            inl refl,
          )
      cell cells r (Some (Filled v s)) d = rw (in_array, d) (a, j, v, u, refl, rw r d)

      array : (o : Option (List Cell)) → slice_get w.arrays a ≡ o
          → ComesOf w (Put_cell a j u t) (accessed w t j (0, 0) u (in_array j (store_of w.arrays a j u t) o))
      array None e = tt
      array (Some cells) e = cell cells e (slice_get cells j) refl

  -- of a wish for an array
  comes-make : (n f x : ℕ) → ComesOf w (Make n f x) (delivered w (Make n f x))
  comes-make n f x = ((refl, tt), filled, inl refl)
    where
      filled : (a j u t : ℕ) → cell_at (record w { arrays = with_array w.arrays n; makers = w.makers ++ (f, x) ∷ [] }) a j ≡ Some (Filled u t)
          → (cell_at w a j ≡ Some (Filled u t)) ⊎ (Make n f x ≡ Put_cell a j u t)
      filled a j u t e = go (cell-array (with_array w.arrays n) a j (Filled u t) e)
        where
          go : (cs : List Cell) × (slice_get (with_array w.arrays n) a ≡ Some cs) × (slice_get cs j ≡ Some (Filled u t))
              → (cell_at w a j ≡ Some (Filled u t)) ⊎ (Make n f x ≡ Put_cell a j u t)
          go h =
              ⊎_elim (λ o. inl (subst (λ p. slice_get (unwrap_or p []) j ≡ Some (Filled u t)) (sym o) h.2))
              (λ r. absurd (empty-filled (all-same n (Empty []) (Filled u t) j (subst (λ cs. slice_get cs j ≡ Some (Filled u t)) (sym r.1) h.2))))
              (push-cases w.arrays (replicate n (Empty [])) h.0 a h.1)

  -- and of each message
  pub comes : (m : Message) → ComesOf w m (delivered w m)
  comes (Carry f x v) = go (f == outside) refl
    where
      go : (b : Bool) → (f == outside) ≡ b → ComesOf w (Carry f x v) (delivered w (Carry f x v))
      go true e = rw (delivered, e) tt
      go false e = rw (delivered, e) (tt, (λ b i u s h. inl h), inl (size-got w f x v))
  comes (Begin c f x) = ((refl, tt), (λ b i u s h. inl h), inr (c, f, x, refl, refl))
  comes (Make n f x) = comes-make n f x
  comes (Ask_cell a j f x t) = comes-ask a j f x t
  comes (Put_cell a j u t) = comes-put a j u t

-- ---- a run changes no cell

-- words change no array
arrays-all_got : (w : World) (i : ℕ) (xs : List ℕ) (v : ℕ) → (all_got w i xs v).arrays ≡ w.arrays
arrays-all_got w i [] v = refl
arrays-all_got w i (x ∷ xs) v = arrays-all_got (got w i x v) i xs v

-- nor does a firing, by what the node does
arrays-firing : (g : Graph) (w : World) (i x : ℕ) (k : Kind) (vs : List ℕ) → (firing_of g w i x k vs).world.arrays ≡ w.arrays
arrays-firing g w i x (Const v) [] = refl
arrays-firing g w i x (Operate o l r) (u ∷ v ∷ []) = refl
arrays-firing g w i x (Seq l r) (u ∷ v ∷ []) = refl
arrays-firing g w i x (Call c) [] = refl
arrays-firing g w i x (Arg f k a) (v ∷ p ∷ []) = refl
arrays-firing g w i x (Give k a) (v ∷ []) = refl
arrays-firing g w i x (Alloc a) (n ∷ []) = refl
arrays-firing g w i x (Fetch a j) (u ∷ v ∷ []) = refl
arrays-firing g w i x (Store a j b) (t ∷ u ∷ v ∷ []) = refl
arrays-firing g w i x (Cond p y n) (v ∷ []) = refl
arrays-firing g w i x (Switch d k a) (u ∷ v ∷ []) = arrays-all_got w i (node_in (its_code g w i) (chosen_branch (its_code g w i) d u) (is_enter k)) v
arrays-firing g w i x (Leave k a) (v ∷ []) = arrays-all_got w i (merges_of (its_code g w i) k (owner_of (its_code g w i) (block_at (its_code g w i) x))) v
arrays-firing g w i x k vs = refl

-- whatever the node is
pub arrays-fired : (g : Graph) (w : World) (i x : ℕ) → (fired g w i x).world.arrays ≡ w.arrays
arrays-fired g w i x = go (words_of w i (operands_of (its_code g w i) (kind_at (its_code g w i) x)))
  where
    go : (ws : List (List ℕ)) → (fired_with g w i x ws).world.arrays ≡ w.arrays
    go [] = refl
    go (vs ∷ more) = arrays-firing g w i x (kind_at (its_code g w i) x) vs

-- nor does one more vertex that fires
arrays-one : (g : Graph) (b : BlockGraph) (i : ℕ) (e : Effect) (x : ℕ) → (then_one g b i e x).world.arrays ≡ e.world.arrays
arrays-one g b i e x = go (vertex_at b x).inlet refl
  where
    go : (t : Bool) → (vertex_at b x).inlet ≡ t → (then_one g b i e x).world.arrays ≡ e.world.arrays
    go true d = rw (then_one, d) refl
    go false d = rw (then_one, d) (arrays-fired g e.world i (vertex_at b x).node)

-- nor do several
arrays-each : (g : Graph) (b : BlockGraph) (i : ℕ) (e : Effect) (xs : List ℕ) → (fire_each g b i e xs).world.arrays ≡ e.world.arrays
arrays-each g b i e [] = refl
arrays-each g b i e (x ∷ xs) = arrays-each g b i (then_one g b i e x) xs ∙ arrays-one g b i e x

-- so a run changes no array
pub arrays-run : (g : Graph) (all : Partitions) (s : State) (i b c : ℕ) → (class_fired g all s i b c).world.arrays ≡ s.world.arrays
arrays-run g all s i b c =
    arrays-each g (block_of_act g s i b) i (record { world = s.world; sends = [] })
    (firing_order (block_of_act g s i b).edges (class_at (parts_of_act g all s i b) c))
