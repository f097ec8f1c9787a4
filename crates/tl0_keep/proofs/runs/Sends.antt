-- What a delivery sends is for nodes that take messages, and so are the readers that wait after it.
use Rattle.std.proofs.Common.{◌≡◌, ℕ, zero, suc, Bool, true, false, List, [], ◌∷◌, ◌++◌, refl, sym, subst, ap, inl, inr, ◌⊎◌, ◌∙◌}
use Rattle.std.proofs.Common.{◌==◌, length, slice_get, slice_set, unwrap_or, replicate, Some, None, Option}
use Rattle.tam_word.proofs.Members.{In, in-append, in-map}
use Rattle.tam_graph.specs.Graphs.{Graph}
use Rattle.tam_msgs.specs.declared.message.Message.{Message}
use Rattle.tam_msgs.specs.declared.message.Message.TheVariants.{Word as Carry, Frame as Begin, Cells as Make, Fetch as Ask_cell, Store as Put_cell}
use Rattle.tam_msgs.specs.Messages.{outside, answers}
use Rattle.tam_istr.specs.Cells.{Arrays, Cell, Reader, Empty, Filled, with_array, with_cell, fetch_of, store_of, in_array, fetched_from, stored_into}
use Rattle.tam_world.specs.Worlds.{World, Delivery, Went, Printed, Faulted, accessed, delivered, got, begun}
use Rattle.tam_flow.specs.Reached.{cell_at}
use Rattle.tam_world.specs.Worlds.{ActivationState, or_activation}
use Rattle.tam_flow.proofs.Moves.{push-cases, length-push}
use Rattle.tam_flow.proofs.Gifts.{got-one}
use Rattle.std.proofs.Common.{◌<◌, arith}
use Rattle.tl0_keep.proofs.runs.Keeps.{IsForMessages, Fits}
use Rattle.tl0_keep.proofs.runs.Told.{Stays, for-stays}
use Rattle.tl0_keep.proofs.runs.Arrives.{ReadersTake}
use Rattle.tam_flow.proofs.Changes.{set-cases}
use Rattle.tam_flow.proofs.CellChanges.{some-eq}

-- a word moves no activation
pub stays-got : (w : World) (f x v : ℕ) → Stays w (got w f x v)
stays-got w f x v = let k = (got-one w f x v).frames in record { there = λ j l. subst (λ n. j < n) (sym k.as_many) l; code = λ j l. k.code j }

-- an activation more leaves the others
pub stays-begun : (w : World) (c f x : ℕ) → Stays w (record w { activations = w.activations ++ begun c f x ∷ [] })
stays-begun w c f x = record {
  there = λ j l. let e = length-push w.activations (begun c f x) in omega arith;
  code = λ j l. elim (push-cases w.activations (begun c f x) j) [
    | inl e ↦ ap (λ (o : Option ActivationState). (or_activation o).code) e
    | inr e ↦ (let q : j ≡ length w.activations = e.2 in absurd (omega arith))
  ];
}

-- the message is a word for an inlet
abbrev pub Answered : Graph → World → Message → Type 0
Answered g w (Carry f x v) = IsForMessages g w f x
Answered g w (Begin c f x) = ⊥
Answered g w (Make n f x) = ⊥
Answered g w (Ask_cell a j f x t) = ⊥
Answered g w (Put_cell a j v t) = ⊥

-- so it fits
pub answered-fits : (g : Graph) (w : World) (m : Message) → Answered g w m → Fits g w m
answered-fits g w (Carry f x v) h = inr h
answered-fits g w (Begin c f x) h = absurd h
answered-fits g w (Make n f x) h = absurd h
answered-fits g w (Ask_cell a j f x t) h = absurd h
answered-fits g w (Put_cell a j v t) h = absurd h

-- what a delivery leaves fits
abbrev pub FitsAfter : Graph → Delivery → Type 0
FitsAfter g (Went e) = ((m : Message) → In m e.sends → Answered g e.world m) × ReadersTake g e.world
FitsAfter g (Printed k v) = Unit {0}
FitsAfter g (Faulted f) = Unit {0}

-- ---- cells

-- a cell of changed arrays is as it was, or it is the changed one
cell-cases : (rows : Arrays) (a i : ℕ) (d : Cell) (b j : ℕ) (e : Cell) → slice_get (unwrap_or (slice_get (with_cell rows a i d) b) []) j ≡ Some e
    → (slice_get (unwrap_or (slice_get rows b) []) j ≡ Some e) ⊎ (d ≡ e)
cell-cases rows a i d b j e h = outer (set-cases rows a b (slice_set (unwrap_or (slice_get rows a) []) i d))
  where
    inner : a ≡ b → slice_get (slice_set (unwrap_or (slice_get rows a) []) i d) j ≡ Some e
        → (slice_get (slice_set (unwrap_or (slice_get rows a) []) i d) j ≡ slice_get (unwrap_or (slice_get rows a) []) j)
        ⊎ ((i ≡ j) × (slice_get (slice_set (unwrap_or (slice_get rows a) []) i d) j ≡ Some d))
        → (slice_get (unwrap_or (slice_get rows b) []) j ≡ Some e) ⊎ (d ≡ e)
    inner q k (inl p) = inl (subst (λ z. slice_get (unwrap_or (slice_get rows z) []) j ≡ Some e) q (sym p ∙ k))
    inner q k (inr p) = inr (some-eq (sym p.1 ∙ k))

    outer : (slice_get (with_cell rows a i d) b ≡ slice_get rows b)
        ⊎ ((a ≡ b) × (slice_get (with_cell rows a i d) b ≡ Some (slice_set (unwrap_or (slice_get rows a) []) i d)))
        → (slice_get (unwrap_or (slice_get rows b) []) j ≡ Some e) ⊎ (d ≡ e)
    outer (inl p) = inl (subst (λ o. slice_get (unwrap_or o []) j ≡ Some e) p h)
    outer (inr p) = inner p.0 (subst (λ o. slice_get (unwrap_or o []) j ≡ Some e) p.1 h)
        (set-cases (unwrap_or (slice_get rows a) []) i j d)

-- an element of what is one element alone
in-replicate : (n : ℕ) (y z : Cell) (j : ℕ) → slice_get (replicate n y) j ≡ Some z → y ≡ z
in-replicate zero y z j h = absurd (none h)
  where
    none : None ≡ Some z → ⊥
    none e = cc
in-replicate (suc n) y z zero h = some-eq h
in-replicate (suc n) y z (suc j) h = in-replicate n y z j h

-- a cell of arrays with one more is as it was, or it is empty without readers
more-cases : (rows : Arrays) (n b j : ℕ) (e : Cell) → slice_get (unwrap_or (slice_get (with_array rows n) b) []) j ≡ Some e
    → (slice_get (unwrap_or (slice_get rows b) []) j ≡ Some e) ⊎ (Empty [] ≡ e)
more-cases [] n zero j e h = inr (in-replicate n (Empty []) e j h)
more-cases [] n (suc b) j e h = inl h
more-cases (r ∷ rows) n zero j e h = inl h
more-cases (r ∷ rows) n (suc b) j e h = more-cases rows n b j e h

-- ---- accesses

module _ (g : Graph) (w : World) (readers : ReadersTake g w) where
  -- a cell of this world
  cell-is : (a i : ℕ) (cells : List Cell) (d : Cell) → slice_get w.arrays a ≡ Some cells → slice_get cells i ≡ Some d → cell_at w a i ≡ Some d
  cell-is a i cells d p q = ap (λ o. slice_get (unwrap_or o []) i) p ∙ q

  -- after a change of one cell
  changed-readers : (a i : ℕ) (d : Cell) → ((rs : List Reader) (r : Reader) → d ≡ Empty rs → In r rs → IsForMessages g w r.0 r.1)
      → ReadersTake g (record w { arrays = with_cell w.arrays a i d })
  changed-readers a i d f b j rs r h m = elim (cell-cases w.arrays a i d b j (Empty rs) h) [ inl e ↦ readers b j rs r e m | inr e ↦ f rs r e m ]

  -- two empty cells with the same readers
  empty-one : {xs ys : List Reader} → Empty xs ≡ Empty ys → xs ≡ ys
  empty-one e = cc

  -- a fetch
  fetch-fits : (t a i f x : ℕ) → IsForMessages g w f x → FitsAfter g (accessed w t i (f, x) 0 (fetched_from w.arrays a i (f, x)))
  fetch-fits t a i f x h = array (slice_get w.arrays a) refl
    where
      cell : (cells : List Cell) → slice_get w.arrays a ≡ Some cells → (o : Option Cell) → slice_get cells i ≡ o
          → FitsAfter g (accessed w t i (f, x) 0 (in_array i (fetch_of w.arrays a i (f, x)) (Some cells)))
      cell cells p None q = rw (in_array, q) tt
      cell cells p (Some (Filled u s)) q = rw (in_array, q) (λ m n. elim n [ inl e ↦ subst (Answered g w) e h | inr e ↦ absurd e ], readers)
      cell cells p (Some (Empty rs)) q = rw (in_array, q) (λ m n. absurd n, changed-readers a i (Empty (rs ++ (f, x) ∷ [])) new)
        where
          new : (ys : List Reader) (r : Reader) → Empty (rs ++ (f, x) ∷ []) ≡ Empty ys → In r ys → IsForMessages g w r.0 r.1
          new ys r e m = elim (in-append r rs ((f, x) ∷ []) (subst (In r) (sym (empty-one e)) m)) [
            | inl k ↦ readers a i rs r (cell-is a i cells (Empty rs) p q) k
            | inr (inl k) ↦ subst (λ (z : Reader). IsForMessages g w z.0 z.1) k h
            | inr (inr k) ↦ absurd k
          ]

      array : (o : Option (List Cell)) → slice_get w.arrays a ≡ o → FitsAfter g (accessed w t i (f, x) 0 (in_array i (fetch_of w.arrays a i (f, x)) o))
      array None p = tt
      array (Some cells) p = cell cells p (slice_get cells i) refl

  -- a store
  store-fits : (t a i v : ℕ) → FitsAfter g (accessed w t i (0, 0) v (stored_into w.arrays a i v t))
  store-fits t a i v = array (slice_get w.arrays a) refl
    where
      cell : (cells : List Cell) → slice_get w.arrays a ≡ Some cells → (o : Option Cell) → slice_get cells i ≡ o
          → FitsAfter g (accessed w t i (0, 0) v (in_array i (store_of w.arrays a i v t) (Some cells)))
      cell cells p None q = rw (in_array, q) tt
      cell cells p (Some (Filled u s)) q = rw (in_array, q) tt
      cell cells p (Some (Empty rs)) q = rw (in_array, q) (sent, changed-readers a i (Filled v t) new)
        where
          new : (ys : List Reader) (r : Reader) → Filled v t ≡ Empty ys → In r ys → IsForMessages g w r.0 r.1
          new ys r e m = absurd cc

          sent : (m : Message) → In m (answers v rs) → Answered g (record w { arrays = with_cell w.arrays a i (Filled v t) }) m
          sent m n =
              let r = in-map (λ (z : Reader). Carry z.0 z.1 v) m rs n in
              subst (Answered g (record w { arrays = with_cell w.arrays a i (Filled v t) })) r.2
              (readers a i rs r.0 (cell-is a i cells (Empty rs) p q) r.1)

      array : (o : Option (List Cell)) → slice_get w.arrays a ≡ o → FitsAfter g (accessed w t i (0, 0) v (in_array i (store_of w.arrays a i v t) o))
      array None p = tt
      array (Some cells) p = cell cells p (slice_get cells i) refl

  -- a delivery
  pub delivery-fits : (m : Message) → Fits g w m → FitsAfter g (delivered w m)
  delivery-fits (Carry f x v) h = go (f == outside) refl
    where
      go : (t : Bool) → (f == outside) ≡ t → FitsAfter g (delivered w (Carry f x v))
      go true p = rw (delivered, p) tt
      go false p =
          rw (delivered, p) (λ m i. absurd i, λ a j rs r c i. for-stays g w (got w f x v) (stays-got w f x v) r.0 r.1 (readers a j rs r c i))
  delivery-fits (Begin c f x) h =
      (sent, λ a j rs r e i. for-stays g w (record w { activations = w.activations ++ begun c f x ∷ [] }) n r.0 r.1 (readers a j rs r e i))
    where
      n : Stays w (record w { activations = w.activations ++ begun c f x ∷ [] })
      n = stays-begun w c f x

      sent : (m : Message) → In m (Carry f x (length w.activations) ∷ []) → Answered g (record w { activations = w.activations ++ begun c f x ∷ [] }) m
      sent m (inl e) = subst (Answered g (record w { activations = w.activations ++ begun c f x ∷ [] })) e
          (for-stays g w (record w { activations = w.activations ++ begun c f x ∷ [] }) n f x h.0)
      sent m (inr e) = absurd e
  delivery-fits (Make k f x) h = (sent, more)
    where
      sent : (m : Message) → In m (Carry f x (length w.arrays) ∷ []) → Answered g
          (record w { arrays = with_array w.arrays k; makers = w.makers ++ (f, x) ∷ [] }) m
      sent m (inl e) = subst (Answered g (record w { arrays = with_array w.arrays k; makers = w.makers ++ (f, x) ∷ [] })) e h
      sent m (inr e) = absurd e

      more : ReadersTake g (record w { arrays = with_array w.arrays k; makers = w.makers ++ (f, x) ∷ [] })
      more a j rs r c i = elim (more-cases w.arrays k a j (Empty rs) c) [
        | inl e ↦ readers a j rs r e i
        | inr e ↦ absurd (subst (In r) (sym (empty-one e)) i)
      ]
  delivery-fits (Ask_cell a j f x t) h = fetch-fits t a j f x h
  delivery-fits (Put_cell a j v t) h = store-fits t a j v
