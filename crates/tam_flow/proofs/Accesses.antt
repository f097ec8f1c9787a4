-- What comes of a fetch and of a store that arrive, by what the cell holds; and the cells once one of them has changed.
use Rattle.std.proofs.Common.{◌≡◌, ℕ, zero, suc, List, [], ◌∷◌, ◌++◌, Option, Some, None, slice_get, slice_set, unwrap_or, refl, sym, ◌∙◌, subst, inl}
use Rattle.std.proofs.Common.{inr, ◌⊎◌, ⊎_elim}
use Rattle.tam_msgs.specs.declared.message.Message.TheVariants.{Word as Carry, Fetch as Ask_cell, Store as Put_cell}
use Rattle.tam_msgs.specs.Messages.{answers}
use Rattle.tam_istr.specs.Cells.{Cell, Reader, Empty, Filled, with_cell, in_array, fetch_of, store_of}
use Rattle.tam_world.specs.Worlds.{World, Delivery, Went, Faulted, Fault, Second_store, Outside_cells, changes, sends_only, accessed, delivered}
use Rattle.tam_flow.specs.Reached.{cells_at, cell_at}
use Rattle.tam_flow.proofs.CellChanges.{none-some, cell-array}
use Rattle.tam_flow.proofs.Changes.{set-cases}

-- a world with a cell changed
abbrev pub with_new_cell : World → ℕ → ℕ → Cell → World
with_new_cell w a j c = record w { arrays = with_cell w.arrays a j c }

-- what comes of a fetch: a fault, the word that the cell has, or the reader waits
abbrev pub FetchCases : World → ℕ → ℕ → ℕ → ℕ → Delivery → Type 0
FetchCases w a j f x d =
    ((q : Fault) × (d ≡ Faulted q))
    ⊎ (((u e : ℕ) × (cell_at w a j ≡ Some (Filled u e)) × (d ≡ Went (sends_only w (Carry f x u ∷ []))))
    ⊎ ((rs : List Reader) × (cell_at w a j ≡ Some (Empty rs)) × (d ≡ Went (changes (with_new_cell w a j (Empty (rs ++ (f, x) ∷ [])))))))

-- what comes of a store: a fault, or the cell has the word and those who waited get it
abbrev pub StoreCases : World → ℕ → ℕ → ℕ → ℕ → Delivery → Type 0
StoreCases w a j v t d =
    ((q : Fault) × (d ≡ Faulted q))
    ⊎ ((rs : List Reader) × (cell_at w a j ≡ Some (Empty rs)) × (d ≡ Went (sends_only (with_new_cell w a j (Filled v t)) (answers v rs))))

module _ (w : World) where
  -- a fetch
  pub fetch-cases : (a j f x t : ℕ) → FetchCases w a j f x (delivered w (Ask_cell a j f x t))
  fetch-cases a j f x t = array (slice_get w.arrays a) refl
    where
      cell : (cells : List Cell) → slice_get w.arrays a ≡ Some cells → (o : Option Cell) → slice_get cells j ≡ o
          → FetchCases w a j f x (accessed w t j (f, x) 0 (in_array j (fetch_of w.arrays a j (f, x)) (Some cells)))
      cell cells e None d = rw (in_array, d) (inl (Outside_cells t j _, refl))
      cell cells e (Some (Empty rs)) d = rw (in_array, d) (inr (inr (rs, rw e d, refl)))
      cell cells e (Some (Filled u s)) d = rw (in_array, d) (inr (inl (u, s, rw e d, refl)))

      array : (o : Option (List Cell)) → slice_get w.arrays a ≡ o
          → FetchCases w a j f x (accessed w t j (f, x) 0 (in_array j (fetch_of w.arrays a j (f, x)) o))
      array None e = inl (Outside_cells t j 0, refl)
      array (Some cells) e = cell cells e (slice_get cells j) refl

  -- a store
  pub store-cases : (a j v t : ℕ) → StoreCases w a j v t (delivered w (Put_cell a j v t))
  store-cases a j v t = array (slice_get w.arrays a) refl
    where
      cell : (cells : List Cell) → slice_get w.arrays a ≡ Some cells → (o : Option Cell) → slice_get cells j ≡ o
          → StoreCases w a j v t (accessed w t j (0, 0) v (in_array j (store_of w.arrays a j v t) (Some cells)))
      cell cells e None d = rw (in_array, d) (inl (Outside_cells t j _, refl))
      cell cells e (Some (Empty rs)) d = rw (in_array, d) (inr (rs, rw e d, refl))
      cell cells e (Some (Filled u s)) d = rw (in_array, d) (inl (Second_store s t, refl))

      array : (o : Option (List Cell)) → slice_get w.arrays a ≡ o → StoreCases w a j v t (accessed w t j (0, 0) v (in_array j (store_of w.arrays a j v t) o))
      array None e = inl (Outside_cells t j 0, refl)
      array (Some cells) e = cell cells e (slice_get cells j) refl

-- ---- the cells

-- what is set stands there
set-here : {X : Type 0} (xs : List X) (n : ℕ) (x y : X) → slice_get xs n ≡ Some x → slice_get (slice_set xs n y) n ≡ Some y
set-here [] n x y e = absurd (none-some e)
set-here (z ∷ xs) zero x y e = refl
set-here (z ∷ xs) (suc n) x y e = set-here xs n x y e

module _ (w : World) (a j : ℕ) (c d : Cell) (was : cell_at w a j ≡ Some d) where
  -- the row of a changed cell
  row : slice_get (with_cell w.arrays a j c) a ≡ Some (slice_set (cells_at w a) j c)
  row = let r = cell-array w.arrays a j d was in set-here w.arrays a r.0 (slice_set (cells_at w a) j c) r.1

  -- a changed cell is what it was made
  pub cell-here : cell_at (with_new_cell w a j c) a j ≡ Some c
  cell-here = subst (λ o. slice_get (unwrap_or o []) j ≡ Some c) (sym row) (set-here (cells_at w a) j d c was)

  -- another is what it was
  pub cell-other : (b i : ℕ) (e : Cell) → cell_at w b i ≡ Some e → ((a ≡ b) × (j ≡ i)) ⊎ (cell_at (with_new_cell w a j c) b i ≡ Some e)
  cell-other b i e h = ⊎_elim (λ q. inr (subst (λ o. slice_get (unwrap_or o []) i ≡ Some e) (sym q) h)) same
      (set-cases w.arrays a b (slice_set (cells_at w a) j c))
    where
      same : (a ≡ b) × (slice_get (with_cell w.arrays a j c) b ≡ Some (slice_set (cells_at w a) j c))
          → ((a ≡ b) × (j ≡ i)) ⊎ (cell_at (with_new_cell w a j c) b i ≡ Some e)
      same q =
          ⊎_elim (λ r. inr (subst (λ o. slice_get (unwrap_or o []) i ≡ Some e) (sym q.1) (r ∙ subst (λ k. cell_at w k i ≡ Some e) (sym q.0) h)))
          (λ r. inl (q.0, r.0)) (set-cases (cells_at w a) j i c)
