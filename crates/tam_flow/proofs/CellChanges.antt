-- A new array, and a cell that changes, leave a world that has its reasons.
use Rattle.std.proofs.Common.{◌≡◌, ℕ, zero, suc, ◌<◌, List, [], ◌∷◌, ◌++◌, Option, Some, None, length, slice_get, slice_set, replicate, unwrap_or, refl, sym}
use Rattle.std.proofs.Common.{ap, ◌∙◌, arith, subst, inl, inr, ◌⊎◌, ⊎_elim}
use Rattle.std.proofs.lemmas.List.{length-append, length-replicate, length-set}
use Rattle.tam_graph.specs.declared.kind.Kind.TheVariants.{Alloc}
use Rattle.tam_istr.specs.Cells.{Cell, Empty, Arrays, with_array, with_cell}
use Rattle.tam_graph.specs.Graphs.{Graph}
use Rattle.tam_fire.specs.FiringRules.{Path, Fired, Word, Holds, node_of}
use Rattle.tam_world.specs.Worlds.{World}
use Rattle.tam_flow.specs.Told.{IsNumber, or_maker}
use Rattle.tam_flow.specs.Reached.{maker_of, cells_at, cell_at}
use Rattle.tam_word.proofs.Each.{get-left, get-last, last-or_before}
use Rattle.tam_flow.proofs.Growing.{Grows, grows-arrays, grows-made}
use Rattle.tam_flow.proofs.Justified.{IsArray, IsMade, IsCell, IsSoundWorld, made-later, cell-later, number-later}
use Rattle.tam_flow.proofs.Changes.{set-cases, sound-arrays}

-- nothing is no element
pub none-some : {A : Type 0} {a : A} → None ≡ Some a → ⊥
none-some q = cc

-- equal options have equal elements
pub some-eq : {A : Type 0} {a b : A} → Some a ≡ Some b → a ≡ b
some-eq q = cc

-- an element of a list that is one longer is an element of the list, or the last
pub push-cases : {X : Type 0} (xs : List X) (y z : X) (n : ℕ) → slice_get (xs ++ y ∷ []) n ≡ Some z → (slice_get xs n ≡ Some z) ⊎ ((n ≡ length xs) × (y ≡ z))
push-cases [] y z zero e = inr (refl, some-eq e)
push-cases [] y z (suc n) e = inl e
push-cases (x ∷ xs) y z zero e = inl e
push-cases (x ∷ xs) y z (suc n) e = ⊎_elim inl (λ h. inr (ap suc h.0, h.1)) (push-cases xs y z n e)

-- what is equal to one element alone
pub all-same : {X : Type 0} (n : ℕ) (y z : X) (j : ℕ) → slice_get (replicate n y) j ≡ Some z → y ≡ z
all-same zero y z j e = absurd (none-some e)
all-same (suc n) y z zero e = some-eq e
all-same (suc n) y z (suc j) e = all-same n y z j e

-- a cell that is there is in an array that is there
pub cell-array : (rows : Arrays) (a j : ℕ) (c : Cell) → slice_get (unwrap_or (slice_get rows a) []) j ≡ Some c
    → (cells : List Cell) × (slice_get rows a ≡ Some cells) × (slice_get cells j ≡ Some c)
cell-array rows a j c e = go (slice_get rows a) refl e
  where
    go : (o : Option (List Cell)) → slice_get rows a ≡ o → slice_get (unwrap_or o []) j ≡ Some c
        → (cells : List Cell) × (slice_get rows a ≡ Some cells) × (slice_get cells j ≡ Some c)
    go None d h = absurd (none-some h)
    go (Some cells) d h = (cells, d, h)

module _ (g : Graph) (args : List ℕ) where
  -- a new array of n empty cells, for which an alloc fired
  abbrev pub with_made : World → ℕ → ℕ → ℕ → World
  with_made w n f x = record w { arrays = with_array w.arrays n; makers = w.makers ++ (f, x) ∷ [] }

  -- the new array is that of its alloc
  pub new-array : (w : World) (n f x : ℕ) (q : Path) → IsNumber w q f → IsArray (with_made w n f x) q x (length w.makers)
  new-array w n f x q number = record {
    below = omega (arith, length-append w.makers ((f, x) ∷ []));
    number = subst (λ m. IsNumber (with_made w n f x) q m.0) (sym made)
        (number-later g args w (with_made w n f x) (grows-made w (with_made w n f x) (f, x) refl refl) q f number);
    alloc = ap (λ m. m.1) made;
  }
    where
      made : maker_of (with_made w n f x) (length w.makers) ≡ (f, x)
      made = ap or_maker (get-last w.makers (f, x))

  -- a world with the new array has its reasons
  pub sound-made : (w : World) (n f x c : ℕ) (q : Path) → IsSoundWorld g args w → IsNumber w q f → node_of g q x ≡ Alloc c
      → Holds g args (Fired q x (Word n ∷ []))
      → IsSoundWorld g args (with_made w n f x)
  sound-made w n f x c q sound number allocs fired =
      sound-arrays g args w (with_made w n f x) grows refl sound
      (omega (arith, length-append w.arrays (replicate n (Empty []) ∷ []), length-append w.makers ((f, x) ∷ []), sound.as_many))
      (λ a l. ⊎_elim (old_made a) (new_made a) (last-or_before a (length w.makers) (omega (arith, length-append w.makers ((f, x) ∷ []), l)))) cells
    where
      grows : Grows w (with_made w n f x)
      grows = grows-made w (with_made w n f x) (f, x) refl refl

      old_made : (a : ℕ) → a < length w.makers → IsMade g args (with_made w n f x) a (length (cells_at (with_made w n f x) a))
      old_made a l =
          subst (λ o. IsMade g args (with_made w n f x) a (length (unwrap_or o [])))
          (sym (get-left w.arrays (replicate n (Empty []) ∷ []) a (omega (arith, sound.as_many, l))))
          (made-later g args w (with_made w n f x) grows a (length (cells_at w a)) (sound.made a l))

      this : IsMade g args (with_made w n f x) (length w.makers) n
      this = record { p = q; z = x; c = c; array = new-array w n f x q number; allocs = allocs; fired = fired }

      row : slice_get (with_array w.arrays n) (length w.makers) ≡ Some (replicate n (Empty []))
      row = subst (λ k. slice_get (with_array w.arrays n) k ≡ Some (replicate n (Empty []))) sound.as_many (get-last w.arrays (replicate n (Empty [])))

      new_made : (a : ℕ) → a ≡ length w.makers → IsMade g args (with_made w n f x) a (length (cells_at (with_made w n f x) a))
      new_made a e =
          subst (λ k. IsMade g args (with_made w n f x) k (length (cells_at (with_made w n f x) k))) (sym e)
          (subst (λ o. IsMade g args (with_made w n f x) (length w.makers) (length (unwrap_or o []))) (sym row)
          (subst (λ k. IsMade g args (with_made w n f x) (length w.makers) k) (sym (length-replicate n (Empty []))) this))

      cells : (a j : ℕ) (d : Cell) → cell_at (with_made w n f x) a j ≡ Some d → IsCell g args (with_made w n f x) a j d
      cells a j d e = go (cell-array (with_array w.arrays n) a j d e)
        where
          go : (cs : List Cell) × (slice_get (with_array w.arrays n) a ≡ Some cs) × (slice_get cs j ≡ Some d) → IsCell g args (with_made w n f x) a j d
          go h =
              ⊎_elim (λ o. cell-later g args w (with_made w n f x) grows a j d
              (sound.cells a j d (subst (λ p. slice_get (unwrap_or p []) j ≡ Some d) (sym o) h.2)))
              (λ r. subst (λ p. IsCell g args (with_made w n f x) a j p) (all-same n (Empty []) d j (subst (λ cs. slice_get cs j ≡ Some d) (sym r.1) h.2)) tt)
              (push-cases w.arrays (replicate n (Empty [])) h.0 a h.1)

  -- a cell changes, and has its reason
  abbrev pub with_changed_cell : World → ℕ → ℕ → Cell → World
  with_changed_cell w a j c = record w { arrays = with_cell w.arrays a j c }

  -- a world with the changed cell has its reasons
  pub sound-cell : (w : World) (a j : ℕ) (c : Cell) → IsSoundWorld g args w → IsCell g args w a j c → IsSoundWorld g args (with_changed_cell w a j c)
  sound-cell w a j c sound reason =
      sound-arrays g args w (with_changed_cell w a j c) grows refl sound
      (omega (arith, length-set w.arrays a (slice_set (cells_at w a) j c), sound.as_many)) made cells
    where
      grows : Grows w (with_changed_cell w a j c)
      grows = grows-arrays w (with_changed_cell w a j c) refl refl

      row : (b : ℕ) → (cells_at (with_changed_cell w a j c) b ≡ cells_at w b) ⊎
          ((a ≡ b) × (cells_at (with_changed_cell w a j c) b ≡ slice_set (cells_at w a) j c))
      row b = ⊎_elim (λ e. inl (ap (λ o. unwrap_or o []) e)) (λ e. inr (e.0, ap (λ o. unwrap_or o []) e.1))
          (set-cases w.arrays a b (slice_set (cells_at w a) j c))

      as_long : (b : ℕ) → length (cells_at (with_changed_cell w a j c) b) ≡ length (cells_at w b)
      as_long b = ⊎_elim (λ e. ap length e) (λ e. ap length e.1 ∙ length-set (cells_at w a) j c ∙ ap (λ k. length (cells_at w k)) e.0) (row b)

      made : (b : ℕ) → b < length w.makers → IsMade g args (with_changed_cell w a j c) b (length (cells_at (with_changed_cell w a j c) b))
      made b l =
          subst (λ k. IsMade g args (with_changed_cell w a j c) b k) (sym (as_long b))
          (made-later g args w (with_changed_cell w a j c) grows b (length (cells_at w b)) (sound.made b l))

      cells : (b i : ℕ) (d : Cell) → cell_at (with_changed_cell w a j c) b i ≡ Some d → IsCell g args (with_changed_cell w a j c) b i d
      cells b i d e = cell-later g args w (with_changed_cell w a j c) grows b i d (⊎_elim old new (row b))
        where
          old : cells_at (with_changed_cell w a j c) b ≡ cells_at w b → IsCell g args w b i d
          old r = sound.cells b i d (subst (λ cs. slice_get cs i ≡ Some d) r e)

          new : (a ≡ b) × (cells_at (with_changed_cell w a j c) b ≡ slice_set (cells_at w a) j c) → IsCell g args w b i d
          new r =
              subst (λ k. IsCell g args w k i d) r.0
              (⊎_elim (λ s. sound.cells a i d (sym s ∙ here))
              (λ s. subst (λ k. IsCell g args w a k d) s.0 (subst (λ k. IsCell g args w a j k) (some-eq (sym s.1 ∙ here)) reason))
              (set-cases (cells_at w a) j i c))
            where
              here : slice_get (slice_set (cells_at w a) j c) i ≡ Some d
              here = subst (λ cs. slice_get cs i ≡ Some d) r.1 e
