-- Lists of things by their numbers.
use Rattle.std.proofs.Common.{◌≡◌, ◌≢◌, ◌∙◌, sym, ap, ℕ, ◌+◌, ◌<◌, List, [], ◌∷◌, ◌++◌, length, get_or, arith, inl, inr}
use Rattle.std.specs.Prelude.{slice_set}
use Rattle.std.proofs.lemmas.Bool.{cases_eq}
use Rattle.std.proofs.lemmas.List.{length-set, get_or-set_same, get_or-set_other}
use Rattle.std.proofs.lemmas.List.FromFn.{length-map-range_with_len, get_or-map-range_with_len, map-range_with_len_more, fill_by_all}
use Rattle.tam_frames.specs.FrameCells.{listed}

module _ {X : Type 0} (n : ℕ) (x : ℕ → X) where
  -- so many are listed
  pub length-listed : length (listed n x) ≡ n
  length-listed = length-map-range_with_len x 0 n

  -- each is at its number
  pub get_or-listed : (i : ℕ) (d : X) → i < n → get_or (listed n x) i d ≡ x i
  get_or-listed i d lt = get_or-map-range_with_len x 0 n i i d lt (omega arith)

  -- a list with each at its number
  pub listed-is : (xs : List X) (d : X) → length xs ≡ n → ((i : ℕ) → i < n → get_or xs i d ≡ x i) → xs ≡ listed n x
  listed-is xs d wide each = fill_by_all x xs n d wide each

  -- one more
  pub listed-more : listed (n + 1) x ≡ listed n x ++ x n ∷ []
  listed-more = map-range_with_len_more x 0 n n (omega arith)

-- the same ones are listed
pub listed-same : {X : Type 0} (n : ℕ) (x y : ℕ → X) (d : X) → ((i : ℕ) → i < n → x i ≡ y i) → listed n x ≡ listed n y
listed-same n x y d same = listed-is n y (listed n x) d (length-listed n x) (λ i lt. get_or-listed n x i d lt ∙ same i lt)

-- all but one, which is there, are the same
pub record DifferAt {X : Type 0} (n : ℕ) (x y : ℕ → X) (f : ℕ) : Type 0 where
  pub there : f < n
  pub same : (i : ℕ) → i < n → i ≢ f → x i ≡ y i

-- then that one is set
pub listed-set : {X : Type 0} {n : ℕ} {x y : ℕ → X} {f : ℕ} → DifferAt n x y f → (d : X) → slice_set (listed n x) f (y f) ≡ listed n y
listed-set {n = n} {x} {y} {f} differ d = listed-is n y (slice_set (listed n x) f (y f)) d (length-set (listed n x) f (y f) ∙ length-listed n x) each
  where
    each : (i : ℕ) → i < n → get_or (slice_set (listed n x) f (y f)) i d ≡ y i
    each i lt = elim (cases_eq i f) [
      | inl is ↦ ap (λ (j : ℕ). get_or (slice_set (listed n x) f (y f)) j d) is
          ∙ get_or-set_same (listed n x) f (y f) d (omega (arith, differ.there, length-listed n x)) ∙ ap y (sym is)
      | inr other ↦ get_or-set_other (listed n x) f i (y f) d other ∙ get_or-listed n x i d lt ∙ differ.same i lt other
    ]
