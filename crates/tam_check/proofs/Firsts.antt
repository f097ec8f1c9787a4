-- The first of what the numbers below n give, number by number.
use Rattle.std.proofs.Common.{◌≡◌, ℕ, zero, suc, ◌+◌, ◌<◌, List, [], ◌∷◌, ◌++◌, map, flat_map, take, refl, ap, ◌∙◌, arith, inl, inr}
use Rattle.std.proofs.lemmas.Grind.{flat_map-append}
use Rattle.tam_word.specs.Lists.{below}
use Rattle.tam_word.proofs.Each.{last-or_before}

-- where the first is none, there is none
none-all : {X : Type 0} (xs : List X) → take 1 xs ≡ [] → xs ≡ []
none-all [] h = refl
none-all (x ∷ xs) h = absurd cc

-- the first of a list is the first of what begins with it
first-left : {X : Type 0} (xs ys : List X) (x : X) → take 1 xs ≡ x ∷ [] → take 1 (xs ++ ys) ≡ x ∷ []
first-left [] ys x h = absurd cc
first-left (z ∷ xs) ys x h = h

-- a list with nothing behind it
append-none : {X : Type 0} (xs : List X) → xs ++ [] ≡ xs
append-none [] = refl
append-none (x ∷ xs) = ap (λ ys. x ∷ ys) (append-none xs)

module _ {X : Type 0} (give : ℕ → List X) where
  -- what the numbers below n + 1 give
  one-more : (n : ℕ) → flat_map give (below (n + 1)) ≡ flat_map give (below n) ++ give n
  one-more n =
      let next : n + 1 ≡ suc n = omega arith in
      rw next (flat_map-append give (below n) (n ∷ []) ∙ ap (λ zs. flat_map give (below n) ++ zs) (append-none (give n)))

  -- one more number that gives nothing
  pub none-next : (n : ℕ) → flat_map give (below n) ≡ [] → take 1 (give n) ≡ [] → flat_map give (below (n + 1)) ≡ []
  none-next n before here = one-more n ∙ rw (before, none-all (give n) here) refl

  -- the first number that gives something
  pub first-given : (n x : ℕ) (y : X) → x < n → flat_map give (below x) ≡ [] → take 1 (give x) ≡ y ∷ [] → take 1 (flat_map give (below n)) ≡ y ∷ []
  first-given zero x y l before here = absurd (omega arith)
  first-given (suc n) x y l before here = elim (last-or_before x n l) [
    | inl b ↦ ap (take 1) (flat_map-append give (below n) (n ∷ [])) ∙ first-left (flat_map give (below n)) _ y (first-given n x y b before here)
    | inr e ↦ rw (← e) (ap (take 1) (flat_map-append give (below x) (x ∷ []) ∙ rw before (append-none (give x))) ∙ here)
  ]

-- the first of what all become
pub first-map : {X Y : Type 0} (f : X → Y) (xs : List X) → take 1 (map f xs) ≡ map f (take 1 xs)
first-map f [] = refl
first-map f (x ∷ xs) = refl
