-- Elements put at places of lists.
use Rattle.std.proofs.Common.{◌≡◌, ℕ, zero, suc, ◌<◌, ◌+◌, ◌-◌, List, [], ◌∷◌, ◌++◌, length, replicate, slice_set, refl, ap, sym, ◌≤◌, ◌∙◌}
use Rattle.std.proofs.Common.{append_assoc, length-append, arith}
use Rattle.tam_word.specs.Lists.{put_at}

-- an element that is put where the list has an element is set
pub put_at-set : {X : Type 0} (blank : X) (n : ℕ) (x : X) (xs : List X) → n < length xs → slice_set xs n x ≡ put_at blank n x xs
put_at-set blank n x [] inside = absurd (omega arith)
put_at-set blank zero x (y ∷ ys) inside = refl
put_at-set blank (suc n) x (y ∷ ys) inside = ap (λ l. y ∷ l) (put_at-set blank n x ys (omega arith))

-- where the list is shorter, it stands behind as many blanks as it takes
pushed : {X : Type 0} (blank : X) (n : ℕ) (x : X) (xs : List X) (k : ℕ) → k + length xs ≡ n → (xs ++ replicate k blank) ++ x ∷ [] ≡ put_at blank n x xs
pushed blank zero x [] zero many = refl
pushed blank (suc n) x [] zero many = absurd (omega arith)
pushed blank zero x [] (suc k) many = absurd (omega arith)
pushed blank (suc n) x [] (suc k) many = ap (λ l. blank ∷ l) (pushed blank n x [] k (omega arith))
pushed blank zero x (y ∷ ys) k many = absurd (omega arith)
pushed blank (suc n) x (y ∷ ys) k many = ap (λ l. y ∷ l) (pushed blank n x ys k (omega arith))

-- the same for that many
pub put_at-pushed : {X : Type 0} (blank : X) (n : ℕ) (x : X) (xs : List X) → length xs ≤ n
    → (xs ++ replicate (n - length xs) blank) ++ x ∷ [] ≡ put_at blank n x xs
put_at-pushed blank n x xs short = pushed blank n x xs (n - length xs) (omega arith)

-- one more of several
replicate-last : {X : Type 0} (k : ℕ) (blank : X) → replicate (suc k) blank ≡ replicate k blank ++ blank ∷ []
replicate-last zero blank = refl
replicate-last (suc k) blank = ap (λ l. blank ∷ l) (replicate-last k blank)

-- a blank more behind a list and blanks
pub blank-more : {X : Type 0} (blank : X) (xs ys : List X) → ys ≡ xs ++ replicate (length ys - length xs) blank → length xs ≤ length ys
    → ys ++ blank ∷ [] ≡ xs ++ replicate (length (ys ++ blank ∷ []) - length xs) blank
blank-more {X} blank xs ys is least =
    let k : ℕ = length ys - length xs in
    let more : length (ys ++ blank ∷ []) - length xs ≡ suc k = omega (arith, length-append ys (blank ∷ [])) in
    ap (λ (l : List X). l ++ blank ∷ []) is ∙ append_assoc xs (replicate k blank) (blank ∷ [])
    ∙ ap (λ (l : List X). xs ++ l) (sym (replicate-last k blank)) ∙ ap (λ (n : ℕ). xs ++ replicate n blank) (sym more)
