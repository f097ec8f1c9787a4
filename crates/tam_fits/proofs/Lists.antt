-- Lengths of lists and sums over them.
use Rattle.std.proofs.Common.{◌≡◌, ℕ, suc, ◌+◌, ◌*◌, ◌≤◌, List, [], ◌∷◌, map, flat_map, length, refl, ap, arith}
use Rattle.std.proofs.Common.{inl, inr, slice_get, Some}
use Rattle.std.specs.List.{sum_by}
use Rattle.std.proofs.lemmas.List.{length-append}
use Rattle.std.proofs.lemmas.List.Sums.{sum_by-cons}
use Rattle.std.proofs.Math.Nat.{suc-mul, mul-add, mul_comm, mul-le-mul_right}
use Rattle.std.proofs.lemmas.Nat.{mul-le}
use Rattle.tam_word.proofs.Members.{In}

-- the length of lists together
pub length-flat_sum : {X Y : Type 0} (h : X → List Y) (xs : List X) → length (flat_map h xs) ≡ sum_by (λ x. length (h x)) xs
length-flat_sum h [] = refl
length-flat_sum h (x ∷ xs) =
    let i = length-flat_sum h xs in
    let a = length-append (h x) (flat_map h xs) in
    let b = sum_by-cons (λ y. length (h y)) x xs in
    omega (arith, i, a, b)

-- ---- sums

-- the sum over a map
pub sum-map : {X Y : Type 0} (f : Y → ℕ) (h : X → Y) (xs : List X) → sum_by f (map h xs) ≡ sum_by (λ x. f (h x)) xs
sum-map f h [] = refl
sum-map f h (x ∷ xs) =
    let i = sum-map f h xs in
    let a = sum_by-cons f (h x) (map h xs) in
    let b = sum_by-cons (λ y. f (h y)) x xs in
    omega (arith, i, a, b)

-- what is at most m for each of some is at most m times as many
pub sum-most : {X : Type 0} (f : X → ℕ) (m : ℕ) (xs : List X) → ((x : X) → In x xs → f x ≤ m) → sum_by f xs ≤ length xs * m
sum-most f m [] h = omega arith
sum-most f m (x ∷ xs) h =
    let i = sum-most f m xs (λ y k. h y (inr k)) in
    let o = h x (inl refl) in
    let a = sum_by-cons f x xs in
    let e = suc-mul (length xs) m in
    omega (arith, i, o, a, e)

-- the same at each place of the list
pub sum-places : {X : Type 0} (f : X → ℕ) (m : ℕ) (xs : List X) → ((k : ℕ) (x : X) → slice_get xs k ≡ Some x → f x ≤ m) → sum_by f xs ≤ length xs * m
sum-places f m [] h = omega arith
sum-places f m (x ∷ xs) h =
    let i = sum-places f m xs (λ k y e. h (suc k) y e) in
    let o = h 0 x refl in
    let a = sum_by-cons f x xs in
    let e = suc-mul (length xs) m in
    omega (arith, i, o, a, e)

-- and of n at most, m times n
pub sum-limit : {X : Type 0} (f : X → ℕ) (m n : ℕ) (xs : List X) → ((x : X) → In x xs → f x ≤ m) → length xs ≤ n → sum_by f xs ≤ m * n
sum-limit f m n xs h l =
    let s = sum-most f m xs h in
    let k : length xs * m ≤ n * m = mul-le-mul_right m l in
    let c : n * m ≡ m * n = mul_comm n m in
    omega (arith, s, k, c)

-- the sum of two terms
pub sum-plus : {X : Type 0} (f h : X → ℕ) (xs : List X) → sum_by (λ x. f x + h x) xs ≡ sum_by f xs + sum_by h xs
sum-plus f h [] = omega arith
sum-plus f h (x ∷ xs) =
    let i = sum-plus f h xs in
    let a = sum_by-cons (λ y. f y + h y) x xs in
    let b = sum_by-cons f x xs in
    let c = sum_by-cons h x xs in
    omega (arith, i, a, b, c)

-- and of one that counts m times
pub sum-times : {X : Type 0} (m : ℕ) (f : X → ℕ) (xs : List X) → sum_by (λ x. m * f x) xs ≡ m * sum_by f xs
sum-times m f [] = omega arith
sum-times m f (x ∷ xs) =
    let i = sum-times m f xs in
    let a = sum_by-cons (λ y. m * f y) x xs in
    let b = sum_by-cons f x xs in
    let e : m * (f x + sum_by f xs) ≡ m * f x + m * sum_by f xs = mul-add m (f x) (sum_by f xs) in
    let k : m * sum_by f (x ∷ xs) ≡ m * (f x + sum_by f xs) = ap (λ j. m * j) b in
    omega (arith, i, a, e, k)

-- a sum that isn't greater isn't so where each term counts m times
pub sum-times_least : {X Y : Type 0} (m : ℕ) (f : X → ℕ) (h : Y → ℕ) (xs : List X) (ys : List Y) → sum_by f xs ≤ sum_by h ys
    → sum_by (λ x. m * f x) xs ≤ sum_by (λ y. m * h y) ys
sum-times_least m f h xs ys l =
    let a = sum-times m f xs in
    let b = sum-times m h ys in
    let k : m * sum_by f xs ≤ m * sum_by h ys = mul-le m (sum_by f xs) m (sum_by h ys) (omega arith) l in
    omega (arith, a, b, k)

-- where each term is 1
pub sum-ones : {X : Type 0} (f : X → ℕ) (xs : List X) → ((x : X) → In x xs → f x ≡ 1) → sum_by f xs ≡ length xs
sum-ones f [] h = refl
sum-ones f (x ∷ xs) h =
    let i = sum-ones f xs (λ y m. h y (inr m)) in
    let o = h x (inl refl) in
    let a = sum_by-cons f x xs in
    omega (arith, i, o, a)
