-- The number that digits stand for: how large it is.
use Rattle.std.proofs.Common.{◌≡◌, ℕ, ◌+◌, ◌*◌, ◌^◌, ◌<◌, ◌≤◌, Bool, true, false, ltb, eqb}
use Rattle.std.proofs.Common.{List, [], ◌∷◌, length, get_or, map, Option, Some, None, refl, ap, arith, lit<}
use Rattle.std.specs.Prelude.{IfSome, IfNone}
use Rattle.std.proofs.lemmas.Bool.{ltb-true, lt-ltb}
use Rattle.std.specs.Int.Digits.{number_from_digits_after, AllBelowBase}
use Rattle.std.proofs.lemmas.Int.Digits.{number_after_lt, number_after_ge}
use Rattle.std.proofs.lemmas.List.{length-map}
use Rattle.std.proofs.Math.Nat.{pow-le-pow_right}
use Rattle.tam_word.specs.Numbers.{digit_of, are_digits, number_behind, hexadecimal_of}

-- the number by std's word, over the values of the digits
number_is : (base n : ℕ) (bs : List ℕ) → number_behind base n bs ≡ number_from_digits_after base n (map digit_of bs)
number_is base n [] = refl
number_is base n (b ∷ bs) = number_is base (n * base + digit_of b) bs

-- it is at least what stands before it
pub number_behind_ge : (base n : ℕ) (bs : List ℕ) → 0 < base → n ≤ number_behind base n bs
number_behind_ge base n bs h = rw (number_is base n bs) (number_after_ge base n (map digit_of bs) h)

-- a digit of the base, and digits behind it
both : (base d : ℕ) (t rest : Bool) → ltb d base ≡ t → (elim t [ true ↦ rest | false ↦ false ]) ≡ true → (d < base) × (rest ≡ true)
both base d true rest h e = (ltb-true d base h, e)
both base d false rest h e = absurd cc

-- each digit stands for a number below the base
all_below : (base : ℕ) (bs : List ℕ) → are_digits base bs ≡ true → AllBelowBase base (map digit_of bs)
all_below base [] h = tt
all_below base (b ∷ bs) h = let p = both base (digit_of b) (ltb (digit_of b) base) (are_digits base bs) refl h in (p.0, all_below base bs p.1)

-- eight hexadecimal digits are a word
pub eight_digits : (bs : List ℕ) → are_digits 16 bs ≡ true → length bs < 9 → number_behind 16 0 bs < 2 ^ 32
eight_digits bs h short =
    let digits = map digit_of bs in
    let below : number_from_digits_after 16 0 digits < (0 + 1) * 16 ^ length digits = number_after_lt 16 0 digits (all_below 16 bs h) in
    let few : length digits ≤ 8 = simp length-map (omega arith) in
    let most : 16 ^ length digits ≤ 16 ^ 8 = pow-le-pow_right (lit< tt) few in
    rw (number_is 16 0 bs) (omega (arith, below, most))

-- a digit more passes the bound
pub passes_bound : (base n most total : ℕ) (bs : List ℕ) → 0 < base → 0 < length bs → number_behind base n bs ≡ total
    → most < n * base + digit_of (get_or bs 0 0) → most < total
passes_bound base n most total [] pos long e h = absurd (omega arith)
passes_bound base n most total (b ∷ bs) pos long e h = omega (arith, number_behind_ge base (n * base + digit_of b) bs pos, e)

-- a list that isn't empty has an element
pub some_digits : (bs : List ℕ) → false ≡ eqb (length bs) 0 → 0 < length bs
some_digits [] e = absurd cc
some_digits (b ∷ bs) e = omega arith

-- what 1 to 8 hexadecimal digits stand for
pub hexadecimal_is : (r : Option ℕ) (bs : List ℕ) → 0 < length bs → length bs < 9 → are_digits 16 bs ≡ true
    → IfSome r (λ n. n ≡ number_behind 16 0 bs) → IfNone r (4294967295 < number_behind 16 0 bs) → r ≡ hexadecimal_of bs
hexadecimal_is None bs pos short digits found beyond = absurd (omega (arith, eight_digits bs digits short, beyond))
hexadecimal_is (Some n) bs pos short digits found beyond = rw (lt-ltb 0 (length bs) pos, lt-ltb (length bs) 9 short, digits) (ap Some found)
