-- A text in decimal is what `decimal` writes of its number, and of no other.
use Rattle.std.proofs.Common.{◌≡◌, ℕ, zero, suc, ◌^◌, ◌<◌, ◌≤◌, Bool, true, false, eqb, leb}
use Rattle.std.proofs.Common.{◌&&◌, List, [], ◌∷◌, length, get_or, Some, refl, sym, ap, ◌∙◌, arith, rules}
use Rattle.std.specs.Fmt.{decimal}
use Rattle.std.proofs.lemmas.Bool.{eqb-false, eqb-true, leb-true, le-leb}
use Rattle.std.proofs.lemmas.Str.Parse.{IsNumeralModel, numerals_by_fold}
use Rattle.std.proofs.lemmas.Fmt.{decimal-digits_value, decimal_is_IsNumeral, decimal_digit, first_decimal, decimal_nonempty}
use Rattle.tam_word.proofs.Tests.{both-true}
use Rattle.tam_word.specs.Numbers.{are_digits, number_behind, is_decimal, decimal_up_to, some_if}

-- our words on digits are a model of numerals
own : IsNumeralModel (λ ds. are_digits 10 ds ≡ true) (number_behind 10 0)
own = numerals_by_fold _ (search rules) (number_behind 10) (search rules)

-- a first byte that isn't 0, and what is known of all
later : (t u : Bool) → (elim t [ true ↦ false | false ↦ u ]) ≡ true → (t ≡ false) × (u ≡ true)
later true u e = absurd cc
later false u e = (refl, e)

-- the digits of a number without a leading zero are those that `decimal` writes
pub decimal-is : (bs : List ℕ) → is_decimal bs ≡ true → number_behind 10 0 bs < 2 ^ 64 → decimal (number_behind 10 0 bs) ≡ bs
decimal-is [] e lt = absurd cc
decimal-is (b ∷ []) e lt = decimal-digits_value own (b ∷ []) e (omega arith) (λ z. refl) lt
decimal-is (b ∷ c ∷ bs) e lt =
    let p = later (eqb b 48) (are_digits 10 (b ∷ c ∷ bs)) e in
    decimal-digits_value own (b ∷ c ∷ bs) p.1 (omega arith) (λ z. absurd (eqb-false b 48 p.0 z)) lt

-- the same the other way round
no_zero : (t u : Bool) → (t ≡ true → ⊥) → u ≡ true → (elim t [ true ↦ false | false ↦ u ]) ≡ true
no_zero true u h e = absurd (h refl)
no_zero false u h e = e

-- digits without a leading zero
digits_decimal : (bs : List ℕ) → are_digits 10 bs ≡ true → 0 < length bs → (get_or bs 0 0 ≡ 48 → length bs ≡ 1) → is_decimal bs ≡ true
digits_decimal [] e pos h = absurd (omega arith)
digits_decimal (b ∷ []) e pos h = e
digits_decimal (b ∷ c ∷ bs) e pos h =
    no_zero (eqb b 48) (are_digits 10 (b ∷ c ∷ bs)) (λ z. let one : length (b ∷ c ∷ bs) ≡ 1 = h (eqb-true b 48 z) in omega arith) e

-- what `decimal` writes is read
pub is_decimal-decimal : (n : ℕ) → n < 2 ^ 64 → is_decimal (decimal n) ≡ true
is_decimal-decimal zero lt = ap is_decimal (decimal_digit 0 (omega arith))
is_decimal-decimal (suc n) lt =
    let pos : 0 < suc n = omega arith in
    let digits = own.from (decimal (suc n)) ((decimal_is_IsNumeral (suc n) lt).0).1 in
    let first = first_decimal (suc n) pos lt in
    digits_decimal (decimal (suc n)) digits (decimal_nonempty (suc n) lt) (λ z. absurd (omega arith))

-- as the number that was written
pub number-decimal : (n : ℕ) → n < 2 ^ 64 → number_behind 10 0 (decimal n) ≡ n
number-decimal n lt = let d = decimal_is_IsNumeral n lt in own.same (decimal n) (d.0).1 ∙ d.1

-- where there is a number, the test holds
some_of : (t : Bool) (n m : ℕ) → some_if t n ≡ Some m → (t ≡ true) × (n ≡ m)
some_of true n m e = (refl, cc)
some_of false n m e = absurd cc

-- a number in a text, exactly
pub decimal_up_to-is : (most : ℕ) (bs : List ℕ) (n : ℕ) → most < 2 ^ 64 → decimal_up_to most bs ≡ Some n → (bs ≡ decimal n) × (n ≤ most)
decimal_up_to-is most bs n small e =
    let p = some_of (is_decimal bs && leb (number_behind 10 0 bs) most) (number_behind 10 0 bs) n e in
    let q = both-true (is_decimal bs) (leb (number_behind 10 0 bs) most) p.0 in
    let within : number_behind 10 0 bs ≤ most = leb-true (number_behind 10 0 bs) most q.1 in
    (sym (decimal-is bs q.0 (omega arith)) ∙ ap (λ (k : ℕ). decimal k) p.1, omega (arith, p.1))

-- a number that isn't greater reads back
pub decimal_up_to-again : (most n : ℕ) → most < 2 ^ 64 → n ≤ most → decimal_up_to most (decimal n) ≡ Some n
decimal_up_to-again most n small le =
    let lt : n < 2 ^ 64 = omega arith in
    rw (is_decimal-decimal n lt, number-decimal n lt, le-leb n most le) refl
