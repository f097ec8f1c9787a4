-- Numbers in decimal, digit by digit where they are below 1000.
use Rattle.std.proofs.Common.{◌≡◌, ◌∙◌, ℕ, ◌+◌, ◌/◌, ◌%◌, ◌<◌, ◌≤◌, nat_lt, Bool, true, false, List, [], ◌∷◌, ◌++◌, refl, ap, arith, tests}
use Rattle.std.specs.Prelude.{decimal}
use Rattle.std.proofs.Math.Path.{fun_ext}
use Rattle.std.proofs.lemmas.Fmt.{decimal_digit, decimal_step}
use Rattle.tam_word.proofs.Tests.{test-below}

-- the digit of a number below 10
abbrev pub digit : ℕ → List ℕ
digit n = (48 + n) ∷ []

-- the digits of a number below 1000, and the decimal of any other
abbrev pub digits : ℕ → List ℕ
digits n =
    elim (nat_lt n 10) [
      | true ↦ digit n
      | false ↦ elim (nat_lt n 100) [
        | true ↦ digit (n / 10) ++ digit (n % 10)
        | false ↦ elim (nat_lt n 1000) [ true ↦ (digit (n / 10 / 10) ++ digit (n / 10 % 10)) ++ digit (n % 10) | false ↦ decimal n ]
      ]
    ]

-- a number that isn't below another
not-below : (n m : ℕ) → nat_lt n m ≡ false → m ≤ n
not-below n m h = grind (arith, tests)

-- two digits
two : (n : ℕ) → 10 ≤ n → n < 100 → decimal n ≡ digit (n / 10) ++ digit (n % 10)
two n low high =
    let first : n / 10 < 10 = omega arith in
    decimal_step n low (omega arith) ∙ ap (λ (l : List ℕ). l ++ digit (n % 10)) (decimal_digit (n / 10) first)

-- three digits
three : (n : ℕ) → 100 ≤ n → n < 1000 → decimal n ≡ (digit (n / 10 / 10) ++ digit (n / 10 % 10)) ++ digit (n % 10)
three n low high =
    let least : 10 ≤ n / 10 = omega arith in
    let most : n / 10 < 100 = omega arith in
    decimal_step n (omega arith) (omega arith) ∙ ap (λ (l : List ℕ). l ++ digit (n % 10)) (two (n / 10) least most)

-- a number's decimal is its digits
pub each-digits : (n : ℕ) → decimal n ≡ digits n
each-digits n = go (nat_lt n 10) refl (nat_lt n 100) refl (nat_lt n 1000) refl
  where
    go : (a : Bool) → nat_lt n 10 ≡ a → (b : Bool) → nat_lt n 100 ≡ b → (c : Bool) → nat_lt n 1000 ≡ c → decimal n ≡ digits n
    go true e b f c g = rw (digits, e) (decimal_digit n (test-below n 10 e))
    go false e true f c g = rw (digits, e, f) (two n (not-below n 10 e) (test-below n 100 f))
    go false e false f true g = rw (digits, e, f, g) (three n (not-below n 100 f) (test-below n 1000 g))
    go false e false f false g = rw (digits, e, f, g) refl

-- so `decimal` may be computed
pub decimal-digits : decimal ≡ digits
decimal-digits = fun_ext each-digits
