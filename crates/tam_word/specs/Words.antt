-- Words: what the operators mean, over whole numbers modulo 2 to the power 32, and a word's signed decimal.
use Rattle.std.specs.Prelude.{ℕ, ◌+◌, ◌-◌, ◌*◌, ◌/◌, ◌%◌, ◌^◌, Bool, nat_lt, ◌==◌, if◌then◌else◌, bit_and, bit_or, bit_xor, int_lt, int_div, int_rem, List}
use Rattle.std.specs.Prelude.{◌∷◌, decimal}
use Rattle.std.proofs.Common.{to_z, of_z, w32}
use Rattle.tam_word.specs.declared.op.Op.{Op}
use Rattle.tam_word.specs.declared.op.Op.TheVariants.{Add, Sub, Mul, Div, Divu, Rem, Remu, And, Or, Xor, Sll, Srl, Sra, Slt, Sltu, Eq}

-- what is left of a number in a word
abbrev pub wrapped : ℕ → ℕ
wrapped n = n % 2 ^ 32

-- 1 or 0
abbrev pub bit : Bool → ℕ
bit b = if b then 1 else 0

-- the quotient of words as signed numbers, rounded towards zero
abbrev pub signed_quotient : ℕ → ℕ → ℕ
signed_quotient a b = of_z w32 (int_div (to_z w32 a) (to_z w32 b))

-- the remainder of that quotient
abbrev pub signed_remainder : ℕ → ℕ → ℕ
signed_remainder a b = of_z w32 (int_rem (to_z w32 a) (to_z w32 b))

-- a shift to the right that repeats the sign's bit
abbrev pub shifted_with_sign : ℕ → ℕ → ℕ
shifted_with_sign a s = if nat_lt a (2 ^ 31) then a / 2 ^ s else 2 ^ 32 - 1 - (2 ^ 32 - 1 - a) / 2 ^ s

-- the word that an operator gives of two words; each but `Eq` is the RV32IM instruction of its name (RISC-V Unprivileged ISA 20191213)
abbrev pub meaning : Op → ℕ → ℕ → ℕ
meaning Add a b = wrapped (a + b)
meaning Sub a b = wrapped (a + (2 ^ 32 - b))
meaning Mul a b = wrapped (a * b)
meaning Div a b = if b == 0 then 2 ^ 32 - 1 else signed_quotient a b
meaning Divu a b = if b == 0 then 2 ^ 32 - 1 else a / b
meaning Rem a b = if b == 0 then a else signed_remainder a b
meaning Remu a b = if b == 0 then a else a % b
meaning And a b = bit_and a b
meaning Or a b = bit_or a b
meaning Xor a b = bit_xor a b
meaning Sll a b = wrapped (a * 2 ^ (b % 32))
meaning Srl a b = a / 2 ^ (b % 32)
meaning Sra a b = shifted_with_sign a (b % 32)
meaning Slt a b = bit (int_lt (to_z w32 a) (to_z w32 b))
meaning Sltu a b = bit (nat_lt a b)
meaning Eq a b = bit (a == b)

-- the word in signed decimal
abbrev pub signed_text : ℕ → List ℕ
signed_text w = if nat_lt w (2 ^ 31) then decimal w else 45 ∷ decimal (2 ^ 32 - w)
