-- What is printed reads back, and a number has one spelling in plain decimal.
-- The rule in words: docs/FORMATS.md, "Words".
use Rattle.std.specs.Prelude.{◌≡◌, ℕ, ◌^◌, ◌<◌, ◌≤◌, List, Some, decimal}
use Rattle.tam_word.specs.Words.{signed_text}
use Rattle.tam_word.specs.Numbers.{word_of, decimal_up_to}

-- a word's signed decimal reads as the word
abbrev pub WordsReadBack : Type 0
WordsReadBack = (w : ℕ) → w < 2 ^ 32 → word_of (signed_text w) ≡ Some w

-- a number's decimal reads as the number
abbrev pub NumbersReadBack : Type 0
NumbersReadBack = (most n : ℕ) → most < 2 ^ 64 → n ≤ most → decimal_up_to most (decimal n) ≡ Some n

-- what reads as a number is its decimal
abbrev pub NumbersAreSpeltOnce : Type 0
NumbersAreSpeltOnce = (most n : ℕ) (text : List ℕ) → most < 2 ^ 64 → decimal_up_to most text ≡ Some n → (text ≡ decimal n) × (n ≤ most)
