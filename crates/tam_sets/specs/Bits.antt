-- A set as eight words that have a bit for each place.
use Rattle.std.specs.Prelude.{ℕ, zero, suc, ◌≡◌, ◌+◌, ◌*◌, ◌/◌, ◌%◌, ◌^◌, ◌<◌, Bool, true, false, ◌==◌, List, map, length, slice_index}
use Rattle.std.specs.Int.{bit_at}
use Rattle.std.specs.List.{All, range_with_len}
use Rattle.tam_word.specs.Lists.{has}
use Rattle.tam_sets.specs.Sets.{places_where}
use Rattle.tam_sets.specs.declared.set.Set.TheInside.{Inside}

-- the words have the bit of a place
abbrev pub has_bit : List ℕ → ℕ → Bool
has_bit words place = bit_at (slice_index words (place / 64)) (place % 64) == 1

-- the places of its bits
abbrev pub members_of : Inside → List ℕ
members_of set = places_where (has_bit set.words)

-- the number of n bits of which those are 1 that pass a test
unfoldable pub bits_where : (ℕ → Bool) → ℕ → ℕ
bits_where test zero = 0
bits_where test (suc n) = bits_where test n + elim (test n) [ true ↦ 2 ^ n | false ↦ 0 ]

-- the word of 64 places, of these places
abbrev pub word_of : List ℕ → ℕ → ℕ
word_of xs k = bits_where (λ j. has xs (64 * k + j)) 64

-- the numbers of the words
unfoldable pub word_numbers : List ℕ
word_numbers = range_with_len 0 8

-- the set of these places
abbrev pub set_of : List ℕ → Inside
set_of xs = record { words = map (word_of xs) word_numbers }

-- eight words of 64 bits
pub record IsWithinWidth (set : Inside) : Type 0 where
  pub count : length set.words ≡ 8
  pub small : All (λ word. word < 2 ^ 64) set.words
