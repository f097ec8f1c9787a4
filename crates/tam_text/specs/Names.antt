-- What a name is.
-- The rule in words: docs/FORMATS.md, "Graph text".
use Rattle.std.specs.Prelude.{ℕ, Bool, false, ◌&&◌, ◌||◌, ◌==◌, nat_lt, nat_le, List, [], ◌∷◌, length, IsTrue}
use Rattle.tam_word.specs.Lists.{all_of}

-- a letter or `_`
abbrev pub is_letter : ℕ → Bool
is_letter b = (nat_le 65 b && nat_le b 90) || ((nat_le 97 b && nat_le b 122) || (b == 95))

-- a letter, a digit or `_`
abbrev pub continues_name : ℕ → Bool
continues_name c = is_letter c || (nat_le 48 c && nat_le c 57)

-- a name: a letter or `_`, then letters, digits or `_`, 1 to 32 bytes
abbrev pub is_name : List ℕ → Bool
is_name [] = false
is_name (b ∷ bs) = is_letter b && (nat_lt (length bs) 32 && all_of continues_name bs)

-- the bytes are a name
abbrev pub IsName : List ℕ → Type 0
IsName bytes = IsTrue (is_name bytes)
