-- The tokens of a line: its commas, and the words between blanks and commas.
-- The rule in words: docs/MACHINE.md, "Assembly text".
use Rattle.std.specs.Prelude.{ℕ, Bool, true, false, ◌==◌, List, [], ◌∷◌, ◌++◌, codes, map, filter, flat_map, Option, Some, None}
use Rattle.std.specs.List.{slice_split}
use Rattle.std.specs.Option.{option_map}
use Rattle.tam_text.specs.Lines.{lines_of, words_of, without_comment, is_some_of}

-- a comma
abbrev pub is_comma : ℕ → Bool
is_comma b = b == 44

-- the words of a piece behind a comma, and the comma
abbrev pub further_tokens : List (List ℕ) → List (List ℕ)
further_tokens pieces = flat_map (λ p. codes "," ∷ words_of p) pieces

-- the tokens of pieces between commas
abbrev pub tokens_in : List (List ℕ) → List (List ℕ)
tokens_in [] = []
tokens_in (p ∷ ps) = words_of p ++ further_tokens ps

-- the most tokens of a line that says something: a verb, three operands and two commas
abbrev pub max_tokens : ℕ
max_tokens = 6

-- the tokens of a line
abbrev pub tokens_of : List ℕ → List (List ℕ)
tokens_of line = tokens_in (slice_split is_comma (without_comment line))

-- the tokens of each line that has any
abbrev pub token_lines : List ℕ → List (List (List ℕ))
token_lines text = filter is_some_of (map tokens_of (lines_of text))

-- a byte before the front of a piece
abbrev pub onto_prefix : ℕ → List ℕ × List ℕ → List ℕ × List ℕ
onto_prefix b p = (b ∷ p.0, p.1)

-- what stands before the first such byte, and what stands behind it
abbrev pub cut_at : ℕ → List ℕ → Option (List ℕ × List ℕ)
cut_at c [] = None
cut_at c (b ∷ bs) = elim (b == c) [ true ↦ Some ([], bs) | false ↦ option_map (onto_prefix b) (cut_at c bs) ]
