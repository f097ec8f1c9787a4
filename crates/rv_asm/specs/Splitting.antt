-- The first token of a line and what stands behind it, byte by byte: how the tokens are cut off one after the other.
use Rattle.std.specs.Prelude.{ℕ, zero, suc, Bool, true, false, not, ◌||◌, ◌==◌, List, [], ◌∷◌, take, drop, Option, Some, None}
use Rattle.tam_text.specs.Lines.{is_blank}
use Rattle.rv_asm.specs.Tokens.{is_comma}

-- a byte inside a word: no blank, no comma and no `#`
abbrev pub is_inside : ℕ → Bool
is_inside b = not (is_blank b || (is_comma b || (b == 35)))

-- how many such bytes come first
abbrev pub word_len : List ℕ → ℕ
word_len [] = 0
word_len (b ∷ bs) = elim (is_inside b) [ true ↦ suc (word_len bs) | false ↦ 0 ]

-- the first word, and what stands behind it
abbrev pub cut_word : List ℕ → List ℕ × List ℕ
cut_word bs = (take (word_len bs) bs, drop (word_len bs) bs)

-- the first token and what stands behind it; none before a comment or the end
abbrev pub first_token : List ℕ → Option (List ℕ × List ℕ)
first_token [] = None
first_token (b ∷ bs) = elim (is_blank b) [
  | true ↦ first_token bs
  | false ↦ elim (is_comma b) [ true ↦ Some (b ∷ [], bs) | false ↦ elim (b == 35) [ true ↦ None | false ↦ Some (cut_word (b ∷ bs)) ] ]
]

-- the first n tokens, or all
abbrev pub tokens_up_to : ℕ → List ℕ → List (List ℕ)
tokens_up_to zero bs = []
tokens_up_to (suc n) bs = elim (first_token bs) [ None ↦ [] | Some p ↦ p.0 ∷ tokens_up_to n p.1 ]
