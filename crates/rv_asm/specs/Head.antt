-- The head lines of a text.
-- The rule in words: docs/MACHINE.md, "Assembly text".
use Rattle.std.specs.Prelude.{ℕ, Bool, true, false, nat_le, List, [], ◌∷◌, codes, Option, None}
use Rattle.tam_word.specs.Lists.{same_bytes}
use Rattle.tam_word.specs.Numbers.{word_of, some_if}
use Rattle.rv_image.specs.ImageFiles.{max_places}
use Rattle.rv_image.specs.ImageFiles.{is_stride}
use Rattle.rv_asm.specs.declared.head.Next.{Next}
use Rattle.rv_asm.specs.declared.head.Next.TheVariants.{Image, Stride, Params, Results, Body}
use Rattle.rv_asm.specs.Statements.{where_word}

-- the word with which a head line begins
abbrev pub head_name : Next → List ℕ
head_name Image = codes ".image"
head_name Stride = codes ".stride"
head_name Params = codes ".params"
head_name Results = codes ".results"
head_name Body = []

-- its number, in the range that it has in an image
abbrev pub head_value : Next → List ℕ → Option ℕ
head_value Image t = some_if (same_bytes t (codes "1")) 1
head_value Stride t = where_word is_stride (word_of t)
head_value Params t = where_word (λ n. nat_le n max_places) (word_of t)
head_value Results t = where_word (λ n. nat_le n max_places) (word_of t)
head_value Body t = None

-- the number of a head line of these tokens
abbrev pub head_number : Next → List (List ℕ) → Option ℕ
head_number next [] = None
head_number next (name ∷ []) = None
head_number next (name ∷ number ∷ []) = elim (same_bytes name (head_name next)) [ true ↦ head_value next number | false ↦ None ]
head_number next (name ∷ number ∷ t ∷ ts) = None

-- what comes behind it
abbrev pub behind : Next → Next
behind Image = Stride
behind Stride = Params
behind Params = Results
behind Results = Body
behind Body = Body

-- the head is read
abbrev pub is_body : Next → Bool
is_body Body = true
is_body next = false
