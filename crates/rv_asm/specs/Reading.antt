-- Which texts assemble to an image: line by line against its words.
-- The rule in words: docs/MACHINE.md, "Assembly text".
use Rattle.std.specs.Prelude.{◌≡◌, ℕ, ◌+◌, true, List, [], ◌∷◌, map, Some, Result, Ok}
use Rattle.tam_word.specs.Lists.{all_of, all_differ, same_bytes}
use Rattle.tam_text.specs.Lines.{lines_of, are_good_bytes}
use Rattle.rv_inst.specs.Images.{Image}
use Rattle.rv_image.specs.ImageFiles.{IsImage}
use Rattle.rv_asm.specs.declared.asm_error.AsmCause.{AsmCause}
use Rattle.rv_asm.specs.declared.head.Next.{Next}
use Rattle.rv_asm.specs.declared.head.Next.TheVariants as next
use Rattle.rv_asm.specs.Head.{head_number, behind}
use Rattle.rv_asm.specs.Tokens.{token_lines}
use Rattle.rv_asm.specs.Statements.{Code, Statement, Label, Coded, statement_of}
use Rattle.rv_asm.specs.Faults.{Labels, word_at}

-- the labels of statements, each with the number of words before it
abbrev pub labels_from : ℕ → List Statement → Labels
labels_from n [] = []
labels_from n (Label name ∷ ss) = (name, n) ∷ labels_from n ss
labels_from n (Coded c ∷ ss) = labels_from (n + 1) ss

-- what has a word
abbrev pub codes_in : List Statement → List Code
codes_in [] = []
codes_in (Label name ∷ ss) = codes_in ss
codes_in (Coded c ∷ ss) = c ∷ codes_in ss

-- the words, from place `at` on
abbrev pub words_at : Labels → ℕ → List Code → List (Result ℕ AsmCause)
words_at labels at [] = []
words_at labels at (c ∷ cs) = word_at labels at c ∷ words_at labels (at + 1) cs

-- the number in a head line of an image
abbrev pub number_in : Next → Image → ℕ
number_in next.Image image = 1
number_in next.Stride image = image.stride
number_in next.Params image = image.params
number_in next.Results image = image.results
number_in next.Body image = 0

-- the head lines from the next on, with the image's numbers, and lines that say the statements
abbrev pub AreLines : Image → List Statement → Next → List (List (List ℕ)) → Type 0
AreLines image ss next.Body lines = map statement_of lines ≡ map Ok ss
AreLines image ss k [] = ⊥
AreLines image ss k (a ∷ lines) = (head_number k a ≡ Some (number_in k image)) × AreLines image ss (behind k) lines

-- the text assembles to the image
pub record AsmReads (text : List ℕ) (image : Image) : Type 0 where
  pub statements : List Statement
  pub good : all_of are_good_bytes (lines_of text) ≡ true
  pub lines : AreLines image statements next.Image (token_lines text)
  pub labels_differ : all_differ same_bytes (map (λ l. l.0) (labels_from 0 statements)) ≡ true
  pub words : words_at (labels_from 0 statements) 0 (codes_in statements) ≡ map Ok image.words
  pub in_range : IsImage image
