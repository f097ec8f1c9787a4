-- What the lines of a text say, line by line, and the faults of a text.
-- A text assembles exactly where it has none, and is refused at the first.
use Rattle.std.specs.Prelude.{ℕ, ◌+◌, Bool, true, false, not, ◌&&◌, ◌==◌, nat_le, List, [], ◌∷◌, ◌++◌, length, map, count_by, take, is_some}
use Rattle.std.specs.Prelude.{◌≡◌, Option, Some, None, Result, Ok, Err}
use Rattle.std.specs.Option.{ok_or}
use Rattle.tam_word.specs.Lists.{where_so, same_bytes}
use Rattle.tam_word.specs.declared.op.Op.TheVariants.{Mul, Sub}
use Rattle.tam_word.specs.Words.{meaning}
use Rattle.tam_text.specs.Lines.{lines_of, without_comment, are_good_bytes, is_some_of}
use Rattle.rv_inst.specs.Instructions.{encoded}
use Rattle.rv_image.specs.ImageFiles.{max_words, min_stride}
use Rattle.rv_asm.specs.declared.asm_error.AsmCause.{AsmCause}
use Rattle.rv_asm.specs.declared.asm_error.AsmCause.TheVariants.{BadHead, BadLine, TwiceNamed, TooMany, Ended, UnknownName, Offset}
use Rattle.rv_asm.specs.declared.asm_error.AsmError.{AsmError}
use Rattle.rv_asm.specs.declared.asm_error.AsmError.TheVariants.{At, NoMemory}
use Rattle.rv_asm.specs.declared.head.Next.{Next}
use Rattle.rv_asm.specs.declared.head.Next.TheVariants as next
use Rattle.rv_asm.specs.Head.{head_number, behind, is_body}
use Rattle.rv_asm.specs.Tokens.{tokens_of}
use Rattle.rv_asm.specs.Statements.{Code, Word, Goto, Statement, Label, Coded, statement_of, then_read, inst_by}

-- labels, each with the number of words before it
abbrev pub Labels : Type 0
Labels = List (List ℕ × ℕ)

-- words, each with its line
abbrev pub Placed : Type 0
Placed = List (ℕ × Code)

-- what lines say: which line comes next, the numbers of the head, the labels and the words
pub record Said : Type 0 where
  pub next : Next
  pub stride : ℕ
  pub params : ℕ
  pub results : ℕ
  pub labels : Labels
  pub words : Placed

-- before the first line; the numbers of the head aren't known yet
abbrev pub nothing_said : Said
nothing_said = record { next = next.Image; stride = min_stride; params = 0; results = 0; labels = []; words = [] }

-- how many words stand before a label
abbrev pub found : List ℕ → Labels → Option ℕ
found name [] = None
found name (l ∷ ls) = elim (same_bytes name l.0) [ true ↦ Some l.1 | false ↦ found name ls ]

-- ---- what a line adds

-- the number of a head line
abbrev pub with_number : Next → ℕ → Said → Said
with_number next.Image n s = s
with_number next.Stride n s = record s { stride = n }
with_number next.Params n s = record s { params = n }
with_number next.Results n s = record s { results = n }
with_number next.Body n s = s

-- a head line, by its number
abbrev pub with_head : Option ℕ → Said → Said
with_head None s = s
with_head (Some n) s = record (with_number s.next n s) { next = behind s.next }

-- a statement in line n
abbrev pub with_statement : ℕ → Result Statement AsmCause → Said → Said
with_statement n (Err c) s = s
with_statement n (Ok (Label name)) s = record s { labels = s.labels ++ (name, length s.words) ∷ [] }
with_statement n (Ok (Coded c)) s = record s { words = s.words ++ (n, c) ∷ [] }

-- line n behind the head; a line without tokens says nothing
abbrev pub with_body : ℕ → List (List ℕ) → Said → Said
with_body n [] s = s
with_body n (t ∷ ts) s = with_statement n (statement_of (t ∷ ts)) s

-- line n by its tokens
abbrev pub with_tokens : ℕ → List (List ℕ) → Said → Said
with_tokens n ts s = elim (is_body s.next) [ true ↦ with_body n ts s | false ↦ with_head (head_number s.next ts) s ]

-- the lines from number n on
abbrev pub said_from : Said → ℕ → List (List ℕ) → Said
said_from s n [] = s
said_from s n (line ∷ lines) = said_from (with_tokens n (tokens_of line) s) (n + 1) lines

-- ---- the first pass

-- tokens that aren't the head line that comes next
abbrev pub is_head : Next → List (List ℕ) → Bool
is_head next [] = true
is_head next (t ∷ ts) = is_some (head_number next (t ∷ ts))

-- the faults of a statement behind what was said
abbrev pub faults_of_statement : Said → Result Statement AsmCause → List AsmCause
faults_of_statement s (Err c) = c ∷ []
faults_of_statement s (Ok (Label name)) = where_so (is_some (found name s.labels)) TwiceNamed
faults_of_statement s (Ok (Coded c)) = where_so (nat_le max_words (length s.words)) TooMany

-- of a line that has tokens, or none
abbrev pub faults_of_tokens : Said → List (List ℕ) → List AsmCause
faults_of_tokens s [] = []
faults_of_tokens s (t ∷ ts) = faults_of_statement s (statement_of (t ∷ ts))

-- of a line in the head, by its tokens: a bad byte outside a comment stands in a token, which isn't one of the head line then
abbrev pub head_faults : Next → List ℕ → List (List ℕ) → List AsmCause
head_faults next line ts =
    where_so (not (are_good_bytes (without_comment line) && is_head next ts)) BadHead ++ where_so (not (are_good_bytes line)) BadLine

-- of a line in the head
abbrev pub faults_in_head : Next → List ℕ → List AsmCause
faults_in_head next line = head_faults next line (tokens_of line)

-- of a line behind it, by its tokens
abbrev pub body_faults : Said → List ℕ → List (List ℕ) → List AsmCause
body_faults s line ts = where_so (not (are_good_bytes line)) BadLine ++ faults_of_tokens s ts

-- of a line behind it
abbrev pub faults_in_body : Said → List ℕ → List AsmCause
faults_in_body s line = body_faults s line (tokens_of line)

-- the faults of a line behind what was said, in order, by its tokens
abbrev pub faults_by : Said → List ℕ → List (List ℕ) → List AsmCause
faults_by s line ts = elim (is_body s.next) [ true ↦ body_faults s line ts | false ↦ head_faults s.next line ts ]

-- the faults of a line behind what was said, in order
abbrev pub faults_of_line : Said → List ℕ → List AsmCause
faults_of_line s line = elim (is_body s.next) [ true ↦ faults_in_body s line | false ↦ faults_in_head s.next line ]

-- the faults at the end: no word, or head lines are missing
abbrev pub faults_at_end : Said → List AsmCause
faults_at_end s = where_so (not (is_body s.next && is_some_of s.words)) Ended

-- the faults of the lines from number n on, and behind them those of the end, which stands at line `last`
abbrev pub first_pass : ℕ → Said → ℕ → List (List ℕ) → List (ℕ × AsmCause)
first_pass last s n [] = map (λ c. (last, c)) (faults_at_end s)
first_pass last s n (line ∷ lines) = map (λ c. (n, c)) (faults_of_line s line) ++ first_pass last (with_tokens n (tokens_of line) s) (n + 1) lines

-- ---- the second pass

-- the bytes from a word to a label, by the numbers of words before them, as a word
abbrev pub distance : ℕ → ℕ → ℕ
distance at to = meaning Mul (meaning Sub to at) 4

-- the word of the code behind so many words, or why it has none
abbrev pub word_at : Labels → ℕ → Code → Result ℕ AsmCause
word_at labels at (Word w) = Ok w
word_at labels at (Goto j name) = then_read (ok_or (found name labels) UnknownName)
    (λ to. then_read (ok_or (inst_by j (distance at to)) Offset) (λ i. Ok (encoded i)))

-- the causes in a result
abbrev pub causes : Result ℕ AsmCause → List AsmCause
causes (Ok w) = []
causes (Err c) = c ∷ []

-- the faults of words from place `at` on
abbrev pub second_pass : Labels → ℕ → Placed → List (ℕ × AsmCause)
second_pass labels at [] = []
second_pass labels at (p ∷ ps) = map (λ c. (p.0, c)) (causes (word_at labels at p.1)) ++ second_pass labels (at + 1) ps

-- ---- the whole

-- the line behind the last LF
abbrev pub last_line : List ℕ → ℕ
last_line text = count_by (λ b. b == 10) text + 1

-- what the lines of a text say
abbrev pub said_in : List ℕ → Said
said_in text = said_from nothing_said 1 (lines_of text)

-- the faults of the first pass
abbrev pub first_faults : List ℕ → List (ℕ × AsmCause)
first_faults text = first_pass (last_line text) nothing_said 1 (lines_of text)

-- those of the second
abbrev pub second_faults : List ℕ → List (ℕ × AsmCause)
second_faults text = second_pass (said_in text).labels 0 (said_in text).words

-- the first faults, or where there are none, the others
abbrev pub faults_or : List (ℕ × AsmCause) → List (ℕ × AsmCause) → List (ℕ × AsmCause)
faults_or [] others = others
faults_or (f ∷ fs) others = f ∷ fs

-- the faults of a text: those of the second pass where the first has none
abbrev pub asm_faults : List ℕ → List (ℕ × AsmCause)
asm_faults text = faults_or (first_faults text) (second_faults text)

-- the error tells the first of the faults, or that there was no memory
abbrev pub IsFirst : List (ℕ × AsmCause) → AsmError → Type 0
IsFirst faults (At line cause) = take 1 faults ≡ (line, cause) ∷ []
IsFirst faults NoMemory = Unit {0}
