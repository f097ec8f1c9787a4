-- The lines of a text of thread code, token by token: which line a line may be, and what it says.
-- The rule in words: docs/THREADS.md, "Thread code as text".
use Rattle.std.specs.Prelude.{ℕ, ◌^◌, ◌-◌, Bool, true, false, not, ◌==◌, nat_le, List, [], ◌∷◌, ◌++◌, map, Option, Some, None, codes}
use Rattle.std.specs.List.{slice_split, find}
use Rattle.tam_word.specs.declared.op.Op.{Op}
use Rattle.tam_word.specs.declared.op.Op.TheVariants.{Add, Sub, Mul, Div, Divu, Rem, Remu, And, Or, Xor, Sll, Srl, Sra, Slt, Sltu, Eq}
use Rattle.tam_word.specs.Lists.{any_of, same_bytes}
use Rattle.tam_word.specs.Numbers.{decimal_up_to, negative_of, some_if}
use Rattle.tam_word.specs.OpNames.{op_name}
use Rattle.tam_text.specs.Lines.{is_some_of}
use Rattle.tl0_code.specs.declared.code_line.CodeLine.{CodeLine}
use Rattle.tl0_code.specs.declared.code_line.CodeLine.TheVariants.{Head, Into, Begins, Does, Stops, Ends}
use Rattle.tl0_code.specs.declared.instr.Instr.{Instr}
use Rattle.tl0_code.specs.declared.instr.Instr.TheVariants as instr
use Rattle.tl0_text.specs.declared.next.Next.{Next}
use Rattle.tl0_text.specs.declared.next.Next.TheVariants as next
use Rattle.tl0_text.specs.declared.verb.Verb.{Verb}
use Rattle.tl0_text.specs.declared.verb.Verb.TheVariants as verb
use Rattle.tl0_text.specs.declared.verb.Form.{Form}
use Rattle.tl0_text.specs.declared.verb.Form.TheVariants as form

-- ---- tokens

-- a line without the LF that ends it
abbrev pub without_line_feed : List ℕ → List ℕ
without_line_feed [] = []
without_line_feed (b ∷ bs) = elim (b == 10) [ true ↦ [] | false ↦ b ∷ without_line_feed bs ]

-- an LF ends the line
abbrev pub is_whole : List ℕ → Bool
is_whole [] = false
is_whole (b ∷ bs) = elim (b == 10) [ true ↦ true | false ↦ is_whole bs ]

-- a space
abbrev pub is_space : ℕ → Bool
is_space b = b == 32

-- the pieces of a line between spaces, empty ones too
abbrev pub tokens_of : List ℕ → List (List ℕ)
tokens_of line = slice_split is_space (without_line_feed line)

-- a piece is empty
abbrev pub has_empty : List (List ℕ) → Bool
has_empty tokens = any_of (λ t. not (is_some_of t)) tokens

-- a number: decimal without leading zeros, of 32 bits
abbrev pub number_of : List ℕ → Option ℕ
number_of token = decimal_up_to (2 ^ 32 - 1) token

-- no negative zero
abbrev pub not_zero : Option ℕ → Option ℕ
not_zero None = None
not_zero (Some n) = some_if (nat_le 1 n) n

-- the word that a token spells as it is printed: signed decimal
abbrev pub printed_word : List ℕ → Option ℕ
printed_word [] = None
printed_word (b ∷ bs) = elim (b == 45) [ true ↦ negative_of (not_zero (decimal_up_to (2 ^ 31) bs)) | false ↦ decimal_up_to (2 ^ 31 - 1) (b ∷ bs) ]

-- ---- the words that lines begin with

-- the word of an instruction
abbrev pub verb_text : Verb → List ℕ
verb_text (verb.Operator o) = op_name o
verb_text verb.Imm = codes "imm"
verb_text verb.Mov = codes "mov"
verb_text verb.Fork = codes "fork"
verb_text verb.Switch = codes "switch"
verb_text verb.Falloc = codes "falloc"
verb_text verb.Send = codes "send"
verb_text verb.Ret = codes "ret"
verb_text verb.Ialloc = codes "ialloc"
verb_text verb.Ifetch = codes "ifetch"
verb_text verb.Istore = codes "istore"
verb_text verb.Skip = codes "skip"

-- of a line
abbrev pub form_text : Form → List ℕ
form_text form.Code = codes "code"
form_text form.Inlet = codes "inlet"
form_text form.Thread = codes "thread"
form_text form.Stop = codes "stop"
form_text form.End = codes "end"
form_text (form.Instr v) = verb_text v

-- the operators
abbrev pub all_ops : List Op
all_ops = Add ∷ Sub ∷ Mul ∷ Div ∷ Divu ∷ Rem ∷ Remu ∷ And ∷ Or ∷ Xor ∷ Sll ∷ Srl ∷ Sra ∷ Slt ∷ Sltu ∷ Eq ∷ []

-- the instructions
abbrev pub all_verbs : List Verb
all_verbs =
    map verb.Operator all_ops ++ (verb.Imm ∷ verb.Mov ∷ verb.Fork ∷ verb.Switch ∷ verb.Falloc ∷ verb.Send ∷ verb.Ret ∷ verb.Ialloc ∷ verb.Ifetch ∷ verb.Istore
    ∷ verb.Skip ∷ [])

-- the lines that may come, by what comes next
abbrev pub forms_at : Next → List Form
forms_at next.Version = []
forms_at next.Counts = []
forms_at next.Head = form.Code ∷ []
forms_at next.Inlets = form.Inlet ∷ form.Thread ∷ []
forms_at next.Threads = form.Thread ∷ form.End ∷ []
forms_at next.Instrs = form.Stop ∷ map form.Instr all_verbs
forms_at next.Done = []

-- the form of a line that begins with a word
abbrev pub form_of : Next → List ℕ → Option Form
form_of n word = find (λ f. same_bytes word (form_text f)) (forms_at n)

-- ---- what a line says

-- how many tokens stand behind the word of an instruction
abbrev pub size_of_verb : Verb → ℕ
size_of_verb (verb.Operator o) = 3
size_of_verb verb.Imm = 2
size_of_verb verb.Mov = 2
size_of_verb verb.Fork = 1
size_of_verb verb.Switch = 3
size_of_verb verb.Falloc = 2
size_of_verb verb.Send = 3
size_of_verb verb.Ret = 2
size_of_verb verb.Ialloc = 2
size_of_verb verb.Ifetch = 4
size_of_verb verb.Istore = 4
size_of_verb verb.Skip = 1

-- and of a line
abbrev pub size_of : Form → ℕ
size_of form.Code = 3
size_of form.Inlet = 2
size_of form.Thread = 1
size_of form.Stop = 0
size_of form.End = 0
size_of (form.Instr v) = size_of_verb v

-- a number before others
abbrev pub number_before : Option ℕ → Option (List ℕ) → Option (List ℕ)
number_before None ns = None
number_before (Some n) None = None
number_before (Some n) (Some ns) = Some (n ∷ ns)

-- the numbers that tokens spell
abbrev pub numbers_of : List (List ℕ) → Option (List ℕ)
numbers_of [] = Some []
numbers_of (t ∷ ts) = number_before (number_of t) (numbers_of ts)

-- the second number of a line of two: that of an `imm` is a word as it is printed
abbrev pub second_of : Form → List ℕ → Option ℕ
second_of (form.Instr verb.Imm) token = printed_word token
second_of _ token = number_of token

-- the numbers of a line
abbrev pub numbers_in : Form → List (List ℕ) → Option (List ℕ)
numbers_in form [] = Some []
numbers_in form (a ∷ []) = numbers_of (a ∷ [])
numbers_in form (a ∷ b ∷ []) = number_before (number_of a) (number_before (second_of form b) (Some []))
numbers_in form (a ∷ b ∷ c ∷ ts) = numbers_of (a ∷ b ∷ c ∷ ts)

-- the instruction of numbers
abbrev pub instr_of : Verb → List ℕ → Option Instr
instr_of (verb.Operator o) (d ∷ a ∷ b ∷ []) = Some (instr.Op o d a b)
instr_of verb.Imm (d ∷ w ∷ []) = Some (instr.Imm d w)
instr_of verb.Mov (d ∷ a ∷ []) = Some (instr.Mov d a)
instr_of verb.Fork (t ∷ []) = Some (instr.Fork t)
instr_of verb.Switch (s ∷ t ∷ u ∷ []) = Some (instr.Switch s t u)
instr_of verb.Falloc (c ∷ i ∷ []) = Some (instr.Falloc c i)
instr_of verb.Send (f ∷ p ∷ a ∷ []) = Some (instr.Send f p a)
instr_of verb.Ret (k ∷ a ∷ []) = Some (instr.Ret k a)
instr_of verb.Ialloc (n ∷ i ∷ []) = Some (instr.Ialloc n i)
instr_of verb.Ifetch (r ∷ x ∷ i ∷ n ∷ []) = Some (instr.Ifetch r x i n)
instr_of verb.Istore (r ∷ x ∷ a ∷ n ∷ []) = Some (instr.Istore r x a n)
instr_of verb.Skip (n ∷ []) = Some (instr.Skip n)
instr_of v ns = None

-- the line of an instruction
abbrev pub does : Option Instr → Option CodeLine
does None = None
does (Some i) = Some (Does i)

-- the line of numbers
abbrev pub line_of : Form → List ℕ → Option CodeLine
line_of form.Code (p ∷ r ∷ s ∷ []) = Some (Head p r s)
line_of form.Inlet (d ∷ t ∷ []) = Some (Into (record { slot = d; thread = t }))
line_of form.Thread (n ∷ []) = Some (Begins n)
line_of form.Stop [] = Some Stops
line_of form.End [] = Some Ends
line_of (form.Instr v) ns = does (instr_of v ns)
line_of f ns = None

-- a form's line with these numbers
abbrev pub formed : Form → Option (List ℕ) → Option CodeLine
formed f None = None
formed f (Some ns) = line_of f ns

-- a form's line with these tokens behind its word
abbrev pub line_said : Form → List (List ℕ) → Option CodeLine
line_said f ts = formed f (numbers_in f ts)
