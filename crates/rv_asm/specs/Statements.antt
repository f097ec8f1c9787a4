-- What a line behind the head says: a label, a word, or an instruction, whose word may wait for a label.
-- The rule in words: docs/MACHINE.md, "Assembly text".
use Rattle.std.specs.Prelude.{ℕ, ◌-◌, ◌%◌, ◌^◌, Bool, true, false, not, ◌&&◌, ◌||◌, ◌==◌, nat_lt, nat_le, List, [], ◌∷◌, codes, Option, Some, None}
use Rattle.std.specs.Prelude.{Result, Ok, Err}
use Rattle.std.specs.Option.{ok_or}
use Rattle.tam_word.specs.Lists.{any_of, same_bytes}
use Rattle.tam_word.specs.Numbers.{word_of, decimal_up_to, some_if}
use Rattle.tam_text.specs.Lines.{is_some_of}
use Rattle.tam_text.specs.Names.{is_name}
use Rattle.rv_inst.specs.declared.inst.Inst.{Inst}
use Rattle.rv_inst.specs.declared.inst.Inst.TheVariants as inst
use Rattle.rv_inst.specs.Instructions.{encoded}
use Rattle.rv_asm.specs.declared.asm_error.AsmCause.{AsmCause}
use Rattle.rv_asm.specs.declared.asm_error.AsmCause.TheVariants.{BadLine, BadNumber}
use Rattle.rv_asm.specs.declared.jump.Jump.{Jump}
use Rattle.rv_asm.specs.declared.jump.Jump.TheVariants as jump
use Rattle.rv_asm.specs.declared.verb.Verb.{Verb}
use Rattle.rv_asm.specs.declared.verb.Verb.TheVariants as verb
use Rattle.rv_asm.specs.InstNames.{verb_called}
use Rattle.rv_asm.specs.Tokens.{cut_at}

-- what has a word: the word, or an instruction that goes to a label
pub data Code : Type 0 where
  Word : (word : ℕ) → Code
  Goto : (by : Jump) (label : List ℕ) → Code

-- a line
pub data Statement : Type 0 where
  Label : (name : List ℕ) → Statement
  Coded : (code : Code) → Statement

-- what is read behind what was read; a fault stays
abbrev pub then_read : {X Y : Type 0} → Result X AsmCause → (X → Result Y AsmCause) → Result Y AsmCause
then_read (Err e) f = Err e
then_read (Ok x) f = f x

-- ---- numbers, as they are written

-- the word, where it passes
abbrev pub where_word : (ℕ → Bool) → Option ℕ → Option ℕ
where_word test None = None
where_word test (Some w) = some_if (test w) w

-- a minus sign stands before it
abbrev pub is_negative : List ℕ → Bool
is_negative [] = false
is_negative (b ∷ bs) = b == 45

-- the word of a number that, as it is written, is a signed one: 4294967295 and 0xffffffff aren't -1
abbrev pub signed_of : List ℕ → Option ℕ
signed_of t = where_word (λ w. is_negative t || nat_lt w (2 ^ 31)) (word_of t)

-- the word is a signed number of n bits
abbrev pub is_signed : ℕ → ℕ → Bool
is_signed n w = nat_lt w (2 ^ (n - 1)) || nat_le (2 ^ 32 - 2 ^ (n - 1)) w

-- an even one
abbrev pub is_offset : ℕ → ℕ → Bool
is_offset n w = is_signed n w && (w % 2 == 0)

-- a signed immediate of 12 bits
abbrev pub immediate_of : List ℕ → Option ℕ
immediate_of t = where_word (is_signed 12) (signed_of t)

-- a number below a limit
abbrev pub number_below : ℕ → List ℕ → Option ℕ
number_below limit t = where_word (λ w. nat_lt w limit) (word_of t)

-- ---- operands

-- `x0` to `x31`
abbrev pub register_of : List ℕ → Result ℕ AsmCause
register_of [] = Err BadLine
register_of (b ∷ bs) = elim (b == 120) [ true ↦ ok_or (decimal_up_to 31 bs) BadLine | false ↦ Err BadLine ]

-- a comma, `(` or `)`
abbrev pub is_sign : ℕ → Bool
is_sign b = (b == 44) || ((b == 40) || (b == 41))

-- a text that stands for a number or a target
abbrev pub is_text : List ℕ → Bool
is_text t = is_some_of t && not (any_of is_sign t)

-- the number that the text stands for, as the operand reads it
abbrev pub number_of : (List ℕ → Option ℕ) → List ℕ → Result ℕ AsmCause
number_of read t = elim (is_text t) [ true ↦ ok_or (read t) BadNumber | false ↦ Err BadLine ]

-- what stands before the byte, where it is the last and the only one
abbrev pub before_last : ℕ → List ℕ → Option (List ℕ)
before_last c t = elim (cut_at c t) [ None ↦ None | Some p ↦ elim p.1 [ [] ↦ Some p.0 | b ∷ bs ↦ None ] ]

-- the immediate and the register of `imm(rs1)`, by its parts
abbrev pub address_by : List ℕ → Option (List ℕ) → Result (ℕ × ℕ) AsmCause
address_by number None = Err BadLine
address_by number (Some register) = then_read (register_of register) (λ r. then_read (number_of immediate_of number) (λ i. Ok (i, r)))

-- the immediate and the register of `imm(rs1)`
abbrev pub address_of : List ℕ → Result (ℕ × ℕ) AsmCause
address_of t = elim (cut_at 40 t) [ None ↦ Err BadLine | Some p ↦ address_by p.0 (before_last 41 p.1) ]

-- ---- instructions

-- an instruction whose word is known
abbrev pub instruction : Inst → Result Statement AsmCause
instruction i = Ok (Coded (Word (encoded i)))

-- the instruction that goes so far, where that is even and in range
abbrev pub inst_by : Jump → ℕ → Option Inst
inst_by (jump.Branch n rs1 rs2) off = elim (is_offset 13 off) [ true ↦ Some (inst.Branch n rs1 rs2 off) | false ↦ None ]
inst_by (jump.Jal rd) off = elim (is_offset 21 off) [ true ↦ Some (inst.Jal rd off) | false ↦ None ]

-- the instruction with a number for its target
abbrev pub going_by : Jump → Option ℕ → Result Statement AsmCause
going_by j None = Err BadNumber
going_by j (Some off) = then_read (ok_or (inst_by j off) BadNumber) instruction

-- with a target: what is no name stands for a number
abbrev pub going : Jump → List ℕ → Result Statement AsmCause
going j t =
    elim (is_text t) [ true ↦ elim (is_name t) [ true ↦ Ok (Coded (Goto j t)) | false ↦ going_by j (signed_of t) ] | false ↦ Err BadLine ]

-- without operands
abbrev pub with_none : Verb → Result Statement AsmCause
with_none verb.Ecall = instruction inst.Ecall
with_none verb.Ebreak = instruction inst.Ebreak
with_none v = Err BadLine

-- with one operand
abbrev pub with_one : Verb → List ℕ → Result Statement AsmCause
with_one verb.Word t = then_read (number_of word_of t) (λ w. Ok (Coded (Word w)))
with_one v t = Err BadLine

-- with a register, and one operand behind it
abbrev pub with_second : Verb → ℕ → List ℕ → Result Statement AsmCause
with_second (verb.Load n) x t = then_read (address_of t) (λ a. instruction (inst.Load n x a.1 a.0))
with_second (verb.Store n) x t = then_read (address_of t) (λ a. instruction (inst.Store n a.1 x a.0))
with_second verb.Jalr x t = then_read (address_of t) (λ a. instruction (inst.Jalr x a.1 a.0))
with_second verb.Lui x t = then_read (number_of (number_below (2 ^ 20)) t) (λ n. instruction (inst.Lui x n))
with_second verb.Auipc x t = then_read (number_of (number_below (2 ^ 20)) t) (λ n. instruction (inst.Auipc x n))
with_second verb.Jal x t = going (jump.Jal x) t
with_second v x t = Err BadLine

-- with two registers, and one operand behind them
abbrev pub with_third : Verb → ℕ → ℕ → List ℕ → Result Statement AsmCause
with_third (verb.Register n) x y t = then_read (register_of t) (λ z. instruction (inst.R n x y z))
with_third (verb.Immediate n) x y t = then_read (number_of immediate_of t) (λ i. instruction (inst.I n x y i))
with_third (verb.Shift n) x y t = then_read (number_of (number_below (2 ^ 5)) t) (λ s. instruction (inst.Shift n x y s))
with_third (verb.Branch n) x y t = going (jump.Branch n x y) t
with_third verb.Fence x y t = then_read (number_of (number_below (2 ^ 12)) t) (λ b. instruction (inst.Fence x y b))
with_third v x y t = Err BadLine

-- with two operands
abbrev pub with_two : Verb → List ℕ → List ℕ → Result Statement AsmCause
with_two v a b = then_read (register_of a) (λ x. with_second v x b)

-- with three
abbrev pub with_three : Verb → List ℕ → List ℕ → List ℕ → Result Statement AsmCause
with_three v a b c = then_read (register_of a) (λ x. then_read (register_of b) (λ y. with_third v x y c))

-- the token is a comma
abbrev pub is_comma_token : List ℕ → Bool
is_comma_token t = same_bytes t (codes ",")

-- what is said, where the token between operands is a comma
abbrev pub with_comma : List ℕ → Result Statement AsmCause → Result Statement AsmCause
with_comma t said = elim (is_comma_token t) [ true ↦ said | false ↦ Err BadLine ]

-- a verb and the tokens behind it: operands, with commas between them
abbrev pub said_by : Verb → List (List ℕ) → Result Statement AsmCause
said_by v [] = with_none v
said_by v (a ∷ []) = with_one v a
said_by v (a ∷ c ∷ b ∷ []) = with_comma c (with_two v a b)
said_by v (a ∷ c ∷ b ∷ d ∷ e ∷ []) = with_comma c (with_comma d (with_three v a b e))
said_by v others = Err BadLine

-- by the verb, where there is one
abbrev pub said_if : Option Verb → List (List ℕ) → Result Statement AsmCause
said_if None ts = Err BadLine
said_if (Some v) ts = said_by v ts

-- the name of a label, where the token is one
abbrev pub label_of : List ℕ → Option (List ℕ)
label_of t = elim (before_last 58 t) [ None ↦ None | Some n ↦ elim (is_name n) [ true ↦ Some n | false ↦ None ] ]

-- and nothing stands behind it
abbrev pub label_in : List ℕ → List (List ℕ) → Option (List ℕ)
label_in t [] = label_of t
label_in t (a ∷ ts) = None

-- the label, or what is said else
abbrev pub label_or : Option (List ℕ) → Result Statement AsmCause → Result Statement AsmCause
label_or None other = other
label_or (Some n) other = Ok (Label n)

-- what tokens say, or why they say nothing
abbrev pub statement_of : List (List ℕ) → Result Statement AsmCause
statement_of [] = Err BadLine
statement_of (t ∷ ts) = label_or (label_in t ts) (said_if (verb_called t) ts)
