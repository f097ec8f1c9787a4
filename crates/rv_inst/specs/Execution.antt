-- What a step does: what each instruction gives, and the traps.
-- The rules in words: docs/MACHINE.md, "RV32IM".
use Rattle.std.specs.Prelude.{ℕ, ◌+◌, ◌*◌, ◌/◌, ◌%◌, ◌^◌, Bool, true, false, not, ◌==◌, nat_lt, nat_le, List, [], ◌∷◌, length, int_lt, ◌*ℤ◌, pos}
use Rattle.std.proofs.Common.{to_z, of_z, w32, w64}
use Rattle.tam_word.specs.declared.op.Op.TheVariants.{Add, Sub, Mul, Div, Divu, Rem, Remu, And, Or, Xor, Sll, Srl, Sra, Slt, Sltu}
use Rattle.rv_inst.specs.declared.r_name.RName.{RName}
use Rattle.rv_inst.specs.declared.r_name.RName.TheVariants.{Add as R_add, Sub as R_sub, Sll as R_sll, Slt as R_slt, Sltu as R_sltu, Xor as R_xor}
use Rattle.rv_inst.specs.declared.r_name.RName.TheVariants.{Srl as R_srl, Sra as R_sra, Or as R_or, And as R_and, Mul as R_mul, Mulh as R_mulh}
use Rattle.rv_inst.specs.declared.r_name.RName.TheVariants.{Mulhsu as R_mulhsu, Mulhu as R_mulhu, Div as R_div, Divu as R_divu, Rem as R_rem, Remu as R_remu}
use Rattle.rv_inst.specs.declared.i_name.IName.{IName}
use Rattle.rv_inst.specs.declared.i_name.IName.TheVariants.{Addi, Slti, Sltiu, Xori, Ori, Andi}
use Rattle.rv_inst.specs.declared.shift_name.ShiftName.{ShiftName}
use Rattle.rv_inst.specs.declared.shift_name.ShiftName.TheVariants.{Slli, Srli, Srai}
use Rattle.rv_inst.specs.declared.load_name.LoadName.{LoadName}
use Rattle.rv_inst.specs.declared.load_name.LoadName.TheVariants.{Lb, Lh, Lw, Lbu, Lhu}
use Rattle.rv_inst.specs.declared.store_name.StoreName.{StoreName}
use Rattle.rv_inst.specs.declared.store_name.StoreName.TheVariants.{Sb, Sh, Sw}
use Rattle.rv_inst.specs.declared.branch_name.BranchName.{BranchName}
use Rattle.rv_inst.specs.declared.branch_name.BranchName.TheVariants.{Beq, Bne, Blt, Bge, Bltu, Bgeu}
use Rattle.tam_word.specs.Words.{meaning, wrapped}
use Rattle.rv_inst.specs.declared.inst.Inst.{Inst}
use Rattle.rv_inst.specs.declared.inst.Inst.TheVariants.{R, I, Shift, Load, Store, Branch, Lui, Auipc, Jal, Jalr, Fence, Ecall, Ebreak}
use Rattle.rv_inst.specs.declared.trap_cause.TrapCause.TheVariants.{FetchAddress, JumpAlign, Unknown, LoadAddress, StoreAddress, LoadAlign, StoreAlign, Break}
use Rattle.rv_inst.specs.Fields.{extended}
use Rattle.rv_inst.specs.Instructions.{decoded}
use Rattle.rv_inst.specs.Harts.{Hart, Step, Done, Called, Trapped, read_at, written_at, reg, with_reg, gone_to, gone_on}

-- the high word of the product of signed numbers
abbrev pub high_signed : ℕ → ℕ → ℕ
high_signed a b = of_z w64 (to_z w32 a *ℤ to_z w32 b) / 2 ^ 32

-- of a signed number and a word
abbrev pub high_mixed : ℕ → ℕ → ℕ
high_mixed a b = of_z w64 (to_z w32 a *ℤ pos b) / 2 ^ 32

-- what a register instruction gives
abbrev pub of_regs : RName → ℕ → ℕ → ℕ
of_regs R_add a b = meaning Add a b
of_regs R_sub a b = meaning Sub a b
of_regs R_sll a b = meaning Sll a b
of_regs R_slt a b = meaning Slt a b
of_regs R_sltu a b = meaning Sltu a b
of_regs R_xor a b = meaning Xor a b
of_regs R_srl a b = meaning Srl a b
of_regs R_sra a b = meaning Sra a b
of_regs R_or a b = meaning Or a b
of_regs R_and a b = meaning And a b
of_regs R_mul a b = meaning Mul a b
of_regs R_mulh a b = high_signed a b
of_regs R_mulhsu a b = high_mixed a b
of_regs R_mulhu a b = a * b / 2 ^ 32
of_regs R_div a b = meaning Div a b
of_regs R_divu a b = meaning Divu a b
of_regs R_rem a b = meaning Rem a b
of_regs R_remu a b = meaning Remu a b

-- with an immediate
abbrev pub of_imm : IName → ℕ → ℕ → ℕ
of_imm Addi a b = meaning Add a b
of_imm Slti a b = meaning Slt a b
of_imm Sltiu a b = meaning Sltu a b
of_imm Xori a b = meaning Xor a b
of_imm Ori a b = meaning Or a b
of_imm Andi a b = meaning And a b

-- with a number to shift by
abbrev pub of_shift : ShiftName → ℕ → ℕ → ℕ
of_shift Slli a s = meaning Sll a s
of_shift Srli a s = meaning Srl a s
of_shift Srai a s = meaning Sra a s

-- a branch is taken
abbrev pub is_taken : BranchName → ℕ → ℕ → Bool
is_taken Beq a b = a == b
is_taken Bne a b = not (a == b)
is_taken Blt a b = int_lt (to_z w32 a) (to_z w32 b)
is_taken Bge a b = not (int_lt (to_z w32 a) (to_z w32 b))
is_taken Bltu a b = nat_lt a b
is_taken Bgeu a b = not (nat_lt a b)

-- how many bytes a load reads
abbrev pub load_size : LoadName → ℕ
load_size Lb = 1
load_size Lbu = 1
load_size Lh = 2
load_size Lhu = 2
load_size Lw = 4

-- what it makes of their number
abbrev pub loaded : LoadName → ℕ → ℕ
loaded Lb v = extended 8 v
loaded Lh v = extended 16 v
loaded n v = v

-- how many bytes a store writes
abbrev pub store_size : StoreName → ℕ
store_size Sb = 1
store_size Sh = 2
store_size Sw = 4

-- a jump, with the return address in rd
abbrev pub jump : Hart → ℕ → ℕ → Step
jump h rd to = elim (to % 4 == 0) [ true ↦ Done (gone_to (with_reg h rd (wrapped (h.pc + 4))) to) | false ↦ Trapped h.pc JumpAlign ]

-- a branch that is taken, or not
abbrev pub branched : Hart → Bool → ℕ → Step
branched h true off = jump h 0 (wrapped (h.pc + off))
branched h false off = Done (gone_on h)

-- a load from an address
abbrev pub load_from : Hart → LoadName → ℕ → ℕ → Step
load_from h n rd a = elim (a % load_size n == 0) [
  | false ↦ Trapped h.pc LoadAlign
  | true ↦ elim (nat_le (a + load_size n) (length h.memory)) [
    | true ↦ Done (gone_on (with_reg h rd (loaded n (read_at h.memory a (load_size n)))))
    | false ↦ Trapped h.pc LoadAddress
  ]
]

-- a store to an address
abbrev pub store_to : Hart → StoreName → ℕ → ℕ → Step
store_to h n a w = elim (a % store_size n == 0) [
  | false ↦ Trapped h.pc StoreAlign
  | true ↦ elim (nat_le (a + store_size n) (length h.memory)) [
    | true ↦ Done (gone_on (record h { memory = written_at h.memory a (store_size n) w }))
    | false ↦ Trapped h.pc StoreAddress
  ]
]

-- an instruction is carried out
abbrev pub carried_out : Hart → Inst → Step
carried_out h (R n rd rs1 rs2) = Done (gone_on (with_reg h rd (of_regs n (reg h rs1) (reg h rs2))))
carried_out h (I n rd rs1 imm) = Done (gone_on (with_reg h rd (of_imm n (reg h rs1) imm)))
carried_out h (Shift n rd rs1 s) = Done (gone_on (with_reg h rd (of_shift n (reg h rs1) s)))
carried_out h (Load n rd rs1 imm) = load_from h n rd (wrapped (reg h rs1 + imm))
carried_out h (Store n rs1 rs2 imm) = store_to h n (wrapped (reg h rs1 + imm)) (reg h rs2)
carried_out h (Branch n rs1 rs2 off) = branched h (is_taken n (reg h rs1) (reg h rs2)) off
carried_out h (Lui rd imm) = Done (gone_on (with_reg h rd (imm * 4096)))
carried_out h (Auipc rd imm) = Done (gone_on (with_reg h rd (wrapped (h.pc + imm * 4096))))
carried_out h (Jal rd off) = jump h rd (wrapped (h.pc + off))
carried_out h (Jalr rd rs1 imm) = jump h rd (wrapped (reg h rs1 + imm) / 2 * 2)
carried_out h (Fence rd rs1 b) = Done (gone_on h)
carried_out h Ecall = Called (gone_on h)
carried_out h Ebreak = Trapped h.pc Break

-- the instruction, where the word has one
abbrev pub carried_out_if : Hart → List Inst → Step
carried_out_if h [] = Trapped h.pc Unknown
carried_out_if h (i ∷ is) = carried_out h i

-- the step at pc
abbrev pub hart_step : Hart → Step
hart_step h = elim (nat_le (h.pc + 4) (length h.memory)) [ true ↦ carried_out_if h (decoded (read_at h.memory h.pc 4)) | false ↦ Trapped h.pc FetchAddress ]
