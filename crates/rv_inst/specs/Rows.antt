-- The standard's numbers: the function fields of each instruction, the bits of each opcode, and the words of the two calls.
-- The RISC-V Instruction Set Manual, Volume I, version 20191213, "RV32/64G Instruction Set Listings".
use Rattle.std.specs.Prelude.{ℕ}
use Rattle.rv_inst.specs.declared.r_name.RName.{RName}
use Rattle.rv_inst.specs.declared.r_name.RName.TheVariants.{Add as R_add, Sub as R_sub, Sll as R_sll, Slt as R_slt, Sltu as R_sltu, Xor as R_xor}
use Rattle.rv_inst.specs.declared.r_name.RName.TheVariants.{Srl as R_srl, Sra as R_sra, Or as R_or, And as R_and, Mul as R_mul, Mulh as R_mulh}
use Rattle.rv_inst.specs.declared.r_name.RName.TheVariants.{Mulhsu as R_mulhsu, Mulhu as R_mulhu, Div as R_div, Divu as R_divu, Rem as R_rem, Remu as R_remu}
use Rattle.rv_inst.specs.declared.shift_name.ShiftName.{ShiftName}
use Rattle.rv_inst.specs.declared.shift_name.ShiftName.TheVariants.{Slli, Srli, Srai}
use Rattle.rv_inst.specs.declared.i_name.IName.{IName}
use Rattle.rv_inst.specs.declared.i_name.IName.TheVariants.{Addi, Slti, Sltiu, Xori, Ori, Andi}
use Rattle.rv_inst.specs.declared.load_name.LoadName.{LoadName}
use Rattle.rv_inst.specs.declared.load_name.LoadName.TheVariants.{Lb, Lh, Lw, Lbu, Lhu}
use Rattle.rv_inst.specs.declared.store_name.StoreName.{StoreName}
use Rattle.rv_inst.specs.declared.store_name.StoreName.TheVariants.{Sb, Sh, Sw}
use Rattle.rv_inst.specs.declared.branch_name.BranchName.{BranchName}
use Rattle.rv_inst.specs.declared.branch_name.BranchName.TheVariants.{Beq, Bne, Blt, Bge, Bltu, Bgeu}
use Rattle.rv_inst.specs.declared.opcode.Opcode.{Opcode}
use Rattle.rv_inst.specs.declared.opcode.Opcode.TheVariants as opcode

-- "RV32I Base Instruction Set" and "RV32M Standard Extension": funct7 and funct3 of an instruction on two registers
abbrev pub funct : RName → ℕ × ℕ
funct R_add = (0x00, 0)
funct R_sub = (0x20, 0)
funct R_sll = (0x00, 1)
funct R_slt = (0x00, 2)
funct R_sltu = (0x00, 3)
funct R_xor = (0x00, 4)
funct R_srl = (0x00, 5)
funct R_sra = (0x20, 5)
funct R_or = (0x00, 6)
funct R_and = (0x00, 7)
funct R_mul = (0x01, 0)
funct R_mulh = (0x01, 1)
funct R_mulhsu = (0x01, 2)
funct R_mulhu = (0x01, 3)
funct R_div = (0x01, 4)
funct R_divu = (0x01, 5)
funct R_rem = (0x01, 6)
funct R_remu = (0x01, 7)

-- "RV32I Base Instruction Set": the bits 31 to 25 and funct3 of a shift by a number
abbrev pub shift_funct : ShiftName → ℕ × ℕ
shift_funct Slli = (0x00, 1)
shift_funct Srli = (0x00, 5)
shift_funct Srai = (0x20, 5)

-- funct3 of an instruction on a register and an immediate
abbrev pub imm_funct : IName → ℕ
imm_funct Addi = 0
imm_funct Slti = 2
imm_funct Sltiu = 3
imm_funct Xori = 4
imm_funct Ori = 6
imm_funct Andi = 7

-- funct3 of a load
abbrev pub load_funct : LoadName → ℕ
load_funct Lb = 0
load_funct Lh = 1
load_funct Lw = 2
load_funct Lbu = 4
load_funct Lhu = 5

-- funct3 of a store
abbrev pub store_funct : StoreName → ℕ
store_funct Sb = 0
store_funct Sh = 1
store_funct Sw = 2

-- funct3 of a branch
abbrev pub branch_funct : BranchName → ℕ
branch_funct Beq = 0
branch_funct Bne = 1
branch_funct Blt = 4
branch_funct Bge = 5
branch_funct Bltu = 6
branch_funct Bgeu = 7

-- funct3 of JALR, the only instruction of its opcode
abbrev pub jalr_funct : ℕ
jalr_funct = 0

-- funct3 of FENCE
abbrev pub fence_funct : ℕ
fence_funct = 0

-- "RISC-V base opcode map": inst[6:0]
abbrev pub code : Opcode → ℕ
code opcode.Load = 0x03
code opcode.MiscMem = 0x0f
code opcode.OpImm = 0x13
code opcode.Auipc = 0x17
code opcode.Store = 0x23
code opcode.Op = 0x33
code opcode.Lui = 0x37
code opcode.Branch = 0x63
code opcode.Jalr = 0x67
code opcode.Jal = 0x6f
code opcode.System = 0x73

-- the word of ECALL
abbrev pub ecall_word : ℕ
ecall_word = 0x00000073

-- the word of EBREAK
abbrev pub ebreak_word : ℕ
ebreak_word = 0x00100073
