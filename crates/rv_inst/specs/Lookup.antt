-- The instruction that function fields name, and the opcode that bits name: the standard's numbers read backwards.
-- The RISC-V Instruction Set Manual, Volume I, version 20191213, "RV32/64G Instruction Set Listings".
use Rattle.std.specs.Prelude.{ℕ, ◌==◌, ◌&&◌, List, [], ◌∷◌, Option}
use Rattle.std.specs.List.{find}
use Rattle.rv_inst.specs.declared.r_name.RName.{RName}
use Rattle.rv_inst.specs.declared.r_name.RName.TheVariants.{Add as R_add, Sub as R_sub, Sll as R_sll, Slt as R_slt, Sltu as R_sltu, Xor as R_xor}
use Rattle.rv_inst.specs.declared.r_name.RName.TheVariants.{Srl as R_srl, Sra as R_sra, Or as R_or, And as R_and, Mul as R_mul, Mulh as R_mulh}
use Rattle.rv_inst.specs.declared.r_name.RName.TheVariants.{Mulhsu as R_mulhsu, Mulhu as R_mulhu, Div as R_div, Divu as R_divu, Rem as R_rem, Remu as R_remu}
use Rattle.rv_inst.specs.declared.shift_name.ShiftName.{ShiftName}
use Rattle.rv_inst.specs.declared.shift_name.ShiftName.TheVariants.{Slli, Srli, Srai}
use Rattle.rv_inst.specs.declared.i_name.IName.{IName}
use Rattle.rv_inst.specs.declared.i_name.IName.TheVariants.{Addi, Slti, Sltiu, Xori, Ori, Andi}
use Rattle.rv_inst.specs.declared.load_name.LoadName.{LoadName}
use Rattle.rv_inst.specs.declared.load_name.LoadName.TheVariants.{Lb, Lh, Lw, Lbu, Lhu}
use Rattle.rv_inst.specs.declared.store_name.StoreName.{StoreName}
use Rattle.rv_inst.specs.declared.store_name.StoreName.TheVariants.{Sb, Sh, Sw}
use Rattle.rv_inst.specs.declared.branch_name.BranchName.{BranchName}
use Rattle.rv_inst.specs.declared.branch_name.BranchName.TheVariants.{Beq, Bne, Blt, Bge, Bltu, Bgeu}
use Rattle.rv_inst.specs.declared.opcode.Opcode.{Opcode}
use Rattle.rv_inst.specs.declared.opcode.Opcode.TheVariants as opcode
use Rattle.rv_inst.specs.Rows.{funct, imm_funct, shift_funct, load_funct, store_funct, branch_funct, code}

-- ---- all names

-- of register instructions
abbrev pub r_names : List RName
r_names =
    R_add ∷ R_sub ∷ R_sll ∷ R_slt ∷ R_sltu ∷ R_xor ∷ R_srl ∷ R_sra ∷ R_or ∷ R_and
    ∷ R_mul ∷ R_mulh ∷ R_mulhsu ∷ R_mulhu ∷ R_div ∷ R_divu ∷ R_rem ∷ R_remu ∷ []

-- of shifts
abbrev pub shift_names : List ShiftName
shift_names = Slli ∷ Srli ∷ Srai ∷ []

-- of those with an immediate
abbrev pub i_names : List IName
i_names = Addi ∷ Slti ∷ Sltiu ∷ Xori ∷ Ori ∷ Andi ∷ []

-- of loads
abbrev pub load_names : List LoadName
load_names = Lb ∷ Lh ∷ Lw ∷ Lbu ∷ Lhu ∷ []

-- of stores
abbrev pub store_names : List StoreName
store_names = Sb ∷ Sh ∷ Sw ∷ []

-- of branches
abbrev pub branch_names : List BranchName
branch_names = Beq ∷ Bne ∷ Blt ∷ Bge ∷ Bltu ∷ Bgeu ∷ []

-- of opcodes
abbrev pub opcodes : List Opcode
opcodes =
    opcode.Load ∷ opcode.MiscMem ∷ opcode.OpImm ∷ opcode.Auipc ∷ opcode.Store ∷ opcode.Op ∷ opcode.Lui ∷ opcode.Branch ∷ opcode.Jalr ∷ opcode.Jal
    ∷ opcode.System ∷ []

-- ---- the name with these fields

-- of a register instruction
abbrev pub r_name_of : ℕ → ℕ → Option RName
r_name_of funct7 funct3 = find (λ n. ((funct n).0 == funct7) && ((funct n).1 == funct3)) r_names

-- of a shift
abbrev pub shift_name_of : ℕ → ℕ → Option ShiftName
shift_name_of funct7 funct3 = find (λ n. ((shift_funct n).0 == funct7) && ((shift_funct n).1 == funct3)) shift_names

-- of one with an immediate
abbrev pub i_name_of : ℕ → Option IName
i_name_of funct3 = find (λ n. imm_funct n == funct3) i_names

-- of a load
abbrev pub load_name_of : ℕ → Option LoadName
load_name_of funct3 = find (λ n. load_funct n == funct3) load_names

-- of a store
abbrev pub store_name_of : ℕ → Option StoreName
store_name_of funct3 = find (λ n. store_funct n == funct3) store_names

-- of a branch
abbrev pub branch_name_of : ℕ → Option BranchName
branch_name_of funct3 = find (λ n. branch_funct n == funct3) branch_names

-- the opcode with these bits
abbrev pub opcode_of : ℕ → Option Opcode
opcode_of bits = find (λ o. code o == bits) opcodes
