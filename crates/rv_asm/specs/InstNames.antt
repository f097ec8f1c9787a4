-- The names of instructions, as they stand in assembly text.
-- The RISC-V Instruction Set Manual, Volume I, version 20191213, "RV32/64G Instruction Set Listings", in small letters.
use Rattle.std.specs.Prelude.{ℕ, List, [], ◌∷◌, ◌++◌, map, codes, Option}
use Rattle.std.specs.List.{find}
use Rattle.tam_word.specs.Lists.{same_bytes}
use Rattle.rv_inst.specs.declared.r_name.RName.{RName}
use Rattle.rv_inst.specs.declared.r_name.RName.TheVariants.{Add as R_add, Sub as R_sub, Sll as R_sll, Slt as R_slt, Sltu as R_sltu, Xor as R_xor}
use Rattle.rv_inst.specs.declared.r_name.RName.TheVariants.{Srl as R_srl, Sra as R_sra, Or as R_or, And as R_and, Mul as R_mul, Mulh as R_mulh}
use Rattle.rv_inst.specs.declared.r_name.RName.TheVariants.{Mulhsu as R_mulhsu, Mulhu as R_mulhu, Div as R_div, Divu as R_divu, Rem as R_rem, Remu as R_remu}
use Rattle.rv_inst.specs.declared.i_name.IName.{IName}
use Rattle.rv_inst.specs.declared.i_name.IName.TheVariants.{Addi, Slti, Sltiu, Xori, Ori, Andi}
use Rattle.rv_inst.specs.declared.shift_name.ShiftName.{ShiftName}
use Rattle.rv_inst.specs.declared.shift_name.ShiftName.TheVariants.{Slli, Srli, Srai}
use Rattle.rv_inst.specs.declared.load_name.LoadName.{LoadName}
use Rattle.rv_inst.specs.declared.load_name.LoadName.TheVariants.{Lb, Lh, Lw, Lbu, Lhu}
use Rattle.rv_inst.specs.declared.store_name.StoreName.{StoreName}
use Rattle.rv_inst.specs.declared.store_name.StoreName.TheVariants.{Sb, Sh, Sw}
use Rattle.rv_inst.specs.declared.branch_name.BranchName.{BranchName}
use Rattle.rv_inst.specs.declared.branch_name.BranchName.TheVariants.{Beq, Bne, Blt, Bge, Bltu, Bgeu}
use Rattle.rv_inst.specs.declared.inst.Inst.{Inst}
use Rattle.rv_inst.specs.declared.inst.Inst.TheVariants.{R, I, Shift, Load, Store, Branch, Lui, Auipc, Jal, Jalr, Fence, Ecall, Ebreak}
use Rattle.rv_inst.specs.Lookup.{r_names, i_names, shift_names, load_names, store_names, branch_names}
use Rattle.rv_asm.specs.declared.verb.Verb.{Verb}
use Rattle.rv_asm.specs.declared.verb.Verb.TheVariants as verb

-- of an instruction on two registers
abbrev pub register_text : RName → List ℕ
register_text R_add = codes "add"
register_text R_sub = codes "sub"
register_text R_sll = codes "sll"
register_text R_slt = codes "slt"
register_text R_sltu = codes "sltu"
register_text R_xor = codes "xor"
register_text R_srl = codes "srl"
register_text R_sra = codes "sra"
register_text R_or = codes "or"
register_text R_and = codes "and"
register_text R_mul = codes "mul"
register_text R_mulh = codes "mulh"
register_text R_mulhsu = codes "mulhsu"
register_text R_mulhu = codes "mulhu"
register_text R_div = codes "div"
register_text R_divu = codes "divu"
register_text R_rem = codes "rem"
register_text R_remu = codes "remu"

-- of an instruction on a register and an immediate
abbrev pub immediate_text : IName → List ℕ
immediate_text Addi = codes "addi"
immediate_text Slti = codes "slti"
immediate_text Sltiu = codes "sltiu"
immediate_text Xori = codes "xori"
immediate_text Ori = codes "ori"
immediate_text Andi = codes "andi"

-- of a shift by a number
abbrev pub shift_text : ShiftName → List ℕ
shift_text Slli = codes "slli"
shift_text Srli = codes "srli"
shift_text Srai = codes "srai"

-- of a load
abbrev pub load_text : LoadName → List ℕ
load_text Lb = codes "lb"
load_text Lh = codes "lh"
load_text Lw = codes "lw"
load_text Lbu = codes "lbu"
load_text Lhu = codes "lhu"

-- of a store
abbrev pub store_text : StoreName → List ℕ
store_text Sb = codes "sb"
store_text Sh = codes "sh"
store_text Sw = codes "sw"

-- of a branch
abbrev pub branch_text : BranchName → List ℕ
branch_text Beq = codes "beq"
branch_text Bne = codes "bne"
branch_text Blt = codes "blt"
branch_text Bge = codes "bge"
branch_text Bltu = codes "bltu"
branch_text Bgeu = codes "bgeu"

-- the verb of an instruction
abbrev pub verb_of : Inst → Verb
verb_of (R n rd rs1 rs2) = verb.Register n
verb_of (I n rd rs1 imm) = verb.Immediate n
verb_of (Shift n rd rs1 by) = verb.Shift n
verb_of (Load n rd rs1 imm) = verb.Load n
verb_of (Store n rs1 rs2 imm) = verb.Store n
verb_of (Branch n rs1 rs2 off) = verb.Branch n
verb_of (Lui rd imm) = verb.Lui
verb_of (Auipc rd imm) = verb.Auipc
verb_of (Jal rd off) = verb.Jal
verb_of (Jalr rd rs1 imm) = verb.Jalr
verb_of (Fence rd rs1 bits) = verb.Fence
verb_of Ecall = verb.Ecall
verb_of Ebreak = verb.Ebreak

-- how a verb is written
abbrev pub verb_text : Verb → List ℕ
verb_text (verb.Register n) = register_text n
verb_text (verb.Immediate n) = immediate_text n
verb_text (verb.Shift n) = shift_text n
verb_text (verb.Load n) = load_text n
verb_text (verb.Store n) = store_text n
verb_text (verb.Branch n) = branch_text n
verb_text verb.Lui = codes "lui"
verb_text verb.Auipc = codes "auipc"
verb_text verb.Jal = codes "jal"
verb_text verb.Jalr = codes "jalr"
verb_text verb.Fence = codes "fence"
verb_text verb.Ecall = codes "ecall"
verb_text verb.Ebreak = codes "ebreak"
verb_text verb.Word = codes ".word"

-- the name of an instruction
abbrev pub name_text : Inst → List ℕ
name_text i = verb_text (verb_of i)

-- every verb: those of all instructions of the tables, and the other ones
abbrev pub all_verbs : List Verb
all_verbs =
    map verb.Register r_names ++ map verb.Immediate i_names ++ map verb.Shift shift_names ++ map verb.Load load_names ++ map verb.Store store_names
    ++ map verb.Branch branch_names
    ++ (verb.Lui ∷ verb.Auipc ∷ verb.Jal ∷ verb.Jalr ∷ verb.Fence ∷ verb.Ecall ∷ verb.Ebreak ∷ verb.Word ∷ [])

-- the verb that a token writes
abbrev pub verb_called : List ℕ → Option Verb
verb_called t = find (λ v. same_bytes t (verb_text v)) all_verbs
