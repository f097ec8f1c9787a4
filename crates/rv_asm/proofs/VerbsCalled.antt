-- Each verb as it is written is called that verb.
use Rattle.std.proofs.Common.{◌≡◌, Some, refl}
use Rattle.rv_inst.specs.declared.r_name.RName.{RName}
use Rattle.rv_inst.specs.declared.r_name.RName.TheVariants as r
use Rattle.rv_inst.specs.declared.i_name.IName.{IName}
use Rattle.rv_inst.specs.declared.i_name.IName.TheVariants.{Addi, Slti, Sltiu, Xori, Ori, Andi}
use Rattle.rv_inst.specs.declared.shift_name.ShiftName.{ShiftName}
use Rattle.rv_inst.specs.declared.shift_name.ShiftName.TheVariants.{Slli, Srli, Srai}
use Rattle.rv_inst.specs.declared.load_name.LoadName.{LoadName}
use Rattle.rv_inst.specs.declared.load_name.LoadName.TheVariants.{Lb, Lh, Lw, Lbu, Lhu}
use Rattle.rv_inst.specs.declared.store_name.StoreName.{StoreName}
use Rattle.rv_inst.specs.declared.store_name.StoreName.TheVariants.{Sb, Sh, Sw}
use Rattle.rv_inst.specs.declared.branch_name.BranchName.{BranchName}
use Rattle.rv_inst.specs.declared.branch_name.BranchName.TheVariants.{Beq, Bne, Blt, Bge, Bltu, Bgeu}
use Rattle.rv_asm.specs.declared.verb.Verb.{Verb}
use Rattle.rv_asm.specs.declared.verb.Verb.TheVariants as verb
use Rattle.rv_asm.specs.InstNames.{register_text, immediate_text, shift_text, load_text, store_text, branch_text, verb_text, verb_called}

-- of an instruction on two registers
register_called : (n : RName) → verb_called (register_text n) ≡ Some (verb.Register n)
register_called r.Add = refl
register_called r.Sub = refl
register_called r.Sll = refl
register_called r.Slt = refl
register_called r.Sltu = refl
register_called r.Xor = refl
register_called r.Srl = refl
register_called r.Sra = refl
register_called r.Or = refl
register_called r.And = refl
register_called r.Mul = refl
register_called r.Mulh = refl
register_called r.Mulhsu = refl
register_called r.Mulhu = refl
register_called r.Div = refl
register_called r.Divu = refl
register_called r.Rem = refl
register_called r.Remu = refl

-- on a register and an immediate
immediate_called : (n : IName) → verb_called (immediate_text n) ≡ Some (verb.Immediate n)
immediate_called Addi = refl
immediate_called Slti = refl
immediate_called Sltiu = refl
immediate_called Xori = refl
immediate_called Ori = refl
immediate_called Andi = refl

-- of a shift by a number
shift_called : (n : ShiftName) → verb_called (shift_text n) ≡ Some (verb.Shift n)
shift_called Slli = refl
shift_called Srli = refl
shift_called Srai = refl

-- of a load
load_called : (n : LoadName) → verb_called (load_text n) ≡ Some (verb.Load n)
load_called Lb = refl
load_called Lh = refl
load_called Lw = refl
load_called Lbu = refl
load_called Lhu = refl

-- of a store
store_called : (n : StoreName) → verb_called (store_text n) ≡ Some (verb.Store n)
store_called Sb = refl
store_called Sh = refl
store_called Sw = refl

-- of a branch
branch_called : (n : BranchName) → verb_called (branch_text n) ≡ Some (verb.Branch n)
branch_called Beq = refl
branch_called Bne = refl
branch_called Blt = refl
branch_called Bge = refl
branch_called Bltu = refl
branch_called Bgeu = refl

-- of any instruction, and `.word`
pub called : (v : Verb) → verb_called (verb_text v) ≡ Some v
called (verb.Register n) = register_called n
called (verb.Immediate n) = immediate_called n
called (verb.Shift n) = shift_called n
called (verb.Load n) = load_called n
called (verb.Store n) = store_called n
called (verb.Branch n) = branch_called n
called verb.Lui = refl
called verb.Auipc = refl
called verb.Jal = refl
called verb.Jalr = refl
called verb.Fence = refl
called verb.Ecall = refl
called verb.Ebreak = refl
called verb.Word = refl
