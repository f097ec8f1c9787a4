-- The instructions that the machine keeps, each at the place of its word, so that a word is decoded once.
use Rattle.std.specs.Prelude.{◌≡◌, ℕ, ◌*◌, ◌%◌, ◌^◌, ◌≤◌, List, [], ◌∷◌, length, slice_index_or, Option, Some, None}
use Rattle.rv_inst.specs.declared.inst.Inst.{Inst}
use Rattle.rv_inst.specs.declared.inst.Inst.TheVariants.{R, I, Shift, Load, Store, Branch, Lui, Auipc, Jal, Jalr, Fence, Ecall, Ebreak}
use Rattle.rv_inst.specs.declared.r_name.RName.TheVariants as r_name
use Rattle.rv_inst.specs.declared.i_name.IName.TheVariants as i_name
use Rattle.rv_inst.specs.declared.shift_name.ShiftName.TheVariants as shift_name
use Rattle.rv_inst.specs.declared.load_name.LoadName.TheVariants as load_name
use Rattle.rv_inst.specs.declared.store_name.StoreName.TheVariants as store_name
use Rattle.rv_inst.specs.declared.branch_name.BranchName.TheVariants as branch_name
use Rattle.rv_inst.specs.Instructions.{decoded}
use Rattle.rv_inst.specs.Harts.{Hart, Step, read_at}
use Rattle.rv_inst.specs.Execution.{hart_step, carried_out}
use Rattle.rv_machine.specs.declared.operation.Operation.{Operation}
use Rattle.rv_machine.specs.declared.operation.Operation.TheVariants as operation
use Rattle.rv_machine.specs.declared.kept_inst.KeptInst.{KeptInst}

-- the instruction of an operation on these registers and this word, if it tells one
abbrev pub instruction : Operation → ℕ → ℕ → ℕ → ℕ → Option Inst
instruction operation.Add rd rs1 rs2 word = Some (R r_name.Add rd rs1 rs2)
instruction operation.Sub rd rs1 rs2 word = Some (R r_name.Sub rd rs1 rs2)
instruction operation.Sll rd rs1 rs2 word = Some (R r_name.Sll rd rs1 rs2)
instruction operation.Slt rd rs1 rs2 word = Some (R r_name.Slt rd rs1 rs2)
instruction operation.Sltu rd rs1 rs2 word = Some (R r_name.Sltu rd rs1 rs2)
instruction operation.Xor rd rs1 rs2 word = Some (R r_name.Xor rd rs1 rs2)
instruction operation.Srl rd rs1 rs2 word = Some (R r_name.Srl rd rs1 rs2)
instruction operation.Sra rd rs1 rs2 word = Some (R r_name.Sra rd rs1 rs2)
instruction operation.Or rd rs1 rs2 word = Some (R r_name.Or rd rs1 rs2)
instruction operation.And rd rs1 rs2 word = Some (R r_name.And rd rs1 rs2)
instruction operation.Mul rd rs1 rs2 word = Some (R r_name.Mul rd rs1 rs2)
instruction operation.Mulh rd rs1 rs2 word = Some (R r_name.Mulh rd rs1 rs2)
instruction operation.Mulhsu rd rs1 rs2 word = Some (R r_name.Mulhsu rd rs1 rs2)
instruction operation.Mulhu rd rs1 rs2 word = Some (R r_name.Mulhu rd rs1 rs2)
instruction operation.Div rd rs1 rs2 word = Some (R r_name.Div rd rs1 rs2)
instruction operation.Divu rd rs1 rs2 word = Some (R r_name.Divu rd rs1 rs2)
instruction operation.Rem rd rs1 rs2 word = Some (R r_name.Rem rd rs1 rs2)
instruction operation.Remu rd rs1 rs2 word = Some (R r_name.Remu rd rs1 rs2)
instruction operation.Addi rd rs1 rs2 word = Some (I i_name.Addi rd rs1 word)
instruction operation.Slti rd rs1 rs2 word = Some (I i_name.Slti rd rs1 word)
instruction operation.Sltiu rd rs1 rs2 word = Some (I i_name.Sltiu rd rs1 word)
instruction operation.Xori rd rs1 rs2 word = Some (I i_name.Xori rd rs1 word)
instruction operation.Ori rd rs1 rs2 word = Some (I i_name.Ori rd rs1 word)
instruction operation.Andi rd rs1 rs2 word = Some (I i_name.Andi rd rs1 word)
instruction operation.Slli rd rs1 rs2 word = Some (Shift shift_name.Slli rd rs1 word)
instruction operation.Srli rd rs1 rs2 word = Some (Shift shift_name.Srli rd rs1 word)
instruction operation.Srai rd rs1 rs2 word = Some (Shift shift_name.Srai rd rs1 word)
instruction operation.Lb rd rs1 rs2 word = Some (Load load_name.Lb rd rs1 word)
instruction operation.Lh rd rs1 rs2 word = Some (Load load_name.Lh rd rs1 word)
instruction operation.Lw rd rs1 rs2 word = Some (Load load_name.Lw rd rs1 word)
instruction operation.Lbu rd rs1 rs2 word = Some (Load load_name.Lbu rd rs1 word)
instruction operation.Lhu rd rs1 rs2 word = Some (Load load_name.Lhu rd rs1 word)
instruction operation.Sb rd rs1 rs2 word = Some (Store store_name.Sb rs1 rs2 word)
instruction operation.Sh rd rs1 rs2 word = Some (Store store_name.Sh rs1 rs2 word)
instruction operation.Sw rd rs1 rs2 word = Some (Store store_name.Sw rs1 rs2 word)
instruction operation.Beq rd rs1 rs2 word = Some (Branch branch_name.Beq rs1 rs2 word)
instruction operation.Bne rd rs1 rs2 word = Some (Branch branch_name.Bne rs1 rs2 word)
instruction operation.Blt rd rs1 rs2 word = Some (Branch branch_name.Blt rs1 rs2 word)
instruction operation.Bge rd rs1 rs2 word = Some (Branch branch_name.Bge rs1 rs2 word)
instruction operation.Bltu rd rs1 rs2 word = Some (Branch branch_name.Bltu rs1 rs2 word)
instruction operation.Bgeu rd rs1 rs2 word = Some (Branch branch_name.Bgeu rs1 rs2 word)
instruction operation.Lui rd rs1 rs2 word = Some (Lui rd (word % 2 ^ 20))
instruction operation.Auipc rd rs1 rs2 word = Some (Auipc rd (word % 2 ^ 20))
instruction operation.Jal rd rs1 rs2 word = Some (Jal rd word)
instruction operation.Jalr rd rs1 rs2 word = Some (Jalr rd rs1 word)
instruction operation.Fence rd rs1 rs2 word = Some (Fence rd rs1 word)
instruction operation.Ecall rd rs1 rs2 word = Some Ecall
instruction operation.Ebreak rd rs1 rs2 word = Some Ebreak
instruction operation.Unknown rd rs1 rs2 word = None

-- the instruction that an entry tells, if it tells one
abbrev pub told : KeptInst → Option Inst
told k = instruction k.operation k.rd k.rs1 k.rs2 k.word

-- the step at pc where an entry is known: its instruction is carried out, and where it tells none the word in the memory is asked
abbrev pub step_at : Hart → Option Inst → Step
step_at h None = hart_step h
step_at h (Some i) = carried_out h i

-- the entry that tells none
abbrev pub unknown : KeptInst
unknown = record { operation = operation.Unknown; rd = 0; rs1 = 0; rs2 = 0; word = 0 }

-- each entry that tells an instruction tells the one that the word at its place in the memory has
pub record AreDecoded (kept : List KeptInst) (memory : List ℕ) : Type 0 where
  pub room : 4 * length kept ≤ length memory
  pub each : (k : ℕ) (i : Inst) → told (slice_index_or kept k unknown) ≡ Some i → decoded (read_at memory (4 * k) 4) ≡ i ∷ []
