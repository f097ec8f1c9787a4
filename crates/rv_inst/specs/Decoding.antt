-- What the fields of a word say, opcode by opcode: the listings read from the word's side.
-- The RISC-V Instruction Set Manual, Volume I, version 20191213, "RV32/64G Instruction Set Listings".
use Rattle.std.specs.Prelude.{ℕ, ◌==◌, Option, Some, None, true, false}
use Rattle.std.specs.Option.{option_map}
use Rattle.rv_inst.specs.declared.i_name.IName.{IName}
use Rattle.rv_inst.specs.declared.opcode.Opcode.{Opcode}
use Rattle.rv_inst.specs.declared.opcode.Opcode.TheVariants as opcode
use Rattle.rv_inst.specs.declared.inst.Inst.{Inst}
use Rattle.rv_inst.specs.declared.inst.Inst.TheVariants.{R, I, Shift, Load, Store, Branch, Lui, Auipc, Jal, Jalr, Fence, Ecall, Ebreak}
use Rattle.rv_inst.specs.Fields.{part, rd_of, rs1_of, rs2_of, i_imm, s_imm, b_off, j_off}
use Rattle.rv_inst.specs.Rows.{jalr_funct, fence_funct, ecall_word, ebreak_word}
use Rattle.rv_inst.specs.Lookup.{r_name_of, i_name_of, shift_name_of, load_name_of, store_name_of, branch_name_of, opcode_of}

-- a word of the opcode for a register and an immediate, by the name that its function field has
abbrev pub with_immediate : ℕ → Option IName → Option Inst
with_immediate w (Some n) = Some (I n (rd_of w) (rs1_of w) (i_imm w))
with_immediate w None = option_map (λ n. Shift n (rd_of w) (rs1_of w) (rs2_of w)) (shift_name_of (part w 25 7) (part w 12 3))

-- a word of the opcode for calls
abbrev pub of_system : ℕ → Option Inst
of_system w = elim (w == ecall_word) [ true ↦ Some Ecall | false ↦ elim (w == ebreak_word) [ true ↦ Some Ebreak | false ↦ None ] ]

-- the instruction that a word of the opcode says
abbrev pub said : ℕ → Opcode → Option Inst
said w opcode.Load = option_map (λ n. Load n (rd_of w) (rs1_of w) (i_imm w)) (load_name_of (part w 12 3))
said w opcode.MiscMem = elim (part w 12 3 == fence_funct) [ true ↦ Some (Fence (rd_of w) (rs1_of w) (part w 20 12)) | false ↦ None ]
said w opcode.OpImm = with_immediate w (i_name_of (part w 12 3))
said w opcode.Auipc = Some (Auipc (rd_of w) (part w 12 20))
said w opcode.Store = option_map (λ n. Store n (rs1_of w) (rs2_of w) (s_imm w)) (store_name_of (part w 12 3))
said w opcode.Op = option_map (λ n. R n (rd_of w) (rs1_of w) (rs2_of w)) (r_name_of (part w 25 7) (part w 12 3))
said w opcode.Lui = Some (Lui (rd_of w) (part w 12 20))
said w opcode.Branch = option_map (λ n. Branch n (rs1_of w) (rs2_of w) (b_off w)) (branch_name_of (part w 12 3))
said w opcode.Jalr = elim (part w 12 3 == jalr_funct) [ true ↦ Some (Jalr (rd_of w) (rs1_of w) (i_imm w)) | false ↦ None ]
said w opcode.Jal = Some (Jal (rd_of w) (j_off w))
said w opcode.System = of_system w

-- where its opcode is one
abbrev pub said_if : ℕ → Option Opcode → Option Inst
said_if w (Some o) = said w o
said_if w None = None

-- the instruction that the fields of a word say
abbrev pub by_fields : ℕ → Option Inst
by_fields w = said_if w (opcode_of (part w 0 7))
