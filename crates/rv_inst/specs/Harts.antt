-- The machine of RV32IM as a value: registers, pc and memory.
-- The rules in words: docs/MACHINE.md, "RV32IM".
use Rattle.std.specs.Prelude.{ℕ, zero, suc, ◌+◌, ◌*◌, ◌/◌, ◌%◌, List, [], ◌∷◌, ◌++◌, take, drop, slice_index, slice_set}
use Rattle.tam_word.specs.Words.{wrapped}
use Rattle.rv_inst.specs.declared.trap_cause.TrapCause.{TrapCause}

-- the machine
pub record Hart : Type 0 where
  pub regs : List ℕ
  pub pc : ℕ
  pub memory : List ℕ  -- bytes from address 0
  pub steps : ℕ  -- the steps that didn't trap

-- what a step comes to: it is done, it called the host, or it trapped and changed nothing
pub data Step : Type 0 where
  Done : (hart : Hart) → Step
  Called : (hart : Hart) → Step
  Trapped : (pc : ℕ) (cause : TrapCause) → Step

-- the little-endian number of bytes
abbrev pub little_endian : List ℕ → ℕ
little_endian [] = 0
little_endian (b ∷ bs) = b + 256 * little_endian bs

-- the number in n bytes from an address
abbrev pub read_at : List ℕ → ℕ → ℕ → ℕ
read_at memory a n = little_endian (take n (drop a memory))

-- n bytes of a number, little-endian
abbrev pub bytes_of : ℕ → ℕ → List ℕ
bytes_of zero w = []
bytes_of (suc n) w = w % 256 ∷ bytes_of n (w / 256)

-- the memory with n bytes of a number from an address on
abbrev pub written_at : List ℕ → ℕ → ℕ → ℕ → List ℕ
written_at memory a n w = take a memory ++ (bytes_of n w ++ drop (a + n) memory)

-- register r
abbrev pub reg : Hart → ℕ → ℕ
reg h r = slice_index h.regs r

-- register r has the word; register 0 stays 0
abbrev pub with_reg : Hart → ℕ → ℕ → Hart
with_reg h zero w = h
with_reg h (suc r) w = record h { regs = slice_set h.regs (suc r) w }

-- a step was made, and the next instruction is at pc
abbrev pub gone_to : Hart → ℕ → Hart
gone_to h pc = record h { pc = pc; steps = h.steps + 1 }

-- or behind this one
abbrev pub gone_on : Hart → Hart
gone_on h = gone_to h (wrapped (h.pc + 4))
