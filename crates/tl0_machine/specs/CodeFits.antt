-- What an instruction and an inlet name stands in each frame.
use Rattle.std.specs.Prelude.{ℕ, ◌<◌, ◌≡◌, List, Some, slice_get}
use Rattle.tl0_code.specs.declared.inlet.Inlet.{Inlet}
use Rattle.tl0_code.specs.declared.instr.Instr.{Instr}
use Rattle.tl0_code.specs.declared.instr.Instr.TheVariants.{Imm, Mov, Op as Operate, Fork, Switch, Falloc, Send, Ret, Ialloc, Ifetch, Istore, Skip}

-- the slots and threads that an instruction names are below these numbers, and its node is one that a site can tell
abbrev pub IsNamed : ℕ → ℕ → Instr → Type 0
IsNamed slots threads (Imm d w) = d < slots
IsNamed slots threads (Mov d a) = (d < slots) × (a < slots)
IsNamed slots threads (Operate o d a b) = (d < slots) × (a < slots) × (b < slots)
IsNamed slots threads (Fork t) = t < threads
IsNamed slots threads (Switch s t u) = (s < slots) × (t < threads) × (u < threads)
IsNamed slots threads (Falloc c i) = Unit {0}
IsNamed slots threads (Send r i a) = (r < slots) × (a < slots)
IsNamed slots threads (Ret k a) = a < slots
IsNamed slots threads (Ialloc n i) = n < slots
IsNamed slots threads (Ifetch r x i n) = (r < slots) × (x < slots) × (n < 1024)
IsNamed slots threads (Istore r x a n) = (r < slots) × (x < slots) × (a < slots) × (n < 1024)
IsNamed slots threads (Skip n) = Unit {0}

-- the same of each instruction of a list
abbrev pub AreNamed : ℕ → ℕ → List Instr → Type 0
AreNamed slots threads instrs = (n : ℕ) (i : Instr) → slice_get instrs n ≡ Some i → IsNamed slots threads i

-- the same of an inlet
abbrev pub IsInletNamed : ℕ → ℕ → Inlet → Type 0
IsInletNamed slots threads i = (i.slot < slots) × (i.thread < threads)
