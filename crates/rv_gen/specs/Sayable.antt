-- What an instruction may name, so that its machine code can say it.
-- The rules in words: docs/THREADS.md, "Which thread code is accepted".
use Rattle.std.specs.Prelude.{ℕ, ◌<◌, ◌≤◌, ⊤}
use Rattle.std.specs.List.{AllByRecursion}
use Rattle.tl0_code.specs.declared.inlet.Inlet.{Inlet}
use Rattle.tl0_code.specs.declared.instr.Instr.{Instr}
use Rattle.tl0_code.specs.declared.instr.Instr.TheVariants.{Imm, Mov, Op as Operate, Fork, Switch, Falloc, Send, Ret, Ialloc, Ifetch, Istore, Skip}
use Rattle.tl0_code.specs.ThreadCode.{Thread}

-- slots and threads that are there, where there are so many; a callee, a result and a node below what any code has
abbrev pub IsSayable : ℕ → ℕ → Instr → Type 0
IsSayable slots threads (Imm d w) = d < slots
IsSayable slots threads (Mov d a) = (d < slots) × (a < slots)
IsSayable slots threads (Operate o d a b) = (d < slots) × (a < slots) × (b < slots)
IsSayable slots threads (Fork t) = t < threads
IsSayable slots threads (Switch s t u) = (s < slots) × (t < threads) × (u < threads)
IsSayable slots threads (Falloc d i) = d < 256
IsSayable slots threads (Send f p a) = (f < slots) × (a < slots)
IsSayable slots threads (Ret k a) = (k < 64) × (a < slots)
IsSayable slots threads (Ialloc n i) = n < slots
IsSayable slots threads (Ifetch r x i n) = (r < slots) × (x < slots) × (n ≤ 1023)
IsSayable slots threads (Istore r x a n) = (r < slots) × (x < slots) × (a < slots) × (n ≤ 1023)
IsSayable slots threads (Skip n) = ⊤

-- so is each instruction of a thread
abbrev pub AreSayable : ℕ → ℕ → Thread → Type 0
AreSayable slots threads t = AllByRecursion (IsSayable slots threads) t.instrs

-- an inlet's slot and thread are there, where there are so many
abbrev pub IsInletThere : ℕ → ℕ → Inlet → Type 0
IsInletThere slots threads i = (i.slot < slots) × (i.thread < threads)
