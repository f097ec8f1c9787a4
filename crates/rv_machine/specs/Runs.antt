-- What is next behind one instruction, and what many steps come to.
-- The rules in words: docs/MACHINE.md, "RV32IM".
use Rattle.std.specs.Prelude.{ℕ, ◌≡◌, ◌+◌, ◌<◌, Result, Ok, Err}
use Rattle.tam_word.specs.Words.{wrapped}
use Rattle.rv_inst.specs.Harts.{Hart, Step, Done, Called, Trapped}
use Rattle.rv_inst.specs.Execution.{hart_step}
use Rattle.rv_inst.specs.Steps.{Comes, Calls}
use Rattle.rv_inst.specs.declared.trap_cause.TrapCause.{TrapCause}
use Rattle.rv_machine.specs.declared.next.Next.{Next}
use Rattle.rv_machine.specs.declared.next.Next.TheVariants.{On, Call, Trap as Stops}
use Rattle.rv_machine.specs.declared.rv_step.RvStep.{RvStep}
use Rattle.rv_machine.specs.declared.rv_step.RvStep.TheVariants.{Done as Is_done, Ecall, Trap}
use Rattle.rv_machine.specs.Answers.{counted}

-- ---- one instruction

-- the machine, where pc and the number of steps are kept beside it
abbrev pub at : Hart → ℕ → ℕ → Hart
at h pc steps = record h { pc = pc; steps = steps }

-- the step from pc behind which that is next and the machine is this one; so many steps were made before it
abbrev pub step_to : Hart → ℕ → Next → ℕ → Step
step_to h pc (On to) steps = Done (at h to (steps + 1))
step_to h pc Call steps = Called (at h (wrapped (pc + 4)) (steps + 1))
step_to h pc (Stops cause) steps = Trapped pc cause

-- the same of an instruction behind which is the one at an address, or that traps
abbrev pub goes_to : Hart → ℕ → Result ℕ TrapCause → ℕ → Step
goes_to h pc (Ok to) steps = Done (at h to (steps + 1))
goes_to h pc (Err cause) steps = Trapped pc cause

-- a trap leaves the machine as it was
abbrev pub Stays : Hart → Hart → Next → Type 0
Stays old new (On to) = Unit {0}
Stays old new Call = Unit {0}
Stays old new (Stops cause) = new ≡ old

-- ---- many steps

-- what at most so many steps came to: all were done; or so many were, and the next called the host, or trapped
abbrev pub IsRun : ℕ → Hart → Hart → ℕ → RvStep → Type 0
IsRun most old new done Is_done = (done ≡ most) × ((g : Hart) × Comes done old g × (new ≡ counted g))
IsRun most old new done Ecall = (done < most) × ((g : Hart) × Calls done old g × (new ≡ counted g))
IsRun most old new done (Trap pc cause) = (done < most) × ((g : Hart) × Comes done old g × (hart_step g ≡ Trapped pc cause) × (new ≡ counted g))
