-- What a step of the machine answers, and what it leaves.
-- The rules in words: docs/MACHINE.md, "RV32IM".
use Rattle.std.specs.Prelude.{◌-◌, ◌^◌, min}
use Rattle.rv_inst.specs.Harts.{Hart, Step, Done, Called, Trapped}
use Rattle.rv_machine.specs.declared.rv_step.RvStep.{RvStep}
use Rattle.rv_machine.specs.declared.rv_step.RvStep.TheVariants.{Done as Is_done, Ecall, Trap}

-- the answer to a step
abbrev pub answer : Step → RvStep
answer (Done h) = Is_done
answer (Called h) = Ecall
answer (Trapped pc cause) = Trap pc cause

-- the number of steps stays at the last of 64 bits
abbrev pub counted : Hart → Hart
counted h = record h { steps = min h.steps (2 ^ 64 - 1) }

-- the machine behind a step; a trap leaves it as it was
abbrev pub state_after : Hart → Step → Hart
state_after h (Done g) = counted g
state_after h (Called g) = counted g
state_after h (Trapped pc cause) = h
