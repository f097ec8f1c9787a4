-- What a run of one step says of that step.
use Rattle.std.proofs.Common.{◌≡◌, ◌∙◌, ℕ, ◌-◌, ◌<◌, ◌≤◌, ◌^◌, refl, sym, ap, subst, arith}
use Rattle.std.proofs.Math.Nat.{min-eq_left}
use Rattle.rv_inst.specs.Harts.{Hart, Step}
use Rattle.rv_inst.specs.Execution.{hart_step}
use Rattle.rv_inst.specs.Steps.{Comes, Calls}
use Rattle.rv_machine.specs.declared.rv_step.RvStep.{RvStep}
use Rattle.rv_machine.specs.declared.rv_step.RvStep.TheVariants.{Done as Is_done, Ecall, Trap}
use Rattle.rv_machine.specs.Answers.{answer, counted, state_after}
use Rattle.rv_machine.specs.Runs.{IsRun}

-- a machine whose count is in range is as it counts
pub counted-is : (g : Hart) → g.steps < 2 ^ 64 → counted g ≡ g
counted-is g few = let l : g.steps ≤ 2 ^ 64 - 1 = omega arith in ap (λ (n : ℕ). record g { steps = n }) (min-eq_left l)

-- a step is answered, and the machine is left, as that step has it
abbrev IsMade : Hart → Hart → RvStep → Step → Type 0
IsMade old new last x = (last ≡ answer x) × (new ≡ state_after old x)

-- where at most one step was asked for
pub one-made : (old new : Hart) (done : ℕ) (last : RvStep) → old.steps < 2 ^ 64 → IsRun 1 old new done last
    → (last ≡ answer (hart_step old)) × (new ≡ state_after old (hart_step old))
one-made old new done Is_done few (all, (g, come, new_is)) =
    let one : Comes 1 old g = subst (λ (n : ℕ). Comes n old g) all come in
    subst (IsMade old new Is_done) (sym one.1) (refl, new_is ∙ ap counted (sym one.2))
one-made old new done Ecall few (less, (g, called, new_is)) =
    let none : done ≡ 0 = omega (arith, less) in
    let one : Calls 0 old g = subst (λ (n : ℕ). Calls n old g) none called in
    subst (IsMade old new Ecall) (sym (ap hart_step one.1 ∙ one.2)) (refl, new_is)
one-made old new done (Trap pc cause) few (less, (g, come, trapped, new_is)) =
    let none : done ≡ 0 = omega (arith, less) in
    let one : Comes 0 old g = subst (λ (n : ℕ). Comes n old g) none come in
    subst (IsMade old new (Trap pc cause)) (sym (ap hart_step one ∙ trapped)) (refl, new_is ∙ (ap counted (sym one) ∙ counted-is old few))
