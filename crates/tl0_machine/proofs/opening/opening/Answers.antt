use Rattle.std.proofs.Common.{◌≡◌, ◌∙◌, ℕ, List, Bool, [], ap, arith}
use Rattle.tam_msgs.specs.PendingMessages.{PendingMessages}
use Rattle.tam_msgs.specs.Messages.{outside}
use Rattle.tl0_code.specs.Machines.{Machine, Fine}
use Rattle.tl0_code.specs.ThreadRuns.{begin}
use Rattle.tl0_machine.specs.ThreadStates.{machine_of}
use Rattle.tl0_machine.proofs.FirstState.{opening-is, opening-few}
use Rattle.tl0_machine.proofs.opening.opening.Goals as goal

pub returns-clause-value : goal.returns-clause-value
returns-clause-value c =
    let p = c.args.table.now in
    let begun : begin p (machine_of c.in_ok-state.state [] []) p.main outside 0 ≡ Fine (machine_of c.begin.new.state [] []) =
    rw c.main.ensures.value at c.begin.ensures.value [] [] in
    opening-is p c.args.args.now c.in_ok-state.state c.begin.new.state c.in_ok-state.ensures.value begun
    (ap (λ (b : PendingMessages × List Bool × ℕ). b.1) c.begin.ensures.beside ∙ c.in_ok-state.ensures.marks)

pub returns-clause-few : goal.returns-clause-few
returns-clause-few c =
    let first : c.in_ok-state.state.begun ≡ 0 = ap (λ (m : Machine). m.begun) c.in_ok-state.ensures.value in
    let begun = c.begin.ensures.begun in
    opening-few c.args.args.now c.begin.new.state
    (ap (λ (b : PendingMessages × List Bool × ℕ). (b.0).messages) c.begin.ensures.beside ∙ ap (λ (m : Machine). m.pending) c.in_ok-state.ensures.value)
    (omega (arith, first, begun))
