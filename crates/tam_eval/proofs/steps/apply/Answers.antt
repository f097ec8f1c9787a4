use Rattle.std.proofs.Common.{◌≡◌, ◌++◌, ◌∷◌, []}
use Rattle.tam_world.proofs.Kept.{on_ok}
use Rattle.tam_eval.specs.Machines.{state_of}
use Rattle.tam_eval.proofs.Stepping.{state-same, state-sent}
use Rattle.tam_eval.proofs.KeepingCounts.{keeps-same}
use Rattle.tam_eval.proofs.steps.apply.Goals as goal

pub returns-in-Nothing-clause-value : goal.returns-in-Nothing-clause-value
returns-in-Nothing-clause-value c = rw c.in-Nothing.is (state-same c.args.program.now (state_of c.args.machine.now))

pub returns-in-Sends-clause-value : goal.returns-in-Sends-clause-value
returns-in-Sends-clause-value c =
    let s = state_of c.args.machine.now in
    rw c.in-Sends.is (on_ok c.send.result (λ (sent : c.send.new.pending.messages ≡ s.pending ++ c.in-Sends.message ∷ []).
    state-sent c.args.program.now s (c.in-Sends.message ∷ []) c.send.new.pending.messages sent) c.send.ensures.ok)

pub returns-in-Nothing-clause-counts : goal.returns-in-Nothing-clause-counts
returns-in-Nothing-clause-counts c =
    let s = state_of c.args.machine.now in
    keeps-same c.args.program.now s s [] (state-same c.args.program.now s) c.args.machine.now.left

pub returns-in-Sends-clause-counts : goal.returns-in-Sends-clause-counts
returns-in-Sends-clause-counts c =
    let s = state_of c.args.machine.now in
    on_ok c.send.result (λ (sent : c.send.new.pending.messages ≡ s.pending ++ c.in-Sends.message ∷ []).
    keeps-same c.args.program.now s (record s { pending = c.send.new.pending.messages }) (c.in-Sends.message ∷ [])
    (state-sent c.args.program.now s (c.in-Sends.message ∷ []) c.send.new.pending.messages sent) c.args.machine.now.left) c.send.ensures.ok
