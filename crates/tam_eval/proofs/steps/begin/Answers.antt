use Rattle.std.proofs.Common.{◌≡◌, ◌+◌, ◌++◌, ◌∷◌, [], map, length, ap, ap₂}
use Rattle.tam_msgs.specs.declared.message.Message.TheVariants.{Word as Carry}
use Rattle.tam_graph.specs.Graphs.{code_of}
use Rattle.tam_world.specs.Kept.{pairs_of}
use Rattle.tam_world.specs.Takers.{firers_in, inlets_in, starters_of}
use Rattle.tam_world.proofs.Kept.{on_ok}
use Rattle.tam_eval.specs.Machines.{state_of}
use Rattle.tam_eval.proofs.Stepping.{state-begun}
use Rattle.tam_eval.proofs.KeepingCounts.{keeps-begun}
use Rattle.tam_eval.proofs.steps.begin.Goals as goal

pub returns-clause-value : goal.returns-clause-value
returns-clause-value c =
    let s = state_of c.args.machine.now in
    let number = c.activations-word.result in
    let count : number ≡ length s.world.activations = c.activations-word.ensures.value in
    let more : pairs_of c.ready_all.new.ready.items ≡ s.ready ++ map (λ z. (number, z)) (starters_of (code_of c.args.program.now c.args.code)) =
    rw (c.starters.ensures.value) at c.in_ok-ready_all.ensures.ok in
    on_ok c.send.result (λ (sent : c.send.new.pending.messages ≡ s.pending ++ Carry c.args.call.activation c.args.call.node number ∷ []).
    state-begun c.args.program.now s c.args.code c.args.call.activation c.args.call.node number c.begin_with_room.new.self
    (pairs_of c.ready_all.new.ready.items)
    c.send.new.pending.messages c.in_ok-begin_with_room.ensures.ok count more sent) c.send.ensures.ok

pub returns-clause-counts : goal.returns-clause-counts
returns-clause-counts c =
    let g = c.args.program.now in
    let s = state_of c.args.machine.now in
    let number = c.activations-word.result in
    let count : number ≡ length s.world.activations = c.activations-word.ensures.value in
    let more : pairs_of c.ready_all.new.ready.items ≡ s.ready ++ map (λ z. (number, z)) (starters_of (code_of g c.args.code)) =
    rw (c.starters.ensures.value) at c.in_ok-ready_all.ensures.ok in
    let vertices : length c.firers.result.now + length c.block_inlets.result.now ≡ length (firers_in (code_of g c.args.code) 0) + length
    (inlets_in (code_of g c.args.code) 0) =
    ap₂ (λ m n. m + n) (ap length (c.firers.ensures.value)) (ap length c.block_inlets.ensures.value) in
    on_ok c.send.result (λ (sent : c.send.new.pending.messages ≡ s.pending ++ Carry c.args.call.activation c.args.call.node number ∷ []).
    rw c.in_ok-begin.ensures.ok (keeps-begun g s
    (record s { world = c.begin_with_room.new.self; ready = pairs_of c.ready_all.new.ready.items; pending = c.send.new.pending.messages })
    c.args.code c.args.call.activation c.args.call.node (Carry c.args.call.activation c.args.call.node (length s.world.activations) ∷ [])
    (state-begun g s c.args.code c.args.call.activation c.args.call.node number c.begin_with_room.new.self (pairs_of c.ready_all.new.ready.items)
    c.send.new.pending.messages c.in_ok-begin_with_room.ensures.ok count more sent)
    c.args.machine.now.left c.requires.covered.one_each (length c.firers.result.now + length c.block_inlets.result.now) vertices)) c.send.ensures.ok
