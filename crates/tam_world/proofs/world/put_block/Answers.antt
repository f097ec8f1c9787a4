use Rattle.std.proofs.Common.{◌≡◌, sym, length, ◌≤◌, ◌<◌, arith}
use Rattle.std.proofs.lemmas.List.{length-map}
use Rattle.tam_world.specs.Worlds.{with_block}
use Rattle.tam_world.specs.Kept.{activation_of, activations_of}
use Rattle.tam_world.proofs.Kept.{on_ok, changed_at-past, activations-changed}
use Rattle.tam_world.proofs.world.put_block.Goals as goal

pub returns-then-i-len-clause-value : goal.returns-then-i-len-clause-value
returns-then-i-len-clause-value c =
    let past : length (activations_of c.args.activations.now.items) ≤ c.args.i =
    simp length-map (omega (arith, c.len.ensures, c.if-i-len.true, c.args.activations.now.ok.0)) in
    sym (changed_at-past c.args.i (with_block c.args.block) (activations_of c.args.activations.now.items) past)

pub returns-clause-value : goal.returns-clause-value
returns-clause-value c =
    let inside : c.args.i < length c.args.activations.now.items = omega (arith, c.len.ensures, c.if-i-len.false, c.args.activations.now.ok.0) in
    on_ok c.enter.result
    (λ (is : activation_of c.enter.new.self ≡ (with_block c.args.block) (activation_of c.index_mut-activation.result.now)).
    activations-changed (with_block c.args.block) c.index_mut-activation.result.now c.enter.new.self c.args.i c.args.activations.now.items inside
    c.index_mut-activation.ensures.value is)
    c.enter.ensures.ok
