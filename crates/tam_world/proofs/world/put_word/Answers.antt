use Rattle.std.proofs.Common.{◌≡◌, sym, length, ◌≤◌, ◌<◌, arith}
use Rattle.std.proofs.lemmas.List.{length-map}
use Rattle.tam_world.specs.Worlds.{with_word}
use Rattle.tam_world.specs.Kept.{activation_of, activations_of}
use Rattle.tam_world.proofs.Kept.{on_ok, changed_at-past, activations-changed}
use Rattle.tam_world.proofs.world.put_word.Goals as goal

pub returns-then-at-len-clause-value : goal.returns-then-at-len-clause-value
returns-then-at-len-clause-value c =
    let past : length (activations_of c.args.activations.now.items) ≤ c.args.at.activation =
    simp length-map (omega (arith, c.len.ensures, c.if-at-len.true, c.args.activations.now.ok.0)) in
    sym (changed_at-past c.args.at.activation (with_word c.args.at.node c.args.word) (activations_of c.args.activations.now.items) past)

pub returns-clause-value : goal.returns-clause-value
returns-clause-value c =
    let inside : c.args.at.activation < length c.args.activations.now.items = omega (arith, c.len.ensures, c.if-at-len.false, c.args.activations.now.ok.0) in
    on_ok c.put_word.result
    (λ (is : activation_of c.put_word.new.self ≡ (with_word c.args.at.node c.args.word) (activation_of c.index_mut-activation.result.now)).
    activations-changed (with_word c.args.at.node c.args.word) c.index_mut-activation.result.now c.put_word.new.self c.args.at.activation
    c.args.activations.now.items inside c.index_mut-activation.ensures.value is)
    c.put_word.ensures.ok
