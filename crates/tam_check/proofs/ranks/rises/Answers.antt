use Rattle.std.proofs.Common.{◌≡◌, ◌<◌, ◌∙◌, length, sym, arith, true}
use Rattle.tam_check.specs.Sources.{rises_to, rises}
use Rattle.tam_check.proofs.Scanning.{all-next, all-failed}
use Rattle.tam_check.proofs.Rising.{rising-none}
use Rattle.tam_check.proofs.ranks.rises.Goals as goal

pub loop-x-preserved : goal.loop-x-preserved
loop-x-preserved c = all-next (rises_to c.args.code.now c.args.ranks.now) c.loop-x.x c.loop-x.invariant
    (sym c.rises_to.ensures.value ∙ c.if-not-rises_to.false)

pub returns-then-not-rises_to-clause-value : goal.returns-then-not-rises_to-clause-value
returns-then-not-rises_to-clause-value c =
    let low : c.loop-x.x < length c.args.code.now.nodes = omega (arith, c.loop-x-test.true, c.node_count-x-end.ensures.value) in
    sym (all-failed (rises_to c.args.code.now c.args.ranks.now) _ c.loop-x.x low (sym c.rises_to.ensures.value ∙ c.if-not-rises_to.true))

pub returns-clause-no_cycle : goal.returns-clause-no_cycle
returns-clause-no_cycle c = λ t b.
    let same : c.loop-x.x ≡ length c.args.code.now.nodes = omega (arith, c.loop-x-test.false, c.node_count-x-end.ensures.value, c.loop-x.auto.x-end) in
    let rising : rises c.args.code.now c.args.ranks.now ≡ true = rw same at c.loop-x.invariant in
    rising-none c.args.code.now c.args.ranks.now rising b
