use Rattle.std.proofs.Common.{◌<◌, ◌∙◌, ap, sym, length, map, arith}
use Rattle.tam_graph.specs.Graphs.{code_of}
use Rattle.tam_graph.specs.Accepted.{faults_at}
use Rattle.tam_check.specs.FirstFault.{faults_on}
use Rattle.tam_check.proofs.Firsts.{none-next, first-given, first-map}
use Rattle.tam_check.proofs.checker.first_in.Goals as goal

pub loop-x-preserved : goal.loop-x-preserved
loop-x-preserved c = (
  none-next (faults_on c.args.graph.now.graph.now c.args.n) c.loop-x.x c.loop-x.invariant.0
      (first-map (λ f. (c.args.n, c.loop-x.x, f)) (faults_at c.args.graph.now.graph.now c.args.n c.loop-x.x)
      ∙ ap (map (λ f. (c.args.n, c.loop-x.x, f))) (sym c.in_default.ensures.value)),
  rw c.interface_count-interfaces.ensures.value at c.in_ok-add.ensures.after,
)

pub returns-in-Some : goal.returns-in-Some
returns-in-Some c =
    let low : c.loop-x.x < length (code_of c.args.graph.now.graph.now c.args.n).nodes = rw (← c.code-code.ensures.value)
    (omega (arith, c.loop-x-test.true, c.node_count-x-end.ensures.value)) in
    record {
      value = sym (first-given (faults_on c.args.graph.now.graph.now c.args.n) _ c.loop-x.x (c.args.n, c.loop-x.x, c.in-Some.cause) low c.loop-x.invariant.0
          (first-map (λ f. (c.args.n, c.loop-x.x, f)) (faults_at c.args.graph.now.graph.now c.args.n c.loop-x.x)
          ∙ ap (map (λ f. (c.args.n, c.loop-x.x, f))) (sym c.in-Some.ensures.value)));
    }
