use Rattle.std.proofs.Common.{◌<◌, ◌∙◌, length, sym, ap, arith}
use Rattle.std.specs.Option.{option_to_list}
use Rattle.tam_check.specs.FirstFault.{faults_in}
use Rattle.tam_check.proofs.Firsts.{none-next, first-given}
use Rattle.tam_check.proofs.checker.first_in_codes.Goals as goal

pub loop-n-preserved : goal.loop-n-preserved
loop-n-preserved c = none-next (faults_in c.args.graph.now.graph.now) c.loop-n.n c.loop-n.invariant
    (sym c.in_ok-fault.ensures.value ∙ ap option_to_list c.in_default.is)

pub returns-in-Some : goal.returns-in-Some
returns-in-Some c =
    let low : c.loop-n.n < length c.args.graph.now.graph.now.codes = omega (arith, c.loop-n-test.true, c.codes-n-end.ensures.value) in
    record {
      value = sym (first-given (faults_in c.args.graph.now.graph.now) _ c.loop-n.n c.in-Some.fault low c.loop-n.invariant
          (sym c.in_ok-fault.ensures.value ∙ ap option_to_list c.in-Some.is));
    }
