use Rattle.std.proofs.Common.{◌≡◌, ◌<◌, ◌∙◌, length, sym, arith, false}
use Rattle.tam_word.specs.Lists.{any_of}
use Rattle.tam_graph.specs.Graphs.{node_numbers}
use Rattle.tam_check.specs.Sources.{is_on_cycle}
use Rattle.tam_check.proofs.Scanning.{any-next}
use Rattle.tam_check.proofs.CycleTable.{cycle-found, cycle-none}
use Rattle.tam_check.proofs.cycles.cycle_in.Goals as goal

pub loop-x-preserved : goal.loop-x-preserved
loop-x-preserved c = any-next (is_on_cycle c.args.code.now c.args.block) c.loop-x.x c.loop-x.invariant
    (sym c.in_ok-is_on_cycle.ensures.value ∙ c.if-branch.false)

pub returns-then-branch : goal.returns-then-branch
returns-then-branch c =
    let low : c.loop-x.x < length c.args.code.now.nodes = omega (arith, c.loop-x-test.true, c.node_count-x-end.ensures.value) in
    record {
      value = sym (cycle-found c.args.code.now c.args.block c.loop-x.x low c.loop-x.invariant
          (sym c.in_ok-is_on_cycle.ensures.value ∙ c.if-branch.true));
    }

pub returns : goal.returns
returns c =
    let same : c.loop-x.x ≡ length c.args.code.now.nodes = omega (arith, c.loop-x-test.false, c.node_count-x-end.ensures.value, c.loop-x.auto.x-end) in
    let none : any_of (is_on_cycle c.args.code.now c.args.block) (node_numbers c.args.code.now) ≡ false = rw same at c.loop-x.invariant in
    record { value = sym (cycle-none c.args.code.now c.args.block none) }
