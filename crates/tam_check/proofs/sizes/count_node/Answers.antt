use Rattle.std.proofs.Common.{◌≡◌, ◌∙◌, ap, sym, Some, None, arith}
use Rattle.tam_graph.specs.Graphs.{block_at, kind_at}
use Rattle.tam_check.specs.Interfaces.{interface_of}
use Rattle.tam_check.specs.Tables.{belongs_to}
use Rattle.tam_check.proofs.Sizing.{size-small, sizes-same, sizes-untold, sizes-added}
use Rattle.tam_check.proofs.sizes.count_node.Goals as goal

pub overflow_add-sizes : goal.overflow_add-sizes
overflow_add-sizes c =
    let is = c.number-number.ensures.value in
    let size = c.requires.before.each c.in-Some.interface (rw (← is) c.if-number-interfaces.true) in
    let small = size-small c.args.code.now c.in-Some.interface c.args.x in
    rw is (omega (arith, size, small, c.requires.few))

pub returns-then-number-interfaces : goal.returns-then-number-interfaces
returns-then-number-interfaces c =
    let own : interface_of (block_at c.args.code.now c.args.x) (kind_at c.args.code.now c.args.x) ≡ Some (c.in-Some.interface, c.in-Some.field-0-1) =
    rw (← c.block_at.ensures.value, ← c.kind_at.ensures.value) (sym c.of.ensures.value ∙ c.in-Some.is) in
    let is = c.number-number.ensures.value in
    record {
      after = rw is (sizes-added c.args.code.now c.args.x c.args.interfaces c.args.sizes.now c.requires.before c.in-Some.interface c.in-Some.field-0-1 own
          (rw (← is) c.if-number-interfaces.true));
    }

pub returns-else-number-interfaces : goal.returns-else-number-interfaces
returns-else-number-interfaces c =
    let own : interface_of (block_at c.args.code.now c.args.x) (kind_at c.args.code.now c.args.x) ≡ Some (c.in-Some.interface, c.in-Some.field-0-1) =
    rw (← c.block_at.ensures.value, ← c.kind_at.ensures.value) (sym c.of.ensures.value ∙ c.in-Some.is) in
    let is = c.number-number.ensures.value in
    record {
      after = sizes-untold c.args.code.now c.args.x c.args.interfaces c.args.sizes.now c.requires.before c.in-Some.interface c.in-Some.field-0-1 own
          (rw (← is) c.if-number-interfaces.false);
    }

pub returns-in_default : goal.returns-in_default
returns-in_default c =
    let none : interface_of (block_at c.args.code.now c.args.x) (kind_at c.args.code.now c.args.x) ≡ None =
    rw (← c.block_at.ensures.value, ← c.kind_at.ensures.value) (sym c.of.ensures.value ∙ c.in_default.is) in
    record { after = sizes-same c.args.code.now c.args.x c.args.interfaces c.args.sizes.now c.requires.before (λ i l. ap (belongs_to i) none) }
