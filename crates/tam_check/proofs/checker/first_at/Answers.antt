use Rattle.std.proofs.Common.{◌∙◌, sym}
use Rattle.tam_check.proofs.CycleLast.{first-cycle}
use Rattle.tam_check.proofs.checker.first_at.Goals as goal

pub returns-then-is_cycle : goal.returns-then-is_cycle
returns-then-is_cycle c =
    let kind = c.kind_at-kind.ensures.value in
    record {
      value = sym (first-cycle c.args.graph.now.graph.now c.args.n c.args.x c.args.tables.now.code.now c.requires.code
          (sym c.is_wrong_block.ensures.value ∙ c.if-is_wrong_block.false)
          (sym c.is_place_twice.ensures.value ∙ c.if-is_place_twice.false) (rw (← kind) (sym c.is_place_range.ensures.value ∙ c.if-is_place_range.false))
          (rw (← kind) (sym c.is_place_missing.ensures.value ∙ c.if-is_place_missing.false))
          (rw (← kind) (sym c.has_right_depth.ensures.value ∙ c.if-not-has_right_depth.false))
          (rw (← kind) (sym c.breaks_main.ensures.value ∙ c.if-breaks_main.false)) (sym c.is_cycle.ensures.value ∙ c.if-is_cycle.true));
    }
