use Rattle.std.proofs.Common.{◌∙◌, ap, arith}
use Rattle.std.proofs.lemmas.List.{get_or_read}
use Rattle.tl0_keep.specs.Compiled.{slot_of}
use Rattle.tl0_emit.specs.CodeParts.{CodeParts, its_code}
use Rattle.tl0_emit.proofs.TablesKept.{slots-long, slot-read}
use Rattle.tl0_emit.proofs.code_tables.CodeTables.slot.Goals as goal

pub index-requires : goal.index-requires
index-requires c =
    let l = rw (← c.self.view_is) at c.requires.in_range in
    let e = slots-long c.self.inside c.self.invariant in
    omega (arith, l, e, c.self.inside.slots.ok.0)

pub returns : goal.returns
returns c =
    let l = rw (← c.self.view_is) at c.requires.in_range in
    let e = slots-long c.self.inside c.self.invariant in
    record {
      value = get_or_read c.self.inside.slots.items c.args.node c.index.result.now (omega (arith, l, e)) c.index.ensures 0
          ∙ (slot-read c.self.inside c.self.invariant c.args.node (omega (arith, l))
          ∙ ap (λ (t : CodeParts). slot_of (its_code t) c.args.node) c.self.view_is);
    }
