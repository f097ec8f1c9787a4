use Rattle.std.proofs.Common.{◌∙◌, ap, arith}
use Rattle.std.proofs.lemmas.List.{get_or_read}
use Rattle.tl0_keep.specs.Compiled.{inlet_of}
use Rattle.tl0_emit.specs.CodeParts.{CodeParts, its_code}
use Rattle.tl0_emit.proofs.TablesKept.{inlets-long, inlet-read}
use Rattle.tl0_emit.proofs.code_tables.CodeTables.inlet.Goals as goal

pub index-requires : goal.index-requires
index-requires c =
    let l = rw (← c.self.view_is) at c.requires.in_range in
    let e = inlets-long c.self.inside c.self.invariant in
    omega (arith, l, e, c.self.inside.inlets.ok.0)

pub returns : goal.returns
returns c =
    let l = rw (← c.self.view_is) at c.requires.in_range in
    let e = inlets-long c.self.inside c.self.invariant in
    record {
      value = get_or_read c.self.inside.inlets.items c.args.node c.index.result.now (omega (arith, l, e)) c.index.ensures 0
          ∙ (inlet-read c.self.inside c.self.invariant c.args.node l
          ∙ ap (λ (t : CodeParts). inlet_of t.graph (its_code t) c.args.node) c.self.view_is);
    }
