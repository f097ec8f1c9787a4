use Rattle.std.proofs.Common.{◌∙◌, ap, arith}
use Rattle.std.proofs.lemmas.List.{get_or_read}
use Rattle.tl0_keep.specs.Compiled.{thread_of_inlet}
use Rattle.tl0_emit.specs.CodeParts.{CodeParts, its_code}
use Rattle.tl0_emit.proofs.TablesKept.{inlet_threads-long, inlet_thread-read}
use Rattle.tl0_emit.proofs.code_tables.CodeTables.inlet_thread.Goals as goal

pub index-requires : goal.index-requires
index-requires c =
    let l = rw (← c.self.view_is) at c.requires.in_range in
    let e = inlet_threads-long c.self.inside c.self.invariant in
    omega (arith, l, e, c.self.inside.inlet_threads.ok.0)

pub returns : goal.returns
returns c =
    let l = rw (← c.self.view_is) at c.requires.in_range in
    let h = rw (← c.self.view_is) at c.requires.inlet in
    let e = inlet_threads-long c.self.inside c.self.invariant in
    record {
      value = get_or_read c.self.inside.inlet_threads.items c.args.node c.index.result.now (omega (arith, l, e)) c.index.ensures 0
          ∙ (inlet_thread-read c.self.inside c.self.invariant c.args.node l h
          ∙ ap (λ (t : CodeParts). thread_of_inlet (its_code t) t.parts c.args.node) c.self.view_is);
    }
