use Rattle.std.proofs.Common.{◌≡◌, ◌∙◌, arith}
use Rattle.std.proofs.lemmas.List.{get_or_read}
use Rattle.tl0_emit.specs.BlockTables.{first_thread}
use Rattle.tl0_emit.proofs.TablesKept.{starts-long, start-read, start-few}
use Rattle.tl0_emit.proofs.code_blocks.CodeBlocks.first_thread.Goals as goal

pub index-requires : goal.index-requires
index-requires c =
    let l = rw (← c.self.view_is) at c.requires.in_range in
    let e = starts-long c.self.inside c.self.invariant in
    omega (arith, l, e, c.self.inside.starts.ok.0)

pub returns-clause-value : goal.returns-clause-value
returns-clause-value c =
    let l = rw (← c.self.view_is) at c.requires.in_range in
    let e = starts-long c.self.inside c.self.invariant in
    rw (← c.self.view_is) (get_or_read c.self.inside.starts.items c.args.block c.index.result.now (omega (arith, l, e)) c.index.ensures 0
    ∙ start-read c.self.inside c.self.invariant c.args.block (omega (arith, l)))

pub returns-clause-few : goal.returns-clause-few
returns-clause-few c =
    let l = rw (← c.self.view_is) at c.requires.in_range in
    let e = starts-long c.self.inside c.self.invariant in
    let value : c.index.result.now ≡ first_thread c.self.inside.parts.now c.args.block =
    get_or_read c.self.inside.starts.items c.args.block c.index.result.now (omega (arith, l, e)) c.index.ensures 0
    ∙ start-read c.self.inside c.self.invariant c.args.block (omega (arith, l)) in
    let f = start-few c.self.inside c.self.invariant c.args.block l in
    rw (← c.self.view_is) (omega (arith, value, f))
