use Rattle.std.proofs.Common.{◌≡◌, ◌∙◌, ◌+◌, ◌-◌, length, slice_index, ap, arith}
use Rattle.std.proofs.lemmas.List.{get_or_read}
use Rattle.tl0_keep.specs.Compiled.{number_of_classes}
use Rattle.tl0_emit.specs.CodeParts.{PartedCode}
use Rattle.tl0_emit.proofs.TablesKept.{starts-long, start-read, connector-first}
use Rattle.tl0_emit.proofs.code_blocks.CodeBlocks.first_connector.Goals as goal

pub returns-clause-value : goal.returns-clause-value
returns-clause-value c =
    let starts = c.self.inside.starts.items in
    let owners = length c.self.inside.code.now.owners in
    let long = starts-long c.self.inside c.self.invariant in
    let last : c.len.result - 1 ≡ owners = omega (arith, c.len.ensures, long, c.self.inside.starts.ok.0) in
    get_or_read starts (c.len.result - 1) c.index.result.now (omega (arith, last, long)) c.index.ensures 0
    ∙ (ap (λ k. slice_index starts k) last
    ∙ (start-read c.self.inside c.self.invariant owners (omega arith)
    ∙ (connector-first c.self.inside c.self.invariant ∙ ap (λ (p : PartedCode). 1 + number_of_classes p.parts) c.self.view_is)))
