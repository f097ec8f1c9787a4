use Rattle.std.proofs.Common.{◌∙◌, ap₂, sym, refl, inl}
use Rattle.tam_graph.specs.Graphs.{code_of, kind_at}
use Rattle.tl0_emit.proofs.InstrFacts.{operand-there}
use Rattle.tl0_emit.proofs.code_tables.CodeTables.push_vertex.Goals as goal

pub push_leaving-requires : goal.push_leaving-requires
push_leaving-requires c =
    let kind = c.kind_at-kind.ensures.value ∙ ap₂ (λ g n. kind_at (code_of g n) c.args.vertex.node) c.graph.ensures.value c.number.ensures.value in
    record {
      in_range = operand-there c.args.self.now c.graph.ensures.code c.args.vertex.node c.in-Leave.a _ c.requires.in_range (sym kind ∙ c.in-Leave.is) (inl refl);
    }
