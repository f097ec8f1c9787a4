use Rattle.std.proofs.Common.{◌∙◌, ap₂}
use Rattle.tam_graph.specs.Graphs.{code_of, node_in, is_enter}
use Rattle.tl0_emit.specs.CodeParts.{its_code}
use Rattle.tl0_emit.proofs.InstrFacts.{enter-there}
use Rattle.tl0_emit.proofs.code_tables.CodeTables.push_entering.Goals as goal

pub push_gift-requires-clause-inlet : goal.push_gift-requires-clause-inlet
push_gift-requires-clause-inlet c =
    enter-there (its_code c.args.self.now) c.args.block c.args.place c.find_enter-enter.result (c.find_enter-enter.ensures.value
    ∙ ap₂ (λ g n. node_in (code_of g n) c.args.block (is_enter c.args.place)) c.program.ensures.value c.number.ensures.value)
