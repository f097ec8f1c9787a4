use Rattle.std.proofs.Common.{◌∙◌, ap₂, refl, inl, inr, arith}
use Rattle.tam_graph.specs.Graphs.{code_of, test_of}
use Rattle.tl0_emit.specs.CodeParts.{its_code}
use Rattle.tl0_emit.proofs.InstrFacts.{operand-there}
use Rattle.tl0_emit.proofs.code_tables.CodeTables.instr_of.Goals as goal

pub slot-requires-in-Op-2 : goal.slot-requires-in-Op-2
slot-requires-in-Op-2 c = record {
  in_range = operand-there c.args.self.now c.requires.code c.args.x c.in-Op.a _ c.requires.in_range (c.requires.kind ∙ c.in-Op.is) (inl refl);
}

pub slot-requires-in-Op-3 : goal.slot-requires-in-Op-3
slot-requires-in-Op-3 c = record {
  in_range = operand-there c.args.self.now c.requires.code c.args.x c.in-Op.b _ c.requires.in_range (c.requires.kind ∙ c.in-Op.is) (inr (inl refl));
}

pub slot-requires-in-Seq-2 : goal.slot-requires-in-Seq-2
slot-requires-in-Seq-2 c = record {
  in_range = operand-there c.args.self.now c.requires.code c.args.x c.in-Seq.a _ c.requires.in_range (c.requires.kind ∙ c.in-Seq.is) (inl refl);
}

pub slot-requires-in-Arg : goal.slot-requires-in-Arg
slot-requires-in-Arg c = record {
  in_range = operand-there c.args.self.now c.requires.code c.args.x c.in-Arg.call _ c.requires.in_range (c.requires.kind ∙ c.in-Arg.is) (inr (inl refl));
}

pub slot-requires-in-Arg-2 : goal.slot-requires-in-Arg-2
slot-requires-in-Arg-2 c = record {
  in_range = operand-there c.args.self.now c.requires.code c.args.x c.in-Arg.a _ c.requires.in_range (c.requires.kind ∙ c.in-Arg.is) (inl refl);
}

pub slot-requires-in-Give : goal.slot-requires-in-Give
slot-requires-in-Give c = record {
  in_range = operand-there c.args.self.now c.requires.code c.args.x c.in-Give.a _ c.requires.in_range (c.requires.kind ∙ c.in-Give.is) (inl refl);
}

pub slot-requires-in-Store : goal.slot-requires-in-Store
slot-requires-in-Store c = record {
  in_range = operand-there c.args.self.now c.requires.code c.args.x c.in-Store.array _ c.requires.in_range (c.requires.kind ∙ c.in-Store.is) (inl refl);
}

pub slot-requires-in-Store-2 : goal.slot-requires-in-Store-2
slot-requires-in-Store-2 c = record {
  in_range = operand-there c.args.self.now c.requires.code c.args.x c.in-Store.index _ c.requires.in_range (c.requires.kind ∙ c.in-Store.is) (inr (inl refl));
}

pub slot-requires-in-Store-3 : goal.slot-requires-in-Store-3
slot-requires-in-Store-3 c = record {
  in_range = operand-there c.args.self.now c.requires.code c.args.x c.in-Store.a _ c.requires.in_range (c.requires.kind ∙ c.in-Store.is) (inr (inr (inl refl)));
}

pub switch_on-requires-clause-test : goal.switch_on-requires-clause-test
switch_on-requires-clause-test c =
    operand-there c.args.self.now c.requires.code c.args.x c.in-Cond.test _ c.requires.in_range (c.requires.kind ∙ c.in-Cond.is) (inl refl)

pub switch_on-requires-in-Switch-clause-test : goal.switch_on-requires-in-Switch-clause-test
switch_on-requires-in-Switch-clause-test c =
    let there = operand-there c.args.self.now c.requires.code c.args.x (test_of (its_code c.args.self.now) c.in-Switch.cond) _ c.requires.in_range
    (c.requires.kind ∙ c.in-Switch.is) (inl refl) in
    let value = c.test_of.ensures.value ∙ ap₂ (λ g n. test_of (code_of g n) c.in-Switch.cond) c.graph.ensures.value c.number.ensures.value in
    omega (arith, value, there)
