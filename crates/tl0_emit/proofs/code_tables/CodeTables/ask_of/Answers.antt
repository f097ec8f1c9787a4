use Rattle.std.proofs.Common.{◌∙◌, refl, inl, inr}
use Rattle.tl0_emit.proofs.InstrFacts.{operand-there}
use Rattle.tl0_emit.proofs.code_tables.CodeTables.ask_of.Goals as goal

pub slot-requires : goal.slot-requires
slot-requires c = record {
  in_range = operand-there c.args.self.now c.requires.code c.args.x c.in-Alloc.len _ c.requires.in_range (c.requires.kind ∙ c.in-Alloc.is) (inl refl);
}

pub slot-requires-in-Fetch : goal.slot-requires-in-Fetch
slot-requires-in-Fetch c = record {
  in_range = operand-there c.args.self.now c.requires.code c.args.x c.in-Fetch.array _ c.requires.in_range (c.requires.kind ∙ c.in-Fetch.is) (inl refl);
}

pub slot-requires-in-Fetch-2 : goal.slot-requires-in-Fetch-2
slot-requires-in-Fetch-2 c = record {
  in_range = operand-there c.args.self.now c.requires.code c.args.x c.in-Fetch.index _ c.requires.in_range (c.requires.kind ∙ c.in-Fetch.is) (inr (inl refl));
}
