use Rattle.tl0_emit.specs.CodeParts.{its_code}
use Rattle.tl0_emit.proofs.StandingCounts.{IsFilled}
use Rattle.tl0_emit.proofs.code_tables.CodeTables.standing.Given as goal

abbrev pub invariant-loop-block : goal.invariant-loop-block
invariant-loop-block l = IsFilled (its_code l.self) l.self.parts l.counts.items l.block
