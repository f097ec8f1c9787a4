-- The word of an instruction in range is decoded to it.
use Rattle.std.proofs.Common.{◌∙◌, ap}
use Rattle.rv_inst.specs.Instructions.{decoded}
use Rattle.rv_inst.proofs.Candidates.{decodes-words}
use Rattle.rv_inst.proofs.encoder.encode.Goals as goal

pub returns-clause-decodes : goal.returns-clause-decodes
returns-clause-decodes c = ap decoded c.word_of.ensures.value ∙ decodes-words c.args.inst.now c.keep_ranges.ensures.in_range
