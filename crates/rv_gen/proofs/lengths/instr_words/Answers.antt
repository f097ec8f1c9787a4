use Rattle.rv_gen.proofs.lengths.instr_words.Goals as goal

pub returns-in-Op : goal.returns-in-Op
returns-in-Op c = record { value = rw c.in-Op.is (c.operator_words.ensures.value c.in-Op.d c.in-Op.a c.in-Op.b) }
