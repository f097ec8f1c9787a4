use Rattle.rv_gen.proofs.Counting.{all-few}
use Rattle.rv_gen.proofs.lengths.image_words.Goals as goal

pub words_in_all-requires : goal.words_in_all-requires
words_in_all-requires c = record { fits = rw c.program.ensures.value (all-few c.args.code.now c.program.ensures.checked) }
