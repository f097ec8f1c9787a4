-- What was counted and what is left make the whole.
use Rattle.std.proofs.Common.{◌≡◌, ◌+◌, length}
use Rattle.std.specs.List.{sum_by}
use Rattle.rv_keep.specs.Image.{record_words}
use Rattle.rv_gen.proofs.lengths.records_words.Given as goal

abbrev pub invariant-loop-rest : goal.invariant-loop-rest
invariant-loop-rest l = l.words + sum_by record_words l.rest ≡ sum_by record_words l.fn.codes

abbrev pub decreases-loop-rest : goal.decreases-loop-rest
decreases-loop-rest l = length l.rest
