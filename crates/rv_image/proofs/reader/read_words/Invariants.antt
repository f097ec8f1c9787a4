-- The bytes of the words so far, and the rest behind them, are all bytes.
use Rattle.std.proofs.Common.{◌≡◌, ◌++◌, ◌%◌, length}
use Rattle.rv_inst.specs.Images.{bytes_of_words}
use Rattle.rv_image.proofs.reader.read_words.Given as goal

abbrev pub invariant-loop-rest : goal.invariant-loop-rest
invariant-loop-rest l = record { bytes : bytes_of_words l.words.items ++ l.rest ≡ l.fn.bytes; whole : length l.rest % 4 ≡ 0 }

abbrev pub decreases-loop-rest : goal.decreases-loop-rest
decreases-loop-rest l = length l.rest
