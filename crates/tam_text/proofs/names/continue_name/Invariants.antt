use Rattle.std.proofs.Common.{◌≡◌, length}
use Rattle.tam_word.specs.Lists.{all_of}
use Rattle.tam_text.specs.Names.{continues_name}
use Rattle.tam_text.proofs.names.continue_name.Given as goal

abbrev pub invariant-loop-rest : goal.invariant-loop-rest
invariant-loop-rest l = all_of continues_name l.rest ≡ all_of continues_name l.bytes

abbrev pub decreases-loop-rest : goal.decreases-loop-rest
decreases-loop-rest l = length l.rest
