use Rattle.std.proofs.Common.{◌≡◌, length}
use Rattle.std.specs.List.{find}
use Rattle.std.specs.Str.{bytes_eq}
use Rattle.tam_words.specs.Names.{mode_name}
use Rattle.tam_words.proofs.mode.find_mode.Given as goal

abbrev pub invariant-loop-rest : goal.invariant-loop-rest
invariant-loop-rest l = find (λ mode. bytes_eq l.word (mode_name mode)) l.rest ≡ find (λ mode. bytes_eq l.word (mode_name mode)) l.modes

abbrev pub decreases-loop-rest : goal.decreases-loop-rest
decreases-loop-rest l = length l.rest
