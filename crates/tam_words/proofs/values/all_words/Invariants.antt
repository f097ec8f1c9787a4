use Rattle.std.proofs.Common.{◌≡◌, map, length}
use Rattle.std.specs.Io.KnownBytes.{prepend_known}
use Rattle.tam_words.specs.Options.{all_words}
use Rattle.tam_words.proofs.values.all_words.Given as goal

abbrev pub invariant-loop-rest : goal.invariant-loop-rest
invariant-loop-rest l = prepend_known l.words.items (all_words (map (λ text. text.now) l.rest)) ≡ all_words (map (λ text. text.now) l.texts)

abbrev pub decreases-loop-rest : goal.decreases-loop-rest
decreases-loop-rest l = length l.rest
