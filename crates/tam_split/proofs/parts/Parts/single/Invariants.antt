use Rattle.std.proofs.Common.{◌≡◌}
use Rattle.tam_word.specs.Lists.{below}
use Rattle.tam_split.specs.Partitions.{single}
use Rattle.tam_split.specs.KeptParts.{ends_from}
use Rattle.tam_split.proofs.parts.Parts.single.Given as goal

-- the classes of the places so far, as they are stored
abbrev pub invariant-loop-place : goal.invariant-loop-place
invariant-loop-place l = record { places : l.places.items ≡ below l.place; ends : l.ends.items ≡ ends_from 0 (single l.place) }
