-- Lists of partitions as the partitions of a graph.
use Rattle.std.specs.Prelude.{List, map}
use Rattle.std.specs.declared.vec.Vec.{Vec}
use Rattle.std.specs.declared.alloc.Global.{Global}
use Rattle.tam_split.specs.Partitions.{Parts}
use Rattle.tam_split.specs.GraphPartitions.{Partitions}

-- the partitions that lists of partitions are seen as, one list for each code
abbrev pub partitions_of : List (Vec Parts Global) → Partitions
partitions_of lists = map (λ list. list.items) lists
