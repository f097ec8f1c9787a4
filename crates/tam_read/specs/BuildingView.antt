-- What is built so far, without where it lies: the innermost block is the last in a vector, and the first in a list.
use Rattle.std.specs.Prelude.{reverse}
use Rattle.tam_read.specs.declared.building.Building.{Building}
use Rattle.tam_read.specs.Building.{Built}

-- what is built so far
abbrev pub built_so_far : Building → Built
built_so_far b = record { nodes = b.nodes.items; owners = b.owners.items; within = reverse b.within.items }
