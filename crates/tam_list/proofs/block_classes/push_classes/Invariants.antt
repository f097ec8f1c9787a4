use Rattle.std.proofs.Common.{◌≡◌, ◌++◌, flat_map, take}
use Rattle.tam_split.specs.Partitions.{partition_of}
use Rattle.tam_list.specs.Listings.{class_line}
use Rattle.tam_list.proofs.block_classes.push_classes.Given as goal

abbrev pub invariant-loop-class : goal.invariant-loop-class
invariant-loop-class l = l.text.items ≡ l.fn.text.items ++ flat_map (class_line l.block) (take l.class (partition_of l.block))
