-- The nodes of each block of a code, as lists at the blocks' numbers.
use Rattle.std.specs.Prelude.{ℕ, ◌≡◌, List, [], Option, Some, None, slice_get}
use Rattle.std.specs.declared.vec.Vec.{Vec}
use Rattle.std.specs.declared.alloc.Global.{Global}
use Rattle.tam_graph.specs.Graphs.{Code, nodes_in}

-- the items of a vector, or none
abbrev pub items_or_none : Option (Vec ℕ Global) → List ℕ
items_or_none None = []
items_or_none (Some v) = v.items

-- the list at a place, none past the end
abbrev pub listed : List (Vec ℕ Global) → ℕ → List ℕ
listed lists b = items_or_none (slice_get lists b)

-- the list at each place is that of the nodes of the block
abbrev pub AreBlocks : Code → List (Vec ℕ Global) → Type 0
AreBlocks c lists = (b : ℕ) → listed lists b ≡ nodes_in c b
