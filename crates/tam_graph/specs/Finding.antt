-- Names of nodes and of codes, as they are looked up.
use Rattle.std.specs.Prelude.{ℕ, Bool, false, List, Option, Some, None, slice_get}
use Rattle.tam_word.specs.Lists.{same_bytes}
use Rattle.tam_graph.specs.declared.node.Node.{Node}
use Rattle.tam_graph.specs.Graphs.{Code}

-- the name is this one
abbrev pub is_the_name : List ℕ → Option (List ℕ) → Bool
is_the_name name None = false
is_the_name name (Some own) = same_bytes name own

-- the node has this name
abbrev pub is_called : List ℕ → Node → Bool
is_called name n = is_the_name name n.name

-- the name of a node, where there is a node and it has one
abbrev pub name_of : Option Node → Option (List ℕ)
name_of None = None
name_of (Some n) = n.name

-- the name of node x of a code, where there is such a node and it has one
abbrev pub name_at : Code → ℕ → Option (List ℕ)
name_at c x = name_of (slice_get c.nodes x)
