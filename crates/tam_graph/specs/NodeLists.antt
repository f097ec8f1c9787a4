-- How many nodes of a list are of a kind.
use Rattle.std.specs.Prelude.{ℕ, Bool, List, count_by}
use Rattle.tam_graph.specs.declared.node.Node.{Node}
use Rattle.tam_graph.specs.declared.kind.Kind.{Kind}

-- how many nodes are of a kind that passes
abbrev pub number_where : (Kind → Bool) → List Node → ℕ
number_where test nodes = count_by (λ n. test n.kind) nodes
