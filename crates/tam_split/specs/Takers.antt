-- What the vertices of a block take, as it is kept for each: up to three nodes, the last named again where there are fewer.
use Rattle.std.specs.Prelude.{ℕ, ◌≡◌, List, [], ◌∷◌, map, filter, Option, Some, None}
use Rattle.tam_word.specs.Lists.{placed_from, has}
use Rattle.tam_graph.specs.Edges.{Edges}
use Rattle.tam_graph.specs.Graphs.{Code}
use Rattle.tam_split.specs.declared.vertex.Vertex.{Vertex}
use Rattle.tam_split.specs.Blocks.{taken_by}

-- no nodes where nothing is taken
abbrev pub or_nothing : Option (List ℕ) → List ℕ
or_nothing None = []
or_nothing (Some xs) = xs

-- the edges from a place to those whose vertices take the node's value
abbrev pub edges_to_takers : List (Option (List ℕ)) → ℕ → ℕ → Edges
edges_to_takers taken place node = map (λ v. (place, v.0)) (filter (λ v. has (or_nothing v.1) node) (placed_from 0 taken))

-- each vertex takes those nodes that are kept for it, and no other
abbrev pub TakeTheSame : Code → List Vertex → List (Option (List ℕ)) → Type 0
TakeTheSame c [] [] = Unit {0}
TakeTheSame c (v ∷ vs) (t ∷ ts) = ((x : ℕ) → has (or_nothing t) x ≡ has (taken_by c v) x) × TakeTheSame c vs ts
TakeTheSame c _ _ = ⊥
