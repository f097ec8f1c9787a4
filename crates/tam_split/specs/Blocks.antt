-- The graph of one block: its vertices, its edges, the inlets on which a vertex depends and the outlets that demand it.
use Rattle.std.specs.Prelude.{ℕ, Bool, true, false, List, [], ◌∷◌, map, filter, flat_map, Option, Some, None, slice_get, length}
use Rattle.tam_word.specs.Lists.{below, placed_from, has}
use Rattle.tam_graph.specs.declared.kind.Kind.{Kind}
use Rattle.tam_split.specs.declared.vertex.Half.{Half}
use Rattle.tam_split.specs.declared.vertex.Half.TheVariants.{Whole, Ask, Answer}
use Rattle.tam_split.specs.declared.vertex.Vertex.{Vertex}
use Rattle.tam_graph.specs.Edges.{Edges, reaches}
use Rattle.tam_graph.specs.Graphs.{Code, kind_at, nodes_in, operands_of, is_split, is_inlet, is_outlet}

-- vertices, each at its place, and edges between places
pub record BlockGraph : Type 0 where
  pub vertices : List Vertex
  pub edges : Edges

-- the vertices of a node: what asks outside is cut into an ask and an answer
abbrev pub vertices_of : ℕ → Kind → List Vertex
vertices_of x k = elim (is_split k) [
  | true ↦ record { node = x; half = Ask; inlet = false; outlet = true } ∷ record { node = x; half = Answer; inlet = true; outlet = false } ∷ []
  | false ↦ record { node = x; half = Whole; inlet = is_inlet k; outlet = is_outlet k } ∷ []
]

-- an ask doesn't give its node's value
abbrev pub is_ask : Half → Bool
is_ask Ask = true
is_ask _ = false

-- an answer doesn't take its node's operands
abbrev pub is_answer : Half → Bool
is_answer Answer = true
is_answer _ = false

-- the nodes whose values a vertex takes
abbrev pub taken_by : Code → Vertex → List ℕ
taken_by c v = elim (is_answer v.half) [ true ↦ [] | false ↦ operands_of c (kind_at c v.node) ]

-- the first vertex gives a value that the second takes
abbrev pub feeds : Code → Vertex → Vertex → Bool
feeds c u v = elim (is_ask u.half) [ true ↦ false | false ↦ has (taken_by c v) u.node ]

-- the vertices of a block, by node, an ask before its answer
abbrev pub vertices_in : Code → ℕ → List Vertex
vertices_in c b = flat_map (λ x. vertices_of x (kind_at c x)) (nodes_in c b)

-- an edge runs from the vertex that gives an operand's value to the vertex that takes it
abbrev pub edges_from : Code → List (ℕ × Vertex) → ℕ × Vertex → Edges
edges_from c vs u = map (λ v. (u.0, v.0)) (filter (λ v. feeds c u.1 v.1) vs)

-- the edges among a list of vertices
abbrev pub edges_among : Code → List Vertex → Edges
edges_among c vs = flat_map (edges_from c (placed_from 0 vs)) (placed_from 0 vs)

-- the graph of block b of a code
abbrev pub block_graph : Code → ℕ → BlockGraph
block_graph c b = record { vertices = vertices_in c b; edges = edges_among c (vertices_in c b) }

-- what stands for a vertex that isn't there
abbrev pub or_vertex : Option Vertex → Vertex
or_vertex None = record { node = 0; half = Whole; inlet = false; outlet = false }
or_vertex (Some v) = v

-- the vertex at a place
abbrev pub vertex_at : BlockGraph → ℕ → Vertex
vertex_at b x = or_vertex (slice_get b.vertices x)

-- the places of a block
abbrev pub places : BlockGraph → List ℕ
places b = below (length b.vertices)

-- the places of its inlets
abbrev pub inlets_of : BlockGraph → List ℕ
inlets_of b = filter (λ x. (vertex_at b x).inlet) (places b)

-- the places of its outlets
abbrev pub outlets_of : BlockGraph → List ℕ
outlets_of b = filter (λ x. (vertex_at b x).outlet) (places b)

-- the inlets from which x can be reached
abbrev pub dependences : BlockGraph → ℕ → List ℕ
dependences b x = filter (λ i. reaches b.edges i x) (inlets_of b)

-- the outlets that can be reached from x
abbrev pub demands : BlockGraph → ℕ → List ℕ
demands b x = filter (λ o. reaches b.edges x o) (outlets_of b)
