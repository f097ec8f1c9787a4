-- Edges that all go to higher places: what a maker of a graph meets that numbers each vertex behind those that it takes from.
use Rattle.std.specs.Prelude.{ℕ, ◌<◌}
use Rattle.std.specs.List.{All}
use Rattle.tam_graph.specs.Edges.{Edges}

-- each edge goes to a higher place, and to one of the first n
abbrev pub RisingEdges : ℕ → Edges → Type 0
RisingEdges n edges = All (λ e. (e.0 < e.1) × (e.1 < n)) edges
