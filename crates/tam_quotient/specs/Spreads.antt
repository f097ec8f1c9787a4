-- What is reached by edges whose ends are renamed, as one edge after the other is looked at.
use Rattle.std.specs.Prelude.{ℕ, ◌<◌, true, false, List, map, length, slice_index, slice_index_or}
use Rattle.tam_word.specs.Lists.{has}
use Rattle.tam_graph.specs.Edges.{Edges}
use Rattle.tam_sets.specs.Sets.{joined}

-- the edges with the names of their ends
abbrev pub renamed : List ℕ → Edges → Edges
renamed names es = map (λ e. (slice_index names e.0, slice_index names e.1)) es

-- the ends of each edge have names, and the names are below n
pub record AreBelow (n : ℕ) (es : Edges) (names : List ℕ) : Type 0 where
  pub ends : (i : ℕ) → i < length es → ((slice_index_or es i (0, 0)).0 < length names) × ((slice_index_or es i (0, 0)).1 < length names)
  pub names_below : (x : ℕ) → x < length names → slice_index names x < n

-- a set that has the start of an edge, with what the edge's end reaches
abbrev pub grown : ℕ → List ℕ → List ℕ → List ℕ
grown from further set = elim (has set from) [ true ↦ joined set further | false ↦ set ]
