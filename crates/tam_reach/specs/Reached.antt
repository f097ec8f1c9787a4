-- Sets of places spread over edges.
use Rattle.std.specs.Prelude.{ℕ, Bool, true, false, ◌&&◌, nat_lt, List, slice_get, length}
use Rattle.tam_word.specs.Lists.{has}
use Rattle.tam_sets.specs.Sets.{places_where, joined}
use Rattle.tam_split.specs.declared.vertex.Vertex.{Vertex}
use Rattle.tam_split.specs.Blocks.{or_vertex}

-- a set that has the place gets the members of another
abbrev pub spread_into : ℕ → List ℕ → List ℕ → List ℕ
spread_into place more set = elim (has set place) [ true ↦ joined set more | false ↦ set ]

-- the places of the vertices that pass a test
abbrev pub places_that : (Vertex → Bool) → List Vertex → List ℕ
places_that test vs = places_where (λ x. nat_lt x (length vs) && test (or_vertex (slice_get vs x)))
