-- Which classes of a partition come directly behind which, and which vertices of a block directly before which, as sets of places.
-- The rule in words: docs/ARCHITECTURE.md, "Why a block is cut as it is".
use Rattle.std.specs.Prelude.{ℕ, Bool, ◌&&◌, ◌==◌, not, List, [], slice_index_or}
use Rattle.tam_word.specs.Lists.{any_of, has}
use Rattle.tam_graph.specs.Edges.{Edges}
use Rattle.tam_split.specs.Partitions.{Parts, directly_before}
use Rattle.tam_sets.specs.Sets.{places_where, met, is_within}

-- the classes directly behind class k
abbrev pub behind_of : Edges → Parts → ℕ → List ℕ
behind_of es parts k = places_where (directly_before es parts k)

-- the places with an edge to place x
abbrev pub preceding_of : Edges → ℕ → List ℕ
preceding_of es x = places_where (λ y. any_of (λ e. (e.1 == x) && (y == e.0)) es)

-- the place isn't taken, but each member with an edge to it is; given for each place the places with an edge to it
abbrev pub is_free : List (List ℕ) → List ℕ → List ℕ → ℕ → Bool
is_free preceding members taken x = not (has taken x) && is_within (met (slice_index_or preceding x []) members) taken
