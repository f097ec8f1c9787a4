-- What feeds a node within its block, ranks that rise along it, and what a node reaches by it.
-- The rule in words: docs/FORMATS.md, "Which graphs are accepted".
use Rattle.std.specs.Prelude.{ℕ, zero, suc, ◌≡◌, ◌<◌, ◌+◌, Bool, true, false, not, ◌&&◌, ◌||◌, ◌==◌, nat_lt, List, [], ◌∷◌, Option, Some, None}
use Rattle.std.specs.Prelude.{slice_get, length}
use Rattle.tam_word.specs.Lists.{any_of, all_of}
use Rattle.tam_graph.specs.Graphs.{Code, kind_at, block_at, node_numbers, operands_of, is_split, one_or_none}
use Rattle.tam_graph.specs.Edges.{Edges, reaches, reaches_itself}
use Rattle.tam_graph.specs.Accepted.{value_edges, on_cycle}
use Rattle.tam_check.specs.declared.sources.Sources.{Sources}

-- the nodes whose values go into a node's own; none where what it gives comes from outside the block
abbrev pub sources_of : Code → ℕ → List ℕ
sources_of c x = elim (is_split (kind_at c x)) [ true ↦ [] | false ↦ operands_of c (kind_at c x) ]

-- a node that may be there, before others
abbrev pub and_more : Option ℕ → List ℕ → List ℕ
and_more None xs = xs
and_more (Some x) xs = x ∷ xs

-- up to three nodes as a list
abbrev pub listed : Sources → List ℕ
listed s = and_more s.first (and_more s.second (and_more s.third []))

-- the one of them at a place
abbrev pub source_at : Sources → ℕ → Option ℕ
source_at s zero = s.first
source_at s (suc zero) = s.second
source_at s (suc (suc zero)) = s.third
source_at s _ = None

-- ---- ranks

-- a rank that is there
abbrev pub or_zero : Option ℕ → ℕ
or_zero None = 0
or_zero (Some n) = n

-- the rank of a node
abbrev pub rank_of : List ℕ → ℕ → ℕ
rank_of ranks x = or_zero (slice_get ranks x)

-- each source of the node has a lower rank
abbrev pub rises_to : Code → List ℕ → ℕ → Bool
rises_to c ranks x = all_of (λ a. nat_lt (rank_of ranks a) (rank_of ranks x)) (sources_of c x)

-- and so for each node
abbrev pub rises : Code → List ℕ → Bool
rises c ranks = all_of (rises_to c ranks) (node_numbers c)

-- ---- marks

-- a mark that is there
abbrev pub or_unmarked : Option Bool → Bool
or_unmarked None = false
or_unmarked (Some m) = m

-- the node is marked
abbrev pub is_marked : List Bool → ℕ → Bool
is_marked marks x = or_unmarked (slice_get marks x)

-- how many marks are missing
abbrev pub unmarked : List Bool → ℕ
unmarked [] = 0
unmarked (true ∷ ms) = unmarked ms
unmarked (false ∷ ms) = 1 + unmarked ms

-- a source of the node is marked or is where one began
abbrev pub takes_marked : Code → ℕ → List Bool → ℕ → Bool
takes_marked c from marks y = any_of (λ a. (a == from) || is_marked marks a) (sources_of c y)

-- the node of the block isn't marked, though a source of it is
abbrev pub is_new : Code → ℕ → ℕ → List Bool → ℕ → Bool
is_new c b from marks y = not (is_marked marks y) && ((block_at c y == b) && takes_marked c from marks y)

-- by one edge or more from x to y
abbrev pub goes : Edges → ℕ → ℕ → Bool
goes es x y = any_of (λ e. (e.0 == x) && reaches es e.1 y) es

-- one goes to each marked node within the block
abbrev pub AreReached : Code → ℕ → ℕ → List Bool → Type 0
AreReached c b from marks = (y : ℕ) → is_marked marks y ≡ true → goes (value_edges c b) from y ≡ true

-- what takes a marked value within the block is marked
abbrev pub AreClosed : Code → ℕ → ℕ → List Bool → Type 0
AreClosed c b from marks = (y : ℕ) → y < length c.nodes → block_at c y ≡ b → takes_marked c from marks y ≡ true → is_marked marks y ≡ true

-- the node stands in the block and reaches itself
abbrev pub is_on_cycle : Code → ℕ → ℕ → Bool
is_on_cycle c b x = (block_at c x == b) && reaches_itself (value_edges c b) x

-- for each block the least node that reaches itself
abbrev pub AreCycles : Code → List (Option ℕ) → Type 0
AreCycles c cycles = (b : ℕ) → one_or_none (slice_get cycles b) ≡ on_cycle c b
