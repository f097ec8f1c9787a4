-- The nodes that an event may make ready: those that take a node's word, and those of a block; and the inlets of a block.
use Rattle.std.specs.Prelude.{ℕ, Bool, true, false, ◌&&◌, List, [], ◌∷◌, filter}
use Rattle.tam_word.specs.Lists.{has}
use Rattle.tam_graph.specs.Graphs.{Code, Graph, kind_at, operands_of, fires, is_inlet, node_numbers, nodes_in}
use Rattle.tam_world.specs.Worlds.{World, its_code, has_word, has_entered}

-- the nodes that fire and have node y among their operands, rising, each once
abbrev pub takers_of : Code → ℕ → List ℕ
takers_of c y = filter (λ x. fires (kind_at c x) && has (operands_of c (kind_at c x)) y) (node_numbers c)

-- the nodes of block b that fire, rising
abbrev pub firers_in : Code → ℕ → List ℕ
firers_in c b = filter (λ x. fires (kind_at c x)) (nodes_in c b)

-- the nodes of block b whose values come from outside it, rising
abbrev pub inlets_in : Code → ℕ → List ℕ
inlets_in c b = filter (λ x. is_inlet (kind_at c x)) (nodes_in c b)

-- the list is empty
abbrev pub is_none : List ℕ → Bool
is_none [] = true
is_none (x ∷ xs) = false

-- the nodes of a code's body that fire and take no word: they may fire as soon as an activation begins, rising
abbrev pub starters_of : Code → List ℕ
starters_of c = filter (λ x. is_none (operands_of c (kind_at c x))) (firers_in c 0)

-- the takers of a node of an activation that is about to get a word: none where it has one already
abbrev pub takers_now : Graph → World → ℕ → ℕ → List ℕ
takers_now g w i y = elim (has_word w i y) [ true ↦ [] | false ↦ takers_of (its_code g w i) y ]

-- the nodes that fire of a block that an activation is about to enter: none where it has entered it already
abbrev pub firers_now : Graph → World → ℕ → ℕ → List ℕ
firers_now g w i b = elim (has_entered w i b) [ true ↦ [] | false ↦ firers_in (its_code g w i) b ]
