-- The classes of a partition among one another: what a class leads to, what leads to it, and with which it may be made one.
use Rattle.std.specs.Prelude.{ℕ, Bool, true, false, ◌&&◌, not, ◌==◌, nat_lt, List, length}
use Rattle.tam_word.specs.Lists.{all_of}
use Rattle.tam_graph.specs.Edges.{reaches}
use Rattle.tam_split.specs.Blocks.{BlockGraph, vertex_at, places, dependences}
use Rattle.tam_split.specs.Partitions.{Parts, class_of, leads_to}
use Rattle.tam_sets.specs.Sets.{places_where, is_within}

-- class k leads to the class of an outlet
abbrev pub leads_to_outlet : BlockGraph → Parts → ℕ → ℕ → Bool
leads_to_outlet b ps k o = (vertex_at b o).outlet && leads_to b.edges ps k (class_of ps o)

-- where class k leads to an outlet, the outlet depends on the inlet
abbrev pub allows : BlockGraph → Parts → ℕ → ℕ → ℕ → Bool
allows b ps k i o = elim (leads_to_outlet b ps k o) [ true ↦ reaches b.edges i o | false ↦ true ]

-- the classes that class k leads to, itself among them
abbrev pub ahead_of : BlockGraph → Parts → ℕ → List ℕ
ahead_of b ps k = places_where (leads_to b.edges ps k)

-- the classes that lead to class k, itself among them
abbrev pub behind_of : BlockGraph → Parts → ℕ → List ℕ
behind_of b ps k = places_where (λ c. nat_lt c (length ps) && leads_to b.edges ps c k)

-- the inlets whose classes lead to class k
abbrev pub entering_of : BlockGraph → Parts → ℕ → List ℕ
entering_of b ps k = places_where (λ i. (vertex_at b i).inlet && leads_to b.edges ps (class_of ps i) k)

-- the inlets on which each outlet that class k leads to depends
abbrev pub allowed_of : BlockGraph → Parts → ℕ → List ℕ
allowed_of b ps k = places_where (λ i. (vertex_at b i).inlet && all_of (allows b ps k i) (places b))

-- the edge runs between two classes of which the second leads to the first
abbrev pub closes_cycle : BlockGraph → Parts → ℕ × ℕ → Bool
closes_cycle b ps e = not (class_of ps e.0 == class_of ps e.1) && leads_to b.edges ps (class_of ps e.1) (class_of ps e.0)

-- where the vertex is an outlet, it depends on the inlets whose classes lead to its class
abbrev pub keeps_outlet : BlockGraph → Parts → ℕ → Bool
keeps_outlet b ps o = elim (vertex_at b o).outlet [ true ↦ is_within (entering_of b ps (class_of ps o)) (dependences b o) | false ↦ true ]
