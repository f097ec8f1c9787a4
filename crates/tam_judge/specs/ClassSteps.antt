-- The run of a class, place by place.
use Rattle.std.specs.Prelude.{ℕ, Bool, true, false, List}
use Rattle.tam_graph.specs.Graphs.{Graph}
use Rattle.tam_split.specs.Blocks.{BlockGraph, vertex_at}
use Rattle.tam_world.specs.Worlds.{World, Effect, changes, fired, has_word}
use Rattle.tam_flow.specs.Journals.{fire_each}

-- the place is no inlet, or its node has a word
abbrev pub is_fed : BlockGraph → World → ℕ → ℕ → Bool
is_fed b w i x = elim (vertex_at b x).inlet [ true ↦ has_word w i (vertex_at b x).node | false ↦ true ]

-- what a place of a class does
abbrev pub fired_at : Graph → BlockGraph → ℕ → ℕ → World → Effect
fired_at g b i x w = elim (vertex_at b x).inlet [ true ↦ changes w | false ↦ fired g w i (vertex_at b x).node ]

-- what the places do, one after another
abbrev pub all_fired : Graph → BlockGraph → ℕ → List ℕ → World → Effect
all_fired g b i xs w = fire_each g b i (changes w) xs
