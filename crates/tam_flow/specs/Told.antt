-- What the state behind a journal tells, in the words of the firing rules.
use Rattle.std.specs.Prelude.{ℕ, zero, suc, ◌≡◌, ◌<◌, Bool, true, false, ◌&&◌, ◌==◌, List, [], ◌∷◌, ◌++◌, filter, Option, Some, None, slice_get, length, IsTrue}
use Rattle.std.specs.Prelude.{⊤}
use Rattle.tam_word.specs.Lists.{any_of}
use Rattle.tam_graph.specs.declared.kind.Kind.{Kind}
use Rattle.tam_graph.specs.declared.kind.Kind.TheVariants.{Call}
use Rattle.tam_graph.specs.Graphs.{Graph, kind_at, block_at, depth_at, operands_of, is_outlet}
use Rattle.tam_split.specs.Blocks.{BlockGraph, vertex_at, places}
use Rattle.tam_split.specs.Partitions.{class_of}
use Rattle.tam_split.specs.GraphPartitions.{Partitions}
use Rattle.tam_fire.specs.FiringRules.{Path, Value, Word, Activation, Array, Fact, Begun, Entered, Val, Fired}
use Rattle.tam_msgs.specs.Messages.{outside}
use Rattle.tam_world.specs.Worlds.{World, ActivationState, its_code, word_of, has_entered}
use Rattle.tam_flow.specs.Journals.{State, has_run, block_of_act, parts_of_act}

-- ---- numbers at run time stand for paths and for allocs

-- the root's path for an activation that isn't there
abbrev pub or_path : Option Path → Path
or_path None = []
or_path (Some q) = q

-- the path of each activation: its caller's with its call in front
abbrev pub paths_behind : List Path → List ActivationState → List Path
paths_behind known [] = known
paths_behind known (a ∷ more) = paths_behind (known ++ own a ∷ []) more
  where
    own : ActivationState → Path
    own b = elim (b.caller == outside) [ true ↦ [] | false ↦ b.call ∷ or_path (slice_get known b.caller) ]

-- the path of activation i
abbrev pub path_of : World → ℕ → Path
path_of w i = or_path (slice_get (paths_behind [] w.activations) i)

-- what stands for the maker of an array that isn't there
abbrev pub or_maker : Option (ℕ × ℕ) → ℕ × ℕ
or_maker None = (0, 0)
or_maker (Some m) = m

-- the array that a number names: the alloc that asked for it, in its activation
abbrev pub array_of : World → ℕ → Value
array_of w a = Array (path_of w (or_maker (slice_get w.makers a)).0) (or_maker (slice_get w.makers a)).1

-- what the word u of a node means, by what the node does and by its depth
abbrev pub meant_at : World → Kind → ℕ → ℕ → Value
meant_at w (Call c) d u = Activation (path_of w u)
meant_at w k zero u = Word u
meant_at w k (suc d) u = array_of w u

-- ---- facts

-- node x of activation i has a word that means the value
abbrev pub HasWord : Graph → World → ℕ → ℕ → Value → Type 0
HasWord g w i x v = (u : ℕ) × (word_of w i x ≡ u ∷ []) × (v ≡ meant_at w (kind_at (its_code g w i) x) (depth_at (its_code g w i) x) u)

-- the nodes have words that mean the values, in order
abbrev pub HaveWords : Graph → World → ℕ → List ℕ → List Value → Type 0
HaveWords g w i [] [] = ⊤
HaveWords g w i (x ∷ xs) (v ∷ vs) = HasWord g w i x v × HaveWords g w i xs vs
HaveWords g w i [] (v ∷ vs) = ⊥
HaveWords g w i (x ∷ xs) [] = ⊥

-- the place in its block of the outlet of node x, as a list of at most one
abbrev pub outlet_place : BlockGraph → ℕ → List ℕ
outlet_place b x = filter (λ y. (vertex_at b y).outlet && ((vertex_at b y).node == x)) (places b)

-- the class of the outlet of node x of activation i has run
abbrev pub outlet_ran : Graph → Partitions → State → ℕ → ℕ → Bool
outlet_ran g all s i x =
    let b = block_at (its_code g s.world i) x in
    any_of (λ y. has_run s i b (class_of (parts_of_act g all s i b) y)) (outlet_place (block_of_act g s i b) x)

-- the activation of the path is number i
abbrev pub IsNumber : World → Path → ℕ → Type 0
IsNumber w q i = (i < length w.activations) × (path_of w i ≡ q)

-- what the state tells: activations by their paths, arrays by their allocs
abbrev pub Tells : Graph → Partitions → State → Fact → Type 0
Tells g all s (Begun q) = (i : ℕ) × IsNumber s.world q i
Tells g all s (Entered q b) = (i : ℕ) × IsNumber s.world q i × IsTrue (has_entered s.world i b)
Tells g all s (Val q x v) = (i : ℕ) × IsNumber s.world q i × HasWord g s.world i x v
Tells g all s (Fired q x vs) =
    (i : ℕ) × IsNumber s.world q i × IsTrue (is_outlet (kind_at (its_code g s.world i) x)) × IsTrue (outlet_ran g all s i x)
    × HaveWords g s.world i (operands_of (its_code g s.world i) (kind_at (its_code g s.world i) x)) vs
