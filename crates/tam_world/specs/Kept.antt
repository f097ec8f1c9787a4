-- What contracts see of the activations and the makers of arrays that the code keeps.
use Rattle.std.specs.Prelude.{ℕ, List, map}
use Rattle.tam_world.specs.Worlds.{ActivationState}
use Rattle.tam_world.specs.declared.activation.Activation.{Activation}
use Rattle.tam_world.specs.declared.node_at.NodeAt.{NodeAt}

-- an activation that the code keeps
abbrev pub activation_of : Activation → ActivationState
activation_of a = record { code = a.code; caller = a.caller; call = a.call; entered = a.entered.items; words = a.words.items }

-- the activations that the code keeps
abbrev pub activations_of : List Activation → List ActivationState
activations_of activations = map activation_of activations

-- a node of an activation as the pair of the two
abbrev pub pair_of : NodeAt → ℕ × ℕ
pair_of at = (at.activation, at.node)

-- several
abbrev pub pairs_of : List NodeAt → List (ℕ × ℕ)
pairs_of nodes = map pair_of nodes
