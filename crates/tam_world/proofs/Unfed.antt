-- What a firing does, by the words of the operands.
use Rattle.std.proofs.Common.{◌≡◌, ◌≢◌, ◌∙◌, ℕ, ◌==◌, false, List, [], ◌∷◌, map, sym, ap, refl}
use Rattle.std.specs.Prelude.{None, slice_get}
use Rattle.tam_word.proofs.Tests.{differs-number}
use Rattle.tam_msgs.specs.Messages.{outside}
use Rattle.tam_msgs.specs.declared.message.Message.TheVariants.{Word as Carry}
use Rattle.tam_graph.specs.declared.kind.Kind.{Kind}
use Rattle.tam_graph.specs.Graphs.{Graph, or_kind, kind_at, operands_of, node_where, is_ret}
use Rattle.tam_world.specs.Worlds.{World, its_code, activation_at, words_of, fired, fired_with, result_message, changes}
use Rattle.tam_world.specs.Effects.{effect_with, fired_as}

-- where an operand has no word, nothing is done
pub unfed : (g : Graph) (w : World) (i x : ℕ) (kind : Kind) → [] ≡ words_of w i (operands_of (its_code g w i) kind) → changes w ≡ fired_as g w i x kind
unfed g w i x kind none = ap (effect_with g w i x kind) none

-- what a vertex does is what its kind says
pub fired-as : (g : Graph) (w : World) (i x : ℕ) → fired_as g w i x (kind_at (its_code g w i) x) ≡ fired g w i x
fired-as g w i x = go (words_of w i (operands_of (its_code g w i) (kind_at (its_code g w i) x)))
  where
    go : (ws : List (List ℕ)) → effect_with g w i x (kind_at (its_code g w i) x) ws ≡ fired_with g w i x ws
    go [] = refl
    go (vs ∷ more) = refl

-- a result that goes to the call that began the activation
pub message-inside : (g : Graph) (w : World) (i k v frame : ℕ) (inlets : List ℕ) → frame ≡ (activation_at w i).caller → frame ≢ outside
    → inlets ≡ node_where (its_code g w frame) (is_ret (activation_at w i).call k) → map (λ x. Carry frame x v) inlets ≡ result_message g w i k v
message-inside g w i k v frame inlets is inside found =
    let test : ((activation_at w i).caller == outside) ≡ false = differs-number (activation_at w i).caller outside (λ e. inside (is ∙ e)) in
    rw (result_message, test, found, is) refl

-- nothing is done where there is no such node
pub fired-nowhere : (g : Graph) (w : World) (i x : ℕ) → slice_get (its_code g w i).nodes x ≡ None → changes w ≡ fired g w i x
fired-nowhere g w i x none = ap (λ (k : Kind). fired_as g w i x k) (sym (ap or_kind none)) ∙ fired-as g w i x
