-- Of the messages of a firing one at most is a wish.
use Rattle.std.proofs.Common.{ℕ, Bool, true, false, ◌==◌, ◌≡◌, List, [], ◌∷◌, map, refl}
use Rattle.tam_msgs.specs.declared.message.Message.TheVariants.{Word as Carry}
use Rattle.tam_msgs.specs.Messages.{outside}
use Rattle.tam_graph.specs.declared.kind.Kind.{Kind}
use Rattle.tam_graph.specs.declared.kind.Kind.TheVariants.{Const, Op as Operate, Seq, Call, Arg, Give, Alloc, Fetch, Store, Cond, Switch, Leave}
use Rattle.tam_graph.specs.Graphs.{Graph, code_of, callee_of, kind_at, operands_of, node_where, is_param, is_ret}
use Rattle.tam_world.specs.Worlds.{World, activation_at, its_code, words_of, result_message, firing_of, fired_with, fired}
use Rattle.tam_flow.proofs.Pairs.{Pairs}
use Rattle.tam_flow.proofs.Senders.{TagApart, tagged_with, words-only, words-apart}

module _ (g : Graph) (w : World) (i x : ℕ) where
  -- results are no wishes
  results-apart : (k v : ℕ) → Pairs TagApart (tagged_with i x (result_message g w i k v))
  results-apart k v = go ((activation_at w i).caller == outside) refl
    where
      go : (b : Bool) → ((activation_at w i).caller == outside) ≡ b → Pairs TagApart (tagged_with i x (result_message g w i k v))
      go true c = rw (result_message, c) (tt, tt)
      go false c =
          rw (result_message, c) (words-apart i x
          (map (λ y. Carry (activation_at w i).caller y v) (node_where (its_code g w (activation_at w i).caller) (is_ret (activation_at w i).call k)))
          (words-only (activation_at w i).caller v (node_where (its_code g w (activation_at w i).caller) (is_ret (activation_at w i).call k))))

  -- by what the node does
  firing-apart : (k : Kind) (vs : List ℕ) → Pairs TagApart (tagged_with i x (firing_of g w i x k vs).sends)
  firing-apart (Const v) [] = tt
  firing-apart (Operate o l r) (u ∷ v ∷ []) = tt
  firing-apart (Seq l r) (u ∷ v ∷ []) = tt
  firing-apart (Call c) [] = (tt, tt)
  firing-apart (Arg f k a) (v ∷ p ∷ []) =
      words-apart i x (map (λ y. Carry p y v) (node_where (code_of g (callee_of (its_code g w i) f)) (is_param k)))
      (words-only p v (node_where (code_of g (callee_of (its_code g w i) f)) (is_param k)))
  firing-apart (Give k a) (v ∷ []) = results-apart k v
  firing-apart (Alloc a) (n ∷ []) = (tt, tt)
  firing-apart (Fetch a j) (u ∷ v ∷ []) = (tt, tt)
  firing-apart (Store a j b) (t ∷ u ∷ v ∷ []) = (tt, tt)
  firing-apart (Cond p y n) (v ∷ []) = tt
  firing-apart (Switch d k a) (u ∷ v ∷ []) = tt
  firing-apart (Leave k a) (v ∷ []) = tt
  firing-apart k vs = tt

  -- whatever the node is
  pub fired-apart : Pairs TagApart (tagged_with i x (fired g w i x).sends)
  fired-apart = go (words_of w i (operands_of (its_code g w i) (kind_at (its_code g w i) x)))
    where
      go : (ws : List (List ℕ)) → Pairs TagApart (tagged_with i x (fired_with g w i x ws).sends)
      go [] = tt
      go (vs ∷ more) = firing-apart (kind_at (its_code g w i) x) vs
