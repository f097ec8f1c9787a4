-- Who sent a wish, by what the wish says: a call for an activation, an alloc for an array, a fetch and a store for a cell, each with its operands' words.
use Rattle.std.proofs.Common.{◌≡◌, ℕ, Bool, true, false, ◌==◌, List, [], ◌∷◌, map, refl, sym, ◌∙◌, inl, inr, true≢false}
use Rattle.std.specs.List.{AllByRecursion}
use Rattle.tam_msgs.specs.declared.message.Message.{Message}
use Rattle.tam_msgs.specs.declared.message.Message.TheVariants.{Word as Carry, Frame as Begin, Cells as Make, Fetch as Ask_cell, Store as Put_cell}
use Rattle.tam_msgs.specs.Messages.{outside, site}
use Rattle.tam_graph.specs.declared.kind.Kind.{Kind}
use Rattle.tam_graph.specs.declared.kind.Kind.TheVariants.{Const, Op as Operate, Seq, Call, Arg, Give, Alloc, Fetch, Store, Cond, Switch, Leave}
use Rattle.tam_graph.specs.Graphs.{Graph, code_of, callee_of, node_where, is_param, is_ret}
use Rattle.tam_world.specs.Worlds.{World, activation_at, its_code, result_message, firing_of}
use Rattle.tam_word.proofs.Members.{In}
use Rattle.tam_word.proofs.Each.{each-in}
use Rattle.tam_flow.proofs.Senders.{asks, words-only}

-- the wish of node x of activation i, which does k with the words vs
pub data SentAs (w : World) (i x : ℕ) (k : Kind) (vs : List ℕ) (m : Message) : Type 0 where
  AsBegin : (c : ℕ) → k ≡ Call c → m ≡ Begin c i x → SentAs w i x k vs m
  AsMake : (a n : ℕ) → k ≡ Alloc a → vs ≡ n ∷ [] → m ≡ Make n i x → SentAs w i x k vs m
  AsAsk : (a j u v : ℕ) → k ≡ Fetch a j → vs ≡ u ∷ v ∷ [] → m ≡ Ask_cell u v i x (site (activation_at w i).code x) → SentAs w i x k vs m
  AsPut : (a j b t u v : ℕ) → k ≡ Store a j b → vs ≡ t ∷ u ∷ v ∷ [] → m ≡ Put_cell t u v (site (activation_at w i).code x) → SentAs w i x k vs m

module _ (g : Graph) (w : World) (i x : ℕ) (m : Message) (wish : asks m ≡ true) where
  -- a wish is none of words
  no-words : (k : Kind) (vs : List ℕ) (ms : List Message) → AllByRecursion (λ o. asks o ≡ false) ms → In m ms → SentAs w i x k vs m
  no-words k vs ms h a = absurd (true≢false (sym wish ∙ each-in (λ o. asks o ≡ false) ms m h a))

  -- results are words
  results-only : (k v : ℕ) → AllByRecursion (λ o. asks o ≡ false) (result_message g w i k v)
  results-only k v = go ((activation_at w i).caller == outside) refl
    where
      go : (b : Bool) → ((activation_at w i).caller == outside) ≡ b → AllByRecursion (λ o. asks o ≡ false) (result_message g w i k v)
      go true c = rw (result_message, c) (refl, tt)
      go false c = rw (result_message, c)
          (words-only (activation_at w i).caller v (node_where (its_code g w (activation_at w i).caller) (is_ret (activation_at w i).call k)))

  -- each wish of a firing is sent so
  pub sent-as : (k : Kind) (vs : List ℕ) → In m (firing_of g w i x k vs).sends → SentAs w i x k vs m
  sent-as (Const v) [] a = absurd a
  sent-as (Operate o l r) (u ∷ v ∷ []) a = absurd a
  sent-as (Seq l r) (u ∷ v ∷ []) a = absurd a
  sent-as (Call c) [] (inl e) = AsBegin c refl (sym e)
  sent-as (Call c) [] (inr e) = absurd e
  sent-as (Arg f k a) (v ∷ p ∷ []) h =
      no-words (Arg f k a) (v ∷ p ∷ []) (map (λ y. Carry p y v) (node_where (code_of g (callee_of (its_code g w i) f)) (is_param k)))
      (words-only p v (node_where (code_of g (callee_of (its_code g w i) f)) (is_param k))) h
  sent-as (Give k a) (v ∷ []) h = no-words (Give k a) (v ∷ []) (result_message g w i k v) (results-only k v) h
  sent-as (Alloc a) (n ∷ []) (inl e) = AsMake a n refl refl (sym e)
  sent-as (Alloc a) (n ∷ []) (inr e) = absurd e
  sent-as (Fetch a j) (u ∷ v ∷ []) (inl e) = AsAsk a j u v refl refl (sym e)
  sent-as (Fetch a j) (u ∷ v ∷ []) (inr e) = absurd e
  sent-as (Store a j b) (t ∷ u ∷ v ∷ []) (inl e) = AsPut a j b t u v refl refl (sym e)
  sent-as (Store a j b) (t ∷ u ∷ v ∷ []) (inr e) = absurd e
  sent-as (Cond p y n) (v ∷ []) a = absurd a
  sent-as (Switch d k a) (u ∷ v ∷ []) h = absurd h
  sent-as (Leave k a) (v ∷ []) h = absurd h
  sent-as k vs h = absurd h
