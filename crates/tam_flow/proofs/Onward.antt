-- What a later world keeps of an earlier one, the words of nodes included; and the words with which a node fires.
use Rattle.std.proofs.Common.{◌≡◌, ℕ, Bool, true, false, ◌==◌, List, [], ◌∷◌, map, flat_map, refl, sym, ap, ◌∙◌, inl, inr}
use Rattle.tam_graph.specs.declared.kind.Kind.{Kind}
use Rattle.tam_graph.specs.declared.kind.Kind.TheVariants.{Const, Op as Operate, Seq, Call, Arg, Give, Alloc, Fetch, Store, Cond, Switch, Leave}
use Rattle.tam_graph.specs.Graphs.{Graph, code_of, callee_of, operands_of, node_where, is_param, is_ret}
use Rattle.tam_msgs.specs.declared.message.Message.{Message}
use Rattle.tam_msgs.specs.declared.message.Message.TheVariants.{Word as Carry, Fetch as Ask_cell, Store as Put_cell}
use Rattle.tam_msgs.specs.Messages.{outside, site}
use Rattle.tam_world.specs.Worlds.{World, activation_at, its_code, word_of, words_of, has_entered, result_message, firing_of, fired_with, fired}
use Rattle.tam_flow.specs.Reached.{IsThere, kind_of}
use Rattle.tam_word.proofs.Members.{In}
use Rattle.tam_flow.proofs.FiringReasons.{HaveThese}

-- what a later world keeps of an earlier one
pub record Onward (w v : World) : Type 0 where
  pub there : (j : ℕ) → IsThere w j → IsThere v j
  pub code : (j : ℕ) → IsThere w j → (activation_at v j).code ≡ (activation_at w j).code
  pub caller : (j : ℕ) → IsThere w j → (activation_at v j).caller ≡ (activation_at w j).caller
  pub call : (j : ℕ) → IsThere w j → (activation_at v j).call ≡ (activation_at w j).call
  pub words : (j y u : ℕ) → word_of w j y ≡ u ∷ [] → word_of v j y ≡ u ∷ []
  pub blocks : (j b : ℕ) → has_entered w j b ≡ true → has_entered v j b ≡ true

-- a world keeps what it has
pub onward-same : (w : World) → Onward w w
onward-same w = record {
  there = λ j t. t;
  code = λ j t. refl;
  caller = λ j t. refl;
  call = λ j t. refl;
  words = λ j y u h. h;
  blocks = λ j b h. h;
}

-- what a later world keeps, a world later still keeps
pub onward-on : (u v w : World) → Onward u v → Onward v w → Onward u w
onward-on u v w h k = record {
  there = λ j t. k.there j (h.there j t);
  code = λ j t. k.code j (h.there j t) ∙ h.code j t;
  caller = λ j t. k.caller j (h.there j t) ∙ h.caller j t;
  call = λ j t. k.call j (h.there j t) ∙ h.call j t;
  words = λ j y x e. k.words j y x (h.words j y x e);
  blocks = λ j b e. k.blocks j b (h.blocks j b e);
}

-- ---- words of operands

-- a node has one word only
pub word-one : (w : World) (i x u t : ℕ) → word_of w i x ≡ u ∷ [] → word_of w i x ≡ t ∷ [] → u ≡ t
word-one w i x u t h k = head (sym h ∙ k)
  where
    head : u ∷ [] ≡ t ∷ [] → u ≡ t
    head e = cc

-- and so nodes have one list of words only
pub have-one : (w : World) (i : ℕ) (xs us vs : List ℕ) → HaveThese w i xs us → HaveThese w i xs vs → us ≡ vs
have-one w i [] [] [] h k = refl
have-one w i [] [] (v ∷ vs) h k = absurd k
have-one w i [] (u ∷ us) vs h k = absurd h
have-one w i (x ∷ xs) [] vs h k = absurd h
have-one w i (x ∷ xs) (u ∷ us) [] h k = absurd k
have-one w i (x ∷ xs) (u ∷ us) (v ∷ vs) h k =
    ap (λ z. z ∷ us) (word-one w i x u v h.0 k.0) ∙ ap (λ l. v ∷ l) (have-one w i xs us vs h.1 k.1)

-- where each node has a word they have these
pub have-all : (w : World) (i : ℕ) (xs : List ℕ) → ((a : ℕ) → In a xs → (u : ℕ) × (word_of w i a ≡ u ∷ [])) → (vs : List ℕ) × HaveThese w i xs vs
have-all w i [] f = ([], tt)
have-all w i (x ∷ xs) f = let h = f x (inl-refl x xs) in let r = have-all w i xs (λ a m. f a (behind a x xs m)) in (h.0 ∷ r.0, (h.1, r.1))
  where
    inl-refl : (x : ℕ) (xs : List ℕ) → In x (x ∷ xs)
    inl-refl x xs = inl refl

    behind : (a x : ℕ) (xs : List ℕ) → In a xs → In a (x ∷ xs)
    behind a x xs m = inr m

-- these are the words of the nodes
pub have-words : (w : World) (i : ℕ) (xs vs : List ℕ) → HaveThese w i xs vs → words_of w i xs ≡ vs ∷ []
have-words w i [] [] h = refl
have-words w i [] (v ∷ vs) h = absurd h
have-words w i (x ∷ xs) [] h = absurd h
have-words w i (x ∷ xs) (v ∷ vs) h = go (have-words w i xs vs h.1)
  where
    go : words_of w i xs ≡ vs ∷ [] → words_of w i (x ∷ xs) ≡ (v ∷ vs) ∷ []
    go e =
        ap (λ l. flat_map (λ u. map (λ us. u ∷ us) (words_of w i xs)) l) h.0
        ∙ ap (λ l. flat_map (λ u. map (λ us. u ∷ us) l) (v ∷ [])) e

-- with them the node fires
pub fires-with : (g : Graph) (w : World) (i x : ℕ) (vs : List ℕ) → HaveThese w i (operands_of (its_code g w i) (kind_of g w i x)) vs
    → fired g w i x ≡ firing_of g w i x (kind_of g w i x) vs
fires-with g w i x vs h = ap (λ l. fired_with g w i x l) (have-words w i (operands_of (its_code g w i) (kind_of g w i x)) vs h)

module _ (w v : World) (on : Onward w v) where
  -- the words stay
  pub have-later : (i : ℕ) (xs vs : List ℕ) → HaveThese w i xs vs → HaveThese v i xs vs
  have-later i [] [] h = tt
  have-later i [] (u ∷ us) h = absurd h
  have-later i (x ∷ xs) [] h = absurd h
  have-later i (x ∷ xs) (u ∷ us) h = (on.words i x u h.0, have-later i xs us h.1)

-- ---- what a firing sends, in a later world

-- where a result goes, by caller and call
abbrev result_to : Graph → World → ℕ → ℕ → ℕ → ℕ → List Message
result_to g w p x k u = map (λ y. Carry p y u) (node_where (its_code g w p) (is_ret x k))

-- the activation with its code, caller and call is in both worlds, and so is its caller, where that isn't the outside
pub record SameFrame (w v : World) (i : ℕ) : Type 0 where
  pub code : (activation_at v i).code ≡ (activation_at w i).code
  pub caller : (activation_at v i).caller ≡ (activation_at w i).caller
  pub call : (activation_at v i).call ≡ (activation_at w i).call
  pub caller_code : ((activation_at w i).caller == outside) ≡ false
      → (activation_at v (activation_at w i).caller).code ≡ (activation_at w (activation_at w i).caller).code

module _ (g : Graph) (w v : World) (i : ℕ) (same : SameFrame w v i) where
  -- a result goes where it went
  result-same : (k u : ℕ) → result_message g v i k u ≡ result_message g w i k u
  result-same k u = go ((activation_at w i).caller == outside) refl
    where
      there : (b : Bool) → ((activation_at w i).caller == outside) ≡ b → ((activation_at v i).caller == outside) ≡ b
      there b e = ap (λ q. q == outside) same.caller ∙ e

      go : (b : Bool) → ((activation_at w i).caller == outside) ≡ b → result_message g v i k u ≡ result_message g w i k u
      go true e = rw (result_message, there true e, e) refl
      go false e =
          rw (result_message, there false e, e)
          (ap (λ q. result_to g v q (activation_at v i).call k u) same.caller
          ∙ (ap (λ x. result_to g v (activation_at w i).caller x k u) same.call
          ∙ ap (λ n. map (λ y. Carry (activation_at w i).caller y u) (node_where (code_of g n) (is_ret (activation_at w i).call k))) (same.caller_code e)))

  -- and each message of a firing
  pub sends-same : (x : ℕ) (k : Kind) (vs : List ℕ) → (firing_of g v i x k vs).sends ≡ (firing_of g w i x k vs).sends
  sends-same x (Const u) [] = refl
  sends-same x (Operate o a b) (u ∷ t ∷ []) = refl
  sends-same x (Seq a b) (u ∷ t ∷ []) = refl
  sends-same x (Call c) [] = refl
  sends-same x (Arg f k a) (u ∷ p ∷ []) = ap (λ n. map (λ y. Carry p y u) (node_where (code_of g (callee_of (code_of g n) f)) (is_param k))) same.code
  sends-same x (Give k a) (u ∷ []) = result-same k u
  sends-same x (Alloc n) (u ∷ []) = refl
  sends-same x (Fetch a j) (u ∷ t ∷ []) = ap (λ n. Ask_cell u t i x (site n x) ∷ []) same.code
  sends-same x (Store a j b) (t ∷ u ∷ z ∷ []) = ap (λ n. Put_cell t u z (site n x) ∷ []) same.code
  sends-same x (Cond p y n) (u ∷ []) = refl
  sends-same x (Switch d k a) (u ∷ t ∷ []) = refl
  sends-same x (Leave k a) (u ∷ []) = refl
  sends-same x k vs = refl
