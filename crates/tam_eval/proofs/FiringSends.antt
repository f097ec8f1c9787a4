-- What a firing sends is for inlets, or asks for one.
use Rattle.std.proofs.Common.{◌≡◌, ℕ, zero, suc, ◌<◌, Bool, true, false, ◌&&◌, List, [], ◌∷◌, refl, sym, subst, ap, inl, inr, ◌⊎◌, ◌∙◌, true≢false}
use Rattle.std.proofs.Common.{◌==◌, length, map, arith, nat_lt, Option, Some, None, slice_index_or, option_to_list}
use Rattle.tam_word.proofs.Tests.{eq-number, both-true}
use Rattle.tam_word.proofs.Members.{In, all-in, in-flat_map, in-map}
use Rattle.tam_graph.specs.declared.kind.Kind.{Kind}
use Rattle.tam_graph.specs.declared.kind.Kind.TheVariants.{Const, Op as Operate, Seq, Call, Arg, Give, Alloc, Fetch, Store, Cond, Switch, Leave}
use Rattle.tam_graph.specs.Graphs.{Graph, code_of, kind_at, operands_of, is_inlet, node_numbers}
use Rattle.tam_graph.specs.Graphs.{callee_of, callee_of_kind, node_where, is_param, is_ret}
use Rattle.tam_graph.specs.Written.{is_line, is_call_node, is_operand}
use Rattle.tam_graph.specs.Accepted.{IsAccepted}
use Rattle.tam_split.specs.GraphPartitions.{singles}
use Rattle.tam_split.proofs.Firers.{kind-there}
use Rattle.tam_msgs.specs.declared.message.Message.{Message}
use Rattle.tam_msgs.specs.declared.message.Message.TheVariants.{Word as Carry}
use Rattle.tam_msgs.specs.Messages.{outside}
use Rattle.tam_world.specs.Worlds.{World, activation_at, its_code, word_of, words_of, result_message, firing_of, fired_with, fired}
use Rattle.tam_flow.specs.Journals.{State}
use Rattle.tam_flow.specs.Reached.{IsThere, IsReached}
use Rattle.tam_flow.proofs.ActivationLists.{word_among}
use Rattle.tam_word.proofs.Tests.{below-test}
use Rattle.tam_flow.proofs.Moves.{Fits, param-where, ret-where}
use Rattle.tam_flow.proofs.Nodes.{call-operand}

-- ---- words of operands

-- a node has one word at most
one-word : (words : List (Option ℕ)) (x v : ℕ) → In v (word_among words x) → word_among words x ≡ v ∷ []
one-word words x v h = go (slice_index_or words x None) h
  where
    go : (o : Option ℕ) → In v (option_to_list o) → option_to_list o ≡ v ∷ []
    go None k = absurd k
    go (Some u) (inl e) = ap (λ y. y ∷ []) e
    go (Some u) (inr k) = absurd k

-- words of nodes are words of each
pub words-in : (w : World) (i x : ℕ) (xs vs : List ℕ) → In vs (words_of w i (x ∷ xs))
    → (v : ℕ) × ((us : List ℕ) × (v ∷ us ≡ vs) × (word_of w i x ≡ v ∷ []) × In us (words_of w i xs))
words-in w i x xs vs h =
    let r = in-flat_map (λ v. map (λ us. v ∷ us) (words_of w i xs)) vs (word_of w i x) h in
    let q = in-map (λ (us : List ℕ). r.0 ∷ us) vs (words_of w i xs) r.2 in
    (r.0, (q.0, q.2, one-word (activation_at w i).words x r.0 r.1, q.1))

-- the second of two operands
second-word : (w : World) (i x y u v : ℕ) → In (u ∷ v ∷ []) (words_of w i (x ∷ y ∷ [])) → word_of w i y ≡ v ∷ []
second-word w i x y u v h = go (words-in w i x (y ∷ []) (u ∷ v ∷ []) h)
  where
    last : (us : List ℕ) → us ≡ v ∷ [] → In us (words_of w i (y ∷ [])) → word_of w i y ≡ v ∷ []
    last us e m =
        let r = words-in w i y [] us m in
        let q : r.0 ∷ r.1.0 ≡ v ∷ [] = r.1.1 ∙ e in
        let p : r.0 ≡ v = cc in
        subst (λ z. word_of w i y ≡ z ∷ []) p r.1.2

    go : (a : ℕ) × ((us : List ℕ) × (a ∷ us ≡ u ∷ v ∷ []) × (word_of w i x ≡ a ∷ []) × In us (words_of w i (y ∷ []))) → word_of w i y ≡ v ∷ []
    go (a, (us, e, p, m)) = let q : us ≡ v ∷ [] = tail e in last us q m
      where
        tail : {c d : ℕ} {ks ls : List ℕ} → c ∷ ks ≡ d ∷ ls → ks ≡ ls
        tail f = cc

-- ---- an arg names a call

-- the line of a node of an accepted graph
pub line-at : (g : Graph) → IsAccepted g → (n x : ℕ) → n < length g.codes → In x (node_numbers (code_of g n))
    → is_line (length g.codes) (code_of g n) (kind_at (code_of g n) x) ≡ true
line-at g acc n x l m = all-in (λ (y : ℕ). is_line (length g.codes) (code_of g n) (kind_at (code_of g n) y)) (node_numbers (code_of g n))
    ((acc.written n (below-test n (length g.codes) l)).lines) x m

-- whether a node is an arg
abbrev is_arg_kind : Kind → Bool
is_arg_kind (Arg f k a) = true
is_arg_kind _ = false

-- an arg names a call
arg-call : (g : Graph) → IsAccepted g → (n x f k a : ℕ) → n < length g.codes → kind_at (code_of g n) x ≡ Arg f k a → (d : ℕ) ×
    (kind_at (code_of g n) f ≡ Call d)
arg-call g acc n x f k a l e =
    let h = line-at g acc n x l (kind-there (code_of g n) x is_arg_kind refl (ap is_arg_kind e)) in
    let p = both-true (is_call_node (code_of g n) f) (is_operand (code_of g n) a && nat_lt k 64) (rw e at h) in
    call-operand (code_of g n) f p.0

-- ---- what is sent fits

module _ (g : Graph) (acc : IsAccepted g) (args : List ℕ) (s : State) (reached : IsReached g (singles g) args s) (i x : ℕ) (there : IsThere s.world i) where
  -- an argument is for a param of the activation that the call began
  arg-fits : (f k a v p : ℕ) (m : Message) → kind_at (its_code g s.world i) x ≡ Arg f k a → In (v ∷ p ∷ []) (words_of s.world i (a ∷ f ∷ []))
      → In m (map (λ y. Carry p y v) (node_where (code_of g (callee_of (its_code g s.world i) f)) (is_param k))) → Fits g s.world m
  arg-fits f k a v p m e h n =
      let r = in-map (λ (y : ℕ). Carry p y v) m (node_where (code_of g (callee_of (its_code g s.world i) f)) (is_param k)) n in
      let c = arg-call g acc (activation_at s.world i).code x f k a (reached.activations.codes i there) e in
      let u = (reached.words.suit i f p (second-word s.world i a f v p h)).by_call c.0 c.1 in
      let d = reached.activations.calls p u.0 u.1 in
      let q : kind_at (its_code g s.world i) f ≡ Call (activation_at s.world p).code =
      subst (λ y. kind_at (its_code g s.world y) f ≡ Call (activation_at s.world p).code) u.2
      (subst (λ y. kind_at (its_code g s.world (activation_at s.world p).caller) y ≡ Call (activation_at s.world p).code) u.3 d) in
      let z : code_of g (callee_of (its_code g s.world i) f) ≡ its_code g s.world p = ap (λ y. code_of g (callee_of_kind y)) q in
      subst (Fits g s.world) r.2 (inr
      (u.1, subst (λ y. is_inlet (kind_at y r.0) ≡ true) z (param-where (code_of g (callee_of (its_code g s.world i) f)) k r.0 r.1)))

  -- a result is for a ret of the caller, or goes outside
  result-fits : (k v : ℕ) (m : Message) → In m (result_message g s.world i k v) → Fits g s.world m
  result-fits k v m h = go ((activation_at s.world i).caller == outside) refl
    where
      here : In m (Carry outside k v ∷ []) → Fits g s.world m
      here (inl e) = subst (Fits g s.world) e (inl refl)
      here (inr e) = absurd e

      first : (j : ℕ) → i ≡ j → (activation_at s.world i).caller ≡ outside ⊎ (0 < i)
      first zero e = inl (subst (λ z. (activation_at s.world z).caller ≡ outside) (sym e) reached.activations.root_outside)
      first (suc j) e = inr (omega arith)

      back : In m (map (λ y. Carry (activation_at s.world i).caller y v)
          (node_where (its_code g s.world (activation_at s.world i).caller) (is_ret (activation_at s.world i).call k)))
          → (activation_at s.world i).caller ≡ outside ⊎ (0 < i) → ((activation_at s.world i).caller == outside) ≡ false → Fits g s.world m
      back n (inl e) p = absurd (true≢false (sym (eq-number (activation_at s.world i).caller outside e) ∙ p))
      back n (inr l) p =
          let r = in-map (λ (y : ℕ). Carry (activation_at s.world i).caller y v) m
          (node_where (its_code g s.world (activation_at s.world i).caller) (is_ret (activation_at s.world i).call k)) n in
          let b : (activation_at s.world i).caller < i = reached.activations.callers i l there in
          let t : i < length s.world.activations = there in
          let d : (activation_at s.world i).caller < length s.world.activations = omega arith in
          subst (Fits g s.world) r.2 (inr (d, ret-where (its_code g s.world (activation_at s.world i).caller) (activation_at s.world i).call k r.0 r.1))

      go : (t : Bool) → ((activation_at s.world i).caller == outside) ≡ t → Fits g s.world m
      go true p = here (rw (result_message, p) at h)
      go false p = back (rw (result_message, p) at h) (first i refl) p

  -- what asks, asks for its own answer
  own-fits : (m q : Message) → Fits g s.world q → In m (q ∷ []) → Fits g s.world m
  own-fits m q f (inl e) = subst (Fits g s.world) e f
  own-fits m q f (inr e) = absurd e

  -- by what the node does
  firing-fits : (k : Kind) (vs : List ℕ) (m : Message) → kind_at (its_code g s.world i) x ≡ k → In vs
      (words_of s.world i (operands_of (its_code g s.world i) k))
      → In m (firing_of g s.world i x k vs).sends → Fits g s.world m
  firing-fits (Call c) [] m e h n = own-fits m _ (there, ap is_inlet e) n
  firing-fits (Arg f k a) (v ∷ p ∷ []) m e h n = arg-fits f k a v p m e h n
  firing-fits (Give k a) (v ∷ []) m e h n = result-fits k v m n
  firing-fits (Alloc a) (v ∷ []) m e h n = own-fits m _ (there, ap is_inlet e) n
  firing-fits (Fetch a j) (u ∷ v ∷ []) m e h n = own-fits m _ (there, ap is_inlet e) n
  firing-fits (Store a j b) (t ∷ u ∷ v ∷ []) m e h n = own-fits m _ tt n
  firing-fits (Const v) [] m e h n = absurd n
  firing-fits (Operate o a b) (u ∷ v ∷ []) m e h n = absurd n
  firing-fits (Seq a b) (u ∷ v ∷ []) m e h n = absurd n
  firing-fits (Cond p y z) (v ∷ []) m e h n = absurd n
  firing-fits (Switch c k a) (u ∷ v ∷ []) m e h n = absurd n
  firing-fits (Leave k a) (v ∷ []) m e h n = absurd n
  firing-fits k vs m e h n = absurd n

  -- whatever the node is
  pub sends-fit : (m : Message) → In m (fired g s.world i x).sends → Fits g s.world m
  sends-fit m h = go (words_of s.world i (operands_of (its_code g s.world i) (kind_at (its_code g s.world i) x))) refl h
    where
      go : (l : List (List ℕ)) → words_of s.world i (operands_of (its_code g s.world i) (kind_at (its_code g s.world i) x)) ≡ l
          → In m (fired_with g s.world i x l).sends → Fits g s.world m
      go [] e n = absurd n
      go (vs ∷ more) e n = firing-fits (kind_at (its_code g s.world i) x) vs m refl (subst (λ l. In vs l) (sym e) (inl refl)) n
