-- Who sends a word: the receiver tells the activation and the node that sent it, and a run sends one word at most to a receiver.
use Rattle.std.proofs.Common.{◌≡◌, ℕ, ◌<◌, ◌≤◌, Bool, true, false, ◌==◌, ◌&&◌, List, [], ◌∷◌, Option, Some, None, slice_get, map, length, nat_lt}
use Rattle.std.proofs.Common.{refl, sym, ap, ◌∙◌}
use Rattle.std.proofs.Common.{arith, subst, inl, inr, ◌⊎◌, true≢false}
use Rattle.std.proofs.lemmas.List.{length-map}
use Rattle.std.specs.List.{AllByRecursion}
use Rattle.tam_word.proofs.Each.{all-more, all-append, all-map}
use Rattle.tam_word.proofs.Members.{In}
use Rattle.tam_word.proofs.Sifted.{first_of-one}
use Rattle.tam_word.proofs.Tests.{and-left, self-eq, true-both, eq-number}
use Rattle.tam_graph.specs.declared.kind.Kind.{Kind}
use Rattle.tam_graph.specs.declared.kind.Kind.TheVariants.{Param, Const, Op as Operate, Seq, Call, Arg, Ret, Give, Alloc, Fetch, Store, Cond, Switch, Leave}
use Rattle.tam_graph.specs.declared.node.Node.{Node}
use Rattle.tam_graph.specs.Graphs.{Graph, Code, code_of, kind_at, operands_of, callee_of, node_where, node_numbers, is_param, is_ret, or_kind}
use Rattle.tam_graph.specs.Accepted.{IsAccepted}
use Rattle.tam_graph.specs.Written.{is_operand, is_call_node}
use Rattle.tam_split.specs.Blocks.{BlockGraph, vertex_at}
use Rattle.tam_fire.specs.FiringRules.{code_at}
use Rattle.tam_msgs.specs.declared.message.Message.{Message}
use Rattle.tam_msgs.specs.declared.message.Message.TheVariants.{Word as Carry, Frame as Begin, Cells as Make, Fetch as Ask_cell, Store as Put_cell}
use Rattle.tam_msgs.specs.Messages.{outside, site}
use Rattle.tam_world.specs.Worlds.{World, Effect, activation_at, its_code, words_of, result_message, firing_of, fired_with, fired}
use Rattle.tam_flow.specs.Told.{IsNumber, path_of}
use Rattle.tam_flow.specs.Reached.{IsThere, kind_of}
use Rattle.tam_flow.proofs.Growing.{Grows}
use Rattle.tam_flow.proofs.Justified.{IsSoundWorld}
use Rattle.tam_flow.proofs.Deliveries.{IsSoundEffect, some-below}
use Rattle.tam_flow.proofs.Nodes.{where-each, call-operand, is-param, is-ret}
use Rattle.tam_flow.proofs.FiringReasons.{HaveThese, words-are, MayFire, path-code, call-is, its_line}
use Rattle.tam_flow.proofs.Firings.{fired-sound}
use Rattle.tam_flow.proofs.ActivationCounts.{size}
use Rattle.tam_flow.proofs.Pairs.{Pairs, pairs-append}
use Rattle.tam_flow.proofs.SentOnce.{cons-tail}
use Rattle.tam_flow.proofs.InterfacePlaces.{place-one}
use Rattle.tam_flow.proofs.RunSteps.{KeptByFirings}

-- the message is a word for node x of activation f
abbrev pub IsFor : ℕ → ℕ → Message → Type 0
IsFor f x m = (u : ℕ) × (m ≡ Carry f x u)

-- the two messages aren't words for one node
abbrev pub WordsApart : Message → Message → Type 0
WordsApart m n = (f x : ℕ) → (f == outside) ≡ false → IsFor f x m → IsFor f x n → ⊥

-- paths tell the activations apart
abbrev pub PathsDiffer : World → Type 0
PathsDiffer w = (i j : ℕ) → IsThere w i → IsThere w j → path_of w i ≡ path_of w j → i ≡ j

-- in a world that has grown by no activation they still do
pub differ-later : (w v : World) → Grows w v → size v ≡ size w → PathsDiffer w → PathsDiffer v
differ-later w v grows same h i j t u e =
    let a : IsThere w i = subst (λ n. i < n) same t in
    let b : IsThere w j = subst (λ n. j < n) same u in
    h i j a b (sym (grows.path i a) ∙ e ∙ grows.path j b)

-- arg y of activation i gives its word to param x of activation f, which its call began
pub record GivesArg (g : Graph) (w : World) (i y f x : ℕ) : Type 0 where
  pub from : IsThere w i
  pub there : IsThere w f
  pub place : ℕ
  pub call : ℕ
  pub value : ℕ
  pub is_param : kind_of g w f x ≡ Param place
  pub is_arg : kind_of g w i y ≡ Arg call place value
  pub path : path_of w f ≡ call ∷ path_of w i

-- result y of activation i gives its word to ret x of activation f, which began it
pub record GivesResult (g : Graph) (w : World) (i y f x : ℕ) : Type 0 where
  pub from : IsThere w i
  pub there : IsThere w f
  pub place : ℕ
  pub call : ℕ
  pub value : ℕ
  pub is_ret : kind_of g w f x ≡ Ret call place
  pub is_give : kind_of g w i y ≡ Give place value
  pub path : path_of w i ≡ call ∷ path_of w f

-- node y of activation i gives its word to node x of activation f
abbrev pub SendsTo : Graph → World → ℕ → ℕ → ℕ → ℕ → Type 0
SendsTo g w i y f x = GivesArg g w i y f x ⊎ GivesResult g w i y f x

-- ---- whoever sends is told by the receiver

-- equal params have one place
pub param-eq : {j k : ℕ} → Param j ≡ Param k → j ≡ k
param-eq e = cc

-- equal rets have one call and one place
ret-eq : {e f j k : ℕ} → Ret e j ≡ Ret f k → (e ≡ f) × (j ≡ k)
ret-eq d = (cc, cc)

-- a param is no ret
pub param-ret : {j e k : ℕ} → Param j ≡ Ret e k → ⊥
param-ret d = cc

-- an arg, and a result, is a node that is there
arg-there : (c : Code) (x f k a : ℕ) → kind_at c x ≡ Arg f k a → x < length c.nodes
arg-there c x f k a e = go (slice_get c.nodes x) refl e
  where
    go : (o : Option Node) → slice_get c.nodes x ≡ o → or_kind o ≡ Arg f k a → x < length c.nodes
    go None q r = absurd (none-arg r)
      where
        none-arg : or_kind None ≡ Arg f k a → ⊥
        none-arg d = cc
    go (Some n) q r = some-below c.nodes x q

-- so is a result
give-there : (c : Code) (x k a : ℕ) → kind_at c x ≡ Give k a → x < length c.nodes
give-there c x k a e = go (slice_get c.nodes x) refl e
  where
    go : (o : Option Node) → slice_get c.nodes x ≡ o → or_kind o ≡ Give k a → x < length c.nodes
    go None q r = absurd (none-give r)
      where
        none-give : or_kind None ≡ Give k a → ⊥
        none-give d = cc
    go (Some n) q r = some-below c.nodes x q

module _ (g : Graph) (accepted : IsAccepted g) (w : World) (codes : (i : ℕ) → IsThere w i → (activation_at w i).code < length g.codes)
    (differ : PathsDiffer w) where
  -- of one call one arg has a place
  one-arg : (i y z f k a b : ℕ) → IsThere w i → kind_of g w i y ≡ Arg f k a → kind_of g w i z ≡ Arg f k b → y ≡ z
  one-arg i y z f k a b t p q =
      place-one g accepted (activation_at w i).code (codes i t) y z (arg-there (its_code g w i) y f k a p) (arg-there (its_code g w i) z f k b q)
      (rw (p, q) both) (rw (q, p) both)
    where
      both : ((f == f) && (k == k)) ≡ true
      both = true-both (f == f) (k == k) (self-eq f) (self-eq k)

  -- one result has a place
  one-give : (i y z k a b : ℕ) → IsThere w i → kind_of g w i y ≡ Give k a → kind_of g w i z ≡ Give k b → y ≡ z
  one-give i y z k a b t p q =
      place-one g accepted (activation_at w i).code (codes i t) y z (give-there (its_code g w i) y k a p) (give-there (its_code g w i) z k b q)
      (rw (p, q) (self-eq k)) (rw (q, p) (self-eq k))

  -- who sends to a node is one node
  pub sends-once : (i y j z f x : ℕ) → SendsTo g w i y f x → SendsTo g w j z f x → (i ≡ j) × (y ≡ z)
  sends-once i y j z f x (inl h) (inr k) = absurd (param-ret (sym h.is_param ∙ k.is_ret))
  sends-once i y j z f x (inr h) (inl k) = absurd (param-ret (sym k.is_param ∙ h.is_ret))
  sends-once i y j z f x (inl h) (inl k) = (same, node)
    where
      both : (h.call ≡ k.call) × (path_of w i ≡ path_of w j)
      both = cons-tail (sym h.path ∙ k.path)

      same : i ≡ j
      same = differ i j h.from k.from both.1

      place : h.place ≡ k.place
      place = param-eq (sym h.is_param ∙ k.is_param)

      other : kind_of g w i z ≡ Arg h.call h.place k.value
      other = subst (λ m. kind_of g w m z ≡ Arg h.call h.place k.value) (sym same)
          (subst (λ m. kind_of g w j z ≡ Arg m h.place k.value) (sym both.0)
          (subst (λ m. kind_of g w j z ≡ Arg k.call m k.value) (sym place) k.is_arg))

      node : y ≡ z
      node = one-arg i y z h.call h.place h.value k.value h.from h.is_arg other
  sends-once i y j z f x (inr h) (inr k) = (same, node)
    where
      both : (h.call ≡ k.call) × (h.place ≡ k.place)
      both = ret-eq (sym h.is_ret ∙ k.is_ret)

      same : i ≡ j
      same = differ i j h.from k.from (h.path ∙ ap (λ c. c ∷ path_of w f) both.0 ∙ sym k.path)

      other : kind_of g w i z ≡ Give h.place k.value
      other = subst (λ m. kind_of g w m z ≡ Give h.place k.value) (sym same)
          (subst (λ m. kind_of g w j z ≡ Give m k.value) (sym both.1) k.is_give)

      node : y ≡ z
      node = one-give i y z h.place h.value k.value h.from h.is_give other

-- who sends has sent so in a later world
pub sends-later : (g : Graph) (w v : World) → Grows w v → (i y f x : ℕ) → SendsTo g w i y f x → SendsTo g v i y f x
sends-later g w v grows i y f x (inl h) =
    inl (record {
      from = grows.there i h.from;
      there = grows.there f h.there;
      place = h.place;
      call = h.call;
      value = h.value;
      is_param = ap (λ n. kind_at (code_of g n) x) (grows.code f h.there) ∙ h.is_param;
      is_arg = ap (λ n. kind_at (code_of g n) y) (grows.code i h.from) ∙ h.is_arg;
      path = grows.path f h.there ∙ h.path ∙ ap (λ p. h.call ∷ p) (sym (grows.path i h.from));
    })
sends-later g w v grows i y f x (inr h) =
    inr (record {
      from = grows.there i h.from;
      there = grows.there f h.there;
      place = h.place;
      call = h.call;
      value = h.value;
      is_ret = ap (λ n. kind_at (code_of g n) x) (grows.code f h.there) ∙ h.is_ret;
      is_give = ap (λ n. kind_at (code_of g n) y) (grows.code i h.from) ∙ h.is_give;
      path = grows.path i h.from ∙ h.path ∙ ap (λ p. h.call ∷ p) (sym (grows.path f h.there));
    })

-- ---- a firing

-- a word for a node of an activation, sent by this node
abbrev pub IsWordOf : Graph → World → ℕ → ℕ → Message → Type 0
IsWordOf g w i y m = (f x : ℕ) → (f == outside) ≡ false → IsFor f x m → SendsTo g w i y f x

-- messages of which there is one at most don't meet
pub few-pairs : (R : Message → Message → Type 0) (ms : List Message) → length ms ≤ 1 → Pairs R ms
few-pairs R [] l = tt
few-pairs R (m ∷ []) l = (tt, tt)
few-pairs R (m ∷ n ∷ ms) l = absurd (omega (arith, l))

-- words with one node each are for no other
pub for-eq : {p y u f x v : ℕ} → Carry p y u ≡ Carry f x v → (p ≡ f) × (y ≡ x)
for-eq e = (cc, cc)

-- what a firing sends: one word at most, and whose it is
pub record SendsWords (g : Graph) (w : World) (i y : ℕ) (ms : List Message) : Type 0 where
  pub few : length ms ≤ 1
  pub whose : AllByRecursion (IsWordOf g w i y) ms

module _ {g : Graph} {args : List ℕ} {w : World} {i y : ℕ} (firer : MayFire g args w i y) where
  -- words from here to nodes of one activation that a test finds
  words-to : (p v : ℕ) (c : Code) (test : Kind → Bool)
      → ((x : ℕ) → (x < length c.nodes) × (test (kind_at c x) ≡ true) → SendsTo g w i y p x)
      → SendsWords g w i y (map (λ x. Carry p x v) (node_where c test))
  words-to p v c test h = record {
    few = let l = first_of-one (λ x. test (kind_at c x)) (node_numbers c) in
        omega (arith, length-map (node_where c test) (λ x. Carry p x v), l);
    whose = all-map (IsWordOf g w i y) (λ x. Carry p x v) (node_where c test)
        (all-more (λ x. (x < length c.nodes) × (test (kind_at c x) ≡ true)) (λ x. IsWordOf g w i y (Carry p x v)) one (node_where c test)
        (where-each c test));
  }
    where
      one : (x : ℕ) → (x < length c.nodes) × (test (kind_at c x) ≡ true) → IsWordOf g w i y (Carry p x v)
      one x k f z inside e =
          let same = for-eq e.1 in
          subst (λ m. SendsTo g w i y m z) same.0 (subst (λ m. SendsTo g w i y p m) same.1 (h x k))

  -- an arg sends to a param of what its call began
  arg-words : (f k a v p : ℕ) → kind_at (its_code g w i) y ≡ Arg f k a → HaveThese w i (a ∷ f ∷ []) (v ∷ p ∷ [])
      → SendsWords g w i y (map (λ x. Carry p x v) (node_where (code_of g (callee_of (its_code g w i) f)) (is_param k)))
  arg-words f k a v p e h = words-to p v (code_of g (callee_of (its_code g w i) f)) (is_param k) each
    where
      at_call : (d : ℕ) × (kind_at (its_code g w i) f ≡ Call d)
      at_call = call-operand (its_code g w i) f
          (and-left (is_call_node (its_code g w i) f) (is_operand (its_code g w i) a && nat_lt k 64) (its_line firer (Arg f k a) e))

      callee : IsNumber w (f ∷ path_of w i) p
      callee = (call-is firer.stands f p at_call.0 at_call.1 h.1.0).0

      code : (activation_at w p).code ≡ callee_of (its_code g w i) f
      code = sym (firer.stands.sound.path_codes p callee.0) ∙ ap (code_at g) callee.1 ∙ ap (λ m. callee_of (code_of g m) f) (path-code firer.stands)

      each : (x : ℕ) → (x < length (code_of g (callee_of (its_code g w i) f)).nodes) ×
          (is_param k (kind_at (code_of g (callee_of (its_code g w i) f)) x) ≡ true) → SendsTo g w i y p x
      each x m =
          inl (record {
            from = firer.stands.there;
            there = callee.0;
            place = k;
            call = f;
            value = a;
            is_param = ap (λ n. kind_at (code_of g n) x) code ∙ is-param k _ m.1;
            is_arg = e;
            path = callee.1;
          })

  -- a result sends to a ret of the call that began its activation, or to the outside
  give-words : (k a v : ℕ) → kind_at (its_code g w i) y ≡ Give k a → SendsWords g w i y (result_message g w i k v)
  give-words k a v e = go ((activation_at w i).caller == outside) refl
    where
      go : (b : Bool) → ((activation_at w i).caller == outside) ≡ b → SendsWords g w i y (result_message g w i k v)
      go true c = rw (result_message, c) (record {
        few = omega arith;
        whose = ((λ f x inside d. absurd (true≢false (sym (eq-number f outside (sym (for-eq d.1).0)) ∙ inside))), tt);
      })
      go false c =
          let r = firer.stands.sound.callers i firer.stands.there c in
          rw (result_message, c) (words-to (activation_at w i).caller v (its_code g w (activation_at w i).caller) (is_ret (activation_at w i).call k)
          (λ x m. inr (record {
            from = firer.stands.there;
            there = r.0;
            place = k;
            call = (activation_at w i).call;
            value = a;
            is_ret = is-ret (activation_at w i).call k _ m.1;
            is_give = e;
            path = r.1;
          })))

  -- nothing is sent
  no-words : SendsWords g w i y []
  no-words = record { few = omega arith; whose = tt }

  -- a wish is no word
  wish-alone : (m : Message) → ((f x : ℕ) → IsFor f x m → ⊥) → SendsWords g w i y (m ∷ [])
  wish-alone m h = record { few = omega arith; whose = ((λ f x inside e. absurd (h f x e)), tt) }

  -- what a node sends, by what it does
  firing-words : (k : Kind) (vs : List ℕ) → kind_at (its_code g w i) y ≡ k → HaveThese w i (operands_of (its_code g w i) k) vs
      → SendsWords g w i y (firing_of g w i y k vs).sends
  firing-words (Const v) [] e h = no-words
  firing-words (Operate o l r) (u ∷ v ∷ []) e h = no-words
  firing-words (Seq l r) (u ∷ v ∷ []) e h = no-words
  firing-words (Call c) [] e h = wish-alone (Begin c i y) (λ f x d. begin-for d.1)
    where
      begin-for : {f x u : ℕ} → Begin c i y ≡ Carry f x u → ⊥
      begin-for d = cc
  firing-words (Arg f k a) (v ∷ p ∷ []) e h = arg-words f k a v p e h
  firing-words (Give k a) (v ∷ []) e h = give-words k a v e
  firing-words (Alloc a) (n ∷ []) e h = wish-alone (Make n i y) (λ f x d. make-for d.1)
    where
      make-for : {f x u : ℕ} → Make n i y ≡ Carry f x u → ⊥
      make-for d = cc
  firing-words (Fetch a j) (u ∷ v ∷ []) e h = wish-alone (Ask_cell u v i y (site (activation_at w i).code y)) (λ f x d. ask-for d.1)
    where
      ask-for : {f x t : ℕ} → Ask_cell u v i y (site (activation_at w i).code y) ≡ Carry f x t → ⊥
      ask-for d = cc
  firing-words (Store a j b) (t ∷ u ∷ v ∷ []) e h = wish-alone (Put_cell t u v (site (activation_at w i).code y)) (λ f x d. put-for d.1)
    where
      put-for : {f x z : ℕ} → Put_cell t u v (site (activation_at w i).code y) ≡ Carry f x z → ⊥
      put-for d = cc
  firing-words (Cond p a n) (v ∷ []) e h = no-words
  firing-words (Switch d k a) (u ∷ v ∷ []) e h = no-words
  firing-words (Leave k a) (v ∷ []) e h = no-words
  firing-words k vs e h = no-words

  -- whatever it does
  pub fired-words : SendsWords g w i y (fired g w i y).sends
  fired-words = go (words_of w i (operands_of (its_code g w i) (kind_at (its_code g w i) y)))
      (words-are w i (operands_of (its_code g w i) (kind_at (its_code g w i) y)))
    where
      go : (ws : List (List ℕ)) → ((vs : List ℕ) (more : List (List ℕ)) → ws ≡ vs ∷ more
          → HaveThese w i (operands_of (its_code g w i) (kind_at (its_code g w i) y)) vs)
          → SendsWords g w i y (fired_with g w i y ws).sends
      go [] f = no-words
      go (vs ∷ more) f = firing-words (kind_at (its_code g w i) y) vs refl (f vs more refl)

-- ---- a run

-- a word was sent by a vertex among those done
abbrev pub IsSentIn : Graph → BlockGraph → World → ℕ → List ℕ → ℕ → ℕ → Type 0
IsSentIn g b w i done f x = (y : ℕ) × In y done × (y < length b.vertices) × ((vertex_at b y).inlet ≡ false) × SendsTo g w i (vertex_at b y).node f x

-- the words of a run: one at most to a receiver, each by a vertex among those done
pub record IsWordRun (g : Graph) (b : BlockGraph) (i : ℕ) (done : List ℕ) (e : Effect) : Type 0 where
  pub apart : Pairs WordsApart e.sends
  pub by : AllByRecursion (λ m. (f x : ℕ) → (f == outside) ≡ false → IsFor f x m → IsSentIn g b e.world i done f x) e.sends

module _ (g : Graph) (args : List ℕ) (accepted : IsAccepted g) (w : World) (sound : IsSoundWorld g args w) (differ : PathsDiffer w) (i : ℕ)
    (there : IsThere w i) (b : BlockGraph)
    (one_place : (y z : ℕ) → y < length b.vertices → z < length b.vertices → (vertex_at b y).inlet ≡ false → (vertex_at b z).inlet ≡ false
    → (vertex_at b y).node ≡ (vertex_at b z).node → y ≡ z) where
  -- each firing keeps it
  pub words-kept : KeptByFirings g args accepted w i there b (IsWordRun g b i)
  words-kept = record {
    skips = λ done e y h d. record {
      apart = h.apart;
      by = all-more (By done e.world) (By (y ∷ done) e.world) (λ m k f x inside q. more done y e.world f x (k f x inside q)) e.sends h.by;
    };
    fires = λ done e y effect same h firer l none new.
        let v : World = (fired g e.world i (vertex_at b y).node).world in
        let ms : List Message = (fired g e.world i (vertex_at b y).node).sends in
        let f = fired-sound firer in
        let ws = fired-words firer in record {
          apart = pairs-append WordsApart e.sends ms h.apart (few-pairs WordsApart ms ws.few)
              (all-more (By done e.world) (λ m. AllByRecursion (WordsApart m) ms)
              (λ m k. all-more (IsWordOf g e.world i (vertex_at b y).node) (WordsApart m)
              (λ n r z x inside p q. across done e y effect same l none new z x (k z x inside p) (r z x inside q)) ms ws.whose) e.sends h.by);
          by = all-append (By (y ∷ done) v) e.sends ms
              (all-more (By done e.world) (By (y ∷ done) v)
              (λ m k z x inside q. later e.world v f.grows (y ∷ done) z x (more done y e.world z x (k z x inside q))) e.sends h.by)
              (all-more (IsWordOf g e.world i (vertex_at b y).node) (By (y ∷ done) v)
              (λ m k z x inside q. (y, inl refl, l, none, sends-later g e.world v f.grows i (vertex_at b y).node z x (k z x inside q))) ms ws.whose);
        };
  }
    where
      By : List ℕ → World → Message → Type 0
      By done v m = (f x : ℕ) → (f == outside) ≡ false → IsFor f x m → IsSentIn g b v i done f x

      more : (done : List ℕ) (y : ℕ) (v : World) (f x : ℕ) → IsSentIn g b v i done f x → IsSentIn g b v i (y ∷ done) f x
      more done y v f x h = (h.0, inr h.1, h.2, h.3, h.4)

      later : (u v : World) → Grows u v → (done : List ℕ) (f x : ℕ) → IsSentIn g b u i done f x → IsSentIn g b v i done f x
      later u v grows done f x h = (h.0, h.1, h.2, h.3, sends-later g u v grows i (vertex_at b h.0).node f x h.4)

      across : (done : List ℕ) (e : Effect) (y : ℕ) → IsSoundEffect g args w e → size e.world ≡ size w → y < length b.vertices → (vertex_at b y).inlet ≡ false
          → (In y done → ⊥) → (f x : ℕ) → IsSentIn g b e.world i done f x → SendsTo g e.world i (vertex_at b y).node f x → ⊥
      across done e y effect same l none new f x h k =
          let r = sends-once g accepted e.world effect.world.codes (differ-later w e.world effect.grows same differ) i (vertex_at b h.0).node i
          (vertex_at b y).node f x h.4 k in
          new (subst (λ z. In z done) (one_place h.0 y h.2 l h.3 none r.1) h.1)
