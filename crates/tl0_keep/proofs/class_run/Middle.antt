-- What is known of the world in the middle of a run: which nodes have words, which blocks are entered, and whom calls began.
use Rattle.std.proofs.Common.{◌≡◌, ◌≢◌, ℕ, ◌<◌, true, false, ◌==◌, List, [], ◌∷◌, length, refl, sym, ap, ◌∙◌, subst, inl, inr, ⊎_elim}
use Rattle.std.proofs.Common.{arith, true≢false}
use Rattle.tam_word.proofs.Members.{In, in-flat_map}
use Rattle.tam_word.proofs.Each.{each-in}
use Rattle.tam_word.proofs.Tests.{differs-number}
use Rattle.tam_msgs.specs.declared.message.Message.{Message}
use Rattle.tam_msgs.specs.declared.message.Message.TheVariants.{Word as Carry}
use Rattle.tam_msgs.specs.Messages.{outside}
use Rattle.tam_graph.specs.declared.kind.Kind.{Kind}
use Rattle.tam_graph.specs.declared.kind.Kind.TheVariants.{Param, Const, Op as Operate, Seq, Call, Ret, Alloc, Fetch, Cond, Switch, Leave}
use Rattle.tam_graph.specs.Graphs.{Code, Graph, code_of, kind_at, block_at, has_value, owner_of, chosen_branch, node_where, node_in, is_merge, is_enter}
use Rattle.tam_graph.proofs.AcceptedFacts.{node-there}
use Rattle.tam_split.specs.GraphPartitions.{Partitions}
use Rattle.tam_split.proofs.Firers.{is_inner, inner-value}
use Rattle.tam_world.specs.Worlds.{World, activation_at, its_code, word_of, has_entered}
use Rattle.tam_flow.specs.Journals.{State}
use Rattle.tam_flow.specs.Reached.{IsThere, IsReached, HasArrived, kind_of}
use Rattle.tam_flow.proofs.Gifts.{SameFrames, gift, opens}
use Rattle.tam_flow.proofs.Givers.{is_received, GivenTo, given-to, given-no_message, Itself, Inwards, Outwards}
use Rattle.tam_flow.proofs.Kept.{IsGift, IsEntered, IsKept}
use Rattle.tam_flow.proofs.Nodes.{where-each, in-each}
use Rattle.tl0_keep.proofs.class_run.Step.{HasCalls}

-- what is inner is in the code
inner-there : (c : Code) (x : ℕ) (k : Kind) → kind_at c x ≡ k → is_inner k ≡ true → x < length c.nodes
inner-there c x k e h = node-there c x (λ q. true≢false (sym h ∙ ap is_inner (sym e ∙ q)))

-- and so is what messages come to
received-there : (c : Code) (x : ℕ) → is_received (kind_at c x) ≡ true → x < length c.nodes
received-there c x h = node-there c x (λ q. true≢false (sym h ∙ ap is_received q))

received-value : (k : Kind) → is_received k ≡ true → has_value k ≡ true
received-value (Param k) h = refl
received-value (Ret f k) h = refl
received-value (Call f) h = refl
received-value (Alloc n) h = refl
received-value (Fetch a j) h = refl
received-value k h = absurd (true≢false (sym h))

-- what a firing gives a word to has a value
gift-value : (c : Code) (x : ℕ) (k : Kind) (vs : List ℕ) (y : ℕ) → kind_at c x ≡ k → In y (gift c x k vs).0 → has_value (kind_at c y) ≡ true
gift-value c x k vs y e m = go (given-to c x k vs y m)
  where
    go : GivenTo c x k vs y → has_value (kind_at c y) ≡ true
    go (Itself q h) = subst (λ z. has_value (kind_at c z) ≡ true) q (ap has_value e ∙ inner-value k h)
    go (Inwards d j a u v p q h r) = ap has_value h
    go (Outwards j a v d p q h r) = ap has_value r

-- and is in the code
gift-there : (c : Code) (x : ℕ) (k : Kind) (vs : List ℕ) (y : ℕ) → kind_at c x ≡ k → In y (gift c x k vs).0 → y < length c.nodes
gift-there c x (Const v) [] y e (inl p) = subst (λ z. z < length c.nodes) p (inner-there c x (Const v) e refl)
gift-there c x (Const v) [] y e (inr p) = absurd p
gift-there c x (Operate o a b) (u ∷ v ∷ []) y e (inl p) = subst (λ z. z < length c.nodes) p (inner-there c x (Operate o a b) e refl)
gift-there c x (Operate o a b) (u ∷ v ∷ []) y e (inr p) = absurd p
gift-there c x (Seq a b) (u ∷ v ∷ []) y e (inl p) = subst (λ z. z < length c.nodes) p (inner-there c x (Seq a b) e refl)
gift-there c x (Seq a b) (u ∷ v ∷ []) y e (inr p) = absurd p
gift-there c x (Switch d k a) (u ∷ v ∷ []) y e m = (each-in _ (node_in c (chosen_branch c d u) (is_enter k)) y (in-each c (chosen_branch c d u) (is_enter k))
    m).0.0
gift-there c x (Leave k a) (v ∷ []) y e m =
    let r = in-flat_map (λ d. node_where c (is_merge d k)) y (owner_of c (block_at c x)) m in
    (each-in _ (node_where c (is_merge r.0 k)) y (where-each c (is_merge r.0 k)) r.2).0
gift-there c x k vs y e m = absurd m

module _ (g : Graph) (w : World) (F : ℕ → ℕ → Type 0) (S : ℕ → ℕ → Message → Type 0) (A : Message → Type 0) (kept : IsKept g w F S A) where
  -- a node with a word is in the code and has a value
  pub node-worded : (j y u : ℕ) → word_of w j y ≡ u ∷ [] → (y < length (its_code g w j).nodes) × (has_value (kind_at (its_code g w j) y) ≡ true)
  node-worded j y u h = ⊎_elim given came (kept.sources j y u h)
    where
      given : IsGift g w F j y u → (y < length (its_code g w j).nodes) × (has_value (kind_at (its_code g w j) y) ≡ true)
      given a = (
        gift-there (its_code g w j) a.node (kind_of g w j a.node) a.words y refl a.among,
        gift-value (its_code g w j) a.node (kind_of g w j a.node)
            a.words y refl a.among,
      )

      came : A (Carry j y u) × (is_received (kind_of g w j y) ≡ true) → (y < length (its_code g w j).nodes) × (has_value (kind_at (its_code g w j) y) ≡ true)
      came a = (received-there (its_code g w j) y a.1, received-value (kind_of g w j y) a.1)

  -- the word of a call came by a message
  pub call-came : (j f d u : ℕ) → kind_of g w j f ≡ Call d → word_of w j f ≡ u ∷ [] → A (Carry j f u)
  call-came j f d u e h = ⊎_elim given (λ a. a.0) (kept.sources j f u h)
    where
      given : IsGift g w F j f u → A (Carry j f u)
      given a = absurd (true≢false (sym (ap is_received e)
          ∙ given-no_message (its_code g w j) a.node (kind_of g w j a.node) a.words f refl
          (given-to (its_code g w j) a.node (kind_of g w j a.node) a.words f a.among)))

  module _ (i x : ℕ) (vs : List ℕ) (there : IsThere w i) (new : F i x → ⊥)
      (owners : (d p y n v : ℕ) → kind_of g w i d ≡ Cond p y n → (owner_of (its_code g w i) (chosen_branch (its_code g w i) d v) ≡ d ∷ [])
      × (0 < chosen_branch (its_code g w i) d v)) where
    -- a cond and the block that it opens
    pub record OpensIt (z b : ℕ) : Type 0 where
      pub test : ℕ
      pub yes_block : ℕ
      pub no_block : ℕ
      pub word : ℕ
      pub cond : kind_of g w i z ≡ Cond test yes_block no_block
      pub block : b ≡ chosen_branch (its_code g w i) z word

    opens-it : (z : ℕ) (k : Kind) (us : List ℕ) (b : ℕ) → kind_of g w i z ≡ k → In b (opens (its_code g w i) z k us) → OpensIt z b
    opens-it z (Cond p y n) (v ∷ []) b e (inl h) = record { test = p; yes_block = y; no_block = n; word = v; cond = e; block = sym h }
    opens-it z (Cond p y n) (v ∷ []) b e (inr h) = absurd h
    opens-it z k us b e h = absurd h

    same-owner : {a b : ℕ} → a ∷ [] ≡ b ∷ [] → a ≡ b
    same-owner e = cc

    -- the block that a node opens when it first fires wasn't entered
    pub first-entered : (b : ℕ) → In b (opens (its_code g w i) x (kind_of g w i x) vs) → has_entered w i b ≡ true → ⊥
    first-entered b m h = ⊎_elim body by_cond (kept.blocks i b there h)
      where
        mine : OpensIt x b
        mine = opens-it x (kind_of g w i x) vs b refl m

        own : (owner_of (its_code g w i) b ≡ x ∷ []) × (0 < b)
        own = subst (λ q. (owner_of (its_code g w i) q ≡ x ∷ []) × (0 < q)) (sym mine.block) (owners x mine.test mine.yes_block mine.no_block mine.word
            mine.cond)

        body : b ≡ 0 → ⊥
        body e = let l = own.1 in absurd (omega arith)

        by_cond : IsEntered g w F i b → ⊥
        by_cond a =
            let other = opens-it a.node (kind_of g w i a.node) a.words b refl a.among in
            let its : owner_of (its_code g w i) b ≡ a.node ∷ [] = subst (λ q. owner_of (its_code g w i) q ≡ a.node ∷ []) (sym other.block)
            (owners a.node other.test other.yes_block other.no_block other.word other.cond).0 in
            new (subst (λ z. F i z) (same-owner (sym its ∙ own.0)) a.fired)

-- ---- calls

module _ (g : Graph) (all : Partitions) (args : List ℕ) (s : State) (reached : IsReached g all args s) (v : State) (frames : SameFrames s.world v.world)
    (answered : (j f d u : ℕ) → kind_of g v.world j f ≡ Call d → word_of v.world j f ≡ u ∷ [] → HasArrived s (Carry j f u) × IsThere v.world j) where
  there-first : (j : ℕ) → IsThere v.world j → IsThere s.world j
  there-first j t = subst (λ n. j < n) frames.as_many t

  there-still : (j : ℕ) → IsThere s.world j → IsThere v.world j
  there-still j t = subst (λ n. j < n) (sym frames.as_many) t

  numbers : (j : ℕ) → IsThere s.world j → (j == outside) ≡ false
  numbers j t = let few = reached.few_activations in differs-number j outside (λ e. absurd (omega arith))

  -- activations stand as calls began them
  pub has-calls : HasCalls g v
  has-calls = record {
    numbers = λ j t. numbers j (there-first j t);
    root = frames.caller 0 ∙ reached.activations.root_outside;
    root_code = frames.code 0 ∙ reached.activations.root_code;
    callers = λ j l t. subst (λ q. IsThere v.world q) (sym (frames.caller j))
        (let t = there-first j t in let c = reached.activations.callers j l t in there-still _ (omega arith));
    calls = λ j l t. let h = reached.activations.calls j l (there-first j t) in
        subst (λ q. kind_at (code_of g q) (activation_at v.world j).call ≡ Call (activation_at v.world j).code)
        (sym (frames.code (activation_at v.world j).caller))
        (subst (λ q. kind_of g s.world q (activation_at v.world j).call ≡ Call (activation_at v.world j).code) (sym (frames.caller j))
        (subst (λ q. kind_of g s.world (activation_at s.world j).caller q ≡ Call (activation_at v.world j).code) (sym (frames.call j))
        (h ∙ ap Call (sym (frames.code j)))));
    answers = λ j f d p e h. answer j f d p e h;
  }
    where
      codes : {a b : ℕ} → Call a ≡ Call b → a ≡ b
      codes e = cc

      answer : (j f d p : ℕ) → kind_of g v.world j f ≡ Call d → word_of v.world j f ≡ p ∷ [] → IsThere v.world p × ((activation_at v.world p).code ≡ d)
      answer j f d p e h =
          let a = answered j f d p e h in
          let inside : j ≢ outside = λ q. true≢false (sym (ap (λ z. z == outside) q ∙ refl) ∙ numbers j (there-first j a.1)) in
          let has = reached.arrivals.carried j f p a.0 inside in
          let e : kind_of g s.world j f ≡ Call d = subst (λ q. kind_at (code_of g q) f ≡ Call d) (frames.code j) e in
          let suit = (reached.words.suit j f p has).by_call d e in
          let began = reached.activations.calls p suit.0 suit.1 in
          let same : kind_of g s.world j f ≡ Call (activation_at s.world p).code =
          subst (λ q. kind_of g s.world j q ≡ Call (activation_at s.world p).code) suit.3
          (subst (λ q. kind_of g s.world q (activation_at s.world p).call ≡ Call (activation_at s.world p).code) suit.2 began) in
          (there-still p suit.1, frames.code p ∙ codes (sym same ∙ e))
