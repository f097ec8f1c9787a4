-- A node that fires for the first time, in an open block and with words of its operands, gives words to nodes that have none, and the world keeps what it kept.
use Rattle.std.proofs.Common.{◌≡◌, ℕ, ◌<◌, true, List, [], ◌∷◌, Some, None, length, slice_get, refl, sym, ap, ◌∙◌, subst}
use Rattle.std.proofs.Common.{inl, inr, ◌⊎◌, ⊎_elim, true≢false}
use Rattle.tam_msgs.specs.declared.message.Message.{Message}
use Rattle.tam_graph.specs.declared.kind.Kind.{Kind}
use Rattle.tam_graph.specs.declared.kind.Kind.TheVariants.{Cond, Switch, Merge, Enter, Leave}
use Rattle.tam_msgs.specs.declared.message.Message.TheVariants.{Word as Carry}
use Rattle.tam_graph.specs.Graphs.{Graph, code_of, kind_at, block_at, operands_of, chosen_branch}
use Rattle.tam_graph.specs.Accepted.{IsAccepted}
use Rattle.tam_graph.specs.Written.{is_cond_node}
use Rattle.tam_graph.proofs.AcceptedFacts.{node-there}
use Rattle.tam_split.proofs.Firers.{is_inner}
use Rattle.tam_word.proofs.Tests.{and-left, below-test}
use Rattle.tam_word.proofs.Members.{In}
use Rattle.tam_world.specs.Worlds.{World, Effect, activation_at, its_code, word_of, has_entered, firing_of, fired}
use Rattle.tam_flow.specs.Reached.{IsThere, kind_of}
use Rattle.tam_flow.proofs.Nodes.{line, cond-operand}
use Rattle.tam_flow.proofs.FiringReasons.{HaveThese}
use Rattle.tam_flow.proofs.BranchOwners.{body-owner, chosen-owner, switch-one, leave-one}
use Rattle.tam_flow.proofs.Gifts.{gift, opens, Leaves, leaves-firing}
use Rattle.tam_flow.proofs.Givers.{is_received, GivenTo, Itself, Inwards, Outwards, given-to, given-no_message, opens-chosen}
use Rattle.tam_flow.proofs.Onward.{Onward, word-one, have-later, fires-with}
use Rattle.tam_flow.proofs.Kept.{IsGift, IsEntered, HasDone, IsKept, IsWish, CallersThere, gift-later, entered-later, received-later, open-later, sends-later}
use Rattle.tam_flow.proofs.Kept.{done-later}
use Rattle.tam_flow.proofs.Kept.{word-act}

-- what the owner of a block is
owner-eq : {d e : ℕ} → Some (Some d) ≡ Some (Some e) → d ≡ e
owner-eq p = cc

-- a block with an owner isn't one with none
owner-none : {d : ℕ} → Some (Some d) ≡ Some None → ⊥
owner-none p = cc

-- cond d of activation i chose branch b, by its word
pub record HasChosen (g : Graph) (w : World) (i d b : ℕ) : Type 0 where
  pub test : ℕ
  pub yes_block : ℕ
  pub no_block : ℕ
  pub word : ℕ
  pub cond : kind_of g w i d ≡ Cond test yes_block no_block
  pub has : word_of w i test ≡ word ∷ []
  pub block : b ≡ chosen_branch (its_code g w i) d word

module _ (g : Graph) (accepted : IsAccepted g) (w : World) (F : ℕ → ℕ → Type 0) (S : ℕ → ℕ → Message → Type 0) (A : Message → Type 0)
    (kept : IsKept g w F S A) (i : ℕ)
    (there : IsThere w i) (code : (activation_at w i).code < length g.codes) where
  -- a branch that is entered is the one that its cond's word chose
  has-chosen : (d b : ℕ) → has_entered w i b ≡ true → slice_get (its_code g w i).owners b ≡ Some (Some d) → HasChosen g w i d b
  has-chosen d b h o = ⊎_elim body branch (kept.blocks i b there h)
    where
      body : b ≡ 0 → HasChosen g w i d b
      body e = absurd (owner-none (sym o ∙ (ap (λ z. slice_get (its_code g w i).owners z) e
          ∙ body-owner (length g.codes) (its_code g w i) (accepted.written (activation_at w i).code (below-test _ _ code)))))

      branch : IsEntered g w F i b → HasChosen g w i d b
      branch a =
          let k = opens-chosen (its_code g w i) a.node (kind_of g w i a.node) a.words b a.among in
          let own = chosen-owner (length g.codes) (its_code g w i) (accepted.written (activation_at w i).code (below-test _ _ code))
          a.node k.test k.yes_block k.no_block k.word k.cond in
          let same : a.node ≡ d = owner-eq (sym own.0 ∙ (ap (λ z. slice_get (its_code g w i).owners z) (sym k.block) ∙ o)) in
          let have : HaveThese w i (k.test ∷ []) (k.word ∷ []) = subst (λ l. HaveThese w i (k.test ∷ []) l) k.words
          (subst (λ c. HaveThese w i (operands_of (its_code g w i) c) a.words) k.cond a.have) in
          record {
            test = k.test;
            yes_block = k.yes_block;
            no_block = k.no_block;
            word = k.word;
            cond = subst (λ z. kind_of g w i z ≡ Cond k.test k.yes_block k.no_block) same k.cond;
            has = have.0;
            block = k.block ∙ ap (λ z. chosen_branch (its_code g w i) z k.word) same;
          }

  -- so of each cond one branch at most is entered
  pub one-branch : (d a b : ℕ) → has_entered w i a ≡ true → slice_get (its_code g w i).owners a ≡ Some (Some d)
      → has_entered w i b ≡ true → slice_get (its_code g w i).owners b ≡ Some (Some d) → a ≡ b
  one-branch d a b h o k q = same (has-chosen d a h o) (has-chosen d b k q)
    where
      tests : {p y n r z m : ℕ} → Cond p y n ≡ Cond r z m → p ≡ r
      tests e = cc

      same : HasChosen g w i d a → HasChosen g w i d b → a ≡ b
      same x z =
          let t : x.test ≡ z.test = tests (sym x.cond ∙ z.cond) in
          let u : x.word ≡ z.word = word-one w i z.test x.word z.word (subst (λ l. word_of w i l ≡ x.word ∷ []) t x.has) z.has in
          x.block ∙ (ap (λ l. chosen_branch (its_code g w i) d l) u ∙ sym z.block)

  -- the branch into which a switch gives is its cond's
  switch-owner : (x d j a u : ℕ) → kind_of g w i x ≡ Switch d j a
      → slice_get (its_code g w i).owners (chosen_branch (its_code g w i) d u) ≡ Some (Some d)
  switch-owner x d j a u e = owner (cond-operand (its_code g w i) d
      (and-left (is_cond_node (its_code g w i) d) _ (line g accepted (activation_at w i).code code x (Switch d j a) here e)))
    where
      switch-enter : Switch d j a ≡ Enter 0 → ⊥
      switch-enter q = cc

      here : x < length (its_code g w i).nodes
      here = node-there (its_code g w i) x (λ r. switch-enter (sym e ∙ r))

      owner : (d < length (its_code g w i).nodes) × ((p y n : ℕ) × (kind_of g w i d ≡ Cond p y n))
          → slice_get (its_code g w i).owners (chosen_branch (its_code g w i) d u) ≡ Some (Some d)
      owner r = (chosen-owner (length g.codes) (its_code g w i) (accepted.written (activation_at w i).code (below-test _ _ code))
          d r.1.0 r.1.1 r.1.2 u r.1.3).0

  -- one node alone gives a word to a node
  one-giver : (x z y : ℕ) (k l : Kind) (vs us : List ℕ) → kind_of g w i x ≡ k → kind_of g w i z ≡ l
      → has_entered w i (block_at (its_code g w i) x) ≡ true → has_entered w i (block_at (its_code g w i) z) ≡ true
      → GivenTo (its_code g w i) x k vs y → GivenTo (its_code g w i) z l us y → x ≡ z
  one-giver x z y k l vs us e f o q (Itself a b) (Itself c d) = a ∙ sym c
  one-giver x z y k l vs us e f o q (Itself a b) (Inwards d j c u v p h m r) =
      absurd (true≢false (sym b ∙ ap is_inner (sym e ∙ (ap (λ t. kind_of g w i t) a ∙ m))))
  one-giver x z y k l vs us e f o q (Itself a b) (Outwards j c v d p h m r) =
      absurd (true≢false (sym b ∙ ap is_inner (sym e ∙ (ap (λ t. kind_of g w i t) a ∙ r))))
  one-giver x z y k l vs us e f o q (Inwards d j c u v p h m r) (Itself a b) =
      absurd (true≢false (sym b ∙ ap is_inner (sym f ∙ (ap (λ t. kind_of g w i t) a ∙ m))))
  one-giver x z y k l vs us e f o q (Outwards j c v d p h m r) (Itself a b) =
      absurd (true≢false (sym b ∙ ap is_inner (sym f ∙ (ap (λ t. kind_of g w i t) a ∙ r))))
  one-giver x z y k l vs us e f o q (Inwards d j c u v p h m r) (Outwards j2 c2 v2 d2 p2 h2 m2 r2) = absurd (enter-merge (sym m ∙ r2))
    where
      enter-merge : Enter j ≡ Merge d2 j2 → ⊥
      enter-merge t = cc
  one-giver x z y k l vs us e f o q (Outwards j2 c2 v2 d2 p2 h2 m2 r2) (Inwards d j c u v p h m r) = absurd (enter-merge (sym m ∙ r2))
    where
      enter-merge : Enter j ≡ Merge d2 j2 → ⊥
      enter-merge t = cc
  one-giver x z y k l vs us e f o q (Inwards d j c u v p h m r) (Inwards d2 j2 c2 u2 v2 p2 h2 m2 r2) =
      let place : j ≡ j2 = places (sym m ∙ m2) in
      let cond : d ≡ d2 = owner-eq (sym (switch-owner x d j c u (e ∙ p)) ∙ (ap (λ t. slice_get (its_code g w i).owners t) (sym r ∙ r2)
      ∙ switch-owner z d2 j2 c2 u2 (f ∙ p2))) in
      switch-one g accepted (activation_at w i).code code x z d j c c2 (e ∙ p)
      (f ∙ (p2 ∙ (ap (λ t. Switch t j2 c2) (sym cond) ∙ ap (λ t. Switch d t c2) (sym place))))
    where
      places : {a b : ℕ} → Enter a ≡ Enter b → a ≡ b
      places t = cc
  one-giver x z y k l vs us e f o q (Outwards j c v d p h m r) (Outwards j2 c2 v2 d2 p2 h2 m2 r2) =
      let place : j ≡ j2 = places (sym r ∙ r2) in
      let cond : d2 ≡ d = conds (sym r2 ∙ r) in
      let block = one-branch d (block_at (its_code g w i) x) (block_at (its_code g w i) z) o m q (m2 ∙ ap (λ t. Some (Some t)) cond) in
      leave-one g accepted (activation_at w i).code code x z j c c2 block (e ∙ p) (f ∙ (p2 ∙ ap (λ t. Leave t c2) (sym place)))
    where
      places : {a b m n : ℕ} → Merge m a ≡ Merge n b → a ≡ b
      places t = cc

      conds : {a b m n : ℕ} → Merge m a ≡ Merge n b → m ≡ n
      conds t = cc

  module _ (x : ℕ) (vs : List ℕ) (new : F i x → ⊥) (opened : has_entered w i (block_at (its_code g w i) x) ≡ true) where
    -- what a node gives when it first fires goes to nodes that have no word
    pub fresh : (y t : ℕ) → In y (gift (its_code g w i) x (kind_of g w i x) vs).0 → word_of w i y ≡ t ∷ [] → ⊥
    fresh y t m h = ⊎_elim by_firing by_message (kept.sources i y t h)
      where
        mine : GivenTo (its_code g w i) x (kind_of g w i x) vs y
        mine = given-to (its_code g w i) x (kind_of g w i x) vs y m

        by_firing : IsGift g w F i y t → ⊥
        by_firing a =
            let same = one-giver x a.node y (kind_of g w i x) (kind_of g w i a.node) vs a.words refl refl opened (kept.open_block i a.node a.fired) mine
            (given-to (its_code g w i) a.node (kind_of g w i a.node) a.words y a.among) in
            new (subst (λ z. F i z) (sym same) a.fired)

        by_message : A (Carry i y t) × (is_received (kind_of g w i y) ≡ true) → ⊥
        by_message a = true≢false (sym a.1 ∙ given-no_message (its_code g w i) x (kind_of g w i x) vs y refl mine)

    module _ (callers : CallersThere w) (have : HaveThese w i (operands_of (its_code g w i) (kind_of g w i x)) vs) where
      -- those that fired before, and this one
      abbrev pub AndThis : ℕ → ℕ → Type 0
      AndThis j z = F j z ⊎ ((j ≡ i) × (z ≡ x))

      -- what was sent before, and by this firing
      abbrev pub AndSent : Effect → ℕ → ℕ → Message → Type 0
      AndSent e j z m = S j z m ⊎ ((j ≡ i) × (z ≡ x) × In m e.sends)

      module _ (e : Effect) (fires : e ≡ firing_of g w i x (kind_of g w i x) vs) where
        -- what the firing leaves
        leaves : Leaves w e.world i (gift (its_code g w i) x (kind_of g w i x) vs) (opens (its_code g w i) x (kind_of g w i x) vs)
        leaves = subst (λ (f : Effect). Leaves w f.world i (gift (its_code g w i) x (kind_of g w i x) vs) (opens (its_code g w i) x (kind_of g w i x) vs))
            (sym fires) (leaves-firing g w i x (kind_of g w i x) vs)

        -- all words stay
        on-firing : Onward w e.world
        on-firing = record {
          there = λ j t. subst (λ n. j < n) (sym leaves.frames.as_many) t;
          code = λ j t. leaves.frames.code j;
          caller = λ j t. leaves.frames.caller j;
          call = λ j t. leaves.frames.call j;
          words = λ j y u h. ⊎_elim (λ k. k ∙ h) (λ k. absurd (fresh y u k.1 (subst (λ l. word_of w l y ≡ u ∷ []) k.0 h))) (leaves.words j y);
          blocks = leaves.stay;
        }

        -- its operands have the words still
        this-have : HaveThese e.world i (operands_of (its_code g e.world i) (kind_of g e.world i x)) vs
        this-have = subst (λ n. HaveThese e.world i (operands_of (code_of g n) (kind_at (code_of g n) x)) vs) (sym (leaves.frames.code i))
            (have-later w e.world on-firing i (operands_of (its_code g w i) (kind_of g w i x)) vs have)

        -- the node has done what it does
        this-done : HasDone g e.world (AndSent e i x) i x
        this-done = record {
          words = vs;
          have = this-have;
          sent = λ m a. inr (
            refl,
            refl,
            subst (λ (f : Effect). In m f.sends) (sym fires)
                (subst (λ l. In m l) (sends-later g w e.world on-firing callers i x vs there) a),
          );
          gave = subst (λ n. (y : ℕ) → In y (gift (code_of g n) x (kind_at (code_of g n) x) vs).0
              → word_of e.world i y ≡ (gift (code_of g n) x (kind_at (code_of g n) x) vs).1 ∷ []) (sym same) (λ y a. leaves.given y there a);
          entered = subst (λ n. (b : ℕ) → In b (opens (code_of g n) x (kind_at (code_of g n) x) vs) → has_entered e.world i b ≡ true) (sym same)
              (λ b a. leaves.opened b there a);
        }
          where
            same : (activation_at e.world i).code ≡ (activation_at w i).code
            same = leaves.frames.code i

        -- a word that it gives is its gift
        this-gift : (y u : ℕ) → In y (gift (its_code g w i) x (kind_of g w i x) vs).0
            → word_of e.world i y ≡ (gift (its_code g w i) x (kind_of g w i x) vs).1 ∷ [] → word_of e.world i y ≡ u ∷ [] → IsGift g e.world AndThis i y u
        this-gift y u a k h = record {
          node = x;
          words = vs;
          fired = inr (refl, refl);
          have = this-have;
          among = subst (λ n. In y (gift (code_of g n) x (kind_at (code_of g n) x) vs).0) (sym (leaves.frames.code i)) a;
          word = subst (λ n. u ≡ (gift (code_of g n) x (kind_at (code_of g n) x) vs).1) (sym (leaves.frames.code i)) (word-one e.world i y u _ h k);
        }

        -- a block that it enters is entered by it
        this-entered : (b : ℕ) → In b (opens (its_code g w i) x (kind_of g w i x) vs) → IsEntered g e.world AndThis i b
        this-entered b a = record {
          node = x;
          words = vs;
          fired = inr (refl, refl);
          have = this-have;
          among = subst (λ n. In b (opens (code_of g n) x (kind_at (code_of g n) x) vs)) (sym (leaves.frames.code i)) a;
        }

        -- what it sends is its wish
        this-wish : (m : Message) → In m e.sends → IsWish g e.world AndThis m i x
        this-wish m a = record {
          words = vs;
          fired = inr (refl, refl);
          have = this-have;
          among = subst (λ l. In m l) (sym (sends-later g w e.world on-firing callers i x vs there)) (subst (λ (f : Effect). In m f.sends) fires a);
        }

        -- so the world keeps what it kept
        keeps-firing : IsKept g e.world AndThis (AndSent e) A
        keeps-firing = record {
          there = λ j z h. ⊎_elim (λ k. on-firing.there j (kept.there j z k)) (λ k. on-firing.there j (subst (λ l. IsThere w l) (sym k.0) there)) h;
          open_block = λ j z h. ⊎_elim (λ k. open-later g w e.world on-firing j z (kept.there j z k) (kept.open_block j z k)) (λ k. this-open j z k.0 k.1) h;
          done = λ j z h. ⊎_elim (λ k. done-later g w e.world on-firing callers (S j z) (AndSent e j z) (λ m a. inl a) j z (kept.there j z k) (kept.done j z k))
              (λ k. subst (λ l. HasDone g e.world (AndSent e l z) l z) (sym k.0) (subst (λ l. HasDone g e.world (AndSent e i l) i l) (sym k.1) this-done)) h;
          sources = λ j y u h. ⊎_elim (λ k. old_word j y u (sym k ∙ h)) (λ k. inl (subst (λ l. IsGift g e.world AndThis l y u) (sym k.0)
              (new_word j y u k.0 k.1 k.2 h))) (leaves.words j y);
          blocks = λ j b t h. ⊎_elim (λ k. old_block j b (subst (λ n. j < n) leaves.frames.as_many t) k)
              (λ k. inr (subst (λ l. IsEntered g e.world AndThis l b) (sym k.0) (this-entered b k.1))) (leaves.new j b h);
        }
          where
            this-open : (j z : ℕ) → j ≡ i → z ≡ x → has_entered e.world j (block_at (its_code g e.world j) z) ≡ true
            this-open j z p q =
                subst (λ l. has_entered e.world l (block_at (its_code g e.world l) z) ≡ true) (sym p)
                (subst (λ l. has_entered e.world i (block_at (its_code g e.world i) l) ≡ true) (sym q) (open-later g w e.world on-firing i x there opened))

            old_word : (j y u : ℕ) → word_of w j y ≡ u ∷ [] → IsGift g e.world AndThis j y u ⊎ (A (Carry j y u) × (is_received (kind_of g e.world j y) ≡ true))
            old_word j y u k = ⊎_elim (λ a. inl (gift-later g w e.world on-firing F AndThis (λ l z m. inl m) j y u (kept.there j a.node a.fired) a))
                (λ a. inr (a.0, received-later g w e.world on-firing j y (word-act w j y u k) a.1)) (kept.sources j y u k)

            new_word : (j y u : ℕ) → j ≡ i → In y (gift (its_code g w i) x (kind_of g w i x) vs).0
                → word_of e.world j y ≡ (gift (its_code g w i) x (kind_of g w i x) vs).1 ∷ [] → word_of e.world j y ≡ u ∷ [] → IsGift g e.world AndThis i y u
            new_word j y u p a k h =
                this-gift y u a (subst (λ l. word_of e.world l y ≡ (gift (its_code g w i) x (kind_of g w i x) vs).1 ∷ []) p k)
                (subst (λ l. word_of e.world l y ≡ u ∷ []) p h)

            old_block : (j b : ℕ) → IsThere w j → has_entered w j b ≡ true → (b ≡ 0) ⊎ IsEntered g e.world AndThis j b
            old_block j b t k = ⊎_elim inl (λ a. inr (entered-later g w e.world on-firing F AndThis (λ l z m. inl m) j b t a)) (kept.blocks j b t k)

      -- the firing keeps words, activations and blocks
      pub fired-onward : Onward w (fired g w i x).world
      fired-onward = on-firing (fired g w i x) (fires-with g w i x vs have)

      -- and what the world kept
      pub fired-keeps : IsKept g (fired g w i x).world AndThis (AndSent (fired g w i x)) A
      fired-keeps = keeps-firing (fired g w i x) (fires-with g w i x vs have)

      -- each message that it sends is its wish
      pub fired-wishes : (m : Message) → In m (fired g w i x).sends → IsWish g (fired g w i x).world AndThis m i x
      fired-wishes = this-wish (fired g w i x) (fires-with g w i x vs have)
