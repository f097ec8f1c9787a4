-- Messages, threads 0 and connectors are charged to nodes: a word to the node that gets it, a wish to the node that asks, a word to the outside to the
-- root's result, thread 0 to its activation's call, a connector to its cond or switch.
use Rattle.std.proofs.Common.{◌≡◌, ◌≢◌, ℕ, zero, suc, ◌<◌, Bool, true, false, List, [], ◌∷◌, Option, None, Some, slice_get, length}
use Rattle.std.proofs.Common.{refl, sym, ap, ap₂, subst, ◌∙◌, inl, inr, ◌⊎◌, ⊎_elim, arith, true≢false, ◌==◌}
use Rattle.tam_word.specs.Lists.{has}
use Rattle.tam_word.proofs.Tests.{number-eq, number-differs}
use Rattle.tam_word.proofs.Each.{all-at_place}
use Rattle.tam_word.proofs.Members.{In}
use Rattle.tam_msgs.specs.declared.message.Message.{Message}
use Rattle.tam_msgs.specs.declared.message.Message.TheVariants.{Word as Carry, Frame as Begin, Cells as Make, Fetch as Ask_cell, Store as Put_cell}
use Rattle.tam_msgs.specs.Messages.{outside}
use Rattle.tam_graph.specs.declared.kind.Kind.{Kind}
use Rattle.tam_graph.specs.declared.kind.Kind.TheVariants.{Call as Invoke, Give, Alloc, Fetch, Store, Cond, Switch as Choose}
use Rattle.tam_graph.specs.declared.kind.Kind.TheVariants.{Enter}
use Rattle.tam_graph.specs.Graphs.{Graph, kind_at, nodes_in, is_enter, is_outlet, owner_of, chosen_branch, branch_of_kind}
use Rattle.tam_graph.specs.Accepted.{IsAccepted}
use Rattle.tam_split.specs.GraphPartitions.{are_valid, partitions}
use Rattle.tam_split.proofs.Firers.{node-block}
use Rattle.tam_fire.specs.FiringRules.{Instance, IsActive, Giver as Of_giver, Firer as Of_firer}
use Rattle.tam_world.specs.Worlds.{activation_at, its_code, has_entered}
use Rattle.tam_flow.specs.Journals.{State}
use Rattle.tam_flow.specs.Told.{Tells, path_of}
use Rattle.tam_flow.specs.Reached.{IsThere, IsReached, Has, Ran, WordSource, kind_of}
use Rattle.tam_flow.proofs.ActivationLists.{has-word}
use Rattle.tam_flow.proofs.Nodes.{is-enter}
use Rattle.tam_flow.proofs.Pairs.{pairs-at}
use Rattle.tam_flow.proofs.Senders.{Tag, TagApart, asks}
use Rattle.tam_flow.proofs.SentAs.{SentAs, AsBegin, AsMake, AsAsk, AsPut, sent-as}
use Rattle.tam_flow.proofs.SentOnce.{HasFired, IsOnceState, tag-at, nil-cons}
use Rattle.tam_flow.proofs.SoundStates.{IsSoundState}
use Rattle.tam_flow.proofs.FiredOutlets.{fired-ran}
use Rattle.tam_flow.proofs.OutsideFirings.{OutApart}
use Rattle.tam_flow.proofs.OutsideWords.{IsOutState, IsOutCaused}
use Rattle.tam_flow.proofs.KeptRuns.{IsKeptState, IsOfFiring}
use Rattle.tam_flow.proofs.WordSources.{IsWordState}
use Rattle.tl0_code.specs.Machines.{Machine}
use Rattle.tl0_code.specs.ThreadCode.{code_text, plain}
use Rattle.tl0_keep.specs.Compiled.{compiled_with, yes_of, no_of, is_choosing}
use Rattle.tl0_keep.proofs.code.ThreadKinds.{ThreadKind, Entry, Class, Then_of, Else_of, AreAllParts}
use Rattle.tl0_keep.proofs.class_run.Entered.{owner-fired}
use Rattle.tl0_keep.proofs.class_run.MayRun.{then-chosen, else-chosen}
use Rattle.tl0_keep.proofs.runs.Keeps.{parts_in, HasEntered, ChoseThen, ChoseElse, Keeps}
use Rattle.tl0_keep.proofs.code.CodeFacts.{TextFacts, CodeFacts}
use Rattle.tl0_keep.proofs.runs.ClassGoals.{OthersAre, IsAsking}
use Rattle.tl0_keep.proofs.runs.Reasons.{in-first}
use Rattle.tl0_keep.proofs.runs.Tallies.{givers-one, firers-one, mixed}
use Rattle.tl0_keep.proofs.runs.ChargedClasses.{giver-told, firer-told}

-- what is charged to a node that fires beside its class: 1 where it asks, 2 where it is a result, 3 where it chooses
abbrev pub errand : Kind → ℕ
errand (Invoke f) = 1
errand (Alloc n) = 1
errand (Fetch a i) = 1
errand (Store a i v) = 1
errand (Give k a) = 2
errand (Cond p y n) = 3
errand (Choose d k a) = 3
errand _ = 0

-- what chooses is an outlet with connectors
choosing-errand : (k : Kind) → is_choosing k ≡ true → (errand k ≡ 3) × (is_outlet k ≡ true)
choosing-errand (Cond p y n) h = (refl, refl)
choosing-errand (Choose d k a) h = (refl, refl)
choosing-errand k h = absurd (true≢false (sym h))

-- a message that asks is a wish
asking-asks : (m : Message) → IsAsking m → asks m ≡ true
asking-asks (Carry f x v) h = absurd h
asking-asks (Begin c f x) h = refl
asking-asks (Make n f x) h = refl
asking-asks (Ask_cell a j f x t) h = refl
asking-asks (Put_cell a j v t) h = refl

-- words of one message are of one receiver
carry-one : {f x u e y v : ℕ} → Some (Carry f x u) ≡ Some (Carry e y v) → (f ≡ e) × (x ≡ y) × (u ≡ v)
carry-one q = (cc, cc, cc)

module _ (g : Graph) (args : List ℕ) (accepted : IsAccepted g) (valid : are_valid g (partitions g) ≡ true) (facts : CodeFacts g (partitions g))
    (parts : AreAllParts g (partitions g)) (s : State) (sound : IsSoundState g args s) (once : IsOnceState g args (partitions g) s)
    (words : IsWordState g (partitions g) s) (state : IsKeptState g (partitions g) s) (reached : IsReached g (partitions g) args s)
    (out : IsOutState g args (partitions g) s)
    (stands : (i y d k a : ℕ) → HasFired g (partitions g) s i y → kind_of g s.world i y ≡ Choose d k a → HasFired g (partitions g) s i d)
    (m : Machine) (others : List (ℕ × ThreadKind)) (keeps : Keeps g (partitions g) m s others []) (others_are : OthersAre g (partitions g) s others) where
  -- node x of activation i fires, with this errand, as an instance that is told
  pub record IsFirer (i x e : ℕ) (y : Instance) : Type 0 where
    pub act : IsThere s.world i
    pub is : y ≡ Of_firer (path_of s.world i) x
    pub errand_is : errand (kind_of g s.world i x) ≡ e
    pub active : IsActive (Tells g (partitions g) s) y

  -- one instance is one node, with one errand
  firers-same : (i x e j z d : ℕ) (y : Instance) → IsFirer i x e y → IsFirer j z d y → (i ≡ j) × (x ≡ z) × (e ≡ d)
  firers-same i x e j z d y h k =
      let r = firers-one (sym h.is ∙ k.is) in
      let p = reached.activations.paths_differ i j h.act k.act r.0 in
      (p, r.1, sym h.errand_is ∙ (ap₂ (λ a b. errand (kind_of g s.world a b)) p r.1 ∙ k.errand_is))

  -- an outlet that ran is one
  firer-is : (i x e : ℕ) → IsThere s.world i → is_outlet (kind_of g s.world i x) ≡ true → errand (kind_of g s.world i x) ≡ e → Ran g (partitions g) s i x
      → IsFirer i x e (Of_firer (path_of s.world i) x)
  firer-is i x e l o q r = record {
    act = l;
    is = refl;
    errand_is = q;
    active = firer-told g args accepted valid s sound state reached i x l o r;
  }

  -- ---- messages

  -- a word for a node that got it
  pub record OfWord (n : ℕ) (y : Instance) : Type 0 where
    pub act : ℕ
    pub node : ℕ
    pub word : ℕ
    pub sent : slice_get s.sent n ≡ Some (Carry act node word)
    pub inside : act ≢ outside
    pub there : IsThere s.world act
    pub is : y ≡ Of_giver (path_of s.world act) node
    pub active : IsActive (Tells g (partitions g) s) y

  -- a wish of a node that fired
  pub record OfWish (n : ℕ) (y : Instance) : Type 0 where
    pub tag : Tag
    pub sent : slice_get state.tags n ≡ Some tag
    pub wish : asks tag.0 ≡ true
    pub firer : IsFirer tag.1 tag.2 1 y

  -- a word for the outside
  pub record OfResult (n : ℕ) (y : Instance) : Type 0 where
    pub node : ℕ
    pub place : ℕ
    pub operand : ℕ
    pub word : ℕ
    pub sent : slice_get s.sent n ≡ Some (Carry outside place word)
    pub kind : kind_of g s.world 0 node ≡ Give place operand
    pub firer : IsFirer 0 node 2 y

  -- a message
  abbrev pub OfMessage : ℕ → Instance → Type 0
  OfMessage n y = OfWord n y ⊎ (OfWish n y ⊎ OfResult n y)

  -- a wish has a node
  wish-charged : (n : ℕ) (q : Message) → slice_get s.sent n ≡ Some q → asks q ≡ true → (y : Instance) × OfMessage n y
  wish-charged n q e h = go (tag-at state.tags n q (ap (λ (ms : List Message). slice_get ms n) state.same ∙ e))
    where
      go : (t : Tag) × (slice_get state.tags n ≡ Some t) × (t.0 ≡ q) → (y : Instance) × OfMessage n y
      go (t, at, is) =
          let w = subst (λ z. asks z ≡ true) (sym is) h in
          let k = all-at_place (IsOfFiring g s.world (HasFired g (partitions g) s)) state.tags n t state.of_firings at w in
          let r = kind (kind_of g s.world t.1 t.2) k.words (sent-as g s.world t.1 t.2 t.0 w (kind_of g s.world t.1 t.2) k.words k.among) in (
            Of_firer (path_of s.world t.1) t.2,
            inr (inl (record {
              tag = t;
              sent = at;
              wish = w;
              firer = firer-is t.1 t.2 1 k.fired.there r.1 r.0 (fired-ran g args (partitions g) s valid sound t.1 t.2 k.fired r.1);
            })),
          )
        where
          kind : (k : Kind) (vs : List ℕ) → SentAs s.world t.1 t.2 k vs t.0 → (errand k ≡ 1) × (is_outlet k ≡ true)
          kind k vs (AsBegin c e m) = (ap errand e, ap is_outlet e)
          kind k vs (AsMake a n e v m) = (ap errand e, ap is_outlet e)
          kind k vs (AsAsk a j u v e w m) = (ap errand e, ap is_outlet e)
          kind k vs (AsPut a j b t u v e w m) = (ap errand e, ap is_outlet e)

  -- a word has one too, once it arrived
  word-charged : (n f x v : ℕ) → slice_get s.sent n ≡ Some (Carry f x v) → has s.arrived n ≡ true → (y : Instance) × OfMessage n y
  word-charged n f x v e a = go (f == outside) refl
    where
      go : (t : Bool) → (f == outside) ≡ t → (y : Instance) × OfMessage n y
      go false p =
          let f-in = number-differs f outside p in
          let h : Has s f x v = reached.arrivals.carried f x v (n, e, a) f-in in
          let l = reached.words.words_there f x v h in (
            Of_giver (path_of s.world f) x,
            inl (record {
              act = f;
              node = x;
              word = v;
              sent = e;
              inside = f-in;
              there = l;
              is = refl;
              active = giver-told g args accepted valid s sound state reached f x l (v, h);
            }),
          )
      go true p =
          let e : slice_get s.sent n ≡ Some (Carry outside x v) = subst (λ z. slice_get s.sent n ≡ Some (Carry z x v)) (number-eq f outside p) e in
          let r = all-at_place (IsOutCaused g args (partitions g) s) s.sent n (Carry outside x v) out.causes e x v refl in
          let k : kind_of g s.world 0 r.0 ≡ Give x r.2.operand = r.2.is_give in (
            Of_firer (path_of s.world 0) r.0,
            inr (inr (record {
              node = r.0;
              place = x;
              operand = r.2.operand;
              word = v;
              sent = e;
              kind = k;
              firer = firer-is 0 r.0 2 r.1.there (ap is_outlet k) (ap errand k) (fired-ran g args (partitions g) s valid sound 0 r.0 r.1 (ap is_outlet k));
            })),
          )

  -- each message that arrived has one
  pub message-charged : (n : ℕ) → has s.arrived n ≡ true → (y : Instance) × OfMessage n y
  message-charged n a = by (slice_get s.sent n) refl
    where
      one : (q : Message) → slice_get s.sent n ≡ Some q → (y : Instance) × OfMessage n y
      one (Carry f x v) e = word-charged n f x v e a
      one (Begin c f x) e = wish-charged n (Begin c f x) e refl
      one (Make l f x) e = wish-charged n (Make l f x) e refl
      one (Ask_cell b j f x t) e = wish-charged n (Ask_cell b j f x t) e refl
      one (Put_cell b j v t) e = wish-charged n (Put_cell b j v t) e refl

      by : (o : Option Message) → slice_get s.sent n ≡ o → (y : Instance) × OfMessage n y
      by (Some q) e = one q e
      by None e = absurd (past s.sent n (keeps.messages.arrived_sent n a) e)
        where
          past : (ms : List Message) (n : ℕ) → n < length ms → slice_get ms n ≡ None → ⊥
          past [] n l q = absurd (omega arith)
          past (z ∷ zs) zero l q = cc
          past (z ∷ zs) (suc n) l q = past zs n (omega arith) q

  -- and so has one on its way that asks
  pub asking-charged : (n : ℕ) (q : Message) → slice_get s.sent n ≡ Some q → IsAsking q → (y : Instance) × OfMessage n y
  asking-charged n q e h = wish-charged n q e (asking-asks q h)

  -- different messages have different ones
  pub messages-apart : (n k : ℕ) (y : Instance) → OfMessage n y → OfMessage k y → n ≡ k
  messages-apart n k y (inl a) (inl b) =
      let r = givers-one (sym a.is ∙ b.is) in
      let p = reached.activations.paths_differ a.act b.act a.there b.there r.0 in
      reached.once.one_word n k a.act a.node a.word b.word a.inside a.sent
      (subst (λ z. slice_get s.sent k ≡ Some (Carry z a.node b.word)) (sym p) (subst (λ z. slice_get s.sent k ≡ Some (Carry b.act z b.word)) (sym r.1) b.sent))
  messages-apart n k y (inr (inl a)) (inr (inl b)) =
      let r = firers-same a.tag.1 a.tag.2 1 b.tag.1 b.tag.2 1 y a.firer b.firer in
      ⊎_elim (λ e. e) (λ h. absurd (⊎_elim (λ t. t a.wish b.wish r.0 r.1) (λ t. t b.wish a.wish (sym r.0) (sym r.1)) h))
      (pairs-at TagApart state.tags n k a.tag b.tag state.apart a.sent b.sent)
  messages-apart n k y (inr (inr a)) (inr (inr b)) =
      let r = firers-same 0 a.node 2 0 b.node 2 y a.firer b.firer in
      let p : a.place ≡ b.place = gives (sym a.kind ∙ (ap (kind_of g s.world 0) r.1 ∙ b.kind)) in
      ⊎_elim (λ e. e)
      (λ h. absurd (⊎_elim (λ t. t a.place a.word b.word refl (ap (λ z. Carry outside z b.word) (sym p)))
      (λ t. t a.place b.word a.word (ap (λ z. Carry outside z b.word) (sym p)) refl) h))
      (pairs-at OutApart s.sent n k (Carry outside a.place a.word) (Carry outside b.place b.word) out.apart a.sent b.sent)
    where
      gives : {p q a b : ℕ} → Give p a ≡ Give q b → p ≡ q
      gives e = cc
  messages-apart n k y (inl a) (inr (inl b)) = absurd (mixed (sym b.firer.is ∙ a.is))
  messages-apart n k y (inl a) (inr (inr b)) = absurd (mixed (sym b.firer.is ∙ a.is))
  messages-apart n k y (inr (inl a)) (inl b) = absurd (mixed (sym a.firer.is ∙ b.is))
  messages-apart n k y (inr (inr a)) (inl b) = absurd (mixed (sym a.firer.is ∙ b.is))
  messages-apart n k y (inr (inl a)) (inr (inr b)) =
      let r = firers-same a.tag.1 a.tag.2 1 0 b.node 2 y a.firer b.firer in absurd (omega (arith, r.2))
  messages-apart n k y (inr (inr a)) (inr (inl b)) =
      let r = firers-same 0 a.node 2 b.tag.1 b.tag.2 1 y a.firer b.firer in absurd (omega (arith, r.2))

  -- ---- connectors

  -- what is known of the code of an activation
  text : (i : ℕ) → IsThere s.world i
      → TextFacts g (its_code g s.world i) (parts_in g (partitions g) s others i) (code_text (plain (compiled_with g (partitions g)))
      (activation_at s.world i).code)
  text i l = facts.texts (activation_at s.world i).code (keeps.frames.known i l)

  -- a cond whose branch is entered has run
  cond-ran : (i x p y n b : ℕ) → IsThere s.world i → kind_of g s.world i x ≡ Cond p y n → owner_of (its_code g s.world i) b ≡ x ∷ []
      → has_entered s.world i b ≡ true → Ran g (partitions g) s i x
  cond-ran i x p y n b l e o h = fired-ran g args (partitions g) s valid sound i x
      (owner-fired g args accepted (partitions g) facts s once words state reached stands i l b x o h) (ap is_outlet e)

  -- a switch of whose branch an `in` has a word has run
  switch-ran : (i x d k a b : ℕ) → IsThere s.world i → kind_of g s.world i x ≡ Choose d k a → owner_of (its_code g s.world i) b ≡ d ∷ []
      → HasEntered g (partitions g) s others (its_code g s.world i) i b k → Ran g (partitions g) s i x
  switch-ran i x d k a b l e o (f, among, w) =
      let c = its_code g s.world i in
      let t = text i l in
      let r = in-first (λ z. is_enter k (kind_at c z)) (nodes_in c b) f among in
      let u = has-word (activation_at s.world i).words f w in
      let q : WordSource g (partitions g) s i f u.0 (Enter k) = subst (λ z. WordSource g (partitions g) s i f u.0 z) (is-enter k (kind_at c f) r.1)
      (reached.words.sources i f u.0 u.1) in
      by q.0 q.1 q.2 q.3 q.4 (sym (node-block c b f r.0) ∙ q.5) q.6
    where
      one : {y z : ℕ} → y ∷ [] ≡ z ∷ [] → y ≡ z
      one q = cc

      side : (z p y n v : ℕ) → kind_of g s.world i z ≡ Cond p y n → owner_of (its_code g s.world i) (chosen_branch (its_code g s.world i) z v) ≡ z ∷ []
      side z p y n zero e = subst (λ t. owner_of (its_code g s.world i) t ≡ z ∷ []) (sym (ap (λ t. branch_of_kind t 0) e)) ((text i l).branches z p y n e).1
      side z p y n (suc v) e = subst (λ t. owner_of (its_code g s.world i) t ≡ z ∷ []) (sym (ap (λ t. branch_of_kind t (suc v)) e))
          ((text i l).branches z p y n e).0

      by : (y z a v : ℕ) → kind_of g s.world i y ≡ Choose z k a → b ≡ chosen_branch (its_code g s.world i) z v → Ran g (partitions g) s i y
          → Ran g (partitions g) s i x
      by y z a v is at ran =
          let r = (text i l).switch_cond y z k a is in
          let same : z ≡ d = one (sym (side z r.0 r.1.0 r.1.1.0 v r.1.1.1) ∙ (ap (owner_of (its_code g s.world i)) (sym at) ∙ o)) in
          let found : y ≡ x = one (sym ((text i l).switch_at y d k a (subst (λ n. kind_of g s.world i y ≡ Choose n k a) same is))
          ∙ (text i l).switch_at x d k _ e) in
          subst (λ n. Ran g (partitions g) s i n) found ran

  -- the node of a then connector has run
  then-ran : (i x : ℕ) → IsThere s.world i → x < length (its_code g s.world i).nodes → is_choosing (kind_of g s.world i x) ≡ true → In (i, Then_of x) others
      → Ran g (partitions g) s i x
  then-ran i x l w h been = go (kind_of g s.world i x) refl h
      (then-chosen g args accepted (partitions g) facts parts s once words state reached stands m others keeps i l x w h been)
    where
      go : (k : Kind) → kind_of g s.world i x ≡ k → is_choosing k ≡ true → ChoseThen g (partitions g) s others (its_code g s.world i) i k
          → Ran g (partitions g) s i x
      go (Cond p y n) e h c = cond-ran i x p y n y l e ((text i l).branches x p y n e).0 c
      go (Choose d k a) e h c =
          let r = (text i l).switch_cond x d k a e in
          switch-ran i x d k a (yes_of (kind_of g s.world i d)) l e
          (ap (λ z. owner_of (its_code g s.world i) (yes_of z)) r.1.1.1 ∙ ((text i l).branches d r.0 r.1.0 r.1.1.0 r.1.1.1).0) c
      go k e h c = absurd (true≢false (sym h))

  -- and that of an else connector
  else-ran : (i x : ℕ) → IsThere s.world i → x < length (its_code g s.world i).nodes → is_choosing (kind_of g s.world i x) ≡ true → In (i, Else_of x) others
      → Ran g (partitions g) s i x
  else-ran i x l w h been = go (kind_of g s.world i x) refl h
      (else-chosen g args accepted (partitions g) facts parts s once words state reached stands m others keeps i l x w h been)
    where
      go : (k : Kind) → kind_of g s.world i x ≡ k → is_choosing k ≡ true → ChoseElse g (partitions g) s others (its_code g s.world i) i k
          → Ran g (partitions g) s i x
      go (Cond p y n) e h c = cond-ran i x p y n n l e ((text i l).branches x p y n e).1 c
      go (Choose d k a) e h c =
          let r = (text i l).switch_cond x d k a e in
          switch-ran i x d k a (no_of (kind_of g s.world i d)) l e
          (ap (λ z. owner_of (its_code g s.world i) (no_of z)) r.1.1.1 ∙ ((text i l).branches d r.0 r.1.0 r.1.1.0 r.1.1.1).1) c
      go k e h c = absurd (true≢false (sym h))

  -- ---- threads 0 and connectors

  -- thread 0 is charged to its call, a then connector to its node
  abbrev pub ThenFrom : ℕ → ThreadKind → Instance → Type 0
  ThenFrom i Entry y = (f : ℕ) × ((x : ℕ) × (IsThere s.world i × (path_of s.world i ≡ x ∷ path_of s.world f) × IsFirer f x 1 y))
  ThenFrom i (Then_of x) y = IsFirer i x 3 y
  ThenFrom i (Else_of x) y = ⊥
  ThenFrom i (Class b k) y = ⊥

  -- an else connector to its node
  abbrev pub ElseFrom : ℕ → ThreadKind → Instance → Type 0
  ElseFrom i (Else_of x) y = IsFirer i x 3 y
  ElseFrom i n y = ⊥

  -- the thread 0 of an activation but the root has its call
  pub entry-charged : (i : ℕ) → 0 < i → In (i, Entry) others → (y : Instance) × ThenFrom i Entry y
  entry-charged i low m = ⊎_elim none began (once.begun_by i there)
    where
      there : IsThere s.world i
      there = keeps.others_there i Entry m

      none : path_of s.world i ≡ [] → (y : Instance) × ThenFrom i Entry y
      none e = absurd (nil-cons (sym e ∙ reached.activations.paths i low there))

      began : (n c f x : ℕ) × (slice_get s.sent n ≡ Some (Begin c f x)) × (has s.arrived n ≡ true) × (f < i) × (path_of s.world i ≡ x ∷ path_of s.world f)
          → (y : Instance) × ThenFrom i Entry y
      began (n, c, f, x, sent, arrived, below, path) =
          let r = reached.once.begin_sender n c f x sent in
          (Of_firer (path_of s.world f) x, (f, (x, (there, path, firer-is f x 1 r.0 (ap is_outlet r.1) (ap errand r.1) r.2))))

  -- connectors have their nodes
  pub then-charged : (i x : ℕ) → In (i, Then_of x) others → (y : Instance) × ThenFrom i (Then_of x) y
  then-charged i x m =
      let l = keeps.others_there i (Then_of x) m in
      let t = (others_are i (Then_of x) m).1 in
      let k = choosing-errand (kind_of g s.world i x) t.1 in
      (Of_firer (path_of s.world i) x, firer-is i x 3 l k.1 k.0 (then-ran i x l t.0 t.1 m))

  pub else-charged : (i x : ℕ) → In (i, Else_of x) others → (y : Instance) × ElseFrom i (Else_of x) y
  else-charged i x m =
      let l = keeps.others_there i (Else_of x) m in
      let t = (others_are i (Else_of x) m).1 in
      let k = choosing-errand (kind_of g s.world i x) t.1 in
      (Of_firer (path_of s.world i) x, firer-is i x 3 l k.1 k.0 (else-ran i x l t.0 t.1 m))

  -- different ones have different nodes
  pub thens-apart : (i j : ℕ) (n k : ThreadKind) (y : Instance) → ThenFrom i n y → ThenFrom j k y → ◌≡◌ {A = ℕ × ThreadKind} (i, n) (j, k)
  thens-apart i j Entry Entry y (f, (x, (l, p, a))) (e, (z, (o, q, b))) =
      let r = firers-same f x 1 e z 1 y a b in
      let same : path_of s.world i ≡ path_of s.world j = p ∙ (ap₂ (λ (h : ℕ) (t : ℕ). h ∷ path_of s.world t) r.1 r.0 ∙ sym q) in
      ap {B = ℕ × ThreadKind} (λ h. (h, Entry)) (reached.activations.paths_differ i j l o same)
  thens-apart i j (Then_of x) (Then_of z) y a b =
      let r = firers-same i x 3 j z 3 y a b in
      ap₂ {C = ℕ × ThreadKind} (λ (h t : ℕ). (h, Then_of t)) r.0 r.1
  thens-apart i j Entry (Then_of z) y (f, (x, (l, p, a))) b = let r = firers-same f x 1 j z 3 y a b in absurd (omega (arith, r.2))
  thens-apart i j (Then_of z) Entry y b (f, (x, (l, p, a))) = let r = firers-same f x 1 i z 3 y a b in absurd (omega (arith, r.2))
  thens-apart i j (Else_of x) k y a b = absurd a
  thens-apart i j (Class c x) k y a b = absurd a
  thens-apart i j n (Else_of x) y a b = absurd b
  thens-apart i j n (Class c x) y a b = absurd b

  pub elses-apart : (i j : ℕ) (n k : ThreadKind) (y : Instance) → ElseFrom i n y → ElseFrom j k y → ◌≡◌ {A = ℕ × ThreadKind} (i, n) (j, k)
  elses-apart i j (Else_of x) (Else_of z) y a b =
      let r = firers-same i x 3 j z 3 y a b in
      ap₂ {C = ℕ × ThreadKind} (λ (h t : ℕ). (h, Else_of t)) r.0 r.1
  elses-apart i j Entry k y a b = absurd a
  elses-apart i j (Class c x) k y a b = absurd a
  elses-apart i j (Then_of x) k y a b = absurd a
  elses-apart i j n Entry y a b = absurd b
  elses-apart i j n (Class c x) y a b = absurd b
  elses-apart i j n (Then_of x) y a b = absurd b

  -- no message has the node of a connector
  pub message-else : (n i : ℕ) (k : ThreadKind) (y : Instance) → OfMessage n y → ElseFrom i k y → ⊥
  message-else n i (Else_of x) y (inl a) b = mixed (sym b.is ∙ a.is)
  message-else n i (Else_of x) y (inr (inl a)) b = let r = firers-same a.tag.1 a.tag.2 1 i x 3 y a.firer b in absurd (omega (arith, r.2))
  message-else n i (Else_of x) y (inr (inr a)) b = let r = firers-same 0 a.node 2 i x 3 y a.firer b in absurd (omega (arith, r.2))
  message-else n i Entry y a b = b
  message-else n i (Class c x) y a b = b
  message-else n i (Then_of x) y a b = b

  -- each of them is told
  pub message-told : (n : ℕ) (y : Instance) → OfMessage n y → IsActive (Tells g (partitions g) s) y
  message-told n y (inl a) = a.active
  message-told n y (inr (inl a)) = a.firer.active
  message-told n y (inr (inr a)) = a.firer.active

  pub then-told : (i : ℕ) (n : ThreadKind) (y : Instance) → ThenFrom i n y → IsActive (Tells g (partitions g) s) y
  then-told i Entry y (f, (x, (l, p, a))) = a.active
  then-told i (Then_of x) y a = a.active
  then-told i (Else_of x) y a = absurd a
  then-told i (Class b k) y a = absurd a

  pub else-told : (i : ℕ) (n : ThreadKind) (y : Instance) → ElseFrom i n y → IsActive (Tells g (partitions g) s) y
  else-told i (Else_of x) y a = a.active
  else-told i Entry y a = absurd a
  else-told i (Then_of x) y a = absurd a
  else-told i (Class b k) y a = absurd a
