-- Whoever sent a wish has run, with the words that the wish says, and each store that ran is the sender of its message.
use Rattle.std.proofs.Common.{◌≡◌, ℕ, zero, suc, true, List, [], ◌∷◌, map, Option, Some, length, slice_get, refl, sym, ap, ◌∙◌, subst, inl}
use Rattle.std.proofs.Common.{⊎_elim}
use Rattle.tam_msgs.specs.declared.message.Message.{Message}
use Rattle.tam_msgs.specs.declared.message.Message.TheVariants.{Frame as Begin, Cells as Make, Fetch as Ask_cell, Store as Put_cell}
use Rattle.tam_msgs.specs.Messages.{site}
use Rattle.tam_graph.specs.declared.kind.Kind.{Kind}
use Rattle.tam_graph.specs.declared.kind.Kind.TheVariants.{Call, Alloc, Fetch, Store}
use Rattle.tam_graph.specs.Graphs.{Graph, operands_of, is_outlet}
use Rattle.tam_split.specs.GraphPartitions.{Partitions}
use Rattle.tam_word.proofs.Members.{In, in-get}
use Rattle.tam_word.proofs.Each.{all-at_place}
use Rattle.tam_world.specs.Worlds.{activation_at, its_code, firing_of}
use Rattle.tam_flow.specs.Journals.{State, Event, state_after}
use Rattle.tam_flow.specs.JournalLaws.{IsJournal}
use Rattle.tam_flow.specs.Reached.{IsThere, kind_of, Ran, Has}
use Rattle.tam_flow.proofs.CellChanges.{some-eq}
use Rattle.tam_flow.proofs.FiringReasons.{HaveThese}
use Rattle.tam_flow.proofs.SoundStates.{IsSoundState, sound-journal}
use Rattle.tam_flow.proofs.SentOnce.{HasFired, tag-at}
use Rattle.tam_flow.proofs.Senders.{Tag, TagApart, asks}
use Rattle.tam_flow.proofs.Pairs.{pairs-at}
use Rattle.tam_flow.proofs.Kept.{IsWish}
use Rattle.tam_flow.proofs.KeptRuns.{IsOfFiring, IsKeptState}
use Rattle.tam_flow.proofs.KeptDeliveries.{OneWordSent}
use Rattle.tam_flow.proofs.KeptJournals.{kept-journal}
use Rattle.tam_flow.proofs.FiredOutlets.{fired-ran, done-with}
use Rattle.tam_flow.proofs.SentAs.{SentAs, AsBegin, AsMake, AsAsk, AsPut, sent-as}

-- as many senders as messages
length-tags : (ts : List Tag) → length {A = ℕ × ℕ} (map (λ t. (t.1, t.2)) ts) ≡ length (map (λ t. t.0) ts)
length-tags [] = refl
length-tags (t ∷ ts) = ap suc (length-tags ts)

-- what becomes of the element at a place
get-map : {Y : Type 0} (f : Tag → Y) (ts : List Tag) (n : ℕ) (t : Tag) → slice_get ts n ≡ Some t → slice_get (map f ts) n ≡ Some (f t)
get-map f [] n t e = absurd (cc)
get-map f (u ∷ ts) zero t e = let same : u ≡ t = cc in ap (λ z. Some (f z)) same
get-map f (u ∷ ts) (suc n) t e = get-map f ts n t e

-- equal senders
pair-eq : {a b c d : ℕ} → ◌≡◌ {A = Option (ℕ × ℕ)} (Some (a, b)) (Some (c, d)) → (a ≡ c) × (b ≡ d)
pair-eq {a} {b} {c} {d} e =
    let p : ◌≡◌ {A = ℕ × ℕ} (a, b) (c, d) = some-eq e in
    (ap (λ (z : ℕ × ℕ). z.0) p, ap (λ (z : ℕ × ℕ). z.1) p)

module _ (g : Graph) (all : Partitions) (args : List ℕ) (events : List Event) (journal : IsJournal g all args events)
    (once : OneWordSent (state_after g all args events)) where
  -- the state behind the journal
  abbrev s : State
  s = state_after g all args events

  -- it has its reasons
  sound : IsSoundState g args (state_after g all args events)
  sound = sound-journal g all args events journal

  -- it keeps firings, messages and words
  state : IsKeptState g all (state_after g all args events)
  state = kept-journal g all args events journal once

  -- the sender of each message, in order
  pub senders : List (ℕ × ℕ)
  senders = map (λ t. (t.1, t.2)) state.tags

  -- there are as many
  pub one-sender : length senders ≡ length (state_after g all args events).sent
  unfolding senders
  one-sender = length-tags state.tags ∙ ap (λ l. length l) state.same

  -- a wish that was sent, with its sender
  pub record IsSender (n : ℕ) (m : Message) : Type 0 where
    pub act : ℕ
    pub node : ℕ
    pub at : slice_get senders n ≡ Some (act, node)
    pub there : IsThere (state_after g all args events).world act
    pub fired : HasFired g all (state_after g all args events) act node
    pub words : List ℕ
    pub have : HaveThese (state_after g all args events).world act (operands_of (its_code g (state_after g all args events).world act)
        (kind_of g (state_after g all args events).world act node)) words
    pub as_sent : SentAs (state_after g all args events).world act node (kind_of g (state_after g all args events).world act node) words m

  -- each wish has one
  wish-sender : (n : ℕ) (m : Message) → slice_get s.sent n ≡ Some m → asks m ≡ true → IsSender n m
  unfolding senders
  wish-sender n m e wish = go (tag-at state.tags n m (subst (λ l. slice_get l n ≡ Some m) (sym state.same) e))
    where
      go : (t : Tag) × (slice_get state.tags n ≡ Some t) × (t.0 ≡ m) → IsSender n m
      go (t, p, q) =
          let h : IsWish g s.world (HasFired g all s) t.0 t.1 t.2 = all-at_place (IsOfFiring g s.world (HasFired g all s)) state.tags n t state.of_firings p
          (ap asks q ∙ wish) in
          record {
            act = t.1;
            node = t.2;
            at = get-map (λ u. (u.1, u.2)) state.tags n t p;
            there = state.kept.there t.1 t.2 h.fired;
            fired = h.fired;
            words = h.words;
            have = h.have;
            as_sent = sent-as g s.world t.1 t.2 m wish (kind_of g s.world t.1 t.2) h.words
                (subst (λ o. In o (firing_of g s.world t.1 t.2 (kind_of g s.world t.1 t.2) h.words).sends) q h.among);
          }

  -- a node of activation f that fired, is there and has words of its operands
  pub record HasSent (f x : ℕ) (k : Kind) (vs : List ℕ) : Type 0 where
    pub there : IsThere (state_after g all args events).world f
    pub kind : kind_of g (state_after g all args events).world f x ≡ k
    pub ran : Ran g all (state_after g all args events) f x
    pub have : HaveThese (state_after g all args events).world f (operands_of (its_code g (state_after g all args events).world f) k) vs

  -- by the sender of a wish
  by-sender : (n : ℕ) (m : Message) (h : IsSender n m) (f x : ℕ) (k : Kind) (vs : List ℕ) → h.act ≡ f → h.node ≡ x
      → kind_of g s.world h.act h.node ≡ k → h.words ≡ vs → is_outlet k ≡ true → HasSent f x k vs
  by-sender n m h f x k vs p q kind words outlet =
      subst (λ a. HasSent a x k vs) p (subst (λ y. HasSent h.act y k vs) q (record {
        there = h.there;
        kind = kind;
        ran = fired-ran g args all s journal.valid sound h.act h.node h.fired (ap is_outlet kind ∙ outlet);
        have = subst (λ l. HaveThese s.world h.act (operands_of (its_code g s.world h.act) k) l) words
            (subst (λ d. HaveThese s.world h.act (operands_of (its_code g s.world h.act) d) h.words) kind h.have);
      }))

  -- the call that sent a wish for an activation
  pub begin-sender : (n c f x : ℕ) → slice_get (state_after g all args events).sent n ≡ Some (Begin c f x) → HasSent f x (Call c) []
  begin-sender n c f x e = go (wish-sender n (Begin c f x) e refl)
    where
      go : IsSender n (Begin c f x) → HasSent f x (Call c) []
      go h = by h.as_sent
        where
          callee : {a b d y z w : ℕ} → Begin a b d ≡ Begin y z w → (a ≡ y) × (b ≡ z) × (d ≡ w)
          callee q = (cc, cc, cc)

          no-words : (vs : List ℕ) → HaveThese s.world h.act [] vs → vs ≡ []
          no-words [] a = refl
          no-words (v ∷ vs) a = absurd a

          by : SentAs s.world h.act h.node (kind_of g s.world h.act h.node) h.words (Begin c f x) → HasSent f x (Call c) []
          by (AsBegin d k m) =
              let r = callee m in
              by-sender n (Begin c f x) h f x (Call c) [] (sym r.1) (sym r.2) (k ∙ ap Call (sym r.0))
              (no-words h.words (subst (λ z. HaveThese s.world h.act (operands_of (its_code g s.world h.act) z) h.words) k h.have)) refl
          by (AsMake a v k q m) = absurd (cc)
          by (AsAsk a j u v k q m) = absurd (cc)
          by (AsPut a j b t u v k q m) = absurd (cc)

  -- the alloc that sent a wish for an array
  pub make-sender : (n v f x : ℕ) → slice_get (state_after g all args events).sent n ≡ Some (Make v f x) → (a : ℕ) × HasSent f x (Alloc a) (v ∷ [])
  make-sender n v f x e = go (wish-sender n (Make v f x) e refl)
    where
      go : IsSender n (Make v f x) → (a : ℕ) × HasSent f x (Alloc a) (v ∷ [])
      go h = by h.as_sent
        where
          parts : {a b d y z w : ℕ} → Make a b d ≡ Make y z w → (a ≡ y) × (b ≡ z) × (d ≡ w)
          parts q = (cc, cc, cc)

          by : SentAs s.world h.act h.node (kind_of g s.world h.act h.node) h.words (Make v f x) → (a : ℕ) × HasSent f x (Alloc a) (v ∷ [])
          by (AsMake a t k q m) =
              let r = parts m in
              (a, by-sender n (Make v f x) h f x (Alloc a) (v ∷ []) (sym r.1) (sym r.2) k (q ∙ ap (λ z. z ∷ []) (sym r.0)) refl)
          by (AsBegin d k m) = absurd (cc)
          by (AsAsk a j u t k q m) = absurd (cc)
          by (AsPut a j b t u z k q m) = absurd (cc)

  -- the fetch that asked for a cell
  pub fetch-sender : (n u v f x t : ℕ) → slice_get (state_after g all args events).sent n ≡ Some (Ask_cell u v f x t)
      → (a j : ℕ) × HasSent f x (Fetch a j) (u ∷ v ∷ []) × (t ≡ site (activation_at (state_after g all args events).world f).code x)
  fetch-sender n u v f x t e = go (wish-sender n (Ask_cell u v f x t) e refl)
    where
      go : IsSender n (Ask_cell u v f x t) → (a j : ℕ) × HasSent f x (Fetch a j) (u ∷ v ∷ []) × (t ≡ site (activation_at s.world f).code x)
      go h = by h.as_sent
        where
          parts : {a b c d y z w o p q : ℕ} → Ask_cell a b c d y ≡ Ask_cell z w o p q → (a ≡ z) × (b ≡ w) × (c ≡ o) × (d ≡ p) × (y ≡ q)
          parts r = (cc, cc, cc, cc, cc)

          by : SentAs s.world h.act h.node (kind_of g s.world h.act h.node) h.words (Ask_cell u v f x t)
              → (a j : ℕ) × HasSent f x (Fetch a j) (u ∷ v ∷ []) × (t ≡ site (activation_at s.world f).code x)
          by (AsAsk a j y z k q m) =
              let r = parts m in (
                a,
                j,
                by-sender n (Ask_cell u v f x t) h f x (Fetch a j) (u ∷ v ∷ []) (sym r.2) (sym r.3) k
                    (q ∙ (ap (λ o. o ∷ z ∷ []) (sym r.0) ∙ ap (λ o. u ∷ o ∷ []) (sym r.1))) refl,
                r.4 ∙ (ap (λ o. site (activation_at s.world o).code h.node) (sym r.2) ∙ ap (λ o. site (activation_at s.world f).code o) (sym r.3)),
              )
          by (AsBegin d k m) = absurd (cc)
          by (AsMake a y k q m) = absurd (cc)
          by (AsPut a j b y z w k q m) = absurd (cc)

  -- the store that put a word into a cell
  pub store-sender : (n t u v e : ℕ) → slice_get (state_after g all args events).sent n ≡ Some (Put_cell t u v e)
      → (f x a j b : ℕ) × (slice_get senders n ≡ Some (f, x)) × HasSent f x (Store a j b) (t ∷ u ∷ v ∷ [])
      × (e ≡ site (activation_at (state_after g all args events).world f).code x)
  store-sender n t u v e sent = go (wish-sender n (Put_cell t u v e) sent refl)
    where
      go : IsSender n (Put_cell t u v e)
          → (f x a j b : ℕ) × (slice_get senders n ≡ Some (f, x)) × HasSent f x (Store a j b) (t ∷ u ∷ v ∷ [])
          × (e ≡ site (activation_at s.world f).code x)
      go h = by h.as_sent
        where
          parts : {a b c d y z w o : ℕ} → Put_cell a b c d ≡ Put_cell y z w o → (a ≡ y) × (b ≡ z) × (c ≡ w) × (d ≡ o)
          parts r = (cc, cc, cc, cc)

          by : SentAs s.world h.act h.node (kind_of g s.world h.act h.node) h.words (Put_cell t u v e)
              → (f x a j b : ℕ) × (slice_get senders n ≡ Some (f, x)) × HasSent f x (Store a j b) (t ∷ u ∷ v ∷ [])
              × (e ≡ site (activation_at s.world f).code x)
          by (AsPut a j b y z w k q m) =
              let r = parts m in (
                h.act,
                h.node,
                a,
                j,
                b,
                h.at,
                by-sender n (Put_cell t u v e) h h.act h.node (Store a j b) (t ∷ u ∷ v ∷ []) refl refl k
                    (q ∙ (ap (λ o. o ∷ z ∷ w ∷ []) (sym r.0) ∙ (ap (λ o. t ∷ o ∷ w ∷ []) (sym r.1) ∙ ap (λ o. t ∷ u ∷ o ∷ []) (sym r.2)))) refl,
                r.3,
              )
          by (AsBegin d k m) = absurd (cc)
          by (AsMake a y k q m) = absurd (cc)
          by (AsAsk a j y z k q m) = absurd (cc)

  -- a store that ran is the sender of its message
  pub store-sent_by : (i x a j b t u v : ℕ) → Ran g all (state_after g all args events) i x → kind_of g (state_after g all args events).world i x ≡ Store a j b
      → Has (state_after g all args events) i a t → Has (state_after g all args events) i j u → Has (state_after g all args events) i b v
      → (n : ℕ)
      × (slice_get (state_after g all args events).sent n ≡ Some (Put_cell t u v (site (activation_at (state_after g all args events).world i).code x)))
      × (slice_get senders n ≡ Some (i, x))
  unfolding senders
  store-sent_by i x a j b t u v ran kind ha hj hb =
      let d = done-with g args all s journal.valid sound state i x (Store a j b) (t ∷ u ∷ v ∷ []) ran kind (ha, (hj, (hb, tt))) in
      let r = in-get {X = Tag} (Put_cell t u v (site (activation_at s.world i).code x), i, x) state.tags
      (d.tagged (Put_cell t u v (site (activation_at s.world i).code x)) (inl refl)) in (
        r.0,
        subst (λ l. slice_get l r.0 ≡ Some (Put_cell t u v (site (activation_at s.world i).code x))) state.same
            (get-map (λ t. t.0) state.tags r.0 (Put_cell t u v (site (activation_at s.world i).code x), i, x) r.1),
        get-map (λ t. (t.1, t.2)) state.tags r.0 (Put_cell t u v (site (activation_at s.world i).code x), i, x) r.1,
      )

  -- two messages of stores of one sender are one
  pub one-store : (m n a b i j u v t e : ℕ) → slice_get (state_after g all args events).sent m ≡ Some (Put_cell a i u t)
      → slice_get (state_after g all args events).sent n ≡ Some (Put_cell b j v e) → slice_get senders m ≡ slice_get senders n → m ≡ n
  unfolding senders
  one-store m n a b i j u v t e p q same =
      go (tag-at state.tags m (Put_cell a i u t) (subst (λ l. slice_get l m ≡ Some (Put_cell a i u t)) (sym state.same) p))
      (tag-at state.tags n (Put_cell b j v e) (subst (λ l. slice_get l n ≡ Some (Put_cell b j v e)) (sym state.same) q))
    where
      go : (x : Tag) × (slice_get state.tags m ≡ Some x) × (x.0 ≡ Put_cell a i u t) → (y : Tag) × (slice_get state.tags n ≡ Some y) × (y.0 ≡ Put_cell b j v e)
          → m ≡ n
      go (x, c, d) (y, f, h) =
          let r = pair-eq (sym (get-map (λ z. (z.1, z.2)) state.tags m x c) ∙ (same ∙ get-map (λ z. (z.1, z.2)) state.tags n y f)) in
          ⊎_elim (λ k. k) (λ k. absurd (⊎_elim (λ z. z (ap asks d) (ap asks h) r.0 r.1) (λ z. z (ap asks h) (ap asks d) (sym r.0) (sym r.1)) k))
          (pairs-at TagApart state.tags m n x y state.apart c f)
