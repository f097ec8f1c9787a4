-- The delivery of a message gives a word to a node that has none; so the state behind it keeps firings, messages and words.
use Rattle.std.proofs.Common.{◌≡◌, ◌≢◌, ℕ, zero, suc, ◌<◌, Bool, true, false, ◌==◌, ◌&&◌, List, [], ◌∷◌, ◌++◌, Some, length, slice_get, refl, sym, ap, ap₂}
use Rattle.std.proofs.Common.{◌∙◌, arith}
use Rattle.std.proofs.Common.{subst, inl, inr, ◌⊎◌, ⊎_elim, true≢false}
use Rattle.std.proofs.lemmas.List.{length-append, append-nil}
use Rattle.std.specs.List.{AllByRecursion}
use Rattle.tam_word.specs.Lists.{any_of, has}
use Rattle.tam_msgs.specs.declared.message.Message.{Message}
use Rattle.tam_msgs.specs.declared.message.Message.TheVariants.{Word as Carry, Frame as Begin, Cells as Make, Fetch as Ask_cell, Store as Put_cell}
use Rattle.tam_msgs.specs.Messages.{outside}
use Rattle.tam_istr.specs.Cells.{Access, Now, Deferred, Stored, Twice, NotBelow, NoArray, fetched_from, stored_into}
use Rattle.tam_graph.specs.Graphs.{Graph, code_of}
use Rattle.tam_split.specs.Blocks.{block_graph, vertex_at}
use Rattle.tam_split.specs.Partitions.{class_at}
use Rattle.tam_split.specs.GraphPartitions.{Partitions, parts_of}
use Rattle.tam_word.proofs.Tests.{eq-number}
use Rattle.tam_word.proofs.Each.{all-more, all-append, get-left, get-last, last-or_before}
use Rattle.tam_word.proofs.Members.{In, left-in}
use Rattle.tam_world.specs.Worlds.{World, ActivationState, Delivery, Went, Printed, Faulted, begun, or_activation, activation_at, its_code}
use Rattle.tam_world.specs.Worlds.{word_of, has_entered, got, accessed}
use Rattle.tam_world.specs.Worlds.{delivered}
use Rattle.tam_flow.specs.Journals.{State, after_delivery, has_run, block_of_act}
use Rattle.tam_flow.specs.Reached.{IsThere, kind_of, HasArrived, HasSome}
use Rattle.tam_flow.proofs.ActivationLists.{was_entered, entered-first, word_among}
use Rattle.tam_flow.proofs.Deliveries.{some-below}
use Rattle.tam_flow.proofs.Growing.{with_begun}
use Rattle.tam_flow.proofs.Gifts.{HaveGot, got-one}
use Rattle.tam_flow.proofs.Givers.{is_received, given-to, given-no_message}
use Rattle.tam_flow.proofs.Onward.{Onward, word-one}
use Rattle.tam_flow.proofs.SentOnce.{HasFired, arrived-more, arrived-now, asked-words, words-across}
use Rattle.tam_flow.proofs.SoundStates.{IsSoundState}
use Rattle.tam_flow.proofs.Kept.{IsGift, word-act, kept-later, received-later, wish-later}
use Rattle.tam_flow.proofs.KeptRuns.{IsTagged, IsOfFiring, IsKeptState}
use Rattle.tam_flow.proofs.DeliveryChanges.{ComesOf, comes}
use Rattle.tam_flow.proofs.Pairs.{pairs-append}
use Rattle.tam_flow.proofs.Senders.{Tag, TagApart, asks, tagged_with, tagged-same, map-append, words-apart}
use Rattle.tam_flow.proofs.Receivers.{IsForReceiver}

-- one word at most is sent to each node of an activation
abbrev pub OneWordSent : State → Type 0
OneWordSent s =
    (m n f x u v : ℕ) → f ≢ outside → slice_get s.sent m ≡ Some (Carry f x u) → slice_get s.sent n ≡ Some (Carry f x v) → m ≡ n

-- ---- worlds

-- a node that has no word gets one
onward-got : (w : World) (f x u : ℕ) → ((t : ℕ) → word_of w f x ≡ t ∷ [] → ⊥) → Onward w (got w f x u)
onward-got w f x u fresh = record {
  there = λ j t. subst (λ n. j < n) (sym h.frames.as_many) t;
  code = λ j t. h.frames.code j;
  caller = λ j t. h.frames.caller j;
  call = λ j t. h.frames.call j;
  words = λ j y v e. ⊎_elim (λ k. k ∙ e) (λ k. absurd (had j y v k.0 k.1 e)) (h.words j y);
  blocks = λ j b e. h.blocks j b ∙ e;
}
  where
    h : HaveGot w (got w f x u) f (x ∷ []) u
    h = got-one w f x u

    had : (j y v : ℕ) → j ≡ f → In y (x ∷ []) → word_of w j y ≡ v ∷ [] → ⊥
    had j y v p (inl q) e = fresh v (subst (λ z. word_of w z x ≡ v ∷ []) p (subst (λ z. word_of w j z ≡ v ∷ []) (sym q) e))
    had j y v p (inr q) e = q

-- an activation of a list that is longer by one is what it was, or it is the one that began
begun-cases : (w : World) (c f x j : ℕ) → (activation_at (with_begun w c f x) j ≡ activation_at w j)
    ⊎ ((activation_at (with_begun w c f x) j ≡ begun c f x) × (j ≡ length w.activations))
begun-cases w c f x j = go w.activations j
  where
    go : (bs : List ActivationState) (j : ℕ) → (or_activation (slice_get (bs ++ begun c f x ∷ []) j) ≡ or_activation (slice_get bs j))
        ⊎ ((or_activation (slice_get (bs ++ begun c f x ∷ []) j) ≡ begun c f x) × (j ≡ length bs))
    go [] zero = inr (refl, refl)
    go [] (suc j) = inl refl
    go (a ∷ bs) zero = inl refl
    go (a ∷ bs) (suc j) = ⊎_elim inl (λ k. inr (k.0, ap suc k.1)) (go bs j)

-- an activation begins
onward-begun : (w : World) (c f x : ℕ) → Onward w (with_begun w c f x)
onward-begun w c f x = record {
  there = λ j t. omega (arith, length-append w.activations (begun c f x ∷ []), t);
  code = λ j t. ap (λ a. a.code) (same j t);
  caller = λ j t. ap (λ a. a.caller) (same j t);
  call = λ j t. ap (λ a. a.call) (same j t);
  words = λ j y u e. ap (λ a. word_among a.words y) (same j (word-act w j y u e)) ∙ e;
  blocks = λ j b e. stay j b (begun-cases w c f x j) e;
}
  where
    same : (j : ℕ) → IsThere w j → activation_at (with_begun w c f x) j ≡ activation_at w j
    same j t = ap or_activation (get-left w.activations (begun c f x ∷ []) j t)

    none : (j b : ℕ) → j ≡ length w.activations → has_entered w j b ≡ true → ⊥
    none j b q e = past w.activations j q e
      where
        past : (bs : List ActivationState) (j : ℕ) → j ≡ length bs → was_entered (or_activation (slice_get bs j)).entered b ≡ true → ⊥
        past [] j q e = true≢false (sym e)
        past (a ∷ bs) zero q e = absurd (omega (arith, q))
        past (a ∷ bs) (suc j) q e = past bs j (omega (arith, q)) e

    stay : (j b : ℕ) → (activation_at (with_begun w c f x) j ≡ activation_at w j)
        ⊎ ((activation_at (with_begun w c f x) j ≡ begun c f x) × (j ≡ length w.activations)) → has_entered w j b ≡ true
        → has_entered (with_begun w c f x) j b ≡ true
    stay j b (inl k) e = ap (λ a. was_entered a.entered b) k ∙ e
    stay j b (inr k) e = absurd (none j b k.1 e)

-- a world with the same activations
onward-activations : (w v : World) → v.activations ≡ w.activations → Onward w v
onward-activations w v e = record {
  there = λ j t. subst (λ (l : List ActivationState). j < length l) (sym e) t;
  code = λ j t. ap (λ a. a.code) (same j);
  caller = λ j t. ap (λ a. a.caller) (same j);
  call = λ j t. ap (λ a. a.call) (same j);
  words = λ j y u h. ap (λ a. word_among a.words y) (same j) ∙ h;
  blocks = λ j b h. ap (λ a. was_entered a.entered b) (same j) ∙ h;
}
  where
    same : (j : ℕ) → activation_at v j ≡ activation_at w j
    same j = ap (λ (l : List ActivationState). or_activation (slice_get l j)) e

-- ---- what a delivery changes

-- besides words by this message, and bodies that begin, a delivery keeps words, activations and blocks
pub record IsOnward (g : Graph) (w v : World) (m : Message) : Type 0 where
  pub on : Onward w v
  pub words : (j y u : ℕ) → word_of v j y ≡ u ∷ [] → (word_of w j y ≡ u ∷ []) ⊎ ((m ≡ Carry j y u) × (is_received (kind_of g v j y) ≡ true))
  pub blocks : (j b : ℕ) → IsThere v j → has_entered v j b ≡ true → (IsThere w j × (has_entered w j b ≡ true)) ⊎ (b ≡ 0)

-- what comes of it
abbrev pub GoesOn : Graph → World → Message → Delivery → Type 0
GoesOn g w m (Went e) = IsOnward g w e.world m
GoesOn g w m (Printed k v) = Unit {0}
GoesOn g w m (Faulted f) = Unit {0}

-- where the activations are the same
goes-same : (g : Graph) (w v : World) (m : Message) → v.activations ≡ w.activations → IsOnward g w v m
goes-same g w v m e = record {
  on = onward-activations w v e;
  words = λ j y u h. inl (sym (ap (λ a. word_among a.words y) (same j)) ∙ h);
  blocks = λ j b t h. inl (subst (λ (l : List ActivationState). j < length l) e t, sym (ap (λ a. was_entered a.entered b) (same j)) ∙ h);
}
  where
    same : (j : ℕ) → activation_at v j ≡ activation_at w j
    same j = ap (λ (l : List ActivationState). or_activation (slice_get l j)) e

module _ (g : Graph) (w : World) where
  -- a word for a node that has none
  goes-carry : (f x u : ℕ) → IsForReceiver g w (Carry f x u) → ((f == outside) ≡ false → (t : ℕ) → word_of w f x ≡ t ∷ [] → ⊥)
      → GoesOn g w (Carry f x u) (delivered w (Carry f x u))
  goes-carry f x u for fresh = go (f == outside) refl for
    where
      h : HaveGot w (got w f x u) f (x ∷ []) u
      h = got-one w f x u

      new : (j y v : ℕ) → is_received (kind_of g (got w f x u) f x) ≡ true → j ≡ f → In y (x ∷ []) → word_of (got w f x u) j y ≡ u ∷ []
          → word_of (got w f x u) j y ≡ v ∷ [] → (Carry f x u ≡ Carry j y v) × (is_received (kind_of g (got w f x u) j y) ≡ true)
      new j y v r p (inl q) e k =
          let same : u ≡ v = word-one (got w f x u) j y u v e k in (
            ap (λ z. Carry z x u) (sym p) ∙ (ap (λ z. Carry j z u) q ∙ ap (λ z. Carry j y z) same),
            subst (λ z. is_received (kind_of g (got w f x u) z y) ≡ true) (sym p)
                (subst (λ z. is_received (kind_of g (got w f x u) f z) ≡ true) q r),
          )
      new j y v r p (inr q) e k = absurd q

      one : IsThere w f × (is_received (kind_of g w f x) ≡ true) → ((t : ℕ) → word_of w f x ≡ t ∷ [] → ⊥) → IsOnward g w (got w f x u) (Carry f x u)
      one r none =
          let on = onward-got w f x u none in
          record {
            on = on;
            words = λ j y v e. ⊎_elim (λ k. inl (sym k ∙ e)) (λ k. inr (new j y v (received-later g w (got w f x u) on f x r.0 r.1) k.0 k.1 k.2 e))
                (h.words j y);
            blocks = λ j b t e. inl (subst (λ n. j < n) h.frames.as_many t, sym (h.blocks j b) ∙ e);
          }

      go : (b : Bool) → (f == outside) ≡ b → IsForReceiver g w (Carry f x u) → GoesOn g w (Carry f x u) (delivered w (Carry f x u))
      go true e k = rw (delivered, e) tt
      go false e (inl k) = absurd (true≢false (sym k ∙ e))
      go false e (inr k) = rw (delivered, e) (one k (fresh e))

  -- an activation begins
  goes-begin : (c f x : ℕ) → GoesOn g w (Begin c f x) (delivered w (Begin c f x))
  goes-begin c f x = record {
    on = onward-begun w c f x;
    words = λ j y u e. inl (old j y u (begun-cases w c f x j) e);
    blocks = λ j b t e. block j b t (begun-cases w c f x j) e;
  }
    where
      nil-cons : {u : ℕ} → [] ≡ u ∷ [] → ⊥
      nil-cons e = cc

      old : (j y u : ℕ) → (activation_at (with_begun w c f x) j ≡ activation_at w j)
          ⊎ ((activation_at (with_begun w c f x) j ≡ begun c f x) × (j ≡ length w.activations)) → word_of (with_begun w c f x) j y ≡ u ∷ []
          → word_of w j y ≡ u ∷ []
      old j y u (inl k) e = sym (ap (λ a. word_among a.words y) k) ∙ e
      old j y u (inr k) e = absurd (nil-cons (sym (ap (λ a. word_among a.words y) k.0) ∙ e))

      block : (j b : ℕ) → IsThere (with_begun w c f x) j → (activation_at (with_begun w c f x) j ≡ activation_at w j)
          ⊎ ((activation_at (with_begun w c f x) j ≡ begun c f x) × (j ≡ length w.activations)) → has_entered (with_begun w c f x) j b ≡ true
          → (IsThere w j × (has_entered w j b ≡ true)) ⊎ (b ≡ 0)
      block j b t (inr k) e = inr (sym (entered-first b (sym (ap (λ a. was_entered a.entered b) k.0) ∙ e)))
      block j b t (inl k) e = ⊎_elim (λ l. inl (l, sym (ap (λ a. was_entered a.entered b) k) ∙ e)) (λ l. inr (last l))
          (last-or_before j (length w.activations) (omega (arith, length-append w.activations (begun c f x ∷ []), t)))
        where
          last : j ≡ length w.activations → b ≡ 0
          last l = sym (entered-first b (subst (λ a. was_entered a.entered b ≡ true)
              (subst (λ n. activation_at (with_begun w c f x) n ≡ begun c f x) (sym l) (ap or_activation (get-last w.activations (begun c f x)))) e))

  -- an access
  goes-accessed : (m : Message) (t j : ℕ) (r : ℕ × ℕ) (v : ℕ) (a : Access) → GoesOn g w m (accessed w t j r v a)
  goes-accessed m t j r v (Now u) = goes-same g w w m refl
  goes-accessed m t j r v (Deferred arrays) = goes-same g w (record w { arrays = arrays }) m refl
  goes-accessed m t j r v (Stored arrays readers) = goes-same g w (record w { arrays = arrays }) m refl
  goes-accessed m t j r v (Twice u) = tt
  goes-accessed m t j r v (NotBelow n) = tt
  goes-accessed m t j r v NoArray = tt

  -- any message
  goes-on : (m : Message) → IsForReceiver g w m → ((f x u : ℕ) → m ≡ Carry f x u → (f == outside) ≡ false → (t : ℕ) → word_of w f x ≡ t ∷ [] → ⊥)
      → GoesOn g w m (delivered w m)
  goes-on (Carry f x u) for fresh = goes-carry f x u for (fresh f x u refl)
  goes-on (Begin c f x) for fresh = goes-begin c f x
  goes-on (Make n f x) for fresh = goes-same g w _ (Make n f x) refl
  goes-on (Ask_cell a j f x t) for fresh = goes-accessed (Ask_cell a j f x t) t j (f, x) 0 (fetched_from w.arrays a j (f, x))
  goes-on (Put_cell a j u t) for fresh = goes-accessed (Put_cell a j u t) t j (0, 0) u (stored_into w.arrays a j u t)

-- ---- the state behind it

module _ (g : Graph) (args : List ℕ) (all : Partitions) (s : State) (sound : IsSoundState g args s) (state : IsKeptState g all s) where
  -- where a message arrives and the world goes on, the state keeps what it kept
  kept-on : (v : State) (m : ℕ) (x : Message) (ms : List Message) → slice_get s.sent m ≡ Some x → IsOnward g s.world v.world x → v.ran ≡ s.ran
      → v.sent ≡ s.sent ++ ms → AllByRecursion (λ o. asks o ≡ false) ms → v.arrived ≡ m ∷ s.arrived → IsKeptState g all v
  kept-on v m x ms is_sent on ran sends words arrived = record {
    tags = state.tags ++ tagged_with 0 0 ms;
    same = map-append state.tags (tagged_with 0 0 ms) ∙ (ap₂ (λ l k. l ++ k) state.same (tagged-same 0 0 ms) ∙ sym sends);
    of_firings = all-append (IsOfFiring g v.world (HasFired g all v)) state.tags (tagged_with 0 0 ms)
        (all-more (IsOfFiring g s.world (HasFired g all s)) (IsOfFiring g v.world (HasFired g all v))
        (λ t h k. wish-later g s.world v.world on.on (λ j t e. (sound.world.callers j t e).0) (HasFired g all s) (HasFired g all v) fired-now t.0 t.1 t.2
        (state.kept.there t.1 t.2 (h k).fired) (h k)) state.tags state.of_firings)
        (all-more (λ t. asks t.0 ≡ false) (IsOfFiring g v.world (HasFired g all v)) (λ t k d. absurd (true≢false (sym d ∙ k))) (tagged_with 0 0 ms)
        (asked-words 0 0 ms words));
    apart = pairs-append TagApart state.tags (tagged_with 0 0 ms) state.apart (words-apart 0 0 ms words)
        (words-across state.tags (tagged_with 0 0 ms) (asked-words 0 0 ms words));
    kept = kept-later g s.world v.world on.on (λ j t e. (sound.world.callers j t e).0) (HasFired g all s) (HasFired g all v) (IsTagged state.tags)
        (IsTagged (state.tags ++ tagged_with 0 0 ms)) (HasArrived s) (HasArrived v) fired-now fired-then
        (λ j z o h. left-in {X = Tag} (o, j, z) state.tags (tagged_with 0 0 ms) h) came
        (λ j y u h. ⊎_elim inl (λ k. inr (this (Carry j y u) k.0, k.1)) (on.words j y u h)) on.blocks state.kept;
    inlets = λ j d e y h. let k = was j d e h in
        subst (λ n. In y (class_at (parts_of all n d) e) → (vertex_at (block_graph (code_of g n) d) y).inlet ≡ true
        → HasSome v j (vertex_at (block_graph (code_of g n) d) y).node) (sym (on.on.code j (sound.ran j d e k).0))
        (λ i t. let r = state.inlets j d e y k i t in (r.0, on.on.words j (vertex_at (block_of_act g s j d) y).node r.0 r.1));
    classes = λ j d e h. let k = was j d e h in
        subst (λ n. e < length (parts_of all n d)) (sym (on.on.code j (sound.ran j d e k).0)) (state.classes j d e k);
  }
    where
      sent : (n : ℕ) (o : Message) → slice_get s.sent n ≡ Some o → slice_get v.sent n ≡ Some o
      sent n o h = subst (λ l. slice_get l n ≡ Some o) (sym sends) (get-left s.sent ms n (some-below s.sent n h) ∙ h)

      was : (j d e : ℕ) → has_run v j d e ≡ true → has_run s j d e ≡ true
      was j d e h = subst (λ l. any_of (λ (r : ℕ × ℕ × ℕ). (r.0 == j) && ((r.1 == d) && (r.2 == e))) l ≡ true) ran h

      is : (j d e : ℕ) → has_run s j d e ≡ true → has_run v j d e ≡ true
      is j d e h = subst (λ l. any_of (λ (r : ℕ × ℕ × ℕ). (r.0 == j) && ((r.1 == d) && (r.2 == e))) l ≡ true) (sym ran) h

      fired-now : (j z : ℕ) → HasFired g all s j z → HasFired g all v j z
      fired-now j z h = record {
        there = on.on.there j h.there;
        code = h.code;
        block = h.block;
        class = h.class;
        place = h.place;
        is_code = h.is_code ∙ sym (on.on.code j h.there);
        ran = is j h.block h.class h.ran;
        inside = h.inside;
        within = h.within;
        no_inlet = h.no_inlet;
        node = h.node;
      }

      fired-then : (j z : ℕ) → HasFired g all v j z → HasFired g all s j z
      fired-then j z h =
          let k = was j h.block h.class h.ran in
          let there = (sound.ran j h.block h.class k).0 in
          record {
            there = there;
            code = h.code;
            block = h.block;
            class = h.class;
            place = h.place;
            is_code = h.is_code ∙ on.on.code j there;
            ran = k;
            inside = h.inside;
            within = h.within;
            no_inlet = h.no_inlet;
            node = h.node;
          }

      came : (o : Message) → HasArrived s o → HasArrived v o
      came o h = (h.0, sent h.0 o h.1, subst (λ l. has l h.0 ≡ true) (sym arrived) (arrived-more m s.arrived h.0 h.2))

      this : (o : Message) → x ≡ o → HasArrived v o
      this o e = (m, sent m o (is_sent ∙ ap Some e), subst (λ l. has l m ≡ true) (sym arrived) (arrived-now m s.arrived))

  module _ (m : ℕ) (x : Message) (is_sent : slice_get s.sent m ≡ Some x) (new : has s.arrived m ≡ false) (once : OneWordSent s)
      (for : IsForReceiver g s.world x) where
    -- a node to which a word is on its way has none
    fresh-word : (f y u : ℕ) → x ≡ Carry f y u → (f == outside) ≡ false → (t : ℕ) → word_of s.world f y ≡ t ∷ [] → ⊥
    fresh-word f y u e inside t h = ⊎_elim by_firing by_message (state.kept.sources f y t h)
      where
        receives : is_received (kind_of g s.world f y) ≡ true
        receives = ⊎_elim (λ k. absurd (true≢false (sym k ∙ inside))) (λ k. k.1) (subst (λ o. IsForReceiver g s.world o) e for)

        by_firing : IsGift g s.world (HasFired g all s) f y t → ⊥
        by_firing a =
            true≢false (sym receives ∙ given-no_message (its_code g s.world f) a.node (kind_of g s.world f a.node) a.words y refl
            (given-to (its_code g s.world f) a.node (kind_of g s.world f a.node) a.words y a.among))

        by_message : HasArrived s (Carry f y t) × (is_received (kind_of g s.world f y) ≡ true) → ⊥
        by_message k =
            let same = once m k.0.0 f y u t (λ q. true≢false (sym (eq-number f outside q) ∙ inside)) (is_sent ∙ ap Some e) k.0.1 in
            true≢false (sym (subst (λ n. has s.arrived n ≡ true) (sym same) k.0.2) ∙ new)

    -- so the state behind the delivery keeps what the state kept
    pub kept-delivery : IsKeptState g all (after_delivery s m (delivered s.world x))
    kept-delivery = go (delivered s.world x) (goes-on g s.world x for fresh-word) (comes s.world x)
      where
        go : (d : Delivery) → GoesOn g s.world x d → ComesOf s.world x d → IsKeptState g all (after_delivery s m d)
        go (Went e) h c = kept-on (after_delivery s m (Went e)) m x e.sends is_sent h refl refl c.0 refl
        go (Printed k v) h c =
            kept-on (after_delivery s m (Printed k v)) m x [] is_sent (goes-same g s.world s.world x refl) refl (sym (append-nil s.sent)) tt refl
        go (Faulted f) h c =
            kept-on (after_delivery s m (Faulted f)) m x [] is_sent (goes-same g s.world s.world x refl) refl (sym (append-nil s.sent)) tt refl
