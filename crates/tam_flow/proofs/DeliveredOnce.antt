-- What is sent and done once, after a delivery: no activation begins twice, and a second store is of another instance. So it is behind each journal.
use Rattle.std.proofs.Common.{◌≡◌, ℕ, ◌^◌, ◌<◌, Bool, true, false, ◌==◌, not, List, [], ◌∷◌, ◌++◌, Option, Some, None, is_none}
use Rattle.std.proofs.Common.{length, nat_lt, slice_get, refl, sym, ap, ap₂, ◌∙◌, arith, subst, inl, inr, ◌⊎◌, ⊎_elim, true≢false}
use Rattle.std.proofs.lemmas.List.{length-append}
use Rattle.tam_word.specs.Lists.{has}
use Rattle.tam_msgs.specs.declared.message.Message.{Message}
use Rattle.tam_msgs.specs.declared.message.Message.TheVariants.{Frame as Begin, Store as Put_cell}
use Rattle.tam_msgs.specs.Messages.{outside}
use Rattle.tam_istr.specs.Cells.{Filled}
use Rattle.tam_graph.specs.Graphs.{Graph}
use Rattle.tam_graph.specs.Accepted.{IsAccepted}
use Rattle.tam_split.specs.GraphPartitions.{Partitions, are_valid}
use Rattle.tam_world.specs.Worlds.{Effect, Delivery, Went, Printed, Faulted, Fault, Second_store, Outside_cells, or_activation}
use Rattle.tam_world.specs.Worlds.{has_entered, begun, delivered}
use Rattle.tam_flow.specs.Journals.{State, Event, Run, Deliver, initial, or_message, after_delivery}
use Rattle.tam_flow.specs.Journals.{deliver_all, after_event, may_run, may_arrive, may_follow, is_legal_from, state_from, state_after}
use Rattle.tam_flow.specs.Told.{path_of}
use Rattle.tam_flow.specs.JournalLaws.{IsJournal}
use Rattle.tam_flow.specs.Reached.{IsThere, cell_at}
use Rattle.tam_word.proofs.Tests.{and-left, and-right, not-true}
use Rattle.tam_word.proofs.Each.{all-more, all-append, all-map, all-at_place, get-left, get-last, last-or_before}
use Rattle.tam_flow.proofs.ActivationLists.{was_entered}
use Rattle.tam_flow.proofs.Growing.{Grows, grows-same, with_begun, grows-begun, path-begun}
use Rattle.tam_flow.proofs.Justified.{IsMessage}
use Rattle.tam_flow.proofs.CellChanges.{none-some, some-eq}
use Rattle.tam_flow.proofs.Deliveries.{IsSoundEffect, IsSoundDelivery, not-outside, deliver, some-below}
use Rattle.tam_flow.proofs.ActivationCounts.{size-from}
use Rattle.tam_flow.proofs.Pairs.{pairs-append, pairs-at}
use Rattle.tam_flow.proofs.Senders.{Tag, asks, IsSentBy, TagApart, sent_by-later, tagged_with, tagged-same, map-append, words-apart, word-sent}
use Rattle.tam_flow.proofs.DeliveryChanges.{ComesOf, comes}
use Rattle.tam_flow.proofs.SoundStates.{IsSoundState, runnable, no-fault, opened, sound-event}
use Rattle.tam_flow.proofs.SoundStates.{sound-initial}
use Rattle.tam_flow.proofs.SentOnce.{HasFired, IsBegunBy, IsDouble, IsOnceState, tag-at, arrived-more, arrived-now, cons-tail, nil-cons, asked-words}
use Rattle.tam_flow.proofs.SentOnce.{words-across, once-initial, fired-later, begun-later, paths-later, once-run}

module _ (g : Graph) (args : List ℕ) (accepted : IsAccepted g) (all : Partitions) where
  module _ (valid : are_valid g all ≡ true) (s : State) (sound : IsSoundState g args s) (once : IsOnceState g args all s) where
    -- two wishes that name one sender are one message
    pub one-wish : (m n : ℕ) (p q : Message) → slice_get s.sent m ≡ Some p → slice_get s.sent n ≡ Some q → asks p ≡ true → asks q ≡ true
        → ((i y j z : ℕ) → IsSentBy g args s.world p i y → IsSentBy g args s.world q j z → (i ≡ j) × (y ≡ z)) → m ≡ n
    one-wish m n p q e d k l same = go (tag-at once.tags m p (subst (λ l. slice_get l m ≡ Some p) (sym once.same) e))
        (tag-at once.tags n q (subst (λ l. slice_get l n ≡ Some q) (sym once.same) d))
      where
        go : (t : Tag) × (slice_get once.tags m ≡ Some t) × (t.0 ≡ p) → (u : Tag) × (slice_get once.tags n ≡ Some u) × (u.0 ≡ q) → m ≡ n
        go t u =
            let a = subst (λ o. IsSentBy g args s.world o t.0.1 t.0.2) t.2
            (all-at_place (λ t. IsSentBy g args s.world t.0 t.1 t.2) once.tags m t.0 once.sent_by t.1) in
            let b = subst (λ o. IsSentBy g args s.world o u.0.1 u.0.2) u.2
            (all-at_place (λ t. IsSentBy g args s.world t.0 t.1 t.2) once.tags n u.0 once.sent_by u.1) in
            let c = same t.0.1 t.0.2 u.0.1 u.0.2 a b in
            let at : asks t.0.0 ≡ true = ap asks t.2 ∙ k in
            let au : asks u.0.0 ≡ true = ap asks u.2 ∙ l in
            ⊎_elim (λ h. h) (λ h. absurd (⊎_elim (λ f. f at au c.0 c.1) (λ f. f au at (sym c.0) (sym c.1)) h))
            (pairs-at TagApart once.tags m n t.0 u.0 once.apart t.1 u.1)

    -- a wish for an activation of one call was sent once
    pub one-begin : (m n c d f x : ℕ) → slice_get s.sent m ≡ Some (Begin c f x) → slice_get s.sent n ≡ Some (Begin d f x) → m ≡ n
    one-begin m n c d f x e h = one-wish m n (Begin c f x) (Begin d f x) e h refl refl (λ i y j z a b. (sym a.0 ∙ b.0, sym a.1 ∙ b.1))

    module _ (m : ℕ) (x : Message) (whole : s.fault ≡ None) (is_sent : slice_get s.sent m ≡ Some x) (new : has s.arrived m ≡ false) where
      -- what arrives now hadn't arrived
      not-old : (n : ℕ) → has s.arrived n ≡ true → m ≡ n → ⊥
      not-old n h e = true≢false (sym (subst (λ k. has s.arrived k ≡ true) (sym e) h) ∙ new)

      -- the body of one that begins is entered
      bodies-begun : (c f y : ℕ) → (j : ℕ) → IsThere (with_begun s.world c f y) j → has_entered (with_begun s.world c f y) j 0 ≡ true
      bodies-begun c f y j t = ⊎_elim (λ l. (grows-begun s.world c f y).blocks j 0 l (once.bodies j l)) this
          (last-or_before j (length s.world.activations) (omega (arith, length-append s.world.activations (begun c f y ∷ []), t)))
        where
          this : j ≡ length s.world.activations → has_entered (with_begun s.world c f y) j 0 ≡ true
          this e = subst (λ n. has_entered (with_begun s.world c f y) n 0 ≡ true) (sym e)
              (subst (λ o. was_entered (or_activation o).entered 0 ≡ true) (sym (get-last s.world.activations (begun c f y))) refl)

      -- an activation begins
      module _ (c f y : ℕ) (begins : x ≡ Begin c f y) (there : IsThere s.world f) (inside : (f == outside) ≡ false) where
        before : (i : ℕ) → IsThere (with_begun s.world c f y) i → IsThere s.world i ⊎ (i ≡ length s.world.activations)
        before i t = last-or_before i (length s.world.activations) (omega (arith, length-append s.world.activations (begun c f y ∷ []), t))

        path-new : (i : ℕ) → i ≡ length s.world.activations → path_of (with_begun s.world c f y) i ≡ y ∷ path_of s.world f
        path-new i e = subst (λ n. path_of (with_begun s.world c f y) n ≡ y ∷ path_of s.world f) (sym e) (path-begun s.world c f y inside)

        fresh : (j : ℕ) → IsThere s.world j → path_of s.world j ≡ y ∷ path_of s.world f → ⊥
        fresh j t e = go (once.begun_by j t)
          where
            go : IsBegunBy s j → ⊥
            go (inl d) = nil-cons (sym d ∙ e)
            go (inr h) =
                let both = cons-tail (sym h.7 ∙ e) in
                let exists : IsThere s.world h.2 = omega (arith, h.6, t) in
                let caller : h.2 ≡ f = once.paths_differ h.2 f exists there both.1 in
                let old : slice_get s.sent h.0 ≡ Some (Begin h.1 f y) = subst (λ k. slice_get s.sent h.0 ≡ Some (Begin h.1 f k)) both.0
                (subst (λ k. slice_get s.sent h.0 ≡ Some (Begin h.1 k h.3)) caller h.4) in
                not-old h.0 h.5 (one-begin m h.0 c h.1 f y (is_sent ∙ ap Some begins) old)

        paths-begun : (i j : ℕ) → IsThere (with_begun s.world c f y) i → IsThere (with_begun s.world c f y) j
            → path_of (with_begun s.world c f y) i ≡ path_of (with_begun s.world c f y) j → i ≡ j
        paths-begun i j t u e =
            ⊎_elim (λ a. ⊎_elim (λ b. once.paths_differ i j a b (sym (grows.path i a) ∙ e ∙ grows.path j b))
            (λ b. absurd (fresh i a (sym (grows.path i a) ∙ e ∙ path-new j b))) (before j u))
            (λ a. ⊎_elim (λ b. absurd (fresh j b (sym (grows.path j b) ∙ sym e ∙ path-new i a))) (λ b. a ∙ sym b) (before j u)) (before i t)
          where
            grows : Grows s.world (with_begun s.world c f y)
            grows = grows-begun s.world c f y

        begun-begun : (v : State) → v.world ≡ with_begun s.world c f y → ((n : ℕ) (o : Message) → slice_get s.sent n ≡ Some o → slice_get v.sent n ≡ Some o)
            → ((n : ℕ) → has s.arrived n ≡ true → has v.arrived n ≡ true) → has v.arrived m ≡ true → (j : ℕ) → IsThere v.world j → IsBegunBy v j
        begun-begun v same sent arrived now j t = ⊎_elim old this (before j (subst (λ w. IsThere w j) same t))
          where
            grows : Grows s.world v.world
            grows = subst (λ w. Grows s.world w) (sym same) (grows-begun s.world c f y)

            old : IsThere s.world j → IsBegunBy v j
            old l = go (once.begun_by j l)
              where
                go : IsBegunBy s j → IsBegunBy v j
                go (inl e) = inl (grows.path j l ∙ e)
                go (inr h) =
                    let caller : IsThere s.world h.2 = omega (arith, h.6, l) in
                    inr (
                      h.0,
                      h.1,
                      h.2,
                      h.3,
                      sent h.0 (Begin h.1 h.2 h.3) h.4,
                      arrived h.0 h.5,
                      h.6,
                      grows.path j l ∙ h.7
                          ∙ ap (λ p. h.3 ∷ p) (sym (grows.path h.2 caller)),
                    )

            this : j ≡ length s.world.activations → IsBegunBy v j
            this e =
                inr (
                  m,
                  c,
                  f,
                  y,
                  sent m (Begin c f y) (is_sent ∙ ap Some begins),
                  now,
                  (let l : f < j = omega (arith, e, there) in l),
                  subst (λ w. path_of w j ≡ y ∷ path_of s.world f) (sym same) (path-new j e) ∙ ap (λ p. y ∷ p) (sym (grows.path f there)),
                )

      -- a delivery that goes well keeps it
      once-went : length s.world.activations < 2 ^ 32 → IsMessage g args s.world x → (e : Effect) → IsSoundEffect g args s.world e
          → ComesOf s.world x (Went e)
          → IsOnceState g args all (after_delivery s m (Went e))
      once-went few reason e effect comes = record {
        tags = once.tags ++ tagged_with 0 0 e.sends;
        same = map-append once.tags (tagged_with 0 0 e.sends) ∙ ap₂ (λ l k. l ++ k) once.same (tagged-same 0 0 e.sends);
        sent_by = all-append (λ t. IsSentBy g args e.world t.0 t.1 t.2) once.tags (tagged_with 0 0 e.sends)
            (all-more (λ t. IsSentBy g args s.world t.0 t.1 t.2) (λ t. IsSentBy g args e.world t.0 t.1 t.2)
            (λ t h. sent_by-later g args s.world e.world effect.grows t.0 t.1 t.2 h) once.tags once.sent_by)
            (all-map (λ t. IsSentBy g args e.world t.0 t.1 t.2) (λ o. (o, 0, 0)) e.sends
            (all-more (λ o. asks o ≡ false) (λ o. IsSentBy g args e.world o 0 0) (λ o k. word-sent g args e.world o 0 0 k) e.sends comes.0));
        fired = all-append (λ t. asks t.0 ≡ true → HasFired g all v t.1 t.2) once.tags (tagged_with 0 0 e.sends)
            (all-more (λ t. asks t.0 ≡ true → HasFired g all s t.1 t.2) (λ t. asks t.0 ≡ true → HasFired g all v t.1 t.2)
            (λ t h k. fired-later once v effect.grows (λ i b c r. r) t.1 t.2 (h k)) once.tags once.fired)
            (all-more (λ t. asks t.0 ≡ false) (λ t. asks t.0 ≡ true → HasFired g all v t.1 t.2) (λ t k d. absurd (true≢false (sym d ∙ k)))
            (tagged_with 0 0 e.sends) (asked-words 0 0 e.sends comes.0));
        apart = pairs-append TagApart once.tags (tagged_with 0 0 e.sends) once.apart (words-apart 0 0 e.sends comes.0)
            (words-across once.tags (tagged_with 0 0 e.sends) (asked-words 0 0 e.sends comes.0));
        paths_differ = ⊎_elim (λ k. paths-later once e.world effect.grows k) (λ k. new-paths k) comes.2;
        begun_by = ⊎_elim (λ k. begun-later once v effect.grows k sent (arrived-more m s.arrived)) (λ k. new-begun k) comes.2;
        some = effect.grows.there 0 once.some;
        bodies = ⊎_elim (λ k j t. let l : IsThere s.world j = subst (λ n. j < n) k t in effect.grows.blocks j 0 l (once.bodies j l))
            (λ k. new-bodies k) comes.2;
        filled_by = λ a j u t h. ⊎_elim (λ k. let r = once.filled_by a j u t k in (r.0, sent r.0 (Put_cell a j u t) r.1, arrived-more m s.arrived r.0 r.2))
            (λ k. (m, sent m (Put_cell a j u t) (is_sent ∙ ap Some k), arrived-now m s.arrived)) (comes.1 a j u t h);
        double = λ p t h. absurd (none-some (sym whole ∙ h));
      }
        where
          v : State
          v = after_delivery s m (Went e)

          sent : (n : ℕ) (o : Message) → slice_get s.sent n ≡ Some o → slice_get (s.sent ++ e.sends) n ≡ Some o
          sent n o h = get-left s.sent e.sends n (some-below s.sent n h) ∙ h

          caller : (c f y : ℕ) → x ≡ Begin c f y → IsThere s.world f
          caller c f y k = (subst (λ o. IsMessage g args s.world o) k reason).1.0

          new-paths : (c f y : ℕ) × (x ≡ Begin c f y) × (e.world ≡ with_begun s.world c f y) → (i j : ℕ) → IsThere e.world i → IsThere e.world j
              → path_of e.world i ≡ path_of e.world j → i ≡ j
          new-paths k =
              subst (λ w. (i j : ℕ) → IsThere w i → IsThere w j → path_of w i ≡ path_of w j → i ≡ j) (sym k.4)
              (paths-begun k.0 k.1 k.2 k.3 (caller k.0 k.1 k.2 k.3) (not-outside g args k.1 (length s.world.activations) (caller k.0 k.1 k.2 k.3) few))

          new-bodies : (c f y : ℕ) × (x ≡ Begin c f y) × (e.world ≡ with_begun s.world c f y) → (j : ℕ) → IsThere e.world j → has_entered e.world j 0 ≡ true
          new-bodies k = subst (λ w. (j : ℕ) → IsThere w j → has_entered w j 0 ≡ true) (sym k.4) (bodies-begun k.0 k.1 k.2)

          new-begun : (c f y : ℕ) × (x ≡ Begin c f y) × (e.world ≡ with_begun s.world c f y) → (j : ℕ) → IsThere e.world j
              → IsBegunBy (after_delivery s m (Went e)) j
          new-begun k =
              begun-begun k.0 k.1 k.2 k.3 (caller k.0 k.1 k.2 k.3) (not-outside g args k.1 (length s.world.activations) (caller k.0 k.1 k.2 k.3) few)
              (after_delivery s m (Went e)) k.4 sent (arrived-more m s.arrived) (arrived-now m s.arrived)

      -- where the world and the messages stay
      once-stays : (out : List (ℕ × ℕ)) (f : Option Fault) → ((p t : ℕ) → f ≡ Some (Second_store p t) → IsDouble g args s.world p t)
          → IsOnceState g args all (record s { printed = out; fault = f; arrived = m ∷ s.arrived })
      once-stays out f double = record {
        tags = once.tags;
        same = once.same;
        sent_by = once.sent_by;
        fired = all-more (λ t. asks t.0 ≡ true → HasFired g all s t.1 t.2) (λ t. asks t.0 ≡ true → HasFired g all v t.1 t.2)
            (λ t h k. fired-later once v (grows-same s.world) (λ i b c r. r) t.1 t.2 (h k)) once.tags once.fired;
        apart = once.apart;
        paths_differ = once.paths_differ;
        begun_by = begun-later once v (grows-same s.world) refl (λ n o h. h) (arrived-more m s.arrived);
        some = once.some;
        bodies = once.bodies;
        filled_by = λ a j u t h. let r = once.filled_by a j u t h in (r.0, r.1, arrived-more m s.arrived r.0 r.2);
        double = double;
      }
        where
          v : State
          v = record s { printed = out; fault = f; arrived = m ∷ s.arrived }

      -- a second store into a cell is of another instance than the first
      second-store : (p t a j u w : ℕ) → x ≡ Put_cell a j w t → cell_at s.world a j ≡ Some (Filled u p) → IsDouble g args s.world p t
      second-store p t a j u w e h = go (once.filled_by a j u p h)
        where
          tag : (n : ℕ) (o : Message) → slice_get s.sent n ≡ Some o → (r : Tag) × (slice_get once.tags n ≡ Some r) × (r.0 ≡ o)
          tag n o d = tag-at once.tags n o (subst (λ l. slice_get l n ≡ Some o) (sym once.same) d)

          by : (n : ℕ) (o : Message) (r : Tag) → slice_get once.tags n ≡ Some r → r.0 ≡ o → IsSentBy g args s.world o r.1 r.2
          by n o r d k = subst (λ q. IsSentBy g args s.world q r.1 r.2) k (all-at_place (λ q. IsSentBy g args s.world q.0 q.1 q.2) once.tags n r once.sent_by d)

          go : (n : ℕ) × (slice_get s.sent n ≡ Some (Put_cell a j u p)) × (has s.arrived n ≡ true) → IsDouble g args s.world p t
          go h = both (tag h.0 (Put_cell a j u p) h.1) (tag m (Put_cell a j w t) (is_sent ∙ ap Some e))
            where
              both : (r : Tag) × (slice_get once.tags h.0 ≡ Some r) × (r.0 ≡ Put_cell a j u p)
                  → (r : Tag) × (slice_get once.tags m ≡ Some r) × (r.0 ≡ Put_cell a j w t) → IsDouble g args s.world p t
              both k l = record {
                a = a;
                j = j;
                u = u;
                v = w;
                f = k.0.1;
                y = k.0.2;
                e = l.0.1;
                z = l.0.2;
                first = by h.0 (Put_cell a j u p) k.0 k.1 k.2;
                second = by m (Put_cell a j w t) l.0 l.1 l.2;
                different = λ c d. ⊎_elim (not-old h.0 h.2)
                    (λ r. absurd (⊎_elim (λ q. q (ap asks l.2) (ap asks k.2) (sym c) (sym d)) (λ q. q (ap asks k.2) (ap asks l.2) c d) r))
                    (pairs-at TagApart once.tags m h.0 l.0 k.0 once.apart l.1 k.1);
              }

      -- so each delivery keeps it
      once-delivery : length s.world.activations < 2 ^ 32 → IsMessage g args s.world x → (d : Delivery) → IsSoundDelivery g args s.world d
          → ComesOf s.world x d
          → IsOnceState g args all (after_delivery s m d)
      once-delivery few reason (Went e) effect comes = once-went few reason e effect comes
      once-delivery few reason (Printed k u) effect comes = once-stays (s.printed ++ (k, u) ∷ []) s.fault (λ p t h. absurd (none-some (sym whole ∙ h)))
      once-delivery few reason (Faulted f) effect comes = once-stays s.printed (Some f) (λ p t h. fault f comes p t (some-eq h))
        where
          second-first : {a b c d : ℕ} → Second_store a b ≡ Second_store c d → a ≡ c
          second-first r = cc

          second-second : {a b c d : ℕ} → Second_store a b ≡ Second_store c d → b ≡ d
          second-second r = cc

          outside-second : {a b c d e : ℕ} → Outside_cells a b c ≡ Second_store d e → ⊥
          outside-second r = cc

          fault : (f : Fault) → ComesOf s.world x (Faulted f) → (p t : ℕ) → f ≡ Second_store p t → IsDouble g args s.world p t
          fault (Outside_cells t j n) k p q h = absurd (outside-second h)
          fault (Second_store o t) k p q h =
              subst (λ z. IsDouble g args s.world p z) (second-second h)
              (subst (λ z. IsDouble g args s.world z t) (second-first h) (second-store o t k.0 k.1 k.2 k.3 k.4 k.5))

    -- ---- any event

    -- and each event
    pub once-event : (e : Event) → length s.world.activations < 2 ^ 32 → may_follow g all s e ≡ true → IsOnceState g args all (after_event g all s e)
    once-event (Run i b c) few may =
        once-run g args accepted all valid s sound once i b c (no-fault g args accepted s.fault (and-left (is_none s.fault) (may_run g all s i b c) may))
        (runnable g all s i b c (and-right (is_none s.fault) (may_run g all s i b c) may))
    once-event (Deliver m) few may = go (slice_get s.sent m) refl
      where
        go : (o : Option Message) → slice_get s.sent m ≡ o → IsOnceState g args all (deliver_all s m (or_message o))
        go None e = once
        go (Some x) e =
            let arrives = and-right (is_none s.fault) (may_arrive s m) may in
            let reason = all-at_place (IsMessage g args s.world) s.sent m x sound.sent e in
            once-delivery m x (no-fault g args accepted s.fault (and-left (is_none s.fault) (may_arrive s m) may)) e
            (not-true (has s.arrived m) (and-right (nat_lt m (length s.sent)) (not (has s.arrived m)) arrives))
            few reason (delivered s.world x) (deliver g args s.world sound.world few (opened g args accepted) x reason) (comes s.world x)

  -- and each legal journal
  once-from : are_valid g all ≡ true → (s : State) (es : List Event)
      → length (state_from g all s es).world.activations < 2 ^ 32 → IsSoundState g args s → IsOnceState g args all s → is_legal_from g all s es ≡ true
      → IsOnceState g args all (state_from g all s es)
  once-from valid s [] few sound once legal = once
  once-from valid s (e ∷ es) few sound once legal = go (may_follow g all s e) refl (once-from valid (after_event g all s e) es few)
    where
      go : (t : Bool) → may_follow g all s e ≡ t → (IsSoundState g args (after_event g all s e) → IsOnceState g args all (after_event g all s e)
          → is_legal_from g all (after_event g all s e) es ≡ true → IsOnceState g args all (state_from g all (after_event g all s e) es))
          → IsOnceState g args all (state_from g all (after_event g all s e) es)
      go true k ih =
          let n = size-from g all s (e ∷ es) in
          let small : length s.world.activations < 2 ^ 32 = omega (arith, n, few) in
          ih (sound-event g args accepted all s e valid small sound k) (once-event valid s sound once e small k) (rw (is_legal_from, k) at legal)
      go false k ih = absurd (true≢false (sym (rw (is_legal_from, k) at legal)))

-- the state behind a journal
pub once-journal : (g : Graph) (all : Partitions) (args : List ℕ) (events : List Event) → IsJournal g all args events
    → IsOnceState g args all (state_after g all args events)
once-journal g all args events journal =
    once-from g args journal.accepted all journal.valid (initial g args) events journal.few_activations (sound-initial g args journal.accepted)
    (once-initial g args journal.accepted all) journal.legal
