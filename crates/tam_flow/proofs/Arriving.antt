-- What a wish for an activation and a word to the outside have done, once they arrived.
use Rattle.std.proofs.Common.{◌≡◌, ℕ, zero, suc, ◌^◌, ◌<◌, Bool, true, false, ◌==◌, List, [], ◌∷◌, ◌++◌, Option, Some, None, is_none, length, slice_get}
use Rattle.std.proofs.Common.{Contains, refl, sym, ap, ◌∙◌, arith, subst, inl, inr, ◌⊎◌, ⊎_elim, true≢false}
use Rattle.std.proofs.lemmas.List.{length-append}
use Rattle.std.proofs.lemmas.List.Elements.{Contains-append_left, Contains-append_right}
use Rattle.tam_word.specs.Lists.{any_of, has}
use Rattle.tam_graph.specs.Graphs.{Graph, callee_of_kind}
use Rattle.tam_graph.specs.Accepted.{IsAccepted}
use Rattle.tam_msgs.specs.declared.message.Message.{Message}
use Rattle.tam_msgs.specs.declared.message.Message.TheVariants.{Word as Carry, Frame as Begin}
use Rattle.tam_msgs.specs.Messages.{outside}
use Rattle.tam_split.specs.GraphPartitions.{Partitions, are_valid}
use Rattle.tam_fire.specs.FiringRules.{code_at}
use Rattle.tam_world.specs.Worlds.{World, Delivery, Went, Printed, Faulted, delivered, activation_at, begun}
use Rattle.tam_flow.specs.Journals.{State, Event, Run, Deliver, initial, class_fired, or_message, after_delivery, deliver_all, after_event, may_run, may_follow}
use Rattle.tam_flow.specs.Journals.{is_legal_from, state_from, state_after}
use Rattle.tam_flow.specs.Told.{path_of}
use Rattle.tam_flow.specs.JournalLaws.{IsJournal}
use Rattle.tam_flow.specs.Reached.{IsThere, WasSent, HasArrived}
use Rattle.tam_word.proofs.Tests.{and-right, number-eq}
use Rattle.tam_word.proofs.Each.{all-at_place, get-left, get-last}
use Rattle.tam_flow.proofs.Growing.{Grows, with_begun, grows-begun, path-begun}
use Rattle.tam_flow.proofs.Justified.{IsMessage}
use Rattle.tam_flow.proofs.CellChanges.{some-eq}
use Rattle.tam_flow.proofs.Deliveries.{IsSoundDelivery, not-outside, deliver, some-below, there-some}
use Rattle.tam_flow.proofs.ActivationCounts.{size-from}
use Rattle.tam_flow.proofs.SoundStates.{IsSoundState, runnable, run-effect, opened, sound-event, sound-initial, sound-journal}
use Rattle.tam_flow.proofs.SentOnce.{IsOnceState, nil-cons}
use Rattle.tam_flow.proofs.DeliveredOnce.{once-journal}
use Rattle.tam_flow.proofs.ReachedParts.{caller-path, root-path}
use Rattle.tam_flow.proofs.Sending.{sent-event}

-- the activation that a wish begins, and its answer
abbrev pub IsAnswered : State → ℕ → ℕ → Type 0
IsAnswered s f x = (j : ℕ) × IsThere s.world j × (path_of s.world j ≡ x ∷ path_of s.world f) × WasSent s (Carry f x j)

-- what arrived was sent, has begun an activation and was answered, or was printed
pub record IsArrivedState (s : State) : Type 0 where
  pub sent_before : (n : ℕ) → has s.arrived n ≡ true → n < length s.sent
  pub began : (n c f x : ℕ) → slice_get s.sent n ≡ Some (Begin c f x) → has s.arrived n ≡ true → IsAnswered s f x
  pub printed : (n k v : ℕ) → slice_get s.sent n ≡ Some (Carry outside k v) → has s.arrived n ≡ true → Contains s.printed (k, v)

-- which number has arrived
pub arrived-cases : (m : ℕ) (xs : List ℕ) (n : ℕ) → has (m ∷ xs) n ≡ true → (m ≡ n) ⊎ (has xs n ≡ true)
arrived-cases m xs n h = go (m == n) refl
  where
    go : (b : Bool) → (m == n) ≡ b → (m ≡ n) ⊎ (has xs n ≡ true)
    go true e = inl (number-eq m n e)
    go false e = inr (rw (any_of, e) at h)

-- a wish for an activation is of a caller that is there
begin-there : (g : Graph) (args : List ℕ) (w : World) (c f x : ℕ) → IsMessage g args w (Begin c f x) → IsThere w f
begin-there g args w c f x h = h.1.0

module _ (g : Graph) (args : List ℕ) (accepted : IsAccepted g) (all : Partitions) where
  -- at the beginning nothing has arrived
  arrived-initial : IsArrivedState (initial g args)
  arrived-initial = record {
    sent_before = λ n h. absurd (true≢false (sym h));
    began = λ n c f x e h. absurd (true≢false (sym h));
    printed = λ n k v e h. absurd (true≢false (sym h));
  }

  module _ (s : State) (sound : IsSoundState g args s) (done : IsArrivedState s) where
    -- an answer stays, where the world grows and what was sent stays sent
    answered-later : (v : State) → Grows s.world v.world → ((n : ℕ) (m : Message) → slice_get s.sent n ≡ Some m → slice_get v.sent n ≡ Some m)
        → (f x : ℕ) → IsThere s.world f → IsAnswered s f x → IsAnswered v f x
    answered-later v grows sent f x t h =
        (h.0, grows.there h.0 h.1, grows.path h.0 h.1 ∙ h.2 ∙ ap (λ p. x ∷ p) (sym (grows.path f t)), (h.3.0, sent h.3.0 (Carry f x h.0) h.3.1))

    -- a sent wish's activation is there
    wish-there : (n c f x : ℕ) → slice_get s.sent n ≡ Some (Begin c f x) → IsThere s.world f
    wish-there n c f x e = begin-there g args s.world c f x (all-at_place (IsMessage g args s.world) s.sent n (Begin c f x) sound.sent e)

    -- where messages are only added behind, what had arrived is what it was
    old-message : (v : State) → ((n : ℕ) (m : Message) → slice_get s.sent n ≡ Some m → slice_get v.sent n ≡ Some m) → (n : ℕ) (m : Message)
        → n < length s.sent
        → slice_get v.sent n ≡ Some m → slice_get s.sent n ≡ Some m
    old-message v sent n m l e = go (slice_get s.sent n) refl
      where
        go : (o : Option Message) → slice_get s.sent n ≡ o → slice_get s.sent n ≡ Some m
        go None d = absurd (there-some s.sent n l d)
        go (Some k) d = d ∙ sym (sent n k d) ∙ e

    -- a run keeps what arrived
    arrived-run : (i b c : ℕ) → are_valid g all ≡ true → may_run g all s i b c ≡ true → IsArrivedState (after_event g all s (Run i b c))
    arrived-run i b c valid may = record {
      sent_before = λ n h. let l = done.sent_before n h in omega (arith, length-append s.sent (class_fired g all s i b c).sends, l);
      began = λ n d f x e h.
          let old = old-message v (sent-event g all s (Run i b c)) n (Begin d f x) (done.sent_before n h) e in
          answered-later v (run-effect g args accepted all s i b c valid sound (runnable g all s i b c may)).grows (sent-event g all s (Run i b c)) f x
          (wish-there n d f x old)
          (done.began n d f x old h);
      printed = λ n k u e h. done.printed n k u (old-message v (sent-event g all s (Run i b c)) n (Carry outside k u) (done.sent_before n h) e) h;
    }
      where
        v : State
        v = after_event g all s (Run i b c)

    module _ (m : ℕ) (x : Message) (is_sent : slice_get s.sent m ≡ Some x) where
      -- whatever comes of the delivery, where it does what the message asks for
      arrived-any : (d : Delivery) → IsSoundDelivery g args s.world d
          → ((c f y : ℕ) → x ≡ Begin c f y → IsAnswered (after_delivery s m d) f y)
          → ((k u : ℕ) → x ≡ Carry outside k u → Contains (after_delivery s m d).printed (k, u)) → IsArrivedState (after_delivery s m d)
      arrived-any (Went e) effect begins prints = record {
        sent_before = λ n h. let l = length-append s.sent e.sends in let k = before n h in omega (arith, l, k);
        began = λ n c f y q h. ⊎_elim (λ k. begins c f y (this n k (Begin c f y) q))
            (λ k. let old = old-message v sent n (Begin c f y) (done.sent_before n k) q in answered-later v effect.grows sent f y (wish-there n c f y old)
            (done.began n c f y old k))
            (arrived-cases m s.arrived n h);
        printed = λ n k u q h. ⊎_elim (λ r. prints k u (this n r (Carry outside k u) q))
            (λ r. done.printed n k u (old-message v sent n (Carry outside k u) (done.sent_before n r) q) r) (arrived-cases m s.arrived n h);
      }
        where
          v : State
          v = after_delivery s m (Went e)

          sent : (n : ℕ) (o : Message) → slice_get s.sent n ≡ Some o → slice_get (s.sent ++ e.sends) n ≡ Some o
          sent n o h = get-left s.sent e.sends n (some-below s.sent n h) ∙ h

          before : (n : ℕ) → has (m ∷ s.arrived) n ≡ true → n < length s.sent
          before n h = ⊎_elim (λ k. subst (λ i. i < length s.sent) k (some-below s.sent m is_sent)) (λ k. done.sent_before n k) (arrived-cases m s.arrived n h)

          this : (n : ℕ) → m ≡ n → (o : Message) → slice_get (s.sent ++ e.sends) n ≡ Some o → x ≡ o
          this n k o q = some-eq (sym (subst (λ i. slice_get (s.sent ++ e.sends) i ≡ Some x) k (sent m x is_sent)) ∙ q)
      arrived-any (Printed p w) effect begins prints = record {
        sent_before = λ n h. ⊎_elim (λ k. subst (λ i. i < length s.sent) k (some-below s.sent m is_sent)) (λ k. done.sent_before n k)
            (arrived-cases m s.arrived n h);
        began = λ n c f y q h. ⊎_elim (λ k. begins c f y (some-eq (sym (subst (λ i. slice_get s.sent i ≡ Some x) k is_sent) ∙ q)))
            (λ k. done.began n c f y q k) (arrived-cases m s.arrived n h);
        printed = λ n k u q h. ⊎_elim (λ r. prints k u (some-eq (sym (subst (λ i. slice_get s.sent i ≡ Some x) r is_sent) ∙ q)))
            (λ r. Contains-append_left s.printed ((p, w) ∷ []) (k, u) (done.printed n k u q r)) (arrived-cases m s.arrived n h);
      }
      arrived-any (Faulted f) effect begins prints = record {
        sent_before = λ n h. ⊎_elim (λ k. subst (λ i. i < length s.sent) k (some-below s.sent m is_sent)) (λ k. done.sent_before n k)
            (arrived-cases m s.arrived n h);
        began = λ n c f y q h. ⊎_elim (λ k. begins c f y (some-eq (sym (subst (λ i. slice_get s.sent i ≡ Some x) k is_sent) ∙ q)))
            (λ k. done.began n c f y q k) (arrived-cases m s.arrived n h);
        printed = λ n k u q h. ⊎_elim (λ r. prints k u (some-eq (sym (subst (λ i. slice_get s.sent i ≡ Some x) r is_sent) ∙ q)))
            (λ r. done.printed n k u q r) (arrived-cases m s.arrived n h);
      }

      -- a wish for an activation begins it and is answered
      begins-it : length s.world.activations < 2 ^ 32 → (c f y : ℕ) → x ≡ Begin c f y → IsAnswered (after_delivery s m (delivered s.world x)) f y
      begins-it few c f y e = subst (λ o. IsAnswered (after_delivery s m (delivered s.world o)) f y) (sym e) answer
        where
          there : IsThere s.world f
          there = wish-there m c f y (is_sent ∙ ap Some e)

          grows : Grows s.world (with_begun s.world c f y)
          grows = grows-begun s.world c f y

          answer : IsAnswered (after_delivery s m (delivered s.world (Begin c f y))) f y
          answer = (
            length s.world.activations,
            omega (arith, length-append s.world.activations (begun c f y ∷ [])),
            path-begun s.world c f y (not-outside g args f (length s.world.activations) there few) ∙ ap (λ p. y ∷ p) (sym (grows.path f there)),
            (length s.sent, get-last s.sent (Carry f y (length s.world.activations))),
          )

      -- a word to the outside is printed
      prints-it : (k u : ℕ) → x ≡ Carry outside k u → Contains (after_delivery s m (delivered s.world x)).printed (k, u)
      prints-it k u e =
          subst (λ o. Contains (after_delivery s m (delivered s.world o)).printed (k, u)) (sym e)
          (Contains-append_right s.printed ((k, u) ∷ []) (k, u) (0, omega arith, refl))

    -- and so does each event
    arrived-event : (e : Event) → are_valid g all ≡ true → length s.world.activations < 2 ^ 32 → may_follow g all s e ≡ true
        → IsArrivedState (after_event g all s e)
    arrived-event (Run i b c) valid few may = arrived-run i b c valid (and-right (is_none s.fault) (may_run g all s i b c) may)
    arrived-event (Deliver m) valid few may = go (slice_get s.sent m) refl
      where
        go : (o : Option Message) → slice_get s.sent m ≡ o → IsArrivedState (deliver_all s m (or_message o))
        go None e = done
        go (Some x) e =
            arrived-any m x e (delivered s.world x)
            (deliver g args s.world sound.world few (opened g args accepted) x (all-at_place (IsMessage g args s.world) s.sent m x sound.sent e))
            (begins-it m x e few) (prints-it m x e)

  -- and each legal journal
  arrived-from : (s : State) (es : List Event) → are_valid g all ≡ true → length (state_from g all s es).world.activations < 2 ^ 32 → IsSoundState g args s
      → IsArrivedState s
      → is_legal_from g all s es ≡ true → IsArrivedState (state_from g all s es)
  arrived-from s [] valid few sound done legal = done
  arrived-from s (e ∷ es) valid few sound done legal = go (may_follow g all s e) refl (arrived-from (after_event g all s e) es valid few)
    where
      go : (t : Bool) → may_follow g all s e ≡ t
          → (IsSoundState g args (after_event g all s e) → IsArrivedState (after_event g all s e) → is_legal_from g all (after_event g all s e) es ≡ true
          → IsArrivedState (state_from g all (after_event g all s e) es)) → IsArrivedState (state_from g all (after_event g all s e) es)
      go true k ih =
          let n = size-from g all s (e ∷ es) in
          let small : length s.world.activations < 2 ^ 32 = omega (arith, n, few) in
          ih (sound-event g args accepted all s e valid small sound k) (arrived-event s sound done e valid small k) (rw (is_legal_from, k) at legal)
      go false k ih = absurd (true≢false (sym (rw (is_legal_from, k) at legal)))

-- the state behind a journal
pub arrived-journal : (g : Graph) (all : Partitions) (args : List ℕ) (events : List Event) → IsJournal g all args events
    → IsArrivedState (state_after g all args events)
arrived-journal g all args events journal =
    arrived-from g args journal.accepted all (initial g args) events journal.valid journal.few_activations (sound-initial g args journal.accepted)
    (arrived-initial g args journal.accepted all) journal.legal

-- a wish for an activation that arrived has begun one, by its code, caller and call, and its answer was sent
pub began : (g : Graph) (all : Partitions) (args : List ℕ) (events : List Event) → IsJournal g all args events → (c f x : ℕ)
    → HasArrived (state_after g all args events) (Begin c f x)
    → (j : ℕ) × (0 < j) × IsThere (state_after g all args events).world j × ((activation_at (state_after g all args events).world j).code ≡ c)
    × ((activation_at (state_after g all args events).world j).caller ≡ f) × ((activation_at (state_after g all args events).world j).call ≡ x)
    × WasSent (state_after g all args events) (Carry f x j)
began g all args events journal c f x h = go (arrived.began h.0 c f x h.1 h.2)
  where
    s : State
    s = state_after g all args events

    sound : IsSoundState g args (state_after g all args events)
    sound = sound-journal g all args events journal

    once : IsOnceState g args all (state_after g all args events)
    once = once-journal g all args events journal

    arrived : IsArrivedState (state_after g all args events)
    arrived = arrived-journal g all args events journal

    go : IsAnswered (state_after g all args events) f x
        → (j : ℕ) × (0 < j) × IsThere (state_after g all args events).world j × ((activation_at (state_after g all args events).world j).code ≡ c)
        × ((activation_at (state_after g all args events).world j).caller ≡ f) × ((activation_at (state_after g all args events).world j).call ≡ x)
        × WasSent (state_after g all args events) (Carry f x j)
    go r =
        let reason = all-at_place (IsMessage g args (state_after g all args events).world) (state_after g all args events).sent h.0
        (Begin c f x) sound.sent h.1 in
        let by = caller-path g args all (state_after g all args events) sound once r.0 f x r.1 reason.1.0 r.2 in
        let code = sym (sound.world.path_codes r.0 r.1) ∙ ap (code_at g) (r.2 ∙ ap (λ p. x ∷ p) reason.1.1) ∙ ap callee_of_kind reason.2 in
        (r.0, positive r.0 refl, r.1, code, by.0, by.1, r.3)
      where
        positive : (n : ℕ) → r.0 ≡ n → 0 < r.0
        positive zero e = absurd (nil-cons
            (sym (root-path g args all (state_after g all args events) sound once) ∙ ap (path_of (state_after g all args events).world) (sym e) ∙ r.2))
        positive (suc n) e = omega (arith, e)
