-- Behind each legal journal in which each node is sent one word at most, the state keeps firings, messages and words.
use Rattle.std.proofs.Common.{◌≡◌, ℕ, zero, suc, ◌^◌, ◌<◌, Bool, true, false, not, List, [], ◌∷◌, zip, Option, Some, None, is_none, length}
use Rattle.std.proofs.Common.{nat_lt, slice_get, refl, sym, ap, ◌∙◌, arith, inl, inr, true≢false}
use Rattle.std.specs.List.{AllByRecursion}
use Rattle.tam_word.specs.Lists.{below, has}
use Rattle.tam_msgs.specs.declared.message.Message.{Message}
use Rattle.tam_msgs.specs.declared.message.Message.TheVariants.{Word as Carry}
use Rattle.tam_graph.specs.Graphs.{Graph, code_of, kind_at, node_where, is_param}
use Rattle.tam_graph.specs.Accepted.{IsAccepted}
use Rattle.tam_split.specs.GraphPartitions.{Partitions, are_valid}
use Rattle.tam_word.proofs.Tests.{and-right, not-true}
use Rattle.tam_word.proofs.Each.{all-append, all-at_place, all-flat, all-map, all-more}
use Rattle.tam_world.specs.Worlds.{Delivery, Went, Printed, Faulted, delivered, opening, argument_message, word_of, has_entered}
use Rattle.tam_flow.specs.Journals.{State, Event, Run, Deliver, initial, class_fired, block_of_act, or_message, after_delivery, deliver_all}
use Rattle.tam_flow.specs.Journals.{after_event, may_run, may_arrive, may_follow, is_legal_from, state_from, state_after}
use Rattle.tam_flow.specs.JournalLaws.{IsJournal}
use Rattle.tam_flow.specs.Reached.{IsThere}
use Rattle.tam_flow.proofs.ActivationCounts.{size-from}
use Rattle.tam_flow.proofs.ActivationLists.{entered-first}
use Rattle.tam_flow.proofs.Deliveries.{IsSoundDelivery, deliver}
use Rattle.tam_flow.proofs.Growing.{grows-same}
use Rattle.tam_flow.proofs.Justified.{IsMessage}
use Rattle.tam_flow.proofs.Nodes.{where-each, is-param}
use Rattle.tam_flow.proofs.Sending.{sent-from}
use Rattle.tam_flow.proofs.SentOnce.{HasFired, asked-words, initial-words}
use Rattle.tam_flow.proofs.Senders.{asks, tagged_with, tagged-same, words-apart}
use Rattle.tam_flow.proofs.SoundStates.{IsSoundState, IsRunnable, runnable, run_order, run-effect, order-ready, opened, sound-event, sound-initial}
use Rattle.tam_flow.proofs.Givers.{is_received}
use Rattle.tam_flow.proofs.KeptRuns.{IsOfFiring, IsKeptState}
use Rattle.tam_flow.proofs.KeptEvents.{kept-run}
use Rattle.tam_flow.proofs.Receivers.{IsForReceiver, SendsToReceivers, receivers-later, receivers-each, delivered-receivers}
use Rattle.tam_flow.proofs.KeptDeliveries.{OneWordSent, kept-delivery}

-- each word on its way is for a node to which messages carry words
abbrev pub AllForReceivers : Graph → State → Type 0
AllForReceivers g s = AllByRecursion (IsForReceiver g s.world) s.sent

module _ (g : Graph) (args : List ℕ) (accepted : IsAccepted g) (all : Partitions) where
  -- ---- the beginning

  -- arguments are for params
  receivers-initial : AllForReceivers g (initial g args)
  receivers-initial = all-flat (IsForReceiver g (opening g)) (argument_message g) (zip (below (length args)) args) (each (zip (below (length args)) args))
    where
      there : IsThere (opening g) 0
      there = omega arith

      one : (k v : ℕ) → AllByRecursion (IsForReceiver g (opening g)) (argument_message g (k, v))
      one k v =
          all-map (IsForReceiver g (opening g)) (λ x. Carry 0 x v) (node_where (code_of g g.main) (is_param k))
          (all-more (λ x. (x < length (code_of g g.main).nodes) × (is_param k (kind_at (code_of g g.main) x) ≡ true))
          (λ x. IsForReceiver g (opening g) (Carry 0 x v)) (λ x m. inr (there, ap is_received (is-param k _ m.1)))
          (node_where (code_of g g.main) (is_param k)) (where-each (code_of g g.main) (is_param k)))

      each : (es : List (ℕ × ℕ)) → AllByRecursion (λ e. AllByRecursion (IsForReceiver g (opening g)) (argument_message g e)) es
      each [] = tt
      each (e ∷ es) = (one e.0 e.1, each es)

  -- nothing has fired yet, and no node has a word
  kept-initial : IsKeptState g all (initial g args)
  kept-initial = record {
    tags = tagged_with 0 0 (initial g args).sent;
    same = tagged-same 0 0 (initial g args).sent;
    of_firings = all-more (λ t. asks t.0 ≡ false) (IsOfFiring g (opening g) (HasFired g all (initial g args))) (λ t k d. absurd (true≢false (sym d ∙ k)))
        (tagged_with 0 0 (initial g args).sent) (asked-words 0 0 (initial g args).sent words);
    apart = words-apart 0 0 (initial g args).sent words;
    kept = record {
      there = λ i x h. absurd (true≢false (sym h.ran));
      open_block = λ i x h. absurd (true≢false (sym h.ran));
      done = λ i x h. absurd (true≢false (sym h.ran));
      sources = λ i y u h. absurd (no-word i y u h);
      blocks = λ i b t h. inl (body i b t h);
    };
    inlets = λ i b c y h. absurd (true≢false (sym h));
    classes = λ i b c h. absurd (true≢false (sym h));
  }
    where
      words : AllByRecursion (λ m. asks m ≡ false) (initial g args).sent
      words = initial-words g args accepted all

      nil-cons : {u : ℕ} → [] ≡ u ∷ [] → ⊥
      nil-cons e = cc

      no-word : (i y u : ℕ) → word_of (opening g) i y ≡ u ∷ [] → ⊥
      no-word zero y u h = nil-cons h
      no-word (suc i) y u h = nil-cons h

      body : (i b : ℕ) → IsThere (opening g) i → has_entered (opening g) i b ≡ true → b ≡ 0
      body zero b t h = sym (entered-first b h)
      body (suc i) b t h = absurd (omega (arith, t))

  -- ---- an event

  module _ (valid : are_valid g all ≡ true) (s : State) (sound : IsSoundState g args s) (receive : AllForReceivers g s) where
    -- after a run words are for receivers
    receivers-run : (i b c : ℕ) → IsRunnable g all s i b c → AllForReceivers g (after_event g all s (Run i b c))
    receivers-run i b c run =
        all-append (IsForReceiver g (class_fired g all s i b c).world) s.sent (class_fired g all s i b c).sends
        (receivers-later g s.world (class_fired g all s i b c).world (run-effect g args accepted all s i b c valid sound run).grows s.sent receive)
        (receivers-each g args accepted s.world i run.there (block_of_act g s i b) (run_order g args accepted all s i b c valid sound run)
        (record { world = s.world; sends = [] })
        (record { world = sound.world; grows = grows-same s.world; sends = tt }) tt (order-ready g args accepted all s i b c valid sound run))

    -- and after a delivery
    receivers-delivery : (m : ℕ) (d : Delivery) → IsSoundDelivery g args s.world d → SendsToReceivers g d → AllForReceivers g (after_delivery s m d)
    receivers-delivery m (Went e) effect sends =
        all-append (IsForReceiver g e.world) s.sent e.sends (receivers-later g s.world e.world effect.grows s.sent receive) sends
    receivers-delivery m (Printed k v) effect sends = receive
    receivers-delivery m (Faulted f) effect sends = receive

    -- so after each event
    receivers-event : (e : Event) → length s.world.activations < 2 ^ 32 → may_follow g all s e ≡ true → AllForReceivers g (after_event g all s e)
    receivers-event (Run i b c) few may = receivers-run i b c (runnable g all s i b c (and-right (is_none s.fault) (may_run g all s i b c) may))
    receivers-event (Deliver m) few may = go (slice_get s.sent m) refl
      where
        go : (o : Option Message) → slice_get s.sent m ≡ o → AllForReceivers g (deliver_all s m (or_message o))
        go None e = receive
        go (Some x) e =
            let reason = all-at_place (IsMessage g args s.world) s.sent m x sound.sent e in
            receivers-delivery m (delivered s.world x) (deliver g args s.world sound.world few (opened g args accepted) x reason)
            (delivered-receivers g args s.world sound.world x reason)

    -- each event keeps what the state keeps
    kept-event : IsKeptState g all s → OneWordSent s → (e : Event) → may_follow g all s e ≡ true → IsKeptState g all (after_event g all s e)
    kept-event state once (Run i b c) may =
        kept-run g args accepted all valid s sound state i b c (runnable g all s i b c (and-right (is_none s.fault) (may_run g all s i b c) may))
    kept-event state once (Deliver m) may = go (slice_get s.sent m) refl
      where
        go : (o : Option Message) → slice_get s.sent m ≡ o → IsKeptState g all (deliver_all s m (or_message o))
        go None e = state
        go (Some x) e =
            let arrives = and-right (is_none s.fault) (may_arrive s m) may in
            kept-delivery g args all s sound state m x e (not-true (has s.arrived m) (and-right (nat_lt m (length s.sent)) (not (has s.arrived m)) arrives))
            once (all-at_place (IsForReceiver g s.world) s.sent m x receive e)

  -- ---- a journal

  -- what is sent once at last was sent once before
  once-before : (s : State) (es : List Event) → OneWordSent (state_from g all s es) → OneWordSent s
  once-before s es once m n f x u v inside p q =
      once m n f x u v inside (sent-from g all s es m (Carry f x u) p) (sent-from g all s es n (Carry f x v) q)

  -- each legal journal keeps it
  kept-from : are_valid g all ≡ true → (s : State) (es : List Event) → length (state_from g all s es).world.activations < 2 ^ 32 → IsSoundState g args s
      → AllForReceivers g s → IsKeptState g all s → OneWordSent (state_from g all s es) → is_legal_from g all s es ≡ true
      → IsKeptState g all (state_from g all s es) × AllForReceivers g (state_from g all s es)
  kept-from valid s [] few sound receive state once legal = (state, receive)
  kept-from valid s (e ∷ es) few sound receive state once legal =
      go (may_follow g all s e) refl (λ a b c d. kept-from valid (after_event g all s e) es few a b c once d)
    where
      go : (t : Bool) → may_follow g all s e ≡ t
          → (IsSoundState g args (after_event g all s e) → AllForReceivers g (after_event g all s e) → IsKeptState g all (after_event g all s e)
          → is_legal_from g all (after_event g all s e) es ≡ true
          → IsKeptState g all (state_from g all (after_event g all s e) es) × AllForReceivers g (state_from g all (after_event g all s e) es))
          → IsKeptState g all (state_from g all (after_event g all s e) es) × AllForReceivers g (state_from g all (after_event g all s e) es)
      go true k ih =
          let n = size-from g all s (e ∷ es) in
          let small : length s.world.activations < 2 ^ 32 = omega (arith, n, few) in
          ih (sound-event g args accepted all s e valid small sound k) (receivers-event valid s sound receive e small k)
          (kept-event valid s sound receive state (once-before s (e ∷ es) once) e k) (rw (is_legal_from, k) at legal)
      go false k ih = absurd (true≢false (sym (rw (is_legal_from, k) at legal)))

-- so does the state behind a journal
pub kept-journal : (g : Graph) (all : Partitions) (args : List ℕ) (events : List Event) → IsJournal g all args events
    → OneWordSent (state_after g all args events) → IsKeptState g all (state_after g all args events)
kept-journal g all args events journal once =
    (kept-from g args journal.accepted all journal.valid (initial g args) events journal.few_activations (sound-initial g args journal.accepted)
    (receivers-initial g args journal.accepted all) (kept-initial g args journal.accepted all) once journal.legal).0
