-- What holds at the beginning, and what each run and each delivery keeps, holds behind each legal journal.
use Rattle.std.proofs.Common.{◌≡◌, ℕ, ◌^◌, ◌<◌, Bool, true, false, not, List, [], ◌∷◌, Option, Some, None, is_none, length, nat_lt, slice_get, refl, sym, arith}
use Rattle.std.proofs.Common.{true≢false}
use Rattle.tam_word.specs.Lists.{has}
use Rattle.tam_word.proofs.Tests.{and-left, and-right, not-true}
use Rattle.tam_graph.specs.Graphs.{Graph}
use Rattle.tam_graph.specs.Accepted.{IsAccepted}
use Rattle.tam_split.specs.GraphPartitions.{Partitions, are_valid}
use Rattle.tam_msgs.specs.declared.message.Message.{Message}
use Rattle.tam_world.specs.Worlds.{delivered}
use Rattle.tam_flow.specs.Journals.{State, Event, Run, Deliver, initial, or_message, after_delivery, deliver_all, after_event, may_run, may_arrive, may_follow}
use Rattle.tam_flow.specs.Journals.{is_legal_from, state_from, state_after}
use Rattle.tam_flow.specs.JournalLaws.{IsJournal}
use Rattle.tam_flow.proofs.ActivationCounts.{size-from}
use Rattle.tam_flow.proofs.SoundStates.{IsSoundState, IsRunnable, runnable, no-fault, sound-event, sound-initial}
use Rattle.tam_flow.proofs.SentOnce.{IsOnceState, once-initial}
use Rattle.tam_flow.proofs.DeliveredOnce.{once-event}

module _ (g : Graph) (args : List ℕ) (accepted : IsAccepted g) (all : Partitions) (valid : are_valid g all ≡ true) where
  -- a state that a legal journal leaves, before its next event
  pub record IsLegalState (s : State) : Type 0 where
    pub sound : IsSoundState g args s
    pub once : IsOnceState g args all s
    pub few : length s.world.activations < 2 ^ 32

  -- the property is kept by each run and by each delivery
  pub record IsStepped (Q : State → Type 0) : Type 0 where
    pub runs : (s : State) → IsLegalState s → s.fault ≡ None → Q s → (i b c : ℕ) → IsRunnable g all s i b c → Q (after_event g all s (Run i b c))
    pub arrives : (s : State) → IsLegalState s → s.fault ≡ None → Q s → (m : ℕ) (x : Message) → slice_get s.sent m ≡ Some x → has s.arrived m ≡ false
        → Q (after_delivery s m (delivered s.world x))

  -- so by each event that may follow
  stepped-event : (Q : State → Type 0) → IsStepped Q → (s : State) → IsLegalState s → Q s → (e : Event) → may_follow g all s e ≡ true
      → Q (after_event g all s e)
  stepped-event Q steps s state h (Run i b c) may =
      steps.runs s state (no-fault g args accepted s.fault (and-left (is_none s.fault) (may_run g all s i b c) may)) h i b c
      (runnable g all s i b c (and-right (is_none s.fault) (may_run g all s i b c) may))
  stepped-event Q steps s state h (Deliver m) may = go (slice_get s.sent m) refl
    where
      go : (o : Option Message) → slice_get s.sent m ≡ o → Q (deliver_all s m (or_message o))
      go None e = h
      go (Some x) e =
          let arrives = and-right (is_none s.fault) (may_arrive s m) may in
          steps.arrives s state (no-fault g args accepted s.fault (and-left (is_none s.fault) (may_arrive s m) may)) h m x e
          (not-true (has s.arrived m) (and-right (nat_lt m (length s.sent)) (not (has s.arrived m)) arrives))

  -- and by many
  stepped-from : (Q : State → Type 0) → IsStepped Q → (s : State) (es : List Event) → length (state_from g all s es).world.activations < 2 ^ 32
      → IsSoundState g args s → IsOnceState g args all s → Q s → is_legal_from g all s es ≡ true → Q (state_from g all s es)
  stepped-from Q steps s [] few sound once h legal = h
  stepped-from Q steps s (e ∷ es) few sound once h legal = go (may_follow g all s e) refl (stepped-from Q steps (after_event g all s e) es few)
    where
      go : (t : Bool) → may_follow g all s e ≡ t
          → (IsSoundState g args (after_event g all s e) → IsOnceState g args all (after_event g all s e) → Q (after_event g all s e)
          → is_legal_from g all (after_event g all s e) es ≡ true → Q (state_from g all (after_event g all s e) es))
          → Q (state_from g all (after_event g all s e) es)
      go true k ih =
          let n = size-from g all s (e ∷ es) in
          let small : length s.world.activations < 2 ^ 32 = omega (arith, n, few) in
          ih (sound-event g args accepted all s e valid small sound k) (once-event g args accepted all valid s sound once e small k)
          (stepped-event Q steps s (record { sound = sound; once = once; few = small }) h e k) (rw (is_legal_from, k) at legal)
      go false k ih = absurd (true≢false (sym (rw (is_legal_from, k) at legal)))

-- what is kept holds behind a journal
pub journal-keeps : (g : Graph) (all : Partitions) (args : List ℕ) (events : List Event) (journal : IsJournal g all args events) (Q : State → Type 0)
    → Q (initial g args) → IsStepped g args journal.accepted all journal.valid Q → Q (state_after g all args events)
journal-keeps g all args events journal Q first steps =
    stepped-from g args journal.accepted all journal.valid Q steps (initial g args) events journal.few_activations (sound-initial g args journal.accepted)
    (once-initial g args journal.accepted all) first journal.legal
