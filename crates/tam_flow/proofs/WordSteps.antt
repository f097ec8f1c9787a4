-- A state that goes on: what was sent and has arrived stays so; and what each event keeps, where the words of the state stand, holds behind each legal journal.
use Rattle.std.proofs.Common.{◌≡◌, ℕ, ◌<◌, true, false, List, ◌++◌, Some, None, length, slice_get, sym, ◌∙◌, subst, inl, inr, ◌⊎◌, ⊎_elim}
use Rattle.tam_word.specs.Lists.{has}
use Rattle.tam_word.proofs.Each.{get-left}
use Rattle.tam_graph.specs.Graphs.{Graph}
use Rattle.tam_graph.specs.Accepted.{IsAccepted}
use Rattle.tam_split.specs.GraphPartitions.{Partitions, are_valid}
use Rattle.tam_msgs.specs.declared.message.Message.{Message}
use Rattle.tam_world.specs.Worlds.{Delivery, Went, Printed, Faulted, delivered}
use Rattle.tam_flow.specs.Journals.{State, Event, Run, initial, class_fired, after_delivery, after_event, state_after}
use Rattle.tam_flow.specs.JournalLaws.{IsJournal}
use Rattle.tam_flow.proofs.Arriving.{arrived-cases}
use Rattle.tam_flow.proofs.CellChanges.{some-eq}
use Rattle.tam_flow.proofs.Deliveries.{some-below}
use Rattle.tam_flow.proofs.Sending.{sent-event}
use Rattle.tam_flow.proofs.SoundStates.{IsRunnable}
use Rattle.tam_flow.proofs.SentOnce.{arrived-more}
use Rattle.tam_flow.proofs.WordSources.{IsWordState, words-initial, words-run, arrived-sent}
use Rattle.tam_flow.proofs.WordsOnce.{words-delivered}
use Rattle.tam_flow.proofs.JournalSteps.{IsLegalState, journal-keeps}

-- what was sent and has arrived stays so, and what has arrived besides is new
pub record Continues (s v : State) (New : ℕ → Message → Type 0) : Type 0 where
  pub sent : (n : ℕ) (o : Message) → slice_get s.sent n ≡ Some o → slice_get v.sent n ≡ Some o
  pub arrived : (n : ℕ) → has s.arrived n ≡ true → has v.arrived n ≡ true
  pub back : (n : ℕ) (o : Message) → slice_get v.sent n ≡ Some o → has v.arrived n ≡ true → ((slice_get s.sent n ≡ Some o) × (has s.arrived n ≡ true)) ⊎ New n o

-- nothing is new
abbrev pub NoneNew : ℕ → Message → Type 0
NoneNew n o = ⊥

-- one message is
abbrev pub ThisNew : ℕ → Message → ℕ → Message → Type 0
ThisNew m x n o = (m ≡ n) × (x ≡ o)

-- so a state goes on by a run
pub continues-run : (g : Graph) (all : Partitions) (s : State) → ((n : ℕ) → has s.arrived n ≡ true → n < length s.sent) → (i b c : ℕ)
    → Continues s (after_event g all s (Run i b c)) NoneNew
continues-run g all s before i b c = record {
  sent = sent-event g all s (Run i b c);
  arrived = λ n h. h;
  back = λ n o e h. inl (arrived-sent s.sent (class_fired g all s i b c).sends s.arrived before n o e h, h);
}

-- and by a delivery
pub continues-delivery : (s : State) → ((n : ℕ) → has s.arrived n ≡ true → n < length s.sent) → (m : ℕ) (x : Message) → slice_get s.sent m ≡ Some x
    → (d : Delivery) → Continues s (after_delivery s m d) (ThisNew m x)
continues-delivery s before m x is_sent (Went e) = record {
  sent = sent;
  arrived = arrived-more m s.arrived;
  back = λ n o q h. ⊎_elim
      (λ k. inr (k, some-eq (sym (subst (λ i. slice_get (s.sent ++ e.sends) i ≡ Some x) k (sent m x is_sent)) ∙ q)))
      (λ k. inl (arrived-sent s.sent e.sends s.arrived before n o q k, k)) (arrived-cases m s.arrived n h);
}
  where
    sent : (n : ℕ) (o : Message) → slice_get s.sent n ≡ Some o → slice_get (s.sent ++ e.sends) n ≡ Some o
    sent n o h = get-left s.sent e.sends n (some-below s.sent n h) ∙ h
continues-delivery s before m x is_sent (Printed k v) = record {
  sent = λ n o e. e;
  arrived = arrived-more m s.arrived;
  back = λ n o q h. ⊎_elim (λ k. inr (k, some-eq (sym (subst (λ i. slice_get s.sent i ≡ Some x) k is_sent) ∙ q))) (λ k. inl (q, k))
      (arrived-cases m s.arrived n h);
}
continues-delivery s before m x is_sent (Faulted f) = record {
  sent = λ n o e. e;
  arrived = arrived-more m s.arrived;
  back = λ n o q h. ⊎_elim (λ k. inr (k, some-eq (sym (subst (λ i. slice_get s.sent i ≡ Some x) k is_sent) ∙ q))) (λ k. inl (q, k))
      (arrived-cases m s.arrived n h);
}

module _ (g : Graph) (args : List ℕ) (accepted : IsAccepted g) (all : Partitions) (valid : are_valid g all ≡ true) where
  -- a state that a legal journal leaves, and the words of it
  pub record IsWordedState (s : State) : Type 0 where
    pub state : IsLegalState g args accepted all valid s
    pub words : IsWordState g all s

  -- the property is kept by each run and by each delivery
  pub record KeptByEvents (Q : State → Type 0) : Type 0 where
    pub runs : (s : State) → IsWordedState s → s.fault ≡ None → Q s → (i b c : ℕ) → IsRunnable g all s i b c → Q (after_event g all s (Run i b c))
    pub arrives : (s : State) → IsWordedState s → s.fault ≡ None → Q s → (m : ℕ) (x : Message) → slice_get s.sent m ≡ Some x → has s.arrived m ≡ false
        → Q (after_delivery s m (delivered s.world x))

-- what is kept holds behind a journal
pub events-keep : (g : Graph) (all : Partitions) (args : List ℕ) (events : List Event) (journal : IsJournal g all args events) (Q : State → Type 0)
    → Q (initial g args) → KeptByEvents g args journal.accepted all journal.valid Q → Q (state_after g all args events)
events-keep g all args events journal Q first steps =
    (journal-keeps g all args events journal (λ s. IsWordState g all s × Q s) (words-initial g args all, first) (record {
      runs = λ s state whole h i b c run. (
        words-run g args journal.accepted all journal.valid s state.sound state.once h.0 state.few i b c run,
        steps.runs s (record { state = state; words = h.0 }) whole h.1 i b c run,
      );
      arrives = λ s state whole h m x is_sent new. (
        words-delivered g args journal.accepted all journal.valid s state.sound state.once h.0 state.few m x is_sent new,
        steps.arrives s (record { state = state; words = h.0 }) whole h.1 m x is_sent new,
      );
    })).1
