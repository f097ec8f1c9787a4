-- A list of events, checked one by one.
use Rattle.std.proofs.Common.{◌≡◌, ◌∙◌, ℕ, ◌+◌, ◌^◌, ◌<◌, ◌≤◌, suc, Bool, true, false, List, ◌∷◌, length}
use Rattle.std.proofs.Common.{drop, get_or, refl, sym, subst, ap, add-one, drop-cons, arith}
use Rattle.tam_graph.specs.Graphs.{Graph}
use Rattle.tam_graph.specs.Accepted.{IsAccepted}
use Rattle.tam_split.specs.GraphPartitions.{Partitions, are_valid}
use Rattle.tam_flow.specs.Journals.{State, Event, initial, may_follow, is_legal_from}
use Rattle.tam_judge.specs.declared.journal.JournalEvent.{JournalEvent}
use Rattle.tam_judge.specs.CheckedEvents.{event_of, events_of, Makes}
use Rattle.tam_flow.proofs.SoundStates.{IsSoundState, sound-event, sound-initial}
use Rattle.tam_flow.proofs.EventSizes.{grows-event}

module _ (g : Graph) (all : Partitions) (s t : State) (events : List JournalEvent) (n : ℕ) (d : JournalEvent) (may : Bool) (inside : n < length events)
    (made : Makes g all s t (event_of (get_or events n d)) may) where
  -- the events that are left begin with event n
  left : events_of (drop n events) ≡ event_of (get_or events n d) ∷ events_of (drop (suc n) events)
  left = ap (λ (l : List JournalEvent). events_of l) (drop-cons events n d inside)

  -- an event that may not come ends a list that is no journal
  pub ends : may ≡ false → is_legal_from g all s (events_of (drop n events)) ≡ false
  ends is = ap (is_legal_from g all s) left ∙ rw (is_legal_from, refused) refl
    where
      refused : may_follow g all s (event_of (get_or events n d)) ≡ false
      refused = subst (Makes g all s t (event_of (get_or events n d))) is made

  -- one that may come leaves the rest
  pub goes-on : may ≡ true → is_legal_from g all t (events_of (drop (n + 1) events)) ≡ is_legal_from g all s (events_of (drop n events))
  goes-on is = rw (add-one, went.1) (sym (ap (is_legal_from g all s) left ∙ rw (is_legal_from, went.0) refl))
    where
      went : Makes g all s t (event_of (get_or events n d)) true
      went = subst (Makes g all s t (event_of (get_or events n d))) is made

-- what the checker keeps of a state after n events: it has its reasons, and few activations and arrays
pub record IsKept (g : Graph) (args : List ℕ) (n : ℕ) (s : State) : Type 0 where
  pub sound : IsSoundState g args s
  pub few_activations : length s.world.activations ≤ n + 1
  pub few_arrays : length s.world.arrays ≤ n

-- it is so at the beginning
pub kept-initial : (g : Graph) (args : List ℕ) → IsAccepted g → (s : State) → s ≡ initial g args → IsKept g args 0 s
kept-initial g args accepted s is = subst (IsKept g args 0) (sym is) (record {
  sound = sound-initial g args accepted;
  few_activations = omega arith;
  few_arrays = omega arith;
})

-- and after each event
pub kept-event : (g : Graph) (args : List ℕ) → IsAccepted g → (all : Partitions) → are_valid g all ≡ true → (n : ℕ) → n < 4294967295 → (s t : State) (e : Event)
    → IsKept g args n s
    → (may : Bool) → may ≡ true → Makes g all s t e may → IsKept g args (n + 1) t
kept-event g args accepted all valid n few s t e kept may is made = subst (IsKept g args (n + 1)) (sym went.1) (record {
  sound = sound-event g args accepted all s e valid small kept.sound went.0;
  few_activations = omega (arith, (grows-event g all s e).activations, kept.few_activations);
  few_arrays = omega (arith, (grows-event g all s e).arrays, kept.few_arrays);
})
  where
    small : length s.world.activations < 2 ^ 32
    small = omega (arith, kept.few_activations)

    went : Makes g all s t e true
    went = subst (Makes g all s t e) is made
