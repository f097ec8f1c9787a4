-- What was sent stays sent, and each argument was sent to its param; the messages stand as the invariant says.
use Rattle.std.proofs.Common.{◌≡◌, ℕ, zero, suc, ◌+◌, ◌<◌, List, [], ◌∷◌, map, flat_map, zip, Option, Some, None, length, slice_get, refl, sym, ap, ◌∙◌, arith}
use Rattle.std.proofs.Common.{subst, inl, inr}
use Rattle.tam_word.specs.Lists.{below}
use Rattle.tam_graph.specs.declared.kind.Kind.TheVariants.{Param}
use Rattle.tam_graph.specs.declared.node.Node.{Node}
use Rattle.tam_graph.specs.Graphs.{Graph, Code, code_of, kind_at, or_kind}
use Rattle.tam_graph.specs.Accepted.{IsAccepted}
use Rattle.tam_msgs.specs.declared.message.Message.{Message}
use Rattle.tam_msgs.specs.declared.message.Message.TheVariants.{Word as Carry}
use Rattle.tam_split.specs.GraphPartitions.{Partitions}
use Rattle.tam_world.specs.Worlds.{Delivery, Went, Printed, Faulted, delivered, argument_message}
use Rattle.tam_flow.specs.Journals.{State, Event, Run, Deliver, initial, class_fired, or_message, after_delivery, deliver_all, after_event, state_from}
use Rattle.tam_flow.specs.Journals.{state_after}
use Rattle.tam_flow.specs.JournalLaws.{IsJournal}
use Rattle.tam_flow.specs.Reached.{MessagesStand}
use Rattle.tam_word.proofs.Each.{get-left}
use Rattle.tam_flow.proofs.CellChanges.{none-some, some-eq}
use Rattle.tam_flow.proofs.Deliveries.{some-below}
use Rattle.tam_flow.proofs.SoundStates.{counted, below-counted, sound-journal}
use Rattle.tam_flow.proofs.DeliveredOnce.{once-journal}
use Rattle.tam_flow.proofs.Suiting.{receivers-suit}
use Rattle.tam_flow.proofs.InterfacePlaces.{param-at}
use Rattle.tam_word.proofs.Tests.{test-below}
use Rattle.tam_word.proofs.Members.{in-get, flat_map-in, In}

-- ---- what was sent stays sent

-- what was sent stays sent through an event
pub sent-event : (g : Graph) (all : Partitions) (s : State) (e : Event) (n : ℕ) (m : Message) → slice_get s.sent n ≡ Some m
    → slice_get (after_event g all s e).sent n ≡ Some m
sent-event g all s (Run i b c) n m h = get-left s.sent (class_fired g all s i b c).sends n (some-below s.sent n h) ∙ h
sent-event g all s (Deliver k) n m h = go (or_message (slice_get s.sent k))
  where
    after : (d : Delivery) → slice_get (after_delivery s k d).sent n ≡ Some m
    after (Went e) = get-left s.sent e.sends n (some-below s.sent n h) ∙ h
    after (Printed p v) = h
    after (Faulted f) = h

    go : (ms : List Message) → slice_get (deliver_all s k ms).sent n ≡ Some m
    go [] = h
    go (x ∷ xs) = after (delivered s.world x)

-- and through a journal
pub sent-from : (g : Graph) (all : Partitions) (s : State) (es : List Event) (n : ℕ) (m : Message) → slice_get s.sent n ≡ Some m
    → slice_get (state_from g all s es).sent n ≡ Some m
sent-from g all s [] n m h = h
sent-from g all s (e ∷ es) n m h = sent-from g all (after_event g all s e) es n m (sent-event g all s e n m h)

-- ---- the arguments

-- an element stands with its place among the elements with their places
in-counted : (xs : List ℕ) (k j v : ℕ) → slice_get xs j ≡ Some v → In (k + j, v) (zip (counted k (length xs)) xs)
in-counted [] k j v h = absurd (none-some h)
in-counted (x ∷ xs) k zero v h = let e : k + 0 ≡ k = omega arith in inl
    (sym (subst (λ a. ◌≡◌ {A = ℕ × ℕ} (a, v) (k, x)) (sym e) (ap (λ b. (k, b)) (sym (some-eq h)))))
in-counted (x ∷ xs) k (suc j) v h = let e : suc k + j ≡ k + suc j = omega arith in inr
    (subst (λ a. In (a, v) (zip (counted (suc k) (length xs)) xs)) e (in-counted xs (suc k) j v h))

-- a param is a node of its code
param-there : (c : Code) (x k : ℕ) → kind_at c x ≡ Param k → x < length c.nodes
param-there c x k e = go (slice_get c.nodes x) refl e
  where
    go : (o : Option Node) → slice_get c.nodes x ≡ o → or_kind o ≡ Param k → x < length c.nodes
    go None q r = absurd (enter-param r)
      where
        enter-param : or_kind None ≡ Param k → ⊥
        enter-param d = cc
    go (Some n) q r = some-below c.nodes x q

module _ (g : Graph) (args : List ℕ) (accepted : IsAccepted g) where
  -- each argument is sent at the beginning
  argument-first : (x k v : ℕ) → kind_at (code_of g g.main) x ≡ Param k → slice_get args k ≡ Some v
      → (n : ℕ) × (slice_get (initial g args).sent n ≡ Some (Carry 0 x v))
  argument-first x k v e h =
      in-get (Carry 0 x v) (flat_map (argument_message g) (zip (below (length args)) args))
      (flat_map-in (argument_message g) (k, v) (Carry 0 x v) (zip (below (length args)) args) (let z : 0 + k ≡ k = omega arith in
      subst (λ l. In (k, v) (zip l args)) (sym (below-counted (length args)))
      (subst (λ a. In (a, v) (zip (counted 0 (length args)) args)) z (in-counted args 0 k v h))) (subst (λ l. In (Carry 0 x v) (map (λ y. Carry 0 y v) l))
      (sym (param-at g accepted g.main (test-below g.main (length g.codes) accepted.has_main) x k (param-there (code_of g g.main) x k e) e)) (inl refl)))

-- the messages of a journal's state stand as the invariant says
pub messages-stand : (g : Graph) (all : Partitions) (args : List ℕ) (events : List Event) → IsJournal g all args events
    → MessagesStand g args (state_after g all args events)
messages-stand g all args events journal = record {
  arguments = λ x k v e h.
      let r = argument-first g args journal.accepted x k v e h in
      (r.0, sent-from g all (initial g args) events r.0 (Carry 0 x v) r.1);
  receivers = receivers-suit g args journal.accepted all (state_after g all args events) (sound-journal g all args events journal)
      (once-journal g all args events journal);
}
