-- A legal journal runs each class once and delivers each message once, and each class of the partitions by least pairs has a place.
use Rattle.std.proofs.Common.{◌≡◌, ℕ, zero, suc, ◌<◌, Bool, true, false, ◌&&◌, not, ◌==◌, List, [], ◌∷◌, Option, Some, None, slice_get, length, is_none}
use Rattle.std.proofs.Common.{refl, sym, subst, ◌∙◌, inl, inr, ◌⊎◌, arith, true≢false, nat_lt}
use Rattle.tam_word.specs.Lists.{below, has, merge_rising}
use Rattle.tam_word.proofs.Tests.{both-true, true-both, not-true, self-eq}
use Rattle.tam_word.proofs.Members.{In, Distinct, in-any, in-has, in-map, merge-in, get-in}
use Rattle.tam_graph.specs.Graphs.{Graph}
use Rattle.tam_split.specs.Blocks.{BlockGraph}
use Rattle.tam_split.specs.Partitions.{Parts, class_at, single, merged, least_pair, merged_while, partition_of}
use Rattle.tam_split.specs.GraphPartitions.{Partitions}
use Rattle.tam_msgs.specs.declared.message.Message.{Message}
use Rattle.tam_world.specs.Worlds.{Delivery, Went, Printed, Faulted, delivered}
use Rattle.tam_flow.specs.Journals.{State, Event, Run, Deliver, initial, has_run, may_run, may_arrive, may_follow, after_event, after_delivery}
use Rattle.tam_flow.specs.Journals.{deliver_all, or_message}
use Rattle.tam_flow.specs.Journals.{is_legal, is_legal_from, state_after, state_from}
use Rattle.tam_flow.proofs.SingleRuns.{may_run-parts}
use Rattle.tl0_keep.proofs.code.RisingClasses.{in-without, in-changed}

-- ---- events

-- runs and deliveries, each once
pub record AreOnce (s : State) : Type 0 where
  pub runs : Distinct s.ran
  pub deliveries : Distinct s.arrived

-- a delivery that is new
once-delivered : (s : State) (n : ℕ) (d : Delivery) → (In n s.arrived → ⊥) → AreOnce s → AreOnce (after_delivery s n d)
once-delivered s n (Went e) new h = record { runs = h.runs; deliveries = (new, h.deliveries) }
once-delivered s n (Printed k v) new h = record { runs = h.runs; deliveries = (new, h.deliveries) }
once-delivered s n (Faulted f) new h = record { runs = h.runs; deliveries = (new, h.deliveries) }

-- an event that may follow
once-event : (g : Graph) (all : Partitions) (s : State) (e : Event) → may_follow g all s e ≡ true → AreOnce s → AreOnce (after_event g all s e)
once-event g all s (Run i b k) may h =
    let r = may_run-parts g all s i b k (both-true (is_none s.fault) (may_run g all s i b k) may).1 in
    record { runs = ((λ m. true≢false (sym (been m) ∙ r.not_ran)), h.runs); deliveries = h.deliveries }
  where
    been : In {X = ℕ × ℕ × ℕ} (i, b, k) s.ran → has_run s i b k ≡ true
    been m = in-any (λ (r : ℕ × ℕ × ℕ). (r.0 == i) && ((r.1 == b) && (r.2 == k))) s.ran (i, b, k) m
        (true-both (i == i) _ (self-eq i) (true-both (b == b) (k == k) (self-eq b) (self-eq k)))
once-event g all s (Deliver n) may h = go (slice_get s.sent n)
  where
    new : In n s.arrived → ⊥
    new m = true≢false (sym (in-has s.arrived n m) ∙ not-true (has s.arrived n)
        (both-true (nat_lt n (length s.sent)) (not (has s.arrived n)) (both-true (is_none s.fault) (may_arrive s n) may).1).1)

    go : (o : Option Message) → AreOnce (deliver_all s n (or_message o))
    go None = h
    go (Some x) = once-delivered s n (delivered s.world x) new h

-- events that may follow
once-events : (g : Graph) (all : Partitions) (s : State) (es : List Event) → is_legal_from g all s es ≡ true → AreOnce s → AreOnce (state_from g all s es)
once-events g all s [] l h = h
once-events g all s (e ∷ es) l h = go (may_follow g all s e) refl (once-events g all (after_event g all s e) es)
  where
    go : (t : Bool) → may_follow g all s e ≡ t
        → (is_legal_from g all (after_event g all s e) es ≡ true → AreOnce (after_event g all s e) → AreOnce (state_from g all (after_event g all s e) es))
        → AreOnce (state_from g all (after_event g all s e) es)
    go true p f = f (rw (is_legal_from, p) at l) (once-event g all s e p h)
    go false p f = absurd (true≢false (sym (rw (is_legal_from, p) at l)))

-- so it is behind each legal journal
pub once-all : (g : Graph) (all : Partitions) (args : List ℕ) (es : List Event) → is_legal g all args es ≡ true → AreOnce (state_after g all args es)
once-all g all args es l = once-events g all (initial g args) es l (record { runs = tt; deliveries = tt })

-- ---- classes

-- each class has a place
abbrev pub AreFull : Parts → Type 0
AreFull ps = (p : List ℕ) → In p ps → (x : ℕ) × In x p

-- a merge leaves such classes
full-merged : (ps : Parts) (k l : ℕ) → AreFull ps → AreFull (merged ps k l)
full-merged ps k l h p m = go (in-changed k (λ q. merge_rising q (class_at ps l)) ps p (in-without l _ p m))
  where
    go : In p ps ⊎ ((q : List ℕ) × (slice_get ps k ≡ Some q) × (merge_rising q (class_at ps l) ≡ p)) → (x : ℕ) × In x p
    go (inl i) = h p i
    go (inr (q, e, s)) = let r = h q (get-in ps k q e) in (r.0, subst (λ z. In r.0 z) s (merge-in r.0 q (class_at ps l) (inl r.1)))

-- and so do all of them
full-while : (n : ℕ) (b : BlockGraph) (ps : Parts) → AreFull ps → AreFull (merged_while n b ps)
full-while zero b ps h = h
full-while (suc n) b ps h = go (least_pair b ps) refl (λ qs. full-while n b qs)
  where
    go : (t : List (ℕ × ℕ)) → least_pair b ps ≡ t → ((qs : Parts) → AreFull qs → AreFull (merged_while n b qs)) → AreFull (merged_while (suc n) b ps)
    go [] e f = rw (merged_while, e) h
    go (p ∷ more) e f = rw (merged_while, e) (f (merged ps p.0 p.1) (full-merged ps p.0 p.1 h))

-- so each class of a block has a place
pub partition-full : (b : BlockGraph) → AreFull (partition_of b)
partition-full b = full-while (length b.vertices) b (single (length b.vertices))
    (λ p m. let r = in-map (λ (x : ℕ). x ∷ []) p (below (length b.vertices)) m in (r.0, subst (λ z. In r.0 z) r.2 (inl refl)))

-- that is there
pub class-place : (ps : Parts) (k : ℕ) → k < length ps → AreFull ps → (x : ℕ) × In x (class_at ps k)
class-place [] k l h = absurd (omega arith)
class-place (p ∷ ps) zero l h = h p (inl refl)
class-place (p ∷ ps) (suc k) l h = class-place ps k (omega arith) (λ q m. h q (inr m))
