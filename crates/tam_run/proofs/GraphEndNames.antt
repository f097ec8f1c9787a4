-- Whom the state names that the end of a run of a graph leaves, is live: it names no other than the state before.
use Rattle.std.proofs.Common.{◌≡◌, ℕ, zero, suc, ◌<◌, Bool, true, false, ◌==◌, List, [], ◌∷◌, Some, None, slice_get, length, refl, sym, subst, ap₂}
use Rattle.std.proofs.Common.{◌∙◌, inl, inr, ⊎_elim, flat_map}
use Rattle.std.specs.Prelude.{Option}
use Rattle.tam_word.specs.Lists.{without_place}
use Rattle.tam_word.proofs.Members.{In, in-append, left-in, right-in, in-flat_map, flat_map-in}
use Rattle.tam_graph.specs.Graphs.{Graph}
use Rattle.tam_msgs.specs.declared.item.Item.{Item}
use Rattle.tam_msgs.specs.declared.limits.Limits.{Limits}
use Rattle.tam_msgs.specs.declared.message.Message.{Message}
use Rattle.tam_msgs.specs.declared.choice.Choice.{Choice}
use Rattle.tam_msgs.specs.declared.choice.Choice.TheVariants.{Quiet as Choose_quiet, Run as Choose_run, Deliver as Choose_delivery}
use Rattle.tam_msgs.specs.Runs.{choice, End, Outcome, Next, Ended, and_then, after_events}
use Rattle.tam_world.specs.Worlds.{World, Delivery, Went, Printed, Faulted, delivered}
use Rattle.tam_flow.proofs.JournalResults.{contains-in, in-contains}
use Rattle.tam_eval.specs.GraphRuns.{GraphState, graph_step, graph_opening, chosen, counted, fired_first, delivered_at, delivered_unless, after_delivery}
use Rattle.tam_eval.specs.GraphRuns.{refusal, some_ready, is_given_back}
use Rattle.tl0_keep.specs.ThreadNames.{named_in, waiting_at}
use Rattle.tam_run.specs.GraphNames.{names_in, IsLiveIn, GraphNamesAreLive, GraphEndNamesAreLive}

-- an end leaves the world and the ready list of the state before, and no other messages
record Leaves (s d : GraphState) : Type 0 where
  world : d.world ≡ s.world
  ready : d.ready ≡ s.ready
  pending : (m : Message) → In m d.pending → In m s.pending

-- an element of a list without one is one of the list
without-in : {X : Type 0} (k : ℕ) (x : X) (xs : List X) → In x (without_place k xs) → In x xs
without-in k x [] h = absurd (none k h)
  where
    none : (n : ℕ) → In x (without_place n []) → ⊥
    none zero q = q
    none (suc n) q = q
without-in zero x (y ∷ ys) h = inr h
without-in (suc k) x (y ∷ ys) (inl e) = inl e
without-in (suc k) x (y ∷ ys) (inr h) = inr (without-in k x ys h)

-- ends are of one state, and no going on
one-end : {a b : GraphState} {h k : End} → Ended h a ≡ Ended k b → a ≡ b
one-end q = cc

no-going : {a b : GraphState} {h : End} → Next a ≡ Ended h b → ⊥
no-going q = cc

module _ (g : Graph) (limits : Limits) (s d : GraphState) (how : End) where
  -- the same state but for order and events
  same : (rest : List Item) → counted s rest ≡ d → Leaves s d
  same rest e = subst (Leaves s) e (record { world = refl; ready = refl; pending = λ m i. i })

  itself : s ≡ d → Leaves s d
  itself e = subst (Leaves s) e (record { world = refl; ready = refl; pending = λ m i. i })

  module _ (rest : List Item) (k : ℕ) where
    -- a message is taken from those that are pending
    abbrev taken : GraphState
    taken = record (counted s rest) { pending = without_place k s.pending }

    fewer : taken ≡ d → Leaves s d
    fewer e = subst (Leaves s) e (record { world = refl; ready = refl; pending = λ m i. without-in k m s.pending i })

    unless-leaves : (m : Message) (ends : List End) → delivered_unless g taken m ends ≡ Ended how d → Leaves s d
    unless-leaves m (h ∷ more) e = fewer (one-end e)
    unless-leaves m [] e = go (delivered s.world m) e
      where
        go : (x : Delivery) → after_delivery g taken x ≡ Ended how d → Leaves s d
        go (Went f) q = absurd (no-going q)
        go (Printed p w) q = absurd (no-going q)
        go (Faulted f) q = fewer (one-end q)

  chosen-leaves : (c : Choice × List Item) → chosen g limits s c ≡ Ended how d → Leaves s d
  chosen-leaves (Choose_quiet, rest) e = itself (one-end e)
  chosen-leaves (Choose_run, rest) e = go (s.events == limits.budget) refl
    where
      fires : (ready : List (ℕ × ℕ)) → fired_first g (counted s rest) ready ≡ Ended how d → Leaves s d
      fires [] q = same rest (one-end q)
      fires (v ∷ vs) q = absurd (no-going q)

      go : (b : Bool) → (s.events == limits.budget) ≡ b → Leaves s d
      go true p = itself (one-end (rw (chosen, p) at e))
      go false p = fires s.ready (rw (chosen, p) at e)
  chosen-leaves (Choose_delivery k, rest) e = go (s.events == limits.budget) refl
    where
      message : (o : Option Message) → delivered_at g limits (counted s rest) k o ≡ Ended how d → Leaves s d
      message None q = same rest (one-end q)
      message (Some m) q = unless-leaves rest k m (refusal g limits (counted s rest) m) q

      go : (b : Bool) → (s.events == limits.budget) ≡ b → Leaves s d
      go true p = itself (one-end (rw (chosen, p) at e))
      go false p = message (slice_get s.pending k) (rw (chosen, p) at e)

-- the state before an end
record Before {S : Type 0} (step : S → Outcome S) (first : S) (how : End) (d : S) : Type 0 where
  events : ℕ
  state : S
  there : after_events step events first ≡ Next state
  ends : step state ≡ Ended how d

before : {S : Type 0} (step : S → Outcome S) (n : ℕ) (s : S) (how : End) (d : S) → after_events step n s ≡ Ended how d → Before step s how d
before {S} step zero s how d e = absurd (never e)
  where
    never : Next s ≡ Ended how d → ⊥
    never q = cc
before {S} step (suc n) s how d e = go (step s) refl e (λ t. before step n t how d)
  where
    go : (o : Outcome S) → step s ≡ o → and_then o (after_events step n) ≡ Ended how d
        → ((t : S) → after_events step n t ≡ Ended how d → Before step t how d) → Before step s how d
    go (Ended h t) p q rest = record { events = 0; state = s; there = refl; ends = p ∙ q }
    go (Next t) p q rest = let b = rest t q in record { events = suc b.events; state = b.state; there = rw (after_events, p) b.there; ends = b.ends }

-- so whom it names is live
pub graph_end-names_are_live : GraphNamesAreLive → GraphEndNamesAreLive
graph_end-names_are_live live g args order limits n how d job ends i named o =
    (subst (λ (w : World). i < length w.activations) (sym leaves.world) here.0, given ∙ here.1)
  where
    b : Before (graph_step g limits) (graph_opening g args order) how d
    b = before (graph_step g limits) n (graph_opening g args order) how d ends

    leaves : Leaves b.state d
    leaves = chosen-leaves g limits b.state d how (choice b.state.order (some_ready b.state.ready) (length b.state.pending)) b.ends

    in_cells : In i (flat_map (flat_map waiting_at) d.world.arrays) → In i (flat_map (flat_map waiting_at) b.state.world.arrays)
    in_cells h = subst (λ (w : World). In i (flat_map (flat_map waiting_at) w.arrays)) leaves.world h

    in_pending : In i (flat_map named_in d.pending) → In i (flat_map named_in b.state.pending)
    in_pending h =
        let r = in-flat_map named_in i d.pending h in flat_map-in named_in r.0 i b.state.pending (leaves.pending r.0 r.1) r.2

    in_before : In i (names_in b.state)
    in_before = ⊎_elim
        (λ h. left-in i (flat_map named_in b.state.pending) (flat_map (flat_map waiting_at) b.state.world.arrays) (in_pending h))
        (λ h. right-in i (flat_map named_in b.state.pending) (flat_map (flat_map waiting_at) b.state.world.arrays) (in_cells h))
        (in-append i (flat_map named_in d.pending) (flat_map (flat_map waiting_at) d.world.arrays) (contains-in (names_in d) i named))

    here : IsLiveIn g b.state i
    here = live g args order limits b.events b.state job b.there i (in-contains i (names_in b.state) in_before) o

    given : is_given_back g d i ≡ is_given_back g b.state i
    given = ap₂ (λ (w : World) (r : List (ℕ × ℕ)).
        is_given_back g (record { world = w; ready = r; pending = []; order = []; printed = []; events = 0 }) i) leaves.world leaves.ready
