-- A delivery as an event of the plain run, and so each event.
use Rattle.std.proofs.Common.{◌≡◌, ℕ, suc, ◌+◌, ◌<◌, ◌≤◌, ◌^◌, Bool, true, false, ◌==◌, List, [], ◌∷◌, ◌++◌, map, Option, Some, slice_get, length, is_none}
use Rattle.std.proofs.Common.{refl, sym, ap, subst, ◌∙◌, inl, inr, arith}
use Rattle.std.specs.Prelude.{option_to_list}
use Rattle.tam_word.specs.Lists.{without_place}
use Rattle.tam_word.proofs.Tests.{number-eq, both-true}
use Rattle.tam_word.proofs.Members.{In, get-in, in-below}
use Rattle.tam_msgs.specs.declared.message.Message.{Message}
use Rattle.tam_msgs.specs.declared.message.Message.TheVariants.{Word as Carry, Frame as Begin, Cells as Make, Fetch as Ask_cell, Store as Put_cell}
use Rattle.tam_msgs.specs.declared.item.Item.{Item}
use Rattle.tam_msgs.specs.declared.choice.Choice.{Choice}
use Rattle.tam_msgs.specs.declared.choice.Choice.TheVariants.{Quiet as Choose_quiet, Run as Choose_run, Deliver as Choose_delivery}
use Rattle.tam_msgs.specs.declared.limits.Limits.{Limits}
use Rattle.tam_msgs.specs.Messages.{outside, AreLimits}
use Rattle.tam_msgs.specs.Runs.{Outcome, Ended, choice}
use Rattle.tam_istr.specs.Cells.{Arrays, Cell, Deferred, Stored, NoArray, Empty, Filled, fetched_from, stored_into}
use Rattle.tam_istr.specs.Cells.{fetch_of, store_of, cells_used}
use Rattle.tam_graph.specs.declared.kind.Kind.TheVariants.{Fetch, Store}
use Rattle.tam_graph.specs.Graphs.{Graph, code_of, kind_at, depth_at, results_of, AreArguments}
use Rattle.tam_graph.specs.Accepted.{IsAccepted}
use Rattle.tam_split.specs.GraphPartitions.{Partitions, are_valid}
use Rattle.tam_world.specs.Worlds.{ActivationState, Went, Printed, Fault, Second_store, Outside_cells, activation_at, its_code, or_activation, got}
use Rattle.tam_world.specs.Worlds.{begun, changes}
use Rattle.tam_world.specs.Worlds.{delivered as delivered_in}
use Rattle.tam_flow.specs.Journals.{State, Deliver, state_after, may_follow, after_event, after_delivery, on_their_way, may_arrive}
use Rattle.tam_flow.specs.Reached.{IsThere, IsReached, Has}
use Rattle.tam_flow.specs.RunJournals.{IsCharged}
use Rattle.tam_flow.specs.BorneOut.{BearsOut}
use Rattle.tam_split.proofs.Firers.{kind-there}
use Rattle.tam_flow.proofs.Moves.{length-push}
use Rattle.tam_flow.proofs.Gifts.{got-one}
use Rattle.tam_flow.proofs.Nodes.{right-depth}
use Rattle.tam_flow.proofs.JournalsReached.{journals-reached}
use Rattle.frame_tables.specs.FrameTables.{is_ready}
use Rattle.tl0_code.specs.Machines.{Machine, Plain}
use Rattle.tl0_code.specs.ThreadRuns.{step_of, chosen, counted, delivered, delivered_at}
use Rattle.tl0_code.specs.ThreadCode.{plain}
use Rattle.tl0_keep.specs.Compiled.{compiled_with}
use Rattle.tl0_keep.specs.ThreadNames.{thread_arrays, thread_message}
use Rattle.tl0_keep.specs.ThreadJournals.{numbers_on_way, events_of, next_events, is_last}
use Rattle.tl0_keep.proofs.runs.OwnEvents.{numbers-are}
use Rattle.tl0_keep.proofs.giving.Places.{in-contains, get-behind}
use Rattle.tl0_keep.proofs.runs.Keeps.{Rests, IsForMessages}
use Rattle.tl0_keep.proofs.code.CodeFacts.{CodeFacts}
use Rattle.tl0_keep.proofs.runs.Told.{map-get, used-told}
use Rattle.tl0_keep.proofs.runs.Arrives.{found, may, leads, was-sent, message-fits}
use Rattle.tl0_keep.proofs.runs.Delivering.{Delivers, not-outside}
use Rattle.tl0_keep.proofs.runs.Comes.{Comes, end_of, printed, carried, makes, asks, puts}
use Rattle.tl0_keep.proofs.runs.Beginning.{SomeSource, begin-goes}
use Rattle.tl0_keep.proofs.runs.Told.{Stays}
use Rattle.tl0_keep.proofs.runs.Sends.{stays-got, stays-begun}
use Rattle.tl0_keep.proofs.runs.Comes.{stays-same}
use Rattle.tl0_keep.proofs.code.ThreadKinds.{IsThread, parts_for}
use Rattle.tl0_keep.proofs.runs.StepGoals.{ChoiceIs, choice-is, below-some, GoesBy, SwitchRuns}
use Rattle.tl0_keep.proofs.runs.Steps.{spent-goes, room, quiet-goes, run-step}
use Rattle.tl0_keep.proofs.runs.ClassGoals.{ClassRuns, Charges, OthersAre, IsAsking}
use Rattle.tl0_keep.proofs.runs.Journey.{Here, reached, journal, goes-with, leads-on, journal-on, wish-few, unprinted, found-array, deep}
use Rattle.tl0_keep.proofs.runs.AccessStays.{is_fetch, is_store, access-size, access-ran, access-arrived}

module _ (g : Graph) (accepted : IsAccepted g) (all : Partitions) (valid : are_valid g all ≡ true) (args : List ℕ) (arguments : AreArguments g args)
    (limits : Limits) (ranges : AreLimits limits) (facts : CodeFacts g all) (some : SomeSource g all) (classes : ClassRuns g all args)
    (switches : SwitchRuns g all args) (m : Machine) (here : Here g all args limits m) where
  -- the journal's state
  abbrev s : State
  s = state_after g all args here.events

  -- it is reached
  is-reached : IsReached g all args (state_after g all args here.events)
  is-reached = reached g accepted all valid args arguments limits ranges m here

  module _ (k : ℕ) (rest : List Item) (fits : m.events + 1 ≤ limits.budget) where
    -- the machine once the message is taken out
    abbrev taken : Machine
    taken = record m { pending = without_place k m.pending; order = rest; events = m.events + 1 }

    module _ (x : Message) (at : slice_get (on_their_way (state_after g all args here.events)) k ≡ Some x) where
      -- its number
      abbrev n : ℕ
      n = (found g all facts args m (state_after g all args here.events) here.others here.rests.keeps k x at).number

      -- its delivery may follow
      may-follow : may_follow g all (state_after g all args here.events) (Deliver n) ≡ true
      may-follow = may g all facts args m (state_after g all args here.events) here.others here.rests.keeps k x at

      -- what it leads to
      leads-to : after_event g all (state_after g all args here.events) (Deliver n)
          ≡ after_delivery (state_after g all args here.events) n (delivered_in (state_after g all args here.events).world x)
      leads-to = leads g all facts args m (state_after g all args here.events) here.others here.rests.keeps k x at

      -- the run goes on, with activations few
      goes-on : (v : State) (o : Outcome Machine) → after_event g all (state_after g all args here.events) (Deliver n) ≡ v
          → Delivers g all v here.others (m.events + 1) o
          → length v.world.activations < 2 ^ 32 → length v.world.activations + length v.ran ≤ (m.events + 1) + 1
          → m.events + 1 ≡ length v.ran + length here.others + length v.arrived → Stays (state_after g all args here.events).world v.world
          → GoesBy g all args limits here.events (Deliver n ∷ []) o
      goes-on v o e d few sized counted stays = subst (GoesBy g all args limits here.events (Deliver n ∷ [])) (sym d.goes)
          (goes-with g accepted all valid args arguments limits ranges m here (Deliver n) may-follow d.after here.others
          (subst (λ z. Rests g all d.after z here.others) (sym e) d.rests) d.same_events fits
          (subst (λ (z : State). length z.world.activations < 2 ^ 32) (sym e) few)
          (subst (λ (z : State). length z.world.activations + length z.ran ≤ d.after.events + 1) (sym e) (let q = d.same_events in omega arith))
          (subst (λ (z : State). d.after.events ≡ length z.ran + length here.others + length z.arrived) (sym e) (d.same_events ∙ counted)) here.others_once
          (subst (λ (z : State). OthersAre g all z here.others) (sym e) (λ j o q. let l = here.rests.keeps.others_there j o q in let are =
          here.others_are j o q in
          (are.0, subst (λ c. IsThread (code_of g c) (parts_for all c) o) (sym (stays.code j l)) are.1))))

      -- with the message, events are charged
      charged-on : IsAsking x → Charges g all args → IsCharged g all (state_after g all args here.events) (m.events + 1)
      charged-on asks charges = subst (IsCharged g all (state_after g all args here.events)) (let e = here.counted in omega arith)
          (charges here.events (journal g accepted all valid args arguments limits ranges m here) m here.others here.rests here.others_once here.others_are 1
          (inr (
            refl,
            (
              n,
              (
                x,
                (
                  (both-true (is_none (state_after g all args here.events).fault) (may_arrive (state_after g all args here.events) n) may-follow).1,
                  was-sent g all facts args m (state_after g all args here.events) here.others here.rests.keeps k x at,
                  asks,
                ),
              ),
            ),
          )))

      -- a fault is the journal's last event
      faulted : IsAsking x → (q : Fault) → after_event g all (state_after g all args here.events) (Deliver n)
          ≡ record (state_after g all args here.events) { fault = Some q; arrived = n ∷ (state_after g all args here.events).arrived }
          → GoesBy g all args limits here.events (Deliver n ∷ []) (Ended (end_of q) taken)
      faulted asks q e = (
        record {
          events = here.events ++ Deliver n ∷ [];
          journal = journal-on g accepted all valid args arguments limits ranges m here (Deliver n) may-follow
              (subst (λ (z : State). length z.world.activations < 2 ^ 32) (sym e) here.few) fits;
          printed = ap (λ (z : State). z.printed) now ∙ here.rests.keeps.messages.printed;
          activations = ap (λ (z : State). length z.world.activations) now ∙ sym here.rests.keeps.frames.begun;
          arrays = ap (λ (z : State). thread_arrays g z.world z.world.arrays) now ∙ here.rests.keeps.messages.arrays;
          ends = end q (ap (λ (z : State). z.fault) now);
          charged = λ charges. subst (λ (z : State). IsCharged g all z (m.events + 1)) (sym now) (charged-on asks charges);
        },
        last q,
      )
        where
          last : (q : Fault) → here.events ++ Deliver n ∷ [] ≡ elim (is_last (end_of q)) [ true ↦ here.events ++ Deliver n ∷ [] | false ↦ here.events ]
          last (Second_store a b) = refl
          last (Outside_cells a i l) = refl

          now : state_after g all args (here.events ++ Deliver n ∷ [])
              ≡ record (state_after g all args here.events) { fault = Some q; arrived = n ∷ (state_after g all args here.events).arrived }
          now = leads-on g accepted all valid args arguments limits ranges m here (Deliver n) may-follow ∙ e

          end : (q : Fault) → (state_after g all args (here.events ++ Deliver n ∷ [])).fault ≡ Some q
              → BearsOut g all args limits (here.events ++ Deliver n ∷ []) (m.events + 1) (end_of q)
          end (Second_store a b) h = h
          end (Outside_cells a i l) h = h

      -- whatever comes of it, where activations stay as they are
      comes : (o : Outcome Machine) → Comes g all (state_after g all args here.events) here.others limits taken n x o
          → (after_delivery (state_after g all args here.events) n (delivered_in (state_after g all args here.events).world x)).world.activations
          ≡ (state_after g all args here.events).world.activations
          → (after_delivery (state_after g all args here.events) n (delivered_in (state_after g all args here.events).world x)).ran ≡
          (state_after g all args here.events).ran
          → (after_delivery (state_after g all args here.events) n (delivered_in (state_after g all args here.events).world x)).arrived
          ≡ n ∷ (state_after g all args here.events).arrived
          → IsAsking x → GoesBy g all args limits here.events (Deliver n ∷ []) o
      comes o (inl d) a b c asks = goes-on (after_delivery (state_after g all args here.events) n (delivered_in (state_after g all args here.events).world
          x)) o leads-to d
          (subst (λ (l : List ActivationState). length l < 2 ^ 32) (sym a) here.few) (let z = here.sized in let w =
          ap (λ (l : List ActivationState). length l) a in let y = ap (λ (l : List (ℕ × ℕ × ℕ)). length l) b in omega arith)
          (let z = here.counted in let y = ap (λ (l : List (ℕ × ℕ × ℕ)). length l) b in let x = ap (λ (l : List ℕ). length l) c in omega arith)
          (stays-same _ _ a)
      comes o (inr (inl (q, d, e))) a b c asks = subst (GoesBy g all args limits here.events (Deliver n ∷ [])) (sym e)
          (faulted asks q (leads-to ∙ ap (after_delivery (state_after g all args here.events) n) d))
      comes o (inr (inr (l, (f, (i, (is, low, e)))))) a b c asks = subst (GoesBy g all args limits here.events (Deliver n ∷ [])) (sym e) (
        record {
          events = here.events;
          journal = journal g accepted all valid args arguments limits ranges m here;
          printed = here.rests.keeps.messages.printed;
          activations = sym here.rests.keeps.frames.begun;
          arrays = here.rests.keeps.messages.arrays;
          ends = (
            low,
            sym (used-told g (state_after g all args here.events).world (state_after g all args here.events).world.arrays)
                ∙ ap cells_used here.rests.keeps.messages.arrays,
            (
              f,
              i,
              in-contains (on_their_way (state_after g all args here.events)) (Make l f i)
                  (subst (λ q. In q (on_their_way (state_after g all args here.events))) is
                  (get-in (on_their_way (state_after g all args here.events)) k x at)),
            ),
            here.rests.keeps.no_fault,
          );
          charged = charged-on asks;
        },
        refl,
      )

    -- an array that a fetch names is there
    fetched-there : (a j f i t : ℕ) → slice_get (on_their_way (state_after g all args here.events)) k ≡ Some (Ask_cell a j f i t)
        → fetched_from (state_after g all args here.events).world.arrays a j (f, i) ≡ NoArray → ⊥
    fetched-there a j f i t at e =
        let r = is-reached.once.fetch_sender (n (Ask_cell a j f i t) at) a j f i t
        (was-sent g all facts args m (state_after g all args here.events) here.others here.rests.keeps k (Ask_cell a j f i t) at) in
        node r.0 r.1 r.2 r.3 r.5
      where
        node : (y z : ℕ) → IsThere (state_after g all args here.events).world f → kind_at (its_code g (state_after g all args here.events).world f) i ≡ Fetch
            y z
            → Has (state_after g all args here.events) f y a → ⊥
        node y z l q h =
            let c = here.rests.keeps.frames.known f l in
            let in_code = in-below i _ (kind-there (its_code g (state_after g all args here.events).world f) i is_fetch refl (ap is_fetch q)) in
            let d = (both-true (depth_at (its_code g (state_after g all args here.events).world f) z == 0) _
            (right-depth g accepted (activation_at (state_after g all args here.events).world f).code c i (Fetch y z) in_code q)).1 in
            found-array g accepted all valid args arguments limits ranges m here (state_after g all args here.events).world.arrays a j
            (fetch_of (state_after g all args here.events).world.arrays a j (f, i))
            (deep g accepted all valid args arguments limits ranges m here f y a _ h (number-eq _ _ d)) never e
          where
            never : (cell : Cell) → fetch_of (state_after g all args here.events).world.arrays a j (f, i) (Some cell) ≡ NoArray → ⊥
            never (Empty rs) e = apart e
              where
                apart : {rows : Arrays} → Deferred rows ≡ NoArray → ⊥
                apart z = cc
            never (Filled w u) e = cc

    -- and one that a store names
    stored-there : (a j v t : ℕ) → slice_get (on_their_way (state_after g all args here.events)) k ≡ Some (Put_cell a j v t)
        → stored_into (state_after g all args here.events).world.arrays a j v t ≡ NoArray → ⊥
    stored-there a j v t at e =
        let r = is-reached.once.store_sender (n (Put_cell a j v t) at) a j v t
        (was-sent g all facts args m (state_after g all args here.events) here.others here.rests.keeps k (Put_cell a j v t) at) in
        node r.0 r.1 r.2 r.3 r.4 r.6 r.7 r.9
      where
        node : (f i y z w : ℕ) → IsThere (state_after g all args here.events).world f → kind_at (its_code g (state_after g all args here.events).world f) i ≡
            Store y z w
            → Has (state_after g all args here.events) f y a → ⊥
        node f i y z w l q h =
            let c = here.rests.keeps.frames.known f l in
            let in_code = in-below i _ (kind-there (its_code g (state_after g all args here.events).world f) i is_store refl (ap is_store q)) in
            let d = (both-true (depth_at (its_code g (state_after g all args here.events).world f) z == 0) _
            (right-depth g accepted (activation_at (state_after g all args here.events).world f).code c i (Store y z w) in_code q)).1 in
            found-array g accepted all valid args arguments limits ranges m here (state_after g all args here.events).world.arrays a j
            (store_of (state_after g all args here.events).world.arrays a j v t)
            (deep g accepted all valid args arguments limits ranges m here f y a _ h (number-eq _ _ d)) never e
          where
            never : (cell : Cell) → store_of (state_after g all args here.events).world.arrays a j v t (Some cell) ≡ NoArray → ⊥
            never (Empty rs) e = apart e
              where
                apart : {rows : Arrays} → Stored rows rs ≡ NoArray → ⊥
                apart z = cc
            never (Filled w u) e = cc

    -- a word goes outside
    out-goes : (i u : ℕ) (at : slice_get (on_their_way (state_after g all args here.events)) k ≡ Some (Carry outside i u)) → i < results_of (code_of g g.main)
        → GoesBy g all args limits here.events (Deliver (n (Carry outside i u) at) ∷ [])
        (delivered Plain (plain (compiled_with g all)) limits taken (thread_message g (state_after g all args here.events).world (Carry outside i u)))
    out-goes i u at low = goes-on (Carry outside i u) at
        (record (state_after g all args here.events) {
          printed = (state_after g all args here.events).printed ++ (i, u) ∷ [];
          arrived = n (Carry outside i u) at ∷ (state_after g all args here.events).arrived;
        }) _ (leads-to (Carry outside i u) at)
        (printed g all facts args m (state_after g all args here.events) here.others here.rests is-reached limits k (Carry outside i u) at rest
        (m.events + 1) i u refl low
        (unprinted g accepted all valid args arguments limits ranges m here (n (Carry outside i u) at) i u (may-follow (Carry outside i u) at) fits
        (leads-to (Carry outside i u) at)))
        here.few (let z = here.sized in omega arith) (let z = here.counted in omega arith)
        (stays-same _ _ refl)

    -- a word comes to a node
    in-goes : (f i u : ℕ) (at : slice_get (on_their_way (state_after g all args here.events)) k ≡ Some (Carry f i u))
        → IsForMessages g (state_after g all args here.events).world f i
        → GoesBy g all args limits here.events (Deliver (n (Carry f i u) at) ∷ [])
        (delivered Plain (plain (compiled_with g all)) limits taken (thread_message g (state_after g all args here.events).world (Carry f i u)))
    in-goes f i u at for = goes-on (Carry f i u) at
        (record (state_after g all args here.events) {
          world = got (state_after g all args here.events).world f i u;
          sent = (state_after g all args here.events).sent ++ [];
          arrived = n (Carry f i u) at ∷ (state_after g all args here.events).arrived;
        }) _
        (leads-to (Carry f i u) at ∙ ap (λ (z : Bool). after_delivery (state_after g all args here.events) (n (Carry f i u) at)
        (elim z [ true ↦ Printed i u | false ↦ Went (changes (got (state_after g all args here.events).world f i u)) ]))
        (not-outside f (length (state_after g all args here.events).world.activations) for.0 here.few))
        (carried g all facts args m (state_after g all args here.events) here.others here.rests is-reached limits k (Carry f i u) at rest (m.events + 1) f i
        u refl for)
        (let e = (got-one (state_after g all args here.events).world f i u).frames.as_many in let z = here.few in omega arith)
        (let e = (got-one (state_after g all args here.events).world f i u).frames.as_many in let z = here.sized in omega arith)
        (let z = here.counted in omega arith) (stays-got (state_after g all args here.events).world f i u)

    -- an activation begins
    wish-goes : (c f i : ℕ) (at : slice_get (on_their_way (state_after g all args here.events)) k ≡ Some (Begin c f i))
        → GoesBy g all args limits here.events (Deliver (n (Begin c f i) at) ∷ [])
        (delivered Plain (plain (compiled_with g all)) limits taken (thread_message g (state_after g all args here.events).world (Begin c f i)))
    wish-goes c f i at = goes-on (Begin c f i) at
        (after_delivery (state_after g all args here.events) (n (Begin c f i) at) (delivered_in (state_after g all args here.events).world (Begin c f i))) _
        (leads-to (Begin c f i) at)
        (begin-goes g all facts some args m (state_after g all args here.events) here.others here.rests is-reached limits k c f i at known rest (m.events + 1))
        few (let e = size in let z = here.sized in omega arith) (let z = here.counted in omega arith)
        (stays-begun (state_after g all args here.events).world c f i)
      where
        size : length ((state_after g all args here.events).world.activations ++ begun c f i ∷ []) ≡ suc
            (length (state_after g all args here.events).world.activations)
        size = length-push (state_after g all args here.events).world.activations (begun c f i)

        few : length ((state_after g all args here.events).world.activations ++ begun c f i ∷ []) < 2 ^ 32
        few = let e = size in let b = ranges.budget in
            let a = wish-few g accepted all valid args arguments limits ranges m here (n (Begin c f i) at) c f i
            (was-sent g all facts args m (state_after g all args here.events) here.others here.rests.keeps k (Begin c f i) at) in omega arith

        then-reached : IsReached g all args (after_delivery (state_after g all args here.events) (n (Begin c f i) at)
            (delivered_in (state_after g all args here.events).world (Begin c f i)))
        then-reached = subst (IsReached g all args)
            (leads-on g accepted all valid args arguments limits ranges m here (Deliver (n (Begin c f i) at)) (may-follow (Begin c f i) at)
            ∙ leads-to (Begin c f i) at)
            (journals-reached g all args (here.events ++ Deliver (n (Begin c f i) at) ∷ [])
            (journal-on g accepted all valid args arguments limits ranges m here (Deliver (n (Begin c f i) at)) (may-follow (Begin c f i) at)
            (subst (λ (z : State). length z.world.activations < 2 ^ 32) (sym (leads-to (Begin c f i) at)) few) fits))

        known : c < length g.codes
        known = subst (λ (a : ActivationState). a.code < length g.codes)
            (ap or_activation (get-behind (state_after g all args here.events).world.activations (begun c f i)))
            (then-reached.activations.codes (length (state_after g all args here.events).world.activations) (let e = size in omega arith))

    -- by the message
    message-goes : (x : Message) (at : slice_get (on_their_way (state_after g all args here.events)) k ≡ Some x)
        → GoesBy g all args limits here.events (Deliver (n x at) ∷ [])
        (delivered Plain (plain (compiled_with g all)) limits taken (thread_message g (state_after g all args here.events).world x))
    message-goes (Carry f i u) at =
        elim (message-fits g all facts args m (state_after g all args here.events) here.others here.rests.keeps k (Carry f i u) at) [
          | inl (e, low) ↦ outward f e low at
          | inr for ↦ in-goes f i u at for
        ]
      where
        outward : (f : ℕ) → f ≡ outside → i < results_of (code_of g g.main)
            → (at : slice_get (on_their_way (state_after g all args here.events)) k ≡ Some (Carry f i u))
            → GoesBy g all args limits here.events (Deliver (n (Carry f i u) at) ∷ [])
            (delivered Plain (plain (compiled_with g all)) limits taken (thread_message g (state_after g all args here.events).world (Carry f i u)))
        outward f e low = subst (λ f. (at : slice_get (on_their_way (state_after g all args here.events)) k ≡ Some (Carry f i u))
            → GoesBy g all args limits here.events (Deliver (n (Carry f i u) at) ∷ [])
            (delivered Plain (plain (compiled_with g all)) limits taken (thread_message g (state_after g all args here.events).world (Carry f i u))))
            (sym e) (λ at. out-goes i u at low)
    message-goes (Begin c f i) at = wish-goes c f i at
    message-goes (Make l f i) at = comes (Make l f i) at _
        (makes g all facts args m (state_after g all args here.events) here.others here.rests is-reached limits k (Make l f i) at rest (m.events + 1) l f i
        refl) refl refl refl tt
    message-goes (Ask_cell a j f i t) at = comes (Ask_cell a j f i t) at _
        (asks g all facts args m (state_after g all args here.events) here.others here.rests is-reached limits k (Ask_cell a j f i t) at rest (m.events + 1)
        a j f i t refl
        (fetched-there a j f i t at))
        (access-size (state_after g all args here.events) (n (Ask_cell a j f i t) at) t j (f, i) 0
        (fetched_from (state_after g all args here.events).world.arrays a j (f, i)))
        (access-ran (state_after g all args here.events) (n (Ask_cell a j f i t) at) t j (f, i) 0
        (fetched_from (state_after g all args here.events).world.arrays a j (f, i)))
        (access-arrived (state_after g all args here.events) (n (Ask_cell a j f i t) at) t j (f, i) 0
        (fetched_from (state_after g all args here.events).world.arrays a j (f, i))) tt
    message-goes (Put_cell a j v t) at = comes (Put_cell a j v t) at _
        (puts g all facts args m (state_after g all args here.events) here.others here.rests is-reached limits k (Put_cell a j v t) at rest (m.events + 1) a
        j v t refl
        (stored-there a j v t at))
        (access-size (state_after g all args here.events) (n (Put_cell a j v t) at) t j (0, 0) v
        (stored_into (state_after g all args here.events).world.arrays a j v t))
        (access-ran (state_after g all args here.events) (n (Put_cell a j v t) at) t j (0, 0) v
        (stored_into (state_after g all args here.events).world.arrays a j v t))
        (access-arrived (state_after g all args here.events) (n (Put_cell a j v t) at) t j (0, 0) v
        (stored_into (state_after g all args here.events).world.arrays a j v t)) tt

    -- so the delivery of the message at the place
    pub delivery-goes : k < length m.pending
        → GoesBy g all args limits here.events (map Deliver (option_to_list (slice_get (numbers_on_way (state_after g all args here.events)) k)))
        (delivered_at Plain (plain (compiled_with g all)) limits (counted m rest) k (slice_get m.pending k))
    delivery-goes l =
        let r = below-some m.pending k l in
        let q = map-get (thread_message g (state_after g all args here.events).world) (on_their_way (state_after g all args here.events)) k r.0
        (ap (λ (l : List Message). slice_get l k) here.rests.keeps.messages.pending ∙ r.1) in
        subst (λ (o : Option Message). GoesBy g all args limits here.events
        (map Deliver (option_to_list (slice_get (numbers_on_way (state_after g all args here.events)) k)))
        (delivered_at Plain (plain (compiled_with g all)) limits (counted m rest) k o))
        (sym (r.1 ∙ ap Some (sym q.2)))
        (subst (λ more. GoesBy g all args limits here.events more
        (delivered Plain (plain (compiled_with g all)) limits taken (thread_message g (state_after g all args here.events).world q.0)))
        (sym (ap (λ (o : Option ℕ). map Deliver (option_to_list o)) (ap (λ (l : List ℕ). slice_get l k) (numbers-are (state_after g all args here.events))
        ∙ (found g all facts args m (state_after g all args here.events) here.others here.rests.keeps k q.0 q.1).stands)))
        (message-goes q.0 q.1))

  -- ---- each event

  -- a delivery
  delivery-step : (k : ℕ) (rest : List Item) → k < length m.pending
      → GoesBy g all args limits here.events (map Deliver (option_to_list (slice_get (numbers_on_way (state_after g all args here.events)) k)))
      (chosen Plain (plain (compiled_with g all)) limits m (Choose_delivery k, rest))
  delivery-step k rest l = go (m.events == limits.budget) refl
    where
      go : (t : Bool) → (m.events == limits.budget) ≡ t
          → GoesBy g all args limits here.events (map Deliver (option_to_list (slice_get (numbers_on_way (state_after g all args here.events)) k)))
          (chosen Plain (plain (compiled_with g all)) limits m (Choose_delivery k, rest))
      go true p = rw (chosen, p) (spent-goes g accepted all valid args arguments limits ranges facts some classes switches m here
          (map Deliver (option_to_list (slice_get (numbers_on_way (state_after g all args here.events)) k))) p)
      go false p = rw (chosen, p) (delivery-goes k rest (room g accepted all valid args arguments limits ranges facts some classes switches m here p) l)

  -- what was chosen
  chosen-step : (c : Choice) (rest : List Item) → ChoiceIs (is_ready m.table) (length m.pending) c
      → GoesBy g all args limits here.events (events_of all m (state_after g all args here.events) (c, rest))
      (chosen Plain (plain (compiled_with g all)) limits m (c, rest))
  chosen-step Choose_quiet rest h = quiet-goes g accepted all valid args arguments limits ranges facts some classes switches m here h.0 h.1
  chosen-step Choose_run rest h = run-step g accepted all valid args arguments limits ranges facts some classes switches m here rest h
  chosen-step (Choose_delivery k) rest h = delivery-step k rest h

  -- one event
  pub step-goes : GoesBy g all args limits here.events (next_events all m (state_after g all args here.events))
      (step_of Plain (plain (compiled_with g all)) limits m)
  step-goes = chosen-step (choice m.order (is_ready m.table) (length m.pending)).0 (choice m.order (is_ready m.table) (length m.pending)).1
      (choice-is m.order (is_ready m.table) (length m.pending))
