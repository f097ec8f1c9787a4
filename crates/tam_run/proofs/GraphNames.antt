-- Whom a state of a run of a graph names, is live: a word is wanted at an inlet of a block that it has entered.
use Rattle.std.proofs.Common.{◌≡◌, ◌≢◌, ℕ, zero, suc, ◌+◌, ◌<◌, ◌≤◌, Bool, true, false, not, List, [], ◌∷◌, ◌++◌, Some, None, slice_get, length}
use Rattle.std.proofs.Common.{refl, sym, subst, ap, ◌∙◌, arith, inl, inr, ⊎_elim, true≢false, flat_map}
use Rattle.std.specs.Prelude.{IsTrue, is_some, option_to_list, unwrap_or, Option}
use Rattle.tam_word.specs.Lists.{has}
use Rattle.tam_word.proofs.Tests.{number-differs}
use Rattle.tam_word.proofs.Each.{each-in}
use Rattle.tam_word.proofs.Members.{In, in-append, in-flat_map, in-map, in-get, get-in, below-in}
use Rattle.tam_graph.specs.declared.kind.Kind.{Kind}
use Rattle.tam_graph.specs.declared.kind.Kind.TheVariants.{Call, Alloc, Fetch}
use Rattle.tam_graph.specs.Graphs.{Graph, kind_at, block_at, is_split, node_numbers}
use Rattle.tam_graph.proofs.AcceptedFacts.{node-there}
use Rattle.tam_split.specs.GraphPartitions.{singles}
use Rattle.tam_split.proofs.SinglesValid.{singles-valid}
use Rattle.tam_msgs.specs.declared.item.Item.{Item}
use Rattle.tam_msgs.specs.declared.limits.Limits.{Limits}
use Rattle.tam_msgs.specs.declared.message.Message.{Message}
use Rattle.tam_msgs.specs.declared.message.Message.TheVariants.{Word as Carry, Frame as Begin, Cells as Make, Fetch as Ask_cell, Store as Put_cell}
use Rattle.tam_msgs.specs.Messages.{outside}
use Rattle.tam_msgs.specs.Runs.{Outcome, Next, Ended, and_then, after_events}
use Rattle.tam_istr.specs.Cells.{Cell, Empty, Filled, Reader}
use Rattle.tam_world.specs.Worlds.{its_code, word_at, word_of, has_entered, opening}
use Rattle.tam_flow.specs.Journals.{State, Event, initial, is_legal, on_their_way, state_after}
use Rattle.tam_flow.specs.JournalLaws.{IsJournal}
use Rattle.tam_flow.specs.Reached.{IsThere, IsReached, cell_at}
use Rattle.tam_flow.proofs.JournalsReached.{journals-reached}
use Rattle.tam_flow.proofs.JournalResults.{contains-in}
use Rattle.tam_flow.proofs.OnTheWay.{way-is, at-place}
use Rattle.tam_flow.proofs.SentOnce.{IsOnceState}
use Rattle.tam_flow.proofs.DeliveredOnce.{once-journal}
use Rattle.tam_flow.proofs.WordSources.{IsWordState, WordCause, IsAskOf, IsWaiting}
use Rattle.tam_flow.proofs.WordSenders.{IsFor}
use Rattle.tam_flow.proofs.WordsOnce.{words-journal}
use Rattle.tam_eval.specs.GraphRuns.{GraphState, graph_step, graph_opening, joins, nothing_begun, is_given_back}
use Rattle.tam_eval.specs.GraphLaws.{IsAfter}
use Rattle.tam_eval.specs.Waiting.{is_empty_inlet}
use Rattle.tam_eval.proofs.Counting.{none-counted}
use Rattle.tam_eval.proofs.WorldSizes.{Few}
use Rattle.tam_eval.proofs.StepsCaughtUp.{GoesOn, AllReached, goes-then, reached-on}
use Rattle.tam_eval.proofs.Follows.{Follows, graph_of}
use Rattle.tam_eval.proofs.Charges.{Charge}
use Rattle.tam_eval.proofs.Opening.{opening-follows, opening-same, opening-charge}
use Rattle.tam_eval.proofs.Running.{Sized, SizedBefore, StepGoes, step-goes, opening-sized}
use Rattle.tam_eval.proofs.Permanence.{MayFireIn, from-opening}
use Rattle.tam_eval.proofs.LiveCount.{given-none}
use Rattle.tl0_keep.specs.ThreadNames.{named_in, waiting_at}
use Rattle.tl0_keep.specs.ThreadLaws.{IsJob}
use Rattle.tl0_keep.proofs.code.ThreadKinds.{takes_messages}
use Rattle.tl0_keep.proofs.owed.Waits.{takes-received, ran-entered, asked-ran, sent-cause, unanswered, cause-entered}
use Rattle.tam_run.specs.GraphNames.{names_in, IsLiveIn, GraphNamesAreLive}

-- what is split takes messages
split-takes : (k : Kind) → is_split k ≡ true → takes_messages k ≡ true
split-takes (Call f) h = refl
split-takes (Alloc n) h = refl
split-takes (Fetch a i) h = refl
split-takes k h = absurd (true≢false (sym h))

module _ (g : Graph) (args : List ℕ) (order : List Item) (limits : Limits) (job : IsJob g args limits) where
  -- a legal journal of few activations and arrays is one
  journal-is : (events : List Event) → IsTrue (is_legal g (singles g) args events)
      → Few (state_after g (singles g) args events).world → IsJournal g (singles g) args events
  journal-is events legal few = record {
    accepted = job.accepted;
    arguments = job.arguments;
    valid = singles-valid g job.accepted;
    legal = legal;
    few_activations = few.activations;
    few_arrays = few.arrays;
  }

  all : AllReached g args (initial g args)
  all events legal few = journals-reached g (singles g) args events (journal-is events legal few)

  -- ---- each state has a journal

  record InJournal (s : GraphState) : Type 0 where
    state : State
    events : List Event
    made : ℕ
    ready : List (ℕ × ℕ)
    rest : List Item
    goes : GoesOn g (initial g args) state events
    is : s ≡ graph_of state ready rest made
    follows : Follows g ready state
    sized : SizedBefore state made
    within : made ≤ limits.budget
    charge : Charge g state made

  begins : InJournal (graph_opening g args order)
  begins = record {
    state = initial g args;
    events = [];
    made = 0;
    ready = joins g nothing_begun (opening g);
    rest = order;
    goes = record { legal = refl; ends = refl };
    is = opening-same g args order;
    follows = opening-follows g args;
    sized = opening-sized g args;
    within = omega arith;
    charge = opening-charge g args;
  }

  one-step : (s d : GraphState) → InJournal s → graph_step g limits s ≡ Next d → InJournal d
  one-step s d j e =
      go (subst (StepGoes g limits j.state j.made) (ap (graph_step g limits) (sym j.is) ∙ e)
      (step-goes g job.accepted args limits j.state (reached-on g args (initial g args) j.state j.events j.goes all) j.made job.ranges j.sized j.within j.charge
      j.ready j.rest j.follows))
    where
      go : StepGoes g limits j.state j.made (Next d) → InJournal d
      go (h, q, p, z) =
          let y : Sized h.state.world (j.made + 1) = subst (λ (w : GraphState). Sized w.world (j.made + 1)) h.same z in
          record {
            state = h.state;
            events = j.events ++ h.events;
            made = j.made + 1;
            ready = h.ready;
            rest = d.order;
            goes = goes-then g (initial g args) j.state h.state j.events h.events j.goes h.goes;
            is = h.same ∙ ap (graph_of h.state h.ready d.order) q;
            follows = h.follows;
            sized = record { activations = inl y.activations; arrays = y.arrays };
            within = let n = number-differs j.made limits.budget p in let w = j.within in omega arith;
            charge = h.charge j.made j.charge;
          }

  many-steps : (n : ℕ) (s t : GraphState) → InJournal s → after_events (graph_step g limits) n s ≡ Next t → InJournal t
  many-steps zero s t j e = subst InJournal (same e) j
    where
      same : Next s ≡ Next t → s ≡ t
      same q = cc
  many-steps (suc n) s t j e = go (graph_step g limits s) refl e (λ d k. many-steps n d t k)
    where
      go : (o : Outcome GraphState) → graph_step g limits s ≡ o → and_then o (after_events (graph_step g limits) n) ≡ Next t
          → ((d : GraphState) → InJournal d → after_events (graph_step g limits) n d ≡ Next t → InJournal t) → InJournal t
      go (Ended h d) p q next = absurd (never q)
        where
          never : Ended h d ≡ Next t → ⊥
          never r = cc
      go (Next d) p q next = next d (one-step s d j p) q

  -- ---- whom it names

  module _ (s : State) (once : IsOnceState g args (singles g) s) (words : IsWordState g (singles g) s) (reached : IsReached g (singles g) args s) where
    -- node x of activation f waits for its word, in a block that is entered
    record WaitsAt (f : ℕ) : Type 0 where
      node : ℕ
      there : IsThere s.world f
      takes : takes_messages (kind_at (its_code g s.world f) node) ≡ true
      none : (u : ℕ) → word_of s.world f node ≡ u ∷ [] → ⊥
      opened : has_entered s.world f (block_at (its_code g s.world f) node) ≡ true

    node-low : (f x : ℕ) → takes_messages (kind_at (its_code g s.world f) x) ≡ true → x < length (its_code g s.world f).nodes
    node-low f x h = node-there (its_code g s.world f) x (λ q. true≢false (sym h ∙ ap takes_messages q))

    no-word : (f x u : ℕ) → word_of s.world f x ≡ [] → word_of s.world f x ≡ u ∷ [] → ⊥
    no-word f x u e q = differ (sym e ∙ q)
      where
        differ : [] ≡ u ∷ [] → ⊥
        differ z = cc

    -- what a word is sent to takes messages
    cause-takes : (f x : ℕ) → WordCause g (singles g) s f x → takes_messages (kind_at (its_code g s.world f) x) ≡ true
    cause-takes f x cause = ⊎_elim (λ q. ap takes_messages q.1)
        (λ q. ⊎_elim (λ z. ⊎_elim (λ a. ap takes_messages a.is_param) (λ a. ap takes_messages a.is_ret) z.3)
        (λ z. split-takes (kind_at (its_code g s.world f) x) z.0) q) cause

    asks-wait : (f x n : ℕ) (y : Message) → IsThere s.world f → takes_messages (kind_at (its_code g s.world f) x) ≡ true → slice_get s.sent n ≡ Some y
        → has s.arrived n ≡ false → IsAskOf f x y → WaitsAt f
    asks-wait f x n y there takes sent none ask = record {
      node = x;
      there = there;
      takes = takes;
      none = unanswered g args job.accepted (singles g) s once words reached f there x n y takes sent none ask;
      opened = ran-entered g args job.accepted (singles g) s once words reached f x
          (asked-ran g args job.accepted (singles g) s once words reached f x n y sent ask);
    }

    -- whom a message on its way names
    message-waits : (f n : ℕ) (y : Message) → slice_get s.sent n ≡ Some y → has s.arrived n ≡ false → In f (named_in y) → f ≢ outside → WaitsAt f
    message-waits f n (Carry d x v) sent none (inl e) o =
        let apart = λ (z : d ≡ outside). o (sym e ∙ z) in
        let there = (reached.messages.receivers n d x v sent apart).0 in
        let cause = sent-cause g args job.accepted (singles g) s once words reached d there x v n sent in
        let takes = cause-takes d x cause in
        subst WaitsAt e (record {
          node = x;
          there = there;
          takes = takes;
          none = λ u q. no-word d x u (reached.once.not_yet n d x v apart sent none) q;
          opened = cause-entered g args job.accepted (singles g) s once words reached d there x (node-low d x takes) takes cause;
        })
    message-waits f n (Begin a d x) sent none (inl e) o =
        let r = reached.once.begin_sender n a d x sent in
        subst WaitsAt e (asks-wait d x n (Begin a d x) r.0 (ap takes_messages r.1) sent none (refl, refl))
    message-waits f n (Make a d x) sent none (inl e) o =
        let r = reached.once.make_sender n a d x sent in
        subst WaitsAt e (asks-wait d x n (Make a d x) r.1 (ap takes_messages r.2) sent none (refl, refl))
    message-waits f n (Ask_cell a j d x t) sent none (inl e) o =
        let r = reached.once.fetch_sender n a j d x t sent in
        subst WaitsAt e (asks-wait d x n (Ask_cell a j d x t) r.2 (ap takes_messages r.3) sent none (refl, refl))
    message-waits f n (Carry d x v) sent none (inr e) o = absurd e
    message-waits f n (Begin a d x) sent none (inr e) o = absurd e
    message-waits f n (Make a d x) sent none (inr e) o = absurd e
    message-waits f n (Ask_cell a j d x t) sent none (inr e) o = absurd e
    message-waits f n (Put_cell a j v t) sent none e o = absurd e

    -- of those on their way
    pending-waits : (f : ℕ) → In f (flat_map named_in (on_their_way s)) → f ≢ outside → WaitsAt f
    pending-waits f i o =
        let r = in-flat_map named_in f (on_their_way s) i in
        let k = in-get r.0 (on_their_way s) r.1 in
        let a = at-place s.arrived 0 s.sent k.0 r.0 (subst (λ (ms : List Message). slice_get ms k.0 ≡ Some r.0) (way-is s) k.1) in
        message-waits f a.number r.0 (a.was_sent a.number (omega arith)) a.not_yet r.2 o

    -- a reader that waits at a cell
    reader-waits : (a j : ℕ) (rs : List Reader) (r : Reader) → cell_at s.world a j ≡ Some (Empty rs) → In {X = Reader} r rs → WaitsAt r.0
    reader-waits a j rs r e i =
        let w = each-in (IsWaiting s a j) rs r (words.waits a j rs e).1 i in
        let f = reached.once.fetch_sender w.0 a j r.0 r.1 w.1 w.2 in
        let takes : takes_messages (kind_at (its_code g s.world r.0) r.1) ≡ true = ap takes_messages f.3 in
        record {
          node = r.1;
          there = f.2;
          takes = takes;
          none = λ u q. (let came = words.words r.0 r.1 u q (takes-received (kind_at (its_code g s.world r.0) r.1) takes).0 in
              each-in (λ y. IsFor r.0 r.1 y → ⊥) s.sent (Carry r.0 r.1 u) w.4 (get-in s.sent came.0 (Carry r.0 r.1 u) came.1) (u, refl));
          opened = ran-entered g args job.accepted (singles g) s once words reached r.0 r.1
              (asked-ran g args job.accepted (singles g) s once words reached r.0 r.1 w.0 (Ask_cell a j r.0 r.1 w.1) w.2 (refl, refl));
        }

    -- of those that wait
    cells-wait : (f : ℕ) → In f (flat_map (flat_map waiting_at) s.world.arrays) → WaitsAt f
    cells-wait f i =
        let a = in-flat_map (flat_map waiting_at) f s.world.arrays i in
        let c = in-flat_map waiting_at f a.0 a.2 in
        let k = in-get a.0 s.world.arrays a.1 in
        let l = in-get c.0 a.0 c.1 in
        by k.0 l.0 c.0 (ap (λ (o : Option (List Cell)). slice_get (unwrap_or o []) l.0) k.1 ∙ l.1) c.2
      where
        by : (k l : ℕ) (c : Cell) → cell_at s.world k l ≡ Some c → In f (waiting_at c) → WaitsAt f
        by k l (Empty rs) e h =
            let r = in-map (λ (y : Reader). y.0) f rs h in
            subst WaitsAt r.2 (reader-waits k l rs r.0 e r.1)
        by k l (Filled w t) e h = absurd h

    -- of all that are named
    named-waits : (f : ℕ) → In f (flat_map named_in (on_their_way s) ++ flat_map (flat_map waiting_at) s.world.arrays) → f ≢ outside → WaitsAt f
    named-waits f i o = ⊎_elim (λ a. pending-waits f a o) (cells-wait f)
        (in-append f (flat_map named_in (on_their_way s)) (flat_map (flat_map waiting_at) s.world.arrays) i)

    -- so it isn't given back
    waits-live : (ready : List (ℕ × ℕ)) (rest : List Item) (made : ℕ) → MayFireIn g (graph_of s ready rest made) → (f : ℕ)
        → WaitsAt f → is_given_back g (graph_of s ready rest made) f ≡ false
    waits-live ready rest made may f w = go (is_given_back g (graph_of s ready rest made) f) refl
      where
        empty : is_empty_inlet g s.world f w.node ≡ true
        empty = rw (is_empty_inlet, w.opened, (takes-received (kind_at (its_code g s.world f) w.node) w.takes).1) (no (word_at s.world f w.node) refl)
          where
            no : (o : Option ℕ) → word_at s.world f w.node ≡ o → not (is_some o) ≡ true
            no None e = refl
            no (Some u) e = absurd (w.none u (ap option_to_list e))

        go : (b : Bool) → is_given_back g (graph_of s ready rest made) f ≡ b → b ≡ false
        go false e = refl
        go true e =
            let none = given-none g (graph_of s ready rest made) f may e in
            absurd (true≢false (sym empty ∙ none-counted (is_empty_inlet g s.world f) (node_numbers (its_code g s.world f)) (omega arith) w.node
            (below-in w.node (length (its_code g s.world f).nodes) (node-low f w.node w.takes))))

  -- ---- the law

  named-live : (n : ℕ) (s : GraphState) → IsAfter g args order limits n s → (i : ℕ) → In i (names_in s) → i ≢ outside → IsLiveIn g s i
  named-live n s after i named o = subst (λ (z : GraphState). IsLiveIn g z i) (sym here)
      (w.there, waits-live t once words reached j.ready j.rest j.made may i w)
    where
      j : InJournal s
      j = many-steps n (graph_opening g args order) s begins after

      t : State
      t = state_after g (singles g) args j.events

      here : s ≡ graph_of t j.ready j.rest j.made
      here = j.is ∙ ap (λ (z : State). graph_of z j.ready j.rest j.made) (sym j.goes.ends)

      few : Few t.world
      few = subst (λ (z : State). Few z.world) (sym j.goes.ends) (let d = job.ranges.budget in let w = j.within in let b = j.sized.arrays in record {
        activations = ⊎_elim (λ a. omega arith) (λ a. let one = a.0 in omega arith) j.sized.activations;
        arrays = omega arith;
      })

      journal : IsJournal g (singles g) args j.events
      journal = journal-is j.events j.goes.legal few

      once : IsOnceState g args (singles g) t
      once = once-journal g (singles g) args j.events journal

      words : IsWordState g (singles g) t
      words = words-journal g (singles g) args j.events journal

      reached : IsReached g (singles g) args t
      reached = journals-reached g (singles g) args j.events journal

      may : MayFireIn g (graph_of t j.ready j.rest j.made)
      may = subst (MayFireIn g) here (from-opening g args order limits n s after).may

      w : WaitsAt t once words reached i
      w = named-waits t once words reached i (subst (λ (z : GraphState). In i (names_in z)) here named) o

-- each that is named is live
pub graph_names-are_live : GraphNamesAreLive
graph_names-are_live g args order limits n s job after i named o = named-live g args order limits job n s after i (contains-in (names_in s) i named) o
