-- A run of the graph is a journal: event by event to its end.
use Rattle.std.proofs.Common.{◌≡◌, ℕ, zero, suc, ◌+◌, ◌<◌, ◌≤◌, Bool, true, false, List, [], ◌∷◌, ◌++◌, refl, sym, subst, ap, inl, inr}
use Rattle.std.proofs.Common.{⊎_elim, ◌⊎◌, ◌∙◌, ◌==◌, nat_lt, true≢false, length, slice_get, Some, None, arith}
use Rattle.tam_word.proofs.Tests.{number-eq, eq-number, number-differs}
use Rattle.std.specs.Prelude.{zip}
use Rattle.tam_word.specs.Lists.{below}
use Rattle.tam_word.proofs.Members.{In, in-flat_map}
use Rattle.tam_graph.specs.Graphs.{Graph}
use Rattle.tam_graph.specs.Accepted.{IsAccepted}
use Rattle.tam_split.specs.GraphPartitions.{singles}
use Rattle.tam_msgs.specs.declared.message.Message.{Message}
use Rattle.tam_msgs.specs.declared.message.Message.TheVariants.{Word as Carry, Frame as Begin, Cells as Make, Fetch as Ask_cell, Store as Put_cell}
use Rattle.tam_msgs.specs.declared.limits.Limits.{Limits}
use Rattle.tam_msgs.specs.Runs.{choice, run_from, Outcome, Next, Ended}
use Rattle.tam_msgs.specs.declared.choice.Choice.{Choice}
use Rattle.tam_msgs.specs.declared.choice.Choice.TheVariants.{Quiet as Choose_quiet, Run as Choose_run, Deliver as Choose_delivery}
use Rattle.tam_msgs.specs.declared.item.Item.{Item}
use Rattle.tam_msgs.specs.declared.item.Item.TheVariants.{Ready, Place}
use Rattle.tam_msgs.specs.Runs.{End, Quiet, Double_write, Out_of_range, Frames_full, Cells_full, Budget_spent, Wild, Trap}
use Rattle.tam_msgs.specs.Messages.{AreLimits}
use Rattle.tam_istr.specs.Cells.{Arrays, cells_used}
use Rattle.tam_world.specs.Worlds.{World, Delivery, Went, Printed, Faulted, Fault, Second_store, Outside_cells, delivered, fired}
use Rattle.tam_world.specs.Worlds.{argument_message}
use Rattle.tam_flow.specs.Journals.{State, Event, Deliver, on_their_way, may_follow, initial}
use Rattle.tam_word.proofs.Tests.{test-below}
use Rattle.tam_eval.specs.GraphRuns.{GraphState, graph_step, chosen, some_ready, refusal, live_activations, delivered_unless, after_delivery, end_of}
use Rattle.tam_eval.proofs.LiveCount.{live-most}
use Rattle.tam_eval.proofs.Follows.{Follows, graph_of}
use Rattle.tam_eval.proofs.Opening.{opening-same}
use Rattle.tam_eval.proofs.OpeningCounts.{argument-no_wish}
use Rattle.tam_eval.proofs.Charges.{Charge, Charged, charge-charged, charged-same}
use Rattle.tam_eval.proofs.WorldSizes.{Few, fired-size, SizedAfter, delivered-sized}
use Rattle.tam_eval.proofs.StepsCaughtUp.{GoesOn, AllReached, goes-then, reached-on}
use Rattle.tam_eval.proofs.FiringSteps.{GoesTo, firing-goes, some-may as fire_may}
use Rattle.tam_eval.proofs.DeliverySteps.{DeliveryGoes, delivery-goes, FewAfter, taken, some-may as come_may}
use Rattle.tam_word.proofs.Members.{get-in}
use Rattle.tam_flow.proofs.DeliveryChanges.{arrays-fired}

-- ---- ends

-- some event may come
abbrev pub MayGoOn : Graph → State → Type 0
MayGoOn g t = (e : Event) × (may_follow g (singles g) t e ≡ true)

-- the end, by the state of the journal
abbrev pub EndFits : Graph → Limits → State → ℕ → End → Type 0
EndFits g limits t made Quiet = Follows g [] t × (on_their_way t ≡ []) × Few t.world
EndFits g limits t made (Double_write a b) = t.fault ≡ Some (Second_store a b)
EndFits g limits t made (Out_of_range a i l) = t.fault ≡ Some (Outside_cells a i l)
EndFits g limits t made (Frames_full n) = (t.fault ≡ None) × MayGoOn g t × (n ≡ limits.frames) × (n ≤ length t.world.activations)
    × ((c f x : ℕ) × In (Begin c f x) (on_their_way t))
EndFits g limits t made (Cells_full u l) = (t.fault ≡ None) × MayGoOn g t × (limits.cells < u + l) × (cells_used t.world.arrays ≡ u)
    × ((f x : ℕ) × In (Make l f x) (on_their_way t))
EndFits g limits t made (Budget_spent n) = (t.fault ≡ None) × MayGoOn g t × (n ≡ limits.budget) × (made ≡ n)
EndFits g limits t made (Wild what n) = ⊥
EndFits g limits t made (Trap pc cause) = ⊥

-- the journal goes on to a state with the run's words and world that bears out its end
pub record EndGoes (g : Graph) (limits : Limits) (s : State) (how : End) (d : GraphState) : Type 0 where
  pub state : State
  pub events : List Event
  pub goes : GoesOn g s state events
  pub printed : state.printed ≡ d.printed
  pub world : state.world ≡ d.world
  pub fits : EndFits g limits state d.events how
  pub charged : Charged g state d.events
  pub few : Few state.world

-- no more activations and arrays than events
pub record Sized (w : World) (made : ℕ) : Type 0 where
  pub activations : length w.activations ≤ made
  pub arrays : length w.arrays ≤ made

-- or, before the first, no activation but the root, and no message that wishes for one
pub record SizedBefore (s : State) (made : ℕ) : Type 0 where
  pub activations : (length s.world.activations ≤ made) ⊎ ((length s.world.activations ≤ 1) × ((c f x : ℕ) → ¬ In (Begin c f x) (on_their_way s)))
  pub arrays : length s.world.arrays ≤ made

-- what comes of one event
abbrev pub StepGoes : Graph → Limits → State → ℕ → Outcome GraphState → Type 0
StepGoes g limits s made (Next d) = GoesTo g s d × (d.events ≡ made + 1) × ((made == limits.budget) ≡ false) × Sized d.world (made + 1)
StepGoes g limits s made (Ended how d) = EndGoes g limits s how d

-- ---- choices

-- what a choice is
abbrev ChoiceIs : Bool → ℕ → Choice → Type 0
ChoiceIs r m Choose_quiet = (r ≡ false) × (m ≡ 0)
ChoiceIs r m Choose_run = r ≡ true
ChoiceIs r m (Choose_delivery k) = k < m

-- each is so
choice-is : (order : List Item) (r : Bool) (m : ℕ) → ChoiceIs r m (choice order r m).0
choice-is [] false zero = (refl, refl)
choice-is [] true zero = refl
choice-is [] true (suc m) = refl
choice-is [] false (suc m) = omega arith
choice-is (Ready ∷ rest) false zero = (refl, refl)
choice-is (Ready ∷ rest) true zero = refl
choice-is (Ready ∷ rest) true (suc m) = refl
choice-is (Ready ∷ rest) false (suc m) = omega arith
choice-is (Place k ∷ rest) false zero = (refl, refl)
choice-is (Place k ∷ rest) true zero = refl
choice-is (Place k ∷ rest) true (suc m) = omega arith
choice-is (Place k ∷ rest) false (suc m) = omega arith

-- a place below the length has an element
pub below-some : {X : Type 0} (xs : List X) (k : ℕ) → k < length xs → (x : X) × (slice_get xs k ≡ Some x)
below-some [] k h = absurd (omega arith)
below-some (x ∷ xs) zero h = (x, refl)
below-some (x ∷ xs) (suc k) h = below-some xs k (omega arith)

-- no elements
length-none : {X : Type 0} (xs : List X) → length xs ≡ 0 → xs ≡ []
length-none [] h = refl
length-none (x ∷ xs) h = absurd (omega arith)

-- ---- one event

module _ (g : Graph) (acc : IsAccepted g) (args : List ℕ) (limits : Limits) (s : State) (all : AllReached g args s) (made : ℕ)
    (ranges : AreLimits limits) (sized : SizedBefore s made) (within : made ≤ limits.budget) (charge : Charge g s made) where
  -- few activations and arrays
  few : Few s.world
  few = let b = sized.arrays in let d = ranges.budget in
      record { activations = ⊎_elim (λ a. omega arith) (λ a. let one = a.0 in omega arith) sized.activations; arrays = omega arith }

  -- no more activations than events after the next
  few-then : length s.world.activations ≤ made + 1
  few-then = ⊎_elim (λ a. omega arith) (λ a. let one = a.0 in omega arith) sized.activations

  -- a journal of no events
  stays : GoesOn g s s []
  stays = record { legal = refl; ends = refl }

  -- the budget is spent
  spent : (ready : List (ℕ × ℕ)) (order : List Item) → Follows g ready s → MayGoOn g s → (made == limits.budget) ≡ true
      → EndGoes g limits s (Budget_spent made) (graph_of s ready order made)
  spent ready order follows may p = record {
    state = s;
    events = [];
    goes = stays;
    printed = refl;
    world = refl;
    fits = (follows.whole, may, number-eq made limits.budget p, refl);
    charged = charge-charged g s made made (omega arith) charge;
    few = few;
  }

  -- a firing makes none
  sized-fired : (i x : ℕ) → Sized (fired g s.world i x).world (made + 1)
  sized-fired i x = let b = sized.arrays in record {
    activations = subst (λ n. n ≤ made + 1) (sym (fired-size g s.world i x)) few-then;
    arrays = subst (λ (rows : Arrays). length rows ≤ made + 1) (sym (arrays-fired g s.world i x)) (omega arith);
  }

  -- what became ready first fires
  run-step : (ready : List (ℕ × ℕ)) (order rest : List Item) → Follows g ready s → some_ready ready ≡ true
      → StepGoes g limits s made (chosen g limits (graph_of s ready order made) (Choose_run, rest))
  run-step [] order rest follows h = absurd (true≢false (sym h))
  run-step (v ∷ vs) order rest follows h = go (made == limits.budget) refl
    where
      go : (t : Bool) → (made == limits.budget) ≡ t → StepGoes g limits s made (chosen g limits (graph_of s (v ∷ vs) order made) (Choose_run, rest))
      go true p = rw (chosen, p) (spent (v ∷ vs) order follows
          (fire_may g acc args s all few v.0 v.1 vs follows) p)
      go false p = rw (chosen, p) (firing-goes g acc args s all few v.0 v.1 vs follows rest (made + 1), refl, p, sized-fired v.0 v.1)

  -- a fault's end
  fault-fits : (t : State) (f : Fault) → t.fault ≡ Some f → (n : ℕ) → EndFits g limits t n (end_of f)
  fault-fits t (Second_store a b) e n = e
  fault-fits t (Outside_cells a i l) e n = e

  module _ (ready : List (ℕ × ℕ)) (follows : Follows g ready s) (k : ℕ) (m : Message) (at : slice_get (on_their_way s) k ≡ Some m) where
    -- its delivery may follow
    may-arrive : MayGoOn g s
    may-arrive = come_may g args s all few ready follows k m at

    -- by what comes of it
    delivered-step : (rest : List Item) (d : Delivery) → (made == limits.budget) ≡ false → SizedAfter (made + 1) (made + 1) d
        → DeliveryGoes g s ready rest (made + 1) k d → StepGoes g limits s made (after_delivery g (taken s ready rest (made + 1) k) d)
    delivered-step rest (Went e) p z h = (h, refl, p, record { activations = z.0; arrays = z.1 })
    delivered-step rest (Printed q v) p z h =
        (h, refl, p, let b = sized.arrays in record { activations = few-then; arrays = omega arith })
    delivered-step rest (Faulted f) p z h = record {
      state = record s { fault = Some f; arrived = h.0 ∷ s.arrived };
      events = Deliver h.0 ∷ [];
      goes = h.1;
      printed = refl;
      world = refl;
      fits = fault-fits (record s { fault = Some f; arrived = h.0 ∷ s.arrived }) f refl (made + 1);
      charged = charged-same g s (record s { fault = Some f; arrived = h.0 ∷ s.arrived }) (made + 1) refl refl
          (charge-charged g s made (made + 1) (omega arith) charge);
      few = few;
    }

    -- a refusal's end
    refusal-fits : (rest : List Item) (q : Message) (n : ℕ) (e : End) → In q (on_their_way s) → In e (refusal g limits (graph_of s ready rest n) q)
        → EndFits g limits s n e
    refusal-fits rest (Begin c f x) n e h i = go (live_activations g (graph_of s ready rest n) == limits.frames) refl
      where
        full : (live_activations g (graph_of s ready rest n) == limits.frames) ≡ true → In e (Frames_full limits.frames ∷ []) → EndFits g limits s n e
        full p (inl q) = subst (EndFits g limits s n) q (
          follows.whole,
          may-arrive,
          refl,
          (let same = number-eq (live_activations g (graph_of s ready rest n)) limits.frames p in
              omega (arith, live-most g (graph_of s ready rest n), same)),
          (c, f, x, h),
        )
        full p (inr q) = absurd q

        go : (t : Bool) → (live_activations g (graph_of s ready rest n) == limits.frames) ≡ t → EndFits g limits s n e
        go true p = full p (rw (refusal, p) at i)
        go false p = absurd (nothing (rw (refusal, p) at i))
          where
            nothing : In e [] → ⊥
            nothing z = z
    refusal-fits rest (Make l f x) n e h i = go (nat_lt limits.cells (cells_used s.world.arrays + l)) refl
      where
        full : nat_lt limits.cells (cells_used s.world.arrays + l) ≡ true → In e (Cells_full (cells_used s.world.arrays) l ∷ []) → EndFits g limits s n e
        full p (inl q) = subst (EndFits g limits s n) q
            (follows.whole, may-arrive, test-below limits.cells (cells_used s.world.arrays + l) p, refl, (f, x, h))
        full p (inr q) = absurd q

        go : (t : Bool) → nat_lt limits.cells (cells_used s.world.arrays + l) ≡ t → EndFits g limits s n e
        go true p = full p (rw (refusal, p) at i)
        go false p = absurd (nothing (rw (refusal, p) at i))
          where
            nothing : In e [] → ⊥
            nothing z = z
    refusal-fits rest (Carry f x v) n e h i = absurd i
    refusal-fits rest (Ask_cell a j f x t) n e h i = absurd i
    refusal-fits rest (Put_cell a j v t) n e h i = absurd i

    -- a message that wishes for an activation comes after an event
    begin-room : (c f x : ℕ) → m ≡ Begin c f x → length s.world.activations + 1 ≤ made + 1
    begin-room c f x h = ⊎_elim (λ a. omega arith)
        (λ a. absurd (a.1 c f x (subst (λ q. In q (on_their_way s)) h (get-in (on_their_way s) k m at)))) sized.activations

    -- so its delivery leaves few
    after-sized : SizedAfter (made + 1) (made + 1) (delivered s.world m)
    after-sized = let b = sized.arrays in delivered-sized s.world (made + 1) (made + 1) m few-then (omega arith) begin-room

    -- within the budget, activations and arrays stay few
    few-after : (d : Delivery) → (made == limits.budget) ≡ false → SizedAfter (made + 1) (made + 1) d → FewAfter d
    few-after (Went e) p z =
        let n = number-differs made limits.budget p in
        let a : length e.world.activations ≤ made + 1 = z.0 in
        let b : length e.world.arrays ≤ made + 1 = z.1 in
        let d = ranges.budget in
        record { activations = omega arith; arrays = omega arith }
    few-after (Printed q v) p z = tt
    few-after (Faulted f) p z = tt

    -- unless it is refused
    unless-step : (rest : List Item) (es : List End) → refusal g limits (graph_of s ready rest (made + 1)) m ≡ es → (made == limits.budget) ≡ false
        → StepGoes g limits s made (delivered_unless g (taken s ready rest (made + 1) k) m es)
    unless-step rest [] e p =
        delivered-step rest (delivered s.world m) p after-sized
        (delivery-goes g args s all few ready follows k m at (few-after (delivered s.world m) p after-sized) rest (made + 1))
    unless-step rest (h ∷ more) e p = record {
      state = s;
      events = [];
      goes = stays;
      printed = refl;
      world = refl;
      charged = charge-charged g s made (made + 1) (omega arith) charge;
      few = few;
      fits = refusal-fits rest m (made + 1) h (get-in (on_their_way s) k m at) (subst (In h) (sym e) (inl refl));
    }

    -- the message at the place is delivered
    delivery-step : (order rest : List Item) → StepGoes g limits s made (chosen g limits (graph_of s ready order made) (Choose_delivery k, rest))
    delivery-step order rest = go (made == limits.budget) refl
      where
        go : (t : Bool) → (made == limits.budget) ≡ t → StepGoes g limits s made (chosen g limits (graph_of s ready order made) (Choose_delivery k, rest))
        go true p = rw (chosen, p) (spent ready order follows may-arrive p)
        go false p = rw (chosen, p, at) (unless-step rest (refusal g limits (graph_of s ready rest (made + 1)) m) refl p)

  -- what was chosen
  chosen-step : (ready : List (ℕ × ℕ)) (order rest : List Item) (c : Choice) → Follows g ready s → ChoiceIs (some_ready ready) (length (on_their_way s)) c
      → StepGoes g limits s made (chosen g limits (graph_of s ready order made) (c, rest))
  chosen-step [] order rest Choose_quiet follows (p, q) = record {
    state = s;
    events = [];
    goes = stays;
    printed = refl;
    world = refl;
    fits = (follows, length-none (on_their_way s) q, few);
    charged = charge-charged g s made made (omega arith) charge;
    few = few;
  }
  chosen-step (v ∷ vs) order rest Choose_quiet follows (p, q) = absurd (true≢false p)
  chosen-step ready order rest Choose_run follows h = run-step ready order rest follows h
  chosen-step ready order rest (Choose_delivery k) follows h =
      let r = below-some (on_their_way s) k h in delivery-step ready follows k r.0 r.1 order rest

  -- one event
  pub step-goes : (ready : List (ℕ × ℕ)) (order : List Item) → Follows g ready s → StepGoes g limits s made
      (graph_step g limits (graph_of s ready order made))
  step-goes ready order follows =
      chosen-step ready order (choice order (some_ready ready) (length (on_their_way s))).1 (choice order (some_ready ready) (length (on_their_way s))).0
      follows (choice-is order (some_ready ready) (length (on_their_way s)))

-- ---- the beginning

-- the root alone has begun, and no message wishes for an activation
pub opening-sized : (g : Graph) (args : List ℕ) → SizedBefore (initial g args) 0
opening-sized g args = record {
  activations = inr (
    omega arith,
    λ c f x i.
        let p = in-flat_map (argument_message g) (Begin c f x) (zip (below (length args)) args)
        (subst (λ (ms : List Message). In (Begin c f x) ms) (sym (ap (λ (z : GraphState). z.pending) (opening-same g args []))) i) in
        argument-no_wish g p.0 c f x p.2,
  );
  arrays = omega arith;
}

-- ---- the run

-- where a step goes on, so does the run
run-next : {S : Type 0} (step : S → Outcome S) (n : ℕ) (s d : S) → step s ≡ Next d → run_from step (suc n) s ≡ run_from step n d
run-next step n s d e = rw (run_from, e) refl

-- where a step ends, so does the run
run-ended : {S : Type 0} (step : S → Outcome S) (n : ℕ) (s d : S) (h : End) → step s ≡ Ended h d → run_from step n s ≡ (h, d)
run-ended step n s d h e = rw (run_from, e) refl

-- the journal goes on to the end of the run
pub run-goes : (g : Graph) → IsAccepted g → (args : List ℕ) (limits : Limits) (n : ℕ) (s : State) → AllReached g args s → (made : ℕ) → made + n
    ≡ limits.budget
    → AreLimits limits → SizedBefore s made → Charge g s made
    → (ready : List (ℕ × ℕ)) (order : List Item) → Follows g ready s
    → EndGoes g limits s (run_from (graph_step g limits) n (graph_of s ready order made)).0 (run_from (graph_step g limits) n (graph_of s ready order made)).1
run-goes g acc args limits zero s all made b ranges sized charge ready order follows =
    go (graph_step g limits (graph_of s ready order made)) refl (step-goes g acc args limits s all made ranges sized (omega arith) charge ready order follows)
  where
    go : (o : Outcome GraphState) → graph_step g limits (graph_of s ready order made) ≡ o → StepGoes g limits s made o
        → EndGoes g limits s (run_from (graph_step g limits) zero (graph_of s ready order made)).0
        (run_from (graph_step g limits) zero (graph_of s ready order made)).1
    go (Next d) e h = absurd (true≢false (sym (eq-number made limits.budget (omega arith)) ∙ h.2))
    go (Ended how d) e h =
        subst (λ (r : End × GraphState). EndGoes g limits s r.0 r.1) (sym (run-ended (graph_step g limits) zero (graph_of s ready order made) d how e)) h
run-goes g acc args limits (suc n) s all made b ranges sized charge ready order follows =
    go (graph_step g limits (graph_of s ready order made)) refl (step-goes g acc args limits s all made ranges sized (omega arith) charge ready order follows)
    (λ t es l z c r o f. run-goes g acc args limits n t (reached-on g args s t es l all) (made + 1) (omega arith) ranges z c r o f)
  where
    go : (o : Outcome GraphState) → graph_step g limits (graph_of s ready order made) ≡ o → StepGoes g limits s made o
        → ((t : State) (es : List Event) → GoesOn g s t es → SizedBefore t (made + 1) → Charge g t (made + 1) → (r : List (ℕ × ℕ))
        (q : List Item) → Follows g r t
        → EndGoes g limits t (run_from (graph_step g limits) n (graph_of t r q (made + 1))).0
        (run_from (graph_step g limits) n (graph_of t r q (made + 1))).1)
        → EndGoes g limits s (run_from (graph_step g limits) (suc n) (graph_of s ready order made)).0
        (run_from (graph_step g limits) (suc n) (graph_of s ready order made)).1
    go (Ended how d) e h f =
        subst (λ (r : End × GraphState). EndGoes g limits s r.0 r.1) (sym (run-ended (graph_step g limits) (suc n) (graph_of s ready order made) d how e)) h
    go (Next d) e (h, q, p, z) f =
        let same : d ≡ graph_of h.state h.ready d.order (made + 1) = h.same ∙ ap (λ z. graph_of h.state h.ready d.order z) q in
        let y : Sized h.state.world (made + 1) = subst (λ (w : GraphState). Sized w.world (made + 1)) h.same z in
        let r = f h.state h.events h.goes (record { activations = inl y.activations; arrays = y.arrays }) (h.charge made charge) h.ready d.order h.follows in
        let path = run-next (graph_step g limits) n (graph_of s ready order made) d e ∙ ap (run_from (graph_step g limits) n) same in
        subst (λ (z : End × GraphState). EndGoes g limits s z.0 z.1) (sym path) (record {
          state = r.state;
          events = h.events ++ r.events;
          goes = goes-then g s h.state r.state h.events r.events h.goes r.goes;
          printed = r.printed;
          world = r.world;
          fits = r.fits;
          charged = r.charged;
          few = r.few;
        })
