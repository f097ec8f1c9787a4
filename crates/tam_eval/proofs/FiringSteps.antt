-- The firing of the node that became ready first is the run of its vertex, followed by the runs of the inlets that are due.
use Rattle.std.proofs.Common.{◌≡◌, ℕ, ◌+◌, ◌<◌, ◌≤◌, Bool, true, false, List, [], ◌∷◌, ◌++◌, refl, sym, subst, ap, inl, inr, ◌⊎◌, ◌∙◌}
use Rattle.std.proofs.Common.{true≢false, length, slice_get, unwrap_or, Some, Option, is_none, arith}
use Rattle.tam_word.proofs.Tests.{true-both}
use Rattle.tam_word.proofs.Members.{In, in-append}
use Rattle.tam_graph.specs.Graphs.{Code, Graph, code_of, kind_at, block_at}
use Rattle.tam_graph.specs.Accepted.{IsAccepted}
use Rattle.tam_split.specs.GraphPartitions.{singles}
use Rattle.tam_split.proofs.Firers.{Firer, Giver, is_inner, value-inner, firer-at, firer-block, firer-one, giver-inlet}
use Rattle.tam_msgs.specs.declared.message.Message.{Message}
use Rattle.tam_msgs.specs.declared.item.Item.{Item}
use Rattle.tam_istr.specs.Cells.{Empty, Reader, Arrays}
use Rattle.tam_world.specs.Worlds.{World, Effect, Fault, its_code, has_word, fired}
use Rattle.tam_flow.specs.Journals.{State, Event, Run, has_run, on_their_way, is_legal_from, may_follow, may_run}
use Rattle.tam_flow.specs.Reached.{IsThere, cell_at}
use Rattle.tam_flow.proofs.SingleRuns.{BlockThere, run-firer, may_run-firer}
use Rattle.tam_flow.proofs.OnTheWay.{way-is, way-sent}
use Rattle.tam_flow.proofs.CatchUp.{Placed, all-caught, ran-old, ran-here, ran-new}
use Rattle.tam_flow.proofs.Moves.{Moves, JustOne, Fits, moves-fired, fits-later, for-later}
use Rattle.tam_eval.specs.GraphRuns.{GraphState, is_enabled, joins, after_effect}
use Rattle.tam_eval.proofs.Follows.{Enabled, is_enabled-parts, MessagesFit, Follows, graph_of}
use Rattle.tam_eval.proofs.KeptBySteps.{Steps, runs-later, ready-later}
use Rattle.tam_eval.proofs.StepsCaughtUp.{GoesOn, AllReached, reached-placed, goes-then, reached-on, reached-now, steps-then, caught-way, caught-messages}
use Rattle.tam_eval.proofs.WorldSizes.{Few, fired-few}
use Rattle.tam_eval.proofs.FiringSends.{sends-fit}
use Rattle.tam_eval.proofs.Charges.{Charge, HasFired, charge-fired, fired-one}
use Rattle.tam_eval.proofs.FiringGives.{fired-gives}
use Rattle.tam_flow.proofs.DeliveryChanges.{arrays-fired}

-- the journal goes on from s to some state that the graph's state after an event follows
pub record GoesTo (g : Graph) (s : State) (made : GraphState) : Type 0 where
  pub state : State
  pub events : List Event
  pub goes : GoesOn g s state events
  pub ready : List (ℕ × ℕ)
  pub same : made ≡ graph_of state ready made.order made.events
  pub follows : Follows g ready state
  pub charge : (n : ℕ) → Charge g s n → Charge g state (n + 1)

-- equal parts make equal states of a graph
pub same-state : (ready : List (ℕ × ℕ)) (order : List Item) (events : ℕ) (w v : World) (p q : List Message) (a b : List (ℕ × ℕ)) → w ≡ v → p ≡ q → a ≡ b
    → ◌≡◌ {A = GraphState} (record { world = w; ready = ready; pending = p; order = order; printed = a; events = events })
    (record { world = v; ready = ready; pending = q; order = order; printed = b; events = events })
same-state ready order events w v p q a b e f h =
    ap (λ (z : World). record { world = z; ready = ready; pending = p; order = order; printed = a; events = events }) e
    ∙ (ap (λ (z : List Message). record { world = v; ready = ready; pending = z; order = order; printed = a; events = events }) f
    ∙ ap (λ (z : List (ℕ × ℕ)). record { world = v; ready = ready; pending = q; order = order; printed = z; events = events }) h)

-- the state after a run with this effect
abbrev fired_state : State → Effect → ℕ → ℕ → ℕ → State
fired_state s e i b k = record s { world = e.world; sent = s.sent ++ e.sends; ran = (i, b, k) ∷ s.ran }

-- a list with more behind isn't shorter
pub longer : (xs ys : List Message) → length xs ≤ length (xs ++ ys)
longer [] ys = omega arith
longer (x ∷ xs) ys = let l : length xs ≤ length (xs ++ ys) = longer xs ys in omega arith

module _ (g : Graph) (acc : IsAccepted g) (args : List ℕ) (s : State) (all : AllReached g args s) (few : Few s.world) (i x : ℕ) (rest : List (ℕ × ℕ))
    (follows : Follows g ((i, x) ∷ rest) s) where
  -- the code
  abbrev c : Code
  c = its_code g s.world i

  -- its activation is there, and it may fire
  here : IsThere s.world i × (is_enabled g s.world i x ≡ true)
  here = follows.stands.ready_enabled i x (inl refl)

  -- the node that fires is enabled
  enabled : Enabled g s.world i x
  enabled = is_enabled-parts g s.world i x here.1

  -- its place
  pub place : (k : ℕ) × Firer c (block_at c x) k x
  place = firer-at c x enabled.fires

  -- the giver of a word has run
  giver-ran : (d a : ℕ) → Giver c (block_at c x) d a → has_word s.world i a ≡ true → has_run s i (block_at c x) d ≡ true
  giver-ran d a f h = go f.vertex.inlet refl
    where
      go : (t : Bool) → f.vertex.inlet ≡ t → has_run s i (block_at c x) d ≡ true
      go true p = follows.runs.inlet_word i (block_at c x) d a here.0 (record { vertex = f.vertex; stands = f.stands; of_node = f.of_node; inlet = p })
          enabled.entered h
      go false p = follows.runs.inner_word i (block_at c x) d a here.0 (record { vertex = f.vertex; stands = f.stands; of_node = f.of_node; no_inlet = p })
          (value-inner (kind_at c a) (follows.runs.words_values i a h) (sym (giver-inlet c (block_at c x) d a f) ∙ p)) h

  -- the block is there
  block-there : BlockThere g s.world i (block_at c x)
  block-there =
      let p = reached-placed g args s (reached-now g args s all few) in
      record { act = here.0; code = p.codes i here.0; block = p.blocks i (block_at c x) here.0 enabled.entered }

  -- its run may follow
  pub may : may_follow g (singles g) s (Run i (block_at c x) place.0) ≡ true
  may = true-both (is_none s.fault) (may_run g (singles g) s i (block_at c x) place.0) (ap (λ (o : Option Fault). is_none o) follows.whole)
      (may_run-firer g s i (block_at c x) block-there place.0 x place.1
      (follows.stands.ready_unrun i x (block_at c x) place.0 (inl refl) place.1) enabled.entered
      (λ d a f m. giver-ran d a f (enabled.words a m)))

  -- so some event may
  pub some-may : (e : Event) × (may_follow g (singles g) s e ≡ true)
  some-may = (Run i (block_at c x) place.0, may)

  -- the state after it
  abbrev after : State
  after = fired_state s (fired g s.world i x) i (block_at c x) place.0

  -- the run leads there
  run-goes : GoesOn g s after (Run i (block_at c x) place.0 ∷ [])
  run-goes = record {
    legal = rw (is_legal_from, may) refl;
    ends = ap (λ (e : Effect). fired_state s e i (block_at c x) place.0) (run-firer g s i (block_at c x) block-there place.0 x place.1);
  }

  -- the inlets that are due run
  after-placed : Placed g after.world
  after-placed = reached-placed g args after
      (reached-now g args after (reached-on g args s after (Run i (block_at c x) place.0 ∷ []) run-goes all) (fired-few g s.world i x few))

  -- what the firing leaves
  moves : Moves g (JustOne i x) s.world after.world
  moves = moves-fired g s.world i x here.0

  -- the code is as it was
  code-same : its_code g after.world i ≡ c
  code-same = ap (code_of g) (moves.codes i here.0)

  -- what ran is what had, and this vertex
  ran-after : (j b k : ℕ) → has_run after j b k ≡ true → (has_run s j b k ≡ true) ⊎ ((y : ℕ) × Firer (its_code g after.world j) b k y × JustOne i x j y)
  ran-after j b k h = go (ran-new s i (block_at c x) place.0 j b k h)
    where
      go : (has_run s j b k ≡ true) ⊎ ((i ≡ j) × (block_at c x ≡ b) × (place.0 ≡ k))
          → (has_run s j b k ≡ true) ⊎ ((y : ℕ) × Firer (its_code g after.world j) b k y × JustOne i x j y)
      go (inl r) = inl r
      go (inr (e, f, d)) = inr (
        x,
        subst (λ z. Firer (its_code g after.world z) b k x) e (subst (λ z. Firer (its_code g after.world i) z k x) f
            (subst (λ z. Firer (its_code g after.world i) (block_at c x) z x) d
            (subst (λ z. Firer z (block_at c x) place.0 x) (sym code-same) place.1))),
        (sym e, refl),
      )

  -- and this vertex has
  just-ran : (j b k y : ℕ) → Firer (its_code g after.world j) b k y → JustOne i x j y → has_run after j b k ≡ true
  just-ran j b k y f (e, d) =
      let q : Firer c b k x = subst (λ z. Firer z b k x) code-same
      (subst (λ z. Firer (its_code g after.world z) b k x) e (subst (Firer (its_code g after.world j) b k) d f)) in
      let p : block_at c x ≡ b = firer-block c b k x q in
      let o : k ≡ place.0 = firer-one c (block_at c x) k place.0 x (subst (λ z. Firer c z k x) (sym p) q) place.1 in
      subst (λ z. has_run after z b k ≡ true) (sym e) (subst (λ z. has_run after i z k ≡ true) p (subst (λ z. has_run after i (block_at c x) z ≡ true) (sym o)
      (ran-here s i (block_at c x) place.0)))

  -- the messages after it
  after-way : on_their_way after ≡ on_their_way s ++ (fired g s.world i x).sends
  after-way = way-is after ∙ (way-sent s.arrived s.sent (fired g s.world i x).sends follows.messages.arrived_sent
      ∙ ap (λ l. l ++ (fired g s.world i x).sends) (sym (way-is s)))

  -- fit
  after-messages : MessagesFit g after
  after-messages = record {
    fit = λ m h. fits m (in-append m (on_their_way s) (fired g s.world i x).sends (subst (In m) after-way h));
    readers = λ a j rs r e h. for-later g (JustOne i x) s.world after.world moves r.0 r.1 (follows.messages.readers a j rs r (same-cell a j rs e) h);
    arrived_sent = λ n h. let l : n < length s.sent = follows.messages.arrived_sent n h in
        let p = longer s.sent (fired g s.world i x).sends in omega arith;
  }
    where
      fits : (m : Message) → In m (on_their_way s) ⊎ In m (fired g s.world i x).sends → Fits g after.world m
      fits m (inl h) = fits-later g (JustOne i x) s.world after.world moves m (follows.messages.fit m h)
      fits m (inr h) = fits-later g (JustOne i x) s.world after.world moves m (sends-fit g acc args s (reached-now g args s all few) i x here.0 m h)

      same-cell : (a j : ℕ) (rs : List Reader) → cell_at after.world a j ≡ Some (Empty rs) → cell_at s.world a j ≡ Some (Empty rs)
      same-cell a j rs e = subst (λ (w : Arrays). slice_get (unwrap_or (slice_get w a) []) j ≡ Some (Empty rs)) (arrays-fired g s.world i x) e

  -- the node has fired
  has-fired : (t : State) → Steps g (JustOne i x) s t → HasFired g t i x
  has-fired t st =
      let f : Firer (its_code g t.world i) (block_at c x) place.0 x =
      subst (λ z. Firer z (block_at c x) place.0 x) (sym (ap (code_of g) (st.moves.codes i here.0))) place.1 in
      record {
        block = block_at c x;
        place = place.0;
        act = st.moves.there i here.0;
        firer = f;
        ran = st.just_ran i (block_at c x) place.0 x f (refl, refl);
        gave = λ n. st.just_gave i x (refl, refl) (subst (λ z. is_inner (kind_at z x) ≡ true) (ap (code_of g) (st.moves.codes i here.0)) n);
      }

  -- so the graph's state after the firing follows a state to which the journal goes on
  pub firing-goes : (order : List Item) (events : ℕ) → GoesTo g s (after_effect g (graph_of s rest order events) (fired g s.world i x))
  firing-goes order events =
      let u = all-caught g after follows.whole after-placed in
      let t = u.0 in
      let st = steps-then g (JustOne i x) s after u.0 _ follows.runs moves u.1 u.2 (λ j b k h. ran-old s i (block_at c x) place.0 j b k h) ran-after just-ran
      (λ j y e. subst (λ z. IsThere s.world z × (is_enabled g s.world z y ≡ true)) (sym e.0)
      (subst (λ z. IsThere s.world i × (is_enabled g s.world i z ≡ true)) (sym e.1) here))
      (λ j y e n. subst (λ z. has_word after.world z y ≡ true) (sym e.0) (subst (λ z. has_word after.world i z ≡ true) (sym e.1)
      (fired-gives g s.world i x here.0
      (subst (λ z. is_inner (kind_at c z) ≡ true) e.1 (subst (λ z. is_inner (kind_at (its_code g s.world z) y) ≡ true) e.0 n))
      enabled.words))) in
      record {
        state = u.0;
        events = Run i (block_at c x) place.0 ∷ u.1.events;
        goes = goes-then g s after u.0 (Run i (block_at c x) place.0 ∷ []) u.1.events run-goes (record { legal = u.1.legal; ends = u.1.ends });
        ready = rest ++ joins g s.world u.0.world;
        same = ap (λ (w : World). after_joins w) (sym u.1.world)
            ∙ same-state (rest ++ joins g s.world u.0.world) order events u.0.world u.0.world _ (on_their_way u.0) s.printed u.0.printed refl
            (sym (caught-way g after u.0 _ u.1 ∙ after-way)) (sym u.1.printed);
        follows = record {
          whole = u.1.fault ∙ follows.whole;
          runs = runs-later g (JustOne i x) s u.0 follows.runs st;
          stands = ready-later g (JustOne i x) s u.0 follows.runs st ((i, x) ∷ rest) rest follows.stands (λ j y m. left j y m)
              (λ j y m. kept j y m) follows.stands.once.1;
          messages = caught-messages g after u.0 _ u.1 after-messages;
        };
        charge = λ n q. charge-fired g (JustOne i x) s u.0 st.moves st.old n i x (fired g s.world i x).sends (caught-way g after u.0 _ u.1 ∙ after-way)
            (fired-one g s.world i x) (has-fired u.0 st) (λ h. true≢false (sym h.ran ∙ follows.stands.ready_unrun i x h.block h.place (inl refl) h.firer)) q;
      }
    where
      after_joins : World → GraphState
      after_joins w = record {
        world = w;
        ready = rest ++ joins g s.world w;
        pending = on_their_way s ++ (fired g s.world i x).sends;
        order = order;
        printed = s.printed;
        events = events;
      }

      left : (j y : ℕ) → In (j, y) ((i, x) ∷ rest) → JustOne i x j y ⊎ In (j, y) rest
      left j y (inl e) = inl (sym (ap (λ (p : ℕ × ℕ). p.0) e), sym (ap (λ (p : ℕ × ℕ). p.1) e))
      left j y (inr m) = inr m

      kept : (j y : ℕ) → In (j, y) rest → In (j, y) ((i, x) ∷ rest) × (JustOne i x j y → ⊥)
      kept j y m = (inr m, λ e. follows.stands.once.0 (subst (λ z. In (z, x) rest) e.0 (subst (λ z. In (j, z) rest) e.1 m)))
