-- An event and the runs of the inlets that are due after it, as one step.
use Rattle.std.proofs.Common.{◌≡◌, ℕ, ◌<◌, Bool, true, false, List, [], ◌∷◌, ◌++◌, refl, sym, subst, ap, ap₂, inl, inr, ◌⊎◌, ◌∙◌, true≢false}
use Rattle.std.proofs.Common.{length, Some}
use Rattle.std.proofs.lemmas.Option.{same_Some}
use Rattle.tam_word.specs.Lists.{has}
use Rattle.tam_word.proofs.Members.{In}
use Rattle.tam_graph.specs.Graphs.{Graph, code_of, kind_at}
use Rattle.tam_split.specs.declared.vertex.Vertex.{Vertex}
use Rattle.tam_split.specs.GraphPartitions.{singles}
use Rattle.tam_split.proofs.Firers.{Firer, is_inner, firer-node, firer-no_inlet}
use Rattle.tam_msgs.specs.declared.message.Message.{Message}
use Rattle.tam_istr.specs.Cells.{Empty}
use Rattle.tam_world.specs.Worlds.{World, its_code, has_word, has_entered}
use Rattle.tam_flow.specs.Journals.{State, Event, has_run, on_their_way, is_legal_from, state_from, may_follow, after_event}
use Rattle.tam_flow.specs.Reached.{IsThere, IsReached, cell_at}
use Rattle.tam_flow.proofs.SingleRuns.{InletAt}
use Rattle.tam_flow.proofs.OnTheWay.{way_from, way-is}
use Rattle.tam_flow.proofs.CatchUp.{Placed, IsDue, CaughtUp}
use Rattle.tam_flow.proofs.Moves.{Moves, IsForInlet, Fits}
use Rattle.tam_eval.specs.GraphRuns.{is_enabled}
use Rattle.tam_eval.proofs.Follows.{RunsStand, MessagesFit}
use Rattle.tam_eval.proofs.KeptBySteps.{Steps}
use Rattle.tam_eval.proofs.WorldSizes.{Few}

-- ---- going on

-- a legal journal goes on from s to t by these events
pub record GoesOn (g : Graph) (s t : State) (events : List Event) : Type 0 where
  pub legal : is_legal_from g (singles g) s events ≡ true
  pub ends : state_from g (singles g) s events ≡ t

-- every state to which a legal journal goes on from s, with few activations and arrays, has what the invariant says
abbrev pub AllReached : Graph → List ℕ → State → Type 0
AllReached g args s =
    (events : List Event) → is_legal_from g (singles g) s events ≡ true → Few (state_from g (singles g) s events).world
    → IsReached g (singles g) args (state_from g (singles g) s events)

-- such a state's codes and blocks are there
pub reached-placed : (g : Graph) (args : List ℕ) (s : State) → IsReached g (singles g) args s → Placed g s.world
reached-placed g args s h = record { codes = h.activations.codes; blocks = h.activations.blocks }

-- one journal behind another
pub goes-then : (g : Graph) (s t u : State) (es fs : List Event) → GoesOn g s t es → GoesOn g t u fs → GoesOn g s u (es ++ fs)
goes-then g s t u [] fs a b = subst (λ (z : State). GoesOn g z u fs) (sym a.ends) b
goes-then g s t u (e ∷ es) fs a b = go (may_follow g (singles g) s e) refl a.legal (goes-then g (after_event g (singles g) s e) t u es fs)
  where
    go : (x : Bool) → may_follow g (singles g) s e ≡ x → is_legal_from g (singles g) s (e ∷ es) ≡ true
        → (GoesOn g (after_event g (singles g) s e) t es → GoesOn g t u fs → GoesOn g (after_event g (singles g) s e) u (es ++ fs)) → GoesOn g s u
        (e ∷ (es ++ fs))
    go true p l f =
        let r = f (record { legal = rw (is_legal_from, p) at l; ends = a.ends }) b in
        record { legal = rw (is_legal_from, p) r.legal; ends = r.ends }
    go false p l f = absurd (true≢false (sym (rw (is_legal_from, p) at l)))

-- what is reached from a later state is reached
pub reached-on : (g : Graph) (args : List ℕ) (s t : State) (es : List Event) → GoesOn g s t es → AllReached g args s → AllReached g args t
reached-on g args s t es a h fs l few =
    let r = goes-then g s t (state_from g (singles g) t fs) es fs a (record { legal = l; ends = refl }) in
    subst (IsReached g (singles g) args) r.ends (h (es ++ fs) r.legal (subst (λ (z : State). Few z.world) (sym r.ends) few))

-- and so is that state itself
pub reached-now : (g : Graph) (args : List ℕ) (s : State) → AllReached g args s → Few s.world → IsReached g (singles g) args s
reached-now g args s h few = h [] refl few

-- ---- the step

module _ (g : Graph) (Just : ℕ → ℕ → Type 0) (s a t : State) (places : List (ℕ × ℕ × ℕ)) (runs : RunsStand g s) (moves : Moves g Just s.world a.world)
    (caught : CaughtUp g a t places) (all : (i b k : ℕ) → IsDue g a.world i b k → has_run t i b k ≡ true)
    (old : (i b k : ℕ) → has_run s i b k ≡ true → has_run a i b k ≡ true)
    (new : (i b k : ℕ) → has_run a i b k ≡ true → (has_run s i b k ≡ true) ⊎ ((x : ℕ) × Firer (its_code g a.world i) b k x × Just i x))
    (just_ran : (i b k x : ℕ) → Firer (its_code g a.world i) b k x → Just i x → has_run a i b k ≡ true)
    (just_enabled : (i x : ℕ) → Just i x → IsThere s.world i × (is_enabled g s.world i x ≡ true))
    (just_gave : (i x : ℕ) → Just i x → is_inner (kind_at (its_code g s.world i) x) ≡ true → has_word a.world i x ≡ true) where
  -- in the world behind the event: where something ran, its activation is there
  there-then : (i b k : ℕ) → (has_run a i b k ≡ true) ⊎ IsDue g a.world i b k → IsThere a.world i
  there-then i b k (inr d) = d.act
  there-then i b k (inl r) = elim (new i b k r) [
    | inl h ↦ moves.there i (runs.ran_there i b k h)
    | inr h ↦ moves.there i (just_enabled i h.0 h.2).0
  ]

  -- of those that fire it ran before or just fired
  firer-then : (i b k x : ℕ) → Firer (its_code g a.world i) b k x → (has_run a i b k ≡ true) ⊎ IsDue g a.world i b k → (has_run s i b k ≡ true) ⊎ Just i x
  firer-then i b k x f (inr d) = absurd (firer-no_inlet (its_code g a.world i) b k x d.inlet.vertex f d.inlet.stands d.inlet.inlet)
  firer-then i b k x f (inl r) = elim (new i b k r) [
    | inl h ↦ inl h
    | inr h ↦ inr (subst (Just i) (firer-node (its_code g a.world i) b k h.0 x h.1 f) h.2)
  ]

  -- of inlets it has its word
  inlet-then : (i b k x : ℕ) → InletAt (its_code g a.world i) b k x → (has_run a i b k ≡ true) ⊎ IsDue g a.world i b k
      → (has_entered a.world i b ≡ true) × (has_word a.world i x ≡ true)
  inlet-then i b k x f (inr d) =
      let q : d.inlet.vertex ≡ f.vertex = same_Some d.inlet.vertex f.vertex (sym d.inlet.stands ∙ f.stands) in
      let n : d.node ≡ x = sym d.inlet.of_node ∙ (ap (λ (v : Vertex). v.node) q ∙ f.of_node) in
      (d.entered, subst (λ y. has_word a.world i y ≡ true) n d.word)
  inlet-then i b k x f (inl r) = elim (new i b k r) [
    | inl h ↦ (let l = runs.ran_there i b k h in
        let p = runs.inlet_ran i b k x l (subst (λ c. InletAt c b k x) (ap (code_of g) (moves.codes i l)) f) h in
        (moves.entered_stay i b p.0, moves.words_stay i x p.1))
    | inr h ↦ absurd (firer-no_inlet (its_code g a.world i) b k h.0 f.vertex h.1 f.stands f.inlet)
  ]

  -- the step
  pub steps-then : Steps g Just s t
  steps-then = record {
    moves = subst (λ w. Moves g Just s.world w) (sym caught.world) moves;
    began = runs.words_there;
    old = λ i b k h. caught.old i b k (old i b k h);
    ran_there = λ i b k h. subst (λ (w : World). IsThere w i) (sym caught.world) (there-then i b k (caught.new i b k h));
    firer_new = λ i b k x f h. firer-then i b k x (subst (λ w. Firer (its_code g w i) b k x) caught.world f) (caught.new i b k h);
    just_ran = λ i b k x f j. caught.old i b k (just_ran i b k x (subst (λ w. Firer (its_code g w i) b k x) caught.world f) j);
    just_enabled = just_enabled;
    just_gave = λ i x j n. subst (λ w. has_word w i x ≡ true) (sym caught.world) (just_gave i x j n);
    inlet_ran = λ i b k x l f h. subst (λ w. (has_entered w i b ≡ true) × (has_word w i x ≡ true)) (sym caught.world)
        (inlet-then i b k x (subst (λ w. InletAt (its_code g w i) b k x) caught.world f) (caught.new i b k h));
    inlet_word = λ i b k x l f e h. all i b k (record {
      act = subst (λ (w : World). IsThere w i) caught.world l;
      node = x;
      inlet = subst (λ w. InletAt (its_code g w i) b k x) caught.world f;
      entered = subst (λ w. has_entered w i b ≡ true) caught.world e;
      word = subst (λ w. has_word w i x ≡ true) caught.world h;
    });
  }

-- the same messages are on their way
pub caught-way : (g : Graph) (a t : State) (places : List (ℕ × ℕ × ℕ)) → CaughtUp g a t places → on_their_way t ≡ on_their_way a
caught-way g a t places h =
    way-is t ∙ (ap₂ (λ xs ms. way_from xs 0 ms) h.arrived h.sent ∙ sym (way-is a))

-- and fit
pub caught-messages : (g : Graph) (a t : State) (places : List (ℕ × ℕ × ℕ)) → CaughtUp g a t places → MessagesFit g a → MessagesFit g t
caught-messages g a t places h f = record {
  fit = λ m i. subst (λ w. Fits g w m) (sym h.world) (f.fit m (subst (In m) (caught-way g a t places h) i));
  readers = λ x j rs r c i. subst (λ w. IsForInlet g w r.0 r.1) (sym h.world)
      (f.readers x j rs r (subst (λ (w : World). cell_at w x j ≡ Some (Empty rs)) h.world c) i);
  arrived_sent = λ n e. subst (λ (ms : List Message). n < length ms) (sym h.sent) (f.arrived_sent n (subst (λ xs. has xs n ≡ true) h.arrived e));
}
