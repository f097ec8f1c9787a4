-- Every inlet that has its word, and whose block is entered, may run: a legal journal goes on with them and changes nothing else.
use Rattle.std.proofs.Common.{◌≡◌, ℕ, ◌<◌, Bool, true, false, ◌&&◌, List, [], ◌∷◌, ◌++◌, refl, sym, subst, ap, inl, inr, ◌⊎◌, ◌∙◌, true≢false}
use Rattle.std.proofs.Common.{◌==◌, map, flat_map, length, slice_get, Some, None, is_none, Option}
use Rattle.std.proofs.lemmas.Option.{slice_get_within}
use Rattle.tam_word.specs.Lists.{any_of, below}
use Rattle.tam_word.proofs.Tests.{number-eq, eq-number, both-true, true-both}
use Rattle.tam_word.proofs.Members.{In, flat_map-in, in-flat_map, map-in, in-map, below-in, in-below}
use Rattle.tam_msgs.specs.declared.message.Message.{Message}
use Rattle.tam_graph.specs.Graphs.{Graph}
use Rattle.tam_split.specs.declared.vertex.Vertex.{Vertex}
use Rattle.tam_split.specs.Blocks.{vertices_in}
use Rattle.tam_split.specs.GraphPartitions.{singles}
use Rattle.tam_world.specs.Worlds.{World, Effect, Fault, activation_at, its_code, has_word, has_entered}
use Rattle.tam_flow.specs.Journals.{State, Event, Run, may_follow, may_run, has_run, after_event, is_legal_from, state_from}
use Rattle.tam_flow.specs.Reached.{IsThere}
use Rattle.tam_flow.proofs.SingleRuns.{InletAt, run-inlet, may_run-inlet}

-- ---- runs

-- one more run
abbrev pub with_run : State → ℕ → ℕ → ℕ → State
with_run s i b k = record s { ran = (i, b, k) ∷ s.ran }

-- what ran still has
pub ran-old : (s : State) (i b k j d l : ℕ) → has_run s j d l ≡ true → has_run (with_run s i b k) j d l ≡ true
ran-old s i b k j d l h = go ((i == j) && ((b == d) && (k == l))) refl
  where
    go : (t : Bool) → ((i == j) && ((b == d) && (k == l))) ≡ t → has_run (with_run s i b k) j d l ≡ true
    go true p = rw (has_run, any_of, p) refl
    go false p = rw (has_run, any_of, p) h

-- and so has the new one
pub ran-here : (s : State) (i b k : ℕ) → has_run (with_run s i b k) i b k ≡ true
ran-here s i b k =
    let p = true-both (i == i) ((b == b) && (k == k)) (eq-number i i refl) (true-both (b == b) (k == k) (eq-number b b refl) (eq-number k k refl)) in
    rw (has_run, any_of, p) refl

-- there are no others
pub ran-new : (s : State) (i b k j d l : ℕ) → has_run (with_run s i b k) j d l ≡ true → (has_run s j d l ≡ true) ⊎ ((i ≡ j) × (b ≡ d) × (k ≡ l))
ran-new s i b k j d l h = go ((i == j) && ((b == d) && (k == l))) refl
  where
    go : (t : Bool) → ((i == j) && ((b == d) && (k == l))) ≡ t → (has_run s j d l ≡ true) ⊎ ((i ≡ j) × (b ≡ d) × (k ≡ l))
    go true p =
        let q = both-true (i == j) ((b == d) && (k == l)) p in
        let r = both-true (b == d) (k == l) q.1 in
        inr (number-eq i j q.0, number-eq b d r.0, number-eq k l r.1)
    go false p = inl (rw (has_run, any_of, p) at h)

-- ---- the codes and blocks are there

-- each activation's code is the graph's, and each block that it entered the code's
pub record Placed (g : Graph) (w : World) : Type 0 where
  pub codes : (j : ℕ) → IsThere w j → (activation_at w j).code < length g.codes
  pub blocks : (j b : ℕ) → IsThere w j → has_entered w j b ≡ true → b < length (its_code g w j).owners

-- an inlet that has its word and whose block is entered
pub record IsDue (g : Graph) (w : World) (i b k : ℕ) : Type 0 where
  pub act : IsThere w i
  pub node : ℕ
  pub inlet : InletAt (its_code g w i) b k node
  pub entered : has_entered w i b ≡ true
  pub word : has_word w i node ≡ true

-- its run changes nothing else
pub run-due : (g : Graph) (s : State) → Placed g s.world → (i b k : ℕ) → IsDue g s.world i b k → after_event g (singles g) s (Run i b k) ≡ with_run s i b k
run-due g s placed i b k h =
    ap (λ (e : Effect). record s { world = e.world; sent = s.sent ++ e.sends; ran = (i, b, k) ∷ s.ran })
    (run-inlet g s i b (record { act = h.act; code = placed.codes i h.act; block = placed.blocks i b h.act h.entered }) k h.node h.inlet)
    ∙ ap (λ (l : List Message). record s { sent = l; ran = (i, b, k) ∷ s.ran }) (none-behind s.sent)
  where
    none-behind : (xs : List Message) → xs ++ [] ≡ xs
    none-behind [] = refl
    none-behind (x ∷ xs) = ap (λ l. x ∷ l) (none-behind xs)

-- ---- all that are due

-- t is s with further runs of inlets that were due; of the places found each that was due has run
pub record CaughtUp (g : Graph) (s t : State) (places : List (ℕ × ℕ × ℕ)) : Type 0 where
  pub events : List Event
  pub legal : is_legal_from g (singles g) s events ≡ true
  pub ends : state_from g (singles g) s events ≡ t
  pub world : t.world ≡ s.world
  pub sent : t.sent ≡ s.sent
  pub arrived : t.arrived ≡ s.arrived
  pub printed : t.printed ≡ s.printed
  pub fault : t.fault ≡ s.fault
  pub old : (i b k : ℕ) → has_run s i b k ≡ true → has_run t i b k ≡ true
  pub new : (i b k : ℕ) → has_run t i b k ≡ true → (has_run s i b k ≡ true) ⊎ IsDue g s.world i b k
  pub due : (i b k : ℕ) → In (i, b, k) places → IsDue g s.world i b k → has_run t i b k ≡ true

-- a place is due, or it isn't
is-due : (g : Graph) (w : World) (i b k : ℕ) → IsThere w i → IsDue g w i b k ⊎ (IsDue g w i b k → ⊥)
is-due g w i b k there = found (slice_get (vertices_in (its_code g w i) b) k) refl
  where
    at : (v : Vertex) → slice_get (vertices_in (its_code g w i) b) k ≡ Some v → IsDue g w i b k
        → (v.inlet ≡ true) × (has_entered w i b ≡ true) × (has_word w i v.node ≡ true)
    at v e d =
        let q : d.inlet.vertex ≡ v = one (sym d.inlet.stands ∙ e) in (
          ap (λ (u : Vertex). u.inlet) (sym q) ∙ d.inlet.inlet,
          d.entered,
          subst (λ y. has_word w i y ≡ true) (sym d.inlet.of_node ∙ ap (λ (u : Vertex). u.node) q) d.word,
        )
      where
        one : {a c : Vertex} → Some a ≡ Some c → a ≡ c
        one p = cc

    go : (v : Vertex) → slice_get (vertices_in (its_code g w i) b) k ≡ Some v → (x : Bool) → v.inlet ≡ x → (y : Bool) → has_entered w i b ≡ y
        → (z : Bool) → has_word w i v.node ≡ z → IsDue g w i b k ⊎ (IsDue g w i b k → ⊥)
    go v e true p true q true r = inl
        (record { act = there; node = v.node; inlet = record { vertex = v; stands = e; of_node = refl; inlet = p }; entered = q; word = r })
    go v e false p y q z r = inr (λ d. true≢false (sym (at v e d).0 ∙ p))
    go v e true p false q z r = inr (λ d. true≢false (sym (at v e d).1 ∙ q))
    go v e true p true q false r = inr (λ d. true≢false (sym (at v e d).2 ∙ r))

    found : (o : Option Vertex) → slice_get (vertices_in (its_code g w i) b) k ≡ o → IsDue g w i b k ⊎ (IsDue g w i b k → ⊥)
    found None e = inr (λ d. none (sym e ∙ d.inlet.stands))
      where
        none : {a : Vertex} → None ≡ Some a → ⊥
        none p = cc
    found (Some v) e = go v e v.inlet refl (has_entered w i b) refl (has_word w i v.node) refl

-- nothing is left to run
caught-none : (g : Graph) (s : State) → CaughtUp g s s []
caught-none g s = record {
  events = [];
  legal = refl;
  ends = refl;
  world = refl;
  sent = refl;
  arrived = refl;
  printed = refl;
  fault = refl;
  old = λ i b k h. h;
  new = λ i b k h. inl h;
  due = λ i b k h d. absurd h;
}

-- one place more that isn't due or has run
caught-skip : (g : Graph) (s t : State) (p : ℕ × ℕ × ℕ) (ps : List (ℕ × ℕ × ℕ)) → (IsDue g s.world p.0 p.1 p.2 → has_run s p.0 p.1 p.2 ≡ true)
    → CaughtUp g s t ps → CaughtUp g s t (p ∷ ps)
caught-skip g s t p ps h r = record {
  events = r.events;
  legal = r.legal;
  ends = r.ends;
  world = r.world;
  sent = r.sent;
  arrived = r.arrived;
  printed = r.printed;
  fault = r.fault;
  old = r.old;
  new = r.new;
  due = λ i b k m d. go i b k m d;
}
  where
    go : (i b k : ℕ) → In (i, b, k) (p ∷ ps) → IsDue g s.world i b k → has_run t i b k ≡ true
    go i b k (inl e) d = r.old i b k (subst (λ (q : ℕ × ℕ × ℕ). IsDue g s.world q.0 q.1 q.2 → has_run s q.0 q.1 q.2 ≡ true) e h d)
    go i b k (inr m) d = r.due i b k m d

-- one place more that is due and runs
caught-run : (g : Graph) (s t : State) (i b k : ℕ) (ps : List (ℕ × ℕ × ℕ)) → s.fault ≡ None → Placed g s.world → has_run s i b k ≡ false
    → IsDue g s.world i b k
    → CaughtUp g (with_run s i b k) t ps → CaughtUp g s t ((i, b, k) ∷ ps)
caught-run g s t i b k ps whole placed fresh d r = record {
  events = Run i b k ∷ r.events;
  legal = legal;
  ends = ap (λ u. state_from g (singles g) u r.events) (run-due g s placed i b k d) ∙ r.ends;
  world = r.world;
  sent = r.sent;
  arrived = r.arrived;
  printed = r.printed;
  fault = r.fault;
  old = λ j c l h. r.old j c l (ran-old s i b k j c l h);
  new = λ j c l h. new j c l (r.new j c l h);
  due = λ j c l m e. due j c l m e;
}
  where
    may : may_follow g (singles g) s (Run i b k) ≡ true
    may =
        let m = may_run-inlet g s i b (record {
          act = d.act;
          code = placed.codes i d.act;
          block = placed.blocks i b d.act d.entered;
        }) k d.node d.inlet fresh d.entered d.word in
        true-both (is_none s.fault) (may_run g (singles g) s i b k) (ap (λ (o : Option Fault). is_none o) whole) m

    legal : is_legal_from g (singles g) s (Run i b k ∷ r.events) ≡ true
    legal = rw (is_legal_from, may) (ap (λ u. is_legal_from g (singles g) u r.events) (run-due g s placed i b k d) ∙ r.legal)

    new : (j c l : ℕ) → (has_run (with_run s i b k) j c l ≡ true) ⊎ IsDue g s.world j c l → (has_run s j c l ≡ true) ⊎ IsDue g s.world j c l
    new j c l (inl h) = elim (ran-new s i b k j c l h) [
      | inl a ↦ inl a
      | inr e ↦ inr (subst (λ (q : ℕ × ℕ × ℕ). IsDue g s.world q.0 q.1 q.2) (three e.0 e.1 e.2) d)
    ]
      where
        three : {x y z u v w : ℕ} → x ≡ u → y ≡ v → z ≡ w → ◌≡◌ {A = ℕ × ℕ × ℕ} (x, y, z) (u, v, w)
        three p q o = cc
    new j c l (inr e) = inr e

    due : (j c l : ℕ) → In (j, c, l) ((i, b, k) ∷ ps) → IsDue g s.world j c l → has_run t j c l ≡ true
    due j c l (inl e) h = subst (λ (q : ℕ × ℕ × ℕ). has_run t q.0 q.1 q.2 ≡ true) e (r.old i b k (ran-here s i b k))
    due j c l (inr m) h = r.due j c l m h

-- all places of a list
catch-up : (g : Graph) (s : State) (ps : List (ℕ × ℕ × ℕ)) → s.fault ≡ None → Placed g s.world → ((p : ℕ × ℕ × ℕ) → In p ps → IsThere s.world p.0)
    → (t : State) × CaughtUp g s t ps
catch-up g s [] whole placed there = (s, caught-none g s)
catch-up g s (p ∷ ps) whole placed there =
    go (is-due g s.world p.0 p.1 p.2 (there p (inl refl))) (has_run s p.0 p.1 p.2) refl (catch-up g s ps whole placed (λ q m. there q (inr m)))
    (catch-up g (with_run s p.0 p.1 p.2) ps whole placed (λ q m. there q (inr m)))
  where
    go : IsDue g s.world p.0 p.1 p.2 ⊎ (IsDue g s.world p.0 p.1 p.2 → ⊥) → (x : Bool) → has_run s p.0 p.1 p.2 ≡ x → (t : State) × CaughtUp g s t ps
        → (t : State) × CaughtUp g (with_run s p.0 p.1 p.2) t ps → (t : State) × CaughtUp g s t (p ∷ ps)
    go (inr n) x e r u = (r.0, caught-skip g s r.0 p ps (λ d. absurd (n d)) r.1)
    go (inl d) true e r u = (r.0, caught-skip g s r.0 p ps (λ _. e) r.1)
    go (inl d) false e r u = (u.0, caught-run g s u.0 p.0 p.1 p.2 ps whole placed e d u.1)

-- the places of all blocks of all activations
abbrev all_places : Graph → World → List (ℕ × ℕ × ℕ)
all_places g w =
    flat_map (λ i. flat_map (λ b. map (λ k. (i, b, k)) (below (length (vertices_in (its_code g w i) b)))) (below (length (its_code g w i).owners)))
    (below (length w.activations))

-- s goes on to a state in which each inlet that is due has run
pub all-caught : (g : Graph) (s : State) → s.fault ≡ None → Placed g s.world
    → (t : State) × CaughtUp g s t (all_places g s.world) × ((i b k : ℕ) → IsDue g s.world i b k → has_run t i b k ≡ true)
all-caught g s whole placed =
    let r = catch-up g s (all_places g s.world) whole placed there in
    (r.0, r.1, λ i b k d. r.1.due i b k (place-in i b k d) d)
  where
    blocks : ℕ → List (ℕ × ℕ × ℕ)
    blocks i = flat_map (λ b. map (λ k. (i, b, k)) (below (length (vertices_in (its_code g s.world i) b)))) (below (length (its_code g s.world i).owners))

    there : (p : ℕ × ℕ × ℕ) → In p (all_places g s.world) → IsThere s.world p.0
    there p h =
        let r = in-flat_map blocks p (below (length s.world.activations)) h in
        let q = in-flat_map (λ b. map (λ k. (r.0, b, k)) (below (length (vertices_in (its_code g s.world r.0) b)))) p
        (below (length (its_code g s.world r.0).owners)) r.2 in
        let o = in-map (λ k. (r.0, q.0, k)) p (below (length (vertices_in (its_code g s.world r.0) q.0))) q.2 in
        subst (λ (z : ℕ × ℕ × ℕ). IsThere s.world z.0) o.2 (in-below r.0 (length s.world.activations) r.1)

    place-in : (i b k : ℕ) → IsDue g s.world i b k → In (i, b, k) (all_places g s.world)
    place-in i b k d =
        flat_map-in blocks i (i, b, k) (below (length s.world.activations)) (below-in i (length s.world.activations) d.act)
        (flat_map-in (λ c. map (λ l. (i, c, l)) (below (length (vertices_in (its_code g s.world i) c)))) b (i, b, k)
        (below (length (its_code g s.world i).owners))
        (below-in b (length (its_code g s.world i).owners) (placed.blocks i b d.act d.entered))
        (map-in (λ l. (i, b, l)) k (below (length (vertices_in (its_code g s.world i) b)))
        (below-in k (length (vertices_in (its_code g s.world i) b))
        (slice_get_within (vertices_in (its_code g s.world i) b) k d.inlet.vertex d.inlet.stands))))
