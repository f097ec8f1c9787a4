-- What each firing of a run keeps the whole run keeps; a node that fires in a run hadn't fired, and has fired after it.
use Rattle.std.proofs.Common.{◌≡◌, ℕ, ◌<◌, Bool, true, false, ◌==◌, ◌&&◌, List, [], ◌∷◌, ◌++◌, length, refl, sym, ◌∙◌, subst, inl, inr, ⊎_elim, true≢false}
use Rattle.std.specs.List.{AllByRecursion}
use Rattle.tam_word.specs.Lists.{any_of}
use Rattle.tam_word.proofs.Each.{all-more, each-in}
use Rattle.tam_word.proofs.Members.{In}
use Rattle.tam_word.proofs.Tests.{true-both, self-eq}
use Rattle.tam_graph.specs.Graphs.{Graph, code_of, block_at}
use Rattle.tam_graph.specs.Accepted.{IsAccepted}
use Rattle.tam_split.specs.Blocks.{BlockGraph, block_graph, vertex_at}
use Rattle.tam_split.specs.Partitions.{class_at}
use Rattle.tam_split.specs.GraphPartitions.{Partitions, parts_of, are_valid, firing_order}
use Rattle.tam_fire.specs.FiringRules.{Entered, Holds}
use Rattle.tam_world.specs.Worlds.{World, Effect, activation_at, its_code, fired}
use Rattle.tam_flow.specs.Journals.{State, Run, fire_each, has_run, class_fired, block_of_act, parts_of_act, after_event}
use Rattle.tam_flow.specs.Told.{path_of}
use Rattle.tam_flow.specs.Reached.{IsThere}
use Rattle.tam_flow.proofs.Growing.{grows-same}
use Rattle.tam_flow.proofs.Deliveries.{IsSoundEffect}
use Rattle.tam_flow.proofs.FiringReasons.{MayFire}
use Rattle.tam_flow.proofs.ActivationCounts.{size, size-each, then_one}
use Rattle.tam_flow.proofs.ClassRuns.{IsReady, sound-one, order-each}
use Rattle.tam_flow.proofs.Pairs.{NoTwice}
use Rattle.tam_flow.proofs.Acyclic.{order-distinct, block-acyclic}
use Rattle.tam_flow.proofs.SoundStates.{IsSoundState, IsRunnable, run-block, run-within, order-ready, run-effect}
use Rattle.tam_flow.proofs.Senders.{done_after, done-in}
use Rattle.tam_flow.proofs.SentOnce.{HasFired, IsOnceState, one-class}

-- what differs from each element is none
not-among : (y : ℕ) (ys : List ℕ) (z : ℕ) → AllByRecursion (λ x. y ≡ x → ⊥) ys → z ≡ y → In z ys → ⊥
not-among y [] z h e k = k
not-among y (x ∷ xs) z h e (inl d) = h.0 (sym e ∙ sym d)
not-among y (x ∷ xs) z h e (inr k) = not-among y xs z h.1 e k

-- each element of a list is in it
among : (xs : List ℕ) → AllByRecursion (λ z. In z xs) xs
among [] = tt
among (x ∷ xs) = (inl refl, all-more (λ z. In z xs) (λ z. In z (x ∷ xs)) (λ z k. inr k) xs (among xs))

module _ (g : Graph) (args : List ℕ) (accepted : IsAccepted g) (w : World) (i : ℕ) (there : IsThere w i) (b : BlockGraph)
    (P : List ℕ → Effect → Type 0) where
  -- what is asked of one firing: it keeps the property, with its place among those done
  pub record KeptByFirings : Type 0 where
    pub skips : (done : List ℕ) (e : Effect) (y : ℕ) → P done e → (vertex_at b y).inlet ≡ true → P (y ∷ done) e
    pub fires : (done : List ℕ) (e : Effect) (y : ℕ) → IsSoundEffect g args w e → size e.world ≡ size w → P done e
        → MayFire g args e.world i (vertex_at b y).node → y < length b.vertices → (vertex_at b y).inlet ≡ false → (In y done → ⊥)
        → P (y ∷ done) (record { world = (fired g e.world i (vertex_at b y).node).world; sends = e.sends ++ (fired g e.world i (vertex_at b y).node).sends })

  module _ (kept : KeptByFirings) where
    -- so one more vertex keeps it
    one-kept : (done : List ℕ) (e : Effect) (y : ℕ) → IsSoundEffect g args w e → size e.world ≡ size w → P done e → IsReady g args accepted w i there b y
        → y < length b.vertices → (In y done → ⊥) → P (y ∷ done) (then_one g b i e y)
    one-kept done e y sound same h ready l new = go (vertex_at b y).inlet refl
      where
        go : (t : Bool) → (vertex_at b y).inlet ≡ t → P (y ∷ done) (then_one g b i e y)
        go true d = rw (then_one, d) (kept.skips done e y h d)
        go false d =
            let code : (activation_at e.world i).code ≡ (activation_at w i).code = sound.grows.code i there in
            let inside = subst (λ n. (vertex_at b y).node < length (code_of g n).nodes) (sym code) (ready d).0 in
            let opened = subst (λ n. Holds g args (Entered (path_of e.world i) (block_at (code_of g n) (vertex_at b y).node))) (sym code)
            (subst (λ q. Holds g args (Entered q (block_at (its_code g w i) (vertex_at b y).node))) (sym (sound.grows.path i there)) (ready d).1) in
            let firer : MayFire g args e.world i (vertex_at b y).node = record {
              stands = record { accepted = accepted; sound = sound.world; there = sound.grows.there i there };
              inside = inside;
              open_block = opened;
            } in
            rw (then_one, d) (kept.fires done e y sound same h firer l d new)

    -- and so do several in turn
    pub each-kept : (ys done : List ℕ) (e : Effect) → IsSoundEffect g args w e → size e.world ≡ size w → P done e
        → AllByRecursion (IsReady g args accepted w i there b) ys → AllByRecursion (λ y. y < length b.vertices) ys → NoTwice ys
        → ((z : ℕ) → In z done → In z ys → ⊥) → P (done_after done ys) (fire_each g b i e ys)
    each-kept [] done e sound same h ready within once fresh = h
    each-kept (y ∷ ys) done e sound same h ready within once fresh =
        each-kept ys (y ∷ done) (then_one g b i e y) (sound-one g args accepted w i there b e y sound ready.0) (size-each g b i e (y ∷ []) ∙ same)
        (one-kept done e y sound same h ready.0 within.0 (λ k. fresh y k (inl refl)))
        ready.1 within.1 once.1 (λ z k m. ⊎_elim (λ d. not-among y ys z once.0 (sym d) m) (λ d. fresh z d (inr m)) k)

-- the places that fire in a run, the last in front
abbrev pub run_done : Graph → Partitions → State → ℕ → ℕ → ℕ → List ℕ
run_done g all s i b c = done_after [] (firing_order (block_of_act g s i b).edges (class_at (parts_of_act g all s i b) c))

module _ (g : Graph) (args : List ℕ) (accepted : IsAccepted g) (all : Partitions) (valid : are_valid g all ≡ true) (s : State)
    (sound : IsSoundState g args s) (once : IsOnceState g args all s) (i b c : ℕ) (run : IsRunnable g all s i b c) where
  -- what each firing keeps the run keeps
  pub run-kept : (P : List ℕ → Effect → Type 0) → KeptByFirings g args accepted s.world i run.there (block_of_act g s i b) P
      → P [] (record { world = s.world; sends = [] }) → P (run_done g all s i b c) (class_fired g all s i b c)
  run-kept P kept h =
      each-kept g args accepted s.world i run.there (block_of_act g s i b) P kept
      (firing_order (block_of_act g s i b).edges (class_at (parts_of_act g all s i b) c)) [] (record { world = s.world; sends = [] })
      (record { world = sound.world; grows = grows-same s.world; sends = tt }) refl h
      (order-ready g args accepted all s i b c valid sound run)
      (order-each (λ y. y < length (block_of_act g s i b).vertices) (block_of_act g s i b).edges (class_at (parts_of_act g all s i b) c)
      (run-within g args accepted all s i b c valid sound run))
      (order-distinct (block_of_act g s i b).edges (block-acyclic g accepted (activation_at s.world i).code b (sound.world.codes i run.there))
      (class_at (parts_of_act g all s i b) c)) (λ z k m. k)

  -- a run takes no activation away and begins none
  pub run-size : size (class_fired g all s i b c).world ≡ size s.world
  run-size = size-each g (block_of_act g s i b) i (record { world = s.world; sends = [] })
      (firing_order (block_of_act g s i b).edges (class_at (parts_of_act g all s i b) c))

  -- what had run has run
  pub run-more : (j d e : ℕ) → has_run s j d e ≡ true → has_run (after_event g all s (Run i b c)) j d e ≡ true
  run-more j d e h = go ((i == j) && ((b == d) && (c == e))) refl
    where
      go : (t : Bool) → ((i == j) && ((b == d) && (c == e))) ≡ t → has_run (after_event g all s (Run i b c)) j d e ≡ true
      go true k = rw (any_of, k) refl
      go false k = rw (any_of, k) h

  -- and the class that runs
  run-now : has_run (after_event g all s (Run i b c)) i b c ≡ true
  run-now = let k : ((i == i) && ((b == b) && (c == c))) ≡ true = true-both (i == i) ((b == b) && (c == c)) (self-eq i)
      (true-both (b == b) (c == c) (self-eq b) (self-eq c)) in rw (any_of, k) refl

  -- what fires is of the class
  done-class : (y : ℕ) → In y (run_done g all s i b c) → In y (class_at (parts_of_act g all s i b) c)
  done-class y h =
      let class : List ℕ = class_at (parts_of_act g all s i b) c in
      let each = order-each (λ z. In z class) (block_of_act g s i b).edges class (among class) in
      ⊎_elim (λ k. absurd k) (λ k. each-in (λ z. In z class) (firing_order (block_of_act g s i b).edges class) y each k)
      (done-in [] (firing_order (block_of_act g s i b).edges class) y h)

  -- a node that fires in the run has fired after it
  pub fires-now : (y : ℕ) → In y (run_done g all s i b c) → y < length (block_of_act g s i b).vertices → (vertex_at (block_of_act g s i b) y).inlet ≡ false
      → HasFired g all (after_event g all s (Run i b c)) i (vertex_at (block_of_act g s i b) y).node
  fires-now y h l none = record {
    there = effect.grows.there i run.there;
    code = (activation_at s.world i).code;
    block = b;
    class = c;
    place = y;
    is_code = sym (effect.grows.code i run.there);
    ran = run-now;
    inside = done-class y h;
    within = l;
    no_inlet = none;
    node = refl;
  }
    where
      effect : IsSoundEffect g args s.world (class_fired g all s i b c)
      effect = run-effect g args accepted all s i b c valid sound run

  -- and hadn't fired before
  pub fires-first : (y : ℕ) → In y (run_done g all s i b c) → y < length (block_of_act g s i b).vertices → (vertex_at (block_of_act g s i b) y).inlet ≡ false
      → HasFired g all s i (vertex_at (block_of_act g s i b) y).node → ⊥
  fires-first y h l none f =
      let both = one-class g args accepted all valid (activation_at s.world i).code b c f.block f.class f.place y
      (sound.world.codes i run.there) (run-block g args accepted all s i b c valid sound run)
      (subst (λ n. f.place < length (block_graph (code_of g n) f.block).vertices) f.is_code f.within) l
      (subst (λ n. (vertex_at (block_graph (code_of g n) f.block) f.place).inlet ≡ false) f.is_code f.no_inlet) none
      (subst (λ n. (vertex_at (block_graph (code_of g n) f.block) f.place).node ≡ (vertex_at (block_of_act g s i b) y).node) f.is_code f.node)
      (subst (λ n. In f.place (class_at (parts_of all n f.block) f.class)) f.is_code f.inside) (done-class y h) in
      true≢false (sym (subst (λ m. has_run s i m c ≡ true) both.0 (subst (λ m. has_run s i f.block m ≡ true) both.1 f.ran)) ∙ run.once)
