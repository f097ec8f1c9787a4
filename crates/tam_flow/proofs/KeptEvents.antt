-- The run of a class leaves a state that keeps firings, messages and words.
use Rattle.std.proofs.Common.{◌≡◌, ℕ, ◌<◌, Bool, true, false, ◌==◌, ◌&&◌, List, [], ◌∷◌, ◌++◌, length, slice_get, Some, refl, sym, ap, ◌∙◌, subst}
use Rattle.std.proofs.Common.{inl, inr, ◌⊎◌, ⊎_elim}
use Rattle.std.specs.List.{AllByRecursion}
use Rattle.std.proofs.lemmas.List.{append-nil}
use Rattle.tam_word.specs.Lists.{any_of}
use Rattle.tam_msgs.specs.declared.message.Message.{Message}
use Rattle.tam_graph.specs.Graphs.{Graph, code_of}
use Rattle.tam_graph.specs.Accepted.{IsAccepted}
use Rattle.tam_split.specs.Blocks.{block_graph, vertex_at}
use Rattle.tam_split.specs.Partitions.{class_at}
use Rattle.tam_split.specs.GraphPartitions.{Partitions, parts_of, are_valid, firing_order}
use Rattle.tam_word.proofs.Tests.{number-eq, self-eq, true-both, and-left, and-right}
use Rattle.tam_word.proofs.Members.{In, all-in, in-has, has-in}
use Rattle.tam_word.proofs.Each.{all-more, each-in, in-each, get-left}
use Rattle.tam_world.specs.Worlds.{Effect, activation_at, its_code, has_word}
use Rattle.tam_flow.specs.Journals.{State, Run, fire_each, class_fired, has_run, block_of_act, parts_of_act, after_event}
use Rattle.tam_flow.specs.Reached.{IsThere, HasArrived, HasSome}
use Rattle.tam_flow.proofs.ActivationCounts.{then_one}
use Rattle.tam_flow.proofs.ActivationLists.{has-word}
use Rattle.tam_flow.proofs.Acyclic.{IsAcyclic, order-all, order-distinct, block-acyclic}
use Rattle.tam_flow.proofs.ClassRuns.{IsReady, sound-one, order-each}
use Rattle.tam_flow.proofs.Deliveries.{IsSoundEffect, some-below}
use Rattle.tam_flow.proofs.FiringOrder.{IsOrdered, order-ordered}
use Rattle.tam_flow.proofs.Growing.{grows-same}
use Rattle.tam_flow.proofs.Pairs.{NoTwice}
use Rattle.tam_flow.proofs.Senders.{done_after, done-in}
use Rattle.tam_flow.proofs.SentOnce.{HasFired}
use Rattle.tam_flow.proofs.SoundStates.{IsSoundState, IsRunnable, order-ready, run-within}
use Rattle.tam_flow.proofs.Onward.{Onward, onward-same}
use Rattle.tam_flow.proofs.Kept.{kept-same, wish-same}
use Rattle.tam_flow.proofs.KeptRuns.{IsTagged, IsOfFiring, IsKeptState, IsKeptRun, FiredWith, kept-one}

-- what is done stays done, and what is taken in turn is done
in-done : (done ys : List ℕ) (z : ℕ) → In z done ⊎ In z ys → In z (done_after done ys)
in-done done [] z (inl h) = h
in-done done [] z (inr h) = absurd h
in-done done (y ∷ ys) z (inl h) = in-done (y ∷ done) ys z (inl (inr h))
in-done done (y ∷ ys) z (inr (inl e)) = in-done (y ∷ done) ys z (inl (inl e))
in-done done (y ∷ ys) z (inr (inr h)) = in-done (y ∷ done) ys z (inr h)

-- what differs from each element of a list isn't in it
none-twice : (y z : ℕ) (ys : List ℕ) → AllByRecursion (λ x. y ≡ x → ⊥) ys → y ≡ z → In z ys → ⊥
none-twice y z ys h e m = each-in (λ x. y ≡ x → ⊥) ys z h m e

module _ (g : Graph) (args : List ℕ) (accepted : IsAccepted g) (all : Partitions) (valid : are_valid g all ≡ true) (s : State) (sound : IsSoundState g args s)
    (state : IsKeptState g all s) (i b c : ℕ) (run : IsRunnable g all s i b c) where
  -- the run so far
  abbrev KeptRun : List ℕ → Effect → Type 0
  KeptRun done e = IsKeptRun g args accepted all valid s sound state i b c run done e

  -- the class
  abbrev the_class : List ℕ
  the_class = class_at (parts_of_act g all s i b) c

  -- the places in order
  abbrev the_order : List ℕ
  the_order = firing_order (block_of_act g s i b).edges (class_at (parts_of_act g all s i b) c)

  -- several places in turn
  kept-each : (ys done : List ℕ) (e : Effect) → KeptRun done e → IsSoundEffect g args s.world e
      → AllByRecursion (IsReady g args accepted s.world i run.there (block_of_act g s i b)) ys
      → AllByRecursion (λ y. In y the_class) ys → AllByRecursion (λ y. y < length (block_of_act g s i b).vertices) ys → NoTwice ys
      → ((z : ℕ) → In z done → In z ys → ⊥) → ((z : ℕ) → In z done → z < length (block_of_act g s i b).vertices)
      → IsOrdered (block_of_act g s i b).edges the_class done ys → KeptRun (done_after done ys) (fire_each g (block_of_act g s i b) i e ys)
  kept-each [] done e kept effect ready inside within once fresh places order = kept
  kept-each (y ∷ ys) done e kept effect ready inside within once fresh places order =
      kept-each ys (y ∷ done) (then_one g (block_of_act g s i b) i e y)
      (kept-one g args accepted all valid s sound state i b c run done e kept y inside.0 within.0 order.0 (λ j t o. (effect.world.callers j t o).0)
      (λ m. fresh y m (inl refl)) places)
      (sound-one g args accepted s.world i run.there (block_of_act g s i b) e y effect ready.0) ready.1 inside.1 within.1 once.1
      (λ z m k. ⊎_elim (λ p. none-twice y z ys once.0 p k) (λ p. fresh z p (inr k)) m)
      (λ z m. ⊎_elim (λ p. subst (λ n. n < length (block_of_act g s i b).vertices) p within.0) (λ p. places z p) m) order.1

  -- each place in order is of the class
  order-inside : AllByRecursion (λ y. In y the_class) the_order
  order-inside = order-each (λ y. In y the_class) (block_of_act g s i b).edges the_class (in-each (λ y. In y the_class) the_class (λ x m. m))

  -- so it is at the end of the run
  pub kept-all : KeptRun (done_after [] the_order) (class_fired g all s i b c)
  kept-all =
      kept-each the_order [] (record { world = s.world; sends = [] })
      (record {
        on = onward-same s.world;
        tags = state.tags;
        same = state.same ∙ sym (append-nil s.sent);
        of_firings = all-more (IsOfFiring g s.world (HasFired g all s)) (IsOfFiring g s.world (FiredWith g args accepted all valid s sound state i b c run []))
            (λ t h k. wish-same g s.world (HasFired g all s) (FiredWith g args accepted all valid s sound state i b c run []) (λ j z h. inl h)
            t.0 t.1 t.2 (h k))
            state.tags state.of_firings;
        apart = state.apart;
        kept = kept-same g s.world (HasFired g all s) (FiredWith g args accepted all valid s sound state i b c run []) (IsTagged state.tags)
            (IsTagged state.tags) (HasArrived s) (HasArrived s) (λ j z h. inl h) (λ j z h. none j z h) (λ j z m h. h) (λ m h. h) state.kept;
      })
      (record { world = sound.world; grows = grows-same s.world; sends = tt })
      (order-ready g args accepted all s i b c valid sound run) order-inside
      (order-each (λ y. y < length (block_of_act g s i b).vertices) (block_of_act g s i b).edges the_class
      (run-within g args accepted all s i b c valid sound run))
      (order-distinct (block_of_act g s i b).edges acyclic the_class) (λ z h k. h) (λ z h. absurd h)
      (order-ordered (block_of_act g s i b).edges the_class acyclic)
    where
      acyclic : IsAcyclic (block_of_act g s i b).edges
      acyclic = block-acyclic g accepted (activation_at s.world i).code b (sound.world.codes i run.there)

      none : (j z : ℕ) → FiredWith g args accepted all valid s sound state i b c run [] j z → HasFired g all s j z
      none j z (inl h) = h
      none j z (inr h) = absurd h.1.1

  -- the state behind it
  abbrev after : State
  after = after_event g all s (Run i b c)

  -- what the run keeps of the state's world
  pub run-onward : Onward s.world (class_fired g all s i b c).world
  run-onward = kept-all.on

  -- which class has run
  ran-cases : (j d e : ℕ) → has_run after j d e ≡ true → (has_run s j d e ≡ true) ⊎ ((i ≡ j) × (b ≡ d) × (c ≡ e))
  ran-cases j d e h = go ((i == j) && ((b == d) && (c == e))) refl
    where
      go : (t : Bool) → ((i == j) && ((b == d) && (c == e))) ≡ t → (has_run s j d e ≡ true) ⊎ ((i ≡ j) × (b ≡ d) × (c ≡ e))
      go true p = inr (
        number-eq i j (and-left (i == j) ((b == d) && (c == e)) p),
        number-eq b d (and-left (b == d) (c == e) (and-right (i == j) ((b == d) && (c == e)) p)),
        number-eq c e (and-right (b == d) (c == e) (and-right (i == j) ((b == d) && (c == e)) p)),
      )
      go false p = inl (rw (any_of, p) at h)

  -- what had run still has
  ran-still : (j d e : ℕ) → has_run s j d e ≡ true → has_run after j d e ≡ true
  ran-still j d e h = go ((i == j) && ((b == d) && (c == e))) refl
    where
      go : (t : Bool) → ((i == j) && ((b == d) && (c == e))) ≡ t → has_run after j d e ≡ true
      go true p = rw (any_of, p) refl
      go false p = rw (any_of, p) h

  -- and the class that runs has
  ran-now : has_run after i b c ≡ true
  ran-now =
      let p = true-both (i == i) ((b == b) && (c == c)) (self-eq i) (true-both (b == b) (c == c) (self-eq b) (self-eq c)) in
      rw (any_of, p) refl

  -- a run is of an activation that is there
  ran-there : (j d e : ℕ) → has_run s j d e ≡ true → IsThere s.world j
  ran-there j d e h = (sound.ran j d e h).0

  -- what has fired behind the run had fired, or is of its places
  fired-with : (j z : ℕ) → HasFired g all after j z → FiredWith g args accepted all valid s sound state i b c run (done_after [] the_order) j z
  fired-with j z h = go (ran-cases j h.block h.class h.ran)
    where
      old : has_run s j h.block h.class ≡ true → HasFired g all s j z
      old k = record {
        there = ran-there j h.block h.class k;
        code = h.code;
        block = h.block;
        class = h.class;
        place = h.place;
        is_code = h.is_code ∙ run-onward.code j (ran-there j h.block h.class k);
        ran = k;
        inside = h.inside;
        within = h.within;
        no_inlet = h.no_inlet;
        node = h.node;
      }

      new : i ≡ j → b ≡ h.block → c ≡ h.class → FiredWith g args accepted all valid s sound state i b c run (done_after [] the_order) j z
      new p q r =
          let code : h.code ≡ (activation_at s.world i).code =
          h.is_code ∙ (ap (λ m. (activation_at (class_fired g all s i b c).world m).code) (sym p) ∙ run-onward.code i run.there) in
          let inside : In h.place the_class = subst (λ m. In h.place (class_at (parts_of all (activation_at s.world i).code m) c)) (sym q)
          (subst (λ m. In h.place (class_at (parts_of all (activation_at s.world i).code h.block) m)) (sym r)
          (subst (λ m. In h.place (class_at (parts_of all m h.block) h.class)) code h.inside)) in
          inr (
            sym p,
            (
              h.place,
              in-done [] the_order h.place
                  (inr (has-in the_order h.place (order-all (block_of_act g s i b).edges the_class h.place (in-has the_class h.place inside)))),
              subst (λ m. (vertex_at (block_graph (its_code g s.world i) m) h.place).inlet ≡ false) (sym q)
                  (subst (λ m. (vertex_at (block_graph (code_of g m) h.block) h.place).inlet ≡ false) code h.no_inlet),
              subst (λ m. (vertex_at (block_graph (its_code g s.world i) m) h.place).node ≡ z) (sym q)
                  (subst (λ m. (vertex_at (block_graph (code_of g m) h.block) h.place).node ≡ z) code h.node),
            ),
          )

      go : (has_run s j h.block h.class ≡ true) ⊎ ((i ≡ j) × (b ≡ h.block) × (c ≡ h.class))
          → FiredWith g args accepted all valid s sound state i b c run (done_after [] the_order) j z
      go (inl k) = inl (old k)
      go (inr k) = new k.0 k.1 k.2

  -- and the other way round
  with-fired : (j z : ℕ) → FiredWith g args accepted all valid s sound state i b c run (done_after [] the_order) j z → HasFired g all after j z
  with-fired j z (inl h) = record {
    there = run-onward.there j h.there;
    code = h.code;
    block = h.block;
    class = h.class;
    place = h.place;
    is_code = h.is_code ∙ sym (run-onward.code j h.there);
    ran = ran-still j h.block h.class h.ran;
    inside = h.inside;
    within = h.within;
    no_inlet = h.no_inlet;
    node = h.node;
  }
  with-fired j z (inr h) = subst (λ m. HasFired g all after m z) (sym h.0) (record {
    there = run-onward.there i run.there;
    code = (activation_at s.world i).code;
    block = b;
    class = c;
    place = h.1.0;
    is_code = sym (run-onward.code i run.there);
    ran = ran-now;
    inside = place.0;
    within = place.1;
    no_inlet = h.1.2;
    node = h.1.3;
  })
    where
      place : In h.1.0 the_class × (h.1.0 < length (block_of_act g s i b).vertices)
      place = ⊎_elim (λ k. absurd k) (λ k. (
        each-in (λ y. In y the_class) the_order h.1.0 order-inside k,
        each-in (λ y. y < length (block_of_act g s i b).vertices) the_order h.1.0 (order-each (λ y. y < length (block_of_act g s i b).vertices)
            (block_of_act g s i b).edges the_class (run-within g args accepted all s i b c valid sound run)) k,
      )) (done-in [] the_order h.1.0 h.1.1)

  -- the state behind the run keeps what the state kept
  pub kept-run : IsKeptState g all after
  kept-run = record {
    tags = kept-all.tags;
    same = kept-all.same;
    of_firings = all-more (IsOfFiring g after.world (FiredWith g args accepted all valid s sound state i b c run (done_after [] the_order)))
        (IsOfFiring g after.world (HasFired g all after))
        (λ t h k. wish-same g after.world (FiredWith g args accepted all valid s sound state i b c run (done_after [] the_order)) (HasFired g all after)
        with-fired t.0 t.1 t.2 (h k)) kept-all.tags kept-all.of_firings;
    apart = kept-all.apart;
    kept = kept-same g after.world (FiredWith g args accepted all valid s sound state i b c run (done_after [] the_order)) (HasFired g all after)
        (IsTagged kept-all.tags) (IsTagged kept-all.tags) (HasArrived s) (HasArrived after) with-fired fired-with (λ j z m h. h) arrived kept-all.kept;
    inlets = λ j d e y h. ⊎_elim (λ k. old-inlet j d e y k) (λ k. new-inlet j d e y k.0 k.1 k.2) (ran-cases j d e h);
    classes = λ j d e h. ⊎_elim (λ k. subst (λ n. e < length (parts_of all n d)) (sym (run-onward.code j (ran-there j d e k))) (state.classes j d e k))
        (λ k. new-class j d e k.0 k.1 k.2) (ran-cases j d e h);
  }
    where
      still : (n : ℕ) (m : Message) → slice_get s.sent n ≡ Some m → slice_get (s.sent ++ (class_fired g all s i b c).sends) n ≡ Some m
      still n m h = get-left s.sent (class_fired g all s i b c).sends n (some-below s.sent n h) ∙ h

      arrived : (m : Message) → HasArrived s m → HasArrived after m
      arrived m h = (h.0, still h.0 m h.1, h.2)

      old-inlet : (j d e y : ℕ) → has_run s j d e ≡ true → In y (class_at (parts_of_act g all after j d) e)
          → (vertex_at (block_of_act g after j d) y).inlet ≡ true → HasSome after j (vertex_at (block_of_act g after j d) y).node
      old-inlet j d e y k = subst (λ n. In y (class_at (parts_of all n d) e) → (vertex_at (block_graph (code_of g n) d) y).inlet ≡ true
          → HasSome after j (vertex_at (block_graph (code_of g n) d) y).node) (sym (run-onward.code j (ran-there j d e k)))
          (λ m t. let h = state.inlets j d e y k m t in (h.0, run-onward.words j (vertex_at (block_of_act g s j d) y).node h.0 h.1))

      now-inlet : (y : ℕ) → In y (class_at (parts_of_act g all s i b) c) → (vertex_at (block_of_act g s i b) y).inlet ≡ true
          → HasSome after i (vertex_at (block_of_act g s i b) y).node
      now-inlet y m t = word (rw t at (all-in _ the_class run.inlets y m))
        where
          word : has_word s.world i (vertex_at (block_of_act g s i b) y).node ≡ true → HasSome after i (vertex_at (block_of_act g s i b) y).node
          word h =
              let r = has-word (activation_at s.world i).words (vertex_at (block_of_act g s i b) y).node h in
              (r.0, run-onward.words i (vertex_at (block_of_act g s i b) y).node r.0 r.1)

      new-inlet : (j d e y : ℕ) → i ≡ j → b ≡ d → c ≡ e → In y (class_at (parts_of_act g all after j d) e)
          → (vertex_at (block_of_act g after j d) y).inlet ≡ true → HasSome after j (vertex_at (block_of_act g after j d) y).node
      new-inlet j d e y p q r =
          subst (λ l. In y (class_at (parts_of_act g all after l d) e) → (vertex_at (block_of_act g after l d) y).inlet ≡ true
          → HasSome after l (vertex_at (block_of_act g after l d) y).node) p
          (subst (λ l. In y (class_at (parts_of_act g all after i l) e) → (vertex_at (block_of_act g after i l) y).inlet ≡ true
          → HasSome after i (vertex_at (block_of_act g after i l) y).node) q
          (subst (λ l. In y (class_at (parts_of_act g all after i b) l) → (vertex_at (block_of_act g after i b) y).inlet ≡ true
          → HasSome after i (vertex_at (block_of_act g after i b) y).node) r
          (subst (λ n. In y (class_at (parts_of all n b) c) → (vertex_at (block_graph (code_of g n) b) y).inlet ≡ true
          → HasSome after i (vertex_at (block_graph (code_of g n) b) y).node) (sym (run-onward.code i run.there)) (now-inlet y))))

      new-class : (j d e : ℕ) → i ≡ j → b ≡ d → c ≡ e → e < length (parts_of_act g all after j d)
      new-class j d e p q r =
          subst (λ l. e < length (parts_of_act g all after l d)) p (subst (λ l. e < length (parts_of_act g all after i l)) q
          (subst (λ l. l < length (parts_of_act g all after i b)) r (subst (λ n. c < length (parts_of all n b)) (sym (run-onward.code i run.there)) run.class)))
