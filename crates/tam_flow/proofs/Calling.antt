-- A call whose class ran has sent its wish for an activation.
use Rattle.std.proofs.Common.{◌≡◌, ℕ, ◌^◌, ◌<◌, Bool, true, false, ◌==◌, ◌&&◌, List, [], ◌∷◌, ◌++◌, Option, Some, None, is_none, length, slice_get, refl, sym}
use Rattle.std.proofs.Common.{ap, ◌∙◌, arith, subst, inl, true≢false}
use Rattle.std.specs.List.{AllByRecursion}
use Rattle.tam_word.specs.Lists.{any_of, has}
use Rattle.tam_graph.specs.declared.kind.Kind.{Kind}
use Rattle.tam_graph.specs.declared.kind.Kind.TheVariants.{Call}
use Rattle.tam_graph.specs.Graphs.{Graph, code_of, kind_at}
use Rattle.tam_graph.specs.Accepted.{IsAccepted}
use Rattle.tam_msgs.specs.declared.message.Message.{Message}
use Rattle.tam_msgs.specs.declared.message.Message.TheVariants.{Frame as Begin}
use Rattle.tam_split.specs.Blocks.{BlockGraph, block_graph, vertex_at}
use Rattle.tam_split.specs.Partitions.{class_at}
use Rattle.tam_split.specs.GraphPartitions.{Partitions, parts_of, are_valid, firing_order}
use Rattle.tam_world.specs.Worlds.{World, Effect, Delivery, Went, Printed, Faulted, delivered, activation_at, its_code, firing_of, fired}
use Rattle.tam_flow.specs.Journals.{State, Event, Run, Deliver, initial, fire_each, class_fired, has_run, block_of_act, parts_of_act, or_message}
use Rattle.tam_flow.specs.Journals.{after_delivery, deliver_all, after_event, may_run, may_follow, is_legal_from, state_from, state_after}
use Rattle.tam_flow.specs.JournalLaws.{IsJournal}
use Rattle.tam_flow.specs.Reached.{IsThere, kind_of, WasSent}
use Rattle.tam_flow.proofs.Growing.{Grows, grows-same}
use Rattle.tam_word.proofs.Tests.{and-left, and-right, number-eq}
use Rattle.tam_word.proofs.Each.{all-at_place, get-left}
use Rattle.tam_flow.proofs.Justified.{IsMessage}
use Rattle.tam_flow.proofs.Deliveries.{IsSoundEffect, IsSoundDelivery, deliver, some-below}
use Rattle.tam_flow.proofs.SoundStates.{IsSoundState, IsRunnable, runnable, run-effect, order-ready, opened, sound-event, sound-initial}
use Rattle.tam_flow.proofs.SentOnce.{HasFired}
use Rattle.tam_flow.proofs.Acyclic.{order-all}
use Rattle.tam_flow.proofs.Sending.{sent-event}
use Rattle.tam_flow.proofs.ActivationCounts.{then_one, size-from}
use Rattle.tam_flow.proofs.ClassRuns.{IsReady, sound-one}
use Rattle.tam_word.proofs.Members.{In, left-in, right-in, in-has, in-get}

-- a call that fires wishes for an activation
call-fires : (g : Graph) (w : World) (i x c : ℕ) → kind_at (its_code g w i) x ≡ Call c → In (Begin c i x) (fired g w i x).sends
call-fires g w i x c e = subst (λ l. In (Begin c i x) l) (sym sends) (inl refl)
  where
    one : (k : Kind) → k ≡ Call c → (firing_of g w i x k []).sends ≡ Begin c i x ∷ []
    one k d = subst (λ m. (firing_of g w i x m []).sends ≡ Begin c i x ∷ []) (sym d) refl

    sends : (fired g w i x).sends ≡ Begin c i x ∷ []
    sends = rw (fired, e) (one (kind_at (its_code g w i) x) e)

module _ (g : Graph) (b : BlockGraph) (i : ℕ) where
  -- what was sent stays sent
  one-keeps : (e : Effect) (y : ℕ) (m : Message) → In m e.sends → In m (then_one g b i e y).sends
  one-keeps e y m h = go (vertex_at b y).inlet refl
    where
      go : (t : Bool) → (vertex_at b y).inlet ≡ t → In m (then_one g b i e y).sends
      go true d = rw (then_one, d) h
      go false d = rw (then_one, d) (left-in m e.sends (fired g e.world i (vertex_at b y).node).sends h)

  -- what was sent stays sent as further vertices fire
  each-keeps : (e : Effect) (ys : List ℕ) (m : Message) → In m e.sends → In m (fire_each g b i e ys).sends
  each-keeps e [] m h = h
  each-keeps e (y ∷ ys) m h = each-keeps (then_one g b i e y) ys m (one-keeps e y m h)

module _ (g : Graph) (args : List ℕ) (accepted : IsAccepted g) (w : World) (i : ℕ) (there : IsThere w i) (b : BlockGraph) where
  -- a call among the vertices that fire has sent its wish
  pub call-among : (ys : List ℕ) (e : Effect) (y c : ℕ) → IsSoundEffect g args w e → AllByRecursion (IsReady g args accepted w i there b) ys → has ys y ≡ true
      → (vertex_at b y).inlet ≡ false → kind_at (its_code g w i) (vertex_at b y).node ≡ Call c
      → In (Begin c i (vertex_at b y).node) (fire_each g b i e ys).sends
  call-among [] e y c sound ready h d k = absurd (true≢false (sym h))
  call-among (z ∷ zs) e y c sound ready h d k =
      go (z == y) refl (call-among zs (then_one g b i e z) y c (sound-one g args accepted w i there b e z sound ready.0) ready.1)
    where
      now : (v : ℕ) → v ≡ y → In (Begin c i (vertex_at b y).node) (then_one g b i e v).sends
      now v p = subst (λ u. In (Begin c i (vertex_at b y).node) (then_one g b i e u).sends) (sym p) here
        where
          kind : kind_at (its_code g e.world i) (vertex_at b y).node ≡ Call c
          kind = ap (λ n. kind_at (code_of g n) (vertex_at b y).node) (sound.grows.code i there) ∙ k

          here : In (Begin c i (vertex_at b y).node) (then_one g b i e y).sends
          here = rw (then_one, d) (right-in (Begin c i (vertex_at b y).node) e.sends (fired g e.world i (vertex_at b y).node).sends
              (call-fires g e.world i (vertex_at b y).node c kind))

      go : (t : Bool) → (z == y) ≡ t
          → (has zs y ≡ true → (vertex_at b y).inlet ≡ false → kind_at (its_code g w i) (vertex_at b y).node ≡ Call c
          → In (Begin c i (vertex_at b y).node) (fire_each g b i (then_one g b i e z) zs).sends)
          → In (Begin c i (vertex_at b y).node) (fire_each g b i e (z ∷ zs)).sends
      go true p ih = each-keeps g b i (then_one g b i e z) zs (Begin c i (vertex_at b y).node) (now z (number-eq z y p))
      go false p ih = ih (rw (any_of, p) at h) d k

-- ---- in each state

module _ (g : Graph) (args : List ℕ) (accepted : IsAccepted g) (all : Partitions) where
  -- each call that fired has sent its wish
  abbrev pub CallsSent : State → Type 0
  CallsSent s = (i f c : ℕ) → HasFired g all s i f → kind_of g s.world i f ≡ Call c → WasSent s (Begin c i f)

  module _ (s : State) (sound : IsSoundState g args s) (done : CallsSent s) where
    -- where the same classes ran
    calls-later : (v : State) → Grows s.world v.world → ((n : ℕ) (m : Message) → slice_get s.sent n ≡ Some m → slice_get v.sent n ≡ Some m)
        → (i f c b d y n : ℕ) → n ≡ (activation_at v.world i).code → has_run s i b d ≡ true → In y (class_at (parts_of all n b) d)
        → y < length (block_graph (code_of g n) b).vertices → (vertex_at (block_graph (code_of g n) b) y).inlet ≡ false
        → (vertex_at (block_graph (code_of g n) b) y).node ≡ f → kind_of g v.world i f ≡ Call c → WasSent v (Begin c i f)
    calls-later v grows sent i f c b d y n code ran inside within none node kind =
        let there = (sound.ran i b d ran).0 in
        let same = grows.code i there in
        let r = done i f c (record {
          there = there;
          code = n;
          block = b;
          class = d;
          place = y;
          is_code = code ∙ same;
          ran = ran;
          inside = inside;
          within = within;
          no_inlet = none;
          node = node;
        }) (subst (λ m. kind_at (code_of g m) f ≡ Call c) same kind) in
        (r.0, sent r.0 (Begin c i f) r.1)

    -- after a run each call that fired has sent its wish
    calls-run : (i b c : ℕ) → are_valid g all ≡ true → may_run g all s i b c ≡ true → CallsSent (after_event g all s (Run i b c))
    calls-run i b c valid may j f k h kind = go ((i == j) && ((b == h.block) && (c == h.class))) refl
      where
        run : IsRunnable g all s i b c
        run = runnable g all s i b c may

        effect : IsSoundEffect g args s.world (class_fired g all s i b c)
        effect = run-effect g args accepted all s i b c valid sound run

        -- the class that runs now
        now : (y : ℕ) → In y (class_at (parts_of_act g all s i b) c) → (vertex_at (block_of_act g s i b) y).inlet ≡ false
            → kind_at (its_code g s.world i) (vertex_at (block_of_act g s i b) y).node ≡ Call k
            → WasSent (after_event g all s (Run i b c)) (Begin k i (vertex_at (block_of_act g s i b) y).node)
        now y inside none call =
            in-get (Begin k i (vertex_at (block_of_act g s i b) y).node) (s.sent ++ (class_fired g all s i b c).sends)
            (right-in (Begin k i (vertex_at (block_of_act g s i b) y).node) s.sent (class_fired g all s i b c).sends
            (call-among g args accepted s.world i run.there (block_of_act g s i b)
            (firing_order (block_of_act g s i b).edges (class_at (parts_of_act g all s i b) c))
            (record { world = s.world; sends = [] }) y k (record { world = sound.world; grows = grows-same s.world; sends = tt })
            (order-ready g args accepted all s i b c valid sound run)
            (order-all (block_of_act g s i b).edges (class_at (parts_of_act g all s i b) c) y
            (in-has (class_at (parts_of_act g all s i b) c) y inside)) none call))

        this : i ≡ j → b ≡ h.block → c ≡ h.class → WasSent (after_event g all s (Run i b c)) (Begin k j f)
        this p q r =
            let code : h.code ≡ (activation_at s.world i).code =
            h.is_code ∙ ap (λ m. (activation_at (class_fired g all s i b c).world m).code) (sym p) ∙ effect.grows.code i run.there in
            let inside : In h.place (class_at (parts_of_act g all s i b) c) =
            subst (λ m. In h.place (class_at (parts_of all (activation_at s.world i).code m) c)) (sym q)
            (subst (λ m. In h.place (class_at (parts_of all (activation_at s.world i).code h.block) m)) (sym r)
            (subst (λ m. In h.place (class_at (parts_of all m h.block) h.class)) code h.inside)) in
            let none : (vertex_at (block_of_act g s i b) h.place).inlet ≡ false =
            subst (λ m. (vertex_at (block_graph (its_code g s.world i) m) h.place).inlet ≡ false) (sym q)
            (subst (λ m. (vertex_at (block_graph (code_of g m) h.block) h.place).inlet ≡ false) code h.no_inlet) in
            let node : (vertex_at (block_of_act g s i b) h.place).node ≡ f =
            subst (λ m. (vertex_at (block_graph (its_code g s.world i) m) h.place).node ≡ f) (sym q)
            (subst (λ m. (vertex_at (block_graph (code_of g m) h.block) h.place).node ≡ f) code h.node) in
            let call : kind_at (its_code g s.world i) f ≡ Call k =
            subst (λ m. kind_at (code_of g m) f ≡ Call k) (effect.grows.code i run.there)
            (subst (λ m. kind_of g (class_fired g all s i b c).world m f ≡ Call k) (sym p) kind) in
            subst (λ m. WasSent (after_event g all s (Run i b c)) (Begin k m f)) p
            (subst (λ z. WasSent (after_event g all s (Run i b c)) (Begin k i z)) node
            (now h.place inside none (subst (λ z. kind_at (its_code g s.world i) z ≡ Call k) (sym node) call)))

        go : (t : Bool) → ((i == j) && ((b == h.block) && (c == h.class))) ≡ t → WasSent (after_event g all s (Run i b c)) (Begin k j f)
        go true e =
            this (number-eq i j (and-left (i == j) ((b == h.block) && (c == h.class)) e))
            (number-eq b h.block (and-left (b == h.block) (c == h.class) (and-right (i == j) ((b == h.block) && (c == h.class)) e)))
            (number-eq c h.class (and-right (b == h.block) (c == h.class) (and-right (i == j) ((b == h.block) && (c == h.class)) e)))
        go false e =
            calls-later (after_event g all s (Run i b c)) effect.grows (sent-event g all s (Run i b c)) j f k h.block h.class h.place h.code h.is_code
            (rw (any_of, e) at h.ran) h.inside h.within h.no_inlet h.node kind

    -- after a delivery too
    calls-delivery : (m : ℕ) (d : Delivery) → IsSoundDelivery g args s.world d → CallsSent (after_delivery s m d)
    calls-delivery m (Went e) effect i f c h kind =
        calls-later (after_delivery s m (Went e)) effect.grows
        (λ n o k. get-left s.sent e.sends n (some-below s.sent n k) ∙ k) i f c h.block h.class h.place h.code h.is_code h.ran
        h.inside h.within h.no_inlet h.node kind
    calls-delivery m (Printed p v) effect i f c h kind =
        calls-later (after_delivery s m (Printed p v)) (grows-same s.world)
        (λ n o k. k) i f c h.block h.class h.place h.code h.is_code h.ran h.inside h.within h.no_inlet h.node kind
    calls-delivery m (Faulted q) effect i f c h kind =
        calls-later (after_delivery s m (Faulted q)) (grows-same s.world)
        (λ n o k. k) i f c h.block h.class h.place h.code h.is_code h.ran h.inside h.within h.no_inlet h.node kind

    -- so after each event
    calls-event : (e : Event) → are_valid g all ≡ true → length s.world.activations < 2 ^ 32 → may_follow g all s e ≡ true → CallsSent (after_event g all s e)
    calls-event (Run i b c) valid few may = calls-run i b c valid (and-right (is_none s.fault) (may_run g all s i b c) may)
    calls-event (Deliver m) valid few may = go (slice_get s.sent m) refl
      where
        go : (o : Option Message) → slice_get s.sent m ≡ o → CallsSent (deliver_all s m (or_message o))
        go None e = done
        go (Some x) e =
            calls-delivery m (delivered s.world x)
            (deliver g args s.world sound.world few (opened g args accepted) x (all-at_place (IsMessage g args s.world) s.sent m x sound.sent e))

  -- and after each legal journal
  calls-from : (s : State) (es : List Event) → are_valid g all ≡ true → length (state_from g all s es).world.activations < 2 ^ 32 → IsSoundState g args s
      → CallsSent s
      → is_legal_from g all s es ≡ true → CallsSent (state_from g all s es)
  calls-from s [] valid few sound done legal = done
  calls-from s (e ∷ es) valid few sound done legal = go (may_follow g all s e) refl (calls-from (after_event g all s e) es valid few)
    where
      go : (t : Bool) → may_follow g all s e ≡ t
          → (IsSoundState g args (after_event g all s e) → CallsSent (after_event g all s e) → is_legal_from g all (after_event g all s e) es ≡ true
          → CallsSent (state_from g all (after_event g all s e) es)) → CallsSent (state_from g all (after_event g all s e) es)
      go true k ih =
          let n = size-from g all s (e ∷ es) in
          let small : length s.world.activations < 2 ^ 32 = omega (arith, n, few) in
          ih (sound-event g args accepted all s e valid small sound k) (calls-event s sound done e valid small k) (rw (is_legal_from, k) at legal)
      go false k ih = absurd (true≢false (sym (rw (is_legal_from, k) at legal)))

-- behind a journal each call that fired has sent its wish
pub calls-sent : (g : Graph) (all : Partitions) (args : List ℕ) (events : List Event) → IsJournal g all args events → (i f c : ℕ)
    → HasFired g all (state_after g all args events) i f
    → kind_of g (state_after g all args events).world i f ≡ Call c → WasSent (state_after g all args events) (Begin c i f)
calls-sent g all args events journal =
    calls-from g args journal.accepted all (initial g args) events journal.valid journal.few_activations (sound-initial g args journal.accepted)
    (λ i f c h kind. absurd (true≢false (sym h.ran))) journal.legal
