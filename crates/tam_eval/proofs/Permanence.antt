-- What is given back stays so, and no more activations are live than the stated count.
use Rattle.std.proofs.Common.{◌≡◌, ◌≢◌, ℕ, zero, suc, ◌+◌, ◌<◌, ◌≤◌, Bool, true, false, not, ◌==◌, List, [], ◌∷◌, ◌++◌, Option, Some, None, slice_get, length}
use Rattle.std.proofs.Common.{nat_lt, refl, sym, subst, ap, ◌∙◌, arith, tests, true≢false}
use Rattle.std.specs.Prelude.{count_by}
use Rattle.std.proofs.lemmas.List.{append-nil}
use Rattle.tam_word.specs.Lists.{below, all_of, without_place}
use Rattle.tam_word.proofs.Tests.{number-differs}
use Rattle.tam_msgs.specs.declared.message.Message.{Message}
use Rattle.tam_msgs.specs.declared.message.Message.TheVariants.{Word as Carry, Frame as Begin, Cells as Make, Fetch as Ask_cell, Store as Put_cell}
use Rattle.tam_msgs.specs.declared.limits.Limits.{Limits}
use Rattle.tam_msgs.specs.declared.item.Item.{Item}
use Rattle.tam_msgs.specs.declared.choice.Choice.{Choice}
use Rattle.tam_msgs.specs.declared.choice.Choice.TheVariants.{Quiet as Choose_quiet, Run as Choose_run, Deliver as Choose_delivery}
use Rattle.tam_msgs.specs.Messages.{outside, answers}
use Rattle.tam_msgs.specs.Runs.{choice, End, Outcome, Next, Ended, and_then, after_events}
use Rattle.tam_istr.specs.Cells.{with_array, Access, Now, Deferred, Stored, Twice, NotBelow, NoArray, fetched_from, stored_into}
use Rattle.tam_graph.specs.declared.kind.Kind.{Kind}
use Rattle.tam_graph.specs.declared.kind.Kind.TheVariants.{Const, Op as Operate, Seq, Call, Arg, Give, Alloc, Fetch, Store, Cond, Switch, Leave}
use Rattle.tam_graph.specs.Graphs.{Graph, kind_at, operands_of, block_at, node_in, chosen_branch, is_enter, owner_of}
use Rattle.tam_world.specs.Worlds.{World, ActivationState, activation_at, its_code, has_word, with_word}
use Rattle.tam_world.specs.Worlds.{got, all_got, merges_of, words_of, firing_of, fired_with, fired, accessed, delivered}
use Rattle.tam_world.specs.Effects.{with_begun}
use Rattle.tam_eval.specs.GraphRuns.{GraphState, is_enabled, joins, after_effect, after_delivery, delivered_unless, delivered_at, fired_first, counted, chosen}
use Rattle.tam_eval.specs.GraphRuns.{graph_step, graph_opening, some_ready, refusal, is_given_back, live_activations}
use Rattle.tam_eval.specs.GraphLaws.{IsAfter, GivenBackStays, LiveAreFew}
use Rattle.tam_eval.specs.Waiting.{vertices_left}
use Rattle.tam_eval.proofs.Counting.{as_one, as_one-most, count-below_alike, count-cons, count-push}
use Rattle.tam_eval.proofs.Accessors.{other-activation, length-with_changed, length-begun, activation-begun_other}
use Rattle.tam_eval.proofs.Enabled.{enabled_stays-got, enabled_stays-entered, enabled_stays-begun, enabled_stays-all_got}
use Rattle.tam_eval.proofs.Joins.{joins-got_again}
use Rattle.tam_eval.proofs.WorldSizes.{fired-size}
use Rattle.tam_eval.proofs.VerticesLeft.{left-got, left-again, left-same, ready-may}
use Rattle.tam_eval.proofs.LiveCount.{live-left, none-left, given-none, live-most}
use Rattle.tam_eval.proofs.OpeningCounts.{opening-may}

-- ---- counts below a bound

-- tests of which the first implies the second
count-below_most : (p q : ℕ → Bool) (n : ℕ) → ((x : ℕ) → x < n → p x ≡ true → q x ≡ true) → count_by p (below n) ≤ count_by q (below n)
count-below_most p q zero h = omega arith
count-below_most p q (suc n) h =
    omega (arith, count-push p (below n) n, count-push q (below n) n, least (p n) (q n) (h n (omega arith)), count-below_most p q n (λ x l. h x (omega arith)))
  where
    least : (s t : Bool) → (s ≡ true → t ≡ true) → as_one s ≤ as_one t
    least false t k = omega arith
    least true t k = let e : as_one t ≡ 1 = ap as_one (k refl) in omega arith

-- ---- a firing changes one activation

module _ (g : Graph) (w : World) (i : ℕ) where
  -- words for nodes of activation i change no other
  all_got-other : (j : ℕ) → i ≢ j → (v : World) → (xs : List ℕ) (u : ℕ) → activation_at (all_got v i xs u) j ≡ activation_at v j
  all_got-other j d v [] u = refl
  all_got-other j d v (x ∷ xs) u = all_got-other j d (got v i x u) xs u ∙ other-activation v i (with_word x u) j d

  module _ (x : ℕ) where
    -- what node x does changes no other, by what it does
    firing-other : (j : ℕ) → i ≢ j → (k : Kind) (vs : List ℕ) → activation_at (firing_of g w i x k vs).world j ≡ activation_at w j
    firing-other j d (Const v) [] = other-activation w i (with_word x v) j d
    firing-other j d (Operate o a b) (u ∷ v ∷ []) = other-activation w i _ j d
    firing-other j d (Seq a b) (u ∷ v ∷ []) = other-activation w i (with_word x u) j d
    firing-other j d (Call c) [] = refl
    firing-other j d (Arg f k a) (v ∷ p ∷ []) = refl
    firing-other j d (Give k a) (v ∷ []) = refl
    firing-other j d (Alloc n) (v ∷ []) = refl
    firing-other j d (Fetch a l) (u ∷ v ∷ []) = refl
    firing-other j d (Store a l b) (t ∷ u ∷ v ∷ []) = refl
    firing-other j d (Cond p y n) (v ∷ []) = other-activation w i _ j d
    firing-other j d (Switch c k a) (u ∷ v ∷ []) = all_got-other j d w (node_in (its_code g w i) (chosen_branch (its_code g w i) c u) (is_enter k)) v
    firing-other j d (Leave k a) (v ∷ []) =
        all_got-other j d w (merges_of (its_code g w i) k (owner_of (its_code g w i) (block_at (its_code g w i) x))) v
    firing-other j d k vs = refl

    -- and what may fire may fire after it
    firing-stays : (j y : ℕ) → is_enabled g w j y ≡ true → (k : Kind) (vs : List ℕ) → is_enabled g (firing_of g w i x k vs).world j y ≡ true
    firing-stays j y h (Const v) [] = enabled_stays-got g w j y i x v h
    firing-stays j y h (Operate o a b) (u ∷ v ∷ []) = enabled_stays-got g w j y i x _ h
    firing-stays j y h (Seq a b) (u ∷ v ∷ []) = enabled_stays-got g w j y i x u h
    firing-stays j y h (Call c) [] = h
    firing-stays j y h (Arg f k a) (v ∷ p ∷ []) = h
    firing-stays j y h (Give k a) (v ∷ []) = h
    firing-stays j y h (Alloc n) (v ∷ []) = h
    firing-stays j y h (Fetch a l) (u ∷ v ∷ []) = h
    firing-stays j y h (Store a l b) (t ∷ u ∷ v ∷ []) = h
    firing-stays j y h (Cond p z n) (v ∷ []) = enabled_stays-entered g w j y i _ h
    firing-stays j y h (Switch c k a) (u ∷ v ∷ []) =
        enabled_stays-all_got g w j y i (node_in (its_code g w i) (chosen_branch (its_code g w i) c u) (is_enter k)) v h
    firing-stays j y h (Leave k a) (v ∷ []) =
        enabled_stays-all_got g w j y i (merges_of (its_code g w i) k (owner_of (its_code g w i) (block_at (its_code g w i) x))) v h
    firing-stays j y h k vs = h

    -- whatever the node is
    fired-other : (j : ℕ) → i ≢ j → activation_at (fired g w i x).world j ≡ activation_at w j
    fired-other j d = go (words_of w i (operands_of (its_code g w i) (kind_at (its_code g w i) x)))
      where
        go : (l : List (List ℕ)) → activation_at (fired_with g w i x l).world j ≡ activation_at w j
        go [] = refl
        go (vs ∷ more) = firing-other j d (kind_at (its_code g w i) x) vs

    fired-stays : (j y : ℕ) → is_enabled g w j y ≡ true → is_enabled g (fired g w i x).world j y ≡ true
    fired-stays j y h = go (words_of w i (operands_of (its_code g w i) (kind_at (its_code g w i) x)))
      where
        go : (l : List (List ℕ)) → is_enabled g (fired_with g w i x l).world j y ≡ true
        go [] = h
        go (vs ∷ more) = firing-stays j y h (kind_at (its_code g w i) x) vs

-- ---- one event

-- what is ready may fire
abbrev pub MayFireIn : Graph → GraphState → Type 0
MayFireIn g s = all_of (λ v. is_enabled g s.world v.0 v.1) s.ready ≡ true

-- what is left of activation j
abbrev left_of : Graph → GraphState → ℕ → ℕ
left_of g s j = vertices_left g s.world s.ready j

-- after an event nothing is left where nothing was, what is ready may fire, and no more are live than may be
pub record Lasts (g : Graph) (limits : Limits) (s t : GraphState) : Type 0 where
  pub may : MayFireIn g t
  pub longer : length s.world.activations ≤ length t.world.activations
  pub none : (j : ℕ) → j < length s.world.activations → left_of g s j ≡ 0 → left_of g t j ≡ 0
  pub few : live_activations g s ≤ limits.frames → live_activations g t ≤ limits.frames

module _ (g : Graph) (limits : Limits) (s t : GraphState) (may_s : MayFireIn g s) (may_t : MayFireIn g t) where
  -- where as many have begun, and something is left only where something was
  lasts-same : length t.world.activations ≡ length s.world.activations → ((j : ℕ) → left_of g s j ≡ 0 → left_of g t j ≡ 0) → Lasts g limits s t
  lasts-same same none = record {
    may = may_t;
    longer = omega arith;
    none = λ j l h. none j h;
    few = λ h. let less = fewer in omega arith;
  }
    where
      still : (j : ℕ) → not (is_given_back g t j) ≡ true → not (is_given_back g s j) ≡ true
      still j h = go (left_of g s j) refl (left_of g t j) refl
        where
          go : (m : ℕ) → left_of g s j ≡ m → (n : ℕ) → left_of g t j ≡ n → not (is_given_back g s j) ≡ true
          go (suc m) e n f = sym (live-left g s j may_s) ∙ (rw e (grind (arith, tests)))
          go zero e n f = absurd (true≢false (sym h ∙ sym (live-left g t j may_t) ∙ (rw (none j e) refl)))

      fewer : live_activations g t ≤ live_activations g s
      fewer = rw same (count-below_most (λ j. not (is_given_back g t j)) (λ j. not (is_given_back g s j)) (length s.world.activations) (λ j l h. still j h))

-- ---- a vertex fires

module _ (g : Graph) (limits : Limits) (s : GraphState) (may : MayFireIn g s) where
  -- taken from the ready list, and its effect made
  fires-lasts : (rest : List Item) (ready : List (ℕ × ℕ)) → s.ready ≡ ready → (t : GraphState) → fired_first g (counted s rest) ready ≡ Next t
      → Lasts g limits s t
  fires-lasts rest [] is t e = absurd (no_more e)
    where
      no_more : {a b : GraphState} {h : End} → Ended h a ≡ Next b → ⊥
      no_more q = cc
  fires-lasts rest (v ∷ vs) is t e = subst (Lasts g limits s) (next e)
      (lasts-same g limits s after may after-may (fired-size g s.world v.0 v.1) none)
    where
      next : {a b : GraphState} → Next a ≡ Next b → a ≡ b
      next q = cc

      after : GraphState
      after = after_effect g (record (counted s rest) { ready = vs }) (fired g s.world v.0 v.1)

      tail-may : all_of (λ r. is_enabled g s.world r.0 r.1) vs ≡ true
      tail-may = go (is_enabled g s.world v.0 v.1) refl (subst (λ (rs : List (ℕ × ℕ)). all_of (λ r. is_enabled g s.world r.0 r.1) rs ≡ true) is may)
        where
          go : (b : Bool) → is_enabled g s.world v.0 v.1 ≡ b → all_of (λ r. is_enabled g s.world r.0 r.1) (v ∷ vs) ≡ true
              → all_of (λ r. is_enabled g s.world r.0 r.1) vs ≡ true
          go true p h = rw (all_of, p) at h
          go false p h = absurd (true≢false (sym (rw (all_of, p) at h)))

      after-may : MayFireIn g after
      after-may = ready-may g s.world (fired g s.world v.0 v.1).world vs (λ j y h. fired-stays g s.world v.0 v.1 j y h) tail-may

      before : (j : ℕ) → left_of g s j ≡ as_one (v.0 == j) + vertices_left g s.world vs j
      before j = ap (λ (rs : List (ℕ × ℕ)). vertices_left g s.world rs j) is ∙ (let c = count-cons (λ (r : ℕ × ℕ). r.0 == j) v vs in omega arith)

      none : (j : ℕ) → left_of g s j ≡ 0 → left_of g after j ≡ 0
      none j h = go (v.0 == j) refl
        where
          go : (b : Bool) → (v.0 == j) ≡ b → left_of g after j ≡ 0
          go true p = absurd (let one : as_one (v.0 == j) ≡ 1 = ap as_one p in let b = before j in omega arith)
          go false p =
              let same = left-same g s.world (fired g s.world v.0 v.1).world j vs (fired-other g s.world v.0 v.1 j (number-differs v.0 j p)) in
              let b = before j in omega arith

-- ---- a message is delivered

-- no going on is an end
goes-no_end : {a b : GraphState} {h : End} → Ended h a ≡ Next b → ⊥
goes-no_end q = cc

-- and going on goes to one state
goes-one : {a b : GraphState} → Next a ≡ Next b → a ≡ b
goes-one q = cc

module _ (g : Graph) (limits : Limits) (s : GraphState) (may : MayFireIn g s) (rest : List Item) (pending : List Message) where
  -- the state in which a message is delivered
  abbrev taken : GraphState
  taken = record (counted s rest) { pending = pending }

  -- where arrays alone change
  arrays-last : (w : World) → w.activations ≡ s.world.activations → (ms : List Message)
      → Lasts g limits s (after_effect g taken (record { world = w; sends = ms }))
  arrays-last w same ms = lasts-same g limits s (after_effect g taken (record { world = w; sends = ms })) may
      (ready-may g s.world w s.ready (λ j y h. ap (λ (as_before : List ActivationState). is_enabled g (record w { activations = as_before }) j y) same ∙ h) may)
      (ap (λ (all : List ActivationState). length all) same)
      (λ j h. left-same g s.world w j s.ready (ap (λ (all : List ActivationState). activation_at (record w { activations = all }) j) same) ∙ h)

  -- a node gets a word
  word-lasts : (i y v : ℕ) → Lasts g limits s (after_effect g taken (record { world = got s.world i y v; sends = [] }))
  word-lasts i y v = lasts-same g limits s (after_effect g taken (record { world = got s.world i y v; sends = [] })) may
      (ready-may g s.world (got s.world i y v) s.ready (λ j x h. enabled_stays-got g s.world j x i y v h) may)
      (length-with_changed s.world i (with_word y v)) (λ j h. go (has_word s.world i y) refl j h)
    where
      go : (b : Bool) → has_word s.world i y ≡ b → (j : ℕ) → left_of g s j ≡ 0
          → vertices_left g (got s.world i y v) (s.ready ++ joins g s.world (got s.world i y v)) j ≡ 0
      go true p j h = ap (λ (r : List (ℕ × ℕ)). vertices_left g (got s.world i y v) r j)
          (ap (λ (r : List (ℕ × ℕ)). s.ready ++ r) (joins-got_again g s.world i y v p) ∙ append-nil s.ready) ∙ left-again g s.world i y v s.ready p j ∙ h
      go false p j h = let e = left-got g s.world i y v s.ready p j in omega arith

  -- an activation begins, where there is room for one
  begins-lasts : (c f x : ℕ) (ms : List Message) → live_activations g s ≢ limits.frames
      → Lasts g limits s (after_effect g taken (record { world = with_begun s.world c f x; sends = ms }))
  begins-lasts c f x ms room = record {
    may = may_then;
    longer = let e = length-begun s.world c f x in omega arith;
    none = λ j l h. same j l ∙ h;
    few = λ h. let e = length-begun s.world c f x in let k = fewer in omega arith;
  }
    where
      then : GraphState
      then = after_effect g taken (record { world = with_begun s.world c f x; sends = ms })

      may_then : MayFireIn g then
      may_then = ready-may g s.world (with_begun s.world c f x) s.ready (λ j y h. enabled_stays-begun g s.world j y c f x h) may

      same : (j : ℕ) → j < length s.world.activations → left_of g then j ≡ left_of g s j
      same j l = left-same g s.world (with_begun s.world c f x) j s.ready (activation-begun_other s.world c f x j (λ e. absurd (omega arith)))

      alike : (j : ℕ) → j < length s.world.activations → not (is_given_back g then j) ≡ not (is_given_back g s j)
      alike j l = sym (live-left g then j may_then) ∙ ap (nat_lt 0) (same j l) ∙ live-left g s j may

      is_live : ℕ → Bool
      is_live j = not (is_given_back g then j)

      grown : live_activations g then ≡ count_by is_live (below (suc (length s.world.activations)))
      grown = ap (λ n. count_by is_live (below n)) (length-begun s.world c f x)

      pushed : count_by is_live (below (suc (length s.world.activations)))
          ≡ count_by is_live (below (length s.world.activations)) + as_one (is_live (length s.world.activations))
      pushed = count-push is_live (below (length s.world.activations)) (length s.world.activations)

      old_ones : count_by is_live (below (length s.world.activations)) ≡ live_activations g s
      old_ones = count-below_alike is_live (λ j. not (is_given_back g s j)) (length s.world.activations) alike

      fewer : live_activations g then ≤ live_activations g s + 1
      fewer = omega (arith, grown, pushed, old_ones, as_one-most (is_live (length s.world.activations)))

  -- an access
  access-lasts : (t : GraphState) (a i v : ℕ) (r : ℕ × ℕ) (x : Access) → after_delivery g taken (accessed s.world a i r v x) ≡ Next t → Lasts g limits s t
  access-lasts t a i v r (Now u) e = subst (Lasts g limits s) (goes-one e) (arrays-last s.world refl (Carry r.0 r.1 u ∷ []))
  access-lasts t a i v r (Deferred rows) e = subst (Lasts g limits s) (goes-one e) (arrays-last (record s.world { arrays = rows }) refl [])
  access-lasts t a i v r (Stored rows rs) e = subst (Lasts g limits s) (goes-one e) (arrays-last (record s.world { arrays = rows }) refl (answers v rs))
  access-lasts t a i v r (Twice u) e = absurd (goes-no_end e)
  access-lasts t a i v r (NotBelow n) e = absurd (goes-no_end e)
  access-lasts t a i v r NoArray e = absurd (goes-no_end e)

  -- any message that isn't refused
  delivery-lasts : (t : GraphState) (m : Message) → refusal g limits (counted s rest) m ≡ [] → after_delivery g taken (delivered s.world m) ≡ Next t
      → Lasts g limits s t
  delivery-lasts t (Carry f x v) room e = go (f == outside) refl
    where
      go : (b : Bool) → (f == outside) ≡ b → Lasts g limits s t
      go true p = subst (Lasts g limits s) (goes-one (rw (delivered, p) at e))
          (lasts-same g limits s (record taken { printed = s.printed ++ (x, v) ∷ [] }) may may refl (λ j h. h))
      go false p = subst (Lasts g limits s) (goes-one (rw (delivered, p) at e)) (word-lasts f x v)
  delivery-lasts t (Begin c f x) room e = subst (Lasts g limits s) (goes-one e)
      (begins-lasts c f x (Carry f x (length s.world.activations) ∷ []) (not-full (live_activations g s == limits.frames) refl))
    where
      not-full : (b : Bool) → (live_activations g s == limits.frames) ≡ b → live_activations g s ≢ limits.frames
      not-full false p = number-differs (live_activations g s) limits.frames p
      not-full true p = absurd (some (rw (refusal, p) at room))
        where
          some : {h : End} → h ∷ [] ≡ [] → ⊥
          some q = cc
  delivery-lasts t (Make n f x) room e = subst (Lasts g limits s) (goes-one e)
      (arrays-last (record s.world { arrays = with_array s.world.arrays n; makers = s.world.makers ++ (f, x) ∷ [] }) refl
      (Carry f x (length s.world.arrays) ∷ []))
  delivery-lasts t (Ask_cell a i f x k) room e = access-lasts t k i 0 (f, x) (fetched_from s.world.arrays a i (f, x)) e
  delivery-lasts t (Put_cell a i v k) room e = access-lasts t k i v (0, 0) (stored_into s.world.arrays a i v k) e

  -- unless it is refused
  unless-lasts : (t : GraphState) (m : Message) (ends : List End) → refusal g limits (counted s rest) m ≡ ends → delivered_unless g taken m ends ≡ Next t
      → Lasts g limits s t
  unless-lasts t m [] room e = delivery-lasts t m room e
  unless-lasts t m (h ∷ more) room e = absurd (goes-no_end e)

-- ---- any event

module _ (g : Graph) (limits : Limits) (s t : GraphState) (may : MayFireIn g s) where
  -- what was chosen
  chosen-lasts : (c : Choice × List Item) → chosen g limits s c ≡ Next t → Lasts g limits s t
  chosen-lasts (Choose_quiet, rest) e = absurd (goes-no_end e)
  chosen-lasts (Choose_run, rest) e = go (s.events == limits.budget) refl
    where
      go : (b : Bool) → (s.events == limits.budget) ≡ b → Lasts g limits s t
      go true p = absurd (goes-no_end (rw (chosen, p) at e))
      go false p = fires-lasts g limits s may rest s.ready refl t (rw (chosen, p) at e)
  chosen-lasts (Choose_delivery k, rest) e = go (s.events == limits.budget) refl
    where
      message : (o : Option Message) → delivered_at g limits (counted s rest) k o ≡ Next t → Lasts g limits s t
      message None q = absurd (goes-no_end q)
      message (Some m) q = unless-lasts g limits s may rest (without_place k s.pending) t m (refusal g limits (counted s rest) m) refl q

      go : (b : Bool) → (s.events == limits.budget) ≡ b → Lasts g limits s t
      go true p = absurd (goes-no_end (rw (chosen, p) at e))
      go false p = message (slice_get s.pending k) (rw (chosen, p) at e)

  -- one event
  pub step-lasts : graph_step g limits s ≡ Next t → Lasts g limits s t
  step-lasts e = chosen-lasts (choice s.order (some_ready s.ready) (length s.pending)) e

-- ---- the run

-- what lasts over two stretches lasts over both
lasts-then : (g : Graph) (limits : Limits) (s t u : GraphState) → Lasts g limits s t → Lasts g limits t u → Lasts g limits s u
lasts-then g limits s t u a b = record {
  may = b.may;
  longer = let l = a.longer in let m = b.longer in omega arith;
  none = λ j l h. b.none j (let m = a.longer in omega arith) (a.none j l h);
  few = λ h. b.few (a.few h);
}

-- over no event
lasts-still : (g : Graph) (limits : Limits) (s : GraphState) → MayFireIn g s → Lasts g limits s s
lasts-still g limits s may = record { may = may; longer = omega arith; none = λ j l h. h; few = λ h. h }

-- over any number of events
pub events-last : (g : Graph) (limits : Limits) (n : ℕ) (s t : GraphState) → MayFireIn g s → after_events (graph_step g limits) n s ≡ Next t
    → Lasts g limits s t
events-last g limits zero s t may e = subst (Lasts g limits s) (goes-one e) (lasts-still g limits s may)
events-last g limits (suc n) s t may e = go (graph_step g limits s) refl e (λ d m q. events-last g limits n d t m q)
  where
    go : (o : Outcome GraphState) → graph_step g limits s ≡ o → and_then o (after_events (graph_step g limits) n) ≡ Next t
        → ((d : GraphState) → MayFireIn g d → after_events (graph_step g limits) n d ≡ Next t → Lasts g limits d t) → Lasts g limits s t
    go (Ended h d) p q rest = absurd (goes-no_end q)
    go (Next d) p q rest = let one = step-lasts g limits s d may p in lasts-then g limits s d t one (rest d one.may q)

-- the states of a run lie on one way
pub after-more : {S : Type 0} (step : S → Outcome S) (n m : ℕ) (s t u : S) → after_events step n s ≡ Next t → after_events step (n + m) s ≡ Next u
    → after_events step m t ≡ Next u
after-more {S} step zero m s t u a b =
    let none : zero + m ≡ m = omega arith in
    subst (λ (z : S). after_events step m z ≡ Next u) (same a) (subst (λ k. after_events step k s ≡ Next u) none b)
  where
    same : Next s ≡ Next t → s ≡ t
    same q = cc
after-more {S} step (suc n) m s t u a b =
    let one : suc n + m ≡ suc (n + m) = omega arith in
    go (step s) refl a (subst (λ k. after_events step k s ≡ Next u) one b) (λ d. after-more step n m d t u)
  where
    go : (o : Outcome S) → step s ≡ o → and_then o (after_events step n) ≡ Next t → after_events step (suc (n + m)) s ≡ Next u
        → ((d : S) → after_events step n d ≡ Next t → after_events step (n + m) d ≡ Next u → after_events step m t ≡ Next u)
        → after_events step m t ≡ Next u
    go (Ended h d) p q r rest = absurd (never q)
      where
        never : Ended h d ≡ Next t → ⊥
        never e = cc
    go (Next d) p q r rest = rest d q (rw (after_events, p) at r)

-- ---- the laws

-- each state of a run has what lasts from the first
pub from-opening : (g : Graph) (args : List ℕ) (order : List Item) (limits : Limits) (n : ℕ) (s : GraphState) → IsAfter g args order limits n s
    → Lasts g limits (graph_opening g args order) s
from-opening g args order limits n s after = events-last g limits n (graph_opening g args order) s (opening-may g) after

-- what is given back stays so
pub given_back-stays : GivenBackStays
given_back-stays g args order limits n later s t i after then there given =
    let may = (from-opening g args order limits n s after).may in
    let on = events-last g limits later s t may (after-more (graph_step g limits) n later (graph_opening g args order) s t after then) in
    none-left g t i (on.none i there (given-none g s i may given))

-- no more are live than may be
pub live_are-few : LiveAreFew
live_are-few g args order limits n s ranges after =
    (from-opening g args order limits n s after).few (let most = live-most g (graph_opening g args order) in let some = ranges.some_frame in omega arith)
