-- What is sent and done once: at the beginning, and after the run of a class.
use Rattle.std.proofs.Common.{◌≡◌, ℕ, zero, suc, ◌<◌, Bool, true, false, ◌==◌, ◌&&◌, List, [], ◌∷◌, ◌++◌, map, zip, Some, None}
use Rattle.std.proofs.Common.{unwrap_or, length, slice_get, refl, sym, ap, ap₂, ◌∙◌, arith, tests, subst, inl, inr, ◌⊎◌, ⊎_elim, true≢false}
use Rattle.std.specs.List.{AllByRecursion}
use Rattle.tam_word.specs.Lists.{any_of, has, below}
use Rattle.tam_msgs.specs.declared.message.Message.{Message}
use Rattle.tam_msgs.specs.declared.message.Message.TheVariants.{Frame as Begin, Store as Put_cell}
use Rattle.tam_istr.specs.Cells.{Filled}
use Rattle.tam_graph.specs.Graphs.{Graph, code_of, block_at, node_where, is_param}
use Rattle.tam_graph.specs.Accepted.{IsAccepted}
use Rattle.tam_graph.specs.Edges.{Edges}
use Rattle.tam_split.specs.Blocks.{block_graph, vertex_at}
use Rattle.tam_split.specs.Partitions.{class_at}
use Rattle.tam_split.specs.GraphPartitions.{Partitions, parts_of, are_valid, firing_order}
use Rattle.tam_fire.specs.FiringRules.{Path}
use Rattle.tam_world.specs.Worlds.{World, Second_store, activation_at, its_code}
use Rattle.tam_world.specs.Worlds.{has_entered, opening, argument_message}
use Rattle.tam_flow.specs.Journals.{State, Run, initial, has_run, class_fired, block_of_act, parts_of_act}
use Rattle.tam_flow.specs.Journals.{after_event}
use Rattle.tam_flow.specs.Told.{path_of}
use Rattle.tam_flow.specs.Reached.{IsThere, cell_at}
use Rattle.tam_word.proofs.Tests.{true-both, self-eq}
use Rattle.tam_word.proofs.Each.{all-more, all-append, all-map, all-flat, get-left, each-in}
use Rattle.tam_flow.proofs.Growing.{Grows, grows-same}
use Rattle.tam_flow.proofs.Justified.{IsPutBy}
use Rattle.tam_flow.proofs.CellChanges.{none-some, some-eq}
use Rattle.tam_flow.proofs.Deliveries.{IsSoundEffect, some-below}
use Rattle.tam_flow.proofs.ActivationCounts.{size, size-each}
use Rattle.tam_flow.proofs.ClassRuns.{order-each, vertex-each}
use Rattle.tam_flow.proofs.Pairs.{Pairs, pairs-append, fires-once, class-once}
use Rattle.tam_flow.proofs.Acyclic.{order-distinct, block-acyclic}
use Rattle.tam_flow.proofs.Senders.{Tag, asks, IsSentBy, TagApart, sent_by-later, tagged_with, tagged-same, map-append, words-apart, words-only, word-sent}
use Rattle.tam_flow.proofs.Senders.{IsOf}
use Rattle.tam_flow.proofs.Senders.{IsTaggedRun, done_after, done-in, tagged-each}
use Rattle.tam_flow.proofs.DeliveryChanges.{arrays-run}
use Rattle.tam_flow.proofs.SoundStates.{IsSoundState, IsRunnable, run-block, run-within, order-ready, run-effect}
use Rattle.tam_word.proofs.Members.{In}

-- the vertex that fires for node x of activation i is in a class that ran
pub record HasFired (g : Graph) (all : Partitions) (s : State) (i x : ℕ) : Type 0 where
  pub there : IsThere s.world i
  pub code : ℕ
  pub block : ℕ
  pub class : ℕ
  pub place : ℕ
  pub is_code : code ≡ (activation_at s.world i).code
  pub ran : has_run s i block class ≡ true
  pub inside : In place (class_at (parts_of all code block) class)
  pub within : place < length (block_graph (code_of g code) block).vertices
  pub no_inlet : (vertex_at (block_graph (code_of g code) block) place).inlet ≡ false
  pub node : (vertex_at (block_graph (code_of g code) block) place).node ≡ x

-- where activation j comes from: it is the root's, or a message began it that has arrived
abbrev pub IsBegunBy : State → ℕ → Type 0
IsBegunBy s j =
    (path_of s.world j ≡ [])
    ⊎ ((n c f x : ℕ) × (slice_get s.sent n ≡ Some (Begin c f x)) × (has s.arrived n ≡ true) × (f < j) × (path_of s.world j ≡ x ∷ path_of s.world f))

-- two stores of different instances put words into one cell, at these sites
pub record IsDouble (g : Graph) (args : List ℕ) (w : World) (s t : ℕ) : Type 0 where
  pub a : ℕ
  pub j : ℕ
  pub u : ℕ
  pub v : ℕ
  pub f : ℕ
  pub y : ℕ
  pub e : ℕ
  pub z : ℕ
  pub first : IsPutBy g args w f y a j u s
  pub second : IsPutBy g args w e z a j v t
  pub different : f ≡ e → y ≡ z → ⊥

-- what is sent and done once
pub record IsOnceState (g : Graph) (args : List ℕ) (all : Partitions) (s : State) : Type 0 where
  pub tags : List Tag
  pub same : map (λ t. t.0) tags ≡ s.sent
  pub sent_by : AllByRecursion (λ t. IsSentBy g args s.world t.0 t.1 t.2) tags
  pub fired : AllByRecursion (λ t. asks t.0 ≡ true → HasFired g all s t.1 t.2) tags
  pub apart : Pairs TagApart tags
  pub paths_differ : (i j : ℕ) → IsThere s.world i → IsThere s.world j → path_of s.world i ≡ path_of s.world j → i ≡ j
  pub begun_by : (j : ℕ) → IsThere s.world j → IsBegunBy s j
  pub some : IsThere s.world 0
  pub bodies : (j : ℕ) → IsThere s.world j → has_entered s.world j 0 ≡ true
  pub filled_by : (a j u t : ℕ) → cell_at s.world a j ≡ Some (Filled u t)
      → (n : ℕ) × (slice_get s.sent n ≡ Some (Put_cell a j u t)) × (has s.arrived n ≡ true)
  pub double : (p t : ℕ) → s.fault ≡ Some (Second_store p t) → IsDouble g args s.world p t

-- the tag of a message
pub tag-at : (ts : List Tag) (n : ℕ) (m : Message) → slice_get (map (λ t. t.0) ts) n ≡ Some m → (t : Tag) × (slice_get ts n ≡ Some t) × (t.0 ≡ m)
tag-at [] n m e = absurd (none-some e)
tag-at (t ∷ ts) zero m e = (t, refl, some-eq e)
tag-at (t ∷ ts) (suc n) m e = tag-at ts n m e

-- what has arrived has arrived once one more has
pub arrived-more : (m : ℕ) (xs : List ℕ) (n : ℕ) → has xs n ≡ true → has (m ∷ xs) n ≡ true
arrived-more m xs n h = go (m == n) refl
  where
    go : (b : Bool) → (m == n) ≡ b → has (m ∷ xs) n ≡ true
    go true e = rw (any_of, e) refl
    go false e = rw (any_of, e) h

-- and that one has
pub arrived-now : (m : ℕ) (xs : List ℕ) → has (m ∷ xs) m ≡ true
arrived-now m xs = let e : (m == m) ≡ true = grind (arith, tests) in rw (any_of, e) refl

-- equal paths have equal calls in front and equal paths behind
pub cons-tail : {x y : ℕ} {p q : Path} → x ∷ p ≡ y ∷ q → (x ≡ y) × (p ≡ q)
cons-tail e = (cc, cc)

-- the root's path has no call in front
pub nil-cons : {x : ℕ} {p : Path} → [] ≡ x ∷ p → ⊥
nil-cons e = cc

-- words with their sender ask for nothing
pub asked-words : (i x : ℕ) (ms : List Message) → AllByRecursion (λ m. asks m ≡ false) ms → AllByRecursion (λ t. asks t.0 ≡ false) (tagged_with i x ms)
asked-words i x ms h = all-map (λ t. asks t.0 ≡ false) (λ m. (m, i, x)) ms h

-- words are apart from anything
pub words-across : (ts us : List Tag) → AllByRecursion (λ t. asks t.0 ≡ false) us → AllByRecursion (λ t. AllByRecursion (TagApart t) us) ts
words-across [] us h = tt
words-across (t ∷ ts) us h = (all-more (λ u. asks u.0 ≡ false) (TagApart t) (λ u k p q r d. true≢false (sym q ∙ k)) us h, words-across ts us h)

-- each element of a list is in it
selves : (xs : List ℕ) → AllByRecursion (λ z. In z xs) xs
selves [] = tt
selves (x ∷ xs) = (inl refl, all-more (λ z. In z xs) (λ z. In z (x ∷ xs)) (λ z k. inr k) xs (selves xs))

module _ {g : Graph} {args : List ℕ} {all : Partitions} {s : State} (once : IsOnceState g args all s) where
  -- what has fired has fired later
  pub fired-later : (v : State) → Grows s.world v.world → ((i b c : ℕ) → has_run s i b c ≡ true → has_run v i b c ≡ true) → (i x : ℕ) → HasFired g all s i x
      → HasFired g all v i x
  fired-later v grows more i x h = record {
    there = grows.there i h.there;
    code = h.code;
    block = h.block;
    class = h.class;
    place = h.place;
    is_code = h.is_code ∙ sym (grows.code i h.there);
    ran = more i h.block h.class h.ran;
    inside = h.inside;
    within = h.within;
    no_inlet = h.no_inlet;
    node = h.node;
  }

  -- where as many activations are there, their paths and what began them stay
  pub begun-later : (v : State) → Grows s.world v.world → size v.world ≡ size s.world
      → ((n : ℕ) (m : Message) → slice_get s.sent n ≡ Some m → slice_get v.sent n ≡ Some m)
      → ((n : ℕ) → has s.arrived n ≡ true → has v.arrived n ≡ true) → (j : ℕ) → IsThere v.world j → IsBegunBy v j
  begun-later v grows same sent arrived j t = go (once.begun_by j back)
    where
      back : IsThere s.world j
      back = subst (λ n. j < n) same t

      go : IsBegunBy s j → IsBegunBy v j
      go (inl e) = inl (grows.path j back ∙ e)
      go (inr h) =
          let there : IsThere s.world h.2 = omega (arith, h.6, back) in
          inr (
            h.0,
            h.1,
            h.2,
            h.3,
            sent h.0 (Begin h.1 h.2 h.3) h.4,
            arrived h.0 h.5,
            h.6,
            grows.path j back ∙ h.7
                ∙ ap (λ p. h.3 ∷ p) (sym (grows.path h.2 there)),
          )

  -- where a world has grown by no activation, paths still tell them apart
  pub paths-later : (v : World) → Grows s.world v → size v ≡ size s.world → (i j : ℕ) → IsThere v i → IsThere v j → path_of v i ≡ path_of v j → i ≡ j
  paths-later v grows same i j t u e =
      let a : IsThere s.world i = subst (λ n. i < n) same t in
      let b : IsThere s.world j = subst (λ n. j < n) same u in
      once.paths_differ i j a b (sym (grows.path i a) ∙ e ∙ grows.path j b)

module _ (g : Graph) (args : List ℕ) (accepted : IsAccepted g) (all : Partitions) where
  -- ---- the beginning

  -- the arguments are words
  pub initial-words : AllByRecursion (λ m. asks m ≡ false) (initial g args).sent
  initial-words = all-flat (λ m. asks m ≡ false) (argument_message g) (zip (below (length args)) args) (each (zip (below (length args)) args))
    where
      each : (es : List (ℕ × ℕ)) → AllByRecursion (λ e. AllByRecursion (λ m. asks m ≡ false) (argument_message g e)) es
      each [] = tt
      each (e ∷ es) = (words-only 0 e.1 (node_where (code_of g g.main) (is_param e.0)), each es)

  -- at the beginning each wish was sent once, since there is none
  pub once-initial : IsOnceState g args all (initial g args)
  once-initial = record {
    tags = tagged_with 0 0 (initial g args).sent;
    same = tagged-same 0 0 (initial g args).sent;
    sent_by = all-map (λ t. IsSentBy g args (opening g) t.0 t.1 t.2) (λ m. (m, 0, 0)) (initial g args).sent
        (all-more (λ m. asks m ≡ false) (λ m. IsSentBy g args (opening g) m 0 0) (λ m k. word-sent g args (opening g) m 0 0 k)
        (initial g args).sent initial-words);
    fired = all-more (λ t. asks t.0 ≡ false) (λ t. asks t.0 ≡ true → HasFired g all (initial g args) t.1 t.2) (λ t k d. absurd (true≢false (sym d ∙ k)))
        (tagged_with 0 0 (initial g args).sent) (asked-words 0 0 (initial g args).sent initial-words);
    apart = words-apart 0 0 (initial g args).sent initial-words;
    paths_differ = λ i j t u e. let a : i ≡ 0 = omega (arith, t) in let b : j ≡ 0 = omega (arith, u) in a ∙ sym b;
    begun_by = λ j t. let e : j ≡ 0 = omega (arith, t) in inl (subst (λ k. path_of (opening g) k ≡ []) (sym e) refl);
    some = omega arith;
    bodies = λ j t. let e : j ≡ 0 = omega (arith, t) in subst (λ k. has_entered (opening g) k 0 ≡ true) (sym e) refl;
    filled_by = λ a j u t e. absurd (none-some e);
    double = λ p t e. absurd (none-some e);
  }

  -- ---- a class runs

  module _ (valid : are_valid g all ≡ true) where
    -- where one node fires, it is one block's and one class's
    pub one-class : (n b c d e y z : ℕ) → n < length g.codes → b < length (code_of g n).owners
        → y < length (block_graph (code_of g n) d).vertices → z < length (block_graph (code_of g n) b).vertices
        → (vertex_at (block_graph (code_of g n) d) y).inlet ≡ false → (vertex_at (block_graph (code_of g n) b) z).inlet ≡ false
        → (vertex_at (block_graph (code_of g n) d) y).node ≡ (vertex_at (block_graph (code_of g n) b) z).node
        → In y (class_at (parts_of all n d) e) → In z (class_at (parts_of all n b) c) → (d ≡ b) × (e ≡ c)
    one-class n b c d e y z there inside l m p q r h k = (block, at d block l p r h)
      where
        block : d ≡ b
        block = sym (vertex-each (code_of g n) d y l).1 ∙ ap (block_at (code_of g n)) r ∙ (vertex-each (code_of g n) b z m).1

        base : y < length (block_graph (code_of g n) b).vertices → (vertex_at (block_graph (code_of g n) b) y).inlet ≡ false
            → (vertex_at (block_graph (code_of g n) b) y).node ≡ (vertex_at (block_graph (code_of g n) b) z).node → In y (class_at (parts_of all n b) e)
            → e ≡ c
        base l p r h =
            let place : y ≡ z = fires-once (code_of g n) b y z l m p q r in
            class-once g all n b e c z valid there inside m (subst (λ x. In x (class_at (parts_of all n b) e)) place h) k

        at : (d : ℕ) → d ≡ b → y < length (block_graph (code_of g n) d).vertices → (vertex_at (block_graph (code_of g n) d) y).inlet ≡ false
            → (vertex_at (block_graph (code_of g n) d) y).node ≡ (vertex_at (block_graph (code_of g n) b) z).node → In y (class_at (parts_of all n d) e)
            → e ≡ c
        at d w = subst (λ d. y < length (block_graph (code_of g n) d).vertices → (vertex_at (block_graph (code_of g n) d) y).inlet ≡ false
            → (vertex_at (block_graph (code_of g n) d) y).node ≡ (vertex_at (block_graph (code_of g n) b) z).node → In y (class_at (parts_of all n d) e)
            → e ≡ c) (sym w) base

  module _ (valid : are_valid g all ≡ true) (s : State) (sound : IsSoundState g args s) (once : IsOnceState g args all s) where
    -- a run sends each of its wishes once
    pub once-run : (i b c : ℕ) → s.fault ≡ None → IsRunnable g all s i b c → IsOnceState g args all (after_event g all s (Run i b c))
    once-run i b c whole run = record {
      tags = once.tags ++ tagged.tags;
      same = map-append once.tags tagged.tags ∙ ap₂ (λ l m. l ++ m) once.same tagged.same;
      sent_by = all-append (λ t. IsSentBy g args v.world t.0 t.1 t.2) once.tags tagged.tags
          (all-more (λ t. IsSentBy g args s.world t.0 t.1 t.2) (λ t. IsSentBy g args v.world t.0 t.1 t.2)
          (λ t h. sent_by-later g args s.world v.world grows t.0 t.1 t.2 h) once.tags once.sent_by)
          tagged.sent_by;
      fired = all-append (λ t. asks t.0 ≡ true → HasFired g all v t.1 t.2) once.tags tagged.tags
          (all-more (λ t. asks t.0 ≡ true → HasFired g all s t.1 t.2) (λ t. asks t.0 ≡ true → HasFired g all v t.1 t.2)
          (λ t h k. fired-later once v grows more t.1 t.2 (h k)) once.tags once.fired)
          (all-more (IsOf (block_of_act g s i b) i done) (λ t. asks t.0 ≡ true → HasFired g all v t.1 t.2) (λ t h k. new-fired t h) tagged.tags tagged.of);
      apart = pairs-append TagApart once.tags tagged.tags once.apart tagged.apart
          (all-more (λ t. asks t.0 ≡ true → HasFired g all s t.1 t.2) (λ t. AllByRecursion (TagApart t) tagged.tags)
          (λ t h. all-more (IsOf (block_of_act g s i b) i done) (TagApart t)
          (λ u k p q r d. across t u (h p) k r d) tagged.tags tagged.of) once.tags once.fired);
      paths_differ = paths-later once v.world grows as_many;
      begun_by = begun-later once v grows as_many sent (λ n h. h);
      some = grows.there 0 once.some;
      bodies = λ j t. let l : IsThere s.world j = subst (λ n. j < n) as_many t in grows.blocks j 0 l (once.bodies j l);
      filled_by = λ a j u t e. let h = once.filled_by a j u t
          (subst (λ l. slice_get (unwrap_or (slice_get l a) []) j ≡ Some (Filled u t)) (arrays-run g all s i b c) e) in
          (h.0, sent h.0 (Put_cell a j u t) h.1, h.2);
      double = λ p t e. absurd (none-some (sym whole ∙ e));
    }
      where
        v : State
        v = after_event g all s (Run i b c)

        code : ℕ
        code = (activation_at s.world i).code

        effect : IsSoundEffect g args s.world (class_fired g all s i b c)
        effect = run-effect g args accepted all s i b c valid sound run

        grows : Grows s.world (class_fired g all s i b c).world
        grows = effect.grows

        order : List ℕ
        order = firing_order (block_of_act g s i b).edges (class_at (parts_of_act g all s i b) c)

        done : List ℕ
        done = done_after [] order

        tagged : IsTaggedRun g args (block_of_act g s i b) i
            (done_after [] (firing_order (block_of_act g s i b).edges (class_at (parts_of_act g all s i b) c))) (class_fired g all s i b c)
        tagged =
            tagged-each g args accepted s.world i run.there (block_of_act g s i b) (fires-once (its_code g s.world i) b)
            (firing_order (block_of_act g s i b).edges (class_at (parts_of_act g all s i b) c)) [] (record { world = s.world; sends = [] })
            (record { world = sound.world; grows = grows-same s.world; sends = tt }) (record { tags = []; same = refl; sent_by = tt; of = tt; apart = tt })
            (order-ready g args accepted all s i b c valid sound run)
            (order-each (λ y. y < length (block_of_act g s i b).vertices) (block_of_act g s i b).edges (class_at (parts_of_act g all s i b) c)
            (run-within g args accepted all s i b c valid sound run))
            (order-distinct (block_of_act g s i b).edges (block-acyclic g accepted (activation_at s.world i).code b (sound.world.codes i run.there))
            (class_at (parts_of_act g all s i b) c)) (λ z h k. h)

        as_many : size (class_fired g all s i b c).world ≡ size s.world
        as_many = size-each g (block_of_act g s i b) i (record { world = s.world; sends = [] })
            (firing_order (block_of_act g s i b).edges (class_at (parts_of_act g all s i b) c))

        sent : (n : ℕ) (m : Message) → slice_get s.sent n ≡ Some m → slice_get (s.sent ++ (class_fired g all s i b c).sends) n ≡ Some m
        sent n m e = get-left s.sent (class_fired g all s i b c).sends n (some-below s.sent n e) ∙ e

        more : (j d e : ℕ) → has_run s j d e ≡ true → has_run (after_event g all s (Run i b c)) j d e ≡ true
        more j d e h = go ((i == j) && ((b == d) && (c == e))) refl
          where
            go : (t : Bool) → ((i == j) && ((b == d) && (c == e))) ≡ t → has_run (after_event g all s (Run i b c)) j d e ≡ true
            go true k = rw (any_of, k) refl
            go false k = rw (any_of, k) h

        now : has_run (after_event g all s (Run i b c)) i b c ≡ true
        now = let k : ((i == i) && ((b == b) && (c == c))) ≡ true = true-both (i == i) ((b == b) && (c == c)) (self-eq i)
            (true-both (b == b) (c == c) (self-eq b) (self-eq c)) in rw (any_of, k) refl

        in-order : (y : ℕ) → In y (done_after [] (firing_order (block_of_act g s i b).edges (class_at (parts_of_act g all s i b) c)))
            → In y (class_at (parts_of_act g all s i b) c)
        in-order y h =
            let class : List ℕ = class_at (parts_of_act g all s i b) c in
            let edges : Edges = (block_of_act g s i b).edges in
            let each = order-each (λ z. In z class) edges class (selves class) in
            ⊎_elim (λ k. absurd k) (λ k. each-in (λ z. In z class) (firing_order edges class) y each k) (done-in [] (firing_order edges class) y h)

        new-fired : (t : Tag) → IsOf (block_of_act g s i b) i
            (done_after [] (firing_order (block_of_act g s i b).edges (class_at (parts_of_act g all s i b) c))) t
            → HasFired g all (after_event g all s (Run i b c)) t.1 t.2
        new-fired t h = subst (λ k. HasFired g all (after_event g all s (Run i b c)) k t.2) (sym h.0) (record {
          there = grows.there i run.there;
          code = (activation_at s.world i).code;
          block = b;
          class = c;
          place = h.1;
          is_code = sym (grows.code i run.there);
          ran = now;
          inside = in-order h.1 h.2;
          within = h.3;
          no_inlet = h.4;
          node = h.5;
        })

        across : (t u : Tag) → HasFired g all s t.1 t.2
            → IsOf (block_of_act g s i b) i (done_after [] (firing_order (block_of_act g s i b).edges (class_at (parts_of_act g all s i b) c))) u
            → t.1 ≡ u.1 → t.2 ≡ u.2 → ⊥
        across t u h k r d = meet (subst (λ m. HasFired g all s m t.2) (r ∙ k.0) h)
          where
            meet : HasFired g all s i t.2 → ⊥
            meet f =
                let both = one-class valid (activation_at s.world i).code b c f.block f.class f.place k.1 (sound.world.codes i run.there)
                (run-block g args accepted all s i b c valid sound run)
                (subst (λ n. f.place < length (block_graph (code_of g n) f.block).vertices) f.is_code f.within) k.3
                (subst (λ n. (vertex_at (block_graph (code_of g n) f.block) f.place).inlet ≡ false) f.is_code f.no_inlet) k.4
                (subst (λ n. (vertex_at (block_graph (code_of g n) f.block) f.place).node ≡ t.2) f.is_code f.node ∙ d ∙ sym k.5)
                (subst (λ n. In f.place (class_at (parts_of all n f.block) f.class)) f.is_code f.inside) (in-order k.1 k.2) in
                true≢false (sym (subst (λ m. has_run s i m c ≡ true) both.0 (subst (λ m. has_run s i f.block m ≡ true) both.1 f.ran)) ∙ run.once)
