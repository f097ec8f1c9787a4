-- The thread of a class starts: the class has run from then on, and the tickets of the classes directly behind it are due.
use Rattle.std.proofs.Common.{◌≡◌, ℕ, ◌<◌, Bool, true, false, ◌==◌, ◌&&◌, List, [], ◌∷◌, map, filter, length, refl, sym, ap, ◌∙◌, subst, inl, inr, ◌⊎◌, ⊎_elim}
use Rattle.tam_word.specs.Lists.{any_of, below, where_so}
use Rattle.tam_word.proofs.Members.{In, Distinct, in-below, in-map, map-in, in-filter, filter-in, below-in, left-in, right-in, distinct-below, distinct-filter}
use Rattle.tam_word.proofs.Tests.{number-eq, self-eq, true-both, and-left, and-right}
use Rattle.tam_graph.specs.declared.kind.Kind.{Kind}
use Rattle.tam_graph.specs.declared.kind.Kind.TheVariants.{Cond, Switch as Choose, Enter}
use Rattle.tam_graph.specs.Graphs.{Graph, kind_at}
use Rattle.tam_split.specs.Blocks.{block_graph}
use Rattle.tam_split.specs.Partitions.{Parts, class_at, directly_before}
use Rattle.tam_split.specs.GraphPartitions.{Partitions}
use Rattle.tam_world.specs.Worlds.{its_code}
use Rattle.tam_flow.specs.Journals.{State, has_run}
use Rattle.tam_flow.specs.Reached.{IsThere}
use Rattle.tl0_code.specs.Machines.{Machine}
use Rattle.tl0_keep.specs.Compiled.{parts_at, waits_for}
use Rattle.tl0_keep.proofs.code.ThreadKinds.{ThreadKind, Entry, Class, Then_of, Else_of, Source, Word_of, Behind, Opened, Begun, number_of_thread}
use Rattle.tl0_keep.proofs.code.ThreadKinds.{IsThread, sources_of}
use Rattle.tl0_keep.proofs.code.ThreadKinds.{inlet_nodes_in, classes_to}
use Rattle.tl0_keep.proofs.runs.Keeps.{Owed, ticket, parts_in, HasRun, PostedAt, ChoseThen, ChoseElse, ReasonAt, Given, Keeps}
use Rattle.tl0_keep.proofs.code.CodeFacts.{CodeFacts}
use Rattle.tl0_keep.proofs.runs.Taking.{Takes}
use Rattle.tl0_keep.proofs.runs.Begins.{with_ran, begins}
use Rattle.tl0_keep.proofs.runs.QuietRuns.{class-source}

-- different elements become different
distinct-map : {X Y : Type 0} (f : X → Y) → ((x y : X) → f x ≡ f y → x ≡ y) → (xs : List X) → Distinct xs → Distinct (map f xs)
distinct-map f one [] d = tt
distinct-map f one (x ∷ xs) d = (λ h. let r = in-map f (f x) xs h in d.0 (subst (λ z. In z xs) (one r.0 x r.2) r.1), distinct-map f one xs d.1)

module _ (g : Graph) (all : Partitions) (facts : CodeFacts g all) (m : Machine) (s : State) (others : List (ℕ × ThreadKind)) (keeps : Keeps g all m s others [])
    (takes : Takes m.table) (b c : ℕ) (l : IsThere s.world takes.frame)
    (thread : IsThread (its_code g s.world takes.frame) (parts_in g all s others takes.frame) (Class b c))
    (number : number_of_thread (its_code g s.world takes.frame) (parts_in g all s others takes.frame) (Class b c) ≡ takes.thread) where
  -- the frame, and the runs with this one
  abbrev pub i : ℕ
  i = takes.frame

  abbrev pub runs : List (ℕ × ℕ × ℕ)
  runs = (takes.frame, b, c) ∷ s.ran

  -- the partition of the block
  abbrev pub parts : Parts
  parts = parts_at (parts_in g all s others takes.frame) b

  -- the classes directly behind
  abbrev pub behind : List ℕ
  behind = filter (λ d. directly_before (block_graph (its_code g s.world takes.frame) b).edges (parts_at (parts_in g all s others takes.frame) b) c d)
      (below (length (parts_at (parts_in g all s others takes.frame) b)))

  abbrev pub owed : List Owed
  owed = map (λ d. ticket takes.frame (Class b d) (Behind c)) behind

  run-cases : (j d k : ℕ) → has_run (with_ran s runs) j d k ≡ true → (has_run s j d k ≡ true) ⊎ ((i ≡ j) × (b ≡ d) × (c ≡ k))
  run-cases j d k h = go ((i == j) && ((b == d) && (c == k))) refl
    where
      go : (t : Bool) → ((i == j) && ((b == d) && (c == k))) ≡ t → (has_run s j d k ≡ true) ⊎ ((i ≡ j) × (b ≡ d) × (c ≡ k))
      go true p = inr (
        number-eq i j (and-left (i == j) ((b == d) && (c == k)) p),
        number-eq b d (and-left (b == d) (c == k) (and-right (i == j) ((b == d) && (c == k)) p)),
        number-eq c k (and-right (b == d) (c == k) (and-right (i == j) ((b == d) && (c == k)) p)),
      )
      go false p = inl (rw (any_of, p) at h)

  run-on : (j d k : ℕ) → has_run s j d k ≡ true → has_run (with_ran s runs) j d k ≡ true
  run-on j d k h = go ((i == j) && ((b == d) && (c == k))) refl
    where
      go : (t : Bool) → ((i == j) && ((b == d) && (c == k))) ≡ t → has_run (with_ran s runs) j d k ≡ true
      go true q = rw (any_of, q) refl
      go false q = rw (any_of, q) h

  run-now : has_run (with_ran s runs) i b c ≡ true
  run-now = rw (any_of, true-both (i == i) ((b == b) && (c == c)) (self-eq i) (true-both (b == b) (c == c) (self-eq b) (self-eq c))) refl

  -- it hasn't run
  pub fresh : has_run s i b c ≡ true → ⊥
  fresh h = ((keeps.threads takes.frame (Class b c) l thread).ready
      (subst (λ (ts : List ℕ). In (number_of_thread (its_code g s.world takes.frame) (parts_in g all s others takes.frame) (Class b c)) ts) (sym takes.was)
      (inl (sym number)))).1 h

  on : (j : ℕ) (o : ThreadKind) → HasRun g all s others j o → HasRun g all (with_ran s runs) others j o
  on j (Class d k) h = run-on j d k h
  on j Entry h = h
  on j (Then_of x) h = h
  on j (Else_of x) h = h

  back : (j : ℕ) (o : ThreadKind) → HasRun g all (with_ran s runs) others j o → HasRun g all s others j o ⊎ ((i ≡ j) × (Class b c ≡ o))
  back j (Class d k) h = ⊎_elim inl (λ e. inr (e.0, ap (λ z. Class z c) e.1 ∙ ap (Class d) e.2)) (run-cases j d k h)
  back j Entry h = inl h
  back j (Then_of x) h = inl h
  back j (Else_of x) h = inl h

  reason-on : (j : ℕ) (o : ThreadKind) (t : Source) → ReasonAt g all s others (its_code g s.world j) j o t → ReasonAt g all (with_ran s runs) others
      (its_code g s.world j) j o t
  reason-on j (Class d k) (Word_of x) h = posted (kind_at (its_code g s.world j) x) h
    where
      posted : (z : Kind) → PostedAt g all s others (its_code g s.world j) j x z → PostedAt g all (with_ran s runs) others (its_code g s.world j) j x z
      posted (Enter e) h = h
      posted z h = h
  reason-on j (Class d k) (Behind e) h = run-on j d e h
  reason-on j (Class d k) Opened h = h
  reason-on j (Class d k) Begun h = h
  reason-on j Entry t h = h
  reason-on j (Then_of x) t h = chose (kind_at (its_code g s.world j) x) h
    where
      chose : (z : Kind) → ChoseThen g all s others (its_code g s.world j) j z → ChoseThen g all (with_ran s runs) others (its_code g s.world j) j z
      chose (Cond p y n) h = h
      chose (Choose d k a) h = h
      chose z h = absurd h
  reason-on j (Else_of x) t h = chose (kind_at (its_code g s.world j) x) h
    where
      chose : (z : Kind) → ChoseElse g all s others (its_code g s.world j) j z → ChoseElse g all (with_ran s runs) others (its_code g s.world j) j z
      chose (Cond p y n) h = h
      chose (Choose d k a) h = h
      chose z h = absurd h

  given-on : (j : ℕ) (o : ThreadKind) (t : Source) → Given g all s others j o t → Given g all (with_ran s runs) others j o t
  given-on j o t h = record { there = h.there; thread = h.thread; source = h.source; reason = reason-on j o t h.reason }

  -- a class with the source Behind c is directly behind it
  is-behind : (k : ℕ) → k < length parts → In (Behind c) (sources_of (its_code g s.world takes.frame) (parts_in g all s others takes.frame) (Class b k))
      → In k behind
  is-behind k low h = ⊎_elim word (λ r. ⊎_elim class opened r) (class-source (block_graph (its_code g s.world takes.frame) b) parts k (Behind c) h)
    where
      Goal : Type 0
      Goal = In k behind

      behind-word : {x : ℕ} → Behind c ≡ Word_of x → ⊥
      behind-word e = cc

      behind-opened : Behind c ≡ Opened → ⊥
      behind-opened e = cc

      same : {d : ℕ} → Behind c ≡ Behind d → d ≡ c
      same e = cc

      word : (x : ℕ) × (Behind c ≡ Word_of x) × In x (inlet_nodes_in (block_graph (its_code g s.world takes.frame) b) (class_at parts k)) → In k behind
      word r = absurd (behind-word r.1)

      opened : Behind c ≡ Opened → In k behind
      opened e = absurd (behind-opened e)

      class : (d : ℕ) × (Behind c ≡ Behind d) × In d (classes_to (block_graph (its_code g s.world takes.frame) b) parts k) → In k behind
      class r =
          let m = in-filter (λ d. directly_before (block_graph (its_code g s.world takes.frame) b).edges parts d k) r.0 (below (length parts)) r.2 in
          filter-in (λ d. directly_before (block_graph (its_code g s.world takes.frame) b).edges parts c d) k (below (length parts))
          (below-in k (length parts) low)
          (subst (λ d. directly_before (block_graph (its_code g s.world takes.frame) b).edges parts d k ≡ true) (same r.1) m.1)

  reason-back : (j : ℕ) (o : ThreadKind) (t : Source) → IsThread (its_code g s.world j) (parts_in g all s others j) o
      → In t (sources_of (its_code g s.world j) (parts_in g all s others j) o) → ReasonAt g all (with_ran s runs) others (its_code g s.world j) j o t
      → ReasonAt g all s others (its_code g s.world j) j o t ⊎ In (ticket j o t) owed
  reason-back j (Class d k) (Word_of x) th so h = inl (posted (kind_at (its_code g s.world j) x) h)
    where
      posted : (z : Kind) → PostedAt g all (with_ran s runs) others (its_code g s.world j) j x z → PostedAt g all s others (its_code g s.world j) j x z
      posted (Enter e) h = h
      posted z h = h
  reason-back j (Class d k) (Behind e) th so h = ⊎_elim inl (λ q. inr (mine q.0 q.1 q.2 th so)) (run-cases j d e h)
    where
      mine : i ≡ j → b ≡ d → c ≡ e → IsThread (its_code g s.world j) (parts_in g all s others j) (Class d k)
          → In (Behind e) (sources_of (its_code g s.world j) (parts_in g all s others j) (Class d k)) → In (ticket j (Class d k) (Behind e)) owed
      mine p q r th so =
          let th : IsThread (its_code g s.world takes.frame) (parts_in g all s others takes.frame) (Class b k) =
          subst (λ z. IsThread (its_code g s.world takes.frame) (parts_in g all s others takes.frame) (Class z k)) (sym q)
          (subst (λ z. IsThread (its_code g s.world z) (parts_in g all s others z) (Class d k)) (sym p) th) in
          let so : In (Behind c) (sources_of (its_code g s.world takes.frame) (parts_in g all s others takes.frame) (Class b k)) =
          subst (λ z. In (Behind z) (sources_of (its_code g s.world takes.frame) (parts_in g all s others takes.frame) (Class b k))) (sym r)
          (subst (λ z. In (Behind e) (sources_of (its_code g s.world takes.frame) (parts_in g all s others takes.frame) (Class z k))) (sym q)
          (subst (λ z. In (Behind e) (sources_of (its_code g s.world z) (parts_in g all s others z) (Class d k))) (sym p) so)) in
          subst (λ (z : Owed). In z owed) (ap (λ z. ticket z (Class b k) (Behind c)) p
          ∙ (ap (λ z. ticket j (Class z k) (Behind c)) q ∙ ap (λ z. ticket j (Class d k) (Behind z)) r))
          (map-in (λ d. ticket takes.frame (Class b d) (Behind c)) k behind (is-behind k th.1 so))
  reason-back j (Class d k) Opened th so h = inl h
  reason-back j (Class d k) Begun th so h = inl h
  reason-back j Entry t th so h = inl h
  reason-back j (Then_of x) t th so h = inl (chose (kind_at (its_code g s.world j) x) h)
    where
      chose : (z : Kind) → ChoseThen g all (with_ran s runs) others (its_code g s.world j) j z → ChoseThen g all s others (its_code g s.world j) j z
      chose (Cond p y n) h = h
      chose (Choose d k a) h = h
      chose z h = absurd h
  reason-back j (Else_of x) t th so h = inl (chose (kind_at (its_code g s.world j) x) h)
    where
      chose : (z : Kind) → ChoseElse g all (with_ran s runs) others (its_code g s.world j) j z → ChoseElse g all s others (its_code g s.world j) j z
      chose (Cond p y n) h = h
      chose (Choose d k a) h = h
      chose z h = absurd h

  given-back : (j : ℕ) (o : ThreadKind) (t : Source) → Given g all (with_ran s runs) others j o t → Given g all s others j o t ⊎ In (ticket j o t) owed
  given-back j o t h = ⊎_elim (λ r. inl (record { there = h.there; thread = h.thread; source = h.source; reason = r })) inr
      (reason-back j o t h.thread h.source h.reason)

  due-new : (j : ℕ) (o : ThreadKind) (t : Source) → In (ticket j o t) owed → Given g all s others j o t → ⊥
  due-new j o t h given =
      let r = in-map (λ d. ticket takes.frame (Class b d) (Behind c)) (ticket j o t) behind h in
      fresh (subst (λ (z : Owed). Given g all s others z.0 z.1.thread z.1.source) (sym r.2) given).reason

  due-given : (j : ℕ) (o : ThreadKind) (t : Source) → In (ticket j o t) owed → Given g all (with_ran s runs) others j o t
  due-given j o t h =
      let r = in-map (λ d. ticket takes.frame (Class b d) (Behind c)) (ticket j o t) behind h in
      subst (λ (z : Owed). Given g all (with_ran s runs) others z.0 z.1.thread z.1.source) r.2 (mine r.0 r.1)
    where
      mine : (k : ℕ) → In k behind → Given g all (with_ran s runs) others takes.frame (Class b k) (Behind c)
      mine k among =
          let f = in-filter (λ d. directly_before (block_graph (its_code g s.world takes.frame) b).edges parts c d) k (below (length parts)) among in
          record {
            there = l;
            thread = (thread.0, in-below k (length parts) f.0);
            source = right-in (Behind c) (map Word_of (inlet_nodes_in (block_graph (its_code g s.world takes.frame) b) (class_at parts k))) _
                (left-in (Behind c) (map Behind (classes_to (block_graph (its_code g s.world takes.frame) b) parts k))
                (where_so (waits_for (block_graph (its_code g s.world takes.frame) b) parts k == 0) Opened)
                (map-in Behind c (classes_to (block_graph (its_code g s.world takes.frame) b) parts k)
                (filter-in (λ d. directly_before (block_graph (its_code g s.world takes.frame) b).edges parts d k) c (below (length parts))
                (below-in c (length parts) thread.1) f.1)));
            reason = run-now;
          }

  once : Distinct owed
  once = distinct-map (λ d. ticket takes.frame (Class b d) (Behind c)) (λ x y e. classes (ap (λ (z : Owed). z.1.thread) e)) behind
      (distinct-filter (λ d. directly_before (block_graph (its_code g s.world takes.frame) b).edges parts c d) (below (length parts))
      (distinct-below (length parts)))
    where
      classes : {x y : ℕ} → Class b x ≡ Class b y → x ≡ y
      classes e = cc

  -- so it starts
  pub class-begins : Keeps g all (record m { table = takes.after }) (record s { ran = (takes.frame, b, c) ∷ s.ran }) others owed
  class-begins = begins g all facts m s others others runs owed keeps takes (Class b c) l thread number on back run-now given-on given-back due-new due-given
      once
      keeps.others_there (λ j d k h. ⊎_elim (λ q. keeps.runs_there j d k q) (λ q. subst (IsThere s.world) q.0 l) (run-cases j d k h))
