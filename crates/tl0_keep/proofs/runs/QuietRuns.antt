-- Where no thread is ready and no message is on its way, no event may follow in the journal.
use Rattle.std.proofs.Common.{◌≡◌, ℕ, zero, suc, ◌<◌, Bool, true, false, not, nat_lt, List, [], ◌∷◌, ◌++◌, map, filter, length, is_none}
use Rattle.std.proofs.Common.{refl, sym, ap, subst, ◌∙◌, inl, inr, ◌⊎◌, arith, true≢false, ◌==◌}
use Rattle.tam_word.specs.Lists.{where_so, below}
use Rattle.tam_word.proofs.Tests.{number-eq, both-true, test-below, eq-number}
use Rattle.tam_word.proofs.Members.{In, in-append, in-map, map-in, flat_map-in, in-filter, in-below, all-in, map-none}
use Rattle.tam_graph.specs.declared.kind.Kind.{Kind}
use Rattle.tam_graph.specs.declared.kind.Kind.TheVariants.{Param, Const, Op as Operate, Seq, Call, Arg, Ret, Give, Alloc, Fetch, Store, Cond}
use Rattle.tam_graph.specs.declared.kind.Kind.TheVariants.{Switch as Choose, Merge}
use Rattle.tam_graph.specs.declared.kind.Kind.TheVariants.{Enter, Leave}
use Rattle.tam_graph.specs.Graphs.{Code, Graph, kind_at, block_at, node_in, node_where, is_enter, is_switch, owner_of, chosen_branch, branch_of_kind}
use Rattle.tam_split.specs.Blocks.{BlockGraph, block_graph, vertex_at}
use Rattle.tam_split.specs.Partitions.{Parts, class_at, directly_before}
use Rattle.tam_split.specs.GraphPartitions.{Partitions}
use Rattle.tam_split.proofs.Firers.{kind-there}
use Rattle.tam_world.specs.Worlds.{activation_at, its_code, has_word, has_entered}
use Rattle.tam_flow.specs.Journals.{State, Event, Run, Deliver, has_run, on_their_way, may_follow, may_run, may_arrive, block_of_act, parts_of_act}
use Rattle.tam_flow.specs.Reached.{IsThere, IsReached, Has, WordSource}
use Rattle.tam_flow.proofs.SingleRuns.{MayRun, may_run-parts}
use Rattle.tam_flow.proofs.OnTheWay.{none-on_way}
use Rattle.tam_flow.proofs.ActivationLists.{has-word}
use Rattle.frame_tables.specs.FrameTables.{is_ready}
use Rattle.tl0_code.specs.Machines.{Machine}
use Rattle.tl0_code.specs.ThreadCode.{code_text, plain}
use Rattle.tl0_keep.specs.Compiled.{compiled_with, parts_at, yes_of, no_of, waits_for, is_choosing}
use Rattle.tl0_keep.proofs.code.ThreadKinds.{ThreadKind, Entry, Class, Then_of, Else_of, Source, Word_of, Behind, Opened, Begun, IsThread, sources_of}
use Rattle.tl0_keep.proofs.code.ThreadKinds.{class_sources}
use Rattle.tl0_keep.proofs.code.ThreadKinds.{inlet_nodes_in, classes_to, connector_into, opener_of, poster_of}
use Rattle.tl0_keep.proofs.runs.Keeps.{parts_in, HasRun, OneRan, PostedAt, ChoseThen, ChoseElse, ReasonAt, Given, Rests}
use Rattle.tl0_keep.proofs.code.CodeFacts.{TextFacts, CodeFacts}
use Rattle.tl0_keep.proofs.runs.Spending.{distinct-within}
use Rattle.tl0_keep.proofs.runs.Taking.{none-ready}

-- a source of a class is the word of one of its inlets, a class directly before it, or its opening
pub class-source : (b : BlockGraph) (parts : Parts) (k : ℕ) (t : Source) → In t (class_sources b parts k)
    → ((x : ℕ) × (t ≡ Word_of x) × In x (inlet_nodes_in b (class_at parts k))) ⊎ (((d : ℕ) × (t ≡ Behind d) × In d (classes_to b parts k)) ⊎ (t ≡ Opened))
class-source b parts k t h =
    elim (in-append t (map Word_of (inlet_nodes_in b (class_at parts k))) (map Behind (classes_to b parts k) ++ where_so (waits_for b parts k == 0) Opened) h) [
      | inl i ↦ (let r = in-map Word_of t (inlet_nodes_in b (class_at parts k)) i in inl (r.0, sym r.2, r.1))
      | inr i ↦ elim (in-append t (map Behind (classes_to b parts k)) (where_so (waits_for b parts k == 0) Opened) i) [
        | inl j ↦ (let r = in-map Behind t (classes_to b parts k) j in inr (inl (r.0, sym r.2, r.1)))
        | inr j ↦ inr (inr (opened (waits_for b parts k == 0) j))
      ]
    ]
  where
    opened : (z : Bool) → In t (where_so z Opened) → t ≡ Opened
    opened true (inl e) = sym e
    opened true (inr i) = absurd i
    opened false i = absurd i

module _ (g : Graph) (all : Partitions) (facts : CodeFacts g all) (args : List ℕ) (m : Machine) (s : State) (others : List (ℕ × ThreadKind))
    (rests : Rests g all m s others) (reached : IsReached g all args s) (none : is_ready m.table ≡ false) (empty : m.pending ≡ []) where
  -- the code's facts
  text : (i : ℕ) → IsThere s.world i
      → TextFacts g (its_code g s.world i) (parts_in g all s others i) (code_text (plain (compiled_with g all)) (activation_at s.world i).code)
  text i l = facts.texts (activation_at s.world i).code (rests.keeps.frames.known i l)

  -- a thread all of whose tickets are given has run
  must-run : (i : ℕ) (n : ThreadKind) → IsThere s.world i → IsThread (its_code g s.world i) (parts_in g all s others i) n
      → ((t : Source) → In t (sources_of (its_code g s.world i) (parts_in g all s others i) n) → Given g all s others i n t) → HasRun g all s others i n
  must-run i n l h f =
      let k = rests.keeps.threads i n l h in
      let b = distinct-within (sources_of (its_code g s.world i) (parts_in g all s others i) n) k.spent ((text i l).sources_once n h)
      (λ t j. elim (k.spent_or_due t (f t j)) [ inl a ↦ a | inr d ↦ absurd d ]) in
      let e = k.sum in
      elim (k.ran_or_ready (omega arith)) [ inl r ↦ r | inr r ↦ absurd (none-ready m.table rests.keeps.turns rests.rested none i _ r) ]

  -- a connector that was chosen has run
  chose-then : (i x : ℕ) → IsThere s.world i → x < length (its_code g s.world i).nodes → is_choosing (kind_at (its_code g s.world i) x) ≡ true
      → ReasonAt g all s others (its_code g s.world i) i (Then_of x) Begun → In (i, Then_of x) others
  chose-then i x l lx c r = must-run i (Then_of x) l (lx, c) (λ t h. record { there = l; thread = (lx, c); source = h; reason = r })

  -- on the other side
  chose-else : (i x : ℕ) → IsThere s.world i → x < length (its_code g s.world i).nodes → is_choosing (kind_at (its_code g s.world i) x) ≡ true
      → ReasonAt g all s others (its_code g s.world i) i (Else_of x) Begun → In (i, Else_of x) others
  chose-else i x l lx c r = must-run i (Else_of x) l (lx, c) (λ t h. record { there = l; thread = (lx, c); source = h; reason = r })

  -- a node that chooses is there
  chooser-there : (i x : ℕ) (k : Kind) → kind_at (its_code g s.world i) x ≡ k → is_choosing k ≡ true → x < length (its_code g s.world i).nodes
  chooser-there i x k e c = in-below x (length (its_code g s.world i).nodes)
      (kind-there (its_code g s.world i) x is_choosing refl (ap is_choosing e ∙ c))

  -- so has that into block b, where it is chosen by its side
  ran-connector : (i x d b : ℕ) → IsThere s.world i → x < length (its_code g s.world i).nodes → is_choosing (kind_at (its_code g s.world i) x) ≡ true
      → (yes_of (kind_at (its_code g s.world i) d) ≡ b → ReasonAt g all s others (its_code g s.world i) i (Then_of x) Begun)
      → ((yes_of (kind_at (its_code g s.world i) d) ≡ b → ⊥) → ReasonAt g all s others (its_code g s.world i) i (Else_of x) Begun)
      → In (i, connector_into (its_code g s.world i) x d b) others
  ran-connector i x d b l lx c toward aside = go (yes_of (kind_at (its_code g s.world i) d) == b) refl
    where
      go : (z : Bool) → (yes_of (kind_at (its_code g s.world i) d) == b) ≡ z → In (i, connector_into (its_code g s.world i) x d b) others
      go true p = subst (λ z. In {X = ℕ × ThreadKind} (i, elim z [ true ↦ Then_of x | false ↦ Else_of x ]) others) (sym p)
          (chose-then i x l lx c (toward (number-eq _ b p)))
      go false p = subst (λ z. In {X = ℕ × ThreadKind} (i, elim z [ true ↦ Then_of x | false ↦ Else_of x ]) others) (sym p)
          (chose-else i x l lx c (aside (λ e. true≢false (sym (eq-number _ b e) ∙ p))))

  -- an `in` with a word is posted
  enter-posted : (i x k u : ℕ) → IsThere s.world i → x < length (its_code g s.world i).nodes → kind_at (its_code g s.world i) x ≡ Enter k → Has s i x u
      → has_word s.world i x ≡ true → OneRan g all s others i (poster_of (its_code g s.world i) x k)
  enter-posted i x k u l lx e h hw = from (subst (WordSource g all s i x u) e (reached.words.sources i x u h))
    where
      c : Code
      c = its_code g s.world i

      from : WordSource g all s i x u (Enter k) → OneRan g all s others i (poster_of (its_code g s.world i) x k)
      from (y, d, a, v, ky, bx, r, ht, ha) = cond (text i l).switch_cond
        where
          side : (p yy nn v : ℕ) → kind_at (its_code g s.world i) d ≡ Cond p yy nn → block_at (its_code g s.world i) x ≡ chosen_branch (its_code g s.world i)
              d v
              → (block_at (its_code g s.world i) x ≡ yy) ⊎ (block_at (its_code g s.world i) x ≡ nn)
          side p yy nn zero q z = inr (z ∙ ap (λ k. branch_of_kind k 0) q)
          side p yy nn (suc v) q z = inl (z ∙ ap (λ k. branch_of_kind k (suc v)) q)

          found : (b : ℕ) → b ≡ block_at (its_code g s.world i) x → In x (node_in (its_code g s.world i) b (is_enter k))
          found b q = subst (λ z. In x (node_in (its_code g s.world i) z (is_enter k))) (sym q)
              (subst (λ (l : List ℕ). In x l) (sym ((text i l).enter_at x k lx e)) (inl refl))

          cond : ((x d k a : ℕ) → kind_at (its_code g s.world i) x ≡ Choose d k a → (p : ℕ)
              × ((y : ℕ) × ((n : ℕ) × (kind_at (its_code g s.world i) d ≡ Cond p y n))))
              → OneRan g all s others i (poster_of (its_code g s.world i) x k)
          cond f = with_cond (f y d k a ky).0 (f y d k a ky).1.0 (f y d k a ky).1.1.0 (f y d k a ky).1.1.1
            where
              with_cond : (p yy nn : ℕ) → kind_at (its_code g s.world i) d ≡ Cond p yy nn → OneRan g all s others i (poster_of (its_code g s.world i) x k)
              with_cond p yy nn kd = (
                connector_into (its_code g s.world i) y d (block_at (its_code g s.world i) x),
                flat_map-in (λ d. map (λ y. connector_into (its_code g s.world i) y d (block_at (its_code g s.world i) x))
                    (node_where (its_code g s.world i) (is_switch d k))) d _
                    (owner_of (its_code g s.world i) (block_at (its_code g s.world i) x)) (subst (λ (l : List ℕ). In d l) (sym owner) (inl refl))
                    (map-in (λ y. connector_into (its_code g s.world i) y d (block_at (its_code g s.world i) x)) y
                    (node_where (its_code g s.world i) (is_switch d k))
                    (subst (λ (l : List ℕ). In y l) (sym ((text i l).switch_at y d k a ky)) (inl refl))),
                ran-connector i y d (block_at (its_code g s.world i) x) l (chooser-there i y (Choose d k a) ky refl) (ap is_choosing ky)
                    (λ q. subst (λ z. ChoseThen g all s others (its_code g s.world i) i z) (sym ky) (
                      x,
                      found (yes_of (kind_at (its_code g s.world i) d)) q,
                      hw,
                    ))
                    (λ q. subst (λ z. ChoseElse g all s others (its_code g s.world i) i z) (sym ky) (
                      x,
                      found (no_of (kind_at (its_code g s.world i) d)) (elim (side p yy nn v kd bx) [
                        | inl w ↦ absurd (q (ap yes_of kd ∙ sym w))
                        | inr w ↦ ap no_of kd ∙ sym w
                      ]),
                      hw,
                    )),
              )
                where
                  owner : owner_of (its_code g s.world i) (block_at (its_code g s.world i) x) ≡ d ∷ []
                  owner = let w = (text i l).branches d p yy nn kd in elim (side p yy nn v kd bx) [
                    | inl z ↦ ap (owner_of (its_code g s.world i)) z ∙ w.0
                    | inr z ↦ ap (owner_of (its_code g s.world i)) z ∙ w.1
                  ]

  -- who opens a block that was entered has run
  opened : (i b : ℕ) → IsThere s.world i → b < length (its_code g s.world i).owners → has_entered s.world i b ≡ true
      → OneRan g all s others i (opener_of (its_code g s.world i) b)
  opened i zero l lb h = (Entry, inl refl, must-run i Entry l tt (λ t q. record { there = l; thread = tt; source = q; reason = tt }))
  opened i (suc b) l lb h = owner ((text i l).owned (suc b) lb (omega arith)).0 ((text i l).owned (suc b) lb (omega arith)).1
    where
      cond : (d p y n : ℕ) → owner_of (its_code g s.world i) (suc b) ≡ d ∷ [] → kind_at (its_code g s.world i) d ≡ Cond p y n → (suc b ≡ y) ⊎ (suc b ≡ n)
          → OneRan g all s others i (opener_of (its_code g s.world i) (suc b))
      cond d p y n o kd side = (
        connector_into (its_code g s.world i) d d (suc b),
        map-in (λ d. connector_into (its_code g s.world i) d d (suc b)) d (owner_of (its_code g s.world i) (suc b))
            (subst (λ (l : List ℕ). In d l) (sym o) (inl refl)),
        ran-connector i d d (suc b) l (chooser-there i d (Cond p y n) kd refl) (ap is_choosing kd)
            (λ q. subst (λ z. ChoseThen g all s others (its_code g s.world i) i z) (sym kd)
            (subst (λ z. has_entered s.world i z ≡ true) (sym q ∙ ap yes_of kd) h))
            (λ q. subst (λ z. ChoseElse g all s others (its_code g s.world i) i z) (sym kd) (elim side [
              | inl w ↦ absurd (q (ap yes_of kd ∙ sym w))
              | inr w ↦ subst (λ z. has_entered s.world i z ≡ true) w h
            ])),
      )

      owner : (d : ℕ) → owner_of (its_code g s.world i) (suc b) ≡ d ∷ [] → OneRan g all s others i (opener_of (its_code g s.world i) (suc b))
      owner d o = let r = (text i l).owner_cond (suc b) d o in cond d r.0 r.1.0 r.1.1.0 o r.1.1.1.0 r.1.1.1.1

  -- each source of a class that may run is given
  class-given : (i b k : ℕ) → MayRun g all s i b k → IsThread (its_code g s.world i) (parts_in g all s others i) (Class b k) → (t : Source)
      → In t (sources_of (its_code g s.world i) (parts_in g all s others i) (Class b k)) → Given g all s others i (Class b k) t
  class-given i b k may th t h = record { there = may.act; thread = th; source = h; reason = reason }
    where
      word : (x : ℕ) → In x (inlet_nodes_in (block_graph (its_code g s.world i) b) (class_at (parts_at (parts_in g all s others i) b) k))
          → has_word s.world i x ≡ true
      word x q =
          let r = in-map (λ y. (vertex_at (block_graph (its_code g s.world i) b) y).node) x
          (filter (λ y. (vertex_at (block_graph (its_code g s.world i) b) y).inlet) (class_at (parts_at (parts_in g all s others i) b) k)) q in
          let f = in-filter (λ y. (vertex_at (block_graph (its_code g s.world i) b) y).inlet) r.0 (class_at (parts_at (parts_in g all s others i) b) k) r.1 in
          let w = all-in (λ y. elim (vertex_at (block_of_act g s i b) y).inlet [
            | true ↦ has_word s.world i (vertex_at (block_of_act g s i b) y).node
            | false
                ↦ true
          ])
          (class_at (parts_of_act g all s i b) k) may.words r.0 f.0 in
          subst (λ z. has_word s.world i z ≡ true) r.2 (tested (vertex_at (block_graph (its_code g s.world i) b) r.0).inlet f.1 w)
        where
          tested : {z : Bool} (v : Bool) → v ≡ true → elim v [ true ↦ z | false ↦ true ] ≡ true → z ≡ true
          tested true p w = w
          tested false p w = absurd (true≢false (sym p))

      posted : (x : ℕ) → x < length (its_code g s.world i).nodes → has_word s.world i x ≡ true → (z : Kind) → kind_at (its_code g s.world i) x ≡ z
          → PostedAt g all s others (its_code g s.world i) i x z
      posted x lx w (Enter k) e = let r = has-word (activation_at s.world i).words x w in enter-posted i x k r.0 may.act lx e r.1 w
      posted x lx w (Param j) e = w
      posted x lx w (Const j) e = w
      posted x lx w (Operate o y z) e = w
      posted x lx w (Seq y z) e = w
      posted x lx w (Call d) e = w
      posted x lx w (Arg f y z) e = w
      posted x lx w (Ret f y) e = w
      posted x lx w (Give y z) e = w
      posted x lx w (Alloc y) e = w
      posted x lx w (Fetch y z) e = w
      posted x lx w (Store y z v) e = w
      posted x lx w (Cond y z v) e = w
      posted x lx w (Choose y z v) e = w
      posted x lx w (Merge y z) e = w
      posted x lx w (Leave y z) e = w

      ran : (d : ℕ) → In d (classes_to (block_graph (its_code g s.world i) b) (parts_at (parts_in g all s others i) b) k) → has_run s i b d ≡ true
      ran d q =
          let f = in-filter (λ d. directly_before (block_graph (its_code g s.world i) b).edges (parts_at (parts_in g all s others i) b) d k) d
          (below (length (parts_at (parts_in g all s others i) b))) q in
          let w = all-in (λ d. elim (directly_before (block_of_act g s i b).edges (parts_of_act g all s i b) d k) [ true ↦ has_run s i b d | false ↦ true ])
          (below (length (parts_of_act g all s i b))) may.before d f.0 in
          tested (directly_before (block_graph (its_code g s.world i) b).edges (parts_at (parts_in g all s others i) b) d k) f.1 w
        where
          tested : {z : Bool} (v : Bool) → v ≡ true → elim v [ true ↦ z | false ↦ true ] ≡ true → z ≡ true
          tested true p w = w
          tested false p w = absurd (true≢false (sym p))

      reason : ReasonAt g all s others (its_code g s.world i) i (Class b k) t
      reason = elim (class-source (block_graph (its_code g s.world i) b) (parts_at (parts_in g all s others i) b) k t h) [
        | inl q ↦ subst (ReasonAt g all s others (its_code g s.world i) i (Class b k)) (sym q.1)
            (posted q.0 ((text i may.act).source_inlet b k q.0 th
            (subst (λ z. In z (sources_of (its_code g s.world i) (parts_in g all s others i) (Class b k))) q.1 h)).0
            (word q.0 q.2) (kind_at (its_code g s.world i) q.0) refl)
        | inr (inl q) ↦ subst (ReasonAt g all s others (its_code g s.world i) i (Class b k)) (sym q.1) (ran q.0 q.2)
        | inr (inr q) ↦ subst (ReasonAt g all s others (its_code g s.world i) i (Class b k)) (sym q)
            (opened i b may.act (reached.activations.blocks i b may.act may.entered) may.entered)
      ]

  -- no class may run
  none-runs : (i b k : ℕ) → may_run g all s i b k ≡ true → ⊥
  none-runs i b k h =
      let may = may_run-parts g all s i b k h in
      let th : IsThread (its_code g s.world i) (parts_in g all s others i) (Class b k) = (reached.activations.blocks i b may.act may.entered, may.class) in
      true≢false (sym (must-run i (Class b k) may.act th (class-given i b k may th)) ∙ may.not_ran)

  -- no message may arrive
  none-arrives : (n : ℕ) → may_arrive s n ≡ true → ⊥
  none-arrives n h =
      let p = both-true (nat_lt n (length s.sent)) _ h in
      let q = none-on_way s (map-none _ (on_their_way s) (rests.keeps.messages.pending ∙ empty)) n (test-below n (length s.sent) p.0) in
      true≢false (sym p.1 ∙ ap not q)

  -- so no event may follow
  pub none-follows : (e : Event) → may_follow g all s e ≡ false
  none-follows e = go (may_follow g all s e) refl e
    where
      wrong : (d : Event) → may_follow g all s d ≡ true → ⊥
      wrong (Run i b k) p = none-runs i b k (both-true (is_none s.fault) (may_run g all s i b k) p).1
      wrong (Deliver n) p = none-arrives n (both-true (is_none s.fault) (may_arrive s n) p).1

      go : (t : Bool) → may_follow g all s e ≡ t → Event → may_follow g all s e ≡ false
      go true p d = absurd (wrong e p)
      go false p d = p
