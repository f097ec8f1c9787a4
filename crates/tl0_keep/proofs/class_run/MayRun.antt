-- A class whose thread is ready may run: its tickets are spent, so its block is entered, its inlets have words, and the classes before it ran.
use Rattle.std.proofs.Common.{◌≡◌, ◌≢◌, ℕ, zero, suc, ◌+◌, ◌<◌, ◌≤◌, Bool, true, false, not, ◌==◌, ◌&&◌, ◌||◌, nat_lt, List, [], ◌∷◌, ◌++◌, map}
use Rattle.std.proofs.Common.{filter, flat_map, length, Some, slice_get}
use Rattle.std.proofs.Common.{refl, sym, ap, ◌∙◌, subst, inl, inr, ◌⊎◌, ⊎_elim, arith, true≢false}
use Rattle.tam_word.specs.Lists.{all_of, below}
use Rattle.tam_word.proofs.Members.{In, in-map, map-in, filter-in, in-flat_map, left-in, right-in}
use Rattle.tam_word.proofs.Tests.{below-test, number-eq, eq-number, true-both}
use Rattle.tam_graph.specs.declared.kind.Kind.{Kind}
use Rattle.tam_graph.specs.declared.kind.Kind.TheVariants.{Cond, Switch, Enter}
use Rattle.tam_graph.specs.Graphs.{Code, Graph, kind_at, block_at, owner_of}
use Rattle.tam_graph.specs.Graphs.{one_or_none, node_where, node_in, is_switch, is_enter}
use Rattle.tam_graph.specs.Accepted.{IsAccepted}
use Rattle.tam_graph.proofs.AcceptedFacts.{node-there}
use Rattle.tam_split.specs.Blocks.{BlockGraph, block_graph, vertex_at}
use Rattle.tam_split.specs.Partitions.{Parts, class_at, directly_before}
use Rattle.tam_split.specs.GraphPartitions.{Partitions}
use Rattle.tam_world.specs.Worlds.{activation_at, its_code, has_word, has_entered}
use Rattle.tam_flow.specs.Journals.{State, has_run, may_run, block_of_act, parts_of_act, inlets_have_words, those_before_ran}
use Rattle.tam_flow.specs.Reached.{IsThere, IsReached, kind_of}
use Rattle.tam_flow.proofs.ActivationLists.{has-word}
use Rattle.tam_flow.proofs.KeptRuns.{IsKeptState}
use Rattle.tam_flow.proofs.SentOnce.{HasFired, IsOnceState}
use Rattle.tam_flow.proofs.WordSources.{IsWordState}
use Rattle.tl0_code.specs.ThreadCode.{code_text, plain}
use Rattle.tl0_code.specs.Machines.{Machine}
use Rattle.tl0_keep.specs.Compiled.{compiled_with, parts_at, yes_of, no_of, is_choosing, entry_count}
use Rattle.tl0_keep.proofs.code.ThreadKinds.{ThreadKind, Class, Then_of, Else_of, Source, Word_of, Behind, Opened, Begun, number_of_thread, IsThread}
use Rattle.tl0_keep.proofs.code.ThreadKinds.{sources_of, AreAllParts}
use Rattle.tl0_keep.proofs.code.ThreadKinds.{inlet_nodes_in, classes_to, thread_for, connector_into, poster_of, opener_of}
use Rattle.tl0_keep.proofs.code.Sources.{length-sources}
use Rattle.tl0_keep.proofs.runs.Keeps.{Owed, parts_in, OneRan, PostedAt, HasEntered, ChoseThen, ChoseElse, Given, ThreadKeeps, Keeps}
use Rattle.tl0_keep.proofs.code.CodeFacts.{TextFacts, CodeFacts}
use Rattle.tl0_keep.proofs.class_run.Spent.{all-of}
use Rattle.tl0_keep.proofs.class_run.Slots.{spent-all}
use Rattle.tl0_keep.proofs.class_run.Entered.{inlet-entered}

-- each element passes
all_of-each : {X : Type 0} (test : X → Bool) (xs : List X) → ((x : X) → In x xs → test x ≡ true) → all_of test xs ≡ true
all_of-each test [] h = refl
all_of-each test (x ∷ xs) h = rw (all_of, h x (inl refl)) (all_of-each test xs (λ y i. h y (inr i)))

-- a thread whose count is 0 has spent all its sources
pub zero-spent : (g : Graph) (all : Partitions) (others : List (ℕ × ThreadKind)) (m : Machine) (s : State) (due : List Owed) (j : ℕ) (n : ThreadKind)
    → (h : ThreadKeeps g all m s others due j n) → h.count ≡ 0 → (t : Source) → In t (sources_of (its_code g s.world j) (parts_in g all s others j) n)
    → Given g all s others j n t
zero-spent g all others m s due j n h zero-left t i =
    let enough : length (sources_of (its_code g s.world j) (parts_in g all s others j) n) ≤ length h.spent = omega (arith, h.sum, zero-left) in
    h.given t (all-of h.spent (sources_of (its_code g s.world j) (parts_in g all s others j) n) h.once (λ u k. (h.given u k).source) enough t i)

module _ (g : Graph) (args : List ℕ) (accepted : IsAccepted g) (all : Partitions) (facts : CodeFacts g all) (parts : AreAllParts g all) (s : State)
    (once : IsOnceState g args all s) (words : IsWordState g all s) (state : IsKeptState g all s) (reached : IsReached g all args s)
    (stands : (i y d k a : ℕ) → HasFired g all s i y → kind_of g s.world i y ≡ Switch d k a → HasFired g all s i d)
    (m : Machine) (others : List (ℕ × ThreadKind)) (keeps : Keeps g all m s others []) (i : ℕ) (there : IsThere s.world i) where
  -- its code and what is known of it
  abbrev the_code : Code
  the_code = its_code g s.world i

  facts-of : TextFacts g (its_code g s.world i) (parts_in g all s others i) (code_text (plain (compiled_with g all)) (activation_at s.world i).code)
  facts-of = facts.texts (activation_at s.world i).code (keeps.frames.known i there)

  same-one : {a b : ℕ} → a ∷ [] ≡ b ∷ [] → a ≡ b
  same-one e = cc

  -- a node that chooses is in the code
  choosing-there : (x : ℕ) (k : Kind) → kind_at the_code x ≡ k → is_choosing k ≡ true → x < length the_code.nodes
  choosing-there x k e h = node-there the_code x (λ q. true≢false (sym h ∙ ap is_choosing (sym e ∙ q)))

  -- a connector that has run was chosen
  pub then-chosen : (x : ℕ) → x < length the_code.nodes → is_choosing (kind_at the_code x) ≡ true → In (i, Then_of x) others
      → ChoseThen g all s others the_code i (kind_at the_code x)
  then-chosen x l h r = (spent-all g all others facts m s [] keeps i (Then_of x) there (l, h) r Begun (inl refl)).0.reason

  pub else-chosen : (x : ℕ) → x < length the_code.nodes → is_choosing (kind_at the_code x) ≡ true → In (i, Else_of x) others
      → ChoseElse g all s others the_code i (kind_at the_code x)
  else-chosen x l h r = (spent-all g all others facts m s [] keeps i (Else_of x) there (l, h) r Begun (inl refl)).0.reason

  -- the connector of x into block b, where it has run: by its side
  connector-ran : (x d b : ℕ) (P : Type 0) → In (i, connector_into the_code x d b) others
      → (yes_of (kind_at the_code d) ≡ b → In (i, Then_of x) others → P) → ((yes_of (kind_at the_code d) ≡ b → ⊥) → In (i, Else_of x) others → P) → P
  connector-ran x d b P h yes-side no-side = go (yes_of (kind_at the_code d) == b) refl
    where
      go : (t : Bool) → (yes_of (kind_at the_code d) == b) ≡ t → P
      go true p = yes-side (number-eq (yes_of (kind_at the_code d)) b p)
          (subst (λ t. In {X = ℕ × ThreadKind} (i, elim t [ true ↦ Then_of x | false ↦ Else_of x ]) others) p h)
      go false p = no-side (λ e. true≢false (sym (eq-number (yes_of (kind_at the_code d)) b e) ∙ p))
          (subst (λ t. In {X = ℕ × ThreadKind} (i, elim t [ true ↦ Then_of x | false ↦ Else_of x ]) others) p h)

  -- the block of a branch is the one or the other
  pub record IsBranch (d b : ℕ) : Type 0 where
    pub test : ℕ
    pub yes_block : ℕ
    pub no_block : ℕ
    pub cond : kind_at the_code d ≡ Cond test yes_block no_block
    pub side : (b ≡ yes_block) ⊎ (b ≡ no_block)

  is-branch : (b d : ℕ) → owner_of the_code b ≡ d ∷ [] → IsBranch d b
  is-branch b d o = let r = facts-of.owner_cond b d o in
      record { test = r.0; yes_block = r.1.0; no_block = r.1.1.0; cond = r.1.1.1.0; side = r.1.1.1.1 }

  -- who has opened a block has entered it
  opener-entered : (b : ℕ) → OneRan g all s others i (opener_of the_code b) → has_entered s.world i b ≡ true
  opener-entered zero h = reached.activations.bodies i there
  opener-entered (suc b) (n, among, ran) =
      let r = in-map (λ d. connector_into the_code d d (suc b)) n (owner_of the_code (suc b)) among in
      let o : owner_of the_code (suc b) ≡ r.0 ∷ [] = only-owner (slice_get the_code.owners (suc b)) r.0 r.1 in
      let q = is-branch (suc b) r.0 o in
      let l = choosing-there r.0 (Cond q.test q.yes_block q.no_block) q.cond refl in
      connector-ran r.0 r.0 (suc b) (has_entered s.world i (suc b) ≡ true) (subst (λ z. In (i, z) others) (sym r.2) ran)
      (λ e t. subst (λ z. has_entered s.world i z ≡ true) (sym (ap yes_of q.cond) ∙ e)
      (subst (λ k. ChoseThen g all s others the_code i k) q.cond (then-chosen r.0 l (ap is_choosing q.cond) t)))
      (λ e t. subst (λ z. has_entered s.world i z ≡ true) (⊎_elim (λ z. absurd (e (ap yes_of q.cond ∙ sym z))) (λ z. sym z) q.side)
      (subst (λ k. ChoseElse g all s others the_code i k) q.cond (else-chosen r.0 l (ap is_choosing q.cond) t)))
    where
      only-owner : (o : Rattle.std.proofs.Common.Option (Rattle.std.proofs.Common.Option ℕ)) (d : ℕ) → In d (one_or_none o) → one_or_none o ≡ d ∷ []
      only-owner Rattle.std.proofs.Common.None d m = absurd m
      only-owner (Some Rattle.std.proofs.Common.None) d m = absurd m
      only-owner (Some (Some e)) d (inl q) = ap (λ z. z ∷ []) q
      only-owner (Some (Some e)) d (inr q) = absurd q

  -- an `in` that was posted has a word
  poster-word : (x k : ℕ) → x < length the_code.nodes → kind_at the_code x ≡ Enter k → OneRan g all s others i (poster_of the_code x k)
      → has_word s.world i x ≡ true
  poster-word x k l e (n, among, ran) = with_owner (facts-of.enter_owner x k l e)
    where
      block : ℕ
      block = block_at the_code x

      -- the word that came into its block is its own
      own : (b f : ℕ) → b ≡ block_at the_code x → In f (node_in the_code b (is_enter k)) → has_word s.world i f ≡ true → has_word s.world i x ≡ true
      own b f q m w = one (subst (λ ys. In f ys) (ap (λ z. node_in the_code z (is_enter k)) q ∙ facts-of.enter_at x k l e) m)
        where
          one : In f (x ∷ []) → has_word s.world i x ≡ true
          one (inl z) = subst (λ y. has_word s.world i y ≡ true) (sym z) w
          one (inr z) = absurd z

      with_owner : (d : ℕ) × ((y : ℕ) × ((a : ℕ) × ((owner_of the_code (block_at the_code x) ≡ d ∷ []) × (kind_at the_code y ≡ Switch d k a)
          × (0 < block_at the_code x))))
          → has_word s.world i x ≡ true
      with_owner (d, (y, (a, (owner, switch, high)))) =
          connector-ran y d (block_at the_code x) (has_word s.world i x ≡ true) (subst (λ z. In (i, z) others) is ran)
          (λ q t. toward q (subst (λ z. ChoseThen g all s others the_code i z) switch (then-chosen y ly (ap is_choosing switch) t)))
          (λ q t. aside q (subst (λ z. ChoseElse g all s others the_code i z) switch (else-chosen y ly (ap is_choosing switch) t)))
        where
          ly : y < length the_code.nodes
          ly = choosing-there y (Switch d k a) switch refl

          q : IsBranch d (block_at the_code x)
          q = is-branch (block_at the_code x) d owner

          toward : yes_of (kind_at the_code d) ≡ block_at the_code x → HasEntered g all s others the_code i (yes_of (kind_at the_code d)) k
              → has_word s.world i x ≡ true
          toward z h = own (yes_of (kind_at the_code d)) h.0 z h.1 h.2

          aside : (yes_of (kind_at the_code d) ≡ block_at the_code x → ⊥) → HasEntered g all s others the_code i (no_of (kind_at the_code d)) k
              → has_word s.world i x ≡ true
          aside z h = own (no_of (kind_at the_code d)) h.0 (⊎_elim (λ w. absurd (z (ap yes_of q.cond ∙ sym w))) (λ w. ap no_of q.cond ∙ sym w) q.side) h.1 h.2

          is : n ≡ connector_into the_code y d (block_at the_code x)
          is = by (in-flat_map (λ c. map (λ z. connector_into the_code z c (block_at the_code x)) (node_where the_code (is_switch c k))) n
              (owner_of the_code (block_at the_code x)) among)
            where
              last : (c : ℕ) → d ≡ c → In n (map (λ z. connector_into the_code z c (block_at the_code x)) (node_where the_code (is_switch c k)))
                  → n ≡ connector_into the_code y d (block_at the_code x)
              last c r h = at (subst (λ ys. In n (map (λ z. connector_into the_code z d (block_at the_code x)) ys)) (facts-of.switch_at y d k a switch)
                  (subst (λ c. In n (map (λ z. connector_into the_code z c (block_at the_code x)) (node_where the_code (is_switch c k)))) (sym r) h))
                where
                  at : In n (connector_into the_code y d (block_at the_code x) ∷ []) → n ≡ connector_into the_code y d (block_at the_code x)
                  at (inl w) = sym w
                  at (inr w) = absurd w

              first : (c : ℕ) → In c (d ∷ []) → d ≡ c
              first c (inl w) = w
              first c (inr w) = absurd w

              by : (c : ℕ) × In c (owner_of the_code (block_at the_code x))
                  × In n (map (λ z. connector_into the_code z c (block_at the_code x)) (node_where the_code (is_switch c k)))
                  → n ≡ connector_into the_code y d (block_at the_code x)
              by (c, m, h) = last c (first c (subst (λ l. In c l) owner m)) h

  -- an inlet that was posted has a word
  posted-word : (x : ℕ) (K : Kind) → x < length the_code.nodes → kind_at the_code x ≡ K → PostedAt g all s others the_code i x K → has_word s.world i x ≡ true
  posted-word x (Enter k) l e h = poster-word x k l e h
  posted-word x K l e h = h

  -- the block of a class with a ticket is entered
  pub class-entered : (b k : ℕ) (t : Source) → Given g all s others i (Class b k) t → has_entered s.world i b ≡ true
  class-entered b k (Word_of x) h =
      let r = facts-of.source_inlet b k x h.thread h.source in
      let word = posted-word x (kind_at the_code x) r.0 refl h.reason in
      let u = has-word (activation_at s.world i).words x word in
      subst (λ z. has_entered s.world i z ≡ true) (blocks r.2)
      (inlet-entered g args accepted all facts s once words state reached stands i there x u.0 r.0 r.1 u.1)
    where
      blocks : {a b c d : ℕ} → Class a b ≡ Class c d → a ≡ c
      blocks e = cc
  class-entered b k (Behind d) h = (reached.words.runs_there i b d h.reason).1
  class-entered b k Opened h = opener-entered b h.reason
  class-entered b k Begun h = absurd h.reason

  module _ (b k : ℕ) (thread : IsThread (its_code g s.world i) (parts_in g all s others i) (Class b k))
      (ready : In (number_of_thread (its_code g s.world i) (parts_in g all s others i) (Class b k)) (Rattle.frame_tables.specs.FrameTables.frame_at m.table
      i).ready) where
    the_keeps : ThreadKeeps g all m s others [] i (Class b k)
    the_keeps = keeps.threads i (Class b k) there thread

    given : (t : Source) → In t (sources_of (its_code g s.world i) (parts_in g all s others i) (Class b k)) → Given g all s others i (Class b k) t
    given = zero-spent g all others m s [] i (Class b k) the_keeps (the_keeps.ready ready).0

    entered : has_entered s.world i b ≡ true
    entered = first (sources_of (its_code g s.world i) (parts_in g all s others i) (Class b k)) refl
      where
        first : (ts : List Source) → sources_of (its_code g s.world i) (parts_in g all s others i) (Class b k) ≡ ts → has_entered s.world i b ≡ true
        first [] e = absurd (none (sym (ap length e) ∙ length-sources g (its_code g s.world i) (parts_in g all s others i) (Class b k) thread))
          where
            positive : (n : ℕ) → 0 ≡ entry_count n → ⊥
            positive zero q = omega arith
            positive (suc n) q = omega arith

            none : 0 ≡ (thread_for g (its_code g s.world i) (parts_in g all s others i) (Class b k)).count → ⊥
            none q = positive _ q
        first (t ∷ ts) e = class-entered b k t (given t (subst (λ l. In t l) (sym e) (inl refl)))

    -- the class may run
    pub may-run : may_run g all s i b k ≡ true
    may-run =
        true-both _ _ (below-test i (length s.world.activations) there) (true-both _ _ (below-test k (length the_parts) thread.1)
        (true-both _ _ not-ran (true-both _ _ entered (true-both _ _ inlets before))))
      where
        graph : BlockGraph
        graph = block_graph (its_code g s.world i) b

        the_parts : Parts
        the_parts = parts_at (parts_in g all s others i) b

        not-ran : not (has_run s i b k) ≡ true
        not-ran = go (has_run s i b k) refl
          where
            go : (t : Bool) → has_run s i b k ≡ t → not (has_run s i b k) ≡ true
            go true e = absurd ((the_keeps.ready ready).1 e)
            go false e = ap not e

        inlets : inlets_have_words (block_of_act g s i b) s i (class_at (parts_of_act g all s i b) k) ≡ true
        inlets = all_of-each _ (class_at (parts_of_act g all s i b) k) each
          where
            each : (y : ℕ) → In y (class_at (parts_of_act g all s i b) k)
                → (elim (vertex_at (block_of_act g s i b) y).inlet [ true ↦ has_word s.world i (vertex_at (block_of_act g s i b) y).node | false ↦ true ]) ≡
                true
            each y h = go (vertex_at (block_of_act g s i b) y).inlet refl
              where
                word : (vertex_at (block_of_act g s i b) y).inlet ≡ true → has_word s.world i (vertex_at (block_of_act g s i b) y).node ≡ true
                word e =
                    let x = (vertex_at (block_of_act g s i b) y).node in
                    let source : In (Word_of x) (sources_of (its_code g s.world i) (parts_in g all s others i) (Class b k)) =
                    left-in (Word_of x) (map Word_of (inlet_nodes_in graph (class_at the_parts k))) _
                    (map-in Word_of x (inlet_nodes_in graph (class_at the_parts k))
                    (map-in (λ z. (vertex_at graph z).node) y (filter (λ z. (vertex_at graph z).inlet) (class_at the_parts k))
                    (filter-in (λ z. (vertex_at graph z).inlet) y (class_at the_parts k) h e))) in
                    let r = facts-of.source_inlet b k x thread source in
                    posted-word x (kind_at the_code x) r.0 refl (given (Word_of x) source).reason

                go : (t : Bool) → (vertex_at (block_of_act g s i b) y).inlet ≡ t
                    → (elim (vertex_at (block_of_act g s i b) y).inlet [
                      | true ↦ has_word s.world i (vertex_at (block_of_act g s i b) y).node
                      | false ↦ true
                    ]) ≡ true
                go true e = ap (λ t. elim t [ true ↦ has_word s.world i (vertex_at (block_of_act g s i b) y).node | false ↦ true ]) e ∙ word e
                go false e = ap (λ t. elim t [ true ↦ has_word s.world i (vertex_at (block_of_act g s i b) y).node | false ↦ true ]) e

        before : those_before_ran (block_of_act g s i b) (parts_of_act g all s i b) s i b k ≡ true
        before = all_of-each _ (below (length (parts_of_act g all s i b))) each
          where
            each : (d : ℕ) → In d (below (length (parts_of_act g all s i b)))
                → (elim (directly_before (block_of_act g s i b).edges (parts_of_act g all s i b) d k) [ true ↦ has_run s i b d | false ↦ true ]) ≡ true
            each d h = go (directly_before (block_of_act g s i b).edges (parts_of_act g all s i b) d k) refl
              where
                ran : directly_before (block_of_act g s i b).edges (parts_of_act g all s i b) d k ≡ true → has_run s i b d ≡ true
                ran e = (given (Behind d) (right-in (Behind d) (map Word_of (inlet_nodes_in graph (class_at the_parts k))) _
                    (left-in (Behind d) (map Behind (classes_to graph the_parts k)) _ (map-in Behind d (classes_to graph the_parts k)
                    (filter-in (λ z. directly_before graph.edges the_parts z k) d (below (length the_parts)) h e))))).reason

                go : (t : Bool) → directly_before (block_of_act g s i b).edges (parts_of_act g all s i b) d k ≡ t
                    → (elim (directly_before (block_of_act g s i b).edges (parts_of_act g all s i b) d k) [ true ↦ has_run s i b d | false ↦ true ]) ≡ true
                go true e = ap (λ t. elim t [ true ↦ has_run s i b d | false ↦ true ]) e ∙ ran e
                go false e = ap (λ t. elim t [ true ↦ has_run s i b d | false ↦ true ]) e
