-- The connectors of switches run: the word of the switch's operand goes to the `in` of the chosen branch.
use Rattle.std.proofs.Common.{◌≡◌, ℕ, zero, suc, ◌<◌, Bool, true, false, not, ◌==◌, ◌&&◌, List, [], ◌∷◌, map, flat_map, length}
use Rattle.std.proofs.Common.{refl, sym, ap, subst, ◌∙◌, inl, inr, true≢false}
use Rattle.std.proofs.lemmas.Option.{slice_get_within}
use Rattle.tam_word.specs.Lists.{below}
use Rattle.tam_word.proofs.Tests.{number-eq, both-true, true-both, self-eq}
use Rattle.tam_word.proofs.Members.{In, any-in, in-any, in-filter, filter-in, map-in, left-in, right-in, in-below, below-in}
use Rattle.tam_graph.specs.declared.kind.Kind.{Kind}
use Rattle.tam_graph.specs.declared.kind.Kind.TheVariants.{Cond, Switch as Choose, Enter}
use Rattle.tam_graph.specs.Graphs.{Code, Graph, kind_at, block_at, operands_of, is_inlet, is_split, nodes_in, node_in, node_where, is_switch}
use Rattle.tam_graph.specs.Graphs.{is_enter, owner_of, chosen_branch, branch_of_kind}
use Rattle.tam_graph.specs.Accepted.{IsAccepted}
use Rattle.tam_split.specs.declared.vertex.Vertex.{Vertex}
use Rattle.tam_split.specs.Blocks.{block_graph, vertex_at, or_vertex, vertices_in}
use Rattle.tam_split.specs.Partitions.{Parts, class_at, class_of, class_edges, directly_before}
use Rattle.tam_split.specs.GraphPartitions.{Partitions, parts_of}
use Rattle.tam_split.proofs.BlockVertices.{place-at}
use Rattle.tam_split.proofs.Firers.{Giver, Shape, giver-at, giver-inlet, operand-edge, at-shape, kind-there}
use Rattle.tam_split.proofs.LeastClasses.{IsValidAt, valid-at, class-below}
use Rattle.tam_world.specs.Worlds.{activation_at, its_code, has_entered}
use Rattle.tam_flow.specs.Journals.{State, Event, has_run, state_after, parts_of_act, block_of_act}
use Rattle.tam_flow.specs.JournalLaws.{IsJournal}
use Rattle.tam_flow.specs.Reached.{IsThere, IsReached, Has, Ran, WordSource}
use Rattle.tam_flow.specs.Told.{outlet_place}
use Rattle.tam_flow.proofs.JournalsReached.{journals-reached}
use Rattle.tam_flow.proofs.Operands.{HasValue, operand-taken}
use Rattle.tl0_code.specs.declared.instr.Instr.TheVariants.{Mov, Fork}
use Rattle.tl0_code.specs.Machines.{Machine, Plain, slot, put, done_all, then_do, Progress, Fine}
use Rattle.tl0_code.specs.ThreadCode.{code_text, plain}
use Rattle.tl0_keep.specs.Compiled.{compiled_with, slot_of, switch_into, thread_of_inlet, yes_of, no_of, parts_at, inlet_place}
use Rattle.tl0_keep.proofs.code.ThreadKinds.{ThreadKind, Class, Word_of, Behind, Ticket, number_of_thread, IsThread, fork_tickets, connector_tickets}
use Rattle.tl0_keep.proofs.code.ThreadKinds.{then_block, else_block, word_ticket, inlet_nodes_in, classes_to, inlet_thread}
use Rattle.tl0_keep.proofs.code.InletVertices.{inlet-place_is}
use Rattle.tl0_keep.proofs.runs.Keeps.{Owed, ticket, parts_in, HasRun, Keeps, Rests}
use Rattle.tl0_keep.proofs.code.CodeFacts.{CodeFacts, TextFacts, IsOther}
use Rattle.tl0_keep.proofs.runs.Spending.{spend-due, spends, spent-state}
use Rattle.tl0_keep.proofs.runs.Later.{put-due, put-there}
use Rattle.tl0_keep.proofs.runs.Reasons.{in-first}
use Rattle.tl0_keep.proofs.runs.Taking.{Takes}
use Rattle.tl0_keep.proofs.runs.OtherRuns.{RunsTo, other-begins}
use Rattle.tl0_keep.proofs.runs.StepGoals.{SwitchRuns}
use Rattle.tl0_keep.proofs.class_run.Slots.{operand-slot, spent-all}

-- a switch
abbrev is_choice : Kind → Bool
is_choice (Choose d k a) = true
is_choice _ = false

-- a switch has no inlet
switch-no_inlet : (c : Code) (b y x d k a : ℕ) → y < length (vertices_in c b) → (vertex_at (block_graph c b) y).node ≡ x → kind_at c x ≡ Choose d k a
    → (vertex_at (block_graph c b) y).inlet ≡ false
switch-no_inlet c b y x d k a l e kx = go (at-shape c b y (vertex_at (block_graph c b) y) (place-at c b y l)).0
  where
    kind : kind_at c (vertex_at (block_graph c b) y).node ≡ Choose d k a
    kind = ap (kind_at c) e ∙ kx

    go : Shape (vertex_at (block_graph c b) y).node (kind_at c (vertex_at (block_graph c b) y).node) (vertex_at (block_graph c b) y)
        → (vertex_at (block_graph c b) y).inlet ≡ false
    go (inl (q, p)) = absurd (true≢false (sym q ∙ ap is_split kind))
    go (inr (q, p)) = sym (ap (λ (v : Vertex). v.inlet) p) ∙ ap is_inlet kind

module _ (g : Graph) (accepted : IsAccepted g) (all : Partitions) (facts : CodeFacts g all) (args : List ℕ) (events : List Event)
    (journal : IsJournal g all args events)
    (m : Machine) (others : List (ℕ × ThreadKind)) (due : List Owed) (keeps : Keeps g all m (state_after g all args events) others due) (f : ℕ)
    (there : IsThere (state_after g all args events).world f) where
  -- the state
  abbrev s : State
  s = state_after g all args events

  -- it is reached
  reached : IsReached g all args (state_after g all args events)
  reached = journals-reached g all args events journal

  -- its code
  abbrev c : Code
  c = its_code g (state_after g all args events).world f

  -- the code is there
  code-there : (activation_at (state_after g all args events).world f).code < length g.codes
  code-there = keeps.frames.known f there

  -- a class directly before one that ran has run
  before-ran : (b d e : ℕ) → b < length c.owners → d < length (parts_at (parts_in g all (state_after g all args events) others f) b)
      → e < length (parts_at (parts_in g all (state_after g all args events) others f) b)
      → directly_before (block_graph c b).edges (parts_at (parts_in g all (state_after g all args events) others f) b) d e ≡ true
      → has_run (state_after g all args events) f b e ≡ true → has_run (state_after g all args events) f b d ≡ true
  before-ran b d e lb ld le h r =
      (spent-all g all others facts m (state_after g all args events) due keeps f (Class b e) there (lb, le) r (Behind d)
      (right-in (Behind d) (map Word_of (inlet_nodes_in (block_graph c b) (class_at (parts_at (parts_in g all (state_after g all args events) others f) b)
      e))) _
      (left-in (Behind d) (map Behind (classes_to (block_graph c b) (parts_at (parts_in g all (state_after g all args events) others f) b) e)) _
      (map-in Behind d (classes_to (block_graph c b) (parts_at (parts_in g all (state_after g all args events) others f) b) e)
      (filter-in (λ q. directly_before (block_graph c b).edges (parts_at (parts_in g all (state_after g all args events) others f) b) q e) d
      (below (length (parts_at (parts_in g all (state_after g all args events) others f) b)))
      (below-in d (length (parts_at (parts_in g all (state_after g all args events) others f) b)) ld) h))))).0.reason

  -- an edge between classes that differ
  edge-before : (es : List (ℕ × ℕ)) (parts : Parts) (p y : ℕ) → In (p, y) es → (class_of parts p == class_of parts y) ≡ false
      → directly_before es parts (class_of parts p) (class_of parts y) ≡ true
  edge-before es parts p y i d = in-any (λ (e : ℕ × ℕ). (e.0 == class_of parts p) && (e.1 == class_of parts y)) (class_edges parts es)
      (class_of parts p, class_of parts y)
      (filter-in (λ (e : ℕ × ℕ). not (e.0 == e.1)) (class_of parts p, class_of parts y) (map (λ (e : ℕ × ℕ). (class_of parts e.0, class_of parts e.1)) es)
      (map-in (λ (e : ℕ × ℕ). (class_of parts e.0, class_of parts e.1)) (p, y) es i) (ap not d))
      (true-both (class_of parts p == class_of parts p) (class_of parts y == class_of parts y) (self-eq (class_of parts p)) (self-eq (class_of parts y)))

  -- the class of an inlet that is an operand of a switch that ran has run
  operand-ran : (x d k a z : ℕ) → kind_at c x ≡ Choose d k a → In z (operands_of c (Choose d k a)) → is_inlet (kind_at c z) ≡ true
      → Ran g all (state_after g all args events) f x
      → HasRun g all (state_after g all args events) others f (inlet_thread c (parts_in g all (state_after g all args events) others f) z)
  operand-ran x d k a z kx h inlet ran =
      let r = any-in (λ y. has_run (state_after g all args events) f (block_at c x)
      (class_of (parts_of_act g all (state_after g all args events) f (block_at c x)) y))
      (outlet_place (block_of_act g (state_after g all args events) f (block_at c x)) x) ran in
      let q = in-filter (λ y. (vertex_at (block_graph c (block_at c x)) y).outlet && ((vertex_at (block_graph c (block_at c x)) y).node == x)) r.0 _ r.1 in
      at-outlet r.0 (in-below r.0 _ q.0) (number-eq _ x (both-true _ _ q.1).1) r.2
    where
      x-there : x < length c.nodes
      x-there = in-below x (length c.nodes) (kind-there c x is_choice refl (ap is_choice kx))

      taken : HasValue c z × (block_at c z ≡ block_at c x)
      taken = operand-taken g accepted (activation_at (state_after g all args events).world f).code code-there x z (Choose d k a) x-there kx h

      at-outlet : (y : ℕ) → y < length (vertices_in c (block_at c x)) → (vertex_at (block_graph c (block_at c x)) y).node ≡ x
          → has_run (state_after g all args events) f (block_at c x) (class_of (parts_of_act g all (state_after g all args events) f (block_at c x)) y) ≡ true
          → HasRun g all (state_after g all args events) others f (inlet_thread c (parts_in g all (state_after g all args events) others f) z)
      at-outlet y l e r =
          let giver = giver-at c z (below-in z (length c.nodes) taken.0.there) in
          subst (λ q. has_run (state_after g all args events) f q (class_of (parts_at (parts_in g all (state_after g all args events) others f) q)
          (inlet_place (block_graph c q) z)) ≡ true) (sym taken.1)
          (at-giver giver.0 (subst (λ q. Giver c q giver.0 z) taken.1 giver.1))
        where
          owned : block_at c x < length c.owners
          owned = reached.activations.blocks f (block_at c x) there (block-entered (block_at c x) _ r)
            where
              block-entered : (b q : ℕ) → has_run (state_after g all args events) f b q ≡ true → has_entered (state_after g all args events).world f b ≡ true
              block-entered b q h = (reached.words.runs_there f b q h).1

          valid : IsValidAt (block_graph c (block_at c x)) (parts_of all (activation_at (state_after g all args events).world f).code (block_at c x))
          valid = valid-at g all (activation_at (state_after g all args events).world f).code (block_at c x) journal.valid code-there owned

          at-giver : (p : ℕ) → Giver c (block_at c x) p z → has_run (state_after g all args events) f (block_at c x)
              (class_of (parts_at (parts_in g all (state_after g all args events) others f) (block_at c x)) (inlet_place (block_graph c (block_at c x)) z)) ≡
              true
          at-giver p giver =
              subst (λ q. has_run (state_after g all args events) f (block_at c x)
              (class_of (parts_at (parts_in g all (state_after g all args events) others f) (block_at c x)) q) ≡ true) (sym is)
              (go (class_of (parts_at (parts_in g all (state_after g all args events) others f) (block_at c x)) p
              == class_of (parts_at (parts_in g all (state_after g all args events) others f) (block_at c x)) y) refl)
            where
              place : p < length (block_graph c (block_at c x)).vertices
              place = slice_get_within (vertices_in c (block_at c x)) p giver.vertex giver.stands

              vertex : vertex_at (block_graph c (block_at c x)) p ≡ giver.vertex
              vertex = ap or_vertex giver.stands

              is : inlet_place (block_graph c (block_at c x)) z ≡ p
              is = inlet-place_is c (block_at c x) p z (record {
                inside = place;
                inlet = ap (λ (v : Vertex). v.inlet) vertex ∙ (giver-inlet c (block_at c x) p z giver ∙ inlet);
                of_node = ap (λ (v : Vertex). v.node) vertex ∙ giver.of_node;
              })

              edge : In (p, y) (block_graph c (block_at c x)).edges
              edge = operand-edge c (block_at c x) p y x z (record {
                vertex = vertex_at (block_graph c (block_at c x)) y;
                stands = place-at c (block_at c x) y l;
                of_node = e;
                no_inlet = switch-no_inlet c (block_at c x) y x d k a l e kx;
              }) giver (subst (λ q. In z (operands_of c q)) (sym kx) h)

              go : (t : Bool) → (class_of (parts_at (parts_in g all (state_after g all args events) others f) (block_at c x)) p
                  == class_of (parts_at (parts_in g all (state_after g all args events) others f) (block_at c x)) y) ≡ t
                  → has_run (state_after g all args events) f (block_at c x)
                  (class_of (parts_at (parts_in g all (state_after g all args events) others f) (block_at c x)) p) ≡ true
              go true q = subst (λ o. has_run (state_after g all args events) f (block_at c x) o ≡ true) (sym (number-eq _ _ q)) r
              go false q = before-ran (block_at c x) _ _ owned
                  (class-below (parts_at (parts_in g all (state_after g all args events) others f) (block_at c x)) p (valid.once p place))
                  (class-below (parts_at (parts_in g all (state_after g all args events) others f) (block_at c x)) y (valid.once y l))
                  (edge-before (block_graph c (block_at c x)).edges (parts_at (parts_in g all (state_after g all args events) others f) (block_at c x)) p y
                  edge q) r

  -- the slot of a switch's operand has the word that its `in` has
  pub operand-word : (x d k a e w : ℕ) → kind_at c x ≡ Choose d k a → e < length c.nodes → kind_at c e ≡ Enter k → owner_of c (block_at c e) ≡ d ∷ []
      → Has (state_after g all args events) f e w → slot m f (slot_of c a) ≡ w
  operand-word x d k a e w kx le ke own h = from (subst (WordSource g all (state_after g all args events) f e w) ke (reached.words.sources f e w h))
    where
      text : TextFacts g c (parts_in g all (state_after g all args events) others f)
          (code_text (plain (compiled_with g all)) (activation_at (state_after g all args events).world f).code)
      text = facts.texts (activation_at (state_after g all args events).world f).code code-there

      one : {i j : ℕ} → i ∷ [] ≡ j ∷ [] → i ≡ j
      one p = cc

      at-operand : (y d2 a2 : ℕ) → kind_at c y ≡ Choose d2 k a2 → Ran g all (state_after g all args events) f y → Has (state_after g all args events) f a2 w
          → slot m f (slot_of c a2) ≡ w
      at-operand y d2 a2 ky r ha =
          let y-there = in-below y (length c.nodes) (kind-there c y is_choice refl (ap is_choice ky)) in
          let t = operand-taken g accepted (activation_at (state_after g all args events).world f).code code-there y a2 (Choose d2 k a2) y-there ky
          (inr (inl refl)) in
          operand-slot g all others facts m (state_after g all args events) due keeps f there code-there a2 w t.0.there t.0.value ha
          (λ i. operand-ran y d2 k a2 a2 ky (inr (inl refl)) i r)

      from : WordSource g all (state_after g all args events) f e w (Enter k) → slot m f (slot_of c a) ≡ w
      from (y, d2, a2, v, ky, be, r, ht, ha) = same (text.switch_cond y d2 k a2 ky).0 (text.switch_cond y d2 k a2 ky).1.0 (text.switch_cond y d2 k a2 ky).1.1.0
          (text.switch_cond y d2 k a2 ky).1.1.1
        where
          owner : (p t n v : ℕ) → kind_at c d2 ≡ Cond p t n → block_at c e ≡ chosen_branch c d2 v → owner_of c (block_at c e) ≡ d2 ∷ []
          owner p t n zero kd be = ap (owner_of c) (be ∙ ap (λ q. branch_of_kind q 0) kd) ∙ (text.branches d2 p t n kd).1
          owner p t n (suc v) kd be = ap (owner_of c) (be ∙ ap (λ q. branch_of_kind q (suc v)) kd) ∙ (text.branches d2 p t n kd).0

          same : (p t n : ℕ) → kind_at c d2 ≡ Cond p t n → slot m f (slot_of c a) ≡ w
          same p t n kd =
              let ed : d ≡ d2 = one (sym own ∙ owner p t n v kd be) in
              let ex : x ≡ y = one (sym (text.switch_at x d k a kx) ∙ (ap (λ q. node_where c (is_switch q k)) ed
              ∙ text.switch_at y d2 k a2 ky)) in
              let ea : a ≡ a2 = operand (sym kx ∙ (ap (kind_at c) ex ∙ ky)) in
              subst (λ q. slot m f (slot_of c q) ≡ w) (sym ea) (at-operand y d2 a2 ky r ha)
            where
              operand : Choose d k a ≡ Choose d2 k a2 → a ≡ a2
              operand q = cc

-- an `in` of place k is one
enter-is : (k : ℕ) (z : Kind) → is_enter k z ≡ true → z ≡ Enter k
enter-is k (Enter j) h = ap Enter (number-eq j k h)
enter-is k z h = absurd (true≢false (sym h))

-- the node of a block is one of the code, in the block
in-block : (c : Code) (b x : ℕ) → In x (nodes_in c b) → (x < length c.nodes) × (block_at c x ≡ b)
in-block c b x h = let r = in-filter (λ y. block_at c y == b) x (below (length c.nodes)) h in (in-below x (length c.nodes) r.0, number-eq (block_at c x) b r.1)

module _ (g : Graph) (accepted : IsAccepted g) (all : Partitions) (facts : CodeFacts g all) (args : List ℕ) (events : List Event)
    (journal : IsJournal g all args events)
    (m : Machine) (others : List (ℕ × ThreadKind)) (rests : Rests g all m (state_after g all args events) others) (takes : Takes m.table) (n : ThreadKind)
    (x d k a b : ℕ)
    (there : IsThere (state_after g all args events).world takes.frame)
    (thread : IsThread (its_code g (state_after g all args events).world takes.frame) (parts_in g all (state_after g all args events) others takes.frame) n)
    (number : number_of_thread (its_code g (state_after g all args events).world takes.frame) (parts_in g all (state_after g all args events) others
    takes.frame) n ≡ takes.thread)
    (kx : kind_at (its_code g (state_after g all args events).world takes.frame) x ≡ Choose d k a) (other : IsOther n)
    (tickets : fork_tickets (its_code g (state_after g all args events).world takes.frame) (parts_in g all (state_after g all args events) others takes.frame) n
    ≡ map (word_ticket (its_code g (state_after g all args events).world takes.frame) (parts_in g all (state_after g all args events) others takes.frame))
    (node_in (its_code g (state_after g all args events).world takes.frame) b (is_enter k)))
    (e : ℕ) (enter : node_in (its_code g (state_after g all args events).world takes.frame) b (is_enter k) ≡ e ∷ [])
    (owner : owner_of (its_code g (state_after g all args events).world takes.frame) b ≡ d ∷ []) where
  -- the state and the code
  abbrev s2 : State
  s2 = state_after g all args events

  -- what has run
  abbrev more : List (ℕ × ThreadKind)
  more = (takes.frame, n) ∷ others

  -- the code
  abbrev c2 : Code
  c2 = its_code g (state_after g all args events).world takes.frame

  -- its partitions
  abbrev ps : List Parts
  ps = parts_in g all (state_after g all args events) others takes.frame

  -- the machine once the thread is taken
  abbrev begun : Machine
  begun = record m { table = takes.after }

  -- the ticket
  abbrev its_ticket : Owed
  its_ticket = ticket takes.frame (inlet_thread c2 (parts_in g all (state_after g all args events) others takes.frame) e) (Word_of e)

  -- is due
  starts : Keeps g all begun (state_after g all args events) more (its_ticket ∷ [])
  starts = subst (Keeps g all begun (state_after g all args events) more)
      (ap (map (λ (q : Ticket). (takes.frame, q))) (tickets ∙ ap (map (word_ticket c2 (parts_in g all (state_after g all args events) others takes.frame)))
      enter))
      (other-begins g all facts m (state_after g all args events) others rests.keeps takes n there thread number other)

  -- the `in`
  found : In e (nodes_in c2 b) × (is_enter k (kind_at c2 e) ≡ true)
  found = in-first (λ z. is_enter k (kind_at c2 z)) (nodes_in c2 b) e (subst (λ (l : List ℕ). In e l) (sym enter) (inl refl))

  -- is there
  e-there : e < length c2.nodes
  e-there = (in-block c2 b e found.0).0

  -- and is one
  e-kind : kind_at c2 e ≡ Enter k
  e-kind = enter-is k (kind_at c2 e) found.1

  -- an inlet
  e-inlet : is_inlet (kind_at c2 e) ≡ true
  e-inlet = ap is_inlet e-kind

  -- the operand's word
  abbrev w0 : ℕ
  w0 = slot begun takes.frame (slot_of c2 a)

  -- the slot is set
  set : Keeps g all (put begun takes.frame (slot_of c2 e) w0) (state_after g all args events) more (its_ticket ∷ [])
  set = put-due g all facts begun (state_after g all args events) more (its_ticket ∷ []) starts takes.frame e w0 there e-there e-inlet (inl refl)

  -- to the word
  word : (y w : ℕ) → its_ticket ≡ ticket takes.frame (inlet_thread c2 (parts_in g all (state_after g all args events) more takes.frame) y) (Word_of y)
      → Has (state_after g all args events) takes.frame y w → slot (put begun takes.frame (slot_of c2 e) w0) takes.frame (slot_of c2 y) ≡ w
  word y w q h =
      let z : e ≡ y = same (ap (λ (o : Owed). o.1.source) q) in
      subst (λ v. slot (put begun takes.frame (slot_of c2 e) w0) takes.frame (slot_of c2 v) ≡ w) z
      (put-there g all facts begun (state_after g all args events) more (its_ticket ∷ []) starts takes.frame e w0 there e-there e-inlet (inl refl)
      ∙ operand-word g accepted all facts args events journal begun more (its_ticket ∷ []) starts takes.frame there x d k a e w kx e-there e-kind
      (ap (owner_of c2) (in-block c2 b e found.0).1 ∙ owner) (subst (λ v. Has (state_after g all args events) takes.frame v w) (sym z) h))
    where
      same : {i j : ℕ} → Word_of i ≡ Word_of j → i ≡ j
      same p = cc

  -- so it runs
  pub connector-runs : RunsTo g all (state_after g all args events) more [] begun takes.frame
      (switch_into c2 (parts_in g all (state_after g all args events) others takes.frame) a k b)
  connector-runs = record {
    after = spent-state g all facts (put begun takes.frame (slot_of c2 e) w0) (state_after g all args events) more []
        takes.frame (inlet_thread c2 (parts_in g all (state_after g all args events) others takes.frame) e) (Word_of e) set word;
    runs = ap (λ (l : List ℕ). done_all Plain begun takes.frame (flat_map (λ m. Mov (slot_of c2 m) (slot_of c2 a)
        ∷ Fork (thread_of_inlet c2 (parts_in g all (state_after g all args events) others takes.frame) m) ∷ []) l)) enter
        ∙ ap (λ (p : Progress). then_do p (λ q. Fine q)) (spends g all facts (put begun takes.frame (slot_of c2 e) w0) (state_after g all args events) more []
        takes.frame (inlet_thread c2 (parts_in g all (state_after g all args events) others takes.frame) e) (Word_of e) set word);
    keeps = spend-due g all facts (put begun takes.frame (slot_of c2 e) w0) (state_after g all args events) more []
        takes.frame (inlet_thread c2 (parts_in g all (state_after g all args events) others takes.frame) e) (Word_of e) set word;
    events = refl;
  }

-- the connectors of switches run so
pub switch-runs : (g : Graph) → IsAccepted g → (all : Partitions) → CodeFacts g all → (args : List ℕ) → SwitchRuns g all args
switch-runs g accepted all facts args events journal m others rests takes n x d k a b there thread number kx side =
    by-cond (text.switch_cond x d k a kx).0 (text.switch_cond x d k a kx).1.0 (text.switch_cond x d k a kx).1.1.0 (text.switch_cond x d k a kx).1.1.1
  where
    c3 : Code
    c3 = its_code g (state_after g all args events).world takes.frame

    text : TextFacts g (its_code g (state_after g all args events).world takes.frame) (parts_in g all (state_after g all args events) others takes.frame)
        (code_text (plain (compiled_with g all)) (activation_at (state_after g all args events).world takes.frame).code)
    text = facts.texts (activation_at (state_after g all args events).world takes.frame).code (rests.keeps.frames.known takes.frame there)

    by-cond : (p y z : ℕ) → kind_at (its_code g (state_after g all args events).world takes.frame) d ≡ Cond p y z
        → RunsTo g all (state_after g all args events) ((takes.frame, n) ∷ others) [] (record m { table = takes.after }) takes.frame
        (switch_into (its_code g (state_after g all args events).world takes.frame) (parts_in g all (state_after g all args events) others takes.frame) a k b)
    by-cond p y z kd = elim side [
      | inl q ↦ connector-runs g accepted all facts args events journal m others rests takes n x d k a b there thread number kx
          (subst IsOther (sym q.0) tt)
          (ap (fork_tickets (its_code g (state_after g all args events).world takes.frame) (parts_in g all (state_after g all args events) others
          takes.frame)) q.0
          ∙ (ap (λ v. connector_tickets (its_code g (state_after g all args events).world takes.frame) (parts_in g all (state_after g all args events) others
          takes.frame)
          (then_block (its_code g (state_after g all args events).world takes.frame) v) v) kx
          ∙ ap (λ v. map (word_ticket (its_code g (state_after g all args events).world takes.frame) (parts_in g all (state_after g all args events) others
          takes.frame))
          (node_in (its_code g (state_after g all args events).world takes.frame) v (is_enter k))) (sym q.1)))
          (text.enters x d k a p y z kx kd).0.0
          (ap (λ v. node_in (its_code g (state_after g all args events).world takes.frame) v (is_enter k)) (q.1 ∙ ap yes_of kd)
          ∙ (text.enters x d k a p y z kx kd).0.1)
          (ap (owner_of (its_code g (state_after g all args events).world takes.frame)) (q.1 ∙ ap yes_of kd) ∙ (text.branches d p y z kd).0)
      | inr q ↦ connector-runs g accepted all facts args events journal m others rests takes n x d k a b there thread number kx
          (subst IsOther (sym q.0) tt)
          (ap (fork_tickets (its_code g (state_after g all args events).world takes.frame) (parts_in g all (state_after g all args events) others
          takes.frame)) q.0
          ∙ (ap (λ v. connector_tickets (its_code g (state_after g all args events).world takes.frame) (parts_in g all (state_after g all args events) others
          takes.frame)
          (else_block (its_code g (state_after g all args events).world takes.frame) v) v) kx
          ∙ ap (λ v. map (word_ticket (its_code g (state_after g all args events).world takes.frame) (parts_in g all (state_after g all args events) others
          takes.frame))
          (node_in (its_code g (state_after g all args events).world takes.frame) v (is_enter k))) (sym q.1)))
          (text.enters x d k a p y z kx kd).1.0
          (ap (λ v. node_in (its_code g (state_after g all args events).world takes.frame) v (is_enter k)) (q.1 ∙ ap no_of kd)
          ∙ (text.enters x d k a p y z kx kd).1.1)
          (ap (owner_of (its_code g (state_after g all args events).world takes.frame)) (q.1 ∙ ap no_of kd) ∙ (text.branches d p y z kd).1)
    ]
