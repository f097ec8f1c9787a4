-- A switch that has fired has a cond that has fired: the cond stands with what gives its operand, and that has run before the switch or with it.
use Rattle.std.proofs.Common.{◌≡◌, ℕ, ◌<◌, Bool, true, false, ◌==◌, not, List, [], map, length, refl, sym, ap, ◌∙◌, subst}
use Rattle.std.proofs.Common.{inl}
use Rattle.std.proofs.lemmas.Option.{slice_get_within}
use Rattle.tam_word.specs.Lists.{below}
use Rattle.tam_word.proofs.Members.{In, in-has, map-in, filter-in, left-in, right-in, below-in}
use Rattle.tam_word.proofs.Tests.{number-eq}
use Rattle.tam_graph.specs.declared.kind.Kind.TheVariants.{Cond, Switch, Enter}
use Rattle.tam_graph.specs.Graphs.{Code, Graph, code_of, kind_at, block_at, operands_of, test_of, test_of_kind, fires}
use Rattle.tam_graph.specs.Accepted.{IsAccepted}
use Rattle.tam_graph.proofs.AcceptedFacts.{node-there}
use Rattle.tam_split.specs.Blocks.{BlockGraph, block_graph, vertex_at, or_vertex, vertices_in, is_ask}
use Rattle.tam_split.specs.Partitions.{Parts, class_at, class_of, directly_before}
use Rattle.tam_split.specs.GraphPartitions.{partitions, parts_of, are_valid}
use Rattle.tam_split.proofs.BlockVertices.{place-at}
use Rattle.tam_split.proofs.CondsStanding.{conds_stand}
use Rattle.tam_split.proofs.Firers.{Giver, giver-at, Firer, firer-at, operand-edge}
use Rattle.tam_split.proofs.LeastClasses.{IsValidAt, valid-at, class-below, class-only}
use Rattle.tam_world.specs.Worlds.{activation_at, its_code, has_entered}
use Rattle.tam_flow.specs.Journals.{State, has_run}
use Rattle.tam_flow.specs.Reached.{IsThere, IsReached, kind_of}
use Rattle.tam_flow.proofs.ClassRuns.{vertex-each}
use Rattle.tam_flow.proofs.KeptRuns.{directly-before}
use Rattle.tam_flow.proofs.Operands.{HasValue, operand-taken, named-block}
use Rattle.tam_flow.proofs.Running.{in-own_class}
use Rattle.tam_flow.proofs.SentOnce.{HasFired}
use Rattle.tl0_code.specs.Machines.{Machine}
use Rattle.tl0_keep.proofs.code.RisingClasses.{part-is}
use Rattle.tl0_keep.proofs.code.ThreadKinds.{ThreadKind, Class, Word_of, Behind, inlet_nodes_in, classes_to}
use Rattle.tl0_keep.proofs.runs.Keeps.{Keeps}
use Rattle.tl0_keep.proofs.code.CodeFacts.{CodeFacts}
use Rattle.tl0_keep.proofs.class_run.Slots.{spent-all}

module _ (g : Graph) (accepted : IsAccepted g) (valid : are_valid g (partitions g) ≡ true) (facts : CodeFacts g (partitions g)) (args : List ℕ) (s : State)
    (reached : IsReached g (partitions g) args s) (m : Machine) (others : List (ℕ × ThreadKind)) (keeps : Keeps g (partitions g) m s others []) where
  pub switch-stands : (i y d k a : ℕ) → HasFired g (partitions g) s i y → kind_of g s.world i y ≡ Switch d k a → HasFired g (partitions g) s i d
  switch-stands i y d k a f e = record {
    there = f.there;
    code = (activation_at s.world i).code;
    block = f.block;
    class = class_of parts firer.0;
    place = firer.0;
    is_code = refl;
    ran = subst (λ z. has_run s i f.block z ≡ true) (sym together) (giver-ran (class_of parts giver.0 == f.class) refl);
    inside = in-own_class g (partitions g) (activation_at s.world i).code f.block firer.0 valid known low firer-within;
    within = firer-within;
    no_inlet = ap (λ v. v.inlet) firer-vertex ∙ firer.1.no_inlet;
    node = ap (λ v. v.node) firer-vertex ∙ firer.1.of_node;
  }
    where
      n : ℕ
      n = (activation_at s.world i).code

      c : Code
      c = its_code g s.world i

      switch-enter : Switch d k a ≡ Enter 0 → ⊥
      switch-enter q = cc

      known : (activation_at s.world i).code < length g.codes
      known = keeps.frames.known i f.there

      ly : y < length (its_code g s.world i).nodes
      ly = node-there (its_code g s.world i) y (λ q. switch-enter (sym e ∙ q))

      cond : (p : ℕ) × ((t : ℕ) × ((z : ℕ) × (kind_of g s.world i d ≡ Cond p t z)))
      cond = (facts.texts (activation_at s.world i).code known).switch_cond y d k a e

      -- the block, its partition, and the place of the switch
      graph : BlockGraph
      graph = block_graph (its_code g s.world i) f.block

      parts : Parts
      parts = parts_of (partitions g) (activation_at s.world i).code f.block

      within : f.place < length (block_graph (its_code g s.world i) f.block).vertices
      within = subst (λ z. f.place < length (block_graph (code_of g z) f.block).vertices) f.is_code f.within

      none : (vertex_at (block_graph (its_code g s.world i) f.block) f.place).inlet ≡ false
      none = subst (λ z. (vertex_at (block_graph (code_of g z) f.block) f.place).inlet ≡ false) f.is_code f.no_inlet

      node : (vertex_at (block_graph (its_code g s.world i) f.block) f.place).node ≡ y
      node = subst (λ z. (vertex_at (block_graph (code_of g z) f.block) f.place).node ≡ y) f.is_code f.node

      inside : In f.place (class_at (parts_of (partitions g) (activation_at s.world i).code f.block) f.class)
      inside = subst (λ z. In f.place (class_at (parts_of (partitions g) z f.block) f.class)) f.is_code f.inside

      block-y : block_at (its_code g s.world i) y ≡ f.block
      block-y = ap (block_at (its_code g s.world i)) (sym node) ∙ (vertex-each (its_code g s.world i) f.block f.place within).1

      runs : IsThere s.world i × (has_entered s.world i f.block ≡ true) × (f.class < length (parts_of (partitions g) (activation_at s.world i).code f.block))
      runs = reached.words.runs_there i f.block f.class f.ran

      low : f.block < length (its_code g s.world i).owners
      low = reached.activations.blocks i f.block f.there runs.1

      parts-valid : IsValidAt graph parts
      parts-valid = valid-at g (partitions g) (activation_at s.world i).code f.block valid known low

      -- the place that gives the operand
      test : ℕ
      test = test_of (its_code g s.world i) d

      test-is : test ≡ cond.0
      test-is = ap test_of_kind cond.1.1.1

      operand : In test (operands_of (its_code g s.world i) (kind_at (its_code g s.world i) y))
      operand = subst (λ z. In test (operands_of (its_code g s.world i) z)) (sym e) (inl refl)

      taken : HasValue (its_code g s.world i) test × (block_at (its_code g s.world i) test ≡ block_at (its_code g s.world i) y)
      taken = operand-taken g accepted (activation_at s.world i).code known y test (Switch d k a) ly e (inl refl)

      giver : (o : ℕ) × Giver (its_code g s.world i) f.block o test
      giver =
          let r = giver-at (its_code g s.world i) test (below-in test (length (its_code g s.world i).nodes) taken.0.there) in
          (r.0, subst (λ z. Giver (its_code g s.world i) z r.0 test) (taken.1 ∙ block-y) r.1)

      giver-within : giver.0 < length (block_graph (its_code g s.world i) f.block).vertices
      giver-within = slice_get_within (vertices_in (its_code g s.world i) f.block) giver.0 giver.1.vertex giver.1.stands

      giver-vertex : vertex_at (block_graph (its_code g s.world i) f.block) giver.0 ≡ giver.1.vertex
      giver-vertex = ap or_vertex giver.1.stands

      edge : In (giver.0, f.place) (block_graph (its_code g s.world i) f.block).edges
      edge = operand-edge (its_code g s.world i) f.block giver.0 f.place y test
          (record { vertex = vertex_at graph f.place; stands = place-at (its_code g s.world i) f.block f.place within; of_node = node; no_inlet = none })
          giver.1 operand

      -- the place of the cond
      firer : (x : ℕ) × Firer (its_code g s.world i) f.block x d
      firer =
          let r = firer-at (its_code g s.world i) d (ap fires cond.1.1.1) in (
            r.0,
            subst (λ z. Firer (its_code g s.world i) z r.0 d) (named-block g accepted (activation_at s.world i).code known y d (Switch d k a) ly e
                (inl refl) ∙ block-y) r.1,
          )

      firer-within : firer.0 < length (block_graph (its_code g s.world i) f.block).vertices
      firer-within = slice_get_within (vertices_in (its_code g s.world i) f.block) firer.0 firer.1.vertex firer.1.stands

      firer-vertex : vertex_at (block_graph (its_code g s.world i) f.block) firer.0 ≡ firer.1.vertex
      firer-vertex = ap or_vertex firer.1.stands

      -- they stand together
      together : class_of parts firer.0 ≡ class_of parts giver.0
      together = subst (λ ps. class_of ps firer.0 ≡ class_of ps giver.0) (sym (part-is g accepted (activation_at s.world i).code f.block known low))
          (conds_stand g accepted (activation_at s.world i).code f.block firer.0 giver.0 cond.0 cond.1.0 cond.1.1.0 known
          (place-at (its_code g s.world i) f.block giver.0 giver-within)
          (ap not (ap (λ v. is_ask v.half) giver-vertex ∙ giver.1.no_ask))
          (place-at (its_code g s.world i) f.block firer.0 firer-within)
          (ap (kind_at (its_code g s.world i)) (ap (λ v. v.node) firer-vertex ∙ firer.1.of_node) ∙ cond.1.1.1)
          (ap (λ v. v.node) giver-vertex ∙ (giver.1.of_node ∙ test-is)))

      -- which ran with the switch or before it
      giver-ran : (t : Bool) → (class_of parts giver.0 == f.class) ≡ t → has_run s i f.block (class_of parts giver.0) ≡ true
      giver-ran true q = subst (λ z. has_run s i f.block z ≡ true) (sym (number-eq (class_of parts giver.0) f.class q)) f.ran
      giver-ran false q =
          let own = class-only parts f.class f.place (parts-valid.once f.place within) (in-has (class_at parts f.class) f.place inside) in
          let before = directly-before graph.edges parts giver.0 f.place f.class edge own q in
          (spent-all g (partitions g) others facts m s [] keeps i (Class f.block f.class) f.there (low, runs.2) f.ran (Behind (class_of parts giver.0))
          (right-in (Behind (class_of parts giver.0)) (map Word_of (inlet_nodes_in graph (class_at parts f.class))) _
          (left-in (Behind (class_of parts giver.0)) (map Behind (classes_to graph parts f.class)) _
          (map-in Behind (class_of parts giver.0) (classes_to graph parts f.class)
          (filter-in (λ z. directly_before graph.edges parts z f.class) (class_of parts giver.0) (below (length parts))
          (below-in (class_of parts giver.0) (length parts) (class-below parts giver.0 (parts-valid.once giver.0 giver-within))) before))))).0.reason
