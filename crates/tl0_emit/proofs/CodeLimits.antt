-- The thread code of a graph is within the limits of its types.
use Rattle.std.proofs.Common.{◌≡◌, ℕ, zero, suc, ◌<◌, ◌≤◌, List, [], ◌∷◌, map, length, slice_get, refl, ap, ◌∙◌, arith}
use Rattle.std.specs.List.{sum_by}
use Rattle.std.proofs.lemmas.List.{length-map}
use Rattle.std.proofs.lemmas.List.Sums.{length-filter, count_by-le-length, sum_by_push}
use Rattle.tam_word.specs.Lists.{below}
use Rattle.tam_word.proofs.Tests.{below-test}
use Rattle.tam_graph.specs.Graphs.{Code, Graph, kind_at, node_numbers, has_value, params_of, results_of}
use Rattle.tam_graph.specs.Accepted.{IsAccepted}
use Rattle.tam_graph.proofs.FewNodes.{few-nodes, length-below}
use Rattle.tam_split.specs.Partitions.{Parts}
use Rattle.tam_split.specs.GraphPartitions.{Partitions, or_none}
use Rattle.tam_split.specs.KeptParts.{AreClasses}
use Rattle.tl0_code.specs.declared.inlet.Inlet.{Inlet}
use Rattle.tl0_code.specs.ThreadCode.{Thread, CodeText, HasCodeLimits, HasProgramLimits}
use Rattle.tl0_keep.specs.Compiled.{compiled_with, compiled_code, parts_at, classes_before, is_choosing, slot_of, slots_of, inlet_nodes, thread_of_inlet}
use Rattle.tl0_keep.specs.Compiled.{threads_of}
use Rattle.tl0_keep.proofs.code.ThreadKinds.{AreAllParts, parts_for}
use Rattle.tl0_keep.proofs.code.ThreadPlaces.{length-threads}
use Rattle.tl0_keep.proofs.code.SiftedPlaces.{classes-next, all-classes}
use Rattle.tl0_keep.proofs.code.InletCounts.{few-inlets}
use Rattle.tl0_keep.proofs.code.Standing.{classes-few}
use Rattle.tl0_keep.proofs.code.Checked.{checked-with}
use Rattle.tl0_emit.specs.CodeParts.{CodeParts, its_code, ArePartsOfAll, IsCodeOf}
use Rattle.tl0_emit.proofs.KnownParts.{parts-of, few-of}

-- ---- a code

module _ (t : CodeParts) (code : IsCodeOf t) where
  -- its thread code
  abbrev its-text : CodeText
  its-text = compiled_code t.graph (its_code t, t.parts)

  -- a code has at most 1,024 nodes
  pub nodes-many : length (its_code t).nodes ≤ 1024
  nodes-many = few-nodes (length t.graph.codes) (its_code t) (code.accepted.written t.code (below-test t.code (length t.graph.codes) code.there))

  -- so many slots at most
  slots-many : its-text.slots ≤ 1026
  slots-many =
      let c = count_by-le-length (λ y. has_value (kind_at (its_code t) y)) (below (length (its_code t).nodes)) in
      let l = length-below (length (its_code t).nodes) in
      let m = nodes-many in
      omega (arith, c, l, m)

  -- the classes of the first b blocks
  classes-sum : (b : ℕ) → classes_before t.parts b ≡ sum_by (λ d. length (parts_at t.parts d)) (below b)
  classes-sum zero = none t.parts
    where
      none : (qs : List Parts) → classes_before qs 0 ≡ 0
      none [] = refl
      none (q ∷ qs) = refl
  classes-sum (suc b) =
      let i = classes-sum b in
      let s = classes-next t.parts b in
      let p = sum_by_push (λ d. length (parts_at t.parts d)) (below b) b in
      omega (arith, i, s, p)

  -- so it has at most 3,073 threads
  threads-many : length its-text.threads ≤ 3073
  threads-many =
      let l = length-threads t.graph (its_code t) t.parts code.parts.blocks in
      let a = all-classes t.parts in
      let e : classes_before t.parts (length t.parts) ≡ classes_before t.parts (length (its_code t).owners) = ap (classes_before t.parts) code.parts.blocks in
      let s = classes-sum (length (its_code t).owners) in
      let c = classes-few t.graph code.accepted t.code code.there t.parts (few-of t code) in
      let f = length-filter (λ x. is_choosing (kind_at (its_code t) x)) (node_numbers (its_code t)) in
      let k = count_by-le-length (λ x. is_choosing (kind_at (its_code t) x)) (node_numbers (its_code t)) in
      let m = length-below (length (its_code t).nodes) in
      let w = nodes-many in
      omega (arith, l, a, e, s, c, f, k, m, w)

  -- and at most 1,024 inlets
  inlets-many : length its-text.inlets ≤ 1024
  inlets-many =
      let f = few-inlets t.graph code.accepted t.code code.there in
      let m = length-map {B = Inlet} (inlet_nodes t.graph (its_code t)) (λ x. record {
        slot = slot_of (its_code t) x;
        thread = thread_of_inlet (its_code t)
            t.parts x;
      }) in
      omega (arith, f, m)

  -- in one record
  pub code-limits : HasCodeLimits its-text
  code-limits = record { few_slots = slots-many; few_inlets = inlets-many; some_thread = omega arith; few_threads = threads-many }

-- what a text has to have to be the thread code of a code
pub record IsCompiled (g : Graph) (c : Code) (ps : List Parts) (x : CodeText) : Type 0 where
  pub params : x.params ≡ params_of c
  pub results : x.results ≡ results_of c
  pub slots : x.slots ≡ slots_of c
  pub inlets : x.inlets ≡ map (λ n. record { slot = slot_of c n; thread = thread_of_inlet c ps n }) (inlet_nodes g c)
  pub threads : x.threads ≡ threads_of g c ps

-- then it is
pub compiled-is : (g : Graph) (c : Code) (ps : List Parts) (x : CodeText) → IsCompiled g c ps x → x ≡ compiled_code g (c, ps)
compiled-is g c ps x h =
    ap (λ (n : ℕ). with_parts n x.results x.slots x.inlets x.threads) h.params
    ∙ (ap (λ (n : ℕ). with_parts (params_of c) n x.slots x.inlets x.threads) h.results
    ∙ (ap (λ (n : ℕ). with_parts (params_of c) (results_of c) n x.inlets x.threads) h.slots
    ∙ (ap (λ (is : List Inlet). with_parts (params_of c) (results_of c) (slots_of c) is x.threads) h.inlets
    ∙ ap (λ (ts : List Thread). with_parts (params_of c) (results_of c) (slots_of c)
    (map (λ n. record { slot = slot_of c n; thread = thread_of_inlet c ps n }) (inlet_nodes g c)) ts) h.threads)))
  where
    with_parts : ℕ → ℕ → ℕ → List Inlet → List Thread → CodeText
    with_parts p r s is ts = record { params = p; results = r; slots = s; inlets = is; threads = ts }

-- ---- a graph

module _ (g : Graph) (accepted : IsAccepted g) (all : Partitions) (whole : ArePartsOfAll g all)
    (classes : (n : ℕ) → n < length g.codes → (b : ℕ) → b < length (or_none (slice_get all n)) → AreClasses (parts_at (or_none (slice_get all n)) b)) where
  -- code n with its partitions
  abbrev code-at : ℕ → CodeParts
  code-at n = record { graph = g; code = n; parts = parts_for all n }

  -- is one of the graph
  is-code : (n : ℕ) → n < length g.codes → IsCodeOf (code-at n)
  is-code n l = record { accepted = accepted; there = l; parts = whole.each n l; classes = classes n l }

  -- the partitions are what the laws of thread code suppose
  all-parts : AreAllParts g all
  all-parts = record { codes = whole.codes; each = λ n l. parts-of (code-at n) (is-code n l) }

  -- the thread code of the graph
  pub program-limits : HasProgramLimits (compiled_with g all)
  program-limits =
      let w = (checked-with g all accepted all-parts (λ n l. few-of (code-at n) (is-code n l))).within in
      record { some_code = w.some_code; few_codes = w.few_codes; few_instrs = w.few_instrs }
