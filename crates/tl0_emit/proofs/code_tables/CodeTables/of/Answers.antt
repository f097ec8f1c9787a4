use Rattle.std.proofs.Common.{◌≡◌, ◌<◌, ◌∙◌, suc, map, length, sym, ap, ap₂, subst, arith, List}
use Rattle.tam_word.specs.Lists.{below, has}
use Rattle.tam_word.proofs.Members.{has-in, in-filter, in-below}
use Rattle.tam_graph.specs.declared.node.Node.{Node}
use Rattle.tam_graph.specs.Graphs.{Code, Graph, code_of, kind_at, node_numbers}
use Rattle.tam_graph.specs.Accepted.{IsAccepted}
use Rattle.tl0_keep.specs.Compiled.{slot_of, inlet_nodes, place_in, choosing_nodes, is_choosing}
use Rattle.tl0_keep.proofs.code.InletNumbers.{inlet-low}
use Rattle.tl0_keep.proofs.code.InletCounts.{few-inlets}
use Rattle.tl0_emit.specs.CodeParts.{PartedCode, ArePartsOf, AreKept}
use Rattle.tl0_emit.proofs.TablesKept.{choosing-few}
use Rattle.tl0_emit.proofs.code_tables.CodeTables.of.Goals as goal

pub numbered-requires-clause-in_range : goal.numbered-requires-clause-in_range
numbered-requires-clause-in_range c = λ x h.
    let g = c.args.g.now in
    let n = c.args.code in
    let own = c.code-own.ensures.value ∙ ap (λ (k : Graph). code_of k n) c.graph.ensures.value in
    let listed = c.deref.ensures.value ∙ (c.in_ok-inlet_nodes.ensures.value ∙ ap (λ (k : Graph). inlet_nodes k (code_of k n)) c.requires.same) in
    let low = inlet-low g c.graph.ensures.accepted n c.requires.in_range x (has-in (inlet_nodes g (code_of g n)) x (ap (λ l. has l x) (sym listed) ∙ h)) in
    let many = ap (λ (ns : List Node). length ns) c.nodes.ensures.value ∙ ap (λ (d : Code). length d.nodes) own in
    omega (arith, low, many)

pub numbered-requires-clause-few : goal.numbered-requires-clause-few
numbered-requires-clause-few c =
    let g = c.args.g.now in
    let n = c.args.code in
    let listed = c.deref.ensures.value ∙ (c.in_ok-inlet_nodes.ensures.value ∙ ap (λ (k : Graph). inlet_nodes k (code_of k n)) c.requires.same) in
    let few = few-inlets g c.graph.ensures.accepted n c.requires.in_range in
    let same = ap length listed in
    omega (arith, few, same)

pub numbered-requires-2-clause-in_range : goal.numbered-requires-2-clause-in_range
numbered-requires-2-clause-in_range c = λ x h.
    let code = c.code-own.result.now in
    let listed = c.deref-2.ensures.value ∙ c.in_ok-choosing.ensures.value in
    let m = has-in (choosing_nodes code) x (ap (λ l. has l x) (sym listed) ∙ h) in
    let low = in-below x (length code.nodes) (in-filter (λ y. is_choosing (kind_at code y)) x (node_numbers code) m).0 in
    let many = ap (λ (ns : List Node). length ns) c.nodes-2.ensures.value in
    omega (arith, low, many)

pub numbered-requires-2-clause-few : goal.numbered-requires-2-clause-few
numbered-requires-2-clause-few c =
    let listed = c.deref-2.ensures.value ∙ c.in_ok-choosing.ensures.value in
    let few = choosing-few c.code-own.result.now in
    let same = ap length listed in
    omega (arith, few, same, c.nodes-2.ensures.few)

pub invariant_of-result : goal.invariant_of-result
invariant_of-result c =
    let g = c.args.g.now in
    let n = c.args.code in
    let code = code_of g n in
    let same = c.requires.same in
    let own : c.code-own.result.now ≡ code = c.code-own.ensures.value ∙ ap (λ (k : Graph). code_of k n) c.graph.ensures.value in
    let its : code_of c.args.program.now n ≡ code = ap (λ (k : Graph). code_of k n) same in
    let kept_code : c.in_ok-blocks.blocks.code ≡ code = ap (λ (b : PartedCode). b.code) c.in_ok-blocks.ensures.value in
    let kept_parts : c.in_ok-blocks.blocks.parts ≡ c.args.parts.now = ap (λ (b : PartedCode). b.parts) c.in_ok-blocks.ensures.value in
    let nodes = ap (λ (ns : List Node). length ns) c.nodes.ensures.value ∙ ap (λ (d : Code). length d.nodes) (own ∙ sym kept_code) in
    let nodes_again = ap (λ (ns : List Node). length ns) c.nodes-2.ensures.value ∙ ap (λ (d : Code). length d.nodes) (own ∙ sym kept_code) in
    let listed = c.in_ok-inlet_nodes.ensures.value ∙ ap (inlet_nodes c.args.program.now) (its ∙ sym kept_code) in
    let choosing = c.in_ok-choosing.ensures.value ∙ ap choosing_nodes (own ∙ sym kept_code) in
    record {
      code = record {
        accepted = subst IsAccepted (sym same) c.graph.ensures.accepted;
        there = subst (λ (k : Graph). n < length k.codes) (sym same) c.requires.in_range;
        parts = subst (ArePartsOf (code_of c.args.program.now n)) (sym kept_parts)
            (subst (λ (d : Code). ArePartsOf d c.args.parts.now) (sym its) c.requires.whole);
        classes = subst AreKept (sym kept_parts) c.in_ok-blocks.ensures.kept;
      };
      own = kept_code ∙ sym its;
      slots = c.in_ok-slots.ensures.value ∙ ap (λ (d : Code). map (slot_of d) (below (suc (length d.nodes)))) (own ∙ sym kept_code);
      inlet_nodes = listed;
      inlets = c.in_ok-inlets.ensures.value ∙ ap₂ (λ l m. map (place_in l) (below m)) (c.deref.ensures.value ∙ listed) nodes;
      choices = c.in_ok-choices.ensures.value ∙ ap₂ (λ l m. map (place_in l) (below m)) (c.deref-2.ensures.value ∙ choosing) nodes_again;
      inlet_threads = c.in_ok-inlet_threads.ensures.value;
    }
