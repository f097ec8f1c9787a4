use Rattle.std.proofs.Common.{◌≡◌, ◌∙◌, ◌+◌, ◌++◌, ◌∷◌, [], suc, map, length, slice_get, Some, sym, ap, ap₂, subst, arith, List}
use Rattle.tam_word.specs.Lists.{below}
use Rattle.tam_graph.specs.declared.node.Node.{Node}
use Rattle.tam_graph.specs.Graphs.{or_kind, kind_at, has_value}
use Rattle.tam_split.proofs.Gathered.{node-there}
use Rattle.tl0_keep.specs.Compiled.{slot_of}
use Rattle.tl0_emit.proofs.NodeSteps.{map-more, slot-more, slot-same, slot-few}
use Rattle.tl0_emit.proofs.node_tables.slots_of.Goals as goal
use Rattle.tl0_emit.proofs.node_tables.slots_of.Goals.{then-has_value, else-has_value}

pub overflow_add-next : goal.overflow_add-next
overflow_add-next c =
    let few = slot-few c.args.code.now c.loop-node.node-index in
    let same = ap (λ (ns : List Node). length ns) c.nodes-node-items.ensures.value in
    omega (arith, few, same, c.loop-node.invariant.1, c.loop-node-test.true, c.nodes-node-items.ensures.few)

pub loop-node-preserved : goal.loop-node-preserved
loop-node-preserved c =
    let code = c.args.code.now in
    let i = c.loop-node.node-index in
    let there : slice_get code.nodes i ≡ Some c.node-item.result =
    subst (λ (ns : List Node). slice_get ns i ≡ Some c.node-item.result) c.nodes-node-items.ensures.value
    (node-there c.nodes-node-items.result.now i c.node-item.result c.loop-node-test.true c.node-item.is) in
    let value : has_value (kind_at code i) ≡ c.has_value.result = ap (λ o. has_value (or_kind o)) there ∙ sym c.has_value.ensures.value in (
      c.in_ok-push.ensures.items ∙ (ap₂ (λ l v. l ++ v ∷ []) c.loop-node.invariant.0 c.loop-node.invariant.1 ∙ sym (map-more (slot_of code) i)),
      elim c.if-has_value.branch [
        | then-has_value w ↦ w.next-is ∙ (ap (λ k. k + 1) c.loop-node.invariant.1 ∙ sym (slot-more code i (value ∙ w.if-has_value.true)))
        | else-has_value w ↦ w.next-is ∙ (c.loop-node.invariant.1 ∙ sym (slot-same code i (value ∙ w.if-has_value.false)))
      ],
    )

pub returns : goal.returns
returns c =
    let code = c.args.code.now in
    let i = c.loop-node.node-index in
    let same = ap (λ (ns : List Node). length ns) c.nodes-node-items.ensures.value in
    let last : i + 1 ≡ suc (length code.nodes) = omega (arith, same, c.loop-node-test.false, c.loop-node.auto.node-index-end) in
    record {
      value = c.in_ok-push-2.ensures.items ∙ (ap₂ (λ l v. l ++ v ∷ []) c.loop-node.invariant.0 c.loop-node.invariant.1
          ∙ (sym (map-more (slot_of code) i) ∙ ap (λ n. map (slot_of code) (below n)) last));
    }
