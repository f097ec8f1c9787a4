use Rattle.std.proofs.Common.{◌≡◌, ◌∙◌, ◌++◌, ◌∷◌, [], slice_get, Some, sym, ap, subst, List}
use Rattle.tam_graph.specs.declared.node.Node.{Node}
use Rattle.tam_graph.specs.Graphs.{or_kind, kind_at}
use Rattle.tam_split.proofs.Gathered.{node-there}
use Rattle.tl0_keep.specs.Compiled.{is_choosing}
use Rattle.tl0_emit.proofs.NodeSteps.{filter-more_yes, filter-more_no}
use Rattle.tl0_emit.proofs.node_tables.choosing_nodes_of.Goals as goal
use Rattle.tl0_emit.proofs.node_tables.choosing_nodes_of.Goals.{then-is_choosing+in_ok-push, else-is_choosing}

pub loop-node-preserved : goal.loop-node-preserved
loop-node-preserved c =
    let code = c.args.code.now in
    let i = c.loop-node.node in
    let there : slice_get code.nodes i ≡ Some c.line-item.result =
    subst (λ (ns : List Node). slice_get ns i ≡ Some c.line-item.result) c.nodes-line-items.ensures.value
    (node-there c.nodes-line-items.result.now i c.line-item.result c.loop-node-test.true c.line-item.is) in
    let value : is_choosing (kind_at code i) ≡ c.is_choosing.result = ap (λ o. is_choosing (or_kind o)) there ∙ sym c.is_choosing.ensures.value in
    elim c.if-is_choosing.branch [
      | then-is_choosing+in_ok-push w ↦ rw w.nodes-is (w.in_ok-push.ensures.items ∙ (ap (λ l. l ++ i ∷ []) c.loop-node.invariant
          ∙ sym (filter-more_yes (λ x. is_choosing (kind_at code x)) i (value ∙ w.if-is_choosing.true))))
      | else-is_choosing w ↦ rw w.nodes-is (c.loop-node.invariant
          ∙ sym (filter-more_no (λ x. is_choosing (kind_at code x)) i (value ∙ w.if-is_choosing.false)))
    ]
