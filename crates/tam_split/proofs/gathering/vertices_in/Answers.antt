use Rattle.std.proofs.Common.{◌≡◌, subst, slice_get, Some}
use Rattle.tam_split.proofs.Gathered.{node-there, step-more, step-same}
use Rattle.tam_split.proofs.gathering.vertices_in.Goals as goal
use Rattle.tam_split.proofs.gathering.vertices_in.Goals.{then-line-block+in_ok-push_vertices, else-line-block}

pub loop-node-preserved : goal.loop-node-preserved
loop-node-preserved c =
    let code = c.args.code.now in
    let there : slice_get code.nodes c.loop-node.node ≡ Some c.line-item.result =
    subst (λ ns. slice_get ns c.loop-node.node ≡ Some c.line-item.result) c.nodes-line-items.ensures.value
    (node-there c.nodes-line-items.result.now c.loop-node.node c.line-item.result c.loop-node-test.true c.line-item.is) in
    elim c.if-line-block.branch [
      | then-line-block+in_ok-push_vertices w ↦ rw w.vertices-is
          (step-more code c.args.block c.loop-node.node c.loop-node.vertices.items w.push_vertices.new.vertices.items c.line-item.result there
          w.if-line-block.true c.loop-node.invariant w.in_ok-push_vertices.ensures.ok)
      | else-line-block w ↦ rw w.vertices-is
          (step-same code c.args.block c.loop-node.node c.loop-node.vertices.items c.line-item.result there w.if-line-block.false c.loop-node.invariant)
    ]
