use Rattle.tam_graph.specs.Graphs.{code_of}
use Rattle.tam_check.specs.Tables.{IsBorder}
use Rattle.tam_check.proofs.Borders.{borders-next}
use Rattle.tam_check.proofs.graph_tables.GraphTables.of.Goals as goal

pub loop-n-preserved : goal.loop-n-preserved
loop-n-preserved c =
    let here : IsBorder (code_of c.args.graph.now c.loop-n.n) c.in_ok-border.border.rows.items c.in_ok-border.border.seen.items =
    rw c.code.ensures.value at c.in_ok-border.ensures.value in
    rw c.in_ok-push.ensures.items (borders-next c.args.graph.now c.loop-n.n c.loop-n.borders.items c.in_ok-border.border c.loop-n.invariant here)
