use Rattle.std.proofs.Common.{◌∙◌, sym}
use Rattle.tam_split.proofs.Gathered.{step-edge, step-none}
use Rattle.tam_split.proofs.gathering.push_edges_from.Goals as goal
use Rattle.tam_split.proofs.gathering.push_edges_from.Goals.{then-names+in_ok-push, else-names}

pub loop-taking-preserved : goal.loop-taking-preserved
loop-taking-preserved c =
    elim c.if-names.branch [
      | then-names+in_ok-push w ↦ (
          let more = w.in_ok-push.ensures.items in
          rw w.edges-is (step-edge c.args.taken.now c.args.place c.args.node c.loop-taking.taking _ c.args.edges.now.items c.loop-taking.edges.items
          w.push.new.self.items
          c.loop-taking-test.true (sym c.names.ensures.value ∙ w.if-names.true) c.loop-taking.invariant more))
      | else-names w ↦ rw w.edges-is (step-none c.args.taken.now c.args.place c.args.node c.loop-taking.taking _ c.args.edges.now.items
          c.loop-taking.edges.items
          c.loop-taking-test.true (sym c.names.ensures.value ∙ w.if-names.false) c.loop-taking.invariant)
    ]
