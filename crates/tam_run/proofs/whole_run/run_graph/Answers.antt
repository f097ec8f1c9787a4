use Rattle.std.proofs.Common.{[], sym, subst}
use Rattle.tam_eval.specs.GraphRuns.{graph_told}
use Rattle.tam_run.specs.Accounts.{plain_account}
use Rattle.tam_run.specs.GraphTelling.{GraphTells}
use Rattle.tam_run.proofs.Texts.{none-written}
use Rattle.tam_run.proofs.GraphEvents.{graph-opened}
use Rattle.tam_run.proofs.whole_run.run_graph.Goals as goal

pub follow-requires-clause-begun : goal.follow-requires-clause-begun
follow-requires-clause-begun g c = (
  plain_account (graph_told c.args.g.now c.args.args.now c.args.order c.args.limits),
  subst (λ run. GraphTells run c.args.order [] (plain_account (graph_told c.args.g.now c.args.args.now c.args.order c.args.limits)))
      (sym c.in-Ok.ensures.value) (graph-opened c.args.g.now c.args.args.now c.args.order c.args.limits),
)

pub returns-in-Ok-clause-text : goal.returns-in-Ok-clause-text
returns-in-Ok-clause-text g c = c.follow.ensures.text (plain_account (graph_told c.args.g.now c.args.args.now c.args.order c.args.limits))
    (subst (λ run. GraphTells run c.args.order [] (plain_account (graph_told c.args.g.now c.args.args.now c.args.order c.args.limits)))
    (sym c.in-Ok.ensures.value) (graph-opened c.args.g.now c.args.args.now c.args.order c.args.limits))

pub returns-in-Err-clause-text : goal.returns-in-Err-clause-text
returns-in-Err-clause-text g c =
    none-written (plain_account (graph_told c.args.g.now c.args.args.now c.args.order c.args.limits)) (g.K.Sink.taken c.args.out.now)
    c.from.result c.from.ensures
