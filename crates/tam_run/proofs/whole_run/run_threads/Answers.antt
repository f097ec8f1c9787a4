use Rattle.std.proofs.Common.{sym, ◌∙◌, subst}
use Rattle.tl0_code.specs.ThreadRuns.{thread_told}
use Rattle.tl0_keep.specs.Compiled.{compiled}
use Rattle.tam_run.specs.Accounts.{plain_account}
use Rattle.tam_run.specs.Writing.{Executes}
use Rattle.tam_run.proofs.Texts.{none-written}
use Rattle.tam_run.proofs.MainParams.{params-same}
use Rattle.tam_run.proofs.whole_run.run_threads.Goals as goal

pub run_code-requires-clause-one_each : goal.run_code-requires-clause-one_each
run_code-requires-clause-one_each g c =
    rw (c.of.ensures.value, c.in-Ok.ensures.value)
    (c.requires.arguments.one_each ∙ sym (params-same c.args.g.now c.graph-graph.ensures.accepted))

pub returns-in-Ok-clause-text : goal.returns-in-Ok-clause-text
returns-in-Ok-clause-text g c = subst (λ p. Executes (plain_account (thread_told p c.args.args.now c.args.order c.args.limits)) (g.K.Sink.taken c.args.out.now)
    (g.K.Sink.taken c.run_code.new.out) c.run_code.result) (c.of.ensures.value ∙ c.in-Ok.ensures.value) c.run_code.ensures.text

pub returns-in-Err-clause-text : goal.returns-in-Err-clause-text
returns-in-Err-clause-text g c =
    none-written (plain_account (thread_told (compiled c.args.g.now) c.args.args.now c.args.order c.args.limits)) (g.K.Sink.taken c.args.out.now)
    c.from.result c.from.ensures
