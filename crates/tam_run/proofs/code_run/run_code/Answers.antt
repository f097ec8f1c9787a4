use Rattle.std.proofs.Common.{[], sym, subst}
use Rattle.tl0_code.specs.ThreadRuns.{thread_told}
use Rattle.tam_run.specs.Accounts.{plain_account}
use Rattle.tam_run.specs.ThreadTelling.{ThreadTells}
use Rattle.tam_run.proofs.Texts.{none-written}
use Rattle.tam_run.proofs.ThreadOpening.{thread-opened}
use Rattle.tam_run.proofs.code_run.run_code.Goals as goal

pub follow-requires-clause-begun : goal.follow-requires-clause-begun
follow-requires-clause-begun g c = (
  plain_account (thread_told c.args.code c.args.args.now c.args.order c.args.limits),
  subst (λ run. ThreadTells run c.args.order [] (plain_account (thread_told c.args.code c.args.args.now c.args.order c.args.limits)))
      (sym c.in-Ok.ensures.value) (thread-opened c.args.code c.args.args.now c.args.order c.args.limits),
)

pub returns-in-Ok-clause-text : goal.returns-in-Ok-clause-text
returns-in-Ok-clause-text g c = c.follow.ensures.text (plain_account (thread_told c.args.code c.args.args.now c.args.order c.args.limits))
    (subst (λ run. ThreadTells run c.args.order [] (plain_account (thread_told c.args.code c.args.args.now c.args.order c.args.limits)))
    (sym c.in-Ok.ensures.value) (thread-opened c.args.code c.args.args.now c.args.order c.args.limits))

pub returns-in-Err-clause-text : goal.returns-in-Err-clause-text
returns-in-Err-clause-text g c =
    none-written (plain_account (thread_told c.args.code c.args.args.now c.args.order c.args.limits)) (g.K.Sink.taken c.args.out.now)
    c.from.result c.from.ensures
