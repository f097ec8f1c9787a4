use Rattle.std.proofs.Common.{refl}
use Rattle.tam_msgs.specs.Runs.{Trap}
use Rattle.rv_inst.specs.Traps.{trap_text}
use Rattle.tam_run.proofs.LastLines.{end-written, end-broken}
use Rattle.tam_run.proofs.finishing.finish_trap.Goals as goal

pub returns-in-Ok-clause-text : goal.returns-in-Ok-clause-text
returns-in-Ok-clause-text g c = λ results printed. (
  end-written c.end_lines.result c.trap_line.result (Trap c.args.pc (trap_text c.args.cause)) c.args.tally (λ n ps t. refl) c.trap_line.ensures.value
      c.end_lines.ensures.made c.end_lines.ensures.value results printed _ _ c.in-Ok.ensures.text,
  (c.args.pc, trap_text c.args.cause, refl),
)

pub returns-in-Err-clause-text : goal.returns-in-Err-clause-text
returns-in-Err-clause-text g c = λ results printed. rw c.outcome_of.ensures.value
    (end-broken c.end_lines.result c.trap_line.result (Trap c.args.pc (trap_text c.args.cause)) c.args.tally (λ n ps t. refl) c.trap_line.ensures.value
    c.end_lines.ensures.made c.end_lines.ensures.value results printed _ _ c.in-Err.broken c.in-Err.ensures.text)
