use Rattle.std.proofs.Common.{◌≡◌, ◌++◌, drop}
use Rattle.tam_eval.proofs.steps.send_all.Given as goal

abbrev pub invariant-loop-message : goal.invariant-loop-message
invariant-loop-message l = l.pending.messages ++ drop l.message-index l.messages ≡ l.fn.pending.messages ++ l.messages
