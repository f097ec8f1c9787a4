-- The arguments so far are on their way.
use Rattle.std.proofs.Common.{◌≡◌, take, map, ℕ}
use Rattle.std.specs.Prelude.{zip}
use Rattle.tam_word.specs.Lists.{below}
use Rattle.tam_msgs.specs.declared.message.Message.TheVariants.{Word as Carry}
use Rattle.rv_host.proofs.opening.argument_messages.Given as goal

abbrev pub invariant-loop-place : goal.invariant-loop-place
invariant-loop-place l = l.pending.messages ≡ map (λ (kw : ℕ × ℕ). Carry 0 kw.0 kw.1) (zip (below l.place) (take l.place l.args))
