use Rattle.std.proofs.Common.{◌≡◌}
use Rattle.rv_host.proofs.tests.run_of.Given as goal

-- the host counts what the machine has carried out
abbrev pub invariant-polls : goal.invariant-polls
invariant-polls l = l.rv.steps ≡ l.host.instructions
