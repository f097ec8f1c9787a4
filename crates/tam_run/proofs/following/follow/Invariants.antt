use Rattle.std.proofs.Common.{◌≡◌, []}
use Rattle.std.specs.List.{flat_map}
use Rattle.std.specs.Io.KnownBytes.{Appends}
use Rattle.tam_msgs.specs.Runs.{result_line}
use Rattle.tam_run.specs.Accounts.{Account}
use Rattle.tam_run.proofs.following.follow.Given as goal

abbrev pub invariant-events : goal.invariant-events
invariant-events g l = record {
  told : (a : Account) → g.M.LevelRun.tells l.fn.run l.fn.order [] a → g.M.LevelRun.tells l.run l.order l.printed.items a;
  taken : Appends (g.K.Sink.taken l.fn.out) (g.K.Sink.taken l.out) (flat_map result_line l.printed.items);
  counted : g.K.Sink.faults l.out ≡ g.K.Sink.faults l.fn.out;
}

abbrev pub decreases-events : goal.decreases-events
decreases-events g l = (g.M.LevelRun.stand l.run).room
