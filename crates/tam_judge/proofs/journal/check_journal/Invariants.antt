use Rattle.std.proofs.Common.{◌≡◌, drop}
use Rattle.tam_flow.specs.Journals.{is_legal_from, is_legal}
use Rattle.tam_judge.specs.Machines.{state_of}
use Rattle.tam_judge.specs.CheckedEvents.{events_of, partitions_of}
use Rattle.tam_judge.proofs.CheckedJournals.{IsKept}
use Rattle.tam_judge.proofs.journal.check_journal.Given as goal

abbrev pub invariant-loop-event : goal.invariant-loop-event
invariant-loop-event l = record {
  same : is_legal_from l.g (partitions_of l.parts) (state_of l.machine) (events_of (drop l.event-index l.events))
      ≡ is_legal l.g (partitions_of l.parts) l.args (events_of l.events);
  kept : IsKept l.g l.args l.event-index (state_of l.machine);
}
