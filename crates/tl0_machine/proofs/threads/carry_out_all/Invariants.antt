-- What the instructions so far have left, those behind them go on with.
use Rattle.std.proofs.Common.{◌≡◌, ℕ, List, drop}
use Rattle.tam_msgs.specs.declared.item.Item.{Item}
use Rattle.tl0_code.specs.Machines.{Giving, done_all}
use Rattle.tl0_machine.specs.ThreadStates.{machine_of, beside_of, KeepsLive}
use Rattle.tl0_machine.proofs.threads.carry_out_all.Given as goal

abbrev pub invariant-loop-instr : goal.invariant-loop-instr
invariant-loop-instr l = record {
  same : (order : List Item) (printed : List (ℕ × ℕ)) → done_all Giving (machine_of l.fn.state order printed) l.f l.instrs
      ≡ done_all Giving (machine_of l.state order printed) l.f (drop l.instr-index l.instrs);
  beside : beside_of l.state ≡ beside_of l.fn.state;
  live : KeepsLive l.fn.state l.state;
}
