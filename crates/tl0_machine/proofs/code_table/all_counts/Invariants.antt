-- The codes so far have their lists.
use Rattle.std.proofs.Common.{◌≡◌, map, take}
use Rattle.tl0_code.specs.ThreadCode.{counts_of}
use Rattle.tl0_machine.specs.ThreadStates.{lists_of}
use Rattle.tl0_machine.proofs.code_table.all_counts.Given as goal

abbrev pub invariant-loop-code : goal.invariant-loop-code
invariant-loop-code l = lists_of l.lists.items ≡ map counts_of (take l.code-index l.codes)
