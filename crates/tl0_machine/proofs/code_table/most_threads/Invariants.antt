-- The most threads of the codes so far.
use Rattle.std.proofs.Common.{◌≡◌, map, drop, length}
use Rattle.tl0_code.specs.ThreadCode.{CodeText, greater, greatest}
use Rattle.tl0_machine.proofs.code_table.most_threads.Given as goal

abbrev pub invariant-loop-code : goal.invariant-loop-code
invariant-loop-code l =
    greater l.most (greatest (map (λ (c : CodeText). length c.threads) (drop l.code-index l.codes)))
    ≡ greatest (map (λ (c : CodeText). length c.threads) l.codes)
