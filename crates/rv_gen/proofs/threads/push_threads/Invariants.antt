-- The machine code of the rest goes behind what was pushed, and the rest is sayable.
use Rattle.std.proofs.Common.{◌≡◌, ◌++◌, length, flat_map}
use Rattle.std.specs.List.{AllByRecursion}
use Rattle.rv_gen.specs.Sayable.{AreSayable}
use Rattle.rv_gen.specs.Parts.{words_of, insts_at}
use Rattle.rv_gen.proofs.threads.push_threads.Given as goal

abbrev pub invariant-loop-rest : goal.invariant-loop-rest
invariant-loop-rest l = record {
  ok : l.words.items ++ words_of (flat_map (insts_at l.slots l.starts l.code) l.rest)
      ≡ l.fn.words.items ++ words_of (flat_map (insts_at l.slots l.starts l.code) l.fn.threads);
  sayable : AllByRecursion (AreSayable l.slots (length l.starts)) l.rest;
}

abbrev pub decreases-loop-rest : goal.decreases-loop-rest
decreases-loop-rest l = length l.rest
