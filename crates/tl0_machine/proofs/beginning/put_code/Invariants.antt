use Rattle.std.proofs.Common.{◌≡◌, ◌+◌, ◌-◌}
use Rattle.std.specs.Prelude.{vec_capacity, vec_len}
use Rattle.tam_word.specs.Lists.{put_at}
use Rattle.tl0_machine.proofs.beginning.put_code.Given as goal

abbrev pub invariant-loop-codes : goal.invariant-loop-codes
invariant-loop-codes l = record {
  same : put_at 0 l.f l.code l.codes.items ≡ put_at 0 l.f l.code l.fn.codes.items;
  room : vec_capacity l.codes ≡ vec_capacity l.fn.codes;
}

abbrev pub decreases-loop-codes : goal.decreases-loop-codes
decreases-loop-codes l = l.f + 1 - vec_len l.codes
