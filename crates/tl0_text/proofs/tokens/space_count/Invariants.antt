-- The count so far is that of the spaces that were passed.
use Rattle.std.proofs.Common.{◌≡◌, ◌≤◌, take}
use Rattle.std.specs.Prelude.{count_by}
use Rattle.tl0_text.specs.CodeSayings.{is_space}
use Rattle.tl0_text.proofs.tokens.space_count.Given as goal

abbrev pub invariant-loop-byte : goal.invariant-loop-byte
invariant-loop-byte l = record {
  counted : l.count ≡ count_by is_space (take l.byte-index l.line);
  few : l.count ≤ l.byte-index;
}
