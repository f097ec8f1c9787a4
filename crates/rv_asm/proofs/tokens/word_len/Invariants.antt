-- The bytes that were passed are inside the word.
use Rattle.std.proofs.Common.{◌≡◌, ◌+◌, ◌≤◌, length}
use Rattle.rv_asm.specs.Splitting.{word_len}
use Rattle.rv_asm.proofs.tokens.word_len.Given as goal

abbrev pub invariant-loop-rest : goal.invariant-loop-rest
invariant-loop-rest l = record { so_far : l.len + word_len l.rest ≡ word_len l.bytes; within : l.len + length l.rest ≤ length l.bytes }

abbrev pub decreases-loop-rest : goal.decreases-loop-rest
decreases-loop-rest l = length l.rest
