use Rattle.std.proofs.Common.{ℕ, ◌≡◌, ◌<◌, length, slice_index}
use Rattle.tam_split.specs.Partitions.{class_of}
use Rattle.tam_order.proofs.classes.class_numbers.Given as goal

abbrev pub invariant-loop : goal.invariant-loop
invariant-loop l = length l.numbers.items ≡ l.counter

abbrev pub invariant-loop-k : goal.invariant-loop-k
invariant-loop-k l =
    (length l.numbers.items ≡ length l.b.vertices) × ((x : ℕ) → x < length l.b.vertices → class_of l.p x < l.k → slice_index l.numbers.items x ≡ class_of l.p x)
