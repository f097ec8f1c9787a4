use Rattle.std.proofs.Common.{ℕ, ◌≡◌, true, false, drop, length, slice_index}
use Rattle.tam_word.specs.Lists.{has}
use Rattle.tam_order.proofs.classes.set_each.Given as goal

abbrev pub invariant-loop-place : goal.invariant-loop-place
invariant-loop-place l =
    (length l.numbers ≡ length l.initial.numbers)
    × ((x : ℕ) → has l.places x ≡ true → has (drop l.place-index l.places) x ≡ false → slice_index l.numbers x ≡ l.number)
    × ((x : ℕ) → has l.places x ≡ false → slice_index l.numbers x ≡ slice_index l.initial.numbers x)
