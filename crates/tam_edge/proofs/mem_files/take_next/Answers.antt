use Rattle.std.proofs.Common.{◌≡◌, ◌∙◌, ℕ, List, ◌++◌, ◌-◌, length, length-drop, take, drop, reverse}
use Rattle.std.proofs.Common.{refl, sym, ap, arith, rules}
use Rattle.std.proofs.lemmas.List.{reverse-append, take-append-drop, take_all}
use Rattle.std.proofs.Math.Seq.{take-append_seam}
use Rattle.tam_edge.proofs.mem_files.take_next.Goals as goal

-- What was taken off the end, in reverse, stands before what is left, in reverse.
module _ (bytes : List ℕ) (rest : ℕ) (given behind left : List ℕ) where
  taken_off : (count : ℕ) → given ≡ reverse (drop rest bytes) → left ≡ take rest bytes → count ≡ length given →
      reverse bytes ≡ take count (given ++ behind) ++ reverse left
  taken_off count is_reversed is_prefix is_count =
      rw (is_count, take-append_seam given behind, is_reversed, is_prefix)
      (sym (ap reverse (take-append-drop rest bytes)) ∙ reverse-append (take rest bytes) (drop rest bytes))

-- the slice from a place on is what is left without the bytes before it
from_place : (place : ℕ) (bytes : List ℕ) → take (length bytes - place) (drop place bytes) ≡ drop place bytes
from_place place bytes =
    let whole : length (drop place bytes) ≡ length bytes - place = length-drop place bytes in
    take_all (length bytes - place) (drop place bytes) (omega arith)

pub returns-clause-given : goal.returns-clause-given
returns-clause-given c =
    taken_off c.args.bytes.now.items _ c.reverse.new.self (drop c.at_most-count.result c.args.piece.now) c.truncate.new.self.items c.at_most-count.result
    (rw (c.reverse.ensures.after, c.copy_from_slice.ensures.after, c.deref.ensures.value, from_place) refl)
    c.truncate.ensures.items
    (search rules)
