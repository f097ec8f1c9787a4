use Rattle.std.proofs.Common.{◌≡◌, ◌++◌, take}
use Rattle.tam_list.specs.Listings.{marked_text}
use Rattle.tam_list.proofs.vertices.push_marked.Given as goal

abbrev pub invariant-loop-place : goal.invariant-loop-place
invariant-loop-place l = l.text.items ≡ l.fn.text.items ++ marked_text l.mark l.block (take l.place-index l.places)
