use Rattle.std.proofs.Common.{◌≡◌, ◌∙◌, ap, ◌<◌, ◌^◌, ◌++◌, ◌∷◌, [], List, length, replicate, arith, subst, sym}
use Rattle.std.specs.declared.vec.Vec.{Vec}
use Rattle.std.specs.declared.alloc.Global.{Global}
use Rattle.std.proofs.lemmas.List.{map-append}
use Rattle.tam_istr.specs.declared.cell.Cell.{Cell as KeptCell}
use Rattle.tam_istr.specs.Cells.{Empty, with_array, cells_used}
use Rattle.tam_istr.specs.CellAnswers.{cells_of, arrays_of}
use Rattle.tam_istr.proofs.AccessLemmas.{counted-more}
use Rattle.tam_istr.proofs.cells.Cells.alloc_cells.Goals as goal

pub invariant_of-self-2 : goal.invariant_of-self-2
invariant_of-self-2 c =
    let old = c.self.inside.arrays.items in
    let longer : c.push.new.self.items ≡ old ++ c.in_ok-cells.cells ∷ [] = c.in_ok-push.ensures.items in
    let made : arrays_of c.push.new.self.items ≡ with_array (arrays_of old) c.args.len =
    ap (λ (l : List (Vec KeptCell Global)). arrays_of l) longer ∙ map-append (λ (v : Vec KeptCell Global). cells_of v.items) old (c.in_ok-cells.cells ∷ [])
    ∙ ap (λ (l : List _). arrays_of old ++ l ∷ []) c.in_ok-cells.ensures.value in
    rw made (rw c.from.ensures (counted-more (arrays_of old) c.self.inside.used c.args.len c.ranges.len.fits c.self.invariant))
