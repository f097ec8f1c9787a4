-- What the arrays that the code keeps are to contracts: where an array and one of its cells were read.
use Rattle.std.proofs.Common.{◌≡◌, ◌∙◌, sym, subst, ap, refl, ℕ, ◌<◌, ◌≤◌, List, length, Option, Some, slice_set, get_or}
use Rattle.std.specs.Prelude.{slice_get}
use Rattle.std.specs.declared.vec.Vec.{Vec}
use Rattle.std.specs.declared.alloc.Global.{Global}
use Rattle.std.specs.Vec.{with_item}
use Rattle.std.proofs.lemmas.Option.{slice_get-map, slice_get-get_or, slice_get_read}
use Rattle.std.proofs.lemmas.List.{map-set, length-map, length-set}
use Rattle.tam_istr.specs.declared.cell.Cell.{Cell as KeptCell}
use Rattle.tam_istr.specs.Cells.{Cell, Access, NotBelow, in_array, with_cell, cells_used}
use Rattle.tam_istr.specs.CellAnswers.{cell_of, cells_of, arrays_of, AreShort}
use Rattle.tam_istr.proofs.AccessLemmas.{in_array-there, in_array-beyond, with_cell-there, with_cell-same, cells_used-set, short-set}

module _ (kept : List (Vec KeptCell Global)) (a i : ℕ) (array : Vec KeptCell Global) (array_inside : a < length kept) where
  -- the array as contracts see it
  pub kept_array : slice_get (arrays_of kept) a ≡ Some (cells_of (get_or kept a array).items)
  kept_array = rw (slice_get-map, slice_get-get_or kept a array array_inside) refl

  -- an access behind its last cell
  pub kept_beyond : (access : Option Cell → Access) → length (get_or kept a array).items ≤ i
      → in_array i access (slice_get (arrays_of kept) a) ≡ NotBelow (length (get_or kept a array).items)
  kept_beyond access beyond =
      let cells = cells_of (get_or kept a array).items in
      let behind : length cells ≤ i = simp length-map beyond in
      in_array-beyond i access (slice_get (arrays_of kept) a) cells kept_array behind ∙ ap NotBelow (length-map (get_or kept a array).items cell_of)

  -- another cell written in it leaves it as long as it was
  pub kept_sizes : (after : KeptCell) → cells_used (arrays_of (slice_set kept a (with_item (get_or kept a array) i after))) ≡ cells_used (arrays_of kept)
  kept_sizes after =
      ap cells_used (map-set (λ (v : Vec KeptCell Global). cells_of v.items) kept a (with_item (get_or kept a array) i after))
      ∙ cells_used-set (arrays_of kept) a (cells_of (get_or kept a array).items) (cells_of (slice_set (get_or kept a array).items i after)) kept_array
      (length-map (slice_set (get_or kept a array).items i after) cell_of ∙ length-set (get_or kept a array).items i after
      ∙ sym (length-map (get_or kept a array).items cell_of))

  -- and each length a word
  pub kept_short : (after : KeptCell) → AreShort (arrays_of kept) → AreShort (arrays_of (slice_set kept a (with_item (get_or kept a array) i after)))
  kept_short after short = subst AreShort (sym (map-set (λ (v : Vec KeptCell Global). cells_of v.items) kept a (with_item (get_or kept a array) i after)))
      (short-set (arrays_of kept) a (cells_of (get_or kept a array).items) (cells_of (slice_set (get_or kept a array).items i after)) kept_array
      (length-map (slice_set (get_or kept a array).items i after) cell_of ∙ length-set (get_or kept a array).items i after
      ∙ sym (length-map (get_or kept a array).items cell_of)) short)

  module _ (cell : KeptCell) (index_inside : i < length (get_or kept a array).items) (cell_is : cell ≡ get_or (get_or kept a array).items i cell) where
    -- the cell as contracts see it
    pub kept_cell : slice_get (cells_of (get_or kept a array).items) i ≡ Some (cell_of cell)
    kept_cell = rw (slice_get-map, slice_get_read (get_or kept a array).items (length (get_or kept a array).items) i cell refl index_inside cell_is) refl

    -- an access to it
    pub kept_found : (access : Option Cell → Access) → in_array i access (slice_get (arrays_of kept) a) ≡ access (Some (cell_of cell))
    kept_found access = in_array-there i access (slice_get (arrays_of kept) a) (cells_of (get_or kept a array).items) (cell_of cell) kept_array kept_cell

    -- another cell written in its place
    pub kept_written : (after : KeptCell) → arrays_of (slice_set kept a (with_item (get_or kept a array) i after)) ≡ with_cell (arrays_of kept) a i
        (cell_of after)
    kept_written after =
        map-set (λ (v : Vec KeptCell Global). cells_of v.items) kept a (with_item (get_or kept a array) i after)
        ∙ ap (λ (l : List Cell). slice_set (arrays_of kept) a l) (map-set cell_of (get_or kept a array).items i after)
        ∙ sym (with_cell-there (arrays_of kept) a i (cells_of (get_or kept a array).items) (cell_of after) kept_array)

    -- one that is the same to contracts
    pub kept_unchanged : (after : KeptCell) → cell_of after ≡ cell_of cell
        → arrays_of (slice_set kept a (with_item (get_or kept a array) i after)) ≡ arrays_of kept
    kept_unchanged after same =
        kept_written after ∙ ap (λ (x : Cell). with_cell (arrays_of kept) a i x) same
        ∙ with_cell-same (arrays_of kept) a i (cells_of (get_or kept a array).items) (cell_of cell) kept_array kept_cell
