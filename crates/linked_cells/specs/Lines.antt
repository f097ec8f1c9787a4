-- Lines: lists of cells of which the root, the last cell and the length are known.
use Rattle.std.specs.Prelude.{ℕ, ◌≡◌, ◌<◌, Bool, cond, nat_eq, List, ◌∷◌, map, length}
use Rattle.std.specs.List.{AllByRecursion}
use Rattle.linked_cells.specs.declared.line.Line.{Line}
use Rattle.linked_cells.specs.Cells.{LinkedCell, CellRow, cell_at, unlinked}
use Rattle.linked_cells.specs.Lists.{behind, last_from, IsDistinct}

-- the cells in a line, the first one first
abbrev pub items_of : List LinkedCell → Line → List ℕ
items_of cells line = behind cells line.root line.count

-- their second words
abbrev pub numbers_of : List LinkedCell → Line → List ℕ
numbers_of cells line = map (λ i. (cell_at cells i).second) (items_of cells line)

-- no cell is in it
abbrev pub is_empty_line : Line → Bool
is_empty_line line = nat_eq line.count 0

-- the first one is taken out, if there is one
abbrev pub without_first : List LinkedCell → Line → List LinkedCell
without_first cells line = cond (is_empty_line line) cells (unlinked cells line.root)

-- a line has these cells: each is there, none is the root or comes twice, and the last one is known
pub record IsLine (cells : List LinkedCell) (line : Line) (items : List ℕ) : Type 0 where
  pub linked : items_of cells line ≡ items
  pub last_is : line.last ≡ last_from cells line.root line.count
  pub distinct : IsDistinct (line.root ∷ items)
  pub there : AllByRecursion (λ i. i < length cells) (line.root ∷ items)

-- links may have changed, and neither words nor the number of cells or the room
pub record KeepsWords (old new : CellRow) : Type 0 where
  pub first_same : (i : ℕ) → (cell_at new.cells i).first ≡ (cell_at old.cells i).first
  pub second_same : (i : ℕ) → (cell_at new.cells i).second ≡ (cell_at old.cells i).second
  pub length_same : length new.cells ≡ length old.cells
  pub room_same : new.room ≡ old.room
