-- Cells of two words and a link, by their numbers.
use Rattle.std.specs.Prelude.{ℕ, ◌<◌, ◌≤◌, List, [], ◌∷◌, ◌++◌, Option, Some, None, map, take, length, get_or, slice_set, nat_lt, Bool, true, false}
use denote.RawPtr.{Ptr}
use Rattle.linked_cells.specs.declared.cell_table.Cell.{Cell}
use Rattle.linked_cells.specs.contracts.cell_table.Cell.{the_row as cell_row}
use Rattle.linked_cells.specs.Addresses.{index_at, IsAddress}

-- two words, and the number of the cell that the link leads to
pub record LinkedCell : Type 0 where
  pub first : ℕ
  pub second : ℕ
  pub link : ℕ

-- the cells so far, and for how many there is room
pub record CellRow : Type 0 where
  pub cells : List LinkedCell
  pub room : ℕ

-- what stands for a cell that isn't there
abbrev pub no_cell : LinkedCell
no_cell = record { first = 0; second = 0; link = 0 }

-- cell i
abbrev pub cell_at : List LinkedCell → ℕ → LinkedCell
cell_at cells i = get_or cells i no_cell

-- what lies in a place of a block that begins at an address
abbrev pub seen : Ptr → Option Cell → LinkedCell
seen at None = no_cell
seen at (Some c) = record { first = c.first; second = c.second; link = index_at cell_row at c.link }

-- the cells in the first places of such a block
abbrev pub cells_of : Ptr → ℕ → List (Option Cell) → List LinkedCell
cells_of at count places = map (seen at) (take count places)

-- a place holds a cell whose link leads to one of so many places
abbrev pub IsLinked : Ptr → ℕ → Option Cell → Type 0
IsLinked at count None = ⊥
IsLinked at count (Some c) = IsAddress cell_row at c.link × (index_at cell_row at c.link < count)

-- each of the first places holds such a cell, and they are not more than there are
pub record AreLinked (at : Ptr) (count : ℕ) (places : List (Option Cell)) : Type 0 where
  pub each : (i : ℕ) → i < count → IsLinked at count (get_or places i None)
  pub within : count ≤ length places

-- a cell with another link
abbrev pub relinked : Option Cell → Ptr → Option Cell
relinked None p = None
relinked (Some c) p = Some (record c { link = p })

-- place i holds its cell with another link
abbrev pub with_address : List (Option Cell) → ℕ → Ptr → List (Option Cell)
with_address places i p = slice_set places i (relinked (get_or places i None) p)

-- ---- changes

-- cell i has these words
abbrev pub with_words : List LinkedCell → ℕ → ℕ → ℕ → List LinkedCell
with_words cells i first second = slice_set cells i (record { first = first; second = second; link = (cell_at cells i).link })

-- the link of cell i leads to cell j
abbrev pub with_link : List LinkedCell → ℕ → ℕ → List LinkedCell
with_link cells i j = slice_set cells i (record (cell_at cells i) { link = j })

-- a cell more, which leads to itself
abbrev pub with_cell : List LinkedCell → ℕ → ℕ → List LinkedCell
with_cell cells first second = cells ++ record { first = first; second = second; link = length cells } ∷ []

-- cell i has these words, or is added with them where there is none
abbrev pub with_put : List LinkedCell → ℕ → ℕ → ℕ → List LinkedCell
with_put cells i first second = elim (nat_lt i (length cells)) [ true ↦ with_words cells i first second | false ↦ with_cell cells first second ]

-- cell i stands behind the cell `at`, before those that stood there
abbrev pub linked : List LinkedCell → ℕ → ℕ → List LinkedCell
linked cells at i = with_link (with_link cells i (cell_at cells at).link) at i

-- the cell behind the cell `at` stands there no more
abbrev pub unlinked : List LinkedCell → ℕ → List LinkedCell
unlinked cells at = with_link cells at (cell_at cells (cell_at cells at).link).link
