-- What contracts see of the arrays that the code keeps, and what its answers say.
use Rattle.std.specs.Prelude.{ℕ, ◌≡◌, ◌*◌, ◌<◌, ◌≤◌, ◌^◌, List, map, length, slice_get, Some, Result, Ok, Err}
use Rattle.std.specs.declared.vec.Vec.{Vec}
use Rattle.std.specs.declared.alloc.Global.{Global}
use Rattle.tam_istr.specs.declared.reader.Reader.{Reader}
use Rattle.tam_istr.specs.declared.cell.Cell.{Cell as KeptCell}
use Rattle.tam_istr.specs.declared.cell.Cell.TheVariants.{Empty as Kept_empty, Filled as Kept_filled}
use Rattle.tam_istr.specs.declared.cells.Fetched.{Fetched}
use Rattle.tam_istr.specs.declared.cells.Fetched.TheVariants.{Now as Gave, Deferred as Waits}
use Rattle.tam_istr.specs.declared.errors.FetchError.{FetchError}
use Rattle.tam_istr.specs.declared.errors.FetchError.TheVariants.{NoArray as No_array_to_fetch, OutOfRange as Fetch_out_of_range}
use Rattle.tam_istr.specs.declared.errors.FetchError.TheVariants.{NoMemory as No_memory_for_reader}
use Rattle.tam_istr.specs.declared.errors.StoreError.{StoreError}
use Rattle.tam_istr.specs.declared.errors.StoreError.TheVariants.{NoArray as No_array_to_store, OutOfRange as Store_out_of_range, Twice as Second_store}
use Rattle.tam_istr.specs.Cells.{Cell, Empty, Filled, Arrays, Access, Now, Deferred, Stored, Twice, NotBelow, NoArray, cells_used}

-- a reader as the pair of its frame and its inlet
abbrev pub reader_pair : Reader → ℕ × ℕ
reader_pair r = (r.frame, r.inlet)

-- a cell that the code keeps
abbrev pub cell_of : KeptCell → Cell
cell_of (Kept_empty readers) = Empty (map reader_pair readers.items)
cell_of (Kept_filled word site) = Filled word site

-- the cells of an array that the code keeps
abbrev pub cells_of : List KeptCell → List Cell
cells_of cells = map cell_of cells

-- the arrays that the code keeps
abbrev pub arrays_of : List (Vec KeptCell Global) → Arrays
arrays_of arrays = map (λ cells. cells_of cells.items) arrays

-- the length of each array is a word
abbrev pub AreShort : Arrays → Type 0
AreShort arrays = (a : ℕ) (cells : List Cell) → slice_get arrays a ≡ Some cells → length cells < 2 ^ 32

-- the cells in use are counted, each length is a word, and so all together are fewer than a count of 64 bits
pub record IsCounted (arrays : Arrays) (used : ℕ) : Type 0 where
  pub counted : used ≡ cells_used arrays
  pub short : AreShort arrays
  pub few : used ≤ 4294967295 * length arrays

-- the reader waits from now on
abbrev pub IsDeferred : Access → Type 0
IsDeferred (Deferred arrays) = Unit {0}
IsDeferred _ = ⊥

-- the answer is what comes of the fetch, or memory is wanted for a reader who would wait; where no reader was put off, all cells are as before
abbrev pub FetchAnswer : Access → Arrays → Arrays → Result Fetched FetchError → Type 0
FetchAnswer access old new (Ok (Gave word)) = (access ≡ Now word) × (new ≡ old)
FetchAnswer access old new (Ok Waits) = access ≡ Deferred new
FetchAnswer access old new (Err No_array_to_fetch) = (access ≡ NoArray) × (new ≡ old)
FetchAnswer access old new (Err (Fetch_out_of_range len)) = (access ≡ NotBelow len) × (new ≡ old)
FetchAnswer access old new (Err No_memory_for_reader) = IsDeferred access × (new ≡ old)

-- the answer is what comes of the store; where it is refused, all cells are as before
abbrev pub StoreAnswer : Access → Arrays → Arrays → Result (Vec Reader Global) StoreError → Type 0
StoreAnswer access old new (Ok readers) = access ≡ Stored new (map reader_pair readers.items)
StoreAnswer access old new (Err No_array_to_store) = (access ≡ NoArray) × (new ≡ old)
StoreAnswer access old new (Err (Store_out_of_range len)) = (access ≡ NotBelow len) × (new ≡ old)
StoreAnswer access old new (Err (Second_store first)) = (access ≡ Twice first) × (new ≡ old)
