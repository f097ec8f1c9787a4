-- Lists of cells: from a cell on, each leads to the next.
use Rattle.std.specs.Prelude.{◌≡◌, ◌≢◌, ℕ, zero, suc, List, [], ◌∷◌, ◌++◌}
use Rattle.linked_cells.specs.Cells.{LinkedCell, cell_at}

-- the n cells behind a cell, by their numbers
abbrev pub behind : List LinkedCell → ℕ → ℕ → List ℕ
behind cells at zero = []
behind cells at (suc n) = (cell_at cells at).link ∷ behind cells (cell_at cells at).link n

-- a cell and the n cells behind it
abbrev pub from : List LinkedCell → ℕ → ℕ → List ℕ
from cells at n = at ∷ behind cells at n

-- the last of those
abbrev pub last_from : List LinkedCell → ℕ → ℕ → ℕ
last_from cells at zero = at
last_from cells at (suc n) = last_from cells (cell_at cells at).link n

-- a number isn't in a list
abbrev pub IsApart : ℕ → List ℕ → Type 0
IsApart i [] = Unit {0}
IsApart i (j ∷ js) = (i ≢ j) × IsApart i js

-- no number is in a list twice
abbrev pub IsDistinct : List ℕ → Type 0
IsDistinct [] = Unit {0}
IsDistinct (i ∷ is) = IsApart i is × IsDistinct is

-- ---- what a change of links does to lists

-- a list from which the cell `at` is apart stays
abbrev pub StaysApart : List LinkedCell → List LinkedCell → ℕ → Type 0
StaysApart old new at = (head n : ℕ) → IsApart at (from old head n) → behind new head n ≡ behind old head n

-- a list from which both cells are apart stays
abbrev pub StaysApartFromBoth : List LinkedCell → List LinkedCell → ℕ → ℕ → Type 0
StaysApartFromBoth old new at i = (head n : ℕ) → IsApart at (from old head n) → IsApart i (from old head n) → behind new head n ≡ behind old head n

-- a cell that is not in the list behind a head is the first of it then
abbrev pub IsPushed : List LinkedCell → List LinkedCell → ℕ → ℕ → Type 0
IsPushed old new head i = (n : ℕ) → IsApart head (behind old head n) → IsApart i (from old head n) → behind new head (suc n) ≡ i ∷ behind old head n

-- behind the last cell of a list it is the last of it then
abbrev pub IsAppended : List LinkedCell → List LinkedCell → ℕ → ℕ → Type 0
IsAppended old new at i =
    (head n : ℕ) → at ≡ last_from old head n → IsDistinct (from old head n) → IsApart i (from old head n) → behind new head (suc n) ≡ behind old head
    n ++ i ∷ []

-- the first cell behind a head is gone from its list
abbrev pub IsPopped : List LinkedCell → List LinkedCell → ℕ → Type 0
IsPopped old new head = (n : ℕ) → IsApart head (behind old head (suc n)) → behind old head (suc n) ≡ (cell_at old head).link ∷ behind new head n
