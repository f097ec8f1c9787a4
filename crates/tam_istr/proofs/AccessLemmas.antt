-- What an access finds, by what is there; and what a changed cell leaves.
use Rattle.std.proofs.Common.{◌≡◌, ◌∙◌, sym, ap, refl, ℕ, zero, suc, ◌+◌, ◌<◌, ◌^◌, List, [], ◌∷◌, ◌++◌, length, Option, Some, None, slice_set}
use Rattle.std.proofs.Common.{unwrap_or, get_or, arith, rules}
use Rattle.std.specs.Prelude.{◌≤◌, slice_get, replicate}
use Rattle.std.proofs.lemmas.Option.{slice_get_past, slice_get_within, get_or_from_slice_get}
use Rattle.std.proofs.lemmas.List.{set-get_or, length-replicate, length-append}
use Rattle.std.proofs.lemmas.List.Sums.{sum_by-set, sum_by-append, sum_by-cons}
use Rattle.tam_istr.specs.Cells.{Cell, Empty, Arrays, Access, NotBelow, in_array, with_cell, with_array, cells_used}
use Rattle.tam_istr.specs.CellAnswers.{AreShort, IsCounted}

-- an access to a cell that is there
pub in_array-there : (i : ℕ) (access : Option Cell → Access) (array : Option (List Cell)) (cells : List Cell) (cell : Cell) → array ≡ Some cells
    → slice_get cells i ≡ Some cell → in_array i access array ≡ access (Some cell)
in_array-there i access array cells cell array_is cell_is = rw array_is (rw cell_is refl)

-- an access behind the last cell
pub in_array-beyond : (i : ℕ) (access : Option Cell → Access) (array : Option (List Cell)) (cells : List Cell) → array ≡ Some cells → length cells ≤ i
    → in_array i access array ≡ NotBelow (length cells)
in_array-beyond i access array cells array_is beyond = let past : slice_get cells i ≡ None = slice_get_past cells i beyond in rw array_is (rw past refl)

-- a cell changed in an array that is there
pub with_cell-there : (arrays : Arrays) (a i : ℕ) (cells : List Cell) (cell : Cell) → slice_get arrays a ≡ Some cells
    → with_cell arrays a i cell ≡ slice_set arrays a (slice_set cells i cell)
with_cell-there arrays a i cells cell array_is = ap (λ (o : Option (List Cell)). slice_set arrays a (slice_set (unwrap_or o []) i cell)) array_is

-- a cell changed into itself
pub with_cell-same : (arrays : Arrays) (a i : ℕ) (cells : List Cell) (cell : Cell) → slice_get arrays a ≡ Some cells → slice_get cells i ≡ Some cell
    → with_cell arrays a i cell ≡ arrays
with_cell-same arrays a i cells cell array_is cell_is =
    let cell_read : get_or cells i cell ≡ cell = get_or_from_slice_get cells i cell cell cell_is in
    let array_read : get_or arrays a cells ≡ cells = get_or_from_slice_get arrays a cells cells array_is in
    let same : slice_set cells i cell ≡ cells = ap (λ (c : Cell). slice_set cells i c) (sym cell_read) ∙ set-get_or cells i cell in
    with_cell-there arrays a i cells cell array_is ∙ ap (λ (l : List Cell). slice_set arrays a l) same
    ∙ ap (λ (l : List Cell). slice_set arrays a l) (sym array_read) ∙ set-get_or arrays a cells

-- an array changed into one that is as long
pub cells_used-set : (arrays : Arrays) (a : ℕ) (before after : List Cell) → slice_get arrays a ≡ Some before → length after ≡ length before
    → cells_used (slice_set arrays a after) ≡ cells_used arrays
cells_used-set arrays a before after array_is same =
    let read : get_or arrays a before ≡ before = get_or_from_slice_get arrays a before before array_is in
    let read_len : length (get_or arrays a before) ≡ length before = ap (λ (l : List Cell). length l) read in
    omega (arith, sum_by-set (λ (l : List Cell). length l) arrays a after before (slice_get_within arrays a before array_is), same, read_len)

-- an array changed into one that is as long leaves each length a word
pub short-set : (arrays : Arrays) (a : ℕ) (before after : List Cell) → slice_get arrays a ≡ Some before → length after ≡ length before
    → AreShort arrays → AreShort (slice_set arrays a after)
short-set [] a before after array_is same short b cells is = short b cells is
short-set (x ∷ xs) zero before after array_is same short zero cells is =
    let first : after ≡ cells = search rules in
    let old : x ≡ before = search rules in
    omega (arith, short 0 x refl, ap (λ (l : List Cell). length l) old, same, ap (λ (l : List Cell). length l) first)
short-set (x ∷ xs) zero before after array_is same short (suc b) cells is = short (suc b) cells is
short-set (x ∷ xs) (suc a) before after array_is same short zero cells is = short 0 cells is
short-set (x ∷ xs) (suc a) before after array_is same short (suc b) cells is =
    short-set xs a before after array_is same (λ c l e. short (suc c) l e) b cells is

-- one more array that is short
pub short-more : (arrays : Arrays) (cells : List Cell) → length cells < 2 ^ 32 → AreShort arrays → AreShort (arrays ++ cells ∷ [])
short-more [] cells few short zero l is = let same : cells ≡ l = search rules in omega (arith, few, ap (λ (x : List Cell). length x) same)
short-more [] cells few short (suc a) l is = short (suc a) l is
short-more (x ∷ xs) cells few short zero l is = short 0 l is
short-more (x ∷ xs) cells few short (suc a) l is = short-more xs cells few (λ b m e. short (suc b) m e) a l is

-- so are the cells with one more array
pub counted-more : (arrays : Arrays) (used n : ℕ) → n < 2 ^ 32 → IsCounted arrays used → IsCounted (with_array arrays n) (used + n)
counted-more arrays used n few counted = record {
  counted = omega (arith, counted.counted, more, one);
  short = short-more arrays (replicate n (Empty [])) (rw (length-replicate n (Empty [])) few) counted.short;
  few = omega (arith, counted.few, few, length-append arrays (replicate n (Empty []) ∷ []));
}
  where
    more : cells_used (with_array arrays n) ≡ cells_used arrays + cells_used (replicate n (Empty []) ∷ [])
    more = sum_by-append (λ (l : List Cell). length l) arrays (replicate n (Empty []) ∷ [])

    one : cells_used (replicate n (Empty []) ∷ []) ≡ n
    one = omega (arith, sum_by-cons (λ (l : List Cell). length l) (replicate n (Empty [])) [], length-replicate n (Empty []))
