use Rattle.std.proofs.Common.{subst, ◌≡◌, ◌∙◌, sym, ap, refl, ℕ, ◌<◌, ◌≤◌, ◌++◌, ◌∷◌, [], List, length, get_or, map, is_ok, not, true, false, arith}
use Rattle.std.proofs.lemmas.List.{set-get_or, map-append}
use Rattle.tam_istr.specs.Cells.{Access, Arrays, Empty, NotBelow, Deferred, fetch_of, with_cell, cells_used}
use Rattle.tam_istr.specs.declared.cell.Cell.TheVariants.{Empty as Kept_empty, Filled as Kept_filled}
use Rattle.tam_istr.specs.declared.reader.Reader.{Reader as KeptReader}
use Rattle.std.specs.Prelude.{Result, Ok, Err}
use Rattle.std.specs.Result.{IsErrAnd}
use Rattle.tam_istr.specs.declared.cells.Fetched.{Fetched}
use Rattle.tam_istr.specs.declared.errors.FetchError.{FetchError}
use Rattle.tam_istr.specs.declared.errors.FetchError.TheVariants.{NoMemory as No_memory}
use Rattle.tam_istr.specs.CellAnswers.{IsDeferred, FetchAnswer, arrays_of, reader_pair}
use Rattle.tam_istr.proofs.KeptLemmas.{kept_beyond, kept_found, kept_written, kept_unchanged, kept_sizes, kept_short}
use Rattle.tam_istr.proofs.cells.fetch_cell.Goals as goal

pub returns-then-index-len-clause-answer : goal.returns-then-index-len-clause-answer
returns-then-index-len-clause-answer c =
    let kept = c.args.arrays.now in
    let array = c.index-arrays-array.result in
    let len : length (get_or kept c.args.array array).items ≡ c.len-then-index-len.result =
    sym (get_or kept c.args.array array).ok.0 ∙ sym c.len-then-index-len.ensures in
    let beyond : length (get_or kept c.args.array array).items ≤ c.args.index =
    omega (arith, c.len.ensures, c.if-index-len.true, c.len-then-index-len.ensures) in (
      kept_beyond kept c.args.array c.args.index array c.if-array-arrays.false (fetch_of (arrays_of kept) c.args.array c.args.index
          (reader_pair c.args.reader)) beyond ∙ ap NotBelow len,
      ap arrays_of (set-get_or kept c.args.array array),
    )

-- where the refusal is want of memory, what it says is the answer
wanting : (access : Access) (old : Arrays) (new : Arrays) (r : Result Fetched FetchError) → IsErrAnd r (λ e. e ≡ No_memory)
    → IsDeferred access × (new ≡ old) → FetchAnswer access old new r
wanting access old new (Ok r) never both = elim never [ ]
wanting access old new (Err e) is both = subst (λ e. FetchAnswer access old new (Err e)) (sym is) both

pub returns-in_err-push-in-Empty-clause-answer : goal.returns-in_err-push-in-Empty-clause-answer
returns-in_err-push-in-Empty-clause-answer c =
    let kept = c.args.arrays.now in
    let array = c.index-arrays-array.result in
    let inside : c.args.index < length (get_or kept c.args.array array).items =
    omega (arith, c.len.ensures, c.if-index-len.false, (get_or kept c.args.array array).ok.0) in
    let cell = Kept_empty c.in-Empty.readers in
    let is : cell ≡ get_or (get_or kept c.args.array array).items c.args.index cell = rw c.in-Empty.is at c.index_mut-cell.ensures.value in
    let same : c.push.new.self.items ≡ c.in-Empty.readers.items = c.in_err-push-in-Empty.ensures.items in
    let found = kept_found kept c.args.array c.args.index array c.if-array-arrays.false cell inside is (fetch_of
    (arrays_of kept) c.args.array c.args.index (reader_pair c.args.reader)) in
    wanting _ _ _ c.from_residual.result c.from_residual.ensures.1 (
      subst IsDeferred (sym found) tt,
      kept_unchanged kept c.args.array c.args.index array c.if-array-arrays.false cell inside is (Kept_empty c.push.new.self) (ap (λ
          (l : List KeptReader). Empty (map reader_pair l)) same),
    )

pub returns-in-Filled-clause-answer : goal.returns-in-Filled-clause-answer
returns-in-Filled-clause-answer c =
    let kept = c.args.arrays.now in
    let array = c.index-arrays-array.result in
    let inside : c.args.index < length (get_or kept c.args.array array).items =
    omega (arith, c.len.ensures, c.if-index-len.false, (get_or kept c.args.array array).ok.0) in
    let cell = Kept_filled c.in-Filled.word c.in-Filled.site in
    let is : cell ≡ get_or (get_or kept c.args.array array).items c.args.index cell = rw c.in-Filled.is at c.index_mut-cell.ensures.value in (
      kept_found kept c.args.array c.args.index array c.if-array-arrays.false cell inside is (fetch_of (arrays_of kept) c.args.array c.args.index
          (reader_pair c.args.reader)),
      kept_unchanged kept c.args.array c.args.index array c.if-array-arrays.false cell inside is cell refl,
    )

pub returns-in_ok-push-in-Empty-clause-answer : goal.returns-in_ok-push-in-Empty-clause-answer
returns-in_ok-push-in-Empty-clause-answer c =
    let kept = c.args.arrays.now in
    let array = c.index-arrays-array.result in
    let inside : c.args.index < length (get_or kept c.args.array array).items =
    omega (arith, c.len.ensures, c.if-index-len.false, (get_or kept c.args.array array).ok.0) in
    let cell = Kept_empty c.in-Empty.readers in
    let is : cell ≡ get_or (get_or kept c.args.array array).items c.args.index cell = rw c.in-Empty.is at c.index_mut-cell.ensures.value in
    let longer : c.push.new.self.items ≡ c.in-Empty.readers.items ++ c.args.reader ∷ [] = c.in_ok-push-in-Empty.ensures.items in
    let longer_pairs : map reader_pair c.push.new.self.items ≡ map reader_pair c.in-Empty.readers.items ++ reader_pair c.args.reader ∷ [] =
    ap (λ (l : List KeptReader). map reader_pair l) longer ∙ map-append reader_pair c.in-Empty.readers.items (c.args.reader ∷ []) in
    kept_found kept c.args.array c.args.index array c.if-array-arrays.false cell inside is (fetch_of (arrays_of kept) c.args.array c.args.index
    (reader_pair c.args.reader))
    ∙ ap Deferred (ap (λ (l : List (ℕ × ℕ)). with_cell (arrays_of kept) c.args.array c.args.index (Empty l)) (sym longer_pairs)
    ∙ sym (kept_written kept c.args.array c.args.index array c.if-array-arrays.false cell inside is (Kept_empty c.push.new.self)))

pub returns-then-index-len-clause-sizes : goal.returns-then-index-len-clause-sizes
returns-then-index-len-clause-sizes c = ap (λ (l : _). cells_used (arrays_of l)) (set-get_or c.args.arrays.now c.args.array c.index-arrays-array.result)

pub returns-in_err-push-in-Empty-clause-sizes : goal.returns-in_err-push-in-Empty-clause-sizes
returns-in_err-push-in-Empty-clause-sizes c = kept_sizes c.args.arrays.now c.args.array c.args.index c.index-arrays-array.result c.if-array-arrays.false
    (Kept_empty c.push.new.self)

pub returns-in-Filled-clause-sizes : goal.returns-in-Filled-clause-sizes
returns-in-Filled-clause-sizes c = kept_sizes c.args.arrays.now c.args.array c.args.index c.index-arrays-array.result c.if-array-arrays.false
    (Kept_filled c.in-Filled.word c.in-Filled.site)

pub returns-in_ok-push-in-Empty-clause-sizes : goal.returns-in_ok-push-in-Empty-clause-sizes
returns-in_ok-push-in-Empty-clause-sizes c = kept_sizes c.args.arrays.now c.args.array c.args.index c.index-arrays-array.result c.if-array-arrays.false
    (Kept_empty c.push.new.self)

pub returns-in_err-push-in-Empty-clause-short : goal.returns-in_err-push-in-Empty-clause-short
returns-in_err-push-in-Empty-clause-short c = kept_short c.args.arrays.now c.args.array c.args.index c.index-arrays-array.result c.if-array-arrays.false
    (Kept_empty c.push.new.self) c.requires.short

pub returns-in-Filled-clause-short : goal.returns-in-Filled-clause-short
returns-in-Filled-clause-short c = kept_short c.args.arrays.now c.args.array c.args.index c.index-arrays-array.result c.if-array-arrays.false
    (Kept_filled c.in-Filled.word c.in-Filled.site) c.requires.short

pub returns-in_ok-push-in-Empty-clause-short : goal.returns-in_ok-push-in-Empty-clause-short
returns-in_ok-push-in-Empty-clause-short c = kept_short c.args.arrays.now c.args.array c.args.index c.index-arrays-array.result c.if-array-arrays.false
    (Kept_empty c.push.new.self) c.requires.short
