use Rattle.std.proofs.Common.{◌≡◌, ◌∙◌, sym, ap, refl, ◌<◌, ◌≤◌, length, get_or, map, set, arith}
use Rattle.std.proofs.lemmas.List.{set-get_or}
use Rattle.tam_istr.specs.Cells.{Arrays, Filled, NotBelow, Stored, store_of, with_cell, cells_used}
use Rattle.tam_istr.specs.declared.cell.Cell.TheVariants.{Empty as Kept_empty, Filled as Kept_filled}
use Rattle.std.specs.Vec.{with_item}
use Rattle.tam_istr.specs.declared.cell.Cell.{Cell as KeptCell}
use Rattle.tam_istr.specs.CellAnswers.{cell_of, arrays_of, reader_pair}
use Rattle.tam_istr.proofs.KeptLemmas.{kept_beyond, kept_found, kept_written, kept_unchanged, kept_sizes, kept_short}
use Rattle.tam_istr.proofs.cells.store_cell.Goals as goal

pub returns-then-index-len-clause-answer : goal.returns-then-index-len-clause-answer
returns-then-index-len-clause-answer c =
    let kept = c.args.arrays.now in
    let array = c.index-arrays-array.result in
    let len : length (get_or kept c.args.array array).items ≡ c.len-then-index-len.result =
    sym (get_or kept c.args.array array).ok.0 ∙ sym c.len-then-index-len.ensures in
    let beyond : length (get_or kept c.args.array array).items ≤ c.args.index =
    omega (arith, c.len.ensures, c.if-index-len.true, c.len-then-index-len.ensures) in (
      kept_beyond kept c.args.array c.args.index array c.if-array-arrays.false (store_of
          (arrays_of kept) c.args.array c.args.index c.args.word c.args.site) beyond ∙ ap NotBelow len,
      ap arrays_of (set-get_or kept c.args.array array),
    )

pub returns-in-Filled-clause-answer : goal.returns-in-Filled-clause-answer
returns-in-Filled-clause-answer c =
    let kept = c.args.arrays.now in
    let array = c.index-arrays-array.result in
    let inside : c.args.index < length (get_or kept c.args.array array).items =
    omega (arith, c.len.ensures, c.if-index-len.false, (get_or kept c.args.array array).ok.0) in
    let cell = Kept_filled c.in-Filled.word c.in-Filled.first in
    let is : cell ≡ get_or (get_or kept c.args.array array).items c.args.index cell = rw c.in-Filled.is at c.index_mut-cell.ensures.value in (
      kept_found kept c.args.array c.args.index array c.if-array-arrays.false cell inside is (store_of
          (arrays_of kept) c.args.array c.args.index c.args.word c.args.site),
      kept_unchanged kept c.args.array c.args.index array c.if-array-arrays.false cell inside is cell refl,
    )

pub returns-clause-answer : goal.returns-clause-answer
returns-clause-answer c =
    let kept = c.args.arrays.now in
    let array = c.index-arrays-array.result in
    let inside : c.args.index < length (get_or kept c.args.array array).items =
    omega (arith, c.len.ensures, c.if-index-len.false, (get_or kept c.args.array array).ok.0) in
    let cell = Kept_empty c.in-Empty.readers in
    let read : cell ≡ c.index_mut-cell.result.now = c.in-Empty.ensures.value in
    let is : cell ≡ get_or (get_or kept c.args.array array).items c.args.index cell = rw (sym read) at c.index_mut-cell.ensures.value in
    let changed : arrays_of (set kept c.args.array (with_item (get_or kept c.args.array array) c.args.index c.replace.new.dest)) ≡ with_cell
    (arrays_of kept) c.args.array c.args.index (Filled c.args.word c.args.site) =
    kept_written kept c.args.array c.args.index array c.if-array-arrays.false cell inside is c.replace.new.dest
    ∙ ap (λ (x : KeptCell). with_cell (arrays_of kept) c.args.array c.args.index (cell_of x)) c.in-Empty.ensures.after in
    kept_found kept c.args.array c.args.index array c.if-array-arrays.false cell inside is (store_of
    (arrays_of kept) c.args.array c.args.index c.args.word c.args.site)
    ∙ ap (λ (l : Arrays). Stored l (map reader_pair c.in-Empty.readers.items)) (sym changed)

pub returns-then-index-len-clause-sizes : goal.returns-then-index-len-clause-sizes
returns-then-index-len-clause-sizes c = ap (λ (l : _). cells_used (arrays_of l)) (set-get_or c.args.arrays.now c.args.array c.index-arrays-array.result)

pub returns-in-Filled-clause-sizes : goal.returns-in-Filled-clause-sizes
returns-in-Filled-clause-sizes c = kept_sizes c.args.arrays.now c.args.array c.args.index c.index-arrays-array.result c.if-array-arrays.false
    (Kept_filled c.in-Filled.word c.in-Filled.first)

pub returns-clause-sizes : goal.returns-clause-sizes
returns-clause-sizes c = kept_sizes c.args.arrays.now c.args.array c.args.index c.index-arrays-array.result c.if-array-arrays.false (c.replace.new.dest)

pub returns-in-Filled-clause-short : goal.returns-in-Filled-clause-short
returns-in-Filled-clause-short c = kept_short c.args.arrays.now c.args.array c.args.index c.index-arrays-array.result c.if-array-arrays.false
    (Kept_filled c.in-Filled.word c.in-Filled.first) c.requires.short

pub returns-clause-short : goal.returns-clause-short
returns-clause-short c = kept_short c.args.arrays.now c.args.array c.args.index c.index-arrays-array.result c.if-array-arrays.false
    (c.replace.new.dest) c.requires.short
