use Rattle.std.proofs.Common.{◌≡◌, ◌∙◌, sym, ap, subst, refl, ℕ, ◌+◌, List, arith}
use Rattle.std.specs.Prelude.{slice_index}
use Rattle.std.proofs.lemmas.List.{get_or_past}
use Rattle.linked_cells.specs.Cells.{CellRow, LinkedCell, with_words}
use Rattle.tam_frames.specs.FrameCells.{ArePut}
use Rattle.tam_frames.proofs.PutLemmas.{is-set, none-put, one-more-put}
use Rattle.tam_frames.proofs.frame_cells.set_numbered.Goals.{then-index-words, else-index-words}
use Rattle.tam_frames.proofs.frame_cells.set_numbered.Goals as goal

pub loop-i-init : goal.loop-i-init
loop-i-init c = record { put = none-put c.args.table.now.cells c.args.start c.args.words.now (omega (arith, c.requires.there)); kept = refl }

pub set_words-requires : goal.set_words-requires
set_words-requires c = record { there = omega (arith, c.loop-i.invariant.put.length_is, c.requires.there, c.loop-i-test.true) }

pub loop-i-preserved : goal.loop-i-preserved
loop-i-preserved c =
    let i = c.loop-i.i in let mid : List LinkedCell = c.loop-i.table.cells in let at : ℕ = c.args.start + i in
    let word_is : c.if-index-words.word ≡ slice_index c.args.words.now i = elim c.if-index-words.branch [
      | then-index-words w ↦ w.word-is
      | else-index-words w ↦ w.word-is ∙ sym (get_or_past c.args.words.now i 0 w.if-index-words.false)
    ] in
    let cells_are : c.set_words.new.self.cells ≡ with_words mid at (slice_index c.args.words.now i) i =
    ap (λ (r : CellRow). r.cells) c.set_words.ensures.value ∙ ap (λ (w : ℕ). with_words mid at w i) word_is in
    record {
      put = subst (λ (l : List LinkedCell). ArePut c.args.table.now.cells l c.args.start c.args.words.now (i + 1)) (sym cells_are)
          (one-more-put c.loop-i.invariant.put (is-set mid at (slice_index c.args.words.now i) i
          (omega (arith, c.loop-i.invariant.put.length_is, c.requires.there, c.loop-i-test.true))));
      kept = ap (λ (r : CellRow). r.room) c.set_words.ensures.value ∙ c.loop-i.invariant.kept;
    }

pub returns-clause-put : goal.returns-clause-put
returns-clause-put c =
    let all : c.loop-i.i ≡ c.args.count = omega (arith, c.loop-i-test.false, c.loop-i.auto.i-end) in
    subst (λ (n : ℕ). ArePut c.args.table.now.cells c.loop-i.table.cells c.args.start c.args.words.now n) all c.loop-i.invariant.put

pub returns-clause-kept : goal.returns-clause-kept
returns-clause-kept c = c.loop-i.invariant.kept
