use Rattle.std.proofs.Common.{◌≡◌, ◌∙◌, ◌+◌, ◌∷◌, sym, ap, subst, length}
use Rattle.linked_cells.specs.Cells.{CellRow}
use Rattle.linked_cells.specs.declared.line.Line.{Line}
use Rattle.linked_cells.specs.Lines.{IsLine, items_of}
use Rattle.linked_cells.proofs.LineLemmas.{length-linked, line-front, last-alone, last-stays}
use Rattle.linked_cells.proofs.line.Line.push_front.Goals.{then-self-eq0, else-self-eq0}
use Rattle.linked_cells.proofs.line.Line.push_front.Goals as goal

pub returns-clause-line : goal.returns-clause-line
returns-clause-line c =
    let same = ap (λ (r : CellRow). length r.cells) c.link.ensures.value ∙ length-linked c.args.table.now.cells c.args.self.now.root c.args.i in
    let line = c.args.self.now in let old = c.args.table.now.cells in let new = c.link.new.self.cells in
    let behind = (λ (l : Line). IsLine new (record { root = l.root; last = l.last; count = l.count + 1 }) (c.args.i ∷ items_of old line)) in
    elim c.if-self-eq0.branch [
      | then-self-eq0 w ↦ subst behind (sym w.self-is) (line-front c.requires.line same c.args.i c.requires.there c.requires.apart c.args.i
          (last-alone old line c.args.i w.if-self-eq0.true) c.link.ensures.pushed)
      | else-self-eq0 w ↦ subst behind (sym w.self-is) (line-front c.requires.line same c.args.i c.requires.there c.requires.apart line.last
          (last-stays c.requires.line c.args.i w.if-self-eq0.false) c.link.ensures.pushed)
    ]
