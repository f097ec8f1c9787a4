use Rattle.std.proofs.Common.{◌≡◌, sym, ap, subst, ◌∙◌}
use Rattle.linked_cells.specs.Cells.{CellRow, LinkedCell, cell_at, cells_of, with_link, unlinked}
use Rattle.linked_cells.specs.Lists.{IsPopped, StaysApart}
use Rattle.linked_cells.proofs.CellLemmas.{block_of_table, cells_in, within, readable, read_is, leads, link_address, relinks_is}
use Rattle.linked_cells.proofs.ListLemmas.{popped, behind-with_link}
use Rattle.linked_cells.proofs.cell_table.CellTable.unlink.Goals as goal

pub read-requires : goal.read-requires
read-requires c =
    let s = c.self.inside in let b = s.base.ptr in let n = s.count in let k = block_of_table s c.self.invariant in let now =
    ap (λ (r : CellRow). r.cells) c.self.view_is in
    record {
      there = readable b n k c.nth-head.result.ptr c.args.at c.nth-head.ensures.value
          (within b n k c.args.self.now.cells now c.args.at c.requires.there);
    }

pub read-requires-2 : goal.read-requires-2
read-requires-2 c =
    let s = c.self.inside in let b = s.base.ptr in let n = s.count in let k = block_of_table s c.self.invariant in let now =
    ap (λ (r : CellRow). r.cells) c.self.view_is in
    let lt = within b n k c.args.self.now.cells now c.args.at c.requires.there in
    let to = leads b n k c.nth-head.result.ptr c.args.at c.nth-head.ensures.value lt c.read.result.now c.read.ensures.value in
    record { there = readable b n k c.read.result.now.link _ (link_address b n k c.read.result.now to) to.1 }

pub returns-clause-second : goal.returns-clause-second
returns-clause-second c =
    let s = c.self.inside in let b = s.base.ptr in let n = s.count in let k = block_of_table s c.self.invariant in let now =
    ap (λ (r : CellRow). r.cells) c.self.view_is in
    let head = c.nth-head.result.ptr in let at = c.args.at in let lt = within b n k c.args.self.now.cells now at c.requires.there in
    let x = c.read.result.now in let x_is = read_is b n k head at c.nth-head.ensures.value lt x c.read.ensures.value in
    let to = leads b n k head at c.nth-head.ensures.value lt x c.read.ensures.value in
    let y = c.read-2.result.now in let y_is = read_is b n k x.link _ (link_address b n k x to) to.1 y c.read-2.ensures.value in
    -- the cell behind it
    let behind = ap (λ (l : LinkedCell). cell_at (cells_in b n k) l.link) x_is ∙ y_is in
    sym (ap (λ cells. (cell_at cells (cell_at cells at).link).second) (sym now) ∙ ap (λ (l : LinkedCell). l.second) behind)

pub returns-clause-value : goal.returns-clause-value
returns-clause-value c =
    let s = c.self.inside in let b = s.base.ptr in let n = s.count in let k = block_of_table s c.self.invariant in let now =
    ap (λ (r : CellRow). r.cells) c.self.view_is in
    let head = c.nth-head.result.ptr in let at = c.args.at in let lt = within b n k c.args.self.now.cells now at c.requires.there in
    let x = c.read.result.now in let x_is = read_is b n k head at c.nth-head.ensures.value lt x c.read.ensures.value in
    let to = leads b n k head at c.nth-head.ensures.value lt x c.read.ensures.value in
    let y = c.read-2.result.now in let y_is = read_is b n k x.link _ (link_address b n k x to) to.1 y c.read-2.ensures.value in
    -- the cell behind it
    let behind = ap (λ (l : LinkedCell). cell_at (cells_in b n k) l.link) x_is ∙ y_is in
    let to_next = leads b n k x.link _ (link_address b n k x to) to.1 y c.read-2.ensures.value in
    let changed = relinks_is b n k head at c.nth-head.ensures.value lt y.link to_next.0 to_next.1 c.relink.new.memory.places c.relink.ensures.value
    ∙ ap (λ (l : LinkedCell). with_link (cells_in b n k) at l.link) (sym behind) in
    λ j. record { cells = (changed ∙ ap (λ cells. unlinked cells at) now) j; room = (ap (λ (r : CellRow). r.room) c.self.view_is) j }

-- the cells behind the call
cells_are : (c : goal.After-relink) → cells_of c.self.inside.base.ptr c.self.inside.count c.relink.new.memory.places ≡ unlinked c.args.self.now.cells c.args.at
cells_are c = ap (λ (r : CellRow). r.cells) (returns-clause-value c)

pub returns-clause-popped : goal.returns-clause-popped
returns-clause-popped c = subst (λ cells. IsPopped c.args.self.now.cells cells c.args.at) (sym (cells_are c))
    (popped c.args.self.now.cells c.args.at c.requires.there)

pub returns-clause-kept : goal.returns-clause-kept
returns-clause-kept c = subst (λ cells. StaysApart c.args.self.now.cells cells c.args.at) (sym (cells_are c))
    (behind-with_link c.args.self.now.cells c.args.at _)
