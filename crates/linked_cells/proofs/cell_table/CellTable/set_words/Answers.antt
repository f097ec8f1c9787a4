use Rattle.std.proofs.Common.{sym, ap, ◌∙◌, slice_set}
use Rattle.linked_cells.specs.Cells.{CellRow, LinkedCell, cell_at}
use Rattle.linked_cells.proofs.CellLemmas.{block_of_table, within, readable, read_is, writes_is}
use Rattle.linked_cells.proofs.cell_table.CellTable.set_words.Goals as goal

pub read-requires : goal.read-requires
read-requires c =
    let s = c.self.inside in let k = block_of_table s c.self.invariant in let now = ap (λ (r : CellRow). r.cells) c.self.view_is in
    record {
      there = readable s.base.ptr s.count k c.nth-address.result.ptr c.args.i c.nth-address.ensures.value
          (within s.base.ptr s.count k c.args.self.now.cells now c.args.i c.requires.there);
    }

pub returns : goal.returns
returns c =
    let s = c.self.inside in let b = s.base.ptr in let n = s.count in let k = block_of_table s c.self.invariant in
    let now = ap (λ (r : CellRow). r.cells) c.self.view_is in let i = c.args.i in
    let p = c.nth-address.result.ptr in let is = c.nth-address.ensures.value in let lt = within b n k c.args.self.now.cells now i c.requires.there in
    let link = ap (λ (l : LinkedCell). l.link) (sym (read_is b n k p i is lt c.read.result.now c.read.ensures.value) ∙ ap (λ cells. cell_at cells i) now) in
    record {
      value = λ j. record {
        cells = (writes_is b n k p i is lt _ c.write.new.self.places c.write.ensures.value.1
            ∙ (λ h. slice_set (now h) i (record { first = c.args.first; second = c.args.second; link = link h }))) j;
        room = (ap (λ (r : CellRow). r.room) c.self.view_is) j;
      };
    }
