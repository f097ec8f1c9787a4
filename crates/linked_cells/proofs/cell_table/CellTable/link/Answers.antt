use Rattle.std.proofs.Common.{◌≡◌, sym, ap, subst, ◌∙◌, ◌<◌, length, length-set}
use Rattle.linked_cells.specs.Cells.{CellRow, cells_of, with_link, linked}
use Rattle.linked_cells.specs.Lists.{IsPushed, IsAppended, StaysApartFromBoth}
use Rattle.linked_cells.proofs.CellLemmas.{Linking, block_of_table, within, readable, addressed_from, index_from, relinks, relinks_is, halfway}
use Rattle.linked_cells.proofs.CellLemmas.{halfway_is, halfway_head}
use Rattle.linked_cells.proofs.ListLemmas.{pushed, appended, stays}
use Rattle.linked_cells.proofs.cell_table.CellTable.link.Goals as goal

pub read-requires : goal.read-requires
read-requires c =
    let s = c.self.inside in let b = s.base.ptr in let n = s.count in let k = block_of_table s c.self.invariant in let now =
    ap (λ (r : CellRow). r.cells) c.self.view_is in
    record {
      there = readable b n k c.nth-head.result.ptr c.args.at c.nth-head.ensures.value
          (within b n k c.args.self.now.cells now c.args.at c.requires.at_there);
    }

pub relink-requires : goal.relink-requires
relink-requires c =
    let s = c.self.inside in let b = s.base.ptr in let n = s.count in let k = block_of_table s c.self.invariant in let now =
    ap (λ (r : CellRow). r.cells) c.self.view_is in
    record { there = readable b n k c.nth-own.result.ptr c.args.i c.nth-own.ensures.value (within b n k c.args.self.now.cells now c.args.i c.requires.there) }

pub relink-requires-2 : goal.relink-requires-2
relink-requires-2 c =
    let s = c.self.inside in let b = s.base.ptr in let n = s.count in let k = block_of_table s c.self.invariant in let now =
    ap (λ (r : CellRow). r.cells) c.self.view_is in
    let own = c.nth-own.result.ptr in let head = c.nth-head.result.ptr in let i = c.args.i in let at = c.args.at in
    let l : Linking b n k own head i at c.relink.new.memory = record {
      own_is = c.nth-own.ensures.value;
      head_is = c.nth-head.ensures.value;
      own_in = within b n k c.args.self.now.cells now i c.requires.there;
      head_in = within b n k c.args.self.now.cells now at c.requires.at_there;
      cell = c.read.result.now;
      reads = c.read.ensures.value;
      same = c.relink.ensures.at;
      changes = c.relink.ensures.value;
    } in
    let middle = halfway b n k own head i at c.relink.new.memory l in let head_is = halfway_head b n k own head i at c.relink.new.memory l in
    record { there = readable b n middle head at head_is l.head_in }

pub invariant_of-self : goal.invariant_of-self
invariant_of-self c =
    let s = c.self.inside in let b = s.base.ptr in let n = s.count in let k = block_of_table s c.self.invariant in let now =
    ap (λ (r : CellRow). r.cells) c.self.view_is in
    let own = c.nth-own.result.ptr in let head = c.nth-head.result.ptr in let i = c.args.i in let at = c.args.at in
    let l : Linking b n k own head i at c.relink.new.memory = record {
      own_is = c.nth-own.ensures.value;
      head_is = c.nth-head.ensures.value;
      own_in = within b n k c.args.self.now.cells now i c.requires.there;
      head_in = within b n k c.args.self.now.cells now at c.requires.at_there;
      cell = c.read.result.now;
      reads = c.read.ensures.value;
      same = c.relink.ensures.at;
      changes = c.relink.ensures.value;
    } in
    let middle = halfway b n k own head i at c.relink.new.memory l in let head_is = halfway_head b n k own head i at c.relink.new.memory l in
    let far = addressed_from b n k own i l.own_is l.own_in in let own_is = index_from b n k own i l.own_is l.own_in in
    let in_range = subst (λ j. j < n) (sym own_is) l.own_in in
    let last = relinks b n middle head at head_is l.head_in own far in_range c.relink-2.new.memory c.relink-2.ensures.at c.relink-2.ensures.value in
    let inv = c.self.invariant in (
      last.same,
      inv.1,
      inv.2,
      inv.3,
      ap length c.relink-2.ensures.value ∙ length-set middle.places _ _ ∙ ap length c.relink.ensures.value
          ∙ length-set k.places _ _ ∙ inv.4,
      last.linked,
    )

pub returns-clause-value : goal.returns-clause-value
returns-clause-value c =
    let s = c.self.inside in let b = s.base.ptr in let n = s.count in let k = block_of_table s c.self.invariant in let now =
    ap (λ (r : CellRow). r.cells) c.self.view_is in
    let own = c.nth-own.result.ptr in let head = c.nth-head.result.ptr in let i = c.args.i in let at = c.args.at in
    let l : Linking b n k own head i at c.relink.new.memory = record {
      own_is = c.nth-own.ensures.value;
      head_is = c.nth-head.ensures.value;
      own_in = within b n k c.args.self.now.cells now i c.requires.there;
      head_in = within b n k c.args.self.now.cells now at c.requires.at_there;
      cell = c.read.result.now;
      reads = c.read.ensures.value;
      same = c.relink.ensures.at;
      changes = c.relink.ensures.value;
    } in
    let middle = halfway b n k own head i at c.relink.new.memory l in let head_is = halfway_head b n k own head i at c.relink.new.memory l in
    let far = addressed_from b n k own i l.own_is l.own_in in let own_is = index_from b n k own i l.own_is l.own_in in
    let in_range = subst (λ j. j < n) (sym own_is) l.own_in in
    let changed = relinks_is b n middle head at head_is l.head_in own far in_range c.relink-2.new.memory.places c.relink-2.ensures.value
    ∙ (λ j. with_link (halfway_is b n k own head i at c.relink.new.memory l j) at (own_is j)) in
    λ j. record { cells = (changed ∙ ap (λ cells. linked cells at i) now) j; room = (ap (λ (r : CellRow). r.room) c.self.view_is) j }

-- the cells behind the call
cells_are : (c : goal.After-relink-2) → cells_of c.self.inside.base.ptr c.self.inside.count c.relink-2.new.memory.places ≡ linked
    c.args.self.now.cells c.args.at c.args.i
cells_are c = ap (λ (r : CellRow). r.cells) (returns-clause-value c)

pub returns-clause-pushed : goal.returns-clause-pushed
returns-clause-pushed c =
    subst (λ cells. IsPushed c.args.self.now.cells cells c.args.at c.args.i) (sym (cells_are c))
    (pushed c.args.self.now.cells c.args.at c.args.i c.requires.at_there c.requires.there)

pub returns-clause-appended : goal.returns-clause-appended
returns-clause-appended c =
    subst (λ cells. IsAppended c.args.self.now.cells cells c.args.at c.args.i) (sym (cells_are c))
    (appended c.args.self.now.cells c.args.at c.args.i c.requires.at_there c.requires.there)

pub returns-clause-kept : goal.returns-clause-kept
returns-clause-kept c =
    subst (λ cells. StaysApartFromBoth c.args.self.now.cells cells c.args.at c.args.i) (sym (cells_are c))
    (stays c.args.self.now.cells c.args.at c.args.i c.requires.at_there c.requires.there)
