use Rattle.std.proofs.Common.{◌≡◌, ◌∙◌, sym, arith, false}
use Rattle.tam_word.specs.Lists.{any_of, below}
use Rattle.tam_check.specs.Interfaces.{branches_lack_at}
use Rattle.tam_check.proofs.Scanning.{any-next, any-found}
use Rattle.tam_check.proofs.PlacesLacking.{low-place, branches-lack}
use Rattle.tam_check.proofs.lacking.branches_lack.Goals as goal

pub loop-place-preserved : goal.loop-place-preserved
loop-place-preserved c =
    any-next (branches_lack_at c.args.tables.now.code.now c.args.cond c.args.yes c.args.no) c.loop-place.place c.loop-place.invariant
    (sym c.branches_lack_at.ensures.value ∙ c.if-branches_lack_at.false)

pub returns-then-branches_lack_at : goal.returns-then-branches_lack_at
returns-then-branches_lack_at c =
    let tables = c.args.tables.now in
    let found = any-found (branches_lack_at tables.code.now c.args.cond c.args.yes c.args.no) 64 c.loop-place.place c.loop-place-test.true
    (sym c.branches_lack_at.ensures.value ∙ c.if-branches_lack_at.true) in
    record {
      value = sym (branches-lack tables.code.now c.args.cond c.args.yes c.args.no
          (λ i k. low-place tables.code.now tables.table.rows.items tables.table.seen.items i k (tables.tables.places i k).place) ∙ found);
    }

pub returns : goal.returns
returns c =
    let tables = c.args.tables.now in
    let same : c.loop-place.place ≡ 64 = omega (arith, c.loop-place-test.false, c.loop-place.auto.place-end) in
    let none : any_of (branches_lack_at tables.code.now c.args.cond c.args.yes c.args.no) (below 64) ≡ false = rw same at c.loop-place.invariant in
    record {
      value = sym (branches-lack tables.code.now c.args.cond c.args.yes c.args.no
          (λ i k. low-place tables.code.now tables.table.rows.items tables.table.seen.items i k (tables.tables.places i k).place) ∙ none);
    }
