use Rattle.std.proofs.Common.{◌≡◌, ◌∙◌, sym, arith, false}
use Rattle.tam_word.specs.Lists.{any_of, below}
use Rattle.tam_check.specs.declared.interface.Interface.TheVariants.{Params, Results}
use Rattle.tam_check.specs.Interfaces.{call_lacks_at}
use Rattle.tam_check.proofs.Scanning.{any-next, any-found}
use Rattle.tam_check.proofs.PlacesLacking.{low-place, call-lacks}
use Rattle.tam_check.proofs.lacking.call_lacks.Goals as goal

pub loop-place-preserved : goal.loop-place-preserved
loop-place-preserved c =
    any-next (call_lacks_at c.args.tables.now.code.now c.args.call c.args.callee.now.code.now) c.loop-place.place c.loop-place.invariant
    (sym c.call_lacks_at.ensures.value ∙ c.if-call_lacks_at.false)

pub returns-then-call_lacks_at : goal.returns-then-call_lacks_at
returns-then-call_lacks_at c =
    let callee = c.args.callee.now in
    let found = any-found (call_lacks_at c.args.tables.now.code.now c.args.call callee.code.now) 64 c.loop-place.place c.loop-place-test.true
    (sym c.call_lacks_at.ensures.value ∙ c.if-call_lacks_at.true) in
    record {
      value = sym (call-lacks c.args.tables.now.code.now c.args.call callee.code.now
          (λ k. low-place callee.code.now callee.table.now.rows.items callee.table.now.seen.items Params k (callee.border.params k).place)
          (λ k. low-place callee.code.now callee.table.now.rows.items callee.table.now.seen.items Results k (callee.border.results k).place) ∙ found);
    }

pub returns : goal.returns
returns c =
    let callee = c.args.callee.now in
    let same : c.loop-place.place ≡ 64 = omega (arith, c.loop-place-test.false, c.loop-place.auto.place-end) in
    let none : any_of (call_lacks_at c.args.tables.now.code.now c.args.call callee.code.now) (below 64) ≡ false = rw same at c.loop-place.invariant in
    record {
      value = sym (call-lacks c.args.tables.now.code.now c.args.call callee.code.now
          (λ k. low-place callee.code.now callee.table.now.rows.items callee.table.now.seen.items Params k (callee.border.params k).place)
          (λ k. low-place callee.code.now callee.table.now.rows.items callee.table.now.seen.items Results k (callee.border.results k).place) ∙ none);
    }
