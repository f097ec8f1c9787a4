use Rattle.std.proofs.Common.{sym, ◌∙◌, ap, arith, add-one, List, ℕ}
use Rattle.std.specs.Str.{bytes_eq}
use Rattle.std.proofs.lemmas.List.{get_or_read}
use Rattle.tam_edge.proofs.EntriesLemmas.{NoneNamed-more, named_by_test, not_named_by_test}
use Rattle.tam_edge.proofs.entries.position_of.Goals as goal

pub loop-i-preserved : goal.loop-i-preserved
loop-i-preserved g c =
    let tested = c.eq.ensures ∙ ap (λ (l : List ℕ). bytes_eq l c.args.name.now) c.as_str.ensures.value in
    let other = not_named_by_test _ _ c.eq.result tested c.if-eq.false in
    rw add-one (NoneNamed-more c.args.name.now c.args.entries.now c.loop-i.i c.index-entries-i.result c.loop-i.invariant c.index-entries-i.is other)

pub returns-then-eq-clause-found : goal.returns-then-eq-clause-found
returns-then-eq-clause-found g c = record {
  inside = omega arith;
  before = c.loop-i.invariant;
  here = λ d.
      let named = sym c.as_str.ensures.value ∙ named_by_test _ _ c.eq.result c.eq.ensures c.if-eq.true in
      rw (← get_or_read c.args.entries.now c.loop-i.i c.index-entries-i.result (omega arith) c.index-entries-i.is d) named;
}
