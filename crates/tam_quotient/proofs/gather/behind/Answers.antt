use Rattle.std.proofs.Common.{◌≡◌, ℕ, [], Bool, sym, ap, ◌∙◌}
use Rattle.std.proofs.lemmas.List.{get_or_read}
use Rattle.tam_word.specs.Lists.{has}
use Rattle.tam_sets.specs.Sets.{with_place}
use Rattle.tam_quotient.specs.Tables.{set_at}
use Rattle.tam_quotient.proofs.Places.{upto-none, upto-put, upto-skip}
use Rattle.tam_quotient.proofs.gather.behind.Goals as goal
use Rattle.tam_quotient.proofs.gather.behind.Goals.{then-has, else-has}

pub loop-c-init : goal.loop-c-init
loop-c-init c = c.empty-set.ensures.value ∙ upto-none (λ x. has (set_at c.args.leads.now x) c.args.k)

pub loop-c-preserved : goal.loop-c-preserved
loop-c-preserved c =
    let t : ℕ → Bool = λ x. has (set_at c.args.leads.now x) c.args.k in
    let read = get_or_read c.args.leads.now c.loop-c.c c.index-leads-c.result c.loop-c-test.true c.index-leads-c.is [] in
    let tested : t c.loop-c.c ≡ c.has.result = ap (λ xs. has xs c.args.k) (sym read) ∙ sym c.has.ensures.value in
    elim c.if-has.branch [
      | then-has w ↦ w.set-is ∙ (w.insert.ensures.value ∙ (ap (with_place c.loop-c.c) c.loop-c.invariant ∙ upto-put c.loop-c.c t (tested ∙ w.if-has.true)))
      | else-has w ↦ w.set-is ∙ (c.loop-c.invariant ∙ upto-skip c.loop-c.c t (tested ∙ w.if-has.false))
    ]
