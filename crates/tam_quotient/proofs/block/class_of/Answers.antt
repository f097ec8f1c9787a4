use Rattle.std.proofs.Common.{◌∙◌, sym, ap, arith}
use Rattle.tam_word.specs.Lists.{has}
use Rattle.tam_quotient.proofs.Tabling.{class-found, class-missed}
use Rattle.tam_quotient.proofs.Surroundings.{few-classes}
use Rattle.tam_quotient.proofs.block.class_of.Goals as goal

pub returns-then-has-clause-value : goal.returns-then-has-clause-value
returns-then-has-clause-value c =
    let h = ap (λ xs. has xs c.args.place) (sym c.class.ensures.value) ∙ (sym c.has.ensures.value ∙ c.if-has.true) in
    sym (class-found c.args.p.now c.loop-k.k c.args.place c.loop-k.invariant h)

pub returns-then-has-clause-small : goal.returns-then-has-clause-small
returns-then-has-clause-small c =
    let few = few-classes c.args.p.now c.classes-k-end.ensures.kept in
    omega (arith, few, c.loop-k-test.true, c.classes-k-end.ensures.value)

pub unreachable-requires : goal.unreachable-requires
unreachable-requires c = class-missed c.args.p.now c.args.place c.requires.there
    (λ j h. c.loop-k.invariant j (omega (arith, h, c.classes-k-end.ensures.value, c.loop-k-test.false)))
