use Rattle.std.proofs.Common.{◌≡◌, ◌∙◌, sym, true, false, ◌<◌, length, add-one, arith}
use Rattle.tam_word.specs.Lists.{has}
use Rattle.tam_split.specs.Partitions.{class_at}
use Rattle.tam_judge.proofs.CheckedClasses.{class-here, class-next}
use Rattle.tam_judge.proofs.before.class_of.Goals as goal

pub returns-then-has : goal.returns-then-has
returns-then-has c =
    let inside : c.loop-k.k < length c.args.parts.now = omega (arith, c.loop-k-test.true, c.classes-k-end.ensures.value) in
    let here : has (class_at c.args.parts.now c.loop-k.k) c.args.place ≡ true = sym (rw c.class.ensures.value at c.has.ensures.value) ∙ c.if-has.true in
    record { value = omega (arith, class-here c.args.parts.now c.args.place c.loop-k.k inside here, c.loop-k.invariant) }

pub loop-k-preserved : goal.loop-k-preserved
loop-k-preserved c =
    let inside : c.loop-k.k < length c.args.parts.now = omega (arith, c.loop-k-test.true, c.classes-k-end.ensures.value) in
    let not_here : has (class_at c.args.parts.now c.loop-k.k) c.args.place ≡ false = sym (rw c.class.ensures.value at c.has.ensures.value) ∙ c.if-has.false in
    rw add-one (omega (arith, class-next c.args.parts.now c.args.place c.loop-k.k inside not_here, c.loop-k.invariant))
