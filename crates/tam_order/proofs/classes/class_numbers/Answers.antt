use Rattle.std.proofs.Common.{◌≡◌, ◌∙◌, ◌++◌, ap, take, drop, length, slice_index, arith}
use Rattle.std.proofs.lemmas.List.{take_at}
use Rattle.tam_word.specs.Lists.{has}
use Rattle.tam_split.specs.Partitions.{class_of}
use Rattle.tam_order.proofs.ClassNumbers.{one-class_more, numbers-are}
use Rattle.tam_order.proofs.classes.class_numbers.Goals as goal

pub loop-k-preserved : goal.loop-k-preserved
loop-k-preserved c =
    let b = c.args.b.now in
    let ps = c.args.p.now in
    let new = c.set_each.new.numbers in
    let old = c.loop-k.numbers.items in
    let class = c.class.ensures.value in
    let read = c.deref_mut.ensures.value in
    let long : length new ≡ length old = c.set_each.ensures.len ∙ ap length read in
    let same : take c.loop-k.numbers.len (new ++ drop (length new) old) ≡ new =
    take_at new (drop (length new) old) c.loop-k.numbers.len (omega (arith, c.set_each.ensures.len, c.deref_mut.ensures.len)) in
    let more = one-class_more b ps c.requires.whole old new c.loop-k.k c.loop-k.invariant.1
    (λ x h. c.set_each.ensures.set x (ap (λ l. has l x) class ∙ h))
    (λ x h. c.set_each.ensures.kept x (ap (λ l. has l x) class ∙ h) ∙ ap (λ l. slice_index l x) read) in (
      ap length same ∙ (long ∙ c.loop-k.invariant.0),
      λ x l s. ap (λ xs. slice_index xs x) same ∙ more x l s,
    )

pub returns : goal.returns
returns c =
    let ps = c.args.p.now in
    let all = c.classes-k-end.ensures.value in
    record {
      value = numbers-are (class_of ps) (length c.args.b.now.vertices) c.loop-k.numbers.items c.loop-k.invariant.0
          (λ x l. let i = c.requires.whole.in_one x l in c.loop-k.invariant.1 x l (omega (arith, i, all, c.loop-k-test.false)));
    }
