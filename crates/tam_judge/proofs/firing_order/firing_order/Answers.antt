use Rattle.std.proofs.Common.{◌≡◌, ◌∙◌, sym, ap, not, ◌==◌, ◌++◌, ◌∷◌, [], List, ℕ, ◌+◌, ◌-◌, suc, length, filter, arith, Vec, Global}
use Rattle.tam_word.specs.Lists.{first_of}
use Rattle.tam_split.specs.GraphPartitions.{waits_for_none, taken_first, firing_order}
use Rattle.tam_judge.proofs.OrderSteps.{taken-next, taken-none, if_ok}
use Rattle.tam_judge.proofs.firing_order.firing_order.Goals as goal

pub loop-preserved : goal.loop-preserved
loop-preserved c =
    let es = c.args.edges.now in
    let left = c.loop.left.items in
    let found : c.in-Some.place ∷ [] ≡ first_of (waits_for_none es left) left = rw c.deref.ensures.value at c.in-Some.ensures.value in
    let count : length c.args.class.now - c.loop.counter ≡ suc (length c.args.class.now - (c.loop.counter + 1)) = omega arith in
    let pushed : c.push.new.self.items ≡ c.loop.order.items ++ c.in-Some.place ∷ [] = c.in_ok-push.ensures.items in
    let rest : c.in_ok-left-2.left.items ≡ filter (λ y. not (y == c.in-Some.place)) left =
    rw c.deref-in-loop.ensures.value at c.in_ok-left-2.ensures.value in
    ap (λ (l : List ℕ). l ++ taken_first (length c.args.class.now - (c.loop.counter + 1)) es c.in_ok-left-2.left.items) pushed
    ∙ ap (λ (l : List ℕ). (c.loop.order.items ++ c.in-Some.place ∷ []) ++ taken_first (length c.args.class.now - (c.loop.counter + 1)) es l) rest
    ∙ taken-next es left c.loop.order.items (length c.args.class.now - c.loop.counter) (length c.args.class.now - (c.loop.counter + 1)) c.in-Some.place count
    found ∙ c.loop.invariant

pub returns-in_default : goal.returns-in_default
returns-in_default c =
    let es = c.args.edges.now in
    let left = c.loop.left.items in
    let n = length c.args.class.now - c.loop.counter in
    let none : [] ≡ first_of (waits_for_none es left) left = rw (c.in_default.is, c.deref.ensures.value) at c.first_free.ensures.value in
    let whole : c.loop.order.items ++ c.deref-in_default.result.now ≡ firing_order es c.args.class.now =
    ap (λ (l : List ℕ). c.loop.order.items ++ l) (c.deref-in_default.ensures.value ∙ sym (taken-none es left c.loop.order.items n none))
    ∙ c.loop.invariant in
    record {
      value = if_ok c.with_rest.result
          (λ (v : Vec ℕ Global) (is : v.items ≡ c.loop.order.items ++ c.deref-in_default.result.now). is ∙ whole) c.with_rest.ensures.value;
    }
