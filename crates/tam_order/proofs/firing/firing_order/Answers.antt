use Rattle.std.proofs.Common.{◌≡◌, ◌∙◌, ◌+◌, ◌-◌, ◌++◌, ◌==◌, not, [], ◌∷◌, suc, filter, sym, ap, length, arith}
use Rattle.tam_word.specs.Lists.{first_of}
use Rattle.tam_split.specs.GraphPartitions.{taken_first, waits_for_none}
use Rattle.tam_order.specs.ClassOrders.{is_free}
use Rattle.tam_order.proofs.FiringSteps.{taken-next, taken-none, first-alike, left-less, untaken, all-untaken, first-in}
use Rattle.tam_order.proofs.firing.firing_order.Goals as goal
use Rattle.tam_order.proofs.firing.firing_order.Goals.{in-Some+in_ok-push, in_default}

pub loop-init : goal.loop-init
loop-init c = λ es e.
    let class = c.args.class.now in
    let all : length class - 0 ≡ length class = omega arith in
    ap (λ xs. xs ++ taken_first (length class - 0) es (untaken c.empty-taken.result class)) c.new-order.ensures.items
    ∙ (ap (λ m. taken_first m es (untaken c.empty-taken.result class)) all
    ∙ ap (taken_first (length class) es) (ap (λ taken. untaken taken class) c.empty-taken.ensures.value ∙ all-untaken class))

pub insert-requires : goal.insert-requires
insert-requires c =
    let i = first-in (is_free c.args.preceding.now c.set_of-members.result c.loop.taken) c.args.class.now c.in-Some.place c.in-Some.ensures.value in
    let l = c.requires.inside c.in-Some.place i in
    record { in_range = omega (arith, l, c.requires.few) }

pub loop-preserved : goal.loop-preserved
loop-preserved c = λ es e.
    let class = c.args.class.now in
    let rows = c.args.preceding.now in
    let taken = c.loop.taken in
    let order = c.loop.order.items in
    let n = length class - c.loop.counter in
    let m = length class - (c.loop.counter + 1) in
    let count : n ≡ suc m = omega arith in
    let alike : first_of (is_free rows c.set_of-members.result taken) class ≡ first_of (waits_for_none es (untaken taken class)) (untaken taken class) =
    ap (λ members. first_of (is_free rows members taken) class) c.set_of-members.ensures.value
    ∙ first-alike es (length rows) class taken c.requires.few c.requires.inside rows e in
    elim c.match-first_free.branch [
      | in-Some+in_ok-push w ↦
          let place = w.in-Some.place in
          let found : place ∷ [] ≡ first_of (waits_for_none es (untaken taken class)) (untaken taken class) = w.in-Some.ensures.value ∙ alike in
          let pushed : c.match-first_free.order.items ≡ order ++ place ∷ [] = ap (λ v. v.items) w.order-is ∙ w.in_ok-push.ensures.items in
          let less : untaken c.match-first_free.taken class ≡ filter (λ y. not (y == place)) (untaken taken class) =
          ap (λ t. untaken t class) (w.taken-is ∙ w.insert.ensures.value)
          ∙ sym (left-less es (length rows) class taken c.requires.few c.requires.inside place) in
          ap (λ xs. xs ++ taken_first m es (untaken c.match-first_free.taken class)) pushed
          ∙ (ap (λ ys. (order ++ place ∷ []) ++ taken_first m es ys) less
          ∙ (taken-next es (untaken taken class) order n m place count found ∙ c.loop.invariant es e))
      | in_default w ↦
          let none : [] ≡ first_of (waits_for_none es (untaken taken class)) (untaken taken class) = w.in_default.ensures.value ∙ alike in
          ap (λ xs. xs ++ taken_first m es (untaken c.match-first_free.taken class)) (ap (λ v. v.items) w.order-is)
          ∙ (ap (λ t. order ++ taken_first m es (untaken t class)) w.taken-is
          ∙ (ap (λ ys. order ++ ys) (taken-none es (untaken taken class) order m none ∙ sym (taken-none es (untaken taken class) order n none))
          ∙ c.loop.invariant es e))
    ]
