use Rattle.std.proofs.Common.{◌≡◌, ◌∙◌, ap, subst, sym, arith, reverse, ◌∷◌, [], List, ℕ, length, ◌<◌, ◌+◌, true}
use Rattle.std.specs.Prelude.{slice_set}
use Rattle.std.proofs.lemmas.List.{reverse-append, nil_from_length}
use Rattle.rv_host.specs.LiveFrames.{Numbers, AreLive, AreNumbers}
use Rattle.rv_host.proofs.Numbering.{free-inside, free-unlive, numbers-reused, fresh-unlive, numbers-grown, live-taken, length-marks}
use Rattle.rv_host.proofs.live_numbers.LiveNumbers.take.Goals as goal

pub overflow_add-self : goal.overflow_add-self
overflow_add-self c =
    let k : c.self.inside.count ≡ c.args.self.now.count = ap (λ (v : Numbers). v.count) c.self.view_is in
    let m : length c.self.inside.marks.items ≡ length c.args.self.now.marks = ap (λ (v : Numbers). length v.marks) c.self.view_is in
    omega (arith, k, m, c.requires.room, c.self.invariant.1.1)

pub overflow_add-self-in-None : goal.overflow_add-self-in-None
overflow_add-self-in-None c =
    let k : c.self.inside.count ≡ c.args.self.now.count = ap (λ (v : Numbers). v.count) c.self.view_is in
    let m : length c.self.inside.marks.items ≡ length c.args.self.now.marks = ap (λ (v : Numbers). length v.marks) c.self.view_is in
    omega (arith, k, m, c.requires.room, c.self.invariant.1.1)

pub invariant_of-self : goal.invariant_of-self
invariant_of-self c =
    let s = c.self.inside in
    let n : Numbers = record { marks = s.marks.items; count = s.count; free = reverse s.free.items } in
    let order : reverse s.free.items ≡ c.in-Some.number ∷ reverse c.pop.new.self.items =
    ap reverse c.in-Some.ensures.items ∙ reverse-append c.pop.new.self.items (c.in-Some.number ∷ []) in
    let m = length-marks s.marks.items c.in-Some.number true in (
      numbers-reused n c.self.invariant.0 c.in-Some.number (reverse c.pop.new.self.items) order,
      (omega (arith, m, c.self.invariant.1.0, c.pop.ensures.capacity), omega (arith, m, c.self.invariant.1.1)),
    )

pub invariant_of-self-in-None : goal.invariant_of-self-in-None
invariant_of-self-in-None c =
    let s = c.self.inside in
    let n : Numbers = record { marks = s.marks.items; count = s.count; free = reverse s.free.items } in
    let left = c.pop.new.self in
    let none : reverse s.free.items ≡ [] = ap reverse (nil_from_length s.free.items (omega (arith, s.free.ok.0, c.in-None.ensures.cases))) in
    let none_left : reverse left.items ≡ [] = ap reverse (nil_from_length left.items (omega (arith, c.in-None.ensures.cases, left.ok.0))) in
    let k : s.count ≡ c.args.self.now.count = ap (λ (v : Numbers). v.count) c.self.view_is in
    let l : length s.marks.items ≡ length c.args.self.now.marks = ap (λ (v : Numbers). length v.marks) c.self.view_is in
    let room : s.count < length s.marks.items = omega (arith, k, l, c.requires.room) in
    let m = length-marks s.marks.items s.count true in (
      subst (λ (free : List ℕ). AreNumbers (record { marks = slice_set s.marks.items s.count true; count = s.count + 1; free = free })) (sym none_left)
          (numbers-grown n c.self.invariant.0 none room),
      (omega (arith, m, c.self.invariant.1.0, c.pop.ensures.capacity), omega (arith, m, c.self.invariant.1.1)),
    )

pub returns-in-Some-clause-live : goal.returns-in-Some-clause-live
returns-in-Some-clause-live c = λ live are.
    let s = c.self.inside in
    let n : Numbers = record { marks = s.marks.items; count = s.count; free = reverse s.free.items } in
    let order : reverse s.free.items ≡ c.in-Some.number ∷ reverse c.pop.new.self.items =
    ap reverse c.in-Some.ensures.items ∙ reverse-append c.pop.new.self.items (c.in-Some.number ∷ []) in
    live-taken n live (subst (λ (v : Numbers). AreLive v live) (sym c.self.view_is) are) c.in-Some.number (reverse c.pop.new.self.items)
    (free-unlive n c.self.invariant.0 c.in-Some.number (reverse c.pop.new.self.items) order)
    (free-inside n c.self.invariant.0 c.in-Some.number (reverse c.pop.new.self.items) order)

pub returns-in-None-clause-live : goal.returns-in-None-clause-live
returns-in-None-clause-live c = λ live are.
    let s = c.self.inside in
    let n : Numbers = record { marks = s.marks.items; count = s.count; free = reverse s.free.items } in
    let none : reverse s.free.items ≡ [] = ap reverse (nil_from_length s.free.items (omega (arith, s.free.ok.0, c.in-None.ensures.cases))) in
    let k : s.count ≡ c.args.self.now.count = ap (λ (v : Numbers). v.count) c.self.view_is in
    let l : length s.marks.items ≡ length c.args.self.now.marks = ap (λ (v : Numbers). length v.marks) c.self.view_is in
    let room : s.count < length s.marks.items = omega (arith, k, l, c.requires.room) in
    live-taken n live (subst (λ (v : Numbers). AreLive v live) (sym c.self.view_is) are) s.count (reverse c.pop.new.self.items)
    (fresh-unlive n c.self.invariant.0 none) room
