use Rattle.std.proofs.Common.{◌≡◌, ◌∙◌, ap, subst, sym, arith, reverse, ◌∷◌, [], List, ℕ, ◌-◌, true, false}
use Rattle.std.specs.Prelude.{slice_set}
use Rattle.std.proofs.lemmas.List.{reverse-append, length-reverse}
use Rattle.rv_host.specs.LiveFrames.{Numbers, AreLive, AreNumbers, is_marked}
use Rattle.rv_host.proofs.Numbering.{some-live, free-room, numbers-given, live-given, length-marks}
use Rattle.rv_host.proofs.live_numbers.LiveNumbers.give.Goals as goal

pub overflow_sub-self : goal.overflow_sub-self
overflow_sub-self c =
    let s = c.self.inside in
    let n : Numbers = record { marks = s.marks.items; count = s.count; free = reverse s.free.items } in
    let live : is_marked s.marks.items c.args.f ≡ true = ap (λ (v : Numbers). is_marked v.marks c.args.f) c.self.view_is ∙ c.requires.live in
    let some = some-live n c.self.invariant.0 c.args.f live in
    omega (arith, some)

pub push_reserved-requires : goal.push_reserved-requires
push_reserved-requires c =
    let s = c.self.inside in
    let n : Numbers = record { marks = s.marks.items; count = s.count; free = reverse s.free.items } in
    let live : is_marked s.marks.items c.args.f ≡ true = ap (λ (v : Numbers). is_marked v.marks c.args.f) c.self.view_is ∙ c.requires.live in
    let room = free-room n c.self.invariant.0 c.args.f live in
    omega (arith, room, c.self.invariant.1.0, s.free.ok.0, length-reverse s.free.items)

pub invariant_of-self : goal.invariant_of-self
invariant_of-self c =
    let s = c.self.inside in
    let n : Numbers = record { marks = s.marks.items; count = s.count; free = reverse s.free.items } in
    let live : is_marked s.marks.items c.args.f ≡ true = ap (λ (v : Numbers). is_marked v.marks c.args.f) c.self.view_is ∙ c.requires.live in
    let order : reverse c.push_reserved.new.self.items ≡ c.args.f ∷ reverse s.free.items =
    ap reverse c.push_reserved.ensures.items ∙ reverse-append s.free.items (c.args.f ∷ []) in
    let m = length-marks s.marks.items c.args.f false in (
      subst (λ (free : List ℕ). AreNumbers (record { marks = slice_set s.marks.items c.args.f false; count = s.count - 1; free = free })) (sym order)
          (numbers-given n c.self.invariant.0 c.args.f live),
      (omega (arith, m, c.self.invariant.1.0, c.push_reserved.ensures.capacity), omega (arith, m, c.self.invariant.1.1)),
    )

pub returns-clause-live : goal.returns-clause-live
returns-clause-live c = λ live are.
    let s = c.self.inside in
    let n : Numbers = record { marks = s.marks.items; count = s.count; free = reverse s.free.items } in
    let marked : is_marked s.marks.items c.args.f ≡ true = ap (λ (v : Numbers). is_marked v.marks c.args.f) c.self.view_is ∙ c.requires.live in
    live-given n live (subst (λ (v : Numbers). AreLive v live) (sym c.self.view_is) are) c.args.f (reverse c.push_reserved.new.self.items) marked
