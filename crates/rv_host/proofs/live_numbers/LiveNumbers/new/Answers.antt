use Rattle.std.proofs.Common.{rules, ◌≡◌, ◌∙◌, ap, subst, sym, arith, reverse, [], List, ℕ, Bool, length, replicate, true, false}
use Rattle.std.specs.Prelude.{slice_set}
use Rattle.std.proofs.lemmas.List.{length-replicate}
use Rattle.rv_host.specs.LiveFrames.{AreNumbers}
use Rattle.rv_host.proofs.Numbering.{numbers-first, length-marks}
use Rattle.rv_host.proofs.live_numbers.LiveNumbers.new.Goals as goal

pub invariant_of-result : goal.invariant_of-result
invariant_of-result c =
    let marks : c.in_ok-marks.marks.items ≡ replicate c.args.frames false = search rules in
    let none : reverse c.in_ok-with_capacity.field-0.items ≡ [] = ap reverse c.in_ok-with_capacity.ensures.items in
    let m = length-marks (replicate c.args.frames false) 0 true in
    let l : length (replicate c.args.frames false) ≡ c.args.frames = length-replicate c.args.frames false in
    let long : length (slice_set c.in_ok-marks.marks.items 0 true) ≡ c.args.frames = ap (λ (x : List Bool). length (slice_set x 0 true)) marks ∙ (m ∙ l) in (
      subst (λ (free : List ℕ). AreNumbers (record { marks = slice_set c.in_ok-marks.marks.items 0 true; count = 1; free = free })) (sym none)
          (subst (λ (x : List Bool). AreNumbers (record { marks = slice_set x 0 true; count = 1; free = [] })) (sym marks)
          (numbers-first c.args.frames c.requires.some)),
      (omega (arith, long, c.in_ok-with_capacity.ensures.capacity), omega (arith, long, c.ranges.frames)),
    )
