use Rattle.std.proofs.Common.{◌≡◌, ◌∙◌, ap, sym, ℕ, List, ◌∷◌, ◌+◌, ◌<◌, length, drop, get_or, add-one, drop-cons}
use Rattle.tam_judge.specs.Machines.{state_of, effected}
use Rattle.tam_judge.specs.ClassSteps.{all_fired}
use Rattle.tam_judge.proofs.CheckedRuns.{fired-next}
use Rattle.tam_judge.proofs.class_run.fire_places.Goals as goal

pub loop-place-preserved : goal.loop-place-preserved
loop-place-preserved c =
    let g = c.args.program.now in
    let b = c.args.block.now in
    let k = c.loop-place.place-index in
    let places = c.args.places.now in
    let s = state_of c.loop-place.machine in
    let inside : k < length places = c.loop-place-test.true in
    let rest : drop k places ≡ get_or places k 0 ∷ drop (k + 1) places = rw add-one (drop-cons places k 0 inside) in
    fired-next g b c.args.act (get_or places k 0) (drop (k + 1) places) s (state_of c.fire_place.new.machine) c.in_ok-fire_place.ensures.ok
    ∙ ap (λ (l : List ℕ). effected s (all_fired g b c.args.act l s.world)) (sym rest) ∙ c.loop-place.invariant
