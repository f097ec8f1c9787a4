use Rattle.std.proofs.Common.{◌+◌, ◌<◌, arith, length, get_or}
use Rattle.std.proofs.lemmas.List.{get_or_default}
use Rattle.std.proofs.lemmas.List.Edits.{map_over_more}
use Rattle.tam_split.proofs.parts.move_on.Goals as goal

pub loop-end-preserved : goal.loop-end-preserved
loop-end-preserved c =
    let i = c.loop-end.end-index in
    let x = get_or c.loop-end.ends i 0 in
    let inside : i < length c.loop-end.ends = omega arith in
    let within : i < length c.args.ends.now = omega arith in
    map_over_more (λ e. e + c.args.by) c.args.ends.now c.loop-end.ends i x within c.loop-end.invariant (get_or_default c.loop-end.ends i 0 x inside)
