use Rattle.std.proofs.Common.{◌≡◌, ◌*◌, ◌≤◌, replicate, refl, List, ap, length, ℕ, arith}
use Rattle.std.specs.Prelude.{min}
use Rattle.rv_machine.proofs.Kept.{opening-decoded}
use Rattle.rv_machine.proofs.rv.Rv.new.Goals as goal

pub invariant_of-result-2 : goal.invariant_of-result-2
invariant_of-result-2 c =
    let image = c.args.image.now in
    let rest : List ℕ = replicate (c.args.frames * image.stride) 0 in
    let same : length c.words.result.now ≡ length image.words = ap (λ (words : List ℕ). length words) c.words.ensures.value in
    let least : c.min.result ≡ min (length c.words.result.now) 1048576 = c.min.ensures in
    let few : c.min.result ≤ length image.words = grind (arith, least, same) in (
      refl,
      opening-decoded c.in_ok-kept.kept.insts.items c.min.result c.in_ok-memory.memory.items image.words rest c.in_ok-kept.ensures.value few
          c.in_ok-memory.ensures.value,
    )
