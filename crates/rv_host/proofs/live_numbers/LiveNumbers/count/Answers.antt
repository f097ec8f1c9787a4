use Rattle.std.proofs.Common.{◌≡◌, ap, arith, length}
use Rattle.rv_host.specs.LiveFrames.{Numbers}
use Rattle.rv_host.proofs.live_numbers.LiveNumbers.count.Goals as goal

pub returns-clause-within : goal.returns-clause-within
returns-clause-within c =
    let m : length c.self.inside.marks.items ≡ length c.args.self.now.marks = ap (λ (v : Numbers). length v.marks) c.self.view_is in
    omega (arith, m, c.self.invariant.0.few)
