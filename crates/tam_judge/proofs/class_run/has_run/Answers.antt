use Rattle.std.proofs.Common.{◌≡◌, ◌∙◌, sym, ℕ, ◌==◌, ◌&&◌}
use Rattle.tam_word.specs.Lists.{any_of}
use Rattle.tam_judge.specs.Machines.{runs_of}
use Rattle.tam_judge.proofs.AnyOf.{any_of-reverse}
use Rattle.tam_judge.proofs.class_run.has_run.Goals as goal

pub returns : goal.returns
returns c =
    let test = λ (r : ℕ × ℕ × ℕ). (r.0 == c.args.run.act) && ((r.1 == c.args.run.block) && (r.2 == c.args.run.class)) in
    let is : c.is_among.result ≡ any_of test (runs_of c.args.machine.now.ran.items) = rw c.deref.ensures.value at c.is_among.ensures.value in
    record { value = is ∙ sym (any_of-reverse test (runs_of c.args.machine.now.ran.items)) }
