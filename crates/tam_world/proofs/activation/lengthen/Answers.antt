use Rattle.std.proofs.Common.{◌≡◌, ◌++◌, ◌∷◌, [], length-append, arith}
use Rattle.tam_world.proofs.Putting.{blank-more}
use Rattle.tam_world.proofs.activation.lengthen.Goals as goal

pub loop-blank-preserved : goal.loop-blank-preserved
loop-blank-preserved g c =
    let items = c.loop-blank.list.items in
    let longer : c.push.new.self.items ≡ items ++ c.args.blank ∷ [] = c.in_ok-push.ensures.items in
    let before = c.args.list.now.items in
    let kept = c.loop-blank.invariant in
    record {
      blanks = rw longer (blank-more c.args.blank before items kept.blanks kept.least);
      least = rw longer (omega (arith, length-append items (c.args.blank ∷ []), kept.least));
      most = rw longer (omega (arith, length-append items (c.args.blank ∷ []), c.loop-blank-test.true, c.len-in-loop-blank.ensures, c.loop-blank.list.ok.0));
    }
