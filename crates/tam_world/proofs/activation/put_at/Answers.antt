use Rattle.std.proofs.Common.{◌∙◌, ap, ◌++◌, ◌∷◌, [], ◌<◌, ◌≤◌, length, arith}
use Rattle.tam_world.proofs.Putting.{put_at-set, put_at-pushed}
use Rattle.tam_world.proofs.activation.put_at.Goals as goal

pub returns-then-place-len : goal.returns-then-place-len
returns-then-place-len g c =
    let inside : c.args.place < length c.args.list.now.items = omega (arith, c.len.ensures, c.if-place-len.true, c.args.list.now.ok.0) in
    record { ok = put_at-set c.args.blank c.args.place c.args.element c.args.list.now.items inside }

pub returns : goal.returns
returns g c =
    let short : length c.args.list.now.items ≤ c.args.place = omega (arith, c.len.ensures, c.if-place-len.false, c.args.list.now.ok.0) in
    record {
      ok = c.in_ok-push.ensures.items ∙ ap (λ l. l ++ c.args.element ∷ []) c.in_ok-lengthen.ensures.ok
          ∙ put_at-pushed c.args.blank c.args.place c.args.element c.args.list.now.items short;
    }
