use Rattle.std.proofs.Common.{◌≡◌, ◌∙◌, ◌≤◌, ◌<◌, ap, arith, rules, length}
use Rattle.std.specs.Prelude.{vec_len}
use Rattle.tam_word.specs.Lists.{put_at}
use Rattle.tl0_machine.proofs.NewFrames.{put_at-longer, put_at-inside}
use Rattle.tl0_machine.proofs.beginning.put_code.Goals as goal

pub loop-codes-preserved : goal.loop-codes-preserved
loop-codes-preserved c =
    let now = c.loop-codes.codes in
    let same : vec_len now ≡ length now.items = search rules in
    let short : length now.items ≤ c.args.f = omega (arith, same, c.loop-codes-test.true, c.len.ensures) in
    record {
      same = ap (put_at 0 c.args.f c.args.code) c.push_reserved.ensures.items
          ∙ (put_at-longer c.args.f c.args.code now.items short ∙ c.loop-codes.invariant.same);
      room = c.push_reserved.ensures.capacity ∙ c.loop-codes.invariant.room;
    }

pub returns-clause-value : goal.returns-clause-value
returns-clause-value c =
    let now = c.loop-codes.codes in
    let same : vec_len now ≡ length now.items = search rules in
    let inside : c.args.f < length now.items = omega (arith, same, c.loop-codes-test.false, c.len.ensures) in
    put_at-inside c.args.f c.args.code now.items inside ∙ c.loop-codes.invariant.same
