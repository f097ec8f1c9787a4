use Rattle.std.proofs.Common.{◌≡◌, get_or, add-one}
use Rattle.std.specs.Prelude.{option_to_list}
use Rattle.tam_world.specs.Worlds.{argument_message}
use Rattle.tam_world.proofs.Arguments.{arguments-next}
use Rattle.tam_world.proofs.messages.argument_messages.Goals as goal

pub loop-place-preserved : goal.loop-place-preserved
loop-place-preserved c =
    let found : option_to_list c.message_to.result ≡ argument_message c.args.program.now (c.loop-place.place, get_or c.args.args.now c.loop-place.place 0) =
    rw c.requires.main at c.message_to.ensures.value in
    rw (
      add-one,
      arguments-next c.args.program.now c.args.args.now c.loop-place.place c.loop-place-test.true,
      ← found,
      ← c.loop-place.invariant,
    ) c.in_ok-push_some.ensures.ok
