use Rattle.std.proofs.Common.{◌≡◌, take}
use Rattle.std.specs.Prelude.{zip, flat_map}
use Rattle.tam_word.specs.Lists.{below}
use Rattle.tam_world.specs.Worlds.{argument_message}
use Rattle.tam_world.proofs.messages.argument_messages.Given as goal

abbrev pub invariant-loop-place : goal.invariant-loop-place
invariant-loop-place l = l.messages.items ≡ flat_map (argument_message l.program) (zip (below l.place) (take l.place l.args))
