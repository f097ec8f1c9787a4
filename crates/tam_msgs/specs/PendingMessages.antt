-- The messages on their way, as callers see them.
-- The rule in words: docs/FORMATS.md, "Messages".
use Rattle.std.specs.Prelude.{ℕ, List}
use Rattle.tam_msgs.specs.declared.message.Message.{Message}

-- the messages, the oldest first, and for how many more there is room without taking memory
pub record PendingMessages : Type 0 where
  pub messages : List Message
  pub spare : ℕ
