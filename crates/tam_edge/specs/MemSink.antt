-- What a sink in memory is to its callers, and what a write to it does.
use Rattle.std.specs.Prelude.{◌≡◌, ◌⊎◌, ◌-◌, min, ℕ, List, ◌++◌, length, take, Contains, Option, Result, Ok, Err}
use Rattle.tam_edge.specs.declared.sink.Failed.{Failed}
use Rattle.tam_edge.specs.Faults.{next_count}
use Rattle.tam_edge.specs.Pieces.{at_most}

-- the bytes taken; how many there is room for in all; the numbers of the calls that fail; the calls made; how many failed;
-- how many bytes one call takes at most, if that is bounded
pub record SinkInMemory : Type 0 where
  pub bytes : List ℕ
  pub room : ℕ
  pub fail : List ℕ
  pub calls : ℕ
  pub faults : ℕ
  pub most : Option ℕ

-- the next call is one of those that fail, or no room is left
abbrev pub IsToFail : SinkInMemory → Type 0
IsToFail sink = Contains sink.fail (next_count sink.calls) ⊎ (length sink.bytes ≡ sink.room)

-- The call was not to fail: all that fits, or a piece of it where that is bounded, was taken from the front.
pub record TakesAllThatFits (before now : SinkInMemory) (piece : List ℕ) (count : ℕ) : Type 0 where
  pub not_to_fail : ¬ IsToFail before
  pub count_is : count ≡ at_most before.most (min (length piece) (before.room - length before.bytes))
  pub now_is : now ≡ record before { bytes = before.bytes ++ take count piece; calls = next_count before.calls }

-- The call was to fail: the count of faults is one more, or stands at its last value.
pub record NotesFault (before now : SinkInMemory) : Type 0 where
  pub to_fail : IsToFail before
  pub now_is : now ≡ record before { calls = next_count before.calls; faults = next_count before.faults }

-- what a write to a sink in memory does, by its answer
abbrev pub PutsMemory : SinkInMemory → SinkInMemory → List ℕ → Result ℕ Failed → Type 0
PutsMemory before now piece (Ok count) = TakesAllThatFits before now piece count
PutsMemory before now piece (Err failed) = NotesFault before now
