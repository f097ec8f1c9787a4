-- What contracts see of what the evaluator keeps.
use Rattle.std.specs.Prelude.{ℕ, List, ◌≡◌, ◌+◌, ◌≤◌, ◌⊎◌, Some, slice_get, length}
use Rattle.tam_istr.specs.Cells.{Arrays, cells_used}
use Rattle.tam_msgs.specs.declared.limits.Limits.{Limits}
use Rattle.tam_msgs.specs.declared.message.Message.{Message}
use Rattle.tam_world.specs.Worlds.{World}
use Rattle.tam_world.specs.Kept.{pairs_of}
use Rattle.tam_world.specs.Effects.{activations_wished}
use Rattle.tam_eval.specs.declared.machine.Machine.{Machine}

-- the state of a run, without the order list and what was printed
pub record EvalState : Type 0 where
  pub world : World
  pub ready : List (ℕ × ℕ)
  pub pending : List Message
  pub events : ℕ

-- the state that the code keeps
abbrev pub state_of : Machine → EvalState
state_of m = record { world = m.world; ready = pairs_of m.ready.items; pending = m.pending.messages; events = m.events }

-- how many activations there are, the arrays, and how many events there were
abbrev pub sizes_of : Machine → ℕ × Arrays × ℕ
sizes_of m = (length m.world.activations, m.world.arrays, m.events)

-- there are at most so many activations more, and the arrays and the events are as before
pub record Grows (old new : Machine) (activations : ℕ) : Type 0 where
  pub few_activations : length new.world.activations ≤ length old.world.activations + activations
  pub arrays_kept : new.world.arrays ≡ old.world.arrays
  pub events_kept : new.events ≡ old.events

-- no event was made: no activation has begun but the root, and no message wishes for one
pub record HasJustBegun (m : Machine) : Type 0 where
  pub root : length m.world.activations ≤ 1
  pub no_wish : (k : ℕ) (message : Message) → slice_get m.pending.messages k ≡ Some message → activations_wished message ≡ 0

-- the run is within its limits: no more activations have begun and arrays were made than there were events
pub record IsWithinLimits (m : Machine) (limits : Limits) : Type 0 where
  pub activations : (length m.world.activations ≤ m.events) ⊎ HasJustBegun m
  pub arrays : length m.world.arrays ≤ m.events
  pub events : m.events ≤ limits.budget
  pub cells : cells_used m.world.arrays ≤ limits.cells

-- after an event the run is within its limits, where one array more at most was made
pub record Fits (old new : Machine) (limits : Limits) : Type 0 where
  pub activations : length new.world.activations ≤ new.events
  pub few_arrays : length new.world.arrays ≤ length old.world.arrays + 1
  pub cells : cells_used new.world.arrays ≤ limits.cells
  pub events_kept : new.events ≡ old.events

-- an event more, and else the same sizes
abbrev pub CountsEvent : Machine → Machine → Type 0
CountsEvent old new = sizes_of new ≡ (length old.world.activations, old.world.arrays, old.events + 1)
