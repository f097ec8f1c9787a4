-- What contracts see of what the host keeps.
-- The rules in words: docs/MACHINE.md, "The host".
use Rattle.std.specs.Prelude.{ℕ, ◌≡◌, ◌==◌, ◌≤◌, Bool, List, Some, slice_get, length}
use Rattle.tam_word.specs.Lists.{any_of}
use Rattle.tam_msgs.specs.declared.item.Item.{Item}
use Rattle.tam_msgs.specs.declared.limits.Limits.{Limits}
use Rattle.tam_msgs.specs.declared.message.Message.{Message}
use Rattle.tam_istr.specs.Cells.{Arrays, cells_used}
use Rattle.rv_inst.specs.Harts.{Hart}
use Rattle.rv_keep.specs.Hosts.{Host}
use Rattle.rv_host.specs.declared.host_state.HostState.{HostState}
use Rattle.rv_host.specs.LiveFrames.{Numbers}

-- what the host keeps; of what was printed, for each result of `main` whether it went outside, and of the live numbers which they are
pub record SeenHost : Type 0 where
  pub pending : List Message
  pub arrays : Arrays
  pub numbers : Numbers
  pub activations : ℕ
  pub marks : List Bool
  pub events : ℕ

-- what the code keeps
abbrev pub seen_of : HostState → SeenHost
seen_of s = record {
  pending = s.pending.messages;
  arrays = s.cells;
  numbers = s.numbers;
  activations = s.begun;
  marks = s.printed.items;
  events = s.events;
}

-- with the machine, the order list, what was printed, and the live numbers in the order in which they came to be live
abbrev pub host_with : SeenHost → Hart → List Item → List (ℕ × ℕ) → List ℕ → Host
host_with s hart order printed live = record {
  hart = hart;
  pending = s.pending;
  arrays = s.arrays;
  live = live;
  free = s.numbers.free;
  activations = s.activations;
  order = order;
  printed = printed;
  events = s.events;
}

-- the same of what the code keeps
abbrev pub host_of : HostState → Hart → List Item → List (ℕ × ℕ) → List ℕ → Host
host_of s hart order printed live = host_with (seen_of s) hart order printed live

-- result k was printed
abbrev pub is_printed : List (ℕ × ℕ) → ℕ → Bool
is_printed printed k = any_of (λ kw. kw.0 == k) printed

-- each result is marked that was printed, and no other
abbrev pub AreMarked : List Bool → List (ℕ × ℕ) → Type 0
AreMarked marks printed = (k : ℕ) (b : Bool) → slice_get marks k ≡ Some b → is_printed printed k ≡ b

-- ---- what is kept

-- there is a mark for each number that a frame may have, and all is within the limits
pub record IsKept (limits : Limits) (s : HostState) : Type 0 where
  pub frames : length s.numbers.marks ≡ limits.frames
  pub arrays : length s.cells ≤ s.events
  pub cells : cells_used s.cells ≤ limits.cells
  pub events : s.events ≤ limits.budget

-- what the way to a poll leaves as it was: the number of marks, the arrays, what has begun, what was printed and the events
abbrev pub beside_of : HostState → ℕ × Arrays × ℕ × List Bool × ℕ
beside_of s = (length s.numbers.marks, s.cells, s.begun, s.printed.items, s.events)

-- what has its size, and nothing more of it: the marks of numbers, the arrays, the marks of results and the events
abbrev pub sizes_of : HostState → ℕ × (ℕ × ℕ) × ℕ × ℕ
sizes_of s = (length s.numbers.marks, (length s.cells, cells_used s.cells), length s.printed.items, s.events)
