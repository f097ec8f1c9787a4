-- Messages: the number that names the outside, sites, answers to those who wait, and the ranges of a run's limits.
use Rattle.std.specs.Prelude.{ℕ, ◌+◌, ◌*◌, ◌/◌, ◌%◌, ◌^◌, ◌<◌, ◌≤◌, List, map}
use Rattle.tam_msgs.specs.declared.message.Message.{Message}
use Rattle.tam_msgs.specs.declared.message.Message.TheVariants.{Word as Carry}
use Rattle.tam_msgs.specs.declared.limits.Limits.{Limits}

-- the number that names the outside
abbrev pub outside : ℕ
outside = 4294967295

-- the site of node x of code c, as one number
abbrev pub site : ℕ → ℕ → ℕ
site c x = 1024 * c + x

-- the code and the node of a site
abbrev pub site_pair : ℕ → ℕ × ℕ
site_pair s = (s / 1024, s % 1024)

-- the words that go to those who waited
abbrev pub answers : ℕ → List (ℕ × ℕ) → List Message
answers v readers = map (λ r. Carry r.0 r.1 v) readers

-- the limits of a run are in their ranges; then no activation and no array has the outside's number
pub record AreLimits (limits : Limits) : Type 0 where
  pub some_frame : 0 < limits.frames
  pub few_frames : limits.frames ≤ 16384
  pub few_cells : limits.cells ≤ 4194304
  pub budget : limits.budget < 2 ^ 32
