-- How many instructions and events a run of machine code has, whatever the words of its image: so the number of instructions is told as it is.
-- The rules in words: docs/MACHINE.md, "The host".
use Rattle.std.specs.Prelude.{ℕ, ◌+◌, ◌*◌, ◌^◌, ◌<◌, ◌≤◌, List}
use Rattle.tam_msgs.specs.declared.limits.Limits.{Limits}
use Rattle.tam_msgs.specs.Messages.{AreLimits}
use Rattle.tam_msgs.specs.declared.item.Item.{Item}
use Rattle.tam_msgs.specs.Runs.{Outcome, after_events}
use Rattle.rv_inst.specs.Images.{Image}
use Rattle.rv_keep.specs.Hosts.{Host, Reached, At_poll, Stopped}
use Rattle.rv_keep.specs.HostRuns.{host_step, host_opening, host_run}
use Rattle.rv_keep.specs.MachineLaws.{without_poll, poll_of}

-- n events of the run of an image
abbrev pub image_after : Image → List ℕ → List Item → Limits → ℕ → Outcome Host
image_after image args order limits n = after_events (host_step image limits) n (host_opening image args order limits)

-- the poll behind them, or the end before it
abbrev pub poll_behind : Image → List ℕ → List Item → Limits → ℕ → Reached
poll_behind image args order limits n = poll_of (image_after image args order limits n)

-- the host at a poll, or as an end leaves it
abbrev pub host_at : Reached → Host
host_at (At_poll s) = s
host_at (Stopped how s) = s

-- the host as the whole run leaves it
abbrev pub host_left : Image → List ℕ → List Item → Limits → Host
host_left image args order limits = (host_run image args order limits).1

-- no more instructions than may be carried out without a poll, for each event and once more; and no more events than the budget
pub record HasCounted (limits : Limits) (s : Host) : Type 0 where
  pub steps : s.hart.steps ≤ without_poll * (s.events + 1)
  pub events : s.events ≤ limits.budget

-- at each poll, and as each end leaves it
abbrev pub PollsHaveCounted : Type 0
PollsHaveCounted = (image : Image) (args : List ℕ) (order : List Item) (limits : Limits) (n : ℕ)
    → HasCounted limits (host_at (poll_behind image args order limits n))

-- as the whole run leaves it
abbrev pub RunsHaveCounted : Type 0
RunsHaveCounted = (image : Image) (args : List ℕ) (order : List Item) (limits : Limits) → HasCounted limits (host_left image args order limits)

-- so the machine's counter never comes to where it would stay
abbrev pub CounterSuffices : Type 0
CounterSuffices = (image : Image) (args : List ℕ) (order : List Item) (limits : Limits) (n : ℕ) → AreLimits limits
    → ((host_at (poll_behind image args order limits n)).hart.steps < 2 ^ 64) × ((host_left image args order limits).hart.steps < 2 ^ 64)
