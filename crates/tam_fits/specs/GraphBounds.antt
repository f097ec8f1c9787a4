-- How many instructions come before the first poll and between two polls, for the image of an accepted graph's code, with nothing supposed but the job.
-- The rules in words: docs/ARCHITECTURE.md, "Machine code".
use Rattle.std.specs.Prelude.{ℕ, ◌+◌, ◌≡◌, ◌≤◌, List}
use Rattle.tam_msgs.specs.declared.limits.Limits.{Limits}
use Rattle.tam_msgs.specs.declared.item.Item.{Item}
use Rattle.tam_msgs.specs.Runs.{Next}
use Rattle.tam_graph.specs.Graphs.{Graph}
use Rattle.tl0_code.specs.ThreadCode.{code_text}
use Rattle.tl0_code.specs.Machines.{Machine}
use Rattle.tl0_keep.specs.Compiled.{compiled}
use Rattle.tl0_keep.specs.ThreadLaws.{IsJob}
use Rattle.rv_keep.specs.Hosts.{Host, At_poll}
use Rattle.rv_keep.specs.MachineLaws.{thread_after, poll_after}
use Rattle.rv_keep.specs.Bounds.{start_bound, event_bound}

-- behind each event after which the thread run goes on, the image's run comes to a poll
abbrev pub GraphPollsCome : Type 0
GraphPollsCome = (g : Graph) (args : List ℕ) (order : List Item) (limits : Limits) (n : ℕ) (m : Machine) → IsJob g args limits
    → thread_after (compiled g) args order limits n ≡ Next m → (s : Host) × (poll_after (compiled g) args order limits n ≡ At_poll s)

-- from the start up to the first poll
abbrev pub GraphStartBounded : Type 0
GraphStartBounded = (g : Graph) (args : List ℕ) (order : List Item) (limits : Limits) (s : Host) → IsJob g args limits
    → poll_after (compiled g) args order limits 0 ≡ At_poll s → s.hart.steps ≤ start_bound (code_text (compiled g) (compiled g).main)

-- and from one poll to the next, by the event between them
abbrev pub GraphPollsBounded : Type 0
GraphPollsBounded = (g : Graph) (args : List ℕ) (order : List Item) (limits : Limits) (n : ℕ) (m : Machine) (s t : Host) → IsJob g args limits
    → thread_after (compiled g) args order limits n ≡ Next m
    → poll_after (compiled g) args order limits n ≡ At_poll s → poll_after (compiled g) args order limits (n + 1) ≡ At_poll t
    → t.hart.steps ≤ s.hart.steps + event_bound (compiled g) m
