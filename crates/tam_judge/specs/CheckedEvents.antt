-- What the checker of journals is given, and what it does with one event.
use Rattle.std.specs.Prelude.{ℕ, ◌≡◌, ◌<◌, Bool, true, false, None, List, map, length}
use Rattle.std.specs.declared.vec.Vec.{Vec}
use Rattle.std.specs.declared.alloc.Global.{Global}
use Rattle.tam_graph.specs.Graphs.{Graph}
use Rattle.tam_split.specs.Partitions.{Parts}
use Rattle.tam_split.specs.GraphPartitions.{Partitions}
use Rattle.tam_world.specs.Worlds.{World, activation_at, its_code, has_entered}
use Rattle.tam_flow.specs.Journals.{State, Event, Run, Deliver, has_run, may_follow, after_event}
use Rattle.tam_judge.specs.declared.machine.ClassRun.{ClassRun}
use Rattle.tam_judge.specs.declared.journal.JournalEvent.{JournalEvent}
use Rattle.tam_judge.specs.declared.journal.JournalEvent.TheVariants.{Run as Run_event, Deliver as Deliver_event}

-- an event of a list that may be a journal
abbrev pub event_of : JournalEvent → Event
event_of (Run_event act block class) = Run act block class
event_of (Deliver_event message) = Deliver message

-- the events of such a list
abbrev pub events_of : List JournalEvent → List Event
events_of events = map event_of events

-- the partitions that lists of partitions are seen as, one list for each code
abbrev pub partitions_of : List (Vec Parts Global) → Partitions
partitions_of lists = map (λ list. list.items) lists

-- an activation that is there is of a code that is there, and each block that it has entered is one of its code
pub record BlocksStand (g : Graph) (w : World) : Type 0 where
  pub codes : (i : ℕ) → i < length w.activations → (activation_at w i).code < length g.codes
  pub blocks : (i b : ℕ) → i < length w.activations → has_entered w i b ≡ true → b < length (its_code g w i).owners

-- a run that is asked for in a state without fault: its activation, its block and its class are there, the block was entered, and it is the first such run
pub record IsAsked (s : State) (parts : Parts) (run : ClassRun) : Type 0 where
  pub whole : s.fault ≡ None
  pub there : run.act < length s.world.activations
  pub class : run.class < length parts
  pub once : has_run s run.act run.block run.class ≡ false
  pub entered : has_entered s.world run.act run.block ≡ true

-- the event may come and was made, or it may not come
abbrev pub Makes : Graph → Partitions → State → State → Event → Bool → Type 0
Makes g all old new e true = (may_follow g all old e ≡ true) × (new ≡ after_event g all old e)
Makes g all old new e false = may_follow g all old e ≡ false
