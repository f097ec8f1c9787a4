-- What a frame owes, exactly: those of its threads that have neither run nor been skipped; so a frame is given back once all have.
-- The rule in words: docs/ARCHITECTURE.md, "Frames that are given back".
use Rattle.std.specs.Prelude.{ℕ, ◌+◌, ◌≡◌, ◌<◌, ◌↔◌, ◌⊎◌, true, List, [], ◌∷◌, Some, slice_get, length, Contains}
use Rattle.tam_msgs.specs.declared.item.Item.{Item}
use Rattle.tam_msgs.specs.declared.limits.Limits.{Limits}
use Rattle.tam_graph.specs.declared.kind.Kind.TheVariants.{Cond}
use Rattle.tam_graph.specs.Graphs.{Code, Graph, code_of, kind_at, block_at, owner_of}
use Rattle.tam_split.specs.Partitions.{Parts}
use Rattle.tam_split.specs.GraphPartitions.{partitions, or_none}
use Rattle.frame_tables.specs.FrameTables.{Frame, FrameTable, frame_at}
use Rattle.tam_world.specs.Worlds.{has_entered}
use Rattle.tam_flow.specs.Journals.{State, state_after, has_run, parts_of_act}
use Rattle.tl0_code.specs.ThreadCode.{Thread, code_text, plain}
use Rattle.tl0_code.specs.Machines.{Machine, Owing, Giving, code_at}
use Rattle.tl0_keep.specs.Compiled.{compiled, parts_at, thread_of_class, then_connector, else_connector, is_choosing, then_block, else_block}
use Rattle.tl0_keep.specs.ThreadJournals.{journal_of}
use Rattle.tl0_keep.specs.ThreadLaws.{IsJob, IsAfter, ComesTo}

-- ---- for which block a thread runs

-- thread t of a code runs for block b: thread 0 for the body, a class's for its block, a connector for the block into which it leads
pub data RunsFor (c : Code) (ps : List Parts) (t b : ℕ) : Type 0 where
  Opens : t ≡ 0 → b ≡ 0 → RunsFor c ps t b
  Is_class : (k : ℕ) → b < length c.owners → k < length (parts_at ps b) → t ≡ thread_of_class ps b k → RunsFor c ps t b
  Leads_then : (x : ℕ) → x < length c.nodes → is_choosing (kind_at c x) ≡ true → t ≡ then_connector c ps x → b ≡ then_block c (kind_at c x)
      → RunsFor c ps t b
  Leads_else : (x : ℕ) → x < length c.nodes → is_choosing (kind_at c x) ≡ true → t ≡ else_connector c ps x → b ≡ else_block c (kind_at c x)
      → RunsFor c ps t b

-- block v is block u, or stands in it at some depth
pub data Beneath (c : Code) (u : ℕ) : ℕ → Type 0 where
  The_same : Beneath c u u
  Deeper : {v d : ℕ} → owner_of c v ≡ d ∷ [] → Beneath c u (block_at c d) → Beneath c u v

-- ---- threads that have run, and threads that never will

-- thread t of frame f has run: nothing is left of its entry count, and it isn't ready
pub record HasRun (s : FrameTable) (f t : ℕ) : Type 0 where
  pub zero_left : slice_get (frame_at s f).counts t ≡ Some 0
  pub not_ready : ¬ Contains (frame_at s f).ready t

-- block b of frame f wasn't chosen: the connector of its cond into the other block has run
pub data IsPassedOver (c : Code) (ps : List Parts) (s : FrameTable) (f b : ℕ) : Type 0 where
  Then_ran : (x p y : ℕ) → kind_at c x ≡ Cond p y b → HasRun s f (then_connector c ps x) → IsPassedOver c ps s f b
  Else_ran : (x p n : ℕ) → kind_at c x ≡ Cond p b n → HasRun s f (else_connector c ps x) → IsPassedOver c ps s f b

-- thread t of frame f was skipped: it runs for a block that wasn't chosen, or for one inside it
pub record WasSkipped (c : Code) (ps : List Parts) (s : FrameTable) (f t : ℕ) : Type 0 where
  pub passed : ℕ
  pub block : ℕ
  pub over : IsPassedOver c ps s f passed
  pub beneath : Beneath c passed block
  pub runs : RunsFor c ps t block

-- ---- what is owed

-- the threads of code n of a graph
abbrev pub threads_in : Graph → ℕ → List Thread
threads_in g n = (code_text (compiled g) n).threads

-- thread t of frame f, of code n of a graph, has run or was skipped
abbrev pub IsGone : Graph → ℕ → FrameTable → ℕ → ℕ → Type 0
IsGone g n s f t = HasRun s f t ⊎ WasSkipped (code_of g n) (or_none (slice_get (partitions g) n)) s f t

-- frame f, of code n, owes its threads but for those that have run or were skipped, each of which counts once
pub record OwesTheRest (g : Graph) (n : ℕ) (s : FrameTable) (f : ℕ) : Type 0 where
  pub gone : List ℕ
  pub once : (i j t : ℕ) → slice_get gone i ≡ Some t → slice_get gone j ≡ Some t → i ≡ j
  pub are : (t : ℕ) → Contains gone t ↔ ((t < length (threads_in g n)) × IsGone g n s f t)
  pub owed : (frame_at s f).owed + length gone ≡ length (threads_in g n)

-- so it is of each frame where none is given back
abbrev pub OwesExactly : Type 0
OwesExactly = (g : Graph) (args : List ℕ) (order : List Item) (limits : Limits) (n : ℕ) (m : Machine) → IsJob g args limits
    → ComesTo Owing (compiled g) args order limits n m → (f : ℕ) → f < length m.table.frames → OwesTheRest g (code_at m f) m.table f

-- and of each live frame where frames are given back
abbrev pub LiveOweExactly : Type 0
LiveOweExactly = (g : Graph) (args : List ℕ) (order : List Item) (limits : Limits) (n : ℕ) (m : Machine) → IsJob g args limits
    → ComesTo Giving (compiled g) args order limits n m → (f : ℕ) (h : Frame) → slice_get m.table.frames f ≡ Some (Some h)
    → OwesTheRest g (code_at m f) m.table f

-- thread t of frame f, of code n, has neither run nor been skipped
pub record IsLeftToRun (g : Graph) (n : ℕ) (s : FrameTable) (f : ℕ) : Type 0 where
  pub thread : ℕ
  pub there : thread < length (threads_in g n)
  pub left : ¬ IsGone g n s f thread

-- so each live frame has such a thread: a frame of which all threads have run or were skipped was given back
abbrev pub LiveHaveMore : Type 0
LiveHaveMore = (g : Graph) (args : List ℕ) (order : List Item) (limits : Limits) (n : ℕ) (m : Machine) → IsJob g args limits
    → ComesTo Giving (compiled g) args order limits n m → (f : ℕ) (h : Frame) → slice_get m.table.frames f ≡ Some (Some h)
    → IsLeftToRun g (code_at m f) m.table f

-- ---- by the classes that have run

-- each class of activation j in a block that is entered has run
abbrev pub AllHaveRun : Graph → State → ℕ → Type 0
AllHaveRun g s j = (b k : ℕ) → has_entered s.world j b ≡ true → k < length (parts_of_act g (partitions g) s j b) → has_run s j b k ≡ true

-- the state of the run's journal after n events
abbrev pub journal_state : Graph → List ℕ → List Item → Limits → ℕ → State
journal_state g args order limits n = state_after g (partitions g) args (journal_of n g (partitions g) (plain (compiled g)) args order limits)

-- then an activation of which no thread is ready owes nothing more
abbrev pub OwesNoMore : Type 0
OwesNoMore = (g : Graph) (args : List ℕ) (order : List Item) (limits : Limits) (n : ℕ) (m : Machine) → IsJob g args limits
    → IsAfter Owing (compiled g) args order limits n m → (j : ℕ) → j < m.begun → (frame_at m.table j).ready ≡ []
    → AllHaveRun g (journal_state g args order limits n) j → (frame_at m.table j).owed ≡ 0
