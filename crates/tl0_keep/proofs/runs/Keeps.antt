-- What the state of a plain run of threads keeps beside the state of its journal.
use Rattle.std.proofs.Common.{◌≡◌, ℕ, ◌+◌, ◌<◌, true, false, List, [], map, Some, None, slice_get, length}
use Rattle.std.proofs.Common.{◌⊎◌}
use Rattle.tam_word.specs.Lists.{has}
use Rattle.tam_word.proofs.Members.{In, Distinct}
use Rattle.tam_msgs.specs.declared.message.Message.{Message}
use Rattle.tam_msgs.specs.declared.message.Message.TheVariants.{Word as Carry, Frame as Begin, Cells as Make, Fetch as Ask_cell, Store as Put_cell}
use Rattle.tam_msgs.specs.Messages.{outside}
use Rattle.tam_istr.specs.Cells.{Empty, Reader}
use Rattle.tam_graph.specs.declared.kind.Kind.{Kind}
use Rattle.tam_graph.specs.declared.kind.Kind.TheVariants.{Call as Invoke, Cond, Switch as Choose, Enter}
use Rattle.tam_graph.specs.Graphs.{Code, Graph, code_of, kind_at, has_value, is_inlet, node_in}
use Rattle.tam_graph.specs.Graphs.{is_enter, results_of}
use Rattle.tam_split.specs.Partitions.{Parts}
use Rattle.tam_split.specs.GraphPartitions.{Partitions}
use Rattle.tam_world.specs.Worlds.{World, activation_at, its_code, has_word, has_entered, ActivationState}
use Rattle.tam_flow.specs.Journals.{State, has_run, on_their_way}
use Rattle.tam_flow.specs.Reached.{IsThere, Has, cell_at}
use Rattle.frame_tables.specs.FrameTables.{Frame, FrameTable, frame_at}
use Rattle.tl0_code.specs.ThreadCode.{Program, plain, widest_slots}
use Rattle.tl0_code.specs.Machines.{Machine, slot}
use Rattle.tl0_keep.specs.Compiled.{slot_of, inlet_of, yes_of, no_of, compiled_with}
use Rattle.tl0_keep.proofs.code.ThreadKinds.{ThreadKind, Entry, Class, Then_of, Else_of, Source, Word_of, Behind, Opened, Begun, Ticket}
use Rattle.tl0_keep.proofs.code.ThreadKinds.{number_of_thread, IsThread, sources_of}
use Rattle.tl0_keep.proofs.code.ThreadKinds.{parts_for, inlet_thread, opener_of, poster_of, takes_messages}
use Rattle.tl0_keep.specs.ThreadNames.{thread_message, thread_arrays}

-- a ticket of a frame: thread and source
abbrev pub Owed : Type 0
Owed = ℕ × Ticket

-- the ticket of a thread from a source
abbrev pub ticket : ℕ → ThreadKind → Source → Owed
ticket i n t = (i, record { thread = n; source = t })

-- ---- why a ticket is given

module _ (g : Graph) (all : Partitions) (s : State) (others : List (ℕ × ThreadKind)) where
  -- the partitions of the code of activation i
  abbrev pub parts_in : ℕ → List Parts
  parts_in i = parts_for all (activation_at s.world i).code

  -- thread n of frame i has run, or is running; of threads that are no classes the list has those
  abbrev pub HasRun : ℕ → ThreadKind → Type 0
  HasRun i (Class b k) = has_run s i b k ≡ true
  HasRun i n = In (i, n) others

  -- one of these threads has run
  abbrev pub OneRan : ℕ → List ThreadKind → Type 0
  OneRan i ns = (n : ThreadKind) × In n ns × In (i, n) others

  -- the word of an inlet is posted: of an `in` by its connector. Here and below c is the code of activation i
  abbrev pub PostedAt : Code → ℕ → ℕ → Kind → Type 0
  PostedAt c i x (Enter k) = OneRan i (poster_of c x k)
  PostedAt c i x k = has_word s.world i x ≡ true

  -- the `in` of place k of block b has a word
  abbrev pub HasEntered : Code → ℕ → ℕ → ℕ → Type 0
  HasEntered c i b k = (e : ℕ) × In e (node_in c b (is_enter k)) × (has_word s.world i e ≡ true)

  -- a cond chose its then block, a switch gave its word there
  abbrev pub ChoseThen : Code → ℕ → Kind → Type 0
  ChoseThen c i (Cond p y n) = has_entered s.world i y ≡ true
  ChoseThen c i (Choose d k a) = HasEntered c i (yes_of (kind_at c d)) k
  ChoseThen c i _ = ⊥

  -- its else block
  abbrev pub ChoseElse : Code → ℕ → Kind → Type 0
  ChoseElse c i (Cond p y n) = has_entered s.world i n ≡ true
  ChoseElse c i (Choose d k a) = HasEntered c i (no_of (kind_at c d)) k
  ChoseElse c i _ = ⊥

  -- why a thread of activation i has a ticket from a source
  abbrev pub ReasonAt : Code → ℕ → ThreadKind → Source → Type 0
  ReasonAt c i (Class b k) (Word_of x) = PostedAt c i x (kind_at c x)
  ReasonAt c i (Class b k) (Behind d) = has_run s i b d ≡ true
  ReasonAt c i (Class b k) Opened = OneRan i (opener_of c b)
  ReasonAt c i (Class b k) Begun = ⊥
  ReasonAt c i Entry t = Unit {0}
  ReasonAt c i (Then_of x) t = ChoseThen c i (kind_at c x)
  ReasonAt c i (Else_of x) t = ChoseElse c i (kind_at c x)

  -- the word of an inlet is posted
  abbrev pub Posted : ℕ → ℕ → Kind → Type 0
  Posted i x k = PostedAt (its_code g s.world i) i x k

  -- why the thread has the ticket
  abbrev pub Reason : ℕ → ThreadKind → Source → Type 0
  Reason i n t = ReasonAt (its_code g s.world i) i n t

  -- the ticket is given
  pub record Given (i : ℕ) (n : ThreadKind) (t : Source) : Type 0 where
    pub there : IsThere s.world i
    pub thread : IsThread (its_code g s.world i) (parts_in i) n
    pub source : In t (sources_of (its_code g s.world i) (parts_in i) n)
    pub reason : Reason i n t

-- ---- the invariant

-- the frames: one for each activation, with its code and its caller
pub record FramesKeep (g : Graph) (p : Program) (m : Machine) (s : State) : Type 0 where
  pub frames : length m.table.frames ≡ length s.world.activations
  pub begun : m.begun ≡ length s.world.activations
  pub codes : m.codes ≡ map (λ (a : ActivationState). a.code) s.world.activations
  pub known : (i : ℕ) → IsThere s.world i → (activation_at s.world i).code < length g.codes
  pub live : (i : ℕ) → IsThere s.world i → (h : Frame) × (slice_get m.table.frames i ≡ Some (Some h))
  pub free : m.table.free ≡ []
  pub caller : (i : ℕ) → IsThere s.world i → slot m i 0 ≡ (activation_at s.world i).caller
  pub root_inlet : slot m 0 1 ≡ 0
  pub inlet : (i : ℕ) → 0 < i → IsThere s.world i → slot m i 1
      ≡ inlet_of g (its_code g s.world (activation_at s.world i).caller) (activation_at s.world i).call + 1
  pub width : (i : ℕ) → IsThere s.world i → length (frame_at m.table i).slots ≡ widest_slots p

-- the slots: a node's slot has its word. An inlet's has it once its ticket is given and no longer due
pub record SlotsKeep (g : Graph) (all : Partitions) (m : Machine) (s : State) (others : List (ℕ × ThreadKind)) (due : List Owed) : Type 0 where
  pub own : (i x v : ℕ) → IsThere s.world i → has_value (kind_at (its_code g s.world i) x) ≡ true → is_inlet (kind_at (its_code g s.world i) x) ≡ false
      → Has s i x v
      → slot m i (slot_of (its_code g s.world i) x) ≡ v
  pub come : (i x v : ℕ) → IsThere s.world i → x < length (its_code g s.world i).nodes → is_inlet (kind_at (its_code g s.world i) x) ≡ true → Has s i x v
      → Posted g all s others i x (kind_at (its_code g s.world i) x)
      → (In (ticket i (inlet_thread (its_code g s.world i) (parts_in g all s others i) x) (Word_of x)) due → ⊥)
      → slot m i (slot_of (its_code g s.world i) x) ≡ v

-- one thread: what is left of its entry count and what was spent are its sources, and what was spent are the tickets given but those still due
pub record ThreadKeeps (g : Graph) (all : Partitions) (m : Machine) (s : State) (others : List (ℕ × ThreadKind)) (due : List Owed) (i : ℕ) (n : ThreadKind)
    : Type 0 where
  pub count : ℕ
  pub spent : List Source
  pub left : slice_get (frame_at m.table i).counts (number_of_thread (its_code g s.world i) (parts_in g all s others i) n) ≡ Some count
  pub sum : count + length spent ≡ length (sources_of (its_code g s.world i) (parts_in g all s others i) n)
  pub once : Distinct spent
  pub given : (t : Source) → In t spent → Given g all s others i n t
  pub not_due : (t : Source) → In t spent → In (ticket i n t) due → ⊥
  pub spent_or_due : (t : Source) → Given g all s others i n t → In t spent ⊎ In (ticket i n t) due
  -- it is ready while it may run and hasn't
  pub ready : In (number_of_thread (its_code g s.world i) (parts_in g all s others i) n) (frame_at m.table i).ready → (count ≡ 0)
      × (HasRun g all s others i n → ⊥)
  pub ran_or_ready : count ≡ 0 → HasRun g all s others i n
      ⊎ In (number_of_thread (its_code g s.world i) (parts_in g all s others i) n) (frame_at m.table i).ready
  pub ran : HasRun g all s others i n → count ≡ 0

-- the ready lists are of threads, each once
pub record ReadyKeeps (g : Graph) (all : Partitions) (m : Machine) (s : State) (others : List (ℕ × ThreadKind)) : Type 0 where
  pub once : (i : ℕ) → IsThere s.world i → Distinct (frame_at m.table i).ready
  pub threads : (i t : ℕ) → IsThere s.world i → In t (frame_at m.table i).ready
      → (n : ThreadKind) × IsThread (its_code g s.world i) (parts_in g all s others i) n
      × (number_of_thread (its_code g s.world i) (parts_in g all s others i) n ≡ t)

-- the queue: frames with ready threads that aren't current, each once; a frame with a ready thread is current or queued
pub record TurnsKeep (table : FrameTable) : Type 0 where
  pub once : Distinct table.queue
  pub queued : (i : ℕ) → In i table.queue → (i < length table.frames) × ((frame_at table i).ready ≡ [] → ⊥) × (table.current ≡ Some i → ⊥)
  pub current : (i : ℕ) → table.current ≡ Some i → i < length table.frames
  pub ready : (i t : ℕ) → In t (frame_at table i).ready → (table.current ≡ Some i) ⊎ In i table.queue

-- between events the current frame has a ready thread
abbrev pub IsRested : FrameTable → Type 0
IsRested table = (i : ℕ) → table.current ≡ Some i → (frame_at table i).ready ≡ [] → ⊥

-- node x of activation f is there, and messages come to it
abbrev pub IsForMessages : Graph → World → ℕ → ℕ → Type 0
IsForMessages g w f x = IsThere w f × (takes_messages (kind_at (its_code g w f) x) ≡ true)

-- a message is for such a node, or for a place of the outside; a wish for an activation is a call's, for cells an alloc's
abbrev pub Fits : Graph → World → Message → Type 0
Fits g w (Carry f x v) = ((f ≡ outside) × (x < results_of (code_of g g.main))) ⊎ IsForMessages g w f x
Fits g w (Begin c f x) = IsForMessages g w f x × (kind_at (its_code g w f) x ≡ Invoke c)
Fits g w (Make n f x) = IsForMessages g w f x
Fits g w (Ask_cell a j f x t) = IsForMessages g w f x
Fits g w (Put_cell a j v t) = Unit {0}

-- messages on their way and waiting readers are for such nodes, and what arrived was sent
pub record MessagesKeep (g : Graph) (m : Machine) (s : State) : Type 0 where
  pub pending : map (thread_message g s.world) (on_their_way s) ≡ m.pending
  pub arrays : thread_arrays g s.world s.world.arrays ≡ m.arrays
  pub printed : s.printed ≡ m.printed
  pub fit : (x : Message) → In x (on_their_way s) → Fits g s.world x
  pub readers : (a j : ℕ) (rs : List Reader) (r : Reader) → cell_at s.world a j ≡ Some (Empty rs) → In r rs → IsForMessages g s.world r.0 r.1
  pub arrived_sent : (n : ℕ) → has s.arrived n ≡ true → n < length s.sent

-- the whole. `others` has the runs of threads 0 and of connectors, and `due` the tickets that are given but not yet spent:
-- those that the thread that is running (or the delivery) is still to spend. Between events there are none
pub record Keeps (g : Graph) (all : Partitions) (m : Machine) (s : State) (others : List (ℕ × ThreadKind)) (due : List Owed) : Type 0 where
  pub frames : FramesKeep g (plain (compiled_with g all)) m s
  pub slots : SlotsKeep g all m s others due
  pub threads : (i : ℕ) (n : ThreadKind) → IsThere s.world i → IsThread (its_code g s.world i) (parts_in g all s others i) n
      → ThreadKeeps g all m s others due i n
  pub ready : ReadyKeeps g all m s others
  pub turns : TurnsKeep m.table
  pub messages : MessagesKeep g m s
  pub no_fault : s.fault ≡ None
  pub others_there : (i : ℕ) (n : ThreadKind) → In (i, n) others → IsThere s.world i
  pub runs_there : (i b k : ℕ) → has_run s i b k ≡ true → IsThere s.world i
  pub due_once : Distinct due
  pub due_given : (i : ℕ) (n : ThreadKind) (t : Source) → In (ticket i n t) due → Given g all s others i n t

-- between events
pub record Rests (g : Graph) (all : Partitions) (m : Machine) (s : State) (others : List (ℕ × ThreadKind)) : Type 0 where
  pub keeps : Keeps g all m s others []
  pub rested : IsRested m.table
