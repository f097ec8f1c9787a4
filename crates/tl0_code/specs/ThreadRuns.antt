-- A run of threads: one event is the run of one thread to its stop or the delivery of one message.
-- The rule in words: docs/THREADS.md, "Runs of threads".
use Rattle.std.specs.Prelude.{ℕ, ◌+◌, ◌%◌, ◌^◌, Bool, true, false, ◌==◌, nat_lt, List, [], ◌∷◌, ◌++◌, map, Option, Some, None, slice_get, length, zip}
use Rattle.tam_word.specs.Lists.{below, any_of, without_place, put_at}
use Rattle.tam_msgs.specs.declared.message.Message.{Message}
use Rattle.tam_msgs.specs.declared.message.Message.TheVariants.{Word as Carry, Frame as Begin, Cells as Make, Fetch as Ask_cell, Store as Put_cell}
use Rattle.tam_msgs.specs.declared.limits.Limits.{Limits}
use Rattle.tam_msgs.specs.declared.item.Item.{Item}
use Rattle.tam_msgs.specs.declared.choice.Choice.{Choice}
use Rattle.tam_msgs.specs.declared.choice.Choice.TheVariants.{Quiet as Choose_quiet, Run as Choose_run, Deliver as Choose_delivery}
use Rattle.tl0_code.specs.declared.inlet.Inlet.{Inlet}
use Rattle.tam_msgs.specs.Messages.{outside, answers}
use Rattle.tam_istr.specs.Cells.{Access, Now, Deferred, Stored, Twice, NotBelow, NoArray, with_array, cells_used, fetched_from, stored_into}
use Rattle.tam_msgs.specs.Runs.{choice, Wild_frame, Wild_inlet, Wild_array, Wild_place, End, Quiet, Double_write, Out_of_range, Frames_full, Cells_full}
use Rattle.tam_msgs.specs.Runs.{Budget_spent, Wild, Outcome, Next, Ended, run_from, Report, text_of}
use Rattle.frame_tables.specs.FrameTables.{FrameTable, no_frames, is_live, live_count, next_number, taken, with_slot as with_slot_in, next_thread, is_ready}
use Rattle.tl0_code.specs.ThreadCode.{CodeText, Program, code_text, thread_at, counts_of, widest_slots, widest_threads}
use Rattle.tl0_code.specs.Machines.{Machine, Form, Plain, Owing, Giving, code_at, put, with_message, Progress, Fine, Broken, spend, then_do, done_thread}

-- the code of frame f
abbrev pub text_at : Program → Machine → ℕ → CodeText
text_at p m f = code_text p (code_at m f)

-- the outcome; a wild run leaves the state before the event
abbrev pub as_outcome : Progress → Machine → Outcome Machine
as_outcome (Fine m) before = Next m
as_outcome (Broken what n) before = Ended (Wild what n) before

-- ---- a thread runs

-- the thread that was taken runs to its stop
abbrev pub run_taken : Form → Program → Machine → Option (ℕ × ℕ) × FrameTable → Outcome Machine
run_taken form p m (None, table) = Ended Quiet m
run_taken form p m (
  Some (f, t),
  table,
) = as_outcome (done_thread form (record m { table = table }) f (thread_at (text_at p m f) t).instrs) m

-- the thread that became ready last, of the current frame or of the front frame of the queue, which is current then
abbrev pub run_next : Form → Program → Machine → Outcome Machine
run_next form p m = run_taken form p m (next_thread m.table)

-- ---- deliveries

-- a word goes outside as result k
abbrev pub printed_outside : Program → Machine → ℕ → ℕ → Outcome Machine
printed_outside p m k w = elim (nat_lt k (code_text p p.main).results) [
  | false ↦ Ended (Wild Wild_place k) m
  | true ↦ elim (any_of (λ kw. kw.0 == k) m.printed) [ true ↦ Ended (Wild Wild_place k) m | false ↦ Next (record m { printed = m.printed ++ (k, w) ∷ [] }) ]
]

-- a word goes into the slot of an inlet, which posts its thread
abbrev pub word_into : Machine → ℕ → ℕ → ℕ → Option Inlet → Outcome Machine
word_into m f i w None = Ended (Wild Wild_inlet i) m
word_into m f i w (Some inlet) = as_outcome (spend (put m f inlet.slot w) f inlet.thread) m

-- a frame of code c is taken, with its first two slots
abbrev pub with_frame : Program → Machine → ℕ → ℕ → ℕ → Machine
with_frame p m c s0 s1 = let f = next_number m.table in record m {
  table = with_slot_in (with_slot_in (taken m.table (widest_slots p) (widest_threads p) (counts_of (code_text p c))) f 0 s0) f 1 s1;
  codes = put_at 0 f c m.codes;
  begun = m.begun + 1;
}

-- and its thread 0 is spent once
abbrev pub begin : Program → Machine → ℕ → ℕ → ℕ → Progress
begin p m c s0 s1 = spend (with_frame p m c s0 s1) (next_number m.table) 0

-- and its number is sent to who asked
abbrev pub begin_for : Program → Machine → ℕ → ℕ → ℕ → Progress
begin_for p m c f i = then_do (begin p m c f ((i + 1) % 2 ^ 32)) (λ n. Fine (with_message n (Carry f i (next_number m.table))))

-- as many frames are live as may be; only where frames are given back is there a stated count
abbrev pub is_full : Form → Limits → Machine → Bool
is_full Plain limits m = false
is_full Owing limits m = false
is_full Giving limits m = live_count m.table == limits.frames

-- what comes of an access
abbrev pub accessed : Machine → ℕ → ℕ → ℕ → ℕ × ℕ → ℕ → Access → Outcome Machine
accessed m s a i reader w (Now u) = Next (with_message m (Carry reader.0 reader.1 u))
accessed m s a i reader w (Deferred arrays) = Next (record m { arrays = arrays })
accessed m s a i reader w (Stored arrays readers) = Next (record m { arrays = arrays; pending = m.pending ++ answers w readers })
accessed m s a i reader w (Twice first) = Ended (Double_write first s) m
accessed m s a i reader w (NotBelow n) = Ended (Out_of_range s i n) m
accessed m s a i reader w NoArray = Ended (Wild Wild_array a) m

-- the delivery of a message
abbrev pub delivered : Form → Program → Limits → Machine → Message → Outcome Machine
delivered form p limits m (Carry f i w) = elim (f == outside) [
  | true ↦ printed_outside p m i w
  | false ↦ elim (is_live m.table f) [ true ↦ word_into m f i w (slice_get (text_at p m f).inlets i) | false ↦ Ended (Wild Wild_frame f) m ]
]
delivered form p limits m (Begin c f i) = elim (is_full form limits m) [
  | true ↦ Ended (Frames_full limits.frames) m
  | false ↦ as_outcome (begin_for p m c f i) m
]
delivered form p limits m (Make n f i) = elim (nat_lt limits.cells (cells_used m.arrays + n)) [
  | true ↦ Ended (Cells_full (cells_used m.arrays) n) m
  | false ↦ Next (with_message (record m { arrays = with_array m.arrays n }) (Carry f i (length m.arrays)))
]
delivered form p limits m (Ask_cell a i f x s) = accessed m s a i (f, x) 0 (fetched_from m.arrays a i (f, x))
delivered form p limits m (Put_cell a i w s) = accessed m s a i (0, 0) w (stored_into m.arrays a i w s)

-- of the message at place k
abbrev pub delivered_at : Form → Program → Limits → Machine → ℕ → Option Message → Outcome Machine
delivered_at form p limits m k None = Ended Quiet m
delivered_at form p limits m k (Some x) = delivered form p limits (record m { pending = without_place k m.pending }) x

-- ---- one event

-- an event is made, and its item of the order is used
abbrev pub counted : Machine → List Item → Machine
counted m rest = record m { order = rest; events = m.events + 1 }

-- what was chosen is done, unless the budget is spent
abbrev pub chosen : Form → Program → Limits → Machine → Choice × List Item → Outcome Machine
chosen form p limits m (Choose_quiet, rest) = Ended Quiet m
chosen form p limits m (
  Choose_run,
  rest,
) = elim (m.events == limits.budget) [ true ↦ Ended (Budget_spent m.events) m | false ↦ run_next form p (counted m rest) ]
chosen form p limits m (
  Choose_delivery k,
  rest,
) = elim (m.events == limits.budget) [ true ↦ Ended (Budget_spent m.events) m | false ↦ delivered_at form p limits (counted m rest) k (slice_get m.pending k) ]

-- one event, or the end of the run
abbrev pub step_of : Form → Program → Limits → Machine → Outcome Machine
step_of form p limits m = chosen form p limits m (choice m.order (is_ready m.table) (length m.pending))

-- the step of the program: frames owe, are given back, and no more are live than the stated count
abbrev pub thread_step : Program → Limits → Machine → Outcome Machine
thread_step p limits m = step_of Giving p limits m

-- the step in which frames owe and none is given back, without a stated count of frames
abbrev pub owing_step : Program → Limits → Machine → Outcome Machine
owing_step p limits m = step_of Owing p limits m

-- the step in which none owes, without a stated count of frames
abbrev pub plain_step : Program → Limits → Machine → Outcome Machine
plain_step p limits m = step_of Plain p limits m

-- ---- whole runs

-- the state that is left, or this one
abbrev pub or_machine : Machine → Progress → Machine
or_machine m (Fine n) = n
or_machine m (Broken what n) = m

-- no frame has begun, and the arguments are on their way
abbrev pub nothing_begun : List ℕ → List Item → Machine
nothing_begun args order = record {
  table = no_frames;
  codes = [];
  begun = 0;
  pending = map (λ kw. Carry 0 kw.0 kw.1) (zip (below (length args)) args);
  arrays = [];
  order = order;
  printed = [];
  events = 0;
}

-- frame 0 of `main` is taken
abbrev pub thread_opening : Program → List ℕ → List Item → Machine
thread_opening p args order = or_machine (nothing_begun args order) (begin p (nothing_begun args order) p.main outside 0)

-- what the text tells of a run
abbrev pub thread_report : Program → End × Machine → Report
thread_report p e = record {
  printed = (e.1).printed;
  how = e.0;
  results = (code_text p p.main).results;
  events = (e.1).events;
  activations = (e.1).begun;
  cells = cells_used (e.1).arrays;
}

-- the report of a run of a form
abbrev pub told_in : Form → Program → List ℕ → List Item → Limits → Report
told_in form p args order limits = thread_report p (run_from (step_of form p limits) limits.budget (thread_opening p args order))

-- the report of the run of thread code
abbrev pub thread_told : Program → List ℕ → List Item → Limits → Report
thread_told p args order limits = told_in Giving p args order limits

-- the text of the run of thread code
unfoldable pub thread_text : Program → List ℕ → List Item → Limits → List ℕ
thread_text p args order limits = text_of (thread_told p args order limits)
