-- A run of machine code: one event at each poll of the machine, and the text of the run.
-- The rules in words: docs/MACHINE.md, "Machine code".
use Rattle.std.specs.Prelude.{decimal, ℕ, ◌+◌, true, false, not, ◌==◌, nat_lt, List, [], ◌∷◌, ◌++◌, map, Option, Some, None, slice_get, length, zip, codes}
use Rattle.tam_word.specs.Lists.{has, below, any_of, without_place}
use Rattle.tam_msgs.specs.declared.message.Message.{Message}
use Rattle.tam_msgs.specs.declared.message.Message.TheVariants.{Word as Carry, Frame as Begin, Cells as Make, Fetch as Ask_cell, Store as Put_cell}
use Rattle.tam_msgs.specs.declared.limits.Limits.{Limits}
use Rattle.tam_word.specs.Words.{wrapped}
use Rattle.tam_istr.specs.Cells.{Access, Now, Deferred, Stored, Twice, NotBelow, NoArray, with_array, cells_used, fetched_from, stored_into}
use Rattle.tam_msgs.specs.Messages.{outside, answers}
use Rattle.tam_msgs.specs.declared.item.Item.{Item}
use Rattle.tam_msgs.specs.declared.choice.Choice.{Choice}
use Rattle.tam_msgs.specs.declared.choice.Choice.TheVariants.{Quiet as Choose_quiet, Run as Choose_run, Deliver as Choose_delivery}
use Rattle.tam_msgs.specs.Runs.{choice, Wild_frame, Wild_array, Wild_place, End, Quiet, Double_write, Out_of_range, Frames_full, Cells_full}
use Rattle.tam_msgs.specs.Runs.{Budget_spent, Wild, Outcome, Next, Ended, run_from, Report, text_of, line}
use Rattle.rv_inst.specs.Harts.{Hart, reg, with_reg}
use Rattle.rv_inst.specs.Images.{Image, hart_opening}
use Rattle.frame_tables.specs.FrameTables.{next_number_of}
use Rattle.rv_keep.specs.Hosts.{Host, with_hart, Reached, At_poll, Stopped, to_poll}

-- registers get words
abbrev pub with_regs : Hart → List (ℕ × ℕ) → Hart
with_regs h [] = h
with_regs h (r ∷ rs) = with_regs (with_reg h r.0 r.1) rs

-- the host has done it by itself
abbrev pub done_here : Host → Outcome Host
done_here s = Next (with_hart s (with_regs s.hart ((10, 0) ∷ [])))

-- a word goes outside as result k
abbrev pub printed_outside : Image → Host → ℕ → ℕ → Outcome Host
printed_outside image s k w = elim (nat_lt k image.results) [
  | false ↦ Ended (Wild Wild_place k) s
  | true ↦ elim (any_of (λ kw. kw.0 == k) s.printed) [
    | true ↦ Ended (Wild Wild_place k) s
    | false ↦ done_here
        (record s { printed = s.printed ++ (k, w) ∷ [] })
  ]
]

-- what comes of an access
abbrev pub accessed : Host → ℕ → ℕ → ℕ → ℕ × ℕ → ℕ → Access → Outcome Host
accessed s site a i reader w (Now u) = done_here (record s { pending = s.pending ++ Carry reader.0 reader.1 u ∷ [] })
accessed s site a i reader w (Deferred arrays) = done_here (record s { arrays = arrays })
accessed s site a i reader w (Stored arrays readers) = done_here (record s { arrays = arrays; pending = s.pending ++ answers w readers })
accessed s site a i reader w (Twice first) = Ended (Double_write first site) s
accessed s site a i reader w (NotBelow n) = Ended (Out_of_range site i n) s
accessed s site a i reader w NoArray = Ended (Wild Wild_array a) s

-- the numbers that are free once the next is taken
abbrev pub left_free : List ℕ → List ℕ
left_free [] = []
left_free (f ∷ free) = free

-- a frame of code c gets a number, which is live from now on, and which the asker gets; the machine is to begin the frame
abbrev pub with_frame : Host → ℕ → ℕ → ℕ → ℕ → Host
with_frame s number c f i = record s {
  hart = with_regs s.hart ((10, 3) ∷ (11, number) ∷ (12, c) ∷ (13, f) ∷ (14, wrapped (i + 1)) ∷ []);
  live = s.live ++ number ∷ [];
  free = left_free s.free;
  activations = s.activations + 1;
  pending = s.pending ++ Carry f i number ∷ [];
}

-- the delivery of a message; words for frames and new frames are left to the machine
abbrev pub delivered : Image → Limits → Host → Message → Outcome Host
delivered image limits s (Carry f i w) = elim (f == outside) [
  | true ↦ printed_outside image s i w
  | false ↦ elim (has s.live f) [
    | true ↦ Next (with_hart s (with_regs s.hart ((10, 2) ∷ (11, f) ∷ (12, i) ∷ (13, w) ∷ [])))
    | false ↦ Ended (Wild Wild_frame f) s
  ]
]
delivered image limits s (Begin c f i) = elim (length s.live == limits.frames) [
  | true ↦ Ended (Frames_full limits.frames) s
  | false ↦ Next (with_frame s (next_number_of s.free (length s.live + length s.free)) c f i)
]
delivered image limits s (Make n f i) = elim (nat_lt limits.cells (cells_used s.arrays + n)) [
  | true ↦ Ended (Cells_full (cells_used s.arrays) n) s
  | false ↦ done_here (record s { arrays = with_array s.arrays n; pending = s.pending ++ Carry f i (length s.arrays) ∷ [] })
]
delivered image limits s (Ask_cell a i f x site) = accessed s site a i (f, x) 0 (fetched_from s.arrays a i (f, x))
delivered image limits s (Put_cell a i w site) = accessed s site a i (0, 0) w (stored_into s.arrays a i w site)

-- of the message at place k
abbrev pub delivered_at : Image → Limits → Host → ℕ → Option Message → Outcome Host
delivered_at image limits s k None = Ended Quiet s
delivered_at image limits s k (Some m) = delivered image limits (record s { pending = without_place k s.pending }) m

-- an event is made, and its item of the order is used
abbrev pub counted : Host → List Item → Host
counted s rest = record s { order = rest; events = s.events + 1 }

-- what was chosen is done, unless the budget is spent
abbrev pub chosen : Image → Limits → Host → Choice × List Item → Outcome Host
chosen image limits s (Choose_quiet, rest) = Ended Quiet s
chosen image limits s (Choose_run, rest) = elim (s.events == limits.budget) [
  | true ↦ Ended (Budget_spent s.events) s
  | false ↦ Next (let t =
      counted s rest in with_hart t (with_regs t.hart ((10, 1) ∷ [])))
]
chosen image limits s (Choose_delivery k, rest) = elim (s.events == limits.budget) [
  | true ↦ Ended (Budget_spent s.events) s
  | false ↦ delivered_at image
      limits (counted s rest) k (slice_get s.pending k)
]

-- the event at a poll, or the end before it
abbrev pub at_poll : Image → Limits → Reached → Outcome Host
at_poll image limits (At_poll s) = chosen image limits s (choice s.order (not (reg s.hart 10 == 0)) (length s.pending))
at_poll image limits (Stopped how s) = Ended how s

-- the machine runs to its next poll, and one event is made there
abbrev pub host_step : Image → Limits → Host → Outcome Host
host_step image limits s = at_poll image limits (to_poll 16777216 s)

-- the root's frame is there, and the arguments are on their way
abbrev pub host_opening : Image → List ℕ → List Item → Limits → Host
host_opening image args order limits = record {
  hart = hart_opening image limits.frames;
  pending = map (λ kw. Carry 0 kw.0 kw.1) (zip (below (length args)) args);
  arrays = [];
  live = 0 ∷ [];
  free = [];
  activations = 1;
  order = order;
  printed = [];
  events = 0;
}

-- what the text tells of a run
abbrev pub host_report : Image → End × Host → Report
host_report image e = record {
  printed = (e.1).printed;
  how = e.0;
  results = image.results;
  events = (e.1).events;
  activations = (e.1).activations;
  cells = cells_used (e.1).arrays;
}

-- the run of an image
abbrev pub host_run : Image → List ℕ → List Item → Limits → End × Host
host_run image args order limits = run_from (host_step image limits) limits.budget (host_opening image args order limits)

-- the report of the run of an image
abbrev pub image_told : Image → List ℕ → List Item → Limits → Report
image_told image args order limits = host_report image (host_run image args order limits)

-- its text: the run's and the number of instructions
unfoldable pub image_text : Image → List ℕ → List Item → Limits → List ℕ
image_text image args order limits =
    text_of (image_told image args order limits) ++ line (codes "instructions " ++ decimal ((host_run image args order limits).1).hart.steps)
