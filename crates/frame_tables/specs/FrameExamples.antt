-- Frames taken, run, given back and taken again, by computation.
-- The rule in words: docs/THREADS.md, "Frames".
use Rattle.std.specs.Prelude.{◌≡◌, refl, [], ◌∷◌, Some, None, true, false}
use Rattle.frame_tables.specs.declared.answers.Spend.TheVariants.{Left, Enabled, Spent}
use Rattle.frame_tables.specs.FrameTables.{FrameTable, no_frames, taken, spent, spend_answer, count_in, next_thread, next_number, rested, given_back, lowered}
use Rattle.frame_tables.specs.FrameTables.{frame_at, live_count, is_live, is_ready, with_slot}

-- a frame with the entry counts 1 and 2
abbrev pub one_frame : FrameTable
one_frame = taken no_frames 3 2 (1 ∷ 2 ∷ [])

-- thread 1 spent twice and thread 0 once; thread 1 became ready last
abbrev pub both_ready : FrameTable
both_ready = spent (spent (spent one_frame 0 1) 0 0) 0 1

-- what the spending answers, in order, and once more of thread 0
answers : (spend_answer (count_in one_frame 0 1) ≡ Left) × (spend_answer (count_in (spent one_frame 0 1) 0 0) ≡ Enabled)
    × (spend_answer (count_in both_ready 0 0) ≡ Spent)
answers = (refl, refl, refl)

last_ready_first : (next_thread both_ready).0 ≡ Some (0, 1)
last_ready_first = refl

then_the_other : (next_thread (next_thread both_ready).1).0 ≡ Some (0, 0)
then_the_other = refl

-- both have run
abbrev pub both_run : FrameTable
both_run = rested (next_thread (next_thread both_ready).1).1

then_none : ((next_thread both_run).0 ≡ None) × (is_ready both_run ≡ false) × (is_ready both_ready ≡ true)
then_none = (refl, refl, refl)

-- it owes 2, then 0
owes : ((frame_at both_run 0).owed ≡ 2) × ((frame_at (lowered both_run 0 2) 0).owed ≡ 0)
owes = (refl, refl)

-- a frame taken of a table of one, with a slot set, run and given back; the next has its number and empty slots
abbrev pub taken_again : FrameTable
taken_again = taken (given_back (lowered (rested (next_thread (spent (with_slot (taken no_frames 2 1 (1 ∷ [])) 0 1 7) 0 0)).1) 0 1) 0) 2 1 (1 ∷ [])

is_the_first : taken_again ≡ taken no_frames 2 1 (1 ∷ [])
is_the_first = refl

-- while it is free no frame is live, and the next number is its own
abbrev pub one_free : FrameTable
one_free = given_back one_frame 0

nothing_live : (live_count one_free ≡ 0) × (is_live one_free 0 ≡ false) × (next_number one_free ≡ 0) × (next_number one_frame ≡ 1)
nothing_live = (refl, refl, refl, refl)
