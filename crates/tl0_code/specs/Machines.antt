-- The state of a run of threads, and what an instruction does to it.
-- The rule in words: docs/THREADS.md, "Instructions of threads".
use Rattle.std.specs.Prelude.{ℕ, zero, suc, ◌+◌, ◌-◌, ◌%◌, ◌^◌, true, false, nat_lt, List, [], ◌∷◌, ◌++◌, Option, Some, None, slice_get, slice_index}
use Rattle.tam_msgs.specs.declared.message.Message.{Message}
use Rattle.tam_msgs.specs.declared.message.Message.TheVariants.{Word as Carry, Frame as Begin, Cells as Make, Fetch as Ask_cell, Store as Put_cell}
use Rattle.tam_msgs.specs.declared.item.Item.{Item}
use Rattle.tl0_code.specs.declared.instr.Instr.{Instr}
use Rattle.tl0_code.specs.declared.instr.Instr.TheVariants.{Imm, Mov, Op as Operate, Fork, Switch, Falloc, Send, Ret, Ialloc, Ifetch, Istore, Skip}
use Rattle.tam_word.specs.Words.{meaning}
use Rattle.tam_msgs.specs.Messages.{site}
use Rattle.tam_msgs.specs.Runs.{WildCause, Wild_thread, Wild_skip}
use Rattle.tam_istr.specs.Cells.{Arrays}
use Rattle.frame_tables.specs.FrameTables.{FrameTable, frame_at, slot_in, with_slot, spent, lowered, given_back, rested}

-- the state of a run
pub record Machine : Type 0 where
  pub table : FrameTable
  pub codes : List ℕ  -- the code of the frame that has, or had last, this number
  pub begun : ℕ  -- how many activations have begun
  pub pending : List Message
  pub arrays : Arrays
  pub order : List Item
  pub printed : List (ℕ × ℕ)
  pub events : ℕ

-- how much a run makes of what a frame owes. `Giving` is what the program does: at the stop after which a frame owes nothing it is given back.
-- Laws are proved of the other two and carried over: in `Owing` frames owe, and none is given back; in `Plain` none owes.
pub data Form : Type 0 where
  Plain Owing Giving : Form

-- the code of frame f
abbrev pub code_at : Machine → ℕ → ℕ
code_at m f = slice_index m.codes f

-- slot a of frame f
abbrev pub slot : Machine → ℕ → ℕ → ℕ
slot m f a = slot_in m.table f a

-- slot a of frame f has the word
abbrev pub put : Machine → ℕ → ℕ → ℕ → Machine
put m f a w = record m { table = with_slot m.table f a w }

-- a message is sent
abbrev pub with_message : Machine → Message → Machine
with_message m x = record m { pending = m.pending ++ x ∷ [] }

-- what an instruction or a delivery leaves, or why the run is wild
pub data Progress : Type 0 where
  Fine : (machine : Machine) → Progress
  Broken : (what : WildCause) (number : ℕ) → Progress

-- one of an entry count is spent, by what is left of it
abbrev pub spend_of : Machine → ℕ → ℕ → Option ℕ → Progress
spend_of m f t None = Broken Wild_thread t
spend_of m f t (Some zero) = Broken Wild_thread t
spend_of m f t (Some (suc n)) = Fine (record m { table = spent m.table f t })

-- the same of thread t of frame f
abbrev pub spend : Machine → ℕ → ℕ → Progress
spend m f t = spend_of m f t (slice_get (frame_at m.table f).counts t)

-- the thread that a word chooses
abbrev pub branch : ℕ → ℕ → ℕ → ℕ
branch zero t u = u
branch (suc w) t u = t

-- frame f owes n less
abbrev pub owing_less : Machine → ℕ → ℕ → Machine
owing_less m f n = record m { table = lowered m.table f n }

-- a skip of n threads, of which fewer are owed
abbrev pub skip : Machine → ℕ → ℕ → Progress
skip m f n = elim (nat_lt n (frame_at m.table f).owed) [ true ↦ Fine (owing_less m f n) | false ↦ Broken Wild_skip n ]

-- the same by the form of the run
abbrev pub skipped : Form → Machine → ℕ → ℕ → Progress
skipped Plain m f n = Fine m
skipped Owing m f n = skip m f n
skipped Giving m f n = skip m f n

-- one instruction of a thread of frame f
abbrev pub done : Form → Machine → ℕ → Instr → Progress
done form m f (Imm d w) = Fine (put m f d w)
done form m f (Mov d a) = Fine (put m f d (slot m f a))
done form m f (Operate o d a b) = Fine (put m f d (meaning o (slot m f a) (slot m f b)))
done form m f (Fork t) = spend m f t
done form m f (Switch s t u) = spend m f (branch (slot m f s) t u)
done form m f (Falloc c i) = Fine (with_message m (Begin c f i))
done form m f (Send r i a) = Fine (with_message m (Carry (slot m f r) i (slot m f a)))
done form m f (Ret k a) = Fine (with_message m (Carry (slot m f 0) ((slot m f 1 + k) % 2 ^ 32) (slot m f a)))
done form m f (Ialloc n i) = Fine (with_message m (Make (slot m f n) f i))
done form m f (Ifetch r x i n) = Fine (with_message m (Ask_cell (slot m f r) (slot m f x) f i (site (code_at m f) n)))
done form m f (Istore r x a n) = Fine (with_message m (Put_cell (slot m f r) (slot m f x) (slot m f a) (site (code_at m f) n)))
done form m f (Skip n) = skipped form m f n

-- goes on where the run isn't wild
abbrev pub then_do : Progress → (Machine → Progress) → Progress
then_do (Fine m) go = go m
then_do (Broken what n) go = Broken what n

-- instructions of a thread of frame f, up to the first that breaks
abbrev pub done_all : Form → Machine → ℕ → List Instr → Progress
done_all form m f [] = Fine m
done_all form m f (i ∷ is) = then_do (done form m f i) (λ n. done_all form n f is)

-- ---- the stop of a thread

-- the frame's turn ends where none of its threads is ready
abbrev pub at_rest : Machine → Machine
at_rest m = record m { table = rested m.table }

-- the frame is given back
abbrev pub with_given : Machine → ℕ → Machine
with_given m f = record m { table = given_back m.table f }

-- frame f owes nothing more: then no thread of it is ready, or the run is wild
abbrev pub all_done : (Machine → Machine) → Machine → List ℕ → Progress
all_done leave m [] = Fine (leave m)
all_done leave m (t ∷ ts) = Broken Wild_skip 0

-- what is done at a stop, by what the frame owes behind it
abbrev pub stopped_owing : (Machine → Machine) → Machine → ℕ → ℕ → Progress
stopped_owing leave m f zero = all_done leave m (frame_at m.table f).ready
stopped_owing leave m f (suc n) = Fine (at_rest m)

-- the same, by what it owes before the stop, where none is given back: a frame that owes nothing may not run
abbrev pub stopped_kept : Machine → ℕ → ℕ → Progress
stopped_kept m f zero = Broken Wild_skip 0
stopped_kept m f (suc n) = stopped_owing at_rest (owing_less m f 1) f n

-- the stop of a thread of frame f, by the form of the run
abbrev pub stopped : Form → Machine → ℕ → Progress
stopped Plain m f = Fine (at_rest m)
stopped Owing m f = stopped_kept m f (frame_at m.table f).owed
stopped Giving m f = stopped_owing (λ n. with_given n f) (owing_less m f 1) f ((frame_at m.table f).owed - 1)

-- a thread of frame f with its stop
abbrev pub done_thread : Form → Machine → ℕ → List Instr → Progress
done_thread form m f is = then_do (done_all form m f is) (λ n. stopped form n f)
