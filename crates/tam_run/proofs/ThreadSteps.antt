-- Each step of a run of thread code follows the state before it.
use Rattle.std.proofs.Common.{◌≡◌, ◌≢◌, ℕ, zero, suc, ◌+◌, ◌-◌, ◌%◌, ◌^◌, Bool, true, false, ◌==◌, nat_lt, List, [], ◌∷◌}
use Rattle.std.proofs.Common.{◌++◌, refl, sym, ap, ◌∙◌, length, Some, None, slice_get}
use Rattle.std.specs.Prelude.{Option}
use Rattle.std.proofs.lemmas.List.{append-nil}
use Rattle.tam_word.proofs.Tests.{number-differs}
use Rattle.tam_word.specs.Lists.{any_of, without_place}
use Rattle.tam_msgs.specs.declared.limits.Limits.{Limits}
use Rattle.tam_msgs.specs.declared.item.Item.{Item}
use Rattle.tam_msgs.specs.declared.message.Message.{Message}
use Rattle.tam_msgs.specs.declared.message.Message.TheVariants.{Word as Carry, Frame as Begin, Cells as Make, Fetch as Ask_cell, Store as Put_cell}
use Rattle.tam_msgs.specs.declared.choice.Choice.{Choice}
use Rattle.tam_msgs.specs.declared.choice.Choice.TheVariants.{Quiet as Choose_quiet, Run as Choose_run, Deliver as Choose_delivery}
use Rattle.tam_msgs.specs.Messages.{outside}
use Rattle.tam_msgs.specs.Runs.{Ended, Next, Budget_spent, Wild, Wild_place, Wild_frame, Wild_skip, Frames_full, Cells_full, choice}
use Rattle.tam_istr.specs.Cells.{Access, Now, Deferred, Stored, Twice, NotBelow, NoArray, fetched_from, stored_into, cells_used, with_array}
use Rattle.frame_tables.specs.FrameTables.{FrameTable, frame_at, is_live, is_ready, next_thread, next_number}
use Rattle.tl0_code.specs.declared.inlet.Inlet.{Inlet}
use Rattle.tl0_code.specs.declared.instr.Instr.{Instr}
use Rattle.tl0_code.specs.declared.instr.Instr.TheVariants.{Imm, Mov, Op as Operate, Fork, Switch, Falloc, Send, Ret, Ialloc, Ifetch, Istore, Skip}
use Rattle.tl0_code.specs.ThreadCode.{Program, code_text, thread_at}
use Rattle.tl0_code.specs.Machines.{Machine, Giving, slot, branch, put, with_message, Progress, Fine, Broken, spend, spend_of, skip, done, done_all, then_do}
use Rattle.tl0_code.specs.Machines.{owing_less, with_given, all_done, stopped_owing, stopped, done_thread}
use Rattle.tl0_code.specs.ThreadRuns.{as_outcome, run_taken, text_at, printed_outside, word_into, with_frame, begin, begin_for, is_full, accessed, delivered}
use Rattle.tl0_code.specs.ThreadRuns.{delivered_at, counted, chosen, thread_step}
use Rattle.tam_run.specs.ThreadTelling.{thread_run}
use Rattle.tam_run.proofs.RunSteps.{Follows}

-- what a state tells of itself as a run goes on
abbrev tells : Machine → List (ℕ × ℕ) × ℕ
tells m = (m.printed, m.events)

-- what went well tells the same
abbrev Keeps : Machine → Progress → Type 0
Keeps m (Fine n) = tells n ≡ tells m
Keeps m (Broken what k) = Unit {0}

-- so do two things one behind the other
then-keeps : (m : Machine) (x : Progress) (go : Machine → Progress) → Keeps m x → ((n : Machine) → Keeps n (go n)) → Keeps m (then_do x go)
then-keeps m (Broken what k) go first next = tt
then-keeps m (Fine n) go first next = behind (go n) (next n)
  where
    behind : (y : Progress) → Keeps n y → Keeps m y
    behind (Fine k) same = same ∙ first
    behind (Broken what k) same = tt

-- an entry count is spent
spend_of-keeps : (m : Machine) (f t : ℕ) (count : Option ℕ) → Keeps m (spend_of m f t count)
spend_of-keeps m f t None = tt
spend_of-keeps m f t (Some zero) = tt
spend_of-keeps m f t (Some (suc n)) = refl

spend-keeps : (m : Machine) (f t : ℕ) → Keeps m (spend m f t)
spend-keeps m f t = spend_of-keeps m f t (slice_get (frame_at m.table f).counts t)

-- threads are skipped
skip-keeps : (m : Machine) (f n : ℕ) → Keeps m (skip m f n)
skip-keeps m f n = go (nat_lt n (frame_at m.table f).owed)
  where
    go : (b : Bool) → Keeps m (elim b [ true ↦ Fine (owing_less m f n) | false ↦ Broken Wild_skip n ])
    go true = refl
    go false = tt

-- one instruction
done-keeps : (f : ℕ) (i : Instr) (m : Machine) → Keeps m (done Giving m f i)
done-keeps f (Imm d w) m = refl
done-keeps f (Mov d a) m = refl
done-keeps f (Operate o d a b) m = refl
done-keeps f (Fork t) m = spend-keeps m f t
done-keeps f (Switch s t u) m = spend-keeps m f (branch (slot m f s) t u)
done-keeps f (Falloc c i) m = refl
done-keeps f (Send r i a) m = refl
done-keeps f (Ret k a) m = refl
done-keeps f (Ialloc n i) m = refl
done-keeps f (Ifetch r x i n) m = refl
done-keeps f (Istore r x a n) m = refl
done-keeps f (Skip n) m = skip-keeps m f n

-- instructions
done_all-keeps : (f : ℕ) (instrs : List Instr) (m : Machine) → Keeps m (done_all Giving m f instrs)
done_all-keeps f [] m = refl
done_all-keeps f (i ∷ rest) m = then-keeps m (done Giving m f i) (λ n. done_all Giving n f rest) (done-keeps f i m) (done_all-keeps f rest)

-- a stop
stopped-keeps : (f : ℕ) (m : Machine) → Keeps m (stopped Giving m f)
stopped-keeps f m = go ((frame_at m.table f).owed - 1)
  where
    given : (ready : List ℕ) → Keeps m (all_done (λ n. with_given n f) (owing_less m f 1) ready)
    given [] = refl
    given (t ∷ ts) = tt

    go : (owed : ℕ) → Keeps m (stopped_owing (λ n. with_given n f) (owing_less m f 1) f owed)
    go zero = given (frame_at (owing_less m f 1).table f).ready
    go (suc n) = refl

-- a thread with its stop
thread-keeps : (f : ℕ) (instrs : List Instr) (m : Machine) → Keeps m (done_thread Giving m f instrs)
thread-keeps f instrs m = then-keeps m (done_all Giving m f instrs) (λ n. stopped Giving n f) (done_all-keeps f instrs m) (stopped-keeps f)

-- a frame begins for who asked
begin_for-keeps : (p : Program) (m : Machine) (c f i : ℕ) → Keeps m (begin_for p m c f i)
begin_for-keeps p m c f i =
    then-keeps m (begin p m c f ((i + 1) % 2 ^ 32)) (λ n. Fine (with_message n (Carry f i (next_number m.table))))
    (spend-keeps (with_frame p m c f ((i + 1) % 2 ^ 32)) (next_number m.table) 0) (λ n. refl)

-- an event was begun: it is counted, and nothing is printed yet
record Begun (s m : Machine) : Type 0 where
  pub printed : m.printed ≡ s.printed
  pub counted : m.events ≡ s.events + 1

module _ (p : Program) (limits : Limits) (s : Machine) (room : s.events ≢ limits.budget) where
  module _ (m : Machine) (begun : Begun s m) where
    -- behind it nothing is printed
    silent : (n : Machine) → tells n ≡ tells m → Follows (thread_run p limits) s (Next n)
    silent n same = record {
      more = [];
      printed = ap (λ (t : List (ℕ × ℕ) × ℕ). t.0) same ∙ begun.printed ∙ sym (append-nil s.printed);
      counted = ap (λ (t : List (ℕ × ℕ) × ℕ). t.1) same ∙ begun.counted;
      room = room;
    }

    -- what goes well is an event
    progress-follows : (x : Progress) → Keeps m x → Follows (thread_run p limits) s (as_outcome x m)
    progress-follows (Fine n) same = silent n same
    progress-follows (Broken what k) same = begun.printed

    -- a thread that was taken runs
    taken-follows : (taken : Option (ℕ × ℕ) × FrameTable) → Follows (thread_run p limits) s (run_taken Giving p m taken)
    taken-follows (None, table) = begun.printed
    taken-follows (Some (f, t), table) =
        progress-follows (done_thread Giving (record m { table = table }) f (thread_at (text_at p m f) t).instrs)
        (thread-keeps f (thread_at (text_at p m f) t).instrs (record m { table = table }))

    -- a word goes outside
    outside-follows : (k w : ℕ) → Follows (thread_run p limits) s (printed_outside p m k w)
    outside-follows k w = go (nat_lt k (code_text p p.main).results) (any_of (λ kw. kw.0 == k) m.printed)
      where
        go : (a b : Bool)
            → Follows (thread_run p limits) s (elim a [
              | false ↦ Ended (Wild Wild_place k) m
              | true ↦ elim b [ true ↦ Ended (Wild Wild_place k) m | false ↦ Next (record m { printed = m.printed ++ (k, w) ∷ [] }) ]
            ])
        go false b = begun.printed
        go true true = begun.printed
        go true false = record { more = (k, w) ∷ []; printed = ap (λ l. l ++ (k, w) ∷ []) begun.printed; counted = begun.counted; room = room }

    -- a word goes into a frame
    word-follows : (f i w : ℕ) (inlet : Option Inlet) → Follows (thread_run p limits) s (word_into m f i w inlet)
    word-follows f i w None = begun.printed
    word-follows f i w (Some inlet) =
        progress-follows (spend (put m f inlet.slot w) f inlet.thread) (spend-keeps (put m f inlet.slot w) f inlet.thread)

    -- an access is made
    access-follows : (site a i : ℕ) (reader : ℕ × ℕ) (w : ℕ) (access : Access)
        → Follows (thread_run p limits) s (accessed m site a i reader w access)
    access-follows site a i reader w (Now u) = silent (with_message m (Carry reader.0 reader.1 u)) refl
    access-follows site a i reader w (Deferred arrays) = silent (record m { arrays = arrays }) refl
    access-follows site a i reader w (Stored arrays readers) = silent _ refl
    access-follows site a i reader w (Twice first) = begun.printed
    access-follows site a i reader w (NotBelow n) = begun.printed
    access-follows site a i reader w NoArray = begun.printed

    -- a message is delivered
    delivered-follows : (x : Message) → Follows (thread_run p limits) s (delivered Giving p limits m x)
    delivered-follows (Carry f i w) = go (f == outside) (is_live m.table f)
      where
        go : (a b : Bool)
            → Follows (thread_run p limits) s (elim a [
              | true ↦ printed_outside p m i w
              | false ↦ elim b [ true ↦ word_into m f i w (slice_get (text_at p m f).inlets i) | false ↦ Ended (Wild Wild_frame f) m ]
            ])
        go true b = outside-follows i w
        go false true = word-follows f i w (slice_get (text_at p m f).inlets i)
        go false false = begun.printed
    delivered-follows (Begin c f i) = go (is_full Giving limits m)
      where
        go : (a : Bool)
            → Follows (thread_run p limits) s (elim a [ true ↦ Ended (Frames_full limits.frames) m | false ↦ as_outcome (begin_for p m c f i) m ])
        go true = begun.printed
        go false = progress-follows (begin_for p m c f i) (begin_for-keeps p m c f i)
    delivered-follows (Make n f i) = go (nat_lt limits.cells (cells_used m.arrays + n))
      where
        go : (a : Bool)
            → Follows (thread_run p limits) s (elim a [
              | true ↦ Ended (Cells_full (cells_used m.arrays) n) m
              | false ↦ Next (with_message (record m { arrays = with_array m.arrays n }) (Carry f i (length m.arrays)))
            ])
        go true = begun.printed
        go false = silent _ refl
    delivered-follows (Ask_cell a i f x site) = access-follows site a i (f, x) 0 (fetched_from m.arrays a i (f, x))
    delivered-follows (Put_cell a i w site) = access-follows site a i (0, 0) w (stored_into m.arrays a i w site)

  -- the message at a place
  at-follows : (m : Machine) → Begun s m → (k : ℕ) (x : Option Message) → Follows (thread_run p limits) s (delivered_at Giving p limits m k x)
  at-follows m begun k None = begun.printed
  at-follows m begun k (Some x) =
      delivered-follows (record m { pending = without_place k m.pending }) (record { printed = begun.printed; counted = begun.counted }) x

-- what was chosen is done
chosen-follows : (p : Program) (limits : Limits) (s : Machine) (c : Choice × List Item) → Follows (thread_run p limits) s (chosen Giving p limits s c)
chosen-follows p limits s (Choose_quiet, rest) = refl
chosen-follows p limits s (Choose_run, rest) = go (s.events == limits.budget) refl
  where
    go : (b : Bool) → (s.events == limits.budget) ≡ b
        → Follows (thread_run p limits) s (elim b [
          | true ↦ Ended (Budget_spent s.events) s
          | false ↦ run_taken Giving p (counted s rest) (next_thread s.table)
        ])
    go true e = refl
    go false e =
        taken-follows p limits s (number-differs s.events limits.budget e) (counted s rest) (record { printed = refl; counted = refl }) (next_thread s.table)
chosen-follows p limits s (Choose_delivery k, rest) = go (s.events == limits.budget) refl
  where
    go : (b : Bool) → (s.events == limits.budget) ≡ b
        → Follows (thread_run p limits) s (elim b [
          | true ↦ Ended (Budget_spent s.events) s
          | false ↦ delivered_at Giving p limits (counted s rest) k (slice_get s.pending k)
        ])
    go true e = refl
    go false e =
        at-follows p limits s (number-differs s.events limits.budget e) (counted s rest) (record { printed = refl; counted = refl }) k (slice_get s.pending k)

-- each step follows the state before it
pub thread-follows : (p : Program) (limits : Limits) (s : Machine) → Follows (thread_run p limits) s (thread_step p limits s)
thread-follows p limits s = chosen-follows p limits s (choice s.order (is_ready s.table) (length s.pending))
