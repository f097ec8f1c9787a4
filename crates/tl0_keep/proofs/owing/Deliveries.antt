-- A delivery, and the run of the next thread, where frames owe and in the plain run: the same but for what is owed.
use Rattle.std.proofs.Common.{◌≡◌, ℕ, ◌+◌, ◌%◌, ◌^◌, Bool, true, false, ◌==◌, nat_lt, List, [], ◌∷◌, ◌++◌, filter, Option, Some, None, slice_get}
use Rattle.std.proofs.Common.{length, refl, sym, ap, ◌∙◌, subst}
use Rattle.std.proofs.Common.{inl, inr, ◌⊎◌}
use Rattle.tam_word.specs.Lists.{any_of, without_place, put_at}
use Rattle.tam_msgs.specs.declared.message.Message.{Message}
use Rattle.tam_msgs.specs.declared.message.Message.TheVariants.{Word as Carry, Frame as Begin, Cells as Make, Fetch as Ask_cell, Store as Put_cell}
use Rattle.tam_msgs.specs.declared.limits.Limits.{Limits}
use Rattle.tl0_code.specs.declared.inlet.Inlet.{Inlet}
use Rattle.tl0_code.specs.declared.instr.Instr.{Instr}
use Rattle.tam_msgs.specs.Messages.{outside}
use Rattle.tam_istr.specs.Cells.{Access, Now, Deferred, Stored, Twice, NotBelow, NoArray, cells_used, fetched_from, stored_into, with_array}
use Rattle.tam_msgs.specs.Runs.{Quiet, Cells_full, Wild, Wild_skip, Wild_frame, Wild_place, Outcome, Next, Ended}
use Rattle.frame_tables.specs.FrameTables.{FrameTable, is_live, next_number, taken, with_slot as with_slot_in, next_thread}
use Rattle.tl0_code.specs.ThreadCode.{CodeText, Program, code_text, thread_at, counts_of, widest_slots, widest_threads, is_plain, plain}
use Rattle.tl0_code.specs.Machines.{Machine, Plain, code_at, put, with_message, Progress, Fine, Broken, spend, then_do, done_thread}
use Rattle.tl0_code.specs.ThreadRuns.{text_at, as_outcome, run_taken, run_next, printed_outside, word_into, with_frame, begin, begin_for, accessed}
use Rattle.tl0_code.specs.ThreadRuns.{delivered, delivered_at}
use Rattle.tl0_keep.specs.ThreadLaws.{table_without_owed}
use Rattle.tl0_keep.proofs.owing.Tables.{is_live-bare, with_slot-bare, next_number-bare, taken-bare, bare_next, next_thread-bare}
use Rattle.tl0_keep.proofs.owing.Threads.{with_table, unowed, unowed_progress, unowed-twice, kept, OrBroken, then-same, put-same, spend-same, thread-same}
use Rattle.tl0_keep.proofs.owing.Programs.{code_text-plain, instrs-plain, counts-plain, slots-plain, threads-plain}

-- what comes of an event, with no frame owing
abbrev pub unowed_outcome : Outcome Machine → Outcome Machine
unowed_outcome (Next m) = Next (unowed m)
unowed_outcome (Ended how m) = Ended how (unowed m)

-- twice is once
pub outcome-twice : (o : Outcome Machine) → unowed_outcome (unowed_outcome o) ≡ unowed_outcome o
outcome-twice (Next m) = ap Next (unowed-twice m)
outcome-twice (Ended how m) = ap (Ended how) (unowed-twice m)

-- the run is wild by a skip, as it may be where frames owe
pub record IsWildBySkip (owes : Bool) (o : Outcome Machine) : Type 0 where
  pub owing : owes ≡ true
  pub number : ℕ
  pub left : Machine
  pub is : o ≡ Ended (Wild Wild_skip number) left

-- the same but for what is owed, or wild by a skip
abbrev pub OrWild : Bool → Outcome Machine → Outcome Machine → Type 0
OrWild owes o other = (unowed_outcome o ≡ unowed_outcome other) ⊎ IsWildBySkip owes o

-- ---- threads

outcome-same : (r : Progress) (before : Machine) → unowed_outcome (as_outcome r before) ≡ as_outcome (unowed_progress r) (unowed before)
outcome-same (Fine m) before = refl
outcome-same (Broken what n) before = refl

outcome-broken : (owes : Bool) (r s : Progress) (before : Machine) → OrBroken owes r s
    → OrWild owes (as_outcome r before) (as_outcome s (unowed before))
outcome-broken owes r s before (inl e) = inl (sym (outcome-twice (as_outcome r before))
    ∙ ap unowed_outcome (outcome-same r before ∙ ap (λ (x : Progress). as_outcome x (unowed before)) e))
outcome-broken owes r s before (inr b) =
    inr (record { owing = b.owing; number = b.number; left = before; is = ap (λ (x : Progress). as_outcome x before) b.is })

taken-same : (owes : Bool) (p : Program) (m : Machine) (next : Option (ℕ × ℕ) × FrameTable)
    → OrWild owes (run_taken (kept owes) p m next) (run_taken Plain (plain p) (unowed m) (bare_next next))
taken-same owes p m (None, table) = inl (sym (ap (Ended Quiet) (unowed-twice m)))
taken-same owes p m (Some (f, t), table) =
    let n : Machine = with_table m table in
    subst (λ (is : List Instr). OrWild owes (as_outcome (done_thread (kept owes) n f (thread_at (text_at p m f) t).instrs) m)
    (as_outcome (done_thread Plain (unowed n) f is) (unowed m)))
    (sym (instrs-plain p (code_at m f) t))
    (outcome-broken owes (done_thread (kept owes) n f (thread_at (text_at p m f) t).instrs)
    (done_thread Plain (unowed n) f (filter is_plain (thread_at (text_at p m f) t).instrs)) m
    (thread-same owes n f (thread_at (text_at p m f) t).instrs))

-- the next thread runs
pub next-same : (owes : Bool) (p : Program) (m : Machine) → OrWild owes (run_next (kept owes) p m) (run_next Plain (plain p) (unowed m))
next-same owes p m = subst (λ (x : Option (ℕ × ℕ) × FrameTable). OrWild owes (run_next (kept owes) p m) (run_taken Plain (plain p) (unowed m) x))
    (sym (next_thread-bare m.table)) (taken-same owes p m (next_thread m.table))

-- ---- deliveries

-- what is the same on the left alone is the same on both sides
twice : (o : Outcome Machine) {other : Outcome Machine} → unowed_outcome o ≡ other → unowed_outcome o ≡ unowed_outcome other
twice o e = sym (outcome-twice o) ∙ ap unowed_outcome e

module _ (p : Program) (m : Machine) where
  printed-same : (k w : ℕ) → unowed_outcome (printed_outside p m k w) ≡ printed_outside (plain p) (unowed m) k w
  printed-same k w = go (nat_lt k (code_text p p.main).results) (any_of (λ kw. kw.0 == k) m.printed) ∙ ap (printed_by (unowed m)) (sym results)
    where
      printed_by : Machine → ℕ → Outcome Machine
      printed_by n r = elim (nat_lt k r) [
        | false ↦ Ended (Wild Wild_place k) n
        | true ↦ elim (any_of (λ kw. kw.0 == k) n.printed) [
          | true ↦ Ended (Wild Wild_place k) n
          | false ↦ Next
              (record n { printed = n.printed ++ (k, w) ∷ [] })
        ]
      ]

      results : (code_text (plain p) p.main).results ≡ (code_text p p.main).results
      results = ap (λ (c : CodeText). c.results) (code_text-plain p p.main)

      go : (inside again : Bool)
          → unowed_outcome (elim inside [
            | false ↦ Ended (Wild Wild_place k) m
            | true ↦ elim again [ true ↦ Ended (Wild Wild_place k) m | false ↦ Next (record m { printed = m.printed ++ (k, w) ∷ [] }) ]
          ]) ≡ elim inside [
            | false ↦ Ended (Wild Wild_place k) (unowed m)
            | true ↦ elim again [ true ↦ Ended (Wild Wild_place k) (unowed m) | false ↦ Next (record (unowed m) { printed = m.printed ++ (k, w) ∷ [] }) ]
          ]
      go false again = refl
      go true true = refl
      go true false = refl

  into-same : (f i w : ℕ) (inlet : Option Inlet) → unowed_outcome (word_into m f i w inlet) ≡ word_into (unowed m) f i w inlet
  into-same f i w None = refl
  into-same f i w (Some x) = outcome-same (spend (put m f x.slot w) f x.thread) m
      ∙ ap (λ (r : Progress). as_outcome r (unowed m)) (spend-same (put m f x.slot w) f x.thread
      ∙ ap (λ (n : Machine). spend n f x.thread) (put-same m f x.slot w))

  -- a word that arrives inside
  inside-same : (f i w : ℕ)
      → unowed_outcome (elim (is_live m.table f) [ true ↦ word_into m f i w (slice_get (text_at p m f).inlets i) | false ↦ Ended (Wild Wild_frame f) m ])
      ≡ elim (is_live (unowed m).table f) [
        | true ↦ word_into (unowed m) f i w (slice_get (text_at (plain p) (unowed m) f).inlets i)
        | false ↦ Ended (Wild Wild_frame f) (unowed m)
      ]
  inside-same f i w = go (is_live m.table f) ∙ (ap (λ (t : Bool). into t (text_at p m f)) (sym (is_live-bare m.table f))
      ∙ ap (into (is_live (unowed m).table f)) (sym (code_text-plain p (code_at m f))))
    where
      into : Bool → CodeText → Outcome Machine
      into t c = elim t [ true ↦ word_into (unowed m) f i w (slice_get c.inlets i) | false ↦ Ended (Wild Wild_frame f) (unowed m) ]

      go : (t : Bool)
          → unowed_outcome (elim t [ true ↦ word_into m f i w (slice_get (text_at p m f).inlets i) | false ↦ Ended (Wild Wild_frame f) m ])
          ≡ elim t [ true ↦ word_into (unowed m) f i w (slice_get (text_at p m f).inlets i) | false ↦ Ended (Wild Wild_frame f) (unowed m) ]
      go true = into-same f i w (slice_get (text_at p m f).inlets i)
      go false = refl

  -- a word that arrives
  arrived-same : (owes : Bool) (limits : Limits) (f i w : ℕ)
      → unowed_outcome (delivered (kept owes) p limits m (Carry f i w)) ≡ delivered Plain (plain p) limits (unowed m) (Carry f i w)
  arrived-same owes limits f i w = go (f == outside)
    where
      inside : Machine → Program → Outcome Machine
      inside n q = elim (is_live n.table f) [ true ↦ word_into n f i w (slice_get (text_at q n f).inlets i) | false ↦ Ended (Wild Wild_frame f) n ]

      go : (t : Bool) → unowed_outcome (elim t [ true ↦ printed_outside p m i w | false ↦ inside m p ])
          ≡ elim t [ true ↦ printed_outside (plain p) (unowed m) i w | false ↦ inside (unowed m) (plain p) ]
      go true = printed-same i w
      go false = inside-same f i w

  -- ---- a frame begins

  -- the table of a new frame, of whatever size, with its two slots
  new_table : FrameTable → ℕ → ℕ → ℕ → ℕ → List ℕ → ℕ → FrameTable
  new_table s s0 s1 slots threads counts n = with_slot_in (with_slot_in (taken s slots threads counts) n 0 s0) n 1 s1

  new_table-same : (s0 s1 slots threads : ℕ) (counts : List ℕ) (n : ℕ)
      → table_without_owed (new_table m.table s0 s1 slots threads counts n) ≡ table_without_owed (new_table (table_without_owed m.table) s0 s1 slots threads
      counts n)
  unfolding new_table
  new_table-same s0 s1 slots threads counts n =
      let a = taken m.table slots threads counts in
      let b = taken (table_without_owed m.table) slots threads counts in
      both a ∙ (ap (λ (x : FrameTable). with_slot_in (with_slot_in x n 0 s0) n 1 s1) (sym (taken-bare m.table slots threads counts)) ∙ sym (both b))
    where
      both : (x : FrameTable)
          → table_without_owed (with_slot_in (with_slot_in x n 0 s0) n 1 s1) ≡ with_slot_in (with_slot_in (table_without_owed x) n 0 s0) n 1 s1
      both x = with_slot-bare (with_slot_in x n 0 s0) n 1 s1 ∙ ap (λ (y : FrameTable). with_slot_in y n 1 s1) (with_slot-bare x n 0 s0)

  frame-same : (c s0 s1 : ℕ) → unowed (with_frame p m c s0 s1) ≡ unowed (with_frame (plain p) (unowed m) c s0 s1)
  unfolding new_table
  frame-same c s0 s1 =
      let n = next_number m.table in
      ap (λ (x : FrameTable). begun_with x n) (new_table-same s0 s1 (widest_slots p) (widest_threads p) (counts_of (code_text p c)) n)
      ∙ (ap (λ (k : ℕ). made k (widest_threads p) (counts_of (code_text p c)) n) (sym (slots-plain p))
      ∙ (ap (λ (k : ℕ). made (widest_slots (plain p)) k (counts_of (code_text p c)) n) (sym (threads-plain p))
      ∙ (ap (λ (cs : List ℕ). made (widest_slots (plain p)) (widest_threads (plain p)) cs n) (sym (counts-plain p c))
      ∙ ap (made (widest_slots (plain p)) (widest_threads (plain p)) (counts_of (code_text (plain p) c))) (sym (next_number-bare m.table)))))
    where
      begun_with : FrameTable → ℕ → Machine
      begun_with t n = record m { table = t; codes = put_at 0 n c m.codes; begun = m.begun + 1 }

      made : ℕ → ℕ → List ℕ → ℕ → Machine
      made slots threads counts n = begun_with (table_without_owed (new_table (table_without_owed m.table) s0 s1 slots threads counts n)) n

  -- thread 0 is spent
  pub begin-same : (c s0 s1 : ℕ) → unowed_progress (begin p m c s0 s1) ≡ unowed_progress (begin (plain p) (unowed m) c s0 s1)
  begin-same c s0 s1 =
      spend-same (with_frame p m c s0 s1) (next_number m.table) 0
      ∙ (ap (λ (n : Machine). spend n (next_number m.table) 0) (frame-same c s0 s1)
      ∙ (ap (λ (k : ℕ). spend (unowed (with_frame (plain p) (unowed m) c s0 s1)) k 0) (sym (next_number-bare m.table))
      ∙ sym (spend-same (with_frame (plain p) (unowed m) c s0 s1) (next_number (unowed m).table) 0)))

  -- who asked is told
  begin_for-same : (c f i : ℕ) → unowed_progress (begin_for p m c f i) ≡ unowed_progress (begin_for (plain p) (unowed m) c f i)
  begin_for-same c f i =
      let x = (i + 1) % 2 ^ 32 in
      then-same (begin p m c f x) (tell (next_number m.table)) (tell (next_number m.table)) (λ n. refl)
      ∙ (ap (λ (r : Progress). then_do r (tell (next_number m.table))) (begin-same c f x)
      ∙ (ap (λ (k : ℕ). then_do (unowed_progress (begin (plain p) (unowed m) c f x)) (tell k)) (sym (next_number-bare m.table))
      ∙ sym (then-same (begin (plain p) (unowed m) c f x) (tell (next_number (unowed m).table)) (tell (next_number (unowed m).table)) (λ n. refl))))
    where
      tell : ℕ → Machine → Progress
      tell k n = Fine (with_message n (Carry f i k))

  begun-same : (c f i : ℕ) → unowed_outcome (as_outcome (begin_for p m c f i) m) ≡ unowed_outcome (as_outcome (begin_for (plain p) (unowed m) c f i) (unowed m))
  begun-same c f i = outcome-same (begin_for p m c f i) m ∙ (ap (λ (r : Progress). as_outcome r (unowed m)) (begin_for-same c f i)
      ∙ (ap (as_outcome (unowed_progress (begin_for (plain p) (unowed m) c f i))) (sym (unowed-twice m))
      ∙ sym (outcome-same (begin_for (plain p) (unowed m) c f i) (unowed m))))

  -- a frame is asked for
  began-same : (owes : Bool) (limits : Limits) (c f i : ℕ)
      → unowed_outcome (delivered (kept owes) p limits m (Begin c f i)) ≡ unowed_outcome (delivered Plain (plain p) limits (unowed m) (Begin c f i))
  began-same true limits c f i = begun-same c f i
  began-same false limits c f i = begun-same c f i

  accessed-same : (s a i : ℕ) (reader : ℕ × ℕ) (w : ℕ) (what : Access) → unowed_outcome (accessed m s a i reader w what) ≡ accessed (unowed m) s a i reader w
      what
  accessed-same s a i reader w (Now u) = refl
  accessed-same s a i reader w (Deferred arrays) = refl
  accessed-same s a i reader w (Stored arrays readers) = refl
  accessed-same s a i reader w (Twice first) = refl
  accessed-same s a i reader w (NotBelow n) = refl
  accessed-same s a i reader w NoArray = refl

  made-same : (owes : Bool) (limits : Limits) (n f i : ℕ)
      → unowed_outcome (delivered (kept owes) p limits m (Make n f i)) ≡ delivered Plain (plain p) limits (unowed m) (Make n f i)
  made-same owes limits n f i = go (nat_lt limits.cells (cells_used m.arrays + n))
    where
      go : (t : Bool) → unowed_outcome (elim t [
        | true ↦ Ended (Cells_full (cells_used m.arrays) n) m
        | false ↦ Next (with_message (record m { arrays = with_array m.arrays n }) (Carry f i (length m.arrays)))
      ]) ≡ elim t [
        | true ↦ Ended (Cells_full (cells_used m.arrays) n) (unowed m)
        | false ↦ Next (with_message (record (unowed m) { arrays = with_array m.arrays n }) (Carry f i (length m.arrays)))
      ]
      go true = refl
      go false = refl

  -- a message is delivered
  delivered-same : (owes : Bool) (limits : Limits) (x : Message)
      → unowed_outcome (delivered (kept owes) p limits m x) ≡ unowed_outcome (delivered Plain (plain p) limits (unowed m) x)
  delivered-same owes limits (Carry f i w) = twice (delivered (kept owes) p limits m (Carry f i w)) (arrived-same owes limits f i w)
  delivered-same owes limits (Begin c f i) = began-same owes limits c f i
  delivered-same owes limits (Make n f i) = twice (delivered (kept owes) p limits m (Make n f i)) (made-same owes limits n f i)
  delivered-same owes limits (Ask_cell a i f x s) = twice (delivered (kept owes) p limits m (Ask_cell a i f x s))
      (accessed-same s a i (f, x) 0 (fetched_from m.arrays a i (f, x)))
  delivered-same owes limits (Put_cell a i w s) = twice (delivered (kept owes) p limits m (Put_cell a i w s))
      (accessed-same s a i (0, 0) w (stored_into m.arrays a i w s))

-- the message at a place
pub at-same : (owes : Bool) (p : Program) (limits : Limits) (m : Machine) (k : ℕ) (x : Option Message)
    → unowed_outcome (delivered_at (kept owes) p limits m k x) ≡ unowed_outcome (delivered_at Plain (plain p) limits (unowed m) k x)
at-same owes p limits m k None = sym (ap (Ended Quiet) (unowed-twice m))
at-same owes p limits m k (Some x) = delivered-same p (record m { pending = without_place k m.pending }) owes limits x
