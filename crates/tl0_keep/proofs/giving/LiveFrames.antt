-- Of any program: at each event of the run in which frames are given back each live frame owes something, and no more are live than the stated count.
use Rattle.std.proofs.Common.{◌≡◌, ℕ, zero, suc, ◌+◌, ◌-◌, ◌%◌, ◌^◌, ◌<◌, ◌≤◌, Bool, true, false, ◌==◌, nat_lt, List, [], ◌∷◌, ◌++◌, length, take}
use Rattle.std.proofs.Common.{Option, Some, None, slice_get, slice_set, replicate, count_by, refl, ap, sym, ◌∙◌, subst, arith, inl, inr, ◌⊎◌}
use Rattle.std.proofs.lemmas.Option.{none-some, same_Some}
use Rattle.tam_word.specs.Lists.{any_of, without_place}
use Rattle.tam_word.proofs.Tests.{number-differs, test-below}
use Rattle.tam_msgs.specs.declared.message.Message.{Message}
use Rattle.tam_msgs.specs.declared.message.Message.TheVariants.{Word as Carry, Frame as Begin, Cells as Make, Fetch as Ask_cell, Store as Put_cell}
use Rattle.tam_msgs.specs.declared.item.Item.{Item}
use Rattle.tam_msgs.specs.declared.choice.Choice.{Choice}
use Rattle.tam_msgs.specs.declared.choice.Choice.TheVariants.{Quiet as Choose_quiet, Run as Choose_run, Deliver as Choose_delivery}
use Rattle.tam_msgs.specs.declared.limits.Limits.{Limits}
use Rattle.tam_msgs.specs.Messages.{outside}
use Rattle.tam_msgs.specs.Runs.{End, Next, Ended, choice}
use Rattle.tam_istr.specs.Cells.{Access, Now, Deferred, Stored, Twice, NotBelow, NoArray, fetched_from, stored_into, cells_used}
use Rattle.frame_tables.specs.FrameTables.{Frame, FrameTable, or_frame, frame_at, is_held, is_live, live_count, is_ready, changed_in, next_thread}
use Rattle.frame_tables.specs.FrameTables.{next_number, next_number_of, new_frame, with_new, taken, spent_of, count_in}
use Rattle.tl0_code.specs.declared.inlet.Inlet.{Inlet}
use Rattle.tl0_code.specs.declared.instr.Instr.{Instr}
use Rattle.tl0_code.specs.declared.instr.Instr.TheVariants.{Imm, Mov, Op as Operate, Fork, Switch, Falloc, Send, Ret, Ialloc, Ifetch, Istore, Skip}
use Rattle.tl0_code.specs.ThreadCode.{Program, code_text, thread_at, counts_of, widest_slots, widest_threads}
use Rattle.tl0_code.specs.Machines.{Machine, Giving, slot, branch, Progress, Fine, Broken, spend, spend_of, skip, done, done_all, then_do, owing_less}
use Rattle.tl0_code.specs.Machines.{with_given, all_done, stopped_owing, stopped, done_thread, put, with_message}
use Rattle.tl0_code.specs.ThreadRuns.{run_taken, printed_outside, word_into, with_frame, begin, begin_for, accessed, delivered, delivered_at, text_at}
use Rattle.tl0_code.specs.ThreadRuns.{counted, chosen, step_of}
use Rattle.tl0_keep.proofs.giving.Places.{get-behind, get-behind-cases, changed-here}
use Rattle.tl0_keep.proofs.giving.Instructions.{fine-broken, fine-eq}
use Rattle.tl0_keep.proofs.giving.Counted.{progress-next}
use Rattle.tl0_keep.proofs.giving.LiveLists.{LiveOwe, changed-owe, changed-live, set-owe, set-live, set-changed, set-there, more-live, Keeps, keeps-same}
use Rattle.tl0_keep.proofs.giving.LiveLists.{keeps-on, keeps-changed}
use Rattle.tl0_keep.proofs.owed.Tables.{taken-leaves}

-- of two states of the run
abbrev pub Stays : ℕ → Machine → Machine → Type 0
Stays more k m = Keeps more k.table.frames m.table.frames

-- the same state
stays-as : (k l m : Machine) → l ≡ m → Stays 0 k l → Stays 0 k m
stays-as k l m e s = subst (Stays 0 k) e s

-- ---- threads

put-stays : (k : Machine) (f a w : ℕ) → Stays 0 k (put k f a w)
put-stays k f a w = keeps-changed k.table.frames f (λ h. record h { slots = slice_set h.slots a w }) (λ h. refl)

-- one of an entry count is spent
spent-keeps : (s : FrameTable) (f t n : ℕ) → Keeps 0 s.frames (spent_of s f t n).frames
spent-keeps s f t zero = keeps-same s.frames
spent-keeps s f t (suc zero) = keeps-on 0 s.frames (changed_in s.frames f (λ h. record h { counts = slice_set h.counts t 0 })) _
    (keeps-changed s.frames f (λ h. record h { counts = slice_set h.counts t 0 }) (λ h. refl))
    (keeps-changed (changed_in s.frames f (λ h. record h { counts = slice_set h.counts t 0 })) f (λ h. record h { ready = t ∷ h.ready }) (λ h. refl))
spent-keeps s f t (suc (suc n)) = keeps-changed s.frames f (λ h. record h { counts = slice_set h.counts t (suc n) }) (λ h. refl)

spend-stays : (k m : Machine) (f t : ℕ) (c : Option ℕ) → spend_of k f t c ≡ Fine m → Stays 0 k m
spend-stays k m f t None e = absurd (fine-broken e)
spend-stays k m f t (Some zero) e = absurd (fine-broken e)
spend-stays k m f t (Some (suc n)) e = stays-as k _ m (fine-eq e) (spent-keeps k.table f t (count_in k.table f t))

-- a skip leaves something that is owed
skip-stays : (k m : Machine) (f n : ℕ) → skip k f n ≡ Fine m → Stays 0 k m
skip-stays k m f n e = go (nat_lt n (frame_at k.table f).owed) refl
  where
    go : (t : Bool) → nat_lt n (frame_at k.table f).owed ≡ t → Stays 0 k m
    go true p = stays-as k (owing_less k f n) m (fine-eq (rw (skip, p) at e)) (record {
      owe = λ o. changed-owe k.table.frames f (λ h. record h { owed = h.owed - n })
          (λ h q.
          let l : n < h.owed = subst (λ (x : Option (Option Frame)). n < (or_frame x).owed) q (test-below n (frame_at k.table f).owed p) in
          omega arith) o;
      few = let c = changed-live k.table.frames f (λ h. record h { owed = h.owed - n }) in omega arith;
    })
    go false p = absurd (fine-broken (rw (skip, p) at e))

done-stays : (k m : Machine) (f : ℕ) (i : Instr) → done Giving k f i ≡ Fine m → Stays 0 k m
done-stays k m f (Imm d w) e = stays-as k _ m (fine-eq e) (put-stays k f d w)
done-stays k m f (Mov d a) e = stays-as k _ m (fine-eq e) (put-stays k f d (slot k f a))
done-stays k m f (Operate o d a b) e = stays-as k _ m (fine-eq e) (put-stays k f d _)
done-stays k m f (Fork t) e = spend-stays k m f t _ e
done-stays k m f (Switch s t u) e = spend-stays k m f (branch (slot k f s) t u) _ e
done-stays k m f (Falloc c i) e = stays-as k _ m (fine-eq e) (keeps-same k.table.frames)
done-stays k m f (Send r i a) e = stays-as k _ m (fine-eq e) (keeps-same k.table.frames)
done-stays k m f (Ret n a) e = stays-as k _ m (fine-eq e) (keeps-same k.table.frames)
done-stays k m f (Ialloc n i) e = stays-as k _ m (fine-eq e) (keeps-same k.table.frames)
done-stays k m f (Ifetch r x i n) e = stays-as k _ m (fine-eq e) (keeps-same k.table.frames)
done-stays k m f (Istore r x a n) e = stays-as k _ m (fine-eq e) (keeps-same k.table.frames)
done-stays k m f (Skip n) e = skip-stays k m f n e

all-stays : (is : List Instr) (k m : Machine) (f : ℕ) → done_all Giving k f is ≡ Fine m → Stays 0 k m
all-stays [] k m f e = stays-as k k m (fine-eq e) (keeps-same k.table.frames)
all-stays (i ∷ is) k m f e = go (done Giving k f i) refl e (λ l h. all-stays is l m f h)
  where
    go : (p : Progress) → done Giving k f i ≡ p → then_do p (λ n. done_all Giving n f is) ≡ Fine m
        → ((l : Machine) → done_all Giving l f is ≡ Fine m → Stays 0 l m) → Stays 0 k m
    go (Fine l) q h on = keeps-on 0 k.table.frames l.table.frames m.table.frames (done-stays k l f i q) (on l h)
    go (Broken what n) q h on = absurd (fine-broken h)

-- at the stop the frame is given back, or owes something still
stopped-stays : (k m : Machine) (f : ℕ) → stopped Giving k f ≡ Fine m → Stays 0 k m
stopped-stays k m f e = go ((frame_at k.table f).owed - 1) refl e
  where
    given : (r : List ℕ) → all_done (λ n. with_given n f) (owing_less k f 1) r ≡ Fine m → Stays 0 k m
    given [] h = stays-as k _ m (fine-eq h) (subst (Keeps 0 k.table.frames) (sym (set-changed k.table.frames f (λ h. record h { owed = h.owed - 1 }))) (record {
      owe = set-owe k.table.frames f None (λ k e. absurd (none-some k e));
      few = set-live k.table.frames f None;
    }))
    given (t ∷ ts) h = absurd (fine-broken h)

    go : (left : ℕ) → (frame_at k.table f).owed - 1 ≡ left → stopped_owing (λ n. with_given n f) (owing_less k f 1) f left ≡ Fine m → Stays 0 k m
    go zero z h = given (frame_at (owing_less k f 1).table f).ready h
    go (suc n) z h = stays-as k _ m (fine-eq h) (record {
      owe = λ o. changed-owe k.table.frames f (λ h. record h { owed = h.owed - 1 })
          (λ h q. let l : h.owed - 1 ≡ suc n = subst (λ (x : Option (Option Frame)). (or_frame x).owed - 1 ≡ suc n) q z in omega arith) o;
      few = let c = changed-live k.table.frames f (λ h. record h { owed = h.owed - 1 }) in omega arith;
    })

thread-stays : (is : List Instr) (k m : Machine) (f : ℕ) → done_thread Giving k f is ≡ Fine m → Stays 0 k m
thread-stays is k m f e = go (done_all Giving k f is) refl e
  where
    go : (p : Progress) → done_all Giving k f is ≡ p → then_do p (λ n. stopped Giving n f) ≡ Fine m → Stays 0 k m
    go (Fine l) q h = keeps-on 0 k.table.frames l.table.frames m.table.frames (all-stays is k l f q) (stopped-stays l m f h)
    go (Broken what n) q h = absurd (fine-broken h)

-- ---- a frame begins

-- the new frame stands at its number, or the frames are as before
new-there : (s : FrameTable) (free : List ℕ) (h : Frame) → ((with_new s free h).frames ≡ s.frames)
    ⊎ (slice_get (with_new s free h).frames (next_number_of free (length s.frames)) ≡ Some (Some h))
new-there s [] h = inr (get-behind s.frames (Some h))
new-there s (f ∷ free) h = set-there s.frames f (Some h)

-- it owes something, so each does; one more is live
new-keeps : (s : FrameTable) (free : List ℕ) (h : Frame) → 0 < h.owed → Keeps 1 s.frames (with_new s free h).frames
new-keeps s [] h some = record {
  owe = λ o f k e. elim (get-behind-cases s.frames (Some h) (Some k) f e) [
    | inl q ↦ o f k q
    | inr q ↦ subst (λ (x : Frame). 0 < x.owed) (same_Some h k q.1) some
  ];
  few = let c = more-live s.frames h in omega arith;
}
new-keeps s (f ∷ free) h some = record {
  owe = set-owe s.frames f (Some h) (λ k e. subst (λ (x : Frame). 0 < x.owed) (same_Some h k e) some);
  few = set-live s.frames f (Some h);
}

-- a code whose thread 0 has an entry count has a thread
first-count : (threads n : ℕ) (counts : List ℕ) → slice_get (take threads (counts ++ replicate threads 0)) 0 ≡ Some (suc n) → 0 < length counts
first-count threads n (c ∷ cs) e = omega arith
first-count zero n [] e = absurd (none-some (suc n) e)
first-count (suc k) n [] e = let z = same_Some 0 (suc n) e in absurd (omega arith)

module _ (p : Program) (k : Machine) (c s0 s1 : ℕ) where
  -- the new frame
  abbrev fresh : Frame
  fresh = new_frame (widest_slots p) (widest_threads p) (counts_of (code_text p c))

  -- the table that has it
  abbrev wide : FrameTable
  wide = taken k.table (widest_slots p) (widest_threads p) (counts_of (code_text p c))

  -- the frames with its slots
  with-slots : Keeps 0 wide.frames (with_frame p k c s0 s1).table.frames
  with-slots = keeps-on 0 wide.frames (changed_in wide.frames (next_number k.table) (λ h. record h { slots = slice_set h.slots 0 s0 })) _
      (keeps-changed wide.frames (next_number k.table) (λ h. record h { slots = slice_set h.slots 0 s0 }) (λ h. refl))
      (keeps-changed (changed_in wide.frames (next_number k.table) (λ h. record h { slots = slice_set h.slots 0 s0 })) (next_number k.table)
      (λ h. record h { slots = slice_set h.slots 1 s1 }) (λ h. refl))

  -- where it stands, its counts are those of the code
  its-counts : slice_get wide.frames (next_number k.table) ≡ Some (Some fresh)
      → (frame_at (with_frame p k c s0 s1).table (next_number k.table)).counts ≡ fresh.counts
  its-counts e = ap (λ (x : Option (Option Frame)). (or_frame x).counts)
      (changed-here (changed_in wide.frames (next_number k.table) (λ h. record h { slots = slice_set h.slots 0 s0 })) (next_number k.table)
      (λ h. record h { slots = slice_set h.slots 1 s1 }) _
      (changed-here wide.frames (next_number k.table) (λ h. record h { slots = slice_set h.slots 0 s0 }) fresh e))

  -- where an entry count of thread 0 is left, the frame owes something, or there is none
  begun-keeps : (n : ℕ) → slice_get (frame_at (with_frame p k c s0 s1).table (next_number k.table)).counts 0 ≡ Some (suc n)
      → Keeps 1 k.table.frames (with_frame p k c s0 s1).table.frames
  begun-keeps n e = keeps-on 1 k.table.frames wide.frames (with_frame p k c s0 s1).table.frames (go (new-there k.table k.table.free fresh)) with-slots
    where
      go : (wide.frames ≡ k.table.frames) ⊎ (slice_get wide.frames (next_number k.table) ≡ Some (Some fresh)) → Keeps 1 k.table.frames wide.frames
      go (inl q) = record { owe = λ o. subst LiveOwe (sym q) o; few = let z = ap (count_by is_held) q in omega arith }
      go (inr q) = new-keeps k.table k.table.free fresh
          (first-count (widest_threads p) n (counts_of (code_text p c)) (ap (λ (l : List ℕ). slice_get l 0) (sym (its-counts q)) ∙ e))

  pub begin-stays : (m : Machine) → begin p k c s0 s1 ≡ Fine m → Stays 1 k m
  begin-stays m e = go (slice_get (frame_at (with_frame p k c s0 s1).table (next_number k.table)).counts 0) refl e
    where
      go : (o : Option ℕ) → slice_get (frame_at (with_frame p k c s0 s1).table (next_number k.table)).counts 0 ≡ o
          → spend_of (with_frame p k c s0 s1) (next_number k.table) 0 o ≡ Fine m → Stays 1 k m
      go None q h = absurd (fine-broken h)
      go (Some zero) q h = absurd (fine-broken h)
      go (Some (suc n)) q h = keeps-on 1 k.table.frames (with_frame p k c s0 s1).table.frames m.table.frames (begun-keeps n q)
          (spend-stays (with_frame p k c s0 s1) m (next_number k.table) 0 (Some (suc n)) h)

  -- where none was free, a frame that begins is of a code that has a thread
  pub first-thread : (m : Machine) → k.table.free ≡ [] → begin p k c s0 s1 ≡ Fine m → 0 < length (counts_of (code_text p c))
  first-thread m free e = go (slice_get (frame_at (with_frame p k c s0 s1).table (next_number k.table)).counts 0) refl e
    where
      there : slice_get wide.frames (next_number k.table) ≡ Some (Some fresh)
      there = subst (λ (xs : List ℕ). slice_get (with_new k.table xs fresh).frames (next_number_of xs (length k.table.frames)) ≡ Some (Some fresh)) (sym free)
          (get-behind k.table.frames (Some fresh))

      go : (o : Option ℕ) → slice_get (frame_at (with_frame p k c s0 s1).table (next_number k.table)).counts 0 ≡ o
          → spend_of (with_frame p k c s0 s1) (next_number k.table) 0 o ≡ Fine m → 0 < length (counts_of (code_text p c))
      go None q h = absurd (fine-broken h)
      go (Some zero) q h = absurd (fine-broken h)
      go (Some (suc n)) q h = first-count (widest_threads p) n (counts_of (code_text p c)) (ap (λ (l : List ℕ). slice_get l 0) (sym (its-counts there)) ∙ q)

begin_for-stays : (p : Program) (k m : Machine) (c f i : ℕ) → begin_for p k c f i ≡ Fine m → Stays 1 k m
begin_for-stays p k m c f i e = go (begin p k c f ((i + 1) % 2 ^ 32)) refl e
  where
    go : (q : Progress) → begin p k c f ((i + 1) % 2 ^ 32) ≡ q → then_do q (λ n. Fine (with_message n (Carry f i (next_number k.table)))) ≡ Fine m
        → Stays 1 k m
    go (Fine l) a h = subst (Stays 1 k) (fine-eq h) (begin-stays p k c f ((i + 1) % 2 ^ 32) l a)
    go (Broken what n) a h = absurd (fine-broken h)

-- ---- deliveries

ended-next : {how : End} {k m : Machine} → Ended how k ≡ Next m → ⊥
ended-next e = cc

next-eq : {k m : Machine} → Next k ≡ Next m → k ≡ m
next-eq e = cc

outside-stays : (p : Program) (k m : Machine) (i w : ℕ) → printed_outside p k i w ≡ Next m → Stays 0 k m
outside-stays p k m i w e = go (nat_lt i (code_text p p.main).results) refl (any_of (λ kw. kw.0 == i) k.printed) refl
  where
    go : (t : Bool) → nat_lt i (code_text p p.main).results ≡ t → (s : Bool) → any_of (λ (kw : ℕ × ℕ). kw.0 == i) k.printed ≡ s → Stays 0 k m
    go false a s b = absurd (ended-next (rw (printed_outside, a) at e))
    go true a true b = absurd (ended-next (rw (printed_outside, a, b) at e))
    go true a false b = stays-as k (record k { printed = k.printed ++ (i, w) ∷ [] }) m (next-eq (rw (printed_outside, a, b) at e)) (keeps-same k.table.frames)

word-stays : (k m : Machine) (f i w : ℕ) (x : Option Inlet) → word_into k f i w x ≡ Next m → Stays 0 k m
word-stays k m f i w None e = absurd (ended-next e)
word-stays k m f i w (Some x) e =
    keeps-on 0 k.table.frames (put k f x.slot w).table.frames m.table.frames (put-stays k f x.slot w)
    (spend-stays (put k f x.slot w) m f x.thread _ (progress-next (spend (put k f x.slot w) f x.thread) k m e))

carry-stays : (p : Program) (limits : Limits) (k m : Machine) (f i w : ℕ) → delivered Giving p limits k (Carry f i w) ≡ Next m → Stays 0 k m
carry-stays p limits k m f i w e = go (f == outside) refl (is_live k.table f) refl
  where
    go : (t : Bool) → (f == outside) ≡ t → (s : Bool) → is_live k.table f ≡ s → Stays 0 k m
    go true a s b = outside-stays p k m i w (rw (delivered, a) at e)
    go false a true b = word-stays k m f i w _ (rw (delivered, a, b) at e)
    go false a false b = absurd (ended-next (rw (delivered, a, b) at e))

access-stays : (k m : Machine) (s a i : ℕ) (r : ℕ × ℕ) (w : ℕ) (x : Access) → accessed k s a i r w x ≡ Next m → Stays 0 k m
access-stays k m s a i r w (Now u) e = stays-as k _ m (next-eq e) (keeps-same k.table.frames)
access-stays k m s a i r w (Deferred arrays) e = stays-as k _ m (next-eq e) (keeps-same k.table.frames)
access-stays k m s a i r w (Stored arrays readers) e = stays-as k _ m (next-eq e) (keeps-same k.table.frames)
access-stays k m s a i r w (Twice first) e = absurd (ended-next e)
access-stays k m s a i r w (NotBelow n) e = absurd (ended-next e)
access-stays k m s a i r w NoArray e = absurd (ended-next e)

make-stays : (p : Program) (limits : Limits) (k m : Machine) (n f i : ℕ) → delivered Giving p limits k (Make n f i) ≡ Next m → Stays 0 k m
make-stays p limits k m n f i e = go (nat_lt limits.cells (cells_used k.arrays + n)) refl
  where
    go : (t : Bool) → nat_lt limits.cells (cells_used k.arrays + n) ≡ t → Stays 0 k m
    go true a = absurd (ended-next (rw (delivered, a) at e))
    go false a = stays-as k _ m (next-eq (rw (delivered, a) at e)) (keeps-same k.table.frames)

-- ---- events

-- who is live owes something still, and no more are live than the stated count
pub record GoesOn (limits : Limits) (s u : FrameTable) : Type 0 where
  pub owe : LiveOwe s.frames → LiveOwe u.frames
  pub few : live_count s ≤ limits.frames → live_count u ≤ limits.frames

-- where none begins
goes-staying : (limits : Limits) (k m : Machine) → Stays 0 k m → GoesOn limits k.table m.table
goes-staying limits k m s = record { owe = s.owe; few = λ l. let q = s.few in omega arith }

-- and where one does
goes-begun : (limits : Limits) (k m : Machine) → (live_count k.table == limits.frames) ≡ false → Stays 1 k m → GoesOn limits k.table m.table
goes-begun limits k m d s = record {
  owe = s.owe;
  few = λ l. let q = s.few in let n = number-differs (live_count k.table) limits.frames d in omega arith;
}

delivered-goes : (p : Program) (limits : Limits) (k m : Machine) (x : Message) → delivered Giving p limits k x ≡ Next m → GoesOn limits k.table m.table
delivered-goes p limits k m (Carry f i w) e = goes-staying limits k m (carry-stays p limits k m f i w e)
delivered-goes p limits k m (Begin c f i) e = go (live_count k.table == limits.frames) refl
  where
    go : (t : Bool) → (live_count k.table == limits.frames) ≡ t → GoesOn limits k.table m.table
    go true a = absurd (ended-next (rw (delivered, a) at e))
    go false a = goes-begun limits k m a (begin_for-stays p k m c f i (progress-next (begin_for p k c f i) k m (rw (delivered, a) at e)))
delivered-goes p limits k m (Make n f i) e = goes-staying limits k m (make-stays p limits k m n f i e)
delivered-goes p limits k m (Ask_cell a i f x s) e = goes-staying limits k m (access-stays k m s a i (f, x) 0 (fetched_from k.arrays a i (f, x)) e)
delivered-goes p limits k m (Put_cell a i w s) e = goes-staying limits k m (access-stays k m s a i (0, 0) w (stored_into k.arrays a i w s) e)

at-goes : (p : Program) (limits : Limits) (k m : Machine) (n : ℕ) (x : Option Message) → delivered_at Giving p limits k n x ≡ Next m
    → GoesOn limits k.table m.table
at-goes p limits k m n None e = absurd (ended-next e)
at-goes p limits k m n (Some x) e = delivered-goes p limits (record k { pending = without_place n k.pending }) m x e

taken-stays : (p : Program) (k m : Machine) (x : Option (ℕ × ℕ) × FrameTable) → next_thread k.table ≡ x → run_taken Giving p k x ≡ Next m → Stays 0 k m
taken-stays p k m (None, s) q e = absurd (ended-next e)
taken-stays p k m (Some (f, t), s) q e =
    let l = taken-leaves k.table s f t q in
    keeps-on 0 k.table.frames s.frames m.table.frames
    (subst (Keeps 0 k.table.frames) (sym l.frames) (keeps-changed k.table.frames f (λ h. record h { ready = l.rest }) (λ h. refl)))
    (thread-stays (thread_at (text_at p k f) t).instrs (record k { table = s }) m f
    (progress-next (done_thread Giving (record k { table = s }) f (thread_at (text_at p k f) t).instrs) k m e))

chosen-goes : (p : Program) (limits : Limits) (k m : Machine) (c : Choice × List Item) → chosen Giving p limits k c ≡ Next m → GoesOn limits k.table m.table
chosen-goes p limits k m (Choose_quiet, rest) e = absurd (ended-next e)
chosen-goes p limits k m (Choose_run, rest) e = go (k.events == limits.budget) refl
  where
    go : (t : Bool) → (k.events == limits.budget) ≡ t → GoesOn limits k.table m.table
    go true a = absurd (ended-next (rw (chosen, a) at e))
    go false a = goes-staying limits k m (taken-stays p (counted k rest) m (next_thread k.table) refl (rw (chosen, a) at e))
chosen-goes p limits k m (Choose_delivery n, rest) e = go (k.events == limits.budget) refl
  where
    go : (t : Bool) → (k.events == limits.budget) ≡ t → GoesOn limits k.table m.table
    go true a = absurd (ended-next (rw (chosen, a) at e))
    go false a = at-goes p limits (counted k rest) m n (slice_get k.pending n) (rw (chosen, a) at e)

-- so it is at each event
pub step-goes : (p : Program) (limits : Limits) (k m : Machine) → step_of Giving p limits k ≡ Next m → GoesOn limits k.table m.table
step-goes p limits k m e = chosen-goes p limits k m (choice k.order (is_ready k.table) (length k.pending)) e
