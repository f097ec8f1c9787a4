-- Of any program: an end leaves the frames and the cells that the last event met, and of the messages on their way at most the one that was taken is gone.
use Rattle.std.proofs.Common.{◌≡◌, ℕ, zero, suc, ◌+◌, Bool, true, false, ◌==◌, nat_lt, List, length, Option, Some, None, slice_get}
use Rattle.std.proofs.Common.{flat_map, refl, sym, ◌∙◌, subst, inl, inr}
use Rattle.tam_word.specs.Lists.{any_of, without_place}
use Rattle.tam_word.proofs.Members.{In, in-append, left-in, right-in, in-flat_map, flat_map-in}
use Rattle.tam_msgs.specs.declared.message.Message.{Message}
use Rattle.tam_msgs.specs.declared.message.Message.TheVariants.{Word as Carry, Frame as Begin, Cells as Make, Fetch as Ask_cell, Store as Put_cell}
use Rattle.tam_msgs.specs.declared.item.Item.{Item}
use Rattle.tam_msgs.specs.declared.choice.Choice.{Choice}
use Rattle.tam_msgs.specs.declared.choice.Choice.TheVariants.{Quiet as Choose_quiet, Run as Choose_run, Deliver as Choose_delivery}
use Rattle.tam_msgs.specs.declared.limits.Limits.{Limits}
use Rattle.tam_msgs.specs.Messages.{outside}
use Rattle.tam_msgs.specs.Runs.{End, Outcome, Next, Ended, choice, and_then, after_events}
use Rattle.tam_istr.specs.Cells.{Arrays, Access, Now, Deferred, Stored, Twice, NotBelow, NoArray, fetched_from, stored_into, cells_used}
use Rattle.frame_tables.specs.FrameTables.{FrameTable, is_live, is_ready, next_thread}
use Rattle.tl0_code.specs.declared.inlet.Inlet.{Inlet}
use Rattle.tl0_code.specs.ThreadCode.{Program, code_text, thread_at}
use Rattle.tl0_code.specs.Machines.{Machine, Form, Progress, Fine, Broken, done_thread, put, spend}
use Rattle.tl0_code.specs.ThreadRuns.{as_outcome, run_taken, printed_outside, word_into, begin_for, is_full, accessed, delivered, delivered_at, text_at}
use Rattle.tl0_code.specs.ThreadRuns.{counted, chosen, step_of}
use Rattle.tl0_keep.specs.ThreadNames.{named_in, waiting_at, names_of}
use Rattle.tl0_keep.proofs.code.RisingClasses.{in-without}

-- what an end leaves of the state before the event
pub record IsLeft (b m : Machine) : Type 0 where
  pub table : m.table ≡ b.table
  pub codes : m.codes ≡ b.codes
  pub arrays : m.arrays ≡ b.arrays
  pub pending : (x : Message) → In x m.pending → In x b.pending

-- where an event ends the run
abbrev pub EndsFrom : Machine → Outcome Machine → Type 0
EndsFrom b (Next m) = Unit {0}
EndsFrom b (Ended how m) = IsLeft b m

module _ (b k : Machine) (left : IsLeft b k) where
  ends-progress : (p : Progress) → EndsFrom b (as_outcome p k)
  ends-progress (Fine m) = tt
  ends-progress (Broken what n) = left

  ends-taken : (form : Form) (p : Program) (x : Option (ℕ × ℕ) × FrameTable) → EndsFrom b (run_taken form p k x)
  ends-taken form p (None, s) = left
  ends-taken form p (Some (f, t), s) = ends-progress (done_thread form (record k { table = s }) f (thread_at (text_at p k f) t).instrs)

  ends-outside : (p : Program) (i w : ℕ) → EndsFrom b (printed_outside p k i w)
  ends-outside p i w = go (nat_lt i (code_text p p.main).results) refl (any_of (λ kw. kw.0 == i) k.printed) refl
    where
      go : (t : Bool) → nat_lt i (code_text p p.main).results ≡ t → (s : Bool) → any_of (λ (kw : ℕ × ℕ). kw.0 == i) k.printed ≡ s
          → EndsFrom b (printed_outside p k i w)
      go false a s e = rw (printed_outside, a) left
      go true a true e = rw (printed_outside, a, e) left
      go true a false e = rw (printed_outside, a, e) tt

  ends-word : (f i w : ℕ) (x : Option Inlet) → EndsFrom b (word_into k f i w x)
  ends-word f i w None = left
  ends-word f i w (Some x) = ends-progress (spend (put k f x.slot w) f x.thread)

  ends-access : (s a i : ℕ) (r : ℕ × ℕ) (w : ℕ) (x : Access) → EndsFrom b (accessed k s a i r w x)
  ends-access s a i r w (Now u) = tt
  ends-access s a i r w (Deferred arrays) = tt
  ends-access s a i r w (Stored arrays readers) = tt
  ends-access s a i r w (Twice first) = left
  ends-access s a i r w (NotBelow n) = left
  ends-access s a i r w NoArray = left

  -- a delivery
  ends-delivered : (form : Form) (p : Program) (limits : Limits) (x : Message) → EndsFrom b (delivered form p limits k x)
  ends-delivered form p limits (Carry f i w) = go (f == outside) refl (is_live k.table f) refl
    where
      go : (t : Bool) → (f == outside) ≡ t → (s : Bool) → is_live k.table f ≡ s → EndsFrom b (delivered form p limits k (Carry f i w))
      go true a s e = rw (delivered, a) (ends-outside p i w)
      go false a true e = rw (delivered, a, e) (ends-word f i w (slice_get (text_at p k f).inlets i))
      go false a false e = rw (delivered, a, e) left
  ends-delivered form p limits (Begin c f i) = go (is_full form limits k) refl
    where
      go : (t : Bool) → is_full form limits k ≡ t → EndsFrom b (delivered form p limits k (Begin c f i))
      go true a = rw (delivered, a) left
      go false a = rw (delivered, a) (ends-progress (begin_for p k c f i))
  ends-delivered form p limits (Make n f i) = go (nat_lt limits.cells (cells_used k.arrays + n)) refl
    where
      go : (t : Bool) → nat_lt limits.cells (cells_used k.arrays + n) ≡ t → EndsFrom b (delivered form p limits k (Make n f i))
      go true a = rw (delivered, a) left
      go false a = rw (delivered, a) tt
  ends-delivered form p limits (Ask_cell a i f x s) = ends-access s a i (f, x) 0 (fetched_from k.arrays a i (f, x))
  ends-delivered form p limits (Put_cell a i w s) = ends-access s a i (0, 0) w (stored_into k.arrays a i w s)

module _ (form : Form) (p : Program) (limits : Limits) (k : Machine) where
  -- the same state
  left-same : IsLeft k k
  left-same = record { table = refl; codes = refl; arrays = refl; pending = λ x i. i }

  -- with the event counted
  left-counted : (rest : List Item) → IsLeft k (counted k rest)
  left-counted rest = record { table = refl; codes = refl; arrays = refl; pending = λ x i. i }

  ends-at : (rest : List Item) (n : ℕ) (x : Option Message) → EndsFrom k (delivered_at form p limits (counted k rest) n x)
  ends-at rest n None = left-counted rest
  ends-at rest n (Some x) = ends-delivered k (record (counted k rest) { pending = without_place n k.pending })
      (record { table = refl; codes = refl; arrays = refl; pending = λ y i. in-without n k.pending y i }) form p limits x

  ends-chosen : (c : Choice × List Item) → EndsFrom k (chosen form p limits k c)
  ends-chosen (Choose_quiet, rest) = left-same
  ends-chosen (Choose_run, rest) = go (k.events == limits.budget) refl
    where
      go : (t : Bool) → (k.events == limits.budget) ≡ t → EndsFrom k (chosen form p limits k (Choose_run, rest))
      go true a = rw (chosen, a) left-same
      go false a = rw (chosen, a) (ends-taken k (counted k rest) (left-counted rest) form p (next_thread k.table))
  ends-chosen (Choose_delivery n, rest) = go (k.events == limits.budget) refl
    where
      go : (t : Bool) → (k.events == limits.budget) ≡ t → EndsFrom k (chosen form p limits k (Choose_delivery n, rest))
      go true a = rw (chosen, a) left-same
      go false a = rw (chosen, a) (ends-at rest n (slice_get k.pending n))

  -- so it is where an event ends the run
  pub step-leaves : (how : End) (m : Machine) → step_of form p limits k ≡ Ended how m → IsLeft k m
  step-leaves how m e = subst (EndsFrom k) e (ends-chosen (choice k.order (is_ready k.table) (length k.pending)))

-- whom the end names was named before
pub names-left : (b m : Machine) → IsLeft b m → (f : ℕ) → In f (names_of m) → In f (names_of b)
names-left b m left f i = elim (in-append f (flat_map named_in m.pending) (flat_map (flat_map waiting_at) m.arrays) i) [
  | inl a ↦
      let r = in-flat_map named_in f m.pending a in
      left-in f (flat_map named_in b.pending) (flat_map (flat_map waiting_at) b.arrays)
      (flat_map-in named_in r.0 f b.pending (left.pending r.0 r.1) r.2)
  | inr a ↦ right-in f (flat_map named_in b.pending) (flat_map (flat_map waiting_at) b.arrays)
      (subst (λ (x : Arrays). In f (flat_map (flat_map waiting_at) x)) left.arrays a)
]

-- ---- the last event

-- a run that goes on hasn't ended
next-ended : {m k : Machine} {how : End} → Next m ≡ Ended how k → ⊥
next-ended e = cc

-- a run that ended did so at an event
pub last-event : (f : Machine → Outcome Machine) (n : ℕ) (m : Machine) (how : End) (k : Machine) → after_events f n m ≡ Ended how k
    → (e : ℕ) × ((b : Machine) × ((after_events f e m ≡ Next b) × (f b ≡ Ended how k)))
last-event f zero m how k h = absurd (next-ended h)
last-event f (suc n) m how k h = go (f m) refl (λ u q. last-event f n u how k q)
  where
    go : (o : Outcome Machine) → f m ≡ o
        → ((u : Machine) → after_events f n u ≡ Ended how k → (e : ℕ) × ((b : Machine) × ((after_events f e u ≡ Next b) × (f b ≡ Ended how k))))
        → (e : ℕ) × ((b : Machine) × ((after_events f e m ≡ Next b) × (f b ≡ Ended how k)))
    go (Ended w u) e r = (0, (m, (refl, e ∙ (rw (after_events, e) at h))))
    go (Next u) e r = let q = r u (rw (after_events, e) at h) in (suc q.0, (q.1.0, (rw (after_events, e) q.1.1.0, q.1.1.1)))

-- what each event keeps holds behind any number of them
pub kept-after : (f : Machine → Outcome Machine) (P : Machine → Type 0) → ((k m : Machine) → f k ≡ Next m → P k → P m) → (n : ℕ) (k m : Machine)
    → after_events f n k ≡ Next m → P k → P m
kept-after f P keep zero k m e h = subst P (let z : k ≡ m = cc in z) h
kept-after f P keep (suc n) k m e h = go (f k) refl e (λ d q. kept-after f P keep n d m q)
  where
    go : (o : Outcome Machine) → f k ≡ o → and_then o (after_events f n) ≡ Next m → ((d : Machine) → after_events f n d ≡ Next m → P d → P m) → P m
    go (Ended how d) q r on = absurd (next-ended (sym r))
    go (Next d) q r on = on d r (keep k d q h)
