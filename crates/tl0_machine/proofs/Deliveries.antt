-- What comes of the delivery of a message, by its kind.
use Rattle.std.proofs.Common.{◌≡◌, ◌≢◌, ◌∙◌, ℕ, zero, suc, ◌+◌, ◌%◌, ◌^◌, ◌≤◌, ◌==◌, Bool, true, false, List, [], ◌∷◌, ◌++◌, length, take, replicate}
use Rattle.std.proofs.Common.{Option, Some, None, refl, sym, ap, subst}
use Rattle.std.specs.Prelude.{slice_get, slice_set}
use Rattle.tam_word.specs.Lists.{any_of}
use Rattle.tam_word.proofs.Each.{get-last, get-past}
use Rattle.tam_word.proofs.Tests.{number-eq, number-differs, differs-number}
use Rattle.tam_msgs.specs.Messages.{outside}
use Rattle.tam_msgs.specs.declared.item.Item.{Item}
use Rattle.tam_msgs.specs.declared.limits.Limits.{Limits}
use Rattle.tam_msgs.specs.declared.message.Message.TheVariants.{Word as Carry, Frame as Begin}
use Rattle.tam_msgs.specs.Runs.{Ended, Wild, Wild_thread}
use Rattle.frame_tables.specs.FrameTables.{Frame, FrameTable, or_frame, frame_at, is_live, live_count, new_frame, changed_in, with_new, next_number_of}
use Rattle.frame_tables.specs.FrameTables.{next_number, with_slot, taken}
use Rattle.tl0_code.specs.ThreadCode.{Program, code_text, counts_of, widest_slots, widest_threads}
use Rattle.tl0_code.specs.Machines.{Machine, Giving, Broken, spend_of}
use Rattle.tl0_code.specs.ThreadRuns.{delivered, text_at, word_into, with_frame, begin, begin_for}
use Rattle.tl0_machine.specs.declared.thread_state.ThreadState.{ThreadState}
use Rattle.tl0_machine.specs.ThreadStates.{beside_of, machine_of, AreMarked, is_printed}
use Rattle.tl0_machine.specs.ThreadEvents.{told_of}
use Rattle.tl0_machine.proofs.Keeping.{Beside}

-- what a thread leaves as it was is told alike
pub told-beside : (old new : ThreadState) (order : List Item) (printed : List (ℕ × ℕ)) → beside_of new ≡ beside_of old
    → told_of (machine_of old order printed) ≡ told_of (machine_of new order printed)
told-beside old new order printed same = ap (λ (b : Beside). (printed, b.5, b.2, b.3, order)) (sym same)

-- ---- results

-- what was set at a place stands there
set-same : (marks : List Bool) (k : ℕ) (b c : Bool) → slice_get (slice_set marks k b) k ≡ Some c → b ≡ c
set-same [] k b c there = absurd cc
set-same (m ∷ marks) zero b c there = cc
set-same (m ∷ marks) (suc k) b c there = set-same marks k b c there

-- at other places stands what stood there
set-other : (marks : List Bool) (k j : ℕ) (b : Bool) → k ≢ j → slice_get (slice_set marks k b) j ≡ slice_get marks j
set-other [] k j b differ = refl
set-other (m ∷ marks) zero zero b differ = absurd (differ refl)
set-other (m ∷ marks) zero (suc j) b differ = refl
set-other (m ∷ marks) (suc k) zero b differ = refl
set-other (m ∷ marks) (suc k) (suc j) b differ = set-other marks k j b (λ same. differ (ap suc same))

-- a result that is printed last is printed
printed-last : (printed : List (ℕ × ℕ)) (k w : ℕ) → is_printed (printed ++ (k, w) ∷ []) k ≡ true
printed-last [] k w = go (k == k) refl
  where
    go : (b : Bool) → (k == k) ≡ b → is_printed ((k, w) ∷ []) k ≡ true
    go true e = rw (any_of, e) refl
    go false e = absurd (number-differs k k e refl)
printed-last (kw ∷ printed) k w = go (kw.0 == k) refl (printed-last printed k w)
  where
    go : (b : Bool) → (kw.0 == k) ≡ b → is_printed (printed ++ (k, w) ∷ []) k ≡ true → is_printed (kw ∷ (printed ++ (k, w) ∷ [])) k ≡ true
    go true e i = rw (any_of, e) refl
    go false e i = rw (any_of, e) i

-- any other is printed where it was before
printed-beside : (printed : List (ℕ × ℕ)) (k j w : ℕ) → (k == j) ≡ false → is_printed (printed ++ (k, w) ∷ []) j ≡ is_printed printed j
printed-beside [] k j w differ = rw (any_of, differ) refl
printed-beside (kw ∷ printed) k j w differ = go (kw.0 == j) refl (printed-beside printed k j w differ)
  where
    go : (b : Bool) → (kw.0 == j) ≡ b → is_printed (printed ++ (k, w) ∷ []) j ≡ is_printed printed j
        → is_printed (kw ∷ (printed ++ (k, w) ∷ [])) j ≡ is_printed (kw ∷ printed) j
    go true e i = rw (any_of, any_of, e) refl
    go false e i = rw (any_of, any_of, e) i

-- a result that is printed and marked
pub mark-printed : (marks : List Bool) (printed : List (ℕ × ℕ)) (k w : ℕ) → AreMarked marks printed
    → AreMarked (slice_set marks k true) (printed ++ (k, w) ∷ [])
mark-printed marks printed k w are j b there = go (k == j) refl
  where
    go : (t : Bool) → (k == j) ≡ t → is_printed (printed ++ (k, w) ∷ []) j ≡ b
    go true e =
        let same : k ≡ j = number-eq k j e in
        subst (λ (n : ℕ). is_printed (printed ++ (k, w) ∷ []) n ≡ b) same
        (printed-last printed k w
        ∙ set-same marks k true b (subst (λ (n : ℕ). slice_get (slice_set marks k true) n ≡ Some b) (sym same) there))
    go false e = printed-beside printed k j w e ∙ are j b (sym (set-other marks k j true (number-differs k j e)) ∙ there)

-- ---- words

-- a word for a live frame
pub word-inside : (p : Program) (limits : Limits) (m : Machine) (f i w : ℕ) → f ≢ outside → is_live m.table f ≡ true
    → delivered Giving p limits m (Carry f i w) ≡ word_into m f i w (slice_get (text_at p m f).inlets i)
word-inside p limits m f i w differ live = rw (delivered, differs-number f outside differ, live) refl

-- ---- a wish for a frame of a code that isn't there

-- counts are the same where a slot gets a word, whether the frame is live or not
counts-slot : (frames : List (Option Frame)) (f a w : ℕ)
    → (or_frame (slice_get (changed_in frames f (λ h. record h { slots = slice_set h.slots a w })) f)).counts ≡ (or_frame (slice_get frames f)).counts
counts-slot [] f a w = refl
counts-slot (None ∷ frames) zero a w = refl
counts-slot (Some h ∷ frames) zero a w = refl
counts-slot (None ∷ frames) (suc f) a w = counts-slot frames f a w
counts-slot (Some h ∷ frames) (suc f) a w = counts-slot frames f a w

-- one that waits for nothing
abbrev Spent : List ℕ → Type 0
Spent counts = (m : Machine) (f : ℕ) → spend_of m f 0 (slice_get counts 0) ≡ Broken Wild_thread 0

-- the counts of a frame that is set
spent-set : (frames : List (Option Frame)) (f : ℕ) (h : Frame) → Spent h.counts → Spent (or_frame (slice_get (slice_set frames f (Some h)) f)).counts
spent-set [] f h spent = λ m g. refl
spent-set (g ∷ frames) zero h spent = spent
spent-set (g ∷ frames) (suc f) h spent = spent-set frames f h spent

-- and of one that is taken
spent-new : (s : FrameTable) (h : Frame) (free : List ℕ) → Spent h.counts
    → Spent (frame_at (with_new s free h) (next_number_of free (length s.frames))).counts
spent-new s h [] spent = subst (λ (o : Option (Option Frame)). Spent (or_frame o).counts) (sym (get-last s.frames (Some h))) spent
spent-new s h (f ∷ free) spent = spent-set s.frames f h spent

-- counts that are 0
spent-none : (threads : ℕ) → Spent (take threads (replicate threads 0))
spent-none zero m f = refl
spent-none (suc threads) m f = refl

-- a code that isn't there
no-code : (p : Program) (c : ℕ) → length p.codes ≤ c → counts_of (code_text p c) ≡ []
no-code p c beyond = rw (code_text, get-past p.codes c beyond) refl

-- a wish for its frame is wild
begin-absent : (p : Program) (m : Machine) (c s0 s1 : ℕ) → length p.codes ≤ c → begin p m c s0 s1 ≡ Broken Wild_thread 0
begin-absent p m c s0 s1 beyond =
    let f : ℕ = next_number m.table in
    let fresh : Frame = new_frame (widest_slots p) (widest_threads p) (counts_of (code_text p c)) in
    let t : FrameTable = taken m.table (widest_slots p) (widest_threads p) (counts_of (code_text p c)) in
    let none : Spent fresh.counts =
    subst (λ (counts : List ℕ). Spent (take (widest_threads p) (counts ++ replicate (widest_threads p) 0))) (sym (no-code p c beyond))
    (spent-none (widest_threads p)) in
    subst (λ (counts : List ℕ). spend_of (with_frame p m c s0 s1) f 0 (slice_get counts 0) ≡ Broken Wild_thread 0)
    (sym (counts-slot (with_slot t f 0 s0).frames f 1 s1 ∙ counts-slot t.frames f 0 s0))
    (spent-new m.table fresh m.table.free none (with_frame p m c s0 s1) f)

-- and so is its delivery
pub frame-absent : (p : Program) (limits : Limits) (m : Machine) (c f i : ℕ) → live_count m.table ≢ limits.frames → length p.codes ≤ c
    → delivered Giving p limits m (Begin c f i) ≡ Ended (Wild Wild_thread 0) m
frame-absent p limits m c f i room beyond =
    rw (delivered, differs-number (live_count m.table) limits.frames room, begin_for, begin-absent p m c f ((i + 1) % 2 ^ 32) beyond) refl
