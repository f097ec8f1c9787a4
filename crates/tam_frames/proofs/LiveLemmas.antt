-- Which frames are live and which are busy, behind each step on a table.
use Rattle.std.proofs.Common.{◌≡◌, ◌≢◌, ◌∙◌, sym, ap, refl, ℕ, zero, suc, Bool, not, true, false, true≢false, List, [], ◌∷◌, ◌++◌, length, Option, Some, None}
use Rattle.std.proofs.Common.{inl, inr}
use Rattle.std.specs.Prelude.{slice_get, slice_set}
use Rattle.std.proofs.lemmas.Bool.{cases_eq}
use Rattle.frame_tables.specs.FrameTables.{Frame, FrameTable, or_frame, is_some_frame, is_live, frame_at, changed_in, changed, spent_of}
use Rattle.frame_tables.specs.FrameTables.{with_new, next_number, next_number_of}
use Rattle.tam_frames.specs.HeldFrames.{wakes_of}
use Rattle.tam_frames.specs.StoredFrames.{has_any, is_busy}
use Rattle.tam_frames.proofs.TableLemmas.{get-set_other, get-push, live-there}

-- whether a thread of the frame at a number is ready
abbrev busy_in : List (Option Frame) → ℕ → Bool
busy_in frames g = has_any (or_frame (slice_get frames g)).ready

-- a frame is changed: the same are live
live-changed_in : (frames : List (Option Frame)) (f g : ℕ) (change : Frame → Frame)
    → is_some_frame (slice_get (changed_in frames f change) g) ≡ is_some_frame (slice_get frames g)
live-changed_in [] f g change = refl
live-changed_in (None ∷ frames) zero g change = refl
live-changed_in (Some h ∷ frames) zero zero change = refl
live-changed_in (Some h ∷ frames) zero (suc g) change = refl
live-changed_in (None ∷ frames) (suc f) zero change = refl
live-changed_in (Some h ∷ frames) (suc f) zero change = refl
live-changed_in (None ∷ frames) (suc f) (suc g) change = live-changed_in frames f g change
live-changed_in (Some h ∷ frames) (suc f) (suc g) change = live-changed_in frames f g change

-- the others are as before
beside-changed_in : (frames : List (Option Frame)) (f g : ℕ) (change : Frame → Frame) → g ≢ f
    → slice_get (changed_in frames f change) g ≡ slice_get frames g
beside-changed_in [] f g change differ = refl
beside-changed_in (None ∷ frames) zero g change differ = refl
beside-changed_in (Some h ∷ frames) zero zero change differ = absurd (differ refl)
beside-changed_in (Some h ∷ frames) zero (suc g) change differ = refl
beside-changed_in (None ∷ frames) (suc f) zero change differ = refl
beside-changed_in (Some h ∷ frames) (suc f) zero change differ = refl
beside-changed_in (None ∷ frames) (suc f) (suc g) change differ = beside-changed_in frames f g change (λ same. differ (ap suc same))
beside-changed_in (Some h ∷ frames) (suc f) (suc g) change differ = beside-changed_in frames f g change (λ same. differ (ap suc same))

-- where the change leaves whether a thread is ready, the same are busy
busy-changed_in : (frames : List (Option Frame)) (f g : ℕ) (change : Frame → Frame) → ((h : Frame) → has_any (change h).ready ≡ has_any h.ready)
    → busy_in (changed_in frames f change) g ≡ busy_in frames g
busy-changed_in [] f g change keeps = refl
busy-changed_in (None ∷ frames) zero g change keeps = refl
busy-changed_in (Some h ∷ frames) zero zero change keeps = keeps h
busy-changed_in (Some h ∷ frames) zero (suc g) change keeps = refl
busy-changed_in (None ∷ frames) (suc f) zero change keeps = refl
busy-changed_in (Some h ∷ frames) (suc f) zero change keeps = refl
busy-changed_in (None ∷ frames) (suc f) (suc g) change keeps = busy-changed_in frames f g change keeps
busy-changed_in (Some h ∷ frames) (suc f) (suc g) change keeps = busy-changed_in frames f g change keeps

-- a live frame of which a thread is made ready is busy
busy-ready_in : (frames : List (Option Frame)) (f : ℕ) (change : Frame → Frame) → ((h : Frame) → has_any (change h).ready ≡ true)
    → is_some_frame (slice_get frames f) ≡ true → busy_in (changed_in frames f change) f ≡ true
busy-ready_in [] f change ready live = cc
busy-ready_in (None ∷ frames) zero change ready live = cc
busy-ready_in (Some h ∷ frames) zero change ready live = ready h
busy-ready_in (None ∷ frames) (suc f) change ready live = busy-ready_in frames f change ready live
busy-ready_in (Some h ∷ frames) (suc f) change ready live = busy-ready_in frames f change ready live

-- a frame without a ready thread is put where none was, or at the end: the same are busy
busy-put_in : (frames : List (Option Frame)) (f g : ℕ) (x : Option Frame) → has_any (or_frame (Some x)).ready ≡ false → busy_in frames f ≡ false
    → busy_in (slice_set frames f x) g ≡ busy_in frames g
busy-put_in [] f g x idle none = refl
busy-put_in (y ∷ frames) zero zero x idle none = idle ∙ sym none
busy-put_in (y ∷ frames) zero (suc g) x idle none = refl
busy-put_in (y ∷ frames) (suc f) zero x idle none = refl
busy-put_in (y ∷ frames) (suc f) (suc g) x idle none = busy-put_in frames f g x idle none

busy-push_in : (frames : List (Option Frame)) (g : ℕ) (h : Frame) → has_any h.ready ≡ false → busy_in (frames ++ Some h ∷ []) g ≡ busy_in frames g
busy-push_in [] zero h idle = idle
busy-push_in [] (suc g) h idle = refl
busy-push_in (y ∷ frames) zero h idle = refl
busy-push_in (y ∷ frames) (suc g) h idle = busy-push_in frames g h idle

-- where no frame stands, none is busy
idle-free : (frames : List (Option Frame)) (f : ℕ) → is_some_frame (slice_get frames f) ≡ false → busy_in frames f ≡ false
idle-free frames f free = go (slice_get frames f) free
  where
    go : (o : Option (Option Frame)) → is_some_frame o ≡ false → has_any (or_frame o).ready ≡ false
    go None free = refl
    go (Some None) free = refl
    go (Some (Some h)) free = cc

module _ (s : FrameTable) (f g : ℕ) where
  -- a frame is changed: the same are live
  pub live-changed : (change : Frame → Frame) → is_live (changed s f change) g ≡ is_live s g
  live-changed change = live-changed_in s.frames f g change

  -- another frame is as busy as before
  pub busy-beside : (change : Frame → Frame) → g ≢ f → is_busy (changed s f change) g ≡ is_busy s g
  busy-beside change differ = ap (λ (o : Option (Option Frame)). has_any (or_frame o).ready) (beside-changed_in s.frames f g change differ)

  -- so is each where the change leaves whether a thread is ready
  pub busy-changed : (change : Frame → Frame) → ((h : Frame) → has_any (change h).ready ≡ has_any h.ready) → is_busy (changed s f change) g ≡ is_busy s g
  busy-changed change keeps = busy-changed_in s.frames f g change keeps

  -- one of an entry count is spent: the same are live
  pub live-spent : (t n : ℕ) → is_live (spent_of s f t n) g ≡ is_live s g
  live-spent t zero = refl
  live-spent t (suc zero) =
      live-changed_in (changed_in s.frames f (λ h. record h { counts = slice_set h.counts t 0 })) f g (λ h. record h { ready = t ∷ h.ready })
      ∙ live-changed_in s.frames f g (λ h. record h { counts = slice_set h.counts t 0 })
  live-spent t (suc (suc n)) = live-changed (λ h. record h { counts = slice_set h.counts t (suc n) })

  -- another frame is as busy as before
  pub busy-spent_beside : (t n : ℕ) → g ≢ f → is_busy (spent_of s f t n) g ≡ is_busy s g
  busy-spent_beside t zero differ = refl
  busy-spent_beside t (suc zero) differ =
      let none_left : Frame → Frame = λ h. record h { counts = slice_set h.counts t 0 } in
      ap (λ (o : Option (Option Frame)). has_any (or_frame o).ready)
      (beside-changed_in (changed_in s.frames f none_left) f g (λ h. record h { ready = t ∷ h.ready }) differ
      ∙ beside-changed_in s.frames f g none_left differ)
  busy-spent_beside t (suc (suc n)) differ = busy-beside (λ h. record h { counts = slice_set h.counts t (suc n) }) differ

-- a live frame of which a thread was made ready is busy
busy-enabled : (s : FrameTable) (f t : ℕ) → is_live s f ≡ true → is_busy (spent_of s f t 1) f ≡ true
busy-enabled s f t live =
    let none_left : Frame → Frame = λ h. record h { counts = slice_set h.counts t 0 } in
    busy-ready_in (changed_in s.frames f none_left) f (λ h. record h { ready = t ∷ h.ready }) (λ h. refl) (live-changed_in s.frames f f none_left ∙ live)

-- a frame that is woken is busy then
pub busy-woken : (s : FrameTable) (f t n : ℕ) → is_live s f ≡ true → wakes_of (frame_at s f) n ≡ true → is_busy (spent_of s f t n) f ≡ true
busy-woken s f t zero live woken = cc
busy-woken s f t (suc zero) live woken = busy-enabled s f t live
busy-woken s f t (suc (suc n)) live woken = cc

-- and it wasn't before
pub idle-woken : (h : Frame) (n : ℕ) → wakes_of h n ≡ true → has_any h.ready ≡ false
idle-woken h zero woken = cc
idle-woken h (suc zero) woken = not-true (has_any h.ready) woken
  where
    not-true : (b : Bool) → not b ≡ true → b ≡ false
    not-true true is = cc
    not-true false is = refl
idle-woken h (suc (suc n)) woken = cc

-- where no frame is woken, the same are busy
pub busy-spent : (s : FrameTable) (f g t n : ℕ) → is_live s f ≡ true → wakes_of (frame_at s f) n ≡ false → is_busy (spent_of s f t n) g ≡ is_busy s g
busy-spent s f g t zero live quiet = refl
busy-spent s f g t (suc zero) live quiet = elim (cases_eq g f) [
  | inl same ↦ ap (λ (k : ℕ). is_busy (spent_of s f t 1) k) same ∙ busy-enabled s f t live ∙ sym (not-false (is_busy s f) quiet)
      ∙ ap (λ (k : ℕ). is_busy s k) (sym same)
  | inr differ ↦ busy-spent_beside s f g t 1 differ
]
  where
    not-false : (b : Bool) → not b ≡ false → b ≡ true
    not-false true is = refl
    not-false false is = cc
busy-spent s f g t (suc (suc n)) live quiet = busy-changed s f g (λ h. record h { counts = slice_set h.counts t (suc n) }) (λ h. refl)

module _ (s : FrameTable) (h : Frame) (g : ℕ) (fresh : is_live s (next_number s) ≡ false) where
  -- a frame is taken for a number that isn't live: what stands at the number of a live one
  there-new : (free : List ℕ) → is_live s (next_number_of free (length s.frames)) ≡ false → is_live s g ≡ true
      → slice_get (with_new s free h).frames g ≡ slice_get s.frames g
  there-new [] none live =
      get-push s.frames g (Some h) (Some (frame_at s g)) (live-there s g live) ∙ sym (live-there s g live)
  there-new (f ∷ free) none live =
      get-set_other s.frames f g (Some h) (λ same. true≢false (sym live ∙ ap (λ (k : ℕ). is_live s k) same ∙ none))

  -- a live frame stays live
  pub live-new : is_live s g ≡ true → is_live (with_new s s.free h) g ≡ true
  live-new live = ap is_some_frame (there-new s.free fresh live) ∙ live

  -- the same are busy where no thread of the new one is ready
  pub busy-new : has_any h.ready ≡ false → is_busy (with_new s s.free h) g ≡ is_busy s g
  busy-new idle = go s.free fresh
    where
      go : (free : List ℕ) → is_live s (next_number_of free (length s.frames)) ≡ false → is_busy (with_new s free h) g ≡ is_busy s g
      go [] none = busy-push_in s.frames g h idle
      go (f ∷ free) none = busy-put_in s.frames f g (Some h) idle (idle-free s.frames f none)
