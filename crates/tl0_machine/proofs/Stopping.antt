-- What the stop of a thread leaves, by what its frame owes behind it and by whether a thread of it is ready.
use Rattle.std.proofs.Common.{◌≡◌, ◌∙◌, ℕ, zero, suc, ◌-◌, true, false, List, [], ◌∷◌, Option, Some, None, refl, ap}
use Rattle.std.specs.Prelude.{slice_get}
use Rattle.tam_msgs.specs.Runs.{Wild_skip}
use Rattle.frame_tables.specs.FrameTables.{Frame, FrameTable, or_frame, is_some_frame, is_live, frame_at, changed_in, changed, lowered}
use Rattle.tam_frames.specs.StoredFrames.{StoredFrames, with_table, has_any, is_busy}
use Rattle.tam_frames.proofs.LiveLemmas.{live-changed}
use Rattle.tl0_code.specs.Machines.{Machine, Giving, Fine, Broken, at_rest, with_given, owing_less, stopped, all_done}

-- a frame that is there is changed
frame-changed_in : (frames : List (Option Frame)) (f : ℕ) (change : Frame → Frame) → is_some_frame (slice_get frames f) ≡ true
    → or_frame (slice_get (changed_in frames f change) f) ≡ change (or_frame (slice_get frames f))
frame-changed_in [] f change there = absurd cc
frame-changed_in (None ∷ frames) zero change there = absurd cc
frame-changed_in (Some h ∷ frames) zero change there = refl
frame-changed_in (None ∷ frames) (suc f) change there = frame-changed_in frames f change there
frame-changed_in (Some h ∷ frames) (suc f) change there = frame-changed_in frames f change there

-- a live frame is changed
pub frame-changed : (s : FrameTable) (f : ℕ) (change : Frame → Frame) → is_live s f ≡ true → frame_at (changed s f change) f ≡ change (frame_at s f)
frame-changed s f change live = frame-changed_in s.frames f change live

-- a live frame owes less
pub owed-lowered : (s : FrameTable) (f n : ℕ) → is_live s f ≡ true → (frame_at (lowered s f n) f).owed ≡ (frame_at s f).owed - n
owed-lowered s f n live = ap (λ (h : Frame). h.owed) (frame-changed s f (λ h. record h { owed = h.owed - n }) live)

-- where a frame was changed, the same are live
pub still-live : (s new : StoredFrames) (f g : ℕ) (change : Frame → Frame) → new ≡ with_table s (changed s.table f change) → is_live s.table g ≡ true
    → is_live new.table g ≡ true
still-live s new f g change is live = ap (λ (v : StoredFrames). is_live v.table g) is ∙ (live-changed s.table f g change ∙ live)

module _ (m : Machine) (f : ℕ) where
  -- the frame owes more
  pub stopped-owes : (n : ℕ) → (frame_at m.table f).owed - 1 ≡ suc n → stopped Giving m f ≡ Fine (at_rest (owing_less m f 1))
  stopped-owes n owes = rw owes refl

  module _ (owes : (frame_at m.table f).owed - 1 ≡ 0) where
    -- it owes nothing more and is given back
    pub stopped-gives : is_busy (lowered m.table f 1) f ≡ false → stopped Giving m f ≡ Fine (with_given (owing_less m f 1) f)
    stopped-gives idle = rw owes (go (frame_at (lowered m.table f 1) f).ready idle)
      where
        go : (ready : List ℕ) → has_any ready ≡ false → all_done (λ n. with_given n f) (owing_less m f 1) ready ≡ Fine (with_given (owing_less m f 1) f)
        go [] idle = refl
        go (t ∷ ts) idle = absurd cc

    -- it owes nothing more, but a thread of it is ready
    pub stopped-wild : is_busy (lowered m.table f 1) f ≡ true → stopped Giving m f ≡ Broken Wild_skip 0
    stopped-wild busy = rw owes (go (frame_at (lowered m.table f 1) f).ready busy)
      where
        go : (ready : List ℕ) → has_any ready ≡ true → all_done (λ n. with_given n f) (owing_less m f 1) ready ≡ Broken Wild_skip 0
        go [] busy = absurd cc
        go (t ∷ ts) busy = refl
