-- What is kept of turns, behind each step.
use Rattle.std.proofs.Common.{◌≡◌, ◌∙◌, sym, ap, subst, refl, ℕ, true, false, true≢false, List, [], ◌∷◌, ◌++◌, Option}
use Rattle.std.proofs.Common.{◌⊎◌, inl, inr}
use Rattle.std.proofs.lemmas.Bool.{cases_eq}
use Rattle.frame_tables.specs.FrameTables.{Frame, FrameTable, is_live, frame_at, changed, spent, count_in}
use Rattle.frame_tables.specs.FrameTables.{with_new, new_frame, taken, is_current, is_queued, next_number}
use Rattle.tam_frames.specs.HeldFrames.{wakes}
use Rattle.tam_frames.specs.StoredFrames.{has_any, is_busy}
use Rattle.tam_frames.specs.Kept.{AreInTurn, IsDistinctQueue}
use Rattle.tam_frames.proofs.QueueLemmas.{queued-joined, queued-beside, distinct-joined}
use Rattle.tam_frames.proofs.LiveLemmas.{live-changed, busy-beside, busy-changed, live-spent, busy-spent, busy-spent_beside, busy-woken, idle-woken}
use Rattle.tam_frames.proofs.LiveLemmas.{live-new, busy-new}

-- other frames, of which the live ones stay live and the same are busy
pub turns-kept : {s : FrameTable} → AreInTurn s → (t : FrameTable) → t.queue ≡ s.queue → t.current ≡ s.current
    → ((g : ℕ) → is_live s g ≡ true → is_live t g ≡ true) → ((g : ℕ) → is_current s.current g ≡ false → is_busy t g ≡ is_busy s g) → AreInTurn t
turns-kept {s} old t queue_is current_is live busy = record {
  live = λ g is. live g (old.live g (ap (λ (o : Option ℕ). is_current o g) (sym current_is) ∙ is));
  apart = λ g is. ap (λ (l : List ℕ). is_queued l g) queue_is ∙ old.apart g (ap (λ (o : Option ℕ). is_current o g) (sym current_is) ∙ is);
  waits = λ g is.
      let other : is_current s.current g ≡ false = ap (λ (o : Option ℕ). is_current o g) (sym current_is) ∙ is in
      ap (λ (l : List ℕ). is_queued l g) queue_is ∙ old.waits g other ∙ sym (busy g other);
  distinct = subst IsDistinctQueue (sym queue_is) old.distinct;
}

module _ {s : FrameTable} (old : AreInTurn s) (f : ℕ) where
  -- a frame is changed and stays as busy as it is
  pub turns-changed : (change : Frame → Frame) → ((h : Frame) → has_any (change h).ready ≡ has_any h.ready) → AreInTurn (changed s f change)
  turns-changed change keeps =
      turns-kept old (changed s f change) refl refl (λ g is. live-changed s f g change ∙ is) (λ g other. busy-changed s f g change keeps)

  -- the current frame is changed
  pub turns-current : is_current s.current f ≡ true → (change : Frame → Frame) → AreInTurn (changed s f change)
  turns-current is change =
      turns-kept old (changed s f change) refl refl (λ g live. live-changed s f g change ∙ live)
      (λ g other. busy-beside s f g change (λ same. true≢false (sym is ∙ ap (λ (k : ℕ). is_current s.current k) (sym same) ∙ other)))

  module _ (t : ℕ) (live : is_live s f ≡ true) where
    -- the frames where one of an entry count is spent
    abbrev frames_spent : List (Option Frame)
    frames_spent = (spent s f t).frames

    -- the current frame waits for nothing more, nor does one that had a ready thread or gets none
    pub turns-spent : (is_current s.current f ≡ true) ⊎ (wakes (frame_at s f) t ≡ false) → AreInTurn (record s { frames = frames_spent })
    turns-spent (inl is) =
        turns-kept old (record s { frames = frames_spent }) refl refl (λ g is. live-spent s f g t (count_in s f t) ∙ is)
        (λ g other. busy-spent_beside s f g t (count_in s f t)
        (λ same. true≢false (sym is ∙ ap (λ (k : ℕ). is_current s.current k) (sym same) ∙ other)))
    turns-spent (inr quiet) =
        turns-kept old (record s { frames = frames_spent }) refl refl (λ g is. live-spent s f g t (count_in s f t) ∙ is)
        (λ g other. busy-spent s f g t (count_in s f t) live quiet)

    -- another frame that gets its first ready thread waits
    pub turns-woken : is_current s.current f ≡ false → wakes (frame_at s f) t ≡ true
        → AreInTurn (record s { frames = frames_spent; queue = s.queue ++ f ∷ [] })
    turns-woken other woken = record {
      live = λ g is. live-spent s f g t (count_in s f t) ∙ old.live g is;
      apart = λ g is. queued-beside s.queue f g (λ same. true≢false (sym is ∙ ap (λ (k : ℕ). is_current s.current k) (sym same) ∙ other)) ∙ old.apart g is;
      waits = λ g is. elim (cases_eq g f) [
        | inl same ↦ ap (λ (k : ℕ). is_queued (s.queue ++ f ∷ []) k) same ∙ queued-joined s.queue f
            ∙ sym (busy-woken s f t (count_in s f t) live woken) ∙ ap (λ (k : ℕ). is_busy (record s { frames = frames_spent }) k) (sym same)
        | inr differ ↦ queued-beside s.queue f g (λ same. differ (sym same)) ∙ old.waits g is
            ∙ sym (busy-spent_beside s f g t (count_in s f t) differ)
      ];
      distinct = distinct-joined s.queue f (old.waits f other ∙ idle-woken (frame_at s f) (count_in s f t) woken) old.distinct;
    }

-- a frame is taken
pub turns-taken : {s : FrameTable} → AreInTurn s → (slots threads : ℕ) (counts : List ℕ) → is_live s (next_number s) ≡ false
    → AreInTurn (taken s slots threads counts)
turns-taken {s} old slots threads counts fresh =
    let h : Frame = new_frame slots threads counts in
    turns-kept old (with_new s s.free h) (queue-same s.free) (current-same s.free) (λ g is. live-new s h g fresh is) (λ g other. busy-new s h g fresh refl)
  where
    queue-same : (free : List ℕ) → (with_new s free (new_frame slots threads counts)).queue ≡ s.queue
    queue-same [] = refl
    queue-same (f ∷ free) = refl

    current-same : (free : List ℕ) → (with_new s free (new_frame slots threads counts)).current ≡ s.current
    current-same [] = refl
    current-same (f ∷ free) = refl
