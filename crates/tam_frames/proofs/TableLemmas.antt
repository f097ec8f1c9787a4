-- What stands at a number of a list and of a table, and what a change of one frame leaves.
use Rattle.std.proofs.Common.{◌≡◌, ◌≢◌, ◌∙◌, sym, ap, refl, ℕ, zero, suc, ◌+◌, true, cond, List, [], ◌∷◌, ◌++◌, get_or, length, Option, Some, None}
use Rattle.std.specs.Prelude.{slice_get, slice_set, ◌⊎◌, count_by}
use Rattle.std.proofs.Common.{inl, inr}
use Rattle.std.proofs.lemmas.Option.{slice_get_within, get_or_from_slice_get}
use Rattle.std.proofs.lemmas.List.Sums.{sum_by-set}
use Rattle.frame_tables.specs.FrameTables.{Frame, FrameTable, or_frame, is_some_frame, is_held, is_live, frame_at, changed_in}
use Rattle.tam_frames.specs.StoredFrames.{has_any, is_busy}

module _ {X : Type 0} where
  -- what was put at a place stands there
  pub get-set_same : (xs : List X) (i : ℕ) (x y : X) → slice_get xs i ≡ Some y → slice_get (slice_set xs i x) i ≡ Some x
  get-set_same [] i x y there = cc
  get-set_same (a ∷ xs) zero x y there = refl
  get-set_same (a ∷ xs) (suc i) x y there = get-set_same xs i x y there

  -- at the other places all is as before
  pub get-set_other : (xs : List X) (i j : ℕ) (x : X) → j ≢ i → slice_get (slice_set xs i x) j ≡ slice_get xs j
  get-set_other [] i j x differ = refl
  get-set_other (a ∷ xs) zero zero x differ = absurd (differ refl)
  get-set_other (a ∷ xs) zero (suc j) x differ = refl
  get-set_other (a ∷ xs) (suc i) zero x differ = refl
  get-set_other (a ∷ xs) (suc i) (suc j) x differ = get-set_other xs i j x (λ same. differ (ap suc same))

  -- so it is where the list is longer by one
  pub get-push : (xs : List X) (i : ℕ) (x y : X) → slice_get xs i ≡ Some y → slice_get (xs ++ x ∷ []) i ≡ Some y
  get-push [] i x y there = cc
  get-push (a ∷ xs) zero x y there = there
  get-push (a ∷ xs) (suc i) x y there = get-push xs i x y there

  -- the new element stands last
  pub get-last : (xs : List X) (x : X) → slice_get (xs ++ x ∷ []) (length xs) ≡ Some x
  get-last [] x = refl
  get-last (a ∷ xs) x = get-last xs x

  -- what stands in that list stood there before, or is the new element
  pub get-pushed : (xs : List X) (i : ℕ) (x y : X) → slice_get (xs ++ x ∷ []) i ≡ Some y → (slice_get xs i ≡ Some y) ⊎ (x ≡ y)
  get-pushed [] zero x y there = let same : x ≡ y = cc in inr same
  get-pushed [] (suc i) x y there = inl there
  get-pushed (a ∷ xs) zero x y there = inl there
  get-pushed (a ∷ xs) (suc i) x y there = get-pushed xs i x y there

-- a live frame stands at its number
pub live-there : (s : FrameTable) (f : ℕ) → is_live s f ≡ true → slice_get s.frames f ≡ Some (Some (frame_at s f))
live-there s f live = go (slice_get s.frames f) live
  where
    go : (o : Option (Option Frame)) → is_some_frame o ≡ true → o ≡ Some (Some (or_frame o))
    go None is = cc
    go (Some None) is = cc
    go (Some (Some h)) is = refl

-- a live frame is changed where it stands
pub changed_in-there : (frames : List (Option Frame)) (f : ℕ) (h : Frame) (change : Frame → Frame) → slice_get frames f ≡ Some (Some h)
    → changed_in frames f change ≡ slice_set frames f (Some (change h))
changed_in-there [] f h change there = cc
changed_in-there (None ∷ frames) zero h change there = cc
changed_in-there (Some k ∷ frames) zero h change there = let same : k ≡ h = cc in ap (λ (g : Frame). Some (change g) ∷ frames) same
changed_in-there (None ∷ frames) (suc f) h change there = ap (λ (l : List (Option Frame)). None ∷ l) (changed_in-there frames f h change there)
changed_in-there (Some k ∷ frames) (suc f) h change there = ap (λ (l : List (Option Frame)). Some k ∷ l) (changed_in-there frames f h change there)

-- how many frames are held where one place is changed
pub held-set : (frames : List (Option Frame)) (f : ℕ) (old new : Option Frame) → slice_get frames f ≡ Some old
    → count_by is_held (slice_set frames f new) + cond {A = ℕ} (is_held old) 1 0 ≡ count_by is_held frames + cond {A = ℕ} (is_held new) 1 0
held-set frames f old new there =
    let read : get_or frames f old ≡ old = get_or_from_slice_get frames f old old there in
    ap (λ (o : Option Frame). count_by is_held (slice_set frames f new) + cond {A = ℕ} (is_held o) 1 0) (sym read)
    ∙ sum_by-set (λ (o : Option Frame). cond {A = ℕ} (is_held o) 1 0) frames f new old (slice_get_within frames f old there)

-- a frame with a ready thread is live
pub busy-live : (s : FrameTable) (f : ℕ) → is_busy s f ≡ true → is_live s f ≡ true
busy-live s f busy = go (slice_get s.frames f) busy
  where
    go : (o : Option (Option Frame)) → has_any (or_frame o).ready ≡ true → is_some_frame o ≡ true
    go None is = is
    go (Some None) is = is
    go (Some (Some h)) is = refl
