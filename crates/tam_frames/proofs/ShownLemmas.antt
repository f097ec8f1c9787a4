-- The live ones among all frames, and a list where one begins.
use Rattle.std.proofs.Common.{◌≡◌, ap, refl, ℕ, zero, suc, ◌<◌, ◌≤◌, Bool, true, false, cond, List, [], ◌∷◌, ◌++◌, length, get_or, Option, Some, None, arith}
use Rattle.std.specs.Prelude.{slice_get, slice_set}
use Rattle.frame_tables.specs.FrameTables.{Frame, is_some_frame}
use Rattle.std.proofs.lemmas.Bool.{lt-ltb, le-ltb}
use Rattle.tam_frames.specs.HeldFrames.{with_next}
use Rattle.tam_frames.specs.Kept.{shown}

module _ {X : Type 0} where
  -- an element that is there is another one
  pub with-there : (xs : List X) (f : ℕ) (x : X) → f < length xs → with_next xs f x ≡ slice_set xs f x
  with-there xs f x within = ap (λ (b : Bool). elim b [ true ↦ slice_set xs f x | false ↦ xs ++ x ∷ [] ]) (lt-ltb f (length xs) within)

  -- the next number is that of one more
  pub with-more : (xs : List X) (f : ℕ) (x : X) → f ≡ length xs → with_next xs f x ≡ xs ++ x ∷ []
  with-more xs f x next = ap (λ (b : Bool). elim b [ true ↦ slice_set xs f x | false ↦ xs ++ x ∷ [] ]) (le-ltb f (length xs) (omega (arith, next)))

-- there are as many places as marks
pub length-shown : (lives : List Bool) (rows : List Frame) → length lives ≤ length rows → length (shown lives rows) ≡ length lives
length-shown [] rows fit = refl
length-shown (live ∷ lives) [] fit = absurd (omega (arith, fit))
length-shown (live ∷ lives) (h ∷ rows) fit = ap suc (length-shown lives rows (omega (arith, fit)))

-- a live frame is the row with its number
pub shown-row : (lives : List Bool) (rows : List Frame) (f : ℕ) (h : Frame) → slice_get (shown lives rows) f ≡ Some (Some h) → slice_get rows f ≡ Some h
shown-row [] rows f h there = cc
shown-row (live ∷ lives) [] f h there = cc
shown-row (false ∷ lives) (k ∷ rows) zero h there = cc
shown-row (true ∷ lives) (k ∷ rows) zero h there = let same : k ≡ h = cc in ap (λ (g : Frame). Some g) same
shown-row (live ∷ lives) (k ∷ rows) (suc f) h there = shown-row lives rows f h there

-- and it is marked
pub shown-live : (lives : List Bool) (rows : List Frame) (f : ℕ) (h : Frame) → slice_get (shown lives rows) f ≡ Some (Some h) → slice_get lives f ≡ Some true
shown-live [] rows f h there = cc
shown-live (live ∷ lives) [] f h there = cc
shown-live (false ∷ lives) (k ∷ rows) zero h there = cc
shown-live (true ∷ lives) (k ∷ rows) zero h there = refl
shown-live (live ∷ lives) (k ∷ rows) (suc f) h there = shown-live lives rows f h there

-- the row of a live frame is set
pub shown-set : (lives : List Bool) (rows : List Frame) (f : ℕ) (h : Frame) → slice_get lives f ≡ Some true
    → shown lives (slice_set rows f h) ≡ slice_set (shown lives rows) f (Some h)
shown-set [] rows f h live = cc
shown-set (mark ∷ lives) [] f h live = refl
shown-set (false ∷ lives) (k ∷ rows) zero h live = cc
shown-set (true ∷ lives) (k ∷ rows) zero h live = refl
shown-set (mark ∷ lives) (k ∷ rows) (suc f) h live = ap (λ (l : List (Option Frame)). cond mark (Some k) None ∷ l) (shown-set lives rows f h live)

-- a frame's mark goes
pub shown-free : (lives : List Bool) (rows : List Frame) (f : ℕ) → shown (slice_set lives f false) rows ≡ slice_set (shown lives rows) f None
shown-free [] rows f = refl
shown-free (mark ∷ lives) [] zero = refl
shown-free (mark ∷ lives) [] (suc f) = refl
shown-free (mark ∷ lives) (k ∷ rows) zero = refl
shown-free (mark ∷ lives) (k ∷ rows) (suc f) = ap (λ (l : List (Option Frame)). cond mark (Some k) None ∷ l) (shown-free lives rows f)

-- a frame is marked and its row is set
pub shown-take : (lives : List Bool) (rows : List Frame) (f : ℕ) (h : Frame)
    → shown (slice_set lives f true) (slice_set rows f h) ≡ slice_set (shown lives rows) f (Some h)
shown-take [] rows f h = refl
shown-take (mark ∷ lives) [] zero h = refl
shown-take (mark ∷ lives) [] (suc f) h = refl
shown-take (mark ∷ lives) (k ∷ rows) zero h = refl
shown-take (mark ∷ lives) (k ∷ rows) (suc f) h = ap (λ (l : List (Option Frame)). cond mark (Some k) None ∷ l) (shown-take lives rows f h)

-- a row more is a live frame
pub shown-push : (lives : List Bool) (rows : List Frame) (h : Frame) → length rows ≡ length lives
    → shown (lives ++ true ∷ []) (rows ++ h ∷ []) ≡ shown lives rows ++ Some h ∷ []
shown-push [] [] h same = refl
shown-push [] (k ∷ rows) h same = absurd (omega (arith, same))
shown-push (mark ∷ lives) [] h same = absurd (omega (arith, same))
shown-push (mark ∷ lives) (k ∷ rows) h same =
    ap (λ (l : List (Option Frame)). cond mark (Some k) None ∷ l) (shown-push lives rows h (omega (arith, same)))

-- what stands at a number is a frame where the number is marked
pub shown-marked : (lives : List Bool) (rows : List Frame) (f : ℕ) → length lives ≤ length rows
    → get_or lives f false ≡ is_some_frame (slice_get (shown lives rows) f)
shown-marked [] rows f fit = refl
shown-marked (live ∷ lives) [] f fit = absurd (omega (arith, fit))
shown-marked (false ∷ lives) (k ∷ rows) zero fit = refl
shown-marked (true ∷ lives) (k ∷ rows) zero fit = refl
shown-marked (live ∷ lives) (k ∷ rows) (suc f) fit = shown-marked lives rows f (omega (arith, fit))
