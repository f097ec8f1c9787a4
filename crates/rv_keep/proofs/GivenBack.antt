-- A number that is given back: it goes out of the live ones, and its frame is gone.
use Rattle.std.proofs.Common.{◌≡◌, ◌≢◌, ◌⊎◌, ℕ, zero, suc, ◌+◌, inl, inr, List, [], ◌∷◌, length, filter, refl, sym, ap, ◌∙◌, arith, true, false, not}
use Rattle.std.proofs.Common.{Bool, ◌==◌, true≢false, subst, Option, Some, None, slice_get}
use Rattle.std.specs.Prelude.{slice_set, count_by, fold, if◌then◌else◌}
use Rattle.tam_word.specs.Lists.{has}
use Rattle.tam_word.proofs.Members.{In, in-has, has-in, not-has, filter-in, in-filter}
use Rattle.tam_word.proofs.Tests.{number-eq, number-differs, differs-number, self-eq}
use Rattle.frame_tables.specs.FrameTables.{Frame, FrameTable, or_frame, frame_at, is_held, is_some_frame, is_current}
use Rattle.rv_keep.specs.Relation.{TurnsHold}
use Rattle.rv_keep.proofs.Turns.{Differ, differ-split, differ-joined, either-way}

-- ---- the live numbers

-- a list without a number
abbrev pub without : ℕ → List ℕ → List ℕ
without f xs = filter (λ n. not (n == f)) xs

-- the number isn't in it
pub without-none : (f : ℕ) (xs : List ℕ) → has (without f xs) f ≡ false
without-none f xs = not-has (without f xs) f (λ i. apart ((in-filter (λ n. not (n == f)) f xs i).1))
  where
    apart : not (f == f) ≡ true → ⊥
    apart e = true≢false (sym e ∙ ap not (self-eq f))

-- all others are as they were
pub without-other : (f g : ℕ) (xs : List ℕ) → f ≢ g → has (without f xs) g ≡ has xs g
without-other f g xs n = go (either-way (has xs g))
  where
    go : (has xs g ≡ true) ⊎ (has xs g ≡ false) → has (without f xs) g ≡ has xs g
    go (inl e) =
        let t : not (g == f) ≡ true = ap not (differs-number g f (λ q. n (sym q))) in
        in-has (without f xs) g (filter-in (λ x. not (x == f)) g xs (has-in xs g e) t) ∙ sym e
    go (inr e) =
        not-has (without f xs) g (λ i. true≢false (sym (in-has xs g ((in-filter (λ x. not (x == f)) g xs i).0)) ∙ e)) ∙ sym e

-- numbers that differ differ without one
pub without-differ : (f : ℕ) (xs : List ℕ) → Differ xs → Differ (without f xs)
without-differ f [] d = refl
without-differ f (x ∷ xs) d =
    let s = differ-split x xs d in
    go (not (x == f)) refl s.0 (without-differ f xs s.1)
  where
    go : (t : Bool) → not (x == f) ≡ t → (In x xs → ⊥) → Differ (without f xs) → Differ (without f (x ∷ xs))
    go true p n e = rw p (differ-joined x (without f xs) (λ i. n ((in-filter (λ y. not (y == f)) x xs i).0)) e)
    go false p n e = rw p e

-- without a number that isn't there a list is as long
without-long : (f : ℕ) (xs : List ℕ) → (In f xs → ⊥) → length (without f xs) ≡ length xs
without-long f [] n = refl
without-long f (x ∷ xs) n =
    let d : not (x == f) ≡ true = ap not (differs-number x f (λ e. n (inl e))) in
    let r : length (without f xs) ≡ length xs = without-long f xs (λ i. n (inr i)) in
    rw d (omega arith)

-- without one that stands once it is one shorter
pub without-one : (f : ℕ) (xs : List ℕ) → Differ xs → In f xs → length (without f xs) + 1 ≡ length xs
without-one f [] d i = absurd i
without-one f (x ∷ xs) d i =
    let s = differ-split x xs d in
    go (x == f) refl s.0 s.1 i (λ j. without-one f xs s.1 j)
  where
    go : (t : Bool) → (x == f) ≡ t → (In x xs → ⊥) → Differ xs → In f (x ∷ xs) → (In f xs → length (without f xs) + 1 ≡ length xs)
        → length (without f (x ∷ xs)) + 1 ≡ length (x ∷ xs)
    go true p n e j r =
        let k : x ≡ f = number-eq x f p in
        let l : length (without f xs) ≡ length xs = without-long f xs (λ a. n (subst (λ (y : ℕ). In y xs) (sym k) a)) in
        rw p (omega arith)
    go false p n e (inl j) r = absurd (number-differs x f p j)
    go false p n e (inr j) r = let l : length (without f xs) + 1 ≡ length xs = r j in rw p (omega arith)

-- ---- the frames

-- there are as many numbers
pub gone-long : (hs : List (Option Frame)) (f : ℕ) → length (slice_set hs f None) ≡ length hs
gone-long [] f = refl
gone-long (h ∷ hs) zero = refl
gone-long (h ∷ hs) (suc f) = let e : length (slice_set hs f None) ≡ length hs = gone-long hs f in omega arith

-- the frame is gone
pub gone-same : (hs : List (Option Frame)) (f : ℕ) → is_some_frame (slice_get (slice_set hs f None) f) ≡ false
gone-same [] f = refl
gone-same (h ∷ hs) zero = refl
gone-same (h ∷ hs) (suc f) = gone-same hs f

-- another is as it was
pub gone-other : (hs : List (Option Frame)) (f g : ℕ) → f ≢ g → slice_get (slice_set hs f None) g ≡ slice_get hs g
gone-other [] f g n = refl
gone-other (h ∷ hs) zero zero n = absurd (n refl)
gone-other (h ∷ hs) zero (suc g) n = refl
gone-other (h ∷ hs) (suc f) zero n = refl
gone-other (h ∷ hs) (suc f) (suc g) n = gone-other hs f g (λ e. n (ap suc e))

-- how many are live, from a number on
abbrev count_from : ℕ → List (Option Frame) → ℕ
count_from n hs = fold (λ a x. a + (if is_held x then 1 else 0)) n hs

-- one more before is one more in all
count-more : (n : ℕ) (hs : List (Option Frame)) → count_from (n + 1) hs ≡ count_from n hs + 1
count-more n [] = refl
count-more n (None ∷ hs) =
    let a : n + 1 + 0 ≡ n + 0 + 1 = omega arith in
    ap (λ (x : ℕ). count_from x hs) a ∙ count-more (n + 0) hs
count-more n (Some h ∷ hs) = count-more (n + 1) hs

-- one less is live
gone-from : (n f : ℕ) (hs : List (Option Frame)) → is_some_frame (slice_get hs f) ≡ true → count_from n (slice_set hs f None) + 1 ≡ count_from n hs
gone-from n f [] e = absurd (true≢false (sym e))
gone-from n zero (None ∷ hs) e = absurd (true≢false (sym e))
gone-from n zero (Some h ∷ hs) e =
    let a : n + 0 ≡ n = omega arith in
    ap (λ (x : ℕ). count_from x hs + 1) a ∙ sym (count-more n hs)
gone-from n (suc f) (None ∷ hs) e = gone-from (n + 0) f hs e
gone-from n (suc f) (Some h ∷ hs) e = gone-from (n + 1) f hs e

-- where a frame that is there is gone, one less is there
pub gone-count : (hs : List (Option Frame)) (f : ℕ) → is_some_frame (slice_get hs f) ≡ true → count_by is_held (slice_set hs f None) + 1 ≡ count_by is_held hs
gone-count hs f e = gone-from 0 f hs e

-- ---- the turns

-- the current frame is gone, and none of its threads was ready
pub turns-gone : (s : FrameTable) (f : ℕ) → s.current ≡ Some f → (frame_at s f).ready ≡ [] → TurnsHold s
    → TurnsHold (record { frames = slice_set s.frames f None; free = f ∷ s.free; queue = s.queue; current = None })
turns-gone s f c e t = record {
  differ = t.differ;
  queued_live = λ g i. ap is_some_frame (gone-other s.frames f g (apart g i)) ∙ t.queued_live g i;
  queued_waits = λ g i. refl;
  queued_ready = λ g i. let n : f ≢ g = apart g i in λ z. t.queued_ready g i (sym (ap (λ x. (or_frame x).ready) (gone-other s.frames f g n)) ∙ z);
  ready_queued = λ g n. old (f == g) g refl n;
  current_live = λ g i. absurd cc;
}
  where
    apart : (g : ℕ) → has s.queue g ≡ true → f ≢ g
    apart g i k = t.queued_ready g i (subst (λ (x : ℕ). (frame_at s x).ready ≡ []) k e)

    nothing : (o : Option (Option Frame)) → is_some_frame o ≡ false → (or_frame o).ready ≡ []
    nothing None i = refl
    nothing (Some None) i = refl
    nothing (Some (Some h)) i = absurd (true≢false i)

    old : (b : Bool) (g : ℕ) → (f == g) ≡ b → (or_frame (slice_get (slice_set s.frames f None) g)).ready ≢ [] → (has s.queue g ≡ true) ⊎ (false ≡ true)
    old true g y n =
        let k : f ≡ g = number-eq f g y in
        absurd (n (subst (λ (x : ℕ). (or_frame (slice_get (slice_set s.frames f None) x)).ready ≡ []) k
        (nothing (slice_get (slice_set s.frames f None) f) (gone-same s.frames f))))
    old false g y n = queued (t.ready_queued g (λ z. n (ap (λ x. (or_frame x).ready) (gone-other s.frames f g (number-differs f g y)) ∙ z)))
      where
        queued : (has s.queue g ≡ true) ⊎ (is_current s.current g ≡ true) → (has s.queue g ≡ true) ⊎ (false ≡ true)
        queued (inl i) = inl i
        queued (inr i) = absurd (number-differs f g y (number-eq f g (sym (ap (λ (x : Option ℕ). is_current x g) c) ∙ i)))
