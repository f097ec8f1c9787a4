-- The entry counts of a frame where one of them is spent.
use Rattle.std.proofs.Common.{◌≡◌, ◌∙◌, sym, ap, refl, ℕ, zero, suc, ◌+◌, ◌-◌, ◌<◌, ◌≤◌, Bool, true, false, cond, List}
use Rattle.std.proofs.Common.{length, arith}
use Rattle.std.specs.Prelude.{slice_set, slice_index, count_by}
use Rattle.std.proofs.lemmas.Bool.{lt-ltb}
use Rattle.std.proofs.lemmas.List.Sums.{sum_by-set}
use Rattle.frame_tables.specs.FrameTables.{Frame, spend_answer}
use Rattle.frame_tables.specs.declared.answers.Spend.TheVariants.{Left}
use Rattle.tam_frames.specs.HeldFrames.{is_left, wakes_of}
use Rattle.tam_frames.specs.StoredFrames.{frame_spent_of}

module _ (counts : List ℕ) (t : ℕ) (known : t < length counts) where
  -- how many entry counts are left where one is set
  left-set : (n : ℕ) → count_by is_left (slice_set counts t n) + cond {A = ℕ} (is_left (slice_index counts t)) 1 0
      ≡ count_by is_left counts + cond {A = ℕ} (is_left n) 1 0
  left-set n = sum_by-set (λ (k : ℕ). cond {A = ℕ} (is_left k) 1 0) counts t n 0 known

  -- the last of a count is spent
  pub left-last : slice_index counts t ≡ 1 → count_by is_left (slice_set counts t 0) + 1 ≡ count_by is_left counts
  left-last one =
      ap (λ (k : ℕ). count_by is_left (slice_set counts t 0) + cond {A = ℕ} (is_left k) 1 0) (sym one) ∙ left-set 0 ∙ omega arith

  -- one of more is spent
  pub left-more : (m : ℕ) → 2 ≤ m → slice_index counts t ≡ m → count_by is_left (slice_set counts t (m - 1)) ≡ count_by is_left counts
  left-more m more is =
      let rest : List ℕ = slice_set counts t (m - 1) in
      let before : is_left (slice_index counts t) ≡ true = ap is_left is ∙ lt-ltb 0 m (omega (arith, more)) in
      let both : count_by is_left rest + 1 ≡ count_by is_left counts + 1 =
      ap (λ (b : Bool). count_by is_left rest + cond {A = ℕ} b 1 0) (sym before) ∙ left-set (m - 1)
      ∙ ap (λ (b : Bool). count_by is_left counts + cond {A = ℕ} b 1 0) (lt-ltb 0 (m - 1) (omega (arith, more))) in
      omega (arith, both)

-- what spending one of several answers
pub answer-more : (m : ℕ) → 2 ≤ m → spend_answer m ≡ Left
answer-more zero more = elim more [ ]
answer-more (suc zero) more = absurd (omega (arith, more))
answer-more (suc (suc n)) more = refl

-- and what it makes of the frame
pub spent-more : (h : Frame) (t m : ℕ) → 2 ≤ m → frame_spent_of h t m ≡ record h { counts = slice_set h.counts t (m - 1) }
spent-more h t zero more = elim more [ ]
spent-more h t (suc zero) more = absurd (omega (arith, more))
spent-more h t (suc (suc n)) more = ap (λ (k : ℕ). record h { counts = slice_set h.counts t k }) (omega arith)

-- nor does it make a thread ready
pub wakes-more : (h : Frame) (m : ℕ) → 2 ≤ m → wakes_of h m ≡ false
wakes-more h zero more = absurd (omega (arith, more))
wakes-more h (suc zero) more = absurd (omega (arith, more))
wakes-more h (suc (suc m)) more = refl
