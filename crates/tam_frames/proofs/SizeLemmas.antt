-- What is done to a frame leaves its size.
use Rattle.std.proofs.Common.{◌≡◌, ◌∙◌, subst, ℕ, zero, suc, ◌-◌, ◌<◌, ◌≤◌, List, [], ◌∷◌, ◌++◌, length, drop, replicate, Some, None, arith}
use Rattle.std.specs.Prelude.{slice_get, slice_set}
use Rattle.std.proofs.lemmas.List.{length-set, length-append, length-replicate, length-take-le}
use Rattle.frame_tables.specs.FrameTables.{Frame, new_frame}
use Rattle.tam_frames.specs.StoredFrames.{IsSized, frame_spent_of, frame_popped}

module _ (slots threads : ℕ) where
  -- a new frame
  pub sized-new : (counts : List ℕ) → IsSized slots threads (new_frame slots threads counts)
  sized-new counts = record {
    slots_there = length-replicate slots 0;
    threads_there = length-take-le threads (counts ++ replicate threads 0) long;
    ready_there = λ i t there. absurd (none-not-some t there);
  }
    where
      long : threads ≤ length (counts ++ replicate threads 0)
      long = omega (arith, length-append counts (replicate threads 0), length-replicate {A = ℕ} threads 0)

      none-not-some : (t : ℕ) → None ≡ Some t → ⊥
      none-not-some t there = cc

  module _ (h : Frame) (sized : IsSized slots threads h) where
    -- a slot is set
    pub sized-slot : (a w : ℕ) → IsSized slots threads (record h { slots = slice_set h.slots a w })
    sized-slot a w = record {
      slots_there = length-set h.slots a w ∙ sized.slots_there;
      threads_there = sized.threads_there;
      ready_there = sized.ready_there;
    }

    -- it owes less
    pub sized-lowered : (n : ℕ) → IsSized slots threads (record h { owed = h.owed - n })
    sized-lowered n = record {
      slots_there = sized.slots_there;
      threads_there = sized.threads_there;
      ready_there = sized.ready_there;
    }

    -- one of an entry count is spent
    pub sized-spent : (t n : ℕ) → t < threads → IsSized slots threads (frame_spent_of h t n)
    sized-spent t zero known = sized
    sized-spent t (suc zero) known = record {
      slots_there = sized.slots_there;
      threads_there = length-set h.counts t 0 ∙ sized.threads_there;
      ready_there = go;
    }
      where
        go : (i u : ℕ) → slice_get (t ∷ h.ready) i ≡ Some u → u < threads
        go zero u there = let same : t ≡ u = cc in subst (λ (k : ℕ). k < threads) same known
        go (suc i) u there = sized.ready_there i u there
    sized-spent t (suc (suc n)) known = record {
      slots_there = sized.slots_there;
      threads_there = length-set h.counts t (suc n) ∙ sized.threads_there;
      ready_there = sized.ready_there;
    }

    -- a ready thread has left
    pub sized-popped : IsSized slots threads (frame_popped h)
    sized-popped = record {
      slots_there = sized.slots_there;
      threads_there = sized.threads_there;
      ready_there = λ i t there. sized.ready_there (suc i) t (behind h.ready i t there);
    }
      where
        behind : (ready : List ℕ) (i t : ℕ) → slice_get (drop 1 ready) i ≡ Some t → slice_get ready (suc i) ≡ Some t
        behind [] i t there = there
        behind (u ∷ ready) i t there = there
