-- What is kept of a state, where its sizes are kept.
use Rattle.std.proofs.Common.{◌≡◌, ◌∙◌, ℕ, ◌<◌, ◌≤◌, List, Bool, length, ap, sym, subst, arith}
use Rattle.std.specs.Prelude.{slice_index, vec_capacity}
use Rattle.std.specs.declared.vec.Vec.{Vec}
use Rattle.std.specs.declared.alloc.Global.{Global}
use Rattle.tam_istr.specs.Cells.{Arrays, cells_used}
use Rattle.tam_msgs.specs.declared.limits.Limits.{Limits}
use Rattle.tl0_code.specs.ThreadCode.{Program}
use Rattle.tl0_machine.specs.declared.thread_state.ThreadState.{ThreadState}
use Rattle.tl0_machine.specs.ThreadStates.{sizes_of, beside_of, IsKept}

-- the sizes of a state
abbrev Sizes : Type 0
Sizes = (ℕ × ℕ × ℕ) × Vec ℕ Global × ℕ × (ℕ × ℕ) × ℕ × ℕ

-- what a thread leaves as it was
abbrev pub Beside : Type 0
Beside = (ℕ × ℕ × ℕ) × Vec ℕ Global × ℕ × Arrays × List Bool × ℕ

module _ (old new : ThreadState) where
  -- what a thread leaves as it was has the same sizes
  pub sizes-beside : beside_of new ≡ beside_of old → sizes_of new ≡ sizes_of old
  sizes-beside same = ap (λ (b : Beside). (b.0, b.1, b.2, (length b.3, cells_used b.3), length b.4, b.5)) same

  module _ (same : beside_of new ≡ beside_of old) where
    -- frames have as many slots
    pub slots-beside : new.frames.slots ≡ old.frames.slots
    slots-beside = ap (λ (b : Beside). b.0.1) same

    -- and as many threads
    pub threads-beside : new.frames.threads ≡ old.frames.threads
    threads-beside = ap (λ (b : Beside). b.0.2) same

    -- frames are of the same codes
    pub codes-beside : new.codes.items ≡ old.codes.items
    codes-beside = ap (λ (b : Beside). b.1.items) same

  module _ (same : sizes_of new ≡ sizes_of old) where
    -- as many have begun
    pub begun-same : new.begun ≡ old.begun
    begun-same = ap (λ (s : Sizes). s.2) same

    -- as many events were made
    pub events-same : new.events ≡ old.events
    events-same = ap (λ (s : Sizes). s.5) same

    -- all that is kept is kept
    pub kept-same : (p : Program) (limits : Limits) → IsKept p limits old → IsKept p limits new
    kept-same p limits kept =
        let arrays : length new.cells ≡ length old.cells = ap (λ (s : Sizes). s.3.0) same in
        let cells : cells_used new.cells ≡ cells_used old.cells = ap (λ (s : Sizes). s.3.1) same in
        let events : new.events ≡ old.events = events-same in
        record {
          frames = ap (λ (s : Sizes). s.0.0) same ∙ kept.frames;
          slots = ap (λ (s : Sizes). s.0.1) same ∙ kept.slots;
          threads = ap (λ (s : Sizes). s.0.2) same ∙ kept.threads;
          codes = λ f. subst (λ (codes : Vec ℕ Global). slice_index codes.items f < length p.codes) (sym (ap (λ (s : Sizes). s.1) same)) (kept.codes f);
          code_room = subst (λ (codes : Vec ℕ Global). limits.frames ≤ vec_capacity codes) (sym (ap (λ (s : Sizes). s.1) same)) kept.code_room;
          arrays = omega (arith, arrays, events, kept.arrays);
          cells = omega (arith, cells, kept.cells);
          events = omega (arith, events, kept.events);
          marks = ap (λ (s : Sizes). s.4) same ∙ kept.marks;
        }
