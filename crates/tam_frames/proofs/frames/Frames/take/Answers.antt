use Rattle.std.proofs.Common.{◌≡◌, ◌⊎◌, sym, subst, refl, ℕ, List, [], ◌∷◌, Option, inl, inr, Result, Ok, Err}
use Rattle.std.specs.Prelude.{OnOk, OnErr}
use Rattle.frame_tables.specs.FrameTables.{Frame, FrameTable, with_new, new_frame}
use Rattle.tam_frames.specs.StoredFrames.{StoredFrames, with_current}
use Rattle.tam_frames.specs.Kept.{AreInTurn}
use Rattle.tam_frames.proofs.TurnLemmas.{turns-taken}
use Rattle.tam_frames.proofs.frames.Frames.take.Goals as goal

-- of what holds after a success and what holds after an error one holds
either : {T E : Type 0} (r : Result T E) (P Q : Type 0) → OnOk r P → OnErr r Q → P ⊎ Q
either (Ok x) P Q p q = inl p
either (Err e) P Q p q = inr q

-- a frame is taken in the same way whose turn it ever is
taken-current : (s : FrameTable) (current : Option ℕ) (free : List ℕ) (h : Frame)
    → with_new (record s { current = current }) free h ≡ record (with_new s free h) { current = current }
taken-current s current [] h = refl
taken-current s current (f ∷ free) h = refl

pub invariant_of-self : goal.invariant_of-self
invariant_of-self c =
    let s = c.self.inside in
    let h : Frame = new_frame s.store.slots s.store.threads c.args.counts.now in
    elim (either c.take.result _ _ c.take.ensures.ok c.take.ensures.err) [
      | inl taken ↦ subst (λ (store : StoredFrames). AreInTurn (with_current store s.current).table) (sym taken)
          (subst AreInTurn (taken-current s.store.table s.current s.store.table.free h)
          (turns-taken c.self.invariant s.store.slots s.store.threads c.args.counts.now c.take.ensures.fresh))
      | inr kept ↦ subst (λ (store : StoredFrames). AreInTurn (with_current store s.current).table) (sym kept) c.self.invariant
    ]
