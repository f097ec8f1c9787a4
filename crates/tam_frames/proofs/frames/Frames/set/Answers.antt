use Rattle.std.proofs.Common.{sym, subst, refl}
use Rattle.std.specs.Prelude.{slice_set}
use Rattle.frame_tables.specs.FrameTables.{Frame}
use Rattle.tam_frames.specs.StoredFrames.{StoredFrames, with_current}
use Rattle.tam_frames.specs.Kept.{AreInTurn}
use Rattle.tam_frames.proofs.TurnLemmas.{turns-changed}
use Rattle.tam_frames.proofs.frames.Frames.set.Goals as goal

pub invariant_of-self : goal.invariant_of-self
invariant_of-self c =
    subst (λ (store : StoredFrames). AreInTurn (with_current store c.self.inside.current).table) (sym c.set.ensures.value)
    (turns-changed c.self.invariant c.args.f (λ (h : Frame). record h { slots = slice_set h.slots c.args.slot c.args.word }) (λ h. refl))
