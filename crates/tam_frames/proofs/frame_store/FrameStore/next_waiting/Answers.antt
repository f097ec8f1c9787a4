use Rattle.std.proofs.Common.{sym, subst, drop}
use Rattle.tam_frames.specs.HeldFrames.{HeldFrames}
use Rattle.tam_frames.specs.Kept.{IsStored}
use Rattle.tam_frames.proofs.StoreLemmas.{stored-queued}
use Rattle.tam_frames.proofs.ChangeLemmas.{storage}
use Rattle.tam_frames.proofs.frame_store.FrameStore.next_waiting.Goals as goal

pub invariant_of-self : goal.invariant_of-self
invariant_of-self c =
    let st = storage c.self.inside in
    subst (λ (now : HeldFrames). IsStored (record st { held = now })) (sym c.next_waiting.ensures.rest)
    (stored-queued c.self.invariant (drop 1 st.held.queue))
