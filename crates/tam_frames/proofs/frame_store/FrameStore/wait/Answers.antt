use Rattle.std.proofs.Common.{sym, subst, ◌++◌, ◌∷◌, []}
use Rattle.tam_frames.specs.HeldFrames.{HeldFrames}
use Rattle.tam_frames.specs.Kept.{IsStored}
use Rattle.tam_frames.proofs.StoreLemmas.{stored-queued}
use Rattle.tam_frames.proofs.ChangeLemmas.{storage, row-within, in-no-line}
use Rattle.tam_frames.proofs.frame_store.FrameStore.wait.Goals as goal

pub wait-requires : goal.wait-requires
wait-requires c = record {
  there = row-within c.self.invariant c.self.view_is c.args.f c.requires.live;
  apart = in-no-line c.self.invariant c.self.view_is c.args.f c.requires.live c.requires.apart;
}

pub invariant_of-self : goal.invariant_of-self
invariant_of-self c =
    let st = storage c.self.inside in
    subst (λ (now : HeldFrames). IsStored (record st { held = now })) (sym c.wait.ensures.value)
    (stored-queued c.self.invariant (st.held.queue ++ c.args.f ∷ []))
