use Rattle.std.proofs.Common.{◌∙◌, ap}
use Rattle.frame_tables.specs.FrameTables.{Frame}
use Rattle.tam_frames.specs.StoredFrames.{has_any}
use Rattle.tam_frames.proofs.ChangeLemmas.{row-within, held}
use Rattle.tam_frames.proofs.frame_store.FrameStore.is_busy.Goals as goal

pub is_busy-requires : goal.is_busy-requires
is_busy-requires c = record { there = row-within c.self.invariant c.self.view_is c.args.f c.requires.live }

pub returns : goal.returns
returns c = record {
  value = c.is_busy.ensures.value ∙ ap (λ (h : Frame). has_any h.ready) (held c.self.invariant c.self.view_is c.args.f c.requires.live);
}
