use Rattle.std.proofs.Common.{◌∙◌, ap}
use Rattle.frame_tables.specs.FrameTables.{Frame}
use Rattle.tam_frames.proofs.ChangeLemmas.{row-within, held}
use Rattle.tam_frames.proofs.frame_store.FrameStore.owed.Goals as goal

pub owed-requires : goal.owed-requires
owed-requires c = record { there = row-within c.self.invariant c.self.view_is c.args.f c.requires.live }

pub returns : goal.returns
returns c = record {
  value = c.owed.ensures.value ∙ ap (λ (h : Frame). h.owed) (held c.self.invariant c.self.view_is c.args.f c.requires.live);
}
