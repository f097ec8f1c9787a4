use Rattle.std.proofs.Common.{◌∙◌, ap, arith}
use Rattle.std.specs.Prelude.{slice_index}
use Rattle.frame_tables.specs.FrameTables.{Frame}
use Rattle.tam_frames.specs.StoredFrames.{StoredFrames}
use Rattle.tam_frames.proofs.ChangeLemmas.{row-within, held}
use Rattle.tam_frames.proofs.frame_store.FrameStore.get.Goals as goal

pub get-requires-clause-there : goal.get-requires-clause-there
get-requires-clause-there c = row-within c.self.invariant c.self.view_is c.args.f c.requires.live

pub get-requires-clause-slot : goal.get-requires-clause-slot
get-requires-clause-slot c = omega (arith, c.requires.slot, ap (λ (v : StoredFrames). v.slots) c.self.view_is)

pub returns : goal.returns
returns c = record {
  value = c.get.ensures.value
      ∙ ap (λ (h : Frame). slice_index h.slots c.args.slot) (held c.self.invariant c.self.view_is c.args.f c.requires.live);
}
