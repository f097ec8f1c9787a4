use Rattle.std.proofs.Common.{◌∙◌, ap, arith}
use Rattle.frame_tables.specs.FrameTables.{is_live}
use Rattle.tam_frames.specs.StoredFrames.{StoredFrames}
use Rattle.tam_frames.proofs.ShownLemmas.{shown-marked}
use Rattle.tam_frames.proofs.frame_store.FrameStore.is_live.Goals as goal

pub returns : goal.returns
returns c =
    let held = c.self.inside.frames in
    record {
      value = c.is_live.ensures.value ∙ shown-marked held.lives held.frames c.args.f (omega (arith, c.self.invariant.lives_there))
          ∙ ap (λ (v : StoredFrames). is_live v.table c.args.f) c.self.view_is;
    }
