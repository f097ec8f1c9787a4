use Rattle.std.proofs.Common.{◌∙◌, ap}
use Rattle.std.specs.Prelude.{slice_set}
use Rattle.frame_tables.specs.FrameTables.{is_live}
use Rattle.tam_frames.specs.StoredFrames.{StoredFrames}
use Rattle.tam_frames.proofs.LiveLemmas.{live-changed}
use Rattle.tl0_machine.proofs.threads.put.Goals as goal

pub returns-clause-live : goal.returns-clause-live
returns-clause-live c = λ g live.
    ap (λ (v : StoredFrames). is_live v.table g) c.set.ensures.value
    ∙ (live-changed c.args.state.now.frames.table c.args.f g (λ h. record h { slots = slice_set h.slots c.args.slot c.args.word }) ∙ live)
