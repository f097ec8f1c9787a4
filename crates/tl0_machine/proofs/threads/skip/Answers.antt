use Rattle.std.proofs.Common.{◌∙◌, ◌-◌, ap}
use Rattle.frame_tables.specs.FrameTables.{is_live}
use Rattle.tam_frames.specs.StoredFrames.{StoredFrames}
use Rattle.tam_frames.proofs.LiveLemmas.{live-changed}
use Rattle.tl0_machine.proofs.threads.skip.Goals as goal

pub returns-clause-live : goal.returns-clause-live
returns-clause-live c = λ g live.
    ap (λ (v : StoredFrames). is_live v.table g) c.lower.ensures.value
    ∙ (live-changed c.args.state.now.frames.table c.args.f g (λ h. record h { owed = h.owed - c.args.n }) ∙ live)
