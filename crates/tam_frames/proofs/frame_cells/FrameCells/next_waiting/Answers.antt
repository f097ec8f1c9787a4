use Rattle.std.proofs.Common.{◌∙◌, ap, drop}
use Rattle.tam_frames.specs.HeldFrames.{HeldFrames}
use Rattle.tam_frames.proofs.LineChanges.{relinked-held, relinked-view}
use Rattle.tam_frames.proofs.WaitLemmas.{waits-no-more}
use Rattle.tam_frames.proofs.frame_cells.FrameCells.next_waiting.Goals as goal

pub invariant_of-self : goal.invariant_of-self
invariant_of-self c =
    relinked-held c.self.invariant
    (waits-no-more c.self.invariant c.pop_front.ensures.root c.pop_front.ensures.line c.pop_front.ensures.words c.pop_front.ensures.kept)

pub returns-clause-rest : goal.returns-clause-rest
returns-clause-rest c =
    relinked-view c.self.invariant
    (waits-no-more c.self.invariant c.pop_front.ensures.root c.pop_front.ensures.line c.pop_front.ensures.words c.pop_front.ensures.kept)
    ∙ ap (λ (v : HeldFrames). record v { queue = drop 1 v.queue }) c.self.view_is
