-- One poll of a host whose run hasn't ended.
use Rattle.std.proofs.Common.{◌≡◌, ℕ, List, length, sym, subst, None, Result}
use Rattle.tam_msgs.specs.declared.item.Item.{Item}
use Rattle.tam_msgs.specs.declared.step.Step.{Step as Made}
use Rattle.rv_inst.specs.Images.{Image}
use Rattle.rv_inst.specs.Harts.{Hart}
use Rattle.rv_host.specs.declared.stop_rv.StopRv.{StopRv}
use Rattle.rv_host.specs.LiveFrames.{AreLive}
use Rattle.rv_host.specs.HostStates.{AreMarked}
use Rattle.rv_host.specs.HostEvents.{HostRun, IsStep, IsPoll, ended_by}

-- one poll
pub first-poll : (run old new : HostRun) (hart hart' : Hart) (order order' : List Item) (result : Result Made StopRv) → run ≡ old → run.ended ≡ None
    → ((image : Image) (printed : List (ℕ × ℕ)) (live : List ℕ) → image.results ≡ length run.state.marks → AreMarked run.state.marks printed
    → AreLive run.state.numbers live → IsStep image run.limits run.state new.state hart hart' order order' printed live result)
    → new.ended ≡ ended_by result → IsPoll old new hart hart' order order' result old.ended
first-poll run old new hart hart' order order' result is goes_on step ends =
    subst (λ (r : HostRun). IsPoll r new hart hart' order order' result r.ended) is
    (subst (IsPoll run new hart hart' order order' result) (sym goes_on) (step, ends))
