use Rattle.tam_run.proofs.ImageEvents.{image-opened}
use Rattle.tam_run.proofs.image_run.ImageRun.new.Goals as goal

pub returns : goal.returns
returns c = record {
  begins = λ order. image-opened c.args.image.now c.args.args.now order c.args.limits c.in_ok-host.host c.in_ok-rv.rv
      (rw c.results.ensures.value at c.in_ok-host.ensures.value) c.in_ok-rv.ensures.value;
}
