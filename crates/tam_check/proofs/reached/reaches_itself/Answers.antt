use Rattle.std.proofs.Common.{◌∙◌, ap, false}
use Rattle.tam_check.specs.Sources.{is_marked}
use Rattle.tam_check.proofs.Marking.{IsMarking, marked-itself}
use Rattle.tam_check.proofs.reached.reaches_itself.Goals as goal

pub returns : goal.returns
returns c =
    let marking : IsMarking c.args.code.now c.args.block c.args.x c.loop-grew.marks.items false = rw c.loop-grew-test.false at c.loop-grew.invariant in
    record {
      value = c.is_marked.ensures.value ∙ (ap (λ marks. is_marked marks c.args.x) c.deref.ensures.value
          ∙ marked-itself c.args.code.now c.args.block c.args.x c.loop-grew.marks.items marking);
    }
