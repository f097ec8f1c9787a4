use Rattle.std.proofs.Common.{◌∙◌, length, ap, subst, arith}
use Rattle.tam_graph.specs.Graphs.{Code}
use Rattle.tam_graph.specs.Reading.{IsCode}
use Rattle.tam_graph.proofs.FewNodes.{block-below}
use Rattle.tam_graph.proofs.FewBlocks.{few-blocks}
use Rattle.tl0_emit.proofs.inlet_threads.inlet_threads_of.Goals as goal

pub overflow_cast-block : goal.overflow_cast-block
overflow_cast-block c =
    let text = c.owners-block-end.ensures.of_text in
    let few = few-blocks text.0 c.code-2.result.now text.2.written in
    let same = ap length c.owners-block-end.ensures.value in
    omega (arith, few, same, c.loop-block-test.true)

pub returns : goal.returns
returns c =
    let code = c.args.blocks.now.code in
    let text = subst IsCode c.code-2.ensures.value c.owners-block-end.ensures.of_text in
    let same = ap length (c.owners-block-end.ensures.value ∙ ap (λ (d : Code). d.owners) c.code-2.ensures.value) in
    record {
      value = record {
        each = c.loop-block.invariant.0;
        own = λ x l h.
            let low = block-below text.0 code text.2.written x l in
            c.loop-block.invariant.1 x l h (omega (arith, low, same, c.loop-block-test.false));
      };
    }
