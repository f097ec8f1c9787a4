use Rattle.std.proofs.Common.{◌≡◌, sym, subst, arith, length}
use Rattle.tam_split.specs.RisingEdges.{RisingEdges}
use Rattle.tam_split.proofs.RisingEdgesLemmas.{rising-block}
use Rattle.loops.proofs.blocks.random_block.Goals as goal

pub of-requires : goal.of-requires
of-requires c =
    let all : length c.loop-place.vertices.items ≡ c.args.count =
    omega (arith, c.loop-place.invariant.0, c.loop-place-test.false, c.loop-place.auto.place-end) in
    record {
      block = rising-block (record { vertices = c.loop-place.vertices.items; edges = c.loop-place.edges.items }) (omega (arith, all, c.requires.few))
          (subst (λ n. RisingEdges n c.loop-place.edges.items) (sym all) c.loop-place.invariant.1);
    }
