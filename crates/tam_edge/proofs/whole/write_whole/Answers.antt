use Rattle.std.proofs.Common.{◌∙◌}
use Rattle.tam_edge.proofs.KnownLemmas.{takes_more}
use Rattle.tam_edge.proofs.whole.write_whole.Goals as goal

pub pieces-preserved : goal.pieces-preserved
pieces-preserved g c = record {
  taken =
      let more = takes_more _ _ _ c.args.bytes.now c.pieces.rest.now c.in_ok-count.count c.pieces.invariant.taken c.in_ok-count.ensures.took in
      rw c.split_at.ensures.back more;
  counted = c.in_ok-count.ensures.counted ∙ c.pieces.invariant.counted;
}
