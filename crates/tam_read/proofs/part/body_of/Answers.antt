use Rattle.std.proofs.Common.{◌≡◌, map, take, ap, ◌∙◌}
use Rattle.tam_read.specs.LineView.{numbered}
use Rattle.tam_read.proofs.Pieces.{prefix-is}
use Rattle.tam_read.proofs.part.body_of.Goals as goal

pub returns-clause-lines : goal.returns-clause-lines
returns-clause-lines c = ap (map numbered) (c.split_at.ensures.front ∙ ap (λ n. take n c.args.lines.now) c.body_len.ensures.len) ∙ prefix-is c.args.lines.now
