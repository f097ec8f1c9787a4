use Rattle.std.proofs.Common.{◌+◌, drop, subst}
use Rattle.tam_edge.specs.Whole.{AppendsPrefix}
use Rattle.tam_run.specs.LineLists.{bytes_of}
use Rattle.tam_run.proofs.Prefixes.{prefix-more, bytes-at, on-err}
use Rattle.tam_run.proofs.writing.write_lines.Goals as goal

pub returns-in_err-write_whole-clause-err : goal.returns-in_err-write_whole-clause-err
returns-in_err-write_whole-clause-err g c =
    on-err c.from_residual.result (prefix-more _ _ _ _ _ (bytes_of (drop (c.loop-line.line-index + 1) c.args.lines.now)) _ c.loop-line.invariant.taken
    (subst (λ l. AppendsPrefix (g.K.Sink.taken c.loop-line.out) (g.K.Sink.taken c.write_whole.new.out) l) c.deref.ensures.value
    c.in_err-write_whole.ensures.err)
    (bytes-at c.args.lines.now c.loop-line.line-index c.line-item.result c.loop-line-test.true c.line-item.is))
