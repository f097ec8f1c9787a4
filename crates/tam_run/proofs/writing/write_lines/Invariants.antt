use Rattle.std.proofs.Common.{◌≡◌, take}
use Rattle.std.specs.Io.KnownBytes.{Appends}
use Rattle.tam_run.specs.LineLists.{bytes_of}
use Rattle.tam_run.proofs.writing.write_lines.Given as goal

abbrev pub invariant-loop-line : goal.invariant-loop-line
invariant-loop-line g l = record {
  taken : Appends (g.K.Sink.taken l.fn.out) (g.K.Sink.taken l.out) (bytes_of (take l.line-index l.lines));
  counted : g.K.Sink.faults l.out ≡ g.K.Sink.faults l.fn.out;
}
