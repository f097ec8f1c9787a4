use Rattle.std.proofs.Common.{◌≡◌, ◌+◌, ◌≤◌, ◌++◌, [], length, map}
use Rattle.tam_text.specs.Lines.{lines_of}
use Rattle.tam_read.specs.Faults.{last_line, said_from}
use Rattle.tam_read.specs.LineView.{numbered}
use Rattle.tam_read.specs.Passing.{read_of, faults_lines}
use Rattle.tam_read.specs.ReadView.{read}
use Rattle.tam_read.proofs.first_pass.read_lines.Given as goal

abbrev pub invariant-loop-rest : goal.invariant-loop-rest
invariant-loop-rest l = record {
  so_far : faults_lines (last_line l.text) (read l.pass) l.number (lines_of l.rest) ≡ faults_lines (last_line l.text) (read_of []) 1 (lines_of l.text);
  said : map numbered l.pass.lines.items ++ said_from l.number (lines_of l.rest) ≡ said_from 1 (lines_of l.text);
  kept : length l.pass.lines.items + length l.rest ≤ length l.text;
  few : l.number + length l.rest ≤ 1 + length l.text;
}

abbrev pub decreases-loop-rest : goal.decreases-loop-rest
decreases-loop-rest l = length l.rest
