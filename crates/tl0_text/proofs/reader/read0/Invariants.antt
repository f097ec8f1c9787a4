-- The faults of the lines that are left are those of the text, and what they add makes what the text says.
use Rattle.std.proofs.Common.{◌≡◌, ◌+◌, ◌≤◌, length}
use Rattle.tam_text.specs.Lines.{lines_of}
use Rattle.tl0_text.specs.Reading.{faults_from, faults, said_from, nothing_said}
use Rattle.tl0_text.specs.TextView.{said}
use Rattle.tl0_text.specs.Sound.{IsSound}
use Rattle.tl0_text.proofs.reader.read0.Given as goal

abbrev pub invariant-loop-rest : goal.invariant-loop-rest
invariant-loop-rest l = record {
  faults : faults_from (said l.pass) l.number (lines_of l.rest) ≡ faults l.text;
  all : said_from (said l.pass) (lines_of l.rest) ≡ said_from nothing_said (lines_of l.text);
  sound : IsSound (said l.pass);
  few : l.number + length l.rest ≤ 1 + length l.text;
}

abbrev pub decreases-loop-rest : goal.decreases-loop-rest
decreases-loop-rest l = length l.rest
