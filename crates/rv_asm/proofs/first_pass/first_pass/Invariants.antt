-- The faults of the lines that are left are those of the text, and what they add makes what the text says.
use Rattle.std.proofs.Common.{◌≡◌, ◌+◌, ◌≤◌, length}
use Rattle.tam_text.specs.Lines.{lines_of}
use Rattle.rv_asm.specs.Faults.{last_line, first_pass, first_faults, said_from, said_in}
use Rattle.rv_asm.specs.PassView.{said}
use Rattle.rv_asm.specs.Sound.{IsSound}
use Rattle.rv_asm.proofs.first_pass.first_pass.Given as goal

abbrev pub invariant-loop-rest : goal.invariant-loop-rest
invariant-loop-rest l = record {
  faults : first_pass (last_line l.text) (said l.pass) l.number (lines_of l.rest) ≡ first_faults l.text;
  all : said_from (said l.pass) l.number (lines_of l.rest) ≡ said_in l.text;
  sound : IsSound (said l.pass);
  few : l.number + length l.rest ≤ 1 + length l.text;
}

abbrev pub decreases-loop-rest : goal.decreases-loop-rest
decreases-loop-rest l = length l.rest
