-- The line's fault is the first of the text, or the lines behind it go on.
use Rattle.std.proofs.Common.{arith}
use Rattle.tam_text.specs.Lines.{lines_of}
use Rattle.rv_asm.specs.Faults.{last_line, first_faults, said_in}
use Rattle.rv_asm.specs.PassView.{said}
use Rattle.rv_asm.proofs.Looping.{found_here, goes_on, said_on}
use Rattle.rv_asm.proofs.Soundness.{sound_on}
use Rattle.rv_asm.proofs.first_pass.first_pass.Goals as goal

pub returns-in-Some-clause-refused : goal.returns-in-Some-clause-refused
returns-in-Some-clause-refused c =
    found_here (last_line c.args.text.now) (said c.loop-rest.pass) c.loop-rest.number (lines_of c.loop-rest.rest.now) (first_faults c.args.text.now)
    c.loop-rest.invariant.faults c.split_line.result.0.now (lines_of c.split_line.result.1.now) c.split_line.ensures.lines c.in_ok-cause.field-0 c.in-Some.cause
    c.in_ok-cause.ensures.cause c.in-Some.is

pub loop-rest-preserved : goal.loop-rest-preserved
loop-rest-preserved c = record {
  faults =
      goes_on (last_line c.args.text.now) (said c.loop-rest.pass) c.loop-rest.number (lines_of c.loop-rest.rest.now) (first_faults c.args.text.now)
      c.loop-rest.invariant.faults c.split_line.result.0.now (lines_of c.split_line.result.1.now) c.split_line.ensures.lines c.in_ok-cause.field-0
      (said c.line_cause.new.pass) c.in_ok-cause.ensures.cause c.in_default.is c.in_ok-cause.ensures.said;
  all =
      said_on (said c.loop-rest.pass) c.loop-rest.number (lines_of c.loop-rest.rest.now) (said_in c.args.text.now) c.loop-rest.invariant.all
      c.split_line.result.0.now (lines_of c.split_line.result.1.now) c.split_line.ensures.lines c.in_ok-cause.field-0 (said c.line_cause.new.pass)
      c.in_default.is c.in_ok-cause.ensures.said;
  sound =
      sound_on (said c.loop-rest.pass) (said c.line_cause.new.pass) c.loop-rest.number c.split_line.result.0.now c.in_ok-cause.field-0
      c.in_ok-cause.ensures.cause c.in_default.is c.in_ok-cause.ensures.said c.loop-rest.invariant.sound;
  few = let s = c.split_line.ensures.shorter in omega arith;
}
