-- The line's fault is the first of the text, or the lines behind it go on; at the end the program is the one that the text reads as.
use Rattle.std.proofs.Common.{◌≡◌, ◌∷◌, [], take, arith, ap, ◌∙◌}
use Rattle.tam_text.specs.Lines.{lines_of}
use Rattle.tl0_text.specs.Reading.{faults, said_from, nothing_said, program_said}
use Rattle.tl0_text.specs.TextView.{said}
use Rattle.tl0_text.proofs.Looping.{found-here, goes-on, said-on, said-at-end, sound-behind, no-lines, refused-none, made-within}
use Rattle.tl0_text.proofs.Looping.{made-reads, made-only, left-at-end, first-at-end, none-at-end}
use Rattle.tl0_text.proofs.reader.read0.Goals as goal

pub returns-in-Some-clause-refused : goal.returns-in-Some-clause-refused
returns-in-Some-clause-refused c =
    found-here (said c.loop-rest.pass) c.loop-rest.number (lines_of c.loop-rest.rest.now) (faults c.args.text.now) c.loop-rest.invariant.faults
    c.split_line.result.0.now (lines_of c.split_line.result.1.now) c.split_line.ensures.lines c.in_ok-cause.field-0 c.in-Some.cause
    c.in_ok-cause.ensures.cause c.in-Some.is

pub returns-in-Some-clause-complete : goal.returns-in-Some-clause-complete
returns-in-Some-clause-complete c =
    let first : take 1 (faults c.args.text.now) ≡ (c.loop-rest.number, c.in-Some.cause) ∷ [] =
    found-here (said c.loop-rest.pass) c.loop-rest.number (lines_of c.loop-rest.rest.now) (faults c.args.text.now) c.loop-rest.invariant.faults
    c.split_line.result.0.now (lines_of c.split_line.result.1.now) c.split_line.ensures.lines c.in_ok-cause.field-0 c.in-Some.cause
    c.in_ok-cause.ensures.cause c.in-Some.is in
    λ p h. absurd (refused-none c.args.text.now p (c.loop-rest.number, c.in-Some.cause) first h)

pub loop-rest-preserved : goal.loop-rest-preserved
loop-rest-preserved c = record {
  faults =
      goes-on (said c.loop-rest.pass) c.loop-rest.number (lines_of c.loop-rest.rest.now) (faults c.args.text.now) c.loop-rest.invariant.faults
      c.split_line.result.0.now (lines_of c.split_line.result.1.now) c.split_line.ensures.lines c.in_ok-cause.field-0 (said c.line_cause.new.pass)
      c.in_ok-cause.ensures.cause c.in_default.is c.in_ok-cause.ensures.said;
  all =
      said-on (said c.loop-rest.pass) (lines_of c.loop-rest.rest.now) (said_from nothing_said (lines_of c.args.text.now)) c.loop-rest.invariant.all
      c.split_line.result.0.now (lines_of c.split_line.result.1.now) c.split_line.ensures.lines c.in_ok-cause.field-0 (said c.line_cause.new.pass)
      c.in_default.is c.in_ok-cause.ensures.said;
  sound =
      sound-behind (said c.loop-rest.pass) (said c.line_cause.new.pass) c.split_line.result.0.now c.in_ok-cause.field-0 c.in_ok-cause.ensures.cause
      c.in_default.is c.in_ok-cause.ensures.said c.loop-rest.invariant.sound;
  few = let s = c.split_line.ensures.shorter in omega arith;
}

pub returns-in-Some-end_cause-clause-complete : goal.returns-in-Some-end_cause-clause-complete
returns-in-Some-end_cause-clause-complete c =
    let left = left-at-end (said c.loop-rest.pass) c.loop-rest.number (lines_of c.loop-rest.rest.now) (faults c.args.text.now) c.end_cause.result
    c.loop-rest.invariant.faults (no-lines c.loop-rest.rest.now c.loop-rest-test.ensures) c.end_cause.ensures.value in
    let first = first-at-end c.loop-rest.number (faults c.args.text.now) c.end_cause.result c.in-Some-end_cause.cause left c.in-Some-end_cause.is in
    λ p h. absurd (refused-none c.args.text.now p (c.loop-rest.number, c.in-Some-end_cause.cause) first h)

pub of-requires : goal.of-requires
of-requires c =
    let none = no-lines c.loop-rest.rest.now c.loop-rest-test.ensures in
    let left = left-at-end (said c.loop-rest.pass) c.loop-rest.number (lines_of c.loop-rest.rest.now) (faults c.args.text.now) c.end_cause.result
    c.loop-rest.invariant.faults none c.end_cause.ensures.value in
    let all = said-at-end (said c.loop-rest.pass) (lines_of c.loop-rest.rest.now) (said_from nothing_said (lines_of c.args.text.now))
    c.loop-rest.invariant.all none in
    record {
      limits = made-within c.args.text.now (program_said (said c.loop-rest.pass)) c.requires.short
          (none-at-end c.loop-rest.number (faults c.args.text.now) c.end_cause.result left c.in-None.is) (ap program_said all);
    }

pub returns-in-None-clause-reads : goal.returns-in-None-clause-reads
returns-in-None-clause-reads c =
    let none = no-lines c.loop-rest.rest.now c.loop-rest-test.ensures in
    let left = left-at-end (said c.loop-rest.pass) c.loop-rest.number (lines_of c.loop-rest.rest.now) (faults c.args.text.now) c.end_cause.result
    c.loop-rest.invariant.faults none c.end_cause.ensures.value in
    let all = said-at-end (said c.loop-rest.pass) (lines_of c.loop-rest.rest.now) (said_from nothing_said (lines_of c.args.text.now))
    c.loop-rest.invariant.all none in
    made-reads c.args.text.now c.of.result c.requires.short (none-at-end c.loop-rest.number (faults c.args.text.now) c.end_cause.result left c.in-None.is)
    (c.of.ensures.value ∙ ap program_said all)

pub returns-in-None-clause-complete : goal.returns-in-None-clause-complete
returns-in-None-clause-complete c =
    let all = said-at-end (said c.loop-rest.pass) (lines_of c.loop-rest.rest.now) (said_from nothing_said (lines_of c.args.text.now))
    c.loop-rest.invariant.all (no-lines c.loop-rest.rest.now c.loop-rest-test.ensures) in
    λ p h. made-only c.args.text.now c.of.result p (c.of.ensures.value ∙ ap program_said all) h
