use Rattle.std.proofs.Common.{◌≡◌, [], ◌++◌, map, sym, ◌∙◌, arith}
use Rattle.tam_text.specs.Lines.{lines_of, words_of}
use Rattle.tam_text.proofs.LineLemmas.{no_lines}
use Rattle.tam_read.specs.Faults.{first_pass, last_line, said_from}
use Rattle.tam_read.specs.LineView.{numbered, said_at}
use Rattle.tam_read.specs.ReadView.{read}
use Rattle.tam_read.proofs.LinesKept.{said-on, one-more, all-said}
use Rattle.tam_read.proofs.Looping.{found_here, goes_on, found_at_end, none_at_end}
use Rattle.tam_read.proofs.Nothing.{none_taken}
use Rattle.tam_read.proofs.Passed.{faults_lines-of}
use Rattle.tam_read.proofs.first_pass.read_lines.Goals as goal

pub loop-rest-preserved : goal.loop-rest-preserved
loop-rest-preserved c =
    let old = c.loop-rest.pass.lines.items in
    let new = c.line_cause.new.pass.lines.items in
    let number = c.loop-rest.number in
    let line = c.split_line.result.0.now in
    let after = lines_of c.split_line.result.1.now in
    let more : map numbered new ≡ map numbered old ++ said_at number (words_of line) = rw c.in_default.is at c.in_ok-cause.ensures.lines in
    let longer = one-more old new number line more in
    let shorter = c.split_line.ensures.shorter in
    record {
      so_far = goes_on (last_line c.args.text.now) (read c.loop-rest.pass) number (lines_of c.loop-rest.rest.now) line after _ c.in_ok-cause.field-0
          (read c.line_cause.new.pass)
          c.split_line.ensures.lines c.loop-rest.invariant.so_far c.in_ok-cause.ensures.cause c.in_default.is c.in_ok-cause.ensures.read;
      said = said-on old new number line more (lines_of c.loop-rest.rest.now) after (said_from 1 (lines_of c.args.text.now))
          c.split_line.ensures.lines c.loop-rest.invariant.said;
      kept = omega arith;
      few = omega arith;
    }

pub returns-in-Some-clause-refused : goal.returns-in-Some-clause-refused
returns-in-Some-clause-refused c =
    let text = c.args.text.now in
    sym (found_here (last_line text) (read c.loop-rest.pass) c.loop-rest.number (lines_of c.loop-rest.rest.now) c.split_line.result.0.now
    (lines_of c.split_line.result.1.now) _ c.in_ok-cause.field-0 c.in-Some.cause
    c.split_line.ensures.lines c.loop-rest.invariant.so_far c.in_ok-cause.ensures.cause c.in-Some.is
    ∙ faults_lines-of (last_line text) [] 1 (lines_of text))

pub returns-in-Some-end_cause-clause-refused : goal.returns-in-Some-end_cause-clause-refused
returns-in-Some-end_cause-clause-refused c =
    let text = c.args.text.now in
    rw c.last_line.ensures.value (sym (found_at_end (last_line text) (read c.loop-rest.pass) c.loop-rest.number
    (lines_of c.loop-rest.rest.now) _ c.end_cause.result c.in-Some-end_cause.cause
    (no_lines c.loop-rest.rest.now c.loop-rest-test.ensures) c.loop-rest.invariant.so_far c.end_cause.ensures.value c.in-Some-end_cause.is
    ∙ faults_lines-of (last_line text) [] 1 (lines_of text)))

pub returns-clause-lines : goal.returns-clause-lines
returns-clause-lines c =
    all-said (map numbered c.loop-rest.pass.lines.items) c.loop-rest.number (lines_of c.loop-rest.rest.now) (said_from 1 (lines_of c.args.text.now))
    (no_lines c.loop-rest.rest.now c.loop-rest-test.ensures) c.loop-rest.invariant.said

pub returns-clause-faultless : goal.returns-clause-faultless
returns-clause-faultless c =
    let text = c.args.text.now in
    none_taken (first_pass (last_line text) [] 1 (lines_of text)) (sym (none_at_end (last_line text) (read c.loop-rest.pass) c.loop-rest.number
    (lines_of c.loop-rest.rest.now) _ c.end_cause.result
    (no_lines c.loop-rest.rest.now c.loop-rest-test.ensures) c.loop-rest.invariant.so_far c.end_cause.ensures.value c.in-None.is
    ∙ faults_lines-of (last_line text) [] 1 (lines_of text)))
