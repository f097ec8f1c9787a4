use Rattle.std.proofs.Common.{map, string_bytes}
use Rattle.tam_input.specs.declared.input.Input.{Input}
use Rattle.tam_input.specs.Told.{told}
use Rattle.tam_input.specs.Inputs.{request_of}
use Rattle.tam_input.specs.Refusing.{refusal_ending, refusal_line}
use Rattle.tam.specs.Answers.{Answer, AnswerTo, refused, answered}
use Rattle.tam.specs.Asks.{ask_of}
use Rattle.tam.specs.Machines.{AsksMachine}
use Rattle.tam.proofs.Saying.{said-done, done-more, said-is}
use Rattle.tam.proofs.RightRuns.{Laws, right-call}
use Rattle.tam.proofs.Keeping.{answer-keeps, refusal-keeps, unanswered}
use Rattle.tam.proofs.Running.{said-unanswered}
use Rattle.tam.proofs.Handing.{unanswered-keeps, call-hands}
use Rattle.tam.proofs.top.end.Goals as goal

pub returns-in-Ok : goal.returns-in-Ok
returns-in-Ok g c =
    let before = told g.F.Files.left g.F.Files.faults g.F.Files.ends c.args.files.now in
    let now = told g.F.Files.left g.F.Files.faults g.F.Files.ends c.read_input.new.files in
    let words = ask_of c.args.words.now in
    let found = c.in-Ok.ensures.found in
    let request = request_of c.in-Ok.input.job c.in-Ok.input.order in
    let bytes = c.in-Ok.input.text.items in
    let laws : Laws = record {
      made = c.law_made.ensures.accepted;
      borne = c.law_runs.ensures.borne;
      right = c.law_runs.ensures.right;
      room = c.law_runs.ensures.room;
      live = c.law_runs.ensures.live;
      checked = c.law_checked.ensures.checked;
      short = c.law_texts.ensures.by_pairs;
      in_range = c.law_file.ensures.file;
      have_words = c.law_file.ensures.words;
      files_short = c.law_file.ensures.short;
    } in
    record {
      headline = right-call laws (map string_bytes c.args.words.now) found.0 before now c.answer.result _ _ _ _ _ _ found.1
          (done-more _ _ _ _ (AnswerTo request bytes) (Answer words found.0 before now) c.answer.result (λ meant text a. answered found.2 a)
          c.answer.ensures.done)
          (answer-keeps words before now _ _ c.answer.result c.in-Ok.input request bytes _ _ c.in-Ok.ensures.files c.in-Ok.ensures.read_out
          c.answer.ensures.done)
          (call-hands words found.0 before now request bytes found.2 c.answer.result _ _ c.answer.ensures.machine);
    }

pub returns-in-Err : goal.returns-in-Err
returns-in-Err g c =
    let before = told g.F.Files.left g.F.Files.faults g.F.Files.ends c.args.files.now in
    let now = told g.F.Files.left g.F.Files.faults g.F.Files.ends c.read_input.new.files in
    let words = ask_of c.args.words.now in
    let found = c.in-Err.ensures.refused in
    let said = said-is _ _ _ _ _ _ _ _ _ c.ending.ensures.value c.line.ensures.value c.say.ensures.said in
    let laws : Laws = record {
      made = c.law_made.ensures.accepted;
      borne = c.law_runs.ensures.borne;
      right = c.law_runs.ensures.right;
      room = c.law_runs.ensures.room;
      live = c.law_runs.ensures.live;
      checked = c.law_checked.ensures.checked;
      short = c.law_texts.ensures.by_pairs;
      in_range = c.law_file.ensures.file;
      have_words = c.law_file.ensures.words;
      files_short = c.law_file.ensures.short;
    } in
    record {
      headline = right-call laws (map string_bytes c.args.words.now) found.0 before now c.say.result _ _ _ _ _ _ found.1
          (said-done _ _ _ _ (Answer words found.0 before now) (refusal_ending c.in-Err.refusal) c.say.result (refusal_line c.in-Err.refusal)
          (refused found.2) said)
          (refusal-keeps words before now _ _ c.say.result Input c.in-Err.refusal _ _ c.in-Err.ensures.files said)
          (unanswered-keeps (AsksMachine words found.0) c.say.result _
          (said-unanswered (refusal_ending c.in-Err.refusal) c.say.result (refusal_line c.in-Err.refusal) _ _ _ _ said (unanswered c.in-Err.refusal)));
    }
