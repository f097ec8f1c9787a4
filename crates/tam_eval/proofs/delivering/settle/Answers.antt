use Rattle.std.proofs.Common.{◌≡◌, ◌++◌, [], sym, ap, map}
use Rattle.tam_istr.specs.CellAnswers.{reader_pair}
use Rattle.tam_msgs.specs.Messages.{answers}
use Rattle.tam_msgs.specs.Runs.{Next}
use Rattle.tam_eval.specs.Machines.{EvalState, state_of}
use Rattle.tam_eval.specs.Events.{state_with}
use Rattle.tam_eval.proofs.Stepping.{state-sent, state-same}
use Rattle.tam_eval.proofs.KeepingCounts.{keeps-same}
use Rattle.tam_eval.proofs.delivering.settle.Goals as goal

pub returns-in_ok-send_answers-in-Answered-clause-outcome : goal.returns-in_ok-send_answers-in-Answered-clause-outcome
returns-in_ok-send_answers-in-Answered-clause-outcome c = λ order printed.
    let s = state_of c.args.machine.now in
    let messages = answers c.in-Answered.word (map reader_pair c.in-Answered.readers.items) in
    let sent : c.send_answers.new.pending.messages ≡ s.pending ++ messages =
    rw c.deref.ensures.value at c.in_ok-send_answers-in-Answered.ensures.ok in
    rw c.in-Answered.is (sym (ap (λ (t : EvalState). Next (state_with t order printed))
    (state-sent c.args.program.now s messages c.send_answers.new.pending.messages sent)))

pub returns-in_ok-send_answers-in-Answered-clause-counts : goal.returns-in_ok-send_answers-in-Answered-clause-counts
returns-in_ok-send_answers-in-Answered-clause-counts c =
    let s = state_of c.args.machine.now in
    let messages = answers c.in-Answered.word (map reader_pair c.in-Answered.readers.items) in
    let sent : c.send_answers.new.pending.messages ≡ s.pending ++ messages =
    rw c.deref.ensures.value at c.in_ok-send_answers-in-Answered.ensures.ok in
    keeps-same c.args.program.now s (record s { pending = c.send_answers.new.pending.messages }) messages
    (state-sent c.args.program.now s messages c.send_answers.new.pending.messages sent) c.args.machine.now.left

pub returns-in-Printed-clause-counts : goal.returns-in-Printed-clause-counts
returns-in-Printed-clause-counts c =
    let s = state_of c.args.machine.now in
    keeps-same c.args.program.now s s [] (state-same c.args.program.now s) c.args.machine.now.left
