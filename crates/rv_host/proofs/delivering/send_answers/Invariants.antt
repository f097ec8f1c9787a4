use Rattle.std.proofs.Common.{◌≡◌, ◌++◌, drop, map}
use Rattle.tam_istr.specs.CellAnswers.{reader_pair}
use Rattle.tam_msgs.specs.Messages.{answers}
use Rattle.rv_host.proofs.delivering.send_answers.Given as goal

abbrev pub invariant-loop-reader : goal.invariant-loop-reader
invariant-loop-reader l =
    l.pending.messages ++ answers l.word (map reader_pair (drop l.reader-index l.readers))
    ≡ l.fn.pending.messages ++ answers l.word (map reader_pair l.readers)
