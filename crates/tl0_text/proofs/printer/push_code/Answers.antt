-- A code that was printed keeps its limits, and its numbers have 32 bits.
use Rattle.tl0_code.specs.ThreadCode.{IsCodeText}
use Rattle.tl0_text.proofs.Printed.{if-ok, code-made}
use Rattle.tl0_text.proofs.printer.push_code.Goals as goal

pub returns-clause-words : goal.returns-clause-words
returns-clause-words c =
    if-ok c.push_line-2.result (IsCodeText c.args.code.now)
    (code-made c.args.code.now c.params.result c.results.result c.slots.result c.inlets.result.now c.threads.result.now c.slots.ensures.limits
    c.params.ensures.value c.results.ensures.value c.inlets.ensures.value c.threads.ensures.value c.push_line.ensures.words
    c.in_ok-push_inlets.ensures.words c.in_ok-push_threads.ensures.words)
