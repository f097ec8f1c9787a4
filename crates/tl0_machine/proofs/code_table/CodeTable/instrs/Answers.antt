use Rattle.std.proofs.Common.{◌≡◌, ◌∙◌, ap, subst, sym, List}
use Rattle.std.specs.Prelude.{slice_get}
use Rattle.tl0_code.specs.ThreadCode.{Thread, CodeText, or_thread, code_text, thread_at, widest_slots, widest_threads}
use Rattle.tl0_machine.specs.CodeFits.{AreNamed}
use Rattle.tl0_machine.proofs.CheckedCode.{instrs-named}
use Rattle.tl0_machine.proofs.code_table.CodeTable.instrs.Goals as goal

pub returns-clause-named : goal.returns-clause-named
returns-clause-named c =
    let p = c.args.self.now in
    let own : c.threads.result.now ≡ (code_text p c.args.code).threads = c.threads.ensures.value ∙ ap (λ (t : CodeText). t.threads) c.code.ensures.value in
    let is : c.instrs_at.result.now ≡ (thread_at (code_text p c.args.code) c.args.thread).instrs =
    c.instrs_at.ensures.value ∙ ap (λ (ts : List Thread). (or_thread (slice_get ts c.args.thread)).instrs) own in
    subst (AreNamed (widest_slots p) (widest_threads p)) (sym is) (instrs-named p c.code.ensures.checked c.args.code c.requires.there c.args.thread)
