use Rattle.std.proofs.Common.{rules, ◌≡◌, ◌∙◌, ℕ, ◌≤◌, List, Err, ap, subst, sym, arith}
use Rattle.tam_msgs.specs.Runs.{Outcome}
use Rattle.std.specs.Prelude.{slice_index}
use Rattle.frame_tables.specs.FrameTables.{next_thread}
use Rattle.tam_frames.specs.StoredFrames.{StoredFrames}
use Rattle.tl0_code.specs.ThreadCode.{code_text, thread_at, widest_slots, widest_threads}
use Rattle.tl0_code.specs.Machines.{Machine, Giving, done_thread}
use Rattle.tl0_code.specs.ThreadRuns.{text_at, run_next, counted}
use Rattle.tl0_machine.specs.CodeFits.{AreNamed}
use Rattle.tl0_machine.specs.ThreadStates.{state_of, machine_of}
use Rattle.tl0_machine.specs.ThreadEvents.{IsOutcome, told_of}
use Rattle.tl0_machine.proofs.CheckedCode.{first-slots}
use Rattle.tl0_machine.proofs.Keeping.{Beside}
use Rattle.tl0_machine.proofs.Progressing.{outcome-breaks}
use Rattle.tl0_machine.proofs.Choosing.{run_next-is}
use Rattle.tl0_machine.proofs.advancing.run_next.Goals as goal

pub overflow_add-state : goal.overflow_add-state
overflow_add-state c = omega (arith, c.requires.events, c.requires.limits.budget)

pub run_thread-requires-clause-first_slots : goal.run_thread-requires-clause-first_slots
run_thread-requires-clause-first_slots c =
    let slots : c.next_thread.new.self.slots ≡ widest_slots c.args.table.now =
    ap (λ (s : StoredFrames). s.slots) c.next_thread.ensures.after ∙ c.requires.kept.slots in
    subst (λ n. 2 ≤ n) (sym slots) (first-slots c.args.table.now c.instrs.ensures.checked)

pub run_thread-requires-clause-code : goal.run_thread-requires-clause-code
run_thread-requires-clause-code c = omega (arith, c.requires.kept.codes c.in-Some.f, c.instrs.ensures.checked.within.few_codes)

pub run_thread-requires-clause-named : goal.run_thread-requires-clause-named
run_thread-requires-clause-named c =
    let p = c.args.table.now in
    let after = c.next_thread.ensures.after in
    let slots : c.next_thread.new.self.slots ≡ widest_slots p = ap (λ (s : StoredFrames). s.slots) after ∙ c.requires.kept.slots in
    let threads : c.next_thread.new.self.threads ≡ widest_threads p = ap (λ (s : StoredFrames). s.threads) after ∙ c.requires.kept.threads in
    subst (λ (n : ℕ). AreNamed n c.next_thread.new.self.threads c.instrs.result.now) (sym slots)
    (subst (λ (n : ℕ). AreNamed (widest_slots p) n c.instrs.result.now) (sym threads) c.instrs.ensures.named)

pub returns-in_err-run_thread-clause-value : goal.returns-in_err-run_thread-clause-value
returns-in_err-run_thread-clause-value c = λ order before printed marked.
    let p = c.args.table.now in
    let m = counted (machine_of c.args.state.now before printed) order in
    let given : c.from_residual.result ≡ Err c.in_err-run_thread.field-0.0 = search rules in
    let table : c.next_thread.new.self.table ≡ (next_thread m.table).1 = ap (λ (s : StoredFrames). s.table) c.in-Some.ensures.after in
    let code : c.code_at-code.result ≡ slice_index m.codes c.in-Some.f =
    c.code_at-code.ensures.value ∙ ap (λ (codes : List ℕ). slice_index codes c.in-Some.f) c.deref.ensures.value in
    let own : c.instrs.result.now ≡ (thread_at (text_at p m c.in-Some.f) c.in-Some.thread).instrs =
    c.instrs.ensures.value ∙ ap (λ (k : ℕ). (thread_at (code_text p k) c.in-Some.thread).instrs) code in
    let told : told_of m ≡ told_of (machine_of c.run_thread.new.state order printed) =
    ap (λ (b : Beside). (printed, b.5, b.2, b.3, order)) (sym c.run_thread.ensures.beside) in
    let breaks =
    outcome-breaks (done_thread Giving (record m { table = c.next_thread.new.self.table }) c.in-Some.f c.instrs.result.now) m
    (machine_of c.run_thread.new.state order printed) (state_of c.run_thread.new.state) order printed c.in_err-run_thread.field-0.0 told
    (c.in_err-run_thread.ensures.value order printed) in
    subst (IsOutcome (run_next Giving p m) (state_of c.run_thread.new.state) order printed) (sym given)
    (subst (λ (o : Outcome Machine). IsOutcome o (state_of c.run_thread.new.state) order printed (Err c.in_err-run_thread.field-0.0))
    (sym (run_next-is p m c.in-Some.f c.in-Some.thread c.next_thread.new.self.table c.instrs.result.now c.in-Some.ensures.value table own)) breaks)
