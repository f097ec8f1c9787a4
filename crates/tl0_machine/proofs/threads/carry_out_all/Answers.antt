use Rattle.std.proofs.Common.{◌≡◌, ◌∙◌, ℕ, List, get_or, drop, Result, Err, sym, subst, arith, rules, ◌<◌}
use Rattle.std.specs.Prelude.{slice_index}
use Rattle.tl0_code.specs.declared.instr.Instr.{Instr}
use Rattle.tl0_code.specs.declared.instr.Instr.TheVariants.{Imm}
use Rattle.tl0_code.specs.Machines.{Progress, Giving, done_all}
use Rattle.tl0_machine.specs.declared.stop0.Stop0.{Stop0}
use Rattle.tl0_machine.specs.CodeFits.{IsNamed}
use Rattle.tl0_machine.specs.ThreadStates.{machine_of, IsProgress}
use Rattle.tl0_machine.specs.QuickEvents.{WantsNothing, is_silent}
use Rattle.tam_word.proofs.Members.{all-in, get-in}
use Rattle.tl0_machine.proofs.Keeping.{slots-beside, threads-beside, codes-beside}
use Rattle.tl0_machine.proofs.Instructions.{get-there, done_all-next, done_all-breaks}
use Rattle.tl0_machine.proofs.threads.carry_out_all.Goals as goal

pub carry_out-requires-clause-live : goal.carry_out-requires-clause-live
carry_out-requires-clause-live c = c.loop-instr.invariant.live c.args.f c.requires.live

pub carry_out-requires-clause-first_slots : goal.carry_out-requires-clause-first_slots
carry_out-requires-clause-first_slots c =
    let same = slots-beside c.args.state.now c.loop-instr.state c.loop-instr.invariant.beside in omega (arith, same, c.requires.first_slots)

pub carry_out-requires-clause-code : goal.carry_out-requires-clause-code
carry_out-requires-clause-code c =
    subst (λ (codes : List ℕ). slice_index codes c.args.f < 256) (sym (codes-beside c.args.state.now c.loop-instr.state c.loop-instr.invariant.beside))
    c.requires.code

pub carry_out-requires-clause-named : goal.carry_out-requires-clause-named
carry_out-requires-clause-named c =
    let old = c.args.state.now in
    let now = c.loop-instr.state in
    let i = c.loop-instr.instr-index in
    let instr : Instr = get_or c.args.instrs.now i (Imm 0 0) in
    subst (λ (slots : ℕ). IsNamed slots now.frames.threads instr) (sym (slots-beside old now c.loop-instr.invariant.beside))
    (subst (λ (threads : ℕ). IsNamed old.frames.slots threads instr) (sym (threads-beside old now c.loop-instr.invariant.beside))
    (c.requires.named i instr (get-there c.args.instrs.now i (Imm 0 0) c.loop-instr-test.true)))

pub loop-instr-preserved : goal.loop-instr-preserved
loop-instr-preserved c = record {
  same = λ order printed. c.loop-instr.invariant.same order printed ∙ done_all-next (machine_of c.loop-instr.state order printed)
      (machine_of c.carry_out.new.state order printed) c.args.f c.args.instrs.now c.loop-instr.instr-index (Imm 0 0) c.loop-instr-test.true
      (c.in_ok-carry_out.ensures.value order printed);
  beside = c.carry_out.ensures.beside ∙ c.loop-instr.invariant.beside;
  live = λ g l. c.carry_out.ensures.live g (c.loop-instr.invariant.live g l);
}

pub returns-in_err-carry_out-clause-value : goal.returns-in_err-carry_out-clause-value
returns-in_err-carry_out-clause-value c = λ order printed.
    let m = machine_of c.loop-instr.state order printed in
    let n = machine_of c.carry_out.new.state order printed in
    let e : Stop0 = c.in_err-carry_out.field-0.0 in
    let breaks : IsProgress (done_all Giving m c.args.f (drop c.loop-instr.instr-index c.args.instrs.now)) n (Err e) =
    done_all-breaks m n c.args.f c.args.instrs.now c.loop-instr.instr-index (Imm 0 0) c.loop-instr-test.true e
    (c.in_err-carry_out.ensures.value order printed) in
    let given : c.from_residual.result ≡ Err e = search rules in
    subst (λ (r : Result Unit Stop0). IsProgress (done_all Giving (machine_of c.args.state.now order printed) c.args.f c.args.instrs.now) n r) (sym given)
    (subst (λ (x : Progress). IsProgress x n (Err e)) (sym (c.loop-instr.invariant.same order printed)) breaks)

pub returns-in_err-carry_out-clause-quick : goal.returns-in_err-carry_out-clause-quick
returns-in_err-carry_out-clause-quick c = λ silent.
    let i = c.loop-instr.instr-index in
    let instr : Instr = get_or c.args.instrs.now i (Imm 0 0) in
    let among = get-in c.args.instrs.now i instr (get-there c.args.instrs.now i (Imm 0 0) c.loop-instr-test.true) in
    let given : c.from_residual.result ≡ Err c.in_err-carry_out.field-0.0 = search rules in
    subst (λ (r : Result Unit Stop0). WantsNothing r) (sym given) (c.in_err-carry_out.ensures.quick (all-in is_silent c.args.instrs.now silent instr among))
