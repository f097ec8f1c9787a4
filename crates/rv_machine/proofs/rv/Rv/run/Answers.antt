use Rattle.std.proofs.Common.{◌≡◌, ◌+◌, ◌∙◌, ap, arith, ℕ, sym}
use Rattle.std.proofs.lemmas.Grind.{common_steps}
use Rattle.tam_word.specs.Words.{wrapped}
use Rattle.rv_inst.specs.Harts.{Hart, Done, Called}
use Rattle.rv_inst.specs.Execution.{hart_step}
use Rattle.rv_inst.proofs.Joining.{comes-one, comes-joined}
use Rattle.rv_machine.specs.Answers.{counted}
use Rattle.rv_machine.specs.Runs.{at}
use Rattle.rv_machine.proofs.rv.Rv.run.Goals as goal

pub loop-done-preserved-in-Some : goal.loop-done-preserved-in-Some
loop-done-preserved-in-Some c =
    let l = c.loop-done in
    let start = c.args.self.now.steps in
    let before = at l.self l.pc (start + l.done) in
    let after = at c.next_kept.new.self c.in-Some.to (start + (l.done + 1)) in
    let on : hart_step before ≡ Done after =
    c.in-Some.ensures.value (start + l.done) ∙ ap (λ (n : ℕ). Done (at c.next_kept.new.self c.in-Some.to n)) (omega arith) in
    record {
      few = omega (arith, c.loop-done-test.true);
      comes = comes-joined l.done 1 c.args.self.now before after l.invariant.comes (comes-one before after on);
    }

pub loop-done-preserved : goal.loop-done-preserved
loop-done-preserved c =
    let l = c.loop-done in
    let start = c.args.self.now.steps in
    let before = at l.self l.pc (start + l.done) in
    let after = at c.next_anew.new.self c.in-On.to (start + (l.done + 1)) in
    let on : hart_step before ≡ Done after =
    ap (λ (h : Hart). hart_step (at h l.pc (start + l.done))) (sym c.in_default.ensures.kept) ∙ (c.in-On.ensures.value (start + l.done)
    ∙ ap (λ (n : ℕ). Done (at c.next_anew.new.self c.in-On.to n)) (omega arith)) in
    record {
      few = omega (arith, c.loop-done-test.true);
      comes = comes-joined l.done 1 c.args.self.now before after l.invariant.comes (comes-one before after on);
    }

pub returns-in-Call-clause-value : goal.returns-in-Call-clause-value
returns-in-Call-clause-value c =
    let l = c.loop-done in
    let n = c.args.self.now.steps + l.done in
    let before = at l.self l.pc n in
    let behind = at c.next_anew.new.self (wrapped (l.pc + 4)) (n + 1) in
    let called : hart_step before ≡ Called behind =
    ap (λ (h : Hart). hart_step (at h l.pc n)) (sym c.in_default.ensures.kept) ∙ c.in-Call.ensures.value n in
    let stands : c.stand.new.self ≡ counted behind = grind (arith, common_steps) in
    (c.loop-done-test.true, (behind, (before, l.invariant.comes, called), stands))
