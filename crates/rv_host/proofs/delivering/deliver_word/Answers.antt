use Rattle.std.proofs.Common.{rules, ℕ, ◌≡◌, ◌∙◌, sym, ap, subst, true, false}
use Rattle.tam_word.specs.Lists.{has}
use Rattle.tam_msgs.specs.declared.message.Message.TheVariants.{Word as Carry}
use Rattle.tam_msgs.specs.Runs.{Next}
use Rattle.rv_inst.specs.Harts.{Hart, with_reg}
use Rattle.rv_keep.specs.Hosts.{with_hart}
use Rattle.rv_keep.specs.HostRuns.{delivered}
use Rattle.rv_host.specs.HostStates.{host_of}
use Rattle.rv_host.specs.HostEvents.{IsOutcome}
use Rattle.rv_host.proofs.Numbering.{has-live}
use Rattle.rv_host.proofs.Words.{word-taken, word-wild}
use Rattle.rv_host.proofs.delivering.deliver_word.Goals as goal

pub returns-then-frame-eq-OUTSIDE-clause-value : goal.returns-then-frame-eq-OUTSIDE-clause-value
returns-then-frame-eq-OUTSIDE-clause-value c = λ image limits results order printed live marked are.
    let s = host_of c.args.state.now c.args.rv.now order printed live in
    subst (λ (f : ℕ). IsOutcome ⊥ (delivered image limits s (Carry f c.args.inlet c.args.word))
    (host_of c.print.new.state c.print.new.rv order printed live) c.print.result)
    (sym c.if-frame-eq-OUTSIDE.true) (c.print.ensures.value image results order printed live marked are)

pub returns-then-not-is_live-clause-value : goal.returns-then-not-is_live-clause-value
returns-then-not-is_live-clause-value c = λ image limits results order printed live marked are.
    let s = host_of c.args.state.now c.args.rv.now order printed live in
    let unmarked : c.is_live.result ≡ false = search rules in
    let unlive : has live c.args.frame ≡ false =
    has-live c.args.state.now.numbers live are c.args.frame ∙ (sym c.is_live.ensures.value ∙ unmarked) in
    word-wild image limits s c.args.frame c.args.inlet c.args.word c.if-frame-eq-OUTSIDE.false unlive

pub returns-clause-value : goal.returns-clause-value
returns-clause-value c = λ image limits results order printed live marked are.
    let s = host_of c.args.state.now c.args.rv.now order printed live in
    let marked_so : c.is_live.result ≡ true = search rules in
    let there : has live c.args.frame ≡ true =
    has-live c.args.state.now.numbers live are c.args.frame ∙ (sym c.is_live.ensures.value ∙ marked_so) in
    let second : c.set_reg-2.new.self ≡ with_reg (with_reg c.args.rv.now 10 2) 11 c.args.frame =
    c.set_reg-2.ensures.value ∙ ap (λ (h : Hart). with_reg h 11 c.args.frame) c.set_reg.ensures.value in
    let third : c.set_reg-3.new.self ≡ with_reg (with_reg (with_reg c.args.rv.now 10 2) 11 c.args.frame) 12 c.args.inlet =
    c.set_reg-3.ensures.value ∙ ap (λ (h : Hart). with_reg h 12 c.args.inlet) second in
    let fourth : c.set_reg-4.new.self ≡ with_reg (with_reg (with_reg (with_reg c.args.rv.now 10 2) 11 c.args.frame) 12 c.args.inlet) 13 c.args.word =
    c.set_reg-4.ensures.value ∙ ap (λ (h : Hart). with_reg h 13 c.args.word) third in
    word-taken image limits s c.args.frame c.args.inlet c.args.word c.if-frame-eq-OUTSIDE.false there
    ∙ ap (λ (h : Hart). Next (with_hart s h)) (sym fourth)
