use Rattle.std.proofs.Common.{rules, ℕ, ◌≡◌, ◌∙◌, sym, ap, subst, List, [], ◌==◌, not, filter, Bool, true, false, Result, Err}
use Rattle.tam_word.specs.Lists.{has}
use Rattle.tam_msgs.specs.Runs.{Wild, Wild_frame}
use Rattle.tam_msgs.specs.declared.stop.Stop.TheVariants.{NoMemory}
use Rattle.rv_inst.specs.Harts.{reg}
use Rattle.rv_keep.specs.Hosts.{Stopped, with_given, with_hart, to_poll}
use Rattle.rv_host.specs.declared.stop_rv.StopRv.{StopRv}
use Rattle.rv_host.specs.declared.stop_rv.StopRv.TheVariants.{Stop as Stops}
use Rattle.rv_host.specs.LiveFrames.{is_marked}
use Rattle.rv_host.specs.HostStates.{host_of}
use Rattle.rv_host.specs.HostEvents.{Leads}
use Rattle.rv_host.proofs.Numbering.{has-live}
use Rattle.rv_host.proofs.Ways.{sends-more, step-gives, step-gives_none}
use Rattle.rv_host.proofs.calls.serve.Goals as goal

pub returns-in_err-send-clause-value : goal.returns-in_err-send-clause-value
returns-in_err-send-clause-value c = λ n before order printed live called are.
    let s = host_of c.args.state.now before order printed live in
    let g = c.args.rv.now in
    let given : c.from_residual.result ≡ Err (Stops NoMemory) = search rules in
    let more =
    sends-more n s g called c.reg-call.result c.in-Some.message [] (sym c.reg-call.ensures.value) c.if-call-eq-POLL.false (sym c.in-Some.ensures.value) in
    let t = host_of (record c.args.state.now { pending = c.send.new.pending }) g order printed live in
    record { live = live; are_live = are; leads = subst (λ (x : Result Bool StopRv). Leads n s t x) (sym given) more }

pub returns-then-not-is_live-clause-value : goal.returns-then-not-is_live-clause-value
returns-then-not-is_live-clause-value c = λ n before order printed live called are.
    let s = host_of c.args.state.now before order printed live in
    let g = c.args.rv.now in
    let call : reg g 17 ≡ 6 = sym c.reg-call.ensures.value ∙ c.if-call-ne-GIVE.false in
    let unmarked : c.is_live.result ≡ false = search rules in
    let unlive : has live (reg g 10) ≡ false =
    has-live c.args.state.now.numbers live are (reg g 10)
    ∙ (ap (is_marked c.args.state.now.numbers.marks) (sym c.reg-frame.ensures.value) ∙ (sym c.is_live.ensures.value ∙ unmarked)) in
    record {
      live = live;
      are_live = are;
      leads = step-gives_none n s g called call unlive ∙ ap (λ (f : ℕ). Stopped (Wild Wild_frame f) (with_hart s g)) (sym c.reg-frame.ensures.value);
    }

pub returns-clause-value : goal.returns-clause-value
returns-clause-value c = λ n before order printed live called are.
    let s = host_of c.args.state.now before order printed live in
    let g = c.args.rv.now in
    let call : reg g 17 ≡ 6 = sym c.reg-call.ensures.value ∙ c.if-call-ne-GIVE.false in
    let marked : c.is_live.result ≡ true = search rules in
    let there : has live (reg g 10) ≡ true =
    has-live c.args.state.now.numbers live are (reg g 10)
    ∙ (ap (is_marked c.args.state.now.numbers.marks) (sym c.reg-frame.ensures.value) ∙ (sym c.is_live.ensures.value ∙ marked)) in
    record {
      live = filter (λ (k : ℕ). not (k == c.reg-frame.result)) live;
      are_live = c.give.ensures.live live are;
      leads =
          step-gives n s g called call there
          ∙ (ap (λ (f : ℕ). to_poll n (with_given s g f)) (sym c.reg-frame.ensures.value)
          ∙ ap (λ (free : List ℕ). to_poll n (record (with_given s g c.reg-frame.result) { free = free })) (sym c.give.ensures.free));
    }
