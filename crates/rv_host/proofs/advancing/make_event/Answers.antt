use Rattle.std.proofs.Common.{◌≡◌, ◌∙◌, sym, ap, subst, false, ◌==◌}
use Rattle.tam_word.proofs.Tests.{differs-number}
use Rattle.tam_msgs.specs.declared.choice.Choice.TheVariants.{Run as Choose_run, Deliver as Choose_delivery}
use Rattle.tam_msgs.specs.Runs.{Outcome, Next}
use Rattle.rv_inst.specs.Harts.{Hart}
use Rattle.rv_keep.specs.Hosts.{Host, with_hart}
use Rattle.rv_keep.specs.HostRuns.{counted}
use Rattle.rv_host.specs.HostStates.{host_of, seen_of}
use Rattle.rv_host.specs.HostEvents.{IsMade}
use Rattle.rv_host.proofs.Choosing.{chosen-is, event-run, event-deliver}
use Rattle.rv_host.proofs.advancing.make_event.Goals as goal

pub returns-in-Run-clause-value : goal.returns-in-Run-clause-value
returns-in-Run-clause-value c = λ image printed live results marked are.
    let s = host_of c.args.state.now c.args.rv.now c.args.order.now printed live in
    let rest = c.choose.new.self in
    let unspent : (s.events == c.args.limits.now.budget) ≡ false = differs-number s.events c.args.limits.now.budget c.if-state-limits.false in
    let is =
    chosen-is s c.is_ready-ready.result c.len-pending.result c.is_ready-ready.ensures.value c.len-pending.ensures.value (Choose_run, rest)
    c.in-Run.ensures.value in
    record {
      live = live;
      are_live = are;
      is =
          event-run image c.args.limits.now s rest unspent is
          ∙ ap (λ (h : Hart). Next (with_hart (counted s rest) h)) (sym c.set_reg.ensures.value);
    }

pub returns-in-Deliver-clause-value : goal.returns-in-Deliver-clause-value
returns-in-Deliver-clause-value c = λ image printed live results marked are.
    let s = host_of c.args.state.now c.args.rv.now c.args.order.now printed live in
    let rest = c.choose.new.self in
    let unspent : (s.events == c.args.limits.now.budget) ≡ false = differs-number s.events c.args.limits.now.budget c.if-state-limits.false in
    let is =
    chosen-is s c.is_ready-ready.result c.len-pending.result c.is_ready-ready.ensures.value c.len-pending.ensures.value
    (Choose_delivery c.in-Deliver.place, rest) c.in-Deliver.ensures.value in
    subst (λ (o : Outcome Host). IsMade ⊥ o (seen_of c.deliver_at.new.state) c.deliver_at.new.rv rest printed c.deliver_at.result)
    (sym (event-deliver image c.args.limits.now s rest unspent c.in-Deliver.place is))
    (c.deliver_at.ensures.value image c.args.order.now rest printed live results marked are)
