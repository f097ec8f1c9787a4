use Rattle.std.proofs.Common.{◌≡◌, ◌∙◌, ℕ, sym, ap, subst, List, Bool, length}
use Rattle.rv_keep.specs.Hosts.{Reached, At_poll, to_poll}
use Rattle.rv_keep.specs.HostRuns.{at_poll}
use Rattle.rv_host.specs.HostStates.{AreMarked, host_of}
use Rattle.rv_host.specs.HostEvents.{Sends, IsOutcome}
use Rattle.rv_host.proofs.Choosing.{outcome-behind, printed-beside}
use Rattle.rv_host.proofs.advancing.advance.Goals as goal

pub returns-clause-value : goal.returns-clause-value
returns-clause-value c = λ image printed live results marked are.
    let s = host_of c.args.state.now c.args.rv.now c.args.order.now printed live in
    let state = c.run_to_poll.new.state in
    let u = λ (l : List ℕ). host_of state c.run_to_poll.new.rv c.args.order.now printed l in
    let same : state.printed.items ≡ c.args.state.now.printed.items = printed-beside c.args.state.now state c.run_to_poll.ensures.beside in
    let a = c.in_ok-run_to_poll.ensures.value c.args.order.now printed live are in
    let m =
    c.make_event.ensures.value image printed a.live (results ∙ ap length (sym same)) (subst (λ (x : List Bool). AreMarked x printed) (sym same) marked)
    a.are_live in
    let t = host_of c.make_event.new.state c.make_event.new.rv c.make_event.new.order printed m.live in
    let e : to_poll c.args.most s ≡ At_poll (u a.live) = a.arrives in
    record {
      live = m.live;
      are_live = m.are_live;
      is =
          subst (λ (x : Reached). IsOutcome (Sends c.args.state.now.pending.messages x) (at_poll image c.args.limits.now x) t c.make_event.result) (sym e)
          (outcome-behind (Sends c.args.state.now.pending.messages (At_poll (u a.live))) (at_poll image c.args.limits.now (At_poll (u a.live))) t
          c.make_event.result m.is);
    }
