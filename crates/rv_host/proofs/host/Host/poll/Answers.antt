use Rattle.std.proofs.Common.{◌≡◌, ◌∙◌, sym, ap, arith}
use Rattle.rv_host.specs.HostStates.{seen_of}
use Rattle.rv_host.specs.HostEvents.{HostRun}
use Rattle.rv_host.proofs.Choosing.{counted-more}
use Rattle.rv_host.proofs.Polls.{first-poll}
use Rattle.rv_host.proofs.host.Host.poll.Goals as goal

pub advance-answer-requires-clause-few : goal.advance-answer-requires-clause-few
advance-answer-requires-clause-few c =
    let i : c.self.inside.instructions ≡ c.args.self.now.instructions = ap (λ (v : HostRun). v.instructions) c.self.view_is in
    let bound = c.self.invariant.1.1 c.in_default.is in
    omega (arith, i, c.requires.same, bound, c.self.invariant.1.0.events, c.self.invariant.0.budget)

pub invariant_of-self : goal.invariant_of-self
invariant_of-self c = (
  c.self.invariant.0,
  (
    c.advance-answer.ensures.kept,
    λ none.
        let more =
        counted-more c.self.inside.state.events c.advance-answer.new.state.events c.advance-answer.result c.advance-answer.ensures.counted
        (sym c.ended_by-self-inside.ensures.value ∙ none) in
        let i : c.self.inside.instructions ≡ c.args.self.now.instructions = ap (λ (v : HostRun). v.instructions) c.self.view_is in
        let bound = c.self.invariant.1.1 c.in_default.is in
        omega (arith, more, i, c.requires.same, bound, c.steps-self-inside.ensures.value, c.advance-answer.ensures.steps),
  ),
)

pub returns-clause-poll : goal.returns-clause-poll
returns-clause-poll c =
    let run : HostRun = record {
      limits = c.self.inside.limits;
      state = seen_of c.self.inside.state;
      instructions = c.self.inside.instructions;
      ended = c.self.inside.ended;
    } in
    let new : HostRun = record run {
      state = seen_of c.advance-answer.new.state;
      instructions = c.steps-self-inside.result;
      ended = c.ended_by-self-inside.result;
    } in
    first-poll run c.args.self.now new c.args.rv.now c.advance-answer.new.rv c.args.order.now c.advance-answer.new.order c.advance-answer.result c.self.view_is
    c.in_default.is
    (λ image printed live results marked are. record {
      made = c.advance-answer.ensures.value image printed live results marked are;
      marks = c.advance-answer.ensures.marks printed marked;
    }) c.ended_by-self-inside.ensures.value
