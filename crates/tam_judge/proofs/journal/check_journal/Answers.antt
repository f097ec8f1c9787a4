use Rattle.std.proofs.Common.{◌≡◌, ◌∙◌, ◌<◌, ap, arith}
use Rattle.tam_flow.specs.Journals.{State, initial, is_legal_from}
use Rattle.tam_judge.specs.Machines.{state_of}
use Rattle.tam_judge.specs.CheckedEvents.{events_of, partitions_of}
use Rattle.tam_judge.proofs.CheckedRuns.{blocks-stand}
use Rattle.tam_judge.proofs.CheckedJournals.{kept-initial, kept-event, goes-on}
use Rattle.tam_judge.proofs.journal.check_journal.Goals as goal

pub loop-event-init : goal.loop-event-init
loop-event-init c =
    let g = c.args.g.now in
    let is : state_of c.in_ok-machine.machine ≡ initial g c.args.args.now =
    rw (c.in_ok-program.ensures.value, c.graph.ensures.value) at c.in_ok-machine.ensures.value in
    record {
      same = ap (λ (s : State). is_legal_from g (partitions_of c.args.parts.now) s (events_of c.args.events.now)) is;
      kept = kept-initial g c.args.args.now c.graph.ensures.accepted (state_of c.in_ok-machine.machine) is;
    }

pub loop-event-preserved : goal.loop-event-preserved
loop-event-preserved c =
    let g = c.args.g.now in
    let all = partitions_of c.args.parts.now in
    let n = c.loop-event.event-index in
    let s = state_of c.loop-event.machine in
    let t = state_of c.make_event.new.machine in
    let few : n < 4294967295 = omega (arith, c.loop-event-test.true, c.requires.few) in
    record {
      same = goes-on g all s t c.args.events.now n _ c.in_ok-make_event.field-0 c.loop-event-test.true c.in_ok-make_event.ensures.value c.if-not-branch.false
          ∙ c.loop-event.invariant.same;
      kept = kept-event g c.args.args.now c.graph.ensures.accepted all c.requires.valid n few s t _ c.loop-event.invariant.kept c.in_ok-make_event.field-0
          c.if-not-branch.false c.in_ok-make_event.ensures.value;
    }

pub make_event-requires : goal.make_event-requires
make_event-requires c =
    let s = state_of c.loop-event.machine in
    let kept = c.loop-event.invariant.kept in
    record {
      program = c.in_ok-program.ensures.value ∙ c.graph.ensures.value;
      blocks = blocks-stand c.args.g.now c.args.args.now s kept.sound;
      activations = omega (arith, kept.few_activations, c.loop-event-test.true, c.requires.few);
      arrays = omega (arith, kept.few_arrays, c.loop-event-test.true, c.requires.few);
    }
