use Rattle.std.proofs.Common.{◌≡◌, ◌∙◌, sym, ap, not, ◌++◌, ◌∷◌, [], refl}
use Rattle.tam_split.specs.GraphPartitions.{firing_order}
use Rattle.tam_judge.specs.Machines.{state_of}
use Rattle.tam_judge.proofs.CheckedRuns.{inlet-missing, class-missing, class-ran, run-noted}
use Rattle.tam_judge.proofs.journal.run_if_ready.Goals as goal
use Rattle.tam_judge.proofs.journal.run_if_ready.Goals.{then-not-inlets_have_words-via-then-not-inlets_have_words}
use Rattle.tam_judge.proofs.journal.run_if_ready.Goals.{then-not-inlets_have_words-via-else-not-inlets_have_words+then-not-those_before_ran}

pub returns-then-not-inlets_have_words : goal.returns-then-not-inlets_have_words
returns-then-not-inlets_have_words c =
    let s = state_of c.args.machine.now in
    let r = c.args.run in
    record {
      value = λ all are. elim c.then-not-inlets_have_words.branch [
        | then-not-inlets_have_words-via-then-not-inlets_have_words w ↦ inlet-missing c.args.program.now all s r.act r.block r.class c.args.parts.now
            c.args.block.now c.class-class.result.now are c.requires.block c.class-class.ensures.value
            (sym c.inlets_have_words.ensures.value ∙ w.if-not-inlets_have_words.true)
        | then-not-inlets_have_words-via-else-not-inlets_have_words+then-not-those_before_ran w ↦ class-missing c.args.program.now all s r.act r.block r.class
            c.args.parts.now c.args.block.now c.class-class.result.now are c.requires.block c.class-class.ensures.value
            (sym w.those_before_ran.ensures.value ∙ w.if-not-those_before_ran.true)
      ];
    }

pub returns : goal.returns
returns c =
    let s = state_of c.args.machine.now in
    let t = state_of c.fire_places.new.machine in
    let r = c.args.run in
    let order_is : c.in_ok-order.order.items ≡ firing_order c.args.block.now.edges c.class-class.result.now =
    rw c.edges.ensures.value at c.in_ok-order.ensures.value in
    let pushed : c.push.new.self.items ≡ c.fire_places.new.machine.ran.items ++ r ∷ [] = c.in_ok-push.ensures.items in
    record {
      value = λ all are.
          class-ran c.args.program.now all s r.act r.block r.class c.args.parts.now c.args.block.now c.class-class.result.now are c.requires.block
          c.class-class.ensures.value c.in_ok-order.order.items t _ c.requires.may (sym c.inlets_have_words.ensures.value ∙ c.if-not-inlets_have_words.false)
          (sym c.those_before_ran.ensures.value ∙ c.if-not-those_before_ran.false) order_is (rw c.deref.ensures.value at c.in_ok-fire_places.ensures.ok)
          (run-noted t c.fire_places.new.machine.ran.items c.push.new.self.items r refl pushed);
    }
