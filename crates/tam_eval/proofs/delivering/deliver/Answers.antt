use Rattle.std.proofs.Common.{◌≡◌, [], length, ap, refl, Err, arith, rules}
use Rattle.tam_world.specs.Worlds.{World}
use Rattle.tam_world.proofs.Kept.{on_ok}
use Rattle.tam_eval.specs.Machines.{state_of}
use Rattle.tam_eval.specs.Events.{state_with}
use Rattle.tam_eval.proofs.Stepping.{outcome-refused, outcome-settled}
use Rattle.tam_eval.proofs.Refusals.{room-cells}
use Rattle.tam_eval.proofs.CountedMachines.{counted-covers, counted-then, counted-world}
use Rattle.tam_eval.proofs.delivering.deliver.Goals as goal

pub returns-clause-outcome : goal.returns-clause-outcome
returns-clause-outcome c = λ order printed.
    outcome-settled c.args.program.now c.args.limits.now (state_of c.args.machine.now) c.args.message order printed
    (c.in_ok-has_room.ensures.value order printed)
    c.deliver.new.self c.in_ok-delivery.delivery (state_of c.settle.new.machine) c.settle.result c.in_ok-delivery.ensures.cells.activations
    c.in_ok-delivery.ensures.kept c.in_ok-delivery.ensures.value (c.settle.ensures.outcome order printed)

-- the world that the delivery leaves has the activations of the one before
same-count : (v w : World) → v.activations ≡ w.activations → length v.activations ≡ length w.activations
same-count v w same = ap length same

pub settle-requires : goal.settle-requires
settle-requires c =
    let count = same-count c.deliver.new.self c.args.machine.now.world c.in_ok-delivery.ensures.cells.activations in
    record {
      few = omega (arith, count, c.requires.begun, c.requires.events, c.requires.limits.budget);
      covered = counted-covers c.args.program.now (record c.args.machine.now { world = c.deliver.new.self })
          (counted-world c.args.program.now c.args.machine.now c.deliver.new.self c.in_ok-delivery.ensures.cells.activations c.requires.counted);
    }

pub returns-clause-counted : goal.returns-clause-counted
returns-clause-counted c =
    on_ok c.settle.result (counted-then c.args.program.now (record c.args.machine.now { world = c.deliver.new.self }) c.settle.new.machine
    (counted-world c.args.program.now c.args.machine.now c.deliver.new.self c.in_ok-delivery.ensures.cells.activations c.requires.counted))
    c.settle.ensures.counts

pub returns-in_err-has_room-clause-outcome : goal.returns-in_err-has_room-clause-outcome
returns-in_err-has_room-clause-outcome c = λ order printed.
    let given : c.from_residual.result ≡ Err c.in_err-has_room.field-0.0 = search rules in
    rw given (outcome-refused c.args.program.now c.args.limits.now (state_of c.args.machine.now) c.args.message order printed c.in_err-has_room.field-0.0
    (c.in_err-has_room.ensures.value order printed))

pub returns-in_err-delivery-clause-within : goal.returns-in_err-delivery-clause-within
returns-in_err-delivery-clause-within c =
    let count = same-count c.deliver.new.self c.args.machine.now.world c.in_err-delivery.ensures.cells.activations in
    let room = room-cells c.args.program.now c.args.limits.now (state_with (state_of c.args.machine.now) [] []) c.args.message
    (c.in_ok-has_room.ensures.value [] []) c.requires.cells in
    record {
      activations = omega (arith, count, c.requires.begun);
      few_arrays = c.in_err-delivery.ensures.cells.arrays;
      cells = omega (arith, c.in_err-delivery.ensures.cells.used, room);
      events_kept = refl;
    }

pub returns-clause-within : goal.returns-clause-within
returns-clause-within c =
    let count = same-count c.deliver.new.self c.args.machine.now.world c.in_ok-delivery.ensures.cells.activations in
    let room = room-cells c.args.program.now c.args.limits.now (state_with (state_of c.args.machine.now) [] []) c.args.message
    (c.in_ok-has_room.ensures.value [] []) c.requires.cells in
    let arrays = c.settle.ensures.sizes.arrays_kept in
    record {
      activations = omega (
        arith,
        count,
        c.requires.begun,
        c.settle.ensures.sizes.few_activations,
        c.in_ok-delivery.ensures.begins,
        c.settle.ensures.sizes.events_kept,
      );
      few_arrays = rw arrays c.in_ok-delivery.ensures.cells.arrays;
      cells = rw arrays (let used = c.in_ok-delivery.ensures.cells.used in omega arith);
      events_kept = c.settle.ensures.sizes.events_kept;
    }
