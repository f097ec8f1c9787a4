use Rattle.std.proofs.Common.{◌≡◌, ◌≢◌, ◌∙◌, sym}
use Rattle.tam_eval.specs.GraphRuns.{live_activations}
use Rattle.tam_eval.specs.Machines.{state_of}
use Rattle.tam_eval.specs.Events.{state_with}
use Rattle.tam_eval.proofs.LiveCount.{live-counted}
use Rattle.tam_eval.proofs.Refusals.{refused-full, refused-none}
use Rattle.tam_eval.proofs.delivering.has_room.Goals as goal

pub returns-in-Frame : goal.returns-in-Frame
returns-in-Frame c = record {
  value = λ order printed.
      let g = c.args.program.now in
      let s = state_with (state_of c.args.machine.now) order printed in
      let live = live-counted g s c.args.machine.now.left c.requires.counted.counts c.requires.counted.one_each c.requires.counted.ready in
      let full : live_activations g s ≡ c.args.limits.now.frames = sym live ∙ sym c.live.ensures.value ∙ c.if-live-limits.true in
      refused-full g c.args.limits.now s c.args.message c.in-Frame.code c.in-Frame.frame c.in-Frame.inlet c.in-Frame.is full;
}

pub returns-in_default : goal.returns-in_default
returns-in_default c = record {
  value = λ order printed.
      let g = c.args.program.now in
      let s = state_with (state_of c.args.machine.now) order printed in
      let live = live-counted g s c.args.machine.now.left c.requires.counted.counts c.requires.counted.one_each c.requires.counted.ready in
      let room : live_activations g s ≢ c.args.limits.now.frames = λ e. c.if-live-limits.false (c.live.ensures.value ∙ live ∙ e) in
      refused-none g c.args.limits.now s c.args.message c.in-Frame.code c.in-Frame.frame c.in-Frame.inlet c.in-Frame.is room;
}
