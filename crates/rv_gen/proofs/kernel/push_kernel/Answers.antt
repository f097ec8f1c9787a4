use Rattle.rv_keep.specs.Kernel.{opening, resting, polling, beginning, filling, delivering, post, running, stopping, clearing}
use Rattle.std.proofs.lemmas.Result.{on_ok_weaker}
use Rattle.rv_gen.proofs.Pushing.{Pushes, piece, both}
use Rattle.rv_gen.proofs.kernel.push_kernel.Goals as goal

pub returns : goal.returns
returns c =
    let w1 = c.push_opening.new.words.items in
    let w2 = c.push_insts.new.words.items in
    let w3 = c.push_insts-2.new.words.items in
    let w4 = c.push_beginning.new.words.items in
    let w5 = c.push_insts-3.new.words.items in
    let w6 = c.push_delivering.new.words.items in
    let w7 = c.push_insts-4.new.words.items in
    let w8 = c.push_insts-5.new.words.items in
    let w9 = c.push_insts-6.new.words.items in
    let opens : Pushes c.args.words.now.items w1 (opening c.args.frames c.args.stride c.args.table c.args.main) =
    record { pushes = c.in_ok-push_opening.ensures.ok } in
    let rests = piece w1 w2 c.resting.result resting c.in_ok-push_insts.ensures.ok c.resting.ensures.value in
    let polls = piece w2 w3 c.polling.result polling c.in_ok-push_insts-2.ensures.ok c.polling.ensures.value in
    let begins : Pushes w3 w4 beginning = record { pushes = c.in_ok-push_beginning.ensures.ok } in
    let fills = piece w4 w5 c.filling.result filling c.in_ok-push_insts-3.ensures.ok c.filling.ensures.value in
    let delivers : Pushes w5 w6 delivering = record { pushes = c.in_ok-push_delivering.ensures.ok } in
    let posts = piece w6 w7 c.post.result post c.in_ok-push_insts-4.ensures.ok c.post.ensures.value in
    let runs = piece w7 w8 c.running.result running c.in_ok-push_insts-5.ensures.ok c.running.ensures.value in
    let stops = piece w8 w9 c.stopping.result stopping c.in_ok-push_insts-6.ensures.ok c.stopping.ensures.value in
    let made = both (both (both (both (both (both (both (both opens rests) polls) begins) fills) delivers) posts) runs) stops in
    record {
      ok = on_ok_weaker c.push_insts-7.result (λ e.
          (both made (piece w9 c.push_insts-7.new.words.items c.clearing.result clearing e c.clearing.ensures.value)).pushes) c.push_insts-7.ensures.ok;
    }
