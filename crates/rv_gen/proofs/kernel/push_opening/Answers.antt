use Rattle.rv_keep.specs.Expansions.{load_number}
use Rattle.rv_keep.specs.Kernel.{opening}
use Rattle.std.proofs.lemmas.Result.{on_ok_weaker}
use Rattle.rv_gen.proofs.Pushing.{Pushes, piece, both}
use Rattle.rv_gen.proofs.kernel.push_opening.Goals as goal

pub returns : goal.returns
returns c =
    let frames : Pushes c.args.words.now.items c.push_insts.new.words.items (load_number 19 c.args.frames) =
    piece c.args.words.now.items c.push_insts.new.words.items c.load_number.result (load_number 19 c.args.frames) c.in_ok-push_insts.ensures.ok
    c.load_number.ensures.value in
    let stride : Pushes c.push_insts.new.words.items c.push_insts-2.new.words.items (load_number 20 c.args.stride) =
    piece c.push_insts.new.words.items c.push_insts-2.new.words.items c.load_number-2.result (load_number 20 c.args.stride) c.in_ok-push_insts-2.ensures.ok
    c.load_number-2.ensures.value in
    let table : Pushes c.push_insts-2.new.words.items c.push_insts-3.new.words.items (load_number 21 c.args.table) =
    piece c.push_insts-2.new.words.items c.push_insts-3.new.words.items c.load_number-3.result (load_number 21 c.args.table) c.in_ok-push_insts-3.ensures.ok
    c.load_number-3.ensures.value in
    let made = both (both frames stride) table in
    record {
      ok = on_ok_weaker c.push_insts-4.result (λ e.
          (piece c.args.words.now.items c.push_insts-4.new.words.items _ (opening c.args.frames c.args.stride c.args.table c.args.main)
          (both made (record { pushes = e })).pushes (c.opening_behind.ensures.value c.args.frames c.args.stride c.args.table)).pushes)
          c.push_insts-4.ensures.ok;
    }
