use Rattle.std.proofs.Common.{ℕ, [], ◌∷◌, ◌++◌, ap}
use Rattle.tam_msgs.specs.Messages.{site}
use Rattle.rv_inst.specs.declared.inst.Inst.{Inst}
use Rattle.rv_keep.specs.FrameRecords.{number_at}
use Rattle.rv_keep.specs.Expansions.{get, lw, load_number, call_host}
use Rattle.std.proofs.lemmas.Result.{on_ok_weaker}
use Rattle.rv_gen.proofs.Pushing.{Pushes, piece, both}
use Rattle.rv_gen.proofs.expansions.push_ifetch.Goals as goal

pub returns : goal.returns
returns c =
    let element : Pushes c.args.words.now.items c.push_element.new.words.items (get 10 c.args.array ++ get 11 c.args.index) =
    record { pushes = c.in_ok-push_element.ensures.ok } in
    let number : Pushes c.push_element.new.words.items c.push_insts.new.words.items (lw 12 number_at 8 ∷ []) =
    piece c.push_element.new.words.items c.push_insts.new.words.items (c.lw.result ∷ []) (lw 12 number_at 8 ∷ []) c.in_ok-push_insts.ensures.ok
    (ap (λ (i : Inst). i ∷ []) c.lw.ensures.value) in
    let numbers : Pushes c.push_insts.new.words.items c.push_numbers.new.words.items
    (load_number 13 c.args.inlet ++ load_number 14 (site c.args.code c.args.node)) =
    piece c.push_insts.new.words.items c.push_numbers.new.words.items (load_number 13 c.args.inlet ++ load_number 14 c.site.result)
    (load_number 13 c.args.inlet ++ load_number 14 (site c.args.code c.args.node)) c.in_ok-push_numbers.ensures.ok
    (ap (λ (s : ℕ). load_number 13 c.args.inlet ++ load_number 14 s) c.site.ensures.value) in
    let made = both (both element number) numbers in
    let called = piece c.push_numbers.new.words.items c.push_insts-2.new.words.items c.call_host.result (call_host 4) in
    record { ok = on_ok_weaker c.push_insts-2.result (λ e. (both made (called e c.call_host.ensures.value)).pushes) c.push_insts-2.ensures.ok }
