use Rattle.std.proofs.Common.{ℕ, ◌≡◌, ◌++◌, ap, ◌∙◌}
use Rattle.tam_msgs.specs.Messages.{site}
use Rattle.rv_keep.specs.Expansions.{get, load_number, call_host}
use Rattle.std.proofs.lemmas.Result.{on_ok_weaker}
use Rattle.rv_gen.proofs.Pushing.{Pushes, piece, both}
use Rattle.rv_gen.proofs.expansions.push_istore.Goals as goal

pub returns : goal.returns
returns c =
    let element : Pushes c.args.words.now.items c.push_element.new.words.items (get 10 c.args.array ++ get 11 c.args.index) =
    record { pushes = c.in_ok-push_element.ensures.ok } in
    let value : Pushes c.push_element.new.words.items c.push_insts.new.words.items (get 12 c.args.a) =
    piece c.push_element.new.words.items c.push_insts.new.words.items c.get.result (get 12 c.args.a) c.in_ok-push_insts.ensures.ok c.get.ensures.value in
    let at : c.load_number.result ≡ load_number 13 (site c.args.code c.args.node) =
    c.load_number.ensures.value ∙ ap (λ (s : ℕ). load_number 13 s) c.site.ensures.value in
    let number : Pushes c.push_insts.new.words.items c.push_insts-2.new.words.items (load_number 13 (site c.args.code c.args.node)) =
    piece c.push_insts.new.words.items c.push_insts-2.new.words.items c.load_number.result (load_number 13 (site c.args.code c.args.node))
    c.in_ok-push_insts-2.ensures.ok at in
    let made = both (both element value) number in
    let called = piece c.push_insts-2.new.words.items c.push_insts-3.new.words.items c.call_host.result (call_host 5) in
    record { ok = on_ok_weaker c.push_insts-3.result (λ e. (both made (called e c.call_host.ensures.value)).pushes) c.push_insts-3.ensures.ok }
