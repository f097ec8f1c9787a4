use Rattle.std.proofs.Common.{[], ◌∷◌, ◌++◌, refl, ap, slice_index}
use Rattle.rv_inst.specs.declared.inst.Inst.{Inst}
use Rattle.rv_inst.specs.declared.inst.Inst.TheVariants.{Branch, Jal}
use Rattle.rv_inst.specs.declared.branch_name.BranchName.TheVariants.{Beq}
use Rattle.rv_keep.specs.Expansions.{get, forks}
use Rattle.std.proofs.lemmas.Result.{on_ok_weaker}
use Rattle.rv_gen.proofs.Pushing.{Pushes, piece, both}
use Rattle.rv_gen.proofs.expansions.push_switch.Goals as goal

pub returns : goal.returns
returns c =
    let starts = slice_index c.args.starts.now in
    let test : Pushes c.args.words.now.items c.push_test.new.words.items (get 5 c.args.s ++ Branch Beq 5 0 36 ∷ []) =
    record { pushes = c.in_ok-push_test.ensures.ok } in
    let yes : Pushes c.push_test.new.words.items c.push_forks.new.words.items (forks c.args.slots starts c.args.yes) =
    record { pushes = c.in_ok-push_forks.ensures.ok } in
    let jump : Pushes c.push_forks.new.words.items c.push_insts.new.words.items (Jal 0 32 ∷ []) =
    piece c.push_forks.new.words.items c.push_insts.new.words.items (c.jal.result ∷ []) (Jal 0 32 ∷ []) c.in_ok-push_insts.ensures.ok
    (ap (λ (i : Inst). i ∷ []) c.jal.ensures.value) in
    let made = both (both test yes) jump in
    let fork = forks c.args.slots starts c.args.no in
    let forked = piece c.push_insts.new.words.items c.push_forks-2.new.words.items fork fork in
    record { ok = on_ok_weaker c.push_forks-2.result (λ e. (both made (forked e refl)).pushes) c.push_forks-2.ensures.ok }
