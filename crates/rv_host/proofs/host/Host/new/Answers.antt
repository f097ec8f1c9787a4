use Rattle.std.proofs.Common.{◌∙◌, sym, ap, subst, refl, [], ◌∷◌, length, false}
use Rattle.std.proofs.lemmas.List.{length-replicate}
use Rattle.rv_inst.specs.Images.{hart_opening}
use Rattle.rv_host.specs.LiveFrames.{AreLive}
use Rattle.rv_host.specs.HostStates.{SeenHost, host_with, AreMarked}
use Rattle.rv_host.proofs.Numbering.{live-first}
use Rattle.rv_host.proofs.Printing.{none-marked}
use Rattle.rv_host.proofs.host.Host.new.Goals as goal

pub returns : goal.returns
returns c =
    let limits = c.args.limits in
    let seen = c.in_ok-state.ensures.value in
    record {
      value = record {
        opening = λ image order. ap (λ (x : SeenHost). host_with x (hart_opening image limits.frames) order [] (0 ∷ [])) seen;
        are_live = subst (λ (x : SeenHost). AreLive x.numbers (0 ∷ [])) (sym seen) (live-first limits.frames c.requires.limits.some_frame);
        are_marked = subst (λ (x : SeenHost). AreMarked x.marks []) (sym seen) (none-marked c.args.results);
        as_many = ap (λ (x : SeenHost). length x.marks) seen ∙ length-replicate c.args.results false;
        limited = refl;
        instructions = refl;
        goes = refl;
      };
    }
