use Rattle.std.proofs.Common.{◌≡◌, ◌≤◌, ◌∙◌, sym, subst}
use Rattle.std.specs.Result.{IfOk}
use Rattle.tl0_code.specs.ThreadCode.{Program}
use Rattle.rv_image.specs.ImageFiles.{max_words}
use Rattle.rv_keep.specs.Image.{words_in_all, image_of}
use Rattle.tam_run.proofs.MainParams.{words-few}
use Rattle.tam_run.proofs.compiling.compile_image.Goals as goal

pub generate-requires : goal.generate-requires
generate-requires c =
    let same = c.of-code.ensures.value ∙ c.in_ok-compile.ensures.value in
    let few = words-few c.args.g.now (c.law_file.ensures.file c.args.g.now c.graph-graph.ensures.accepted) in
    record { fits = subst (λ (p : Program). words_in_all p ≤ max_words) (sym same) few }

pub returns : goal.returns
returns c =
    let same = c.of-code.ensures.value ∙ c.in_ok-compile.ensures.value in
    record { value = subst (λ (p : Program). IfOk c.generate.result (λ image. image ≡ image_of p)) same c.generate.ensures.value }
