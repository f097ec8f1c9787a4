-- The thread code and the machine code of a graph take as many arguments as the graph.
use Rattle.std.proofs.Common.{◌≡◌, ◌≤◌, ◌∙◌, length, ap, subst}
use Rattle.tam_word.proofs.Tests.{test-below}
use Rattle.tam_graph.specs.Graphs.{Graph, code_of, params_of}
use Rattle.tam_graph.specs.Accepted.{IsAccepted}
use Rattle.tl0_code.specs.ThreadCode.{CodeText, code_text}
use Rattle.tl0_keep.specs.Compiled.{compiled}
use Rattle.rv_image.specs.ImageFiles.{IsImage, max_words}
use Rattle.rv_keep.specs.Image.{words_in_all, image_of}
use Rattle.rv_keep.proofs.ImageLengths.{image-long}
use Rattle.tl0_keep.proofs.giving.Texts.{main-same, text-there}

-- its `main` has as many params
pub params-same : (g : Graph) → IsAccepted g → (code_text (compiled g) (compiled g).main).params ≡ params_of (code_of g g.main)
params-same g accepted = ap (λ n. (code_text (compiled g) n).params) (main-same g)
    ∙ ap (λ (t : CodeText). t.params) (text-there g g.main (test-below g.main (length g.codes) accepted.has_main))

-- and so has its image
pub image_params-same : (g : Graph) → IsAccepted g → (image_of (compiled g)).params ≡ params_of (code_of g g.main)
unfolding image_of
image_params-same g accepted = params-same g accepted

-- an image in its ranges has few words
pub words-few : (g : Graph) → IsImage (image_of (compiled g)) → words_in_all (compiled g) ≤ max_words
unfolding image_of
words-few g is = subst (λ n. n ≤ max_words) (image-long (compiled g)) is.words
