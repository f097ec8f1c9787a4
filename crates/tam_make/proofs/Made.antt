-- The texts of the large inputs read as accepted graphs.
use Rattle.std.proofs.Common.{◌≡◌, ℕ, List, refl, subst}
use Rattle.tam_graph.specs.Graphs.{Graph}
use Rattle.tam_graph.specs.Texts.{canonical}
use Rattle.tam_graph.specs.Reading.{Reads}
use Rattle.tam_print.proofs.ReadsBack.{reads-back}
use Rattle.tam_make.specs.declared.shape.Shape.TheVariants.{Ladder, Wave}
use Rattle.tam_make.specs.MadeTexts.{made_text}
use Rattle.tam_make.specs.MadeGraphs.{MadeTextsAreAccepted}
use Rattle.tam_make.proofs.Fine.{HasFineCodes, fine-of_text, fine-short, fine-accepted}
use Rattle.tam_make.proofs.LadderGraph.{ladder_graph}
use Rattle.tam_make.proofs.LadderFine.{ladder-fine}
use Rattle.tam_make.proofs.LadderText.{ladder-text}
use Rattle.tam_make.proofs.WaveGraph.{wave_graph}
use Rattle.tam_make.proofs.WaveFine.{wave-fine}
use Rattle.tam_make.proofs.WaveText.{wave-text}

-- the canonical text of a graph of fine codes reads as the graph
fine-reads : (g : Graph) → HasFineCodes g → (text : List ℕ) → canonical g ≡ text → Reads text g
fine-reads g fine text is = subst (λ t. Reads t g) is (reads-back g (fine-of_text g fine) (fine-short g fine))

-- each is the text of an accepted graph whose `main` takes one word
pub made-accepted : MadeTextsAreAccepted
made-accepted Ladder n count =
    let fine = ladder-fine n count.0 count.1 in
    (ladder_graph n, fine-reads (ladder_graph n) fine (made_text Ladder n) (ladder-text n count.0 count.1), fine-accepted (ladder_graph n) fine, refl)
made-accepted Wave n count = (wave_graph, fine-reads wave_graph wave-fine (made_text Wave n) wave-text, fine-accepted wave_graph wave-fine, refl)
