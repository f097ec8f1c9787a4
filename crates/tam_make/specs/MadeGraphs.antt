-- What the texts of the large inputs read as.
use Rattle.std.specs.Prelude.{ℕ, ◌≡◌}
use Rattle.tam_graph.specs.Graphs.{Graph, code_of, params_of}
use Rattle.tam_graph.specs.Reading.{Reads}
use Rattle.tam_graph.specs.Accepted.{IsAccepted}
use Rattle.tam_make.specs.declared.shape.Shape.{Shape}
use Rattle.tam_make.specs.MadeTexts.{IsCount, made_text}

-- each is the text of an accepted graph whose `main` takes one word
abbrev pub MadeTextsAreAccepted : Type 0
MadeTextsAreAccepted = (shape : Shape) (n : ℕ) → IsCount shape n
    → (g : Graph) × Reads (made_text shape n) g × IsAccepted g × (params_of (code_of g g.main) ≡ 1)
