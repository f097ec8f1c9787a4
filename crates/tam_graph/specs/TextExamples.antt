-- Texts and reading, by computation, without numbers, since `decimal` stays shut.
use Rattle.std.specs.Prelude.{◌≡◌, ℕ, refl, List, [], ◌∷◌, ◌++◌, Some, None, true, codes}
use Rattle.tam_graph.specs.declared.kind.Kind.TheVariants.{Call}
use Rattle.tam_word.specs.Numbers.{number_behind}
use Rattle.tam_graph.specs.Texts.{canonical, graph_lines}
use Rattle.tam_text.specs.Lines.{token_lines, are_good_bytes}
use Rattle.tam_graph.specs.Reading.{same_lines}
use Rattle.tam_graph.specs.Graphs.{Graph, graph_of}

-- a code that calls itself
abbrev pub itself : Graph
itself = graph_of (record {
  name = codes "main";
  nodes = record { name = Some (codes "f"); depth = 0; block = 0; kind = Call 0 } ∷ [];
  owners = None ∷ [];
} ∷ [])

-- the canonical text, and another text of the same graph
canonical_text : canonical itself ≡ codes "dg 1" ++ (10 ∷ codes "code main" ++ (10 ∷ codes "f = call main" ++ (10 ∷ codes "end" ++ 10 ∷ [])))
canonical_text = refl

-- its lines with blanks, comments, a CR and a tab
abbrev pub other_text : List ℕ
other_text = codes " dg  1 # head" ++ (13 ∷ 10 ∷ codes "# nothing" ++ (10 ∷ 9 ∷ codes "code main" ++ (10 ∷ codes "f = call main" ++ (10 ∷ codes "end"))))

other_reads : (same_lines (token_lines other_text) (graph_lines itself) ≡ true) × (are_good_bytes other_text ≡ true)
other_reads = (refl, refl)

hexadecimal_letters : number_behind 16 0 (codes "fFfF") ≡ 65535
hexadecimal_letters = refl
