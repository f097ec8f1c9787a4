-- The graph and the lines of what was read.
use Rattle.std.proofs.Common.{◌≡◌, ℕ, suc, ◌+◌, ◌<◌, ◌≤◌, List, [], ◌∷◌, ◌++◌, length, map, Some, refl, sym, ap, ap₂, subst, ◌∙◌, arith}
use Rattle.std.specs.Prelude.{slice_get}
use Rattle.std.proofs.lemmas.List.{length-append}
use Rattle.tam_graph.specs.Graphs.{Code, Graph, graph_of, code_of, or_code}
use Rattle.tam_graph.specs.Reading.{IsCode, IsCodeOfText, IsOfText, Reads}
use Rattle.tam_read.specs.declared.part.Part.{Part as Fields}
use Rattle.tam_read.specs.Faults.{faults}
use Rattle.tam_text.specs.Lines.{lines_of}
use Rattle.tam_read.specs.Faults.{said_from}
use Rattle.tam_read.specs.Tables.{Entries}
use Rattle.tam_read.specs.Parts.{Part, Piece, parts_in, part_made, pieces, node_lines, codes_in}
use Rattle.tam_read.specs.PartView.{part, code_of_part, lines_of_part}
use Rattle.tam_read.specs.Placed.{lines_in}
use Rattle.tam_read.proofs.ReadCodes.{codes_read}
use Rattle.tam_read.specs.declared.cause.ReadCause.{ReadCause}
use Rattle.tam_read.specs.declared.refused.Refused.{Refused}
use Rattle.tam_read.specs.declared.refused.Refused.TheVariants.{At, NoMemory}
use Rattle.tam_read.specs.Refusals.{IsFirst}
use Rattle.tam_read.proofs.Complete.{complete}
use Rattle.tam_read.proofs.OfText.{faultless-reads}

-- an element behind others stands at their number
at-prefix : (prefix : List Code) (c : Code) (back : List Code) → slice_get (prefix ++ c ∷ back) (length prefix) ≡ Some c
at-prefix [] c back = refl
at-prefix (f ∷ fs) c back = at-prefix fs c back

-- a code of a graph of a text is a code of a text
pub code-of-text : (prefix : List Code) (c : Code) (back all : List Code) → prefix ++ c ∷ back ≡ all → IsOfText (graph_of all) → IsCode c
code-of-text prefix c back all parts of =
    let long : length prefix + suc (length back) ≡ length all = sym (length-append prefix (c ∷ back)) ∙ ap length parts in
    let is : code_of (graph_of all) (length prefix) ≡ c = ap (λ cs. or_code (slice_get cs (length prefix))) (sym parts)
    ∙ ap or_code (at-prefix prefix c back) in
    (length all, of.few_codes, subst (λ d. IsCodeOfText (length all) d) is (of.each_code (length prefix) (omega arith)))

-- the codes of what was read
codes-of-parts : (ps : List Fields) → map code_of_part ps ≡ map (λ p. p.code) (map part ps)
codes-of-parts [] = refl
codes-of-parts (p ∷ ps) = ap (λ cs. code_of_part p ∷ cs) (codes-of-parts ps)

-- and their lines
lines-of-parts : (ps : List Fields) → map lines_of_part ps ≡ map (λ p. (p.line, p.lines)) (map part ps)
lines-of-parts [] = refl
lines-of-parts (p ∷ ps) = ap (λ ls. lines_of_part p ∷ ls) (lines-of-parts ps)

-- the lines of what is made of codes are those of the codes
lines-of-pieces : (codes : Entries) (qs : List Piece) → map {B = ℕ × List ℕ} (λ p. (p.line, p.lines)) (map (part_made codes) qs)
    ≡ map (λ q. (q.line, node_lines q.body)) qs
lines-of-pieces codes [] = refl
lines-of-pieces codes (q ∷ qs) = ap (λ ls. (q.line, node_lines q.body) ∷ ls) (lines-of-pieces codes qs)

-- the codes of a text
pub codes-are : (bytes : List ℕ) (ps : List Fields) → map part ps ≡ parts_in bytes → map code_of_part ps ≡ codes_read bytes
codes-are bytes ps e = codes-of-parts ps ∙ ap (map (λ p. p.code)) e

-- and the lines of their places
pub lines-are : (bytes : List ℕ) (ps : List Fields) → map part ps ≡ parts_in bytes → map lines_of_part ps ≡ lines_in bytes
lines-are bytes ps e =
    lines-of-parts ps ∙ (ap (map (λ p. (p.line, p.lines))) e ∙ lines-of-pieces (codes_in (said_from 1 (lines_of bytes)))
    (pieces (said_from 1 (lines_of bytes))))

-- the text reads as their graph
pub parts-read : (bytes : List ℕ) (ps : List Fields) → map part ps ≡ parts_in bytes → faults bytes ≡ [] → Reads bytes (graph_of (map code_of_part ps))
parts-read bytes ps e none = subst (λ cs. Reads bytes (graph_of cs)) (sym (codes-are bytes ps e)) (faultless-reads bytes none)

-- a text that reads as a graph is refused for want of memory alone
pub only-memory : (bytes : List ℕ) (g : Graph) → Reads bytes g → (e : Refused) → IsFirst (faults bytes) e → e ≡ NoMemory
only-memory bytes g r e h = none e (subst (λ fs. IsFirst fs e) (complete bytes g r).0 h)
  where
    none : (e : Refused) → IsFirst [] e → e ≡ NoMemory
    none (At line cause) k = absurd cc
    none NoMemory k = refl

-- and read as that graph
pub only-graph : (bytes : List ℕ) (ps : List Fields) → map part ps ≡ parts_in bytes → (g : Graph) → Reads bytes g → graph_of (map code_of_part ps) ≡ g
only-graph bytes ps e g r = ap graph_of (codes-are bytes ps e) ∙ sym (complete bytes g r).1
