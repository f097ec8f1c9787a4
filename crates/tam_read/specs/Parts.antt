-- The codes of a text's lines: each with its own lines, and what is built of them.
use Rattle.std.specs.Prelude.{ℕ, true, false, List, [], ◌∷◌, ◌++◌, map}
use Rattle.tam_graph.specs.Graphs.{Code}
use Rattle.tam_text.specs.Lines.{lines_of}
use Rattle.tam_read.specs.declared.cause.ReadCause.{ReadCause}
use Rattle.tam_read.specs.Sentences.{Sentence, is_code, code_begun}
use Rattle.tam_read.specs.Faults.{sayings, said_from}
use Rattle.tam_read.specs.Tables.{Entries, is_node, nodes_from, codes_from}
use Rattle.tam_read.specs.Naming.{Known, faults_within}
use Rattle.tam_read.specs.Building.{Built, built, nothing_built}

-- lines, each with its number
abbrev pub Numbered : Type 0
Numbered = List (ℕ × Sentence)

-- the lines up to the next code
abbrev pub body_of : Numbered → Numbered
body_of [] = []
body_of (p ∷ ps) = elim (is_code p.1.verb) [ true ↦ [] | false ↦ p ∷ body_of ps ]

-- a code's lines: that of its name, and those up to the next code
pub record Piece : Type 0 where
  pub line : ℕ
  pub head : Sentence
  pub body : Numbered

-- the codes of lines
abbrev pub pieces : Numbered → List Piece
pieces [] = []
pieces (p ∷ ps) = elim (is_code p.1.verb) [ true ↦ record { line = p.0; head = p.1; body = body_of ps } ∷ pieces ps | false ↦ pieces ps ]

-- the names that are known in a code
abbrev pub known_in : Entries → Numbered → Known
known_in codes body = record { nodes = nodes_from 0 (sayings body) []; codes = codes }

-- the faults of codes
abbrev pub faults_of_pieces : Entries → List Piece → List (ℕ × ReadCause)
faults_of_pieces codes [] = []
faults_of_pieces codes (q ∷ qs) = faults_within (known_in codes q.body) q.body ++ faults_of_pieces codes qs

-- the lines of nodes
abbrev pub node_lines : Numbered → List ℕ
node_lines [] = []
node_lines (p ∷ ps) = elim (is_node p.1.verb) [ true ↦ p.0 ∷ node_lines ps | false ↦ node_lines ps ]

-- ---- what is built

-- a code with the lines of its name and of its nodes
pub record Part : Type 0 where
  pub code : Code
  pub line : ℕ
  pub lines : List ℕ

-- the name in a code's first line
abbrev pub or_nameless : List (List ℕ) → List ℕ
or_nameless [] = []
or_nameless (n ∷ ns) = n

-- the code of its lines
abbrev pub code_built : List ℕ → Built → Code
code_built name b = record { name = name; nodes = b.nodes; owners = b.owners }

-- what a code's lines make
abbrev pub part_made : Entries → Piece → Part
part_made codes q = record {
  code = code_built (or_nameless (code_begun q.head)) (built (known_in codes q.body) nothing_built (sayings q.body));
  line = q.line;
  lines = node_lines q.body;
}

-- the names of the codes of lines
abbrev pub codes_in : Numbered → Entries
codes_in ns = codes_from 0 (sayings ns) []

-- what the codes of a text are read into
abbrev pub parts_in : List ℕ → List Part
parts_in bytes = map (part_made (codes_in (said_from 1 (lines_of bytes)))) (pieces (said_from 1 (lines_of bytes)))
