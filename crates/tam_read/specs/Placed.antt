-- The lines of the places of a graph: for each code the line of its name, and those of its nodes.
use Rattle.std.specs.Prelude.{ℕ, List, [], ◌∷◌, map, slice_get, Option, Some, None}
use Rattle.tam_graph.specs.declared.place.Place.{Place}
use Rattle.tam_graph.specs.declared.place.Place.TheVariants.{File, Code, Node}
use Rattle.tam_text.specs.Lines.{lines_of}
use Rattle.tam_read.specs.Faults.{said_from}
use Rattle.tam_read.specs.Parts.{pieces, node_lines}

-- for each code its line and those of its nodes
abbrev pub PlaceLines : Type 0
PlaceLines = List (ℕ × List ℕ)

-- a line, or that of the file
abbrev pub or_first : Option ℕ → ℕ
or_first None = 1
or_first (Some line) = line

-- the line of a code
abbrev pub code_line : Option (ℕ × List ℕ) → ℕ
code_line None = 1
code_line (Some lines) = lines.0

-- and of one of its nodes
abbrev pub node_line : Option (ℕ × List ℕ) → ℕ → ℕ
node_line None x = 1
node_line (Some lines) x = or_first (slice_get lines.1 x)

-- the line of a place; the file, and a place that isn't there, stand at line 1
abbrev pub line_at : PlaceLines → Place → ℕ
line_at lines File = 1
line_at lines (Code c) = code_line (slice_get lines c)
line_at lines (Node c x) = node_line (slice_get lines c) x

-- the lines of the places of the graph that a text reads as: the c-th code stands at the c-th line that begins one, and its x-th node at the x-th node
-- line behind that
abbrev pub lines_in : List ℕ → PlaceLines
lines_in bytes = map (λ q. (q.line, node_lines q.body)) (pieces (said_from 1 (lines_of bytes)))
