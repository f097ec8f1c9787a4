-- What is read of a code, without where it lies.
use Rattle.std.specs.Prelude.{ℕ, List, map}
use Rattle.tam_graph.specs.Graphs.{Code}
use Rattle.tam_read.specs.declared.line.Line.{Line}
use Rattle.tam_read.specs.declared.part.Part.{Part as Fields}
use Rattle.tam_read.specs.LineView.{saying, numbered}
use Rattle.tam_read.specs.Parts.{Part, Piece, code_built}
use Rattle.tam_read.specs.BuildingView.{built_so_far}

-- what is read of a code
abbrev pub part : Fields → Part
part p = record { code = code_built p.name.now (built_so_far p.built); line = p.line; lines = p.lines.items }

-- the code of a line and of the lines behind it
abbrev pub piece : Line → List Line → Piece
piece line body = record { line = line.number; head = saying line; body = map numbered body }

-- the code of what is read
abbrev pub code_of_part : Fields → Code
code_of_part p = code_built p.name.now (built_so_far p.built)

-- its lines
abbrev pub lines_of_part : Fields → ℕ × List ℕ
lines_of_part p = (p.line, p.lines.items)
