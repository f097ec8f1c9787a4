-- The lines of places, without where they lie.
use Rattle.std.specs.Prelude.{ℕ, List, map}
use Rattle.tam_read.specs.declared.placed.CodeLines.{CodeLines}
use Rattle.tam_read.specs.declared.placed.Lines.TheInside.{Inside}
use Rattle.tam_read.specs.Placed.{PlaceLines}

-- those of a code
abbrev pub of_code : CodeLines → ℕ × List ℕ
of_code c = (c.line, c.nodes.items)

-- those of a graph
abbrev pub placed : Inside → PlaceLines
placed l = map of_code l.codes.items
