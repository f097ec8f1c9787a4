-- What the parts of a graph are printed as.
-- The rule in words: docs/FORMATS.md, "Graph text".
use Rattle.std.specs.Prelude.{ℕ, List, [], ◌++◌, flat_map, codes, Option, Some, None}
use Rattle.tam_graph.specs.declared.kind.Kind.{Kind}
use Rattle.tam_graph.specs.declared.kind.Kind.TheVariants.{Cond}
use Rattle.tam_graph.specs.Graphs.{Code, Graph}
use Rattle.tam_graph.specs.Written.{visits}
use Rattle.tam_graph.specs.Texts.{suffix, line_text, visit_line, code_lines}

-- what stands before the verb of a node's line: its name and its depth, where it has a name
abbrev pub prefix_text : Option (List ℕ) → ℕ → List ℕ
prefix_text None depth = []
prefix_text (Some name) depth = name ++ (suffix depth ++ codes " = ")

-- a block and the blocks in it, down to a nesting
abbrev pub block_text : Graph → Code → ℕ → ℕ → List ℕ
block_text g c nesting b = flat_map (λ v. line_text (visit_line g c v)) (visits nesting c b)

-- what follows the line of a node: nothing, or the branches of a cond
abbrev pub branches_text : Graph → Code → ℕ → Kind → List ℕ
branches_text g c nesting (Cond p y n) = block_text g c nesting y ++ (codes "else\n" ++ (block_text g c nesting n ++ codes "end\n"))
branches_text g c nesting kind = []

-- a code
abbrev pub code_text : Graph → Code → List ℕ
code_text g c = flat_map line_text (code_lines g c)
