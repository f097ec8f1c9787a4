-- What the connectors of a code's conds and switches are made of, as tables.
-- The rule in words: docs/THREADS.md, "From graph to threads".
use Rattle.std.specs.Prelude.{ℕ, ◌≡◌, ◌<◌, List, map, length}
use Rattle.std.specs.declared.vec.Vec.{Vec}
use Rattle.std.specs.declared.alloc.Global.{Global}
use Rattle.tam_graph.specs.declared.kind.Kind.TheVariants.{Cond}
use Rattle.tam_graph.specs.Graphs.{Code, kind_at, node_numbers, blocks_of}
use Rattle.tam_split.specs.declared.vertex.Vertex.{Vertex}
use Rattle.tam_split.specs.Partitions.{Parts}
use Rattle.tl0_code.specs.declared.instr.Instr.{Instr}
use Rattle.tl0_keep.specs.Compiled.{block_entry, standing, standing_for, switches_of}
use Rattle.tl0_emit.specs.CodeParts.{CodeParts, its_code}
use Rattle.tl0_emit.specs.declared.connectors.Branches.{Branches}

-- the lists of instructions that lists are seen as
abbrev pub lists_of : List (Vec Instr Global) → List (List Instr)
lists_of lists = map (λ list. list.items) lists

-- how many threads stand for block b of a code
abbrev pub standing_at : Code → List Parts → ℕ → ℕ
standing_at c ps b = standing (length c.owners) c ps b

-- what stands for the node of a vertex, by what stands for each block
abbrev pub at_vertex : Code → (ℕ → ℕ) → Vertex → ℕ
at_vertex c of_block v = standing_for of_block (kind_at c v.node)

-- each branch of a code's conds has a place in a list
abbrev pub HaveBranches : Code → List ℕ → Type 0
HaveBranches c counts = (x p y n : ℕ) → kind_at c x ≡ Cond p y n → (y < length counts) × (n < length counts)

-- the tables are those of a code
pub record AreBranchesOf (t : CodeParts) (b : Branches) : Type 0 where
  pub entries : lists_of b.entries.items ≡ map (block_entry (its_code t) t.parts) (blocks_of (its_code t))
  pub standing : b.standing.items ≡ map (standing_at (its_code t) t.parts) (blocks_of (its_code t))
  pub switches : b.switches.items ≡ map (switches_of (its_code t)) (node_numbers (its_code t))
