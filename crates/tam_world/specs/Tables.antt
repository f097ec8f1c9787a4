-- What the evaluator's tables say of a graph's codes.
use Rattle.std.specs.Prelude.{ℕ, ◌≡◌, ◌≤◌, List, [], Option, Some, None, slice_get, length}
use Rattle.std.specs.declared.vec.Vec.{Vec}
use Rattle.std.specs.declared.alloc.Global.{Global}
use Rattle.tam_graph.specs.Graphs.{Graph, Code, code_of}
use Rattle.tam_world.specs.Takers.{takers_of, firers_in, inlets_in, starters_of}
use Rattle.tam_world.specs.Sought.{inlets_of}
use Rattle.tam_world.specs.Needs.{AreNeedsOf}
use Rattle.tam_world.specs.declared.need.Need.{Need}
use Rattle.tam_world.specs.declared.table.Table.{Table}

-- the items of a vector, or none
abbrev pub items_or_none : Option (Vec ℕ Global) → List ℕ
items_or_none None = []
items_or_none (Some v) = v.items

-- the list at a place, none past the end
abbrev pub listed : List (Vec ℕ Global) → ℕ → List ℕ
listed lists y = items_or_none (slice_get lists y)

-- the takers of a node by a table that may be missing
abbrev pub takers_kept : Option Table → ℕ → List ℕ
takers_kept None y = []
takers_kept (Some t) y = listed t.takers.items y

-- the nodes of a block that fire
abbrev pub firers_kept : Option Table → ℕ → List ℕ
firers_kept None b = []
firers_kept (Some t) b = listed t.firers.items b

-- the inlets of a block
abbrev pub block_inlets_kept : Option Table → ℕ → List ℕ
block_inlets_kept None b = []
block_inlets_kept (Some t) b = listed t.block_inlets.items b

-- the nodes under a number, of those that are looked for
abbrev pub inlets_kept : Option Table → ℕ → List ℕ
inlets_kept None y = []
inlets_kept (Some t) y = listed t.inlets.items y

-- the nodes that may fire as soon as an activation begins
abbrev pub starters_kept : Option Table → List ℕ
starters_kept None = []
starters_kept (Some t) = t.starters.items

-- what each node waits for before it may fire
abbrev pub needs_kept : Option Table → List Need
needs_kept None = []
needs_kept (Some t) = t.needs.items

-- the table is that of a code, which is as short as a text's
pub record IsTableOf (c : Code) (t : Option Table) : Type 0 where
  pub takers : (y : ℕ) → takers_kept t y ≡ takers_of c y
  pub firers : (b : ℕ) → firers_kept t b ≡ firers_in c b
  pub inlets : (y : ℕ) → inlets_kept t y ≡ inlets_of c y
  pub block_inlets : (b : ℕ) → block_inlets_kept t b ≡ inlets_in c b
  pub starters : starters_kept t ≡ starters_of c
  pub needs : AreNeedsOf c (needs_kept t)
  pub few : length c.nodes ≤ 1024

-- each code of the graph has its table
abbrev pub AreTables : Graph → List Table → Type 0
AreTables g tables = (k : ℕ) → IsTableOf (code_of g k) (slice_get tables k)
