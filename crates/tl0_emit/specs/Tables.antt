-- The tables of a code: for each node the numbers that instructions name.
-- The rule in words: docs/THREADS.md, "From graph to threads".
use Rattle.std.specs.Prelude.{ℕ, suc, ◌≡◌, ◌<◌, Bool, true, false, List, map, flat_map, length, slice_index}
use Rattle.tam_word.specs.Lists.{below}
use Rattle.tam_graph.specs.declared.kind.Kind.{Kind}
use Rattle.tam_graph.specs.declared.kind.Kind.TheVariants.{Leave}
use Rattle.tam_graph.specs.Graphs.{Code, kind_at, is_inlet, is_ret, node_where, node_numbers}
use Rattle.tam_split.specs.Partitions.{Parts}
use Rattle.tl0_keep.specs.Compiled.{slot_of, inlet_nodes, inlet_of, place_in, choosing_nodes, thread_of_inlet}
use Rattle.tl0_emit.specs.CodeParts.{CodeParts, its_code, IsCodeOf}
use Rattle.tl0_emit.specs.declared.code_tables.CodeTables.TheInside.{Inside}

-- the code whose tables they are
abbrev pub code_tabled : Inside → CodeParts
code_tabled i = record { graph = i.program.now; code = i.number; parts = i.blocks.parts }

-- an `out`
abbrev pub is_out : Kind → Bool
is_out (Leave k a) = true
is_out _ = false

-- the rets of call f by place
abbrev pub rets_of : Code → ℕ → ℕ → List ℕ
rets_of c f n = flat_map (λ k. node_where c (is_ret f k)) (below n)

-- for each node that has its value from outside there is the thread of its inlet
pub record AreInletThreads (c : Code) (ps : List Parts) (threads : List ℕ) : Type 0 where
  pub each : length threads ≡ length c.nodes
  pub own : (x : ℕ) → x < length c.nodes → is_inlet (kind_at c x) ≡ true → slice_index threads x ≡ thread_of_inlet c ps x

-- the tables are those of the code
pub record AreTablesOf (i : Inside) : Type 0 where
  pub code : IsCodeOf (code_tabled i)
  pub own : i.blocks.code ≡ its_code (code_tabled i)
  pub slots : i.slots.items ≡ map (slot_of i.blocks.code) (below (suc (length i.blocks.code.nodes)))
  pub inlet_nodes : i.inlet_nodes.items ≡ inlet_nodes i.program.now i.blocks.code
  pub inlets : i.inlets.items ≡ map (inlet_of i.program.now i.blocks.code) (node_numbers i.blocks.code)
  pub choices : i.choices.items ≡ map (place_in (choosing_nodes i.blocks.code)) (node_numbers i.blocks.code)
  pub inlet_threads : AreInletThreads i.blocks.code i.blocks.parts i.inlet_threads.items
