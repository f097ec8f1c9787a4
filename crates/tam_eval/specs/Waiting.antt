-- The vertices that each activation has left, and what the evaluator keeps of them: how many they are.
use Rattle.std.specs.Prelude.{ℕ, ◌+◌, ◌≡◌, ◌≤◌, Bool, true, false, not, ◌&&◌, ◌==◌, List, slice_index_or, length}
use Rattle.std.specs.Prelude.{count_by, nat_lt}
use Rattle.tam_word.specs.Lists.{all_of}
use Rattle.tam_graph.specs.Graphs.{Graph, kind_at, block_at, fires, is_inlet, node_numbers}
use Rattle.tam_world.specs.Worlds.{World, its_code, has_word, has_entered}
use Rattle.tam_eval.specs.GraphRuns.{is_enabled}
use Rattle.tam_eval.specs.Machines.{EvalState, state_of}
use Rattle.tam_eval.specs.declared.machine.Machine.{Machine}

-- ---- the vertices that are left

-- the value of node y of activation i comes from outside its block, which was entered
abbrev pub is_awaited : Graph → World → ℕ → ℕ → Bool
is_awaited g w i y = elim (nat_lt y (length (its_code g w i).nodes)) [
  | true ↦ is_inlet (kind_at (its_code g w i) y) && has_entered w i (block_at (its_code g w i) y)
  | false ↦ false
]

-- node x of activation i, in a block that was entered, fires and may not yet
abbrev pub is_unfed : Graph → World → ℕ → ℕ → Bool
is_unfed g w i x = elim (has_entered w i (block_at (its_code g w i) x)) [
  | true ↦ fires (kind_at (its_code g w i) x) && not (is_enabled g w i x)
  | false ↦ false
]

-- node x of activation i, in a block that was entered, has no value, which comes from outside the block
abbrev pub is_empty_inlet : Graph → World → ℕ → ℕ → Bool
is_empty_inlet g w i x = elim (has_entered w i (block_at (its_code g w i) x)) [
  | true ↦ is_inlet (kind_at (its_code g w i) x) && not (has_word w i x)
  | false ↦ false
]

-- how many vertices activation i has left: those that are ready, those that may not fire yet, and the inlets without a value
abbrev pub vertices_left : Graph → World → List (ℕ × ℕ) → ℕ → ℕ
vertices_left g w ready i =
    count_by (λ r. r.0 == i) ready
    + (count_by (is_unfed g w i) (node_numbers (its_code g w i)) + count_by (is_empty_inlet g w i) (node_numbers (its_code g w i)))

-- how many the machine's activation i has left
abbrev pub left_in : Graph → Machine → ℕ → ℕ
left_in g m i = vertices_left g (state_of m).world (state_of m).ready i

-- and how many are counted of it
abbrev pub counted_left : Machine → ℕ → ℕ
counted_left m i = slice_index_or m.left i 0

-- ---- counts

-- what is ready may fire
abbrev pub MayFire : Graph → Machine → Type 0
MayFire g m = all_of (λ v. is_enabled g (state_of m).world v.0 v.1) (state_of m).ready ≡ true

-- of each activation that has begun so many vertices are counted as are left, and what is ready may fire
pub record IsCounted (g : Graph) (m : Machine) : Type 0 where
  pub counts : (i : ℕ) → counted_left m i ≡ left_in g m i
  pub one_each : length m.left ≡ length (state_of m).world.activations
  pub ready : MayFire g m

-- the same, but that of an activation one more may be counted than is left
pub record IsCovered (g : Graph) (m : Machine) : Type 0 where
  pub least : (i : ℕ) → left_in g m i ≤ counted_left m i
  pub most : (i : ℕ) → counted_left m i ≤ left_in g m i + 1
  pub one_each : length m.left ≡ length (state_of m).world.activations

-- from one state and what is counted in it to another: what is counted has changed as what is left has
pub record Keeps (g : Graph) (old new : EvalState) (counted counted_new : List ℕ) : Type 0 where
  pub counts : (i : ℕ) → slice_index_or counted_new i 0 + vertices_left g old.world old.ready i
      ≡ slice_index_or counted i 0 + vertices_left g new.world new.ready i
  pub one_each : length counted_new + length old.world.activations ≡ length counted + length new.world.activations
  pub ready : all_of (λ v. is_enabled g old.world v.0 v.1) old.ready ≡ true → all_of (λ v. is_enabled g new.world v.0 v.1) new.ready ≡ true

-- so it is from one machine to another
abbrev pub KeepsCounts : Graph → Machine → Machine → Type 0
KeepsCounts g old new = Keeps g (state_of old) (state_of new) old.left new.left
