-- Which node is looked for, by what it does, and among which it stands.
use Rattle.std.specs.Prelude.{ℕ, Bool, false, ◌==◌, ◌&&◌, ◌*◌, ◌%◌, bit_xor, List, filter}
use Rattle.tam_word.specs.Lists.{first_of}
use Rattle.tam_graph.specs.declared.kind.Kind.{Kind}
use Rattle.tam_graph.specs.declared.kind.Kind.TheVariants.{Param as Param_node, Ret as Ret_node, Merge as Merge_node, Enter as Enter_node}
use Rattle.tam_graph.specs.Graphs.{Code, kind_at, block_at, node_numbers, is_param, is_ret, is_merge, is_enter}
use Rattle.tam_world.specs.declared.finding.Sought.{Sought}
use Rattle.tam_world.specs.declared.finding.Sought.TheVariants.{Param, Ret, Merge, Enter}

-- a node of this kind in this block is what is looked for
abbrev pub is_sought : Sought → ℕ → Kind → Bool
is_sought (Param k) b kind = is_param k kind
is_sought (Ret f k) b kind = is_ret f k kind
is_sought (Merge d k) b kind = is_merge d k kind
is_sought (Enter c k) b kind = (b == c) && is_enter k kind

-- the first node of a code that is what is looked for, as a list of at most one
abbrev pub sought_in : Code → Sought → List ℕ
sought_in c sought = first_of (λ x. is_sought sought (block_at c x) (kind_at c x)) (node_numbers c)

-- the number under which an `in` is kept: of few blocks and places each two have their own
abbrev pub enter_key : ℕ → ℕ → ℕ
enter_key b k = bit_xor b (k % 64 * 8)

-- the number under which it is kept: a param's place, a ret's call, a merge's cond, an `in`'s block and place
abbrev pub key_of : Sought → ℕ
key_of (Param k) = k
key_of (Ret f k) = f
key_of (Merge d k) = d
key_of (Enter c k) = enter_key c k

-- a node of this kind in this block is kept under the number
abbrev pub is_keyed : ℕ → ℕ → Kind → Bool
is_keyed y b (Param_node k) = k == y
is_keyed y b (Ret_node f k) = f == y
is_keyed y b (Merge_node d k) = d == y
is_keyed y b (Enter_node k) = enter_key b k == y
is_keyed y b _ = false

-- the nodes kept under a number, rising
abbrev pub inlets_of : Code → ℕ → List ℕ
inlets_of c y = filter (λ x. is_keyed y (block_at c x) (kind_at c x)) (node_numbers c)
