-- What the text of a graph makes sure of, names aside: the order of nodes and blocks, what lines name, and the limits. A block may have
-- 512 vertices here, and 128 in a text.
use Rattle.std.specs.Prelude.{ℕ, zero, suc, ◌^◌, ◌≡◌, Bool, true, false, ◌&&◌, not, nat_lt, nat_le, List, [], ◌∷◌, ◌++◌, flat_map, Option, Some, None, length}
use Rattle.std.specs.Prelude.{zip, sum_by}
use Rattle.tam_word.specs.Lists.{all_of}
use Rattle.tam_graph.specs.declared.kind.Kind.{Kind}
use Rattle.tam_graph.specs.declared.kind.Kind.TheVariants.{Param, Const, Op as Operate, Seq, Call, Arg, Ret, Give, Alloc, Fetch, Store, Cond, Switch, Merge}
use Rattle.tam_graph.specs.declared.kind.Kind.TheVariants.{Enter, Leave}
use Rattle.tam_graph.specs.Graphs.{Code, kind_at, block_at, depth_at, node_numbers, nodes_in, blocks_of, has_value, owner_of, is_split}

-- what a line names
abbrev pub named_by : Kind → List ℕ
named_by (Operate o a b) = a ∷ b ∷ []
named_by (Seq a b) = a ∷ b ∷ []
named_by (Arg f k a) = f ∷ a ∷ []
named_by (Ret f k) = f ∷ []
named_by (Give k a) = a ∷ []
named_by (Alloc n) = n ∷ []
named_by (Fetch a i) = a ∷ i ∷ []
named_by (Store a i v) = a ∷ i ∷ v ∷ []
named_by (Cond p y n) = p ∷ []
named_by (Switch d k a) = d ∷ a ∷ []
named_by (Merge d k) = d ∷ []
named_by (Leave k a) = a ∷ []
named_by _ = []

-- what a code's lines stand for, one each: a node, the `else` of a cond, the `end` of a cond
pub data Visit : Type 0 where
  AtNode : (node : ℕ) → Visit
  AtElse : (cond : ℕ) → Visit
  AtEnd : (cond : ℕ) → Visit

-- behind a cond: its then block, `else`, its else block, `end`
abbrev pub branches : (ℕ → List Visit) → ℕ → Kind → List Visit
branches each x (Cond p y n) = each y ++ (AtElse x ∷ each n ++ AtEnd x ∷ [])
branches each x k = []

-- a block and the blocks in it, in file order
abbrev pub visits : ℕ → Code → ℕ → List Visit
visits zero c b = []
visits (suc fuel) c b = flat_map (λ x. AtNode x ∷ branches (visits fuel c) x (kind_at c x)) (nodes_in c b)

-- the node of a line
abbrev pub node_visited : Visit → List ℕ
node_visited (AtNode x) = x ∷ []
node_visited v = []

-- the block that a cond opens, at its line and at its `else`
abbrev pub opened_by : Code → Visit → List (ℕ × Option ℕ)
opened_by c (AtNode x) = elim (kind_at c x) [ Cond p y n ↦ (y, Some x) ∷ [] | _ ↦ [] ]
opened_by c (AtElse x) = elim (kind_at c x) [ Cond p y n ↦ (n, Some x) ∷ [] | _ ↦ [] ]
opened_by c (AtEnd x) = []

-- the nodes of a block and of the blocks in it, in file order
abbrev pub in_file_order : ℕ → Code → ℕ → List ℕ
in_file_order fuel c b = flat_map node_visited (visits fuel c b)

-- the blocks inside a block in the order in which they open, each with its cond
abbrev pub in_opening_order : ℕ → Code → ℕ → List (ℕ × Option ℕ)
in_opening_order fuel c b = flat_map (opened_by c) (visits fuel c b)

-- the line may name the node as an operand: it has a value, and isn't a call
abbrev pub is_operand : Code → ℕ → Bool
is_operand c a = nat_lt a (length c.nodes) && (has_value (kind_at c a) && not (is_call (kind_at c a)))
  where
    is_call : Kind → Bool
    is_call (Call d) = true
    is_call _ = false

-- the node is a call
abbrev pub is_call_node : Code → ℕ → Bool
is_call_node c f = nat_lt f (length c.nodes) && at (kind_at c f)
  where
    at : Kind → Bool
    at (Call d) = true
    at _ = false

-- the node is a cond
abbrev pub is_cond_node : Code → ℕ → Bool
is_cond_node c d = nat_lt d (length c.nodes) && at (kind_at c d)
  where
    at : Kind → Bool
    at (Cond p y n) = true
    at _ = false

-- a line names nodes of the right kind, and its numbers are in range
abbrev pub is_line : ℕ → Code → Kind → Bool
is_line codes c (Param k) = nat_lt k 64
is_line codes c (Const w) = nat_lt w (2 ^ 32)
is_line codes c (Call d) = nat_lt d codes
is_line codes c (Arg f k a) = is_call_node c f && (is_operand c a && nat_lt k 64)
is_line codes c (Ret f k) = is_call_node c f && nat_lt k 64
is_line codes c (Give k a) = is_operand c a && nat_lt k 64
is_line codes c (Switch d k a) = is_cond_node c d && (is_operand c a && nat_lt k 64)
is_line codes c (Merge d k) = is_cond_node c d && nat_lt k 64
is_line codes c (Enter k) = nat_lt k 64
is_line codes c (Leave k a) = is_operand c a && nat_lt k 64
is_line codes c k = all_of (is_operand c) (named_by k)

-- how many vertices a node has
abbrev pub vertices_at : Code → ℕ → ℕ
vertices_at c x = elim (is_split (kind_at c x)) [ true ↦ 2 | false ↦ 1 ]

-- how many vertices a block has
abbrev pub number_of_vertices : Code → ℕ → ℕ
number_of_vertices c b = sum_by (vertices_at c) (nodes_in c b)

-- how many conds a block stands in
abbrev pub depth_of_block : ℕ → Code → ℕ → ℕ
depth_of_block zero c b = 0
depth_of_block (suc fuel) c b = elim (owner_of c b) [ [] ↦ 0 | d ∷ ds ↦ suc (depth_of_block fuel c (block_at c d)) ]

-- the greatest depth that a node's line may name: 3 where the node gives a value and isn't a call
abbrev pub greatest_depth : Code → ℕ → ℕ
greatest_depth c x = elim (is_operand c x) [ true ↦ 3 | false ↦ 0 ]

-- a code as a text writes it, names aside, with at most 512 vertices in a block and 1,024 in all
pub record IsWritten (codes : ℕ) (c : Code) : Type 0 where
  pub nodes_in_order : in_file_order (length c.owners) c 0 ≡ node_numbers c
  pub blocks_in_order : (0, None) ∷ in_opening_order (length c.owners) c 0 ≡ zip (blocks_of c) c.owners
  pub lines : all_of (λ x. is_line codes c (kind_at c x)) (node_numbers c) ≡ true
  pub depths : all_of (λ x. nat_le (depth_at c x) (greatest_depth c x)) (node_numbers c) ≡ true
  pub shallow : all_of (λ b. nat_lt (depth_of_block (length c.owners) c b) 17) (blocks_of c) ≡ true
  pub small_blocks : all_of (λ b. nat_lt (number_of_vertices c b) 513) (blocks_of c) ≡ true
  pub small : nat_lt (sum_by (number_of_vertices c) (blocks_of c)) 1025 ≡ true
