-- A dataflow graph as lists: codes, each a list of nodes over all its blocks.
use Rattle.std.specs.Prelude.{ℕ, zero, suc, ◌^◌, ◌≡◌, ◌<◌, Bool, true, false, ◌&&◌, ◌||◌, not, ◌==◌, List, [], ◌∷◌, filter, Option, Some, None, slice_get}
use Rattle.std.specs.Prelude.{length, count_by, codes}
use Rattle.std.specs.List.{position_or_len}
use Rattle.tam_word.specs.Lists.{below, first_of, same_bytes}
use Rattle.tam_graph.specs.declared.kind.Kind.{Kind}
use Rattle.tam_graph.specs.declared.kind.Kind.TheVariants.{Param, Const, Op as Operate, Seq, Call, Arg, Ret, Give, Alloc, Fetch, Store, Cond, Switch, Merge}
use Rattle.tam_graph.specs.declared.kind.Kind.TheVariants.{Enter, Leave}
use Rattle.tam_graph.specs.declared.node.Node.{Node}

-- the name of the code where a run begins
abbrev pub main_name : List ℕ
main_name = codes "main"

-- a code: its name, its nodes in file order over all its blocks, and for each of its blocks the cond that opens it
pub record Code : Type 0 where
  pub name : List ℕ
  pub nodes : List Node
  pub owners : List (Option ℕ)

-- a graph: its codes in file order, and the number of the code `main`
pub record Graph : Type 0 where
  pub codes : List Code
  pub main : ℕ

-- the number of the first code named `main`, or of codes where none is
abbrev pub main_among : List Code → ℕ
main_among codes = position_or_len (λ c. same_bytes main_name c.name) codes

-- the graph of these codes
abbrev pub graph_of : List Code → Graph
graph_of codes = record { codes = codes; main = main_among codes }

-- a code without nodes and blocks
abbrev pub no_code : Code
no_code = record { name = []; nodes = []; owners = [] }

-- a code, or one without nodes
abbrev pub or_code : Option Code → Code
or_code None = no_code
or_code (Some c) = c

-- code number c of the graph, or one without nodes
abbrev pub code_of : Graph → ℕ → Code
code_of g c = or_code (slice_get g.codes c)

-- what a node that isn't there is taken for: an inlet of a block that isn't there
abbrev pub or_kind : Option Node → Kind
or_kind None = Enter 0
or_kind (Some n) = n.kind

-- what node x of a code does
abbrev pub kind_at : Code → ℕ → Kind
kind_at c x = or_kind (slice_get c.nodes x)

-- a node's block, or 0
abbrev pub or_block : Option Node → ℕ
or_block None = 0
or_block (Some n) = n.block

-- the block of node x
abbrev pub block_at : Code → ℕ → ℕ
block_at c x = or_block (slice_get c.nodes x)

-- a node's depth, or 0
abbrev pub or_depth : Option Node → ℕ
or_depth None = 0
or_depth (Some n) = n.depth

-- the depth of node x
abbrev pub depth_at : Code → ℕ → ℕ
depth_at c x = or_depth (slice_get c.nodes x)

-- the numbers of a code's nodes
abbrev pub node_numbers : Code → List ℕ
node_numbers c = below (length c.nodes)

-- the nodes of a block
abbrev pub nodes_in : Code → ℕ → List ℕ
nodes_in c b = filter (λ x. block_at c x == b) (node_numbers c)

-- the numbers of a code's blocks
abbrev pub blocks_of : Code → List ℕ
blocks_of c = below (length c.owners)

-- the node whose value decides a cond, by what the cond does
abbrev pub test_of_kind : Kind → ℕ
test_of_kind (Cond p y n) = p
test_of_kind _ = 0

-- and by its number
abbrev pub test_of : Code → ℕ → ℕ
test_of c x = test_of_kind (kind_at c x)

-- the operands of a node, in order: the nodes whose values it takes
abbrev pub operands_of : Code → Kind → List ℕ
operands_of c (Operate o a b) = a ∷ b ∷ []
operands_of c (Seq a b) = a ∷ b ∷ []
operands_of c (Arg f k a) = a ∷ f ∷ []
operands_of c (Give k a) = a ∷ []
operands_of c (Alloc n) = n ∷ []
operands_of c (Fetch a i) = a ∷ i ∷ []
operands_of c (Store a i v) = a ∷ i ∷ v ∷ []
operands_of c (Cond p y n) = p ∷ []
operands_of c (Switch d k a) = test_of c d ∷ a ∷ []
operands_of c (Leave k a) = a ∷ []
operands_of c _ = []

-- an ask and an answer stand for these
abbrev pub is_split : Kind → Bool
is_split (Call f) = true
is_split (Alloc n) = true
is_split (Fetch a i) = true
is_split _ = false

-- what comes from outside the block gives the value of such a node
abbrev pub is_inlet : Kind → Bool
is_inlet (Param k) = true
is_inlet (Ret f k) = true
is_inlet (Merge d k) = true
is_inlet (Enter k) = true
is_inlet k = is_split k

-- the node's effect is outside the block
abbrev pub is_outlet : Kind → Bool
is_outlet (Arg f k a) = true
is_outlet (Give k a) = true
is_outlet (Store a i v) = true
is_outlet (Cond p y n) = true
is_outlet (Switch d k a) = true
is_outlet (Leave k a) = true
is_outlet k = is_split k

-- the node has a value
abbrev pub has_value : Kind → Bool
has_value (Const w) = true
has_value (Operate o a b) = true
has_value (Seq a b) = true
has_value k = is_inlet k

-- the node has a vertex that fires: any but what is an inlet alone
abbrev pub fires : Kind → Bool
fires k = is_outlet k || (has_value k && not (is_inlet k))

-- ---- interfaces

-- param k
abbrev pub is_param : ℕ → Kind → Bool
is_param k (Param j) = j == k
is_param k _ = false

-- result k
abbrev pub is_give : ℕ → Kind → Bool
is_give k (Give j a) = j == k
is_give k _ = false

-- ret k of call f
abbrev pub is_ret : ℕ → ℕ → Kind → Bool
is_ret f k (Ret e j) = (e == f) && (j == k)
is_ret f k _ = false

-- merge k of cond d
abbrev pub is_merge : ℕ → ℕ → Kind → Bool
is_merge d k (Merge e j) = (e == d) && (j == k)
is_merge d k _ = false

-- `in` k
abbrev pub is_enter : ℕ → Kind → Bool
is_enter k (Enter j) = j == k
is_enter k _ = false

-- `out` k
abbrev pub is_leave : ℕ → Kind → Bool
is_leave k (Leave j a) = j == k
is_leave k _ = false

-- arg k of call f
abbrev pub is_arg : ℕ → ℕ → Kind → Bool
is_arg f k (Arg e j a) = (e == f) && (j == k)
is_arg f k _ = false

-- switch k of cond d
abbrev pub is_switch : ℕ → ℕ → Kind → Bool
is_switch d k (Switch e j a) = (e == d) && (j == k)
is_switch d k _ = false

-- the first node of a code of whose kind the test holds, as a list of at most one
abbrev pub node_where : Code → (Kind → Bool) → List ℕ
node_where c test = first_of (λ x. test (kind_at c x)) (node_numbers c)

-- the same in one block
abbrev pub node_in : Code → ℕ → (Kind → Bool) → List ℕ
node_in c b test = first_of (λ x. test (kind_at c x)) (nodes_in c b)

-- the code that a call begins, by what the call does
abbrev pub callee_of_kind : Kind → ℕ
callee_of_kind (Call c) = c
callee_of_kind _ = 0

-- and by its number
abbrev pub callee_of : Code → ℕ → ℕ
callee_of c f = callee_of_kind (kind_at c f)

-- an entry of the list of conds, as a list of at most one
abbrev pub one_or_none : Option (Option ℕ) → List ℕ
one_or_none None = []
one_or_none (Some None) = []
one_or_none (Some (Some d)) = d ∷ []

-- the cond that opens a block of a code, as a list of at most one
abbrev pub owner_of : Code → ℕ → List ℕ
owner_of c b = one_or_none (slice_get c.owners b)

-- the branch that a word chooses, by what the cond does
abbrev pub branch_of_kind : Kind → ℕ → ℕ
branch_of_kind (Cond p y n) zero = n
branch_of_kind (Cond p y n) (suc w) = y
branch_of_kind _ w = 0

-- and by its number
abbrev pub chosen_branch : Code → ℕ → ℕ → ℕ
chosen_branch c d w = branch_of_kind (kind_at c d) w

-- how many nodes of a code pass a test
abbrev pub number_of : Code → (Kind → Bool) → ℕ
number_of c test = count_by (λ x. test (kind_at c x)) (node_numbers c)

-- a param
abbrev pub is_any_param : Kind → Bool
is_any_param (Param k) = true
is_any_param _ = false

-- a result
abbrev pub is_any_give : Kind → Bool
is_any_give (Give k a) = true
is_any_give _ = false

-- how many params a code has
abbrev pub params_of : Code → ℕ
params_of c = number_of c is_any_param

-- how many results a code has
abbrev pub results_of : Code → ℕ
results_of c = number_of c is_any_give

-- one word for each param of `main`
pub record AreArguments (g : Graph) (args : List ℕ) : Type 0 where
  pub one_each : length args ≡ params_of (code_of g g.main)
  pub words : (k w : ℕ) → slice_get args k ≡ Some w → w < 2 ^ 32
