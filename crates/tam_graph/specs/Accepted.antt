-- Which graphs are accepted: the rules, node by node, in the order in which their faults are told.
use Rattle.std.specs.Prelude.{ℕ, suc, ◌≡◌, Bool, true, false, ◌&&◌, ◌||◌, not, ◌==◌, nat_lt, List, [], ◌++◌, map, filter, flat_map, length}
use Rattle.tam_word.specs.Lists.{below, any_of, all_of, first_of, has, beyond, where_so}
use Rattle.tam_graph.specs.declared.kind.Kind.{Kind}
use Rattle.tam_graph.specs.declared.kind.Kind.TheVariants.{Param, Const, Op as Operate, Seq, Call, Arg, Ret, Give, Alloc, Fetch, Store, Cond, Switch, Merge}
use Rattle.tam_graph.specs.declared.kind.Kind.TheVariants.{Enter, Leave}
use Rattle.tam_graph.specs.declared.check_cause.CheckCause.{CheckCause}
use Rattle.tam_graph.specs.declared.check_cause.CheckCause.TheVariants.{WrongBlock, PlaceTwice, PlaceRange, PlaceMissing, DepthMismatch, MainType, Cycle}
use Rattle.tam_graph.specs.Graphs.{Code, Graph, code_of, kind_at, block_at, depth_at, node_numbers, nodes_in, operands_of, is_split, callee_of, owner_of}
use Rattle.tam_graph.specs.Graphs.{is_param, is_ret, is_merge, is_enter, is_leave, is_arg, number_of, params_of, results_of}
use Rattle.tam_graph.specs.Edges.{Edges, reaches_itself}
use Rattle.tam_graph.specs.Written.{named_by, IsWritten}

-- ---- blocks

-- params and results stand in block 0, ins and outs in a branch
abbrev pub in_wrong_block : ℕ → Kind → Bool
in_wrong_block b (Param k) = not (b == 0)
in_wrong_block b (Give k a) = not (b == 0)
in_wrong_block b (Enter k) = b == 0
in_wrong_block b (Leave k a) = b == 0
in_wrong_block b _ = false

-- and what a line names stands in the line's block
abbrev pub is_wrong_block : Code → ℕ → Bool
is_wrong_block c x = in_wrong_block (block_at c x) (kind_at c x) || any_of (λ y. not (block_at c y == block_at c x)) (named_by (kind_at c x))

-- ---- places: each interface has each of its places once

-- the two nodes stand for one place of one interface; the Boolean says that they stand in one block
abbrev pub same_place : Bool → Kind → Kind → Bool
same_place b (Param j) (Param k) = j == k
same_place b (Give j a) (Give k c) = j == k
same_place b (Arg f j a) (Arg g k c) = (f == g) && (j == k)
same_place b (Ret f j) (Ret g k) = (f == g) && (j == k)
same_place b (Switch d j a) (Switch e k c) = (d == e) && (j == k)
same_place b (Merge d j) (Merge e k) = (d == e) && (j == k)
same_place b (Enter j) (Enter k) = b && (j == k)
same_place b (Leave j a) (Leave k c) = b && (j == k)
same_place b _ _ = false

-- an earlier node stands for the same place
abbrev pub is_place_twice : Code → ℕ → Bool
is_place_twice c x = any_of (λ y. same_place (block_at c y == block_at c x) (kind_at c y) (kind_at c x)) (below x)

-- a switch of cond d
abbrev pub is_switch_of : ℕ → Kind → Bool
is_switch_of d (Switch e k a) = e == d
is_switch_of d _ = false

-- a merge of cond d
abbrev pub is_merge_of : ℕ → Kind → Bool
is_merge_of d (Merge e k) = e == d
is_merge_of d _ = false

-- the place isn't below the size of its interface
abbrev pub is_place_range : Graph → Code → ℕ → Kind → Bool
is_place_range g c x (Param k) = beyond k (params_of c)
is_place_range g c x (Give k a) = beyond k (results_of c)
is_place_range g c x (Arg f k a) = beyond k (params_of (code_of g (callee_of c f)))
is_place_range g c x (Ret f k) = beyond k (results_of (code_of g (callee_of c f)))
is_place_range g c x (Switch d k a) = beyond k (number_of c (is_switch_of d))
is_place_range g c x (Merge d k) = beyond k (number_of c (is_merge_of d))
is_place_range g c x (Enter k) = any_of (λ d. beyond k (number_of c (is_switch_of d))) (owner_of c (block_at c x))
is_place_range g c x (Leave k a) = any_of (λ d. beyond k (number_of c (is_merge_of d))) (owner_of c (block_at c x))
is_place_range g c x _ = false

-- a code has such a node
abbrev pub has_node : Code → (Kind → Bool) → Bool
has_node c test = any_of (λ x. test (kind_at c x)) (node_numbers c)

-- a block has such a node
abbrev pub has_node_in : Code → ℕ → (Kind → Bool) → Bool
has_node_in c b test = any_of (λ x. test (kind_at c x)) (nodes_in c b)

-- the call lacks an arg for this param, or a ret for this result
abbrev pub lacks_for_call : Code → ℕ → Kind → Bool
lacks_for_call c f (Param k) = not (has_node c (is_arg f k))
lacks_for_call c f (Give k a) = not (has_node c (is_ret f k))
lacks_for_call c f _ = false

-- a branch of the cond lacks an in for this switch, or an out for this merge
abbrev pub lacks_in_branches : Code → ℕ → ℕ → ℕ → Kind → Bool
lacks_in_branches c d y n (Switch e k a) = (e == d) && (not (has_node_in c y (is_enter k)) || not (has_node_in c n (is_enter k)))
lacks_in_branches c d y n (Merge e k) = (e == d) && (not (has_node_in c y (is_leave k)) || not (has_node_in c n (is_leave k)))
lacks_in_branches c d y n _ = false

-- an interface of a call or a cond lacks a place
abbrev pub is_place_missing : Graph → Code → ℕ → Kind → Bool
is_place_missing g c x (Call d) = any_of (λ y. lacks_for_call c x (kind_at (code_of g d) y)) (node_numbers (code_of g d))
is_place_missing g c x (Cond p y n) = any_of (λ z. lacks_in_branches c x y n (kind_at c z)) (node_numbers c)
is_place_missing g c x _ = false

-- ---- depths

-- the depth of each node of the other side of the interface is this one
abbrev pub all_depths : Code → (Kind → Bool) → ℕ → Bool
all_depths c test d = all_of (λ x. depth_at c x == d) (filter (λ x. test (kind_at c x)) (node_numbers c))

-- where the node is result k, its value has depth d
abbrev pub gives_depth : Code → ℕ → ℕ → Kind → Bool
gives_depth c k d (Give j a) = not (j == k) || (depth_at c a == d)
gives_depth c k d _ = true

-- place k goes into block b with depth d
abbrev pub enters_depth : Code → ℕ → ℕ → ℕ → Bool
enters_depth c k d b = all_of (λ x. depth_at c x == d) (filter (λ x. is_enter k (kind_at c x)) (nodes_in c b))

-- and into both branches of a cond
abbrev pub both_enter_depth : Code → ℕ → ℕ → Kind → Bool
both_enter_depth c k d (Cond p y n) = enters_depth c k d y && enters_depth c k d n
both_enter_depth c k d _ = true

-- a node and what it names have the depths that its line asks for
abbrev pub has_right_depth : Graph → Code → ℕ → Kind → Bool
has_right_depth g c x (Const w) = depth_at c x == 0
has_right_depth g c x (Operate o a b) = (depth_at c x == 0) && ((depth_at c a == 0) && (depth_at c b == 0))
has_right_depth g c x (Seq a b) = depth_at c x == depth_at c a
has_right_depth g c x (Call d) = depth_at c x == 0
has_right_depth g c x (Arg f k a) = all_depths (code_of g (callee_of c f)) (is_param k) (depth_at c a)
has_right_depth g c x (Ret f k) =
    all_of (λ y. gives_depth (code_of g (callee_of c f)) k (depth_at c x) (kind_at (code_of g (callee_of c f)) y)) (node_numbers (code_of g (callee_of c f)))
has_right_depth g c x (Alloc n) = (depth_at c n == 0) && (nat_lt 0 (depth_at c x) && nat_lt (depth_at c x) 4)
has_right_depth g c x (Fetch a i) = (depth_at c i == 0) && (depth_at c a == suc (depth_at c x))
has_right_depth g c x (Store a i v) = (depth_at c i == 0) && (depth_at c a == suc (depth_at c v))
has_right_depth g c x (Cond p y n) = depth_at c p == 0
has_right_depth g c x (Switch d k a) = both_enter_depth c k (depth_at c a) (kind_at c d)
has_right_depth g c x (Leave k a) = all_of (λ d. all_depths c (is_merge d k) (depth_at c a)) (owner_of c (block_at c x))
has_right_depth g c x _ = true

-- ---- the root takes and gives words

-- a param or a result of `main` is an array
abbrev pub is_main_type : Code → ℕ → Kind → Bool
is_main_type c x (Param k) = not (depth_at c x == 0)
is_main_type c x (Give k a) = not (depth_at c a == 0)
is_main_type c x _ = false

-- ---- cycles: the least node of a block that reaches itself

-- the edges from a node's operands to it; a node that is cut has none, for what it gives comes from outside the block
abbrev pub edges_to : Code → ℕ → Edges
edges_to c x = elim (is_split (kind_at c x)) [ true ↦ [] | false ↦ map (λ a. (a, x)) (operands_of c (kind_at c x)) ]

-- the edges into the nodes of a block
abbrev pub value_edges : Code → ℕ → Edges
value_edges c b = flat_map (edges_to c) (nodes_in c b)

-- the first node of a block that reaches itself, as a list of at most one
abbrev pub on_cycle : Code → ℕ → List ℕ
on_cycle c b = first_of (reaches_itself (value_edges c b)) (nodes_in c b)

-- the node is that one
abbrev pub is_cycle : Code → ℕ → Bool
is_cycle c x = has (on_cycle c (block_at c x)) x

-- ---- faults

-- the faults of a node, in order
abbrev pub faults_at : Graph → ℕ → ℕ → List CheckCause
faults_at g n x =
    let c = code_of g n in
    let k = kind_at c x in
    where_so (is_wrong_block c x) WrongBlock ++ (where_so (is_place_twice c x) PlaceTwice ++ (where_so (is_place_range g c x k) PlaceRange
    ++ (where_so (is_place_missing g c x k) PlaceMissing ++ (where_so (not (has_right_depth g c x k)) DepthMismatch
    ++ (where_so ((n == g.main) && is_main_type c x k) MainType ++ where_so (is_cycle c x) Cycle)))))

-- the code, the node and the cause of each fault of a node, in file order
abbrev pub faults_of : Graph → List (ℕ × ℕ × CheckCause)
faults_of g = flat_map (λ n. flat_map (λ x. map (λ f. (n, x, f)) (faults_at g n x)) (node_numbers (code_of g n))) (below (length g.codes))

-- a graph that some text within the limits has, without a fault
pub record IsAccepted (g : Graph) : Type 0 where
  pub has_main : nat_lt g.main (length g.codes) ≡ true
  pub few_codes : nat_lt (length g.codes) 257 ≡ true
  pub written : (n : ℕ) → nat_lt n (length g.codes) ≡ true → IsWritten (length g.codes) (code_of g n)
  pub no_fault : faults_of g ≡ []
