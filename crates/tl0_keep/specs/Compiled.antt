-- The thread code of a graph, by thread number.
-- The rule in words: docs/THREADS.md, "From graph to threads".
use Rattle.std.specs.Prelude.{ℕ, zero, suc, ◌+◌, ◌*◌, Bool, true, false, ◌&&◌, ◌==◌, List, [], ◌∷◌, ◌++◌, map, filter, flat_map, slice_get, length}
use Rattle.std.specs.Prelude.{count_by, sum_by}
use Rattle.std.specs.Prelude.{zip}
use Rattle.tam_word.specs.Lists.{below}
use Rattle.tam_graph.specs.declared.kind.Kind.{Kind}
use Rattle.tam_graph.specs.declared.kind.Kind.TheVariants.{Const, Op as Operator, Seq, Call, Arg, Give, Alloc, Fetch, Store, Cond, Switch as Choose, Leave}
use Rattle.tam_split.specs.declared.vertex.Vertex.{Vertex}
use Rattle.tl0_code.specs.declared.instr.Instr.{Instr}
use Rattle.tl0_code.specs.declared.instr.Instr.TheVariants.{Imm, Mov, Op as Operate, Fork, Switch, Falloc, Send, Ret, Ialloc, Ifetch, Istore, Skip}
use Rattle.tam_graph.specs.Graphs.{Code, Graph, code_of, kind_at, block_at, node_numbers, nodes_in, blocks_of, has_value, node_where, node_in, is_param, is_ret}
use Rattle.tam_graph.specs.Graphs.{is_merge, is_enter, owner_of, test_of, params_of, results_of, number_of}
use Rattle.tam_graph.specs.Accepted.{is_switch_of}
use Rattle.tam_split.specs.Blocks.{BlockGraph, block_graph, vertex_at}
use Rattle.tam_split.specs.Partitions.{Parts, class_of, class_at, directly_before}
use Rattle.tam_split.specs.GraphPartitions.{Partitions, partitions, or_no_parts, firing_order}
use Rattle.tl0_code.specs.ThreadCode.{Thread, CodeText, Program}

-- the first place of x in the list, or the length
abbrev pub place_in : List ℕ → ℕ → ℕ
place_in [] x = 0
place_in (y ∷ ys) x = elim (y == x) [ true ↦ 0 | false ↦ suc (place_in ys x) ]

-- a number that stands for the one in a list of at most one
abbrev pub only : List ℕ → ℕ
only [] = 0
only (x ∷ xs) = x

-- ---- slots and inlets

-- slots 0 and 1 are the caller's; behind them the value nodes have theirs in rising order
abbrev pub slot_of : Code → ℕ → ℕ
slot_of c x = 2 + count_by (λ y. has_value (kind_at c y)) (below x)

-- how many slots a code has
abbrev pub slots_of : Code → ℕ
slots_of c = slot_of c (length c.nodes)

-- the nodes of the inlets that a node brings: a call its answer and its rets by place, an alloc and a fetch their answers
abbrev pub inlets_at : Graph → Code → ℕ → Kind → List ℕ
inlets_at g c x (Call d) = x ∷ flat_map (λ k. node_where c (is_ret x k)) (below (results_of (code_of g d)))
inlets_at g c x (Alloc n) = x ∷ []
inlets_at g c x (Fetch a i) = x ∷ []
inlets_at g c x _ = []

-- the nodes of the inlets of a code: first the params by place
abbrev pub inlet_nodes : Graph → Code → List ℕ
inlet_nodes g c = flat_map (λ k. node_where c (is_param k)) (below (params_of c)) ++ flat_map (λ x. inlets_at g c x (kind_at c x)) (node_numbers c)

-- the number of the inlet of a node
abbrev pub inlet_of : Graph → Code → ℕ → ℕ
inlet_of g c x = place_in (inlet_nodes g c) x

-- ---- the numbers of threads: the entry, the classes block by block, and two connectors for each cond and switch

-- how many classes the partitions of a code have
abbrev pub number_of_classes : List Parts → ℕ
number_of_classes ps = sum_by length ps

-- how many of them stand in blocks before b
abbrev pub classes_before : List Parts → ℕ → ℕ
classes_before [] b = 0
classes_before (p ∷ ps) zero = 0
classes_before (p ∷ ps) (suc b) = length p + classes_before ps b

-- the thread of class k of block b
abbrev pub thread_of_class : List Parts → ℕ → ℕ → ℕ
thread_of_class ps b k = 1 + classes_before ps b + k

-- the partition of block b
abbrev pub parts_at : List Parts → ℕ → Parts
parts_at ps b = or_no_parts (slice_get ps b)

-- the place in its block of the vertex by which a node has its value from outside
abbrev pub inlet_place : BlockGraph → ℕ → ℕ
inlet_place b x = only (filter (λ y. (vertex_at b y).inlet && ((vertex_at b y).node == x)) (below (length b.vertices)))

-- the thread of an inlet's vertex
abbrev pub thread_of_inlet : Code → List Parts → ℕ → ℕ
thread_of_inlet c ps x = thread_of_class ps (block_at c x) (class_of (parts_at ps (block_at c x)) (inlet_place (block_graph c (block_at c x)) x))

-- a cond or a switch
abbrev pub is_choosing : Kind → Bool
is_choosing (Cond p y n) = true
is_choosing (Choose d k a) = true
is_choosing _ = false

-- the conds and switches of a code
abbrev pub choosing_nodes : Code → List ℕ
choosing_nodes c = filter (λ x. is_choosing (kind_at c x)) (node_numbers c)

-- the thread that takes over where the word isn't 0
abbrev pub then_connector : Code → List Parts → ℕ → ℕ
then_connector c ps x = 1 + number_of_classes ps + 2 * place_in (choosing_nodes c) x

-- and where it is
abbrev pub else_connector : Code → List Parts → ℕ → ℕ
else_connector c ps x = suc (then_connector c ps x)

-- ---- instructions

-- the value of a goes to the merges of place k of the conds found
abbrev pub leave_to : Code → List Parts → ℕ → ℕ → List ℕ → List Instr
leave_to c ps k a owners = flat_map (λ d. flat_map (λ m. Mov (slot_of c m) (slot_of c a) ∷ Fork (thread_of_inlet c ps m) ∷ []) (node_where c (is_merge d k)))
    owners

-- the instructions of node x
abbrev pub instrs_of : Graph → Code → List Parts → ℕ → Kind → List Instr
instrs_of g c ps x (Const w) = Imm (slot_of c x) w ∷ []
instrs_of g c ps x (Operator o a b) = Operate o (slot_of c x) (slot_of c a) (slot_of c b) ∷ []
instrs_of g c ps x (Seq a b) = Mov (slot_of c x) (slot_of c a) ∷ []
instrs_of g c ps x (Call d) = Falloc d (inlet_of g c x) ∷ []
instrs_of g c ps x (Arg f k a) = Send (slot_of c f) k (slot_of c a) ∷ []
instrs_of g c ps x (Give k a) = Ret k (slot_of c a) ∷ []
instrs_of g c ps x (Alloc n) = Ialloc (slot_of c n) (inlet_of g c x) ∷ []
instrs_of g c ps x (Fetch a i) = Ifetch (slot_of c a) (slot_of c i) (inlet_of g c x) x ∷ []
instrs_of g c ps x (Store a i v) = Istore (slot_of c a) (slot_of c i) (slot_of c v) x ∷ []
instrs_of g c ps x (Cond p y n) = Switch (slot_of c p) (then_connector c ps x) (else_connector c ps x) ∷ []
instrs_of g c ps x (Choose d k a) = Switch (slot_of c (test_of c d)) (then_connector c ps x) (else_connector c ps x) ∷ []
instrs_of g c ps x (Leave k a) = leave_to c ps k a (owner_of c (block_at c x))
instrs_of g c ps x _ = []

-- of a vertex: an inlet has none
abbrev pub vertex_instrs : Graph → Code → List Parts → Vertex → List Instr
vertex_instrs g c ps v = elim v.inlet [ true ↦ [] | false ↦ instrs_of g c ps v.node (kind_at c v.node) ]

-- ---- threads

-- how many inlets a class has
abbrev pub inlets_in : BlockGraph → List ℕ → ℕ
inlets_in b class = count_by (λ x. (vertex_at b x).inlet) class

-- what a class waits for: its inlets and the classes directly before it
abbrev pub waits_for : BlockGraph → Parts → ℕ → ℕ
waits_for b parts k = inlets_in b (class_at parts k) + count_by (λ d. directly_before b.edges parts d k) (below (length parts))

-- a class that waits for nothing is an entry class, and has the entry count 1
abbrev pub entry_count : ℕ → ℕ
entry_count zero = 1
entry_count (suc n) = suc n

-- the entry classes of a block
abbrev pub entry_classes : BlockGraph → Parts → List ℕ
entry_classes b parts = filter (λ k. waits_for b parts k == 0) (below (length parts))

-- the forks of the threads of classes of a block
abbrev pub forks_to : List Parts → ℕ → List ℕ → List Instr
forks_to ps b ks = map (λ k. Fork (thread_of_class ps b k)) ks

-- the forks of the entry classes of a block
abbrev pub block_entry : Code → List Parts → ℕ → List Instr
block_entry c ps b = forks_to ps b (entry_classes (block_graph c b) (parts_at ps b))

-- the thread of class k: its vertices in firing order, then the classes directly behind it
abbrev pub class_thread : Graph → Code → List Parts → ℕ → BlockGraph → Parts → ℕ → Thread
class_thread g c ps b graph parts k = record {
  count = entry_count (waits_for graph parts k);
  instrs = flat_map (λ x. vertex_instrs g c ps (vertex_at graph x)) (firing_order graph.edges (class_at parts k))
      ++ forks_to ps b (filter (λ d. directly_before graph.edges parts k d) (below (length parts)));
}

-- the threads of a block's classes
abbrev pub block_threads : Graph → Code → List Parts → ℕ → List Thread
block_threads g c ps b = map (class_thread g c ps b (block_graph c b) (parts_at ps b)) (below (length (parts_at ps b)))

-- a thread that one fork starts
abbrev pub once : List Instr → Thread
once is = record { count = 1; instrs = is }

-- the value of a goes to the `in` k of block b
abbrev pub switch_into : Code → List Parts → ℕ → ℕ → ℕ → List Instr
switch_into c ps a k b = flat_map (λ m. Mov (slot_of c m) (slot_of c a) ∷ Fork (thread_of_inlet c ps m) ∷ []) (node_in c b (is_enter k))

-- a cond's then block
abbrev pub yes_of : Kind → ℕ
yes_of (Cond p y n) = y
yes_of _ = 0

-- a cond's else block
abbrev pub no_of : Kind → ℕ
no_of (Cond p y n) = n
no_of _ = 0

-- the block into which the then connector of a cond or a switch leads
abbrev pub then_block : Code → Kind → ℕ
then_block c (Cond p y n) = y
then_block c (Choose d k a) = yes_of (kind_at c d)
then_block c _ = 0

-- and the else connector
abbrev pub else_block : Code → Kind → ℕ
else_block c (Cond p y n) = n
else_block c (Choose d k a) = no_of (kind_at c d)
else_block c _ = 0

-- ---- the threads that won't run where a branch isn't chosen

-- the threads that stand for a node inside a block: the connectors of a cond and the threads of its blocks, the connectors of a switch
abbrev pub standing_for : (ℕ → ℕ) → Kind → ℕ
standing_for of_block (Cond p y n) = 2 + of_block y + of_block n
standing_for of_block (Choose d k a) = 2
standing_for of_block _ = 0

-- the threads that stand for a block: its classes, and what stands for its nodes; a block is no deeper than there are blocks
abbrev pub standing : ℕ → Code → List Parts → ℕ → ℕ
standing zero c ps b = 0
standing (suc fuel) c ps b = length (parts_at ps b) + sum_by (λ x. standing_for (standing fuel c ps) (kind_at c x)) (nodes_in c b)

-- how many switches a cond has
abbrev pub switches_of : Code → ℕ → ℕ
switches_of c d = number_of c (is_switch_of d)

-- what is skipped where cond d doesn't choose block b: its other connector, one connector of each of its switches, and what stands for the block
abbrev pub skipped_at : Code → List Parts → ℕ → ℕ → ℕ
skipped_at c ps d b = 1 + switches_of c d + standing (length c.owners) c ps b

-- the connector of cond d into block b, where `other` is its other block
abbrev pub cond_connector : Code → List Parts → ℕ → ℕ → ℕ → Thread
cond_connector c ps d b other = once (Skip (skipped_at c ps d other) ∷ block_entry c ps b)

-- the connectors of node x
abbrev pub connectors_at : Code → List Parts → ℕ → Kind → List Thread
connectors_at c ps x (Cond p y n) = cond_connector c ps x y n ∷ cond_connector c ps x n y ∷ []
connectors_at c ps x (Choose d k a) = once (switch_into c ps a k (yes_of (kind_at c d))) ∷ once (switch_into c ps a k (no_of (kind_at c d))) ∷ []
connectors_at c ps x _ = []

-- the threads of a code
abbrev pub threads_of : Graph → Code → List Parts → List Thread
threads_of g c ps =
    once (block_entry c ps 0) ∷ flat_map (block_threads g c ps) (blocks_of c) ++ flat_map (λ x. connectors_at c ps x (kind_at c x)) (node_numbers c)

-- the thread code of one code with its partitions
abbrev pub compiled_code : Graph → Code × List Parts → CodeText
compiled_code g cp = record {
  params = params_of cp.0;
  results = results_of cp.0;
  slots = slots_of cp.0;
  inlets = map (λ x. record { slot = slot_of cp.0 x; thread = thread_of_inlet cp.0 cp.1 x }) (inlet_nodes g cp.0);
  threads = threads_of g cp.0 cp.1;
}

-- the thread code of a graph over given partitions
abbrev pub compiled_with : Graph → Partitions → Program
compiled_with g all = record { main = g.main; codes = map (compiled_code g) (zip g.codes all) }

-- the thread code of a graph, over the partitions by least pairs
unfoldable pub compiled : Graph → Program
compiled g = compiled_with g (partitions g)
