-- How much the instructions of a node weigh, with the forks that its operands cost, by any weight of instructions.
use Rattle.std.proofs.Common.{◌≡◌, ℕ, suc, ◌+◌, ◌*◌, ◌<◌, ◌≤◌, Bool, true, false, List, [], ◌∷◌, length, ap, arith}
use Rattle.std.specs.List.{sum_by}
use Rattle.std.proofs.lemmas.List.{length-append}
use Rattle.std.proofs.lemmas.List.Sums.{sum_by-cons}
use Rattle.std.proofs.lemmas.Nat.{mul-le}
use Rattle.std.proofs.Math.Nat.{mul-suc}
use Rattle.tam_word.proofs.Sifted.{first_of-one}
use Rattle.tam_graph.specs.declared.kind.Kind.{Kind}
use Rattle.tam_graph.specs.declared.kind.Kind.TheVariants.{Const, Op as Operator, Seq, Call, Arg, Give, Alloc, Fetch, Store, Cond, Switch as Choose, Leave}
use Rattle.tam_graph.specs.Graphs.{Code, Graph, kind_at, block_at, node_numbers, node_where, owner_of, operands_of, test_of, is_merge}
use Rattle.tam_split.specs.declared.vertex.Vertex.{Vertex}
use Rattle.tam_split.specs.Blocks.{taken_by, is_answer}
use Rattle.tam_split.specs.Partitions.{Parts}
use Rattle.tl0_code.specs.declared.instr.Instr.{Instr}
use Rattle.tl0_code.specs.declared.instr.Instr.TheVariants.{Imm, Mov, Op as Operate, Fork, Switch, Falloc, Send, Ret, Ialloc, Ifetch, Istore, Skip}
use Rattle.tl0_code.specs.ThreadCode.{Thread}
use Rattle.tl0_keep.specs.Compiled.{instrs_of, vertex_instrs, forks_to, slot_of, thread_of_inlet, thread_of_class, inlet_of, then_connector, else_connector}
use Rattle.tl0_keep.proofs.code.ThreadKinds.{merges_of}
use Rattle.tl0_keep.proofs.code.Forks.{owners-few}
use Rattle.tl0_keep.proofs.code.ClassInstrs.{gifts_to, leave-gifts}

-- ---- weights

-- how many operands a node of such an instruction has at most
abbrev pub operands_in : Instr → ℕ
operands_in (Mov d a) = 2
operands_in (Operate o d a b) = 2
operands_in (Switch s t u) = 2
operands_in (Send f p a) = 2
operands_in (Ret k a) = 1
operands_in (Ialloc n i) = 1
operands_in (Ifetch r x i n) = 2
operands_in (Istore r x a n) = 3
operands_in _ = 0

-- a weight of instructions; what a thread weighs besides them; and what weigh at most a fork, a word given with its fork, a vertex with the forks of its
-- operands, and the connectors of a node
pub record Weighing : Type 0 where
  pub weight : Instr → ℕ
  pub head : ℕ
  pub fork : ℕ
  pub gift : ℕ
  pub vertex : ℕ
  pub node : ℕ
  pub forks : (t : ℕ) → weight (Fork t) ≤ fork
  pub gifts : (d a t : ℕ) → weight (Mov d a) + weight (Fork t) ≤ gift
  pub leaves : gift + fork ≤ vertex
  pub vertices : (i : Instr) → weight i + fork * operands_in i ≤ vertex
  pub conds : (m n : ℕ) → weight (Skip m) + head + (weight (Skip n) + head) ≤ node
  pub enters : gift ≤ node

-- the weight of instructions
abbrev pub weight_of : Weighing → List Instr → ℕ
weight_of w is = sum_by w.weight is

-- of a thread
abbrev pub thread_weight : Weighing → Thread → ℕ
thread_weight w t = sum_by w.weight t.instrs + w.head

-- an `out` has one merge at most
merges-few : (c : Code) (k : ℕ) (owners : List ℕ) → length owners < 2 → length (merges_of c k owners) ≤ 1
merges-few c k [] l = omega arith
merges-few c k (d ∷ []) l =
    let f = first_of-one (λ x. is_merge d k (kind_at c x)) (node_numbers c) in
    let a = length-append (node_where c (is_merge d k)) [] in
    omega (arith, f, a)
merges-few c k (d ∷ e ∷ ds) l = absurd (omega arith)

-- a node has three operands at most
operands-few : (c : Code) (k : Kind) → length (operands_of c k) ≤ 3
operands-few c (Operator o a b) = omega arith
operands-few c (Seq a b) = omega arith
operands-few c (Arg f k a) = omega arith
operands-few c (Give k a) = omega arith
operands-few c (Alloc n) = omega arith
operands-few c (Fetch a i) = omega arith
operands-few c (Store a i v) = omega arith
operands-few c (Cond p y n) = omega arith
operands-few c (Choose d k a) = omega arith
operands-few c (Leave k a) = omega arith
operands-few c k = omega arith

-- ---- nodes

module _ (w : Weighing) where
  -- once more is added
  times-more : (m n : ℕ) → m * suc n ≡ m + m * n
  times-more m n = let e : m * suc n ≡ m * n + m = mul-suc m n in omega (arith, e)

  -- forks to classes
  pub forks-weight : (ps : List Parts) (b : ℕ) (ks : List ℕ) → weight_of w (forks_to ps b ks) ≤ w.fork * length ks
  forks-weight ps b [] = omega arith
  forks-weight ps b (k ∷ ks) =
      let i = forks-weight ps b ks in
      let a = sum_by-cons w.weight (Fork (thread_of_class ps b k)) (forks_to ps b ks) in
      let f = w.forks (thread_of_class ps b k) in
      let e : w.fork * length (k ∷ ks) ≡ w.fork + w.fork * length ks = times-more w.fork (length ks) in
      omega (arith, i, a, f, e)

  -- words that are given
  pub gifts-weight : (c : Code) (ps : List Parts) (a : ℕ) (ms : List ℕ) → weight_of w (gifts_to c ps a ms) ≤ w.gift * length ms
  gifts-weight c ps a [] = omega arith
  gifts-weight c ps a (m ∷ ms) =
      let i = gifts-weight c ps a ms in
      let s = sum_by-cons w.weight (Mov (slot_of c m) (slot_of c a)) (Fork (thread_of_inlet c ps m) ∷ gifts_to c ps a ms) in
      let t = sum_by-cons w.weight (Fork (thread_of_inlet c ps m)) (gifts_to c ps a ms) in
      let g = w.gifts (slot_of c m) (slot_of c a) (thread_of_inlet c ps m) in
      let e : w.gift * length (m ∷ ms) ≡ w.gift + w.gift * length ms = times-more w.gift (length ms) in
      omega (arith, i, s, t, g, e)

  -- an instruction alone, and the forks of n operands
  alone : (i : Instr) (n : ℕ) → n ≤ operands_in i → weight_of w (i ∷ []) + w.fork * n ≤ w.vertex
  alone i n l =
      let s = sum_by-cons w.weight i [] in
      let v = w.vertices i in
      let f : w.fork * n ≤ w.fork * operands_in i = mul-le w.fork n w.fork (operands_in i) (omega arith) l in
      omega (arith, s, v, f)

  -- a node's instructions, and the forks of its operands
  node-weight : (g : Graph) (c : Code) (ps : List Parts) (x : ℕ) (k : Kind)
      → weight_of w (instrs_of g c ps x k) + w.fork * length (operands_of c k) ≤ w.vertex
  node-weight g c ps x (Const v) = alone (Imm (slot_of c x) v) 0 (omega arith)
  node-weight g c ps x (Operator o a b) = alone (Operate o (slot_of c x) (slot_of c a) (slot_of c b)) 2 (omega arith)
  node-weight g c ps x (Seq a b) = alone (Mov (slot_of c x) (slot_of c a)) 2 (omega arith)
  node-weight g c ps x (Call d) = alone (Falloc d (inlet_of g c x)) 0 (omega arith)
  node-weight g c ps x (Arg f k a) = alone (Send (slot_of c f) k (slot_of c a)) 2 (omega arith)
  node-weight g c ps x (Give k a) = alone (Ret k (slot_of c a)) 1 (omega arith)
  node-weight g c ps x (Alloc a) = alone (Ialloc (slot_of c a) (inlet_of g c x)) 1 (omega arith)
  node-weight g c ps x (Fetch a i) = alone (Ifetch (slot_of c a) (slot_of c i) (inlet_of g c x) x) 2 (omega arith)
  node-weight g c ps x (Store a i v) = alone (Istore (slot_of c a) (slot_of c i) (slot_of c v) x) 3 (omega arith)
  node-weight g c ps x (Cond p y n) = alone (Switch (slot_of c p) (then_connector c ps x) (else_connector c ps x)) 1 (omega arith)
  node-weight g c ps x (Choose d k a) = alone (Switch (slot_of c (test_of c d)) (then_connector c ps x) (else_connector c ps x)) 2 (omega arith)
  node-weight g c ps x (Leave k a) =
      let owners = owner_of c (block_at c x) in
      let e = ap (weight_of w) (leave-gifts c ps k a owners) in
      let l = gifts-weight c ps a (merges_of c k owners) in
      let m = merges-few c k owners (owners-few c (block_at c x)) in
      let o : w.gift * length (merges_of c k owners) ≤ w.gift * 1 = mul-le w.gift (length (merges_of c k owners)) w.gift 1 (omega arith) m in
      let h = w.leaves in
      omega (arith, e, l, o, h)
  node-weight g c ps x k = let h = w.leaves in omega (arith, h)

  -- and of a vertex
  pub vertex-weight : (g : Graph) (c : Code) (ps : List Parts) (v : Vertex) → weight_of w (vertex_instrs g c ps v) + w.fork * length (taken_by c v) ≤ w.vertex
  vertex-weight g c ps v = go v.inlet (is_answer v.half)
    where
      go : (s t : Bool)
          → weight_of w (elim s [ true ↦ [] | false ↦ instrs_of g c ps v.node (kind_at c v.node) ])
          + w.fork * length {A = ℕ} (elim t [ true ↦ [] | false ↦ operands_of c (kind_at c v.node) ]) ≤ w.vertex
      go true true = omega arith
      go true false =
          let o = operands-few c (kind_at c v.node) in
          let f : w.fork * length (operands_of c (kind_at c v.node)) ≤ w.fork * 3 =
          mul-le w.fork (length (operands_of c (kind_at c v.node))) w.fork 3 (omega arith) o in
          let s = w.vertices (Istore 0 0 0 0) in
          omega (arith, f, s)
      go false true = let n = node-weight g c ps v.node (kind_at c v.node) in omega (arith, n)
      go false false = node-weight g c ps v.node (kind_at c v.node)
