-- The depths of an accepted graph's nodes, by what they do: each is that of the node on the other side.
use Rattle.std.proofs.Common.{◌≡◌, ℕ, suc, ◌<◌, Bool, true, refl, length, Some, slice_get, ◌==◌, ◌&&◌, nat_lt, inl}
use Rattle.std.specs.List.{filter}
use Rattle.tam_word.proofs.Tests.{number-eq, self-eq, both-true, test-below, not-false}
use Rattle.tam_word.proofs.Members.{all-in, filter-in, below-in}
use Rattle.tam_graph.specs.declared.kind.Kind.{Kind}
use Rattle.tam_graph.specs.declared.kind.Kind.TheVariants.{Param, Const, Op as Operate, Seq, Arg, Ret, Give, Alloc, Fetch, Store, Cond, Switch, Merge, Enter}
use Rattle.tam_graph.specs.declared.kind.Kind.TheVariants.{Leave}
use Rattle.tam_word.specs.declared.op.Op.{Op}
use Rattle.tam_graph.specs.Graphs.{Code, Graph, code_of, kind_at, block_at, depth_at, node_numbers, nodes_in, callee_of, owner_of, is_param, is_merge, is_enter}
use Rattle.tam_graph.specs.Accepted.{all_depths, gives_depth, enters_depth, IsAccepted}
use Rattle.tam_graph.proofs.AcceptedFacts.{node-there, right-depth, right-main}

-- a node that passes the test has the depth that all such have
all-depths-at : (c : Code) (test : Kind → Bool) (d x : ℕ) → x < length c.nodes → test (kind_at c x) ≡ true → all_depths c test d ≡ true → depth_at c x ≡ d
all-depths-at c test d x l t h =
    number-eq (depth_at c x) d (all-in (λ (x : ℕ). depth_at c x == d) (filter (λ x. test (kind_at c x)) (node_numbers c)) h x
    (filter-in (λ (x : ℕ). test (kind_at c x)) x (node_numbers c) (below-in x (length c.nodes) l) t))

-- and so in a block
pub enters-depth-at : (c : Code) (k d b x : ℕ) → x < length c.nodes → kind_at c x ≡ Enter k → block_at c x ≡ b → enters_depth c k d b ≡ true
    → depth_at c x ≡ d
enters-depth-at c k d b x l e p h =
    let in-block = filter-in (λ (x : ℕ). block_at c x == b) x (node_numbers c) (below-in x (length c.nodes) l) (rw p (self-eq b)) in
    let there = filter-in (λ (x : ℕ). is_enter k (kind_at c x)) x (nodes_in c b) in-block (rw e (self-eq k)) in
    number-eq (depth_at c x) d (all-in (λ (x : ℕ). depth_at c x == d) (filter (λ x. is_enter k (kind_at c x)) (nodes_in c b)) h x there)

module _ (g : Graph) (acc : IsAccepted g) (n : ℕ) (l : n < length g.codes) where
  -- a const is a word
  pub const-depth : (x w : ℕ) → kind_at (code_of g n) x ≡ Const w → depth_at (code_of g n) x ≡ 0
  const-depth x w e =
      let h = right-depth g acc n l x (node-there (code_of g n) x (λ z. cc)) in number-eq (depth_at (code_of g n) x) 0 (rw e at h)

  -- an operator is a word, and takes words
  pub op-depth : (x a b : ℕ) (o : Op) → kind_at (code_of g n) x ≡ Operate o a b → (depth_at (code_of g n) x ≡ 0) × (depth_at (code_of g n) a ≡ 0)
      × (depth_at (code_of g n) b ≡ 0)
  op-depth x a b o e =
      let h = right-depth g acc n l x (node-there (code_of g n) x (λ z. cc)) in
      let p = both-true (depth_at (code_of g n) x == 0) ((depth_at (code_of g n) a == 0) && (depth_at (code_of g n) b == 0)) (rw e at h) in
      let q = both-true (depth_at (code_of g n) a == 0) (depth_at (code_of g n) b == 0) p.1 in
      (number-eq (depth_at (code_of g n) x) 0 p.0, number-eq (depth_at (code_of g n) a) 0 q.0, number-eq (depth_at (code_of g n) b) 0 q.1)

  -- a seq is what its first operand is
  pub seq-depth : (x a b : ℕ) → kind_at (code_of g n) x ≡ Seq a b → depth_at (code_of g n) x ≡ depth_at (code_of g n) a
  seq-depth x a b e =
      let h = right-depth g acc n l x (node-there (code_of g n) x (λ z. cc)) in number-eq (depth_at (code_of g n) x) (depth_at (code_of g n) a) (rw e at h)

  -- an arg gives what the param of its place is
  pub arg-depth : (x f k a y : ℕ) → kind_at (code_of g n) x ≡ Arg f k a → kind_at (code_of g (callee_of (code_of g n) f)) y ≡ Param k
      → depth_at (code_of g (callee_of (code_of g n) f)) y ≡ depth_at (code_of g n) a
  arg-depth x f k a y e d =
      let h = right-depth g acc n l x (node-there (code_of g n) x (λ z. cc)) in
      all-depths-at (code_of g (callee_of (code_of g n) f)) (is_param k) (depth_at (code_of g n) a) y
      (node-there (code_of g (callee_of (code_of g n) f)) y (λ z. cc)) (rw d (self-eq k)) (rw e at h)

  -- a result gives what the ret of its place is
  pub ret-depth : (x f k a y : ℕ) → kind_at (code_of g n) x ≡ Ret f k → kind_at (code_of g (callee_of (code_of g n) f)) y ≡ Give k a
      → depth_at (code_of g (callee_of (code_of g n) f)) a ≡ depth_at (code_of g n) x
  ret-depth x f k a y e d =
      let h = right-depth g acc n l x (node-there (code_of g n) x (λ z. cc)) in
      let all = all-in (λ (y : ℕ). gives_depth (code_of g (callee_of (code_of g n) f)) k (depth_at (code_of g n) x)
      (kind_at (code_of g (callee_of (code_of g n) f)) y)) (node_numbers (code_of g (callee_of (code_of g n) f))) (rw e at h) y
      (below-in y _ (node-there (code_of g (callee_of (code_of g n) f)) y (λ z. cc))) in
      let one = rw d at all in
      number-eq (depth_at (code_of g (callee_of (code_of g n) f)) a) (depth_at (code_of g n) x) (rw (self-eq k) at one)

  -- an alloc takes a word and gives an array
  pub alloc-depth : (x a : ℕ) → kind_at (code_of g n) x ≡ Alloc a → (depth_at (code_of g n) a ≡ 0) × (0 < depth_at (code_of g n) x)
  alloc-depth x a e =
      let h = right-depth g acc n l x (node-there (code_of g n) x (λ z. cc)) in
      let p = both-true (depth_at (code_of g n) a == 0) (nat_lt 0 (depth_at (code_of g n) x) && nat_lt (depth_at (code_of g n) x) 4) (rw e at h) in
      let q = both-true (nat_lt 0 (depth_at (code_of g n) x)) (nat_lt (depth_at (code_of g n) x) 4) p.1 in
      (number-eq (depth_at (code_of g n) a) 0 p.0, test-below 0 (depth_at (code_of g n) x) q.0)

  -- a fetch takes an array and a word, and gives what the array has
  pub fetch-depth : (x a i : ℕ) → kind_at (code_of g n) x ≡ Fetch a i → (depth_at (code_of g n) i ≡ 0)
      × (depth_at (code_of g n) a ≡ suc (depth_at (code_of g n) x))
  fetch-depth x a i e =
      let h = right-depth g acc n l x (node-there (code_of g n) x (λ z. cc)) in
      let p = both-true (depth_at (code_of g n) i == 0) (depth_at (code_of g n) a == suc (depth_at (code_of g n) x)) (rw e at h) in
      (number-eq (depth_at (code_of g n) i) 0 p.0, number-eq (depth_at (code_of g n) a) (suc (depth_at (code_of g n) x)) p.1)

  -- a store takes an array, a word and what the array has
  pub store-depth : (x a i v : ℕ) → kind_at (code_of g n) x ≡ Store a i v → (depth_at (code_of g n) i ≡ 0)
      × (depth_at (code_of g n) a ≡ suc (depth_at (code_of g n) v))
  store-depth x a i v e =
      let h = right-depth g acc n l x (node-there (code_of g n) x (λ z. cc)) in
      let p = both-true (depth_at (code_of g n) i == 0) (depth_at (code_of g n) a == suc (depth_at (code_of g n) v)) (rw e at h) in
      (number-eq (depth_at (code_of g n) i) 0 p.0, number-eq (depth_at (code_of g n) a) (suc (depth_at (code_of g n) v)) p.1)

  -- a cond takes a word
  pub cond-depth : (x p y m : ℕ) → kind_at (code_of g n) x ≡ Cond p y m → depth_at (code_of g n) p ≡ 0
  cond-depth x p y m e =
      let h = right-depth g acc n l x (node-there (code_of g n) x (λ z. cc)) in number-eq (depth_at (code_of g n) p) 0 (rw e at h)

  -- a switch gives what the `in` of its place is in both branches
  pub switch-depth : (x d k a p y m : ℕ) → kind_at (code_of g n) x ≡ Switch d k a → kind_at (code_of g n) d ≡ Cond p y m
      → (enters_depth (code_of g n) k (depth_at (code_of g n) a) y ≡ true) × (enters_depth (code_of g n) k (depth_at (code_of g n) a) m ≡ true)
  switch-depth x d k a p y m e f =
      let h = right-depth g acc n l x (node-there (code_of g n) x (λ z. cc)) in
      let one = rw e at h in
      both-true (enters_depth (code_of g n) k (depth_at (code_of g n) a) y) (enters_depth (code_of g n) k (depth_at (code_of g n) a) m) (rw f at one)

  -- an out gives what the merge of its place is
  pub leave-depth : (x k a d y : ℕ) → kind_at (code_of g n) x ≡ Leave k a → slice_get (code_of g n).owners (block_at (code_of g n) x) ≡ Some (Some d)
      → kind_at (code_of g n) y ≡ Merge d k → depth_at (code_of g n) y ≡ depth_at (code_of g n) a
  leave-depth x k a d y e o m =
      let h = right-depth g acc n l x (node-there (code_of g n) x (λ z. cc)) in
      let one = rw e at h in
      let all = all-in (λ (d : ℕ). all_depths (code_of g n) (is_merge d k) (depth_at (code_of g n) a))
      (owner_of (code_of g n) (block_at (code_of g n) x)) one d (rw o (inl refl)) in
      all-depths-at (code_of g n) (is_merge d k) (depth_at (code_of g n) a) y (node-there (code_of g n) y (λ z. cc)) (rw (m, self-eq d, self-eq k) refl) all

  -- a param of `main` is a word
  pub main-param-depth : (x k : ℕ) → n ≡ g.main → kind_at (code_of g n) x ≡ Param k → depth_at (code_of g n) x ≡ 0
  main-param-depth x k same e =
      let h = right-main g acc n l x (node-there (code_of g n) x (λ z. cc)) same in
      number-eq (depth_at (code_of g n) x) 0 (not-false (depth_at (code_of g n) x == 0) (rw e at h))
