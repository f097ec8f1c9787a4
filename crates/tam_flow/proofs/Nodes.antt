-- What the rules of an accepted graph say of one node.
use Rattle.std.proofs.Common.{◌≡◌, ℕ, ◌<◌, Bool, true, false, ◌==◌, ◌&&◌, [], length, filter, nat_lt, refl, sym, ap, subst, true≢false}
use Rattle.std.specs.List.{AllByRecursion}
use Rattle.tam_graph.specs.declared.kind.Kind.{Kind}
use Rattle.tam_graph.specs.declared.kind.Kind.TheVariants.{Param, Call, Ret, Cond, Merge, Enter}
use Rattle.tam_graph.specs.Graphs.{Graph, Code, code_of, kind_at, block_at, depth_at, node_numbers, nodes_in, is_param, is_ret, is_merge, is_enter, node_where}
use Rattle.tam_graph.specs.Graphs.{node_in}
use Rattle.tam_graph.specs.Accepted.{IsAccepted, faults_at, has_right_depth, is_main_type, all_depths, enters_depth}
use Rattle.tam_graph.specs.Written.{is_line, is_operand, is_call_node, is_cond_node}
use Rattle.tam_flow.proofs.Justified.{IsNoCall}
use Rattle.tam_word.proofs.Tests.{and-left, and-right, number-eq, test-below}
use Rattle.tam_word.proofs.Members.{below-in}
use Rattle.tam_word.proofs.Each.{all-of_each, each-below, below-each, all-filtered, all-first, all-filter}
use Rattle.tam_graph.proofs.Uncycled.{no-fault}
use Rattle.tam_graph.proofs.AcceptedFacts as accepted_facts

-- ---- the kinds that a test picks

-- what passes the test of a param is that param
pub is-param : (k : ℕ) (d : Kind) → is_param k d ≡ true → d ≡ Param k
is-param k (Param j) h = ap Param (number-eq j k h)
is-param k d h = absurd (true≢false (sym h))

-- so with a ret
pub is-ret : (f k : ℕ) (d : Kind) → is_ret f k d ≡ true → d ≡ Ret f k
is-ret f k (Ret e j) h =
    let a : e ≡ f = number-eq e f (and-left (e == f) (j == k) h) in
    let b : j ≡ k = number-eq j k (and-right (e == f) (j == k) h) in
    rw (a, b) refl
is-ret f k d h = absurd (true≢false (sym h))

-- a merge
pub is-merge : (f k : ℕ) (d : Kind) → is_merge f k d ≡ true → d ≡ Merge f k
is-merge f k (Merge e j) h =
    let a : e ≡ f = number-eq e f (and-left (e == f) (j == k) h) in
    let b : j ≡ k = number-eq j k (and-right (e == f) (j == k) h) in
    rw (a, b) refl
is-merge f k d h = absurd (true≢false (sym h))

-- and an enter
pub is-enter : (k : ℕ) (d : Kind) → is_enter k d ≡ true → d ≡ Enter k
is-enter k (Enter j) h = ap Enter (number-eq j k h)
is-enter k d h = absurd (true≢false (sym h))

-- ---- operands

-- what a line may name as an operand is there and no call
pub record IsOperand (c : Code) (a : ℕ) : Type 0 where
  pub there : a < length c.nodes
  pub no_call : IsNoCall (kind_at c a)

-- what passes the test of operands is one
pub operand : (c : Code) (a : ℕ) → is_operand c a ≡ true → IsOperand c a
operand c a h = record {
  there = test-below a (length c.nodes) (and-left _ _ h);
  no_call = λ d e. let r : (nat_lt a (length c.nodes) && false) ≡ true = rw
      (is_operand, e) at h in true≢false (sym (and-right (nat_lt a (length c.nodes)) false r));
}

-- what passes the test of calls is a call
pub call-operand : (c : Code) (f : ℕ) → is_call_node c f ≡ true → (d : ℕ) × (kind_at c f ≡ Call d)
call-operand c f h = accepted_facts.call-node c f h

-- and what passes that of conds a cond that is there
pub cond-operand : (c : Code) (f : ℕ) → is_cond_node c f ≡ true → (f < length c.nodes) × ((p y n : ℕ) × (kind_at c f ≡ Cond p y n))
cond-operand c f h = (test-below f (length c.nodes) (and-left _ _ h), accepted_facts.cond-node c f h)

-- ---- what a test of each node finds

-- the node of a code that a test picks is there and passes
pub where-each : (c : Code) (test : Kind → Bool) → AllByRecursion (λ x. (x < length c.nodes) × (test (kind_at c x) ≡ true)) (node_where c test)
where-each c test = all-first (λ x. x < length c.nodes) (λ x. test (kind_at c x)) (node_numbers c)
    (below-each (λ x. x < length c.nodes) (length c.nodes) (λ x l. l))

-- each node of a block is one of the code, in the block
pub block-each : (c : Code) (b : ℕ) → AllByRecursion (λ x. (x < length c.nodes) × ((block_at c x == b) ≡ true)) (nodes_in c b)
block-each c b = all-filter (λ x. x < length c.nodes) (λ x. block_at c x == b) (node_numbers c)
    (below-each (λ x. x < length c.nodes) (length c.nodes) (λ x l. l))

-- and so is a node of a block that a test finds, and passes it
pub in-each : (c : Code) (b : ℕ) (test : Kind → Bool)
    → AllByRecursion (λ x. ((x < length c.nodes) × ((block_at c x == b) ≡ true)) × (test (kind_at c x) ≡ true)) (node_in c b test)
in-each c b test = all-first (λ x. (x < length c.nodes) × ((block_at c x == b) ≡ true)) (λ x. test (kind_at c x)) (nodes_in c b) (block-each c b)

-- each node that passes has the depth
pub all-depths : (c : Code) (test : Kind → Bool) (d y : ℕ) → all_depths c test d ≡ true → y < length c.nodes → test (kind_at c y) ≡ true → depth_at c y ≡ d
all-depths c test d y h l p =
    number-eq (depth_at c y) d (each-below (λ x. test (kind_at c x) ≡ true → (depth_at c x == d) ≡ true) (length c.nodes) y
    (all-filtered (λ x. (depth_at c x == d) ≡ true) (λ x. test (kind_at c x)) (node_numbers c)
    (all-of_each (λ x. depth_at c x == d) (filter (λ x. test (kind_at c x)) (node_numbers c)) h)) l p)

-- an enter of the block has the depth of its place
pub enters-depth : (c : Code) (k d b y : ℕ) → enters_depth c k d b ≡ true → y < length c.nodes → (block_at c y == b) ≡ true
    → is_enter k (kind_at c y) ≡ true → depth_at c y ≡ d
enters-depth c k d b y h l at p =
    number-eq (depth_at c y) d (each-below (λ x. (block_at c x == b) ≡ true → is_enter k (kind_at c x) ≡ true → (depth_at c x == d) ≡ true) (length c.nodes) y
    (all-filtered (λ x. is_enter k (kind_at c x) ≡ true → (depth_at c x == d) ≡ true) (λ x. block_at c x == b) (node_numbers c)
    (all-filtered (λ x. (depth_at c x == d) ≡ true) (λ x. is_enter k (kind_at c x)) (nodes_in c b)
    (all-of_each (λ x. depth_at c x == d) (filter (λ x. is_enter k (kind_at c x)) (nodes_in c b)) h))) l at p)

-- ---- an accepted graph

module _ (g : Graph) (accepted : IsAccepted g) (n : ℕ) (there : n < length g.codes) where
  -- a node that is there has no fault
  pub no-faults : (x : ℕ) → x < length (code_of g n).nodes → faults_at g n x ≡ []
  no-faults x l = no-fault g accepted n x there (below-in x (length (code_of g n).nodes) l)

  -- the depths that its line asks for
  pub right-depth : (x : ℕ) (k : Kind) → x < length (code_of g n).nodes → kind_at (code_of g n) x ≡ k → has_right_depth g (code_of g n) x k ≡ true
  right-depth x k l e = subst (λ d. has_right_depth g (code_of g n) x d ≡ true) e (accepted_facts.right-depth g accepted n there x l)

  -- and the root takes and gives words
  pub root-words : (x : ℕ) (k : Kind) → x < length (code_of g n).nodes → kind_at (code_of g n) x ≡ k → n ≡ g.main → is_main_type (code_of g n) x k ≡ false
  root-words x k l e main = subst (λ d. is_main_type (code_of g n) x d ≡ false) e (accepted_facts.right-main g accepted n there x l main)

  -- its line
  pub line : (x : ℕ) (k : Kind) → x < length (code_of g n).nodes → kind_at (code_of g n) x ≡ k → is_line (length g.codes) (code_of g n) k ≡ true
  line x k l e = subst (λ d. is_line (length g.codes) (code_of g n) d ≡ true) e (accepted_facts.right-line g accepted n there x l)
