-- The firing rules of a dataflow graph, unfolded by calls: they know no threads, frames, counters, messages or order.
use Rattle.std.specs.Prelude.{ℕ, zero, suc, ◌<◌, ◌≤◌, ◌≡◌, ◌≢◌, ◌⊎◌, List, [], ◌∷◌, Some, slice_get, length, sum_by, All, AllPairs, IsTrue, ⊤}
use Rattle.std.specs.List.{AllByRecursion}
use Rattle.tam_graph.specs.declared.kind.Kind.{Kind}
use Rattle.tam_graph.specs.declared.kind.Kind.TheVariants.{Param, Const, Op as Operate, Seq, Call, Arg, Ret, Give, Alloc, Fetch, Store, Cond, Switch, Merge}
use Rattle.tam_graph.specs.declared.kind.Kind.TheVariants.{Enter, Leave}
use Rattle.tam_word.specs.declared.op.Op.{Op}
use Rattle.tam_word.specs.Words.{meaning}
use Rattle.tam_graph.specs.Graphs.{Code, Graph, code_of, kind_at, block_at, operands_of, is_outlet, callee_of, chosen_branch}

-- ---- activations, values, facts

-- the call nodes from the root, the latest first; the root is the empty list
abbrev pub Path : Type 0
Path = List ℕ

-- the number of the code that a path stands for: `main`, or the callee of the latest call
abbrev pub code_at : Graph → Path → ℕ
code_at g [] = g.main
code_at g (f ∷ q) = callee_of (code_of g (code_at g q)) f

-- the code of an activation
abbrev pub the_code : Graph → Path → Code
the_code g q = code_of g (code_at g q)

-- what node x of the activation q does
abbrev pub node_of : Graph → Path → ℕ → Kind
node_of g q x = kind_at (the_code g q) x

-- the block in which it stands
abbrev pub block_of : Graph → Path → ℕ → ℕ
block_of g q x = block_at (the_code g q) x

-- a word, the activation of a path, or the array that the alloc x makes in the activation q
pub data Value : Type 0 where
  Word : (w : ℕ) → Value
  Activation : (q : Path) → Value
  Array : (q : Path) (x : ℕ) → Value

-- what may be known; of a node that is cut, Val is of its answer and Fired of its ask
pub data Fact : Type 0 where
  Begun : (q : Path) → Fact
  Entered : (q : Path) (b : ℕ) → Fact
  Val : (q : Path) (x : ℕ) (v : Value) → Fact
  Fired : (q : Path) (x : ℕ) (vs : List Value) → Fact

-- the facts that the nodes xs of the activation q have the values vs, in order
abbrev pub values : Path → List ℕ → List Value → List Fact
values q [] vs = []
values q (x ∷ xs) [] = []
values q (x ∷ xs) (v ∷ vs) = Val q x v ∷ values q xs vs

-- ---- the rules

-- from these facts this fact follows by one rule
pub data Rule (g : Graph) : List Fact → Fact → Type 0 where
  -- an activation that has begun enters the body of its code
  body_is_entered : {q : Path} → Rule g (Begun q ∷ []) (Entered q 0)
  -- in a block that was entered a const gives its word, an operator its meaning, a seq its first value
  const_gives : {q : Path} {x w : ℕ} → node_of g q x ≡ Const w → Rule g (Entered q (block_of g q x) ∷ []) (Val q x (Word w))
  op_gives : {q : Path} {x l r a b : ℕ} {o : Op} → node_of g q x ≡ Operate o l r
      → Rule g (Entered q (block_of g q x) ∷ Val q l (Word a) ∷ Val q r (Word b) ∷ []) (Val q x (Word (meaning o a b)))
  seq_gives : {q : Path} {x l r : ℕ} {a b : Value} → node_of g q x ≡ Seq l r
      → Rule g (Entered q (block_of g q x) ∷ Val q l a ∷ Val q r b ∷ []) (Val q x a)
  -- and an outlet fires with the values of all its operands
  outlet_fires : {q : Path} {x : ℕ} {vs : List Value} → IsTrue (is_outlet (node_of g q x)) → length vs ≡ length (operands_of (the_code g q) (node_of g q x))
      → Rule g (Entered q (block_of g q x) ∷ values q (operands_of (the_code g q) (node_of g q x)) vs) (Fired q x vs)
  -- a call that fired begins an activation of its callee, and answers with it
  call_begins : {q : Path} {f c : ℕ} → node_of g q f ≡ Call c → Rule g (Fired q f [] ∷ []) (Begun (f ∷ q))
  call_answers : {q : Path} {f c : ℕ} → node_of g q f ≡ Call c → Rule g (Fired q f [] ∷ []) (Val q f (Activation (f ∷ q)))
  -- an arg gives its value to the param of its place in the activation that it is sent to
  arg_comes : {p q : Path} {x y f k a : ℕ} {v : Value} → node_of g q y ≡ Arg f k a → node_of g p x ≡ Param k
      → Rule g (Fired q y (v ∷ Activation p ∷ []) ∷ []) (Val p x v)
  -- a result gives its value to the ret of its place at the call that began the activation
  result_comes : {p : Path} {x y f k a : ℕ} {v : Value} → node_of g (f ∷ p) y ≡ Give k a → node_of g p x ≡ Ret f k
      → Rule g (Fired (f ∷ p) y (v ∷ []) ∷ []) (Val p x v)
  -- an alloc answers with its array
  alloc_answers : {q : Path} {x a n : ℕ} → node_of g q x ≡ Alloc a → Rule g (Fired q x (Word n ∷ []) ∷ []) (Val q x (Array q x))
  -- a fetch answers with the value that a store put into the cell of its index, where the array has that cell
  fetch_answers : {q r p : Path} {x y z a b i n c d e : ℕ} {v : Value} → node_of g q x ≡ Fetch a b → node_of g r y ≡ Store c d e → i < n
      → Rule g (Fired q x (Array p z ∷ Word i ∷ []) ∷ Fired r y (Array p z ∷ Word i ∷ v ∷ []) ∷ Fired p z (Word n ∷ []) ∷ []) (Val q x v)
  -- a cond enters the branch that its word chooses
  cond_enters : {q : Path} {c a y n w : ℕ} → node_of g q c ≡ Cond a y n → Rule g (Fired q c (Word w ∷ []) ∷ []) (Entered q (chosen_branch (the_code g q) c w))
  -- a switch gives its value to the `in` of its place in the branch that its word chooses
  switch_comes : {q : Path} {x y c k a w : ℕ} {v : Value} → node_of g q y ≡ Switch c k a → node_of g q x ≡ Enter k
      → block_of g q x ≡ chosen_branch (the_code g q) c w → Rule g (Fired q y (Word w ∷ v ∷ []) ∷ []) (Val q x v)
  -- an out in a branch of a cond gives its value to the merge of its place
  out_comes : {q : Path} {x y c k a : ℕ} {v : Value} → node_of g q y ≡ Leave k a → slice_get (the_code g q).owners (block_of g q y) ≡ Some (Some c)
      → node_of g q x ≡ Merge c k → Rule g (Fired q y (v ∷ []) ∷ []) (Val q x v)

-- one rule gives the fact from known ones
pub record Follows (g : Graph) (Known : Fact → Type 0) (fact : Fact) : Type 0 where
  pub from : List Fact
  pub rule : Rule g from fact
  pub known : AllByRecursion Known from

-- ---- unfoldings

-- the root has begun, and each param of it has its argument
pub data Given (g : Graph) (args : List ℕ) : Fact → Type 0 where
  root_has_begun : Given g args (Begun [])
  param_has : {x k w : ℕ} → node_of g [] x ≡ Param k → slice_get args k ≡ Some w → Given g args (Val [] x (Word w))

-- the facts of n unfoldings
abbrev pub Known : Graph → List ℕ → ℕ → Fact → Type 0
Known g args zero fact = Given g args fact
Known g args (suc n) fact = Known g args n fact ⊎ Follows g (Known g args n) fact

-- some number of unfoldings gives the fact
abbrev pub Holds : Graph → List ℕ → Fact → Type 0
Holds g args fact = (n : ℕ) × Known g args n fact

-- ---- what the rules give: results, second stores, accesses outside

-- place K of the results has the word w
pub record Result (g : Graph) (args : List ℕ) (k w : ℕ) : Type 0 where
  pub node : ℕ
  pub operand : ℕ
  pub gives : node_of g [] node ≡ Give k operand
  pub fired : Holds g args (Fired [] node (Word w ∷ []))

-- the site of a node: the number of its code, and its own
abbrev pub site_of : Graph → Path → ℕ → ℕ × ℕ
site_of g q x = (code_at g q, x)

-- a store
abbrev pub IsStore : Kind → Type 0
IsStore (Store a i b) = ⊤
IsStore _ = ⊥

-- an alloc
abbrev pub IsAlloc : Kind → Type 0
IsAlloc (Alloc n) = ⊤
IsAlloc _ = ⊥

-- a fetch or a store
abbrev pub IsAccess : Kind → Type 0
IsAccess (Fetch a i) = ⊤
IsAccess (Store a i b) = ⊤
IsAccess _ = ⊥

-- stores of two different instances, at the sites s and t, have fired with the same array and index
pub record DoubleWrite (g : Graph) (args : List ℕ) (s t : ℕ × ℕ) : Type 0 where
  pub p : Path
  pub x : ℕ
  pub q : Path
  pub y : ℕ
  pub different : ◌≢◌ {A = Path × ℕ} (p, x) (q, y)
  pub first_stores : IsStore (node_of g p x)
  pub second_stores : IsStore (node_of g q y)
  pub first_site : site_of g p x ≡ s
  pub second_site : site_of g q y ≡ t
  pub array : Value
  pub index : Value
  pub v : Value
  pub w : Value
  pub first : Holds g args (Fired p x (array ∷ index ∷ v ∷ []))
  pub second : Holds g args (Fired q y (array ∷ index ∷ w ∷ []))

-- a fetch or store has fired at the site with an index that isn't below the length of its array
pub record OutsideAccess (g : Graph) (args : List ℕ) (site : ℕ × ℕ) (index len : ℕ) : Type 0 where
  pub q : Path
  pub x : ℕ
  pub accesses : IsAccess (node_of g q x)
  pub here : site_of g q x ≡ site
  pub p : Path
  pub y : ℕ
  pub more : List Value
  pub at_array : Holds g args (Fired q x (Array p y ∷ Word index ∷ more))
  pub made : Holds g args (Fired p y (Word len ∷ []))
  pub outside : len ≤ index

-- ---- how much is known: a count is at least the length of each list that is one of these, and no more than that of the longest

-- the vertex that gives the value of node x of q, or the one that fires with the node's operands
pub data Instance : Type 0 where
  Giver : (q : Path) (x : ℕ) → Instance
  Firer : (q : Path) (x : ℕ) → Instance

-- a known fact says that it has a value or has fired
abbrev pub IsActive : (Fact → Type 0) → Instance → Type 0
IsActive Told (Giver q x) = (v : Value) × Told (Val q x v)
IsActive Told (Firer q x) = (vs : List Value) × Told (Fired q x vs)

-- different instances, each active by what is told
pub record Instances (Told : Fact → Type 0) (xs : List Instance) : Type 0 where
  pub different : AllPairs (λ x y. x ≢ y) xs
  pub active : All (IsActive Told) xs

-- different activations, each begun by what is told
pub record Activations (Told : Fact → Type 0) (qs : List Path) : Type 0 where
  pub different : AllPairs (λ p q. p ≢ q) qs
  pub begun : All (λ q. Told (Begun q)) qs

-- an alloc and the length that its ask has fired with
pub record Asked : Type 0 where
  pub path : Path
  pub node : ℕ
  pub len : ℕ

-- different allocs, each with the length that its ask has fired with by what is told
pub record Allocs (g : Graph) (Told : Fact → Type 0) (asks : List Asked) : Type 0 where
  pub different : AllPairs (λ a b. ◌≢◌ {A = Path × ℕ} (a.path, a.node) (b.path, b.node)) asks
  pub allocs : All (λ a. IsAlloc (node_of g a.path a.node)) asks
  pub fired : All (λ a. Told (Fired a.path a.node (Word a.len ∷ []))) asks

-- their cells
abbrev pub cells_of : List Asked → ℕ
cells_of asks = sum_by (λ a. a.len) asks
