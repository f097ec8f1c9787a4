-- From a fact back to the rule that gave it: the node's kind says which.
use Rattle.std.proofs.Common.{◌≡◌, ℕ, ◌<◌, List, [], ◌∷◌, Some, slice_get, length, refl, inl, inr, ◌⊎◌, ⊎_elim, IsTrue}
use Rattle.std.specs.List.{AllByRecursion}
use Rattle.tam_graph.specs.declared.kind.Kind.{Kind}
use Rattle.tam_graph.specs.declared.kind.Kind.TheVariants.{Param, Const, Op as Operate, Seq, Call, Arg, Ret, Give, Alloc, Fetch, Store, Cond, Switch, Merge}
use Rattle.tam_graph.specs.declared.kind.Kind.TheVariants.{Enter, Leave}
use Rattle.tam_word.specs.Words.{meaning}
use Rattle.tam_graph.specs.Graphs.{Graph, operands_of, is_outlet, chosen_branch}
use Rattle.tam_fire.specs.FiringRules.{Path, Value, Word, Activation, Array, Fact, Begun, Entered, Val, Fired, Rule, body_is_entered, const_gives, op_gives}
use Rattle.tam_fire.specs.FiringRules.{seq_gives, outlet_fires, call_begins, call_answers, arg_comes, result_comes, alloc_answers, fetch_answers, cond_enters}
use Rattle.tam_fire.specs.FiringRules.{switch_comes, out_comes, node_of, block_of, the_code, values, Given, root_has_begun, param_has, Holds}
use Rattle.tam_fire.proofs.Following.{holds-from}

-- where the value v of node x comes from, by what the node does
abbrev pub Source : Graph → List ℕ → (Fact → Type 0) → Path → ℕ → Value → Kind → Type 0
Source g args K q x v (Param k) =
    ((w : ℕ) × (v ≡ Word w) × (q ≡ []) × (slice_get args k ≡ Some w))
    ⊎ ((p : Path) × (y f a : ℕ) × (node_of g p y ≡ Arg f k a) × K (Fired p y (v ∷ Activation q ∷ [])))
Source g args K q x v (Const w) = (v ≡ Word w) × K (Entered q (block_of g q x))
Source g args K q x v (Operate o l r) = (a b : ℕ) × (v ≡ Word (meaning o a b)) × K (Entered q (block_of g q x)) × K (Val q l (Word a)) × K (Val q r (Word b))
Source g args K q x v (Seq l r) = (b : Value) × K (Entered q (block_of g q x)) × K (Val q l v) × K (Val q r b)
Source g args K q x v (Call c) = (v ≡ Activation (x ∷ q)) × K (Fired q x [])
Source g args K q x v (Ret f k) = (y a : ℕ) × (node_of g (f ∷ q) y ≡ Give k a) × K (Fired (f ∷ q) y (v ∷ []))
Source g args K q x v (Alloc a) = (n : ℕ) × (v ≡ Array q x) × K (Fired q x (Word n ∷ []))
Source g args K q x v (Fetch a b) =
    (r p : Path) × (y z i n c d e : ℕ) × (node_of g r y ≡ Store c d e) × (i < n) × K (Fired q x (Array p z ∷ Word i ∷ []))
    × K (Fired r y (Array p z ∷ Word i ∷ v ∷ [])) × K (Fired p z (Word n ∷ []))
Source g args K q x v (Enter k) = (y c a w : ℕ) × (node_of g q y ≡ Switch c k a) × (block_of g q x ≡ chosen_branch (the_code g q) c w)
    × K (Fired q y (Word w ∷ v ∷ []))
Source g args K q x v (Merge c k) = (y a : ℕ) × (node_of g q y ≡ Leave k a) × (slice_get (the_code g q).owners (block_of g q y) ≡ Some (Some c))
    × K (Fired q y (v ∷ []))
Source g args K q x v (Arg f k a) = ⊥
Source g args K q x v (Give k a) = ⊥
Source g args K q x v (Store a i b) = ⊥
Source g args K q x v (Cond p y n) = ⊥
Source g args K q x v (Switch c k a) = ⊥
Source g args K q x v (Leave k a) = ⊥

-- where a block was entered from
abbrev pub EntrySource : Graph → (Fact → Type 0) → Path → ℕ → Type 0
EntrySource g K q b =
    ((b ≡ 0) × K (Begun q)) ⊎ ((c a y n w : ℕ) × (node_of g q c ≡ Cond a y n) × (b ≡ chosen_branch (the_code g q) c w) × K (Fired q c (Word w ∷ [])))

-- where an activation was begun from
abbrev pub BeginSource : Graph → (Fact → Type 0) → Path → Type 0
BeginSource g K [] = Unit {0}
BeginSource g K (f ∷ q) = (c : ℕ) × (node_of g q f ≡ Call c) × K (Fired q f [])

-- what a firing rests on
pub record FiredSource (g : Graph) (K : Fact → Type 0) (q : Path) (x : ℕ) (vs : List Value) : Type 0 where
  pub outlet : IsTrue (is_outlet (node_of g q x))
  pub entered : K (Entered q (block_of g q x))
  pub one_each : length vs ≡ length (operands_of (the_code g q) (node_of g q x))
  pub operands : AllByRecursion K (values q (operands_of (the_code g q) (node_of g q x)) vs)

module _ (g : Graph) (args : List ℕ) (K : Fact → Type 0) where
  pub value-by : (q : Path) (x : ℕ) (v : Value) (from : List Fact) → Rule g from (Val q x v) → AllByRecursion K from → Source g args K q x v (node_of g q x)
  value-by q x v from (const_gives e) h = rw e (refl, h.0)
  value-by q x v from (op_gives {a = a} {b = b} e) h = rw e (a, b, refl, h.0, h.1.0, h.1.1.0)
  value-by q x v from (seq_gives {b = b} e) h = rw e (b, h.0, h.1.0, h.1.1.0)
  value-by q x v from (call_answers e) h = rw e (refl, h.0)
  value-by q x v from (arg_comes {q = p} {y = y} {f = f} {a = a} e d) h = rw d (inr (p, y, f, a, e, h.0))
  value-by q x v from (result_comes {y = y} {a = a} e d) h = rw d (y, a, e, h.0)
  value-by q x v from (alloc_answers {n = n} e) h = rw e (n, refl, h.0)
  value-by q x v from (fetch_answers {r = r} {p = p} {y = y} {z = z} {i = i} {n = n} {c = c} {d = d} {e = e} at st l) h =
      rw at (r, p, y, z, i, n, c, d, e, st, l, h.0, h.1.0, h.1.1.0)
  value-by q x v from (switch_comes {y = y} {c = c} {a = a} {w = w} e d b) h = rw d (y, c, a, w, e, b, h.0)
  value-by q x v from (out_comes {y = y} {a = a} e o d) h = rw d (y, a, e, o, h.0)

  pub value-given : (q : Path) (x : ℕ) (v : Value) → Given g args (Val q x v) → Source g args K q x v (node_of g q x)
  value-given q x v (param_has {w = w} e a) = rw e (inl (w, refl, refl, a))

  pub fired-by : (q : Path) (x : ℕ) (vs : List Value) (from : List Fact) → Rule g from (Fired q x vs) → AllByRecursion K from → FiredSource g K q x vs
  fired-by q x vs from (outlet_fires o l) h = record { outlet = o; entered = h.0; one_each = l; operands = h.1 }

  pub entered-by : (q : Path) (b : ℕ) (from : List Fact) → Rule g from (Entered q b) → AllByRecursion K from → EntrySource g K q b
  entered-by q b from body_is_entered h = inl (refl, h.0)
  entered-by q b from (cond_enters {c = c} {a = a} {y = y} {n = n} {w = w} e) h = inr (c, a, y, n, w, e, refl, h.0)

  pub begun-by : (q : Path) (from : List Fact) → Rule g from (Begun q) → AllByRecursion K from → BeginSource g K q
  begun-by q from (call_begins {c = c} e) h = (c, e, h.0)

  pub begun-given : (q : Path) → Given g args (Begun q) → BeginSource g K q
  begun-given q root_has_begun = tt

-- the same of what holds
module _ (g : Graph) (args : List ℕ) where
  pub value-from : (q : Path) (x : ℕ) (v : Value) → Holds g args (Val q x v) → Source g args (Holds g args) q x v (node_of g q x)
  value-from q x v h =
      ⊎_elim (value-given g args (Holds g args) q x v) (λ f. value-by g args (Holds g args) q x v f.from f.rule f.known) (holds-from g args h.0 (Val q x v) h.1)

  pub fired-from : (q : Path) (x : ℕ) (vs : List Value) → Holds g args (Fired q x vs) → FiredSource g (Holds g args) q x vs
  fired-from q x vs h =
      ⊎_elim (λ none. elim none [ ]) (λ f. fired-by g args (Holds g args) q x vs f.from f.rule f.known) (holds-from g args h.0 (Fired q x vs) h.1)

  pub entered-from : (q : Path) (b : ℕ) → Holds g args (Entered q b) → EntrySource g (Holds g args) q b
  entered-from q b h =
      ⊎_elim (λ none. elim none [ ]) (λ f. entered-by g args (Holds g args) q b f.from f.rule f.known) (holds-from g args h.0 (Entered q b) h.1)

  pub begun-from : (q : Path) → Holds g args (Begun q) → BeginSource g (Holds g args) q
  begun-from q h =
      ⊎_elim (begun-given g args (Holds g args) q) (λ f. begun-by g args (Holds g args) q f.from f.rule f.known) (holds-from g args h.0 (Begun q) h.1)
