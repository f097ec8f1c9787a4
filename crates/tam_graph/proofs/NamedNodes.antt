-- What the lines of an accepted graph name: operands are no calls, an arg names a call, a switch a cond.
use Rattle.std.proofs.Common.{◌≡◌, ℕ, ◌<◌, List, [], ◌∷◌, true, refl, inl, inr, length, nat_lt, ◌&&◌}
use Rattle.tam_word.specs.Lists.{all_of}
use Rattle.tam_word.proofs.Tests.{both-true}
use Rattle.tam_word.proofs.Members.{In, all-in}
use Rattle.tam_graph.specs.declared.kind.Kind.TheVariants.{Op as Operate, Seq, Call, Arg, Give, Alloc, Fetch, Store, Cond, Switch, Leave}
use Rattle.tam_word.specs.declared.op.Op.{Op}
use Rattle.tam_graph.specs.Graphs.{Code, Graph, code_of, kind_at}
use Rattle.tam_graph.specs.Written.{is_operand, is_call_node, is_cond_node}
use Rattle.tam_graph.specs.Accepted.{IsAccepted}
use Rattle.tam_graph.proofs.AcceptedFacts.{node-there, right-line, operand-no_call, call-node, cond-node}

-- the node is no call
abbrev pub NoCall : Code → ℕ → Type 0
NoCall c a = (d : ℕ) → kind_at c a ≡ Call d → ⊥

module _ (g : Graph) (acc : IsAccepted g) (n : ℕ) (l : n < length g.codes) where
  -- each of these operands is no call
  is-operand : (xs : List ℕ) → all_of (is_operand (code_of g n)) xs ≡ true → (a : ℕ) → In a xs → NoCall (code_of g n) a
  is-operand xs h a m d e = operand-no_call (code_of g n) a d (all-in (is_operand (code_of g n)) xs h a m) e

  -- an operator takes no call
  pub op-line : (x a b : ℕ) (o : Op) → kind_at (code_of g n) x ≡ Operate o a b → NoCall (code_of g n) a × NoCall (code_of g n) b
  op-line x a b o e =
      let h = right-line g acc n l x (node-there (code_of g n) x (λ z. cc)) in
      let t = is-operand (a ∷ b ∷ []) (rw e at h) in (t a (inl refl), t b (inr (inl refl)))

  -- nor does a seq
  pub seq-line : (x a b : ℕ) → kind_at (code_of g n) x ≡ Seq a b → NoCall (code_of g n) a
  seq-line x a b e =
      let h = right-line g acc n l x (node-there (code_of g n) x (λ z. cc)) in is-operand (a ∷ b ∷ []) (rw e at h) a (inl refl)

  -- an arg gives no call, and names one
  pub arg-line : (x f k a : ℕ) → kind_at (code_of g n) x ≡ Arg f k a → NoCall (code_of g n) a × ((d : ℕ) × (kind_at (code_of g n) f ≡ Call d))
  arg-line x f k a e =
      let h = right-line g acc n l x (node-there (code_of g n) x (λ z. cc)) in
      let p = both-true (is_call_node (code_of g n) f) (is_operand (code_of g n) a && nat_lt k 64) (rw e at h) in
      let q = both-true (is_operand (code_of g n) a) (nat_lt k 64) p.1 in
      (λ d. operand-no_call (code_of g n) a d q.0, call-node (code_of g n) f p.0)

  -- a result gives no call
  pub give-line : (x k a : ℕ) → kind_at (code_of g n) x ≡ Give k a → NoCall (code_of g n) a
  give-line x k a e =
      let h = right-line g acc n l x (node-there (code_of g n) x (λ z. cc)) in
      let p = both-true (is_operand (code_of g n) a) (nat_lt k 64) (rw e at h) in λ (d : ℕ). operand-no_call (code_of g n) a d p.0

  -- an alloc takes no call
  pub alloc-line : (x a : ℕ) → kind_at (code_of g n) x ≡ Alloc a → NoCall (code_of g n) a
  alloc-line x a e =
      let h = right-line g acc n l x (node-there (code_of g n) x (λ z. cc)) in is-operand (a ∷ []) (rw e at h) a (inl refl)

  -- nor does a fetch
  pub fetch-line : (x a i : ℕ) → kind_at (code_of g n) x ≡ Fetch a i → NoCall (code_of g n) a × NoCall (code_of g n) i
  fetch-line x a i e =
      let h = right-line g acc n l x (node-there (code_of g n) x (λ z. cc)) in
      let t = is-operand (a ∷ i ∷ []) (rw e at h) in (t a (inl refl), t i (inr (inl refl)))

  -- nor a store
  pub store-line : (x a i v : ℕ) → kind_at (code_of g n) x ≡ Store a i v → NoCall (code_of g n) a × NoCall (code_of g n) i × NoCall (code_of g n) v
  store-line x a i v e =
      let h = right-line g acc n l x (node-there (code_of g n) x (λ z. cc)) in
      let t = is-operand (a ∷ i ∷ v ∷ []) (rw e at h) in (t a (inl refl), t i (inr (inl refl)), t v (inr (inr (inl refl))))

  -- nor a cond
  pub cond-line : (x p y m : ℕ) → kind_at (code_of g n) x ≡ Cond p y m → NoCall (code_of g n) p
  cond-line x p y m e =
      let h = right-line g acc n l x (node-there (code_of g n) x (λ z. cc)) in is-operand (p ∷ []) (rw e at h) p (inl refl)

  -- a switch names a cond, and gives no call
  pub switch-line : (x d k a : ℕ) → kind_at (code_of g n) x ≡ Switch d k a → ((p y m : ℕ) × (kind_at (code_of g n) d ≡ Cond p y m)) × NoCall (code_of g n) a
  switch-line x d k a e =
      let h = right-line g acc n l x (node-there (code_of g n) x (λ z. cc)) in
      let p = both-true (is_cond_node (code_of g n) d) (is_operand (code_of g n) a && nat_lt k 64) (rw e at h) in
      let q = both-true (is_operand (code_of g n) a) (nat_lt k 64) p.1 in
      (cond-node (code_of g n) d p.0, λ f. operand-no_call (code_of g n) a f q.0)

  -- an out gives no call
  pub leave-line : (x k a : ℕ) → kind_at (code_of g n) x ≡ Leave k a → NoCall (code_of g n) a
  leave-line x k a e =
      let h = right-line g acc n l x (node-there (code_of g n) x (λ z. cc)) in
      let p = both-true (is_operand (code_of g n) a) (nat_lt k 64) (rw e at h) in λ (d : ℕ). operand-no_call (code_of g n) a d p.0
