-- The branches of a cond are blocks of its code.
use Rattle.std.proofs.Common.{◌≡◌, ℕ, ◌<◌, List, [], ◌∷◌, zip, Option, Some, None, length, refl, ap, subst, sym, inl, inr}
use Rattle.tam_graph.specs.declared.kind.Kind.TheVariants.{Cond}
use Rattle.tam_graph.specs.Graphs.{Code, kind_at, blocks_of}
use Rattle.tam_graph.specs.Written.{IsWritten, AtNode, visits, in_opening_order}
use Rattle.tam_graph.proofs.Visits.{node-visited, both-opened}
use Rattle.tam_word.proofs.Each.{below-each, each-in}
use Rattle.tam_word.proofs.Members.{In, below-in}

-- an element of a zip has the first list's element
in-zip : {Y : Type 0} (xs : List ℕ) (ys : List Y) (a : ℕ) (b : Y) → In (a, b) (zip xs ys) → In a xs
in-zip [] ys a b h = absurd h
in-zip (x ∷ xs) [] a b h = absurd h
in-zip (x ∷ xs) (y ∷ ys) a b (inl h) = inl (ap (λ p. p.0) h)
in-zip (x ∷ xs) (y ∷ ys) a b (inr h) = inr (in-zip xs ys a b h)

module _ (codes : ℕ) (c : Code) (written : IsWritten codes c) where
  -- what is opened is a block
  pub opened-below : (b : ℕ) (o : Option ℕ) → In (b, o) ((0, None) ∷ in_opening_order (length c.owners) c 0) → b < length c.owners
  opened-below b o h =
      each-in (λ x. x < length c.owners) (blocks_of c) b (below-each (λ x. x < length c.owners) (length c.owners) (λ x l. l))
      (in-zip (blocks_of c) c.owners b o (subst (λ l. In (b, o) l) written.blocks_in_order h))

  -- a code has a body
  pub has-body : 0 < length c.owners
  has-body = opened-below 0 None (inl refl)

  -- the branches of a cond are blocks
  pub branches-below : (x p y n : ℕ) → x < length c.nodes → kind_at c x ≡ Cond p y n → (y < length c.owners) × (n < length c.owners)
  branches-below x p y n l e =
      let line : In (AtNode x) (visits (length c.owners) c 0) = node-visited (length c.owners) c 0 x
      (subst (In x) (sym written.nodes_in_order) (below-in x (length c.nodes) l)) in
      let o = both-opened (length c.owners) c 0 x p y n e line in
      (opened-below y (Some x) (inr o.0), opened-below n (Some x) (inr o.1))
