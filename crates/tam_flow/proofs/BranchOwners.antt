-- The branches of a cond of an accepted graph are opened by it, and the body by none; so a switch and an out are told by their places.
use Rattle.std.proofs.Common.{◌≡◌, ℕ, zero, suc, ◌+◌, ◌<◌, true, ◌==◌, ◌&&◌, List, [], ◌∷◌, zip, Option, Some, None, length, slice_get, refl, sym, ap, ◌∙◌}
use Rattle.std.proofs.Common.{arith, subst, inl, inr}
use Rattle.std.specs.List.{AllByRecursion}
use Rattle.tam_graph.specs.declared.kind.Kind.TheVariants.{Cond, Switch, Enter, Leave}
use Rattle.tam_graph.specs.Graphs.{Graph, Code, code_of, kind_at, block_at, blocks_of, chosen_branch, branch_of_kind}
use Rattle.tam_graph.specs.Accepted.{IsAccepted}
use Rattle.tam_graph.specs.Written.{IsWritten, in_opening_order}
use Rattle.tam_graph.proofs.Visits.{node-visited, both-opened}
use Rattle.tam_graph.proofs.AcceptedFacts.{node-there}
use Rattle.tam_graph.proofs.Branches.{branches-later}
use Rattle.tam_word.proofs.Tests.{true-both, self-eq}
use Rattle.tam_word.proofs.Each.{each-in}
use Rattle.tam_word.proofs.Members.{In, below-in}
use Rattle.tam_flow.proofs.SoundStates.{counted, below-counted}
use Rattle.tam_flow.proofs.InterfacePlaces.{place-one}

-- each element of a list beside its place
placed-each : {X : Type 0} (all xs : List X) (k : ℕ) → ((j : ℕ) → slice_get all (k + j) ≡ slice_get xs j)
    → AllByRecursion (λ (e : ℕ × X). slice_get all e.0 ≡ Some e.1) (zip (counted k (length xs)) xs)
placed-each all [] k h = tt
placed-each {X} all (x ∷ xs) k h =
    let e : k + 0 ≡ k = omega arith in (
      subst (λ m. slice_get all m ≡ Some x) e (h 0),
      placed-each all xs (suc k) (λ j. let d : suc k + j ≡ k + suc j = omega arith in ap (λ m. slice_get all m) d ∙ h (suc j)),
    )

module _ (codes : ℕ) (c : Code) (written : IsWritten codes c) where
  -- what opens a block stands at its place
  opener : (b : ℕ) (o : Option ℕ) → In (b, o) ((0, None) ∷ in_opening_order (length c.owners) c 0) → slice_get c.owners b ≡ Some o
  opener b o m =
      each-in (λ (e : ℕ × Option ℕ). slice_get c.owners e.0 ≡ Some e.1) (zip (blocks_of c) c.owners) (b, o)
      (subst (λ l. AllByRecursion (λ (e : ℕ × Option ℕ). slice_get c.owners e.0 ≡ Some e.1) (zip l c.owners)) (sym (below-counted (length c.owners)))
      (placed-each c.owners c.owners 0 (λ j. let e : 0 + j ≡ j = omega arith in ap (λ n. slice_get c.owners n) e)))
      (subst (λ l. In (b, o) l) written.blocks_in_order m)

  -- nothing opens the body
  pub body-owner : slice_get c.owners 0 ≡ Some None
  body-owner = opener 0 None (inl refl)

  -- a cond opens the branch that its word chooses, and that isn't the body
  pub chosen-owner : (d p y n w : ℕ) → kind_at c d ≡ Cond p y n → (slice_get c.owners (chosen_branch c d w) ≡ Some (Some d)) × (0 < chosen_branch c d w)
  chosen-owner d p y n w e =
      subst (λ k. (slice_get c.owners (branch_of_kind k w) ≡ Some (Some d)) × (0 < branch_of_kind k w)) (sym e) (branch w)
    where
      both : In (y, Some d) (in_opening_order (length c.owners) c 0) × In (n, Some d) (in_opening_order (length c.owners) c 0)
      both = both-opened (length c.owners) c 0 d p y n e (node-visited (length c.owners) c 0 d
          (subst (In d) (sym written.nodes_in_order) (below-in d (length c.nodes) (node-there c d (λ z. cond-enter (sym e ∙ z))))))
        where
          cond-enter : Cond p y n ≡ Enter 0 → ⊥
          cond-enter q = cc

      later : (0 < y) × (0 < n)
      later = branches-later codes c written d p y n e

      branch : (w : ℕ) → (slice_get c.owners (branch_of_kind (Cond p y n) w) ≡ Some (Some d)) × (0 < branch_of_kind (Cond p y n) w)
      branch zero = (opener n (Some d) (inr both.1), later.1)
      branch (suc w) = (opener y (Some d) (inr both.0), later.0)

module _ (g : Graph) (accepted : IsAccepted g) (n : ℕ) (there : n < length g.codes) where
  -- a switch is told by its cond and its place
  pub switch-one : (x z d k a e : ℕ) → kind_at (code_of g n) x ≡ Switch d k a → kind_at (code_of g n) z ≡ Switch d k e → x ≡ z
  switch-one x z d k a e p q = place-one g accepted n there x z (at x a p) (at z e q) (rw (p, q) same) (rw (q, p) same)
    where
      at : (y b : ℕ) → kind_at (code_of g n) y ≡ Switch d k b → y < length (code_of g n).nodes
      at y b h = node-there (code_of g n) y (λ r. switch-enter (sym h ∙ r))
        where
          switch-enter : Switch d k b ≡ Enter 0 → ⊥
          switch-enter t = cc

      same : ((d == d) && (k == k)) ≡ true
      same = true-both (d == d) (k == k) (self-eq d) (self-eq k)

  -- and an out by its block and its place
  pub leave-one : (x z k a e : ℕ) → block_at (code_of g n) x ≡ block_at (code_of g n) z → kind_at (code_of g n) x ≡ Leave k a
      → kind_at (code_of g n) z ≡ Leave k e → x ≡ z
  leave-one x z k a e b p q = place-one g accepted n there x z (at x a p) (at z e q) (rw (b, p, q, self-eq (block_at (code_of g n) z)) (self-eq k))
      (rw (b, p, q, self-eq (block_at (code_of g n) z)) (self-eq k))
    where
      at : (y b : ℕ) → kind_at (code_of g n) y ≡ Leave k b → y < length (code_of g n).nodes
      at y b h = node-there (code_of g n) y (λ r. leave-enter (sym h ∙ r))
        where
          leave-enter : Leave k b ≡ Enter 0 → ⊥
          leave-enter t = cc
