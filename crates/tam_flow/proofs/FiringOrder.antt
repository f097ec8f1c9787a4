-- In the order of a class each place stands behind those of the class that have an edge to it.
use Rattle.std.proofs.Common.{◌≡◌, ℕ, zero, suc, ◌≤◌, Bool, true, false, ◌==◌, ◌&&◌, not, List, [], ◌∷◌, filter, length, refl, sym, ap, arith, inl, inr, ◌⊎◌}
use Rattle.std.proofs.Common.{⊎_elim}
use Rattle.tam_word.specs.Lists.{first_of, has}
use Rattle.tam_graph.specs.Edges.{Edges}
use Rattle.tam_graph.proofs.Walks.{is_edge}
use Rattle.tam_split.specs.GraphPartitions.{waits_for_none, taken_first, firing_order}
use Rattle.tam_split.proofs.BlockEdges.{is_edge-in}
use Rattle.tam_word.proofs.Tests.{self-eq, number-eq, true-both, not-both}
use Rattle.tam_word.proofs.Members.{In, in-any, in-has, filter-in, one-first}
use Rattle.tam_flow.proofs.Acyclic.{IsAcyclic, shorter, one-waits}

module _ (es : Edges) (class : List ℕ) where
  -- behind those in front each place stands behind those of the class that have an edge to it
  abbrev pub IsOrdered : List ℕ → List ℕ → Type 0
  IsOrdered prefix [] = Unit {0}
  IsOrdered prefix (y ∷ ys) = ((d : ℕ) → In d class → is_edge es d y ≡ true → In d prefix) × IsOrdered (y ∷ prefix) ys

  module _ (acyclic : IsAcyclic es) where
    -- what is taken in turn stands so, where each place of the class was taken or is left
    taken-ordered : (n : ℕ) (prefix left : List ℕ) → length left ≤ n → ((d : ℕ) → In d class → In d prefix ⊎ In d left)
        → IsOrdered prefix (taken_first n es left)
    taken-ordered zero prefix [] l h = tt
    taken-ordered zero prefix (x ∷ xs) l h = absurd (omega arith)
    taken-ordered (suc n) prefix left l h = go (first_of (waits_for_none es left) left) refl (λ f m. taken-ordered n f m)
      where
        none-left : (m : List ℕ) → first_of (waits_for_none es m) m ≡ [] → IsOrdered prefix m
        none-left [] e = tt
        none-left (x ∷ xs) e = absurd (one-waits es acyclic x xs e)

        go : (f : List ℕ) → first_of (waits_for_none es left) left ≡ f
            → ((f m : List ℕ) → length m ≤ n → ((d : ℕ) → In d class → In d f ⊎ In d m) → IsOrdered f (taken_first n es m))
            → IsOrdered prefix (taken_first (suc n) es left)
        go [] e ih = rw (taken_first, e) (none-left left e)
        go (x ∷ xs) e ih =
            let less = shorter x left (in-has left x first.0) in
            rw (taken_first, e) (behind, ih (x ∷ prefix) (filter (λ y. not (y == x)) left) (omega (arith, less, l)) later)
          where
            first : In x left × (waits_for_none es left x ≡ true)
            first = one-first (waits_for_none es left) left x xs e

            behind : (d : ℕ) → In d class → is_edge es d x ≡ true → In d prefix
            behind d m k = ⊎_elim (λ a. a) (λ a. absurd (not-both _ (in-any (λ (p : ℕ × ℕ). (p.1 == x) && has left p.0) es (d, x) (is_edge-in es d x k)
                (true-both (x == x) (has left d) (self-eq x) (in-has left d a))) first.1)) (h d m)

            later : (d : ℕ) → In d class → In d (x ∷ prefix) ⊎ In d (filter (λ y. not (y == x)) left)
            later d m = ⊎_elim (λ a. inl (inr a)) (λ a. still (d == x) refl a) (h d m)
              where
                still : (b : Bool) → (d == x) ≡ b → In d left → In d (x ∷ prefix) ⊎ In d (filter (λ y. not (y == x)) left)
                still true p a = inl (inl (sym (number-eq d x p)))
                still false p a = inr (filter-in (λ y. not (y == x)) d left a (ap not p))

    -- so it is in the order of the class
    pub order-ordered : IsOrdered [] (firing_order es class)
    order-ordered = taken-ordered (length class) [] class (omega arith) (λ d m. inr m)
