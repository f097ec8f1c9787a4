-- The order in which a class fires, place by place.
use Rattle.std.proofs.Common.{◌≡◌, ◌∙◌, ℕ, zero, suc, ◌==◌, not, List, [], ◌∷◌, ◌++◌, filter, refl, ap, Result, Ok, Err, IfOk}
use Rattle.std.proofs.lemmas.List.{append_assoc}
use Rattle.tam_word.specs.Lists.{first_of}
use Rattle.tam_graph.specs.Edges.{Edges}
use Rattle.tam_split.specs.GraphPartitions.{waits_for_none, taken_first}

module _ (es : Edges) (left order : List ℕ) where
  -- one more place is taken
  pub taken-next : (n m x : ℕ) → n ≡ suc m → x ∷ [] ≡ first_of (waits_for_none es left) left
      → (order ++ x ∷ []) ++ taken_first m es (filter (λ y. not (y == x)) left) ≡ order ++ taken_first n es left
  taken-next n m x count found =
      append_assoc order (x ∷ []) (taken_first m es (filter (λ y. not (y == x)) left)) ∙ ap (λ l. order ++ l) (rw (count, taken_first, ← found) refl)

  -- none is
  pub taken-none : (n : ℕ) → [] ≡ first_of (waits_for_none es left) left → taken_first n es left ≡ left
  taken-none zero none = refl
  taken-none (suc n) none = rw (taken_first, ← none) refl

-- what follows for a value from what holds of it
pub if_ok : {T E : Type 0} {P Q : T → Type 0} (r : Result T E) → ((v : T) → P v → Q v) → IfOk r P → IfOk r Q
if_ok (Ok v) follow holds = follow v holds
if_ok (Err e) follow holds = holds
