-- What the tables of sets say in the definitions' words: which classes come directly behind a class, and how many directly before it.
use Rattle.std.proofs.Common.{◌≡◌, ℕ, ◌<◌, ◌≤◌, List, [], ◌∷◌, map, filter, count_by, ◌+◌, Bool, if◌then◌else◌, refl, sym, ap₂, ◌∙◌, arith}
use Rattle.std.proofs.lemmas.List.Sums.{sum_by-cons}
use Rattle.tam_word.specs.Lists.{below, has}
use Rattle.tam_word.proofs.Members.{in-below}
use Rattle.tam_graph.specs.Edges.{Edges}
use Rattle.tam_sets.proofs.PlacesWhere.{has-where}
use Rattle.tam_split.specs.Partitions.{Parts, directly_before}
use Rattle.tam_order.specs.ClassOrders.{behind_of}
use Rattle.tam_order.proofs.FiringSteps.{filter-members}

-- the classes directly behind class k, as they are listed
pub behind-listed : (es : Edges) (ps : Parts) (n k : ℕ) → n ≤ 512 → filter (has (behind_of es ps k)) (below n) ≡ filter (directly_before es ps k) (below n)
behind-listed es ps n k few = filter-members (has (behind_of es ps k)) (directly_before es ps k) (below n) (λ d i.
    let l = in-below d n i in has-where (directly_before es ps k) d (omega (arith, l, few)))

-- how many classes are directly before class k
pub before-counted : (es : Edges) (ps : Parts) (n k : ℕ) → k < 512
    → count_by (λ set. has set k) (map (behind_of es ps) (below n)) ≡ count_by (λ d. directly_before es ps d k) (below n)
before-counted es ps n k small = go (below n)
  where
    go : (ds : List ℕ) → count_by (λ set. has set k) (map (behind_of es ps) ds) ≡ count_by (λ d. directly_before es ps d k) ds
    go [] = refl
    go (d ∷ ds) =
        sum_by-cons (λ set. if has set k then 1 else 0) (behind_of es ps d) (map (behind_of es ps) ds)
        ∙ (ap₂ (λ (t : Bool) (m : ℕ). (if t then 1 else 0) + m) (has-where (directly_before es ps d) k small) (go ds)
        ∙ sym (sum_by-cons (λ c. if directly_before es ps c k then 1 else 0) d ds))
