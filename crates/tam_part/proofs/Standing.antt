-- The places by which classes are known, and the ways when each place is a class of its own.
use Rattle.std.proofs.Common.{◌≡◌, ℕ, zero, suc, ◌<◌, List, [], ◌∷◌, Bool, true, false, ◌&&◌, ◌==◌, refl, sym, subst, ap, ap₂, inl, inr, ◌∙◌, length}
use Rattle.std.proofs.Common.{nat_lt, arith, true≢false, get_or}
use Rattle.std.proofs.Common.{map}
use Rattle.tam_word.specs.Lists.{below, has}
use Rattle.tam_word.proofs.Tests.{number-eq, both-true, below-test, test-below}
use Rattle.tam_word.proofs.Members.{In, any-in, in-map, all-in, has-in, in-has}
use Rattle.tam_graph.proofs.Walks.{reaches-walk, last-edge, is_edge}
use Rattle.tam_graph.proofs.Quotients.{under}
use Rattle.tam_split.specs.Blocks.{BlockGraph}
use Rattle.tam_split.specs.Partitions.{Parts, class_of, class_at, single, leads_to}
use Rattle.tam_split.specs.PartitionLaws.{IsBlockGraph}
use Rattle.tam_split.specs.KeptParts.{AreClasses}
use Rattle.tam_split.proofs.Classes.{IsParts, class-is, in-class_at}
use Rattle.tam_split.proofs.Validity.{ClassLeads, leads_to-leads}
use Rattle.tam_split.proofs.Partitioning.{edge-within, length-single, single-class}
use Rattle.tam_sets.proofs.PlacesWhere.{places-same}
use Rattle.tam_quotient.specs.declared.ways.Ways.{Ways}
use Rattle.tam_quotient.specs.Quotients.{entering_of, allowed_of}
use Rattle.tam_quotient.specs.Joins.{ways_of}
use Rattle.tam_quotient.proofs.Tabling.{get-table, length-table}
use Rattle.tam_part.specs.Kept.{place_leads, ways_at, no_ways, AreWays}

-- ---- the least place of a class

-- a class is one of them
pub class-in : (ps : Parts) (k : ℕ) → k < length ps → In (class_at ps k) ps
class-in [] k h = absurd (omega arith)
class-in (p ∷ ps) zero h = inl refl
class-in (p ∷ ps) (suc k) h = inr (class-in ps k (omega arith))

-- it has a place
pub class-long : (ps : Parts) → AreClasses ps → (k : ℕ) → k < length ps → 0 < length (class_at ps k)
class-long ps kept k h = test-below 0 (length (class_at ps k)) (all-in (λ (p : List ℕ). nat_lt 0 (length p)) ps kept.none_empty (class_at ps k)
    (class-in ps k h))

-- the first of some is one of them
pub first-has : (xs : List ℕ) → 0 < length xs → has xs (get_or xs 0 0) ≡ true
first-has [] h = absurd (omega arith)
first-has (x ∷ xs) h = in-has (x ∷ xs) x (inl refl)

-- a place of a class has that class
pub member-class : (n : ℕ) (ps : Parts) → IsParts n ps → (k x : ℕ) → has (class_at ps k) x ≡ true → (class_of ps x ≡ k) × (x < n)
member-class n ps parts k x h =
    let s = in-class_at ps k x (has-in (class_at ps k) x h) in
    (class-is ps parts.once k x s, parts.inside k x s)

-- ---- each place alone

module _ (b : BlockGraph) (graph : IsBlockGraph b) where
  -- one class for each place
  each : Parts
  each = single (length b.vertices)

  -- what the class of a place leads to is the class of a place
  led-within : (x z : ℕ) → x < length b.vertices → ClassLeads b each x z → z < length b.vertices
  unfolding each
  led-within x z l h = elim (last-edge (reaches-walk (under (class_of each) b.edges) x z h))
      [ inl e ↦ subst (λ w. w < length b.vertices) e l | inr r ↦ ends r.0 r.2 ]
    where
      ends : (w : ℕ) → is_edge (under (class_of (single (length b.vertices))) b.edges) w z ≡ true → z < length b.vertices
      ends w e =
          let r = any-in (λ (d : ℕ × ℕ). (d.0 == w) && (d.1 == z)) (under (class_of (single (length b.vertices))) b.edges) e in
          let s = in-map (λ (d : ℕ × ℕ). (class_of (single (length b.vertices)) d.0, class_of (single (length b.vertices)) d.1)) r.0 b.edges r.1 in
          let t : r.0.1 ≡ z = number-eq r.0.1 z (both-true (r.0.0 == w) (r.0.1 == z) r.2).1 in
          let low = (edge-within b graph s.0 s.1).1 in
          let same : s.0.1 ≡ z = sym (single-class (length b.vertices) s.0.1 low) ∙ (ap (λ (d : ℕ × ℕ). d.1) s.2 ∙ t) in
          subst (λ w. w < length b.vertices) same low

  -- the ways by classes are those by places
  ways-single : (x : ℕ) → x < length b.vertices → ways_of b each x ≡ ways_at b each x
  unfolding each
  ways-single x l = fields
      (places-same (leads_to b.edges (single (length b.vertices)) x) (λ y. nat_lt y (length b.vertices) && place_leads b (single (length b.vertices)) x y)
      (λ y m. ahead y (nat_lt y (length b.vertices)) refl))
      (places-same (λ y. nat_lt y (length (single (length b.vertices))) && leads_to b.edges (single (length b.vertices)) y x)
      (λ y. nat_lt y (length b.vertices) && place_leads b (single (length b.vertices)) y x) (λ y m.
      ap (λ n. nat_lt y n && leads_to b.edges (single (length b.vertices)) y x) (length-single (length b.vertices))
      ∙ behind y (nat_lt y (length b.vertices)) refl))
      (ap (entering_of b (single (length b.vertices))) (sym own)) (ap (allowed_of b (single (length b.vertices))) (sym own))
    where
      own : class_of (single (length b.vertices)) x ≡ x
      own = single-class (length b.vertices) x l

      fields : {d e f g p q r s : List ℕ} → d ≡ p → e ≡ q → f ≡ r → g ≡ s
          → ◌≡◌ {A = Ways} (record { ahead = d; behind = e; entering = f; allowed = g }) (record { ahead = p; behind = q; entering = r; allowed = s })
      fields h i j k = cc

      ahead : (y : ℕ) (t : Bool) → nat_lt y (length b.vertices) ≡ t → leads_to b.edges (single (length b.vertices)) x y
          ≡ (nat_lt y (length b.vertices) && place_leads b (single (length b.vertices)) x y)
      ahead y true p =
          rw p (ap₂ (leads_to b.edges (single (length b.vertices))) (sym own) (sym (single-class (length b.vertices) y (test-below y (length b.vertices) p))))
      ahead y false p = rw p (none (leads_to b.edges (single (length b.vertices)) x y) refl)
        where
          none : (t : Bool) → leads_to b.edges (single (length b.vertices)) x y ≡ t → leads_to b.edges (single (length b.vertices)) x y ≡ false
          none false q = q
          none true q =
              let low = led-within x y l (leads_to-leads b (single (length b.vertices)) x y q) in
              absurd (true≢false (sym (below-test y (length b.vertices) low) ∙ p))

      behind : (y : ℕ) (t : Bool) → nat_lt y (length b.vertices) ≡ t → (nat_lt y (length b.vertices) && leads_to b.edges (single (length b.vertices)) y x)
          ≡ (nat_lt y (length b.vertices) && place_leads b (single (length b.vertices)) y x)
      behind y true p =
          rw p (ap₂ (leads_to b.edges (single (length b.vertices))) (sym (single-class (length b.vertices) y (test-below y (length b.vertices) p))) (sym own))
      behind y false p = rw p refl

-- so the ways of the classes are those of the places
pub ways-begun : (b : BlockGraph) → IsBlockGraph b → (ps : Parts) (ways : List Ways) → ps ≡ single (length b.vertices)
    → ways ≡ map (ways_of b (single (length b.vertices))) (below (length b.vertices)) → AreWays b ps ways
unfolding each
ways-begun b graph ps ways e is = record {
  count = ap length is ∙ length-table (ways_of b (single (length b.vertices))) (length b.vertices);
  each = λ x l least. ap (λ (ws : List Ways). get_or ws x no_ways) is
      ∙ (get-table (ways_of b (single (length b.vertices))) (length b.vertices) x no_ways l
      ∙ (ways-single b graph x l ∙ ap (λ (qs : Parts). ways_at b qs x) (sym e)));
}
