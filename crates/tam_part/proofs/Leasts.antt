-- The first place of a class is its least, and a place that is the least of its class is the first; the ways of first places, brought up to date.
use Rattle.std.proofs.Common.{◌≡◌, ℕ, ◌+◌, ◌<◌, ◌≤◌, List, [], ◌∷◌, Bool, true, false, ◌==◌, refl, sym, ap, subst, inl, inr, ◌∙◌, arith, length, get_or, set}
use Rattle.std.proofs.lemmas.List.{get_or-set_same, get_or-set_other}
use Rattle.std.proofs.Math.ListN.{length-set}
use Rattle.tam_word.specs.Lists.{has}
use Rattle.tam_word.proofs.Tests.{number-eq, number-differs}
use Rattle.tam_word.proofs.Members.{In, all-in}
use Rattle.tam_split.specs.Partitions.{Parts, class_of, class_at}
use Rattle.tam_split.specs.KeptParts.{is_rising, AreClasses}
use Rattle.tam_split.proofs.Rising.{head-below}
use Rattle.tam_split.proofs.Classes.{IsParts, class-stands, stands-in}
use Rattle.tam_quotient.specs.declared.ways.Ways.{Ways}
use Rattle.tam_part.specs.Kept.{first_in, IsLeast, way_in, no_ways, ways_after}
use Rattle.tam_part.proofs.Standing.{class-in, class-long, first-has, member-class}

-- the first of a rising list is its least
first-low : (xs : List ℕ) → is_rising xs ≡ true → (y : ℕ) → In y xs → get_or xs 0 0 ≤ y
first-low [] h y i = absurd i
first-low (x ∷ xs) h y (inl e) = let l : x ≤ y = omega (arith, e) in l
first-low (x ∷ xs) h y (inr i) = let m = head-below x xs h y i in let l : x ≤ y = omega (arith, m) in l

-- the ways of the first places of the classes before class k are brought up to date, and those of the others are left
pub record IsAdding (ps : Parts) (both : Ways) (old now : List Ways) (k : ℕ) : Type 0 where
  pub count : length now ≡ length old
  pub done : (j : ℕ) → j < k → way_in now (first_in ps j) ≡ ways_after both (first_in ps j) (way_in old (first_in ps j))
  pub left : (j : ℕ) → k ≤ j → j < length ps → way_in now (first_in ps j) ≡ way_in old (first_in ps j)

module _ (ps : Parts) (kept : AreClasses ps) where
  -- the first place of a class stands in it
  first-member : (k : ℕ) → k < length ps → has (class_at ps k) (first_in ps k) ≡ true
  first-member k h = first-has (class_at ps k) (class-long ps kept k h)

  -- and is the first of no other
  first-differs : (j k : ℕ) → j < length ps → k < length ps → first_in ps j ≡ first_in ps k → j ≡ k
  first-differs j k hj hk e =
      kept.each_once.only_one j k (first_in ps j) (first-member j hj) (subst (λ x. has (class_at ps k) x ≡ true) (sym e) (first-member k hk))

  -- those of class k are brought up to date next
  pub adding-step : (both : Ways) (old now : List Ways) (k : ℕ) (w : Ways) → k < length ps → first_in ps k < length old
      → w ≡ ways_after both (first_in ps k) (way_in now (first_in ps k)) → IsAdding ps both old now k → IsAdding ps both old (set now (first_in ps k) w) (k + 1)
  adding-step both old now k w h low is was = record {
    count = length-set now (first_in ps k) w ∙ was.count;
    done = λ j l. step j l (j == k) refl;
    left = λ j l m. other j m (λ e. omega (arith, e, l)) ∙ was.left j (omega (arith, l)) m;
  }
    where
      there : first_in ps k < length now
      there = omega (arith, low, was.count)

      other : (j : ℕ) → j < length ps → (j ≡ k → ⊥) → way_in (set now (first_in ps k) w) (first_in ps j) ≡ way_in now (first_in ps j)
      other j m d = get_or-set_other now (first_in ps k) (first_in ps j) w no_ways (λ e. d (first-differs j k m h e))

      own : way_in (set now (first_in ps k) w) (first_in ps k) ≡ ways_after both (first_in ps k) (way_in old (first_in ps k))
      own = get_or-set_same now (first_in ps k) w no_ways there ∙ (is ∙ ap (ways_after both (first_in ps k)) (was.left k (omega arith) h))

      step : (j : ℕ) → j < k + 1 → (t : Bool) → (j == k) ≡ t
          → way_in (set now (first_in ps k) w) (first_in ps j) ≡ ways_after both (first_in ps j) (way_in old (first_in ps j))
      step j l true e =
          subst (λ i. way_in (set now (first_in ps k) w) (first_in ps i) ≡ ways_after both (first_in ps i) (way_in old (first_in ps i)))
          (sym (number-eq j k e)) own
      step j l false e =
          let d = number-differs j k e in
          let m : j < k = omega (arith, l, d) in
          other j (omega (arith, m, h)) d ∙ was.done j m

  module _ (n : ℕ) (parts : IsParts n ps) where
    -- the class of the first place of a class
    pub first-class : (k : ℕ) → k < length ps → (class_of ps (first_in ps k) ≡ k) × (first_in ps k < n)
    first-class k h = member-class n ps parts k (first_in ps k) (first-member k h)

    -- no place of a class is below its first
    first-below : (k : ℕ) → k < length ps → (y : ℕ) → class_of ps y ≡ k → first_in ps k ≤ y
    first-below k h y e =
        let stands = class-stands ps y (subst (λ j. j < length ps) (sym e) h) in
        let i : In y (class_at ps k) = subst (λ j. In y (class_at ps j)) e (stands-in ps (class_of ps y) y stands) in
        first-low (class_at ps k) (all-in is_rising ps kept.rising (class_at ps k) (class-in ps k h)) y i

    -- so it is the least
    pub first-least : (x k : ℕ) → k < length ps → x ≡ first_in ps k → IsLeast ps x
    first-least x k h e = subst (λ z. IsLeast ps z) (sym e) (λ y s. first-below k h y (s ∙ (first-class k h).0))

    -- and the least is the first
    pub least-first : (x : ℕ) → x < n → IsLeast ps x → x ≡ first_in ps (class_of ps x)
    least-first x l least =
        let h = parts.in_one x l in
        let a : x ≤ first_in ps (class_of ps x) = least (first_in ps (class_of ps x)) (first-class (class_of ps x) h).0 in
        let b : first_in ps (class_of ps x) ≤ x = first-below (class_of ps x) h x refl in omega (arith, a, b)
