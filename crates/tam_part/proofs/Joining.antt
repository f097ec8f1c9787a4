-- The ways of two classes of a valid partition tell whether they may be merged.
use Rattle.std.proofs.Common.{◌≡◌, ℕ, ◌<◌, ◌≤◌, List, Bool, true, false, ◌&&◌, ◌||◌, ◌==◌, not, refl, sym, subst, ap, ap₂, inl, inr, ◌⊎◌, ◌∙◌, length}
use Rattle.std.proofs.Common.{nat_lt, arith, true≢false}
use Rattle.tam_word.specs.Lists.{has}
use Rattle.tam_word.proofs.Tests.{number-eq, eq-number, both-true, below-test, test-below}
use Rattle.tam_word.proofs.Members.{any-in, in-map, all-in, in-all}
use Rattle.tam_graph.proofs.Reaching.{reaches-self}
use Rattle.tam_graph.proofs.Walks.{reaches-walk, last-edge, is_edge}
use Rattle.tam_graph.proofs.Quotients.{under}
use Rattle.tam_split.specs.Blocks.{BlockGraph}
use Rattle.tam_split.specs.Partitions.{Parts, class_of, merged, may_merge, are_apart, keeps_dependences, is_valid}
use Rattle.tam_split.specs.PartitionLaws.{IsBlockGraph}
use Rattle.tam_split.proofs.Classes.{IsParts, parts-after}
use Rattle.tam_split.proofs.Validity.{ClassLeads, leads_to-leads, leads-leads_to, kept-keeps, Valid, is_valid-valid, valid-is_valid}
use Rattle.tam_split.proofs.Separation.{Apart, are_apart-apart, apart-are_apart, apart-exactly, apart-may_not}
use Rattle.tam_split.proofs.Partitioning.{edge-within}
use Rattle.tam_sets.specs.Sets.{places_where, met, joined, is_within}
use Rattle.tam_sets.proofs.PlacesWhere.{where-in, in-where, in-passes, has-where}
use Rattle.tam_quotient.specs.Quotients.{entering_of, allowed_of}
use Rattle.tam_quotient.specs.Joins.{tells_apart, tells_none_between}
use Rattle.tam_quotient.proofs.Places.{same-test, joined-where, met-where}
use Rattle.tam_quotient.proofs.Joining.{within-no_leak, no_leak-within}
use Rattle.tam_quotient.proofs.Thirds.{NoneBetween, none-between, none-back, one-after}
use Rattle.tam_part.specs.Kept.{place_leads, ways_at}
use Rattle.tam_part.proofs.Leading.{or-cases, or-left, or-right, and-both, and-each}

-- ---- sets by tests

-- what passes the first test passes the second
within-each : (s t : ℕ → Bool) → is_within (places_where s) (places_where t) ≡ true → (y : ℕ) → y < 512 → s y ≡ true → t y ≡ true
within-each s t h y l p = sym (has-where t y l) ∙ all-in (has (places_where t)) (places_where s) h y (where-in s y l p)

-- and the other way round
each-within : (s t : ℕ → Bool) → ((y : ℕ) → y < 512 → s y ≡ true → t y ≡ true) → is_within (places_where s) (places_where t) ≡ true
each-within s t h = in-all (has (places_where t)) (places_where s) (λ y i. has-where t y (in-where s y i) ∙ h y (in-where s y i) (in-passes s y i))

-- two met, joined with two others met
met-twice : (s t u v : ℕ → Bool) → joined (met (places_where s) (places_where t)) (met (places_where u) (places_where v))
    ≡ places_where (λ y. (s y && t y) || (u y && v y))
met-twice s t u v = ap₂ (λ (xs ys : List ℕ). joined xs ys) (met-where s t) (met-where u v) ∙ joined-where (λ y. s y && t y) (λ y. u y && v y)

module _ (b : BlockGraph) (graph : IsBlockGraph b) (few : length b.vertices ≤ 512) (ps : Parts) (parts : IsParts (length b.vertices) ps) (valid : Valid b ps)
    (k l : ℕ) (below : k < l) (within : l < length ps) (a c : ℕ) (in_k : class_of ps a ≡ k) (in_l : class_of ps c ≡ l) where
  -- ---- apart

  -- the ways tell whether the two are apart
  pub told-apart : tells_apart (ways_at b ps a) (ways_at b ps c) ≡ are_apart b ps k l
  told-apart =
      ap₂ (λ x y. not (is_within (entering_of b ps x) (allowed_of b ps y) && is_within (entering_of b ps y) (allowed_of b ps x))) in_k in_l
      ∙ go (are_apart b ps k l) refl
    where
      first : (t : Bool) → is_within (entering_of b ps k) (allowed_of b ps l) ≡ t → (is_within (entering_of b ps k) (allowed_of b ps l) ≡ true → ⊥)
          → not (is_within (entering_of b ps k) (allowed_of b ps l) && is_within (entering_of b ps l) (allowed_of b ps k)) ≡ true
      first true p n = absurd (n p)
      first false p n = rw p refl

      second : (t : Bool) → is_within (entering_of b ps l) (allowed_of b ps k) ≡ t → (s : Bool) → is_within (entering_of b ps k) (allowed_of b ps l) ≡ s
          → (is_within (entering_of b ps l) (allowed_of b ps k) ≡ true → ⊥)
          → not (is_within (entering_of b ps k) (allowed_of b ps l) && is_within (entering_of b ps l) (allowed_of b ps k)) ≡ true
      second true p s q n = absurd (n p)
      second false p true q n = rw (q, p) refl
      second false p false q n = rw q refl

      apart : Apart b ps k l → not (is_within (entering_of b ps k) (allowed_of b ps l) && is_within (entering_of b ps l) (allowed_of b ps k)) ≡ true
      apart (inl w) = second (is_within (entering_of b ps l) (allowed_of b ps k)) refl (is_within (entering_of b ps k) (allowed_of b ps l)) refl
          (λ h. within-no_leak b graph few ps parts k l h w)
      apart (inr w) = first (is_within (entering_of b ps k) (allowed_of b ps l)) refl (λ h. within-no_leak b graph few ps parts l k h w)

      go : (t : Bool) → are_apart b ps k l ≡ t
          → not (is_within (entering_of b ps k) (allowed_of b ps l) && is_within (entering_of b ps l) (allowed_of b ps k)) ≡ are_apart b ps k l
      go true p = apart (are_apart-apart b ps k l p) ∙ sym p
      go false p =
          let none : Apart b ps k l → ⊥ = λ w. true≢false (sym (apart-are_apart b ps k l w) ∙ p) in
          let u = no_leak-within b graph few ps parts l k (λ w. none (inr w)) in
          let v = no_leak-within b graph few ps parts k l (λ w. none (inl w)) in
          rw (u, v) (sym p)

  -- ---- a third class

  -- on a way from one of the two to the other
  between : ℕ → Bool
  between y = ((nat_lt y (length b.vertices) && place_leads b ps a y) && (nat_lt y (length b.vertices) && place_leads b ps y c))
      || ((nat_lt y (length b.vertices) && place_leads b ps c y) && (nat_lt y (length b.vertices) && place_leads b ps y a))

  -- in one of the two
  own : ℕ → Bool
  own y = ((nat_lt y (length b.vertices) && place_leads b ps a y) && (nat_lt y (length b.vertices) && place_leads b ps y a))
      || ((nat_lt y (length b.vertices) && place_leads b ps c y) && (nat_lt y (length b.vertices) && place_leads b ps y c))

  -- the test by these
  told : tells_none_between (ways_at b ps a) (ways_at b ps c) ≡ is_within (places_where between) (places_where own)
  unfolding between own
  told = ap₂ (λ (xs ys : List ℕ). is_within xs ys)
      (met-twice (λ y. nat_lt y (length b.vertices) && place_leads b ps a y) (λ y. nat_lt y (length b.vertices) && place_leads b ps y c)
      (λ y. nat_lt y (length b.vertices) && place_leads b ps c y) (λ y. nat_lt y (length b.vertices) && place_leads b ps y a))
      (met-twice (λ y. nat_lt y (length b.vertices) && place_leads b ps a y) (λ y. nat_lt y (length b.vertices) && place_leads b ps y a)
      (λ y. nat_lt y (length b.vertices) && place_leads b ps c y) (λ y. nat_lt y (length b.vertices) && place_leads b ps y c))

  -- a place whose class leads to that of another and is led to by it has its class
  same-own : (x y : ℕ) → ((nat_lt y (length b.vertices) && place_leads b ps x y) && (nat_lt y (length b.vertices) && place_leads b ps y x)) ≡ true
      → class_of ps y ≡ class_of ps x
  same-own x y h =
      let r = and-each (nat_lt y (length b.vertices) && place_leads b ps x y) (nat_lt y (length b.vertices) && place_leads b ps y x) h in
      let p = and-each (nat_lt y (length b.vertices)) (place_leads b ps x y) r.0 in
      let q = and-each (nat_lt y (length b.vertices)) (place_leads b ps y x) r.1 in
      valid.one (class_of ps y) (class_of ps x) (leads_to-leads b ps (class_of ps y) (class_of ps x) q.1)
      (leads_to-leads b ps (class_of ps x) (class_of ps y) p.1)

  -- so a place of `own` is in one of the two
  own-class : (y : ℕ) → own y ≡ true → (class_of ps y ≡ k) ⊎ (class_of ps y ≡ l)
  unfolding own
  own-class y h = elim (or-cases _ _ h) [ inl p ↦ inl (same-own a y p ∙ in_k) | inr p ↦ inr (same-own c y p ∙ in_l) ]

  -- a place of the class of another leads to it
  self-own : (x y : ℕ) → y < length b.vertices → class_of ps y ≡ class_of ps x
      → ((nat_lt y (length b.vertices) && place_leads b ps x y) && (nat_lt y (length b.vertices) && place_leads b ps y x)) ≡ true
  self-own x y m e =
      let s = below-test y (length b.vertices) m in
      let p : place_leads b ps x y ≡ true = leads-leads_to b ps (class_of ps x) (class_of ps y)
      (subst (λ z. ClassLeads b ps (class_of ps x) z) (sym e) (reaches-self (under (class_of ps) b.edges) (class_of ps x))) in
      let q : place_leads b ps y x ≡ true = leads-leads_to b ps (class_of ps y) (class_of ps x)
      (subst (λ z. ClassLeads b ps z (class_of ps x)) (sym e) (reaches-self (under (class_of ps) b.edges) (class_of ps x))) in
      and-both (nat_lt y (length b.vertices) && place_leads b ps x y) (nat_lt y (length b.vertices) && place_leads b ps y x)
      (and-both (nat_lt y (length b.vertices)) (place_leads b ps x y) s p) (and-both (nat_lt y (length b.vertices)) (place_leads b ps y x) s q)

  -- what a class leads to is the class itself, or that of a place
  led-place : (x z : ℕ) → ClassLeads b ps x z → (x ≡ z) ⊎ ((y : ℕ) × (y < length b.vertices) × (class_of ps y ≡ z))
  led-place x z h = elim (last-edge (reaches-walk (under (class_of ps) b.edges) x z h)) [ inl e ↦ inl e | inr r ↦ inr (ends r.0 r.2) ]
    where
      ends : (w : ℕ) → is_edge (under (class_of ps) b.edges) w z ≡ true → (y : ℕ) × (y < length b.vertices) × (class_of ps y ≡ z)
      ends w e =
          let r = any-in (λ (d : ℕ × ℕ). (d.0 == w) && (d.1 == z)) (under (class_of ps) b.edges) e in
          let s = in-map (λ (d : ℕ × ℕ). (class_of ps d.0, class_of ps d.1)) r.0 b.edges r.1 in
          let t : r.0.1 ≡ z = number-eq r.0.1 z (both-true (r.0.0 == w) (r.0.1 == z) r.2).1 in
          (s.0.1, (edge-within b graph s.0 s.1).1, ap (λ (d : ℕ × ℕ). d.1) s.2 ∙ t)

  -- a third class on a way from the class of x to that of z has a place on it
  third-place : (x z m : ℕ) → (m ≡ class_of ps x → ⊥) → ClassLeads b ps (class_of ps x) m → ClassLeads b ps m (class_of ps z)
      → (y : ℕ) × (class_of ps y ≡ m) × (y < length b.vertices)
      × (((nat_lt y (length b.vertices) && place_leads b ps x y) && (nat_lt y (length b.vertices) && place_leads b ps y z)) ≡ true)
  third-place x z m n p q = elim (led-place (class_of ps x) m p) [ inl e ↦ absurd (n (sym e)) | inr r ↦ at r.0 r.1 r.2 ]
    where
      at : (y : ℕ) → y < length b.vertices → class_of ps y ≡ m → (y : ℕ) × (class_of ps y ≡ m) × (y < length b.vertices)
          × (((nat_lt y (length b.vertices) && place_leads b ps x y) && (nat_lt y (length b.vertices) && place_leads b ps y z)) ≡ true)
      at y h e =
          let s = below-test y (length b.vertices) h in
          let u : place_leads b ps x y ≡ true = leads-leads_to b ps (class_of ps x) (class_of ps y)
          (subst (λ w. ClassLeads b ps (class_of ps x) w) (sym e) p) in
          let v : place_leads b ps y z ≡ true = leads-leads_to b ps (class_of ps y) (class_of ps z)
          (subst (λ w. ClassLeads b ps w (class_of ps z)) (sym e) q) in (
            y,
            e,
            h,
            and-both (nat_lt y (length b.vertices) && place_leads b ps x y) (nat_lt y (length b.vertices) && place_leads b ps y z)
                (and-both (nat_lt y (length b.vertices)) (place_leads b ps x y) s u) (and-both (nat_lt y (length b.vertices)) (place_leads b ps y z) s v),
          )

  -- where the test passes, no third class stands between
  none-told : is_within (places_where between) (places_where own) ≡ true → NoneBetween (class_of ps) b.edges k l × NoneBetween (class_of ps) b.edges l k
  unfolding between own
  none-told h = (there, back)
    where
      in-own : (m y : ℕ) → class_of ps y ≡ m → y < length b.vertices → (m ≡ k → ⊥) → (m ≡ l → ⊥) → between y ≡ true → ⊥
      in-own m y e s p q t =
          let low : y < 512 = omega (arith, few, s) in
          elim (own-class y (within-each between own h y low t)) [ inl f ↦ p (sym e ∙ f) | inr f ↦ q (sym e ∙ f) ]

      there : NoneBetween (class_of ps) b.edges k l
      there m p q u v =
          let r = third-place a c m (λ e. p (e ∙ in_k)) (subst (λ z. ClassLeads b ps z m) (sym in_k) u) (subst (λ z. ClassLeads b ps m z) (sym in_l) v) in
          in-own m r.0 r.1 r.2 p q (or-left _ _ r.3)

      back : NoneBetween (class_of ps) b.edges l k
      back m q p u v =
          let r = third-place c a m (λ e. q (e ∙ in_l)) (subst (λ z. ClassLeads b ps z m) (sym in_l) u) (subst (λ z. ClassLeads b ps m z) (sym in_k) v) in
          in-own m r.0 r.1 r.2 p q (or-right _ _ r.3)

  -- and where none stands between, it passes
  told-none : NoneBetween (class_of ps) b.edges k l → NoneBetween (class_of ps) b.edges l k → is_within (places_where between) (places_where own) ≡ true
  unfolding between own
  told-none there back = each-within between own each
    where
      way : (x z y : ℕ) → ((nat_lt y (length b.vertices) && place_leads b ps x y) && (nat_lt y (length b.vertices) && place_leads b ps y z)) ≡ true
          → (y < length b.vertices) × ClassLeads b ps (class_of ps x) (class_of ps y) × ClassLeads b ps (class_of ps y) (class_of ps z)
      way x z y h =
          let r = and-each (nat_lt y (length b.vertices) && place_leads b ps x y) (nat_lt y (length b.vertices) && place_leads b ps y z) h in
          let p = and-each (nat_lt y (length b.vertices)) (place_leads b ps x y) r.0 in
          let q = and-each (nat_lt y (length b.vertices)) (place_leads b ps y z) r.1 in (
            test-below y (length b.vertices) p.0,
            leads_to-leads b ps (class_of ps x) (class_of ps y) p.1,
            leads_to-leads b ps (class_of ps y)
                (class_of ps z) q.1,
          )

      differ : (x z : ℕ) → (x == z) ≡ false → x ≡ z → ⊥
      differ x z p e = true≢false (sym (eq-number x z e) ∙ p)

      each : (y : ℕ) → y < 512 → between y ≡ true → own y ≡ true
      each y low h = go (or-cases _ _ h) (class_of ps y == k) refl (class_of ps y == l) refl
        where
          go : (((nat_lt y (length b.vertices) && place_leads b ps a y) && (nat_lt y (length b.vertices) && place_leads b ps y c)) ≡ true)
              ⊎ (((nat_lt y (length b.vertices) && place_leads b ps c y) && (nat_lt y (length b.vertices) && place_leads b ps y a)) ≡ true)
              → (s : Bool) → (class_of ps y == k) ≡ s → (t : Bool) → (class_of ps y == l) ≡ t → own y ≡ true
          go (inl w) true p t q = or-left _ _ (self-own a y (way a c y w).0 (number-eq (class_of ps y) k p ∙ sym in_k))
          go (inr w) true p t q = or-left _ _ (self-own a y (way c a y w).0 (number-eq (class_of ps y) k p ∙ sym in_k))
          go (inl w) false p true q = or-right _ _ (self-own c y (way a c y w).0 (number-eq (class_of ps y) l q ∙ sym in_l))
          go (inr w) false p true q = or-right _ _ (self-own c y (way c a y w).0 (number-eq (class_of ps y) l q ∙ sym in_l))
          go (inl w) false p false q =
              let r = way a c y w in
              absurd (there (class_of ps y) (differ (class_of ps y) k p) (differ (class_of ps y) l q)
              (subst (λ z. ClassLeads b ps z (class_of ps y)) in_k r.1) (subst (λ z. ClassLeads b ps (class_of ps y) z) in_l r.2))
          go (inr w) false p false q =
              let r = way c a y w in
              absurd (back (class_of ps y) (differ (class_of ps y) l q) (differ (class_of ps y) k p)
              (subst (λ z. ClassLeads b ps z (class_of ps y)) in_l r.1) (subst (λ z. ClassLeads b ps (class_of ps y) z) in_k r.2))

  -- ---- whether the two may be merged

  -- two that are apart may not
  pub apart-may : are_apart b ps k l ≡ true → may_merge b ps (k, l) ≡ false
  apart-may h = apart-may_not b (length b.vertices) ps parts k l below within valid.keeps h

  -- and two that aren't may where no third class stands between
  pub near-told : are_apart b ps k l ≡ false → tells_none_between (ways_at b ps a) (ways_at b ps c) ≡ may_merge b ps (k, l)
  near-told near = told ∙ same-test (is_within (places_where between) (places_where own)) (is_valid b (merged ps k l)) may none
    where
      keeps : (t : Bool) → keeps_dependences b (merged ps k l) ≡ t → keeps_dependences b (merged ps k l) ≡ true
      keeps true p = p
      keeps false p = absurd (true≢false (sym ((apart-exactly b (length b.vertices) ps parts k l below within valid.keeps).1 p) ∙ near))

      may : is_within (places_where between) (places_where own) ≡ true → is_valid b (merged ps k l) ≡ true
      may h =
          let n = none-told h in
          valid-is_valid b (merged ps k l) (record {
            one = one-after b.edges (class_of ps) (class_of (merged ps k l)) k l below (parts-after (length b.vertices) ps parts k l below within)
                valid.one n.0 n.1;
            keeps = kept-keeps b (merged ps k l) (keeps (keeps_dependences b (merged ps k l)) refl);
          })

      none : is_valid b (merged ps k l) ≡ true → is_within (places_where between) (places_where own) ≡ true
      none h =
          let v = is_valid-valid b (merged ps k l) h in
          let p = parts-after (length b.vertices) ps parts k l below within in
          told-none (none-between b.edges (class_of ps) (class_of (merged ps k l)) k l below p valid.one v.one)
          (none-back b.edges (class_of ps) (class_of (merged ps k l)) k l below p valid.one v.one)
