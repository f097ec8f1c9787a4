-- What the class of one place leads to once two classes are merged.
use Rattle.std.proofs.Common.{◌≡◌, ℕ, ◌<◌, Bool, true, false, ◌&&◌, ◌||◌, refl, sym, subst, subst₂, ap, inl, inr, ◌⊎◌, ◌∙◌, length}
use Rattle.tam_graph.proofs.Reaching.{reaches-trans}
use Rattle.tam_graph.proofs.Merging.{Joined, To, From}
use Rattle.tam_graph.proofs.Quotients.{under}
use Rattle.tam_split.specs.Blocks.{BlockGraph}
use Rattle.tam_split.specs.Partitions.{Parts, class_of, merged}
use Rattle.tam_split.proofs.Classes.{IsParts}
use Rattle.tam_split.proofs.Validity.{ClassLeads, leads_to-leads, leads-leads_to}
use Rattle.tam_split.proofs.Separation.{new, new-class, new-one, leads-new, new-leads}
use Rattle.tam_quotient.proofs.Places.{same-test}
use Rattle.tam_part.specs.Kept.{place_leads}

-- either of two
pub or-cases : (s t : Bool) → (s || t) ≡ true → (s ≡ true) ⊎ (t ≡ true)
or-cases true t h = inl refl
or-cases false t h = inr h

-- the first of two
pub or-left : (s t : Bool) → s ≡ true → (s || t) ≡ true
or-left s t h = rw h refl

-- the second of two
pub or-right : (s t : Bool) → t ≡ true → (s || t) ≡ true
or-right true t h = refl
or-right false t h = h

-- both
pub and-both : (s t : Bool) → s ≡ true → t ≡ true → (s && t) ≡ true
and-both s t h k = rw (h, k) refl

-- each of both
pub and-each : (s t : Bool) → (s && t) ≡ true → (s ≡ true) × (t ≡ true)
and-each true t h = (refl, h)
and-each false t h = absurd cc

-- x leads to y by what leads from place to place, where places a and c are in classes that have become one
abbrev pub joined_leads : (ℕ → ℕ → Bool) → ℕ → ℕ → ℕ → ℕ → Bool
joined_leads leads a c x y = leads x y || ((leads x a || leads x c) && (leads a y || leads c y))

module _ (b : BlockGraph) (n : ℕ) (ps : Parts) (parts : IsParts n ps) (k l : ℕ) (below : k < l) (within : l < length ps)
    (a c : ℕ) (in_k : class_of ps a ≡ k) (in_l : class_of ps c ≡ l) where
  -- what leads to both leads on
  chain : (x y z : ℕ) → ClassLeads b (merged ps k l) x y → ClassLeads b (merged ps k l) y z → ClassLeads b (merged ps k l) x z
  chain x y z p q = reaches-trans (under (class_of (merged ps k l)) b.edges) x y z p q

  -- by names of the classes before
  before : (x y : ℕ) → ClassLeads b ps x y → ClassLeads b (merged ps k l) (new b n ps parts k l below within x) (new b n ps parts k l below within y)
  before x y p = leads-new b n ps parts k l below within x y p

  -- what a place leads to before the merge
  kept : (x y : ℕ) → place_leads b ps x y ≡ true → ClassLeads b (merged ps k l) (class_of (merged ps k l) x) (class_of (merged ps k l) y)
  kept x y h = subst₂ (λ u v. ClassLeads b (merged ps k l) u v) (new-class b n ps parts k l below within x) (new-class b n ps parts k l below within y)
      (before (class_of ps x) (class_of ps y) (leads_to-leads b ps (class_of ps x) (class_of ps y) h))

  -- the two have one class
  pub same-class : class_of (merged ps k l) a ≡ class_of (merged ps k l) c
  same-class =
      let p : new b n ps parts k l below within k ≡ class_of (merged ps k l) a =
      ap (new b n ps parts k l below within) (sym in_k) ∙ new-class b n ps parts k l below within a in
      let q : new b n ps parts k l below within l ≡ class_of (merged ps k l) c =
      ap (new b n ps parts k l below within) (sym in_l) ∙ new-class b n ps parts k l below within c in
      sym p ∙ (sym (new-one b n ps parts k l below within) ∙ q)

  -- so the class of place x leads to that of place y once classes k and l are merged
  pub leads-merged : (x y : ℕ) → place_leads b (merged ps k l) x y ≡ joined_leads (place_leads b ps) a c x y
  leads-merged x y = same-test (place_leads b (merged ps k l) x y) (joined_leads (place_leads b ps) a c x y) there back
    where
      to : To (under (class_of ps) b.edges) k l (class_of ps x) → (place_leads b ps x a || place_leads b ps x c) ≡ true
      to (inl p) = or-left (place_leads b ps x a) (place_leads b ps x c)
          (leads-leads_to b ps (class_of ps x) (class_of ps a) (subst (λ z. ClassLeads b ps (class_of ps x) z) (sym in_k) p))
      to (inr p) = or-right (place_leads b ps x a) (place_leads b ps x c)
          (leads-leads_to b ps (class_of ps x) (class_of ps c) (subst (λ z. ClassLeads b ps (class_of ps x) z) (sym in_l) p))

      from : From (under (class_of ps) b.edges) k l (class_of ps y) → (place_leads b ps a y || place_leads b ps c y) ≡ true
      from (inl p) = or-left (place_leads b ps a y) (place_leads b ps c y)
          (leads-leads_to b ps (class_of ps a) (class_of ps y) (subst (λ z. ClassLeads b ps z (class_of ps y)) (sym in_k) p))
      from (inr p) = or-right (place_leads b ps a y) (place_leads b ps c y)
          (leads-leads_to b ps (class_of ps c) (class_of ps y) (subst (λ z. ClassLeads b ps z (class_of ps y)) (sym in_l) p))

      there : place_leads b (merged ps k l) x y ≡ true → joined_leads (place_leads b ps) a c x y ≡ true
      there h = go (new-leads b n ps parts k l below within x y (leads_to-leads b (merged ps k l) (class_of (merged ps k l) x) (class_of (merged ps k l) y) h))
        where
          go : Joined (under (class_of ps) b.edges) k l (class_of ps x) (class_of ps y) → joined_leads (place_leads b ps) a c x y ≡ true
          go (inl p) = or-left (place_leads b ps x y) _ (leads-leads_to b ps (class_of ps x) (class_of ps y) p)
          go (inr p) = or-right (place_leads b ps x y) _
              (and-both (place_leads b ps x a || place_leads b ps x c) (place_leads b ps a y || place_leads b ps c y) (to p.0) (from p.1))

      into : (place_leads b ps x a || place_leads b ps x c) ≡ true → ClassLeads b (merged ps k l) (class_of (merged ps k l) x) (class_of (merged ps k l) a)
      into h = elim (or-cases (place_leads b ps x a) (place_leads b ps x c) h) [
        | inl p ↦ kept x a p
        | inr p ↦ subst (λ z. ClassLeads b (merged ps k l) (class_of (merged ps k l) x) z) (sym same-class) (kept x c p)
      ]

      out : (place_leads b ps a y || place_leads b ps c y) ≡ true → ClassLeads b (merged ps k l) (class_of (merged ps k l) a) (class_of (merged ps k l) y)
      out h = elim (or-cases (place_leads b ps a y) (place_leads b ps c y) h) [
        | inl p ↦ kept a y p
        | inr p ↦ subst (λ z. ClassLeads b (merged ps k l) z (class_of (merged ps k l) y)) (sym same-class) (kept c y p)
      ]

      back : joined_leads (place_leads b ps) a c x y ≡ true → place_leads b (merged ps k l) x y ≡ true
      back h = leads-leads_to b (merged ps k l) (class_of (merged ps k l) x) (class_of (merged ps k l) y)
          (go (or-cases (place_leads b ps x y) ((place_leads b ps x a || place_leads b ps x c) && (place_leads b ps a y || place_leads b ps c y)) h))
        where
          go : (place_leads b ps x y ≡ true) ⊎ (((place_leads b ps x a || place_leads b ps x c) && (place_leads b ps a y || place_leads b ps c y)) ≡ true)
              → ClassLeads b (merged ps k l) (class_of (merged ps k l) x) (class_of (merged ps k l) y)
          go (inl p) = kept x y p
          go (inr p) =
              let q = and-each (place_leads b ps x a || place_leads b ps x c) (place_leads b ps a y || place_leads b ps c y) p in
              chain (class_of (merged ps k l) x) (class_of (merged ps k l) a) (class_of (merged ps k l) y) (into q.0) (out q.1)
