-- Places whose classes are apart: what is noted stays true.
use Rattle.std.proofs.Common.{◌≡◌, ℕ, ◌<◌, ◌≤◌, List, [], Bool, true, false, ◌||◌, ◌==◌, refl, sym, subst, subst₂, ap, inl, inr, ◌⊎◌, ◌∙◌, length}
use Rattle.std.proofs.Common.{arith, true≢false, IsTrue}
use Rattle.std.proofs.Common.{map, get_or, set}
use Rattle.std.proofs.lemmas.List.{get_or-set_same, get_or-set_other}
use Rattle.std.proofs.Math.ListN.{length-set}
use Rattle.tam_word.specs.Lists.{has, below}
use Rattle.tam_word.proofs.Tests.{number-eq, number-differs}
use Rattle.tam_word.proofs.Members.{has-in}
use Rattle.tam_split.specs.Blocks.{BlockGraph}
use Rattle.tam_split.specs.Partitions.{Parts, class_of, merged, are_apart}
use Rattle.tam_split.proofs.Classes.{IsParts}
use Rattle.tam_split.proofs.Separation.{Apart, are_apart-apart, apart-are_apart, apart-new, new-class}
use Rattle.tam_sets.specs.Sets.{with_place, joined}
use Rattle.tam_sets.proofs.PlacesWhere.{has-where, in-where}
use Rattle.tam_quotient.specs.Tables.{set_at}
use Rattle.tam_quotient.proofs.Tabling.{get-table, length-table}
use Rattle.tam_part.specs.Kept.{AreSeparated, apart_after}
use Rattle.tam_part.proofs.Leading.{or-cases, same-class}

-- what is apart from another is so the other way round
pub apart-swap : (b : BlockGraph) (ps : Parts) (c d : ℕ) → are_apart b ps c d ≡ true → are_apart b ps d c ≡ true
apart-swap b ps c d h = apart-are_apart b ps d c (swap (are_apart-apart b ps c d h))
  where
    swap : Apart b ps c d → Apart b ps d c
    swap (inl w) = inr w
    swap (inr w) = inl w

-- no places at each place
abbrev pub no_places : ℕ → List ℕ
no_places x = []

-- nothing is noted at first
pub none-separated : (b : BlockGraph) (ps : Parts) (apart : List (List ℕ)) → apart ≡ map (λ _. []) (below (length b.vertices)) → AreSeparated b ps apart
none-separated b ps apart e = record {
  count = ap length e ∙ length-table no_places (length b.vertices);
  each = λ x y l m h. absurd (true≢false (sym h ∙ ap (λ (xs : List ℕ). has xs y) (ap (λ (ss : List (List ℕ)). get_or ss x []) e
      ∙ get-table no_places (length b.vertices) x [] l)));
}

-- one pair more is noted
pub noted-separated : (b : BlockGraph) (ps : Parts) (old news : List (List ℕ)) (a c : ℕ) → AreSeparated b ps old → length news ≡ length old
    → are_apart b ps (class_of ps a) (class_of ps c) ≡ true
    → ((x y : ℕ) → IsTrue (has (set_at news x) y) → IsTrue (has (set_at old x) y) ⊎ (((x ≡ a) × (y ≡ c)) ⊎ ((x ≡ c) × (y ≡ a))))
    → AreSeparated b ps news
noted-separated b ps old news a c was count apart noted = record {
  count = count ∙ was.count;
  each = λ x y l m h. go x y l m (noted x y h);
}
  where
    go : (x y : ℕ) → x < length b.vertices → y < length b.vertices → IsTrue (has (set_at old x) y) ⊎ (((x ≡ a) × (y ≡ c)) ⊎ ((x ≡ c) × (y ≡ a)))
        → are_apart b ps (class_of ps x) (class_of ps y) ≡ true
    go x y l m (inl h) = was.each x y l m h
    go x y l m (inr (inl e)) = subst₂ (λ u v. are_apart b ps (class_of ps u) (class_of ps v) ≡ true) (sym e.0) (sym e.1) apart
    go x y l m (inr (inr e)) =
        subst₂ (λ u v. are_apart b ps (class_of ps u) (class_of ps v) ≡ true) (sym e.0) (sym e.1) (apart-swap b ps (class_of ps a) (class_of ps c) apart)

-- a member of a set with a place besides
with-cases : (a y : ℕ) (xs : List ℕ) → has (with_place a xs) y ≡ true → (has xs y ≡ true) ⊎ (y ≡ a)
with-cases a y xs h =
    let l : y < 512 = in-where (λ z. has xs z || (z == a)) y (has-in (with_place a xs) y h) in
    elim (or-cases (has xs y) (y == a) (sym (has-where (λ z. has xs z || (z == a)) y l) ∙ h)) [ inl p ↦ inl p | inr p ↦ inr (number-eq y a p) ]

-- a pair that is there once a place is put into one set
put-cases : (old : List (List ℕ)) (a c : ℕ) (s : List ℕ) → a < length old → s ≡ with_place c (set_at old a)
    → (x y : ℕ) → has (set_at (set old a s) x) y ≡ true → (has (set_at old x) y ≡ true) ⊎ ((x ≡ a) × (y ≡ c))
put-cases old a c s la is x y h = go (x == a) refl
  where
    go : (t : Bool) → (x == a) ≡ t → (has (set_at old x) y ≡ true) ⊎ ((x ≡ a) × (y ≡ c))
    go true p =
        let e : x ≡ a = number-eq x a p in
        let i : has (set_at (set old a s) a) y ≡ true = subst (λ z. has (set_at (set old a s) z) y ≡ true) e h in
        let j : has s y ≡ true = subst (λ (zs : List ℕ). has zs y ≡ true) (get_or-set_same old a s [] la) i in
        elim (with-cases c y (set_at old a) (subst (λ (zs : List ℕ). has zs y ≡ true) is j)) [
          | inl m ↦ inl (subst (λ z. has (set_at old z) y ≡ true) (sym e) m)
          | inr f ↦ inr (e, f)
        ]
    go false p = inl (subst (λ (zs : List ℕ). has zs y ≡ true) (get_or-set_other old a x s [] (number-differs x a p)) h)

-- or into the sets of both
pub noted-cases : (old : List (List ℕ)) (a c : ℕ) (s t : List ℕ) → a < length old → c < length old → s ≡ with_place c (set_at old a)
    → t ≡ with_place a (set_at (set old a s) c) → (x y : ℕ) → has (set_at (set (set old a s) c t) x) y ≡ true
    → (has (set_at old x) y ≡ true) ⊎ (((x ≡ a) × (y ≡ c)) ⊎ ((x ≡ c) × (y ≡ a)))
noted-cases old a c s t la lc is it x y h =
    let m : c < length (set old a s) = omega (arith, lc, length-set old a s) in
    elim (put-cases (set old a s) c a t m it x y h) [ inl i ↦ first (put-cases old a c s la is x y i) | inr e ↦ inr (inr e) ]
  where
    first : (has (set_at old x) y ≡ true) ⊎ ((x ≡ a) × (y ≡ c)) → (has (set_at old x) y ≡ true) ⊎ (((x ≡ a) × (y ≡ c)) ⊎ ((x ≡ c) × (y ≡ a)))
    first (inl i) = inl i
    first (inr e) = inr (inl e)

-- a member of two sets joined
joined-cases : (y : ℕ) (xs ys : List ℕ) → y < 512 → has (joined xs ys) y ≡ true → (has xs y ≡ true) ⊎ (has ys y ≡ true)
joined-cases y xs ys l h = or-cases (has xs y) (has ys y) (sym (has-where (λ z. has xs z || has ys z) y l) ∙ h)

module _ (b : BlockGraph) (few : length b.vertices ≤ 512) (ps : Parts) (parts : IsParts (length b.vertices) ps) (k l : ℕ) (below : k < l)
    (within : l < length ps)
    (a c : ℕ) (in_k : class_of ps a ≡ k) (in_l : class_of ps c ≡ l) (la : a < length b.vertices) (lc : c < length b.vertices)
    (old : List (List ℕ)) (was : AreSeparated b ps old) where
  -- after the merge the classes of two places are apart
  Still : ℕ → ℕ → Type 0
  Still x y = are_apart b (merged ps k l) (class_of (merged ps k l) x) (class_of (merged ps k l) y) ≡ true

  -- where they were before
  still : (x y : ℕ) → are_apart b ps (class_of ps x) (class_of ps y) ≡ true → Still x y
  unfolding Still
  still x y h =
      let w = apart-new b (length b.vertices) ps parts k l below within (class_of ps x) (class_of ps y)
      (are_apart-apart b ps (class_of ps x) (class_of ps y) h) in
      apart-are_apart b (merged ps k l) (class_of (merged ps k l) x) (class_of (merged ps k l) y)
      (subst₂ (λ u v. Apart b (merged ps k l) u v) (new-class b (length b.vertices) ps parts k l below within x)
      (new-class b (length b.vertices) ps parts k l below within y) w)

  -- the two have one class
  one : class_of (merged ps k l) a ≡ class_of (merged ps k l) c
  one = same-class b (length b.vertices) ps parts k l below within a c in_k in_l

  -- what was apart from one of the two is apart from their class
  from-both : (y : ℕ) → y < length b.vertices → has (joined (set_at old a) (set_at old c)) y ≡ true → Still a y
  unfolding Still
  from-both y m h =
      let low : y < 512 = omega (arith, few, m) in
      elim (joined-cases y (set_at old a) (set_at old c) low h) [
        | inl p ↦ still a y (was.each a y la m p)
        | inr p ↦ subst (λ z. are_apart b (merged ps k l) z (class_of (merged ps k l) y) ≡ true) (sym one) (still c y (was.each c y lc m p))
      ]

  -- so what is noted for place x stays true
  after-apart : (x y : ℕ) → x < length b.vertices → y < length b.vertices
      → has (apart_after a (joined (set_at old a) (set_at old c)) x (set_at old x)) y ≡ true → Still x y
  unfolding Still
  after-apart x y lx ly h = go (x == a) refl
    where
      go : (s : Bool) → (x == a) ≡ s → are_apart b (merged ps k l) (class_of (merged ps k l) x) (class_of (merged ps k l) y) ≡ true
      go true p =
          subst (λ z. are_apart b (merged ps k l) (class_of (merged ps k l) z) (class_of (merged ps k l) y) ≡ true) (sym (number-eq x a p))
          (from-both y ly (rw (apart_after, p) at h))
      go false p = still x y (was.each x y lx ly (rw (apart_after, p) at h))

  -- for each place
  pub separated-merged : (news : List (List ℕ)) → length news ≡ length old
      → ((x : ℕ) → x < length old → set_at news x ≡ apart_after a (joined (set_at old a) (set_at old c)) x (set_at old x)) → AreSeparated b (merged ps k l) news
  unfolding Still
  separated-merged news count each = record {
    count = count ∙ was.count;
    each = λ x y lx ly h. after-apart x y lx ly (sym (ap (λ (xs : List ℕ). has xs y) (each x (omega (arith, lx, was.count)))) ∙ h);
  }
