-- The order in which a class fires, place by place, with sets of what was taken and of what comes before each place.
use Rattle.std.proofs.Common.{◌≡◌, ℕ, zero, suc, ◌+◌, ◌<◌, ◌≤◌, Bool, true, false, ◌&&◌, ◌||◌, not, ◌==◌, List, [], ◌∷◌, ◌++◌, map, filter, drop}
use Rattle.std.proofs.Common.{get_or, length, refl}
use Rattle.std.proofs.Common.{if◌then◌else◌, sym, ap, ap₂, ◌∙◌, arith, inl, inr, true≢false}
use Rattle.std.proofs.lemmas.List.{append_assoc, drop_more}
use Rattle.tam_word.specs.Lists.{below, any_of, all_of, first_of, has}
use Rattle.tam_word.proofs.Tests.{both-true, true-both, number-eq, eq-number, not-true}
use Rattle.tam_word.proofs.Members.{In, any-in, in-any, not-all, has-in, in-has, in-filter, has-filtered, one-first}
use Rattle.tam_word.proofs.Sifted.{filter-twice}
use Rattle.tam_graph.specs.Edges.{Edges}
use Rattle.tam_sets.specs.Sets.{places_where, with_place, met, is_within}
use Rattle.tam_sets.proofs.PlacesWhere.{has-where, where-in, in-where, in-passes, places-same}
use Rattle.tam_split.specs.GraphPartitions.{waits_for_none, taken_first}
use Rattle.tam_reach.proofs.Spread.{get-map-below}
use Rattle.tam_order.specs.ClassOrders.{preceding_of, is_free}
use Rattle.tam_order.proofs.EdgeSteps.{or-elim, eq-turned}

-- ---- lists that are sifted

-- tests that agree on the members leave the same
pub filter-members : (p q : ℕ → Bool) (xs : List ℕ) → ((x : ℕ) → In x xs → p x ≡ q x) → filter p xs ≡ filter q xs
filter-members p q [] h = refl
filter-members p q (x ∷ xs) h =
    ap₂ (λ (t : Bool) (ys : List ℕ). if t then x ∷ ys else ys) (h x (inl refl)) (filter-members p q xs (λ y i. h y (inr i)))

-- and find the same first
pub first-members : (p q : ℕ → Bool) (xs : List ℕ) → ((x : ℕ) → In x xs → p x ≡ q x) → first_of p xs ≡ first_of q xs
first-members p q [] h = refl
first-members p q (x ∷ xs) h =
    ap₂ (λ (t : Bool) (ys : List ℕ). elim t [ true ↦ x ∷ [] | false ↦ ys ]) (h x (inl refl)) (first-members p q xs (λ y i. h y (inr i)))

-- the first that passes two tests is the first to pass the second among those that pass the first
pub first-sifted : (p q : ℕ → Bool) (xs : List ℕ) → first_of (λ x. p x && q x) xs ≡ first_of q (filter p xs)
first-sifted p q [] = refl
first-sifted p q (x ∷ xs) = go (p x) refl (first-sifted p q xs)
  where
    go : (t : Bool) → p x ≡ t → first_of (λ y. p y && q y) xs ≡ first_of q (filter p xs) → first_of (λ y. p y && q y) (x ∷ xs) ≡ first_of q (filter p (x ∷ xs))
    go true e more = rw (first_of, filter, e) (ap (λ (ys : List ℕ). elim (q x) [ true ↦ x ∷ [] | false ↦ ys ]) more)
    go false e more = rw (first_of, filter, e) more

-- ---- steps of the order

module _ (es : Edges) (left order : List ℕ) where
  -- one more place is taken
  pub taken-next : (n m x : ℕ) → n ≡ suc m → x ∷ [] ≡ first_of (waits_for_none es left) left
      → (order ++ x ∷ []) ++ taken_first m es (filter (λ y. not (y == x)) left) ≡ order ++ taken_first n es left
  taken-next n m x count found =
      append_assoc order (x ∷ []) (taken_first m es (filter (λ y. not (y == x)) left)) ∙ ap (λ l. order ++ l) (rw (count, taken_first, ← found) refl)

  -- none is
  pub taken-none : (n : ℕ) → [] ≡ first_of (waits_for_none es left) left → taken_first n es left ≡ left
  taken-none zero none = refl
  taken-none (suc n) none = rw (taken_first, ← none) refl

-- ---- which place is free

-- the places of a class that aren't taken
abbrev pub untaken : List ℕ → List ℕ → List ℕ
untaken taken class = filter (λ x. not (has taken x)) class

-- at first all
pub all-untaken : (class : List ℕ) → untaken [] class ≡ class
all-untaken [] = refl
all-untaken (x ∷ xs) = ap (λ ys. x ∷ ys) (all-untaken xs)

-- the first that passes a test is a member
pub first-in : (test : ℕ → Bool) (xs : List ℕ) (x : ℕ) → x ∷ [] ≡ first_of test xs → has xs x ≡ true
first-in test xs x e = in-has xs x (one-first test xs x [] (sym e)).0

-- where a member fails, not all pass
one-fails : (p : ℕ → Bool) (ys : List ℕ) (y : ℕ) → In y ys → p y ≡ false → all_of p ys ≡ false
one-fails p [] y i f = absurd i
one-fails p (z ∷ ys) y (inl e) f = ap (λ (t : Bool). elim t [ true ↦ all_of p ys | false ↦ false ]) (ap p e ∙ f)
one-fails p (z ∷ ys) y (inr i) f = go (p z) (one-fails p ys y i f)
  where
    go : (t : Bool) → all_of p ys ≡ false → elim t [ true ↦ all_of p ys | false ↦ false ] ≡ false
    go true more = more
    go false more = refl

module _ (es : Edges) (n : ℕ) (class taken : List ℕ) (few : n ≤ 512) (inside : (x : ℕ) → has class x ≡ true → x < n) where
  -- the places of the class that aren't taken
  abbrev left : List ℕ
  left = untaken taken class

  -- the members with an edge to a place
  abbrev before : ℕ → List ℕ
  before x = met (preceding_of es x) (places_where (has class))

  -- an edge from a place that is left comes from a member that isn't taken
  waits-within : (x : ℕ) → any_of (λ e. (e.1 == x) && has left e.0) es ≡ true → is_within (before x) taken ≡ false
  waits-within x h = go (any-in (λ e. (e.1 == x) && has left e.0) es h)
    where
      go : ((e : ℕ × ℕ) × In e es × (((e.1 == x) && has left e.0) ≡ true)) → is_within (before x) taken ≡ false
      go (e, i, t) =
          let both = both-true (e.1 == x) (has left e.0) t in
          let member = in-filter (λ y. not (has taken y)) e.0 class (has-in left e.0 both.1) in
          let is_member = in-has class e.0 member.0 in
          let small : e.0 < 512 = let l = inside e.0 is_member in omega (arith, l, few) in
          let precedes : any_of (λ f. (f.1 == x) && (e.0 == f.0)) es ≡ true =
          in-any (λ f. (f.1 == x) && (e.0 == f.0)) es e i (true-both (e.1 == x) (e.0 == e.0) both.0 (eq-number e.0 e.0 refl)) in
          let there = where-in (λ y. has (preceding_of es x) y && has (places_where (has class)) y) e.0 small
          (true-both (has (preceding_of es x) e.0) (has (places_where (has class)) e.0)
          (has-where (λ y. any_of (λ f. (f.1 == x) && (y == f.0)) es) e.0 small ∙ precedes) (has-where (has class) e.0 small ∙ is_member)) in
          one-fails (has taken) (before x) e.0 there (not-true (has taken e.0) member.1)

  -- a member with an edge to the place that isn't taken is left
  within-waits : (x : ℕ) → is_within (before x) taken ≡ false → any_of (λ e. (e.1 == x) && has left e.0) es ≡ true
  within-waits x h = go (not-all (has taken) (before x) h)
    where
      test : ℕ → Bool
      test y = has (preceding_of es x) y && has (places_where (has class)) y

      go : ((y : ℕ) × In y (before x) × (has taken y ≡ false)) → any_of (λ e. (e.1 == x) && has left e.0) es ≡ true
      go (y, i, f) =
          let small = in-where test y i in
          let both = both-true (has (preceding_of es x) y) (has (places_where (has class)) y) (in-passes test y i) in
          let precedes = sym (has-where (λ z. any_of (λ e. (e.1 == x) && (z == e.0)) es) y small) ∙ both.0 in
          let member = sym (has-where (has class) y small) ∙ both.1 in
          let remains = has-filtered (λ z. not (has taken z)) class y member (ap not f) in
          from (any-in (λ e. (e.1 == x) && (y == e.0)) es precedes) remains
        where
          from : ((e : ℕ × ℕ) × In e es × (((e.1 == x) && (y == e.0)) ≡ true)) → has left y ≡ true → any_of (λ e. (e.1 == x) && has left e.0) es ≡ true
          from (e, j, t) remains =
              let both = both-true (e.1 == x) (y == e.0) t in
              in-any (λ e. (e.1 == x) && has left e.0) es e j
              (true-both (e.1 == x) (has left e.0) both.0 (ap (has left) (sym (number-eq y e.0 both.1)) ∙ remains))

  -- so the tests agree
  pub free-alike : (x : ℕ) → is_within (before x) taken ≡ waits_for_none es left x
  free-alike x = go (any_of (λ e. (e.1 == x) && has left e.0) es) refl (is_within (before x) taken) refl
    where
      go : (t : Bool) → any_of (λ e. (e.1 == x) && has left e.0) es ≡ t → (s : Bool) → is_within (before x) taken ≡ s
          → is_within (before x) taken ≡ waits_for_none es left x
      go true e s d = waits-within x e ∙ sym (ap not e)
      go false e true d = d ∙ sym (ap not e)
      go false e false d = absurd (true≢false (sym (within-waits x d) ∙ e))

  -- the first place of the class that is free is the first of those left that waits for none
  pub first-alike : (preceding : List (List ℕ)) → preceding ≡ map (preceding_of es) (below n)
      → first_of (is_free preceding (places_where (has class)) taken) class ≡ first_of (waits_for_none es left) left
  first-alike preceding e =
      first-members (is_free preceding (places_where (has class)) taken) (λ x. not (has taken x) && waits_for_none es left x) class each
      ∙ first-sifted (λ x. not (has taken x)) (waits_for_none es left) class
    where
      each : (x : ℕ) → In x class → is_free preceding (places_where (has class)) taken x ≡ (not (has taken x) && waits_for_none es left x)
      each x i =
          let small = inside x (in-has class x i) in
          let row : get_or preceding x [] ≡ preceding_of es x = ap (λ rows. get_or rows x []) e ∙ get-map-below (preceding_of es) n x [] small in
          ap (λ s. not (has taken x) && s) (ap (λ s. is_within (met s (places_where (has class))) taken) row ∙ free-alike x)

  -- what is left once one more is taken
  pub left-less : (place : ℕ) → filter (λ y. not (y == place)) left ≡ untaken (with_place place taken) class
  left-less place =
      filter-twice (λ y. not (has taken y)) (λ y. not (y == place)) class
      ∙ filter-members (λ y. not (has taken y) && not (y == place)) (λ y. not (has (with_place place taken) y)) class each
    where
      none-of : (s t : Bool) → (not s && not t) ≡ not (s || t)
      none-of true t = refl
      none-of false true = refl
      none-of false false = refl

      each : (y : ℕ) → In y class → (not (has taken y) && not (y == place)) ≡ not (has (with_place place taken) y)
      each y i =
          let small : y < 512 = let l = inside y (in-has class y i) in omega (arith, l, few) in
          none-of (has taken y) (y == place) ∙ sym (ap not (has-where (λ z. has taken z || (z == place)) y small))

-- the set of a list's places from a place on, with the one before it
pub set-grows : (xs : List ℕ) (k j : ℕ) (old new : List ℕ) → k < length xs → j ≡ k + 1 → old ≡ places_where (has (drop j xs))
    → new ≡ with_place (get_or xs k 0) old → new ≡ places_where (has (drop k xs))
set-grows xs k j old new there next before after =
    let p = get_or xs k 0 in
    let cut : drop k xs ≡ p ∷ drop j xs = drop_more xs k 0 there ∙ ap (λ m. p ∷ drop m xs) (sym next) in
    after
    ∙ (places-same (λ y. has old y || (y == p)) (has (drop k xs)) (λ y l.
    ap (λ s. has s y || (y == p)) before
    ∙ (ap (λ s. s || (y == p)) (has-where (has (drop j xs)) y l) ∙ (or-elim (has (drop j xs) y) (y == p)
    ∙ (ap (λ (t : Bool). elim t [ true ↦ true | false ↦ has (drop j xs) y ]) (eq-turned y p) ∙ sym (ap (λ ys. has ys y) cut))))))
