-- Sets of places by the test that their members pass.
use Rattle.std.proofs.Common.{◌≡◌, ℕ, ◌+◌, ◌<◌, ◌≤◌, List, [], Bool, true, false, ◌&&◌, ◌||◌, refl, sym, ap, arith, ◌∙◌, ◌==◌}
use Rattle.std.proofs.Common.{nat_lt, tests}
use Rattle.tam_word.proofs.Tests.{number-eq}
use Rattle.tam_word.proofs.Members.{In}
use Rattle.tam_sets.specs.Sets.{places_where, with_place, met, joined}
use Rattle.tam_sets.proofs.PlacesWhere.{places-same, in-where, in-passes, has-where, where-none}

-- tests that hold where each other does are equal
pub same-test : (s t : Bool) → (s ≡ true → t ≡ true) → (t ≡ true → s ≡ true) → s ≡ t
same-test true t f g = sym (f refl)
same-test false true f g = g refl
same-test false false f g = refl

-- a member is a place that passes
pub member-passes : (t : ℕ → Bool) (x : ℕ) → In x (places_where t) → (x < 512) × (t x ≡ true)
member-passes t x h = (in-where t x h, in-passes t x h)

-- the members of either of two
pub joined-where : (s t : ℕ → Bool) → joined (places_where s) (places_where t) ≡ places_where (λ x. s x || t x)
joined-where s t = places-same _ _ (λ x l. rw (has-where s x l, has-where t x l) refl)

-- the members of both
pub met-where : (s t : ℕ → Bool) → met (places_where s) (places_where t) ≡ places_where (λ x. s x && t x)
met-where s t = places-same _ _ (λ x l. rw (has-where s x l, has-where t x l) refl)

-- ---- sets gathered place by place

-- the members below i
abbrev pub upto : ℕ → (ℕ → Bool) → List ℕ
upto i t = places_where (λ x. nat_lt x i && t x)

-- there is none below 0
pub upto-none : (t : ℕ → Bool) → [] ≡ upto 0 t
upto-none t = sym (where-none (λ x. nat_lt x 0 && t x) (λ x l. let e : nat_lt x 0 ≡ false = grind (arith, tests) in rw e refl))

-- a place that passes is put in
pub upto-put : (i : ℕ) (t : ℕ → Bool) → t i ≡ true → with_place i (upto i t) ≡ upto (i + 1) t
upto-put i t h = places-same _ _ (λ x l. rw (has-where (λ y. nat_lt y i && t y) x l) (go x (x == i) refl (nat_lt x i) refl))
  where
    go : (x : ℕ) (a : Bool) → (x == i) ≡ a → (c : Bool) → nat_lt x i ≡ c → ((nat_lt x i && t x) || (x == i)) ≡ (nat_lt x (i + 1) && t x)
    go x true p true q =
        let e : nat_lt x (i + 1) ≡ true = grind (arith, tests) in
        let f : t x ≡ true = ap t (number-eq x i p) ∙ h in
        rw (p, q, e, f) refl
    go x true p false q =
        let e : nat_lt x (i + 1) ≡ true = grind (arith, tests) in
        let f : t x ≡ true = ap t (number-eq x i p) ∙ h in
        rw (p, q, e, f) refl
    go x false p true q = let e : nat_lt x (i + 1) ≡ true = grind (arith, tests) in rw (p, q, e) (last (t x))
      where
        last : (c : Bool) → (c || false) ≡ c
        last true = refl
        last false = refl
    go x false p false q = let e : nat_lt x (i + 1) ≡ false = grind (arith, tests) in rw (p, q, e) refl

-- and one that doesn't pass is left out
pub upto-skip : (i : ℕ) (t : ℕ → Bool) → t i ≡ false → upto i t ≡ upto (i + 1) t
upto-skip i t h = places-same _ _ (λ x l. go x (x == i) refl (nat_lt x i) refl)
  where
    go : (x : ℕ) (a : Bool) → (x == i) ≡ a → (c : Bool) → nat_lt x i ≡ c → (nat_lt x i && t x) ≡ (nat_lt x (i + 1) && t x)
    go x true p c q =
        let e : nat_lt x (i + 1) ≡ true = grind (arith, tests) in
        let d : nat_lt x i ≡ false = grind (arith, tests) in
        let f : t x ≡ false = ap t (number-eq x i p) ∙ h in
        rw (d, e, f) refl
    go x false p true q = let e : nat_lt x (i + 1) ≡ true = grind (arith, tests) in rw (q, e) refl
    go x false p false q = let e : nat_lt x (i + 1) ≡ false = grind (arith, tests) in rw (q, e) refl

-- where no place from n on passes, those below n are all
pub upto-all : (n : ℕ) (t : ℕ → Bool) → ((x : ℕ) → n ≤ x → t x ≡ false) → upto n t ≡ places_where t
upto-all n t h = places-same _ _ (λ x l. go x (nat_lt x n) refl)
  where
    go : (x : ℕ) (c : Bool) → nat_lt x n ≡ c → (nat_lt x n && t x) ≡ t x
    go x true q = rw q refl
    go x false q = let g : n ≤ x = grind (arith, tests) in rw (q, h x g) refl
