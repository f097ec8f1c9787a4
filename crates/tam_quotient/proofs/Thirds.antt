-- A merge of two classes of a valid partition closes a cycle exactly where a third class stands between the two.
use Rattle.std.proofs.Common.{◌≡◌, ℕ, suc, pred, ◌<◌, nat_lt, tests, ◌==◌, Bool, true, false, refl, sym, subst, ap, arith, inl, inr, ◌⊎◌, ◌∙◌}
use Rattle.tam_word.proofs.Tests.{number-eq}
use Rattle.tam_graph.specs.Edges.{Edges}
use Rattle.tam_graph.proofs.Reaching.{reaches-trans}
use Rattle.tam_graph.proofs.Merging.{made_one, Joined, To, From}
use Rattle.tam_graph.proofs.Quotients.{under, Leads, After, three-ways, skip, unskip, unskip-skip, skip-other, skip-made_one}
use Rattle.tam_graph.proofs.Quotients.{becomes, becomes-one, leads-after, after-leads}

-- numbers that lead to one another are one
abbrev pub One : (ℕ → ℕ) → Edges → Type 0
One f es = (a c : ℕ) → Leads f es a c → Leads f es c a → a ≡ c

-- no third name stands on a way from k to l
abbrev pub NoneBetween : (ℕ → ℕ) → Edges → ℕ → ℕ → Type 0
NoneBetween f es k l = (x : ℕ) → (x ≡ k → ⊥) → (x ≡ l → ⊥) → Leads f es k x → Leads f es x l → ⊥

-- up to l a number stays
unskip-low : (l c : ℕ) → c < suc l → unskip l c ≡ c
unskip-low l c h = let e : nat_lt l c ≡ false = grind (arith, tests) in rw (unskip, e) refl

-- above l it goes down by one
unskip-high : (l c : ℕ) → l < c → unskip l c ≡ pred c
unskip-high l c h = let e : nat_lt l c ≡ true = grind (arith, tests) in rw (unskip, e) refl

-- another number than l stays where l becomes k
made_one-other : (k l c : ℕ) → (c ≡ l → ⊥) → made_one k l c ≡ c
made_one-other k l c n = go (c == l) refl
  where
    go : (t : Bool) → (c == l) ≡ t → made_one k l c ≡ c
    go true p = absurd (n (number-eq c l p))
    go false p = rw (made_one, p) refl

-- other numbers than l stay apart where those above it go down by one
pub unskip-other : (l a c : ℕ) → (a ≡ l → ⊥) → (c ≡ l → ⊥) → unskip l a ≡ unskip l c → a ≡ c
unskip-other l a c p q h = go (three-ways a l) (three-ways c l)
  where
    go : (a ≡ l) ⊎ ((a < l) ⊎ (l < a)) → (c ≡ l) ⊎ ((c < l) ⊎ (l < c)) → a ≡ c
    go (inl e) t = absurd (p e)
    go s (inl e) = absurd (q e)
    go (inr (inl s)) (inr (inl t)) = sym (unskip-low l a (omega arith)) ∙ (h ∙ unskip-low l c (omega arith))
    go (inr (inl s)) (inr (inr t)) =
        let i : unskip l a ≡ a = unskip-low l a (omega arith) in
        let j : unskip l c ≡ pred c = unskip-high l c t in
        let k : a ≡ pred c = sym i ∙ (h ∙ j) in
        absurd (omega arith)
    go (inr (inr s)) (inr (inl t)) =
        let i : unskip l a ≡ pred a = unskip-high l a s in
        let j : unskip l c ≡ c = unskip-low l c (omega arith) in
        let k : pred a ≡ c = sym i ∙ (h ∙ j) in
        absurd (omega arith)
    go (inr (inr s)) (inr (inr t)) =
        let i : unskip l a ≡ pred a = unskip-high l a s in
        let j : unskip l c ≡ pred c = unskip-high l c t in
        let k : pred a ≡ pred c = sym i ∙ (h ∙ j) in
        omega arith

-- f names before, h after l became k
module _ (es : Edges) (f h : ℕ → ℕ) (k l : ℕ) (below : k < l) (after : (x : ℕ) → After k l (f x) (h x)) (one : One f es) where
  -- what a name becomes
  abbrev new : ℕ → ℕ
  new c = becomes es f h k l below after c

  -- a third name between the two closes a cycle: the two are one then, and it leads to and from them
  third-cycle : One h es → (x : ℕ) → (x ≡ k → ⊥) → (x ≡ l → ⊥) → Leads h es (new k) (new x) → Leads h es (new x) (new k) → ⊥
  third-cycle cycles x p q r s =
      let e : new k ≡ new x = cycles (new k) (new x) r s in
      let i : made_one k l k ≡ k = made_one-other k l k (λ d. omega arith) in
      let j : made_one k l x ≡ x = made_one-other k l x q in
      let u : unskip l k ≡ unskip l x = ap (unskip l) (sym i) ∙ (e ∙ ap (unskip l) j) in
      p (sym (unskip-other l k x (λ d. omega arith) q u))

  -- so where there is no cycle after the merge, none stands between k and l
  pub none-between : One h es → NoneBetween f es k l
  none-between cycles x p q r s = third-cycle cycles x p q (leads-after es f h k l below after k x r)
      (subst (λ z. Leads h es (new x) z) (becomes-one es f h k l below after) (leads-after es f h k l below after x l s))

  -- nor between l and k
  pub none-back : One h es → NoneBetween f es l k
  none-back cycles x p q r s = third-cycle cycles x q p
      (subst (λ z. Leads h es z (new x)) (becomes-one es f h k l below after) (leads-after es f h k l below after l x r))
      (leads-after es f h k l below after x k s)

  -- what one of the two leads to and what leads to one of the two is k, or l
  between-one : NoneBetween f es k l → NoneBetween f es l k → (x : ℕ) → (x ≡ l → ⊥) → To (under f es) k l x → From (under f es) k l x → x ≡ k
  between-one there back x n (inl p) (inl q) = one x k p q
  between-one there back x n (inr p) (inr q) = absurd (n (one x l p q))
  between-one there back x n (inr p) (inl q) = go (three-ways x k)
    where
      go : (x ≡ k) ⊎ ((x < k) ⊎ (k < x)) → x ≡ k
      go (inl e) = e
      go (inr (inl s)) = absurd (there x (λ e. omega arith) n q p)
      go (inr (inr s)) = absurd (there x (λ e. omega arith) n q p)
  between-one there back x n (inl p) (inr q) = go (three-ways x k)
    where
      go : (x ≡ k) ⊎ ((x < k) ⊎ (k < x)) → x ≡ k
      go (inl e) = e
      go (inr (inl s)) = absurd (back x n (λ e. omega arith) q p)
      go (inr (inr s)) = absurd (back x n (λ e. omega arith) q p)

  -- what leads on to what leads to one of the two leads to it
  to-back : (x y : ℕ) → Leads f es x y → To (under f es) k l y → To (under f es) k l x
  to-back x y p (inl q) = inl (reaches-trans (under f es) x y k p q)
  to-back x y p (inr q) = inr (reaches-trans (under f es) x y l p q)

  -- and what one of the two leads to leads on
  from-on : (x y : ℕ) → From (under f es) k l x → Leads f es x y → From (under f es) k l y
  from-on x y (inl p) q = inl (reaches-trans (under f es) k x y p q)
  from-on x y (inr p) q = inr (reaches-trans (under f es) l x y p q)

  -- names that lead to one another once l became k, where none stands between the two, are one
  joined-one : NoneBetween f es k l → NoneBetween f es l k → (x y : ℕ) → (x ≡ l → ⊥) → (y ≡ l → ⊥)
      → Joined (under f es) k l x y → Joined (under f es) k l y x → x ≡ y
  joined-one there back x y m n (inl p) (inl q) = one x y p q
  joined-one there back x y m n (inl p) (inr q) =
      between-one there back x m (to-back x y p q.0) q.1 ∙ sym (between-one there back y n q.0 (from-on x y q.1 p))
  joined-one there back x y m n (inr p) (inl q) =
      between-one there back x m p.0 (from-on y x p.1 q) ∙ sym (between-one there back y n (to-back y x q p.0) p.1)
  joined-one there back x y m n (inr p) (inr q) = between-one there back x m p.0 q.1 ∙ sym (between-one there back y n q.0 p.1)

  -- so where none stands between the two, there is no cycle after the merge
  pub one-after : NoneBetween f es k l → NoneBetween f es l k → One h es
  one-after there back a c p q =
      let x = skip l a in
      let y = skip l c in
      let j = after-leads es f h k l below after a c x y (skip-made_one k l a) (skip-made_one k l c) p in
      let i = after-leads es f h k l below after c a y x (skip-made_one k l c) (skip-made_one k l a) q in
      let e : x ≡ y = joined-one there back x y (skip-other l a) (skip-other l c) j i in
      sym (unskip-skip l a) ∙ (ap (unskip l) e ∙ unskip-skip l c)
