-- Two classes that may not be merged may not be merged after a merge of two others.
use Rattle.std.proofs.Common.{◌≡◌, ℕ, suc, ◌<◌, ◌≤◌, Bool, true, false, ◌==◌, refl, sym, subst, ap, ◌∙◌, length, nat_lt, arith, true≢false}
use Rattle.std.proofs.Common.{tests}
use Rattle.tam_word.proofs.Tests.{number-eq, number-differs}
use Rattle.tam_graph.proofs.Merging.{made_one}
use Rattle.tam_graph.proofs.Quotients.{unskip, skip, unskip-skip, skip-made_one, skip-other}
use Rattle.tam_split.specs.Blocks.{BlockGraph}
use Rattle.tam_split.specs.Partitions.{Parts, class_of, merged, may_merge, keeps_dependences, is_valid}
use Rattle.tam_split.proofs.Classes.{IsParts, parts-after, merged-parts, length-merged}
use Rattle.tam_split.proofs.Validity.{kept-keeps, Valid, is_valid-valid, valid-is_valid}
use Rattle.tam_split.proofs.Separation.{Apart, are_apart-apart, apart-new, apart-lost, apart-exactly, new, leads-new}
use Rattle.tam_quotient.proofs.Thirds.{NoneBetween, none-between, none-back, one-after, unskip-other}
use Rattle.tam_part.specs.Kept.{AreDone}

-- ---- two classes that may be merged

module _ (b : BlockGraph) (n : ℕ) (ps : Parts) (parts : IsParts n ps) (valid : Valid b ps) (k l : ℕ) (below : k < l) (within : l < length ps) where
  -- where no third class stands between two that aren't apart, they may be merged
  pub near-may : (Apart b ps k l → ⊥) → NoneBetween (class_of ps) b.edges k l → NoneBetween (class_of ps) b.edges l k → may_merge b ps (k, l) ≡ true
  near-may near there back =
      valid-is_valid b (merged ps k l) (record {
        one = one-after b.edges (class_of ps) (class_of (merged ps k l)) k l below (parts-after n ps parts k l below within) valid.one there back;
        keeps = kept-keeps b (merged ps k l) (keeps (keeps_dependences b (merged ps k l)) refl);
      })
    where
      keeps : (t : Bool) → keeps_dependences b (merged ps k l) ≡ t → keeps_dependences b (merged ps k l) ≡ true
      keeps true p = p
      keeps false p = absurd (near (are_apart-apart b ps k l ((apart-exactly b n ps parts k l below within valid.keeps).1 p)))

  -- and where they may be, they aren't apart
  pub may-near : may_merge b ps (k, l) ≡ true → Apart b ps k l → ⊥
  may-near h w = apart-lost b n ps parts k l below within w (is_valid-valid b (merged ps k l) h).keeps

  -- and no third class stands between them
  pub may-between : may_merge b ps (k, l) ≡ true → NoneBetween (class_of ps) b.edges k l × NoneBetween (class_of ps) b.edges l k
  may-between h =
      let v = is_valid-valid b (merged ps k l) h in
      let p = parts-after n ps parts k l below within in (
        none-between b.edges (class_of ps) (class_of (merged ps k l)) k l below p valid.one v.one,
        none-back b.edges (class_of ps) (class_of (merged ps k l)) k l below p valid.one v.one,
      )

-- ---- before and after a merge of two others

-- another number than l stays where l becomes k
made_one-other : (k l c : ℕ) → (c ≡ l → ⊥) → made_one k l c ≡ c
made_one-other k l c n = go (c == l) refl
  where
    go : (t : Bool) → (c == l) ≡ t → made_one k l c ≡ c
    go true p = absurd (n (number-eq c l p))
    go false p = rw (made_one, p) refl

-- what becomes the same as another than the two was that other
same-before : (k l x c : ℕ) → k < l → (c ≡ k → ⊥) → (c ≡ l → ⊥) → unskip l (made_one k l x) ≡ unskip l (made_one k l c) → x ≡ c
same-before k l x c below m n h = go (x == l) refl
  where
    e : made_one k l c ≡ c
    e = made_one-other k l c n

    go : (t : Bool) → (x == l) ≡ t → x ≡ c
    go true p =
        let i : made_one k l x ≡ k = rw (made_one, p) refl in
        let s : k ≡ c = unskip-other l k c (λ d. omega arith) n (sym (ap (unskip l) i) ∙ (h ∙ ap (unskip l) e)) in
        absurd (m (sym s))
    go false p =
        let d : x ≡ l → ⊥ = number-differs x l p in
        let i : made_one k l x ≡ x = made_one-other k l x d in
        unskip-other l x c d n (sym (ap (unskip l) i) ∙ (h ∙ ap (unskip l) e))

module _ (b : BlockGraph) (n : ℕ) (ps : Parts) (parts : IsParts n ps) (valid : Valid b ps) (k l : ℕ) (below : k < l) (within : l < length ps)
    (after : Valid b (merged ps k l)) (a c : ℕ) (order : a < c) (inside : c < length ps)
    (ak : a ≡ k → ⊥) (al : a ≡ l → ⊥) (ck : c ≡ k → ⊥) (cl : c ≡ l → ⊥) where
  -- what classes become
  abbrev pub become : ℕ → ℕ
  become x = new b n ps parts k l below within x

  -- two others that may be merged after the merge might be before it
  pub may-before : become a < become c → become c < length (merged ps k l) → may_merge b (merged ps k l) (become a, become c) ≡ true
      → may_merge b ps (a, c) ≡ true
  may-before rising low h = near-may b n ps parts valid a c order inside
      (λ w. may-near b n (merged ps k l) (merged-parts n ps parts k l below within) after (become a) (become c) rising low h
      (apart-new b n ps parts k l below within a c w))
      (λ x p q u v. between.0 (become x) (λ e. p (same-before k l x a below ak al e)) (λ e. q (same-before k l x c below ck cl e))
      (leads-new b n ps parts k l below within a x u) (leads-new b n ps parts k l below within x c v))
      (λ x q p u v. between.1 (become x) (λ e. q (same-before k l x c below ck cl e)) (λ e. p (same-before k l x a below ak al e))
      (leads-new b n ps parts k l below within c x u) (leads-new b n ps parts k l below within x a v))
    where
      between : NoneBetween (class_of (merged ps k l)) b.edges (become a) (become c) × NoneBetween (class_of (merged ps k l)) b.edges (become c) (become a)
      between = may-between b n (merged ps k l) (merged-parts n ps parts k l below within) after (become a) (become c) rising low h

-- ---- rows of pairs

-- a number below l stays where the numbers above l go down
unskip-low : (l c : ℕ) → c < suc l → unskip l c ≡ c
unskip-low l c h = let e : nat_lt l c ≡ false = grind (arith, tests) in rw (unskip, e) refl

-- up again, a number above another is above it
skip-above : (l a d : ℕ) → a < d → a < skip l d
skip-above l a d h = go (nat_lt d l) refl
  where
    go : (t : Bool) → nat_lt d l ≡ t → a < skip l d
    go true p = rw (skip, p) h
    go false p = rw (skip, p) (omega arith)

-- and no more than one higher
skip-within : (l d m : ℕ) → d < m → skip l d < suc m
skip-within l d m h = go (nat_lt d l) refl
  where
    go : (t : Bool) → nat_lt d l ≡ t → skip l d < suc m
    go true p = rw (skip, p) (omega arith)
    go false p = rw (skip, p) (omega arith)

-- a number other than k is another up again, where k is below l
skip-differs : (k l d : ℕ) → k < l → (d ≡ k → ⊥) → skip l d ≡ k → ⊥
skip-differs k l d below n = go (nat_lt d l) refl
  where
    go : (t : Bool) → nat_lt d l ≡ t → skip l d ≡ k → ⊥
    go true p = rw (skip, p) n
    go false p = rw (skip, p) (λ e. let h : l ≤ d = grind (arith, tests) in omega arith)

-- where no pair before class k may be merged, and k and l are, no pair before k may be but with k
pub done-merged : (b : BlockGraph) (n : ℕ) (ps : Parts) (k l : ℕ) → IsParts n ps → is_valid b ps ≡ true → k < l → l < length ps → may_merge b ps (k, l) ≡ true
    → ((a c : ℕ) → a < k → a < c → c < length ps → may_merge b ps (a, c) ≡ false) → AreDone b (merged ps k l) k
done-merged b n ps k l parts valid below within may none a d lower order low other = go (may_merge b (merged ps k l) (a, d)) refl
  where
    long : suc (length (merged ps k l)) ≡ length ps
    long = length-merged ps k l within

    a-same : unskip l (made_one k l a) ≡ a
    a-same = ap (unskip l) (made_one-other k l a (λ e. omega arith)) ∙ unskip-low l a (omega arith)

    d-same : unskip l (made_one k l (skip l d)) ≡ d
    d-same = ap (unskip l) (skip-made_one k l d) ∙ unskip-skip l d

    go : (t : Bool) → may_merge b (merged ps k l) (a, d) ≡ t → may_merge b (merged ps k l) (a, d) ≡ false
    go false p = p
    go true p =
        let up : a < skip l d = skip-above l a d order in
        let high : skip l d < length ps = subst (λ m. skip l d < m) long (skip-within l d (length (merged ps k l)) low) in
        let before = may-before b n ps parts (is_valid-valid b ps valid) k l below within (is_valid-valid b (merged ps k l) may) a (skip l d) up high
        (λ e. omega arith) (λ e. omega arith) (skip-differs k l d below other) (skip-other l d)
        (subst (λ x. x < unskip l (made_one k l (skip l d))) (sym a-same) (subst (λ y. a < y) (sym d-same) order))
        (subst (λ y. y < length (merged ps k l)) (sym d-same) low)
        (subst (λ x. may_merge b (merged ps k l) (x, unskip l (made_one k l (skip l d))) ≡ true) (sym a-same)
        (subst (λ y. may_merge b (merged ps k l) (a, y) ≡ true) (sym d-same) p)) in
        absurd (true≢false (sym before ∙ none a (skip l d) lower up high))
