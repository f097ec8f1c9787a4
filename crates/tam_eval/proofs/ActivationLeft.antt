-- How many vertices one activation has left, those that are ready aside, after it got a word, entered a block, or began.
use Rattle.std.proofs.Common.{◌≡◌, ◌≢◌, ℕ, ◌+◌, ◌≤◌, Bool, true, false, not, ◌==◌, ◌&&◌, ◌||◌, List, None, length, nat_lt, refl, sym, ap, ◌∙◌, arith, tests}
use Rattle.std.proofs.Common.{true≢false}
use Rattle.std.specs.Prelude.{count_by, is_some}
use Rattle.std.proofs.lemmas.List.Sums.{length-filter}
use Rattle.tam_word.proofs.Sifted.{filter-twice}
use Rattle.tam_word.proofs.Tests.{number-eq, number-differs}
use Rattle.tam_graph.specs.Graphs.{Code, kind_at, block_at, fires, is_inlet, node_numbers}
use Rattle.tam_world.specs.Worlds.{ActivationState, begun, with_word, with_block}
use Rattle.tam_world.specs.Takers.{firers_in, inlets_in}
use Rattle.tam_eval.proofs.Counting.{as_one, count-none, count-sums, count-alike, count-filter, count-below_alike, count-below_one}
use Rattle.tam_eval.proofs.Activations.{its_word, is_in, is_fed, gate, may_fire, newly, newly-same, open-gate, keeps-word, again-word, again-block}
use Rattle.tam_eval.proofs.Activations.{word-with_word, word-with_word_other, has-with_word, block-with_block, block-with_block_other, block-begun}

-- in a block that was entered, it fires and may not yet
abbrev pub held : Bool → Bool → Bool → Bool
held entered fires may = elim entered [ true ↦ fires && not may | false ↦ false ]

-- node x, in a block that was entered, fires and may not yet
abbrev pub unfed : Code → ActivationState → ℕ → Bool
unfed c a x = held (is_in a (block_at c x)) (fires (kind_at c x)) (may_fire c a x)

-- node x, in a block that was entered, has no value, which comes from outside the block
abbrev pub empty : Code → ActivationState → ℕ → Bool
empty c a x = held (is_in a (block_at c x)) (is_inlet (kind_at c x)) (is_some (its_word a x))

-- node y's value comes from outside its block, which was entered
abbrev pub awaited : Code → ActivationState → ℕ → Bool
awaited c a y = elim (nat_lt y (length c.nodes)) [ true ↦ is_inlet (kind_at c y) && is_in a (block_at c y) | false ↦ false ]

-- nothing is counted by a test that fails
count-false : (xs : List ℕ) → count_by (λ (x : ℕ). false) xs ≡ 0
count-false xs = count-none (λ (x : ℕ). false) xs (λ x i. refl)

-- ---- a node got its first word

-- what may fire after the word
word-parts : (d f m n : Bool) → (m ≡ true → n ≡ true) → (n ≡ true → (f ≡ true) × (d ≡ true))
    → as_one (newly n m) + as_one (held d f n) ≡ as_one (held d f m) + 0
word-parts d f true false keep opened = absurd (true≢false (sym (keep refl)))
word-parts true f false false keep opened = cases f
  where
    cases : (t : Bool) → 0 + as_one (t && true) ≡ as_one (t && true) + 0
    cases true = refl
    cases false = refl
word-parts false f false false keep opened = refl
word-parts d f m true keep opened =
    let fires = (opened refl).0 in
    let entered = (opened refl).1 in
    rw (fires, entered) (cases m)
  where
    cases : (t : Bool) → as_one (newly true t) + as_one (held true true true) ≡ as_one (held true true t) + 0
    cases true = refl
    cases false = refl

module _ (c : Code) (a : ActivationState) (y v : ℕ) (none : its_word a y ≡ None) where
  -- those that newly may fire had not been fed
  pub unfed-word : count_by (λ x. newly (may_fire c (with_word y v a) x) (may_fire c a x)) (node_numbers c)
      + count_by (unfed c (with_word y v a)) (node_numbers c)
      ≡ count_by (unfed c a) (node_numbers c)
  unfed-word =
      omega (
        arith,
        count-false (node_numbers c),
        count-sums (λ x. newly (may_fire c (with_word y v a) x) (may_fire c a x)) (unfed c (with_word y v a)) (unfed c a) (λ (x : ℕ). false) each
            (node_numbers c),
      )
    where
      each : (x : ℕ) → as_one (newly (may_fire c (with_word y v a) x) (may_fire c a x)) + as_one (unfed c (with_word y v a) x) ≡ as_one (unfed c a x) + 0
      each x = word-parts (is_in a (block_at c x)) (fires (kind_at c x)) (may_fire c a x) (may_fire c (with_word y v a) x) (keeps-word c a y v x)
          (λ h. let parts = open-gate (fires (kind_at c x)) (is_in a (block_at c x)) (is_fed c (with_word y v a) x) h in (parts.0, parts.1))

  -- another node is empty as before
  empty-word_other : (x : ℕ) → y ≢ x → empty c (with_word y v a) x ≡ empty c a x
  empty-word_other x differ = ap (λ w. held (is_in a (block_at c x)) (is_inlet (kind_at c x)) (is_some w)) (word-with_word_other a y v x differ)

  -- the node that got it was empty, if it was awaited
  pub empty-word : count_by (empty c (with_word y v a)) (node_numbers c) + as_one (awaited c a y) ≡ count_by (empty c a) (node_numbers c)
  empty-word = place (nat_lt y (length c.nodes)) refl
    where
      place : (t : Bool) → nat_lt y (length c.nodes) ≡ t
          → count_by (empty c (with_word y v a)) (node_numbers c)
          + as_one (elim t [ true ↦ is_inlet (kind_at c y) && is_in a (block_at c y) | false ↦ false ])
          ≡ count_by (empty c a) (node_numbers c)
      place false past =
          let same = count-below_alike (empty c (with_word y v a)) (empty c a) (length c.nodes)
          (λ x l. empty-word_other x (λ e. absurd (let out : length c.nodes ≤ y = grind (arith, tests) in omega arith))) in
          omega arith
      place true inside = inlet (is_inlet (kind_at c y)) refl (is_in a (block_at c y)) refl
        where
          inlet : (s : Bool) → is_inlet (kind_at c y) ≡ s → (d : Bool) → is_in a (block_at c y) ≡ d
              → count_by (empty c (with_word y v a)) (node_numbers c) + as_one (s && d) ≡ count_by (empty c a) (node_numbers c)
          inlet true p true q =
              count-below_one (empty c (with_word y v a)) (empty c a) y (length c.nodes) empty-word_other
              (rw (p, q, word-with_word a y v) refl) (rw (p, q, none) refl) (grind (arith, tests))
          inlet true p false q =
              let same = count-below_alike (empty c (with_word y v a)) (empty c a) (length c.nodes) (λ x l. each x (y == x) refl) in omega arith
            where
              each : (x : ℕ) (t : Bool) → (y == x) ≡ t → empty c (with_word y v a) x ≡ empty c a x
              each x true e = rw (← number-eq y x e, q) refl
              each x false e = empty-word_other x (number-differs y x e)
          inlet false p d q =
              let same = count-below_alike (empty c (with_word y v a)) (empty c a) (length c.nodes) (λ x l. each x (y == x) refl) in omega arith
            where
              none-held : (t s u : Bool) → held t false s ≡ held t false u
              none-held true s u = refl
              none-held false s u = refl

              each : (x : ℕ) (t : Bool) → (y == x) ≡ t → empty c (with_word y v a) x ≡ empty c a x
              each x true e = rw (← number-eq y x e, p) (none-held (is_in a (block_at c y)) (is_some (its_word (with_word y v a) y)) (is_some (its_word a y)))
              each x false e = empty-word_other x (number-differs y x e)

-- ---- a node got one more word

module _ (c : Code) (a : ActivationState) (y v : ℕ) (some : is_some (its_word a y) ≡ true) where
  -- it has one as before
  some-again : (x : ℕ) → is_some (its_word (with_word y v a) x) ≡ is_some (its_word a x)
  some-again x = has-with_word a y v x ∙ go (y == x) refl
    where
      go : (t : Bool) → (y == x) ≡ t → (t || is_some (its_word a x)) ≡ is_some (its_word a x)
      go true e = sym (ap (λ k. is_some (its_word a k)) (sym (number-eq y x e)) ∙ some)
      go false e = refl

  -- as many are not fed
  pub unfed-again : count_by (unfed c (with_word y v a)) (node_numbers c) ≡ count_by (unfed c a) (node_numbers c)
  unfed-again = count-alike (unfed c (with_word y v a)) (unfed c a)
      (λ x. ap (held (is_in a (block_at c x)) (fires (kind_at c x))) (again-word c a y v x some)) (node_numbers c)

  -- and as many are empty
  pub empty-again : count_by (empty c (with_word y v a)) (node_numbers c) ≡ count_by (empty c a) (node_numbers c)
  empty-again = count-alike (empty c (with_word y v a)) (empty c a)
      (λ x. ap (held (is_in a (block_at c x)) (is_inlet (kind_at c x))) (some-again x)) (node_numbers c)

-- ---- a block was entered

-- how many nodes of a block fire
firers-count : (c : Code) (b : ℕ) → length (firers_in c b) ≡ count_by (λ x. (block_at c x == b) && fires (kind_at c x)) (node_numbers c)
firers-count c b =
    ap length (filter-twice (λ x. block_at c x == b) (λ x. fires (kind_at c x)) (node_numbers c))
    ∙ length-filter (λ x. (block_at c x == b) && fires (kind_at c x)) (node_numbers c)

-- how many of its inlets pass a test
inlets-count : (c : Code) (b : ℕ) (p : ℕ → Bool)
    → count_by p (inlets_in c b) ≡ count_by (λ x. ((block_at c x == b) && is_inlet (kind_at c x)) && p x) (node_numbers c)
inlets-count c b p =
    ap (count_by p) (filter-twice (λ x. block_at c x == b) (λ x. is_inlet (kind_at c x)) (node_numbers c))
    ∙ count-filter p (λ x. (block_at c x == b) && is_inlet (kind_at c x)) (node_numbers c)

-- what may fire in a block that is entered, and in the others
block-parts : (f u d n e : Bool) → (e ≡ true → (d ≡ false) × (n ≡ true)) → (e ≡ false → n ≡ d)
    → as_one (newly (gate f n u) (gate f d u)) + as_one (held n f (gate f n u)) ≡ as_one (held d f (gate f d u)) + as_one (e && f)
block-parts f u d n true here others = rw ((here refl).0, (here refl).1) (cases f u)
  where
    cases : (s t : Bool) → as_one (newly (gate s true t) (gate s false t)) + as_one (held true s (gate s true t)) ≡ 0 + as_one s
    cases true true = refl
    cases true false = refl
    cases false t = refl
block-parts f u d n false here others = rw (others refl, newly-same (gate f d u)) (omega arith)

-- and which inlets are empty
inlet-parts : (l w d n e : Bool) → (e ≡ true → (d ≡ false) × (n ≡ true)) → (e ≡ false → n ≡ d)
    → as_one (held n l w) + 0 ≡ as_one (held d l w) + as_one ((e && l) && not w)
inlet-parts l w d n true here others = rw ((here refl).0, (here refl).1) (omega arith)
inlet-parts l w d n false here others = rw (others refl) refl

module _ (c : Code) (a : ActivationState) (b : ℕ) (out : is_in a b ≡ false) where
  -- the block's nodes come to be in a block that was entered
  here : (x : ℕ) → (block_at c x == b) ≡ true → (is_in a (block_at c x) ≡ false) × (is_in (with_block b a) (block_at c x) ≡ true)
  here x e = let same = number-eq (block_at c x) b e in (ap (is_in a) same ∙ out, ap (is_in (with_block b a)) same ∙ block-with_block a b)

  -- the others are as they were
  others : (x : ℕ) → (block_at c x == b) ≡ false → is_in (with_block b a) (block_at c x) ≡ is_in a (block_at c x)
  others x e = block-with_block_other a b (block_at c x) (λ k. number-differs (block_at c x) b e (sym k))

  -- those that newly may fire, and those that are not fed, are as many more as the block has nodes that fire
  pub unfed-block : count_by (λ x. newly (may_fire c (with_block b a) x) (may_fire c a x)) (node_numbers c)
      + count_by (unfed c (with_block b a)) (node_numbers c)
      ≡ count_by (unfed c a) (node_numbers c) + length (firers_in c b)
  unfed-block =
      omega (
        arith,
        firers-count c b,
        count-sums (λ x. newly (may_fire c (with_block b a) x) (may_fire c a x)) (unfed c (with_block b a)) (unfed c a)
            (λ x. (block_at c x == b) && fires (kind_at c x))
            (λ x. block-parts (fires (kind_at c x)) (is_fed c a x) (is_in a (block_at c x)) (is_in (with_block b a) (block_at c x))
            (block_at c x == b) (here x) (others x))
            (node_numbers c),
      )

  -- and its inlets without a value are empty
  pub empty-block : count_by (empty c (with_block b a)) (node_numbers c)
      ≡ count_by (empty c a) (node_numbers c) + count_by (λ x. not (is_some (its_word a x))) (inlets_in c b)
  empty-block =
      omega (
        arith,
        count-false (node_numbers c),
        inlets-count c b (λ x. not (is_some (its_word a x))),
        count-sums (empty c (with_block b a)) (λ (x : ℕ). false) (empty c a)
            (λ x. ((block_at c x == b) && is_inlet (kind_at c x)) && not (is_some (its_word a x)))
            (λ x. inlet-parts (is_inlet (kind_at c x)) (is_some (its_word a x)) (is_in a (block_at c x)) (is_in (with_block b a) (block_at c x))
            (block_at c x == b)
            (here x) (others x)) (node_numbers c),
      )

-- ---- a block was entered once more

module _ (c : Code) (a : ActivationState) (b : ℕ) (was : is_in a b ≡ true) where
  -- each block is as it was
  in-again : (d : ℕ) → is_in (with_block b a) d ≡ is_in a d
  in-again d = go (b == d) refl
    where
      go : (t : Bool) → (b == d) ≡ t → is_in (with_block b a) d ≡ is_in a d
      go true e = rw (← number-eq b d e) (block-with_block a b ∙ sym was)
      go false e = block-with_block_other a b d (number-differs b d e)

  -- as many are not fed
  pub unfed-block_again : count_by (unfed c (with_block b a)) (node_numbers c) ≡ count_by (unfed c a) (node_numbers c)
  unfed-block_again = count-alike (unfed c (with_block b a)) (unfed c a)
      (λ x. ap (λ t. held t (fires (kind_at c x)) (may_fire c (with_block b a) x)) (in-again (block_at c x))
      ∙ ap (held (is_in a (block_at c x)) (fires (kind_at c x))) (again-block c a b x was)) (node_numbers c)

  -- and as many are empty
  pub empty-block_again : count_by (empty c (with_block b a)) (node_numbers c) ≡ count_by (empty c a) (node_numbers c)
  empty-block_again = count-alike (empty c (with_block b a)) (empty c a)
      (λ x. ap (λ t. held t (is_inlet (kind_at c x)) (is_some (its_word a x))) (in-again (block_at c x))) (node_numbers c)

-- ---- an activation begins

module _ (c : Code) (k f z : ℕ) where
  -- those of its body that may fire, and those that are not fed
  pub unfed-begun : count_by (may_fire c (begun k f z)) (node_numbers c) + count_by (unfed c (begun k f z)) (node_numbers c) ≡ length (firers_in c 0)
  unfed-begun =
      omega (
        arith,
        count-false (node_numbers c),
        firers-count c 0,
        count-sums (may_fire c (begun k f z)) (unfed c (begun k f z)) (λ x. (block_at c x == 0) && fires (kind_at c x)) (λ (x : ℕ). false)
            (λ x. parts (fires (kind_at c x)) (is_fed c (begun k f z) x) (is_in (begun k f z) (block_at c x)) (block_at c x == 0)
            (block-begun k f z (block_at c x))) (node_numbers c),
      )
    where
      parts : (s u d e : Bool) → d ≡ e → as_one (gate s d u) + as_one (held d s (gate s d u)) ≡ as_one (e && s) + 0
      parts s u d e same = rw same (cases s u e)
        where
          cases : (t v w : Bool) → as_one (gate t w v) + as_one (held w t (gate t w v)) ≡ as_one (w && t) + 0
          cases true true true = refl
          cases true false true = refl
          cases false v true = refl
          cases true v false = refl
          cases false v false = refl

  -- and its inlets, which are empty
  pub empty-begun : count_by (empty c (begun k f z)) (node_numbers c) ≡ length (inlets_in c 0)
  empty-begun =
      count-alike (empty c (begun k f z)) (λ x. (block_at c x == 0) && is_inlet (kind_at c x))
      (λ x. parts (is_inlet (kind_at c x)) (is_in (begun k f z) (block_at c x)) (block_at c x == 0) (block-begun k f z (block_at c x))) (node_numbers c)
      ∙ sym (ap length (filter-twice (λ x. block_at c x == 0) (λ x. is_inlet (kind_at c x)) (node_numbers c))
      ∙ length-filter (λ x. (block_at c x == 0) && is_inlet (kind_at c x)) (node_numbers c))
    where
      parts : (s d e : Bool) → d ≡ e → held d s false ≡ (e && s)
      parts s d e same = rw same (cases s e)
        where
          cases : (t w : Bool) → held w t false ≡ (w && t)
          cases true true = refl
          cases false true = refl
          cases t false = refl
