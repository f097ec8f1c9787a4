-- In an accepted graph one node alone stands for a place of an interface: whoever sends to the place finds it.
use Rattle.std.proofs.Common.{◌≡◌, ℕ, zero, suc, ◌<◌, Bool, true, false, ◌==◌, ◌&&◌, List, [], ◌∷◌, ◌++◌, length, nat_lt, refl, sym, ap, ◌∙◌, arith, tests}
use Rattle.std.proofs.Common.{subst, inl, inr, ◌⊎◌, true≢false}
use Rattle.std.specs.List.{AllByRecursion}
use Rattle.tam_word.specs.Lists.{any_of, first_of, below, has, where_so}
use Rattle.tam_graph.specs.declared.kind.Kind.TheVariants.{Param, Ret, Merge, Enter}
use Rattle.tam_graph.specs.Graphs.{Graph, code_of, kind_at, block_at, node_numbers, node_where, is_param, is_ret, is_merge}
use Rattle.tam_graph.specs.Graphs.{nodes_in, node_in, is_enter}
use Rattle.tam_graph.specs.declared.check_cause.CheckCause.TheVariants.{WrongBlock as Wrong_block, PlaceTwice as Place_twice}
use Rattle.tam_graph.specs.Accepted.{IsAccepted, is_wrong_block, is_place_twice, same_place}
use Rattle.tam_word.proofs.Tests.{true-both, number-eq, self-eq}
use Rattle.tam_word.proofs.Each.{append-nil, where_so-nil, below-each, all-more}
use Rattle.tam_flow.proofs.Nodes.{no-faults, is-param, is-ret, is-merge, is-enter, block-each}
use Rattle.tam_word.proofs.Members.{has-below, in-has, below-in}
use Rattle.tam_split.proofs.Firers.{node-in}

-- a test of numbers below n passes where one passes
any-below : (test : ℕ → Bool) (n y : ℕ) → y < n → test y ≡ true → any_of test (below n) ≡ true
any-below test zero y l h = absurd (omega arith)
any-below test (suc n) y l h = go (y == n) refl (any-below test n y)
  where
    one : any_of test (y ∷ []) ≡ true
    one = rw (any_of, h) refl

    last : (xs : List ℕ) → any_of test xs ≡ true ⊎ (any_of test xs ≡ false)
    last xs = step (any_of test xs) refl
      where
        step : (b : Bool) → any_of test xs ≡ b → any_of test xs ≡ true ⊎ (any_of test xs ≡ false)
        step true e = inl e
        step false e = inr e

    at_end : (xs : List ℕ) (m : ℕ) → test m ≡ true → any_of test (xs ++ m ∷ []) ≡ true
    at_end [] m k = rw (any_of, k) refl
    at_end (x ∷ xs) m k = step (test x) refl (at_end xs m k)
      where
        step : (b : Bool) → test x ≡ b → any_of test (xs ++ m ∷ []) ≡ true → any_of test (x ∷ (xs ++ m ∷ [])) ≡ true
        step true e i = rw (any_of, e) refl
        step false e i = rw (any_of, e) i

    in_prefix : (xs : List ℕ) (m : ℕ) → any_of test xs ≡ true → any_of test (xs ++ m ∷ []) ≡ true
    in_prefix [] m k = absurd (true≢false (sym k))
    in_prefix (x ∷ xs) m k = step (test x) refl (in_prefix xs m)
      where
        step : (b : Bool) → test x ≡ b → (any_of test xs ≡ true → any_of test (xs ++ m ∷ []) ≡ true) → any_of test (x ∷ (xs ++ m ∷ [])) ≡ true
        step true e i = rw (any_of, e) refl
        step false e i = rw (any_of, e) (i (rw (any_of, e) at k))

    go : (b : Bool) → (y == n) ≡ b → (y < n → test y ≡ true → any_of test (below n) ≡ true) → any_of test (below (suc n)) ≡ true
    go true e ih = at_end (below n) n (subst (λ z. test z ≡ true) (number-eq y n e) h)
    go false e ih = let less : y < n = grind (arith, tests) in in_prefix (below n) n (ih less h)

-- the first that passes is the only one that passes
first-is : (test : ℕ → Bool) (xs : List ℕ) (x : ℕ) → has xs x ≡ true → test x ≡ true → AllByRecursion (λ y. test y ≡ true → y ≡ x) xs
    → first_of test xs ≡ x ∷ []
first-is test [] x h k only = absurd (true≢false (sym h))
first-is test (y ∷ ys) x h k only = go (test y) refl (y == x) refl (first-is test ys x)
  where
    go : (b : Bool) → test y ≡ b → (c : Bool) → (y == x) ≡ c
        → (has ys x ≡ true → test x ≡ true → AllByRecursion (λ z. test z ≡ true → z ≡ x) ys → first_of test ys ≡ x ∷ []) → first_of test (y ∷ ys) ≡ x ∷ []
    go true e c d ih = rw (first_of, e) (ap (λ z. z ∷ []) (only.0 e))
    go false e true d ih = absurd (true≢false (sym k ∙ ap test (sym (number-eq y x d)) ∙ e))
    go false e false d ih = rw (first_of, e) (ih (rw (any_of, d) at h) k only.1)

module _ (g : Graph) (accepted : IsAccepted g) (n : ℕ) (there : n < length g.codes) where
  -- no earlier node stands for the same place
  no-twice : (x : ℕ) → x < length (code_of g n).nodes → is_place_twice (code_of g n) x ≡ false
  no-twice x l =
      let f1 = append-nil (where_so (is_wrong_block (code_of g n) x) Wrong_block) _ (no-faults g accepted n there x l) in
      let f2 = append-nil (where_so (is_place_twice (code_of g n) x) Place_twice) _ f1.1 in
      where_so-nil (is_place_twice (code_of g n) x) Place_twice f2.0

  -- so nodes that stand for one place are one
  pub place-one : (x y : ℕ) → x < length (code_of g n).nodes → y < length (code_of g n).nodes
      → same_place (block_at (code_of g n) y == block_at (code_of g n) x) (kind_at (code_of g n) y) (kind_at (code_of g n) x) ≡ true
      → same_place (block_at (code_of g n) x == block_at (code_of g n) y) (kind_at (code_of g n) x) (kind_at (code_of g n) y) ≡ true → x ≡ y
  place-one x y l m p q = go (nat_lt y x) refl (nat_lt x y) refl
    where
      go : (b : Bool) → nat_lt y x ≡ b → (c : Bool) → nat_lt x y ≡ c → x ≡ y
      go true e c d =
          let less : y < x = grind (arith, tests) in
          absurd (true≢false (sym (any-below
          (λ z. same_place (block_at (code_of g n) z == block_at (code_of g n) x) (kind_at (code_of g n) z) (kind_at (code_of g n) x)) x y less p)
          ∙ no-twice x l))
      go false e true d =
          let less : x < y = grind (arith, tests) in
          absurd (true≢false (sym (any-below
          (λ z. same_place (block_at (code_of g n) z == block_at (code_of g n) y) (kind_at (code_of g n) z) (kind_at (code_of g n) y)) y x less q)
          ∙ no-twice y m))
      go false e false d = grind (arith, tests)

  -- the param of a place is found
  pub param-at : (x k : ℕ) → x < length (code_of g n).nodes → kind_at (code_of g n) x ≡ Param k → node_where (code_of g n) (is_param k) ≡ x ∷ []
  param-at x k l e =
      first-is (λ y. is_param k (kind_at (code_of g n) y)) (node_numbers (code_of g n)) x (has-below (length (code_of g n).nodes) x l)
      (rw e (self-eq k))
      (below-each (λ y. is_param k (kind_at (code_of g n) y) ≡ true → y ≡ x) (length (code_of g n).nodes)
      (λ y m h. let d : kind_at (code_of g n) y ≡ Param k = is-param k _ h in place-one y x m l (rw (e, d) (self-eq k)) (rw (d, e) (self-eq k))))

  -- the ret of a place of a call is found
  pub ret-at : (x f k : ℕ) → x < length (code_of g n).nodes → kind_at (code_of g n) x ≡ Ret f k → node_where (code_of g n) (is_ret f k) ≡ x ∷ []
  ret-at x f k l e =
      first-is (λ y. is_ret f k (kind_at (code_of g n) y)) (node_numbers (code_of g n)) x (has-below (length (code_of g n).nodes) x l)
      (rw e both)
      (below-each (λ y. is_ret f k (kind_at (code_of g n) y) ≡ true → y ≡ x) (length (code_of g n).nodes)
      (λ y m h. let d : kind_at (code_of g n) y ≡ Ret f k = is-ret f k _ h in place-one y x m l (rw (e, d) both) (rw (d, e) both)))
    where
      both : ((f == f) && (k == k)) ≡ true
      both = true-both (f == f) (k == k) (self-eq f) (self-eq k)

  -- the merge of a place of a cond is found
  pub merge-at : (x f k : ℕ) → x < length (code_of g n).nodes → kind_at (code_of g n) x ≡ Merge f k → node_where (code_of g n) (is_merge f k) ≡ x ∷ []
  merge-at x f k l e =
      first-is (λ y. is_merge f k (kind_at (code_of g n) y)) (node_numbers (code_of g n)) x (has-below (length (code_of g n).nodes) x l)
      (rw e both)
      (below-each (λ y. is_merge f k (kind_at (code_of g n) y) ≡ true → y ≡ x) (length (code_of g n).nodes)
      (λ y m h. let d : kind_at (code_of g n) y ≡ Merge f k = is-merge f k _ h in place-one y x m l (rw (e, d) both) (rw (d, e) both)))
    where
      both : ((f == f) && (k == k)) ≡ true
      both = true-both (f == f) (k == k) (self-eq f) (self-eq k)

  -- the `in` of a place of a branch is found
  pub enter-at : (x k : ℕ) → x < length (code_of g n).nodes → kind_at (code_of g n) x ≡ Enter k
      → node_in (code_of g n) (block_at (code_of g n) x) (is_enter k) ≡ x ∷ []
  enter-at x k l e =
      first-is (λ y. is_enter k (kind_at (code_of g n) y)) (nodes_in (code_of g n) (block_at (code_of g n) x)) x
      (in-has (nodes_in (code_of g n) (block_at (code_of g n) x)) x (node-in (code_of g n) x (below-in x (length (code_of g n).nodes) l)))
      (rw e (self-eq k))
      (all-more (λ y. (y < length (code_of g n).nodes) × ((block_at (code_of g n) y == block_at (code_of g n) x) ≡ true))
      (λ y. is_enter k (kind_at (code_of g n) y) ≡ true → y ≡ x) one
      (nodes_in (code_of g n) (block_at (code_of g n) x)) (block-each (code_of g n) (block_at (code_of g n) x)))
    where
      one : (y : ℕ) → (y < length (code_of g n).nodes) × ((block_at (code_of g n) y == block_at (code_of g n) x) ≡ true)
          → is_enter k (kind_at (code_of g n) y) ≡ true → y ≡ x
      one y m h =
          let d : kind_at (code_of g n) y ≡ Enter k = is-enter k _ h in
          let b : block_at (code_of g n) y ≡ block_at (code_of g n) x = number-eq _ _ m.1 in
          place-one y x m.0 l (rw (b, e, d, self-eq (block_at (code_of g n) x)) (self-eq k)) (rw (b, d, e, self-eq (block_at (code_of g n) x)) (self-eq k))
