-- Each code of the ladder is fine.
use Rattle.std.proofs.Common.{◌≡◌, ℕ, zero, suc, ◌+◌, ◌<◌, ◌≤◌, ◌^◌, nat_lt, ◌&&◌, not, Bool, true, false, List, [], ◌∷◌, refl, sym, ap, subst, arith, map}
use Rattle.std.proofs.Common.{length, tests}
use Rattle.tam_word.specs.Lists.{below, all_of, any_of, all_differ, beyond, same_bytes}
use Rattle.tam_word.proofs.Tests.{below-test}
use Rattle.tam_word.proofs.Members.{all-in, below-in}
use Rattle.tam_text.specs.Names.{is_name}
use Rattle.tam_graph.specs.declared.kind.Kind.TheVariants.{Call, Arg, Ret}
use Rattle.tam_graph.specs.Graphs.{Code, Graph, code_of, or_code, kind_at, node_numbers, params_of, results_of, is_param, main_name}
use Rattle.tam_graph.specs.Written.{is_line, IsWritten}
use Rattle.tam_graph.specs.Accepted.{is_wrong_block, is_place_twice, is_place_range, is_place_missing, has_right_depth, lacks_for_call, all_depths, gives_depth}
use Rattle.tam_text.proofs.PlainWords.{all-more}
use Rattle.tam_make.proofs.Numbered.{all-but, length-numbered, get-numbered, fewer-differ}
use Rattle.tam_make.proofs.Fine.{keeps_rules, IsFine, HasFineCodes}
use Rattle.tam_make.proofs.LadderGraph.{step, step_of, step_name, main_code, ladder_graph}

-- a code's name is a name
step-named : (k : ℕ) → k < 201 → is_name (step_name k) ≡ true
step-named k l = all-in (λ (j : ℕ). is_name (step_name j)) (below 201) refl k (below-in k 201 l)

-- one, two and three tests
one-pass : (test : ℕ → Bool) (x : ℕ) → test x ≡ true → all_of test (x ∷ []) ≡ true
one-pass test x p = all-more test x [] p refl

two-pass : (test : ℕ → Bool) (x y : ℕ) → test x ≡ true → test y ≡ true → all_of test (x ∷ y ∷ []) ≡ true
two-pass test x y p q = all-more test x (y ∷ []) p (one-pass test y q)

three-pass : (test : ℕ → Bool) (x y z : ℕ) → test x ≡ true → test y ≡ true → test z ≡ true → all_of test (x ∷ y ∷ z ∷ []) ≡ true
three-pass test x y z p q r = all-more test x (y ∷ z ∷ []) p (two-pass test y z q r)

-- ---- what a code is written as

-- a code that calls the next one
more-written : (codes k : ℕ) → nat_lt k (2 ^ 32) ≡ true → nat_lt (k + 1) codes ≡ true → IsWritten codes (step true k)
more-written codes k small next = record {
  nodes_in_order = refl;
  blocks_in_order = refl;
  lines = all-but (λ x. is_line codes (step true k) (kind_at (step true k) x)) (1 ∷ 102 ∷ []) (node_numbers (step true k))
      (two-pass (λ x. is_line codes (step true k) (kind_at (step true k) x)) 1 102 small next) refl;
  depths = refl;
  shallow = refl;
  small_blocks = refl;
  small = refl;
}

-- the last one
last-written : (codes k : ℕ) → nat_lt k (2 ^ 32) ≡ true → IsWritten codes (step false k)
last-written codes k small = record {
  nodes_in_order = refl;
  blocks_in_order = refl;
  lines = all-but (λ x. is_line codes (step false k) (kind_at (step false k) x)) (1 ∷ []) (node_numbers (step false k))
      (one-pass (λ x. is_line codes (step false k) (kind_at (step false k) x)) 1 small) refl;
  depths = refl;
  shallow = refl;
  small_blocks = refl;
  small = refl;
}

-- ---- what a caller sees of a code

-- one param, one result, both words
record IsCallee (c : Code) : Type 0 where
  params : beyond 0 (params_of c) ≡ false
  results : beyond 0 (results_of c) ≡ false
  for_main : any_of (λ y. lacks_for_call main_code 1 (kind_at c y)) (node_numbers c) ≡ false
  for_step : (k : ℕ) → any_of (λ y. lacks_for_call (step true k) 102 (kind_at c y)) (node_numbers c) ≡ false
  takes : all_depths c (is_param 0) 0 ≡ true
  gives : all_of (λ y. gives_depth c 0 0 (kind_at c y)) (node_numbers c) ≡ true

step-callee : (more : Bool) (k : ℕ) → IsCallee (step more k)
step-callee true k = record { params = refl; results = refl; for_main = refl; for_step = λ j. refl; takes = refl; gives = refl }
step-callee false k = record { params = refl; results = refl; for_main = refl; for_step = λ j. refl; takes = refl; gives = refl }

-- the rules hold where each test says so
rules-kept : (a b c d e : Bool) → a ≡ false → b ≡ false → c ≡ false → d ≡ false → e ≡ true → (not a && (not b && (not c && (not d && e)))) ≡ true
rules-kept a b c d e p q r s t = rw (p, q, r, s, t) refl

-- ---- the rules

module _ (g : Graph) (k : ℕ) (callee : IsCallee (code_of g (k + 1))) where
  more-call : keeps_rules g (step true k) 102 ≡ true
  more-call = rules-kept (is_wrong_block (step true k) 102) (is_place_twice (step true k) 102) false
      (is_place_missing g (step true k) 102 (Call (k + 1))) true refl refl refl (callee.for_step k) refl

  more-arg : keeps_rules g (step true k) 103 ≡ true
  more-arg = rules-kept (is_wrong_block (step true k) 103) (is_place_twice (step true k) 103) (is_place_range g (step true k) 103 (Arg 102 0 101)) false
      (has_right_depth g (step true k) 103 (Arg 102 0 101)) refl refl callee.params refl callee.takes

  more-ret : keeps_rules g (step true k) 104 ≡ true
  more-ret = rules-kept (is_wrong_block (step true k) 104) (is_place_twice (step true k) 104) (is_place_range g (step true k) 104 (Ret 102 0)) false
      (has_right_depth g (step true k) 104 (Ret 102 0)) refl refl callee.results refl callee.gives

  -- of a code that calls the next one
  more-rules : all_of (keeps_rules g (step true k)) (node_numbers (step true k)) ≡ true
  more-rules = all-but (keeps_rules g (step true k)) (102 ∷ 103 ∷ 104 ∷ []) (node_numbers (step true k))
      (three-pass (keeps_rules g (step true k)) 102 103 104 more-call more-arg more-ret) refl

-- of the last one
last-rules : (g : Graph) (k : ℕ) → all_of (keeps_rules g (step false k)) (node_numbers (step false k)) ≡ true
last-rules g k = refl

-- of `main`
module _ (g : Graph) (callee : IsCallee (code_of g 1)) where
  main-call : keeps_rules g main_code 1 ≡ true
  main-call = rules-kept (is_wrong_block main_code 1) (is_place_twice main_code 1) false
      (is_place_missing g main_code 1 (Call 1)) true refl refl refl callee.for_main refl

  main-arg : keeps_rules g main_code 2 ≡ true
  main-arg = rules-kept (is_wrong_block main_code 2) (is_place_twice main_code 2) (is_place_range g main_code 2 (Arg 1 0 0)) false
      (has_right_depth g main_code 2 (Arg 1 0 0)) refl refl callee.params refl callee.takes

  main-ret : keeps_rules g main_code 3 ≡ true
  main-ret = rules-kept (is_wrong_block main_code 3) (is_place_twice main_code 3) (is_place_range g main_code 3 (Ret 1 0)) false
      (has_right_depth g main_code 3 (Ret 1 0)) refl refl callee.results refl callee.gives

  main-rules : all_of (keeps_rules g main_code) (node_numbers main_code) ≡ true
  main-rules = all-but (keeps_rules g main_code) (1 ∷ 2 ∷ 3 ∷ []) (node_numbers main_code)
      (three-pass (keeps_rules g main_code) 1 2 3 main-call main-arg main-ret) refl

-- ---- each code

more-fine : (g : Graph) (m k : ℕ) → k < 201 → nat_lt (k + 1) (length g.codes) ≡ true → IsCallee (code_of g (k + 1)) → IsFine g m (step true k)
more-fine g m k l next callee = record {
  of_text = record {
    written = more-written (length g.codes) k (below-test k (2 ^ 32) (omega arith)) next;
    named = step-named k l;
    nodes_named = refl;
    nodes_differ = refl;
  };
  short = refl;
  rules = more-rules g k callee;
  plain = refl;
  rising = refl;
}

last-fine : (g : Graph) (m k : ℕ) → k < 201 → IsFine g m (step false k)
last-fine g m k l = record {
  of_text = record {
    written = last-written (length g.codes) k (below-test k (2 ^ 32) (omega arith));
    named = step-named k l;
    nodes_named = refl;
    nodes_differ = refl;
  };
  short = refl;
  rules = last-rules g k;
  plain = refl;
  rising = refl;
}

main-fine : (g : Graph) → nat_lt 1 (length g.codes) ≡ true → IsCallee (code_of g 1) → IsFine g 0 main_code
main-fine g next callee = record {
  of_text = record {
    written = record {
      nodes_in_order = refl;
      blocks_in_order = refl;
      lines = all-but (λ x. is_line (length g.codes) main_code (kind_at main_code x)) (1 ∷ []) (node_numbers main_code)
          (one-pass (λ x. is_line (length g.codes) main_code (kind_at main_code x)) 1 next) refl;
      depths = refl;
      shallow = refl;
      small_blocks = refl;
      small = refl;
    };
    named = refl;
    nodes_named = refl;
    nodes_differ = refl;
  };
  short = refl;
  rules = main-rules g callee;
  plain = refl;
  rising = refl;
}

-- ---- the ladder

-- maps one behind the other
map-map : {X Y Z : Type 0} (f : Y → Z) (h : X → Y) (xs : List X) → map f (map h xs) ≡ map (λ x. f (h x)) xs
map-map f h [] = refl
map-map f h (x ∷ xs) = ap (λ l. f (h x) ∷ l) (map-map f h xs)

module _ (n : ℕ) (some : 0 < n) (few : n ≤ 200) where
  -- it has n + 1 codes
  codes-there : length (ladder_graph n).codes ≡ suc n
  codes-there = ap suc (length-numbered (step_of n) n)

  -- code number i + 1
  pub step-there : (i : ℕ) → i < n → code_of (ladder_graph n) (i + 1) ≡ step_of n i
  step-there i l =
      let next : suc i ≡ i + 1 = omega arith in
      subst (λ j. code_of (ladder_graph n) j ≡ step_of n i) next (ap or_code (get-numbered (step_of n) n i l))

  callee-there : (i : ℕ) → i < n → IsCallee (code_of (ladder_graph n) (i + 1))
  callee-there i l = subst IsCallee (sym (step-there i l)) (step-callee (nat_lt (i + 1) n) (i + 1))

  number-there : (j : ℕ) → j < suc n → nat_lt j (length (ladder_graph n).codes) ≡ true
  number-there j l = subst (λ m. nat_lt j m ≡ true) (sym codes-there) (below-test j (suc n) l)

  step-fine : (i : ℕ) → i < n → IsFine (ladder_graph n) (suc i) (step_of n i)
  step-fine i l = go (nat_lt (i + 1) n) refl
    where
      go : (more : Bool) → nat_lt (i + 1) n ≡ more → IsFine (ladder_graph n) (suc i) (step more (i + 1))
      go true e =
          let less : i + 1 < n = grind (arith, tests) in
          more-fine (ladder_graph n) (suc i) (i + 1) (omega arith) (number-there (i + 1 + 1) (omega arith)) (callee-there (i + 1) less)
      go false e = last-fine (ladder_graph n) (suc i) (i + 1) (omega arith)

  code-fine : (m : ℕ) → m < suc n → IsFine (ladder_graph n) m (code_of (ladder_graph n) m)
  code-fine zero l = main-fine (ladder_graph n) (number-there 1 (omega arith)) (callee-there 0 some)
  code-fine (suc i) l =
      subst (IsFine (ladder_graph n) (suc i)) (sym (ap or_code (get-numbered (step_of n) n i (omega arith)))) (step-fine i (omega arith))

  -- its codes are fine
  pub ladder-fine : HasFineCodes (ladder_graph n)
  ladder-fine = record {
    main = refl;
    has_main = number-there 0 (omega arith);
    few = subst (λ m. nat_lt m 257 ≡ true) (sym codes-there) (below-test (suc n) 257 (omega arith));
    differ = subst (λ names. all_differ same_bytes (main_name ∷ names) ≡ true) (sym (map-map (λ c. c.name) (step_of n) (below n)))
        (fewer-differ same_bytes main_name (λ i. step_name (i + 1)) n 200 few refl);
    each = λ m l. code-fine m (let h = codes-there in omega (arith, h));
  }
