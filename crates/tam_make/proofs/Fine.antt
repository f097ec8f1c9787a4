-- A graph whose codes are fine one by one is that of a text, and accepted.
use Rattle.std.proofs.Common.{◌≡◌, ◌∙◌, ℕ, ◌<◌, nat_lt, ◌==◌, ◌&&◌, not, Bool, true, false, List, [], ◌∷◌, ◌++◌, refl, sym, ap, subst, inl, inr, arith}
use Rattle.std.proofs.Common.{map, length, flat_map, slice_get, Some}
use Rattle.std.proofs.lemmas.Option.{slice_get_within}
use Rattle.tam_word.specs.Lists.{all_of, all_differ, same_bytes, below, where_so}
use Rattle.tam_word.proofs.Tests.{test-below, both-true, not-true}
use Rattle.tam_word.proofs.Members.{In, all-in, in-all, in-get, in-below}
use Rattle.tam_graph.specs.Graphs.{Code, Graph, code_of, or_code, kind_at, node_numbers, main_among}
use Rattle.tam_graph.specs.declared.check_cause.CheckCause.{CheckCause}
use Rattle.tam_graph.specs.declared.check_cause.CheckCause.TheVariants.{WrongBlock as Wrong_block, PlaceTwice as Place_twice, PlaceRange as Place_range}
use Rattle.tam_graph.specs.declared.check_cause.CheckCause.TheVariants.{PlaceMissing as Place_missing, DepthMismatch as Depth_mismatch, MainType as Main_type}
use Rattle.tam_graph.specs.declared.check_cause.CheckCause.TheVariants.{Cycle}
use Rattle.tam_graph.specs.Accepted.{is_wrong_block, is_place_twice, is_place_range, is_place_missing, has_right_depth, is_main_type, is_cycle}
use Rattle.tam_graph.specs.Accepted.{faults_at, IsAccepted}
use Rattle.tam_graph.specs.Reading.{IsCodeOfText, IsOfText, has_short_blocks, is_short}
use Rattle.tam_make.proofs.RisingEdges.{rises, no-cycle}

-- the first five rules hold at a node
abbrev pub keeps_rules : Graph → Code → ℕ → Bool
keeps_rules g c x =
    not (is_wrong_block c x) && (not (is_place_twice c x) && (not (is_place_range g c x (kind_at c x))
    && (not (is_place_missing g c x (kind_at c x)) && has_right_depth g c x (kind_at c x))))

-- the node is no param or result of `main` that is an array
abbrev pub is_plain_in : Graph → ℕ → Code → ℕ → Bool
is_plain_in g n c x = not (is_main_type c x (kind_at c x) && (n == g.main))

-- code number n of the graph is fine
pub record IsFine (g : Graph) (n : ℕ) (c : Code) : Type 0 where
  pub of_text : IsCodeOfText (length g.codes) c
  pub short : has_short_blocks c ≡ true
  pub rules : all_of (keeps_rules g c) (node_numbers c) ≡ true
  pub plain : all_of (is_plain_in g n c) (node_numbers c) ≡ true
  pub rising : rises c ≡ true

-- the order of two tests
swapped : (s t : Bool) → (s && t) ≡ false → (t && s) ≡ false
swapped true true h = h
swapped true false h = refl
swapped false true h = refl
swapped false false h = refl

-- nothing is told where no test holds
none-told : (a b c d e f h : Bool) → a ≡ false → b ≡ false → c ≡ false → d ≡ false → e ≡ true → f ≡ false → h ≡ false
    → where_so a Wrong_block ++ (where_so b Place_twice ++ (where_so c Place_range
    ++ (where_so d Place_missing ++ (where_so (not e) Depth_mismatch
    ++ (where_so f Main_type ++ where_so h Cycle))))) ≡ []
none-told a b c d e f h p q r s t u v = rw (p, q, r, s, t, u, v) refl

-- lists of nothing make nothing
flat_map-nothing : {X Y : Type 0} (f : X → List Y) (xs : List X) → ((x : X) → In x xs → f x ≡ []) → flat_map f xs ≡ []
flat_map-nothing f [] h = refl
flat_map-nothing f (x ∷ xs) h = ap (λ l. l ++ flat_map f xs) (h x (inl refl)) ∙ flat_map-nothing f xs (λ y m. h y (inr m))

-- a cause with its code and node
abbrev with_place : ℕ → ℕ → CheckCause → ℕ × ℕ × CheckCause
with_place n x f = (n, x, f)

-- what is told of a node
abbrev told : Graph → ℕ → ℕ → List (ℕ × ℕ × CheckCause)
told g n x = map (with_place n x) (faults_at g n x)

module _ (g : Graph) (n : ℕ) (c : Code) (is : code_of g n ≡ c) (fine : IsFine g n c) where
  -- a node of a fine code has no fault
  no-fault : (x : ℕ) → In x (node_numbers c) → faults_at g n x ≡ []
  no-fault x m =
      let h = all-in (keeps_rules g c) (node_numbers c) fine.rules x m in
      let k = kind_at c x in
      let p = both-true (not (is_wrong_block c x)) (not (is_place_twice c x) && (not (is_place_range g c x k)
      && (not (is_place_missing g c x k) && has_right_depth g c x k))) h in
      let q = both-true (not (is_place_twice c x)) (not (is_place_range g c x k) && (not (is_place_missing g c x k) && has_right_depth g c x k)) p.1 in
      let r = both-true (not (is_place_range g c x k)) (not (is_place_missing g c x k) && has_right_depth g c x k) q.1 in
      let s = both-true (not (is_place_missing g c x k)) (has_right_depth g c x k) r.1 in
      let t = not-true (is_main_type c x k && (n == g.main)) (all-in (is_plain_in g n c) (node_numbers c) fine.plain x m) in
      subst (λ d. where_so (is_wrong_block d x) Wrong_block ++ (where_so (is_place_twice d x) Place_twice
      ++ (where_so (is_place_range g d x (kind_at d x)) Place_range ++ (where_so (is_place_missing g d x (kind_at d x)) Place_missing
      ++ (where_so (not (has_right_depth g d x (kind_at d x))) Depth_mismatch
      ++ (where_so ((n == g.main) && is_main_type d x (kind_at d x)) Main_type ++ where_so (is_cycle d x) Cycle))))) ≡ []) (sym is)
      (none-told (is_wrong_block c x) (is_place_twice c x) (is_place_range g c x k) (is_place_missing g c x k) (has_right_depth g c x k)
      ((n == g.main) && is_main_type c x k) (is_cycle c x) (not-true (is_wrong_block c x) p.0) (not-true (is_place_twice c x) q.0)
      (not-true (is_place_range g c x k) r.0) (not-true (is_place_missing g c x k) s.0) s.1
      (swapped (is_main_type c x k) (n == g.main) t) (no-cycle c fine.rising x))

  -- so the code has none
  pub no-code-fault : flat_map (told g n) (node_numbers (code_of g n)) ≡ []
  no-code-fault =
      flat_map-nothing (told g n) (node_numbers (code_of g n))
      (λ x m. ap (map (with_place n x)) (no-fault x (subst (λ d. In x (node_numbers d)) is m)))

-- a graph, each code of which is fine
pub record HasFineCodes (g : Graph) : Type 0 where
  pub main : g.main ≡ main_among g.codes
  pub has_main : nat_lt g.main (length g.codes) ≡ true
  pub few : nat_lt (length g.codes) 257 ≡ true
  pub differ : all_differ same_bytes (map (λ c. c.name) g.codes) ≡ true
  pub each : (n : ℕ) → n < length g.codes → IsFine g n (code_of g n)

module _ (g : Graph) (fine : HasFineCodes g) where
  -- it is that of a text
  pub fine-of_text : IsOfText g
  fine-of_text = record {
    each_code = λ n l. (fine.each n l).of_text;
    few_codes = let h = test-below (length g.codes) 257 fine.few in omega (arith, h);
    codes_differ = fine.differ;
    main = fine.main;
  }

  -- whose blocks are short
  pub fine-short : is_short g ≡ true
  fine-short = in-all has_short_blocks g.codes (λ c m. at c (in-get c g.codes m))
    where
      at : (c : Code) → (i : ℕ) × (slice_get g.codes i ≡ Some c) → has_short_blocks c ≡ true
      at c (i, e) = subst (λ d. has_short_blocks d ≡ true) (ap or_code e) (fine.each i (slice_get_within g.codes i c e)).short

  -- and accepted
  pub fine-accepted : IsAccepted g
  fine-accepted = record {
    has_main = fine.has_main;
    few_codes = fine.few;
    written = λ n l. (fine.each n (test-below n (length g.codes) l)).of_text.written;
    no_fault = flat_map-nothing (λ (n : ℕ). flat_map (told g n) (node_numbers (code_of g n)))
        (below (length g.codes)) (λ n m. no-code-fault g n (code_of g n) refl (fine.each n (in-below n (length g.codes) m)));
  }
