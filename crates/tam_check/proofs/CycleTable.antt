-- The least node of each block that reaches itself, block by block, and within a block node by node.
use Rattle.std.proofs.Common.{◌≡◌, ℕ, suc, zero, ◌+◌, ◌<◌, ◌≤◌, Bool, true, false, ◌==◌, ◌&&◌, List, [], ◌∷◌, ◌++◌, filter, Option, Some, None}
use Rattle.std.proofs.Common.{length, slice_get, refl, sym, ap, ◌∙◌, subst, arith, inl, inr, true≢false, nat_lt, tests}
use Rattle.std.specs.Option.{option_to_list}
use Rattle.std.proofs.lemmas.Option.{slice_get_past}
use Rattle.std.proofs.lemmas.List.{length-append}
use Rattle.tam_word.specs.Lists.{below, any_of, first_of}
use Rattle.tam_word.proofs.Tests.{number-eq, below-test, test-below}
use Rattle.tam_word.proofs.Members.{in-any, in-filter, in-below, one-first}
use Rattle.tam_word.proofs.Each.{last-or_before}
use Rattle.tam_graph.specs.Graphs.{Code, block_at, node_numbers, nodes_in, one_or_none}
use Rattle.tam_graph.specs.Edges.{reaches_itself}
use Rattle.tam_graph.specs.Accepted.{value_edges, on_cycle}
use Rattle.tam_check.specs.Sources.{is_on_cycle, AreCycles}

-- ---- within a block

-- the first that passes of what is left is the first that is left and passes
first-filter : {X : Type 0} (kept test : X → Bool) (xs : List X) → first_of test (filter kept xs) ≡ first_of (λ x. kept x && test x) xs
first-filter kept test [] = refl
first-filter {X} kept test (x ∷ xs) = go (kept x) refl (test x) refl (first-filter kept test xs)
  where
    here : (t : X → Bool) (ys : List X) → t x ≡ true → first_of t (x ∷ ys) ≡ x ∷ []
    here t ys e = rw (first_of, e) refl

    later : (t : X → Bool) (ys : List X) → t x ≡ false → first_of t (x ∷ ys) ≡ first_of t ys
    later t ys e = rw (first_of, e) refl

    go : (b : Bool) → kept x ≡ b → (t : Bool) → test x ≡ t → first_of test (filter kept xs) ≡ first_of (λ y. kept y && test y) xs
        → first_of test (filter kept (x ∷ xs)) ≡ first_of (λ y. kept y && test y) (x ∷ xs)
    go true e true h i = rw e (here test (filter kept xs) h ∙ sym (here (λ y. kept y && test y) xs (rw (e, h) refl)))
    go true e false h i = rw e (later test (filter kept xs) h ∙ (i ∙ sym (later (λ y. kept y && test y) xs (rw (e, h) refl))))
    go false e t h i = rw e (i ∙ sym (later (λ y. kept y && test y) xs (rw e refl)))

-- where none passes there is no first
first-none : {X : Type 0} (test : X → Bool) (xs : List X) → any_of test xs ≡ false → first_of test xs ≡ []
first-none test xs h = go (first_of test xs) refl
  where
    go : (ys : _) → first_of test xs ≡ ys → first_of test xs ≡ []
    go [] e = e
    go (y ∷ ys) e = let r = one-first test xs y ys e in absurd (true≢false (sym (in-any test xs y r.0 r.1) ∙ h))

-- a first of both lists, where none of the first list passes
first-append : {X : Type 0} (test : X → Bool) (xs ys : List X) → any_of test xs ≡ false → first_of test (xs ++ ys) ≡ first_of test ys
first-append test [] ys h = refl
first-append {X} test (x ∷ xs) ys h = go (test x) refl (first-append test xs ys)
  where
    go : (t : Bool) → test x ≡ t → (any_of test xs ≡ false → first_of test (xs ++ ys) ≡ first_of test ys) → first_of test ((x ∷ xs) ++ ys) ≡ first_of test ys
    go true e i = absurd (true≢false (rw (any_of, e) at h))
    go false e i = rw (first_of, e) (i (rw (any_of, e) at h))

-- what has a first keeps it where more follow
first-kept : {X : Type 0} (test : X → Bool) (xs ys : List X) (x : X) → first_of test xs ≡ x ∷ [] → first_of test (xs ++ ys) ≡ x ∷ []
first-kept test [] ys x h = absurd cc
first-kept {X} test (y ∷ xs) ys x h = go (test y) refl (first-kept test xs ys x)
  where
    go : (t : Bool) → test y ≡ t → (first_of test xs ≡ x ∷ [] → first_of test (xs ++ ys) ≡ x ∷ []) → first_of test ((y ∷ xs) ++ ys) ≡ x ∷ []
    go true e i = rw (first_of, e) (rw (first_of, e) at h)
    go false e i = rw (first_of, e) (i (rw (first_of, e) at h))

-- the first number below n that passes
first-below : (test : ℕ → Bool) (n x : ℕ) → x < n → any_of test (below x) ≡ false → test x ≡ true → first_of test (below n) ≡ x ∷ []
first-below test zero x l none here = absurd (omega arith)
first-below test (suc n) x l none here = elim (last-or_before x n l) [
  | inl b ↦ first-kept test (below n) (n ∷ []) x (first-below test n x b none here)
  | inr e ↦ rw (← e) (first-append test (below x) (x ∷ []) none ∙ rw (first_of, here) refl)
]

module _ (c : Code) (b : ℕ) where
  -- the least node of a block that reaches itself
  pub cycle-found : (x : ℕ) → x < length c.nodes → any_of (is_on_cycle c b) (below x) ≡ false → is_on_cycle c b x ≡ true → on_cycle c b ≡ x ∷ []
  cycle-found x l none here = first-filter (λ y. block_at c y == b) (reaches_itself (value_edges c b)) (node_numbers c)
      ∙ first-below (is_on_cycle c b) (length c.nodes) x l none here

  -- or none
  pub cycle-none : any_of (is_on_cycle c b) (node_numbers c) ≡ false → on_cycle c b ≡ []
  cycle-none none = first-filter (λ y. block_at c y == b) (reaches_itself (value_edges c b)) (node_numbers c)
      ∙ first-none (is_on_cycle c b) (node_numbers c) none

-- ---- block by block

-- the cycles of the blocks below n
pub record AreCyclesBelow (c : Code) (n : ℕ) (cycles : List (Option ℕ)) : Type 0 where
  pub len : length cycles ≡ n
  pub each : (b : ℕ) → b < n → one_or_none (slice_get cycles b) ≡ on_cycle c b

-- what is put at the end
pub get-last : {X : Type 0} (xs : List X) (x : X) → slice_get (xs ++ x ∷ []) (length xs) ≡ Some x
get-last [] x = refl
get-last (y ∷ xs) x = get-last xs x

-- what stands before it
pub get-before : {X : Type 0} (xs ys : List X) (n : ℕ) → n < length xs → slice_get (xs ++ ys) n ≡ slice_get xs n
get-before [] ys n l = absurd (omega arith)
get-before (x ∷ xs) ys zero l = refl
get-before (x ∷ xs) ys (suc n) l = get-before xs ys n (omega arith)

-- an entry of the table as a list
entry-list : (found : Option ℕ) → one_or_none (Some found) ≡ option_to_list found
entry-list None = refl
entry-list (Some x) = refl

-- one more block
pub cycles-next : (c : Code) (n : ℕ) (cycles : List (Option ℕ)) (found : Option ℕ) → AreCyclesBelow c n cycles → option_to_list found ≡ on_cycle c n
    → AreCyclesBelow c (n + 1) (cycles ++ found ∷ [])
cycles-next c n cycles found p here = record {
  len = omega (arith, length-append cycles (found ∷ []), p.len);
  each = each;
}
  where
    last : slice_get (cycles ++ found ∷ []) n ≡ Some found
    last = subst (λ z. slice_get (cycles ++ found ∷ []) z ≡ Some found) p.len (get-last cycles found)

    each : (b : ℕ) → b < n + 1 → one_or_none (slice_get (cycles ++ found ∷ []) b) ≡ on_cycle c b
    each b l = elim (last-or_before b n (omega arith)) [
      | inl k ↦ ap one_or_none (get-before cycles (found ∷ []) b (omega (arith, k, p.len))) ∙ p.each b k
      | inr e ↦ rw e (ap one_or_none last ∙ (entry-list found ∙ here))
    ]

-- all blocks, in which all nodes stand
pub cycles-all : (c : Code) (cycles : List (Option ℕ)) → AreCyclesBelow c (length c.owners) cycles
    → ((x : ℕ) → x < length c.nodes → block_at c x < length c.owners) → AreCycles c cycles
cycles-all c cycles p within = λ b. go b (nat_lt b (length c.owners)) refl
  where
    beyond-all : (b : ℕ) → nat_lt b (length c.owners) ≡ false → (xs : List ℕ) → on_cycle c b ≡ xs → xs ≡ []
    beyond-all b e [] h = refl
    beyond-all b e (x ∷ xs) h =
        let r = one-first (reaches_itself (value_edges c b)) (nodes_in c b) x xs h in
        let s = in-filter (λ y. block_at c y == b) x (node_numbers c) r.0 in
        let low = within x (in-below x (length c.nodes) s.0) in
        let same = number-eq (block_at c x) b s.1 in
        absurd (true≢false (sym (below-test b (length c.owners) (omega (arith, low, same))) ∙ e))

    go : (b : ℕ) (t : Bool) → nat_lt b (length c.owners) ≡ t → one_or_none (slice_get cycles b) ≡ on_cycle c b
    go b true e = p.each b (test-below b (length c.owners) e)
    go b false e =
        let past : length cycles ≤ b = let q = p.len in grind (arith, tests) in
        ap one_or_none (slice_get_past cycles b past) ∙ sym (beyond-all b e (on_cycle c b) refl)
