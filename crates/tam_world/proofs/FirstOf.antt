-- The first of a list that passes a test.
use Rattle.std.proofs.Common.{◌≡◌, ◌∙◌, ℕ, zero, suc, ◌<◌, Bool, true, false, ◌==◌, ◌&&◌, List, [], ◌∷◌, length, filter, drop, get_or, refl, ap, ap₂}
use Rattle.std.proofs.Common.{sym, arith}
use Rattle.tam_word.specs.Lists.{first_of}
use Rattle.tam_word.proofs.Tests.{number-eq, eq-number}
use Rattle.tam_graph.specs.declared.kind.Kind.{Kind}
use Rattle.tam_graph.specs.declared.kind.Kind.TheVariants.{Param as Param_node, Ret as Ret_node, Merge as Merge_node, Enter as Enter_node}
use Rattle.tam_graph.specs.Graphs.{Code, kind_at, block_at, node_numbers}
use Rattle.tam_world.specs.declared.finding.Sought.{Sought}
use Rattle.tam_world.specs.declared.finding.Sought.TheVariants.{Param, Ret, Merge, Enter}
use Rattle.tam_world.specs.Sought.{is_sought, is_keyed, enter_key, key_of, inlets_of, sought_in}

-- an element that passes, where the rest begins with it
pub first-here : (test : ℕ → Bool) (xs : List ℕ) (i d : ℕ) → i < length xs → test (get_or xs i d) ≡ true → first_of test (drop i xs) ≡ get_or xs i d ∷ []
first-here test [] i d inside passes = absurd (omega arith)
first-here test (x ∷ xs) zero d inside passes = rw (first_of, passes) refl
first-here test (x ∷ xs) (suc i) d inside passes = first-here test xs i d (omega arith) passes

-- one that doesn't
pub first-behind : (test : ℕ → Bool) (xs : List ℕ) (i d : ℕ) → i < length xs → test (get_or xs i d) ≡ false
    → first_of test (drop (suc i) xs) ≡ first_of test (drop i xs)
first-behind test [] i d inside fails = absurd (omega arith)
first-behind test (x ∷ xs) zero d inside fails = rw (first_of, fails) refl
first-behind test (x ∷ xs) (suc i) d inside fails = first-behind test xs i d (omega arith) fails

-- tests that are alike
first_of-alike : (p q : ℕ → Bool) → ((x : ℕ) → p x ≡ q x) → (xs : List ℕ) → first_of p xs ≡ first_of q xs
first_of-alike p q alike [] = refl
first_of-alike p q alike (x ∷ xs) = go (q x) refl (first_of-alike p q alike xs)
  where
    go : (t : Bool) → q x ≡ t → first_of p xs ≡ first_of q xs → first_of p (x ∷ xs) ≡ first_of q (x ∷ xs)
    go true e i = let d : p x ≡ true = alike x ∙ e in rw (first_of, d, e) refl
    go false e i = let d : p x ≡ false = alike x ∙ e in rw (first_of, d, e) i

-- the first of those that pass another test
pub first_of-filter : {X : Type 0} (other test : X → Bool) (xs : List X) → first_of test (filter other xs) ≡ first_of (λ x. other x && test x) xs
first_of-filter other test [] = refl
first_of-filter {X} other test (x ∷ xs) = go (other x) refl (test x) refl (first_of-filter other test xs)
  where
    go : (s : Bool) → other x ≡ s → (t : Bool) → test x ≡ t → first_of test (filter other xs) ≡ first_of (λ y. other y && test y) xs
        → first_of test (filter other (x ∷ xs)) ≡ first_of (λ y. other y && test y) (x ∷ xs)
    go true d true e i = rw (filter, first_of, d, e) refl
    go true d false e i = rw (filter, first_of, d, e) i
    go false d t e i = rw (filter, first_of, d) i

-- a test with itself, or with one that fails
twice : (s t : Bool) → (s && (s && t)) ≡ (s && t)
twice true t = refl
twice false t = refl

once : (s : Bool) → (s && s) ≡ s
once true = refl
once false = refl

fails : (s : Bool) → (s && false) ≡ false
fails true = refl
fails false = refl

-- an `in` of the same block and place is kept under the same number
entered-keyed : (b j c k : ℕ) → ((enter_key b j == enter_key c k) && ((b == c) && (j == k))) ≡ ((b == c) && (j == k))
entered-keyed b j c k = go (b == c) refl (j == k) refl
  where
    go : (s : Bool) → (b == c) ≡ s → (t : Bool) → (j == k) ≡ t → ((enter_key b j == enter_key c k) && (s && t)) ≡ (s && t)
    go true d true e =
        let same : enter_key b j ≡ enter_key c k = ap₂ enter_key (number-eq b c d) (number-eq j k e) in
        rw (eq-number (enter_key b j) (enter_key c k) same) refl
    go true d false e = fails (enter_key b j == enter_key c k)
    go false d t e = fails (enter_key b j == enter_key c k)

-- what is looked for is kept under its number
keyed-sought : (sought : Sought) (b : ℕ) (kind : Kind) → (is_keyed (key_of sought) b kind && is_sought sought b kind) ≡ is_sought sought b kind
keyed-sought (Param k) b (Param_node j) = once (j == k)
keyed-sought (Param k) b (Ret_node f j) = fails (f == k)
keyed-sought (Param k) b (Merge_node d j) = fails (d == k)
keyed-sought (Param k) b (Enter_node j) = fails (enter_key b j == k)
keyed-sought (Ret f k) b (Param_node j) = fails (j == f)
keyed-sought (Ret f k) b (Ret_node e j) = twice (e == f) (j == k)
keyed-sought (Ret f k) b (Merge_node d j) = fails (d == f)
keyed-sought (Ret f k) b (Enter_node j) = fails (enter_key b j == f)
keyed-sought (Merge d k) b (Param_node j) = fails (j == d)
keyed-sought (Merge d k) b (Ret_node e j) = fails (e == d)
keyed-sought (Merge d k) b (Merge_node e j) = twice (e == d) (j == k)
keyed-sought (Merge d k) b (Enter_node j) = fails (enter_key b j == d)
keyed-sought (Enter c k) b (Param_node j) = ap (λ t. (j == enter_key c k) && t) (fails (b == c)) ∙ fails (j == enter_key c k) ∙ sym (fails (b == c))
keyed-sought (Enter c k) b (Ret_node e j) = ap (λ t. (e == enter_key c k) && t) (fails (b == c)) ∙ fails (e == enter_key c k) ∙ sym (fails (b == c))
keyed-sought (Enter c k) b (Merge_node d j) = ap (λ t. (d == enter_key c k) && t) (fails (b == c)) ∙ fails (d == enter_key c k) ∙ sym (fails (b == c))
keyed-sought (Enter c k) b (Enter_node j) = entered-keyed b j c k
keyed-sought (Enter c k) b kind = sym (fails (b == c))
keyed-sought sought b kind = refl

-- so it is the first of those
pub first-keyed : (c : Code) (sought : Sought)
    → first_of (λ x. is_sought sought (block_at c x) (kind_at c x)) (inlets_of c (key_of sought)) ≡ sought_in c sought
first-keyed c sought =
    first_of-filter (λ x. is_keyed (key_of sought) (block_at c x) (kind_at c x)) (λ x. is_sought sought (block_at c x) (kind_at c x)) (node_numbers c)
    ∙ first_of-alike (λ x. is_keyed (key_of sought) (block_at c x) (kind_at c x) && is_sought sought (block_at c x) (kind_at c x))
    (λ x. is_sought sought (block_at c x) (kind_at c x)) (λ x. keyed-sought sought (block_at c x) (kind_at c x)) (node_numbers c)
