-- What the rules ask of interfaces, as tests of the places that nodes have.
use Rattle.std.proofs.Common.{◌≡◌, ℕ, Bool, true, false, not, ◌&&◌, ◌||◌, ◌==◌, Option, Some, None, List, [], ◌∷◌, refl, ap, ◌∙◌}
use Rattle.tam_word.specs.Lists.{below, any_of, all_of}
use Rattle.tam_graph.specs.declared.kind.Kind.{Kind}
use Rattle.tam_graph.specs.declared.kind.Kind.TheVariants.{Param, Arg, Ret, Give, Switch, Merge, Enter, Leave}
use Rattle.tam_graph.specs.Graphs.{Code, kind_at, block_at, depth_at, node_numbers, is_param, is_merge, is_enter, is_leave}
use Rattle.tam_graph.specs.Accepted.{same_place, is_place_twice, has_node_in, all_depths, enters_depth}
use Rattle.tam_check.specs.declared.interface.Interface.{Interface}
use Rattle.tam_check.specs.declared.interface.Interface.TheVariants.{Params, Merges, Ins, Outs}
use Rattle.tam_check.specs.Interfaces.{stands, interface_of, has_place_below, has_place, depth_of_kind, all_agree}
use Rattle.tam_check.proofs.Scanning.{any-same, all-same, any-filter, all-filter, filter-filter}

-- ---- a place that is taken

-- a node of one interface has a place of it
abbrev has_own_place : ℕ → Kind → Option (Interface × ℕ) → Bool
has_own_place b n None = false
has_own_place b n (Some p) = stands p.0 p.1 b n

-- neither holds
and-false : (b : Bool) → false ≡ (b && false)
and-false true = refl
and-false false = refl

-- a node in block b has the same place as one of this kind in block a
same-own : (a b : ℕ) (n : Kind) (m : Kind) → same_place (b == a) n m ≡ has_own_place b n (interface_of a m)
same-own a b (Param j) (Param k) = refl
same-own a b other (Param k) = refl
same-own a b (Give j x) (Give k y) = refl
same-own a b other (Give k y) = refl
same-own a b (Arg f j x) (Arg e k y) = refl
same-own a b other (Arg e k y) = refl
same-own a b (Ret f j) (Ret e k) = refl
same-own a b other (Ret e k) = refl
same-own a b (Switch f j x) (Switch e k y) = refl
same-own a b other (Switch e k y) = refl
same-own a b (Merge f j) (Merge e k) = refl
same-own a b other (Merge e k) = refl
same-own a b (Enter j) (Enter k) = refl
same-own a b other (Enter k) = and-false (b == a)
same-own a b (Leave j x) (Leave k y) = refl
same-own a b other (Leave k y) = and-false (b == a)
same-own a b n other = refl

-- no number passes a test that none passes
none-passes : (xs : List ℕ) → any_of (λ (x : ℕ). false) xs ≡ false
none-passes [] = refl
none-passes (x ∷ xs) = none-passes xs

-- a node of an interface has its place twice where an earlier one has it
pub twice-below : (c : Code) (x : ℕ) (i : Interface) (k : ℕ) → interface_of (block_at c x) (kind_at c x) ≡ Some (i, k)
    → is_place_twice c x ≡ has_place_below c i k x
twice-below c x i k e =
    any-same _ _ (below x) (λ y. same-own (block_at c x) (block_at c y) (kind_at c y) (kind_at c x) ∙ ap (has_own_place (block_at c y) (kind_at c y)) e)

-- any other hasn't
pub never-twice : (c : Code) (x : ℕ) → interface_of (block_at c x) (kind_at c x) ≡ None → is_place_twice c x ≡ false
never-twice c x e =
    any-same _ (λ y. false) (below x) (λ y. same-own (block_at c x) (block_at c y) (kind_at c y) (kind_at c x)
    ∙ ap (has_own_place (block_at c y) (kind_at c y)) e)
    ∙ none-passes (below x)

-- ---- the places of a branch

-- a branch has an `in` for the place
pub enters-place : (c : Code) (b k : ℕ) → has_node_in c b (is_enter k) ≡ has_place c (Ins b) k
enters-place c b k = any-filter (λ x. block_at c x == b) (λ x. is_enter k (kind_at c x)) (node_numbers c)

-- a branch has an `out` for the place
pub leaves-place : (c : Code) (b k : ℕ) → has_node_in c b (is_leave k) ≡ has_place c (Outs b) k
leaves-place c b k = any-filter (λ x. block_at c x == b) (λ x. is_leave k (kind_at c x)) (node_numbers c)

-- ---- depths

-- the params of a place have this depth
pub params-agree : (c : Code) (k d : ℕ) → all_depths c (is_param k) d ≡ all_agree c Params k d
params-agree c k d = all-filter _ _ (node_numbers c) ∙ all-same _ _ (node_numbers c) (λ x. go x (kind_at c x))
  where
    go : (x : ℕ) (n : Kind) → (not (is_param k n) || (depth_at c x == d)) ≡ (not (is_param k n) || (depth_of_kind c x n == d))
    go x (Give j a) = refl
    go x other = refl

-- the merges of a place have this depth
pub merges-agree : (c : Code) (e k d : ℕ) → all_depths c (is_merge e k) d ≡ all_agree c (Merges e) k d
merges-agree c e k d = all-filter _ _ (node_numbers c) ∙ all-same _ _ (node_numbers c) (λ x. go x (kind_at c x))
  where
    go : (x : ℕ) (n : Kind) → (not (is_merge e k n) || (depth_at c x == d)) ≡ (not (is_merge e k n) || (depth_of_kind c x n == d))
    go x (Give j a) = refl
    go x other = refl

-- the `in`s of a place have this depth in a branch
pub ins-agree : (c : Code) (k d b : ℕ) → enters_depth c k d b ≡ all_agree c (Ins b) k d
ins-agree c k d b =
    ap (all_of (λ x. depth_at c x == d)) (filter-filter (λ x. is_enter k (kind_at c x)) (λ x. block_at c x == b) (node_numbers c))
    ∙ (all-filter _ _ (node_numbers c) ∙ all-same _ _ (node_numbers c) (λ x. go x (block_at c x == b) (kind_at c x)))
  where
    none : (t : Bool) (u v : Bool) → (not (t && false) || u) ≡ (not (t && false) || v)
    none true u v = refl
    none false u v = refl

    go : (x : ℕ) (t : Bool) (n : Kind) → (not (t && is_enter k n) || (depth_at c x == d)) ≡ (not (t && is_enter k n) || (depth_of_kind c x n == d))
    go x t (Give j a) = none t (depth_at c x == d) (depth_at c a == d)
    go x t other = refl
