-- Places of a block: the members of its sets and of its classes.
use Rattle.std.proofs.Common.{◌≡◌, ℕ, zero, suc, ◌<◌, ◌&&◌, Bool, true, false, true≢false, List, [], ◌∷◌, filter, map, get_or, slice_get, Some}
use Rattle.std.proofs.Common.{length, option_map, refl, sym, ap, subst, ◌∙◌, inl, inr, arith}
use Rattle.std.specs.List.{All}
use Rattle.std.proofs.lemmas.List.{length-map}
use Rattle.std.proofs.lemmas.Option.{slice_get-get_or, get_or_from_slice_get, slice_get-map}
use Rattle.tam_word.specs.Lists.{below, has}
use Rattle.tam_word.proofs.Members.{In, in-filter, filter-in, in-below, in-has, not-has}
use Rattle.tam_graph.proofs.FewNodes.{length-below}
use Rattle.tam_graph.specs.Edges.{reaches}
use Rattle.tam_split.specs.Blocks.{BlockGraph, places, inlets_of, outlets_of, dependences, demands, vertex_at}
use Rattle.tam_split.specs.Partitions.{partition_of, class_at, or_empty}
use Rattle.tam_split.specs.PartitionLaws.{IsBlockGraph}
use Rattle.tam_split.proofs.Partitioning.{partitioned, below-get}

-- what stands at a place of a list is in it
get_or-in : (xs : List ℕ) (k d : ℕ) → k < length xs → In (get_or xs k d) xs
get_or-in [] k d l = omega arith
get_or-in (x ∷ xs) zero d l = inl refl
get_or-in (x ∷ xs) (suc k) d l = inr (get_or-in xs k d (omega arith))

-- what is so of each number in a list is so at each place
each-place : (n : ℕ) (xs : List ℕ) → ((x : ℕ) → In x xs → x < n) → All (λ x. x < n) xs
each-place n xs h k d l = h (get_or xs k d) (get_or-in xs k d l)

-- what each vertex depends on are places of the block
pub dependences-inside : (b : BlockGraph) (x : ℕ) (ys : List ℕ) → ys ≡ dependences b x → All (λ y. y < length b.vertices) ys
dependences-inside b x ys e =
    each-place (length b.vertices) ys
    (λ y m. let i = in-filter _ y (inlets_of b) (subst (λ zs. In y zs) e m) in in-below y (length b.vertices) (in-filter _ y (places b) i.0).0)

-- and so are those that demand it
pub demands-inside : (b : BlockGraph) (x : ℕ) (ys : List ℕ) → ys ≡ demands b x → All (λ y. y < length b.vertices) ys
demands-inside b x ys e =
    each-place (length b.vertices) ys
    (λ y m. let o = in-filter _ y (outlets_of b) (subst (λ zs. In y zs) e m) in in-below y (length b.vertices) (in-filter _ y (places b) o.0).0)

-- and those of each class
pub class-inside : (b : BlockGraph) → IsBlockGraph b → (k : ℕ) (ys : List ℕ) → k < length (partition_of b) → ys ≡ class_at (partition_of b) k
    → All (λ y. y < length b.vertices) ys
class-inside b is k ys l e =
    each-place (length b.vertices) ys (λ y m. (partitioned b is).0.inside k (class_at (partition_of b) k) y there (in-has _ y (subst (λ zs. In y zs) e m)))
  where
    there : slice_get (partition_of b) k ≡ Some (class_at (partition_of b) k)
    there = let s = slice_get-get_or (partition_of b) k [] l in s ∙ ap Some (sym (ap or_empty s))

-- ---- sets

-- tests that agree on each element keep the same ones
filter-same : (f g : ℕ → Bool) (xs : List ℕ) → ((x : ℕ) → In x xs → f x ≡ g x) → filter f xs ≡ filter g xs
filter-same f g [] h = refl
filter-same f g (x ∷ xs) h = go (g x) refl (filter-same f g xs (λ y i. h y (inr i)))
  where
    go : (t : Bool) → g x ≡ t → filter f xs ≡ filter g xs → filter f (x ∷ xs) ≡ filter g (x ∷ xs)
    go true p i = rw (h x (inl refl) ∙ p, p) (ap (λ ys. x ∷ ys) i)
    go false p i = rw (h x (inl refl) ∙ p, p) i

-- what passes two tests, one behind the other
filter-twice : (f g : ℕ → Bool) (xs : List ℕ) → filter g (filter f xs) ≡ filter (λ x. f x && g x) xs
filter-twice f g [] = refl
filter-twice f g (x ∷ xs) = go (f x) refl (g x) refl (filter-twice f g xs)
  where
    go : (s : Bool) → f x ≡ s → (t : Bool) → g x ≡ t → filter g (filter f xs) ≡ filter (λ y. f y && g y) xs
        → filter g (filter f (x ∷ xs)) ≡ filter (λ y. f y && g y) (x ∷ xs)
    go true p true q i = rw (p, q) (ap (λ ys. x ∷ ys) i)
    go true p false q i = rw (p, q) i
    go false p t q i = rw p i

-- those of a list that are among its elements that pass are these
kept-again : (f : ℕ → Bool) (xs : List ℕ) → filter (has (filter f xs)) xs ≡ filter f xs
kept-again f xs = filter-same (has (filter f xs)) f xs each
  where
    each : (x : ℕ) → In x xs → has (filter f xs) x ≡ f x
    each x i = go (f x) refl
      where
        go : (t : Bool) → f x ≡ t → has (filter f xs) x ≡ f x
        go true p = in-has (filter f xs) x (filter-in f x xs i p) ∙ sym p
        go false p = not-has (filter f xs) x (λ m. true≢false (sym (in-filter f x xs m).1 ∙ p)) ∙ sym p

-- the places of a block that are in such a set are the set
again : (n : ℕ) (f g : ℕ → Bool) (xs : List ℕ) → xs ≡ filter g (filter f (below n)) → filter (has xs) (below n) ≡ xs
again n f g xs e =
    let w = e ∙ filter-twice f g (below n) in
    subst (λ ys. filter (has ys) (below n) ≡ ys) (sym w) (kept-again (λ x. f x && g x) (below n))

-- so it is with what a vertex depends on
pub dependences-again : (b : BlockGraph) (x n : ℕ) (xs : List ℕ) → n ≡ length b.vertices → xs ≡ dependences b x → filter (has xs) (below n) ≡ xs
dependences-again b x n xs e h =
    subst (λ m. filter (has xs) (below m) ≡ xs) (sym e) (again (length b.vertices) (λ i. (vertex_at b i).inlet) (λ i. reaches b.edges i x) xs h)

-- and with what demands it
pub demands-again : (b : BlockGraph) (x n : ℕ) (xs : List ℕ) → n ≡ length b.vertices → xs ≡ demands b x → filter (has xs) (below n) ≡ xs
demands-again b x n xs e h =
    subst (λ m. filter (has xs) (below m) ≡ xs) (sym e) (again (length b.vertices) (λ o. (vertex_at b o).outlet) (λ o. reaches b.edges x o) xs h)

-- a list for each place of a block has as many as there are vertices
pub one-each : (f : ℕ → List ℕ) (b : BlockGraph) (xs : List (List ℕ)) → xs ≡ map f (places b) → length xs ≡ length b.vertices
one-each f b xs e = ap length e ∙ (length-map (places b) f ∙ length-below (length b.vertices))

-- and at a place the list of the place
pub at-place : (f : ℕ → List ℕ) (b : BlockGraph) (xs : List (List ℕ)) (k : ℕ) (d : List ℕ) → xs ≡ map f (places b) → k < length b.vertices
    → get_or xs k d ≡ f k
at-place f b xs k d e l =
    get_or_from_slice_get xs k (f k) d
    (ap (λ ys. slice_get ys k) e ∙ (slice_get-map f (places b) k ∙ ap (λ o. option_map f o) (below-get (length b.vertices) k l)))

-- a class stands at its place
pub class-there : (ps : List (List ℕ)) (k : ℕ) (ys : List ℕ) → k < length ps → ys ≡ class_at ps k → ys ≡ get_or ps k ys
class-there ps k ys l e = e ∙ ap or_empty (slice_get-get_or ps k ys l)
