-- What reaches and what is reached, one edge after another: an edge more spreads the sets.
use Rattle.std.proofs.Common.{◌≡◌, ℕ, zero, suc, ◌+◌, ◌<◌, ◌≤◌, Bool, true, false, ◌&&◌, ◌||◌, ◌==◌, nat_lt, List, [], ◌∷◌, ◌++◌, map, drop, get_or}
use Rattle.std.proofs.Common.{length, refl, sym, ap, ap₂, subst, ◌∙◌, arith, add-one, inl, inr, ◌⊎◌, tests}
use Rattle.std.proofs.lemmas.List.{drop_more, map-append, drop_all}
use Rattle.tam_word.specs.Lists.{below, has}
use Rattle.tam_word.proofs.Tests.{both-true, test-below}
use Rattle.tam_word.proofs.Members.{In, all-in, in-below}
use Rattle.tam_graph.specs.Edges.{Edges, reaches}
use Rattle.tam_sets.specs.Sets.{places_where}
use Rattle.tam_sets.proofs.PlacesWhere.{places-same, has-where}
use Rattle.tam_split.specs.declared.vertex.Vertex.{Vertex}
use Rattle.tam_split.specs.Blocks.{BlockGraph}
use Rattle.tam_split.specs.PartitionLaws.{IsBlockGraph}
use Rattle.tam_reach.specs.Reached.{spread_into}

-- ---- lists by place

-- what functions that agree on the numbers below n make of them
pub map-below : (f g : ℕ → List ℕ) (n : ℕ) → ((y : ℕ) → y < n → f y ≡ g y) → map f (below n) ≡ map g (below n)
map-below f g n h = go (below n) (λ y i. h y (in-below y n i))
  where
    go : (ys : List ℕ) → ((y : ℕ) → In y ys → f y ≡ g y) → map f ys ≡ map g ys
    go [] k = refl
    go (y ∷ ys) k = ap₂ (λ a b. a ∷ b) (k y (inl refl)) (go ys (λ z i. k z (inr i)))

-- one function after another
pub map-twice : (f : List ℕ → List ℕ) (g : ℕ → List ℕ) (ys : List ℕ) → map f (map g ys) ≡ map (λ y. f (g y)) ys
map-twice f g [] = refl
map-twice f g (y ∷ ys) = ap (λ zs. f (g y) ∷ zs) (map-twice f g ys)

-- one number more
pub map-more : (f : ℕ → List ℕ) (n : ℕ) → map f (below (n + 1)) ≡ map f (below n) ++ f n ∷ []
map-more f n = ap (λ m. map f (below m)) (add-one n) ∙ map-append f (below n) (n ∷ [])

-- how many they are
pub length-map-below : (f : ℕ → List ℕ) (n : ℕ) → length (map f (below n)) ≡ n
length-map-below f zero = refl
length-map-below f (suc n) = ap length (map-append f (below n) (n ∷ [])) ∙ (push (map f (below n)) (f n) ∙ ap suc (length-map-below f n))
  where
    push : (xs : List (List ℕ)) (x : List ℕ) → length (xs ++ x ∷ []) ≡ suc (length xs)
    push [] x = refl
    push (y ∷ ys) x = ap suc (push ys x)

-- what stands at a place
pub get-map-below : (f : ℕ → List ℕ) (n k : ℕ) (d : List ℕ) → k < n → get_or (map f (below n)) k d ≡ f k
get-map-below f zero k d h = absurd (omega arith)
get-map-below f (suc n) k d h = ap (λ l. get_or l k d) (map-append f (below n) (n ∷ [])) ∙ go (cases k) (get-map-below f n k d)
  where
    cases : (j : ℕ) → (j < n) ⊎ (n ≤ j)
    cases j = grind arith

    left : (xs : List (List ℕ)) (x : List ℕ) (j : ℕ) → j < length xs → get_or (xs ++ x ∷ []) j d ≡ get_or xs j d
    left [] x j l = absurd (omega arith)
    left (y ∷ ys) x zero l = refl
    left (y ∷ ys) x (suc j) l = left ys x j (omega arith)

    last : (xs : List (List ℕ)) (x : List ℕ) (j : ℕ) → j ≡ length xs → get_or (xs ++ x ∷ []) j d ≡ x
    last [] x zero e = refl
    last [] x (suc j) e = absurd (omega arith)
    last (y ∷ ys) x zero e = absurd (omega arith)
    last (y ∷ ys) x (suc j) e = last ys x j (omega arith)

    go : (k < n) ⊎ (n ≤ k) → (k < n → get_or (map f (below n)) k d ≡ f k) → get_or (map f (below n) ++ f n ∷ []) k d ≡ f k
    go (inl l) i = left (map f (below n)) (f n) k (let e = length-map-below f n in omega arith) ∙ i l
    go (inr l) i =
        let e : k ≡ n = omega arith in
        last (map f (below n)) (f n) k (e ∙ sym (length-map-below f n)) ∙ ap f (sym e)

-- ---- one edge more

-- the places that reach y
abbrev pub reaching : Edges → ℕ → List ℕ
reaching es y = places_where (λ x. reaches es x y)

-- the places that x reaches
abbrev pub reached : Edges → ℕ → List ℕ
reached es x = places_where (λ y. reaches es x y)

-- what reaches the giver reaches what the taker reaches
spread-reaching : (e : ℕ × ℕ) (es : Edges) (y : ℕ) → e.1 < 512 → spread_into e.1 (reaching es e.0) (reaching es y) ≡ reaching (e ∷ es) y
spread-reaching e es y l = go (reaches es e.1 y) refl
  where
    each : (x : ℕ) (s t : Bool) → reaches es x y ≡ s → reaches es x e.0 ≡ t → reaches es e.1 y ≡ true → (reaches es x y || reaches es x e.0) ≡ reaches
        (e ∷ es) x y
    each x true t p q r = rw p refl
    each x false true p q r = rw (p, q, r) refl
    each x false false p q r = rw (p, q) refl

    same : (x : ℕ) (s t : Bool) → reaches es x y ≡ s → reaches es x e.0 ≡ t → reaches es e.1 y ≡ false → reaches es x y ≡ reaches (e ∷ es) x y
    same x true t p q r = rw p refl
    same x false true p q r = rw (p, q, r) refl
    same x false false p q r = rw (p, q) refl

    go : (t : Bool) → reaches es e.1 y ≡ t → spread_into e.1 (reaching es e.0) (reaching es y) ≡ reaching (e ∷ es) y
    go true r =
        rw (spread_into, has-where (λ x. reaches es x y) e.1 l, r)
        (places-same (λ x. has (reaching es y) x || has (reaching es e.0) x) (λ x. reaches (e ∷ es) x y)
        (λ x m. rw (has-where (λ x. reaches es x y) x m, has-where (λ x. reaches es x e.0) x m) (each x (reaches es x y) (reaches es x e.0) refl refl r)))
    go false r =
        rw (spread_into, has-where (λ x. reaches es x y) e.1 l, r)
        (places-same (λ x. reaches es x y) (λ x. reaches (e ∷ es) x y) (λ x m. same x (reaches es x y) (reaches es x e.0) refl refl r))

-- what reaches the giver reaches what the taker reaches
spread-reached : (e : ℕ × ℕ) (es : Edges) (x : ℕ) → e.0 < 512 → spread_into e.0 (reached es e.1) (reached es x) ≡ reached (e ∷ es) x
spread-reached e es x l = go (reaches es x e.0) refl
  where
    each : (y : ℕ) (s : Bool) → reaches es x y ≡ s → reaches es x e.0 ≡ true → (reaches es x y || reaches es e.1 y) ≡ reaches (e ∷ es) x y
    each y true p r = rw p refl
    each y false p r = rw (p, r) refl

    same : (y : ℕ) (s : Bool) → reaches es x y ≡ s → reaches es x e.0 ≡ false → reaches es x y ≡ reaches (e ∷ es) x y
    same y true p r = rw p refl
    same y false p r = rw (p, r) refl

    go : (t : Bool) → reaches es x e.0 ≡ t → spread_into e.0 (reached es e.1) (reached es x) ≡ reached (e ∷ es) x
    go true r =
        rw (spread_into, has-where (λ y. reaches es x y) e.0 l, r)
        (places-same (λ y. has (reached es x) y || has (reached es e.1) y) (λ y. reaches (e ∷ es) x y)
        (λ y m. rw (has-where (λ y. reaches es x y) y m, has-where (λ y. reaches es e.1 y) y m) (each y (reaches es x y) refl r)))
    go false r =
        rw (spread_into, has-where (λ y. reaches es x y) e.0 l, r)
        (places-same (λ y. reaches es x y) (λ y. reaches (e ∷ es) x y) (λ y m. same y (reaches es x y) refl r))

-- ---- of all places

-- each edge of a block runs between its places
pub edge-inside : (b : BlockGraph) → IsBlockGraph b → (k : ℕ) (d : ℕ × ℕ) → k < length b.edges → ((get_or b.edges k d).0 < length b.vertices) ×
    ((get_or b.edges k d).1 < length b.vertices)
edge-inside b block k d h =
    let e = get_or b.edges k d in
    let t = all-in (λ (f : ℕ × ℕ). nat_lt f.0 (length b.vertices) && nat_lt f.1 (length b.vertices)) b.edges block.within e (there b.edges k h) in
    let r = both-true (nat_lt e.0 (length b.vertices)) (nat_lt e.1 (length b.vertices)) t in
    (test-below e.0 (length b.vertices) r.0, test-below e.1 (length b.vertices) r.1)
  where
    there : (es : Edges) (j : ℕ) → j < length es → In (get_or es j d) es
    there [] j l = absurd (omega arith)
    there (f ∷ es) zero l = inl refl
    there (f ∷ es) (suc j) l = inr (there es j (omega arith))

-- as the code reads it
pub edge-read : (b : BlockGraph) → IsBlockGraph b → (vs : List Vertex) (es : Edges) → vs ≡ b.vertices → es ≡ b.edges → (k : ℕ) (d : ℕ × ℕ) → k < length es
    → ((get_or es k d).0 < length vs) × ((get_or es k d).1 < length vs)
edge-read b block vs es p q k d h =
    let in_es : ((get_or es k d).0 < length b.vertices) × ((get_or es k d).1 < length b.vertices) =
    subst (λ (fs : Edges). k < length fs → ((get_or fs k d).0 < length b.vertices) × ((get_or fs k d).1 < length b.vertices)) (sym q)
    (edge-inside b block k d) h in
    subst (λ (ws : List Vertex). ((get_or es k d).0 < length ws) × ((get_or es k d).1 < length ws)) (sym p) in_es

-- the edge at a place, before those behind it
pub edge-next : (es : Edges) (k j : ℕ) (d : ℕ × ℕ) → k < length es → j ≡ k + 1 → drop k es ≡ get_or es k d ∷ drop j es
edge-next es k j d h e = drop_more es k d h ∙ ap (λ n. get_or es k d ∷ drop n es) (sym e)

-- a step of `depends`
pub depends-step : (n : ℕ) (es fs : Edges) (e : ℕ × ℕ) (olds news : List (List ℕ)) → n ≤ 512 → fs ≡ e ∷ es → e.0 < n → e.1 < n
    → olds ≡ map (reaching es) (below n) → news ≡ map (spread_into e.1 (get_or olds e.0 [])) olds → news ≡ map (reaching fs) (below n)
depends-step n es fs e olds news few next s t before after =
    let more : get_or olds e.0 [] ≡ reaching es e.0 = ap (λ l. get_or l e.0 []) before ∙ get-map-below (reaching es) n e.0 [] s in
    after
    ∙ (ap₂ (λ m l. map (spread_into e.1 m) l) more before
    ∙ (map-twice (spread_into e.1 (reaching es e.0)) (reaching es) (below n)
    ∙ (map-below (λ y. spread_into e.1 (reaching es e.0) (reaching es y)) (reaching (e ∷ es)) n (λ y l. spread-reaching e es y (omega arith))
    ∙ ap (λ gs. map (reaching gs) (below n)) (sym next))))

-- a step of `demands`
pub demands-step : (n : ℕ) (es fs : Edges) (e : ℕ × ℕ) (olds news : List (List ℕ)) → n ≤ 512 → fs ≡ e ∷ es → e.0 < n → e.1 < n
    → olds ≡ map (reached es) (below n) → news ≡ map (spread_into e.0 (get_or olds e.1 [])) olds → news ≡ map (reached fs) (below n)
demands-step n es fs e olds news few next s t before after =
    let more : get_or olds e.1 [] ≡ reached es e.1 = ap (λ l. get_or l e.1 []) before ∙ get-map-below (reached es) n e.1 [] t in
    after
    ∙ (ap₂ (λ m l. map (spread_into e.0 m) l) more before
    ∙ (map-twice (spread_into e.0 (reached es e.1)) (reached es) (below n)
    ∙ (map-below (λ x. spread_into e.0 (reached es e.1) (reached es x)) (reached (e ∷ es)) n (λ x l. spread-reached e es x (omega arith))
    ∙ ap (λ gs. map (reached gs) (below n)) (sym next))))

-- before the first edge
pub alone-reaching : (n : ℕ) (es : Edges) (k : ℕ) → length es ≤ k → map (λ y. places_where (λ x. x == y)) (below n) ≡ map (reaching (drop k es)) (below n)
alone-reaching n es k h = ap (λ fs. map (reaching fs) (below n)) (sym (drop_all k es h))

pub alone-reached : (n : ℕ) (es : Edges) (k : ℕ) → length es ≤ k → map (λ x. places_where (λ y. y == x)) (below n) ≡ map (reached (drop k es)) (below n)
alone-reached n es k h =
    map-below (λ x. places_where (λ y. y == x)) (reached []) n (λ x l. places-same (λ y. y == x) (λ y. x == y) (λ y m. turned y x))
    ∙ ap (λ fs. map (reached fs) (below n)) (sym (drop_all k es h))
  where
    turned : (y x : ℕ) → (y == x) ≡ (x == y)
    turned y x = grind (arith, tests)
