-- What is reached with one edge more.
use Rattle.std.proofs.Common.{◌≡◌, ℕ, [], ◌∷◌, ◌++◌, Bool, true, false, ◌&&◌, ◌||◌, refl, sym, inl, inr, ◌∙◌, ◌==◌}
use Rattle.tam_word.proofs.Members.{In, any-in, in-any, in-append, left-in, right-in}
use Rattle.tam_graph.specs.Edges.{Edges, reaches, Walk, Stay, Along}
use Rattle.tam_graph.proofs.Walks.{walk-reaches, reaches-walk}
use Rattle.tam_sets.specs.Sets.{places_where, joined}
use Rattle.tam_sets.proofs.PlacesWhere.{has-where, places-same}
use Rattle.tam_quotient.proofs.Places.{same-test}

-- a walk of these edges is one of more
walk-wider : {es ds : Edges} {x y : ℕ} → ((e : ℕ × ℕ) → In e es → In e ds) → Walk es x y → Walk ds x y
walk-wider f Stay = Stay
walk-wider {es} {ds} f (Along {x} {y} {z} h w) =
    Along {y = y} (let r = any-in (λ e. (e.0 == x) && (e.1 == y)) es h in in-any (λ e. (e.0 == x) && (e.1 == y)) ds r.0 (f r.0 r.1) r.2) (walk-wider f w)

-- so what is reached by these edges is reached by more
pub reaches-wider : (es ds : Edges) → ((e : ℕ × ℕ) → In e es → In e ds) → (x y : ℕ) → reaches es x y ≡ true → reaches ds x y ≡ true
reaches-wider es ds f x y h = walk-reaches (walk-wider f (reaches-walk es x y h))

-- an edge more at the end is one more at the front
pub reaches-push : (es : Edges) (e : ℕ × ℕ) (x y : ℕ) → reaches (es ++ e ∷ []) x y ≡ reaches (e ∷ es) x y
reaches-push es e x y = same-test (reaches (es ++ e ∷ []) x y) (reaches (e ∷ es) x y)
    (reaches-wider (es ++ e ∷ []) (e ∷ es) to x y) (reaches-wider (e ∷ es) (es ++ e ∷ []) back x y)
  where
    to : (d : ℕ × ℕ) → In d (es ++ e ∷ []) → In d (e ∷ es)
    to d i = elim (in-append d es (e ∷ []) i) [ inl a ↦ inr a | inr (inl p) ↦ inl p | inr (inr n) ↦ absurd n ]

    back : (d : ℕ × ℕ) → In d (e ∷ es) → In d (es ++ e ∷ [])
    back d (inl p) = right-in d es (e ∷ []) (inl p)
    back d (inr i) = left-in d es (e ∷ []) i

-- where x reaches the edge's start, it reaches what the edge's end reaches besides
pub row-grows : (es : Edges) (a c x : ℕ) → reaches es x a ≡ true
    → joined (places_where (reaches es x)) (places_where (reaches es c)) ≡ places_where (reaches (es ++ (a, c) ∷ []) x)
row-grows es a c x h = places-same _ _ (λ y l. rw (has-where (reaches es x) y l, has-where (reaches es c) y l)
    (sym (reaches-push es (a, c) x y ∙ step y (reaches es x y) refl)))
  where
    step : (y : ℕ) (t : Bool) → reaches es x y ≡ t → reaches ((a, c) ∷ es) x y ≡ (reaches es x y || reaches es c y)
    step y true p = rw p refl
    step y false p = rw (p, h) refl

-- and where it doesn't, it reaches no more
pub row-stays : (es : Edges) (a c x : ℕ) → reaches es x a ≡ false → places_where (reaches es x) ≡ places_where (reaches (es ++ (a, c) ∷ []) x)
row-stays es a c x h = places-same _ _ (λ y l. sym (reaches-push es (a, c) x y ∙ step y (reaches es x y) refl))
  where
    step : (y : ℕ) (t : Bool) → reaches es x y ≡ t → reaches ((a, c) ∷ es) x y ≡ reaches es x y
    step y true p = rw p refl
    step y false p = rw (p, h) refl
