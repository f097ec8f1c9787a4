-- The places that pass a test: which they are, and when two tests give the same.
use Rattle.std.proofs.Common.{◌≡◌, ℕ, ◌<◌, Bool, true, false, List, [], ◌∷◌, filter, refl, sym, ap, subst, ◌∙◌, inl, inr, true≢false}
use Rattle.tam_word.specs.Lists.{has}
use Rattle.tam_word.proofs.Members.{In, filter-in, in-filter, below-in, in-below, not-has}
use Rattle.tam_sets.specs.Sets.{place_numbers, places_where}
use Rattle.tam_sets.specs.BitsBack.{all-places, test-where}

-- tests that agree on each element keep the same ones
filter-same : (f g : ℕ → Bool) (xs : List ℕ) → ((x : ℕ) → In x xs → f x ≡ g x) → filter f xs ≡ filter g xs
filter-same f g [] h = refl
filter-same f g (x ∷ xs) h = go (g x) refl (h x (inl refl)) (filter-same f g xs (λ y i. h y (inr i)))
  where
    go : (t : Bool) → g x ≡ t → f x ≡ g x → filter f xs ≡ filter g xs → filter f (x ∷ xs) ≡ filter g (x ∷ xs)
    go true p q i = rw (q, p) (ap (λ ys. x ∷ ys) i)
    go false p q i = rw (q, p) i

-- a number of a place is below the number of places
number-below : (x : ℕ) → In x place_numbers → x < 512
number-below x i = let a = all-places in subst (λ n. x < n) a.is (in-below x a.count (subst (λ ns. In x ns) a.numbers i))

-- and the other way round
below-number : (x : ℕ) → x < 512 → In x place_numbers
below-number x l = let a = all-places in subst (λ ns. In x ns) (sym a.numbers) (below-in x a.count (subst (λ n. x < n) (sym a.is) l))

-- tests that agree on each place give the same places
pub places-same : (f g : ℕ → Bool) → ((x : ℕ) → x < 512 → f x ≡ g x) → places_where f ≡ places_where g
unfolding places_where
places-same f g h = filter-same f g place_numbers (λ x i. h x (number-below x i))

-- a place that passes is one of them
pub where-in : (f : ℕ → Bool) (x : ℕ) → x < 512 → f x ≡ true → In x (places_where f)
unfolding places_where
where-in f x l h = filter-in f x place_numbers (below-number x l) h

-- and each of them is a place
pub in-where : (f : ℕ → Bool) (x : ℕ) → In x (places_where f) → x < 512
unfolding places_where
in-where f x i = number-below x (in-filter f x place_numbers i).0

-- that passes
pub in-passes : (f : ℕ → Bool) (x : ℕ) → In x (places_where f) → f x ≡ true
unfolding places_where
in-passes f x i = (in-filter f x place_numbers i).1

-- a place is one of them exactly where it passes
pub has-where : (f : ℕ → Bool) (x : ℕ) → x < 512 → has (places_where f) x ≡ f x
has-where f x l = test-where f x l

-- what is no place is none of them
pub has-beyond : (f : ℕ → Bool) (x : ℕ) → (x < 512 → ⊥) → has (places_where f) x ≡ false
has-beyond f x h = not-has (places_where f) x (λ i. h (in-where f x i))

-- their own test gives them again
pub where-has : (f : ℕ → Bool) → places_where f ≡ places_where (has (places_where f))
where-has f = places-same f (has (places_where f)) (λ x l. sym (has-where f x l))

-- where no place passes there is none
pub where-none : (f : ℕ → Bool) → ((x : ℕ) → x < 512 → f x ≡ false) → places_where f ≡ []
where-none f h = go (places_where f) (λ x i. true≢false (sym (in-passes f x i) ∙ h x (in-where f x i)))
  where
    go : (xs : List ℕ) → ((x : ℕ) → In x xs → ⊥) → xs ≡ []
    go [] k = refl
    go (x ∷ xs) k = absurd (k x (inl refl))
