-- Words on lists that the definitions share; their tests stop at the first element that decides.
use Rattle.std.specs.Prelude.{ℕ, zero, suc, ◌+◌, Bool, true, false, ◌==◌, List, [], ◌∷◌, ◌++◌, nat_lt}

-- whether some element passes
abbrev pub any_of : {X : Type 0} → (X → Bool) → List X → Bool
any_of test [] = false
any_of test (x ∷ xs) = elim (test x) [ true ↦ true | false ↦ any_of test xs ]

-- whether each element passes
abbrev pub all_of : {X : Type 0} → (X → Bool) → List X → Bool
all_of test [] = true
all_of test (x ∷ xs) = elim (test x) [ true ↦ all_of test xs | false ↦ false ]

-- the first element that passes, as a list of at most one
abbrev pub first_of : {X : Type 0} → (X → Bool) → List X → List X
first_of test [] = []
first_of test (x ∷ xs) = elim (test x) [ true ↦ x ∷ [] | false ↦ first_of test xs ]

-- the numbers from 0 to n - 1
abbrev pub below : ℕ → List ℕ
below zero = []
below (suc n) = below n ++ n ∷ []

-- each element with its place, from n
abbrev pub placed_from : {X : Type 0} → ℕ → List X → List (ℕ × X)
placed_from n [] = []
placed_from n (x ∷ xs) = (n, x) ∷ placed_from (n + 1) xs

-- the lists have the same elements by a test, in the same order
abbrev pub same_list : {X : Type 0} → (X → X → Bool) → List X → List X → Bool
same_list same [] [] = true
same_list same (x ∷ xs) (y ∷ ys) = elim (same x y) [ true ↦ same_list same xs ys | false ↦ false ]
same_list same _ _ = false

-- the same bytes in the same order
abbrev pub same_bytes : List ℕ → List ℕ → Bool
same_bytes xs ys = same_list (λ a b. a == b) xs ys

-- a number stands in the list
abbrev pub has : List ℕ → ℕ → Bool
has xs n = any_of (λ x. x == n) xs

-- no element is the same as one behind it
abbrev pub all_differ : {X : Type 0} → (X → X → Bool) → List X → Bool
all_differ same [] = true
all_differ same (x ∷ xs) = elim (any_of (same x) xs) [ true ↦ false | false ↦ all_differ same xs ]

-- a rising list with n put into its place
abbrev pub insert_rising : ℕ → List ℕ → List ℕ
insert_rising n [] = n ∷ []
insert_rising n (x ∷ xs) = elim (nat_lt n x) [ true ↦ n ∷ x ∷ xs | false ↦ x ∷ insert_rising n xs ]

-- two rising lists as one
abbrev pub merge_rising : List ℕ → List ℕ → List ℕ
merge_rising [] ys = ys
merge_rising (x ∷ xs) ys = insert_rising x (merge_rising xs ys)

-- the list without the element at a place
abbrev pub without_place : {X : Type 0} → ℕ → List X → List X
without_place n [] = []
without_place zero (x ∷ xs) = xs
without_place (suc n) (x ∷ xs) = x ∷ without_place n xs

-- the list with the element at a place changed
abbrev pub changed_at : {X : Type 0} → ℕ → (X → X) → List X → List X
changed_at n f [] = []
changed_at zero f (x ∷ xs) = f x ∷ xs
changed_at (suc n) f (x ∷ xs) = x ∷ changed_at n f xs

-- the number isn't below n
abbrev pub beyond : ℕ → ℕ → Bool
beyond k n = elim (nat_lt k n) [ true ↦ false | false ↦ true ]

-- x where the test holds, as a list of at most one
abbrev pub where_so : {X : Type 0} → Bool → X → List X
where_so true x = x ∷ []
where_so false x = []

-- the list with an element put at a place; where it is shorter, the places before it get a blank
abbrev pub put_at : {X : Type 0} → X → ℕ → X → List X → List X
put_at blank zero x [] = x ∷ []
put_at blank zero x (y ∷ ys) = x ∷ ys
put_at blank (suc n) x [] = blank ∷ put_at blank n x []
put_at blank (suc n) x (y ∷ ys) = y ∷ put_at blank n x ys
