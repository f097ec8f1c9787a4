-- A list without the element at a place, by both words for it.
use Rattle.std.proofs.Common.{◌≡◌, ℕ, zero, suc, List, [], ◌∷◌, Option, Some, None, refl, ap, ◌∙◌}
use Rattle.std.specs.Prelude.{OnSome}
use Rattle.std.specs.List.{remove}
use Rattle.tam_word.specs.Lists.{without_place}

-- taking out an element leaves those before it and those behind it
pub remove-is : {X : Type 0} (xs : List X) (n : ℕ) → remove xs n ≡ without_place n xs
remove-is [] zero = refl
remove-is [] (suc n) = refl
remove-is (x ∷ xs) zero = refl
remove-is {X} (x ∷ xs) (suc n) = ap (λ (ys : List X). x ∷ ys) (remove-is xs n)

-- what is left where an element was taken out
pub taken : {X : Type 0} (result : Option X) (x : X) (new old : List X) (n : ℕ) → result ≡ Some x → OnSome result (new ≡ remove old n)
    → new ≡ without_place n old
taken None x new old n e h = absurd cc
taken (Some y) x new old n e h = h ∙ remove-is old n
