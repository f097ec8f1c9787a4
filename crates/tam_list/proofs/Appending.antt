-- A text to which one piece after another is added.
use Rattle.std.proofs.Common.{◌≡◌, ℕ, suc, ◌+◌, ◌<◌, List, [], ◌∷◌, ◌++◌, flat_map, take, get_or, length, sym, ap, ◌∙◌, arith}
use Rattle.std.proofs.lemmas.List.{flat_map_more, take_more}
use Rattle.tam_word.specs.Lists.{below}

-- one element more of a list
pub more-taken : {X : Type 0} (f : X → List ℕ) (old : List ℕ) (xs : List X) (i : ℕ) (x : X) (t u : List ℕ) → i < length xs → x ≡ get_or xs i x
    → t ≡ old ++ flat_map f (take i xs) → u ≡ t ++ f x → u ≡ old ++ flat_map f (take (i + 1) xs)
more-taken f old xs i x t u l r before after =
    after
    ∙ (ap (λ s. s ++ f x) before
    ∙ (flat_map_more f old (take i xs) x ∙ ap (λ ys. old ++ flat_map f ys) (ap (λ y. take i xs ++ y ∷ []) r ∙ sym (take_more xs i x l))))

-- one number more
pub more-below : (f : ℕ → List ℕ) (old : List ℕ) (i : ℕ) (t u : List ℕ) → t ≡ old ++ flat_map f (below i) → u ≡ t ++ f i
    → u ≡ old ++ flat_map f (below (i + 1))
more-below f old i t u before after =
    let next : suc i ≡ i + 1 = omega arith in
    after ∙ (ap (λ s. s ++ f i) before ∙ (flat_map_more f old (below i) i ∙ ap (λ n. old ++ flat_map f (below n)) next))
