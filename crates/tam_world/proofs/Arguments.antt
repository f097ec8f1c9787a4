-- The messages of the arguments, one after another.
use Rattle.std.proofs.Common.{◌≡◌, ◌∙◌, ℕ, zero, suc, ◌<◌, List, [], ◌∷◌, ◌++◌, length, take, get_or, refl, ap, arith, length-append}
use Rattle.std.specs.Prelude.{zip, flat_map}
use Rattle.std.proofs.Math.Seq.{take-suc}
use Rattle.std.proofs.lemmas.Grind.{flat_map-append}
use Rattle.std.proofs.lemmas.List.{append-nil, length-take}
use Rattle.tam_word.specs.Lists.{below}
use Rattle.tam_graph.specs.Graphs.{Graph}
use Rattle.tam_world.specs.Worlds.{argument_message}

-- a pair more behind two lists that are equally long
zip-append : (xs ys : List ℕ) (x y : ℕ) → length xs ≡ length ys → zip (xs ++ x ∷ []) (ys ++ y ∷ []) ≡ zip xs ys ++ (x, y) ∷ []
zip-append [] [] x y same = refl
zip-append [] (b ∷ ys) x y same = absurd (omega arith)
zip-append (a ∷ xs) [] x y same = absurd (omega arith)
zip-append (a ∷ xs) (b ∷ ys) x y same = ap (λ l. (a, b) ∷ l) (zip-append xs ys x y (omega arith))

-- there are n numbers below n
length-below : (n : ℕ) → length (below n) ≡ n
length-below zero = refl
length-below (suc n) = omega (arith, length-append (below n) (n ∷ []), length-below n)

-- an argument more
pub arguments-next : (g : Graph) (args : List ℕ) (k : ℕ) → k < length args
    → flat_map (argument_message g) (zip (below (suc k)) (take (suc k) args))
    ≡ flat_map (argument_message g) (zip (below k) (take k args)) ++ argument_message g (k, get_or args k 0)
arguments-next g args k inside =
    let same : length (below k) ≡ length (take k args) = omega (arith, length-below k, length-take k args) in
    let pairs : zip (below (suc k)) (take (suc k) args) ≡ zip (below k) (take k args) ++ (k, get_or args k 0) ∷ [] =
    ap (zip (below (suc k))) (take-suc args k 0 inside) ∙ zip-append (below k) (take k args) k (get_or args k 0) same in
    ap (flat_map (argument_message g)) pairs
    ∙ flat_map-append (argument_message g) (zip (below k) (take k args)) ((k, get_or args k 0) ∷ [])
    ∙ ap (λ l. flat_map (argument_message g) (zip (below k) (take k args)) ++ l) (append-nil (argument_message g (k, get_or args k 0)))
