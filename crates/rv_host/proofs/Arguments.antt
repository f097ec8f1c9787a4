-- The messages of the arguments, one after another.
use Rattle.std.proofs.Common.{◌≡◌, ◌∙◌, ℕ, zero, suc, ◌<◌, List, [], ◌∷◌, ◌++◌, length, map, take, get_or, refl, ap, arith, length-append}
use Rattle.std.specs.Prelude.{zip}
use Rattle.std.proofs.Math.Seq.{take-suc}
use Rattle.std.proofs.lemmas.List.{length-take, map-append}
use Rattle.tam_word.specs.Lists.{below}
use Rattle.tam_msgs.specs.declared.message.Message.{Message}
use Rattle.tam_msgs.specs.declared.message.Message.TheVariants.{Word as Carry}

-- a pair more behind two lists that are equally long
zip-append : (xs ys : List ℕ) (x y : ℕ) → length xs ≡ length ys → zip (xs ++ x ∷ []) (ys ++ y ∷ []) ≡ zip xs ys ++ (x, y) ∷ []
zip-append [] [] x y same = refl
zip-append [] (b ∷ ys) x y same = absurd (omega arith)
zip-append (a ∷ xs) [] x y same = absurd (omega arith)
zip-append (a ∷ xs) (b ∷ ys) x y same = ap (λ l. (a, b) ∷ l) (zip-append xs ys x y (omega arith))

-- there are n numbers below n
length-below : (n : ℕ) → length (below n) ≡ n
length-below zero = refl
length-below (suc n) = omega (arith, length-append (below n) (n ∷ []), length-below n)

-- the message of an argument
abbrev pub carried : ℕ × ℕ → Message
carried kw = Carry 0 kw.0 kw.1

-- an argument more
pub arguments-next : (args : List ℕ) (k : ℕ) → k < length args
    → map carried (zip (below (suc k)) (take (suc k) args)) ≡ map carried (zip (below k) (take k args)) ++ Carry 0 k (get_or args k 0) ∷ []
arguments-next args k inside =
    let same : length (below k) ≡ length (take k args) = omega (arith, length-below k, length-take k args) in
    let pairs : zip (below (suc k)) (take (suc k) args) ≡ zip (below k) (take k args) ++ (k, get_or args k 0) ∷ [] =
    ap (zip (below (suc k))) (take-suc args k 0 inside) ∙ zip-append (below k) (take k args) k (get_or args k 0) same in
    ap (map carried) pairs ∙ map-append carried (zip (below k) (take k args)) ((k, get_or args k 0) ∷ [])
