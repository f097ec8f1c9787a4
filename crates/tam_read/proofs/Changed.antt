-- A list with one element changed.
use Rattle.std.proofs.Common.{◌≡◌, ℕ, zero, suc, ◌<◌, ◌≤◌, List, [], ◌∷◌, length, get_or, refl, ap, arith}
use Rattle.std.proofs.Math.ListN.{set}
use Rattle.tam_word.specs.Lists.{changed_at}

-- an element written at its place is changed there
pub set-changed : {X : Type 0} (xs : List X) (n : ℕ) (f : X → X) (x : X) → n < length xs → x ≡ get_or xs n x → set xs n (f x) ≡ changed_at n f xs
set-changed [] n f x l e = absurd (omega arith)
set-changed (y ∷ ys) zero f x l e = ap (λ z. f z ∷ ys) e
set-changed (y ∷ ys) (suc n) f x l e = ap (λ l. y ∷ l) (set-changed ys n f x (omega arith) e)
