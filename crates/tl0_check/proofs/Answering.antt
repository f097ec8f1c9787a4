-- What holds where all went well, an error that is handed on, and the first element of a list that a loop takes apart.
use Rattle.std.proofs.Common.{◌≡◌, ◌≤◌, ◌-◌, suc, List, [], ◌∷◌, length, take, drop, get_or, sym, ap, ◌∙◌, arith, subst}
use Rattle.std.proofs.Math.Seq.{take-length}
use Rattle.std.specs.Prelude.{Result, Ok, Err, OnOk, IfErr}
use Rattle.std.specs.Result.{IsErrAnd}

-- what holds of an error holds where it is handed on
pub handed-on : {T E : Type 0} (P : E → Type 0) (r : Result T E) (e : E) → IsErrAnd r (λ f. f ≡ e) → P e → IfErr r P
handed-on P (Ok x) e same p = tt
handed-on P (Err f) e same p = subst P (sym same) p

-- what follows from what holds where all went well holds there too
pub ok-so : {T E P Q : Type 0} (r : Result T E) → (P → Q) → OnOk r P → OnOk r Q
ok-so (Ok x) f p = f p
ok-so (Err e) f p = tt

-- a list is its first element and the others
pub first-or : {X : Type 0} (xs : List X) (d : X) → 1 ≤ length xs → xs ≡ get_or xs 0 d ∷ take (length xs - 1) (drop 1 xs)
first-or [] d l = absurd (omega arith)
first-or (x ∷ xs) d l =
    let one_less : suc (length xs) - 1 ≡ length xs = omega arith in
    ap (λ ys. x ∷ ys) (sym (ap (λ n. take n xs) one_less ∙ take-length xs))

-- and so where the first is known
pub first-and-others : {X : Type 0} (xs : List X) (x : X) → 1 ≤ length xs → x ≡ get_or xs 0 x → xs ≡ x ∷ take (length xs - 1) (drop 1 xs)
first-and-others xs x l e = first-or xs x l ∙ ap (λ y. y ∷ take (length xs - 1) (drop 1 xs)) (sym e)
