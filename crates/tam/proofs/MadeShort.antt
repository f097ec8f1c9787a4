-- The text of a large input is short enough to be read.
use Rattle.std.proofs.Common.{◌≡◌, ◌∙◌, ℕ, zero, suc, ◌+◌, ◌*◌, ◌<◌, ◌≤◌, Bool, true, false, List, [], ◌∷◌, ◌++◌, length, flat_map, refl, ap, arith}
use Rattle.std.proofs.Common.{length-append}
use Rattle.std.specs.Prelude.{codes, decimal, if◌then◌else◌, nat_lt}
use Rattle.std.proofs.lemmas.Fmt.{length-decimal-le}
use Rattle.std.proofs.lemmas.Grind.{flat_map-append}
use Rattle.std.proofs.lemmas.List.{append-nil}
use Rattle.tam_word.specs.Lists.{below}
use Rattle.tam_make.specs.declared.shape.Shape.{Shape}
use Rattle.tam_make.specs.declared.shape.Shape.TheVariants.{Ladder, Wave}
use Rattle.tam_make.specs.MadeTexts.{IsCount, made_text, ladder_main, wave_text, step_text, rung_text, call_text, end_text}

-- two texts, one behind the other
both : (xs ys : List ℕ) (a b : ℕ) → length xs ≤ a → length ys ≤ b → length (xs ++ ys) ≤ a + b
both xs ys a b h k = let e = length-append xs ys in omega (arith, e, h, k)

-- a text of so many bytes, and another behind it
then-text : (xs ys : List ℕ) (a b : ℕ) → length xs ≡ a → length ys ≤ b → length (xs ++ ys) ≤ a + b
then-text xs ys a b h k = both xs ys a b (omega (arith, h)) k

-- a small number's digits
digits-few : (n : ℕ) → n < 1000 → length (decimal n) ≤ 3
digits-few n l = length-decimal-le 3 n (omega arith) l (omega (arith, l))

-- texts of the numbers below n, each of m bytes at most
all-short : (f : ℕ → List ℕ) (m n : ℕ) → ((i : ℕ) → i < n → length (f i) ≤ m) → length (flat_map f (below n)) ≤ n * m
all-short f m zero h = omega arith
all-short f m (suc n) h =
    let prefix = all-short f m n (λ i l. h i (omega (arith, l))) in
    let last = h n (omega arith) in
    let joined = flat_map-append f (below n) (n ∷ []) ∙ ap (λ l. flat_map f (below n) ++ l) (append-nil (f n)) in
    let len = ap length joined ∙ length-append (flat_map f (below n)) (f n) in
    let times : suc n * m ≡ n * m + m = grind arith in
    omega (arith, prefix, last, len, times)

-- a line that adds once more
rung-short : (i : ℕ) → i < 99 → length (rung_text i) ≤ 18
rung-short i l =
    then-text (codes "a") (decimal (i + 2) ++ (codes " = add a" ++ (decimal (i + 1) ++ codes " k\n"))) 1 17 refl
    (both (decimal (i + 2)) (codes " = add a" ++ (decimal (i + 1) ++ codes " k\n")) 3 14 (digits-few (i + 2) (omega (arith, l)))
    (then-text (codes " = add a") (decimal (i + 1) ++ codes " k\n") 8 6 refl
    (both (decimal (i + 1)) (codes " k\n") 3 3 (digits-few (i + 1) (omega (arith, l))) (let e : length (codes " k\n") ≡ 3 = refl in omega (arith, e)))))

-- how a code ends
end-short : (n k : ℕ) → k < 999 → length (end_text n k) ≤ 63
end-short n k l = go (nat_lt k n)
  where
    go : (t : Bool) → length (if t then call_text (k + 1) else codes "result 0 a100\nend\n") ≤ 63
    go false = let e : length (codes "result 0 a100\nend\n") ≡ 18 = refl in omega (arith, e)
    go true =
        then-text (codes "f = call s") (decimal (k + 1) ++ codes "\narg f 0 a100\nr = ret f 0\nresult 0 r\nend\n") 10 53 refl
        (both (decimal (k + 1)) (codes "\narg f 0 a100\nr = ret f 0\nresult 0 r\nend\n") 3 50 (digits-few (k + 1) (omega (arith, l)))
        (let e : length (codes "\narg f 0 a100\nr = ret f 0\nresult 0 r\nend\n") ≡ 41 = refl in omega (arith, e)))

-- a code of the ladder
step-short : (n k : ℕ) → k < 999 → length (step_text n k) ≤ 1894
step-short n k l =
    let rungs = all-short rung_text 18 99 rung-short in
    let own = digits-few k (omega (arith, l)) in
    let ends = both (flat_map rung_text (below 99)) (end_text n k) 1782 63 rungs (end-short n k l) in
    let adds = then-text (codes "\na1 = add x k\n") (flat_map rung_text (below 99) ++ end_text n k) 14 1845 refl ends in
    let number = both (decimal k) (codes "\na1 = add x k\n" ++ (flat_map rung_text (below 99) ++ end_text n k)) 3 1859 own adds in
    let inlet = then-text (codes "\nx = param 0\nk = const ") (decimal k ++
    (codes "\na1 = add x k\n" ++ (flat_map rung_text (below 99) ++ end_text n k))) 23 1862 refl number in
    let name = both (decimal k) (codes "\nx = param 0\nk = const " ++ (decimal k ++
    (codes "\na1 = add x k\n" ++ (flat_map rung_text (below 99) ++ end_text n k)))) 3 1885
    own inlet in
    then-text (codes "code s")
    (decimal k ++ (codes "\nx = param 0\nk = const " ++ (decimal k ++ (codes "\na1 = add x k\n" ++ (flat_map rung_text (below 99) ++ end_text n k)))))
    6 1888 refl name

-- the text of a large input
pub made-short : (shape : Shape) (n : ℕ) → IsCount shape n → length (made_text shape n) ≤ 1048576
made-short Ladder n (some, few) =
    let steps = all-short (λ i. step_text n (i + 1)) 1894 n (λ i l. step-short n (i + 1) (omega (arith, l, few))) in
    let codes-short = then-text ladder_main (flat_map (λ i. step_text n (i + 1)) (below n)) 71 (n * 1894) refl steps in
    let whole = then-text (codes "dg 1\n") (ladder_main ++ flat_map (λ i. step_text n (i + 1)) (below n)) 5 (71 + n * 1894) refl codes-short in
    omega (arith, whole, few)
made-short Wave n count = let e : length wave_text ≡ 1258 = refl in omega (arith, e)
