-- A text cut at the first byte of a kind, byte by byte.
use Rattle.std.proofs.Common.{◌≡◌, ℕ, suc, ◌+◌, ◌<◌, Bool, true, false, eqb, List, [], ◌∷◌, ◌++◌, length, take, drop, get_or, Option, Some, None}
use Rattle.std.proofs.Common.{refl, sym, ap, ◌∙◌}
use Rattle.std.proofs.Common.{add-one, append_assoc}
use Rattle.std.proofs.Math.Seq.{drop-cons, take-suc}
use Rattle.std.specs.Option.{option_map}
use Rattle.rv_asm.specs.Tokens.{cut_at, onto_prefix}

-- bytes before the front of a cut
abbrev pub behind_prefix : List ℕ → Option (List ℕ × List ℕ) → Option (List ℕ × List ℕ)
behind_prefix prefix o = option_map (λ p. (prefix ++ p.0, p.1)) o

-- a byte more
one_more : (prefix : List ℕ) (x : ℕ) (o : Option (List ℕ × List ℕ)) → behind_prefix prefix (option_map (onto_prefix x) o) ≡ behind_prefix (prefix ++ x ∷ []) o
one_more prefix x None = refl
one_more prefix x (Some p) = ap (λ f. Some (f, p.1)) (sym (append_assoc prefix (x ∷ []) p.0))

-- by the test of the byte
by_test : (t : Bool) (prefix bs : List ℕ) (x : ℕ) (o : Option (List ℕ × List ℕ)) → t ≡ false
    → behind_prefix prefix (elim t [ true ↦ Some ([], bs) | false ↦ option_map (onto_prefix x) o ]) ≡ behind_prefix (prefix ++ x ∷ []) o
by_test true prefix bs x o e = absurd cc
by_test false prefix bs x o e = one_more prefix x o

-- a byte that isn't of the kind goes to the front
pub passed : (c : ℕ) (bytes : List ℕ) (i : ℕ) (d : ℕ) → i < length bytes → eqb (get_or bytes i d) c ≡ false
    → behind_prefix (take i bytes) (cut_at c (drop i bytes)) ≡ cut_at c bytes
    → behind_prefix (take (i + 1) bytes) (cut_at c (drop (i + 1) bytes)) ≡ cut_at c bytes
passed c bytes i d lt fails h =
    let rest = drop (suc i) bytes in
    let x = get_or bytes i d in
    let here : behind_prefix (take i bytes) (cut_at c (x ∷ rest)) ≡ cut_at c bytes = rw (← drop-cons bytes i d lt) h in
    rw (add-one i, take-suc bytes i d lt) (sym (by_test (eqb x c) (take i bytes) rest x (cut_at c rest) fails) ∙ here)

-- a byte of the kind cuts
cut_here : (t : Bool) (prefix bs : List ℕ) (x : ℕ) (o : Option (List ℕ × List ℕ)) → t ≡ true
    → behind_prefix prefix (elim t [ true ↦ Some ([], bs) | false ↦ option_map (onto_prefix x) o ]) ≡ Some (prefix ++ [], bs)
cut_here true prefix bs x o e = refl
cut_here false prefix bs x o e = absurd cc

-- nothing behind
with_nothing : (xs : List ℕ) → xs ++ [] ≡ xs
with_nothing [] = refl
with_nothing (x ∷ xs) = ap (λ ys. x ∷ ys) (with_nothing xs)

-- at its place
pub found_at : (c : ℕ) (bytes : List ℕ) (i : ℕ) (d : ℕ) → i < length bytes → eqb (get_or bytes i d) c ≡ true
    → behind_prefix (take i bytes) (cut_at c (drop i bytes)) ≡ cut_at c bytes
    → Some (take i bytes, drop (i + 1) bytes) ≡ cut_at c bytes
found_at c bytes i d lt holds h =
    let rest = drop (suc i) bytes in
    let x = get_or bytes i d in
    let here : behind_prefix (take i bytes) (cut_at c (x ∷ rest)) ≡ cut_at c bytes = rw (← drop-cons bytes i d lt) h in
    rw (add-one i) (ap (λ f. Some (f, rest)) (sym (with_nothing (take i bytes)))
    ∙ sym (cut_here (eqb x c) (take i bytes) rest x (cut_at c rest) holds) ∙ here)
