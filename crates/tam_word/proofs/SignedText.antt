-- The signed decimal of a word spells the word.
use Rattle.std.proofs.Common.{◌≡◌, ℕ, ◌-◌, ◌%◌, ◌^◌, ◌<◌, ◌≤◌, Bool, true, false, cond, eqb}
use Rattle.std.proofs.Common.{ltb, ◌&&◌, List, [], ◌∷◌, length, Option, Some, refl, ap, subst, ◌∙◌, arith}
use Rattle.std.specs.Fmt.{decimal}
use Rattle.std.proofs.lemmas.Bool.{eqb-true, ltb-false}
use Rattle.std.proofs.lemmas.Fmt.{decimal_nonempty}
use Rattle.tam_word.specs.Words.{signed_text}
use Rattle.tam_word.specs.Numbers.{are_digits, is_decimal, decimal_up_to, negative_of, word_of}
use Rattle.tam_word.proofs.Spelled.{is_decimal-decimal, decimal_up_to-again}

-- a first byte that isn't 0, and what is known of all
after_first : (t u : Bool) → (elim t [ true ↦ false | false ↦ u ]) ≡ true → (t ≡ false) × (u ≡ true)
after_first true u e = absurd cc
after_first false u e = (refl, e)

-- a digit is no sign
no_sign : (t : Bool) (b : ℕ) (bs : List ℕ) → eqb b 45 ≡ t → are_digits 10 (b ∷ bs) ≡ true → t ≡ false
no_sign false b bs e d = refl
no_sign true b bs e d = absurd (let f : false ≡ true = subst (λ (x : ℕ). are_digits 10 (x ∷ bs) ≡ true) (eqb-true b 45 e) d in cc)

-- neither a sign nor `0x`
choose : (t u : Bool) (x y z : Option ℕ) → t ≡ false → u ≡ false → (elim t [ true ↦ x | false ↦ elim u [ true ↦ y | false ↦ z ] ]) ≡ z
choose true u x y z e f = absurd cc
choose false true x y z e f = absurd cc
choose false false x y z e f = refl

-- where the first fails, both do
not_both : (t u : Bool) → t ≡ false → (t && u) ≡ false
not_both true u e = absurd cc
not_both false u e = refl

-- digits without a sign read as a number
plain_word : (bs : List ℕ) → is_decimal bs ≡ true → word_of bs ≡ decimal_up_to (2 ^ 32 - 1) bs
plain_word [] e = absurd cc
plain_word (b ∷ []) e = refl
plain_word (b ∷ c ∷ bs) e =
    let p = after_first (eqb b 48) (are_digits 10 (b ∷ c ∷ bs)) e in
    choose (eqb b 45) (eqb b 48 && eqb c 120) _ _ _ (no_sign (eqb b 45) b (c ∷ bs) refl p.1) (not_both (eqb b 48) (eqb c 120) p.0)

-- and behind a sign as a negative one
minus_word : (bs : List ℕ) → 0 < length bs → word_of (45 ∷ bs) ≡ negative_of (decimal_up_to (2 ^ 31) bs)
minus_word [] h = absurd (omega arith)
minus_word (b ∷ bs) h = refl

-- by the sign of the word
by_sign : (t : Bool) (w : ℕ) → ltb w (2 ^ 31) ≡ t → w < 2 ^ 32 → word_of (cond t (decimal w) (45 ∷ decimal (2 ^ 32 - w))) ≡ Some w
by_sign true w e lt = plain_word (decimal w) (is_decimal-decimal w (omega arith)) ∙ decimal_up_to-again (2 ^ 32 - 1) w (omega arith) (omega arith)
by_sign false w e lt =
    let big : 2 ^ 31 ≤ w = ltb-false w (2 ^ 31) e in
    let size = 2 ^ 32 - w in
    let back : (2 ^ 32 - size) % 2 ^ 32 ≡ w = omega arith in
    minus_word (decimal size) (decimal_nonempty size (omega arith))
    ∙ ap negative_of (decimal_up_to-again (2 ^ 31) size (omega arith) (omega arith)) ∙ ap Some back

-- so the canonical text reads as the word
pub word_of-signed_text : (w : ℕ) → w < 2 ^ 32 → word_of (signed_text w) ≡ Some w
word_of-signed_text w lt = by_sign (ltb w (2 ^ 31)) w refl lt
