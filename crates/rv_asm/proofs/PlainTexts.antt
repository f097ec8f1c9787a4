-- Texts of digits and minus signs, as numbers are printed: no byte of them is a comma, a bracket or a letter.
use Rattle.std.proofs.Common.{◌≡◌, ℕ, ◌-◌, ◌^◌, ◌≤◌, ◌<◌, Bool, true, false, cond, eqb, ltb, leb, List, [], ◌∷◌, ◌++◌, length, Some}
use Rattle.std.proofs.Common.{refl, ap, ◌∙◌, arith, tests}
use Rattle.std.specs.Prelude.{⊤}
use Rattle.std.specs.Fmt.{decimal}
use Rattle.std.specs.Option.{option_map}
use Rattle.std.specs.Str.Parse.{AllDigits}
use Rattle.std.proofs.lemmas.Bool.{ne_eqb, not_from_false, and_from, and_left, or_from}
use Rattle.std.proofs.lemmas.Fmt.{decimal_is_IsNumeral}
use Rattle.std.proofs.lemmas.Str.Parse.{digit_from_value}
use Rattle.tam_word.specs.Lists.{any_of}
use Rattle.tam_word.specs.Words.{signed_text}
use Rattle.tam_word.proofs.Tests.{self-eq}
use Rattle.tam_text.specs.Lines.{is_some_of}
use Rattle.tam_text.specs.Names.{is_letter, is_name}
use Rattle.rv_asm.specs.Tokens.{cut_at, onto_prefix}
use Rattle.rv_asm.specs.Statements.{is_sign, is_text}
use Rattle.rv_asm.proofs.Rows.{way_true, way_false}

-- a byte from `-` to `9`
abbrev pub IsPlainByte : ℕ → Type 0
IsPlainByte b = (45 ≤ b) × (b ≤ 57)

-- a text of such bytes
abbrev pub IsPlain : List ℕ → Type 0
IsPlain [] = ⊤
IsPlain (b ∷ bs) = IsPlainByte b × IsPlain bs

-- digits are such bytes
plain-digits : (ds : List ℕ) → AllDigits 10 ds → IsPlain ds
plain-digits [] h = tt
plain-digits (d ∷ ds) h = let r = digit_from_value d h.0 in ((omega (arith, r.0), omega (arith, r.1)), plain-digits ds h.1)

-- so is a decimal
pub plain-decimal : (n : ℕ) → n < 2 ^ 64 → IsPlain (decimal n)
plain-decimal n lt = plain-digits (decimal n) (decimal_is_IsNumeral n lt).0.1

-- by the sign of the word
plain_by_sign : (t : Bool) (w : ℕ) → ltb w (2 ^ 31) ≡ t → w < 2 ^ 32 → IsPlain (cond t (decimal w) (45 ∷ decimal (2 ^ 32 - w)))
plain_by_sign true w e lt = plain-decimal w (omega arith)
plain_by_sign false w e lt = ((omega arith, omega arith), plain-decimal (2 ^ 32 - w) (omega arith))

-- and a signed decimal
pub plain-signed_text : (w : ℕ) → w < 2 ^ 32 → IsPlain (signed_text w)
plain-signed_text w lt = plain_by_sign (ltb w (2 ^ 31)) w refl lt

-- ---- it isn't empty

-- a list of some length isn't
some-length : {X : Type 0} (xs : List X) → 0 < length xs → is_some_of xs ≡ true
some-length [] h = absurd (omega arith)
some-length (x ∷ xs) h = refl

-- a decimal
pub some-decimal : (n : ℕ) → n < 2 ^ 64 → is_some_of (decimal n) ≡ true
some-decimal n lt = some-length (decimal n) (decimal_is_IsNumeral n lt).0.0

-- by the sign of the word
some_by_sign : (t : Bool) (w : ℕ) → w < 2 ^ 32 → is_some_of (cond t (decimal w) (45 ∷ decimal (2 ^ 32 - w))) ≡ true
some_by_sign true w lt = some-decimal w (omega arith)
some_by_sign false w lt = refl

-- a signed decimal
pub some-signed_text : (w : ℕ) → w < 2 ^ 32 → is_some_of (signed_text w) ≡ true
some-signed_text w lt = some_by_sign (ltb w (2 ^ 31)) w lt

-- ---- it stands for a number

-- no such byte is a comma or a bracket
no_sign : (b : ℕ) → IsPlainByte b → is_sign b ≡ false
no_sign b h = or_from _ _ (ne_eqb b 44 (λ e. omega (arith, h.0))) (or_from _ _ (ne_eqb b 40 (λ e. omega (arith, h.0))) (ne_eqb b 41 (λ e. omega (arith, h.0))))

-- so none of the text is
no_signs : (bs : List ℕ) → IsPlain bs → any_of is_sign bs ≡ false
no_signs [] h = refl
no_signs (b ∷ bs) h = way_false (is_sign b) true (any_of is_sign bs) (no_sign b h.0) ∙ no_signs bs h.1

-- the text stands for a number or a target
pub plain-is_text : (bs : List ℕ) → is_some_of bs ≡ true → IsPlain bs → is_text bs ≡ true
plain-is_text bs s h = and_from _ _ s (not_from_false _ (no_signs bs h))

-- no such byte is a letter
no_letter : (b : ℕ) → IsPlainByte b → is_letter b ≡ false
no_letter b h =
    let low : b ≤ 57 = h.1 in
    let capital : leb 65 b ≡ false = grind (arith, tests) in
    let small : leb 97 b ≡ false = grind (arith, tests) in
    or_from _ _ (and_left _ _ capital) (or_from _ _ (and_left _ _ small) (ne_eqb b 95 (λ e. omega arith)))

-- so the text is no name
pub plain-no_name : (bs : List ℕ) → IsPlain bs → is_name bs ≡ false
plain-no_name [] h = refl
plain-no_name (b ∷ bs) h = and_left _ _ (no_letter b h.0)

-- ---- it is cut at no byte of its own

-- a bracket behind the text cuts it off
pub cut-plain : (c : ℕ) (bs rest : List ℕ) → c < 45 → IsPlain bs → cut_at c (bs ++ c ∷ rest) ≡ Some (bs, rest)
cut-plain c [] rest l h = way_true (eqb c c) (Some ([], rest)) (option_map (onto_prefix c) (cut_at c rest)) (self-eq c)
cut-plain c (b ∷ bs) rest l h =
    let low : 45 ≤ b = h.0.0 in
    way_false (eqb b c) (Some ([], bs ++ c ∷ rest)) (option_map (onto_prefix b) (cut_at c (bs ++ c ∷ rest))) (ne_eqb b c (λ e. omega (arith, e)))
    ∙ ap (option_map (onto_prefix b)) (cut-plain c bs rest l h.1)
