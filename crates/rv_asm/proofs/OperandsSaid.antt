-- What printed operands say: registers, numbers, signed numbers and addresses.
use Rattle.std.proofs.Common.{◌≡◌, ℕ, ◌-◌, ◌%◌, ◌^◌, ◌≤◌, ◌<◌, Bool, true, false, cond, eqb, ltb, leb, ◌&&◌, ◌||◌, ◌⊎◌, inl, inr, List, [], ◌∷◌, ◌++◌}
use Rattle.std.proofs.Common.{Option, Some, None, Result, Ok, Err, refl, ap, ◌∙◌, arith, append_assoc}
use Rattle.std.specs.Prelude.{codes}
use Rattle.std.specs.Fmt.{decimal}
use Rattle.std.specs.Option.{ok_or, option_map}
use Rattle.std.specs.Str.Parse.{AllDigits}
use Rattle.std.proofs.lemmas.Bool.{ne_eqb, lt-ltb, le-leb, eq-eqb, and_from, and_right, or_left, or_right}
use Rattle.std.proofs.lemmas.Fmt.{decimal_is_IsNumeral}
use Rattle.std.proofs.lemmas.Str.Parse.{digit_from_value}
use Rattle.tam_word.specs.Words.{signed_text}
use Rattle.tam_word.specs.Numbers.{word_of, decimal_up_to, some_if}
use Rattle.tam_word.proofs.Spelled.{decimal_up_to-again}
use Rattle.tam_word.proofs.SignedText.{word_of-signed_text}
use Rattle.rv_inst.specs.Fields.{IsSigned}
use Rattle.rv_asm.specs.declared.asm_error.AsmCause.{AsmCause}
use Rattle.rv_asm.specs.declared.asm_error.AsmCause.TheVariants.{BadLine, BadNumber}
use Rattle.rv_asm.specs.AsmText.{register}
use Rattle.rv_asm.specs.Tokens.{cut_at, onto_prefix}
use Rattle.rv_asm.specs.Statements.{then_read, where_word, is_negative, signed_of, is_signed, is_offset, immediate_of, number_below, register_of}
use Rattle.rv_asm.specs.Statements.{is_text, number_of, before_last, address_by, address_of}
use Rattle.rv_asm.proofs.Rows.{way_true}
use Rattle.rv_asm.proofs.PlainTexts.{plain-decimal, plain-signed_text, some-decimal, some-signed_text, plain-is_text, cut-plain}

-- ---- registers

-- a printed register is that register
pub register_said : (r : ℕ) → r < 32 → register_of (register r) ≡ Ok r
register_said r lt = ap (λ (o : Option ℕ). ok_or o BadLine) (decimal_up_to-again 31 r (omega arith) (omega arith))

-- ---- words

-- where a word passes, it is told
pub word_told : (test : ℕ → Bool) (o : Option ℕ) (w : ℕ) → o ≡ Some w → test w ≡ true → where_word test o ≡ Some w
word_told test o w e p = ap (where_word test) e ∙ ap (λ (t : Bool). some_if t w) p

-- neither a sign nor `0x`
plainly : (t u : Bool) (x y z : Option ℕ) → t ≡ false → u ≡ false → (elim t [ true ↦ x | false ↦ elim u [ true ↦ y | false ↦ z ] ]) ≡ z
plainly true u x y z e f = absurd cc
plainly false true x y z e f = absurd cc
plainly false false x y z e f = refl

-- digits read as a number without a sign
word_of-digits : (ds : List ℕ) → AllDigits 10 ds → word_of ds ≡ decimal_up_to (2 ^ 32 - 1) ds
word_of-digits [] h = refl
word_of-digits (b ∷ []) h = refl
word_of-digits (b ∷ c ∷ bs) h =
    let low : 48 ≤ b = (digit_from_value b h.0).0 in
    let high : c ≤ 57 = (digit_from_value c h.1.0).1 in
    let signless = ne_eqb b 45 (λ e. omega (arith, e)) in
    let no_letter = ne_eqb c 120 (λ e. omega (arith, e)) in
    plainly (eqb b 45) (eqb b 48 && eqb c 120) _ _ _ signless (and_right (eqb b 48) (eqb c 120) no_letter)

-- the decimal of a word is that word
pub word_of-decimal : (w : ℕ) → w < 2 ^ 32 → word_of (decimal w) ≡ Some w
word_of-decimal w lt =
    word_of-digits (decimal w) (decimal_is_IsNumeral w (omega arith)).0.1 ∙ decimal_up_to-again (2 ^ 32 - 1) w (omega arith) (omega arith)

-- and one below a limit is below it
pub number_below-decimal : (limit n : ℕ) → n < limit → n < 2 ^ 32 → number_below limit (decimal n) ≡ Some n
number_below-decimal limit n lt fits = word_told (λ w. ltb w limit) (word_of (decimal n)) n (word_of-decimal n fits) (lt-ltb n limit lt)

-- ---- signed words

-- a negative word has a minus sign
signed_by_sign : (t : Bool) (w : ℕ) → (is_negative (cond t (decimal w) (45 ∷ decimal (2 ^ 32 - w))) || t) ≡ true
signed_by_sign true w = or_right _ true refl
signed_by_sign false w = refl

-- the signed decimal of a word is that word
pub signed_of-signed_text : (w : ℕ) → w < 2 ^ 32 → signed_of (signed_text w) ≡ Some w
signed_of-signed_text w lt =
    word_told (λ v. is_negative (signed_text w) || ltb v (2 ^ 31)) (word_of (signed_text w)) w (word_of-signed_text w lt) (signed_by_sign (ltb w (2 ^ 31)) w)

-- a word on either side of the words that aren't in range
either_side : (half w : ℕ) → (w < half) ⊎ ((2 ^ 32 - half ≤ w) × (w < 2 ^ 32)) → (ltb w half || leb (2 ^ 32 - half) w) ≡ true
either_side half w (inl l) = or_left _ _ (lt-ltb w half l)
either_side half w (inr r) = or_right (ltb w half) _ (le-leb (2 ^ 32 - half) w r.0)

-- a signed word passes
pub signed_passes : (n w : ℕ) → IsSigned n w → is_signed n w ≡ true
signed_passes n w h = either_side (2 ^ (n - 1)) w h

-- an even one too
pub offset_passes : (n w : ℕ) → IsSigned n w → w % 2 ≡ 0 → is_offset n w ≡ true
offset_passes n w h even = and_from _ _ (signed_passes n w h) (eq-eqb (w % 2) 0 even)

-- where the halves fit, so does the word
half_fits : (half w : ℕ) → half ≤ 2 ^ 31 → (w < half) ⊎ ((2 ^ 32 - half ≤ w) × (w < 2 ^ 32)) → w < 2 ^ 32
half_fits half w le (inl l) = omega arith
half_fits half w le (inr r) = r.1

-- an immediate is a word
pub immediate_fits : (w : ℕ) → IsSigned 12 w → w < 2 ^ 32
immediate_fits w h = half_fits (2 ^ 11) w (omega arith) h

-- the offset of a branch
pub branch_fits : (w : ℕ) → IsSigned 13 w → w < 2 ^ 32
branch_fits w h = half_fits (2 ^ 12) w (omega arith) h

-- and that of a jump
pub jump_fits : (w : ℕ) → IsSigned 21 w → w < 2 ^ 32
jump_fits w h = half_fits (2 ^ 20) w (omega arith) h

-- the signed decimal of an immediate is that immediate
pub immediate_of-signed_text : (w : ℕ) → IsSigned 12 w → immediate_of (signed_text w) ≡ Some w
immediate_of-signed_text w h =
    word_told (is_signed 12) (signed_of (signed_text w)) w (signed_of-signed_text w (immediate_fits w h)) (signed_passes 12 w h)

-- ---- the texts of numbers

-- a text that stands for a number is what is read
text_said : (read : List ℕ → Option ℕ) (t : List ℕ) (n : ℕ) → is_text t ≡ true → read t ≡ Some n → number_of read t ≡ Ok n
text_said read t n e f =
    way_true (is_text t) (ok_or (read t) BadNumber) (Err BadLine) e ∙ ap (λ (o : Option ℕ). ok_or o BadNumber) f

-- a printed number is that number
pub number_said : (read : List ℕ → Option ℕ) (n : ℕ) → n < 2 ^ 32 → read (decimal n) ≡ Some n → number_of read (decimal n) ≡ Ok n
number_said read n lt e =
    text_said read (decimal n) n (plain-is_text (decimal n) (some-decimal n (omega arith)) (plain-decimal n (omega arith))) e

-- a printed signed word stands for a number
pub signed_is_text : (w : ℕ) → w < 2 ^ 32 → is_text (signed_text w) ≡ true
signed_is_text w lt = plain-is_text (signed_text w) (some-signed_text w lt) (plain-signed_text w lt)

-- a printed immediate is that immediate
pub immediate_said : (w : ℕ) → IsSigned 12 w → number_of immediate_of (signed_text w) ≡ Ok w
immediate_said w h = text_said immediate_of (signed_text w) w (signed_is_text w (immediate_fits w h)) (immediate_of-signed_text w h)

-- ---- addresses

-- the digits before a bracket that ends
ended : (bs : List ℕ) (o : Option (List ℕ × List ℕ)) → o ≡ Some (bs, [])
    → (elim o [ None ↦ None | Some p ↦ elim p.1 [ [] ↦ Some p.0 | b ∷ cs ↦ None ] ]) ≡ Some bs
ended bs o e = ap (λ (q : Option (List ℕ × List ℕ)). elim q [ None ↦ None | Some p ↦ elim p.1 [ [] ↦ Some p.0 | b ∷ cs ↦ None ] ]) e

-- the register of an address
register_before : (r : ℕ) → r < 32 → before_last 41 (register r ++ codes ")") ≡ Some (register r)
register_before r lt =
    ended (register r) (cut_at 41 (register r ++ codes ")"))
    (ap (option_map (onto_prefix 120)) (cut-plain 41 (decimal r) [] (omega arith) (plain-decimal r (omega arith))))

-- by the cut at the opening bracket
by_cut : (o : Option (List ℕ × List ℕ)) (number rest : List ℕ) → o ≡ Some (number, rest)
    → (elim o [ None ↦ Err BadLine | Some p ↦ address_by p.0 (before_last 41 p.1) ]) ≡ address_by number (before_last 41 rest)
by_cut o number rest e = ap (λ (q : Option (List ℕ × List ℕ)). elim q [ None ↦ Err BadLine | Some p ↦ address_by p.0 (before_last 41 p.1) ]) e

-- by its register and its immediate
by_parts : (number register : List ℕ) (w r : ℕ) → register_of register ≡ Ok r → number_of immediate_of number ≡ Ok w
    → address_by number (Some register) ≡ Ok (w, r)
by_parts number register w r e f =
    ap (λ (q : Result ℕ AsmCause). then_read q (λ s. then_read (number_of immediate_of number) (λ i. Ok (i, s)))) e
    ∙ ap (λ (q : Result ℕ AsmCause). then_read q (λ i. Ok (i, r))) f

-- the immediate and the register of a printed address are those
pub address_said : (w r : ℕ) → IsSigned 12 w → r < 32 → address_of (signed_text w ++ codes "(" ++ register r ++ codes ")") ≡ Ok (w, r)
address_said w r h lt =
    let number = signed_text w in
    let rest = register r ++ codes ")" in
    ap address_of (append_assoc (number ++ codes "(") (register r) (codes ")") ∙ append_assoc number (codes "(") rest)
    ∙ by_cut (cut_at 40 (number ++ 40 ∷ rest)) number rest (cut-plain 40 number rest (omega arith) (plain-signed_text w (immediate_fits w h)))
    ∙ ap (address_by number) (register_before r lt) ∙ by_parts number (register r) w r (register_said r lt) (immediate_said w h)
