-- The tokens of a line and its numbers: what is read is what is spelled, and what is printed is read.
use Rattle.std.proofs.Common.{◌≡◌, ℕ, ◌-◌, ◌%◌, ◌^◌, ◌≤◌, ◌<◌, Bool, true, false, cond, List, [], ◌∷◌, map, Option, Some, None, refl, sym, ap, ap₂, ◌∙◌, arith}
use Rattle.std.proofs.Common.{subst, ◌==◌, length}
use Rattle.std.specs.Prelude.{decimal, nat_lt, nat_le}
use Rattle.std.proofs.lemmas.Bool.{ltb-true, lt-ltb, ltb-false, leb-true, le-leb}
use Rattle.std.proofs.lemmas.Fmt.{decimal_is_IsNumeral, decimal_nonempty}
use Rattle.std.specs.Str.Parse.{AllDigits}
use Rattle.std.proofs.lemmas.Str.Parse.{digit_from_value}
use Rattle.tam_word.specs.Lists.{all_of}
use Rattle.tam_word.specs.Words.{signed_text}
use Rattle.tam_word.specs.Numbers.{decimal_up_to, negative_of, some_if}
use Rattle.tam_word.proofs.Spelled.{decimal_up_to-is, decimal_up_to-again}
use Rattle.tam_word.proofs.Tests.{number-eq, differs-number}
use Rattle.tl0_code.specs.declared.code_line.CodeLine.{CodeLine}
use Rattle.tl0_text.specs.declared.verb.Verb.TheVariants as verb
use Rattle.tl0_text.specs.declared.verb.Form.{Form}
use Rattle.tl0_text.specs.declared.verb.Form.TheVariants as form
use Rattle.tl0_text.specs.CodeSayings.{number_of, not_zero, printed_word, second_of, number_before, numbers_of, numbers_in, formed, line_said}
use Rattle.tl0_text.specs.Printing.{is_word}
use Rattle.tl0_text.proofs.Cutting.{all-parts, all-first}
use Rattle.tl0_text.proofs.Forms.{line_form, line_numbers, second_text, number_tokens, IsBehindHead, line-is}

-- ---- one number

-- a token that spells a number is its decimal
pub number-is : (t : List ℕ) (n : ℕ) → number_of t ≡ Some n → (t ≡ decimal n) × (is_word n ≡ true)
number-is t n e = let p = decimal_up_to-is (2 ^ 32 - 1) t n (omega arith) e in (p.0, lt-ltb n (2 ^ 32) (omega (arith, p.1)))

-- a decimal is read
pub number-again : (n : ℕ) → is_word n ≡ true → number_of (decimal n) ≡ Some n
number-again n h = let l : n < 2 ^ 32 = ltb-true n (2 ^ 32) h in decimal_up_to-again (2 ^ 32 - 1) n (omega arith) (omega arith)

-- a word at or above 2 to the power 31 is printed as a negative number
negative-text : (w : ℕ) → 2 ^ 31 ≤ w → signed_text w ≡ 45 ∷ decimal (2 ^ 32 - w)
negative-text w h = go (nat_lt w (2 ^ 31)) refl
  where
    go : (t : Bool) → nat_lt w (2 ^ 31) ≡ t → cond t (decimal w) (45 ∷ decimal (2 ^ 32 - w)) ≡ 45 ∷ decimal (2 ^ 32 - w)
    go true e = absurd (let l : w < 2 ^ 31 = ltb-true w (2 ^ 31) e in omega arith)
    go false e = refl

-- one below it as itself
positive-text : (w : ℕ) → w < 2 ^ 31 → signed_text w ≡ decimal w
positive-text w h = ap (λ (t : Bool). cond t (decimal w) (45 ∷ decimal (2 ^ 32 - w))) (lt-ltb w (2 ^ 31) h)

-- the number behind a sign
behind-sign : (o : Option ℕ) (w : ℕ) → negative_of (not_zero o) ≡ Some w → (m : ℕ) × (o ≡ Some m) × (1 ≤ m) × ((2 ^ 32 - m) % 2 ^ 32 ≡ w)
behind-sign None w e = absurd cc
behind-sign (Some m) w e = go (nat_le 1 m) refl e
  where
    go : (t : Bool) → nat_le 1 m ≡ t → negative_of (some_if t m) ≡ Some w → (k : ℕ) × (Some m ≡ Some k) × (1 ≤ k) × ((2 ^ 32 - k) % 2 ^ 32 ≡ w)
    go true p f = (m, refl, leb-true 1 m p, cc)
    go false p f = absurd cc

-- a word below 0, by the number behind its sign
below-zero : (m w : ℕ) → 1 ≤ m → m ≤ 2 ^ 31 → (2 ^ 32 - m) % 2 ^ 32 ≡ w → (2 ^ 31 ≤ w) × (w < 2 ^ 32) × (2 ^ 32 - w ≡ m)
below-zero m w low high e = (omega arith, omega arith, omega arith)

-- a token that spells a word is its signed decimal
pub printed-is : (t : List ℕ) (w : ℕ) → printed_word t ≡ Some w → (t ≡ signed_text w) × (is_word w ≡ true)
printed-is [] w e = absurd cc
printed-is (b ∷ bs) w e = go (b == 45) refl e
  where
    go : (t : Bool) → (b == 45) ≡ t
        → (elim t [ true ↦ negative_of (not_zero (decimal_up_to (2 ^ 31) bs)) | false ↦ decimal_up_to (2 ^ 31 - 1) (b ∷ bs) ]) ≡ Some w
        → (b ∷ bs ≡ signed_text w) × (is_word w ≡ true)
    go true p f =
        let s = behind-sign (decimal_up_to (2 ^ 31) bs) w f in
        let d = decimal_up_to-is (2 ^ 31) bs s.0 (omega arith) s.1 in
        let r = below-zero s.0 w s.2 d.1 s.3 in
        let first : b ∷ bs ≡ 45 ∷ decimal s.0 = ap₂ (λ (x : ℕ) xs. x ∷ xs) (number-eq b 45 p) d.0 in
        let same : 45 ∷ decimal s.0 ≡ 45 ∷ decimal (2 ^ 32 - w) = ap (λ (k : ℕ). 45 ∷ decimal k) (sym r.2) in
        (first ∙ same ∙ sym (negative-text w r.0), lt-ltb w (2 ^ 32) r.1)
    go false p f =
        let d = decimal_up_to-is (2 ^ 31 - 1) (b ∷ bs) w (omega arith) f in
        let l : w < 2 ^ 31 = omega (arith, d.1) in
        (d.0 ∙ sym (positive-text w l), lt-ltb w (2 ^ 32) (omega arith))

-- digits aren't a sign
no-sign : (bs : List ℕ) → AllDigits 10 bs → 0 < length bs → printed_word bs ≡ decimal_up_to (2 ^ 31 - 1) bs
no-sign [] h l = absurd (omega arith)
no-sign (b ∷ bs) h l =
    let r = digit_from_value b h.0 in
    let not : (b == 45) ≡ false = differs-number b 45 (λ e. omega (arith, r.0)) in
    ap (λ (t : Bool). elim t [ true ↦ negative_of (not_zero (decimal_up_to (2 ^ 31) bs)) | false ↦ decimal_up_to (2 ^ 31 - 1) (b ∷ bs) ]) not

-- a signed decimal is read
pub printed-again : (w : ℕ) → is_word w ≡ true → printed_word (signed_text w) ≡ Some w
printed-again w h = go (nat_lt w (2 ^ 31)) refl
  where
    small : w < 2 ^ 32
    small = ltb-true w (2 ^ 32) h

    go : (t : Bool) → nat_lt w (2 ^ 31) ≡ t → printed_word (cond t (decimal w) (45 ∷ decimal (2 ^ 32 - w))) ≡ Some w
    go true e =
        let l : w < 2 ^ 31 = ltb-true w (2 ^ 31) e in
        no-sign (decimal w) (decimal_is_IsNumeral w (omega arith)).0.1 (decimal_nonempty w (omega arith))
        ∙ decimal_up_to-again (2 ^ 31 - 1) w (omega arith) (omega arith)
    go false e =
        let l : 2 ^ 31 ≤ w = ltb-false w (2 ^ 31) e in
        let s = small in
        let m = 2 ^ 32 - w in
        let some : nat_le 1 m ≡ true = le-leb 1 m (omega arith) in
        let back : (2 ^ 32 - m) % 2 ^ 32 ≡ w = omega arith in
        ap (λ (o : Option ℕ). negative_of (not_zero o)) (decimal_up_to-again (2 ^ 31) m (omega arith) (omega arith))
        ∙ ap (λ (t : Bool). negative_of (some_if t m)) some ∙ ap (λ (k : ℕ). Some k) back

-- ---- several

-- numbers before numbers
before-is : (o : Option ℕ) (os : Option (List ℕ)) (ns : List ℕ) → number_before o os ≡ Some ns
    → (n : ℕ) × (ms : List ℕ) × (o ≡ Some n) × (os ≡ Some ms) × (ns ≡ n ∷ ms)
before-is None os ns e = absurd cc
before-is (Some n) None ns e = absurd cc
before-is (Some n) (Some ms) ns e = (n, ms, refl, refl, cc)

-- tokens that spell numbers are their decimals
numbers-are : (ts : List (List ℕ)) (ns : List ℕ) → numbers_of ts ≡ Some ns → (ts ≡ map decimal ns) × (all_of is_word ns ≡ true)
numbers-are [] ns e =
    let none : [] ≡ ns = cc in
    subst (λ (ms : List ℕ). ([] ≡ map decimal ms) × (all_of is_word ms ≡ true)) none (refl, refl)
numbers-are (t ∷ ts) ns e =
    let b = before-is (number_of t) (numbers_of ts) ns e in
    let n = number-is t b.0 b.2 in
    let rest = numbers-are ts b.1 b.3 in
    subst (λ (ms : List ℕ). (t ∷ ts ≡ map decimal ms) × (all_of is_word ms ≡ true)) (sym b.4)
    (ap₂ (λ (x : List ℕ) (xs : List (List ℕ)). x ∷ xs) n.0 rest.0, all-first is_word b.0 b.1 n.1 rest.1)

-- decimals are read
numbers-again : (ns : List ℕ) → all_of is_word ns ≡ true → numbers_of (map decimal ns) ≡ Some ns
numbers-again [] h = refl
numbers-again (n ∷ ns) h =
    let p = all-parts is_word n ns h in
    ap₂ (λ (o : Option ℕ) (os : Option (List ℕ)). number_before o os) (number-again n p.0) (numbers-again ns p.1)

-- the second of a line of two
second-is : (f : Form) (t : List ℕ) (n : ℕ) → second_of f t ≡ Some n → (t ≡ second_text f n) × (is_word n ≡ true)
second-is form.Code t n e = number-is t n e
second-is form.Inlet t n e = number-is t n e
second-is form.Thread t n e = number-is t n e
second-is form.Stop t n e = number-is t n e
second-is form.End t n e = number-is t n e
second-is (form.Instr (verb.Operator o)) t n e = number-is t n e
second-is (form.Instr verb.Imm) t n e = printed-is t n e
second-is (form.Instr verb.Mov) t n e = number-is t n e
second-is (form.Instr verb.Fork) t n e = number-is t n e
second-is (form.Instr verb.Switch) t n e = number-is t n e
second-is (form.Instr verb.Falloc) t n e = number-is t n e
second-is (form.Instr verb.Send) t n e = number-is t n e
second-is (form.Instr verb.Ret) t n e = number-is t n e
second-is (form.Instr verb.Ialloc) t n e = number-is t n e
second-is (form.Instr verb.Ifetch) t n e = number-is t n e
second-is (form.Instr verb.Istore) t n e = number-is t n e
second-is (form.Instr verb.Skip) t n e = number-is t n e

-- it is read
second-again : (f : Form) (n : ℕ) → is_word n ≡ true → second_of f (second_text f n) ≡ Some n
second-again form.Code n h = number-again n h
second-again form.Inlet n h = number-again n h
second-again form.Thread n h = number-again n h
second-again form.Stop n h = number-again n h
second-again form.End n h = number-again n h
second-again (form.Instr (verb.Operator o)) n h = number-again n h
second-again (form.Instr verb.Imm) n h = printed-again n h
second-again (form.Instr verb.Mov) n h = number-again n h
second-again (form.Instr verb.Fork) n h = number-again n h
second-again (form.Instr verb.Switch) n h = number-again n h
second-again (form.Instr verb.Falloc) n h = number-again n h
second-again (form.Instr verb.Send) n h = number-again n h
second-again (form.Instr verb.Ret) n h = number-again n h
second-again (form.Instr verb.Ialloc) n h = number-again n h
second-again (form.Instr verb.Ifetch) n h = number-again n h
second-again (form.Instr verb.Istore) n h = number-again n h
second-again (form.Instr verb.Skip) n h = number-again n h

-- ---- the numbers of a line

-- the tokens behind a word are those of its numbers
tokens-are : (f : Form) (ts : List (List ℕ)) (ns : List ℕ) → numbers_in f ts ≡ Some ns → (ts ≡ number_tokens f ns) × (all_of is_word ns ≡ true)
tokens-are f [] ns e =
    let none : [] ≡ ns = cc in
    subst (λ (ms : List ℕ). ([] ≡ number_tokens f ms) × (all_of is_word ms ≡ true)) none (refl, refl)
tokens-are f (a ∷ []) ns e =
    let b = before-is (number_of a) (Some []) ns e in
    let n = number-is a b.0 b.2 in
    let none : [] ≡ b.1 = (let z = b.3 in cc) in
    let same : ns ≡ b.0 ∷ [] = b.4 ∙ ap (λ (ms : List ℕ). b.0 ∷ ms) (sym none) in
    subst (λ (ms : List ℕ). (a ∷ [] ≡ number_tokens f ms) × (all_of is_word ms ≡ true)) (sym same)
    (ap (λ (x : List ℕ). x ∷ []) n.0, all-first is_word b.0 [] n.1 refl)
tokens-are f (a ∷ x ∷ []) ns e =
    let b = before-is (number_of a) (number_before (second_of f x) (Some [])) ns e in
    let n = number-is a b.0 b.2 in
    let c = before-is (second_of f x) (Some []) b.1 b.3 in
    let m = second-is f x c.0 c.2 in
    let none : [] ≡ c.1 = (let z = c.3 in cc) in
    let same : ns ≡ b.0 ∷ c.0 ∷ [] =
    b.4 ∙ ap (λ (ms : List ℕ). b.0 ∷ ms) (c.4 ∙ ap (λ (ms : List ℕ). c.0 ∷ ms) (sym none)) in
    subst (λ (ms : List ℕ). (a ∷ x ∷ [] ≡ number_tokens f ms) × (all_of is_word ms ≡ true)) (sym same)
    (ap₂ (λ (p q : List ℕ). p ∷ q ∷ []) n.0 m.0, all-first is_word b.0 (c.0 ∷ []) n.1 (all-first is_word c.0 [] m.1 refl))
tokens-are f (a ∷ x ∷ y ∷ ts) ns e =
    let r = numbers-are (a ∷ x ∷ y ∷ ts) ns e in
    let b = before-is (number_of a) (numbers_of (x ∷ y ∷ ts)) ns e in
    let c = before-is (number_of x) (numbers_of (y ∷ ts)) b.1 b.3 in
    let d = before-is (number_of y) (numbers_of ts) c.1 c.3 in
    let same : ns ≡ b.0 ∷ c.0 ∷ d.0 ∷ d.1 =
    b.4 ∙ ap (λ (ms : List ℕ). b.0 ∷ ms) (c.4 ∙ ap (λ (ms : List ℕ). c.0 ∷ ms) d.4) in
    subst (λ (ms : List ℕ). (a ∷ x ∷ y ∷ ts ≡ number_tokens f ms) × (all_of is_word ms ≡ true)) (sym same)
    (subst (λ (ms : List ℕ). (a ∷ x ∷ y ∷ ts ≡ map decimal ms) × (all_of is_word ms ≡ true)) same r)

-- and are read
pub tokens-read : (f : Form) (ns : List ℕ) → all_of is_word ns ≡ true → numbers_in f (number_tokens f ns) ≡ Some ns
tokens-read f [] h = refl
tokens-read f (a ∷ []) h = numbers-again (a ∷ []) h
tokens-read f (a ∷ b ∷ []) h =
    let p = all-parts is_word a (b ∷ []) h in
    let q = all-parts is_word b [] p.1 in
    ap₂ (λ (o r : Option ℕ). number_before o (number_before r (Some []))) (number-again a p.0) (second-again f b q.0)
tokens-read f (a ∷ b ∷ c ∷ ns) h = numbers-again (a ∷ b ∷ c ∷ ns) h

-- what a form says with tokens
pub record Says (f : Form) (ts : List (List ℕ)) (l : CodeLine) : Type 0 where
  pub form : line_form l ≡ f
  pub tokens : ts ≡ number_tokens f (line_numbers l)
  pub words : all_of is_word (line_numbers l) ≡ true
  pub behind : IsBehindHead l

-- by its numbers
by_numbers : (f : Form) (ts : List (List ℕ)) (o : Option (List ℕ)) (l : CodeLine) → numbers_in f ts ≡ o → formed f o ≡ Some l → Says f ts l
by_numbers f ts None l p e = absurd cc
by_numbers f ts (Some ns) l p e =
    let is = line-is f ns l e in
    let r = tokens-are f ts ns p in
    record {
      form = is.form;
      tokens = r.0 ∙ ap (number_tokens f) (sym is.numbers);
      words = ap (all_of is_word) is.numbers ∙ r.1;
      behind = is.behind;
    }

-- what is said is what the tokens spell
pub says : (f : Form) (ts : List (List ℕ)) (l : CodeLine) → line_said f ts ≡ Some l → Says f ts l
says f ts l e = by_numbers f ts (numbers_in f ts) l refl e
