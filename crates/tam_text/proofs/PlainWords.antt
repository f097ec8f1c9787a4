-- Words of plain bytes: numbers, names and marks, as texts are printed. No blank, comma, LF or `#` is in them.
use Rattle.std.proofs.Common.{◌≡◌, ℕ, ◌^◌, ◌-◌, ◌<◌, ◌≤◌, List, [], ◌∷◌, ◌++◌, Bool, true, false, not, refl, sym, arith, length, true≢false}
use Rattle.std.proofs.Common.{◌==◌, ◌&&◌, nat_lt, nat_le, cond}
use Rattle.std.specs.Prelude.{decimal}
use Rattle.std.proofs.lemmas.Bool.{le-leb, leb-true}
use Rattle.std.proofs.lemmas.Fmt.{decimal_nonempty}
use Rattle.tam_word.specs.Lists.{all_of}
use Rattle.tam_word.specs.Words.{signed_text}
use Rattle.tam_word.specs.Numbers.{digit_of, are_digits, is_decimal}
use Rattle.tam_word.proofs.Tests.{both-true, true-both, differs-number, number-eq}
use Rattle.tam_word.proofs.Spelled.{is_decimal-decimal}
use Rattle.tam_text.specs.Lines.{is_some_of}
use Rattle.tam_text.specs.Names.{is_letter, continues_name, is_name}

-- a byte of a token: from `(` to `~`, and no comma
abbrev pub is_plain : ℕ → Bool
is_plain b = nat_le 40 b && (nat_le b 126 && not (b == 44))

-- the bytes are those of a token
abbrev pub is_word : List ℕ → Bool
is_word bytes = is_some_of bytes && all_of is_plain bytes

-- a byte between two that are plain
between : (low b high : ℕ) → 45 ≤ low → high ≤ 126 → (nat_le low b && nat_le b high) ≡ true → is_plain b ≡ true
between low b high l h e =
    let p = both-true (nat_le low b) (nat_le b high) e in
    let above : low ≤ b = leb-true low b p.0 in
    let under : b ≤ high = leb-true b high p.1 in
    let no_comma : (b == 44) ≡ false = differs-number b 44 (λ z. omega arith) in
    rw (le-leb 40 b (omega arith), le-leb b 126 (omega arith), no_comma) refl

-- where all of a list pass, the first does, and all others
pub all-parts : {X : Type 0} (test : X → Bool) (x : X) (xs : List X) → all_of test (x ∷ xs) ≡ true → (test x ≡ true) × (all_of test xs ≡ true)
all-parts test x xs h = go (test x) refl
  where
    go : (t : Bool) → test x ≡ t → (test x ≡ true) × (all_of test xs ≡ true)
    go true e = (e, rw (all_of, e) at h)
    go false e = absurd (true≢false (sym (rw (all_of, e) at h)))

-- and the other way round
pub all-more : {X : Type 0} (test : X → Bool) (x : X) (xs : List X) → test x ≡ true → all_of test xs ≡ true → all_of test (x ∷ xs) ≡ true
all-more test x xs p q = rw (all_of, p) q

-- where all of both lists pass, all of the joined one do
pub all-both : {X : Type 0} (test : X → Bool) (xs ys : List X) → all_of test xs ≡ true → all_of test ys ≡ true → all_of test (xs ++ ys) ≡ true
all-both test [] ys h k = k
all-both test (x ∷ xs) ys h k = let p = all-parts test x xs h in all-more test x (xs ++ ys) p.0 (all-both test xs ys p.1 k)

-- ---- numbers

-- a digit is plain
digit-plain : (b : ℕ) → nat_lt (digit_of b) 10 ≡ true → is_plain b ≡ true
digit-plain b h = go (nat_le 48 b && nat_le b 57) refl (nat_le 65 b && nat_le b 70) refl (nat_le 97 b && nat_le b 102) refl
  where
    go : (t : Bool) → (nat_le 48 b && nat_le b 57) ≡ t → (u : Bool) → (nat_le 65 b && nat_le b 70) ≡ u → (v : Bool) → (nat_le 97 b && nat_le b 102) ≡ v
        → is_plain b ≡ true
    go true e u f v g = between 48 b 57 (omega arith) (omega arith) e
    go false e true f v g = between 65 b 70 (omega arith) (omega arith) f
    go false e false f true g = between 97 b 102 (omega arith) (omega arith) g
    go false e false f false g = absurd (true≢false (sym (rw (digit_of, e, f, g) at h)))

-- and so are digits
digits-plain : (bs : List ℕ) → are_digits 10 bs ≡ true → all_of is_plain bs ≡ true
digits-plain [] h = refl
digits-plain (b ∷ bs) h = go (nat_lt (digit_of b) 10) refl (digits-plain bs)
  where
    go : (t : Bool) → nat_lt (digit_of b) 10 ≡ t → (are_digits 10 bs ≡ true → all_of is_plain bs ≡ true) → all_of is_plain (b ∷ bs) ≡ true
    go true e i = all-more is_plain b bs (digit-plain b e) (i (rw (are_digits, e) at h))
    go false e i = absurd (true≢false (sym (rw (are_digits, e) at h)))

-- a number in decimal is digits
decimal-digits : (bs : List ℕ) → is_decimal bs ≡ true → are_digits 10 bs ≡ true
decimal-digits [] h = refl
decimal-digits (b ∷ []) h = h
decimal-digits (b ∷ c ∷ bs) h = go (b == 48) refl
  where
    go : (t : Bool) → (b == 48) ≡ t → are_digits 10 (b ∷ c ∷ bs) ≡ true
    go true e = absurd (true≢false (sym (rw (is_decimal, e) at h)))
    go false e = rw (is_decimal, e) at h

-- a decimal's bytes are plain
pub decimal-plain : (n : ℕ) → n < 2 ^ 64 → all_of is_plain (decimal n) ≡ true
decimal-plain n l = digits-plain (decimal n) (decimal-digits (decimal n) (is_decimal-decimal n l))

-- a list with an element has some
some-of : (bs : List ℕ) → 0 < length bs → is_some_of bs ≡ true
some-of [] l = absurd (omega arith)
some-of (b ∷ bs) l = refl

-- so a decimal is a word
pub decimal-word : (n : ℕ) → n < 2 ^ 64 → is_word (decimal n) ≡ true
decimal-word n l = true-both (is_some_of (decimal n)) (all_of is_plain (decimal n)) (some-of (decimal n) (decimal_nonempty n l)) (decimal-plain n l)

-- and so is a word's signed decimal
pub signed-word : (w : ℕ) → w < 2 ^ 32 → is_word (signed_text w) ≡ true
signed-word w l = go (nat_lt w (2 ^ 31))
  where
    go : (t : Bool) → is_word (cond t (decimal w) (45 ∷ decimal (2 ^ 32 - w))) ≡ true
    go true = decimal-word w (omega arith)
    go false = decimal-plain (2 ^ 32 - w) (omega arith)

-- ---- names

-- a letter is plain
letter-plain : (b : ℕ) → is_letter b ≡ true → is_plain b ≡ true
letter-plain b h = go (nat_le 65 b && nat_le b 90) refl (nat_le 97 b && nat_le b 122) refl
  where
    go : (t : Bool) → (nat_le 65 b && nat_le b 90) ≡ t → (u : Bool) → (nat_le 97 b && nat_le b 122) ≡ u → is_plain b ≡ true
    go true e u f = between 65 b 90 (omega arith) (omega arith) e
    go false e true f = between 97 b 122 (omega arith) (omega arith) f
    go false e false f = let is : b ≡ 95 = number-eq b 95 (rw (e, f) at h) in rw is refl

-- so is what continues a name
continues-plain : (b : ℕ) → continues_name b ≡ true → is_plain b ≡ true
continues-plain b h = go (is_letter b) refl
  where
    go : (t : Bool) → is_letter b ≡ t → is_plain b ≡ true
    go true e = letter-plain b e
    go false e = between 48 b 57 (omega arith) (omega arith) (rw e at h)

-- a name's bytes are plain
pub name-word : (bs : List ℕ) → is_name bs ≡ true → is_word bs ≡ true
name-word [] h = absurd (true≢false (sym h))
name-word (b ∷ bs) h =
    let p = both-true (is_letter b) (nat_lt (length bs) 32 && all_of continues_name bs) h in
    let q = both-true (nat_lt (length bs) 32) (all_of continues_name bs) p.1 in
    all-more is_plain b bs (letter-plain b p.0) (rest bs q.1)
  where
    rest : (cs : List ℕ) → all_of continues_name cs ≡ true → all_of is_plain cs ≡ true
    rest [] k = refl
    rest (c ∷ cs) k = let r = all-parts continues_name c cs k in all-more is_plain c cs (continues-plain c r.0) (rest cs r.1)
