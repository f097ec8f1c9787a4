-- Lines and tokens: a line of tokens is cut into them again, and a whole line is its tokens with spaces between.
use Rattle.std.proofs.Common.{◌≡◌, ℕ, suc, ◌≤◌, ◌<◌, ◌^◌, ◌-◌, List, [], ◌∷◌, ◌++◌, Bool, true, false, refl, sym, ap, ◌∙◌, arith, length, ◌==◌, ◌&&◌}
use Rattle.std.proofs.Common.{nat_le, cond, append_assoc, true≢false, flat_map}
use Rattle.std.specs.Prelude.{decimal, nat_lt}
use Rattle.std.specs.List.{onto_first, slice_split, join_with_byte, AllByRecursion}
use Rattle.std.specs.Str.Parse.{AllDigits}
use Rattle.std.proofs.lemmas.Bool.{le-leb, leb-true}
use Rattle.std.proofs.lemmas.Fmt.{decimal_is_IsNumeral, decimal_nonempty}
use Rattle.std.proofs.lemmas.List.Splits.{join_with_byte-slice_split}
use Rattle.std.proofs.lemmas.Str.Parse.{digit_from_value}
use Rattle.tam_word.specs.Lists.{all_of, any_of}
use Rattle.tam_word.specs.Words.{signed_text}
use Rattle.tam_word.proofs.Tests.{both-true, true-both, differs-number, number-eq}
use Rattle.tam_text.specs.Lines.{lines_of, is_some_of}
use Rattle.tl0_code.specs.CodeTexts.{spaced}
use Rattle.tl0_text.specs.CodeSayings.{without_line_feed, is_whole, is_space, tokens_of, has_empty}

-- ---- bytes of tokens

-- a byte of a token: no space and no LF
abbrev pub is_ink : ℕ → Bool
is_ink b = nat_le 33 b

-- some such bytes
abbrev pub is_token : List ℕ → Bool
is_token bs = is_some_of bs && all_of is_ink bs

-- it ends no line
no_end : (b : ℕ) → is_ink b ≡ true → (b == 10) ≡ false
no_end b h = let low : 33 ≤ b = leb-true 33 b h in differs-number b 10 (λ e. omega arith)

-- and no token
no_space : (b : ℕ) → is_ink b ≡ true → is_space b ≡ false
no_space b h = let low : 33 ≤ b = leb-true 33 b h in differs-number b 32 (λ e. omega arith)

-- where all of a list pass, the first does, and all others
pub all-parts : {X : Type 0} (test : X → Bool) (x : X) (xs : List X) → all_of test (x ∷ xs) ≡ true → (test x ≡ true) × (all_of test xs ≡ true)
all-parts test x xs h = go (test x) refl
  where
    go : (t : Bool) → test x ≡ t → (test x ≡ true) × (all_of test xs ≡ true)
    go true e = (e, rw (all_of, e) at h)
    go false e = absurd (true≢false (sym (rw (all_of, e) at h)))

-- and the other way round
pub all-first : {X : Type 0} (test : X → Bool) (x : X) (xs : List X) → test x ≡ true → all_of test xs ≡ true → all_of test (x ∷ xs) ≡ true
all-first test x xs p q = rw (all_of, p) q

-- where all of both lists pass, all of the joined one do
pub all-both : {X : Type 0} (test : X → Bool) (xs ys : List X) → all_of test xs ≡ true → all_of test ys ≡ true → all_of test (xs ++ ys) ≡ true
all-both test [] ys h k = k
all-both test (x ∷ xs) ys h k = let p = all-parts test x xs h in all-first test x (xs ++ ys) p.0 (all-both test xs ys p.1 k)

-- where all of the joined one pass, all of the first do
pub all-prefix : {X : Type 0} (test : X → Bool) (xs ys : List X) → all_of test (xs ++ ys) ≡ true → all_of test xs ≡ true
all-prefix test [] ys h = refl
all-prefix test (x ∷ xs) ys h = let p = all-parts test x (xs ++ ys) h in all-first test x xs p.0 (all-prefix test xs ys p.1)

-- and all of the second
pub all-back : {X : Type 0} (test : X → Bool) (xs ys : List X) → all_of test (xs ++ ys) ≡ true → all_of test ys ≡ true
all-back test [] ys h = h
all-back test (x ∷ xs) ys h = all-back test xs ys (all-parts test x (xs ++ ys) h).1

-- digits
digits-ink : (ds : List ℕ) → AllDigits 10 ds → all_of is_ink ds ≡ true
digits-ink [] h = refl
digits-ink (d ∷ ds) h =
    let r = digit_from_value d h.0 in
    all-first is_ink d ds (le-leb 33 d (omega (arith, r.0))) (digits-ink ds h.1)

-- a list of some length has an element
some-of : (bs : List ℕ) → 0 < length bs → is_some_of bs ≡ true
some-of [] l = absurd (omega arith)
some-of (b ∷ bs) l = refl

-- a decimal is a token
pub decimal-token : (n : ℕ) → n < 2 ^ 64 → is_token (decimal n) ≡ true
decimal-token n l =
    true-both (is_some_of (decimal n)) (all_of is_ink (decimal n)) (some-of (decimal n) (decimal_nonempty n l))
    (digits-ink (decimal n) (decimal_is_IsNumeral n l).0.1)

-- and so is a signed one
pub signed-token : (w : ℕ) → w < 2 ^ 32 → is_token (signed_text w) ≡ true
signed-token w l = go (nat_lt w (2 ^ 31))
  where
    go : (t : Bool) → is_token (cond t (decimal w) (45 ∷ decimal (2 ^ 32 - w))) ≡ true
    go true = decimal-token w (omega arith)
    go false = digits-ink (decimal (2 ^ 32 - w)) (decimal_is_IsNumeral (2 ^ 32 - w) (omega arith)).0.1

-- ---- a line of tokens

-- a token before other bytes: it stays before the LF
token-kept : (t rest : List ℕ) → all_of is_ink t ≡ true → without_line_feed (t ++ rest) ≡ t ++ without_line_feed rest
token-kept [] rest h = refl
token-kept (b ∷ bs) rest h =
    let p = all-parts is_ink b bs h in
    rw (without_line_feed, no_end b p.0) (ap (λ l. b ∷ l) (token-kept bs rest p.1))

-- whether a line is whole is told by what stands behind
token-whole : (t rest : List ℕ) → all_of is_ink t ≡ true → is_whole (t ++ rest) ≡ is_whole rest
token-whole [] rest h = refl
token-whole (b ∷ bs) rest h =
    let p = all-parts is_ink b bs h in
    rw (is_whole, no_end b p.0) (token-whole bs rest p.1)

-- it is cut off at the space behind it
token-split : (t rest : List ℕ) → all_of is_ink t ≡ true → slice_split is_space (t ++ 32 ∷ rest) ≡ t ∷ slice_split is_space rest
token-split [] rest h = refl
token-split (b ∷ bs) rest h =
    let p = all-parts is_ink b bs h in
    rw (no_space b p.0) (ap (onto_first b) (token-split bs rest p.1))

-- alone it is one piece
token-alone : (t : List ℕ) → all_of is_ink t ≡ true → slice_split is_space t ≡ t ∷ []
token-alone [] h = refl
token-alone (b ∷ bs) h =
    let p = all-parts is_ink b bs h in
    rw (no_space b p.0) (ap (onto_first b) (token-alone bs p.1))

-- it goes into the first line
token-lines : (t rest line : List ℕ) (lines : List (List ℕ)) → all_of is_ink t ≡ true → lines_of rest ≡ line ∷ lines
    → lines_of (t ++ rest) ≡ (t ++ line) ∷ lines
token-lines [] rest line lines h e = e
token-lines (b ∷ bs) rest line lines h e =
    let p = all-parts is_ink b bs h in
    rw (lines_of, no_end b p.0) (ap (onto_first b) (token-lines bs rest line lines p.1 e))

-- the bytes of a token
ink : (t : List ℕ) → is_token t ≡ true → all_of is_ink t ≡ true
ink t h = (both-true (is_some_of t) (all_of is_ink t) h).1

-- with nothing behind
pub with-nothing : {X : Type 0} (xs : List X) → xs ++ [] ≡ xs
with-nothing [] = refl
with-nothing (x ∷ xs) = ap (λ ys. x ∷ ys) (with-nothing xs)

-- a line of tokens without its LF
unended : (t : List ℕ) (ts : List (List ℕ)) → all_of is_token (t ∷ ts) ≡ true → without_line_feed (spaced (t ∷ ts)) ≡ join_with_byte 32 (t ∷ ts)
unended t [] h = token-kept t (10 ∷ []) (ink t (all-parts is_token t [] h).0) ∙ with-nothing t
unended t (u ∷ ts) h =
    let p = all-parts is_token t (u ∷ ts) h in
    token-kept t (32 ∷ spaced (u ∷ ts)) (ink t p.0) ∙ ap (λ l. t ++ 32 ∷ l) (unended u ts p.1)

-- tokens with spaces between are cut into them
cut-again : (t : List ℕ) (ts : List (List ℕ)) → all_of is_token (t ∷ ts) ≡ true → slice_split is_space (join_with_byte 32 (t ∷ ts)) ≡ t ∷ ts
cut-again t [] h = token-alone t (ink t (all-parts is_token t [] h).0)
cut-again t (u ∷ ts) h =
    let p = all-parts is_token t (u ∷ ts) h in
    token-split t (join_with_byte 32 (u ∷ ts)) (ink t p.0) ∙ ap (λ (l : List (List ℕ)). t ∷ l) (cut-again u ts p.1)

-- so a line of tokens has these tokens
pub tokens-again : (t : List ℕ) (ts : List (List ℕ)) → all_of is_token (t ∷ ts) ≡ true → tokens_of (spaced (t ∷ ts)) ≡ t ∷ ts
tokens-again t ts h = ap (slice_split is_space) (unended t ts h) ∙ cut-again t ts h

-- it is whole
pub whole-again : (t : List ℕ) (ts : List (List ℕ)) → all_of is_token (t ∷ ts) ≡ true → is_whole (spaced (t ∷ ts)) ≡ true
whole-again t [] h = token-whole t (10 ∷ []) (ink t (all-parts is_token t [] h).0)
whole-again t (u ∷ ts) h =
    let p = all-parts is_token t (u ∷ ts) h in
    token-whole t (32 ∷ spaced (u ∷ ts)) (ink t p.0) ∙ whole-again u ts p.1

-- no token is empty
pub none-empty : (ts : List (List ℕ)) → all_of is_token ts ≡ true → has_empty ts ≡ false
none-empty [] h = refl
none-empty (t ∷ ts) h =
    let p = all-parts is_token t ts h in
    let some : is_some_of t ≡ true = (both-true (is_some_of t) (all_of is_ink t) p.0).0 in
    rw (any_of, some) (none-empty ts p.1)

-- it is the first line of its text and what follows
pub line-first : (t : List ℕ) (ts : List (List ℕ)) (rest : List ℕ) → all_of is_token (t ∷ ts) ≡ true
    → lines_of (spaced (t ∷ ts) ++ rest) ≡ spaced (t ∷ ts) ∷ lines_of rest
line-first t [] rest h =
    ap lines_of (append_assoc t (10 ∷ []) rest) ∙ token-lines t (10 ∷ rest) (10 ∷ []) (lines_of rest) (ink t (all-parts is_token t [] h).0) refl
line-first t (u ∷ ts) rest h =
    let p = all-parts is_token t (u ∷ ts) h in
    ap lines_of (append_assoc t (32 ∷ spaced (u ∷ ts)) rest)
    ∙ token-lines t (32 ∷ (spaced (u ∷ ts) ++ rest)) (32 ∷ spaced (u ∷ ts)) (lines_of rest) (ink t p.0) (ap (onto_first 32) (line-first u ts rest p.1))

-- ---- a whole line

-- an LF stands only at a line's end
abbrev pub EndsOnce : List ℕ → Type 0
EndsOnce line = is_whole line ≡ true → line ≡ without_line_feed line ++ 10 ∷ []

-- in each line of a text
pub lines-end : (bs : List ℕ) → AllByRecursion EndsOnce (lines_of bs)
lines-end [] = tt
lines-end (b ∷ bs) = go (b == 10) refl (lines_of bs) (lines-end bs)
  where
    go : (t : Bool) → (b == 10) ≡ t → (ls : List (List ℕ)) → AllByRecursion EndsOnce ls
        → AllByRecursion EndsOnce (elim t [ true ↦ (b ∷ []) ∷ ls | false ↦ onto_first b ls ])
    go true e ls h = let is : b ≡ 10 = number-eq b 10 e in ((λ w. rw (without_line_feed, e) (ap (λ x. x ∷ []) is)), h)
    go false e [] h = ((λ w. absurd (true≢false (sym (rw (is_whole, e) at w)))), tt)
    go false e (l ∷ ls) h = ((λ w. rw (without_line_feed, e) (ap (λ x. b ∷ x) (h.0 (rw (is_whole, e) at w)))), h.1)

-- the lines together are the text
pub lines-joined : (bs : List ℕ) → flat_map (λ l. l) (lines_of bs) ≡ bs
lines-joined [] = refl
lines-joined (b ∷ bs) = go (b == 10) (lines_of bs) (lines-joined bs)
  where
    go : (t : Bool) (ls : List (List ℕ)) → flat_map (λ l. l) ls ≡ bs → flat_map (λ l. l) (elim t [ true ↦ (b ∷ []) ∷ ls | false ↦ onto_first b ls ]) ≡ b ∷ bs
    go true ls h = ap (λ l. b ∷ l) h
    go false [] h = ap (λ l. b ∷ l) h
    go false (l ∷ ls) h = ap (λ l. b ∷ l) h

-- there are no more than bytes
pub lines-few : (bs : List ℕ) → length (lines_of bs) ≤ length bs
lines-few [] = omega arith
lines-few (b ∷ bs) = go (b == 10) (lines_of bs) (lines-few bs)
  where
    go : (t : Bool) (ls : List (List ℕ)) → length ls ≤ length bs
        → length {A = List ℕ} (elim t [ true ↦ (b ∷ []) ∷ ls | false ↦ onto_first b ls ]) ≤ suc (length bs)
    go true ls h = omega arith
    go false [] h = omega arith
    go false (l ∷ ls) h = omega arith

-- tokens with spaces between, and the LF
spaced-joined : (t : List ℕ) (ts : List (List ℕ)) → spaced (t ∷ ts) ≡ join_with_byte 32 (t ∷ ts) ++ 10 ∷ []
spaced-joined t [] = refl
spaced-joined t (u ∷ ts) = ap (λ l. t ++ 32 ∷ l) (spaced-joined u ts) ∙ sym (append_assoc t (32 ∷ join_with_byte 32 (u ∷ ts)) (10 ∷ []))

-- a whole line is its tokens, spaced
pub line-is : (line t : List ℕ) (ts : List (List ℕ)) → is_whole line ≡ true → EndsOnce line → tokens_of line ≡ t ∷ ts → line ≡ spaced (t ∷ ts)
line-is line t ts w once e =
    let back : join_with_byte 32 (tokens_of line) ≡ without_line_feed line = join_with_byte-slice_split 32 (without_line_feed line) in
    once w ∙ ap (λ l. l ++ 10 ∷ []) (sym back ∙ ap (join_with_byte 32) e) ∙ sym (spaced-joined t ts)
