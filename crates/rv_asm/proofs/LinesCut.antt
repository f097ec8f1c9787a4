-- A line of a name and operands with commas between them is cut into these tokens again, and its bytes are good.
use Rattle.std.proofs.Common.{◌≡◌, ℕ, List, [], ◌∷◌, ◌++◌, Bool, true, false, not, refl, sym, ap, ap₂, ◌∙◌, ◌==◌}
use Rattle.std.proofs.Common.{filter, flat_map, append_assoc}
use Rattle.std.specs.Prelude.{codes}
use Rattle.std.specs.List.{onto_first, slice_split}
use Rattle.tam_word.specs.Lists.{all_of}
use Rattle.tam_word.proofs.Tests.{not-true}
use Rattle.tam_word.proofs.AllOf.{all_of-more}
use Rattle.tam_text.specs.Lines.{lines_of, is_blank, without_comment, is_some_of, words_of, are_good_bytes}
use Rattle.rv_asm.specs.Tokens.{is_comma, tokens_in, tokens_of, further_tokens}
use Rattle.tam_text.proofs.PlainWords.{is_plain, is_word, all-parts, all-more, all-both}
use Rattle.tam_text.proofs.WordsCut.{inside, plain, some, word-kept, word-split, word-whole, word-lines, word-good, first-word}

-- ---- words of pieces

-- a word and a space before others
spaced-words : (w rest : List ℕ) → is_word w ≡ true → words_of (w ++ 32 ∷ rest) ≡ w ∷ words_of rest
spaced-words w rest h =
    ap (λ l. filter is_some_of (slice_split is_blank l)) (word-kept w (32 ∷ rest) (plain w h))
    ∙ ap (filter is_some_of) (word-split w 32 (without_comment rest) (plain w h) refl)
    ∙ first-word w (slice_split is_blank (without_comment rest)) (some w h)

-- a word at the end of a line
ended-words : (w : List ℕ) → is_word w ≡ true → words_of (w ++ 10 ∷ []) ≡ w ∷ []
ended-words w h =
    ap (λ l. filter is_some_of (slice_split is_blank l)) (word-kept w (10 ∷ []) (plain w h))
    ∙ ap (filter is_some_of) (word-split w 10 [] (plain w h) refl)
    ∙ first-word w ([] ∷ []) (some w h)

-- nothing behind
with-nothing : (xs : List ℕ) → xs ++ [] ≡ xs
with-nothing [] = refl
with-nothing (x ∷ xs) = ap (λ ys. x ∷ ys) (with-nothing xs)

-- a word alone
alone-words : (w : List ℕ) → is_word w ≡ true → words_of w ≡ w ∷ []
alone-words w h =
    let kept : without_comment w ≡ w = ap without_comment (sym (with-nothing w)) ∙ word-kept w [] (plain w h) ∙ with-nothing w in
    ap (λ l. filter is_some_of (slice_split is_blank l)) kept ∙ ap (filter is_some_of) (word-whole w (plain w h)) ∙ first-word w [] (some w h)

-- ---- pieces between commas

-- a byte that isn't a comma
abbrev is_inner : ℕ → Bool
is_inner b = not (b == 44)

-- a byte of a token is one
plain-inner : (b : ℕ) → is_plain b ≡ true → is_inner b ≡ true
plain-inner b h = (inside b h).no_comma

-- a word has no comma
word-inner : (w : List ℕ) → is_word w ≡ true → all_of is_inner w ≡ true
word-inner w h = all_of-more is_plain is_inner plain-inner w (plain w h)

-- a piece is cut off at the comma behind it
piece-cut : (p rest : List ℕ) → all_of is_inner p ≡ true → slice_split is_comma (p ++ 44 ∷ rest) ≡ p ∷ slice_split is_comma rest
piece-cut [] rest h = refl
piece-cut (b ∷ bs) rest h =
    let p = all-parts is_inner b bs h in
    let no_comma : is_comma b ≡ false = not-true (b == 44) p.0 in
    rw no_comma (ap (onto_first b) (piece-cut bs rest p.1))

-- and is whole where there is none
piece-whole : (p : List ℕ) → all_of is_inner p ≡ true → slice_split is_comma p ≡ p ∷ []
piece-whole [] h = refl
piece-whole (b ∷ bs) h =
    let p = all-parts is_inner b bs h in
    let no_comma : is_comma b ≡ false = not-true (b == 44) p.0 in
    rw no_comma (ap (onto_first b) (piece-whole bs p.1))

-- what stands behind an operand, to the end of the line
abbrev pub further_line : List (List ℕ) → List ℕ
further_line [] = 10 ∷ []
further_line (t ∷ ts) = 44 ∷ 32 ∷ (t ++ further_line ts)

-- the pieces of a line of which p stands before the operands
abbrev pieces : List ℕ → List (List ℕ) → List (List ℕ)
pieces p [] = (p ++ 10 ∷ []) ∷ []
pieces p (t ∷ ts) = p ∷ pieces (32 ∷ t) ts

-- the line is cut into them
line-cut : (p : List ℕ) (ts : List (List ℕ)) → all_of is_inner p ≡ true → all_of is_word ts ≡ true → slice_split is_comma (p ++ further_line ts) ≡ pieces p ts
line-cut p [] h k = piece-whole (p ++ 10 ∷ []) (all-both is_inner p (10 ∷ []) h refl)
line-cut p (t ∷ ts) h k =
    let q = all-parts is_word t ts k in
    piece-cut p (32 ∷ (t ++ further_line ts)) h
    ∙ ap (λ ps. p ∷ ps) (line-cut (32 ∷ t) ts (all-more is_inner 32 t refl (word-inner t q.0)) q.1)

-- a comma and an operand
abbrev pub behind_comma : List ℕ → List (List ℕ)
behind_comma t = codes "," ∷ t ∷ []

-- the tokens of the pieces behind the first
further-cut : (t : List ℕ) (ts : List (List ℕ)) → all_of is_word (t ∷ ts) ≡ true
    → further_tokens (pieces (32 ∷ t) ts) ≡ flat_map behind_comma (t ∷ ts)
further-cut t [] h =
    let p = all-parts is_word t [] h in
    ap (λ (ws : List (List ℕ)). codes "," ∷ (ws ++ [])) (ended-words t p.0)
further-cut t (u ∷ ts) h =
    let p = all-parts is_word t (u ∷ ts) h in
    ap₂ (λ (ws rest : List (List ℕ)). codes "," ∷ (ws ++ rest)) (alone-words t p.0) (further-cut u ts p.1)

-- ---- lines

-- a name and what stands behind it
abbrev pub line_text : List ℕ → List (List ℕ) → List ℕ
line_text name [] = name ++ 10 ∷ []
line_text name (t ∷ ts) = name ++ (32 ∷ (t ++ further_line ts))

-- its tokens
abbrev pub line_tokens : List ℕ → List (List ℕ) → List (List ℕ)
line_tokens name [] = name ∷ []
line_tokens name (t ∷ ts) = name ∷ t ∷ flat_map behind_comma ts

-- there is no comment behind an operand
further-kept : (ts : List (List ℕ)) → all_of is_word ts ≡ true → without_comment (further_line ts) ≡ further_line ts
further-kept [] h = refl
further-kept (t ∷ ts) h =
    let p = all-parts is_word t ts h in
    ap (λ l. 44 ∷ 32 ∷ l) (word-kept t (further_line ts) (plain t p.0) ∙ ap (λ l. t ++ l) (further-kept ts p.1))

-- nor in the line
line-kept : (name : List ℕ) (ts : List (List ℕ)) → is_word name ≡ true → all_of is_word ts ≡ true → without_comment (line_text name ts) ≡ line_text name ts
line-kept name [] n h = word-kept name (10 ∷ []) (plain name n)
line-kept name (t ∷ ts) n h =
    let p = all-parts is_word t ts h in
    word-kept name (32 ∷ (t ++ further_line ts)) (plain name n)
    ∙ ap (λ l. name ++ (32 ∷ l)) (word-kept t (further_line ts) (plain t p.0) ∙ ap (λ l. t ++ l) (further-kept ts p.1))

-- the tokens of its pieces
pieces-cut : (name t : List ℕ) (ts : List (List ℕ)) → is_word name ≡ true → all_of is_word (t ∷ ts) ≡ true
    → tokens_in (pieces (name ++ 32 ∷ t) ts) ≡ line_tokens name (t ∷ ts)
pieces-cut name t [] n h =
    let p = all-parts is_word t [] h in
    ap (λ (ws : List (List ℕ)). ws ++ [])
    (ap words_of (append_assoc name (32 ∷ t) (10 ∷ [])) ∙ spaced-words name (t ++ 10 ∷ []) n ∙ ap (λ (ws : List (List ℕ)). name ∷ ws) (ended-words t p.0))
pieces-cut name t (u ∷ ts) n h =
    let p = all-parts is_word t (u ∷ ts) h in
    ap₂ (λ (ws rest : List (List ℕ)). ws ++ rest)
    (spaced-words name t n ∙ ap (λ (ws : List (List ℕ)). name ∷ ws) (alone-words t p.0)) (further-cut u ts p.1)

-- the tokens of the line
pub line-cut-again : (name : List ℕ) (ts : List (List ℕ)) → is_word name ≡ true → all_of is_word ts ≡ true
    → tokens_of (line_text name ts) ≡ line_tokens name ts
line-cut-again name [] n h =
    ap (λ l. tokens_in (slice_split is_comma l)) (line-kept name [] n h)
    ∙ ap tokens_in (piece-whole (name ++ 10 ∷ []) (all-both is_inner name (10 ∷ []) (word-inner name n) refl))
    ∙ ap (λ (ws : List (List ℕ)). ws ++ []) (ended-words name n)
line-cut-again name (t ∷ ts) n h =
    let p = all-parts is_word t ts h in
    let prefix : all_of is_inner (name ++ 32 ∷ t) ≡ true =
    all-both is_inner name (32 ∷ t) (word-inner name n) (all-more is_inner 32 t refl (word-inner t p.0)) in
    ap (λ l. tokens_in (slice_split is_comma l)) (line-kept name (t ∷ ts) n h ∙ sym (append_assoc name (32 ∷ t) (further_line ts)))
    ∙ ap tokens_in (line-cut (name ++ 32 ∷ t) ts prefix p.1) ∙ pieces-cut name t ts n h

-- what stands behind an operand ends the line
further-first : (ts : List (List ℕ)) (rest : List ℕ) → all_of is_word ts ≡ true → lines_of (further_line ts ++ rest) ≡ further_line ts ∷ lines_of rest
further-first [] rest h = refl
further-first (t ∷ ts) rest h =
    let p = all-parts is_word t ts h in
    ap (λ l. onto_first 44 (onto_first 32 (lines_of l))) (append_assoc t (further_line ts) rest)
    ∙ ap (λ ls. onto_first 44 (onto_first 32 ls))
    (word-lines t (further_line ts ++ rest) (further_line ts) (lines_of rest) (plain t p.0) (further-first ts rest p.1))

-- the line is the first of its text and what follows
pub line-first : (name : List ℕ) (ts : List (List ℕ)) (rest : List ℕ) → is_word name ≡ true → all_of is_word ts ≡ true
    → lines_of (line_text name ts ++ rest) ≡ line_text name ts ∷ lines_of rest
line-first name [] rest n h =
    ap lines_of (append_assoc name (10 ∷ []) rest) ∙ word-lines name (10 ∷ rest) (10 ∷ []) (lines_of rest) (plain name n) refl
line-first name (t ∷ ts) rest n h =
    let p = all-parts is_word t ts h in
    ap lines_of (append_assoc name (32 ∷ (t ++ further_line ts)) rest)
    ∙ word-lines name (32 ∷ ((t ++ further_line ts) ++ rest)) (32 ∷ (t ++ further_line ts)) (lines_of rest) (plain name n)
    (ap (λ l. onto_first 32 (lines_of l)) (append_assoc t (further_line ts) rest)
    ∙ ap (onto_first 32) (word-lines t (further_line ts ++ rest) (further_line ts) (lines_of rest) (plain t p.0) (further-first ts rest p.1)))

-- the bytes behind an operand are good
further-good : (ts : List (List ℕ)) → all_of is_word ts ≡ true → are_good_bytes (further_line ts) ≡ true
further-good [] h = refl
further-good (t ∷ ts) h = let p = all-parts is_word t ts h in word-good t (further_line ts) (plain t p.0) (further-good ts p.1)

-- and so are those of the line
pub line-good : (name : List ℕ) (ts : List (List ℕ)) → is_word name ≡ true → all_of is_word ts ≡ true → are_good_bytes (line_text name ts) ≡ true
line-good name [] n h = word-good name (10 ∷ []) (plain name n) refl
line-good name (t ∷ ts) n h =
    let p = all-parts is_word t ts h in
    word-good name (32 ∷ (t ++ further_line ts)) (plain name n) (word-good t (further_line ts) (plain t p.0) (further-good ts p.1))
