-- Lines of tokens are cut into these tokens again, and their bytes are good.
use Rattle.std.proofs.Common.{◌≡◌, ℕ, List, [], ◌∷◌, ◌++◌, Bool, true, refl, sym, ap, ◌∙◌, true≢false, ◌&&◌, map, filter}
use Rattle.std.proofs.Common.{flat_map}
use Rattle.std.proofs.Common.{append_assoc}
use Rattle.std.specs.List.{onto_first, slice_split}
use Rattle.tam_word.specs.Lists.{all_of}
use Rattle.tam_text.specs.Lines.{lines_of, is_blank, without_comment, is_some_of, words_of, token_lines, are_good_bytes}
use Rattle.tam_graph.specs.Texts.{Token, Line, token_text, line_text}
use Rattle.tam_text.proofs.PlainWords.{is_plain, is_word, all-parts}
use Rattle.tam_text.proofs.WordsCut.{plain as word-plain, some as word-some, word-kept, word-split, word-lines, word-good, first-word}

-- ---- lines

-- the token's text is a word
abbrev pub is_printed : Token → Bool
is_printed t = is_word (token_text t)

-- the line has tokens, whose texts are words
abbrev pub is_printed_line : Line → Bool
is_printed_line l = is_some_of l && all_of is_printed l

-- the bytes of its text are plain
plain : (t : Token) → is_printed t ≡ true → all_of is_plain (token_text t) ≡ true
plain t h = word-plain (token_text t) h

-- and there are some
some : (t : Token) → is_printed t ≡ true → is_some_of (token_text t) ≡ true
some t h = word-some (token_text t) h

-- there is no comment
line-kept : (t : Token) (ts : Line) → all_of is_printed (t ∷ ts) ≡ true → without_comment (line_text (t ∷ ts)) ≡ line_text (t ∷ ts)
line-kept t [] h = word-kept (token_text t) (10 ∷ []) (plain t (all-parts is_printed t [] h).0)
line-kept t (u ∷ ts) h =
    let p = all-parts is_printed t (u ∷ ts) h in
    word-kept (token_text t) (32 ∷ line_text (u ∷ ts)) (plain t p.0) ∙ ap (λ l. token_text t ++ (32 ∷ l)) (line-kept u ts p.1)

-- the words between blanks are those of the tokens
line-split : (t : Token) (ts : Line) → all_of is_printed (t ∷ ts) ≡ true
    → filter is_some_of (slice_split is_blank (line_text (t ∷ ts))) ≡ map token_text (t ∷ ts)
line-split t [] h =
    let p = all-parts is_printed t [] h in
    ap (filter is_some_of) (word-split (token_text t) 10 [] (plain t p.0) refl) ∙ first-word (token_text t) ([] ∷ []) (some t p.0)
line-split t (u ∷ ts) h =
    let p = all-parts is_printed t (u ∷ ts) h in
    ap (filter is_some_of) (word-split (token_text t) 32 (line_text (u ∷ ts)) (plain t p.0) refl)
    ∙ first-word (token_text t) (slice_split is_blank (line_text (u ∷ ts))) (some t p.0) ∙ ap (λ ws. token_text t ∷ ws) (line-split u ts p.1)

-- so they are the line's words
line-words : (t : Token) (ts : Line) → all_of is_printed (t ∷ ts) ≡ true → words_of (line_text (t ∷ ts)) ≡ map token_text (t ∷ ts)
line-words t ts h = ap (λ l. filter is_some_of (slice_split is_blank l)) (line-kept t ts h) ∙ line-split t ts h

-- the line is the first of its text and what follows
line-first : (t : Token) (ts : Line) (rest : List ℕ) → all_of is_printed (t ∷ ts) ≡ true
    → lines_of (line_text (t ∷ ts) ++ rest) ≡ line_text (t ∷ ts) ∷ lines_of rest
line-first t [] rest h =
    let p = all-parts is_printed t [] h in
    ap lines_of (append_assoc (token_text t) (10 ∷ []) rest) ∙ word-lines (token_text t) (10 ∷ rest) (10 ∷ []) (lines_of rest) (plain t p.0) refl
line-first t (u ∷ ts) rest h =
    let p = all-parts is_printed t (u ∷ ts) h in
    ap lines_of (append_assoc (token_text t) (32 ∷ line_text (u ∷ ts)) rest)
    ∙ word-lines (token_text t) (32 ∷ (line_text (u ∷ ts) ++ rest)) (32 ∷ line_text (u ∷ ts)) (lines_of rest) (plain t p.0)
    (ap (onto_first 32) (line-first u ts rest p.1))

-- its bytes are good
line-good : (t : Token) (ts : Line) (rest : List ℕ) → all_of is_printed (t ∷ ts) ≡ true → are_good_bytes rest ≡ true
    → are_good_bytes (line_text (t ∷ ts) ++ rest) ≡ true
line-good t [] rest h e =
    let p = all-parts is_printed t [] h in
    ap are_good_bytes (append_assoc (token_text t) (10 ∷ []) rest) ∙ word-good (token_text t) (10 ∷ rest) (plain t p.0) e
line-good t (u ∷ ts) rest h e =
    let p = all-parts is_printed t (u ∷ ts) h in
    ap are_good_bytes (append_assoc (token_text t) (32 ∷ line_text (u ∷ ts)) rest)
    ∙ word-good (token_text t) (32 ∷ (line_text (u ∷ ts) ++ rest)) (plain t p.0) (line-good u ts rest p.1 e)

-- ---- texts

-- the lines with words are those of the tokens
pub text-words : (ls : List Line) → all_of is_printed_line ls ≡ true → token_lines (flat_map line_text ls) ≡ map (map token_text) ls
text-words [] h = refl
text-words ([] ∷ ls) h = absurd (true≢false (sym h))
text-words ((t ∷ ts) ∷ ls) h =
    let p = all-parts is_printed_line (t ∷ ts) ls h in
    ap (λ lines. filter is_some_of (map words_of lines)) (line-first t ts (flat_map line_text ls) p.0)
    ∙ ap (λ ws. filter is_some_of (ws ∷ map words_of (lines_of (flat_map line_text ls)))) (line-words t ts p.0)
    ∙ ap (λ rest. map token_text (t ∷ ts) ∷ rest) (text-words ls p.1)

-- and every byte is good
pub text-good : (ls : List Line) → all_of is_printed_line ls ≡ true → are_good_bytes (flat_map line_text ls) ≡ true
text-good [] h = refl
text-good ([] ∷ ls) h = absurd (true≢false (sym h))
text-good ((t ∷ ts) ∷ ls) h =
    let p = all-parts is_printed_line (t ∷ ts) ls h in line-good t ts (flat_map line_text ls) p.0 (text-good ls p.1)
