-- The tokens that are cut off one after the other are those of the pieces between commas.
use Rattle.std.proofs.Common.{◌≡◌, ℕ, zero, suc, Bool, true, false, not, ◌||◌, ◌==◌, List, [], ◌∷◌, ◌++◌, take, drop, filter, refl, sym, ap, ◌∙◌, subst}
use Rattle.std.proofs.Common.{Option, Some, None, true≢false, ◌<◌, ◌-◌, arith, Bor, append-nil}
use Rattle.std.specs.List.{onto_first, slice_split}
use Rattle.tam_word.proofs.Tests.{number-eq}
use Rattle.tam_text.specs.Lines.{is_blank, without_comment, is_some_of, words_of}
use Rattle.rv_asm.specs.Tokens.{is_comma, further_tokens, tokens_in, tokens_of}
use Rattle.rv_asm.specs.StatementView.{texts}
use Rattle.rv_asm.specs.Splitting.{is_inside, word_len, cut_word, first_token, tokens_up_to}

-- the pieces of a line between commas
abbrev pieces : List ℕ → List (List ℕ)
pieces bs = slice_split is_comma (without_comment bs)

-- the pieces of a piece between blanks
abbrev parts : List ℕ → List (List ℕ)
parts bs = slice_split is_blank (without_comment bs)

-- ---- one byte

-- a byte that is no `#` stands before the comment
over_comment : (b : ℕ) (bs : List ℕ) → (b == 35) ≡ false → without_comment (b ∷ bs) ≡ b ∷ without_comment bs
over_comment b bs h = rw (without_comment, h) refl

-- one that is no comma stands in the first piece
over_comma : (b : ℕ) (xs : List ℕ) → is_comma b ≡ false → slice_split is_comma (b ∷ xs) ≡ onto_first b (slice_split is_comma xs)
over_comma b xs h = rw h refl

-- one that is no blank stands in the first part
over_blank : (b : ℕ) (xs : List ℕ) → is_blank b ≡ false → slice_split is_blank (b ∷ xs) ≡ onto_first b (slice_split is_blank xs)
over_blank b xs h = rw h refl

-- a blank is before an empty part
at_blank : (b : ℕ) (xs : List ℕ) → is_blank b ≡ true → slice_split is_blank (b ∷ xs) ≡ [] ∷ slice_split is_blank xs
at_blank b xs h = rw h refl

-- what a byte is not
record IsNone (b : ℕ) : Type 0 where
  comma : is_comma b ≡ false
  comment : (b == 35) ≡ false

-- a blank is no comma and no `#`
blank_none : (b : ℕ) → is_blank b ≡ true → IsNone b
blank_none b h = go (is_comma b) refl (b == 35) refl
  where
    go : (t : Bool) → is_comma b ≡ t → (u : Bool) → (b == 35) ≡ u → IsNone b
    go true e u f = let is : b ≡ 44 = number-eq b 44 e in absurd (true≢false (sym h ∙ ap is_blank is))
    go false e true f = let is : b ≡ 35 = number-eq b 35 f in absurd (true≢false (sym h ∙ ap is_blank is))
    go false e false f = record { comma = e; comment = f }

-- the pieces with such a byte before them
pieces_over : (b : ℕ) (bs : List ℕ) → IsNone b → pieces (b ∷ bs) ≡ onto_first b (pieces bs)
pieces_over b bs h = ap (slice_split is_comma) (over_comment b bs h.comment) ∙ over_comma b (without_comment bs) h.comma

-- ---- the first word

-- how a line is cut behind its first n bytes: the first piece and the first part go through the cut
record Cut (bs : List ℕ) (n : ℕ) : Type 0 where
  piece : List ℕ
  others : List (List ℕ)
  words : List (List ℕ)
  behind : pieces (drop n bs) ≡ piece ∷ others
  all : pieces bs ≡ (take n bs ++ piece) ∷ others
  parts_behind : parts piece ≡ [] ∷ words
  parts_all : parts (take n bs ++ piece) ≡ take n bs ∷ words

-- one byte more of the word
cut_inside : (b : ℕ) (bs : List ℕ) (n : ℕ) → is_blank b ≡ false → IsNone b → Cut bs n → Cut (b ∷ bs) (suc n)
cut_inside b bs n blank none c = record {
  piece = c.piece;
  others = c.others;
  words = c.words;
  behind = c.behind;
  all = pieces_over b bs none ∙ ap (onto_first b) c.all;
  parts_behind = c.parts_behind;
  parts_all = ap (slice_split is_blank) (over_comment b (take n bs ++ c.piece) none.comment)
      ∙ (over_blank b (without_comment (take n bs ++ c.piece)) blank ∙ ap (onto_first b) c.parts_all);
}

-- a blank behind it
cut_blank : (b : ℕ) (bs : List ℕ) (n : ℕ) → is_blank b ≡ true → Cut bs n → Cut (b ∷ bs) 0
cut_blank b bs n blank c =
    let none = blank_none b blank in
    let first : pieces (b ∷ bs) ≡ (b ∷ take n bs ++ c.piece) ∷ c.others = pieces_over b bs none ∙ ap (onto_first b) c.all in
    let part : parts (b ∷ take n bs ++ c.piece) ≡ [] ∷ parts (take n bs ++ c.piece) =
    ap (slice_split is_blank) (over_comment b (take n bs ++ c.piece) none.comment) ∙ at_blank b (without_comment (take n bs ++ c.piece)) blank in
    record {
      piece = b ∷ take n bs ++ c.piece;
      others = c.others;
      words = parts (take n bs ++ c.piece);
      behind = first;
      all = first;
      parts_behind = part;
      parts_all = part;
    }

-- a comma
cut_comma : (bs : List ℕ) → Cut (44 ∷ bs) 0
cut_comma bs = record { piece = []; others = pieces bs; words = []; behind = refl; all = refl; parts_behind = refl; parts_all = refl }

-- a comment
cut_comment : (bs : List ℕ) → Cut (35 ∷ bs) 0
cut_comment bs = record { piece = []; others = []; words = []; behind = refl; all = refl; parts_behind = refl; parts_all = refl }

-- a byte that is neither of three
neither : (x y z : Bool) → x ≡ false → y ≡ false → z ≡ false → not (x || (y || z)) ≡ true
neither x y z e f g = rw (e, f, g) refl

-- one that is the first
first_of_three : (x y z : Bool) → x ≡ true → not (x || (y || z)) ≡ false
first_of_three x y z e = rw e refl

-- a byte inside a word makes it longer
len_inside : (b : ℕ) (bs : List ℕ) → is_inside b ≡ true → word_len (b ∷ bs) ≡ suc (word_len bs)
len_inside b bs h = ap (λ (t : Bool). elim t [ true ↦ suc (word_len bs) | false ↦ 0 ]) h

-- another ends it
len_outside : (b : ℕ) (bs : List ℕ) → is_inside b ≡ false → word_len (b ∷ bs) ≡ 0
len_outside b bs h = ap (λ (t : Bool). elim t [ true ↦ suc (word_len bs) | false ↦ 0 ]) h

-- the cut behind the first word
cut : (bs : List ℕ) → Cut bs (word_len bs)
cut [] = record { piece = []; others = []; words = []; behind = refl; all = refl; parts_behind = refl; parts_all = refl }
cut (b ∷ bs) = go (is_blank b) refl (is_comma b) refl (b == 35) refl (cut bs)
  where
    go : (t : Bool) → is_blank b ≡ t → (u : Bool) → is_comma b ≡ u → (v : Bool) → (b == 35) ≡ v → Cut bs (word_len bs) → Cut (b ∷ bs) (word_len (b ∷ bs))
    go true e u f v g c =
        let len : word_len (b ∷ bs) ≡ 0 = len_outside b bs (first_of_three (is_blank b) (is_comma b) (b == 35) e) in
        subst (λ (n : ℕ). Cut (b ∷ bs) n) (sym len) (cut_blank b bs (word_len bs) e c)
    go false e true f v g c =
        let is : b ≡ 44 = number-eq b 44 f in subst (λ (x : ℕ). Cut (x ∷ bs) (word_len (x ∷ bs))) (sym is) (cut_comma bs)
    go false e false f true g c =
        let is : b ≡ 35 = number-eq b 35 g in subst (λ (x : ℕ). Cut (x ∷ bs) (word_len (x ∷ bs))) (sym is) (cut_comment bs)
    go false e false f false g c =
        let len : word_len (b ∷ bs) ≡ suc (word_len bs) = len_inside b bs (neither (is_blank b) (is_comma b) (b == 35) e f g) in
        subst (λ (n : ℕ). Cut (b ∷ bs) n) (sym len) (cut_inside b bs (word_len bs) e (record { comma = f; comment = g }) c)

-- ---- the first token

-- a piece that isn't empty is a word
first_some : (w : List ℕ) (ws : List (List ℕ)) → is_some_of w ≡ true → filter is_some_of (w ∷ ws) ≡ w ∷ filter is_some_of ws
first_some w ws h = rw h refl

-- a word that isn't empty is the first token, and those behind it are the others
word_token : (bs : List ℕ) (n : ℕ) → Cut bs n → is_some_of (take n bs) ≡ true → tokens_of bs ≡ take n bs ∷ tokens_of (drop n bs)
word_token bs n c h =
    let w : List ℕ = take n bs in
    let here : words_of (w ++ c.piece) ≡ w ∷ filter is_some_of c.words = ap (filter is_some_of) c.parts_all ∙ first_some w c.words h in
    let there : words_of c.piece ≡ filter is_some_of c.words = ap (filter is_some_of) c.parts_behind in
    ap tokens_in c.all ∙ (ap (λ (x : List (List ℕ)). x ++ further_tokens c.others) here
    ∙ ap (λ (x : List (List ℕ)). w ∷ x) (sym (ap tokens_in c.behind ∙ ap (λ (x : List (List ℕ)). x ++ further_tokens c.others) there)))

-- a blank says nothing
blank_token : (b : ℕ) (bs : List ℕ) → is_blank b ≡ true → tokens_of (b ∷ bs) ≡ tokens_of bs
blank_token b bs h =
    let c = cut bs in
    let first : List ℕ = take (word_len bs) bs ++ c.piece in
    let none = blank_none b h in
    let part : parts (b ∷ first) ≡ [] ∷ parts first =
    ap (slice_split is_blank) (over_comment b first none.comment) ∙ at_blank b (without_comment first) h in
    ap tokens_in (pieces_over b bs none ∙ ap (onto_first b) c.all) ∙ (ap (λ (x : List (List ℕ)). filter is_some_of x ++ further_tokens c.others) part
    ∙ sym (ap tokens_in c.all))

-- a comma is a token
comma_token : (bs : List ℕ) → tokens_of (44 ∷ bs) ≡ (44 ∷ []) ∷ tokens_of bs
comma_token bs =
    let c = cut bs in
    ap further_tokens c.all ∙ ap (λ (x : List (List ℕ)). (44 ∷ []) ∷ x) (sym (ap tokens_in c.all))

-- what the first token tells of the tokens
abbrev Tells : List ℕ → Option (List ℕ × List ℕ) → Type 0
Tells bs None = tokens_of bs ≡ []
Tells bs (Some p) = tokens_of bs ≡ p.0 ∷ tokens_of p.1

-- behind a blank the same is told
tells_behind : (b : ℕ) (bs : List ℕ) (o : Option (List ℕ × List ℕ)) → is_blank b ≡ true → Tells bs o → Tells (b ∷ bs) o
tells_behind b bs None h t = blank_token b bs h ∙ t
tells_behind b bs (Some p) h t = blank_token b bs h ∙ t

-- it tells them
first_tells : (bs : List ℕ) → Tells bs (first_token bs)
first_tells [] = refl
first_tells (b ∷ bs) = go (is_blank b) refl (is_comma b) refl (b == 35) refl (first_tells bs)
  where
    go : (t : Bool) → is_blank b ≡ t → (u : Bool) → is_comma b ≡ u → (v : Bool) → (b == 35) ≡ v → Tells bs (first_token bs)
        → Tells (b ∷ bs) (first_token (b ∷ bs))
    go true e u f v g i =
        let is : first_token (b ∷ bs) ≡ first_token bs = rw (first_token, e) refl in
        subst (Tells (b ∷ bs)) (sym is) (tells_behind b bs (first_token bs) e i)
    go false e true f v g i =
        let is : b ≡ 44 = number-eq b 44 f in subst (λ (x : ℕ). Tells (x ∷ bs) (first_token (x ∷ bs))) (sym is) (comma_token bs)
    go false e false f true g i =
        let is : b ≡ 35 = number-eq b 35 g in subst (λ (x : ℕ). Tells (x ∷ bs) (first_token (x ∷ bs))) (sym is) refl
    go false e false f false g i =
        let len : word_len (b ∷ bs) ≡ suc (word_len bs) = len_inside b bs (neither (is_blank b) (is_comma b) (b == 35) e f g) in
        let some : is_some_of (take (word_len (b ∷ bs)) (b ∷ bs)) ≡ true = ap (λ (n : ℕ). is_some_of (take n (b ∷ bs))) len in
        let told : tokens_of (b ∷ bs) ≡ (cut_word (b ∷ bs)).0 ∷ tokens_of (cut_word (b ∷ bs)).1 =
        word_token (b ∷ bs) (word_len (b ∷ bs)) (cut (b ∷ bs)) some in
        let is : first_token (b ∷ bs) ≡ Some (cut_word (b ∷ bs)) = rw (first_token, e, f, g) refl in
        subst (Tells (b ∷ bs)) (sym is) told

-- so the first n tokens are those that are cut off
pub cut_off : (n : ℕ) (bs : List ℕ) → tokens_up_to n bs ≡ take n (tokens_of bs)
cut_off zero bs = refl
cut_off (suc n) bs = go (first_token bs) (first_tells bs) (cut_off n)
  where
    go : (o : Option (List ℕ × List ℕ)) → Tells bs o → ((cs : List ℕ) → tokens_up_to n cs ≡ take n (tokens_of cs))
        → elim o [ None ↦ [] | Some p ↦ p.0 ∷ tokens_up_to n p.1 ] ≡ take (suc n) (tokens_of bs)
    go None t i = sym (ap (take (suc n)) t)
    go (Some p) t i = ap (λ (x : List (List ℕ)). p.0 ∷ x) (i p.1) ∙ sym (ap (take (suc n)) t)

-- ---- one token after the other

-- where there is no first token there is none
pub none_left : (n : ℕ) (bs : List ℕ) → first_token bs ≡ None → tokens_up_to n bs ≡ []
none_left zero bs h = refl
none_left (suc n) bs h = rw (tokens_up_to, h) refl

-- else it is followed by one token less
pub one_more : (n : ℕ) (bs token behind : List ℕ) → 0 < n → first_token bs ≡ Some (token, behind) → tokens_up_to n bs ≡ token ∷ tokens_up_to (n - 1) behind
one_more zero bs token behind l h = absurd (omega arith)
one_more (suc n) bs token behind l h = let e : suc n - 1 ≡ n = omega arith in rw (tokens_up_to, h, e) refl

-- a token is put behind others
pub pushed : (ts : List (Bor (List ℕ))) (t : Bor (List ℕ)) (xs : List (List ℕ)) → texts (ts ++ t ∷ []) ++ xs ≡ texts ts ++ (t.now ∷ xs)
pushed [] t xs = refl
pushed (u ∷ ts) t xs = ap (λ (x : List (List ℕ)). u.now ∷ x) (pushed ts t xs)

-- where no more follow, those so far are all
pub no_more : (xs ys : List (List ℕ)) (n : ℕ) (bs : List ℕ) → tokens_up_to n bs ≡ [] → xs ++ tokens_up_to n bs ≡ ys → xs ≡ ys
no_more xs ys n bs h e = sym (append-nil xs) ∙ (ap (λ (x : List (List ℕ)). xs ++ x) (sym h) ∙ e)
