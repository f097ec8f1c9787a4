-- A word before other bytes: it stays before the comment, is cut off at the blank behind it and goes into the first line, and its bytes are good.
use Rattle.std.proofs.Common.{◌≡◌, ℕ, ◌≤◌, List, [], ◌∷◌, ◌++◌, Bool, true, false, not, refl, ap, arith, ◌==◌, ◌&&◌, nat_le, filter}
use Rattle.std.specs.List.{onto_first, slice_split}
use Rattle.std.proofs.lemmas.Bool.{le-leb, leb-true}
use Rattle.tam_word.specs.Lists.{all_of}
use Rattle.tam_word.proofs.Tests.{both-true, differs-number}
use Rattle.tam_text.specs.Lines.{lines_of, is_blank, without_comment, is_some_of, is_good_byte, are_good_bytes}
use Rattle.tam_text.proofs.PlainWords.{is_plain, is_word, all-parts}

-- ---- bytes of tokens

-- what a byte of a token is not
pub record IsInside (b : ℕ) : Type 0 where
  pub no_end : (b == 10) ≡ false
  pub no_comma : not (b == 44) ≡ true
  pub no_blank : is_blank b ≡ false
  pub no_comment : (b == 35) ≡ false
  pub good : (after : List ℕ) → is_good_byte b after ≡ true

-- a byte of a token is none of these
pub inside : (b : ℕ) → is_plain b ≡ true → IsInside b
inside b h =
    let p = both-true (nat_le 40 b) (nat_le b 126 && not (b == 44)) h in
    let q = both-true (nat_le b 126) (not (b == 44)) p.1 in
    let low : 40 ≤ b = leb-true 40 b p.0 in
    let high : b ≤ 126 = leb-true b 126 q.0 in
    let no_end : (b == 10) ≡ false = differs-number b 10 (λ e. omega arith) in
    let no_space : (b == 32) ≡ false = differs-number b 32 (λ e. omega arith) in
    let no_tab : (b == 9) ≡ false = differs-number b 9 (λ e. omega arith) in
    let no_return : (b == 13) ≡ false = differs-number b 13 (λ e. omega arith) in record {
      no_end = no_end;
      no_comma = q.1;
      no_blank = rw (no_space, no_tab, no_end, no_return) refl;
      no_comment = differs-number b 35 (λ e. omega arith);
      good = λ after. rw (no_end, no_tab, le-leb 32 b (omega arith), le-leb b 126 high) refl;
    }

-- ---- one word before other bytes

-- the bytes of a word are plain
pub plain : (w : List ℕ) → is_word w ≡ true → all_of is_plain w ≡ true
plain w h = (both-true (is_some_of w) (all_of is_plain w) h).1

-- and there are some
pub some : (w : List ℕ) → is_word w ≡ true → is_some_of w ≡ true
some w h = (both-true (is_some_of w) (all_of is_plain w) h).0

-- it stays before the comment
pub word-kept : (w rest : List ℕ) → all_of is_plain w ≡ true → without_comment (w ++ rest) ≡ w ++ without_comment rest
word-kept [] rest h = refl
word-kept (b ∷ bs) rest h =
    let p = all-parts is_plain b bs h in
    rw (without_comment, (inside b p.0).no_comment) (ap (λ l. b ∷ l) (word-kept bs rest p.1))

-- it is cut off at the blank behind it
pub word-split : (w : List ℕ) (blank : ℕ) (rest : List ℕ) → all_of is_plain w ≡ true → is_blank blank ≡ true
    → slice_split is_blank (w ++ blank ∷ rest) ≡ w ∷ slice_split is_blank rest
word-split [] blank rest h e = rw e refl
word-split (b ∷ bs) blank rest h e =
    let p = all-parts is_plain b bs h in
    rw (inside b p.0).no_blank (ap (onto_first b) (word-split bs blank rest p.1 e))

-- it is one piece between blanks
pub word-whole : (w : List ℕ) → all_of is_plain w ≡ true → slice_split is_blank w ≡ w ∷ []
word-whole [] h = refl
word-whole (b ∷ bs) h =
    let p = all-parts is_plain b bs h in
    rw (inside b p.0).no_blank (ap (onto_first b) (word-whole bs p.1))

-- it goes into the first line
pub word-lines : (w rest line : List ℕ) (lines : List (List ℕ)) → all_of is_plain w ≡ true → lines_of rest ≡ line ∷ lines
    → lines_of (w ++ rest) ≡ (w ++ line) ∷ lines
word-lines [] rest line lines h e = e
word-lines (b ∷ bs) rest line lines h e =
    let p = all-parts is_plain b bs h in
    rw (lines_of, (inside b p.0).no_end) (ap (onto_first b) (word-lines bs rest line lines p.1 e))

-- its bytes are good
pub word-good : (w rest : List ℕ) → all_of is_plain w ≡ true → are_good_bytes rest ≡ true → are_good_bytes (w ++ rest) ≡ true
word-good [] rest h e = e
word-good (b ∷ bs) rest h e =
    let p = all-parts is_plain b bs h in
    rw (are_good_bytes, (inside b p.0).good (bs ++ rest)) (word-good bs rest p.1 e)

-- a piece that isn't empty is a word
pub first-word : (w : List ℕ) (ws : List (List ℕ)) → is_some_of w ≡ true → filter is_some_of (w ∷ ws) ≡ w ∷ filter is_some_of ws
first-word w ws h = rw h refl
