-- The text that is printed of an image reads as the image.
use Rattle.std.proofs.Common.{◌≡◌, ℕ, suc, ◌+◌, ◌^◌, ◌<◌, ◌≤◌, List, [], ◌∷◌, ◌++◌, Bool, true, refl, sym, ap, ap₂, subst, ◌∙◌, arith, tests}
use Rattle.std.proofs.Common.{append_assoc, map, filter, flat_map, Some, Result, Ok, nat_le}
use Rattle.std.specs.Prelude.{codes, decimal}
use Rattle.std.proofs.lemmas.Bool.{le-leb}
use Rattle.std.proofs.lemmas.Fmt.{decimal_digit}
use Rattle.tam_word.specs.Lists.{all_of, all_differ, same_bytes}
use Rattle.tam_word.specs.Words.{signed_text}
use Rattle.tam_word.specs.Numbers.{word_of, some_if}
use Rattle.tam_word.proofs.Tests.{below-test}
use Rattle.tam_word.proofs.SignedText.{word_of-signed_text}
use Rattle.tam_text.specs.Lines.{lines_of, are_good_bytes, is_some_of}
use Rattle.rv_inst.specs.Instructions.{decoded}
use Rattle.rv_inst.specs.Images.{Image}
use Rattle.rv_image.specs.ImageFiles.{max_places}
use Rattle.rv_image.specs.ImageFiles.{is_stride, IsImage}
use Rattle.rv_image.specs.ImageLaws.{AreBelow}
use Rattle.rv_asm.specs.declared.asm_error.AsmCause.{AsmCause}
use Rattle.rv_asm.specs.declared.head.Next.TheVariants as next
use Rattle.rv_asm.specs.Head.{head_number}
use Rattle.rv_asm.specs.Tokens.{tokens_of, token_lines}
use Rattle.rv_asm.specs.Statements.{Word, Statement, Coded, statement_of, where_word}
use Rattle.rv_asm.specs.Faults.{Labels}
use Rattle.rv_asm.specs.Reading.{labels_from, codes_in, words_at, AreLines, AsmReads}
use Rattle.rv_asm.specs.AsmText.{word_line, head_line, asm_text}
use Rattle.rv_asm.proofs.Spoken.{said_again}
use Rattle.rv_asm.proofs.Worded.{word_tokens}
use Rattle.tam_text.proofs.PlainWords.{all-more}
use Rattle.rv_asm.proofs.PrintedLines.{IsPrinted, printed-tokens, printed-some, printed-first, printed-good, image-printed, stride-printed}
use Rattle.rv_asm.proofs.PrintedLines.{params-printed, results-printed, word-printed}

-- ---- numbers of the head

-- a small number in decimal reads as that number
decimal-read : (n : ℕ) → n < 2 ^ 31 → word_of (decimal n) ≡ Some n
decimal-read n l =
    let same : signed_text n ≡ decimal n = rw (below-test n (2 ^ 31) l) refl in ap word_of (sym same) ∙ word_of-signed_text n (omega arith)

-- a test that holds keeps the number
kept : (test : ℕ → Bool) (n : ℕ) → test n ≡ true → where_word test (Some n) ≡ Some n
kept test n h = ap (λ (t : Bool). some_if t n) h

-- a number of bytes of a frame is small
pub stride-small : (s : ℕ) → is_stride s ≡ true → s < 2 ^ 31
stride-small s h = grind (arith, tests)

-- the first line of the head
image-number : head_number next.Image (codes ".image" ∷ decimal 1 ∷ []) ≡ Some 1
image-number = ap (λ (t : List ℕ). some_if (same_bytes t (codes "1")) 1) (decimal_digit 1 (omega arith))

-- the second
stride-number : (n : ℕ) → is_stride n ≡ true → head_number next.Stride (codes ".stride" ∷ decimal n ∷ []) ≡ Some n
stride-number n h = ap (where_word is_stride) (decimal-read n (stride-small n h)) ∙ kept is_stride n h

-- the third
params-number : (n : ℕ) → n ≤ max_places → head_number next.Params (codes ".params" ∷ decimal n ∷ []) ≡ Some n
params-number n h = ap (where_word (λ n. nat_le n max_places)) (decimal-read n (omega arith)) ∙ kept (λ n. nat_le n max_places) n (le-leb n max_places h)

-- the fourth
results-number : (n : ℕ) → n ≤ max_places → head_number next.Results (codes ".results" ∷ decimal n ∷ []) ≡ Some n
results-number n h = ap (where_word (λ n. nat_le n max_places)) (decimal-read n (omega arith)) ∙ kept (λ n. nat_le n max_places) n (le-leb n max_places h)

-- ---- lines of printed texts

-- a text whose lines are good and have these tokens
record IsText (text : List ℕ) (rows : List (List (List ℕ))) : Type 0 where
  good : all_of are_good_bytes (lines_of text) ≡ true
  tokens : token_lines text ≡ rows

-- no bytes
empty-text : IsText [] []
empty-text = record { good = refl; tokens = refl }

-- a line that has tokens is kept
some-kept : (ts : List (List ℕ)) (rows : List (List (List ℕ))) → is_some_of ts ≡ true → filter is_some_of (ts ∷ rows) ≡ ts ∷ filter is_some_of rows
some-kept ts rows h = rw h refl

-- a line before a text
line-before : (line text : List ℕ) (ts : List (List ℕ)) (rows : List (List (List ℕ))) → IsPrinted line ts → IsText text rows
    → IsText (line ++ text) (ts ∷ rows)
line-before line text ts rows p h =
    let first = printed-first line ts p text in
    record {
      good = ap (all_of are_good_bytes) first ∙ all-more are_good_bytes line (lines_of text) (printed-good line ts p) h.good;
      tokens = ap (λ (ls : List (List ℕ)). filter is_some_of (map tokens_of ls)) first
          ∙ ap (λ (us : List (List ℕ)). filter is_some_of (us ∷ map tokens_of (lines_of text))) (printed-tokens line ts p)
          ∙ some-kept ts (map tokens_of (lines_of text)) (printed-some line ts p) ∙ ap (λ (rs : List (List (List ℕ))). ts ∷ rs) h.tokens;
    }

-- the tokens of a word
abbrev tokens_of_word : ℕ → List (List ℕ)
tokens_of_word w = word_tokens w (decoded w)

-- the lines of words
words-text : (ws : List ℕ) → AreBelow (2 ^ 32) ws → IsText (flat_map word_line ws) (map tokens_of_word ws)
words-text [] h = empty-text
words-text (w ∷ ws) h =
    line-before (word_line w) (flat_map word_line ws) (tokens_of_word w) (map tokens_of_word ws) (word-printed w (h 0)) (words-text ws (λ k. h (suc k)))

-- the tokens of the whole text
abbrev text_rows : Image → List (List (List ℕ))
text_rows image =
    (codes ".image" ∷ decimal 1 ∷ []) ∷ (codes ".stride" ∷ decimal image.stride ∷ []) ∷ (codes ".params" ∷ decimal image.params ∷ [])
    ∷ (codes ".results" ∷ decimal image.results ∷ []) ∷ map tokens_of_word image.words

-- the text, from the front
pub text-same : (image : Image) → asm_text image ≡ head_line (codes ".image ") 1 ++ (head_line (codes ".stride ") image.stride
    ++ (head_line (codes ".params ") image.params ++ (head_line (codes ".results ") image.results ++ flat_map word_line image.words)))
text-same image =
    let first = head_line (codes ".image ") 1 in
    let second = head_line (codes ".stride ") image.stride in
    let third = head_line (codes ".params ") image.params in
    let fourth = head_line (codes ".results ") image.results in
    let words = flat_map word_line image.words in
    append_assoc (first ++ second ++ third) fourth words ∙ append_assoc (first ++ second) third (fourth ++ words)
    ∙ append_assoc first second (third ++ (fourth ++ words))

-- the text has them
whole-text : (image : Image) → IsImage image → AreBelow (2 ^ 32) image.words → IsText (asm_text image) (text_rows image)
whole-text image i b =
    let params = i.params in
    let results = i.results in
    subst (λ (t : List ℕ). IsText t (text_rows image)) (sym (text-same image))
    (line-before (head_line (codes ".image ") 1) _ _ _ (image-printed 1 (omega arith))
    (line-before (head_line (codes ".stride ") image.stride) _ _ _ (stride-printed image.stride (stride-small image.stride i.stride))
    (line-before (head_line (codes ".params ") image.params) _ _ _ (params-printed image.params (omega arith))
    (line-before (head_line (codes ".results ") image.results) _ _ _ (results-printed image.results (omega arith)) (words-text image.words b)))))

-- ---- statements

-- a word's statement
abbrev pub said_word : ℕ → Statement
said_word w = Coded (Word w)

-- no labels
no-labels : (n : ℕ) (ws : List ℕ) → labels_from n (map said_word ws) ≡ []
no-labels n [] = refl
no-labels n (w ∷ ws) = no-labels (n + 1) ws

-- the words
words-there : (n : ℕ) (ws : List ℕ) → words_at [] n (codes_in (map said_word ws)) ≡ map Ok ws
words-there n [] = refl
words-there n (w ∷ ws) = ap (λ (rs : List (Result ℕ AsmCause)). Ok w ∷ rs) (words-there (n + 1) ws)

-- what one line says, and what the lines behind it say
row-before : {X Y : Type 0} → X → Y → X × Y
row-before x y = (x, y)

-- what the tokens of words say
words-said : (ws : List ℕ) → AreBelow (2 ^ 32) ws → map statement_of (map tokens_of_word ws) ≡ map Ok (map said_word ws)
words-said [] h = refl
words-said (w ∷ ws) h =
    ap₂ (λ (r : Result Statement AsmCause) (rs : List (Result Statement AsmCause)). r ∷ rs) (said_again w (h 0)) (words-said ws (λ k. h (suc k)))

-- the text reads as the image
pub text_reads : (image : Image) → IsImage image → AreBelow (2 ^ 32) image.words → AsmReads (asm_text image) image
text_reads image i b =
    let whole = whole-text image i b in
    let fourth = row-before (results-number image.results i.results) (words-said image.words b) in
    let third = row-before (params-number image.params i.params) fourth in
    let second = row-before (stride-number image.stride i.stride) third in
    let none : labels_from 0 (map said_word image.words) ≡ [] = no-labels 0 image.words in
    record {
      statements = map said_word image.words;
      good = whole.good;
      lines = subst (AreLines image (map said_word image.words) next.Image) (sym whole.tokens) (image-number, second);
      labels_differ = ap (λ (ls : Labels). all_differ same_bytes (map (λ l. l.0) ls)) none;
      words = ap (λ (ls : Labels). words_at ls 0 (codes_in (map said_word image.words))) none ∙ words-there 0 image.words;
      in_range = i;
    }

-- and so does a text that is the same
pub printed_text : (text : List ℕ) (image : Image) → IsImage image → AreBelow (2 ^ 32) image.words → text ≡ asm_text image → AsmReads text image
printed_text text image i b e = subst (λ (t : List ℕ). AsmReads t image) (sym e) (text_reads image i b)
