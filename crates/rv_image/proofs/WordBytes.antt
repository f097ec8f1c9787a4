-- Bytes and the words that they spell.
use Rattle.std.proofs.Common.{◌≡◌, ℕ, zero, suc, ◌+◌, ◌*◌, ◌/◌, ◌%◌, ◌^◌, ◌<◌, ◌≤◌, List, [], ◌∷◌, ◌++◌, length, take, drop, refl, sym, ap, ◌∙◌, arith}
use Rattle.std.proofs.Common.{get_or, get_or-drop, append_assoc, append-nil, subst}
use Rattle.std.proofs.lemmas.List.{drop-drop, length-drop}
use Rattle.rv_inst.specs.Harts.{read_at, bytes_of, little_endian}
use Rattle.rv_inst.specs.Images.{bytes_of_words}
use Rattle.rv_inst.proofs.Bytes.{word-at, word-read}
use Rattle.rv_image.specs.ImageLaws.{AreBelow}

-- a digit of a number of bytes
digit : (a b : ℕ) → a < 256 → (a + 256 * b) % 256 ≡ a
digit a b h = omega arith

-- and what is above it
above : (a b : ℕ) → a < 256 → (a + 256 * b) / 256 ≡ b
above a b h = omega arith

-- four bytes are those of their word
four-back : (a b c d : ℕ) → a < 256 → b < 256 → c < 256 → d < 256 → bytes_of 4 (little_endian (a ∷ b ∷ c ∷ d ∷ [])) ≡ a ∷ b ∷ c ∷ d ∷ []
four-back a b c d ha hb hc hd =
    let n : ℕ = little_endian (a ∷ b ∷ c ∷ d ∷ []) in
    let p : n % 256 ≡ a = omega arith in
    let q : n / 256 % 256 ≡ b = omega arith in
    let r : n / 256 / 256 % 256 ≡ c = omega arith in
    let s : n / 256 / 256 / 256 % 256 ≡ d = omega arith in
    cc

-- the first word's bytes, and the rest
pub first-word : (bs : List ℕ) → AreBelow 256 bs → 4 ≤ length bs → bytes_of 4 (read_at bs 0 4) ++ drop 4 bs ≡ bs
first-word (a ∷ b ∷ c ∷ d ∷ bs) h l = ap (λ (x : List ℕ). x ++ bs) (four-back a b c d (h 0) (h 1) (h 2) (h 3))
first-word [] h l = absurd (omega arith)
first-word (a ∷ []) h l = absurd (omega arith)
first-word (a ∷ b ∷ []) h l = absurd (omega arith)
first-word (a ∷ b ∷ c ∷ []) h l = absurd (omega arith)

-- the bytes of words and one more
pub bytes_of_words-push : (ws : List ℕ) (w : ℕ) → bytes_of_words (ws ++ w ∷ []) ≡ bytes_of_words ws ++ bytes_of 4 w
bytes_of_words-push [] w = refl
bytes_of_words-push (v ∷ ws) w = ap (λ (x : List ℕ). bytes_of 4 v ++ x) (bytes_of_words-push ws w)

-- word k of words is read at its place
pub word-there : (ws : List ℕ) (k : ℕ) → k < length ws → get_or ws k 0 < 2 ^ 32 → read_at (bytes_of_words ws) (4 * k) 4 ≡ get_or ws k 0
word-there ws k l b =
    let e : take 4 (drop (4 * k) (bytes_of_words ws ++ [])) ≡ bytes_of 4 (get_or ws k 0) = word-at ws [] k l in
    ap (λ (x : List ℕ). little_endian (take 4 (drop (4 * k) x))) (sym (append-nil (bytes_of_words ws))) ∙ (ap little_endian e ∙ word-read (get_or ws k 0) b)

-- words with the same bytes are the same
pub bytes-differ : (ws vs : List ℕ) → AreBelow (2 ^ 32) ws → AreBelow (2 ^ 32) vs → bytes_of_words ws ≡ bytes_of_words vs → ws ≡ vs
bytes-differ [] [] h k e = refl
bytes-differ [] (v ∷ vs) h k e = absurd cc
bytes-differ (w ∷ ws) [] h k e = absurd cc
bytes-differ (w ∷ ws) (v ∷ vs) h k e =
    let p : bytes_of 4 w ≡ bytes_of 4 v = cc in
    let q : w ≡ v = sym (word-read w (h 0)) ∙ (ap little_endian p ∙ word-read v (k 0)) in
    let r : ws ≡ vs = bytes-differ ws vs (λ n. h (suc n)) (λ n. k (suc n)) (cc) in
    cc

-- the first four of bytes spell their first word
first-read : (bs : List ℕ) → 4 ≤ length bs → read_at (take 4 bs) 0 4 ≡ read_at bs 0 4
first-read (a ∷ b ∷ c ∷ d ∷ bs) l = refl
first-read [] l = absurd (omega arith)
first-read (a ∷ []) l = absurd (omega arith)
first-read (a ∷ b ∷ []) l = absurd (omega arith)
first-read (a ∷ b ∷ c ∷ []) l = absurd (omega arith)

-- bytes behind others are below what all are
tail-below : (n : ℕ) (xs ys : List ℕ) → AreBelow n (xs ++ ys) → AreBelow n ys
tail-below n [] ys h = h
tail-below n (x ∷ xs) ys h = tail-below n xs ys (λ k. h (suc k))

-- one word more is read
pub words-step : (ws bs all : List ℕ) (v : ℕ) → AreBelow 256 all → 4 ≤ length bs → v ≡ read_at (take 4 bs) 0 4 → bytes_of_words ws ++ bs ≡ all
    → bytes_of_words (ws ++ v ∷ []) ++ drop 4 bs ≡ all
words-step ws bs all v h l e i =
    let b : AreBelow 256 bs = tail-below 256 (bytes_of_words ws) bs (subst (AreBelow 256) (sym i) h) in
    let f : bytes_of 4 v ++ drop 4 bs ≡ bs = ap (λ (x : ℕ). bytes_of 4 x ++ drop 4 bs) (e ∙ first-read bs l) ∙ first-word bs b l in
    ap (λ (x : List ℕ). x ++ drop 4 bs) (bytes_of_words-push ws v)
    ∙ (append_assoc (bytes_of_words ws) (bytes_of 4 v) (drop 4 bs) ∙ (ap (λ (x : List ℕ). bytes_of_words ws ++ x) f ∙ i))

-- the bytes from a place on are those of the word there and those behind
pub next-word : (bs : List ℕ) (k : ℕ) → AreBelow 256 bs → k + 4 ≤ length bs → drop k bs ≡ bytes_of 4 (read_at bs k 4) ++ drop (k + 4) bs
next-word bs k h l =
    let m : 4 ≤ length (drop k bs) = simp length-drop (omega arith) in
    let b : AreBelow 256 (drop k bs) = λ n. rw get_or-drop (h (k + n)) in
    let e : drop 4 (drop k bs) ≡ drop (k + 4) bs = drop-drop 4 k bs in
    sym (first-word (drop k bs) b m) ∙ ap (λ (x : List ℕ). bytes_of 4 (read_at bs k 4) ++ x) e

-- the n words that bytes spell
abbrev pub words_of : ℕ → List ℕ → List ℕ
words_of zero bs = []
words_of (suc n) bs = read_at bs 0 4 ∷ words_of n (drop 4 bs)

-- a list of no length
none-left : (bs : List ℕ) → length bs ≡ 0 → [] ≡ bs
none-left [] h = refl
none-left (b ∷ bs) h = absurd (omega arith)

-- their bytes are those bytes
pub words_of-back : (n : ℕ) (bs : List ℕ) → AreBelow 256 bs → length bs ≡ 4 * n → bytes_of_words (words_of n bs) ≡ bs
words_of-back zero bs h l = none-left bs l
words_of-back (suc n) bs h l =
    let b : AreBelow 256 (drop 4 bs) = λ k. rw get_or-drop (h (4 + k)) in
    let m : length (drop 4 bs) ≡ 4 * n = simp length-drop (omega arith) in
    let i : bytes_of_words (words_of n (drop 4 bs)) ≡ drop 4 bs = words_of-back n (drop 4 bs) b m in
    ap (λ (x : List ℕ). bytes_of 4 (read_at bs 0 4) ++ x) i ∙ first-word bs h (omega arith)
