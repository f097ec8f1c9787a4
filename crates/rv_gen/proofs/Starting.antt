-- Where threads and records begin: from one code to the next, and by the list of addresses.
use Rattle.std.proofs.Common.{◌≡◌, ℕ, zero, suc, ◌+◌, ◌*◌, ◌<◌, ◌≤◌, List, [], ◌∷◌, length, take, get_or, refl, ap, ◌∙◌, arith, slice_get}
use Rattle.std.specs.Prelude.{sum_by, slice_index}
use Rattle.std.proofs.lemmas.List.Sums.{sum_by-cons, sum_by_more, sum_by_more_le}
use Rattle.tl0_code.specs.ThreadCode.{Thread, CodeText, Program, or_text, code_text}
use Rattle.rv_keep.specs.Image.{thread_words, threads_words, code_words, record_words, words_in_all, start_of, record_of}
use Rattle.rv_gen.specs.Parts.{starts_from, starts_in}

-- ---- codes by their numbers

-- a code that was read is the one of its number
pub text-read : (cs : List CodeText) (n : ℕ) (x : CodeText) → n < length cs → x ≡ get_or cs n x → x ≡ or_text (slice_get cs n)
text-read [] n x l e = absurd (omega arith)
text-read (c ∷ cs) zero x l e = e
text-read (c ∷ cs) (suc n) x l e = text-read cs n x (omega arith) e

-- so is the one in place of another
text-got : (cs : List CodeText) (n : ℕ) → get_or cs n (or_text (slice_get cs n)) ≡ or_text (slice_get cs n)
text-got [] n = refl
text-got (c ∷ cs) zero = refl
text-got (c ∷ cs) (suc n) = text-got cs n

-- the sum over the first codes and one more
codes-more : (g : CodeText → ℕ) (cs : List CodeText) (n : ℕ) → n < length cs
    → sum_by g (take (n + 1) cs) ≡ sum_by g (take n cs) + g (or_text (slice_get cs n))
codes-more g cs n l = sum_by_more g cs n (or_text (slice_get cs n)) l ∙ ap (λ (x : CodeText). sum_by g (take n cs) + g x) (text-got cs n)

-- they are within the sum over all
codes-within : (g : CodeText → ℕ) (cs : List CodeText) (n : ℕ) → n < length cs → sum_by g (take n cs) + g (or_text (slice_get cs n)) ≤ sum_by g cs
codes-within g cs n l =
    let a : sum_by g (take n cs) + g (get_or cs n (or_text (slice_get cs n))) ≤ sum_by g cs = sum_by_more_le g cs n (or_text (slice_get cs n)) l in
    let b : g (get_or cs n (or_text (slice_get cs n))) ≡ g (or_text (slice_get cs n)) = ap (λ (x : CodeText). g x) (text-got cs n) in
    omega arith

-- the threads of the next code begin behind those of a code
pub next-start : (p : Program) (c : ℕ) → c < length p.codes → start_of p (c + 1) 0 ≡ start_of p c 0 + 4 * code_words (code_text p c)
next-start p c l =
    let a : sum_by code_words (take (c + 1) p.codes) ≡ sum_by code_words (take c p.codes) + code_words (code_text p c) = codes-more code_words p.codes c l in
    omega arith

-- within the image
pub start-within : (p : Program) (c : ℕ) → c < length p.codes → start_of p c 0 + 4 * code_words (code_text p c) ≤ 4 * words_in_all p
start-within p c l =
    let a : sum_by code_words (take c p.codes) + code_words (code_text p c) ≤ sum_by code_words p.codes = codes-within code_words p.codes c l in
    omega arith

-- so does the next record
pub next-record : (p : Program) (c : ℕ) → c < length p.codes → record_of p (c + 1) ≡ record_of p c + 4 * record_words (code_text p c)
next-record p c l =
    let a : sum_by record_words (take (c + 1) p.codes) ≡ sum_by record_words (take c p.codes) + record_words (code_text p c) =
    codes-more record_words p.codes c l in
    omega arith

-- within the image
pub record-within : (p : Program) (c : ℕ) → c < length p.codes → record_of p c + 4 * record_words (code_text p c) ≤ 4 * words_in_all p
record-within p c l =
    let a : sum_by record_words (take c p.codes) + record_words (code_text p c) ≤ sum_by record_words p.codes = codes-within record_words p.codes c l in
    omega arith

-- ---- threads by the list of their addresses

-- one address for each, and one behind them
pub starts-long : (n : ℕ) (ts : List Thread) → length (starts_from n ts) ≡ length ts + 1
starts-long n [] = refl
starts-long n (t ∷ ts) =
    let a : length (starts_from (n + 4 * thread_words t) ts) ≡ length ts + 1 = starts-long (n + 4 * thread_words t) ts in
    omega arith

-- each stands behind the words of the threads before it
pub starts-at : (n : ℕ) (ts : List Thread) (t : ℕ) → t ≤ length ts → slice_index (starts_from n ts) t ≡ n + 4 * threads_words (take t ts)
starts-at n [] zero l = omega arith
starts-at n [] (suc t) l = absurd (omega arith)
starts-at n (x ∷ ts) zero l = omega arith
starts-at n (x ∷ ts) (suc t) l =
    let a : slice_index (starts_from (n + 4 * thread_words x) ts) t ≡ n + 4 * thread_words x + 4 * threads_words (take t ts) =
    starts-at (n + 4 * thread_words x) ts t (omega arith) in
    let b : threads_words (x ∷ take t ts) ≡ thread_words x + threads_words (take t ts) = sum_by-cons thread_words x (take t ts) in
    omega arith

-- one for each thread, and one behind them
pub starts-count : (p : Program) (c : ℕ) → length (starts_in p c) ≡ length (code_text p c).threads + 1
starts-count p c = starts-long (start_of p c 0) (code_text p c).threads

-- are where they begin
pub starts-are : (p : Program) (c t : ℕ) → t < length (starts_in p c) → slice_index (starts_in p c) t ≡ start_of p c t
starts-are p c t l =
    let ts : List Thread = (code_text p c).threads in
    let a : length (starts_in p c) ≡ length ts + 1 = starts-long (start_of p c 0) ts in
    let b : slice_index (starts_in p c) t ≡ start_of p c 0 + 4 * threads_words (take t ts) = starts-at (start_of p c 0) ts t (omega arith) in
    omega arith

-- all of a list
take-whole : {X : Type 0} (xs : List X) → take (length xs) xs ≡ xs
take-whole [] = refl
take-whole (x ∷ xs) = ap (λ ys. x ∷ ys) (take-whole xs)

-- the last is where the next code's begin
pub starts-end : (p : Program) (c : ℕ) → c < length p.codes → slice_index (starts_in p c) (length (code_text p c).threads) ≡ start_of p (c + 1) 0
starts-end p c l =
    let ts : List Thread = (code_text p c).threads in
    let a : slice_index (starts_in p c) (length ts) ≡ start_of p c 0 + 4 * threads_words (take (length ts) ts) =
    starts-at (start_of p c 0) ts (length ts) (omega arith) in
    let b : threads_words (take (length ts) ts) ≡ threads_words ts = ap (λ (xs : List Thread). threads_words xs) (take-whole ts) in
    let d : start_of p (c + 1) 0 ≡ start_of p c 0 + 4 * code_words (code_text p c) = next-start p c l in
    omega arith
