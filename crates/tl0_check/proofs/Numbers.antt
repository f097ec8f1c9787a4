-- Numbers of 32 bits, joined.
use Rattle.std.proofs.Common.{◌≡◌, ℕ, ◌^◌, ◌<◌, ◌≤◌, nat_lt, Bool, true, false, List, [], ◌∷◌, ◌++◌, flat_map, refl, sym, arith, true≢false}
use Rattle.std.proofs.lemmas.Bool.{lt-ltb}
use Rattle.tam_word.specs.Lists.{all_of}
use Rattle.tl0_code.specs.ThreadCode.{CodeText, HasCodeLimits, IsCodeText}
use Rattle.tl0_check.specs.FirstFault.{are_words, numbers_of_inlet, numbers_of_thread}

-- a word before words
pub words-first : (x : ℕ) (xs : List ℕ) → x < 2 ^ 32 → are_words xs ≡ true → are_words (x ∷ xs) ≡ true
words-first x xs l h = rw (all_of, lt-ltb x (2 ^ 32) l) h

-- words before words
pub words-both : (xs ys : List ℕ) → are_words xs ≡ true → are_words ys ≡ true → are_words (xs ++ ys) ≡ true
words-both [] ys h k = k
words-both (x ∷ xs) ys h k = go (nat_lt x (2 ^ 32)) refl (words-both xs ys)
  where
    go : (b : Bool) → nat_lt x (2 ^ 32) ≡ b → (are_words xs ≡ true → are_words ys ≡ true → are_words (xs ++ ys) ≡ true)
        → are_words (x ∷ (xs ++ ys)) ≡ true
    go true e i = rw (all_of, e) (i (rw (all_of, e) at h) k)
    go false e i = absurd (true≢false (sym (rw (all_of, e) at h)))

-- a code whose numbers were looked at stands in some text
pub code-of_text : (c : CodeText) → HasCodeLimits c → (c.params ≤ 64) × (c.results ≤ 64) → are_words (flat_map numbers_of_inlet c.inlets) ≡ true
    → are_words (flat_map numbers_of_thread c.threads) ≡ true → IsCodeText c
code-of_text c h few inlets threads =
    let p : c.params < 2 ^ 32 = omega (arith, few.0) in
    let r : c.results < 2 ^ 32 = omega (arith, few.1) in
    let behind : List ℕ = flat_map numbers_of_inlet c.inlets ++ flat_map numbers_of_thread c.threads in
    let all : are_words behind ≡ true = words-both (flat_map numbers_of_inlet c.inlets) (flat_map numbers_of_thread c.threads) inlets threads in
    record {
      few_slots = h.few_slots;
      few_inlets = h.few_inlets;
      some_thread = h.some_thread;
      few_threads = h.few_threads;
      words = words-first c.params (c.results ∷ behind) p (words-first c.results behind r all);
    }
