-- What the operations on words do to the places of a set.
use Rattle.std.proofs.Common.{◌≡◌, ◌≢◌, ℕ, zero, suc, ◌+◌, ◌-◌, ◌*◌, ◌/◌, ◌%◌, ◌^◌, ◌<◌, ◌≤◌, Bool, true, false, ◌&&◌, ◌||◌, ◌==◌}
use Rattle.std.proofs.Common.{List, [], refl, sym, ap, subst, ◌∙◌, inl, inr, get_or, length}
use Rattle.std.proofs.Common.{arith, min, max, bit_and, bit_or, ◌⊎◌}
use Rattle.std.specs.Int.{bit_at, bit_not, w64}
use Rattle.std.specs.List.{All}
use Rattle.std.proofs.lemmas.List.{get_or_default}
use Rattle.std.proofs.lemmas.Nat.Bits.{bit_at-lt, bit_at_and, bit_at_or, bit_at-zero, bit_at_not, bit_at_above, bit_at_set_same, bit_at_set_other}
use Rattle.std.proofs.lemmas.Nat.Bits.{shr_and_one, same_from_bits}
use Rattle.tam_word.specs.Lists.{has}
use Rattle.tam_word.proofs.Tests.{eq-number, number-eq, differs-number, number-differs}
use Rattle.tam_word.proofs.Members.{In, in-all, all-in}
use Rattle.tam_sets.specs.Sets.{places_where, with_place, met, joined, is_within}
use Rattle.tam_sets.specs.Bits.{has_bit}
use Rattle.tam_sets.specs.BitsBack.{bit-or_none}
use Rattle.tam_sets.proofs.PlacesWhere.{has-where, places-same, where-in, in-where, in-passes, where-none}

-- ---- the operations

-- words of zeros have no place
pub bits-none : (ws : List ℕ) → ((k : ℕ) → k < 8 → get_or ws k 0 ≡ 0) → places_where (has_bit ws) ≡ []
bits-none ws h = where-none (has_bit ws) (λ x l. rw (h (x / 64) (omega arith), bit_at-zero (x % 64)) refl)

-- bits of both
pub bits-met : (a b ws : List ℕ) → ((k : ℕ) → k < 8 → get_or ws k 0 ≡ bit_and (get_or a k 0) (get_or b k 0))
    → places_where (has_bit ws) ≡ met (places_where (has_bit a)) (places_where (has_bit b))
bits-met a b ws h =
    places-same (has_bit ws) (λ x. has (places_where (has_bit a)) x && has (places_where (has_bit b)) x)
    (λ x l. rw (has-where (has_bit a) x l, has-where (has_bit b) x l, h (x / 64) (omega arith), bit_at_and (get_or a (x / 64) 0) (get_or b (x / 64) 0) (x % 64))
    (both (bit_at (get_or a (x / 64) 0) (x % 64)) (bit_at (get_or b (x / 64) 0) (x % 64))
    (bit_at-lt (get_or a (x / 64) 0) (x % 64)) (bit_at-lt (get_or b (x / 64) 0) (x % 64))))
  where
    both : (m n : ℕ) → m < 2 → n < 2 → (min m n == 1) ≡ ((m == 1) && (n == 1))
    both zero zero h k = refl
    both zero (suc zero) h k = refl
    both (suc zero) zero h k = refl
    both (suc zero) (suc zero) h k = refl
    both (suc (suc m)) n h k = absurd (omega arith)
    both m (suc (suc n)) h k = absurd (omega arith)

-- bits of either
pub bits-joined : (a b ws : List ℕ) → ((k : ℕ) → k < 8 → get_or ws k 0 ≡ bit_or (get_or a k 0) (get_or b k 0))
    → places_where (has_bit ws) ≡ joined (places_where (has_bit a)) (places_where (has_bit b))
bits-joined a b ws h =
    places-same (has_bit ws) (λ x. has (places_where (has_bit a)) x || has (places_where (has_bit b)) x)
    (λ x l. rw (has-where (has_bit a) x l, has-where (has_bit b) x l, h (x / 64) (omega arith), bit_at_or (get_or a (x / 64) 0) (get_or b (x / 64) 0) (x % 64))
    (either (bit_at (get_or a (x / 64) 0) (x % 64)) (bit_at (get_or b (x / 64) 0) (x % 64))
    (bit_at-lt (get_or a (x / 64) 0) (x % 64)) (bit_at-lt (get_or b (x / 64) 0) (x % 64))))
  where
    either : (m n : ℕ) → m < 2 → n < 2 → (max m n == 1) ≡ ((m == 1) || (n == 1))
    either zero zero h k = refl
    either zero (suc zero) h k = refl
    either (suc zero) zero h k = refl
    either (suc zero) (suc zero) h k = refl
    either (suc (suc m)) n h k = absurd (omega arith)
    either m (suc (suc n)) h k = absurd (omega arith)

-- the word with one bit more
one-more : (n j i : ℕ) → j < 64 → (bit_at (bit_or n (1 * 2 ^ j % 2 ^ 64)) i == 1) ≡ ((bit_at n i == 1) || (i == j))
one-more n j i l = go (i == j) refl
  where
    go : (t : Bool) → (i == j) ≡ t → (bit_at (bit_or n (1 * 2 ^ j % 2 ^ 64)) i == 1) ≡ ((bit_at n i == 1) || (i == j))
    go true p =
        let e : i ≡ j = number-eq i j p in
        let one : bit_at (bit_or n (1 * 2 ^ j % 2 ^ 64)) i ≡ 1 = subst (λ y. bit_at (bit_or n (1 * 2 ^ j % 2 ^ 64)) y ≡ 1) (sym e)
        (bit_at_set_same w64 n j l) in
        rw one (sym (rw p (or-true (bit_at n i == 1))))
      where
        or-true : (b : Bool) → (b || true) ≡ true
        or-true true = refl
        or-true false = refl
    go false p =
        let d : i ≢ j = number-differs i j p in
        rw (bit_at_set_other w64 n j l i d, p) (sym (or-false (bit_at n i == 1)))
      where
        or-false : (b : Bool) → (b || false) ≡ b
        or-false true = refl
        or-false false = refl

-- two places are the same where they are the same bit of the same word
same-place : (x k : ℕ) → (x / 64 ≡ k / 64) → (x == k) ≡ (x % 64 == k % 64)
same-place x k e = go (x == k) refl
  where
    go : (t : Bool) → (x == k) ≡ t → (x == k) ≡ (x % 64 == k % 64)
    go true p = let s : x ≡ k = number-eq x k p in p ∙ sym (eq-number (x % 64) (k % 64) (ap (λ y. y % 64) s))
    go false p = let d : x ≢ k = number-differs x k p in p ∙ sym (differs-number (x % 64) (k % 64) (λ s. d (let r : x ≡ k = omega arith in r)))

-- one bit more
pub bits-with : (a ws : List ℕ) (k : ℕ) → k < 512 → get_or ws (k / 64) 0 ≡ bit_or (get_or a (k / 64) 0) (1 * 2 ^ (k % 64) % 2 ^ 64)
    → ((i : ℕ) → i ≢ k / 64 → get_or ws i 0 ≡ get_or a i 0) → places_where (has_bit ws) ≡ with_place k (places_where (has_bit a))
bits-with a ws k l here others =
    places-same (has_bit ws) (λ x. has (places_where (has_bit a)) x || (x == k)) (λ x m. rw (has-where (has_bit a) x m) (at x (x / 64 == k / 64) refl))
  where
    at : (x : ℕ) (t : Bool) → (x / 64 == k / 64) ≡ t → has_bit ws x ≡ (has_bit a x || (x == k))
    at x true p =
        let e : x / 64 ≡ k / 64 = number-eq (x / 64) (k / 64) p in
        let word : get_or ws (x / 64) 0 ≡ bit_or (get_or a (x / 64) 0) (1 * 2 ^ (k % 64) % 2 ^ 64) =
        subst (λ i. get_or ws i 0 ≡ bit_or (get_or a i 0) (1 * 2 ^ (k % 64) % 2 ^ 64)) (sym e) here in
        ap (λ w. bit_at w (x % 64) == 1) word
        ∙ (one-more (get_or a (x / 64) 0) (k % 64) (x % 64) (omega arith) ∙ ap (λ t. has_bit a x || t) (sym (same-place x k e)))
    at x false p =
        let d : x / 64 ≢ k / 64 = number-differs (x / 64) (k / 64) p in
        let n : (x == k) ≡ false = differs-number x k (λ s. d (ap (λ y. y / 64) s)) in
        ap (λ w. bit_at w (x % 64) == 1) (others (x / 64) d) ∙ sym (ap (λ t. has_bit a x || t) n ∙ or-false (has_bit a x))
      where
        or-false : (b : Bool) → (b || false) ≡ b
        or-false true = refl
        or-false false = refl

-- a bit, read by a shift
pub bit-read : (n x : ℕ) → (bit_and (n / 2 ^ x) 1 == 1) ≡ (bit_at n x == 1)
bit-read n x = ap (λ m. m == 1) (shr_and_one n x)

-- ---- one set within another

-- no bit of the first is missing in the second
within-bit : (a b x : ℕ) → b < 2 ^ 64 → x < 64 → bit_and a (bit_not w64 b) ≡ 0 → (bit_at a x == 1) ≡ true → (bit_at b x == 1) ≡ true
within-bit a b x h l e p =
    let none : min (bit_at a x) (1 - bit_at b x) ≡ 0 = ap (λ y. min (bit_at a x) y) (sym (bit_at_not w64 b x h l)) ∙
    (sym (bit_at_and a (bit_not w64 b) x) ∙ (ap (λ n. bit_at n x) e ∙ bit_at-zero x)) in
    let one : bit_at a x ≡ 1 = number-eq (bit_at a x) 1 p in
    let small : bit_at b x < 2 = bit_at-lt b x in
    eq-number (bit_at b x) 1 (omega arith)

-- so where no word has such a bit, its places are places of the second
pub bits-within : (a b : List ℕ) → ((k : ℕ) → k < 8 → get_or b k 0 < 2 ^ 64) → ((k : ℕ) → k < 8 → bit_and (get_or a k 0) (bit_not w64 (get_or b k 0)) ≡ 0)
    → is_within (places_where (has_bit a)) (places_where (has_bit b)) ≡ true
bits-within a b h e =
    in-all (has (places_where (has_bit b))) (places_where (has_bit a))
    (λ x i. let l : x < 512 = in-where (has_bit a) x i in
    has-where (has_bit b) x l
    ∙ within-bit (get_or a (x / 64) 0) (get_or b (x / 64) 0) (x % 64) (h (x / 64) (omega arith)) (omega arith) (e (x / 64) (omega arith))
    (in-passes (has_bit a) x i))

-- and the other way round
within-bits : (a b : List ℕ) (k : ℕ) → k < 8 → get_or a k 0 < 2 ^ 64 → get_or b k 0 < 2 ^ 64
    → is_within (places_where (has_bit a)) (places_where (has_bit b)) ≡ true → bit_and (get_or a k 0) (bit_not w64 (get_or b k 0)) ≡ 0
within-bits a b k r g h w =
    same_from_bits (bit_and (get_or a k 0) (bit_not w64 (get_or b k 0))) 0
    (λ j. bit_at_and (get_or a k 0) (bit_not w64 (get_or b k 0)) j ∙ (none j (cases j) ∙ sym (bit_at-zero j)))
  where
    cases : (x : ℕ) → (x < 64) ⊎ (64 ≤ x)
    cases x = grind arith

    none : (j : ℕ) → (j < 64) ⊎ (64 ≤ j) → min (bit_at (get_or a k 0) j) (bit_at (bit_not w64 (get_or b k 0)) j) ≡ 0
    none j (inr l) = let e : bit_at (get_or a k 0) j ≡ 0 = bit_at_above (get_or a k 0) 64 j g l in omega arith
    none j (inl l) = at (bit-or_none (get_or a k 0) j)
      where
        word : (64 * k + j) / 64 ≡ k
        word = omega arith

        place : (64 * k + j) % 64 ≡ j
        place = omega arith

        at : (bit_at (get_or a k 0) j ≡ 1) ⊎ (bit_at (get_or a k 0) j ≡ 0) → min (bit_at (get_or a k 0) j) (bit_at (bit_not w64 (get_or b k 0)) j) ≡ 0
        at (inr e) = omega arith
        at (inl e) =
            let low : 64 * k + j < 512 = omega arith in
            let there : has_bit a (64 * k + j) ≡ true = rw (word, place) (eq-number (bit_at (get_or a k 0) j) 1 e) in
            let i : In (64 * k + j) (places_where (has_bit a)) = where-in (has_bit a) (64 * k + j) low there in
            let m : has (places_where (has_bit b)) (64 * k + j) ≡ true = all-in (has (places_where (has_bit b))) (places_where (has_bit a)) w (64 * k + j) i in
            let o : has_bit b (64 * k + j) ≡ true = sym (has-where (has_bit b) (64 * k + j) low) ∙ m in
            let one : bit_at (get_or b k 0) j ≡ 1 = number-eq (bit_at (get_or b k 0) j) 1 (rw (word, place) at o) in
            let n : bit_at (bit_not w64 (get_or b k 0)) j ≡ 1 - bit_at (get_or b k 0) j = bit_at_not w64 (get_or b k 0) j h l in omega arith

-- so where a word has such a bit, they aren't
pub bits-not_within : (a b : List ℕ) (k : ℕ) → k < 8 → get_or a k 0 < 2 ^ 64 → get_or b k 0 < 2 ^ 64
    → bit_and (get_or a k 0) (bit_not w64 (get_or b k 0)) ≢ 0 → is_within (places_where (has_bit a)) (places_where (has_bit b)) ≡ false
bits-not_within a b k r g h d = go (is_within (places_where (has_bit a)) (places_where (has_bit b))) refl
  where
    go : (t : Bool) → is_within (places_where (has_bit a)) (places_where (has_bit b)) ≡ t
        → is_within (places_where (has_bit a)) (places_where (has_bit b)) ≡ false
    go true p = absurd (d (within-bits a b k r g h p))
    go false p = p

-- ---- the words after an operation

-- each word is one of 64 bits
pub words-small : (ws : List ℕ) → length ws ≡ 8 → ((k : ℕ) → k < 8 → get_or ws k 0 < 2 ^ 64) → All (λ w. w < 2 ^ 64) ws
words-small ws e h k d l = subst (λ w. w < 2 ^ 64) (get_or_default ws k 0 d l) (h k (omega (arith, e)))
