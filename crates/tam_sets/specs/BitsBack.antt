-- The places of the bits of words give the words back.
use Rattle.std.proofs.Common.{◌≡◌, ℕ, zero, suc, ◌+◌, ◌*◌, ◌/◌, ◌%◌, ◌^◌, ◌<◌, Bool, true, false, ◌==◌, List, filter, map}
use Rattle.std.proofs.Common.{refl, sym, ap, ap₂, subst, ◌∙◌, inl, inr, ◌⊎◌, arith, get_or, true≢false}
use Rattle.std.proofs.Math.Nat.{mod-eq_of_lt}
use Rattle.std.specs.Int.{bit_at}
use Rattle.std.proofs.lemmas.Nat.{mod-pow-add}
use Rattle.std.proofs.lemmas.Nat.Bits.{bit_at-lt}
use Rattle.std.proofs.lemmas.List.FromFn.{fill_by_all}
use Rattle.tam_word.specs.Lists.{below, has}
use Rattle.tam_word.proofs.Members.{In, filter-in, in-filter, below-in, in-has, not-has}
use Rattle.tam_sets.specs.declared.set.Set.TheInside.{Inside}
use Rattle.tam_sets.specs.Sets.{place_numbers, places_where}
use Rattle.tam_sets.specs.Bits.{has_bit, members_of, bits_where, word_of, word_numbers, set_of, IsWithinWidth}

-- the places are the numbers below some number, which is that of the places
pub record AllPlaces : Type 0 where
  pub count : ℕ
  pub is : count ≡ 512
  pub numbers : place_numbers ≡ below count

pub all-places : AllPlaces
unfolding place_numbers
all-places = record { count = 512; is = refl; numbers = refl }

-- the places as a filter of the numbers below some number
pub where-filter : (f : ℕ → Bool) (n : ℕ) → place_numbers ≡ below n → places_where f ≡ filter f (below n)
unfolding places_where
where-filter f n e = ap (filter f) e

-- a place is among those that pass a test exactly where it passes
pub test-where : (f : ℕ → Bool) (x : ℕ) → x < 512 → has (places_where f) x ≡ f x
unfolding places_where
test-where f x l = go (f x) refl
  where
    there : In x place_numbers
    there = let a = all-places in subst (λ ns. In x ns) (sym a.numbers) (below-in x a.count (subst (λ n. x < n) (sym a.is) l))

    go : (t : Bool) → f x ≡ t → has (filter f place_numbers) x ≡ f x
    go true p = in-has (filter f place_numbers) x (filter-in f x place_numbers there p) ∙ sym p
    go false p = not-has (filter f place_numbers) x (λ i. true≢false (sym (in-filter f x place_numbers i).1 ∙ p)) ∙ sym p

-- a bit is 0 or 1
pub bit-or_none : (n x : ℕ) → (bit_at n x ≡ 1) ⊎ (bit_at n x ≡ 0)
bit-or_none n x = go (bit_at n x) (bit_at-lt n x)
  where
    go : (b : ℕ) → b < 2 → (b ≡ 1) ⊎ (b ≡ 0)
    go zero h = inr refl
    go (suc zero) h = inl refl
    go (suc (suc b)) h = absurd (omega arith)

-- the low bits of a number, by a test that tells them
low-bits : (f : ℕ → Bool) (w n : ℕ) → ((j : ℕ) → j < n → f j ≡ (bit_at w j == 1)) → bits_where f n ≡ w % 2 ^ n
unfolding bits_where
low-bits f w zero h = one w
  where
    one : (v : ℕ) → 0 ≡ v % 1
    one v = omega arith
low-bits f w (suc n) h =
    let i : bits_where f n ≡ w % 2 ^ n = low-bits f w n (λ j l. h j (omega arith)) in
    let last : elim (f n) [ true ↦ 2 ^ n | false ↦ 0 ] ≡ bit_at w n * 2 ^ n = rw (h n (omega arith)) (one (bit-or_none w n)) in
    let all : w % 2 ^ (1 + n) ≡ bit_at w n * 2 ^ n + w % 2 ^ n = mod-pow-add w 1 n in
    let same : w % 2 ^ (suc n) ≡ w % 2 ^ (1 + n) = ap (λ m. w % 2 ^ m) (let e : suc n ≡ 1 + n = omega arith in e) in
    ap₂ (λ x y. x + y) i last ∙ (plus (w % 2 ^ n) (bit_at w n * 2 ^ n) ∙ (sym all ∙ sym same))
  where
    plus : (x y : ℕ) → x + y ≡ y + x
    plus x y = omega arith

    one : (bit_at w n ≡ 1) ⊎ (bit_at w n ≡ 0) → elim (bit_at w n == 1) [ true ↦ 2 ^ n | false ↦ 0 ] ≡ bit_at w n * 2 ^ n
    one (inl e) = rw e (twice (2 ^ n))
      where
        twice : (m : ℕ) → m ≡ 1 * m
        twice m = omega arith
    one (inr e) = rw e (none (2 ^ n))
      where
        none : (m : ℕ) → 0 ≡ 0 * m
        none m = omega arith

-- a word of the places of the bits of words is theirs
word-back : (ws xs : List ℕ) (k : ℕ) → xs ≡ places_where (has_bit ws) → k < 8 → get_or ws k 0 < 2 ^ 64 → word_of xs k ≡ get_or ws k 0
word-back ws xs k e l small =
    low-bits (λ j. has xs (64 * k + j)) (get_or ws k 0) 64 (λ j m. at j m) ∙ mod-eq_of_lt small
  where
    at : (j : ℕ) → j < 64 → has xs (64 * k + j) ≡ (bit_at (get_or ws k 0) j == 1)
    at j m =
        let word : (64 * k + j) / 64 ≡ k = omega arith in
        let place : (64 * k + j) % 64 ≡ j = omega arith in
        ap (λ ys. has ys (64 * k + j)) e ∙ (test-where (has_bit ws) (64 * k + j) (omega arith) ∙ ap₂ (λ q r. bit_at (get_or ws q 0) r == 1) word place)

-- the words of the places of bits, by the places
pub words-back : (a : Inside) (xs : List ℕ) → IsWithinWidth a → members_of a ≡ xs → a.words ≡ map (word_of xs) word_numbers
unfolding word_numbers
words-back a xs h e = fill_by_all (word_of xs) a.words 8 0 h.count (λ k l. sym (word-back a.words xs k (sym e) l (h.small k 0 (omega (arith, h.count)))))

-- the places of bits give the set back
pub members-back : (a : Inside) → IsWithinWidth a → set_of (members_of a) ≡ a
members-back a h = ap (λ (ws : List ℕ). record { words = ws }) (sym (words-back a (members_of a) h refl))
