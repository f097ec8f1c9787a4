-- The number of the class of each place, class by class.
use Rattle.std.proofs.Common.{◌≡◌, ◌≢◌, ℕ, zero, suc, ◌+◌, ◌<◌, ◌≤◌, Bool, true, false, List, [], ◌∷◌, map, ◌++◌, slice_index, length, refl, sym, ap, ◌∙◌}
use Rattle.std.proofs.Common.{arith, inl, inr, ◌⊎◌, true≢false}
use Rattle.std.proofs.lemmas.List.{map-append}
use Rattle.std.proofs.lemmas.Grind.{same_number_lists}
use Rattle.tam_word.specs.Lists.{below, has}
use Rattle.tam_word.proofs.Members.{in-has, has-in}
use Rattle.tam_split.specs.Blocks.{BlockGraph}
use Rattle.tam_split.specs.Partitions.{Parts, class_of, class_at}
use Rattle.tam_split.specs.PartitionLaws.{IsPartition}
use Rattle.tam_split.proofs.Classes.{class-stands, stands-in, in-class_at, class-is, partition-parts}

-- ---- what a function makes of the numbers below n

-- it has as many values
pub length-numbers : (f : ℕ → ℕ) (n : ℕ) → length (map f (below n)) ≡ n
length-numbers f zero = refl
length-numbers f (suc n) = ap length (map-append f (below n) (n ∷ [])) ∙ (push (map f (below n)) (f n) ∙ ap suc (length-numbers f n))
  where
    push : (xs : List ℕ) (x : ℕ) → length (xs ++ x ∷ []) ≡ suc (length xs)
    push [] x = refl
    push (y ∷ ys) x = ap suc (push ys x)

-- each at its place
pub numbers-at : (f : ℕ → ℕ) (n k : ℕ) → k < n → slice_index (map f (below n)) k ≡ f k
numbers-at f zero k h = absurd (omega arith)
numbers-at f (suc n) k h = ap (λ l. slice_index l k) (map-append f (below n) (n ∷ [])) ∙ go (cases k) (numbers-at f n k)
  where
    cases : (j : ℕ) → (j < n) ⊎ (n ≤ j)
    cases j = grind arith

    left : (xs : List ℕ) (x j : ℕ) → j < length xs → slice_index (xs ++ x ∷ []) j ≡ slice_index xs j
    left [] x j l = absurd (omega arith)
    left (y ∷ ys) x zero l = refl
    left (y ∷ ys) x (suc j) l = left ys x j (omega arith)

    last : (xs : List ℕ) (x j : ℕ) → j ≡ length xs → slice_index (xs ++ x ∷ []) j ≡ x
    last [] x zero e = refl
    last [] x (suc j) e = absurd (omega arith)
    last (y ∷ ys) x zero e = absurd (omega arith)
    last (y ∷ ys) x (suc j) e = last ys x j (omega arith)

    go : (k < n) ⊎ (n ≤ k) → (k < n → slice_index (map f (below n)) k ≡ f k) → slice_index (map f (below n) ++ f n ∷ []) k ≡ f k
    go (inl l) i = left (map f (below n)) (f n) k (let e = length-numbers f n in omega (arith, e)) ∙ i l
    go (inr l) i =
        let e : k ≡ n = omega arith in
        last (map f (below n)) (f n) k (e ∙ sym (length-numbers f n)) ∙ ap f (sym e)

-- a list of as many numbers is that, if each place has its value
pub numbers-are : (f : ℕ → ℕ) (n : ℕ) (xs : List ℕ) → length xs ≡ n → ((k : ℕ) → k < n → slice_index xs k ≡ f k) → xs ≡ map f (below n)
numbers-are f n xs long each = same_number_lists xs (map f (below n)) (long ∙ sym (length-numbers f n)) (λ k l.
    let small : k < n = omega (arith, l, long) in
    each k small ∙ sym (numbers-at f n k small))

-- ---- classes

module _ (b : BlockGraph) (ps : Parts) (whole : IsPartition b ps) where
  -- a place of a class has its number
  has-class : (k x : ℕ) → has (class_at ps k) x ≡ true → class_of ps x ≡ k
  has-class k x h = class-is ps (partition-parts b ps whole).once k x (in-class_at ps k x (has-in (class_at ps k) x h))

  -- each place stands in the class of its number
  class-has : (x : ℕ) → x < length b.vertices → has (class_at ps (class_of ps x)) x ≡ true
  class-has x l = in-has (class_at ps (class_of ps x)) x (stands-in ps (class_of ps x) x (class-stands ps x (whole.in_one x l)))

  -- what stands in a class is a place of the block
  pub class-inside : (k x : ℕ) → has (class_at ps k) x ≡ true → x < length b.vertices
  class-inside k x h = (partition-parts b ps whole).inside k x (in-class_at ps k x (has-in (class_at ps k) x h))

  -- one class more has its numbers
  pub one-class_more : (olds news : List ℕ) (k : ℕ)
      → ((x : ℕ) → x < length b.vertices → class_of ps x < k → slice_index olds x ≡ class_of ps x)
      → ((x : ℕ) → has (class_at ps k) x ≡ true → slice_index news x ≡ k)
      → ((x : ℕ) → has (class_at ps k) x ≡ false → slice_index news x ≡ slice_index olds x)
      → (x : ℕ) → x < length b.vertices → class_of ps x < k + 1 → slice_index news x ≡ class_of ps x
  one-class_more olds news k before here elsewhere x l small = go (has (class_at ps k) x) refl
    where
      go : (t : Bool) → has (class_at ps k) x ≡ t → slice_index news x ≡ class_of ps x
      go true h = here x h ∙ sym (has-class k x h)
      go false h = elsewhere x h ∙ before x l (let d = other in omega (arith, d, small))
        where
          other : class_of ps x ≢ k
          other e = true≢false (sym (class-has x l) ∙ (ap (λ j. has (class_at ps j) x) e ∙ h))
