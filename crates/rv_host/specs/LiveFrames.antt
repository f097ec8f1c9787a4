-- The numbers of frames that the host keeps, and the list of live ones that they stand for.
-- The rules in words: docs/MACHINE.md, "The host".
use Rattle.std.specs.Prelude.{ℕ, suc, ◌≡◌, ◌==◌, ◌+◌, ◌<◌, ◌≤◌, Bool, true, false, List, [], ◌∷◌, slice_get, slice_set, replicate, length, unwrap_or}
use Rattle.tam_word.specs.Lists.{has}

-- for each number that a frame may have whether it is live, how many are, and the free ones, the latest first
pub record Numbers : Type 0 where
  pub marks : List Bool
  pub count : ℕ
  pub free : List ℕ

-- a number is marked
abbrev pub is_marked : List Bool → ℕ → Bool
is_marked marks f = unwrap_or (slice_get marks f) false

-- how many numbers are marked
abbrev pub marked : List Bool → ℕ
marked [] = 0
marked (true ∷ marks) = suc (marked marks)
marked (false ∷ marks) = marked marks

-- before the first event number 0 is live, of so many that may be
abbrev pub first_numbers : ℕ → Numbers
first_numbers n = record { marks = slice_set (replicate n false) 0 true; count = 1; free = [] }

-- how often a number stands in a list
abbrev pub times : List ℕ → ℕ → ℕ
times [] f = 0
times (x ∷ xs) f = elim (x == f) [ true ↦ suc (times xs f) | false ↦ times xs f ]

-- once or not at all
abbrev pub once_where : Bool → ℕ
once_where true = 1
once_where false = 0

-- each number that is marked stands once in the list, and no other stands there
pub record AreLive (numbers : Numbers) (live : List ℕ) : Type 0 where
  pub many : length live ≡ numbers.count
  pub once : (f : ℕ) → times live f ≡ once_where (is_marked numbers.marks f)

-- free numbers were used, aren't live, and no number stands there twice
abbrev pub AreFree : List Bool → ℕ → List ℕ → Type 0
AreFree marks used [] = Unit {0}
AreFree marks used (f ∷ free) = (f < used) × ((is_marked marks f ≡ false) × ((has free f ≡ false) × AreFree marks used free))

-- the numbers that were used are the live and the free ones; there are no more than may be
pub record AreNumbers (numbers : Numbers) : Type 0 where
  pub counted : numbers.count ≡ marked numbers.marks
  pub few : numbers.count + length numbers.free ≤ length numbers.marks
  pub unused : (f : ℕ) → numbers.count + length numbers.free ≤ f → is_marked numbers.marks f ≡ false
  pub are_free : AreFree numbers.marks (numbers.count + length numbers.free) numbers.free
