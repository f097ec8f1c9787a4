-- The queue of frames as a list of numbers without repetition.
use Rattle.std.proofs.Common.{◌≡◌, ◌≢◌, ◌∙◌, sym, ap, refl, ℕ, true, false, true≢false, ◌==◌, List, [], ◌∷◌, ◌++◌, arith, tests}
use Rattle.frame_tables.specs.FrameTables.{is_queued}
use Rattle.tam_frames.specs.Kept.{IsDistinctQueue}

-- equal numbers pass the test
pub eq-number : (x y : ℕ) → x ≡ y → (x == y) ≡ true
eq-number x y h = grind (arith, tests)

-- numbers that differ fail the test
differs-number : (x y : ℕ) → x ≢ y → (x == y) ≡ false
differs-number x y h = grind (arith, tests)

-- numbers that pass the test are equal
pub number-equals : (x y : ℕ) → (x == y) ≡ true → x ≡ y
number-equals x y h = grind (arith, tests)

-- a number stands in the list that it begins
pub queued-first : (queue : List ℕ) (f : ℕ) → is_queued (f ∷ queue) f ≡ true
queued-first queue f = rw (eq-number f f refl, is_queued) refl

-- another number stands in the list behind
pub queued-behind : (queue : List ℕ) (q f : ℕ) → q ≢ f → is_queued (q ∷ queue) f ≡ is_queued queue f
queued-behind queue q f differ = rw (differs-number q f differ, is_queued) refl

-- a number that isn't in a list isn't its first
pub not-first : (queue : List ℕ) (q f : ℕ) → is_queued (q ∷ queue) f ≡ false → q ≢ f
not-first queue q f absent same = true≢false (sym (ap (λ (g : ℕ). is_queued (q ∷ queue) g) (sym same) ∙ queued-first queue q) ∙ absent)

-- nor is it in the rest
pub not-behind : (queue : List ℕ) (q f : ℕ) → is_queued (q ∷ queue) f ≡ false → is_queued queue f ≡ false
not-behind queue q f absent = sym (queued-behind queue q f (not-first queue q f absent)) ∙ absent

-- a number that joins is there
pub queued-joined : (queue : List ℕ) (f : ℕ) → is_queued (queue ++ f ∷ []) f ≡ true
queued-joined [] f = queued-first [] f
queued-joined (q ∷ queue) f = elim (q == f) as (λ t. elim t [ true ↦ true | false ↦ is_queued (queue ++ f ∷ []) f ] ≡ true) [
  | true ↦ refl
  | false ↦ queued-joined queue f
]

-- and others are as before
pub queued-beside : (queue : List ℕ) (f g : ℕ) → f ≢ g → is_queued (queue ++ f ∷ []) g ≡ is_queued queue g
queued-beside [] f g differ = queued-behind [] f g differ
queued-beside (q ∷ queue) f g differ = elim (q == g) as (λ t. elim t [ true ↦ true | false ↦ is_queued (queue ++ f ∷ []) g ] ≡ elim t [
  | true ↦ true
  | false ↦ is_queued queue g
]) [ true ↦ refl | false ↦ queued-beside queue f g differ ]

-- a new number leaves each number once
pub distinct-joined : (queue : List ℕ) (f : ℕ) → is_queued queue f ≡ false → IsDistinctQueue queue → IsDistinctQueue (queue ++ f ∷ [])
distinct-joined [] f absent distinct = (refl, tt)
distinct-joined (q ∷ queue) f absent distinct = (
  queued-beside queue f q (λ same. not-first queue q f absent (sym same)) ∙ distinct.0,
  distinct-joined queue f (not-behind queue q f absent) distinct.1,
)
