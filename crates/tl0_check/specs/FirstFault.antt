-- What is told of a program that is refused, and what is known of one that isn't.
-- The rule in words: docs/THREADS.md, "Which thread code is accepted".
use Rattle.std.specs.Prelude.{ℕ, ◌^◌, ◌≡◌, Bool, ◌||◌, nat_lt, List, [], ◌∷◌, flat_map, length, take}
use Rattle.tam_word.specs.Lists.{all_of, placed_from}
use Rattle.tl0_code.specs.declared.inlet.Inlet.{Inlet}
use Rattle.tl0_code.specs.declared.bad_cause.BadCause.{BadCause}
use Rattle.tl0_code.specs.ThreadCode.{Thread, CodeText, numbers_of}
use Rattle.tl0_code.specs.CodeRules.{faults_on}
use Rattle.tl0_check.specs.declared.checker.Check0Error.{Check0Error}
use Rattle.tl0_check.specs.declared.checker.Check0Error.TheVariants.{Bad}

-- the fault that an error tells: its code, its line, counted from 0 at the code's head, and its cause
abbrev pub fault_told : Check0Error → ℕ × ℕ × BadCause
fault_told (Bad code place cause) = (code, place, cause)

-- an error tells the first of the faults
abbrev pub IsFirst : List (ℕ × ℕ × BadCause) → Check0Error → Type 0
IsFirst faults error = take 1 faults ≡ fault_told error ∷ []

-- the faults of lines of code n, the first of which stands at a place
abbrev pub faults_from : ℕ → ℕ → List (List BadCause) → List (ℕ × ℕ × BadCause)
faults_from n place lines = flat_map (faults_on n) (placed_from place lines)

-- the counts of a code are out of range
abbrev pub is_bad_frame : CodeText → Bool
is_bad_frame c = nat_lt c.slots 2 || (nat_lt (length c.inlets) c.params || (nat_lt 64 c.params || nat_lt 64 c.results))

-- the numbers have 32 bits
abbrev pub are_words : List ℕ → Bool
are_words = all_of (λ n. nat_lt n (2 ^ 32))

-- the numbers of an inlet
abbrev pub numbers_of_inlet : Inlet → List ℕ
numbers_of_inlet i = i.slot ∷ i.thread ∷ []

-- the numbers of a thread
abbrev pub numbers_of_thread : Thread → List ℕ
numbers_of_thread t = t.count ∷ flat_map numbers_of t.instrs
