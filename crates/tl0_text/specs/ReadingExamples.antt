-- Texts of thread code, read by computation.
-- The rule in words: docs/THREADS.md, "Thread code as text".
use Rattle.std.specs.Prelude.{◌≡◌, ◌++◌, ℕ, refl, List, [], ◌∷◌, codes, map}
use Rattle.tl0_code.specs.declared.instr.Instr.TheVariants.{Imm}
use Rattle.tl0_code.specs.RunExamples.{sum_program, skipped_param, threads_alone, once}
use Rattle.tl0_text.specs.declared.cause.Cause0.{Cause0}
use Rattle.tl0_text.specs.declared.cause.Cause0.TheVariants.{BadHead, BadLine, BadNumber, TooMany, Ended}
use Rattle.tl0_text.specs.Reading.{faults, first_fault, program_of}

-- the sum of two params
abbrev pub sum_bytes : List ℕ
sum_bytes = codes "tl0 2\ncodes 1 main 0\ncode 2 1 5\ninlet 2 1\ninlet 3 1\nthread 1\nstop\nthread 2\nadd 4 2 3\nret 0 4\nstop\nend\n"

sum_is_read : (faults sum_bytes ≡ []) × (program_of sum_bytes ≡ sum_program)
sum_is_read = (refl, refl)

-- a param's thread that is skipped
abbrev pub skipped_bytes : List ℕ
skipped_bytes = codes "tl0 2\ncodes 1 main 0\ncode 1 0 3\ninlet 2 1\nthread 1\nskip 1\nstop\nthread 1\nstop\nend\n"

skipped_is_read : (faults skipped_bytes ≡ []) × (program_of skipped_bytes ≡ skipped_param)
skipped_is_read = (refl, refl)

-- ---- the head

empty : first_fault [] ≡ (1, Ended) ∷ []
empty = refl

version_alone : first_fault (codes "tl0 2\n") ≡ (2, Ended) ∷ []
version_alone = refl

former_version : first_fault (codes "tl0 1\ncodes 1 main 0\n") ≡ (1, BadHead) ∷ []
former_version = refl

no_line_feed : first_fault (codes "tl0 2") ≡ (1, BadLine) ∷ []
no_line_feed = refl

no_codes : first_fault (codes "tl0 2\ncodes 0 main 0\n") ≡ (2, BadHead) ∷ []
no_codes = refl

two_spaces : first_fault (codes "tl0 2\ncodes 1  main 0\n") ≡ (2, BadHead) ∷ []
two_spaces = refl

-- ---- lines

-- a code of two slots with a thread of such lines, and what is behind it
abbrev pub around : List ℕ → List ℕ → List ℕ
around lines behind = codes "tl0 2\ncodes 1 main 0\ncode 0 0 2\nthread 1\n" ++ (lines ++ (codes "stop\nend\n" ++ behind))

-- the first faults of one line of a thread
abbrev pub faults_of : List (List ℕ) → List (List (ℕ × Cause0))
faults_of lines = map (λ l. first_fault (around l [])) lines

good_line : map (λ l. faults (around l [])) (codes "imm 1 -1\n" ∷ codes "imm 1 2147483647\n" ∷ codes "skip 4294967295\n" ∷ []) ≡ [] ∷ [] ∷ [] ∷ []
good_line = refl

-- a word stands as it is printed
bad_words : faults_of (codes "imm 1 -0\n" ∷ codes "imm 1 0x1\n" ∷ codes "imm 1 4294967295\n" ∷ codes "imm 1 2147483648\n" ∷ codes "fork 01\n" ∷ [])
    ≡ ((5, BadNumber) ∷ []) ∷ ((5, BadNumber) ∷ []) ∷ ((5, BadNumber) ∷ []) ∷ ((5, BadNumber) ∷ []) ∷ ((5, BadNumber) ∷ []) ∷ []
bad_words = refl

bad_lines : faults_of (codes "\n" ∷ codes "fork\n" ∷ codes "fork 1 \n" ∷ codes " fork 1\n" ∷ codes "fork 1 1\n" ∷ codes "jump 1\n" ∷ [])
    ≡ ((5, BadLine) ∷ []) ∷ ((5, BadLine) ∷ []) ∷ ((5, BadLine) ∷ []) ∷ ((5, BadLine) ∷ []) ∷ ((5, BadLine) ∷ []) ∷ ((5, BadLine) ∷ []) ∷ []
bad_lines = refl

behind_the_last : first_fault (around [] (codes "end\n")) ≡ (7, BadLine) ∷ []
behind_the_last = refl

cut : first_fault (codes "tl0 2\ncodes 2 main 0\ncode 0 0 2\nthread 1\nstop\nend\n") ≡ (7, Ended) ∷ []
cut = refl

many_slots : first_fault (codes "tl0 2\ncodes 1 main 0\ncode 0 0 1027\n") ≡ (3, TooMany) ∷ []
many_slots = refl

-- the least of 32 bits as a word
least_word : program_of (around (codes "imm 1 -2147483648\n") []) ≡ threads_alone (once (Imm 1 2147483648 ∷ []) ∷ [])
least_word = refl
