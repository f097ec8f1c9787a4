-- The text of a program as it is printed, part by part, and the numbers in it.
-- The rule in words: docs/THREADS.md, "Thread code as text".
use Rattle.std.specs.Prelude.{◌≡◌, ℕ, ◌^◌, Bool, true, List, [], ◌∷◌, ◌++◌, flat_map, length, decimal, codes, nat_lt}
use Rattle.tam_word.specs.Lists.{all_of}
use Rattle.tam_word.specs.Words.{signed_text}
use Rattle.tl0_code.specs.declared.inlet.Inlet.{Inlet}
use Rattle.tl0_code.specs.declared.instr.Instr.{Instr}
use Rattle.tl0_code.specs.declared.instr.Instr.TheVariants as instr
use Rattle.tl0_code.specs.ThreadCode.{Thread, CodeText, Program, numbers_of}
use Rattle.tl0_text.specs.declared.verb.Verb.TheVariants as verb
use Rattle.tl0_text.specs.CodeSayings.{verb_text}

-- ---- numbers

-- a number of 32 bits
abbrev pub is_word : ℕ → Bool
is_word n = nat_lt n (2 ^ 32)

-- the numbers of an inlet
abbrev pub inlet_numbers : Inlet → List ℕ
inlet_numbers i = i.slot ∷ i.thread ∷ []

-- of a thread
abbrev pub thread_numbers : Thread → List ℕ
thread_numbers t = t.count ∷ flat_map numbers_of t.instrs

-- those of a thread have 32 bits
abbrev pub HasWords : Thread → Type 0
HasWords t = all_of is_word (thread_numbers t) ≡ true

-- ---- lines

-- numbers, each behind a space
abbrev pub further : List ℕ → List ℕ
further [] = []
further (n ∷ ns) = 32 ∷ (decimal n ++ further ns)

-- a word and numbers
abbrev pub numbers_line : List ℕ → List ℕ → List ℕ
numbers_line word ns = word ++ (further ns ++ 10 ∷ [])

-- an `imm`, whose word is signed
abbrev pub imm_line : ℕ → ℕ → List ℕ
imm_line d w = codes "imm" ++ (further (d ∷ []) ++ (32 ∷ (signed_text w ++ 10 ∷ [])))

-- an instruction
abbrev pub instr_text : Instr → List ℕ
instr_text (instr.Imm d w) = imm_line d w
instr_text (instr.Mov d a) = numbers_line (verb_text verb.Mov) (d ∷ a ∷ [])
instr_text (instr.Op o d a b) = numbers_line (verb_text (verb.Operator o)) (d ∷ a ∷ b ∷ [])
instr_text (instr.Fork t) = numbers_line (verb_text verb.Fork) (t ∷ [])
instr_text (instr.Switch s t u) = numbers_line (verb_text verb.Switch) (s ∷ t ∷ u ∷ [])
instr_text (instr.Falloc c i) = numbers_line (verb_text verb.Falloc) (c ∷ i ∷ [])
instr_text (instr.Send f p a) = numbers_line (verb_text verb.Send) (f ∷ p ∷ a ∷ [])
instr_text (instr.Ret k a) = numbers_line (verb_text verb.Ret) (k ∷ a ∷ [])
instr_text (instr.Ialloc n i) = numbers_line (verb_text verb.Ialloc) (n ∷ i ∷ [])
instr_text (instr.Ifetch r x i n) = numbers_line (verb_text verb.Ifetch) (r ∷ x ∷ i ∷ n ∷ [])
instr_text (instr.Istore r x a n) = numbers_line (verb_text verb.Istore) (r ∷ x ∷ a ∷ n ∷ [])
instr_text (instr.Skip n) = numbers_line (verb_text verb.Skip) (n ∷ [])

-- an inlet
abbrev pub inlet_text : Inlet → List ℕ
inlet_text i = numbers_line (codes "inlet") (i.slot ∷ i.thread ∷ [])

-- ---- parts

-- a thread
abbrev pub thread_text : Thread → List ℕ
thread_text t = numbers_line (codes "thread") (t.count ∷ []) ++ (flat_map instr_text t.instrs ++ numbers_line (codes "stop") [])

-- a code
abbrev pub code_bytes : CodeText → List ℕ
code_bytes c =
    numbers_line (codes "code") (c.params ∷ c.results ∷ c.slots ∷ [])
    ++ (flat_map inlet_text c.inlets ++ (flat_map thread_text c.threads ++ numbers_line (codes "end") []))

-- how many codes there are, and the number of `main`
abbrev pub counts_text : ℕ → ℕ → List ℕ
counts_text n m = codes "codes" ++ (further (n ∷ []) ++ numbers_line (codes " main") (m ∷ []))

-- a program
abbrev pub printed : Program → List ℕ
printed p = numbers_line (codes "tl0 2") [] ++ (counts_text (length p.codes) p.main ++ flat_map code_bytes p.codes)
