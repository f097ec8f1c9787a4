-- The code of threads as lists.
-- The rule in words: docs/THREADS.md, "Thread code".
use Rattle.std.specs.Prelude.{ℕ, ◌^◌, ◌≡◌, ◌≤◌, ◌<◌, Bool, true, false, nat_lt, List, [], ◌∷◌, ◌++◌, map, flat_map, filter, Option, Some, None}
use Rattle.std.specs.Prelude.{slice_get, length}
use Rattle.std.specs.Prelude.{sum_by}
use Rattle.tam_word.specs.Lists.{all_of}
use Rattle.tl0_code.specs.declared.inlet.Inlet.{Inlet}
use Rattle.tl0_code.specs.declared.instr.Instr.{Instr}
use Rattle.tl0_code.specs.declared.instr.Instr.TheVariants.{Imm, Mov, Op as Operate, Fork, Switch, Falloc, Send, Ret, Ialloc, Ifetch, Istore, Skip}

-- a thread: its entry count and its instructions, behind the last of which it stops
pub record Thread : Type 0 where
  pub count : ℕ
  pub instrs : List Instr

-- the threads of one code: how many params, results and slots it has, its inlets and its threads
pub record CodeText : Type 0 where
  pub params : ℕ
  pub results : ℕ
  pub slots : ℕ
  pub inlets : List Inlet
  pub threads : List Thread

-- the codes, and the number of `main`
pub record Program : Type 0 where
  pub main : ℕ
  pub codes : List CodeText

-- what stands for a code that isn't there
abbrev pub or_text : Option CodeText → CodeText
or_text None = record { params = 0; results = 0; slots = 0; inlets = []; threads = [] }
or_text (Some c) = c

-- code number c
abbrev pub code_text : Program → ℕ → CodeText
code_text p c = or_text (slice_get p.codes c)

-- what stands for a thread that isn't there
abbrev pub or_thread : Option Thread → Thread
or_thread None = record { count = 0; instrs = [] }
or_thread (Some t) = t

-- thread number t of a code
abbrev pub thread_at : CodeText → ℕ → Thread
thread_at c t = or_thread (slice_get c.threads t)

-- the entry counts of a code
abbrev pub counts_of : CodeText → List ℕ
counts_of c = map (λ t. t.count) c.threads

-- ---- room for a frame of any code

-- the greater of two numbers
abbrev pub greater : ℕ → ℕ → ℕ
greater m n = elim (nat_lt m n) [ true ↦ n | false ↦ m ]

-- the greatest of numbers, or 0
abbrev pub greatest : List ℕ → ℕ
greatest [] = 0
greatest (n ∷ ns) = greater n (greatest ns)

-- how many slots a frame has room for: those of the code that has the most
abbrev pub widest_slots : Program → ℕ
widest_slots p = greatest (map (λ c. c.slots) p.codes)

-- and how many threads
abbrev pub widest_threads : Program → ℕ
widest_threads p = greatest (map (λ c. length c.threads) p.codes)

-- ---- limits

-- the numbers of an instruction
abbrev pub numbers_of : Instr → List ℕ
numbers_of (Imm d w) = d ∷ w ∷ []
numbers_of (Mov d a) = d ∷ a ∷ []
numbers_of (Operate o d a b) = d ∷ a ∷ b ∷ []
numbers_of (Fork t) = t ∷ []
numbers_of (Switch s t u) = s ∷ t ∷ u ∷ []
numbers_of (Falloc c i) = c ∷ i ∷ []
numbers_of (Send f p a) = f ∷ p ∷ a ∷ []
numbers_of (Ret k a) = k ∷ a ∷ []
numbers_of (Ialloc n i) = n ∷ i ∷ []
numbers_of (Ifetch r x i n) = r ∷ x ∷ i ∷ n ∷ []
numbers_of (Istore r x a n) = r ∷ x ∷ a ∷ n ∷ []
numbers_of (Skip n) = n ∷ []

-- the numbers of a code
abbrev pub numbers_in : CodeText → List ℕ
numbers_in c =
    c.params ∷ c.results ∷ flat_map (λ i. i.slot ∷ i.thread ∷ []) c.inlets
    ++ flat_map (λ t. t.count ∷ flat_map numbers_of t.instrs) c.threads

-- the limits of a code
pub record HasCodeLimits (c : CodeText) : Type 0 where
  pub few_slots : c.slots ≤ 1026
  pub few_inlets : length c.inlets ≤ 1024
  pub some_thread : 0 < length c.threads
  pub few_threads : length c.threads ≤ 3073

-- a code that stands in some text
pub record IsCodeText (c : CodeText) : Type 0 where
  pub few_slots : c.slots ≤ 1026
  pub few_inlets : length c.inlets ≤ 1024
  pub some_thread : 0 < length c.threads
  pub few_threads : length c.threads ≤ 3073
  pub words : all_of (λ n. nat_lt n (2 ^ 32)) (numbers_in c) ≡ true

-- how many instructions a code has
abbrev pub instr_count : CodeText → ℕ
instr_count c = sum_by (λ t. length t.instrs) c.threads

-- the limits of a program, those of its codes aside
pub record HasProgramLimits (p : Program) : Type 0 where
  pub some_code : 0 < length p.codes
  pub few_codes : length p.codes ≤ 256
  pub few_instrs : sum_by instr_count p.codes ≤ 67108864

-- a program within the limits
pub record IsProgram (p : Program) : Type 0 where
  pub some_code : 0 < length p.codes
  pub few_codes : length p.codes ≤ 256
  pub each_code : (n : ℕ) → n < length p.codes → IsCodeText (code_text p n)
  pub few_instrs : sum_by instr_count p.codes ≤ 67108864
  pub word : p.main < 2 ^ 32

-- ---- the code without its skips

-- an instruction that isn't a skip
abbrev pub is_plain : Instr → Bool
is_plain (Skip n) = false
is_plain _ = true

-- a thread without skips
abbrev pub plain_thread : Thread → Thread
plain_thread t = record { count = t.count; instrs = filter is_plain t.instrs }

-- a code without skips
abbrev pub plain_text : CodeText → CodeText
plain_text c = record c { threads = map plain_thread c.threads }

-- the program without skips
abbrev pub plain : Program → Program
plain p = record { main = p.main; codes = map plain_text p.codes }
