-- Which thread code is accepted, line by line from the head of each code on, and the first fault.
-- The rule in words: docs/THREADS.md, "Which thread code is accepted".
use Rattle.std.specs.Prelude.{ℕ, ◌+◌, ◌≡◌, ◌<◌, Bool, false, ◌&&◌, ◌||◌, ◌==◌, nat_lt, List, [], ◌∷◌, ◌++◌, map, flat_map, length, Option, Some, None}
use Rattle.tam_word.specs.Lists.{below, any_of, beyond, where_so, placed_from}
use Rattle.tl0_code.specs.declared.inlet.Inlet.{Inlet}
use Rattle.tl0_code.specs.declared.instr.Instr.{Instr}
use Rattle.tl0_code.specs.declared.instr.Instr.TheVariants.{Imm, Mov, Op as Operate, Fork, Switch, Falloc, Send, Ret, Ialloc, Ifetch, Istore, Skip}
use Rattle.tl0_code.specs.declared.bad_cause.BadCause.{BadCause}
use Rattle.tl0_code.specs.declared.bad_cause.BadCause.TheVariants as bad
use Rattle.tl0_code.specs.ThreadCode.{Thread, CodeText, Program, code_text, IsProgram}

-- the slots that an instruction names
abbrev pub slots_in : Instr → List ℕ
slots_in (Imm d w) = d ∷ []
slots_in (Mov d a) = d ∷ a ∷ []
slots_in (Operate o d a b) = d ∷ a ∷ b ∷ []
slots_in (Fork t) = []
slots_in (Switch s t u) = s ∷ []
slots_in (Falloc c i) = []
slots_in (Send f p a) = f ∷ a ∷ []
slots_in (Ret k a) = a ∷ []
slots_in (Ialloc n i) = n ∷ []
slots_in (Ifetch r x i n) = r ∷ x ∷ []
slots_in (Istore r x a n) = r ∷ x ∷ a ∷ []
slots_in (Skip n) = []

-- the threads that it names
abbrev pub threads_in : Instr → List ℕ
threads_in (Fork t) = t ∷ []
threads_in (Switch s t u) = t ∷ u ∷ []
threads_in _ = []

-- it names an inlet out of range, or one of a caller that hasn't the inlets of the callee's results behind it; or it sends to a place above 63
abbrev pub has_bad_inlet : Program → CodeText → Instr → Bool
has_bad_inlet p c (Falloc d i) = beyond i (length c.inlets) || (nat_lt d (length p.codes) && beyond (i + (code_text p d).results) (length c.inlets))
has_bad_inlet p c (Send f k a) = nat_lt 63 k
has_bad_inlet p c (Ialloc n i) = beyond i (length c.inlets)
has_bad_inlet p c (Ifetch r x i n) = beyond i (length c.inlets)
has_bad_inlet p c _ = false

-- it names a code that isn't there
abbrev pub has_bad_callee : Program → Instr → Bool
has_bad_callee p (Falloc d i) = beyond d (length p.codes)
has_bad_callee p _ = false

-- it names a result that isn't there, or a node above 1,023
abbrev pub has_bad_place : CodeText → Instr → Bool
has_bad_place c (Ret k a) = beyond k c.results
has_bad_place c (Ifetch r x i n) = nat_lt 1023 n
has_bad_place c (Istore r x a n) = nat_lt 1023 n
has_bad_place c _ = false

-- the faults of an instruction, in order
abbrev pub faults_of_instr : Program → CodeText → Instr → List BadCause
faults_of_instr p c i =
    where_so (any_of (λ s. beyond s c.slots) (slots_in i)) bad.Slot ++ (where_so (any_of (λ t. beyond t (length c.threads)) (threads_in i)) bad.Thread
    ++ (where_so (has_bad_inlet p c i) bad.Inlet ++ (where_so (has_bad_callee p i) bad.Callee ++ where_so (has_bad_place c i) bad.Place)))

-- the faults of the head of code n; that `main` isn't there is told at the first
abbrev pub faults_of_head : Program → ℕ → CodeText → List BadCause
faults_of_head p n c =
    where_so (nat_lt c.slots 2 || (nat_lt (length c.inlets) c.params || (nat_lt 64 c.params || nat_lt 64 c.results))) bad.Frame
    ++ where_so ((n == 0) && beyond p.main (length p.codes)) bad.Main

-- of an inlet
abbrev pub faults_of_inlet : CodeText → Inlet → List BadCause
faults_of_inlet c i = where_so (beyond i.slot c.slots) bad.Slot ++ where_so (beyond i.thread (length c.threads)) bad.Thread

-- of each line of a thread: its head, its instructions, its stop
abbrev pub faults_of_thread : Program → CodeText → Thread → List (List BadCause)
faults_of_thread p c t = where_so (nat_lt t.count 1 || nat_lt 65535 t.count) bad.Frame ∷ map (faults_of_instr p c) t.instrs ++ [] ∷ []

-- of each line of code n
abbrev pub faults_of_code : Program → ℕ → CodeText → List (List BadCause)
faults_of_code p n c = faults_of_head p n c ∷ map (faults_of_inlet c) c.inlets ++ flat_map (faults_of_thread p c) c.threads

-- the faults of a line, each with its code and its line, from 0 at the code's head
abbrev pub faults_on : ℕ → ℕ × List BadCause → List (ℕ × ℕ × BadCause)
faults_on n line = map (λ cause. (n, line.0, cause)) line.1

-- the faults of code n
abbrev pub faults_in : Program → ℕ → List (ℕ × ℕ × BadCause)
faults_in p n = flat_map (faults_on n) (placed_from 0 (faults_of_code p n (code_text p n)))

-- the faults of a program, in order
abbrev pub faults_of : Program → List (ℕ × ℕ × BadCause)
faults_of p = flat_map (faults_in p) (below (length p.codes))

-- the first of them
abbrev pub first_among : List (ℕ × ℕ × BadCause) → Option (ℕ × ℕ × BadCause)
first_among [] = None
first_among (f ∷ fs) = Some f

-- the first fault of a program: its code, its line and its cause
abbrev pub first_fault : Program → Option (ℕ × ℕ × BadCause)
first_fault p = first_among (faults_of p)

-- thread code without a fault
pub record IsChecked (p : Program) : Type 0 where
  pub within : IsProgram p
  pub main : p.main < length p.codes
  pub clean : faults_of p ≡ []
