-- Runs of small thread code, its faults and its text, by computation.
use Rattle.std.specs.Prelude.{◌≡◌, ℕ, refl, List, [], ◌∷◌, Some, None, codes, map, decimal}
use Rattle.tam_word.specs.declared.op.Op.TheVariants.{Add}
use Rattle.tam_msgs.specs.Runs.{End, Quiet, Wild, Wild_skip, Wild_thread, Wild_frame}
use Rattle.tl0_code.specs.declared.instr.Instr.{Instr}
use Rattle.tl0_code.specs.declared.instr.Instr.TheVariants.{Op as Operate, Fork, Ret, Skip}
use Rattle.tl0_code.specs.declared.bad_cause.BadCause.TheVariants as bad
use Rattle.tl0_code.specs.ThreadCode.{Thread, CodeText, Program, plain}
use Rattle.tl0_code.specs.Machines.{Form, Plain, Owing, Giving}
use Rattle.tl0_code.specs.ThreadRuns.{told_in}
use Rattle.tl0_code.specs.CodeRules.{first_fault}
use Rattle.tl0_code.specs.CodeTexts.{line_tokens, program_lines}

-- a thread that one fork starts
abbrev pub once : List Instr → Thread
once is = record { count = 1; instrs = is }

-- a program of one code
abbrev pub alone : CodeText → Program
alone c = record { main = 0; codes = c ∷ [] }

-- the printed results, the end, the events and the activations of a run with so many frames
abbrev pub end_with : Form → Program → List ℕ → ℕ → (List (ℕ × ℕ)) × End × ℕ × ℕ
end_with form p args frames = (let r = told_in form p args [] (record { budget = 1000; frames = frames; cells = 16 }) in
    (r.printed, r.how, r.events, r.activations))

-- a run in which frames are given back
abbrev pub end_of : Program → List ℕ → (List (ℕ × ℕ)) × End × ℕ × ℕ
end_of p args = end_with Giving p args 4

-- ---- the sum of two params

abbrev pub sum_program : Program
sum_program = alone (record {
  params = 2;
  results = 1;
  slots = 5;
  inlets = record { slot = 2; thread = 1 } ∷ record { slot = 3; thread = 1 } ∷ [];
  threads = once [] ∷ record { count = 2; instrs = Operate Add 4 2 3 ∷ Ret 0 4 ∷ [] } ∷ [];
})

-- a line that is a word and numbers
abbrev pub row : List ℕ → List ℕ → List (List ℕ)
row word numbers = word ∷ map decimal numbers

sum_lines : map line_tokens (program_lines sum_program)
    ≡ (codes "tl0" ∷ codes "2" ∷ []) ∷ (codes "codes" ∷ decimal 1 ∷ codes "main" ∷ decimal 0 ∷ []) ∷ row (codes "code") (2 ∷ 1 ∷ 5 ∷ [])
    ∷ row (codes "inlet") (2 ∷ 1 ∷ []) ∷ row (codes "inlet") (3 ∷ 1 ∷ [])
    ∷ row (codes "thread") (1 ∷ []) ∷ row (codes "stop") []
    ∷ row (codes "thread") (2 ∷ []) ∷ row (codes "add") (4 ∷ 2 ∷ 3 ∷ []) ∷ row (codes "ret") (0 ∷ 4 ∷ []) ∷ row (codes "stop") []
    ∷ row (codes "end") [] ∷ []
sum_lines = refl

sum_run : end_of sum_program (2 ∷ 3 ∷ []) ≡ ((0, 5) ∷ [], Quiet, 5, 1)
sum_run = refl

sum_run_owing : end_with Owing sum_program (2 ∷ 3 ∷ []) 4 ≡ ((0, 5) ∷ [], Quiet, 5, 1)
sum_run_owing = refl

sum_run_plain : end_with Plain (plain sum_program) (2 ∷ 3 ∷ []) 4 ≡ ((0, 5) ∷ [], Quiet, 5, 1)
sum_run_plain = refl

-- ---- runs that are wild

-- a code without params of these threads
abbrev pub threads_alone : List Thread → Program
threads_alone ts = alone (record { params = 0; results = 0; slots = 2; inlets = []; threads = ts })

spent_again : end_of (threads_alone (once (Fork 0 ∷ []) ∷ [])) [] ≡ ([], Wild Wild_thread 0, 1, 1)
spent_again = refl

-- it owes 1, and skips 1
skips_all : end_of (threads_alone (once (Skip 1 ∷ []) ∷ [])) [] ≡ ([], Wild Wild_skip 1, 1, 1)
skips_all = refl

-- thread 1 is skipped and forked: at the stop nothing is owed and it is ready
skipped_runs : end_of (threads_alone (once (Skip 1 ∷ Fork 1 ∷ []) ∷ once [] ∷ [])) [] ≡ ([], Wild Wild_skip 0, 1, 1)
skipped_runs = refl

-- the param's thread is skipped, and the frame is done before the argument comes
abbrev pub skipped_param : Program
skipped_param = alone (record {
  params = 1;
  results = 0;
  slots = 3;
  inlets = record { slot = 2; thread = 1 } ∷ [];
  threads = once (Skip 1 ∷ []) ∷ once [] ∷ [];
})

-- where frames are given back, the argument finds none; where they only owe, its thread runs when nothing is owed
comes_too_late : end_of skipped_param (5 ∷ []) ≡ ([], Wild Wild_frame 0, 2, 1)
comes_too_late = refl

runs_too_late : end_with Owing skipped_param (5 ∷ []) 4 ≡ ([], Wild Wild_skip 0, 3, 1)
runs_too_late = refl

-- where none owes, it runs
runs_plainly : end_with Plain (plain skipped_param) (5 ∷ []) 4 ≡ ([], Quiet, 3, 1)
runs_plainly = refl

-- ---- faults

-- a fork of a thread that isn't there: line 3 of the code, behind its head and the head of its thread
no_thread : first_fault (threads_alone (once (Fork 1 ∷ []) ∷ [])) ≡ Some (0, 2, bad.Thread)
no_thread = refl

no_main : first_fault (record { main = 1; codes = (record { params = 0; results = 0; slots = 2; inlets = []; threads = once [] ∷ [] }) ∷ [] }) ≡ Some
    (0, 0, bad.Main)
no_main = refl

few_slots : first_fault (record { main = 1; codes = (record { params = 0; results = 0; slots = 1; inlets = []; threads = once [] ∷ [] }) ∷ [] }) ≡ Some
    (0, 0, bad.Frame)
few_slots = refl

no_fault : first_fault sum_program ≡ None
no_fault = refl
