-- The text of thread code: its lines, and their tokens.
-- The rule in words: docs/THREADS.md, "Thread code as text".
use Rattle.std.specs.Prelude.{ℕ, List, [], ◌∷◌, ◌++◌, map, flat_map, length, decimal, codes}
use Rattle.tam_word.specs.Words.{signed_text}
use Rattle.tam_word.specs.OpNames.{op_name}
use Rattle.tl0_code.specs.declared.code_line.CodeLine.{CodeLine}
use Rattle.tl0_code.specs.declared.code_line.CodeLine.TheVariants.{Version, Counts, Head, Into, Begins, Does, Stops, Ends}
use Rattle.tl0_code.specs.declared.inlet.Inlet.{Inlet}
use Rattle.tl0_code.specs.declared.instr.Instr.{Instr}
use Rattle.tl0_code.specs.declared.instr.Instr.TheVariants.{Imm, Mov, Op as Operate, Fork, Switch, Falloc, Send, Ret, Ialloc, Ifetch, Istore, Skip}
use Rattle.tl0_code.specs.ThreadCode.{Thread, CodeText, Program}

-- a word and numbers
abbrev pub said : List ℕ → List ℕ → List (List ℕ)
said word numbers = word ∷ map decimal numbers

-- the tokens of an instruction
abbrev pub instr_tokens : Instr → List (List ℕ)
instr_tokens (Imm d w) = codes "imm" ∷ decimal d ∷ signed_text w ∷ []
instr_tokens (Mov d a) = said (codes "mov") (d ∷ a ∷ [])
instr_tokens (Operate o d a b) = said (op_name o) (d ∷ a ∷ b ∷ [])
instr_tokens (Fork t) = said (codes "fork") (t ∷ [])
instr_tokens (Switch s t u) = said (codes "switch") (s ∷ t ∷ u ∷ [])
instr_tokens (Falloc c i) = said (codes "falloc") (c ∷ i ∷ [])
instr_tokens (Send f p a) = said (codes "send") (f ∷ p ∷ a ∷ [])
instr_tokens (Ret k a) = said (codes "ret") (k ∷ a ∷ [])
instr_tokens (Ialloc n i) = said (codes "ialloc") (n ∷ i ∷ [])
instr_tokens (Ifetch r x i n) = said (codes "ifetch") (r ∷ x ∷ i ∷ n ∷ [])
instr_tokens (Istore r x a n) = said (codes "istore") (r ∷ x ∷ a ∷ n ∷ [])
instr_tokens (Skip n) = said (codes "skip") (n ∷ [])

-- the tokens of a line
abbrev pub line_tokens : CodeLine → List (List ℕ)
line_tokens Version = codes "tl0" ∷ codes "2" ∷ []
line_tokens (Counts n m) = codes "codes" ∷ decimal n ∷ codes "main" ∷ decimal m ∷ []
line_tokens (Head p r s) = said (codes "code") (p ∷ r ∷ s ∷ [])
line_tokens (Into i) = said (codes "inlet") (i.slot ∷ i.thread ∷ [])
line_tokens (Begins n) = said (codes "thread") (n ∷ [])
line_tokens (Does i) = instr_tokens i
line_tokens Stops = codes "stop" ∷ []
line_tokens Ends = codes "end" ∷ []

-- tokens with one space between, and LF behind
abbrev pub spaced : List (List ℕ) → List ℕ
spaced [] = 10 ∷ []
spaced (t ∷ []) = t ++ 10 ∷ []
spaced (t ∷ u ∷ ts) = t ++ (32 ∷ spaced (u ∷ ts))

-- the lines of a thread
abbrev pub thread_lines : Thread → List CodeLine
thread_lines t = Begins t.count ∷ map Does t.instrs ++ Stops ∷ []

-- of a code
abbrev pub text_lines : CodeText → List CodeLine
text_lines c = Head c.params c.results c.slots ∷ map Into c.inlets ++ (flat_map thread_lines c.threads ++ Ends ∷ [])

-- of a program
abbrev pub program_lines : Program → List CodeLine
program_lines p = Version ∷ Counts (length p.codes) p.main ∷ flat_map text_lines p.codes

-- the text of a program
abbrev pub program_text : Program → List ℕ
program_text p = flat_map (λ l. spaced (line_tokens l)) (program_lines p)
