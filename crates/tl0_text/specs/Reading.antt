-- Which texts read as thread code, and the first fault of every other.
-- The rule in words: docs/THREADS.md, "Thread code as text".
use Rattle.std.specs.Prelude.{ℕ, suc, ◌+◌, ◌≡◌, ◌≤◌, Bool, true, false, ◌&&◌, ◌||◌, not, ◌==◌, nat_lt, nat_le, List, [], ◌∷◌, ◌++◌, map, Option, Some, None}
use Rattle.std.specs.Prelude.{length, take, codes, is_some}
use Rattle.tam_word.specs.Lists.{where_so, same_bytes}
use Rattle.tam_text.specs.Lines.{lines_of}
use Rattle.tl0_code.specs.ThreadCode.{Thread, CodeText, Program, IsProgram}
use Rattle.tl0_code.specs.declared.code_line.CodeLine.{CodeLine}
use Rattle.tl0_code.specs.declared.code_line.CodeLine.TheVariants.{Version, Counts, Head, Into, Begins, Does, Stops, Ends}
use Rattle.tl0_code.specs.CodeTexts.{program_text}
use Rattle.tl0_text.specs.declared.cause.Cause0.{Cause0}
use Rattle.tl0_text.specs.declared.cause.Cause0.TheVariants.{BadHead, BadLine, BadNumber, TooMany, Ended}
use Rattle.tl0_text.specs.declared.next.Next.{Next}
use Rattle.tl0_text.specs.declared.next.Next.TheVariants as next
use Rattle.tl0_text.specs.declared.cause.Refused0.{Refused0}
use Rattle.tl0_text.specs.declared.cause.Refused0.TheVariants.{At, NoMemory}
use Rattle.tl0_text.specs.declared.verb.Form.{Form}
use Rattle.tl0_text.specs.CodeSayings.{tokens_of, has_empty, is_whole, number_of, form_of, size_of, line_said}

-- the bytes are the text of a program within the limits
pub record Reads0 (bytes : List ℕ) (p : Program) : Type 0 where
  pub within : IsProgram p
  pub text : bytes ≡ program_text p

-- ---- what was said

-- what lines say: what comes next, the heads' numbers, the codes that ended, and the code and the thread that are open
pub record Said : Type 0 where
  pub next : Next
  pub number : ℕ
  pub main : ℕ
  pub done : List CodeText
  pub code : CodeText
  pub thread : Thread

-- a code without inlets and threads
abbrev pub bare : ℕ → ℕ → ℕ → CodeText
bare p r s = record { params = p; results = r; slots = s; inlets = []; threads = [] }

-- a thread without instructions
abbrev pub idle : ℕ → Thread
idle n = record { count = n; instrs = [] }

-- before the first line
abbrev pub nothing_said : Said
nothing_said = record { next = next.Version; number = 0; main = 0; done = []; code = bare 0 0 0; thread = idle 0 }

-- behind a code comes another, or nothing
abbrev pub behind_code : ℕ → ℕ → Next
behind_code number done = elim (done == number) [ true ↦ next.Done | false ↦ next.Head ]

-- what was said behind a line
abbrev pub with_line : Said → CodeLine → Said
with_line s Version = record s { next = next.Counts }
with_line s (Counts n m) = record s { next = next.Head; number = n; main = m }
with_line s (Head p r k) = record s { next = next.Inlets; code = bare p r k }
with_line s (Into i) = record s { next = next.Inlets; code = record s.code { inlets = s.code.inlets ++ i ∷ [] } }
with_line s (Begins n) = record s { next = next.Instrs; thread = idle n }
with_line s (Does i) = record s { thread = record s.thread { instrs = s.thread.instrs ++ i ∷ [] } }
with_line s Stops = record s { next = next.Threads; code = record s.code { threads = s.code.threads ++ s.thread ∷ [] }; thread = idle 0 }
with_line s Ends = record s { next = behind_code s.number (suc (length s.done)); done = s.done ++ s.code ∷ []; code = bare 0 0 0 }

-- ---- the first two lines

-- the line is the first
abbrev pub is_version : List (List ℕ) → Bool
is_version (a ∷ b ∷ []) = same_bytes a (codes "tl0") && same_bytes b (codes "2")
is_version _ = false

-- 1 to 256 codes
abbrev pub counts_line : Option ℕ → Option ℕ → Option CodeLine
counts_line (Some n) (Some m) = elim (nat_le 1 n && nat_le n 256) [ true ↦ Some (Counts n m) | false ↦ None ]
counts_line _ _ = None

-- the second line
abbrev pub counts_of : List (List ℕ) → Option CodeLine
counts_of (a ∷ n ∷ b ∷ m ∷ []) = elim (same_bytes a (codes "codes") && same_bytes b (codes "main"))
    [ true ↦ counts_line (number_of n) (number_of m) | false ↦ None ]
counts_of _ = None

-- the line of the head that comes next
abbrev pub head_of : Next → List (List ℕ) → Option CodeLine
head_of next.Version tokens = elim (is_version tokens) [ true ↦ Some Version | false ↦ None ]
head_of _ tokens = counts_of tokens

-- ---- the lines behind them

-- the line by its form and what stands behind its word
abbrev pub line_with : Option Form → List (List ℕ) → Option CodeLine
line_with None ts = None
line_with (Some f) ts = line_said f ts

-- a line behind the head
abbrev pub body_of : Next → List (List ℕ) → Option CodeLine
body_of n [] = None
body_of n (t ∷ ts) = line_with (form_of n t) ts

-- a head line comes next
abbrev pub is_head : Next → Bool
is_head next.Version = true
is_head next.Counts = true
is_head _ = false

-- the line that tokens are, by what comes next
abbrev pub line_at : Next → List (List ℕ) → Option CodeLine
line_at n tokens = elim (is_head n) [ true ↦ head_of n tokens | false ↦ body_of n tokens ]

-- ---- faults

-- no line of such a word may come next, or it has another number of tokens behind its word
abbrev pub has_wrong_size : Option Form → List (List ℕ) → Bool
has_wrong_size None ts = true
has_wrong_size (Some f) ts = not (length ts == size_of f)

-- the line passes a limit of its code
abbrev pub passes : Said → Option CodeLine → Bool
passes s (Some (Head p r k)) = nat_lt 1026 k
passes s (Some (Into i)) = nat_le 1024 (length s.code.inlets)
passes s (Some (Begins n)) = nat_le 3073 (length s.code.threads)
passes s _ = false

-- the faults of a head line, in order
abbrev pub faults_of_head : Next → List ℕ → List Cause0
faults_of_head n line = where_so (not (is_some (head_of n (tokens_of line)))) BadHead ++ where_so (not (is_whole line)) BadLine

-- the faults of a line behind the head, in order, by its form and the tokens behind its word
abbrev pub faults_by : Said → List ℕ → List (List ℕ) → Option Form → List (List ℕ) → List Cause0
faults_by s line tokens f ts =
    where_so (has_wrong_size f ts || (has_empty tokens || not (is_whole line))) BadLine
    ++ where_so (not (is_some (line_with f ts))) BadNumber
    ++ where_so (passes s (line_with f ts)) TooMany

-- by its tokens
abbrev pub faults_of_tokens : Said → List ℕ → List (List ℕ) → List Cause0
faults_of_tokens s line [] = BadLine ∷ []
faults_of_tokens s line (t ∷ ts) = faults_by s line (t ∷ ts) (form_of s.next t) ts

-- of the line
abbrev pub faults_of_body : Said → List ℕ → List Cause0
faults_of_body s line = faults_of_tokens s line (tokens_of line)

-- the faults of a line behind what was said
abbrev pub faults_of_line : Said → List ℕ → List Cause0
faults_of_line s line = elim (is_head s.next) [ true ↦ faults_of_head s.next line | false ↦ faults_of_body s line ]

-- what a line with more tokens than any has is refused for
abbrev pub long_line_cause : Next → Cause0
long_line_cause n = elim (is_head n) [ true ↦ BadHead | false ↦ BadLine ]

-- the faults at the end: another line is needed
abbrev pub faults_at_end : Next → List Cause0
faults_at_end next.Done = []
faults_at_end _ = Ended ∷ []

-- what was said behind a line without faults
abbrev pub said_by : Said → Option CodeLine → Said
said_by s None = s
said_by s (Some l) = with_line s l

-- the faults of the lines from number n on, and of the end at the line behind them
abbrev pub faults_from : Said → ℕ → List (List ℕ) → List (ℕ × Cause0)
faults_from s n [] = map (λ c. (n, c)) (faults_at_end s.next)
faults_from s n (line ∷ lines) = map (λ c. (n, c)) (faults_of_line s line) ++ faults_from (said_by s (line_at s.next (tokens_of line))) (n + 1) lines

-- the faults of a text
abbrev pub faults : List ℕ → List (ℕ × Cause0)
faults bytes = faults_from nothing_said 1 (lines_of bytes)

-- the first fault of a text, as a list of at most one
abbrev pub first_fault : List ℕ → List (ℕ × Cause0)
first_fault bytes = take 1 (faults bytes)

-- the error tells the first of the faults, or that there was no memory
abbrev pub IsFirst : List (ℕ × Cause0) → Refused0 → Type 0
IsFirst fs (At line cause) = take 1 fs ≡ (line, cause) ∷ []
IsFirst fs NoMemory = Unit {0}

-- ---- the program of a text

-- what lines say
abbrev pub said_from : Said → List (List ℕ) → Said
said_from s [] = s
said_from s (line ∷ lines) = said_from (said_by s (line_at s.next (tokens_of line))) lines

-- the program that was said
abbrev pub program_said : Said → Program
program_said s = record { main = s.main; codes = s.done }

-- the program that a text without faults spells
abbrev pub program_of : List ℕ → Program
program_of bytes = program_said (said_from nothing_said (lines_of bytes))

-- ---- laws

-- a text reads as a program exactly where it has no fault, and the program is the one that its lines say
pub record ReadsExactly (bytes : List ℕ) : Type 0 where
  pub read : faults bytes ≡ [] → Reads0 bytes (program_of bytes)
  pub only : (p : Program) → Reads0 bytes p → (faults bytes ≡ []) × (p ≡ program_of bytes)

-- so it is of each text up to the longest that is read; so many bytes have no more instructions than a program may have
abbrev pub TextsReadExactly : Type 0
TextsReadExactly = (bytes : List ℕ) → length bytes ≤ 67108864 → ReadsExactly bytes
