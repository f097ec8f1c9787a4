-- What the code keeps of a text, without where it lies.
use Rattle.std.specs.Prelude.{ℕ, List, map, Result, Ok, Err}
use Rattle.std.proofs.Common.{Bor}
use Rattle.rv_asm.specs.declared.asm_error.AsmCause.{AsmCause}
use Rattle.rv_asm.specs.declared.statement.Code.{Code as CodeAt}
use Rattle.rv_asm.specs.declared.statement.Code.TheVariants as at
use Rattle.rv_asm.specs.declared.statement.Statement.{Statement as StatementAt}
use Rattle.rv_asm.specs.declared.statement.Statement.TheVariants as line
use Rattle.rv_asm.specs.Statements.{Code, Word, Goto, Statement, Label, Coded}

-- the bytes that slices point to
abbrev pub texts : List (Bor (List ℕ)) → List (List ℕ)
texts ts = map (λ t. t.now) ts

-- a code
abbrev pub code_seen : CodeAt → Code
code_seen (at.Word w) = Word w
code_seen (at.Goto j t) = Goto j t.now

-- a statement
abbrev pub seen : StatementAt → Statement
seen (line.Label n) = Label n.now
seen (line.Code c) = Coded (code_seen c)

-- a statement, or why there is none
abbrev pub seen_result : Result StatementAt AsmCause → Result Statement AsmCause
seen_result (Ok s) = Ok (seen s)
seen_result (Err e) = Err e

-- two parts
abbrev pub parts : Bor (List ℕ) × Bor (List ℕ) → List ℕ × List ℕ
parts p = (p.0.now, p.1.now)

-- one
abbrev pub text_of : Bor (List ℕ) → List ℕ
text_of t = t.now

-- a code or why there is none, as a line
abbrev pub coded : Result CodeAt AsmCause → Result Statement AsmCause
coded (Ok c) = Ok (Coded (code_seen c))
coded (Err e) = Err e
