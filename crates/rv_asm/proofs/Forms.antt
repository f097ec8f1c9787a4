-- Numbers of tokens behind a verb that no form has.
use Rattle.std.proofs.Common.{◌≡◌, ℕ, ◌≤◌, List, [], ◌∷◌, length, Err, None, Bor, refl, arith}
use Rattle.rv_asm.specs.declared.asm_error.AsmCause.TheVariants.{BadLine}
use Rattle.rv_asm.specs.declared.verb.Verb.{Verb}
use Rattle.rv_asm.specs.Statements.{said_by, label_in}
use Rattle.rv_asm.specs.StatementView.{texts}

-- an operand and a comma
pub two_tokens : (v : Verb) (ts : List (Bor (List ℕ))) → length ts ≡ 2 → Err BadLine ≡ said_by v (texts ts)
two_tokens v [] h = absurd (omega arith)
two_tokens v (a ∷ []) h = absurd (omega arith)
two_tokens v (a ∷ b ∷ []) h = refl
two_tokens v (a ∷ b ∷ c ∷ ts) h = absurd (omega arith)

-- two operands and a further comma
pub four_tokens : (v : Verb) (ts : List (Bor (List ℕ))) → length ts ≡ 4 → Err BadLine ≡ said_by v (texts ts)
four_tokens v [] h = absurd (omega arith)
four_tokens v (a ∷ []) h = absurd (omega arith)
four_tokens v (a ∷ b ∷ []) h = absurd (omega arith)
four_tokens v (a ∷ b ∷ c ∷ []) h = absurd (omega arith)
four_tokens v (a ∷ b ∷ c ∷ d ∷ []) h = refl
four_tokens v (a ∷ b ∷ c ∷ d ∷ e ∷ ts) h = absurd (omega arith)

-- more than three operands
pub too_many_tokens : (v : Verb) (ts : List (Bor (List ℕ))) → 6 ≤ length ts → Err BadLine ≡ said_by v (texts ts)
too_many_tokens v [] h = absurd (omega arith)
too_many_tokens v (a ∷ []) h = absurd (omega arith)
too_many_tokens v (a ∷ b ∷ []) h = absurd (omega arith)
too_many_tokens v (a ∷ b ∷ c ∷ []) h = absurd (omega arith)
too_many_tokens v (a ∷ b ∷ c ∷ d ∷ []) h = absurd (omega arith)
too_many_tokens v (a ∷ b ∷ c ∷ d ∷ e ∷ []) h = absurd (omega arith)
too_many_tokens v (a ∷ b ∷ c ∷ d ∷ e ∷ f ∷ ts) h = refl

-- a token behind it
pub no_label_there : (t : List ℕ) (ts : List (Bor (List ℕ))) → 1 ≤ length ts → None ≡ label_in t (texts ts)
no_label_there t [] h = absurd (omega arith)
no_label_there t (a ∷ ts) h = refl
