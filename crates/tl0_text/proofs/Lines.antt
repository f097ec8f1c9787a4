-- What tokens say where there are too many.
use Rattle.std.proofs.Common.{◌≡◌, ℕ, ◌≤◌, List, [], ◌∷◌, length, Option, Some, None, refl, sym, arith, Bor}
use Rattle.tl0_text.specs.declared.verb.Verb.{Verb}
use Rattle.tl0_text.specs.declared.verb.Verb.TheVariants as verb
use Rattle.tl0_text.specs.declared.verb.Form.{Form}
use Rattle.tl0_text.specs.declared.verb.Form.TheVariants as form
use Rattle.tl0_text.specs.CodeSayings.{number_of, number_before, numbers_of, instr_of, does, line_of, formed, line_said}
use Rattle.tl0_text.specs.TokensView.{texts}

-- no instruction has five numbers
five_of_instr : (v : Verb) (a b c d e : ℕ) (ns : List ℕ) → does (instr_of v (a ∷ b ∷ c ∷ d ∷ e ∷ ns)) ≡ None
five_of_instr (verb.Operator o) a b c d e ns = refl
five_of_instr verb.Imm a b c d e ns = refl
five_of_instr verb.Mov a b c d e ns = refl
five_of_instr verb.Fork a b c d e ns = refl
five_of_instr verb.Switch a b c d e ns = refl
five_of_instr verb.Falloc a b c d e ns = refl
five_of_instr verb.Send a b c d e ns = refl
five_of_instr verb.Ret a b c d e ns = refl
five_of_instr verb.Ialloc a b c d e ns = refl
five_of_instr verb.Ifetch a b c d e ns = refl
five_of_instr verb.Istore a b c d e ns = refl
five_of_instr verb.Skip a b c d e ns = refl

-- no line has
five_of_line : (f : Form) (a b c d e : ℕ) (ns : List ℕ) → line_of f (a ∷ b ∷ c ∷ d ∷ e ∷ ns) ≡ None
five_of_line form.Code a b c d e ns = refl
five_of_line form.Inlet a b c d e ns = refl
five_of_line form.Thread a b c d e ns = refl
five_of_line form.Stop a b c d e ns = refl
five_of_line form.End a b c d e ns = refl
five_of_line (form.Instr v) a b c d e ns = five_of_instr v a b c d e ns

-- a line of five numbers or more, or of none
five_of_numbers : (f : Form) (a b c d e : Option ℕ) (ns : Option (List ℕ))
    → formed f (number_before a (number_before b (number_before c (number_before d (number_before e ns))))) ≡ None
five_of_numbers f None b c d e ns = refl
five_of_numbers f (Some a) None c d e ns = refl
five_of_numbers f (Some a) (Some b) None d e ns = refl
five_of_numbers f (Some a) (Some b) (Some c) None e ns = refl
five_of_numbers f (Some a) (Some b) (Some c) (Some d) None ns = refl
five_of_numbers f (Some a) (Some b) (Some c) (Some d) (Some e) None = refl
five_of_numbers f (Some a) (Some b) (Some c) (Some d) (Some e) (Some ns) = five_of_line f a b c d e ns

-- five tokens or more
pub five_tokens : (f : Form) (ts : List (Bor (List ℕ))) → 5 ≤ length ts → None ≡ line_said f (texts ts)
five_tokens f [] l = absurd (omega arith)
five_tokens f (a ∷ []) l = absurd (omega arith)
five_tokens f (a ∷ b ∷ []) l = absurd (omega arith)
five_tokens f (a ∷ b ∷ c ∷ []) l = absurd (omega arith)
five_tokens f (a ∷ b ∷ c ∷ d ∷ []) l = absurd (omega arith)
five_tokens f (a ∷ b ∷ c ∷ d ∷ e ∷ ts) l =
    sym (five_of_numbers f (number_of a.now) (number_of b.now) (number_of c.now) (number_of d.now) (number_of e.now) (numbers_of (texts ts)))
