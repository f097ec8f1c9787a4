-- The form of a line and its numbers: which they are, and that they make the line.
use Rattle.std.proofs.Common.{◌≡◌, ℕ, List, [], ◌∷◌, map, Option, Some, None, refl, ap, subst}
use Rattle.std.specs.Prelude.{decimal}
use Rattle.tam_word.specs.Words.{signed_text}
use Rattle.tl0_code.specs.declared.code_line.CodeLine.{CodeLine}
use Rattle.tl0_code.specs.declared.code_line.CodeLine.TheVariants.{Version, Counts, Head, Into, Begins, Does, Stops, Ends}
use Rattle.tl0_code.specs.declared.instr.Instr.{Instr}
use Rattle.tl0_code.specs.declared.instr.Instr.TheVariants as instr
use Rattle.tl0_code.specs.ThreadCode.{numbers_of}
use Rattle.tl0_code.specs.CodeTexts.{line_tokens, instr_tokens}
use Rattle.tl0_text.specs.declared.verb.Verb.{Verb}
use Rattle.tl0_text.specs.declared.verb.Verb.TheVariants as verb
use Rattle.tl0_text.specs.declared.verb.Form.{Form}
use Rattle.tl0_text.specs.declared.verb.Form.TheVariants as form
use Rattle.tl0_text.specs.CodeSayings.{form_text, instr_of, does, line_of}

-- the verb of an instruction
abbrev pub verb_of : Instr → Verb
verb_of (instr.Imm d w) = verb.Imm
verb_of (instr.Mov d a) = verb.Mov
verb_of (instr.Op o d a b) = verb.Operator o
verb_of (instr.Fork t) = verb.Fork
verb_of (instr.Switch s t u) = verb.Switch
verb_of (instr.Falloc c i) = verb.Falloc
verb_of (instr.Send f p a) = verb.Send
verb_of (instr.Ret k a) = verb.Ret
verb_of (instr.Ialloc n i) = verb.Ialloc
verb_of (instr.Ifetch r x i n) = verb.Ifetch
verb_of (instr.Istore r x a n) = verb.Istore
verb_of (instr.Skip n) = verb.Skip

-- the form of a line behind the first two
abbrev pub line_form : CodeLine → Form
line_form (Head p r s) = form.Code
line_form (Into i) = form.Inlet
line_form (Begins n) = form.Thread
line_form (Does i) = form.Instr (verb_of i)
line_form Stops = form.Stop
line_form _ = form.End

-- its numbers
abbrev pub line_numbers : CodeLine → List ℕ
line_numbers Version = []
line_numbers (Counts n m) = n ∷ m ∷ []
line_numbers (Head p r s) = p ∷ r ∷ s ∷ []
line_numbers (Into i) = i.slot ∷ i.thread ∷ []
line_numbers (Begins n) = n ∷ []
line_numbers (Does i) = numbers_of i
line_numbers Stops = []
line_numbers Ends = []

-- the text of the second number of a line of two
abbrev pub second_text : Form → ℕ → List ℕ
second_text (form.Instr verb.Imm) w = signed_text w
second_text _ n = decimal n

-- the tokens of a form's numbers
abbrev pub number_tokens : Form → List ℕ → List (List ℕ)
number_tokens f [] = []
number_tokens f (a ∷ []) = decimal a ∷ []
number_tokens f (a ∷ b ∷ []) = decimal a ∷ second_text f b ∷ []
number_tokens f (a ∷ b ∷ c ∷ ns) = map decimal (a ∷ b ∷ c ∷ ns)

-- behind the first two lines
abbrev pub IsBehindHead : CodeLine → Type 0
IsBehindHead Version = ⊥
IsBehindHead (Counts n m) = ⊥
IsBehindHead _ = Unit {0}

-- the tokens of an instruction
instr-tokens : (i : Instr) → instr_tokens i ≡ form_text (form.Instr (verb_of i)) ∷ number_tokens (form.Instr (verb_of i)) (numbers_of i)
instr-tokens (instr.Imm d w) = refl
instr-tokens (instr.Mov d a) = refl
instr-tokens (instr.Op o d a b) = refl
instr-tokens (instr.Fork t) = refl
instr-tokens (instr.Switch s t u) = refl
instr-tokens (instr.Falloc c i) = refl
instr-tokens (instr.Send f p a) = refl
instr-tokens (instr.Ret k a) = refl
instr-tokens (instr.Ialloc n i) = refl
instr-tokens (instr.Ifetch r x i n) = refl
instr-tokens (instr.Istore r x a n) = refl
instr-tokens (instr.Skip n) = refl

-- the tokens of a line are its word and those of its numbers
pub line-tokens : (l : CodeLine) → IsBehindHead l → line_tokens l ≡ form_text (line_form l) ∷ number_tokens (line_form l) (line_numbers l)
line-tokens Version h = absurd h
line-tokens (Counts n m) h = absurd h
line-tokens (Head p r s) h = refl
line-tokens (Into i) h = refl
line-tokens (Begins n) h = refl
line-tokens (Does i) h = instr-tokens i
line-tokens Stops h = refl
line-tokens Ends h = refl

-- an instruction is made of its verb and its numbers
instr-made : (i : Instr) → instr_of (verb_of i) (numbers_of i) ≡ Some i
instr-made (instr.Imm d w) = refl
instr-made (instr.Mov d a) = refl
instr-made (instr.Op o d a b) = refl
instr-made (instr.Fork t) = refl
instr-made (instr.Switch s t u) = refl
instr-made (instr.Falloc c i) = refl
instr-made (instr.Send f p a) = refl
instr-made (instr.Ret k a) = refl
instr-made (instr.Ialloc n i) = refl
instr-made (instr.Ifetch r x i n) = refl
instr-made (instr.Istore r x a n) = refl
instr-made (instr.Skip n) = refl

-- a line is made of its form and its numbers
pub line-made : (l : CodeLine) → IsBehindHead l → line_of (line_form l) (line_numbers l) ≡ Some l
line-made Version h = absurd h
line-made (Counts n m) h = absurd h
line-made (Head p r s) h = refl
line-made (Into i) h = refl
line-made (Begins n) h = refl
line-made (Does i) h = ap does (instr-made i)
line-made Stops h = refl
line-made Ends h = refl

-- what an instruction is made of
pub record IsInstr (v : Verb) (ns : List ℕ) (i : Instr) : Type 0 where
  pub verb : verb_of i ≡ v
  pub numbers : numbers_of i ≡ ns

-- an instruction that is given
by_instr : {v : Verb} {ns : List ℕ} {k : Instr} (i : Instr) → Some k ≡ Some i → verb_of k ≡ v → numbers_of k ≡ ns → IsInstr v ns i
by_instr {v} {ns} {k} i e p q =
    let same : k ≡ i = cc in subst (λ (x : Instr). IsInstr v ns x) same (record { verb = p; numbers = q })

-- is one of its verb and its numbers
instr-is : (v : Verb) (ns : List ℕ) (i : Instr) → instr_of v ns ≡ Some i → IsInstr v ns i
instr-is (verb.Operator o) [] i e = absurd cc
instr-is (verb.Operator o) (p ∷ []) i e = absurd cc
instr-is (verb.Operator o) (p ∷ q ∷ []) i e = absurd cc
instr-is (verb.Operator o) (p ∷ q ∷ r ∷ []) i e = by_instr i e refl refl
instr-is (verb.Operator o) (p ∷ q ∷ r ∷ s ∷ ns) i e = absurd cc
instr-is verb.Imm [] i e = absurd cc
instr-is verb.Imm (p ∷ []) i e = absurd cc
instr-is verb.Imm (p ∷ q ∷ []) i e = by_instr i e refl refl
instr-is verb.Imm (p ∷ q ∷ r ∷ ns) i e = absurd cc
instr-is verb.Mov [] i e = absurd cc
instr-is verb.Mov (p ∷ []) i e = absurd cc
instr-is verb.Mov (p ∷ q ∷ []) i e = by_instr i e refl refl
instr-is verb.Mov (p ∷ q ∷ r ∷ ns) i e = absurd cc
instr-is verb.Fork [] i e = absurd cc
instr-is verb.Fork (p ∷ []) i e = by_instr i e refl refl
instr-is verb.Fork (p ∷ q ∷ ns) i e = absurd cc
instr-is verb.Switch [] i e = absurd cc
instr-is verb.Switch (p ∷ []) i e = absurd cc
instr-is verb.Switch (p ∷ q ∷ []) i e = absurd cc
instr-is verb.Switch (p ∷ q ∷ r ∷ []) i e = by_instr i e refl refl
instr-is verb.Switch (p ∷ q ∷ r ∷ s ∷ ns) i e = absurd cc
instr-is verb.Falloc [] i e = absurd cc
instr-is verb.Falloc (p ∷ []) i e = absurd cc
instr-is verb.Falloc (p ∷ q ∷ []) i e = by_instr i e refl refl
instr-is verb.Falloc (p ∷ q ∷ r ∷ ns) i e = absurd cc
instr-is verb.Send [] i e = absurd cc
instr-is verb.Send (p ∷ []) i e = absurd cc
instr-is verb.Send (p ∷ q ∷ []) i e = absurd cc
instr-is verb.Send (p ∷ q ∷ r ∷ []) i e = by_instr i e refl refl
instr-is verb.Send (p ∷ q ∷ r ∷ s ∷ ns) i e = absurd cc
instr-is verb.Ret [] i e = absurd cc
instr-is verb.Ret (p ∷ []) i e = absurd cc
instr-is verb.Ret (p ∷ q ∷ []) i e = by_instr i e refl refl
instr-is verb.Ret (p ∷ q ∷ r ∷ ns) i e = absurd cc
instr-is verb.Ialloc [] i e = absurd cc
instr-is verb.Ialloc (p ∷ []) i e = absurd cc
instr-is verb.Ialloc (p ∷ q ∷ []) i e = by_instr i e refl refl
instr-is verb.Ialloc (p ∷ q ∷ r ∷ ns) i e = absurd cc
instr-is verb.Ifetch [] i e = absurd cc
instr-is verb.Ifetch (p ∷ []) i e = absurd cc
instr-is verb.Ifetch (p ∷ q ∷ []) i e = absurd cc
instr-is verb.Ifetch (p ∷ q ∷ r ∷ []) i e = absurd cc
instr-is verb.Ifetch (p ∷ q ∷ r ∷ s ∷ []) i e = by_instr i e refl refl
instr-is verb.Ifetch (p ∷ q ∷ r ∷ s ∷ t ∷ ns) i e = absurd cc
instr-is verb.Istore [] i e = absurd cc
instr-is verb.Istore (p ∷ []) i e = absurd cc
instr-is verb.Istore (p ∷ q ∷ []) i e = absurd cc
instr-is verb.Istore (p ∷ q ∷ r ∷ []) i e = absurd cc
instr-is verb.Istore (p ∷ q ∷ r ∷ s ∷ []) i e = by_instr i e refl refl
instr-is verb.Istore (p ∷ q ∷ r ∷ s ∷ t ∷ ns) i e = absurd cc
instr-is verb.Skip [] i e = absurd cc
instr-is verb.Skip (p ∷ []) i e = by_instr i e refl refl
instr-is verb.Skip (p ∷ q ∷ ns) i e = absurd cc

-- what a line is made of
pub record IsLine (f : Form) (ns : List ℕ) (l : CodeLine) : Type 0 where
  pub form : line_form l ≡ f
  pub numbers : line_numbers l ≡ ns
  pub behind : IsBehindHead l

-- a line that is given
by_line : {f : Form} {ns : List ℕ} {k : CodeLine} (l : CodeLine) → Some k ≡ Some l → line_form k ≡ f → line_numbers k ≡ ns → IsBehindHead k → IsLine f ns l
by_line {f} {ns} {k} l e p q b =
    let same : k ≡ l = cc in subst (λ (x : CodeLine). IsLine f ns x) same (record { form = p; numbers = q; behind = b })

-- the line of an instruction
by_does : (v : Verb) (ns : List ℕ) (o : Option Instr) (l : CodeLine) → instr_of v ns ≡ o → does o ≡ Some l → IsLine (form.Instr v) ns l
by_does v ns None l p e = absurd cc
by_does v ns (Some i) l p e =
    let is = instr-is v ns i p in
    by_line l e (ap form.Instr is.verb) is.numbers tt

-- is one of its form and its numbers
pub line-is : (f : Form) (ns : List ℕ) (l : CodeLine) → line_of f ns ≡ Some l → IsLine f ns l
line-is form.Code [] l e = absurd cc
line-is form.Code (p ∷ []) l e = absurd cc
line-is form.Code (p ∷ q ∷ []) l e = absurd cc
line-is form.Code (p ∷ q ∷ r ∷ []) l e = by_line l e refl refl tt
line-is form.Code (p ∷ q ∷ r ∷ s ∷ ns) l e = absurd cc
line-is form.Inlet [] l e = absurd cc
line-is form.Inlet (p ∷ []) l e = absurd cc
line-is form.Inlet (p ∷ q ∷ []) l e = by_line l e refl refl tt
line-is form.Inlet (p ∷ q ∷ r ∷ ns) l e = absurd cc
line-is form.Thread [] l e = absurd cc
line-is form.Thread (p ∷ []) l e = by_line l e refl refl tt
line-is form.Thread (p ∷ q ∷ ns) l e = absurd cc
line-is form.Stop [] l e = by_line l e refl refl tt
line-is form.Stop (p ∷ ns) l e = absurd cc
line-is form.End [] l e = by_line l e refl refl tt
line-is form.End (p ∷ ns) l e = absurd cc
line-is (form.Instr v) ns l e = by_does v ns (instr_of v ns) l refl e
