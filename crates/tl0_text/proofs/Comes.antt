-- Which line comes at which place of a text: what is read there, and that what is printed there is read.
use Rattle.std.proofs.Common.{◌≡◌, ℕ, ◌≤◌, Bool, true, false, cond, List, [], ◌∷◌, Option, Some, None, refl, sym, ap, ap₂, ◌∙◌}
use Rattle.std.proofs.Common.{subst, true≢false, ◌&&◌}
use Rattle.std.specs.Prelude.{nat_le, codes}
use Rattle.std.specs.List.{find}
use Rattle.std.proofs.lemmas.Bool.{leb-true, le-leb}
use Rattle.tam_word.specs.declared.op.Op.{Op}
use Rattle.tam_word.specs.declared.op.Op.TheVariants as op
use Rattle.tam_word.specs.Lists.{all_of, same_bytes}
use Rattle.tam_word.specs.OpNames.{op_name}
use Rattle.tam_word.proofs.Tests.{both-true}
use Rattle.tam_text.proofs.SameBytes.{same_equal}
use Rattle.tl0_code.specs.declared.code_line.CodeLine.{CodeLine}
use Rattle.tl0_code.specs.declared.code_line.CodeLine.TheVariants.{Version, Counts, Head, Into, Begins, Does, Stops, Ends}
use Rattle.tl0_code.specs.CodeTexts.{line_tokens}
use Rattle.tl0_text.specs.declared.next.Next.{Next}
use Rattle.tl0_text.specs.declared.next.Next.TheVariants as next
use Rattle.tl0_text.specs.declared.verb.Verb.{Verb}
use Rattle.tl0_text.specs.declared.verb.Verb.TheVariants as verb
use Rattle.tl0_text.specs.declared.verb.Form.{Form}
use Rattle.tl0_text.specs.declared.verb.Form.TheVariants as form
use Rattle.tl0_text.specs.CodeSayings.{form_text, verb_text, forms_at, form_of, number_of, formed, line_said}
use Rattle.tl0_text.specs.Reading.{is_version, counts_line, counts_of, line_with, body_of, line_at}
use Rattle.tl0_text.proofs.Cutting.{all-parts, all-first}
use Rattle.tl0_text.proofs.Forms.{line_form, line_numbers, number_tokens, IsBehindHead, line-tokens, line-made}
use Rattle.tl0_text.specs.Printing.{is_word}
use Rattle.tl0_text.proofs.Spelling.{number-is, number-again, tokens-read, says}

-- ---- forms

-- a line of such a form may come
abbrev may_come : Next → Form → Bool
may_come next.Version form.Code = false
may_come next.Version form.Inlet = false
may_come next.Version form.Thread = false
may_come next.Version form.Stop = false
may_come next.Version form.End = false
may_come next.Version (form.Instr v) = false
may_come next.Counts form.Code = false
may_come next.Counts form.Inlet = false
may_come next.Counts form.Thread = false
may_come next.Counts form.Stop = false
may_come next.Counts form.End = false
may_come next.Counts (form.Instr v) = false
may_come next.Head form.Code = true
may_come next.Head form.Inlet = false
may_come next.Head form.Thread = false
may_come next.Head form.Stop = false
may_come next.Head form.End = false
may_come next.Head (form.Instr v) = false
may_come next.Inlets form.Code = false
may_come next.Inlets form.Inlet = true
may_come next.Inlets form.Thread = true
may_come next.Inlets form.Stop = false
may_come next.Inlets form.End = false
may_come next.Inlets (form.Instr v) = false
may_come next.Threads form.Code = false
may_come next.Threads form.Inlet = false
may_come next.Threads form.Thread = true
may_come next.Threads form.Stop = false
may_come next.Threads form.End = true
may_come next.Threads (form.Instr v) = false
may_come next.Instrs form.Code = false
may_come next.Instrs form.Inlet = false
may_come next.Instrs form.Thread = false
may_come next.Instrs form.Stop = true
may_come next.Instrs form.End = false
may_come next.Instrs (form.Instr v) = true
may_come next.Done form.Code = false
may_come next.Done form.Inlet = false
may_come next.Done form.Thread = false
may_come next.Done form.Stop = false
may_come next.Done form.End = false
may_come next.Done (form.Instr v) = false

-- what is found passes, and is one of the list
find-passes : {X : Type 0} (p q : X → Bool) (xs : List X) (x : X) → all_of q xs ≡ true → find p xs ≡ Some x → (q x ≡ true) × (p x ≡ true)
find-passes p q [] x h e = absurd cc
find-passes {X} p q (y ∷ ys) x h e = go (p y) refl e (find-passes p q ys x (all-parts q y ys h).1)
  where
    parts : (q y ≡ true) × (all_of q ys ≡ true)
    parts = all-parts q y ys h

    go : (t : Bool) → p y ≡ t → cond t (Some y) (find p ys) ≡ Some x → (find p ys ≡ Some x → (q x ≡ true) × (p x ≡ true)) → (q x ≡ true) × (p x ≡ true)
    go true u f i =
        let same : y ≡ x = cc in
        (subst (λ (z : X). q z ≡ true) same parts.0, subst (λ (z : X). p z ≡ true) same u)
    go false u f i = i f

-- the forms of a place may come there
all-come : (n : Next) → all_of (may_come n) (forms_at n) ≡ true
all-come next.Version = refl
all-come next.Counts = refl
all-come next.Head = refl
all-come next.Inlets = refl
all-come next.Threads = refl
all-come next.Instrs = refl
all-come next.Done = refl

-- the form of a word may come, and has the word
form-is : (n : Next) (word : List ℕ) (f : Form) → form_of n word ≡ Some f → (may_come n f ≡ true) × (word ≡ form_text f)
form-is n word f e =
    let p = find-passes (λ g. same_bytes word (form_text g)) (may_come n) (forms_at n) f (all-come n) e in
    (p.0, same_equal word (form_text f) p.1)

-- an operator's word
op-again : (o : Op) → form_of next.Instrs (op_name o) ≡ Some (form.Instr (verb.Operator o))
op-again op.Add = refl
op-again op.Sub = refl
op-again op.Mul = refl
op-again op.Div = refl
op-again op.Divu = refl
op-again op.Rem = refl
op-again op.Remu = refl
op-again op.And = refl
op-again op.Or = refl
op-again op.Xor = refl
op-again op.Sll = refl
op-again op.Srl = refl
op-again op.Sra = refl
op-again op.Slt = refl
op-again op.Sltu = refl
op-again op.Eq = refl

-- an instruction's word
verb-again : (v : Verb) → form_of next.Instrs (verb_text v) ≡ Some (form.Instr v)
verb-again (verb.Operator o) = op-again o
verb-again verb.Imm = refl
verb-again verb.Mov = refl
verb-again verb.Fork = refl
verb-again verb.Switch = refl
verb-again verb.Falloc = refl
verb-again verb.Send = refl
verb-again verb.Ret = refl
verb-again verb.Ialloc = refl
verb-again verb.Ifetch = refl
verb-again verb.Istore = refl
verb-again verb.Skip = refl

-- the word of a form that may come is that form
form-again : (n : Next) (f : Form) → may_come n f ≡ true → form_of n (form_text f) ≡ Some f
form-again next.Version form.Code h = absurd (true≢false (sym h))
form-again next.Version form.Inlet h = absurd (true≢false (sym h))
form-again next.Version form.Thread h = absurd (true≢false (sym h))
form-again next.Version form.Stop h = absurd (true≢false (sym h))
form-again next.Version form.End h = absurd (true≢false (sym h))
form-again next.Version (form.Instr v) h = absurd (true≢false (sym h))
form-again next.Counts form.Code h = absurd (true≢false (sym h))
form-again next.Counts form.Inlet h = absurd (true≢false (sym h))
form-again next.Counts form.Thread h = absurd (true≢false (sym h))
form-again next.Counts form.Stop h = absurd (true≢false (sym h))
form-again next.Counts form.End h = absurd (true≢false (sym h))
form-again next.Counts (form.Instr v) h = absurd (true≢false (sym h))
form-again next.Head form.Code h = refl
form-again next.Head form.Inlet h = absurd (true≢false (sym h))
form-again next.Head form.Thread h = absurd (true≢false (sym h))
form-again next.Head form.Stop h = absurd (true≢false (sym h))
form-again next.Head form.End h = absurd (true≢false (sym h))
form-again next.Head (form.Instr v) h = absurd (true≢false (sym h))
form-again next.Inlets form.Code h = absurd (true≢false (sym h))
form-again next.Inlets form.Inlet h = refl
form-again next.Inlets form.Thread h = refl
form-again next.Inlets form.Stop h = absurd (true≢false (sym h))
form-again next.Inlets form.End h = absurd (true≢false (sym h))
form-again next.Inlets (form.Instr v) h = absurd (true≢false (sym h))
form-again next.Threads form.Code h = absurd (true≢false (sym h))
form-again next.Threads form.Inlet h = absurd (true≢false (sym h))
form-again next.Threads form.Thread h = refl
form-again next.Threads form.Stop h = absurd (true≢false (sym h))
form-again next.Threads form.End h = refl
form-again next.Threads (form.Instr v) h = absurd (true≢false (sym h))
form-again next.Instrs form.Code h = absurd (true≢false (sym h))
form-again next.Instrs form.Inlet h = absurd (true≢false (sym h))
form-again next.Instrs form.Thread h = absurd (true≢false (sym h))
form-again next.Instrs form.Stop h = refl
form-again next.Instrs form.End h = absurd (true≢false (sym h))
form-again next.Instrs (form.Instr v) h = verb-again v
form-again next.Done form.Code h = absurd (true≢false (sym h))
form-again next.Done form.Inlet h = absurd (true≢false (sym h))
form-again next.Done form.Thread h = absurd (true≢false (sym h))
form-again next.Done form.Stop h = absurd (true≢false (sym h))
form-again next.Done form.End h = absurd (true≢false (sym h))
form-again next.Done (form.Instr v) h = absurd (true≢false (sym h))

-- ---- lines

-- the line may come
abbrev pub Comes : Next → CodeLine → Type 0
Comes next.Version Version = Unit {0}
Comes next.Version (Counts k m) = ⊥
Comes next.Version (Head p r s) = ⊥
Comes next.Version (Into i) = ⊥
Comes next.Version (Begins k) = ⊥
Comes next.Version (Does i) = ⊥
Comes next.Version Stops = ⊥
Comes next.Version Ends = ⊥
Comes next.Counts Version = ⊥
Comes next.Counts (Counts k m) = (1 ≤ k) × (k ≤ 256)
Comes next.Counts (Head p r s) = ⊥
Comes next.Counts (Into i) = ⊥
Comes next.Counts (Begins k) = ⊥
Comes next.Counts (Does i) = ⊥
Comes next.Counts Stops = ⊥
Comes next.Counts Ends = ⊥
Comes next.Head Version = ⊥
Comes next.Head (Counts k m) = ⊥
Comes next.Head (Head p r s) = Unit {0}
Comes next.Head (Into i) = ⊥
Comes next.Head (Begins k) = ⊥
Comes next.Head (Does i) = ⊥
Comes next.Head Stops = ⊥
Comes next.Head Ends = ⊥
Comes next.Inlets Version = ⊥
Comes next.Inlets (Counts k m) = ⊥
Comes next.Inlets (Head p r s) = ⊥
Comes next.Inlets (Into i) = Unit {0}
Comes next.Inlets (Begins k) = Unit {0}
Comes next.Inlets (Does i) = ⊥
Comes next.Inlets Stops = ⊥
Comes next.Inlets Ends = ⊥
Comes next.Threads Version = ⊥
Comes next.Threads (Counts k m) = ⊥
Comes next.Threads (Head p r s) = ⊥
Comes next.Threads (Into i) = ⊥
Comes next.Threads (Begins k) = Unit {0}
Comes next.Threads (Does i) = ⊥
Comes next.Threads Stops = ⊥
Comes next.Threads Ends = Unit {0}
Comes next.Instrs Version = ⊥
Comes next.Instrs (Counts k m) = ⊥
Comes next.Instrs (Head p r s) = ⊥
Comes next.Instrs (Into i) = ⊥
Comes next.Instrs (Begins k) = ⊥
Comes next.Instrs (Does i) = Unit {0}
Comes next.Instrs Stops = Unit {0}
Comes next.Instrs Ends = ⊥
Comes next.Done Version = ⊥
Comes next.Done (Counts k m) = ⊥
Comes next.Done (Head p r s) = ⊥
Comes next.Done (Into i) = ⊥
Comes next.Done (Begins k) = ⊥
Comes next.Done (Does i) = ⊥
Comes next.Done Stops = ⊥
Comes next.Done Ends = ⊥

-- by its form
comes_by : (n : Next) (l : CodeLine) → may_come n (line_form l) ≡ true → IsBehindHead l → Comes n l
comes_by next.Version Version h b = absurd b
comes_by next.Version (Counts k m) h b = absurd b
comes_by next.Version (Head p r s) h b = absurd (true≢false (sym h))
comes_by next.Version (Into i) h b = absurd (true≢false (sym h))
comes_by next.Version (Begins k) h b = absurd (true≢false (sym h))
comes_by next.Version (Does i) h b = absurd (true≢false (sym h))
comes_by next.Version Stops h b = absurd (true≢false (sym h))
comes_by next.Version Ends h b = absurd (true≢false (sym h))
comes_by next.Counts Version h b = absurd b
comes_by next.Counts (Counts k m) h b = absurd b
comes_by next.Counts (Head p r s) h b = absurd (true≢false (sym h))
comes_by next.Counts (Into i) h b = absurd (true≢false (sym h))
comes_by next.Counts (Begins k) h b = absurd (true≢false (sym h))
comes_by next.Counts (Does i) h b = absurd (true≢false (sym h))
comes_by next.Counts Stops h b = absurd (true≢false (sym h))
comes_by next.Counts Ends h b = absurd (true≢false (sym h))
comes_by next.Head Version h b = absurd b
comes_by next.Head (Counts k m) h b = absurd b
comes_by next.Head (Head p r s) h b = tt
comes_by next.Head (Into i) h b = absurd (true≢false (sym h))
comes_by next.Head (Begins k) h b = absurd (true≢false (sym h))
comes_by next.Head (Does i) h b = absurd (true≢false (sym h))
comes_by next.Head Stops h b = absurd (true≢false (sym h))
comes_by next.Head Ends h b = absurd (true≢false (sym h))
comes_by next.Inlets Version h b = absurd b
comes_by next.Inlets (Counts k m) h b = absurd b
comes_by next.Inlets (Head p r s) h b = absurd (true≢false (sym h))
comes_by next.Inlets (Into i) h b = tt
comes_by next.Inlets (Begins k) h b = tt
comes_by next.Inlets (Does i) h b = absurd (true≢false (sym h))
comes_by next.Inlets Stops h b = absurd (true≢false (sym h))
comes_by next.Inlets Ends h b = absurd (true≢false (sym h))
comes_by next.Threads Version h b = absurd b
comes_by next.Threads (Counts k m) h b = absurd b
comes_by next.Threads (Head p r s) h b = absurd (true≢false (sym h))
comes_by next.Threads (Into i) h b = absurd (true≢false (sym h))
comes_by next.Threads (Begins k) h b = tt
comes_by next.Threads (Does i) h b = absurd (true≢false (sym h))
comes_by next.Threads Stops h b = absurd (true≢false (sym h))
comes_by next.Threads Ends h b = tt
comes_by next.Instrs Version h b = absurd b
comes_by next.Instrs (Counts k m) h b = absurd b
comes_by next.Instrs (Head p r s) h b = absurd (true≢false (sym h))
comes_by next.Instrs (Into i) h b = absurd (true≢false (sym h))
comes_by next.Instrs (Begins k) h b = absurd (true≢false (sym h))
comes_by next.Instrs (Does i) h b = tt
comes_by next.Instrs Stops h b = tt
comes_by next.Instrs Ends h b = absurd (true≢false (sym h))
comes_by next.Done Version h b = absurd b
comes_by next.Done (Counts k m) h b = absurd b
comes_by next.Done (Head p r s) h b = absurd (true≢false (sym h))
comes_by next.Done (Into i) h b = absurd (true≢false (sym h))
comes_by next.Done (Begins k) h b = absurd (true≢false (sym h))
comes_by next.Done (Does i) h b = absurd (true≢false (sym h))
comes_by next.Done Stops h b = absurd (true≢false (sym h))
comes_by next.Done Ends h b = absurd (true≢false (sym h))

-- and the other way round
may_by : (n : Next) (l : CodeLine) → IsBehindHead l → Comes n l → may_come n (line_form l) ≡ true
may_by next.Version Version b h = absurd b
may_by next.Version (Counts k m) b h = absurd b
may_by next.Version (Head p r s) b h = absurd h
may_by next.Version (Into i) b h = absurd h
may_by next.Version (Begins k) b h = absurd h
may_by next.Version (Does i) b h = absurd h
may_by next.Version Stops b h = absurd h
may_by next.Version Ends b h = absurd h
may_by next.Counts Version b h = absurd b
may_by next.Counts (Counts k m) b h = absurd b
may_by next.Counts (Head p r s) b h = absurd h
may_by next.Counts (Into i) b h = absurd h
may_by next.Counts (Begins k) b h = absurd h
may_by next.Counts (Does i) b h = absurd h
may_by next.Counts Stops b h = absurd h
may_by next.Counts Ends b h = absurd h
may_by next.Head Version b h = absurd b
may_by next.Head (Counts k m) b h = absurd b
may_by next.Head (Head p r s) b h = refl
may_by next.Head (Into i) b h = absurd h
may_by next.Head (Begins k) b h = absurd h
may_by next.Head (Does i) b h = absurd h
may_by next.Head Stops b h = absurd h
may_by next.Head Ends b h = absurd h
may_by next.Inlets Version b h = absurd b
may_by next.Inlets (Counts k m) b h = absurd b
may_by next.Inlets (Head p r s) b h = absurd h
may_by next.Inlets (Into i) b h = refl
may_by next.Inlets (Begins k) b h = refl
may_by next.Inlets (Does i) b h = absurd h
may_by next.Inlets Stops b h = absurd h
may_by next.Inlets Ends b h = absurd h
may_by next.Threads Version b h = absurd b
may_by next.Threads (Counts k m) b h = absurd b
may_by next.Threads (Head p r s) b h = absurd h
may_by next.Threads (Into i) b h = absurd h
may_by next.Threads (Begins k) b h = refl
may_by next.Threads (Does i) b h = absurd h
may_by next.Threads Stops b h = absurd h
may_by next.Threads Ends b h = refl
may_by next.Instrs Version b h = absurd b
may_by next.Instrs (Counts k m) b h = absurd b
may_by next.Instrs (Head p r s) b h = absurd h
may_by next.Instrs (Into i) b h = absurd h
may_by next.Instrs (Begins k) b h = absurd h
may_by next.Instrs (Does i) b h = refl
may_by next.Instrs Stops b h = refl
may_by next.Instrs Ends b h = absurd h
may_by next.Done Version b h = absurd b
may_by next.Done (Counts k m) b h = absurd b
may_by next.Done (Head p r s) b h = absurd h
may_by next.Done (Into i) b h = absurd h
may_by next.Done (Begins k) b h = absurd h
may_by next.Done (Does i) b h = absurd h
may_by next.Done Stops b h = absurd h
may_by next.Done Ends b h = absurd h

-- what is known of a line that was read
pub record IsAt (n : Next) (ts : List (List ℕ)) (l : CodeLine) : Type 0 where
  pub tokens : ts ≡ line_tokens l
  pub comes : Comes n l
  pub words : all_of is_word (line_numbers l) ≡ true

-- by the form of its first token
by_form : (n : Next) (t : List ℕ) (ts : List (List ℕ)) (o : Option Form) (l : CodeLine) → form_of n t ≡ o → line_with o ts ≡ Some l → IsAt n (t ∷ ts) l
by_form n t ts None l p e = absurd cc
by_form n t ts (Some f) l p e =
    let is = form-is n t f p in
    let said = says f ts l e in
    record {
      tokens = ap₂ (λ (x : List ℕ) (xs : List (List ℕ)). x ∷ xs) (is.1 ∙ ap form_text (sym said.form))
          (said.tokens ∙ ap (λ (g : Form). number_tokens g (line_numbers l)) (sym said.form)) ∙ sym (line-tokens l said.behind);
      comes = comes_by n l (ap (may_come n) said.form ∙ is.0) said.behind;
      words = said.words;
    }

-- a line behind the head
body-is : (n : Next) (ts : List (List ℕ)) (l : CodeLine) → body_of n ts ≡ Some l → IsAt n ts l
body-is n [] l e = absurd cc
body-is n (t ∷ ts) l e = by_form n t ts (form_of n t) l refl e

-- where a test holds
by_test : {X : Type 0} (t : Bool) (x y : X) → (elim t [ true ↦ Some x | false ↦ None ]) ≡ Some y → (t ≡ true) × (x ≡ y)
by_test true x y e = (refl, cc)
by_test false x y e = absurd cc

-- the first line
version-is : (ts : List (List ℕ)) → is_version ts ≡ true → ts ≡ codes "tl0" ∷ codes "2" ∷ []
version-is [] e = absurd (true≢false (sym e))
version-is (a ∷ []) e = absurd (true≢false (sym e))
version-is (a ∷ b ∷ []) e =
    let p = both-true (same_bytes a (codes "tl0")) (same_bytes b (codes "2")) e in
    ap₂ (λ (x y : List ℕ). x ∷ y ∷ []) (same_equal a (codes "tl0") p.0) (same_equal b (codes "2") p.1)
version-is (a ∷ b ∷ c ∷ ts) e = absurd (true≢false (sym e))

-- the numbers of the second line
counts-by : (o r : Option ℕ) (l : CodeLine) → counts_line o r ≡ Some l
    → (k : ℕ) × (m : ℕ) × (o ≡ Some k) × (r ≡ Some m) × (1 ≤ k) × (k ≤ 256) × (Counts k m ≡ l)
counts-by None r l e = absurd cc
counts-by (Some k) None l e = absurd cc
counts-by (Some k) (Some m) l e =
    let p = by_test (nat_le 1 k && nat_le k 256) (Counts k m) l e in
    let q = both-true (nat_le 1 k) (nat_le k 256) p.0 in
    (k, m, refl, refl, leb-true 1 k q.0, leb-true k 256 q.1, p.1)

-- where a test holds, what is there is there
by_words : (t : Bool) (o : Option CodeLine) (l : CodeLine) → (elim t [ true ↦ o | false ↦ None ]) ≡ Some l → (t ≡ true) × (o ≡ Some l)
by_words true o l e = (refl, e)
by_words false o l e = absurd cc

-- the second line
counts-is : (ts : List (List ℕ)) (l : CodeLine) → counts_of ts ≡ Some l → IsAt next.Counts ts l
counts-is [] l e = absurd cc
counts-is (a ∷ []) l e = absurd cc
counts-is (a ∷ b ∷ []) l e = absurd cc
counts-is (a ∷ b ∷ c ∷ []) l e = absurd cc
counts-is (a ∷ n ∷ b ∷ m ∷ []) l e =
    let p = by_words (same_bytes a (codes "codes") && same_bytes b (codes "main")) (counts_line (number_of n) (number_of m)) l e in
    let w = both-true (same_bytes a (codes "codes")) (same_bytes b (codes "main")) p.0 in
    let r = counts-by (number_of n) (number_of m) l p.1 in
    let x = number-is n r.0 r.2 in
    let y = number-is m r.1 r.3 in
    let first : a ≡ codes "codes" = same_equal a (codes "codes") w.0 in
    let third : b ≡ codes "main" = same_equal b (codes "main") w.1 in
    subst (λ (k : CodeLine). IsAt next.Counts (a ∷ n ∷ b ∷ m ∷ []) k) r.6
    (record {
      tokens = ap₂ (λ (u v : List ℕ). u ∷ n ∷ v ∷ m ∷ []) first third
          ∙ ap₂ (λ (u v : List ℕ). codes "codes" ∷ u ∷ codes "main" ∷ v ∷ []) x.0 y.0;
      comes = (r.4, r.5);
      words = all-first is_word r.0 (r.1 ∷ []) x.1 (all-first is_word r.1 [] y.1 refl);
    })
counts-is (a ∷ n ∷ b ∷ m ∷ c ∷ ts) l e = absurd cc

-- the line that tokens are
pub at-is : (n : Next) (ts : List (List ℕ)) (l : CodeLine) → line_at n ts ≡ Some l → IsAt n ts l
at-is next.Version ts l e =
    let p = by_test (is_version ts) Version l e in
    subst (λ (k : CodeLine). IsAt next.Version ts k) p.1 (record { tokens = version-is ts p.0; comes = tt; words = refl })
at-is next.Counts ts l e = counts-is ts l e
at-is next.Head ts l e = body-is next.Head ts l e
at-is next.Inlets ts l e = body-is next.Inlets ts l e
at-is next.Threads ts l e = body-is next.Threads ts l e
at-is next.Instrs ts l e = body-is next.Instrs ts l e
at-is next.Done ts l e = body-is next.Done ts l e

-- ---- what is printed is read

-- what its form says with the tokens of its numbers
pub said-again : (l : CodeLine) → IsBehindHead l → all_of is_word (line_numbers l) ≡ true
    → line_said (line_form l) (number_tokens (line_form l) (line_numbers l)) ≡ Some l
said-again l b h = ap (formed (line_form l)) (tokens-read (line_form l) (line_numbers l) h) ∙ line-made l b

-- a line behind the head
pub body-again : (n : Next) (l : CodeLine) → IsBehindHead l → Comes n l → all_of is_word (line_numbers l) ≡ true
    → (form_of n (form_text (line_form l)) ≡ Some (line_form l)) × (body_of n (line_tokens l) ≡ Some l)
body-again n l b c h =
    let f = form-again n (line_form l) (may_by n l b c) in
    let ts = number_tokens (line_form l) (line_numbers l) in
    (f, ap (body_of n) (line-tokens l b) ∙ ap (λ (o : Option Form). line_with o ts) f ∙ said-again l b h)

-- the second line
pub counts-again : (k m : ℕ) → 1 ≤ k → k ≤ 256 → is_word k ≡ true → is_word m ≡ true → counts_of (line_tokens (Counts k m)) ≡ Some (Counts k m)
counts-again k m low high p q =
    ap₂ (λ (o r : Option ℕ). counts_line o r) (number-again k p) (number-again m q)
    ∙ ap₂ (λ (t u : Bool). elim (t && u) [ true ↦ Some (Counts k m) | false ↦ None ]) (le-leb 1 k low) (le-leb k 256 high)
