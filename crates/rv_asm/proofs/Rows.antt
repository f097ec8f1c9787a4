-- What one line does to what is said, by its tokens; and the lines with tokens.
use Rattle.std.proofs.Common.{◌≡◌, ℕ, Bool, true, false, not, ◌&&◌, List, [], ◌∷◌, map, Option, Some, None, is_some}
use Rattle.std.proofs.Common.{Result, refl, sym, ap, ◌∙◌, true≢false}
use Rattle.std.specs.List.{filter}
use Rattle.tam_word.specs.Lists.{where_so}
use Rattle.tam_text.specs.Lines.{without_comment, are_good_bytes, is_some_of}
use Rattle.rv_asm.specs.declared.asm_error.AsmCause.{AsmCause}
use Rattle.rv_asm.specs.declared.asm_error.AsmCause.TheVariants.{BadLine, BadHead}
use Rattle.rv_asm.specs.declared.head.Next.{Next}
use Rattle.rv_asm.specs.declared.head.Next.TheVariants as next
use Rattle.rv_asm.specs.Head.{head_number, is_body}
use Rattle.rv_asm.specs.Tokens.{tokens_of}
use Rattle.rv_asm.specs.Statements.{Statement, statement_of}
use Rattle.rv_asm.specs.Faults.{Said, with_number, with_head, with_statement, with_tokens}
use Rattle.rv_asm.specs.Faults.{is_head, faults_of_statement, faults_of_tokens, faults_in_head, faults_in_body, faults_of_line}
use Rattle.rv_asm.proofs.Soundness.{none_before, none_behind, where_none}

-- the tokens of the lines that have any
abbrev pub rows : List (List ℕ) → List (List (List ℕ))
rows ls = filter is_some_of (map tokens_of ls)

-- a line without tokens isn't among them
pub rows_skip : (line : List ℕ) (ls : List (List ℕ)) → tokens_of line ≡ [] → rows (line ∷ ls) ≡ rows ls
rows_skip line ls e = ap (λ (ts : List (List ℕ)). filter is_some_of (ts ∷ map tokens_of ls)) e

-- one with tokens is
pub rows_take : (line : List ℕ) (ls : List (List ℕ)) (t : List ℕ) (ts : List (List ℕ)) → tokens_of line ≡ t ∷ ts → rows (line ∷ ls) ≡ (t ∷ ts) ∷ rows ls
rows_take line ls t ts e = ap (λ (us : List (List ℕ)). filter is_some_of (us ∷ map tokens_of ls)) e

-- the head is read where the body comes next
pub body_next : (k : Next) → is_body k ≡ true → k ≡ next.Body
body_next next.Image e = absurd (true≢false (sym e))
body_next next.Stride e = absurd (true≢false (sym e))
body_next next.Params e = absurd (true≢false (sym e))
body_next next.Results e = absurd (true≢false (sym e))
body_next next.Body e = refl

-- a choice by a test that holds, or doesn't
pub way_true : {X : Type 0} (b : Bool) (x y : X) → b ≡ true → (elim b [ true ↦ x | false ↦ y ]) ≡ x
way_true true x y e = refl
way_true false x y e = absurd (true≢false (sym e))

-- the other way
pub way_false : {X : Type 0} (b : Bool) (x y : X) → b ≡ false → (elim b [ true ↦ x | false ↦ y ]) ≡ y
way_false true x y e = absurd (true≢false e)
way_false false x y e = refl

-- one way, whatever the test says
one_way : {X : Type 0} (b : Bool) (x : X) → (elim b [ true ↦ x | false ↦ x ]) ≡ x
one_way true x = refl
one_way false x = refl

-- ---- what a line adds

-- a line without tokens adds nothing
pub adds_nothing : (n : ℕ) (s : Said) (line : List ℕ) → tokens_of line ≡ [] → with_tokens n (tokens_of line) s ≡ s
adds_nothing n s line e = ap (λ (ts : List (List ℕ)). with_tokens n ts s) e ∙ one_way (is_body s.next) s

-- a statement
pub adds_statement : (n : ℕ) (s : Said) (line t : List ℕ) (ts : List (List ℕ)) (r : Result Statement AsmCause) → tokens_of line ≡ t ∷ ts → is_body s.next ≡ true
    → statement_of (t ∷ ts) ≡ r → with_tokens n (tokens_of line) s ≡ with_statement n r s
adds_statement n s line t ts r e b is =
    ap (λ (us : List (List ℕ)). with_tokens n us s) e
    ∙ way_true (is_body s.next) (with_statement n (statement_of (t ∷ ts)) s) (with_head (head_number s.next (t ∷ ts)) s) b
    ∙ ap (λ (q : Result Statement AsmCause). with_statement n q s) is

-- a head line
pub adds_head : (n : ℕ) (s : Said) (line t : List ℕ) (ts : List (List ℕ)) (o : Option ℕ) → tokens_of line ≡ t ∷ ts → is_body s.next ≡ false
    → head_number s.next (t ∷ ts) ≡ o → with_tokens n (tokens_of line) s ≡ with_head o s
adds_head n s line t ts o e b is =
    ap (λ (us : List (List ℕ)). with_tokens n us s) e
    ∙ way_false (is_body s.next) (with_statement n (statement_of (t ∷ ts)) s) (with_head (head_number s.next (t ∷ ts)) s) b
    ∙ ap (λ (q : Option ℕ). with_head q s) is

-- a number of the head leaves the labels
pub same_labels : (k : Next) (m : ℕ) (s : Said) → (with_number k m s).labels ≡ s.labels
same_labels next.Image m s = refl
same_labels next.Stride m s = refl
same_labels next.Params m s = refl
same_labels next.Results m s = refl
same_labels next.Body m s = refl

-- and the words
pub same_words : (k : Next) (m : ℕ) (s : Said) → (with_number k m s).words ≡ s.words
same_words next.Image m s = refl
same_words next.Stride m s = refl
same_words next.Params m s = refl
same_words next.Results m s = refl
same_words next.Body m s = refl

-- ---- what a line without a fault is

-- a test whose fault isn't there
not_false : (t : Bool) → not t ≡ false → t ≡ true
not_false true e = refl
not_false false e = absurd (true≢false e)

-- its bytes are good
pub line_good : (s : Said) (line : List ℕ) → faults_of_line s line ≡ [] → are_good_bytes line ≡ true
line_good s line e = go (is_body s.next) refl
  where
    go : (b : Bool) → is_body s.next ≡ b → are_good_bytes line ≡ true
    go true p = not_false (are_good_bytes line) (where_none (not (are_good_bytes line)) BadLine
        (none_before _ (faults_of_tokens s (tokens_of line)) (sym (way_true (is_body s.next) (faults_in_body s line) (faults_in_head s.next line) p) ∙ e)))
    go false p = not_false (are_good_bytes line) (where_none (not (are_good_bytes line)) BadLine
        (none_behind (where_so (not (are_good_bytes (without_comment line) && is_head s.next (tokens_of line))) BadHead) _
        (sym (way_false (is_body s.next) (faults_in_body s line) (faults_in_head s.next line) p) ∙ e)))

-- behind the head its statement has no fault
pub statement_faultless : (s : Said) (line t : List ℕ) (ts : List (List ℕ)) → is_body s.next ≡ true → tokens_of line ≡ t ∷ ts → faults_of_line s line ≡ []
    → faults_of_statement s (statement_of (t ∷ ts)) ≡ []
statement_faultless s line t ts b is e =
    sym (ap (faults_of_tokens s) is)
    ∙ none_behind (where_so (not (are_good_bytes line)) BadLine) (faults_of_tokens s (tokens_of line))
    (sym (way_true (is_body s.next) (faults_in_body s line) (faults_in_head s.next line) b) ∙ e)

-- the second of two tests
second : (t u : Bool) → (t && u) ≡ true → u ≡ true
second true u e = e
second false u e = absurd (true≢false (sym e))

-- what is there
some_is : (o : Option ℕ) → is_some o ≡ true → (m : ℕ) × (o ≡ Some m)
some_is None e = absurd (true≢false (sym e))
some_is (Some m) e = (m, refl)

-- in the head it has a number
pub head_there : (s : Said) (line t : List ℕ) (ts : List (List ℕ)) → is_body s.next ≡ false → tokens_of line ≡ t ∷ ts → faults_of_line s line ≡ []
    → (m : ℕ) × (head_number s.next (t ∷ ts) ≡ Some m)
head_there s line t ts b is e =
    let none = none_before (where_so (not (are_good_bytes (without_comment line) && is_head s.next (tokens_of line))) BadHead) _
    (sym (way_false (is_body s.next) (faults_in_body s line) (faults_in_head s.next line) b) ∙ e) in
    let holds = second (are_good_bytes (without_comment line)) (is_head s.next (tokens_of line)) (not_false _ (where_none _ BadHead none)) in
    some_is (head_number s.next (t ∷ ts)) (sym (ap (is_head s.next) is) ∙ holds)
