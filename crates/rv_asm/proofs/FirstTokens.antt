-- What a line says is what its first tokens say: one more than any form has tells that it has none.
use Rattle.std.proofs.Common.{◌≡◌, ℕ, Bool, true, false, not, ◌&&◌, List, [], ◌∷◌, ◌++◌, take, Option, Some, None, Result, refl, ap, ◌∙◌, subst}
use Rattle.std.specs.Prelude.{◌+◌, option_to_list, IfOk, IfNone}
use Rattle.tam_word.specs.Lists.{where_so}
use Rattle.tam_text.specs.Lines.{without_comment, are_good_bytes}
use Rattle.rv_asm.specs.declared.asm_error.AsmCause.{AsmCause}
use Rattle.rv_asm.specs.declared.asm_error.AsmCause.TheVariants.{BadHead, BadLine}
use Rattle.rv_asm.specs.declared.head.Next.{Next}
use Rattle.rv_asm.specs.declared.verb.Verb.{Verb}
use Rattle.rv_asm.specs.InstNames.{verb_called}
use Rattle.rv_asm.specs.Head.{head_number, is_body}
use Rattle.rv_asm.specs.Tokens.{max_tokens, tokens_of}
use Rattle.rv_asm.specs.Statements.{said_if, statement_of}
use Rattle.rv_asm.specs.Faults.{Said, is_head, with_head, with_body, with_tokens, with_statement, faults_of_statement, faults_of_tokens, faults_by, body_faults}
use Rattle.rv_asm.specs.Faults.{head_faults, faults_of_line}

-- the first tokens
abbrev first : List (List ℕ) → List (List ℕ)
first ts = take (max_tokens + 1) ts

-- six tokens behind a verb or more are in no form
no_form : (o : Option Verb) (a b c d e f : List ℕ) (ts : List (List ℕ)) → said_if o (a ∷ b ∷ c ∷ d ∷ e ∷ f ∷ []) ≡ said_if o (a ∷ b ∷ c ∷ d ∷ e ∷ f ∷ ts)
no_form None a b c d e f ts = refl
no_form (Some v) a b c d e f ts = refl

-- the statement of tokens
pub first_statement : (ts : List (List ℕ)) → statement_of (first ts) ≡ statement_of ts
first_statement [] = refl
first_statement (a ∷ []) = refl
first_statement (a ∷ b ∷ []) = refl
first_statement (a ∷ b ∷ c ∷ []) = refl
first_statement (a ∷ b ∷ c ∷ d ∷ []) = refl
first_statement (a ∷ b ∷ c ∷ d ∷ e ∷ []) = refl
first_statement (a ∷ b ∷ c ∷ d ∷ e ∷ f ∷ []) = refl
first_statement (a ∷ b ∷ c ∷ d ∷ e ∷ f ∷ g ∷ ts) = no_form (verb_called a) b c d e f g ts

-- the number of a head line
first_number : (next : Next) (ts : List (List ℕ)) → head_number next (first ts) ≡ head_number next ts
first_number next [] = refl
first_number next (a ∷ []) = refl
first_number next (a ∷ b ∷ []) = refl
first_number next (a ∷ b ∷ c ∷ ts) = refl

-- whether they are a head line
first_head : (next : Next) (ts : List (List ℕ)) → is_head next (first ts) ≡ is_head next ts
first_head next [] = refl
first_head next (a ∷ []) = refl
first_head next (a ∷ b ∷ []) = refl
first_head next (a ∷ b ∷ c ∷ ts) = refl

-- what they add behind the head
first_body : (n : ℕ) (ts : List (List ℕ)) (s : Said) → with_body n (first ts) s ≡ with_body n ts s
first_body n [] s = refl
first_body n (t ∷ ts) s = ap (λ r. with_statement n r s) (first_statement (t ∷ ts))

-- what tokens add, behind the head or in it
abbrev added_if : Bool → ℕ → List (List ℕ) → Said → Said
added_if b n ts s = elim b [ true ↦ with_body n ts s | false ↦ with_head (head_number s.next ts) s ]

-- what they add
pub first_added : (n : ℕ) (ts : List (List ℕ)) (s : Said) → with_tokens n (first ts) s ≡ with_tokens n ts s
first_added n ts s = go (is_body s.next)
  where
    go : (b : Bool) → added_if b n (first ts) s ≡ added_if b n ts s
    go true = first_body n ts s
    go false = ap (λ (o : Option ℕ). with_head o s) (first_number s.next ts)

-- their faults behind the head
first_faults_behind : (s : Said) (ts : List (List ℕ)) → faults_of_tokens s (first ts) ≡ faults_of_tokens s ts
first_faults_behind s [] = refl
first_faults_behind s (t ∷ ts) = ap (λ r. faults_of_statement s r) (first_statement (t ∷ ts))

-- the faults of tokens, behind the head or in it
abbrev faults_if : Bool → Said → List ℕ → List (List ℕ) → List AsmCause
faults_if b s line ts = elim b [ true ↦ body_faults s line ts | false ↦ head_faults s.next line ts ]

-- their faults
pub first_faults : (s : Said) (line : List ℕ) (ts : List (List ℕ)) → faults_by s line (first ts) ≡ faults_by s line ts
first_faults s line ts = go (is_body s.next)
  where
    go : (b : Bool) → faults_if b s line (first ts) ≡ faults_if b s line ts
    go true = ap (λ fs. where_so (not (are_good_bytes line)) BadLine ++ fs) (first_faults_behind s ts)
    go false = ap (λ (t : Bool). where_so (not (are_good_bytes (without_comment line) && t)) BadHead ++ where_so (not (are_good_bytes line)) BadLine)
        (first_head s.next ts)

-- what is told of the first tokens of a line is told of the line: the first of its faults
pub line_told : {X : Type 0} (r : Result (Option AsmCause) X) (s : Said) (line : List ℕ) (ts : List (List ℕ)) → ts ≡ first (tokens_of line)
    → IfOk r (λ o. option_to_list o ≡ take 1 (faults_by s line ts)) → IfOk r (λ o. option_to_list o ≡ take 1 (faults_of_line s line))
line_told r s line ts e h =
    let same : faults_by s line ts ≡ faults_of_line s line = ap (faults_by s line) e ∙ first_faults s line (tokens_of line) in
    subst (λ (fs : List AsmCause). IfOk r (λ o. option_to_list o ≡ take 1 fs)) same h

-- and what it adds
pub line_added : {X : Type 0} (r : Result (Option AsmCause) X) (new s : Said) (n : ℕ) (line : List ℕ) (ts : List (List ℕ)) → ts ≡ first (tokens_of line)
    → IfOk r (λ o. IfNone o (new ≡ with_tokens n ts s)) → IfOk r (λ o. IfNone o (new ≡ with_tokens n (tokens_of line) s))
line_added r new s n line ts e h =
    let same : with_tokens n ts s ≡ with_tokens n (tokens_of line) s = ap (λ (x : List (List ℕ)). with_tokens n x s) e ∙ first_added n (tokens_of line) s in
    subst (λ (x : Said). IfOk r (λ o. IfNone o (new ≡ x))) same h
