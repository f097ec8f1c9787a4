-- What a line without a fault adds keeps the ranges of an image.
use Rattle.std.proofs.Common.{◌≡◌, ℕ, Bool, true, false, leb, List, [], ◌∷◌, ◌++◌, length, take, Option, Some, None}
use Rattle.std.proofs.Common.{Result, Ok, Err, refl, sym, ap, subst, ◌∙◌, arith}
use Rattle.std.specs.Prelude.{option_to_list, IfNone}
use Rattle.std.proofs.lemmas.List.{length-append}
use Rattle.std.proofs.lemmas.Bool.{leb-true, leb-false}
use Rattle.tam_word.specs.Lists.{where_so, same_bytes}
use Rattle.tam_word.specs.Numbers.{word_of, some_if}
use Rattle.rv_image.specs.ImageFiles.{max_words, max_places}
use Rattle.rv_image.specs.ImageFiles.{is_stride}
use Rattle.rv_asm.specs.declared.asm_error.AsmCause.{AsmCause}
use Rattle.rv_asm.specs.declared.asm_error.AsmCause.TheVariants.{TooMany}
use Rattle.rv_asm.specs.declared.head.Next.{Next}
use Rattle.rv_asm.specs.declared.head.Next.TheVariants as next
use Rattle.rv_asm.specs.Head.{head_number, head_name, head_value, is_body}
use Rattle.rv_asm.specs.Statements.{Statement, Label, Coded, statement_of, where_word}
use Rattle.rv_asm.specs.Tokens.{tokens_of}
use Rattle.rv_asm.specs.Faults.{Said, with_number, with_head, with_statement, with_body, with_tokens, faults_of_statement, faults_of_tokens}
use Rattle.rv_asm.specs.Faults.{faults_of_line}
use Rattle.rv_asm.specs.Sound.{IsSound}

-- ---- lists of faults

-- where no first is there, none is
pub none_taken : {X : Type 0} (xs : List X) → [] ≡ take 1 xs → xs ≡ []
none_taken [] e = refl
none_taken (x ∷ xs) e = absurd cc

-- where two lists together are empty, the first is
pub none_before : {X : Type 0} (xs ys : List X) → xs ++ ys ≡ [] → xs ≡ []
none_before [] ys e = refl
none_before (x ∷ xs) ys e = absurd cc

-- and the second
pub none_behind : {X : Type 0} (xs ys : List X) → xs ++ ys ≡ [] → ys ≡ []
none_behind [] ys e = e
none_behind (x ∷ xs) ys e = absurd cc

-- a cause that isn't told doesn't hold
pub where_none : {X : Type 0} (t : Bool) (x : X) → where_so t x ≡ [] → t ≡ false
where_none true x e = absurd cc
where_none false x e = refl

-- ---- the head

-- what passed a test has passed it
passed : (t : Bool) (w n : ℕ) → some_if t w ≡ Some n → (t ≡ true) × (w ≡ n)
passed true w n e = (refl, cc)
passed false w n e = absurd cc

-- a word that is told passes
pub word_passed : (test : ℕ → Bool) (o : Option ℕ) (n : ℕ) → where_word test o ≡ Some n → test n ≡ true
word_passed test None n e = absurd cc
word_passed test (Some w) n e = let p = passed (test w) w n e in subst (λ (k : ℕ). test k ≡ true) p.1 p.0

-- the number of a line of two tokens is that of the second
by_name : (t : Bool) (o : Option ℕ) (n : ℕ) → (elim t [ true ↦ o | false ↦ None ]) ≡ Some n → o ≡ Some n
by_name true o n e = e
by_name false o n e = absurd cc

-- a number of a head line is one of a token
pub number_token : (k : Next) (ts : List (List ℕ)) (n : ℕ) → head_number k ts ≡ Some n → (t : List ℕ) × (head_value k t ≡ Some n)
number_token k [] n e = absurd cc
number_token k (a ∷ []) n e = absurd cc
number_token k (a ∷ b ∷ []) n e = (b, by_name (same_bytes a (head_name k)) (head_value k b) n e)
number_token k (a ∷ b ∷ c ∷ ts) n e = absurd cc

-- with a number of the head
put : (s : Said) (k : Next) (n : ℕ) (t : List ℕ) → head_value k t ≡ Some n → IsSound s → IsSound (with_number k n s)
put s next.Image n t e h = h
put s next.Stride n t e h = record { stride = word_passed is_stride (word_of t) n e; params = h.params; results = h.results; few = h.few }
put s next.Params n t e h =
    record { stride = h.stride; params = leb-true n max_places (word_passed (λ m. leb m max_places) (word_of t) n e); results = h.results; few = h.few }
put s next.Results n t e h =
    record { stride = h.stride; params = h.params; results = leb-true n max_places (word_passed (λ m. leb m max_places) (word_of t) n e); few = h.few }
put s next.Body n t e h = h

-- whatever comes next
moved : (s : Said) (k : Next) → IsSound s → IsSound (record s { next = k })
moved s k h = record { stride = h.stride; params = h.params; results = h.results; few = h.few }

-- a head line
pub head_sound : (s : Said) (o : Option ℕ) (ts : List (List ℕ)) → head_number s.next ts ≡ o → IsSound s → IsSound (with_head o s)
head_sound s None ts e h = h
head_sound s (Some n) ts e h = let p = number_token s.next ts n e in moved (with_number s.next n s) _ (put s s.next n p.0 p.1 h)

-- ---- the lines behind it

-- a statement
pub statement_sound : (s : Said) (n : ℕ) (r : Result Statement AsmCause) → faults_of_statement s r ≡ [] → IsSound s → IsSound (with_statement n r s)
statement_sound s n (Err c) e h = h
statement_sound s n (Ok (Label name)) e h = record { stride = h.stride; params = h.params; results = h.results; few = h.few }
statement_sound s n (Ok (Coded c)) e h =
    let below = leb-false max_words (length s.words) (where_none (leb max_words (length s.words)) TooMany e) in
    record { stride = h.stride; params = h.params; results = h.results; few = omega (arith, length-append s.words ((n, c) ∷ [])) }

-- tokens behind the head
pub body_sound : (s : Said) (n : ℕ) (ts : List (List ℕ)) → faults_of_tokens s ts ≡ [] → IsSound s → IsSound (with_body n ts s)
body_sound s n [] e h = h
body_sound s n (t ∷ ts) e h = statement_sound s n (statement_of (t ∷ ts)) e h

-- a line
pub line_sound : (s : Said) (n : ℕ) (line : List ℕ) → faults_of_line s line ≡ [] → IsSound s → IsSound (with_tokens n (tokens_of line) s)
line_sound s n line e h = go (is_body s.next) refl
  where
    go : (b : Bool) → is_body s.next ≡ b → IsSound (with_tokens n (tokens_of line) s)
    go true p = rw (with_tokens, p) (body_sound s n (tokens_of line) (none_behind _ (faults_of_tokens s (tokens_of line)) (rw (faults_of_line, p) at e)) h)
    go false p = rw (with_tokens, p) (head_sound s (head_number s.next (tokens_of line)) (tokens_of line) refl h)

-- a line that goes on
pub sound_on : (s t : Said) (n : ℕ) (line : List ℕ) (o : Option AsmCause) → option_to_list o ≡ take 1 (faults_of_line s line) → o ≡ None
    → IfNone o (t ≡ with_tokens n (tokens_of line) s) → IsSound s → IsSound t
sound_on s t n line o f is new h =
    let here : t ≡ with_tokens n (tokens_of line) s = rw is at new in
    let none : faults_of_line s line ≡ [] = none_taken (faults_of_line s line) (ap option_to_list (sym is) ∙ f) in
    subst IsSound (sym here) (line_sound s n line none h)
