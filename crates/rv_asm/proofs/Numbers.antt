-- The numbers of the head stay once they are put.
use Rattle.std.proofs.Common.{◌≡◌, ℕ, ◌+◌, Bool, true, false, ltb, List, [], ◌∷◌, Option, Some, None, Result, Ok, Err, refl, sym, subst, ◌∙◌, true≢false}
use Rattle.tam_word.specs.Lists.{same_bytes}
use Rattle.tam_word.specs.Numbers.{some_if}
use Rattle.std.specs.Prelude.{codes}
use Rattle.rv_asm.specs.declared.asm_error.AsmCause.{AsmCause}
use Rattle.rv_asm.specs.declared.head.Next.{Next}
use Rattle.rv_asm.specs.declared.head.Next.TheVariants as next
use Rattle.rv_asm.specs.Head.{head_number, behind, is_body}
use Rattle.rv_asm.specs.Tokens.{tokens_of}
use Rattle.rv_asm.specs.Statements.{Statement, Label, Coded, statement_of}
use Rattle.rv_asm.specs.Faults.{Said, with_number, with_head, with_statement, with_body, with_tokens, said_from}
use Rattle.rv_asm.proofs.Soundness.{number_token}
use Rattle.rv_asm.proofs.Rows.{way_true, way_false}

-- the number of a head line in what is said
abbrev pub said_number : Next → Said → ℕ
said_number next.Image s = 1
said_number next.Stride s = s.stride
said_number next.Params s = s.params
said_number next.Results s = s.results
said_number next.Body s = 0

-- the place of a line
abbrev pub rank : Next → ℕ
rank next.Image = 0
rank next.Stride = 1
rank next.Params = 2
rank next.Results = 3
rank next.Body = 4

-- one comes behind another
abbrev pub is_later : Next → Next → Bool
is_later k j = ltb (rank k) (rank j)

-- a later number leaves an earlier one
later_put : (k j : Next) (m : ℕ) (s : Said) → is_later k j ≡ true → said_number k (with_number j m s) ≡ said_number k s
later_put next.Image j m s e = refl
later_put next.Body j m s e = refl
later_put next.Stride next.Image m s e = refl
later_put next.Stride next.Stride m s e = absurd (true≢false (sym e))
later_put next.Stride next.Params m s e = refl
later_put next.Stride next.Results m s e = refl
later_put next.Stride next.Body m s e = refl
later_put next.Params next.Image m s e = refl
later_put next.Params next.Stride m s e = refl
later_put next.Params next.Params m s e = absurd (true≢false (sym e))
later_put next.Params next.Results m s e = refl
later_put next.Params next.Body m s e = refl
later_put next.Results next.Image m s e = refl
later_put next.Results next.Stride m s e = refl
later_put next.Results next.Params m s e = refl
later_put next.Results next.Results m s e = absurd (true≢false (sym e))
later_put next.Results next.Body m s e = refl

-- what comes next doesn't matter
next_free : (k j : Next) (s : Said) → said_number k (record s { next = j }) ≡ said_number k s
next_free next.Image j s = refl
next_free next.Stride j s = refl
next_free next.Params j s = refl
next_free next.Results j s = refl
next_free next.Body j s = refl

-- what is later stays later
later_on : (k j : Next) → is_later k j ≡ true → is_later k (behind j) ≡ true
later_on next.Image next.Image e = refl
later_on next.Image next.Stride e = refl
later_on next.Image next.Params e = refl
later_on next.Image next.Results e = refl
later_on next.Image next.Body e = refl
later_on next.Stride next.Image e = absurd (true≢false (sym e))
later_on next.Stride next.Stride e = refl
later_on next.Stride next.Params e = refl
later_on next.Stride next.Results e = refl
later_on next.Stride next.Body e = refl
later_on next.Params next.Image e = absurd (true≢false (sym e))
later_on next.Params next.Stride e = absurd (true≢false (sym e))
later_on next.Params next.Params e = refl
later_on next.Params next.Results e = refl
later_on next.Params next.Body e = refl
later_on next.Results next.Image e = absurd (true≢false (sym e))
later_on next.Results next.Stride e = absurd (true≢false (sym e))
later_on next.Results next.Params e = absurd (true≢false (sym e))
later_on next.Results next.Results e = refl
later_on next.Results next.Body e = refl
later_on next.Body j e = absurd (no j e)
  where
    no : (i : Next) → is_later next.Body i ≡ true → ⊥
    no next.Image h = true≢false (sym h)
    no next.Stride h = true≢false (sym h)
    no next.Params h = true≢false (sym h)
    no next.Results h = true≢false (sym h)
    no next.Body h = true≢false (sym h)

-- a head line is behind itself
pub behind_later : (k : Next) → is_body k ≡ false → is_later k (behind k) ≡ true
behind_later next.Image e = refl
behind_later next.Stride e = refl
behind_later next.Params e = refl
behind_later next.Results e = refl
behind_later next.Body e = absurd (true≢false e)

-- a state keeps an earlier number and stays behind it
abbrev Keeps : Next → Said → Said → Type 0
Keeps k s t = (said_number k t ≡ said_number k s) × (is_later k t.next ≡ true)

-- a head line keeps it
head_keeps : (k : Next) (s : Said) (o : Option ℕ) → is_later k s.next ≡ true → Keeps k s (with_head o s)
head_keeps k s None l = (refl, l)
head_keeps k s (Some m) l = (next_free k (behind s.next) (with_number s.next m s) ∙ later_put k s.next m s l, later_on k s.next l)

-- a statement keeps it
statement_keeps : (k : Next) (s : Said) (n : ℕ) (r : Result Statement AsmCause) → is_later k s.next ≡ true → Keeps k s (with_statement n r s)
statement_keeps k s n (Err c) l = (refl, l)
statement_keeps next.Image s n (Ok (Label name)) l = (refl, l)
statement_keeps next.Stride s n (Ok (Label name)) l = (refl, l)
statement_keeps next.Params s n (Ok (Label name)) l = (refl, l)
statement_keeps next.Results s n (Ok (Label name)) l = (refl, l)
statement_keeps next.Body s n (Ok (Label name)) l = (refl, l)
statement_keeps next.Image s n (Ok (Coded c)) l = (refl, l)
statement_keeps next.Stride s n (Ok (Coded c)) l = (refl, l)
statement_keeps next.Params s n (Ok (Coded c)) l = (refl, l)
statement_keeps next.Results s n (Ok (Coded c)) l = (refl, l)
statement_keeps next.Body s n (Ok (Coded c)) l = (refl, l)

-- tokens behind the head
body_keeps : (k : Next) (s : Said) (n : ℕ) (ts : List (List ℕ)) → is_later k s.next ≡ true → Keeps k s (with_body n ts s)
body_keeps k s n [] l = (refl, l)
body_keeps k s n (t ∷ ts) l = statement_keeps k s n (statement_of (t ∷ ts)) l

-- a line
line_keeps : (k : Next) (s : Said) (n : ℕ) (ts : List (List ℕ)) → is_later k s.next ≡ true → Keeps k s (with_tokens n ts s)
line_keeps k s n ts l = go (is_body s.next) refl
  where
    go : (b : Bool) → is_body s.next ≡ b → Keeps k s (with_tokens n ts s)
    go true p = subst (Keeps k s) (sym (way_true (is_body s.next) (with_body n ts s) (with_head (head_number s.next ts) s) p)) (body_keeps k s n ts l)
    go false p =
        subst (Keeps k s) (sym (way_false (is_body s.next) (with_body n ts s) (with_head (head_number s.next ts) s) p)) (head_keeps k s
        (head_number s.next ts) l)

-- lines
pub lines_keep : (k : Next) (s : Said) (n : ℕ) (ls : List (List ℕ)) → is_later k s.next ≡ true → said_number k (said_from s n ls) ≡ said_number k s
lines_keep k s n [] l = refl
lines_keep k s n (line ∷ ls) l =
    let here = line_keeps k s n (tokens_of line) l in lines_keep k (with_tokens n (tokens_of line) s) (n + 1) ls here.1 ∙ here.0

-- a one that is told
one_told : (t : Bool) (m : ℕ) → some_if t 1 ≡ Some m → 1 ≡ m
one_told true m e = cc
one_told false m e = absurd cc

-- a head line puts its number
pub number_put : (k : Next) (m : ℕ) (s : Said) (ts : List (List ℕ)) → head_number k ts ≡ Some m → is_body k ≡ false
    → said_number k (record (with_number k m s) { next = behind k }) ≡ m
number_put next.Image m s ts e b = let p = number_token next.Image ts m e in one_told (same_bytes p.0 (codes "1")) m p.1
number_put next.Stride m s ts e b = refl
number_put next.Params m s ts e b = refl
number_put next.Results m s ts e b = refl
number_put next.Body m s ts e b = absurd (true≢false b)
