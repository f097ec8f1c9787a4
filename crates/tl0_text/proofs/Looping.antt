-- The lines one by one: the faults from a line on are all faults, as long as there was none.
use Rattle.std.proofs.Common.{◌≡◌, ℕ, ◌+◌, ◌-◌, ◌≤◌, ◌<◌, Bool, true, false, cond, List, [], ◌∷◌, ◌++◌, map, flat_map, take, drop, get_or}
use Rattle.std.proofs.Common.{length, Option, Some, None}
use Rattle.std.proofs.Common.{refl, sym, ap, ◌∙◌, arith, subst, ◌||◌, ◌==◌, not, true≢false}
use Rattle.std.specs.Prelude.{option_to_list, IfNone, is_some, count_by}
use Rattle.std.specs.List.{find}
use Rattle.std.proofs.lemmas.List.{length-append}
use Rattle.std.proofs.Math.Seq.{take-length}
use Rattle.std.proofs.lemmas.List.Splits.{length-slice_split}
use Rattle.tam_word.specs.Lists.{where_so}
use Rattle.tam_word.proofs.Tests.{differs-number, number-eq}
use Rattle.tam_text.specs.Lines.{lines_of}
use Rattle.tl0_code.specs.declared.code_line.CodeLine.{CodeLine}
use Rattle.tl0_code.specs.declared.code_line.CodeLine.TheVariants.{Ends}
use Rattle.tl0_code.specs.ThreadCode.{Program, HasCodeLimits, HasProgramLimits}
use Rattle.tl0_text.specs.declared.cause.Cause0.{Cause0}
use Rattle.tl0_text.specs.declared.cause.Cause0.TheVariants.{BadHead, BadLine, BadNumber, TooMany}
use Rattle.tl0_text.specs.declared.next.Next.{Next}
use Rattle.tl0_text.specs.declared.next.Next.TheVariants as next
use Rattle.tl0_text.specs.declared.verb.Verb.TheVariants as verb
use Rattle.tl0_text.specs.declared.verb.Form.{Form}
use Rattle.tl0_text.specs.declared.verb.Form.TheVariants as form
use Rattle.tl0_text.specs.CodeSayings.{is_space, without_line_feed, tokens_of, has_empty, is_whole, form_of, size_of}
use Rattle.tl0_text.specs.Reading.{Said, Reads0, with_line, said_by, line_at, is_head, head_of, line_with, passes}
use Rattle.tl0_text.specs.Reading.{has_wrong_size, long_line_cause, faults_of_tokens, faults_of_line, faults_at_end}
use Rattle.tl0_text.specs.Reading.{faults_from, faults, said_from}
use Rattle.tl0_text.specs.Reading.{program_of}
use Rattle.tl0_text.specs.Sound.{IsSound}
use Rattle.tl0_text.proofs.Cutting.{lines-joined}
use Rattle.tl0_text.proofs.Comes.{Comes, at-is}
use Rattle.tl0_text.proofs.Limits.{stage-at, sound-on}
use Rattle.tl0_text.proofs.Sayings.{clean}
use Rattle.tl0_text.proofs.TextsRead.{texts-read}
use Rattle.tl0_text.proofs.ProgramsBack.{texts-back}

-- ---- the first line of a text

-- a line and what stands behind it are as long as the text
pub split-length : (bytes line after : List ℕ) → lines_of bytes ≡ line ∷ lines_of after → length line + length after ≡ length bytes
split-length bytes line after e =
    let whole : bytes ≡ line ++ after =
    sym (lines-joined bytes) ∙ ap (flat_map (λ l. l)) e ∙ ap (λ (bs : List ℕ). line ++ bs) (lines-joined after) in
    let same = ap (λ (bs : List ℕ). length bs) whole in
    omega (arith, length-append line after)

-- ---- what doesn't pass is left out

-- the whole of a list is taken
take-whole : {X : Type 0} (xs : List X) (n : ℕ) → n ≡ length xs → take n xs ≡ xs
take-whole xs n e = ap (λ (k : ℕ). take k xs) e ∙ take-length xs

-- in a list
pub find-behind : {X : Type 0} (p : X → Bool) (xs : List X) (d : X) → 0 < length xs → p (get_or xs 0 d) ≡ false
    → find p (take (length xs - 1) (drop 1 xs)) ≡ find p xs
find-behind p [] d l e = absurd (omega arith)
find-behind p (x ∷ xs) d l e =
    ap (find p) (take-whole xs (length (x ∷ xs) - 1) (omega arith)) ∙ sym (ap (λ (t : Bool). cond t (Some x) (find p xs)) e)

-- ---- a line with too many tokens

-- no line has more than four behind its word
few-tokens : (f : Form) → size_of f ≤ 4
few-tokens form.Code = omega arith
few-tokens form.Inlet = omega arith
few-tokens form.Thread = omega arith
few-tokens form.Stop = omega arith
few-tokens form.End = omega arith
few-tokens (form.Instr (verb.Operator o)) = omega arith
few-tokens (form.Instr verb.Imm) = omega arith
few-tokens (form.Instr verb.Mov) = omega arith
few-tokens (form.Instr verb.Fork) = omega arith
few-tokens (form.Instr verb.Switch) = omega arith
few-tokens (form.Instr verb.Falloc) = omega arith
few-tokens (form.Instr verb.Send) = omega arith
few-tokens (form.Instr verb.Ret) = omega arith
few-tokens (form.Instr verb.Ialloc) = omega arith
few-tokens (form.Instr verb.Ifetch) = omega arith
few-tokens (form.Instr verb.Istore) = omega arith
few-tokens (form.Instr verb.Skip) = omega arith

-- so many are the wrong number
wrong-size : (f : Option Form) (ts : List (List ℕ)) → 5 ≤ length ts → has_wrong_size f ts ≡ true
wrong-size None ts l = refl
wrong-size (Some f) ts l =
    let few = few-tokens f in
    ap not (differs-number (length ts) (size_of f) (λ e. omega arith))

-- no head line has six
long-head : (n : Next) (ts : List (List ℕ)) → is_head n ≡ true → 6 ≤ length ts → head_of n ts ≡ None
long-head n [] h l = absurd (omega arith)
long-head n (a ∷ []) h l = absurd (omega arith)
long-head n (a ∷ b ∷ []) h l = absurd (omega arith)
long-head n (a ∷ b ∷ c ∷ []) h l = absurd (omega arith)
long-head n (a ∷ b ∷ c ∷ d ∷ []) h l = absurd (omega arith)
long-head next.Version (a ∷ b ∷ c ∷ d ∷ e ∷ ts) h l = refl
long-head next.Counts (a ∷ b ∷ c ∷ d ∷ e ∷ ts) h l = refl
long-head next.Head (a ∷ b ∷ c ∷ d ∷ e ∷ ts) h l = absurd (true≢false (sym h))
long-head next.Inlets (a ∷ b ∷ c ∷ d ∷ e ∷ ts) h l = absurd (true≢false (sym h))
long-head next.Threads (a ∷ b ∷ c ∷ d ∷ e ∷ ts) h l = absurd (true≢false (sym h))
long-head next.Instrs (a ∷ b ∷ c ∷ d ∷ e ∷ ts) h l = absurd (true≢false (sym h))
long-head next.Done (a ∷ b ∷ c ∷ d ∷ e ∷ ts) h l = absurd (true≢false (sym h))

-- behind the head
long-tokens : (s : Said) (line : List ℕ) (ts : List (List ℕ)) → 6 ≤ length ts → BadLine ∷ [] ≡ take 1 (faults_of_tokens s line ts)
long-tokens s line [] l = absurd (omega arith)
long-tokens s line (t ∷ ts) l =
    let f = form_of s.next t in
    let rest = where_so (not (is_some (line_with f ts))) BadNumber in
    let last = where_so (passes s (line_with f ts)) TooMany in
    let wrong : has_wrong_size f ts ≡ true = wrong-size f ts (omega arith) in
    sym (ap (λ (w : Bool). take 1 ((where_so (w || (has_empty (t ∷ ts) || not (is_whole line))) BadLine ++ rest) ++ last)) wrong)

-- its first fault
pub long-line : (s : Said) (line : List ℕ) → 5 ≤ count_by is_space (without_line_feed line)
    → long_line_cause s.next ∷ [] ≡ take 1 (faults_of_line s line)
long-line s line l = go (is_head s.next) refl
  where
    many : 6 ≤ length (tokens_of line)
    many = omega (arith, length-slice_split is_space (without_line_feed line))

    go : (b : Bool) → is_head s.next ≡ b → long_line_cause s.next ∷ [] ≡ take 1 (faults_of_line s line)
    go true p =
        let none : head_of s.next (tokens_of line) ≡ None = long-head s.next (tokens_of line) p many in
        rw (long_line_cause, faults_of_line, p)
        (sym (ap (λ (o : Option CodeLine). take 1 (where_so (not (is_some o)) BadHead ++ where_so (not (is_whole line)) BadLine)) none))
    go false p = rw (long_line_cause, faults_of_line, p) (long-tokens s line (tokens_of line) many)

-- ---- a line that is read

-- a code that ends keeps its limits
pub ends-within : (s : Said) (line : List ℕ) (l : CodeLine) → IsSound s → line_at s.next (tokens_of line) ≡ Some l → l ≡ Ends → HasCodeLimits s.code
ends-within s line l h e is = go s.next refl (subst (λ (k : CodeLine). Comes s.next k) is (at-is s.next (tokens_of line) l e).comes)
  where
    go : (n : Next) → s.next ≡ n → Comes n Ends → HasCodeLimits s.code
    go next.Version p c = absurd c
    go next.Counts p c = absurd c
    go next.Head p c = absurd c
    go next.Inlets p c = absurd c
    go next.Threads p c = record {
      few_slots = h.few_slots;
      few_inlets = h.few_inlets;
      some_thread = (stage-at next.Threads s p h).1;
      few_threads = h.few_threads;
    }
    go next.Instrs p c = absurd c
    go next.Done p c = absurd c

-- where there is no first, there is none
pub none-taken : {X : Type 0} (xs : List X) → [] ≡ take 1 xs → xs ≡ []
none-taken [] e = refl
none-taken (x ∷ xs) e = absurd cc

-- what was said stays sound
pub sound-behind : (s t : Said) (line : List ℕ) (o : Option Cause0) → option_to_list o ≡ take 1 (faults_of_line s line) → o ≡ None
    → IfNone o (t ≡ said_by s (line_at s.next (tokens_of line))) → IsSound s → IsSound t
sound-behind s t line o f is new h =
    let here : t ≡ said_by s (line_at s.next (tokens_of line)) = rw is at new in
    let c = clean s line (none-taken (faults_of_line s line) (ap option_to_list (sym is) ∙ f)) in
    let at = at-is s.next (tokens_of line) c.said c.at in
    let same : t ≡ with_line s c.said = here ∙ ap (said_by s) c.at in
    subst IsSound (sym same) (sound-on s.next c.said s refl at.comes c.passes_none h)

-- ---- the loop

-- the first of causes is the first of the faults
by_fault : {X : Type 0} (f : X → ℕ × X) (xs : List X) (rest total : List (ℕ × X)) (x : X) → x ∷ [] ≡ take 1 xs → map f xs ++ rest ≡ total
    → take 1 total ≡ f x ∷ []
by_fault f [] rest total x e t = absurd cc
by_fault f (y ∷ ys) rest total x e t = let same : x ≡ y = cc in ap (take 1) (sym t) ∙ ap (λ z. f z ∷ []) (sym same)

module _ (s : Said) (n : ℕ) (lines : List (List ℕ)) (total : List (ℕ × Cause0)) (so_far : faults_from s n lines ≡ total) where
  -- where the line is one of several
  lines_at : (line : List ℕ) (after : List (List ℕ)) → lines ≡ line ∷ after
      → map (λ c. (n, c)) (faults_of_line s line) ++ faults_from (said_by s (line_at s.next (tokens_of line))) (n + 1) after ≡ total
  lines_at line after e = ap (faults_from s n) (sym e) ∙ so_far

  -- the fault of a line
  pub found-here : (line : List ℕ) (after : List (List ℕ)) → lines ≡ line ∷ after → (o : Option Cause0) (c : Cause0)
      → option_to_list o ≡ take 1 (faults_of_line s line) → o ≡ Some c → take 1 total ≡ (n, c) ∷ []
  found-here line after e o c f is =
      by_fault (λ d. (n, d)) (faults_of_line s line) (faults_from (said_by s (line_at s.next (tokens_of line))) (n + 1) after) total c
      (ap option_to_list (sym is) ∙ f) (lines_at line after e)

  -- a line without a fault
  pub goes-on : (line : List ℕ) (after : List (List ℕ)) → lines ≡ line ∷ after → (o : Option Cause0) (t : Said)
      → option_to_list o ≡ take 1 (faults_of_line s line) → o ≡ None → IfNone o (t ≡ said_by s (line_at s.next (tokens_of line)))
      → faults_from t (n + 1) after ≡ total
  goes-on line after e o t f is new =
      let here : t ≡ said_by s (line_at s.next (tokens_of line)) = rw is at new in
      let none : faults_of_line s line ≡ [] = none-taken (faults_of_line s line) (ap option_to_list (sym is) ∙ f) in
      ap (λ q. faults_from q (n + 1) after) here
      ∙ sym (ap (λ (cs : List Cause0). map (λ c. (n, c)) cs ++ faults_from (said_by s (line_at s.next (tokens_of line))) (n + 1) after) none)
      ∙ lines_at line after e

-- what is said goes on
pub said-on : (s : Said) (lines : List (List ℕ)) (total : Said) → said_from s lines ≡ total → (line : List ℕ) (after : List (List ℕ)) → lines ≡ line ∷ after
    → (o : Option Cause0) (t : Said) → o ≡ None → IfNone o (t ≡ said_by s (line_at s.next (tokens_of line))) → said_from t after ≡ total
said-on s lines total so_far line after e o t is new =
    let here : t ≡ said_by s (line_at s.next (tokens_of line)) = rw is at new in
    ap (λ q. said_from q after) here ∙ ap (said_from s) (sym e) ∙ so_far

-- no bytes have no lines
pub no-lines : (bytes : List ℕ) → true ≡ (length bytes == 0) → lines_of bytes ≡ []
no-lines [] p = refl
no-lines (b ∷ bs) p = absurd (let e : length (b ∷ bs) ≡ 0 = number-eq (length (b ∷ bs)) 0 (sym p) in omega arith)

-- ---- the end

-- the faults at the end are all faults
pub left-at-end : (s : Said) (n : ℕ) (lines : List (List ℕ)) (total : List (ℕ × Cause0)) (o : Option Cause0) → faults_from s n lines ≡ total → lines ≡ []
    → option_to_list o ≡ faults_at_end s.next → total ≡ map (λ c. (n, c)) (option_to_list o)
left-at-end s n lines total o so_far e is =
    sym (ap (faults_from s n) (sym e) ∙ so_far) ∙ ap (λ (cs : List Cause0). map (λ c. (n, c)) cs) (sym is)

-- the one that is told is the first
pub first-at-end : (n : ℕ) (total : List (ℕ × Cause0)) (o : Option Cause0) (c : Cause0) → total ≡ map (λ d. (n, d)) (option_to_list o) → o ≡ Some c
    → take 1 total ≡ (n, c) ∷ []
first-at-end n total o c e is = ap (take 1) e ∙ ap (λ (x : Option Cause0). take 1 (map (λ d. (n, d)) (option_to_list x))) is

-- where none is told, there is none
pub none-at-end : (n : ℕ) (total : List (ℕ × Cause0)) (o : Option Cause0) → total ≡ map (λ d. (n, d)) (option_to_list o) → o ≡ None → total ≡ []
none-at-end n total o e is = e ∙ ap (λ (x : Option Cause0). map (λ d. (n, d)) (option_to_list x)) is

-- at the end all is said
pub said-at-end : (s : Said) (lines : List (List ℕ)) (total : Said) → said_from s lines ≡ total → lines ≡ [] → s ≡ total
said-at-end s lines total so_far e = ap (said_from s) (sym e) ∙ so_far

-- ---- the whole

-- a text with a fault doesn't read
pub refused-none : (bytes : List ℕ) (p : Program) (f : ℕ × Cause0) → take 1 (faults bytes) ≡ f ∷ [] → Reads0 bytes p → ⊥
refused-none bytes p f e h =
    let none : take 1 (faults bytes) ≡ [] = ap (take 1) (texts-back bytes p h).0 in
    let z : f ∷ [] ≡ [] = sym e ∙ none in cc

-- the program is one that the text reads as
pub made-reads : (bytes : List ℕ) (made : Program) → length bytes ≤ 67108864 → faults bytes ≡ [] → made ≡ program_of bytes → Reads0 bytes made
made-reads bytes made short e is = subst (Reads0 bytes) (sym is) (texts-read bytes short e)

-- and the only one
pub made-only : (bytes : List ℕ) (made p : Program) → made ≡ program_of bytes → Reads0 bytes p → made ≡ p
made-only bytes made p is h = is ∙ sym (texts-back bytes p h).1

-- it is within the limits
pub made-within : (bytes : List ℕ) (made : Program) → length bytes ≤ 67108864 → faults bytes ≡ [] → made ≡ program_of bytes → HasProgramLimits made
made-within bytes made short e is =
    let w = (made-reads bytes made short e is).within in
    record { some_code = w.some_code; few_codes = w.few_codes; few_instrs = w.few_instrs }
