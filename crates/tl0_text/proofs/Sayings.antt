-- A text without a fault is the text of the program that its lines say.
use Rattle.std.proofs.Common.{◌≡◌, ℕ, suc, ◌+◌, ◌≤◌, Bool, true, false, not, List, [], ◌∷◌, ◌++◌, map, flat_map, Option, Some, None}
use Rattle.std.proofs.Common.{refl, sym, ap, ◌∙◌, arith}
use Rattle.std.proofs.Common.{subst, true≢false, ◌==◌, ◌||◌, length, append_assoc}
use Rattle.std.specs.Prelude.{is_some}
use Rattle.std.specs.List.{AllByRecursion}
use Rattle.std.proofs.lemmas.Grind.{flat_map-append}
use Rattle.std.proofs.lemmas.List.{map-append}
use Rattle.tam_word.specs.Lists.{where_so}
use Rattle.tam_word.proofs.Members.{none-left, none-right, map-none}
use Rattle.tl0_code.specs.declared.code_line.CodeLine.{CodeLine}
use Rattle.tl0_code.specs.declared.code_line.CodeLine.TheVariants.{Version, Counts, Head, Into, Begins, Does, Stops, Ends}
use Rattle.tl0_code.specs.declared.inlet.Inlet.{Inlet}
use Rattle.tl0_code.specs.declared.instr.Instr.{Instr}
use Rattle.tl0_code.specs.declared.instr.Instr.TheVariants as instr
use Rattle.tl0_code.specs.ThreadCode.{Thread, CodeText}
use Rattle.tl0_code.specs.CodeTexts.{line_tokens, spaced, thread_lines, text_lines}
use Rattle.tl0_text.specs.declared.cause.Cause0.{Cause0}
use Rattle.tl0_text.specs.declared.cause.Cause0.TheVariants.{BadHead, BadLine, BadNumber, TooMany}
use Rattle.tl0_text.specs.declared.next.Next.{Next}
use Rattle.tl0_text.specs.declared.next.Next.TheVariants as next
use Rattle.tl0_text.specs.CodeSayings.{tokens_of, is_whole, has_empty, form_of}
use Rattle.tl0_text.specs.Reading.{Said, behind_code, with_line, is_head, head_of, line_with, body_of, line_at, passes, has_wrong_size}
use Rattle.tl0_text.specs.Reading.{faults_of_head, faults_of_tokens, faults_of_line, faults_at_end, said_by, faults_from}
use Rattle.tl0_text.specs.Reading.{said_from}
use Rattle.tl0_text.specs.Sound.{IsSound, instrs_said}
use Rattle.tl0_text.proofs.Cutting.{with-nothing, EndsOnce, line-is}
use Rattle.tl0_text.proofs.Comes.{Comes, at-is}
use Rattle.tl0_text.proofs.Limits.{stage-at, sound-on, IsWorded, worded-on, instrs-on}

-- ---- one line

-- a cause that isn't told doesn't hold
where-none : {X : Type 0} (t : Bool) (x : X) → where_so t x ≡ [] → t ≡ false
where-none true x e = absurd cc
where-none false x e = refl

-- what isn't missing is there
there : {X : Type 0} (o : Option X) → not (is_some o) ≡ false → (x : X) × (o ≡ Some x)
there None e = absurd (true≢false e)
there (Some x) e = (x, refl)

-- where none of three tests holds, the last doesn't
third-fails : (a b w : Bool) → (a || (b || not w)) ≡ false → w ≡ true
third-fails true b w e = absurd (true≢false e)
third-fails false true w e = absurd (true≢false e)
third-fails false false true e = refl
third-fails false false false e = absurd (true≢false e)

-- what isn't false is true
not-false : (t : Bool) → not t ≡ false → t ≡ true
not-false true e = refl
not-false false e = absurd (true≢false e)

-- a line without a fault
pub record IsClean (s : Said) (line : List ℕ) : Type 0 where
  pub said : CodeLine
  pub at : line_at s.next (tokens_of line) ≡ Some said
  pub whole : is_whole line ≡ true
  pub passes_none : passes s (Some said) ≡ false

-- a line of the head passes no limit
passes-head : (n : Next) (l : CodeLine) (s : Said) → is_head n ≡ true → Comes n l → passes s (Some l) ≡ false
passes-head next.Version Version s b c = refl
passes-head next.Version (Counts k m) s b c = absurd c
passes-head next.Version (Head p r k) s b c = absurd c
passes-head next.Version (Into i) s b c = absurd c
passes-head next.Version (Begins k) s b c = absurd c
passes-head next.Version (Does i) s b c = absurd c
passes-head next.Version Stops s b c = absurd c
passes-head next.Version Ends s b c = absurd c
passes-head next.Counts Version s b c = absurd c
passes-head next.Counts (Counts k m) s b c = refl
passes-head next.Counts (Head p r k) s b c = absurd c
passes-head next.Counts (Into i) s b c = absurd c
passes-head next.Counts (Begins k) s b c = absurd c
passes-head next.Counts (Does i) s b c = absurd c
passes-head next.Counts Stops s b c = absurd c
passes-head next.Counts Ends s b c = absurd c
passes-head next.Head l s b c = absurd (true≢false (sym b))
passes-head next.Inlets l s b c = absurd (true≢false (sym b))
passes-head next.Threads l s b c = absurd (true≢false (sym b))
passes-head next.Instrs l s b c = absurd (true≢false (sym b))
passes-head next.Done l s b c = absurd (true≢false (sym b))

-- a line of the head
clean-head : (s : Said) (line : List ℕ) → is_head s.next ≡ true → faults_of_head s.next line ≡ [] → IsClean s line
clean-head s line p e =
    let bad = where_so (not (is_some (head_of s.next (tokens_of line)))) BadHead in
    let cut = where_so (not (is_whole line)) BadLine in
    let here = there (head_of s.next (tokens_of line)) (where-none (not (is_some (head_of s.next (tokens_of line)))) BadHead (none-left bad cut e)) in
    let at : line_at s.next (tokens_of line) ≡ Some here.0 = rw (line_at, p) here.1 in
    record {
      said = here.0;
      at = at;
      whole = not-false (is_whole line) (where-none (not (is_whole line)) BadLine (none-right bad cut e));
      passes_none = passes-head s.next here.0 s p (at-is s.next (tokens_of line) here.0 at).comes;
    }

-- a line behind it, by its tokens
clean-tokens : (s : Said) (line : List ℕ) (ts : List (List ℕ)) → is_head s.next ≡ false → tokens_of line ≡ ts → faults_of_tokens s line ts ≡ [] → IsClean s line
clean-tokens s line [] p q e = absurd cc
clean-tokens s line (t ∷ ts) p q e =
    let f = form_of s.next t in
    let test = has_wrong_size f ts || (has_empty (t ∷ ts) || not (is_whole line)) in
    let o = line_with f ts in
    let one = where_so test BadLine in
    let two = where_so (not (is_some o)) BadNumber in
    let three = where_so (passes s o) TooMany in
    let prefix : one ++ two ≡ [] = none-left (one ++ two) three e in
    let here = there o (where-none (not (is_some o)) BadNumber (none-right one two prefix)) in
    let at : line_at s.next (tokens_of line) ≡ Some here.0 = rw (line_at, p) (ap (body_of s.next) q ∙ here.1) in
    record {
      said = here.0;
      at = at;
      whole = third-fails (has_wrong_size f ts) (has_empty (t ∷ ts)) (is_whole line) (where-none test BadLine (none-left one two prefix));
      passes_none = ap (passes s) (sym here.1) ∙ where-none (passes s o) TooMany (none-right (one ++ two) three e);
    }

-- any line
pub clean : (s : Said) (line : List ℕ) → faults_of_line s line ≡ [] → IsClean s line
clean s line e = go (is_head s.next) refl
  where
    go : (b : Bool) → is_head s.next ≡ b → IsClean s line
    go true p = clean-head s line p (rw (faults_of_line, p) at e)
    go false p = clean-tokens s line (tokens_of line) p refl (rw (faults_of_line, p) at e)

-- ---- the lines that were said

-- the head, and the codes that ended
abbrev pub base : Said → List CodeLine
base s = Version ∷ Counts s.number s.main ∷ flat_map text_lines s.done

-- the code that is open
abbrev pub open_lines : CodeText → List CodeLine
open_lines c = Head c.params c.results c.slots ∷ map Into c.inlets ++ flat_map thread_lines c.threads

-- the thread that is open
abbrev pub begun_lines : Thread → List CodeLine
begun_lines t = Begins t.count ∷ map Does t.instrs

-- all of them, by what comes next
abbrev pub said_lines : Next → Said → List CodeLine
said_lines next.Version s = []
said_lines next.Counts s = Version ∷ []
said_lines next.Head s = base s
said_lines next.Inlets s = base s ++ open_lines s.code
said_lines next.Threads s = base s ++ open_lines s.code
said_lines next.Instrs s = base s ++ (open_lines s.code ++ begun_lines s.thread)
said_lines next.Done s = base s

-- an inlet goes last, where there is no thread
into-last : (b : List CodeLine) (h z : CodeLine) (xs ys : List CodeLine) → ys ≡ [] → b ++ (h ∷ (xs ++ z ∷ []) ++ ys) ≡ (b ++ (h ∷ xs ++ ys)) ++ z ∷ []
into-last b h z xs ys e =
    let left : b ++ (h ∷ (xs ++ z ∷ []) ++ ys) ≡ b ++ (h ∷ xs ++ z ∷ []) =
    ap (λ (l : List CodeLine). b ++ (h ∷ (xs ++ z ∷ []) ++ l)) e ∙ ap (λ (l : List CodeLine). b ++ (h ∷ l)) (with-nothing (xs ++ z ∷ [])) in
    let right : (b ++ (h ∷ xs ++ ys)) ++ z ∷ [] ≡ b ++ (h ∷ xs ++ z ∷ []) =
    ap (λ (l : List CodeLine). (b ++ (h ∷ xs ++ l)) ++ z ∷ []) e ∙ ap (λ (l : List CodeLine). (b ++ (h ∷ l)) ++ z ∷ []) (with-nothing xs)
    ∙ append_assoc b (h ∷ xs) (z ∷ []) in
    left ∙ sym right

-- a code's end goes last
code-last : (c : CodeText) → text_lines c ≡ open_lines c ++ Ends ∷ []
code-last c =
    ap (λ (l : List CodeLine). Head c.params c.results c.slots ∷ l) (sym (append_assoc (map Into c.inlets) (flat_map thread_lines c.threads) (Ends ∷ [])))

-- a thread's stop goes last
thread-last : (c : CodeText) (t : Thread) → open_lines (record c { threads = c.threads ++ t ∷ [] }) ≡ (open_lines c ++ begun_lines t) ++ Stops ∷ []
thread-last c t =
    let h = Head c.params c.results c.slots in
    let xs = map Into c.inlets in
    let ys = flat_map thread_lines c.threads in
    let threads : flat_map thread_lines (c.threads ++ t ∷ []) ≡ ys ++ (begun_lines t ++ Stops ∷ []) =
    flat_map-append thread_lines c.threads (t ∷ []) ∙ ap (λ (l : List CodeLine). ys ++ l) (with-nothing (thread_lines t)) in
    ap (λ (l : List CodeLine). h ∷ xs ++ l) threads
    ∙ ap (λ (l : List CodeLine). h ∷ l) (sym (append_assoc xs ys (begun_lines t ++ Stops ∷ [])))
    ∙ sym (append_assoc (h ∷ xs ++ ys) (begun_lines t) (Stops ∷ []))

-- behind a code the lines are those of the codes, whatever comes next
base-behind : (number done : ℕ) (s : Said) → said_lines (behind_code number done) s ≡ base s
base-behind number done s = go (done == number)
  where
    go : (b : Bool) → said_lines (elim b [ true ↦ next.Done | false ↦ next.Head ]) s ≡ base s
    go true = refl
    go false = refl

-- a line that comes goes last
lines-on : (n : Next) (l : CodeLine) (s : Said) → s.next ≡ n → Comes n l → IsSound s → said_lines (with_line s l).next (with_line s l) ≡ said_lines n
    s ++ l ∷ []
lines-on next.Version Version s e c h = refl
lines-on next.Version (Counts k m) s e c h = absurd c
lines-on next.Version (Head p r k) s e c h = absurd c
lines-on next.Version (Into i) s e c h = absurd c
lines-on next.Version (Begins k) s e c h = absurd c
lines-on next.Version (Does i) s e c h = absurd c
lines-on next.Version Stops s e c h = absurd c
lines-on next.Version Ends s e c h = absurd c
lines-on next.Counts Version s e c h = absurd c
lines-on next.Counts (Counts k m) s e c h =
    let none : s.done ≡ [] = stage-at next.Counts s e h in
    ap (λ (ds : List CodeText). Version ∷ Counts k m ∷ flat_map text_lines ds) none
lines-on next.Counts (Head p r k) s e c h = absurd c
lines-on next.Counts (Into i) s e c h = absurd c
lines-on next.Counts (Begins k) s e c h = absurd c
lines-on next.Counts (Does i) s e c h = absurd c
lines-on next.Counts Stops s e c h = absurd c
lines-on next.Counts Ends s e c h = absurd c
lines-on next.Head Version s e c h = absurd c
lines-on next.Head (Counts k m) s e c h = absurd c
lines-on next.Head (Head p r k) s e c h = refl
lines-on next.Head (Into i) s e c h = absurd c
lines-on next.Head (Begins k) s e c h = absurd c
lines-on next.Head (Does i) s e c h = absurd c
lines-on next.Head Stops s e c h = absurd c
lines-on next.Head Ends s e c h = absurd c
lines-on next.Inlets Version s e c h = absurd c
lines-on next.Inlets (Counts k m) s e c h = absurd c
lines-on next.Inlets (Head p r k) s e c h = absurd c
lines-on next.Inlets (Into i) s e c h =
    let none : flat_map thread_lines s.code.threads ≡ [] = ap (λ (ts : List Thread). flat_map thread_lines ts) (stage-at next.Inlets s e h).1 in
    ap (λ (xs : List CodeLine). base s ++ (Head s.code.params s.code.results s.code.slots ∷ xs ++ flat_map thread_lines s.code.threads))
    (map-append (λ (j : Inlet). Into j) s.code.inlets (i ∷ []))
    ∙ into-last (base s) (Head s.code.params s.code.results s.code.slots) (Into i) (map Into s.code.inlets) (flat_map thread_lines s.code.threads) none
lines-on next.Inlets (Begins k) s e c h = sym (append_assoc (base s) (open_lines s.code) (Begins k ∷ []))
lines-on next.Inlets (Does i) s e c h = absurd c
lines-on next.Inlets Stops s e c h = absurd c
lines-on next.Inlets Ends s e c h = absurd c
lines-on next.Threads Version s e c h = absurd c
lines-on next.Threads (Counts k m) s e c h = absurd c
lines-on next.Threads (Head p r k) s e c h = absurd c
lines-on next.Threads (Into i) s e c h = absurd c
lines-on next.Threads (Begins k) s e c h = sym (append_assoc (base s) (open_lines s.code) (Begins k ∷ []))
lines-on next.Threads (Does i) s e c h = absurd c
lines-on next.Threads Stops s e c h = absurd c
lines-on next.Threads Ends s e c h =
    base-behind s.number (suc (length s.done)) (with_line s Ends)
    ∙ ap (λ (xs : List CodeLine). Version ∷ Counts s.number s.main ∷ xs)
    (flat_map-append text_lines s.done (s.code ∷ []) ∙ ap (λ (xs : List CodeLine). flat_map text_lines s.done ++ xs) (with-nothing (text_lines s.code)))
    ∙ ap (λ (xs : List CodeLine). base s ++ xs) (code-last s.code) ∙ sym (append_assoc (base s) (open_lines s.code) (Ends ∷ []))
lines-on next.Instrs Version s e c h = absurd c
lines-on next.Instrs (Counts k m) s e c h = absurd c
lines-on next.Instrs (Head p r k) s e c h = absurd c
lines-on next.Instrs (Into i) s e c h = absurd c
lines-on next.Instrs (Begins k) s e c h = absurd c
lines-on next.Instrs (Does i) s e c h =
    ap (λ (k : Next). said_lines k (with_line s (Does i))) e
    ∙ ap (λ (xs : List CodeLine). base s ++ (open_lines s.code ++ (Begins s.thread.count ∷ xs))) (map-append (λ (j : Instr). Does j) s.thread.instrs (i ∷ []))
    ∙ ap (λ (xs : List CodeLine). base s ++ xs) (sym (append_assoc (open_lines s.code) (begun_lines s.thread) (Does i ∷ [])))
    ∙ sym (append_assoc (base s) (open_lines s.code ++ begun_lines s.thread) (Does i ∷ []))
lines-on next.Instrs Stops s e c h =
    ap (λ (xs : List CodeLine). base s ++ xs) (thread-last s.code s.thread)
    ∙ sym (append_assoc (base s) (open_lines s.code ++ begun_lines s.thread) (Stops ∷ []))
lines-on next.Instrs Ends s e c h = absurd c
lines-on next.Done Version s e c h = absurd c
lines-on next.Done (Counts k m) s e c h = absurd c
lines-on next.Done (Head p r k) s e c h = absurd c
lines-on next.Done (Into i) s e c h = absurd c
lines-on next.Done (Begins k) s e c h = absurd c
lines-on next.Done (Does i) s e c h = absurd c
lines-on next.Done Stops s e c h = absurd c
lines-on next.Done Ends s e c h = absurd c

-- ---- a text

-- the text of a line
abbrev pub line_text : CodeLine → List ℕ
line_text l = spaced (line_tokens l)

-- the text of what was said
abbrev pub text_said : Said → List ℕ
text_said s = flat_map line_text (said_lines s.next s)

-- the tokens of a line are some
pub some-tokens : (l : CodeLine) → (t : List ℕ) × (ts : List (List ℕ)) × (line_tokens l ≡ t ∷ ts)
some-tokens Version = (_, _, refl)
some-tokens (Counts k m) = (_, _, refl)
some-tokens (Head p r k) = (_, _, refl)
some-tokens (Into i) = (_, _, refl)
some-tokens (Begins k) = (_, _, refl)
some-tokens (Does i) = of_instr i
  where
    of_instr : (i : Instr) → (t : List ℕ) × (ts : List (List ℕ)) × (line_tokens (Does i) ≡ t ∷ ts)
    of_instr (instr.Imm d w) = (_, _, refl)
    of_instr (instr.Mov d a) = (_, _, refl)
    of_instr (instr.Op o d a b) = (_, _, refl)
    of_instr (instr.Fork t) = (_, _, refl)
    of_instr (instr.Switch s t u) = (_, _, refl)
    of_instr (instr.Falloc c i) = (_, _, refl)
    of_instr (instr.Send f p a) = (_, _, refl)
    of_instr (instr.Ret k a) = (_, _, refl)
    of_instr (instr.Ialloc n i) = (_, _, refl)
    of_instr (instr.Ifetch r x i n) = (_, _, refl)
    of_instr (instr.Istore r x a n) = (_, _, refl)
    of_instr (instr.Skip n) = (_, _, refl)
some-tokens Stops = (_, _, refl)
some-tokens Ends = (_, _, refl)

-- what is known of the state behind lines without faults
pub record Outcome (s : Said) (lines : List (List ℕ)) : Type 0 where
  pub sound : IsSound (said_from s lines)
  pub worded : IsWorded (said_from s lines)
  pub done : (said_from s lines).next ≡ next.Done
  pub text : text_said (said_from s lines) ≡ text_said s ++ flat_map (λ l. l) lines
  pub few : instrs_said (said_from s lines) ≤ instrs_said s + length lines

-- at the end nothing comes
at-end : (n : Next) → faults_at_end n ≡ [] → n ≡ next.Done
at-end next.Version e = absurd cc
at-end next.Counts e = absurd cc
at-end next.Head e = absurd cc
at-end next.Inlets e = absurd cc
at-end next.Threads e = absurd cc
at-end next.Instrs e = absurd cc
at-end next.Done e = refl

-- behind a line that says something
on-line : (s : Said) (line : List ℕ) (lines : List (List ℕ)) (l : CodeLine) → EndsOnce line → line_at s.next (tokens_of line) ≡ Some l
    → is_whole line ≡ true → passes s (Some l) ≡ false → IsSound s → IsWorded s → Outcome (with_line s l) lines → Outcome s (line ∷ lines)
on-line s line lines l once at whole none h w o =
    let is = at-is s.next (tokens_of line) l at in
    let some = some-tokens l in
    let printed : line ≡ line_text l =
    line-is line some.0 some.1 whole once (is.tokens ∙ some.2) ∙ ap spaced (sym some.2) in
    let one : text_said (with_line s l) ≡ text_said s ++ line_text l =
    ap (λ (ls : List CodeLine). flat_map line_text ls) (lines-on s.next l s refl is.comes h)
    ∙ flat_map-append line_text (said_lines s.next s) (l ∷ [])
    ∙ ap (λ (bs : List ℕ). text_said s ++ bs) (with-nothing (line_text l)) in
    let same : said_from s (line ∷ lines) ≡ said_from (with_line s l) lines = ap (λ (x : Option CodeLine). said_from (said_by s x) lines) at in
    let few = instrs-on s l in
    let text : text_said (said_from (with_line s l) lines) ≡ text_said s ++ flat_map (λ x. x) (line ∷ lines) =
    o.text ∙ ap (λ (bs : List ℕ). bs ++ flat_map (λ x. x) lines) (one ∙ ap (λ (bs : List ℕ). text_said s ++ bs) (sym printed))
    ∙ append_assoc (text_said s) line (flat_map (λ x. x) lines) in
    let less : instrs_said (said_from (with_line s l) lines) ≤ instrs_said s + suc (length lines) = let m = o.few in omega arith in
    record {
      sound = subst IsSound (sym same) o.sound;
      worded = subst IsWorded (sym same) o.worded;
      done = ap (λ (t : Said). t.next) same ∙ o.done;
      text = ap text_said same ∙ text;
      few = subst (λ (t : Said). instrs_said t ≤ instrs_said s + suc (length lines)) (sym same) less;
    }

-- lines without faults
pub outcome : (s : Said) (n : ℕ) (lines : List (List ℕ)) → AllByRecursion EndsOnce lines → faults_from s n lines ≡ [] → IsSound s → IsWorded s → Outcome s lines
outcome s n [] once e h w = record {
  sound = h;
  worded = w;
  done = at-end s.next (map-none (λ (c : Cause0). (n, c)) (faults_at_end s.next) e);
  text = sym (with-nothing (text_said s));
  few = omega arith;
}
outcome s n (line ∷ lines) once e h w =
    let here = none-left (map (λ c. (n, c)) (faults_of_line s line)) (faults_from (said_by s (line_at s.next (tokens_of line))) (n + 1) lines) e in
    let behind = none-right (map (λ c. (n, c)) (faults_of_line s line)) (faults_from (said_by s (line_at s.next (tokens_of line))) (n + 1) lines) e in
    let c = clean s line (map-none (λ (c : Cause0). (n, c)) (faults_of_line s line) here) in
    let is = at-is s.next (tokens_of line) c.said c.at in
    let rest : faults_from (with_line s c.said) (n + 1) lines ≡ [] =
    ap (λ (x : Option CodeLine). faults_from (said_by s x) (n + 1) lines) (sym c.at) ∙ behind in
    on-line s line lines c.said once.0 c.at c.whole c.passes_none h w
    (outcome (with_line s c.said) (n + 1) lines once.1 rest (sound-on s.next c.said s refl is.comes c.passes_none h)
    (worded-on s.next c.said s refl is.comes h is.words w))
