-- What is printed part by part is the text of the program, and its numbers make it one that can be read.
use Rattle.std.proofs.Common.{◌≡◌, ℕ, suc, ◌^◌, ◌<◌, true, List, [], ◌∷◌, ◌++◌, map, flat_map, length, get_or, refl, sym, ap, ap₂, ◌∙◌, append_assoc}
use Rattle.std.specs.Prelude.{decimal, codes, IfOk, Result, Ok, Err}
use Rattle.std.specs.List.{AllByRecursion}
use Rattle.std.proofs.lemmas.Bool.{lt-ltb, ltb-true}
use Rattle.std.proofs.lemmas.Grind.{flat_map-append}
use Rattle.tam_word.specs.Lists.{all_of}
use Rattle.tam_word.specs.Words.{signed_text}
use Rattle.tam_word.specs.OpNames.{op_name}
use Rattle.tl0_code.specs.declared.code_line.CodeLine.TheVariants.{Version, Counts, Into, Does, Stops, Ends}
use Rattle.tl0_code.specs.declared.inlet.Inlet.{Inlet}
use Rattle.tl0_code.specs.declared.instr.Instr.{Instr}
use Rattle.tl0_code.specs.declared.instr.Instr.TheVariants as instr
use Rattle.tl0_code.specs.ThreadCode.{Thread, CodeText, Program, HasCodeLimits, HasProgramLimits, IsCodeText}
use Rattle.tl0_code.specs.CodeTexts.{spaced, thread_lines, text_lines, program_text}
use Rattle.tl0_text.specs.Printing.{is_word, inlet_numbers, thread_numbers, HasWords, further, numbers_line, instr_text, inlet_text}
use Rattle.tl0_text.specs.Printing.{thread_text, code_bytes}
use Rattle.tl0_text.specs.Printing.{counts_text, printed}
use Rattle.tl0_text.specs.Reading.{Reads0}
use Rattle.tl0_text.proofs.Cutting.{all-parts, all-first, all-both, with-nothing}
use Rattle.tl0_text.proofs.Sayings.{line_text}
use Rattle.tl0_text.proofs.TextsRead.{each-place}

-- ---- lines

-- a word and numbers
numbers-are : (w : List ℕ) (ns : List ℕ) → numbers_line w ns ≡ spaced (w ∷ map decimal ns)
numbers-are w [] = refl
numbers-are w (n ∷ ns) = ap (λ l. w ++ 32 ∷ l) (append_assoc (decimal n) (further ns) (10 ∷ []) ∙ numbers-are (decimal n) ns)

-- an instruction
instr-is : (i : Instr) → instr_text i ≡ line_text (Does i)
instr-is (instr.Imm d w) = ap (λ l. codes "imm" ++ 32 ∷ l) (append_assoc (decimal d) [] (32 ∷ (signed_text w ++ 10 ∷ [])))
instr-is (instr.Mov d a) = numbers-are (codes "mov") (d ∷ a ∷ [])
instr-is (instr.Op o d a b) = numbers-are (op_name o) (d ∷ a ∷ b ∷ [])
instr-is (instr.Fork t) = numbers-are (codes "fork") (t ∷ [])
instr-is (instr.Switch s t u) = numbers-are (codes "switch") (s ∷ t ∷ u ∷ [])
instr-is (instr.Falloc c i) = numbers-are (codes "falloc") (c ∷ i ∷ [])
instr-is (instr.Send f p a) = numbers-are (codes "send") (f ∷ p ∷ a ∷ [])
instr-is (instr.Ret k a) = numbers-are (codes "ret") (k ∷ a ∷ [])
instr-is (instr.Ialloc n i) = numbers-are (codes "ialloc") (n ∷ i ∷ [])
instr-is (instr.Ifetch r x i n) = numbers-are (codes "ifetch") (r ∷ x ∷ i ∷ n ∷ [])
instr-is (instr.Istore r x a n) = numbers-are (codes "istore") (r ∷ x ∷ a ∷ n ∷ [])
instr-is (instr.Skip n) = numbers-are (codes "skip") (n ∷ [])

-- instructions
instrs-are : (is : List Instr) → flat_map instr_text is ≡ flat_map line_text (map Does is)
instrs-are [] = refl
instrs-are (i ∷ is) = ap₂ (λ (a b : List ℕ). a ++ b) (instr-is i) (instrs-are is)

-- inlets
inlets-are : (is : List Inlet) → flat_map inlet_text is ≡ flat_map line_text (map Into is)
inlets-are [] = refl
inlets-are (i ∷ is) = ap₂ (λ (a b : List ℕ). a ++ b) (numbers-are (codes "inlet") (i.slot ∷ i.thread ∷ [])) (inlets-are is)

-- ---- parts

-- a thread
thread-is : (t : Thread) → thread_text t ≡ flat_map line_text (thread_lines t)
thread-is t =
    ap₂ (λ (a b : List ℕ). a ++ b) (numbers-are (codes "thread") (t.count ∷ []))
    (ap (λ l. l ++ line_text Stops) (instrs-are t.instrs)
    ∙ ap (λ l. flat_map line_text (map Does t.instrs) ++ l) (sym (with-nothing (line_text Stops)))
    ∙ sym (flat_map-append line_text (map Does t.instrs) (Stops ∷ [])))

-- threads
threads-are : (ts : List Thread) → flat_map thread_text ts ≡ flat_map line_text (flat_map thread_lines ts)
threads-are [] = refl
threads-are (t ∷ ts) =
    ap₂ (λ (a b : List ℕ). a ++ b) (thread-is t) (threads-are ts) ∙ sym (flat_map-append line_text (thread_lines t) (flat_map thread_lines ts))

-- a code
code-is : (c : CodeText) → code_bytes c ≡ flat_map line_text (text_lines c)
code-is c =
    let threads : flat_map thread_text c.threads ++ line_text Ends ≡ flat_map line_text (flat_map thread_lines c.threads ++ Ends ∷ []) =
    ap (λ l. l ++ line_text Ends) (threads-are c.threads)
    ∙ ap (λ l. flat_map line_text (flat_map thread_lines c.threads) ++ l) (sym (with-nothing (line_text Ends)))
    ∙ sym (flat_map-append line_text (flat_map thread_lines c.threads) (Ends ∷ [])) in
    ap₂ (λ (a b : List ℕ). a ++ b) (numbers-are (codes "code") (c.params ∷ c.results ∷ c.slots ∷ []))
    (ap₂ (λ (a b : List ℕ). a ++ b) (inlets-are c.inlets) threads
    ∙ sym (flat_map-append line_text (map Into c.inlets) (flat_map thread_lines c.threads ++ Ends ∷ [])))

-- codes
codes-are : (cs : List CodeText) → flat_map code_bytes cs ≡ flat_map line_text (flat_map text_lines cs)
codes-are [] = refl
codes-are (c ∷ cs) = ap₂ (λ (a b : List ℕ). a ++ b) (code-is c) (codes-are cs) ∙ sym (flat_map-append line_text (text_lines c) (flat_map text_lines cs))

-- the second line
counts-are : (n m : ℕ) → counts_text n m ≡ line_text (Counts n m)
counts-are n m =
    ap (λ l. codes "codes" ++ 32 ∷ l) (append_assoc (decimal n) [] (numbers_line (codes " main") (m ∷ []))
    ∙ ap (λ l. decimal n ++ (codes " main" ++ 32 ∷ l)) (append_assoc (decimal m) [] (10 ∷ [])))

-- the first
version-is : numbers_line (codes "tl0 2") [] ≡ line_text Version
version-is = refl

-- a program
pub printed-is : (p : Program) → printed p ≡ program_text p
printed-is p = ap₂ (λ (a b : List ℕ). a ++ b) version-is (ap₂ (λ (a b : List ℕ). a ++ b) (counts-are (length p.codes) p.main) (codes-are p.codes))

-- ---- numbers

-- numbers that fit
pub words-fit : (xs : List ℕ) → ((k : ℕ) → get_or xs k 0 < 2 ^ 32) → all_of is_word xs ≡ true
words-fit [] h = refl
words-fit (x ∷ xs) h = all-first is_word x xs (lt-ltb x (2 ^ 32) (h 0)) (words-fit xs (λ k. h (suc k)))

-- those of threads
threads-fit : (ts : List Thread) → AllByRecursion HasWords ts → all_of is_word (flat_map thread_numbers ts) ≡ true
threads-fit [] h = refl
threads-fit (t ∷ ts) h = all-both is_word (thread_numbers t) (flat_map thread_numbers ts) h.0 (threads-fit ts h.1)

-- what holds anyway holds where all went well
pub if-ok : {A B : Type 0} (r : Result A B) (P : Type 0) → P → IfOk r (λ z. P)
if-ok (Ok a) P h = h
if-ok (Err b) P h = tt

-- a code that was printed
pub code-made : (c : CodeText) (p r s : ℕ) (is : List Inlet) (ts : List Thread) → HasCodeLimits c → p ≡ c.params → r ≡ c.results → is ≡ c.inlets
    → ts ≡ c.threads
    → all_of is_word (p ∷ r ∷ s ∷ []) ≡ true → all_of is_word (flat_map inlet_numbers is) ≡ true → AllByRecursion HasWords ts → IsCodeText c
code-made c p r s is ts h ep er ei et w wi wt =
    let a = all-parts is_word p (r ∷ s ∷ []) w in
    let b = all-parts is_word r (s ∷ []) a.1 in
    let inlets : all_of is_word (flat_map inlet_numbers c.inlets) ≡ true = ap (λ (l : List Inlet). all_of is_word (flat_map inlet_numbers l)) (sym ei) ∙ wi in
    let threads : all_of is_word (flat_map thread_numbers c.threads) ≡ true =
    ap (λ (l : List Thread). all_of is_word (flat_map thread_numbers l)) (sym et) ∙ threads-fit ts wt in
    record {
      few_slots = h.few_slots;
      few_inlets = h.few_inlets;
      some_thread = h.some_thread;
      few_threads = h.few_threads;
      words = all-first is_word c.params (c.results ∷ (flat_map inlet_numbers c.inlets ++ flat_map thread_numbers c.threads)) (ap is_word (sym ep) ∙ a.0)
          (all-first is_word c.results (flat_map inlet_numbers c.inlets ++ flat_map thread_numbers c.threads) (ap is_word (sym er) ∙ b.0)
          (all-both is_word (flat_map inlet_numbers c.inlets) (flat_map thread_numbers c.threads) inlets threads));
    }

-- a program that was printed is read as itself
pub print-reads : (p : Program) (bytes : List ℕ) → HasProgramLimits p → is_word p.main ≡ true → AllByRecursion IsCodeText p.codes → bytes ≡ program_text p
    → Reads0 bytes p
print-reads p bytes h w each e = record {
  within = record {
    some_code = h.some_code;
    few_codes = h.few_codes;
    each_code = λ n l. each-place p.codes n each l;
    few_instrs = h.few_instrs;
    word = ltb-true p.main (2 ^ 32) w;
  };
  text = e;
}
