-- A fault of thread code stands on a line of its text, and the lines of a text are no more than its bytes.
use Rattle.std.proofs.Common.{◌≡◌, ℕ, zero, suc, ◌+◌, ◌^◌, ◌<◌, ◌≤◌, inl, inr, List, [], ◌∷◌, ◌++◌, map, flat_map, length, take, slice_get}
use Rattle.std.proofs.Common.{refl, sym, ap, subst, arith, length-append, Some}
use Rattle.std.proofs.lemmas.List.{length-map}
use Rattle.tam_word.specs.Lists.{below, placed_from}
use Rattle.tam_word.proofs.Members.{In, in-map, in-flat_map, in-below}
use Rattle.tl0_code.specs.declared.bad_cause.BadCause.{BadCause}
use Rattle.tl0_code.specs.declared.code_line.CodeLine.{CodeLine}
use Rattle.tl0_code.specs.declared.code_line.CodeLine.TheVariants.{Into, Does, Stops, Ends}
use Rattle.tl0_code.specs.ThreadCode.{Thread, CodeText, Program, code_text, or_text}
use Rattle.tl0_code.specs.CodeTexts.{line_tokens, spaced, thread_lines, text_lines, program_lines, program_text}
use Rattle.tl0_code.specs.CodeRules.{faults_of_inlet, faults_of_thread, faults_of_code, faults_on, faults_in, faults_of, first_among, first_fault}
use Rattle.tl0_check.proofs.CodeLines.{thread-lines}

-- ---- where a fault stands

-- a line that has a place stands before the end of the lines
in-placed : {X : Type 0} (k l : ℕ) (x : X) (lines : List X) → In (l, x) (placed_from k lines) → l < k + length lines
in-placed k l x [] h = absurd h
in-placed k l x (y ∷ lines) (inl e) = let q : k ≡ l = ap (λ p. p.0) e in omega (arith, q)
in-placed k l x (y ∷ lines) (inr h) = let b = in-placed (k + 1) l x lines h in omega (arith, b)

-- a fault of code m is told of it, and stands on one of its lines
in-code : (p : Program) (m : ℕ) (fault : ℕ × ℕ × BadCause) → In fault (faults_in p m)
    → (fault.0 ≡ m) × (fault.1 < length (faults_of_code p m (code_text p m)))
in-code p m fault h =
    let lines = faults_of_code p m (code_text p m) in
    let line = in-flat_map (faults_on m) fault (placed_from 0 lines) h in
    let told = in-map (λ (c : BadCause). (m, line.0.0, c)) fault line.0.1 line.2 in
    let place : line.0.0 ≡ fault.1 = ap (λ (f : ℕ × ℕ × BadCause). f.1) told.2 in
    let before = in-placed 0 line.0.0 line.0.1 lines line.1 in
    (sym (ap (λ (f : ℕ × ℕ × BadCause). f.0) told.2), omega (arith, place, before))

-- the first fault is one of all
first-in : (fs : List (ℕ × ℕ × BadCause)) (f : ℕ × ℕ × BadCause) → first_among fs ≡ Some f → In f fs
first-in [] f e = absurd (cc)
first-in (g ∷ fs) f e = let same : g ≡ f = cc in inl same

-- ---- lines

-- a thread has two lines besides its instructions
thread-text-lines : (t : Thread) → length (thread_lines t) ≡ length t.instrs + 2
thread-text-lines t =
    let behind = length-append (map Does t.instrs) (Stops ∷ []) in
    let own = length-map t.instrs Does in
    omega (arith, behind, own)

-- threads have as many lines in the text as in the check
lines-of-threads : (p : Program) (c : CodeText) (ts : List Thread) → length (flat_map (faults_of_thread p c) ts) ≡ length (flat_map thread_lines ts)
lines-of-threads p c [] = refl
lines-of-threads p c (t ∷ ts) =
    let others = lines-of-threads p c ts in
    let one = thread-lines p c t in
    let same = thread-text-lines t in
    let checked = length-append (faults_of_thread p c t) (flat_map (faults_of_thread p c) ts) in
    let text = length-append (thread_lines t) (flat_map thread_lines ts) in
    omega (arith, others, one, same, checked, text)

-- a code has a head, its inlets, its threads and an end
pub text-lines : (c : CodeText) → length (text_lines c) ≡ 2 + length c.inlets + length (flat_map thread_lines c.threads)
text-lines c =
    let inlets = length-append (map Into c.inlets) (flat_map thread_lines c.threads ++ Ends ∷ []) in
    let own = length-map c.inlets Into in
    let threads = length-append (flat_map thread_lines c.threads) (Ends ∷ []) in
    omega (arith, inlets, own, threads)

-- the check has all of them but the end
lines-of-check : (p : Program) (n : ℕ) (c : CodeText) → length (faults_of_code p n c) < length (text_lines c)
lines-of-check p n c =
    let behind = length-append (map (faults_of_inlet c) c.inlets) (flat_map (faults_of_thread p c) c.threads) in
    let own = length-map c.inlets (faults_of_inlet c) in
    let threads = lines-of-threads p c c.threads in
    let all = text-lines c in
    omega (arith, behind, own, threads, all)

-- a fault stands in a code that is there, on one of its lines
pub fault-there : (p : Program) (fault : ℕ × ℕ × BadCause) → first_fault p ≡ Some fault
    → (fault.0 < length p.codes) × (fault.1 < length (text_lines (code_text p fault.0)))
fault-there p fault e =
    let code = in-flat_map (faults_in p) fault (below (length p.codes)) (first-in (faults_of p) fault e) in
    let line = in-code p code.0 fault code.2 in
    let there = in-below code.0 (length p.codes) code.1 in
    let more = lines-of-check p code.0 (code_text p code.0) in
    let before = line.1 in (
      subst (λ m. m < length p.codes) (sym line.0) there,
      subst (λ m. fault.1 < length (text_lines (code_text p m))) (sym line.0) (omega (arith, before, more)),
    )

-- a code and those before it have no more lines than all
lines-before : (cs : List CodeText) (n : ℕ) → n < length cs
    → length (flat_map text_lines (take n cs)) + length (text_lines (or_text (slice_get cs n))) ≤ length (flat_map text_lines cs)
lines-before [] n l = absurd (omega (arith, l))
lines-before (c ∷ cs) zero l = let all = length-append (text_lines c) (flat_map text_lines cs) in omega (arith, all)
lines-before (c ∷ cs) (suc n) l =
    let more = lines-before cs n (omega (arith, l)) in
    let before = length-append (text_lines c) (flat_map text_lines (take n cs)) in
    let all = length-append (text_lines c) (flat_map text_lines cs) in
    omega (arith, more, before, all)

-- the number of a line is a word
pub line-fits : (p : Program) (n place before : ℕ) → length (program_lines p) < 2 ^ 32 → n < length p.codes → place < length (text_lines (code_text p n))
    → before ≡ length (flat_map text_lines (take n p.codes)) → 3 + before + place < 2 ^ 32
line-fits p n place before short there in-code is = let all = lines-before p.codes n there in omega (arith, all, short, in-code, is)

-- ---- bytes

-- a line has a byte at least
spaced-some : (tokens : List (List ℕ)) → 0 < length (spaced tokens)
spaced-some [] = omega arith
spaced-some (t ∷ []) = let l = length-append t (10 ∷ []) in omega (arith, l)
spaced-some (t ∷ u ∷ ts) = let l = length-append t (32 ∷ spaced (u ∷ ts)) in omega (arith, l)

-- lines are no more than their bytes
lines-few : (lines : List CodeLine) → length lines ≤ length (flat_map (λ l. spaced (line_tokens l)) lines)
lines-few [] = omega arith
lines-few (l ∷ lines) =
    let one = spaced-some (line_tokens l) in
    let others = lines-few lines in
    let all = length-append (spaced (line_tokens l)) (flat_map (λ l. spaced (line_tokens l)) lines) in
    omega (arith, one, others, all)

-- so are those of a text
pub text-few : (p : Program) → length (program_lines p) ≤ length (program_text p)
text-few p = lines-few (program_lines p)
