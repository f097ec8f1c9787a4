-- The text of the thread code of an accepted graph is short.
use Rattle.std.proofs.Common.{◌≡◌, ℕ, ◌+◌, ◌*◌, ◌^◌, ◌<◌, ◌≤◌, nat_lt, List, [], ◌∷◌, ◌++◌, map, flat_map, length, slice_get, Some, sym, ap, subst, ◌∙◌}
use Rattle.std.proofs.Common.{arith, inl, inr, true, Option, None, refl}
use Rattle.std.specs.Prelude.{codes}
use Rattle.std.specs.List.{sum_by}
use Rattle.std.proofs.lemmas.Option.{slice_get_within}
use Rattle.std.proofs.lemmas.List.Sums.{sum_by-cons, sum_by-append}
use Rattle.std.proofs.Math.Nat.{mul-le-mul_right}
use Rattle.tam_word.specs.Lists.{all_of}
use Rattle.tam_word.proofs.Tests.{test-below}
use Rattle.tam_word.proofs.Members.{In, Distinct, all-in, get-in, left-in, right-in, flat_map-in}
use Rattle.tam_graph.specs.Graphs.{Graph, code_of}
use Rattle.tam_graph.specs.Accepted.{IsAccepted}
use Rattle.tam_split.specs.GraphPartitions.{Partitions, parts_of, partitions}
use Rattle.tam_split.specs.KeptParts.{is_rising}
use Rattle.tam_split.specs.Partitions.{Parts, class_at, or_empty}
use Rattle.tam_split.proofs.Rising.{head-below, tail-rising}
use Rattle.tl0_code.specs.declared.code_line.CodeLine.{CodeLine}
use Rattle.tl0_code.specs.declared.code_line.CodeLine.TheVariants.{Version, Counts, Head, Into, Begins, Does, Stops, Ends}
use Rattle.tl0_code.specs.declared.inlet.Inlet.{Inlet}
use Rattle.tl0_code.specs.ThreadCode.{Thread, CodeText, Program, or_text, numbers_of, numbers_in, IsCodeText, IsProgram}
use Rattle.tl0_code.specs.CodeTexts.{line_tokens, spaced, thread_lines, text_lines, program_lines, program_text}
use Rattle.tl0_keep.specs.Compiled.{compiled, compiled_with, compiled_code}
use Rattle.tl0_keep.proofs.code.ThreadKinds.{AreAllParts, parts_for}
use Rattle.tl0_keep.proofs.code.CodePlaces.{compiled-at, compiled-many}
use Rattle.tl0_keep.proofs.code.CleanCodes.{AreFew}
use Rattle.tl0_keep.proofs.code.Checked.{checked-with}
use Rattle.tl0_keep.proofs.code.RisingClasses.{partitions-parts}
use Rattle.tl0_keep.proofs.code.FewClasses.{partitions-few}
use Rattle.tl0_keep.proofs.code.Sums.{sum-least, sum-flat}
use Rattle.tam_fits.specs.ShortTexts.{TextsAreShort, TextsByPairsAreShort}
use Rattle.tam_fits.proofs.Lists.{length-flat_sum, sum-map, sum-places, sum-limit}
use Rattle.tam_fits.proofs.NodeWeights.{thread_weight}
use Rattle.tam_fits.proofs.CodeWeights.{threads-weight}
use Rattle.tam_fits.proofs.Fitting.{code-limits}
use Rattle.tam_fits.proofs.LineBytes.{line_bytes, AreWords, said-bytes, counts-short, instr-short, in-bytes}

-- the bytes of lines
abbrev lines_bytes : List CodeLine → ℕ
lines_bytes ls = sum_by line_bytes ls

-- ---- threads

-- the numbers of a thread
abbrev numbers_in_thread : Thread → List ℕ
numbers_in_thread t = t.count ∷ flat_map numbers_of t.instrs

-- a thread
thread-short : (t : Thread) → AreWords (numbers_in_thread t) → lines_bytes (thread_lines t) ≤ thread_weight in-bytes t
thread-short t h =
    let first = said-bytes (codes "thread") (t.count ∷ []) (λ n m. elim m [ inl e ↦ h n (inl e) | inr r ↦ absurd r ]) in
    let a = sum_by-cons line_bytes (Begins t.count) (map Does t.instrs ++ Stops ∷ []) in
    let b = sum_by-append line_bytes (map Does t.instrs) (Stops ∷ []) in
    let c = sum_by-cons line_bytes Stops [] in
    let m = sum-map line_bytes Does t.instrs in
    let l = sum-least (λ i. line_bytes (Does i)) in-bytes.weight t.instrs
    (λ i k. instr-short i (λ n j. h n (inr (flat_map-in numbers_of i n t.instrs k j)))) in
    omega (arith, first, a, b, c, m, l)

-- ---- codes

module _ (c : CodeText) (h : IsCodeText c) where
  -- its numbers are words
  all-words : AreWords (numbers_in c)
  all-words n m = test-below n (2 ^ 32) (all-in (λ x. nat_lt x (2 ^ 32)) (numbers_in c) h.words n m)

  -- the numbers of its inlets
  abbrev inlet_numbers : List ℕ
  inlet_numbers = flat_map (λ (i : Inlet). i.slot ∷ i.thread ∷ []) c.inlets

  -- the line of an inlet
  inlet-short : (i : Inlet) → In i c.inlets → line_bytes (Into i) ≤ 28
  inlet-short i m = said-bytes (codes "inlet") (i.slot ∷ i.thread ∷ [])
      (λ n k. all-words n (inr (inr (left-in n inlet_numbers (flat_map numbers_in_thread c.threads)
      (flat_map-in (λ (j : Inlet). j.slot ∷ j.thread ∷ []) i n c.inlets m k)))))

  -- a thread
  its-thread_short : (t : Thread) → In t c.threads → lines_bytes (thread_lines t) ≤ thread_weight in-bytes t
  its-thread_short t m = thread-short t
      (λ n k. all-words n (inr (inr (right-in n inlet_numbers (flat_map numbers_in_thread c.threads)
      (flat_map-in numbers_in_thread t n c.threads m k)))))

  -- its head
  head-short : line_bytes (Head c.params c.results c.slots) ≤ 38
  head-short = said-bytes (codes "code") (c.params ∷ c.results ∷ c.slots ∷ []) words
    where
      words : AreWords (c.params ∷ c.results ∷ c.slots ∷ [])
      words n (inl e) = all-words n (inl e)
      words n (inr (inl e)) = all-words n (inr (inl e))
      words n (inr (inr (inl e))) = let s = h.few_slots in omega (arith, s, e)
      words n (inr (inr (inr e))) = absurd e

  -- the whole code
  code-short : (m : ℕ) → sum_by (thread_weight in-bytes) c.threads ≤ m → lines_bytes (text_lines c) ≤ m + 28714
  code-short m w =
      let into = map Into c.inlets in
      let threads = flat_map thread_lines c.threads in
      let first = head-short in
      let a = sum_by-cons line_bytes (Head c.params c.results c.slots) (into ++ (threads ++ Ends ∷ [])) in
      let b = sum_by-append line_bytes into (threads ++ Ends ∷ []) in
      let d = sum_by-append line_bytes threads (Ends ∷ []) in
      let e = sum_by-cons line_bytes Ends [] in
      let i = sum-map line_bytes Into c.inlets in
      let k = sum-limit (λ j. line_bytes (Into j)) 28 1024 c.inlets inlet-short h.few_inlets in
      let f = sum-flat line_bytes thread_lines c.threads in
      let l = sum-least (λ t. lines_bytes (thread_lines t)) (thread_weight in-bytes) c.threads its-thread_short in
      omega (arith, w, first, a, b, d, e, i, k, f, l)

-- ---- programs

-- a program is short where the threads of each code weigh little
program-short : (p : Program) → IsProgram p → ((k : ℕ) (c : CodeText) → slice_get p.codes k ≡ Some c → sum_by (thread_weight in-bytes) c.threads ≤ 221207)
    → length (program_text p) < 67108864
program-short p h each =
    let e = length-flat_sum (λ l. spaced (line_tokens l)) (program_lines p) in
    let a = sum_by-cons line_bytes Version (Counts (length p.codes) p.main ∷ flat_map text_lines p.codes) in
    let b = sum_by-cons line_bytes (Counts (length p.codes) p.main) (flat_map text_lines p.codes) in
    let f = sum-flat line_bytes text_lines p.codes in
    let s = sum-places (λ c. lines_bytes (text_lines c)) 249921 p.codes
    (λ k c i. code-short c (code-limits p h k c i) 221207 (each k c i)) in
    let t : length p.codes * 249921 ≤ 256 * 249921 = mul-le-mul_right 249921 h.few_codes in
    let l = h.few_codes in
    let c = counts-short (length p.codes) p.main (omega (arith, l)) h.word in
    omega (arith, e, a, b, f, s, t, c)

-- ---- the code of a graph

-- its text is short, over any partitions with few classes
pub short-with : (g : Graph) (accepted : IsAccepted g) (all : Partitions) → AreAllParts g all
    → ((n : ℕ) → n < length g.codes → AreFew (code_of g n) (parts_for all n)) → length (program_text (compiled_with g all)) < 67108864
short-with g accepted all parts few = program-short (compiled_with g all) (checked-with g all accepted parts few).within light
  where
    light : (k : ℕ) (c : CodeText) → slice_get (compiled_with g all).codes k ≡ Some c → sum_by (thread_weight in-bytes) c.threads ≤ 221207
    light k c e =
        let l = slice_get_within (compiled_with g all).codes k c e in
        let low : k < length g.codes = let m = compiled-many g all parts in omega (arith, l, m) in
        let same : compiled_code g (code_of g k, parts_for all k) ≡ c = sym (compiled-at g all parts k low) ∙ ap or_text e in
        subst (λ (t : CodeText). sum_by (thread_weight in-bytes) t.threads ≤ 221207) same
        (threads-weight in-bytes g accepted k low (parts_for all k) (parts.each k low) (few k low))

-- ---- any partitions

-- numbers that rise differ
rising-distinct : (xs : List ℕ) → is_rising xs ≡ true → Distinct xs
rising-distinct [] h = tt
rising-distinct (x ∷ xs) h = (λ m. let l : x < x = head-below x xs h x m in omega (arith, l), rising-distinct xs (tail-rising x xs h))

-- no class has a place twice where each rises
class-once : (ps : Parts) → all_of is_rising ps ≡ true → (k : ℕ) → Distinct (class_at ps k)
class-once ps h k = rising-distinct (class_at ps k) (go (slice_get ps k) refl)
  where
    go : (o : Option (List ℕ)) → slice_get ps k ≡ o → is_rising (or_empty o) ≡ true
    go None e = refl
    go (Some p) e = all-in is_rising ps h p (get-in ps k p e)

-- the text over any partitions
pub texts-short : TextsAreShort
texts-short g all accepted h = short-with g accepted all
    (record {
      codes = h.codes;
      each = λ n l. record { blocks = h.blocks n l; parts = λ b m. h.parts n b l m; once = λ b k. class-once (parts_of all n b) (h.rising n b) k };
    })
    (λ n l. record { few = λ b m. h.few n b l m })

-- and over those by least pairs
pub by_pairs-short : TextsByPairsAreShort
unfolding compiled
by_pairs-short g accepted = short-with g accepted (partitions g) (partitions-parts g accepted) (partitions-few g accepted)
