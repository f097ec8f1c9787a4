-- The faults of the lines of a thread and of a code, and how many lines there are.
use Rattle.std.proofs.Common.{◌≡◌, ℕ, suc, ◌+◌, ◌*◌, ◌<◌, ◌≤◌, nat_lt, ◌||◌, List, [], ◌∷◌, ◌++◌, map, flat_map, length, take, get_or, refl, sym, ap}
use Rattle.std.proofs.Common.{◌∙◌, arith, length-append}
use Rattle.std.specs.Prelude.{sum_by}
use Rattle.std.proofs.lemmas.List.{length-map}
use Rattle.std.proofs.lemmas.List.Sums.{get_or-le-sum_by, sum_by-cons}
use Rattle.std.proofs.lemmas.Option.{slice_get-get_or}
use Rattle.tam_word.specs.Lists.{where_so}
use Rattle.tl0_code.specs.declared.bad_cause.BadCause.{BadCause}
use Rattle.tl0_code.specs.declared.bad_cause.BadCause.TheVariants as bad
use Rattle.tl0_code.specs.ThreadCode.{Thread, CodeText, Program, or_text, code_text, instr_count, HasProgramLimits}
use Rattle.tl0_code.specs.CodeRules.{faults_of_instr, faults_of_head, faults_of_inlet, faults_of_thread, faults_of_code, faults_in}
use Rattle.tl0_check.specs.FirstFault.{faults_from}
use Rattle.tl0_check.proofs.Lines.{line-clean, lines-clean, line-behind}

-- the faults of the head of a thread
abbrev pub faults_of_count : Thread → List BadCause
faults_of_count t = where_so (nat_lt t.count 1 || nat_lt 65535 t.count) bad.Frame

module _ (p : Program) (c : CodeText) where
  -- a thread has two lines besides its instructions
  pub thread-lines : (t : Thread) → length (faults_of_thread p c t) ≡ length t.instrs + 2
  thread-lines t =
      let one_more : suc (length t.instrs + 1) ≡ length t.instrs + 2 = omega arith in
      let behind = length-append (map (faults_of_instr p c) t.instrs) ([] ∷ []) in
      ap suc (behind ∙ ap (λ (m : ℕ). m + 1) (length-map t.instrs (faults_of_instr p c))) ∙ one_more

  -- how many lines threads have
  pub threads-lines : (ts : List Thread) → length (flat_map (faults_of_thread p c) ts) ≡ sum_by (λ t. length t.instrs) ts + 2 * length ts
  threads-lines [] = refl
  threads-lines (t ∷ ts) =
      let one = thread-lines t in
      let others = threads-lines ts in
      let joined = length-append (faults_of_thread p c t) (flat_map (faults_of_thread p c) ts) in
      let sum = sum_by-cons (λ (u : Thread). length u.instrs) t ts in
      omega (arith, one, others, joined, sum)

  -- where a thread's head has no fault, its faults are those of its instructions
  pub thread-faults : (n k : ℕ) (t : Thread) → [] ≡ take 1 (faults_of_count t)
      → faults_from n k (faults_of_thread p c t) ≡ faults_from n (k + 1) (map (faults_of_instr p c) t.instrs)
  thread-faults n k t h =
      line-clean n k (faults_of_count t) (map (faults_of_instr p c) t.instrs ++ [] ∷ []) h
      ∙ line-behind n (k + 1) (map (faults_of_instr p c) t.instrs)

-- the code at an index
pub code-at : (p : Program) (n : ℕ) (c : CodeText) → n < length p.codes → c ≡ get_or p.codes n c → code_text p n ≡ c
code-at p n c l e = ap or_text (slice_get-get_or p.codes n c l) ∙ sym e

module _ (p : Program) (n : ℕ) (c : CodeText) (own : code_text p n ≡ c) where
  -- the faults of a code are those of its lines
  code-faults : faults_in p n ≡ faults_from n 0 (faults_of_code p n c)
  code-faults = ap (λ (d : CodeText). faults_from n 0 (faults_of_code p n d)) own

  -- where its head has no fault, they are those of its inlets and threads
  pub behind-head : [] ≡ take 1 (faults_of_head p n c)
      → faults_in p n ≡ faults_from n 1 (map (faults_of_inlet c) c.inlets ++ flat_map (faults_of_thread p c) c.threads)
  behind-head h =
      code-faults ∙ line-clean n 0 (faults_of_head p n c) (map (faults_of_inlet c) c.inlets ++ flat_map (faults_of_thread p c) c.threads) h

  -- where its inlets have none either, they are those of its threads
  pub behind-inlets : [] ≡ take 1 (faults_of_head p n c) → faults_from n 1 (map (faults_of_inlet c) c.inlets) ≡ []
      → faults_in p n ≡ faults_from n (length c.inlets + 1) (flat_map (faults_of_thread p c) c.threads)
  behind-inlets h k =
      let place : 1 + length (map (faults_of_inlet c) c.inlets) ≡ length c.inlets + 1 = omega (arith, length-map c.inlets (faults_of_inlet c)) in
      behind-head h
      ∙ lines-clean n 1 (map (faults_of_inlet c) c.inlets) (flat_map (faults_of_thread p c) c.threads) k
      ∙ ap (λ (m : ℕ). faults_from n m (flat_map (faults_of_thread p c) c.threads)) place

-- a code has no more instructions than the program
pub few-instrs : (p : Program) (n : ℕ) (c : CodeText) → n < length p.codes → c ≡ get_or p.codes n c → HasProgramLimits p
    → instr_count c ≤ 67108864
few-instrs p n c l e h =
    let part : instr_count (get_or p.codes n c) ≤ sum_by instr_count p.codes = get_or-le-sum_by instr_count p.codes n c l in
    let same : instr_count c ≡ instr_count (get_or p.codes n c) = ap instr_count e in
    omega (arith, h.few_instrs)
