-- What lines say keeps the limits of a program, line by line.
use Rattle.std.proofs.Common.{◌≡◌, ℕ, suc, ◌+◌, ◌≤◌, ◌<◌, Bool, true, false, List, [], ◌∷◌, ◌++◌, flat_map, Some, refl, sym}
use Rattle.std.proofs.Common.{ap, ◌∙◌, arith}
use Rattle.std.proofs.Common.{subst, ◌==◌, length}
use Rattle.std.specs.Prelude.{sum_by}
use Rattle.std.specs.List.{AllByRecursion}
use Rattle.std.proofs.lemmas.Bool.{ltb-false, leb-false}
use Rattle.std.proofs.lemmas.Grind.{flat_map-append}
use Rattle.std.proofs.lemmas.List.Sums.{sum_by-append}
use Rattle.tam_word.specs.Lists.{all_of}
use Rattle.tam_word.proofs.Each.{all-append}
use Rattle.tam_word.proofs.Tests.{number-eq, number-differs}
use Rattle.tl0_code.specs.declared.code_line.CodeLine.{CodeLine}
use Rattle.tl0_code.specs.declared.code_line.CodeLine.TheVariants.{Version, Counts, Head, Into, Begins, Does, Stops, Ends}
use Rattle.tl0_code.specs.ThreadCode.{Thread, CodeText, numbers_of, instr_count, IsCodeText}
use Rattle.tl0_text.specs.declared.next.Next.{Next}
use Rattle.tl0_text.specs.declared.next.Next.TheVariants as next
use Rattle.tl0_text.specs.Reading.{Said, with_line, behind_code, passes}
use Rattle.tl0_text.specs.Sound.{IsSound, IsStage, instrs_said}
use Rattle.tl0_text.proofs.Cutting.{all-parts, all-first, all-both, with-nothing}
use Rattle.tl0_text.proofs.Forms.{line_numbers}
use Rattle.tl0_text.specs.Printing.{is_word, inlet_numbers, thread_numbers}
use Rattle.tl0_text.proofs.Comes.{Comes}

-- a list has one element more
one-more : {X : Type 0} (xs : List X) (x : X) → length (xs ++ x ∷ []) ≡ suc (length xs)
one-more [] x = refl
one-more (y ∷ ys) x = ap (λ (n : ℕ). suc n) (one-more ys x)

-- ---- limits

-- behind a code comes another, or nothing
stage-behind : (s t : Said) (number : ℕ) → t.number ≡ number → length s.done < number → length t.done ≡ suc (length s.done)
    → IsStage (behind_code number (suc (length s.done))) t
stage-behind s t number same l e = go (suc (length s.done) == number) refl
  where
    go : (b : Bool) → (suc (length s.done) == number) ≡ b → IsStage (elim b [ true ↦ next.Done | false ↦ next.Head ]) t
    go true p = let is : suc (length s.done) ≡ number = number-eq (suc (length s.done)) number p in (omega arith, omega arith)
    go false p = let not = number-differs (suc (length s.done)) number p in not_yet (λ z. not z)
      where
        not_yet : (suc (length s.done) ≡ number → ⊥) → length t.done < t.number
        not_yet n = omega (arith, n)

-- what is known of a stage, whichever it is called
pub stage-at : (n : Next) (s : Said) → s.next ≡ n → IsSound s → IsStage n s
stage-at n s e h = subst (λ (k : Next). IsStage k s) e h.stage

-- a line that comes keeps the limits, where it passes none
pub sound-on : (n : Next) (l : CodeLine) (s : Said) → s.next ≡ n → Comes n l → passes s (Some l) ≡ false → IsSound s → IsSound (with_line s l)
sound-on next.Version Version s e c f h =
    record { few_slots = h.few_slots; few_inlets = h.few_inlets; few_threads = h.few_threads; few_codes = h.few_codes; stage = stage-at next.Version s e h }
sound-on next.Version (Counts k m) s e c f h = absurd c
sound-on next.Version (Head p r k) s e c f h = absurd c
sound-on next.Version (Into i) s e c f h = absurd c
sound-on next.Version (Begins k) s e c f h = absurd c
sound-on next.Version (Does i) s e c f h = absurd c
sound-on next.Version Stops s e c f h = absurd c
sound-on next.Version Ends s e c f h = absurd c
sound-on next.Counts Version s e c f h = absurd c
sound-on next.Counts (Counts k m) s e c f h =
    let none : s.done ≡ [] = stage-at next.Counts s e h in
    let low : 1 ≤ k = c.0 in
    let count : length s.done < k = subst (λ (xs : List CodeText). length xs < k) (sym none) (omega arith) in
    record { few_slots = h.few_slots; few_inlets = h.few_inlets; few_threads = h.few_threads; few_codes = c.1; stage = count }
sound-on next.Counts (Head p r k) s e c f h = absurd c
sound-on next.Counts (Into i) s e c f h = absurd c
sound-on next.Counts (Begins k) s e c f h = absurd c
sound-on next.Counts (Does i) s e c f h = absurd c
sound-on next.Counts Stops s e c f h = absurd c
sound-on next.Counts Ends s e c f h = absurd c
sound-on next.Head Version s e c f h = absurd c
sound-on next.Head (Counts k m) s e c f h = absurd c
sound-on next.Head (Head p r k) s e c f h =
    record {
      few_slots = ltb-false 1026 k f;
      few_inlets = omega arith;
      few_threads = omega arith;
      few_codes = h.few_codes;
      stage =
          (stage-at next.Head s e h, refl);
    }
sound-on next.Head (Into i) s e c f h = absurd c
sound-on next.Head (Begins k) s e c f h = absurd c
sound-on next.Head (Does i) s e c f h = absurd c
sound-on next.Head Stops s e c f h = absurd c
sound-on next.Head Ends s e c f h = absurd c
sound-on next.Inlets Version s e c f h = absurd c
sound-on next.Inlets (Counts k m) s e c f h = absurd c
sound-on next.Inlets (Head p r k) s e c f h = absurd c
sound-on next.Inlets (Into i) s e c f h =
    let few : length s.code.inlets < 1024 = leb-false 1024 (length s.code.inlets) f in
    let more = one-more s.code.inlets i in
    record { few_slots = h.few_slots; few_inlets = omega arith; few_threads = h.few_threads; few_codes = h.few_codes; stage = stage-at next.Inlets s e h }
sound-on next.Inlets (Begins k) s e c f h =
    let few : length s.code.threads < 3073 = leb-false 3073 (length s.code.threads) f in
    let begun = stage-at next.Inlets s e h in
    record { few_slots = h.few_slots; few_inlets = h.few_inlets; few_threads = h.few_threads; few_codes = h.few_codes; stage = (begun.0, omega arith) }
sound-on next.Inlets (Does i) s e c f h = absurd c
sound-on next.Inlets Stops s e c f h = absurd c
sound-on next.Inlets Ends s e c f h = absurd c
sound-on next.Threads Version s e c f h = absurd c
sound-on next.Threads (Counts k m) s e c f h = absurd c
sound-on next.Threads (Head p r k) s e c f h = absurd c
sound-on next.Threads (Into i) s e c f h = absurd c
sound-on next.Threads (Begins k) s e c f h =
    let few : length s.code.threads < 3073 = leb-false 3073 (length s.code.threads) f in
    let begun = stage-at next.Threads s e h in
    record { few_slots = h.few_slots; few_inlets = h.few_inlets; few_threads = h.few_threads; few_codes = h.few_codes; stage = (begun.0, omega arith) }
sound-on next.Threads (Does i) s e c f h = absurd c
sound-on next.Threads Stops s e c f h = absurd c
sound-on next.Threads Ends s e c f h =
    let begun = stage-at next.Threads s e h in
    record {
      few_slots = omega arith;
      few_inlets = omega arith;
      few_threads = omega arith;
      few_codes = h.few_codes;
      stage = stage-behind s (with_line s Ends) s.number refl begun.0 (one-more s.done s.code);
    }
sound-on next.Instrs Version s e c f h = absurd c
sound-on next.Instrs (Counts k m) s e c f h = absurd c
sound-on next.Instrs (Head p r k) s e c f h = absurd c
sound-on next.Instrs (Into i) s e c f h = absurd c
sound-on next.Instrs (Begins k) s e c f h = absurd c
sound-on next.Instrs (Does i) s e c f h =
    let begun : IsStage next.Instrs (with_line s (Does i)) = stage-at next.Instrs s e h in
    record {
      few_slots = h.few_slots;
      few_inlets = h.few_inlets;
      few_threads = h.few_threads;
      few_codes = h.few_codes;
      stage = subst (λ (k : Next). IsStage k (with_line s (Does i))) (sym e) begun;
    }
sound-on next.Instrs Stops s e c f h =
    let begun = stage-at next.Instrs s e h in
    let few : length s.code.threads ≤ 3072 = begun.1 in
    let more = one-more s.code.threads s.thread in
    record { few_slots = h.few_slots; few_inlets = h.few_inlets; few_threads = omega arith; few_codes = h.few_codes; stage = (begun.0, omega arith) }
sound-on next.Instrs Ends s e c f h = absurd c
sound-on next.Done Version s e c f h = absurd c
sound-on next.Done (Counts k m) s e c f h = absurd c
sound-on next.Done (Head p r k) s e c f h = absurd c
sound-on next.Done (Into i) s e c f h = absurd c
sound-on next.Done (Begins k) s e c f h = absurd c
sound-on next.Done (Does i) s e c f h = absurd c
sound-on next.Done Stops s e c f h = absurd c
sound-on next.Done Ends s e c f h = absurd c

-- ---- numbers

-- each number that was said has 32 bits
pub record IsWorded (s : Said) : Type 0 where
  pub main : is_word s.main ≡ true
  pub done : AllByRecursion IsCodeText s.done
  pub params : is_word s.code.params ≡ true
  pub results : is_word s.code.results ≡ true
  pub inlets : all_of is_word (flat_map inlet_numbers s.code.inlets) ≡ true
  pub threads : all_of is_word (flat_map thread_numbers s.code.threads) ≡ true
  pub count : is_word s.thread.count ≡ true
  pub instrs : all_of is_word (flat_map numbers_of s.thread.instrs) ≡ true

-- one list more
more-words : {X : Type 0} (f : X → List ℕ) (xs : List X) (x : X) → all_of is_word (flat_map f xs) ≡ true → all_of is_word (f x) ≡ true
    → all_of is_word (flat_map f (xs ++ x ∷ [])) ≡ true
more-words f xs x h k =
    ap (all_of is_word) (flat_map-append f xs (x ∷ []) ∙ ap (λ l. flat_map f xs ++ l) (with-nothing (f x)))
    ∙ all-both is_word (flat_map f xs) (f x) h k

-- a code that ends
code-words : (s : Said) → IsSound s → 0 < length s.code.threads → IsWorded s → IsCodeText s.code
code-words s h some w = record {
  few_slots = h.few_slots;
  few_inlets = h.few_inlets;
  some_thread = some;
  few_threads = h.few_threads;
  words = all-first is_word s.code.params (s.code.results ∷ (flat_map inlet_numbers s.code.inlets ++ flat_map thread_numbers s.code.threads)) w.params
      (all-first is_word s.code.results (flat_map inlet_numbers s.code.inlets ++ flat_map thread_numbers s.code.threads) w.results
      (all-both is_word (flat_map inlet_numbers s.code.inlets) (flat_map thread_numbers s.code.threads) w.inlets w.threads));
}

-- the first of two
first-word : (a : ℕ) (ns : List ℕ) → all_of is_word (a ∷ ns) ≡ true → is_word a ≡ true
first-word a ns h = (all-parts is_word a ns h).0

-- the second
second-word : (a b : ℕ) (ns : List ℕ) → all_of is_word (a ∷ b ∷ ns) ≡ true → is_word b ≡ true
second-word a b ns h = first-word b ns (all-parts is_word a (b ∷ ns) h).1

-- a line that comes keeps that
pub worded-on : (n : Next) (l : CodeLine) (s : Said) → s.next ≡ n → Comes n l → IsSound s → all_of is_word (line_numbers l) ≡ true → IsWorded s
    → IsWorded (with_line s l)
worded-on next.Version Version s e c h w d =
    record { main = d.main; done = d.done; params = d.params; results = d.results; inlets = d.inlets; threads = d.threads; count = d.count; instrs = d.instrs }
worded-on next.Version (Counts k m) s e c h w d = absurd c
worded-on next.Version (Head p r k) s e c h w d = absurd c
worded-on next.Version (Into i) s e c h w d = absurd c
worded-on next.Version (Begins k) s e c h w d = absurd c
worded-on next.Version (Does i) s e c h w d = absurd c
worded-on next.Version Stops s e c h w d = absurd c
worded-on next.Version Ends s e c h w d = absurd c
worded-on next.Counts Version s e c h w d = absurd c
worded-on next.Counts (Counts k m) s e c h w d =
    record {
      main = second-word k m [] w;
      done = d.done;
      params = d.params;
      results = d.results;
      inlets = d.inlets;
      threads = d.threads;
      count = d.count;
      instrs = d.instrs;
    }
worded-on next.Counts (Head p r k) s e c h w d = absurd c
worded-on next.Counts (Into i) s e c h w d = absurd c
worded-on next.Counts (Begins k) s e c h w d = absurd c
worded-on next.Counts (Does i) s e c h w d = absurd c
worded-on next.Counts Stops s e c h w d = absurd c
worded-on next.Counts Ends s e c h w d = absurd c
worded-on next.Head Version s e c h w d = absurd c
worded-on next.Head (Counts k m) s e c h w d = absurd c
worded-on next.Head (Head p r k) s e c h w d =
    record {
      main = d.main;
      done = d.done;
      params = first-word p (r ∷ k ∷ []) w;
      results = second-word p r (k ∷ []) w;
      inlets = refl;
      threads = refl;
      count = d.count;
      instrs = d.instrs;
    }
worded-on next.Head (Into i) s e c h w d = absurd c
worded-on next.Head (Begins k) s e c h w d = absurd c
worded-on next.Head (Does i) s e c h w d = absurd c
worded-on next.Head Stops s e c h w d = absurd c
worded-on next.Head Ends s e c h w d = absurd c
worded-on next.Inlets Version s e c h w d = absurd c
worded-on next.Inlets (Counts k m) s e c h w d = absurd c
worded-on next.Inlets (Head p r k) s e c h w d = absurd c
worded-on next.Inlets (Into i) s e c h w d =
    record {
      main = d.main;
      done = d.done;
      params = d.params;
      results = d.results;
      inlets = more-words inlet_numbers s.code.inlets i d.inlets w;
      threads = d.threads;
      count = d.count;
      instrs = d.instrs;
    }
worded-on next.Inlets (Begins k) s e c h w d =
    record {
      main = d.main;
      done = d.done;
      params = d.params;
      results = d.results;
      inlets = d.inlets;
      threads = d.threads;
      count = first-word k [] w;
      instrs = refl;
    }
worded-on next.Inlets (Does i) s e c h w d = absurd c
worded-on next.Inlets Stops s e c h w d = absurd c
worded-on next.Inlets Ends s e c h w d = absurd c
worded-on next.Threads Version s e c h w d = absurd c
worded-on next.Threads (Counts k m) s e c h w d = absurd c
worded-on next.Threads (Head p r k) s e c h w d = absurd c
worded-on next.Threads (Into i) s e c h w d = absurd c
worded-on next.Threads (Begins k) s e c h w d =
    record {
      main = d.main;
      done = d.done;
      params = d.params;
      results = d.results;
      inlets = d.inlets;
      threads = d.threads;
      count = first-word k [] w;
      instrs = refl;
    }
worded-on next.Threads (Does i) s e c h w d = absurd c
worded-on next.Threads Stops s e c h w d = absurd c
worded-on next.Threads Ends s e c h w d =
    let begun = stage-at next.Threads s e h in
    record {
      main = d.main;
      done = all-append IsCodeText s.done (s.code ∷ []) d.done (code-words s h begun.1 d, tt);
      params = refl;
      results = refl;
      inlets = refl;
      threads = refl;
      count = d.count;
      instrs = d.instrs;
    }
worded-on next.Instrs Version s e c h w d = absurd c
worded-on next.Instrs (Counts k m) s e c h w d = absurd c
worded-on next.Instrs (Head p r k) s e c h w d = absurd c
worded-on next.Instrs (Into i) s e c h w d = absurd c
worded-on next.Instrs (Begins k) s e c h w d = absurd c
worded-on next.Instrs (Does i) s e c h w d =
    record {
      main = d.main;
      done = d.done;
      params = d.params;
      results = d.results;
      inlets = d.inlets;
      threads = d.threads;
      count = d.count;
      instrs = more-words numbers_of s.thread.instrs i d.instrs w;
    }
worded-on next.Instrs Stops s e c h w d =
    record {
      main = d.main;
      done = d.done;
      params = d.params;
      results = d.results;
      inlets = d.inlets;
      threads = more-words thread_numbers s.code.threads s.thread d.threads
          (all-first is_word s.thread.count (flat_map numbers_of s.thread.instrs) d.count d.instrs);
      count = refl;
      instrs = refl;
    }
worded-on next.Instrs Ends s e c h w d = absurd c
worded-on next.Done Version s e c h w d = absurd c
worded-on next.Done (Counts k m) s e c h w d = absurd c
worded-on next.Done (Head p r k) s e c h w d = absurd c
worded-on next.Done (Into i) s e c h w d = absurd c
worded-on next.Done (Begins k) s e c h w d = absurd c
worded-on next.Done (Does i) s e c h w d = absurd c
worded-on next.Done Stops s e c h w d = absurd c
worded-on next.Done Ends s e c h w d = absurd c

-- ---- instructions

-- sums with one more
sum-one : {X : Type 0} (f : X → ℕ) (xs : List X) (x : X) → sum_by f (xs ++ x ∷ []) ≡ sum_by f xs + f x
sum-one f xs x = let more = sum_by-append f xs (x ∷ []) in omega arith

-- a line adds at most one
pub instrs-on : (s : Said) (l : CodeLine) → instrs_said (with_line s l) ≤ instrs_said s + 1
instrs-on s Version = omega arith
instrs-on s (Counts k m) = omega arith
instrs-on s (Head p r k) = omega arith
instrs-on s (Into i) = omega arith
instrs-on s (Begins k) = omega arith
instrs-on s (Does i) = let more = one-more s.thread.instrs i in omega arith
instrs-on s Stops = let more = sum-one (λ (t : Thread). length t.instrs) s.code.threads s.thread in omega arith
instrs-on s Ends = let more = sum-one instr_count s.done s.code in omega arith
