-- The text of a program has no fault, and its lines say that program.
use Rattle.std.proofs.Common.{◌≡◌, ℕ, suc, ◌+◌, ◌^◌, ◌≤◌, ◌<◌, Bool, true, false, List, [], ◌∷◌, ◌++◌, map, flat_map, refl, sym, ap, ◌∙◌}
use Rattle.std.proofs.Common.{subst, length, append_assoc, arith}
use Rattle.std.specs.Prelude.{nat_lt, nat_le}
use Rattle.std.proofs.lemmas.Bool.{lt-ltb, ltb-true, leb-true}
use Rattle.std.proofs.lemmas.List.{length-append}
use Rattle.tam_word.specs.Lists.{all_of}
use Rattle.tl0_code.specs.declared.code_line.CodeLine.TheVariants.{Head, Into, Begins, Does, Stops, Ends}
use Rattle.tl0_code.specs.declared.inlet.Inlet.{Inlet}
use Rattle.tl0_code.specs.declared.instr.Instr.{Instr}
use Rattle.tl0_code.specs.ThreadCode.{Thread, CodeText, numbers_of, IsCodeText}
use Rattle.tl0_code.specs.CodeTexts.{thread_lines, text_lines}
use Rattle.tl0_text.specs.declared.next.Next.{Next}
use Rattle.tl0_text.specs.declared.next.Next.TheVariants as next
use Rattle.tl0_text.specs.Reading.{Said, bare, idle, behind_code}
use Rattle.tl0_text.proofs.Cutting.{all-parts, all-first, all-prefix, all-back, with-nothing}
use Rattle.tl0_text.specs.Printing.{is_word}
use Rattle.tl0_text.specs.Printing.{inlet_numbers, thread_numbers}
use Rattle.tl0_text.proofs.Leading.{Leads, leads-none, leads-one, leads-then}

-- a test of order that fails
not-above : (a b : ℕ) → b ≤ a → nat_lt a b ≡ false
not-above a b h = go (nat_lt a b) refl
  where
    go : (t : Bool) → nat_lt a b ≡ t → t ≡ false
    go true e = absurd (let l : a < b = ltb-true a b e in omega arith)
    go false e = refl

-- the other test of order
not-reached : (a b : ℕ) → b < a → nat_le a b ≡ false
not-reached a b h = go (nat_le a b) refl
  where
    go : (t : Bool) → nat_le a b ≡ t → t ≡ false
    go true e = absurd (let l : a ≤ b = leb-true a b e in omega arith)
    go false e = refl

module _ (k m : ℕ) (d : List CodeText) where
  -- what was said of a text with these numbers and codes
  abbrev At : Next → CodeText → Thread → Said
  At n c t = record { next = n; number = k; main = m; done = d; code = c; thread = t }

  -- ---- instructions

  -- a thread with instructions
  abbrev thread_with : ℕ → List Instr → Thread
  thread_with n is = record { count = n; instrs = is }

  -- instructions behind others
  lead-instrs : (c : CodeText) (n : ℕ) (js is : List Instr) → all_of is_word (flat_map numbers_of is) ≡ true
      → Leads (At next.Instrs c (thread_with n js)) (map Does is) (At next.Instrs c (thread_with n (js ++ is)))
  lead-instrs c n js [] w =
      subst (λ (l : List Instr). Leads (At next.Instrs c (thread_with n js)) [] (At next.Instrs c (thread_with n l))) (sym (with-nothing js))
      (leads-none (At next.Instrs c (thread_with n js)))
  lead-instrs c n js (i ∷ is) w =
      let s = At next.Instrs c (thread_with n js) in
      let t = At next.Instrs c (thread_with n (js ++ i ∷ [])) in
      let one : Leads s (Does i ∷ []) t = leads-one s (Does i) tt (all-prefix is_word (numbers_of i) (flat_map numbers_of is) w) refl in
      let others : Leads t (map Does is) (At next.Instrs c (thread_with n ((js ++ i ∷ []) ++ is))) =
      lead-instrs c n (js ++ i ∷ []) is (all-back is_word (numbers_of i) (flat_map numbers_of is) w) in
      subst (λ (l : List Instr). Leads s (map Does (i ∷ is)) (At next.Instrs c (thread_with n l))) (append_assoc js (i ∷ []) is)
      (leads-then s t (At next.Instrs c (thread_with n ((js ++ i ∷ []) ++ is))) (Does i ∷ []) (map Does is) one others)

  -- ---- threads

  -- a code with threads
  abbrev with_threads : CodeText → List Thread → CodeText
  with_threads c ts = record c { threads = ts }

  -- behind the line that begins it, a thread
  lead-begun : (c : CodeText) (t : Thread) → all_of is_word (thread_numbers t) ≡ true
      → Leads (At next.Instrs c (idle t.count)) (map Does t.instrs ++ Stops ∷ []) (At next.Threads (with_threads c (c.threads ++ t ∷ [])) (idle 0))
  lead-begun c t w =
      let s = At next.Instrs c (idle t.count) in
      let u = At next.Instrs c (thread_with t.count t.instrs) in
      let v = At next.Threads (with_threads c (c.threads ++ t ∷ [])) (idle 0) in
      let does : Leads s (map Does t.instrs) u = lead-instrs c t.count [] t.instrs (all-parts is_word t.count (flat_map numbers_of t.instrs) w).1 in
      let stop : Leads u (Stops ∷ []) v = leads-one u Stops tt refl refl in
      leads-then s u v (map Does t.instrs) (Stops ∷ []) does stop

  -- the first thread
  lead-first : (c : CodeText) (t : Thread) → all_of is_word (thread_numbers t) ≡ true → length c.threads < 3073
      → Leads (At next.Inlets c (idle 0)) (thread_lines t) (At next.Threads (with_threads c (c.threads ++ t ∷ [])) (idle 0))
  lead-first c t w l =
      let s = At next.Inlets c (idle 0) in
      let u = At next.Instrs c (idle t.count) in
      let p = all-parts is_word t.count (flat_map numbers_of t.instrs) w in
      let one : Leads s (Begins t.count ∷ []) u =
      leads-one s (Begins t.count) tt (all-first is_word t.count [] p.0 refl) (not-reached 3073 (length c.threads) l) in
      leads-then s u (At next.Threads (with_threads c (c.threads ++ t ∷ [])) (idle 0)) (Begins t.count ∷ []) (map Does t.instrs ++ Stops ∷ []) one
      (lead-begun c t w)

  -- a further one
  lead-further : (c : CodeText) (t : Thread) → all_of is_word (thread_numbers t) ≡ true → length c.threads < 3073
      → Leads (At next.Threads c (idle 0)) (thread_lines t) (At next.Threads (with_threads c (c.threads ++ t ∷ [])) (idle 0))
  lead-further c t w l =
      let s = At next.Threads c (idle 0) in
      let u = At next.Instrs c (idle t.count) in
      let p = all-parts is_word t.count (flat_map numbers_of t.instrs) w in
      let one : Leads s (Begins t.count ∷ []) u =
      leads-one s (Begins t.count) tt (all-first is_word t.count [] p.0 refl) (not-reached 3073 (length c.threads) l) in
      leads-then s u (At next.Threads (with_threads c (c.threads ++ t ∷ [])) (idle 0)) (Begins t.count ∷ []) (map Does t.instrs ++ Stops ∷ []) one
      (lead-begun c t w)

  -- threads behind others
  lead-threads : (c : CodeText) (us ts : List Thread) → all_of is_word (flat_map thread_numbers ts) ≡ true → length us + length ts ≤ 3073
      → Leads (At next.Threads (with_threads c us) (idle 0)) (flat_map thread_lines ts) (At next.Threads (with_threads c (us ++ ts)) (idle 0))
  lead-threads c us [] w l =
      subst (λ (x : List Thread). Leads (At next.Threads (with_threads c us) (idle 0)) [] (At next.Threads (with_threads c x) (idle 0))) (sym (with-nothing us))
      (leads-none (At next.Threads (with_threads c us) (idle 0)))
  lead-threads c us (t ∷ ts) w l =
      let s = At next.Threads (with_threads c us) (idle 0) in
      let u = At next.Threads (with_threads c (us ++ t ∷ [])) (idle 0) in
      let more = length-append us (t ∷ []) in
      let one : Leads s (thread_lines t) u =
      lead-further (with_threads c us) t (all-prefix is_word (thread_numbers t) (flat_map thread_numbers ts) w) (omega arith) in
      let others : Leads u (flat_map thread_lines ts) (At next.Threads (with_threads c ((us ++ t ∷ []) ++ ts)) (idle 0)) =
      lead-threads c (us ++ t ∷ []) ts (all-back is_word (thread_numbers t) (flat_map thread_numbers ts) w) (omega arith) in
      subst (λ (x : List Thread). Leads s (flat_map thread_lines (t ∷ ts)) (At next.Threads (with_threads c x) (idle 0))) (append_assoc us (t ∷ []) ts)
      (leads-then s u (At next.Threads (with_threads c ((us ++ t ∷ []) ++ ts)) (idle 0)) (thread_lines t) (flat_map thread_lines ts) one others)

  -- ---- inlets

  -- a code with inlets
  abbrev with_inlets : CodeText → List Inlet → CodeText
  with_inlets c is = record c { inlets = is }

  -- inlets behind others
  lead-inlets : (c : CodeText) (js is : List Inlet) → all_of is_word (flat_map inlet_numbers is) ≡ true → length js + length is ≤ 1024
      → Leads (At next.Inlets (with_inlets c js) (idle 0)) (map Into is) (At next.Inlets (with_inlets c (js ++ is)) (idle 0))
  lead-inlets c js [] w l =
      subst (λ (x : List Inlet). Leads (At next.Inlets (with_inlets c js) (idle 0)) [] (At next.Inlets (with_inlets c x) (idle 0))) (sym (with-nothing js))
      (leads-none (At next.Inlets (with_inlets c js) (idle 0)))
  lead-inlets c js (i ∷ is) w l =
      let s = At next.Inlets (with_inlets c js) (idle 0) in
      let u = At next.Inlets (with_inlets c (js ++ i ∷ [])) (idle 0) in
      let more = length-append js (i ∷ []) in
      let few : length js < 1024 = omega arith in
      let one : Leads s (Into i ∷ []) u =
      leads-one s (Into i) tt (all-prefix is_word (inlet_numbers i) (flat_map inlet_numbers is) w) (not-reached 1024 (length js) few) in
      let others : Leads u (map Into is) (At next.Inlets (with_inlets c ((js ++ i ∷ []) ++ is)) (idle 0)) =
      lead-inlets c (js ++ i ∷ []) is (all-back is_word (inlet_numbers i) (flat_map inlet_numbers is) w) (omega arith) in
      subst (λ (x : List Inlet). Leads s (map Into (i ∷ is)) (At next.Inlets (with_inlets c x) (idle 0))) (append_assoc js (i ∷ []) is)
      (leads-then s u (At next.Inlets (with_inlets c ((js ++ i ∷ []) ++ is)) (idle 0)) (Into i ∷ []) (map Into is) one others)

  -- ---- a code

  -- a code's end
  lead-end : (c : CodeText)
      → Leads (At next.Threads c (idle 0)) (Ends ∷ [])
      (record { next = behind_code k (suc (length d)); number = k; main = m; done = d ++ c ∷ []; code = bare 0 0 0; thread = idle 0 })
  lead-end c = leads-one (At next.Threads c (idle 0)) Ends tt refl refl

  -- a code by its parts
  lead-parts : (p r s : ℕ) (is : List Inlet) (t : Thread) (ts : List Thread) → is_word p ≡ true → is_word r ≡ true → s ≤ 1026
      → all_of is_word (flat_map inlet_numbers is) ≡ true → length is ≤ 1024
      → all_of is_word (flat_map thread_numbers (t ∷ ts)) ≡ true → length (t ∷ ts) ≤ 3073
      → Leads (At next.Head (bare 0 0 0) (idle 0)) (text_lines (record { params = p; results = r; slots = s; inlets = is; threads = t ∷ ts }))
      (record {
        next = behind_code k (suc (length d));
        number = k;
        main = m;
        done = d ++ (record { params = p; results = r; slots = s; inlets = is; threads = t ∷ ts }) ∷ [];
        code = bare 0 0 0;
        thread = idle 0;
      })
  lead-parts p r s is t ts wp wr few wi fi wt ft =
      let c : CodeText = record { params = p; results = r; slots = s; inlets = is; threads = t ∷ ts } in
      let z0 = At next.Head (bare 0 0 0) (idle 0) in
      let z1 = At next.Inlets (bare p r s) (idle 0) in
      let z2 = At next.Inlets (with_inlets (bare p r s) is) (idle 0) in
      let z3 = At next.Threads (with_threads (with_inlets (bare p r s) is) (t ∷ [])) (idle 0) in
      let z4 = At next.Threads c (idle 0) in
      let z5 : Said = record { next = behind_code k (suc (length d)); number = k; main = m; done = d ++ c ∷ []; code = bare 0 0 0; thread = idle 0 } in
      let small : is_word s ≡ true = lt-ltb s (2 ^ 32) (omega arith) in
      let head : Leads z0 (Head p r s ∷ []) z1 =
      leads-one z0 (Head p r s) tt (all-first is_word p (r ∷ s ∷ []) wp (all-first is_word r (s ∷ []) wr (all-first is_word s [] small refl)))
      (not-above 1026 s few) in
      let inlets : Leads z1 (map Into is) z2 = lead-inlets (bare p r s) [] is wi (omega arith) in
      let first : Leads z2 (thread_lines t) z3 =
      lead-first (with_inlets (bare p r s) is) t (all-prefix is_word (thread_numbers t) (flat_map thread_numbers ts) wt) (omega arith) in
      let others : Leads z3 (flat_map thread_lines ts) z4 =
      lead-threads (with_inlets (bare p r s) is) (t ∷ []) ts (all-back is_word (thread_numbers t) (flat_map thread_numbers ts) wt) (omega arith) in
      let threads : Leads z2 (flat_map thread_lines (t ∷ ts)) z4 = leads-then z2 z3 z4 (thread_lines t) (flat_map thread_lines ts) first others in
      let body : Leads z2 (flat_map thread_lines (t ∷ ts) ++ Ends ∷ []) z5 =
      leads-then z2 z4 z5 (flat_map thread_lines (t ∷ ts)) (Ends ∷ []) threads (lead-end c) in
      let behind : Leads z1 (map Into is ++ (flat_map thread_lines (t ∷ ts) ++ Ends ∷ [])) z5 =
      leads-then z1 z2 z5 (map Into is) (flat_map thread_lines (t ∷ ts) ++ Ends ∷ []) inlets body in
      leads-then z0 z1 z5 (Head p r s ∷ []) (map Into is ++ (flat_map thread_lines (t ∷ ts) ++ Ends ∷ [])) head behind

  -- a code
  pub lead-code : (c : CodeText) → IsCodeText c
      → Leads (At next.Head (bare 0 0 0) (idle 0)) (text_lines c)
      (record { next = behind_code k (suc (length d)); number = k; main = m; done = d ++ c ∷ []; code = bare 0 0 0; thread = idle 0 })
  lead-code c h =
      let p = all-parts is_word c.params (c.results ∷ (flat_map inlet_numbers c.inlets ++ flat_map thread_numbers c.threads)) h.words in
      let r = all-parts is_word c.results (flat_map inlet_numbers c.inlets ++ flat_map thread_numbers c.threads) p.1 in
      go c.threads refl (all-prefix is_word (flat_map inlet_numbers c.inlets) (flat_map thread_numbers c.threads) r.1)
      (all-back is_word (flat_map inlet_numbers c.inlets) (flat_map thread_numbers c.threads) r.1) p.0 r.0
    where
      go : (ts : List Thread) → c.threads ≡ ts → all_of is_word (flat_map inlet_numbers c.inlets) ≡ true
          → all_of is_word (flat_map thread_numbers c.threads) ≡ true → is_word c.params ≡ true → is_word c.results ≡ true
          → Leads (At next.Head (bare 0 0 0) (idle 0)) (text_lines c)
          (record { next = behind_code k (suc (length d)); number = k; main = m; done = d ++ c ∷ []; code = bare 0 0 0; thread = idle 0 })
      go [] e wi wt wp wr = absurd (let some = h.some_thread in let none = ap length e in omega arith)
      go (t ∷ ts) e wi wt wp wr =
          subst (λ (xs : List Thread). Leads (At next.Head (bare 0 0 0) (idle 0)) (text_lines (record c { threads = xs }))
          (record {
            next = behind_code k (suc (length d));
            number = k;
            main = m;
            done = d ++ (record c { threads = xs }) ∷ [];
            code = bare 0 0 0;
            thread = idle 0;
          })) (sym e)
          (lead-parts c.params c.results c.slots c.inlets t ts wp wr h.few_slots wi h.few_inlets
          (sym (ap (λ (xs : List Thread). all_of is_word (flat_map thread_numbers xs)) e) ∙ wt)
          (let few = h.few_threads in let same = ap length e in omega arith))
