-- The text of a program has no fault, and its lines say that program.
use Rattle.std.proofs.Common.{◌≡◌, ℕ, zero, suc, ◌+◌, ◌^◌, ◌<◌, Bool, true, false, List, [], ◌∷◌, ◌++◌, map, flat_map, refl, sym, ap, ◌∙◌, arith, subst}
use Rattle.std.proofs.Common.{length, append_assoc}
use Rattle.std.specs.Prelude.{slice_get}
use Rattle.std.proofs.lemmas.Bool.{lt-ltb}
use Rattle.std.proofs.lemmas.List.{length-append}
use Rattle.tam_word.proofs.Tests.{eq-number, differs-number}
use Rattle.tam_text.specs.Lines.{lines_of}
use Rattle.tl0_code.specs.declared.code_line.CodeLine.{CodeLine}
use Rattle.tl0_code.specs.declared.code_line.CodeLine.TheVariants.{Version, Counts}
use Rattle.tl0_code.specs.ThreadCode.{CodeText, Program, or_text, IsCodeText, IsProgram}
use Rattle.tl0_code.specs.CodeTexts.{text_lines, program_lines}
use Rattle.tl0_text.specs.declared.next.Next.{Next}
use Rattle.tl0_text.specs.declared.next.Next.TheVariants as next
use Rattle.tl0_text.specs.Reading.{Said, Reads0, nothing_said, bare, idle, behind_code, faults_from, faults, said_from, program_said, program_of}
use Rattle.tl0_text.proofs.Cutting.{all-first, with-nothing}
use Rattle.tl0_text.specs.Printing.{is_word}
use Rattle.tl0_text.proofs.Sayings.{line_text}
use Rattle.tl0_text.proofs.Leading.{Leads, leads-one, leads-then}
use Rattle.tl0_text.proofs.TextsBack.{lead-code}

-- behind the last code nothing comes
behind-last : (k n : ℕ) → n ≡ k → behind_code k n ≡ next.Done
behind-last k n e = ap (λ (t : Bool). elim t [ true ↦ next.Done | false ↦ next.Head ]) (eq-number n k e)

-- behind another one a code
behind-other : (k n : ℕ) → n < k → behind_code k n ≡ next.Head
behind-other k n l = ap (λ (t : Bool). elim t [ true ↦ next.Done | false ↦ next.Head ]) (differs-number n k (λ e. omega arith))

-- each code of a list
abbrev Each : List CodeText → Type 0
Each cs = (n : ℕ) → n < length cs → IsCodeText (or_text (slice_get cs n))

module _ (k m : ℕ) where
  -- between codes
  abbrev Between : List CodeText → Next → Said
  Between d n = record { next = n; number = k; main = m; done = d; code = bare 0 0 0; thread = idle 0 }

  -- codes behind others
  lead-codes : (d cs : List CodeText) → Each cs → 0 < length cs → length d + length cs ≡ k
      → Leads (Between d next.Head) (flat_map text_lines cs) (Between (d ++ cs) next.Done)
  lead-codes d [] h some e = absurd (omega arith)
  lead-codes d (c ∷ []) h some e =
      let one : Leads (Between d next.Head) (text_lines c) (Between (d ++ c ∷ []) (behind_code k (suc (length d)))) =
      lead-code k m d c (h zero (omega arith)) in
      subst (λ (ls : List CodeLine). Leads (Between d next.Head) ls (Between (d ++ c ∷ []) next.Done)) (sym (with-nothing (text_lines c)))
      (subst (λ (n : Next). Leads (Between d next.Head) (text_lines c) (Between (d ++ c ∷ []) n)) (behind-last k (suc (length d)) (omega arith)) one)
  lead-codes d (c ∷ x ∷ cs) h some e =
      let s = Between d next.Head in
      let t = Between (d ++ c ∷ []) next.Head in
      let more = length-append d (c ∷ []) in
      let one : Leads s (text_lines c) (Between (d ++ c ∷ []) (behind_code k (suc (length d)))) = lead-code k m d c (h zero (omega arith)) in
      let first : Leads s (text_lines c) t =
      subst (λ (n : Next). Leads s (text_lines c) (Between (d ++ c ∷ []) n)) (behind-other k (suc (length d)) (omega arith)) one in
      let others : Leads t (flat_map text_lines (x ∷ cs)) (Between ((d ++ c ∷ []) ++ x ∷ cs) next.Done) =
      lead-codes (d ++ c ∷ []) (x ∷ cs) (λ n l. h (suc n) (omega arith)) (omega arith) (omega arith) in
      subst (λ (l : List CodeText). Leads s (flat_map text_lines (c ∷ x ∷ cs)) (Between l next.Done)) (append_assoc d (c ∷ []) (x ∷ cs))
      (leads-then s t (Between ((d ++ c ∷ []) ++ x ∷ cs) next.Done) (text_lines c) (flat_map text_lines (x ∷ cs)) first others)

-- a program
lead-program : (p : Program) → IsProgram p → Leads nothing_said (program_lines p) (Between (length p.codes) p.main p.codes next.Done)
lead-program p h =
    let k = length p.codes in
    let s1 : Said = record nothing_said { next = next.Counts } in
    let s2 = Between k p.main [] next.Head in
    let s3 = Between k p.main p.codes next.Done in
    let small : is_word k ≡ true = (let few = h.few_codes in lt-ltb k (2 ^ 32) (omega arith)) in
    let main : is_word p.main ≡ true = lt-ltb p.main (2 ^ 32) h.word in
    let version : Leads nothing_said (Version ∷ []) s1 = leads-one nothing_said Version tt refl refl in
    let counts : Leads s1 (Counts k p.main ∷ []) s2 =
    leads-one s1 (Counts k p.main) (h.some_code, h.few_codes) (all-first is_word k (p.main ∷ []) small (all-first is_word p.main [] main refl)) refl in
    let codes : Leads s2 (flat_map text_lines p.codes) s3 = lead-codes k p.main [] p.codes h.each_code h.some_code (omega arith) in
    let behind : Leads s1 (Counts k p.main ∷ flat_map text_lines p.codes) s3 =
    leads-then s1 s2 s3 (Counts k p.main ∷ []) (flat_map text_lines p.codes) counts codes in
    leads-then nothing_said s1 s3 (Version ∷ []) (Counts k p.main ∷ flat_map text_lines p.codes) version behind

-- what reads as a program has no fault, and its lines say that program
pub texts-back : (bytes : List ℕ) (p : Program) → Reads0 bytes p → (faults bytes ≡ []) × (p ≡ program_of bytes)
texts-back bytes p h =
    let lead = lead-program p h.within in
    let ls = program_lines p in
    let cut : lines_of bytes ≡ map line_text ls ++ [] =
    ap lines_of (h.text ∙ sym (with-nothing (flat_map line_text ls))) ∙ lead.lines [] in (
      ap (faults_from nothing_said 1) cut ∙ lead.clean [] (λ n. refl) 1,
      sym (ap (λ (lines : List (List ℕ)). program_said (said_from nothing_said lines)) cut ∙ ap program_said (lead.said [])),
    )
