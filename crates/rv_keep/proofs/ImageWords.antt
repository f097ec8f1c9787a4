-- The words of the image of checked code are words.
use Rattle.std.proofs.Common.{◌≡◌, ℕ, ◌+◌, ◌*◌, ◌^◌, ◌<◌, ◌≤◌, List, ◌++◌, map, flat_map, length, subst, arith, inl, inr}
use Rattle.tam_word.specs.Lists.{below}
use Rattle.tam_word.proofs.Members.{In, in-append, in-map, in-flat_map, in-below}
use Rattle.tl0_code.specs.declared.inlet.Inlet.{Inlet}
use Rattle.tl0_code.specs.ThreadCode.{CodeText, Program, code_text}
use Rattle.tl0_code.specs.CodeRules.{IsChecked}
use Rattle.rv_inst.specs.declared.inst.Inst.{Inst}
use Rattle.rv_inst.specs.Instructions.{encoded}
use Rattle.rv_inst.proofs.Reading.{word-below}
use Rattle.rv_keep.specs.Kernel.{kernel}
use Rattle.rv_keep.specs.Image.{words_in_all, stride_of, code_table, start_of, code_insts, record_of, record_words, inlet_words, record_and_inlets, image_words}
use Rattle.rv_keep.proofs.CheckedCode.{inlet-there, count-there}
use Rattle.rv_keep.proofs.RecordsStand.{start-below, record-ends}

module _ (p : Program) (checked : IsChecked p) (fits : words_in_all p ≤ 16777210) where
  -- an inlet's
  inlet-word : (c w : ℕ) (i : Inlet) → c < length p.codes → In i (code_text p c).inlets → In w (inlet_words p c i) → w < 2 ^ 32
  inlet-word c w i l m k =
      let t : CodeText = code_text p c in
      let there = inlet-there p c i checked l m in
      let a : i.slot < t.slots = there.0 in
      let b : i.thread < length t.threads = there.1 in
      let d : t.slots ≤ 1026 = (checked.within.each_code c l).few_slots in
      let f : length t.threads ≤ 3073 = (checked.within.each_code c l).few_threads in
      let g : start_of p c i.thread < 4 * words_in_all p = start-below p c i.thread l in
      elim k [
        | inl e ↦ omega (arith, e, a, d)
        | inr (inl e) ↦ omega (arith, e, b, d, f)
        | inr (inr (inl e)) ↦ omega (arith, e, g, fits)
        | inr (inr (inr (inl e))) ↦ omega (arith, e)
        | inr (inr (inr (inr e))) ↦ absurd e
      ]

  -- a thread's entry count
  count-word : (c w : ℕ) → c < length p.codes → In w (map (λ t. t.count) (code_text p c).threads) → w < 2 ^ 32
  count-word c w l m =
      let r = in-map (λ t. t.count) w (code_text p c).threads m in
      let b = (count-there p c r.0 checked l r.1).1 in
      let e = r.2 in
      omega (arith, b, e)

  -- a record's and its inlet table's
  record-word : (c w : ℕ) → c < length p.codes → In w (record_and_inlets p c) → w < 2 ^ 32
  record-word c w l (inl e) =
      let b : record_of p c + 4 * record_words (code_text p c) ≤ 4 * words_in_all p = record-ends p c l in omega (arith, b, e, fits)
  record-word c w l (inr (inl e)) = let d : (code_text p c).slots ≤ 1026 = (checked.within.each_code c l).few_slots in omega (arith, d, e)
  record-word c w l (inr (inr (inl e))) =
      let f : length (code_text p c).threads ≤ 3073 = (checked.within.each_code c l).few_threads in omega (arith, f, e)
  record-word c w l (inr (inr (inr (inl e)))) = let g : start_of p c 0 < 4 * words_in_all p = start-below p c 0 l in omega (arith, g, e, fits)
  record-word c w l (inr (inr (inr (inr m)))) =
      elim (in-append w (map (λ t. t.count) (code_text p c).threads) (flat_map (inlet_words p c) (code_text p c).inlets) m) [
        | inl k ↦ count-word c w l k
        | inr k ↦ let r = in-flat_map (inlet_words p c) w (code_text p c).inlets k in inlet-word c w r.0 l r.1 r.2
      ]

  -- the instructions
  abbrev instructions : List Inst
  instructions = kernel (4 * words_in_all p) (stride_of p) (code_table p) p.main ++ flat_map (code_insts p) (below (length p.codes))

  -- the code table and the records
  abbrev tables : List ℕ
  tables = map (record_of p) (below (length p.codes)) ++ flat_map (record_and_inlets p) (below (length p.codes))

  -- a table's
  table-word : (w : ℕ) → In w tables → w < 2 ^ 32
  table-word w m =
      elim (in-append w (map (record_of p) (below (length p.codes))) (flat_map (record_and_inlets p) (below (length p.codes))) m) [
        | inl k ↦
            let r = in-map (record_of p) w (below (length p.codes)) k in
            let l = in-below r.0 (length p.codes) r.1 in
            let b : record_of p r.0 + 4 * record_words (code_text p r.0) ≤ 4 * words_in_all p = record-ends p r.0 l in
            let e : record_of p r.0 ≡ w = r.2 in
            omega (arith, b, e, fits)
        | inr k ↦ let r = in-flat_map (record_and_inlets p) w (below (length p.codes)) k in record-word r.0 w (in-below r.0 (length p.codes) r.1) r.2
      ]

  -- all
  pub image-word : (w : ℕ) → In w (image_words p) → w < 2 ^ 32
  image-word w m = elim (in-append w (map encoded instructions) tables m) [
    | inl k ↦ let r = in-map encoded w instructions k in subst (λ (x : ℕ). x < 2 ^ 32) r.2 (word-below r.0)
    | inr k ↦ table-word w k
  ]
