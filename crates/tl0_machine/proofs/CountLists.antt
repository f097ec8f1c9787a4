-- The lists of entry counts that are kept are those of the codes.
use Rattle.std.proofs.Common.{◌≡◌, ◌∙◌, ℕ, ◌<◌, List, map, length, refl, sym, ap, arith, Some, slice_get, get_or}
use Rattle.std.specs.Option.{option_map}
use Rattle.std.specs.declared.vec.Vec.{Vec}
use Rattle.std.specs.declared.alloc.Global.{Global}
use Rattle.std.proofs.lemmas.List.{length-map}
use Rattle.std.proofs.lemmas.Option.{slice_get-map, slice_get_read, same_Some}
use Rattle.tl0_code.specs.ThreadCode.{Program, code_text, counts_of}
use Rattle.tl0_machine.specs.ThreadStates.{lists_of}
use Rattle.tl0_machine.proofs.CheckedCode.{code-found}

module _ (p : Program) (lists : List (Vec ℕ Global)) (own : lists_of lists ≡ map counts_of p.codes) where
  -- there are as many as codes
  pub lists-many : length lists ≡ length p.codes
  lists-many =
      let kept = length-map lists (λ (l : Vec ℕ Global). l.items) in
      let counted = length-map p.codes counts_of in
      let same = ap (length {A = List ℕ}) own in
      omega (arith, kept, counted, same)

  module _ (c : ℕ) (counts : Vec ℕ Global) (low : c < length lists) (is : counts ≡ get_or lists c counts) where
    -- the code is there
    pub counts-there : c < length p.codes
    counts-there = let m = lists-many in omega (arith, low, m)

    -- and the list is its entry counts
    pub counts-own : counts.items ≡ counts_of (code_text p c)
    counts-own =
        let items = λ (l : Vec ℕ Global). l.items in
        let found = slice_get_read lists (length lists) c counts refl low is in
        let kept : slice_get (lists_of lists) c ≡ Some counts.items = slice_get-map items lists c ∙ ap (option_map items) found in
        let there : slice_get p.codes c ≡ Some (code_text p c) = code-found p.codes c counts-there in
        let text : slice_get (map counts_of p.codes) c ≡ Some (counts_of (code_text p c)) =
        slice_get-map counts_of p.codes c ∙ ap (option_map counts_of) there in
        same_Some counts.items (counts_of (code_text p c)) (sym kept ∙ ap (λ (l : List (List ℕ)). slice_get l c) own ∙ text)
