-- The forks of the entry classes of each block, as they are read from a list of lists.
use Rattle.std.proofs.Common.{◌≡◌, ℕ, ◌<◌, List, map, length, get_or, slice_get, Some, sym, ap, ◌∙◌, inl, inr, arith}
use Rattle.std.specs.declared.vec.Vec.{Vec}
use Rattle.std.specs.declared.alloc.Global.{Global}
use Rattle.std.specs.Option.{option_map}
use Rattle.std.proofs.lemmas.List.{length-map}
use Rattle.std.proofs.lemmas.Option.{slice_get-map, get_or_from_slice_get, slice_get_cases}
use Rattle.tam_graph.specs.Graphs.{blocks_of}
use Rattle.tam_graph.proofs.FewNodes.{length-below}
use Rattle.tl0_code.specs.declared.instr.Instr.{Instr}
use Rattle.tl0_keep.specs.Compiled.{block_entry}
use Rattle.tl0_keep.proofs.code.FlatPlaces.{get-below}
use Rattle.tl0_emit.specs.CodeParts.{CodeParts, its_code}
use Rattle.tl0_emit.specs.Branches.{lists_of}

-- for each block the forks of its entry classes
abbrev pub AreEntries : CodeParts → List (Vec Instr Global) → Type 0
AreEntries t entries = lists_of entries ≡ map (block_entry (its_code t) t.parts) (blocks_of (its_code t))

-- there are so many
pub length-entries : (t : CodeParts) (entries : List (Vec Instr Global)) → AreEntries t entries → length entries ≡ length (its_code t).owners
length-entries t entries each =
    let a = length-map entries (λ (v : Vec Instr Global). v.items) in
    let b = ap (λ l. length l) each in
    let c = length-map (blocks_of (its_code t)) (block_entry (its_code t) t.parts) in
    let d = length-below (length (its_code t).owners) in
    omega (arith, a, b, c, d)

-- a list that was read is that of its block
pub entry-read : (t : CodeParts) (entries : List (Vec Instr Global)) → AreEntries t entries → (b : ℕ) → b < length (its_code t).owners
    → (v : Vec Instr Global) → v ≡ get_or entries b v → v.items ≡ block_entry (its_code t) t.parts b
entry-read t entries each b l v e = elim (slice_get_cases entries b).1 [
  | inl a ↦
      let entry = block_entry (its_code t) t.parts in
      let read : v ≡ a.0 = e ∙ get_or_from_slice_get entries b a.0 v a.2 in
      let left : slice_get (lists_of entries) b ≡ Some a.0.items =
      slice_get-map (λ (w : Vec Instr Global). w.items) entries b ∙ ap (option_map (λ (w : Vec Instr Global). w.items)) a.2 in
      let right : slice_get (map entry (blocks_of (its_code t))) b ≡ Some (entry b) =
      slice_get-map entry (blocks_of (its_code t)) b ∙ ap (option_map entry) (get-below (length (its_code t).owners) b l) in
      ap (λ (w : Vec Instr Global). w.items) read ∙ inside a.0.items (entry b) (sym left ∙ (ap (λ ls. slice_get ls b) each ∙ right))
  | inr n ↦ absurd (let h = n.0 in let m = length-entries t entries each in omega (arith, h, m, l))
]
  where
    inside : (xs ys : List Instr) → Some xs ≡ Some ys → xs ≡ ys
    inside xs ys q = cc
