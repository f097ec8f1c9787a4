-- The codes of a graph, made number by number, are the thread code of the graph.
use Rattle.std.proofs.Common.{◌≡◌, ℕ, zero, suc, ◌<◌, List, [], ◌∷◌, map, length, get_or, slice_get, Some, refl, sym, ap, ap₂, ◌∙◌, inl, inr, arith}
use Rattle.std.specs.declared.vec.Vec.{Vec}
use Rattle.std.specs.declared.alloc.Global.{Global}
use Rattle.std.specs.Prelude.{zip}
use Rattle.std.specs.Option.{option_map}
use Rattle.std.proofs.lemmas.Option.{slice_get-map, get_or_from_slice_get, slice_get_cases}
use Rattle.std.proofs.lemmas.List.{length-map}
use Rattle.tam_word.specs.Lists.{below}
use Rattle.tam_graph.specs.Graphs.{Graph, code_of}
use Rattle.tam_graph.proofs.CodeNames.{code-there}
use Rattle.tam_graph.proofs.FewNodes.{length-below}
use Rattle.tam_split.specs.Partitions.{Parts}
use Rattle.tam_split.specs.GraphPartitions.{Partitions, or_none}
use Rattle.tl0_code.specs.ThreadCode.{CodeText}
use Rattle.tl0_keep.specs.Compiled.{compiled_code}
use Rattle.tl0_emit.specs.Emitting.{partitions_of}
use Rattle.tl0_keep.proofs.code.FlatPlaces.{get-below}
use Rattle.tl0_keep.proofs.code.CodePlaces.{get-zip}

-- lists of one length with the same at each place are the same
pub same-gets : {X : Type 0} (xs ys : List X) → length xs ≡ length ys → ((k : ℕ) → k < length xs → slice_get xs k ≡ slice_get ys k) → xs ≡ ys
same-gets [] [] e h = refl
same-gets [] (y ∷ ys) e h = absurd (omega (arith, e))
same-gets (x ∷ xs) [] e h = absurd (omega (arith, e))
same-gets {X} (x ∷ xs) (y ∷ ys) e h =
    let first : slice_get (x ∷ xs) 0 ≡ slice_get (y ∷ ys) 0 = h 0 (omega arith) in
    ap₂ (λ z zs. z ∷ zs) (inside first) (same-gets xs ys (omega (arith, e)) (λ k l. h (suc k) (omega (arith, l))))
  where
    inside : Some x ≡ Some y → x ≡ y
    inside q = cc

-- partitions that are there
parts-there : (all : Partitions) (n : ℕ) → n < length all → slice_get all n ≡ Some (or_none (slice_get all n))
parts-there [] n l = absurd (omega arith)
parts-there (p ∷ all) zero l = refl
parts-there (p ∷ all) (suc n) l = parts-there all n (omega arith)

-- a list of partitions that was read
pub list-read : (lists : List (Vec Parts Global)) (k : ℕ) (v : Vec Parts Global) → k < length lists → v ≡ get_or lists k v
    → v.items ≡ or_none (slice_get (partitions_of lists) k)
list-read lists k v l e = elim (slice_get_cases lists k).1 [
  | inl a ↦
      let read : v ≡ a.0 = e ∙ get_or_from_slice_get lists k a.0 v a.2 in
      let found = slice_get-map (λ (w : Vec Parts Global). w.items) lists k ∙ ap (option_map (λ (w : Vec Parts Global). w.items)) a.2 in
      ap (λ (w : Vec Parts Global). w.items) read ∙ sym (ap or_none found)
  | inr b ↦ absurd (let h = b.0 in omega (arith, h, l))
]

-- lists side by side are as many
length-zip : {X Y : Type 0} (xs : List X) (ys : List Y) → length ys ≡ length xs → length (zip xs ys) ≡ length xs
length-zip [] ys e = refl
length-zip (x ∷ xs) [] e = absurd (omega (arith, e))
length-zip (x ∷ xs) (y ∷ ys) e = ap suc (length-zip xs ys (omega (arith, e)))

module _ (g : Graph) (all : Partitions) (many : length all ≡ length g.codes) where
  -- code n of the graph with its partitions
  abbrev pub made-at : ℕ → CodeText
  made-at n = compiled_code g (code_of g n, or_none (slice_get all n))

  -- the codes, number by number
  pub codes-made : map made-at (below (length all)) ≡ map (compiled_code g) (zip g.codes all)
  codes-made = same-gets (map made-at (below (length all))) (map (compiled_code g) (zip g.codes all)) long each
    where
      long : length (map made-at (below (length all))) ≡ length (map (compiled_code g) (zip g.codes all))
      long =
          let a = length-map (below (length all)) made-at in
          let b = length-below (length all) in
          let d = length-map (zip g.codes all) (compiled_code g) in
          let e = length-zip g.codes all many in
          omega (arith, a, b, d, e, many)

      each : (k : ℕ) → k < length (map made-at (below (length all)))
          → slice_get (map made-at (below (length all))) k ≡ slice_get (map (compiled_code g) (zip g.codes all)) k
      each k l =
          let a = length-map (below (length all)) made-at in
          let b = length-below (length all) in
          let low : k < length all = omega (arith, l, a, b) in
          let both = get-zip g.codes all k (code_of g k) (or_none (slice_get all k)) (code-there g.codes k (omega (arith, low, many)))
          (parts-there all k low) in
          slice_get-map made-at (below (length all)) k
          ∙ (ap (option_map made-at) (get-below (length all) k low)
          ∙ sym (slice_get-map (compiled_code g) (zip g.codes all) k ∙ ap (option_map (compiled_code g)) both))
