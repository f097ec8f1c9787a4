-- The partition of a block as one merge of the least pair after the other: what holds before, between and behind them.
use Rattle.std.proofs.Common.{◌≡◌, ℕ, suc, ◌<◌, List, [], ◌∷◌, true, false, sym, subst, ap, ◌∙◌, arith, length, Option, Some, None, option_to_list}
use Rattle.tam_word.proofs.Members.{one-first, none-first}
use Rattle.tam_split.specs.Blocks.{BlockGraph}
use Rattle.tam_split.specs.Partitions.{Parts, single, merged, may_merge, is_valid, pairs_below, least_pair, merged_while, partition_of}
use Rattle.tam_split.specs.PartitionLaws.{IsBlockGraph, IsPartition}
use Rattle.tam_split.proofs.Classes.{merged-parts, length-merged, partition-parts, parts-partition}
use Rattle.tam_split.proofs.Validity.{valid-is_valid}
use Rattle.tam_split.proofs.Partitioning.{single-parts, single-valid, in-pair, pair-in}
use Rattle.tam_part.proofs.LeastPairs.{while-merged, while-done, while-single}

-- what a partition is between two merges: a valid one, from which the rest of the merges leads to the partition of the block
pub record IsBetween (b : BlockGraph) (ps : Parts) : Type 0 where
  pub whole : IsPartition b ps
  pub valid : is_valid b ps ≡ true
  pub rest : merged_while (length ps) b ps ≡ partition_of b

-- one class for each place is one
pub begun : (b : BlockGraph) → IsBlockGraph b → (ps : Parts) → ps ≡ single (length b.vertices) → IsBetween b ps
begun b graph ps e = subst (IsBetween b) (sym e) (record {
  whole = parts-partition b (single (length b.vertices)) (single-parts (length b.vertices));
  valid = valid-is_valid b (single (length b.vertices)) (single-valid b graph);
  rest = while-single b;
})

-- the least pair is a pair of classes that may be merged
pub least-pair : (b : BlockGraph) (ps : Parts) (k l : ℕ) → (k, l) ∷ [] ≡ least_pair b ps → (k < l) × (l < length ps) × (may_merge b ps (k, l) ≡ true)
least-pair b ps k l e =
    let r = one-first (may_merge b ps) (pairs_below (length ps)) (k, l) [] (sym e) in
    let s = in-pair (length ps) (k, l) r.0 in
    (s.0, s.1, r.1)

-- a merge of it leaves fewer classes
pub fewer : (b : BlockGraph) (ps qs : Parts) (k l : ℕ) → (k, l) ∷ [] ≡ least_pair b ps → qs ≡ merged ps k l → length qs < length ps
fewer b ps qs k l e m =
    let r = least-pair b ps k l e in
    let n : suc (length (merged ps k l)) ≡ length ps = length-merged ps k l r.1 in
    let s : length qs ≡ length (merged ps k l) = ap length m in
    omega (arith, n, s)

-- and again such a partition
pub merged-on : (b : BlockGraph) (ps qs : Parts) (k l : ℕ) → IsBetween b ps → (k, l) ∷ [] ≡ least_pair b ps → qs ≡ merged ps k l → IsBetween b qs
merged-on b ps qs k l now e m =
    let r = least-pair b ps k l e in
    subst (IsBetween b) (sym m) (record {
      whole = parts-partition b (merged ps k l) (merged-parts (length b.vertices) ps (partition-parts b ps now.whole) k l r.0 r.1);
      valid = r.2;
      rest = sym (while-merged b ps k l r.0 r.1 (sym e)) ∙ now.rest;
    })

-- where there is no least pair, it is the partition of the block
pub ended : (b : BlockGraph) (ps : Parts) → IsBetween b ps → [] ≡ least_pair b ps → ps ≡ partition_of b
ended b ps now e = sym (while-done (length ps) b ps (sym e)) ∙ now.rest

-- and no pair of it may be merged
pub stuck : (b : BlockGraph) (ps : Parts) → [] ≡ least_pair b ps → (k l : ℕ) → k < l → l < length ps → may_merge b ps (k, l) ≡ false
stuck b ps e k l below within = none-first (may_merge b ps) (pairs_below (length ps)) (sym e) (k, l) (pair-in (length ps) k l below within)

-- what is told of a pair that is there
pub some-pair : (o : Option (ℕ × ℕ)) (k l : ℕ) (xs : List (ℕ × ℕ)) → o ≡ Some (k, l) → option_to_list o ≡ xs → (k, l) ∷ [] ≡ xs
some-pair o k l xs e h = sym (ap option_to_list e) ∙ h

-- and of one that isn't
pub no-pair : (o : Option (ℕ × ℕ)) (xs : List (ℕ × ℕ)) → o ≡ None → option_to_list o ≡ xs → [] ≡ xs
no-pair o xs e h = sym (ap option_to_list e) ∙ h
