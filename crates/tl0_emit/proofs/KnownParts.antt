-- What is known of the partitions of a code: no class has a place twice, and a block has no more classes than vertices.
use Rattle.std.proofs.Common.{◌≡◌, ℕ, zero, suc, ◌<◌, ◌≤◌, true, nat_lt, List, [], ◌∷◌, length, slice_get, Option, Some, None, refl, subst}
use Rattle.std.proofs.Common.{arith, inl, inr, length-append}
use Rattle.std.proofs.lemmas.Option.{slice_get_within}
use Rattle.std.specs.List.{concat}
use Rattle.tam_word.specs.Lists.{all_of}
use Rattle.tam_word.proofs.Tests.{test-below}
use Rattle.tam_word.proofs.Members.{Distinct, all-in, in-all, get-in}
use Rattle.tam_split.specs.Blocks.{BlockGraph, block_graph}
use Rattle.tam_split.specs.Partitions.{Parts, class_of, class_at, or_empty}
use Rattle.tam_split.specs.PartitionLaws.{IsPartition}
use Rattle.tam_split.specs.GraphPartitions.{or_no_parts}
use Rattle.tam_split.specs.KeptParts.{AreClasses, is_rising}
use Rattle.tam_split.proofs.Classes.{class-stands, partition-parts}
use Rattle.tam_split.proofs.Rising.{head-below, tail-rising}
use Rattle.tl0_keep.specs.Compiled.{parts_at}
use Rattle.tl0_keep.proofs.code.ThreadKinds.{AreParts}
use Rattle.tl0_keep.proofs.code.CleanCodes.{AreFew}
use Rattle.tl0_emit.specs.CodeParts.{CodeParts, its_code, IsCodeOf}

-- ---- classes

-- numbers that rise differ
rising-distinct : (xs : List ℕ) → is_rising xs ≡ true → Distinct xs
rising-distinct [] h = tt
rising-distinct (x ∷ xs) h = (λ m. let l : x < x = head-below x xs h x m in omega (arith, l), rising-distinct xs (tail-rising x xs h))

-- no class is longer than all together
pub length-class : (ps : Parts) (k : ℕ) → length (class_at ps k) ≤ length (concat ps)
length-class [] k = omega arith
length-class (p ∷ ps) zero = let a = length-append p (concat ps) in omega (arith, a)
length-class (p ∷ ps) (suc k) = let i = length-class ps k in let a = length-append p (concat ps) in omega (arith, i, a)

-- there are no more classes than places, where none is empty
classes-places : (ps : Parts) → all_of (λ p. nat_lt 0 (length p)) ps ≡ true → length ps ≤ length (concat ps)
classes-places [] h = omega arith
classes-places (p ∷ ps) h =
    let first : 0 < length p = test-below 0 (length p) (all-in (λ (r : List ℕ). nat_lt 0 (length r)) (p ∷ ps) h p (inl refl)) in
    let rest = classes-places ps (in-all (λ (r : List ℕ). nat_lt 0 (length r)) ps (λ r i. all-in (λ (s : List ℕ). nat_lt 0 (length s)) (p ∷ ps) h r (inr i))) in
    let a = length-append p (concat ps) in
    omega (arith, first, rest, a)

module _ (ps : Parts) (classes : AreClasses ps) where
  -- no class has a place twice
  pub class-once : (k : ℕ) → Distinct (class_at ps k)
  class-once k = rising-distinct (class_at ps k) (go (slice_get ps k) refl)
    where
      go : (o : Option (List ℕ)) → slice_get ps k ≡ o → is_rising (or_empty o) ≡ true
      go None e = refl
      go (Some p) e = all-in is_rising ps classes.rising p (get-in ps k p e)

  -- a class has few places
  pub class-few : (k : ℕ) → length (class_at ps k) ≤ 512
  class-few k = let l = length-class ps k in let f = classes.few in omega (arith, l, f)

  -- where it is a partition of a block, the block has a vertex for each class
  pub classes-vertices : (b : BlockGraph) → IsPartition b ps → length ps ≤ length b.vertices
  classes-vertices b whole =
      let c = classes-places ps classes.none_empty in
      let p = go (length (concat ps)) refl in
      omega (arith, c, p)
    where
      go : (n : ℕ) → length (concat ps) ≡ n → n ≤ length b.vertices
      go zero e = omega arith
      go (suc n) e =
          let stands = class-stands ps n (classes.each_once.in_one n (omega (arith, e))) in
          let l = (partition-parts b ps whole).inside (class_of ps n) n stands in
          omega (arith, l)

-- ---- a code

module _ (t : CodeParts) (code : IsCodeOf t) where
  -- each partition is one of the type, or no block has it
  classes-at : (b : ℕ) → b < length (its_code t).owners → AreClasses (parts_at t.parts b)
  classes-at b l = let many = code.parts.blocks in code.classes b (omega (arith, l, many))

  -- its partitions are what the laws of thread code suppose
  pub parts-of : AreParts (its_code t) t.parts
  parts-of = record {
    blocks = code.parts.blocks;
    parts = code.parts.parts;
    once = λ b k. go b k (slice_get t.parts b) refl;
  }
    where
      go : (b k : ℕ) (o : Option Parts) → slice_get t.parts b ≡ o → Distinct (class_at (or_no_parts o) k)
      go b k None e = tt
      go b k (Some p) e =
          let l = slice_get_within t.parts b p e in
          class-once p (subst (λ q. AreClasses (or_no_parts q)) e (code.classes b l)) k

  -- and are few
  pub few-of : AreFew (its_code t) t.parts
  few-of = record { few = λ b l. classes-vertices (parts_at t.parts b) (classes-at b l) (block_graph (its_code t) b) (code.parts.parts b l) }
