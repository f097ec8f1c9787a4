-- Classes that have each of n places once: those of one place each, after merges, and what they are of a block with n vertices.
use Rattle.std.proofs.Common.{ℕ, ◌<◌, length, ◌≡◌, sym, subst}
use Rattle.tam_word.proofs.Members.{in-has}
use Rattle.tam_split.specs.Blocks.{BlockGraph}
use Rattle.tam_split.specs.Partitions.{Parts, class_at, single, merged}
use Rattle.tam_split.specs.PartitionLaws.{IsPartition}
use Rattle.tam_split.specs.KeptParts.{HaveEach}
use Rattle.tam_split.proofs.Classes.{IsParts, stands-in, merged-parts, parts-partition}
use Rattle.tam_split.proofs.Merged.{parts-each}
use Rattle.tam_split.proofs.Partitioning.{single-parts}

-- in the words of the proofs on classes
have_each-parts : (n : ℕ) (ps : Parts) → HaveEach n ps → IsParts n ps
have_each-parts n ps h = record {
  in_one = h.in_one;
  once = λ x k l s t. h.only_one k l x (in-has (class_at ps k) x (stands-in ps k x s)) (in-has (class_at ps l) x (stands-in ps l x t));
  inside = λ k x s. h.inside k x (in-has (class_at ps k) x (stands-in ps k x s));
}

-- one class for each place has each once
pub have_each-single : (n : ℕ) → HaveEach n (single n)
have_each-single n = parts-each n (single n) (single-parts n)

-- and so have the classes after a merge
pub have_each-merged : (n : ℕ) (ps : Parts) → HaveEach n ps → (a b : ℕ) → a < b → b < length ps → HaveEach n (merged ps a b)
have_each-merged n ps h a b less in_range = parts-each n (merged ps a b) (merged-parts n ps (have_each-parts n ps h) a b less in_range)

-- of a block with n vertices they are a partition
pub whole-block : (b : BlockGraph) (n : ℕ) (ps : Parts) → length b.vertices ≡ n → HaveEach n ps → IsPartition b ps
whole-block b n ps e h = parts-partition b ps (subst (λ m. IsParts m ps) (sym e) (have_each-parts n ps h))
