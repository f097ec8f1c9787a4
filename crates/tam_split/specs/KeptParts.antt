-- What the types of a block's graph and of its classes keep, and how the classes are stored.
use Rattle.std.specs.Prelude.{ℕ, ◌≡◌, ◌<◌, ◌≤◌, ◌+◌, Bool, true, ◌&&◌, nat_lt, List, [], ◌∷◌, ◌++◌, map, length, take, drop, slice_index, slice_range, IsTrue}
use Rattle.std.specs.List.{concat}
use Rattle.tam_word.specs.Lists.{all_of, has, merge_rising}
use Rattle.tam_split.specs.Blocks.{BlockGraph}
use Rattle.tam_split.specs.PartitionLaws.{IsBlockGraph}
use Rattle.tam_split.specs.Partitions.{Parts, class_of, class_at}

-- the graph of a block with no more vertices than a block may have
pub record IsSmallBlock (b : BlockGraph) : Type 0 where
  pub few : length b.vertices ≤ 512
  pub block : IsBlockGraph b

-- each number is below all behind it
abbrev pub is_rising : List ℕ → Bool
is_rising [] = true
is_rising (x ∷ xs) = all_of (nat_lt x) xs && is_rising xs

-- the classes have each of the first n places once, and no other
pub record HaveEach (n : ℕ) (ps : Parts) : Type 0 where
  pub in_one : (x : ℕ) → x < n → class_of ps x < length ps
  pub only_one : (k l x : ℕ) → IsTrue (has (class_at ps k) x) → IsTrue (has (class_at ps l) x) → k ≡ l
  pub inside : (k x : ℕ) → IsTrue (has (class_at ps k) x) → x < n

-- classes of at most 512 places: each place once, no class empty, each rising, ordered by their least places
pub record AreClasses (ps : Parts) : Type 0 where
  pub few : length (concat ps) ≤ 512
  pub each_once : HaveEach (length (concat ps)) ps
  pub none_empty : all_of (λ p. nat_lt 0 (length p)) ps ≡ true
  pub rising : all_of is_rising ps ≡ true
  pub by_least : is_rising (map (λ p. slice_index p 0) ps) ≡ true

-- ---- the classes as they are stored: one behind the other, and where each ends

-- the classes that end at these places, the first from a place on
abbrev pub cut_from : ℕ → List ℕ → List ℕ → Parts
cut_from start places [] = []
cut_from start places (end ∷ ends) = slice_range places start end ∷ cut_from end places ends

-- where the classes end
abbrev pub ends_from : ℕ → Parts → List ℕ
ends_from start [] = []
ends_from start (p ∷ ps) = (start + length p) ∷ ends_from (start + length p) ps

-- the classes are stored so
pub record AreFlat (ps : Parts) (places ends : List ℕ) : Type 0 where
  pub places_of : places ≡ concat ps
  pub ends_of : ends ≡ ends_from 0 ps
  pub classes : AreClasses ps

-- rising lists without a number in common
pub record AreApart (xs ys : List ℕ) : Type 0 where
  pub first : is_rising xs ≡ true
  pub second : is_rising ys ≡ true
  pub none_in_both : (x : ℕ) → has xs x ≡ true → has ys x ≡ true → ⊥

-- a list in which the run from `start` to `end` is merged into the run from `from` to `middle`, and what stands between them follows
abbrev pub with_joined : List ℕ → ℕ → ℕ → ℕ → ℕ → List ℕ
with_joined xs from middle start end =
    take from xs ++ (merge_rising (slice_range xs from middle) (slice_range xs start end) ++ (slice_range xs middle start ++ drop end xs))
