-- How many threads stand for a block, from how many stand for the blocks behind it.
use Rattle.std.proofs.Common.{◌≡◌, ℕ, zero, suc, ◌+◌, ◌<◌, ◌≤◌, Bool, true, false, List, [], ◌∷◌, map, flat_map, length, slice_index, slice_set, get_or, refl}
use Rattle.std.proofs.Common.{sym, ap, ap₂, ◌∙◌, arith, inl, inr, ◌⊎◌, true≢false}
use Rattle.std.proofs.lemmas.List.{get_or-set_same, get_or-set_other, length-set}
use Rattle.std.specs.List.{sum_by}
use Rattle.std.proofs.lemmas.List.Sums.{sum_by-cons, sum_by-append}
use Rattle.tam_word.proofs.Tests.{below-test}
use Rattle.tam_word.proofs.Members.{In}
use Rattle.tam_graph.specs.declared.kind.Kind.{Kind}
use Rattle.tam_graph.specs.declared.kind.Kind.TheVariants.{Call, Alloc, Fetch, Cond, Switch as Choose, Enter}
use Rattle.tam_graph.specs.Graphs.{Code, kind_at, block_at, nodes_in, blocks_of, is_split}
use Rattle.tam_graph.specs.Written.{IsWritten}
use Rattle.tam_graph.proofs.AcceptedFacts.{node-there}
use Rattle.tam_graph.proofs.BranchBlocks.{branches-below}
use Rattle.tam_split.specs.Blocks.{vertices_of, vertices_in}
use Rattle.tam_split.specs.Partitions.{Parts}
use Rattle.tam_split.proofs.BlockVertices.{ask, answer, whole}
use Rattle.tam_split.proofs.Firers.{node-block}
use Rattle.tam_order.proofs.ClassNumbers.{length-numbers, numbers-at, numbers-are}
use Rattle.tl0_keep.specs.Compiled.{parts_at, standing, standing_for}
use Rattle.tl0_emit.specs.CodeParts.{CodeParts, its_code, IsCodeOf}
use Rattle.tl0_emit.specs.Branches.{at_vertex, standing_at, HaveBranches}
use Rattle.tl0_keep.proofs.code.BranchNumbers.{branch-later}

-- ---- sums

-- where two functions agree on the members, so do the sums
pub sum-alike : {X : Type 0} (f h : X → ℕ) (xs : List X) → ((x : X) → In x xs → f x ≡ h x) → sum_by f xs ≡ sum_by h xs
sum-alike f h [] k = refl
sum-alike f h (x ∷ xs) k =
    sum_by-cons f x xs ∙ (ap₂ (λ m n. m + n) (k x (inl refl)) (sum-alike f h xs (λ y m. k y (inr m))) ∙ sym (sum_by-cons h x xs))

-- what is read at a place, whatever stands for a place that isn't there
get-any : (xs : List ℕ) (k d e : ℕ) → k < length xs → get_or xs k d ≡ get_or xs k e
get-any [] k d e l = absurd (omega (arith, l))
get-any (x ∷ xs) zero d e l = refl
get-any (x ∷ xs) (suc k) d e l = get-any xs k d e (omega (arith, l))

-- a number that was read
pub number-read : (xs : List ℕ) (k d : ℕ) → k < length xs → d ≡ get_or xs k d → d ≡ slice_index xs k
number-read xs k d l e = e ∙ get-any xs k d 0 l

-- ---- nodes and their vertices

-- nothing stands for a node that asks outside
split-none : (s : ℕ → ℕ) (k : Kind) → is_split k ≡ true → standing_for s k ≡ 0
split-none s (Call d) h = refl
split-none s (Alloc n) h = refl
split-none s (Fetch a i) h = refl
split-none s k h = absurd (true≢false (sym h))

module _ (c : Code) (s : ℕ → ℕ) where
  -- what stands for the vertices of a node stands for the node
  node-vertices : (x : ℕ) → sum_by (at_vertex c s) (vertices_of x (kind_at c x)) ≡ standing_for s (kind_at c x)
  node-vertices x = go (is_split (kind_at c x)) refl
    where
      go : (t : Bool) → is_split (kind_at c x) ≡ t
          → sum_by (at_vertex c s) (elim t [ true ↦ ask x ∷ answer x ∷ [] | false ↦ whole x (kind_at c x) ∷ [] ]) ≡ standing_for s (kind_at c x)
      go true e =
          let a = sum_by-cons (at_vertex c s) (ask x) (answer x ∷ []) in
          let b = sum_by-cons (at_vertex c s) (answer x) [] in
          let n = split-none s (kind_at c x) e in
          omega (arith, a, b, n)
      go false e = let a = sum_by-cons (at_vertex c s) (whole x (kind_at c x)) [] in omega (arith, a)

  -- and so for all nodes
  pub nodes-vertices : (xs : List ℕ) → sum_by (at_vertex c s) (flat_map (λ x. vertices_of x (kind_at c x)) xs) ≡ sum_by (λ x. standing_for s (kind_at c x)) xs
  nodes-vertices [] = refl
  nodes-vertices (x ∷ xs) =
      let i = nodes-vertices xs in
      let n = node-vertices x in
      let a = sum_by-append (at_vertex c s) (vertices_of x (kind_at c x)) (flat_map (λ y. vertices_of y (kind_at c y)) xs) in
      let b = sum_by-cons (λ y. standing_for s (kind_at c y)) x xs in
      omega (arith, i, n, a, b)

-- ---- blocks

-- the branches of a cond are blocks behind its own
abbrev pub AreBehind : Code → ℕ → Kind → Type 0
AreBehind c x (Cond p y n) = ((block_at c x < y) × (y < length c.owners)) × ((block_at c x < n) × (n < length c.owners))
AreBehind c x k = Unit {0}

module _ (t : CodeParts) (code : IsCodeOf t) where
  -- the code
  abbrev its-own : Code
  its-own = its_code t

  -- it is written
  pub its-text : IsWritten (length t.graph.codes) (its_code t)
  its-text = code.accepted.written t.code (below-test t.code (length t.graph.codes) code.there)

  -- and so it is for each of its conds
  pub branches-behind : (x : ℕ) (k : Kind) → kind_at (its_code t) x ≡ k → AreBehind (its_code t) x k
  branches-behind x (Cond p y n) e =
      let later = branch-later (length t.graph.codes) its-own its-text x p y n e in
      let low = branches-below (length t.graph.codes) its-own its-text x p y n (node-there its-own x (λ q. differ (sym e ∙ q))) e in
      ((later.0, low.0), (later.1, low.1))
    where
      differ : Cond p y n ≡ Enter 0 → ⊥
      differ q = cc
  branches-behind x k e = tt

  -- where two functions agree on the blocks behind one, the same stands for its nodes
  nodes-alike : (s r : ℕ → ℕ) (b : ℕ) → ((d : ℕ) → b < d → d < length its-own.owners → s d ≡ r d)
      → sum_by (λ x. standing_for s (kind_at its-own x)) (nodes_in its-own b) ≡ sum_by (λ x. standing_for r (kind_at its-own x)) (nodes_in its-own b)
  nodes-alike s r b same = sum-alike (λ x. standing_for s (kind_at its-own x)) (λ x. standing_for r (kind_at its-own x)) (nodes_in its-own b)
      (λ x m. one x (node-block its-own b x m) (kind_at its-own x) refl)
    where
      one : (x : ℕ) → block_at its-own x ≡ b → (k : Kind) → kind_at its-own x ≡ k → standing_for s k ≡ standing_for r k
      one x at (Cond p y n) e =
          let l = branches-behind x (Cond p y n) e in
          ap₂ (λ i j. 2 + i + j) (same y (let h = l.0.0 in omega (arith, h, at)) l.0.1) (same n (let h = l.1.0 in omega (arith, h, at)) l.1.1)
      one x at (Choose d k a) e = refl
      one x at k e = refl

  -- fuel for all blocks behind a block is enough for it
  enough-fuel : (f e b : ℕ) → b < length its-own.owners → length its-own.owners ≤ f + b → length its-own.owners ≤ e + b
      → standing f its-own t.parts b ≡ standing e its-own t.parts b
  enough-fuel zero e b l p q = absurd (omega (arith, l, p))
  enough-fuel (suc f) zero b l p q = absurd (omega (arith, l, q))
  enough-fuel (suc f) (suc e) b l p q =
      ap (λ n. length (parts_at t.parts b) + n)
      (nodes-alike (standing f its-own t.parts) (standing e its-own t.parts) b
      (λ d m k. enough-fuel f e d k (omega (arith, m, p)) (omega (arith, m, q))))

  -- what stands for a block, by a list of what stands for those behind it
  standing-behind : (n b : ℕ) (counts : List ℕ) → length its-own.owners ≡ n → b < n
      → ((d : ℕ) → b < d → d < n → slice_index counts d ≡ standing n its-own t.parts d)
      → length (parts_at t.parts b) + sum_by (at_vertex its-own (slice_index counts)) (vertices_in its-own b) ≡ standing n its-own t.parts b
  standing-behind zero b counts e l same = absurd (omega (arith, l))
  standing-behind (suc f) b counts e l same =
      ap (λ m. length (parts_at t.parts b) + m)
      (nodes-vertices its-own (slice_index counts) (nodes_in its-own b)
      ∙ nodes-alike (slice_index counts) (standing f its-own t.parts) b (λ d m k.
      same d m (omega (arith, e, k)) ∙ enough-fuel (suc f) f d k (omega (arith, e)) (omega (arith, e, m))))

-- ---- the counts, from the last block to the first

-- what is known when the counts from block b on are made: before it stand the numbers of classes
pub record IsFilled (c : Code) (ps : List Parts) (counts : List ℕ) (b : ℕ) : Type 0 where
  pub long : length counts ≡ length c.owners
  pub behind : (d : ℕ) → b ≤ d → d < length c.owners → slice_index counts d ≡ standing_at c ps d
  pub before : (d : ℕ) → d < b → slice_index counts d ≡ length (parts_at ps d)

-- when none is made
pub filled-first : (c : Code) (ps : List Parts) (counts : List ℕ) → counts ≡ map (λ b. length (parts_at ps b)) (blocks_of c)
    → IsFilled c ps counts (length c.owners)
filled-first c ps counts e = record {
  long = ap length e ∙ length-numbers (λ b. length (parts_at ps b)) (length c.owners);
  behind = λ d l m. absurd (omega (arith, l, m));
  before = λ d l. ap (λ xs. slice_index xs d) e ∙ numbers-at (λ b. length (parts_at ps b)) (length c.owners) d l;
}

-- when all are
pub filled-last : (c : Code) (ps : List Parts) (counts : List ℕ) → IsFilled c ps counts 0 → counts ≡ map (standing_at c ps) (blocks_of c)
filled-last c ps counts f = numbers-are (standing_at c ps) (length c.owners) counts f.long (λ d l. f.behind d (omega arith) l)

module _ (t : CodeParts) (code : IsCodeOf t) (counts : List ℕ) (b : ℕ) (f : IsFilled (its_code t) t.parts counts (b + 1))
    (low : b < length (its_code t).owners) where
  -- what stands for the nodes of the block before
  abbrev pub inside : ℕ
  inside = sum_by (at_vertex (its_code t) (slice_index counts)) (vertices_in (its_code t) b)

  -- with its classes it is what stands for the block
  pub inside-counted : length (parts_at t.parts b) + inside ≡ standing_at (its_code t) t.parts b
  inside-counted = standing-behind t code (length (its_code t).owners) b counts refl low (λ d l m. f.behind d (omega (arith, l)) m)

  -- each branch has a count
  pub branches-counted : HaveBranches (its_code t) counts
  branches-counted x p y n e =
      let l = branches-behind t code x (Cond p y n) e in
      let long = f.long in
      (let a = l.0.1 in omega (arith, a, long), let a = l.1.1 in omega (arith, a, long))

  -- its count is made
  pub filled-more : IsFilled (its_code t) t.parts (slice_set counts b (slice_index counts b + inside)) b
  filled-more = record {
    long = length-set counts b (slice_index counts b + inside) ∙ f.long;
    behind = λ d l m. go d m (cases d l);
    before = λ d l. get_or-set_other counts b d (slice_index counts b + inside) 0 (λ q. absurd (omega (arith, q, l))) ∙ f.before d (omega (arith, l));
  }
    where
      cases : (d : ℕ) → b ≤ d → (d ≡ b) ⊎ (b < d)
      cases d l = grind (arith, l)

      go : (d : ℕ) → d < length (its_code t).owners → (d ≡ b) ⊎ (b < d)
          → slice_index (slice_set counts b (slice_index counts b + inside)) d ≡ standing_at (its_code t) t.parts d
      go d m (inl q) =
          let long = f.long in
          ap (slice_index (slice_set counts b (slice_index counts b + inside))) q
          ∙ (get_or-set_same counts b (slice_index counts b + inside) 0 (omega (arith, low, long))
          ∙ (ap (λ x. x + inside) (f.before b (omega arith)) ∙ (inside-counted ∙ ap (standing_at (its_code t) t.parts) (sym q))))
      go d m (inr l) =
          get_or-set_other counts b d (slice_index counts b + inside) 0 (λ q. absurd (omega (arith, q, l))) ∙ f.behind d (omega (arith, l)) m
