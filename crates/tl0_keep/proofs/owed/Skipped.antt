-- Which threads stand for a block, and which a skip skips: as lists, whose lengths are the counts in the code, with each thread once.
use Rattle.std.proofs.Common.{◌≡◌, ℕ, zero, suc, ◌+◌, ◌<◌, ◌==◌, Bool, true, false, List, [], ◌∷◌, ◌++◌, map, filter, flat_map, length, refl, sym, ap, subst}
use Rattle.std.proofs.Common.{◌∙◌, arith, inl, inr, true≢false}
use Rattle.std.specs.List.{sum_by, count_by}
use Rattle.std.specs.Prelude.{cond}
use Rattle.std.proofs.lemmas.List.Recursion.{is_count_by}
use Rattle.std.proofs.lemmas.List.{length-append}
use Rattle.std.proofs.lemmas.List.Sums.{sum_by-cons}
use Rattle.tam_word.specs.Lists.{below}
use Rattle.tam_word.proofs.Tests.{below-test, number-eq}
use Rattle.tam_word.proofs.Members.{In, Distinct, in-append, in-map, in-flat_map, in-filter, in-below, distinct-filter, distinct-below}
use Rattle.tam_graph.specs.declared.kind.Kind.{Kind}
use Rattle.tam_graph.specs.declared.kind.Kind.TheVariants.{Cond, Switch as Choose}
use Rattle.tam_graph.specs.Graphs.{Code, Graph, code_of, kind_at, block_at, node_numbers, nodes_in, owner_of}
use Rattle.tam_graph.specs.Written.{IsWritten}
use Rattle.tam_graph.specs.Accepted.{IsAccepted, is_switch_of}
use Rattle.tam_graph.proofs.AcceptedFacts.{node-there}
use Rattle.tam_graph.proofs.BranchBlocks.{branches-below}
use Rattle.tam_graph.proofs.FewNodes.{length-below}
use Rattle.tam_split.specs.Partitions.{Parts}
use Rattle.tam_split.proofs.Firers.{node-block}
use Rattle.tam_flow.proofs.Operands.{named-block}
use Rattle.tl0_keep.specs.Compiled.{parts_at, standing, standing_for, skipped_at, is_choosing, yes_of, no_of}
use Rattle.tl0_keep.proofs.code.ThreadKinds.{ThreadKind, Entry, Class, Then_of, Else_of, IsThread, then_block, else_block}
use Rattle.tl0_keep.proofs.code.DistinctLists.{distinct-append, distinct-map, distinct-flat}
use Rattle.tl0_keep.proofs.code.BranchOwning.{branches-owned, switch-cond}
use Rattle.tl0_keep.proofs.code.BlockTree.{Within, Itself, Inside, within-le, within-trans, siblings-apart, owner-before}

-- ---- where a thread belongs

-- the block in which a thread stands
abbrev pub site : Code → ThreadKind → ℕ
site c Entry = 0
site c (Class b k) = b
site c (Then_of x) = block_at c x
site c (Else_of x) = block_at c x

-- the block for which it runs
abbrev pub home : Code → ThreadKind → ℕ
home c Entry = 0
home c (Class b k) = b
home c (Then_of x) = then_block c (kind_at c x)
home c (Else_of x) = else_block c (kind_at c x)

-- ---- the threads that stand for a block

-- those of a node
abbrev pub standing_at : (ℕ → List ThreadKind) → ℕ → Kind → List ThreadKind
standing_at of_block x (Cond p y n) = Then_of x ∷ Else_of x ∷ of_block y ++ of_block n
standing_at of_block x (Choose d k a) = Then_of x ∷ Else_of x ∷ []
standing_at of_block x _ = []

-- those of a block
abbrev pub standing_threads : ℕ → Code → List Parts → ℕ → List ThreadKind
standing_threads zero c ps b = []
standing_threads (suc fuel) c ps b =
    map (Class b) (below (length (parts_at ps b))) ++ flat_map (λ x. standing_at (standing_threads fuel c ps) x (kind_at c x)) (nodes_in c b)

-- the switches of a cond
abbrev pub switches_at : Code → ℕ → List ℕ
switches_at c d = filter (λ x. is_switch_of d (kind_at c x)) (node_numbers c)

-- what is skipped where cond d doesn't choose block b, by which connectors aren't chosen
abbrev pub skipped_threads : (ℕ → ThreadKind) → Code → List Parts → ℕ → ℕ → List ThreadKind
skipped_threads side c ps d b = side d ∷ map side (switches_at c d) ++ standing_threads (length c.owners) c ps b

-- ---- how many they are

-- of many lists
length-flat : {X Y : Type 0} (f : X → List Y) (xs : List X) → length (flat_map f xs) ≡ sum_by (λ x. length (f x)) xs
length-flat f [] = refl
length-flat f (x ∷ xs) =
    let a = length-append (f x) (flat_map f xs) in
    let i = length-flat f xs in
    let s = sum_by-cons (λ x. length (f x)) x xs in
    omega (arith, a, i, s)

-- equal summands
sum-same : {X : Type 0} (f h : X → ℕ) (xs : List X) → ((x : X) → f x ≡ h x) → sum_by f xs ≡ sum_by h xs
sum-same f h [] e = refl
sum-same f h (x ∷ xs) e =
    let i = sum-same f h xs e in let a = sum_by-cons f x xs in let b = sum_by-cons h x xs in let q = e x in omega (arith, i, a, b, q)

-- of those that pass
length-filter : (test : ℕ → Bool) (xs : List ℕ) → length (filter test xs) ≡ count_by test xs
length-filter test xs = is_count_by (λ ys. length (filter test ys)) test refl (λ x ys. go (test x) x (filter test ys)) xs
  where
    go : (t : Bool) (x : ℕ) (ys : List ℕ) → length (cond t (x ∷ ys) ys) ≡ cond t (1 + length ys) (length ys)
    go true x ys = let e : suc (length ys) ≡ 1 + length ys = omega arith in e
    go false x ys = refl

-- of a map
pub length-mapped : {X Y : Type 0} (f : X → Y) (xs : List X) → length (map f xs) ≡ length xs
length-mapped f [] = refl
length-mapped f (x ∷ xs) = ap suc (length-mapped f xs)

module _ (c : Code) (ps : List Parts) where
  -- of a node
  length-at : (fuel : ℕ) → ((b : ℕ) → length (standing_threads fuel c ps b) ≡ standing fuel c ps b) → (x : ℕ) (k : Kind)
      → length (standing_at (standing_threads fuel c ps) x k) ≡ standing_for (standing fuel c ps) k
  length-at fuel h x (Cond p y n) =
      let a = length-append (standing_threads fuel c ps y) (standing_threads fuel c ps n) in let s = h y in let t = h n in omega (arith, a, s, t)
  length-at fuel h x (Choose d k a) = refl
  length-at fuel h x k = refl

  -- as many as stand for a block
  pub length-standing : (fuel b : ℕ) → length (standing_threads fuel c ps b) ≡ standing fuel c ps b
  length-standing zero b = refl
  length-standing (suc fuel) b =
      let a = length-append (map (Class b) (below (length (parts_at ps b))))
      (flat_map (λ x. standing_at (standing_threads fuel c ps) x (kind_at c x)) (nodes_in c b)) in
      let m = length-mapped (Class b) (below (length (parts_at ps b))) in
      let l = length-below (length (parts_at ps b)) in
      let f = length-flat (λ x. standing_at (standing_threads fuel c ps) x (kind_at c x)) (nodes_in c b) in
      let s = sum-same (λ x. length (standing_at (standing_threads fuel c ps) x (kind_at c x)))
      (λ x. standing_for (standing fuel c ps) (kind_at c x)) (nodes_in c b)
      (λ x. length-at fuel (λ d. length-standing fuel d) x (kind_at c x)) in
      omega (arith, a, m, l, f, s)

  -- as many as a skip counts
  pub length-skipped : (side : ℕ → ThreadKind) (d b : ℕ) → length (skipped_threads side c ps d b) ≡ skipped_at c ps d b
  length-skipped side d b =
      let a = length-append (map side (switches_at c d)) (standing_threads (length c.owners) c ps b) in
      let m = length-mapped side (switches_at c d) in
      let f = length-filter (λ x. is_switch_of d (kind_at c x)) (node_numbers c) in
      let s = length-standing (length c.owners) b in
      omega (arith, a, m, f, s)

-- ---- each is once there, and inside the block

-- kinds of threads differ
class-then : (b k x : ℕ) → Class b k ≡ Then_of x → ⊥
class-then b k x e = cc

class-else : (b k x : ℕ) → Class b k ≡ Else_of x → ⊥
class-else b k x e = cc

then-else : (x y : ℕ) → Then_of x ≡ Else_of y → ⊥
then-else x y e = cc

class-one : (b k d j : ℕ) → Class b k ≡ Class d j → k ≡ j
class-one b k d j e = cc

then-one : (x y : ℕ) → Then_of x ≡ Then_of y → x ≡ y
then-one x y e = cc

else-one : (x y : ℕ) → Else_of x ≡ Else_of y → x ≡ y
else-one x y e = cc

-- an owner alone
head-one : {i j : ℕ} → i ∷ [] ≡ j ∷ [] → i ≡ j
head-one e = cc

-- not before itself
not-before : (x : ℕ) → x < x → ⊥
not-before x l = omega arith

module _ (g : Graph) (accepted : IsAccepted g) (n : ℕ) (there : n < length g.codes) (ps : List Parts) where
  -- the code
  abbrev c : Code
  c = code_of g n

  -- it is written
  abbrev pub its-text : IsWritten (length g.codes) (code_of g n)
  its-text = accepted.written n (below-test n (length g.codes) there)

  -- one block inside another
  abbrev pub Inner : ℕ → ℕ → Type 0
  Inner u v = Within (length g.codes) (code_of g n) its-text u v

  -- a cond's branches stand inside its block
  pub branch-inside : (x p y z : ℕ) → kind_at (code_of g n) x ≡ Cond p y z → Inner (block_at (code_of g n) x) y × Inner (block_at (code_of g n) x) z
  branch-inside x p y z e =
      let o = branches-owned (length g.codes) (code_of g n) its-text x p y z e in
      (Inside o.0 Itself, Inside o.1 Itself)

  -- a node that chooses is there
  pub choosing-there : (x : ℕ) (k : Kind) → kind_at (code_of g n) x ≡ k → is_choosing k ≡ true → x < length (code_of g n).nodes
  choosing-there x k e h = node-there (code_of g n) x (λ q. true≢false (sym h ∙ ap is_choosing (sym e ∙ q)))

  -- the blocks of a switch stand inside its block
  switch-inside : (x d k a : ℕ) → kind_at (code_of g n) x ≡ Choose d k a
      → Inner (block_at (code_of g n) x) (yes_of (kind_at (code_of g n) d)) × Inner (block_at (code_of g n) x) (no_of (kind_at (code_of g n) d))
  switch-inside x d k a e =
      let r = switch-cond g accepted n there x d k a e in
      let b : block_at (code_of g n) d ≡ block_at (code_of g n) x = named-block g accepted n there x d (Choose d k a)
      (choosing-there x (Choose d k a) e refl) e (inl refl) in
      let i = branch-inside d r.0 r.1.0 r.1.1.0 r.1.1.1 in (
        subst (λ z. Inner z (yes_of (kind_at (code_of g n) d))) b (subst (Inner (block_at (code_of g n) d)) (sym (ap yes_of r.1.1.1)) i.0),
        subst (λ z. Inner z (no_of (kind_at (code_of g n) d))) b (subst (Inner (block_at (code_of g n) d)) (sym (ap no_of r.1.1.1)) i.1),
      )

  -- a thread's block is around the one for which it runs
  pub site-home : (t : ThreadKind) → IsThread (code_of g n) ps t → Inner (site (code_of g n) t) (home (code_of g n) t)
  site-home Entry h = Itself
  site-home (Class b k) h = Itself
  site-home (Then_of x) h = go (kind_at (code_of g n) x) refl h.1
    where
      go : (k : Kind) → kind_at (code_of g n) x ≡ k → is_choosing k ≡ true → Inner (block_at (code_of g n) x) (then_block (code_of g n) k)
      go (Cond p y z) e q = (branch-inside x p y z e).0
      go (Choose d k a) e q = (switch-inside x d k a e).0
      go k e q = absurd (true≢false (sym q))
  site-home (Else_of x) h = go (kind_at (code_of g n) x) refl h.1
    where
      go : (k : Kind) → kind_at (code_of g n) x ≡ k → is_choosing k ≡ true → Inner (block_at (code_of g n) x) (else_block (code_of g n) k)
      go (Cond p y z) e q = (branch-inside x p y z e).1
      go (Choose d k a) e q = (switch-inside x d k a e).1
      go k e q = absurd (true≢false (sym q))

  -- what stands for a node of a block: one of its connectors, or inside one of its branches
  data Stands (t : ThreadKind) (x : ℕ) (of_block : ℕ → List ThreadKind) : Type 0 where
    Is_then : t ≡ Then_of x → is_choosing (kind_at (code_of g n) x) ≡ true → Stands t x of_block
    Is_else : t ≡ Else_of x → is_choosing (kind_at (code_of g n) x) ≡ true → Stands t x of_block
    Deeper : (u : ℕ) → owner_of (code_of g n) u ≡ x ∷ [] → u < length (code_of g n).owners → In t (of_block u) → Stands t x of_block

  stands-at : (of_block : ℕ → List ThreadKind) (x : ℕ) → x < length (code_of g n).nodes → (t : ThreadKind)
      → In t (standing_at of_block x (kind_at (code_of g n) x)) → Stands t x of_block
  stands-at of_block x l t m = go (kind_at (code_of g n) x) refl m
    where
      go : (k : Kind) → kind_at (code_of g n) x ≡ k → In t (standing_at of_block x k) → Stands t x of_block
      go (Cond p y z) e (inl q) = Is_then (sym q) (ap is_choosing e)
      go (Cond p y z) e (inr (inl q)) = Is_else (sym q) (ap is_choosing e)
      go (Cond p y z) e (inr (inr q)) =
          let o = branches-owned (length g.codes) (code_of g n) its-text x p y z e in
          let w = branches-below (length g.codes) (code_of g n) its-text x p y z l e in
          elim (in-append t (of_block y) (of_block z) q) [ inl a ↦ Deeper y o.0 w.0 a | inr b ↦ Deeper z o.1 w.1 b ]
      go (Choose d k a) e (inl q) = Is_then (sym q) (ap is_choosing e)
      go (Choose d k a) e (inr (inl q)) = Is_else (sym q) (ap is_choosing e)
      go (Choose d k a) e (inr (inr q)) = absurd q
      go k e q = absurd q

  -- what stands for a block is a thread that stands in it
  pub standing-site : (fuel b : ℕ) → b < length (code_of g n).owners → (t : ThreadKind) → In t (standing_threads fuel (code_of g n) ps b)
      → IsThread (code_of g n) ps t × Inner b (site (code_of g n) t)
  standing-site zero b l t m = absurd m
  standing-site (suc fuel) b l t m = elim (in-append t (map (Class b) (below (length (parts_at ps b))))
      (flat_map (λ x. standing_at (standing_threads fuel (code_of g n) ps) x (kind_at (code_of g n) x)) (nodes_in (code_of g n) b)) m) [
        | inl q ↦ (let r = in-map (Class b) t (below (length (parts_at ps b))) q in
            subst (λ z. IsThread (code_of g n) ps z × Inner b (site (code_of g n) z)) r.2 ((l, in-below r.0 (length (parts_at ps b)) r.1), Itself))
        | inr q ↦ (let r = in-flat_map (λ x. standing_at (standing_threads fuel (code_of g n) ps) x (kind_at (code_of g n) x)) t (nodes_in (code_of g n) b) q in
            let at = node-block (code_of g n) b r.0 r.1 in
            let low = in-below r.0 (length (code_of g n).nodes) (in-filter (λ x. block_at (code_of g n) x == b) r.0 (node_numbers (code_of g n)) r.1).0 in
            by r.0 at low (λ d h. standing-site fuel d h t) (stands-at (standing_threads fuel (code_of g n) ps) r.0 low t r.2))
      ]
    where
      by : (x : ℕ) → block_at (code_of g n) x ≡ b → x < length (code_of g n).nodes
          → ((d : ℕ) → d < length (code_of g n).owners → In t (standing_threads fuel (code_of g n) ps d) → IsThread (code_of g n) ps t
          × Inner d (site (code_of g n) t))
          → Stands t x (standing_threads fuel (code_of g n) ps) → IsThread (code_of g n) ps t × Inner b (site (code_of g n) t)
      by x at low deep (Is_then e h) = subst (λ z. IsThread (code_of g n) ps z × Inner b (site (code_of g n) z)) (sym e)
          ((low, h), subst (Inner b) (sym at) Itself)
      by x at low deep (Is_else e h) = subst (λ z. IsThread (code_of g n) ps z × Inner b (site (code_of g n) z)) (sym e)
          ((low, h), subst (Inner b) (sym at) Itself)
      by x at low deep (Deeper u o h i) = let r = deep u h i in
          (r.0, within-trans (length g.codes) (code_of g n) its-text (Inside o (subst (Inner b) (sym at) Itself)) r.1)

  -- a branch is behind the block of its cond
  behind : (u x : ℕ) → owner_of (code_of g n) u ≡ x ∷ [] → (v : ℕ) → Inner u v → block_at (code_of g n) x < v
  behind u x o v w = let i = within-le (length g.codes) (code_of g n) its-text w in
      let l = owner-before (length g.codes) (code_of g n) its-text u x o in omega (arith, i, l)

  -- each once
  pub standing-once : (fuel b : ℕ) → b < length (code_of g n).owners → Distinct (standing_threads fuel (code_of g n) ps b)
  standing-once zero b l = tt
  standing-once (suc fuel) b l = distinct-append (map (Class b) (below (length (parts_at ps b))))
      (flat_map (λ x. standing_at (standing_threads fuel (code_of g n) ps) x (kind_at (code_of g n) x)) (nodes_in (code_of g n) b))
      (distinct-map (Class b) (below (length (parts_at ps b))) (distinct-below (length (parts_at ps b))) (λ x y p q e. class-one b x b y e))
      (distinct-flat (λ x. standing_at (standing_threads fuel (code_of g n) ps) x (kind_at (code_of g n) x)) (nodes_in (code_of g n) b)
      (distinct-filter (λ x. block_at (code_of g n) x == b) (node_numbers (code_of g n)) (distinct-below (length (code_of g n).nodes)))
      (λ x m. own x (λ d h. standing-once fuel d h) (low x m))
      (λ x y t m k p q. same t x y (node-block (code_of g n) b x m) (node-block (code_of g n) b y k)
      (stands-at (standing_threads fuel (code_of g n) ps) x (low x m) t p) (stands-at (standing_threads fuel (code_of g n) ps) y (low y k) t q)))
      (λ t p q. classes-apart t p (in-flat_map (λ x. standing_at (standing_threads fuel (code_of g n) ps) x (kind_at (code_of g n) x)) t
      (nodes_in (code_of g n) b) q))
    where
      low : (x : ℕ) → In x (nodes_in (code_of g n) b) → x < length (code_of g n).nodes
      low x m = in-below x (length (code_of g n).nodes) (in-filter (λ z. block_at (code_of g n) z == b) x (node_numbers (code_of g n)) m).0

      -- what is deeper than a node stands behind its block
      deep-site : (x u : ℕ) (t : ThreadKind) → owner_of (code_of g n) u ≡ x ∷ [] → u < length (code_of g n).owners
          → In t (standing_threads fuel (code_of g n) ps u) → block_at (code_of g n) x < site (code_of g n) t
      deep-site x u t o h i = behind u x o (site (code_of g n) t) (standing-site fuel u h t i).1

      -- what stands for a node is no class of its block
      no-class : (x k : ℕ) → block_at (code_of g n) x ≡ b → Stands (Class b k) x (standing_threads fuel (code_of g n) ps) → ⊥
      no-class x k at (Is_then e h) = class-then b k x e
      no-class x k at (Is_else e h) = class-else b k x e
      no-class x k at (Deeper u o h i) = not-before b (subst (λ z. z < b) at (deep-site x u (Class b k) o h i))

      classes-apart : (t : ThreadKind) → In t (map (Class b) (below (length (parts_at ps b))))
          → (x : ℕ) × In x (nodes_in (code_of g n) b) × In t (standing_at (standing_threads fuel (code_of g n) ps) x (kind_at (code_of g n) x)) → ⊥
      classes-apart t p (x, m, i) =
          let r = in-map (Class b) t (below (length (parts_at ps b))) p in
          no-class x r.0 (node-block (code_of g n) b x m)
          (subst (λ z. Stands z x (standing_threads fuel (code_of g n) ps)) (sym r.2) (stands-at (standing_threads fuel (code_of g n) ps) x (low x m) t i))

      -- a connector of a node isn't deeper
      then-deep : (x y u : ℕ) → block_at (code_of g n) x ≡ block_at (code_of g n) y → owner_of (code_of g n) u ≡ y ∷ [] → u < length (code_of g n).owners
          → In (Then_of x) (standing_threads fuel (code_of g n) ps u) → ⊥
      then-deep x y u s o h i = not-before (block_at (code_of g n) y) (subst (λ z. block_at (code_of g n) y < z) s (deep-site y u (Then_of x) o h i))

      else-deep : (x y u : ℕ) → block_at (code_of g n) x ≡ block_at (code_of g n) y → owner_of (code_of g n) u ≡ y ∷ [] → u < length (code_of g n).owners
          → In (Else_of x) (standing_threads fuel (code_of g n) ps u) → ⊥
      else-deep x y u s o h i = not-before (block_at (code_of g n) y) (subst (λ z. block_at (code_of g n) y < z) s (deep-site y u (Else_of x) o h i))

      own : (x : ℕ) → ((d : ℕ) → d < length (code_of g n).owners → Distinct (standing_threads fuel (code_of g n) ps d)) → x < length (code_of g n).nodes
          → Distinct (standing_at (standing_threads fuel (code_of g n) ps) x (kind_at (code_of g n) x))
      own x deep lx = go (kind_at (code_of g n) x) refl
        where
          go : (k : Kind) → kind_at (code_of g n) x ≡ k → Distinct (standing_at (standing_threads fuel (code_of g n) ps) x k)
          go (Cond p y z) e =
              let o = branches-owned (length g.codes) (code_of g n) its-text x p y z e in
              let w = branches-below (length g.codes) (code_of g n) its-text x p y z lx e in (
                λ m. elim m [
                  | inl q ↦ then-else x x (sym q)
                  | inr q ↦ elim (in-append (Then_of x) (standing_threads fuel (code_of g n) ps y) (standing_threads fuel (code_of g n) ps z) q) [
                    | inl i ↦ then-deep x x y refl o.0 w.0 i
                    | inr i ↦ then-deep x x z refl o.1 w.1 i
                  ]
                ],
                (
                  λ m. elim (in-append (Else_of x) (standing_threads fuel (code_of g n) ps y) (standing_threads fuel (code_of g n) ps z) m) [
                    | inl i ↦ else-deep x x y refl o.0 w.0 i
                    | inr i ↦ else-deep x x z refl o.1 w.1 i
                  ],
                  distinct-append (standing_threads fuel (code_of g n) ps y) (standing_threads fuel (code_of g n) ps z) (deep y w.0) (deep z w.1)
                      (λ t i j. o.2 (siblings-apart (length g.codes) (code_of g n) its-text y z (site (code_of g n) t) x x o.0 o.1 refl
                      (standing-site fuel y w.0 t i).1 (standing-site fuel z w.1 t j).1)),
                ),
              )
          go (Choose d k a) e = (λ m. elim m [ inl q ↦ then-else x x (sym q) | inr q ↦ q ], (λ m. m, tt))
          go k e = tt

      same : (t : ThreadKind) (x y : ℕ) → block_at (code_of g n) x ≡ b → block_at (code_of g n) y ≡ b → Stands t x (standing_threads fuel (code_of g n) ps)
          → Stands t y (standing_threads fuel (code_of g n) ps) → x ≡ y
      same t x y p q (Is_then e h) (Is_then f j) = then-one x y (sym e ∙ f)
      same t x y p q (Is_then e h) (Is_else f j) = absurd (then-else x y (sym e ∙ f))
      same t x y p q (Is_then e h) (Deeper u o j i) =
          absurd (then-deep x y u (p ∙ sym q) o j (subst (λ z. In z (standing_threads fuel (code_of g n) ps u)) e i))
      same t x y p q (Is_else e h) (Is_then f j) = absurd (then-else y x (sym f ∙ e))
      same t x y p q (Is_else e h) (Is_else f j) = else-one x y (sym e ∙ f)
      same t x y p q (Is_else e h) (Deeper u o j i) =
          absurd (else-deep x y u (p ∙ sym q) o j (subst (λ z. In z (standing_threads fuel (code_of g n) ps u)) e i))
      same t x y p q (Deeper u o j i) (Is_then e h) =
          absurd (then-deep y x u (q ∙ sym p) o j (subst (λ z. In z (standing_threads fuel (code_of g n) ps u)) e i))
      same t x y p q (Deeper u o j i) (Is_else e h) =
          absurd (else-deep y x u (q ∙ sym p) o j (subst (λ z. In z (standing_threads fuel (code_of g n) ps u)) e i))
      same t x y p q (Deeper u o j i) (Deeper v w k m) =
          let s = siblings-apart (length g.codes) (code_of g n) its-text u v (site (code_of g n) t) x y o w (p ∙ sym q)
          (standing-site fuel u j t i).1 (standing-site fuel v k t m).1 in
          head-one (sym o ∙ (ap (owner_of (code_of g n)) s ∙ w))

  -- ---- what a skip skips

  -- the connectors of one side
  pub record IsSide (side : ℕ → ThreadKind) (d b : ℕ) : Type 0 where
    pub one : (x y : ℕ) → side x ≡ side y → x ≡ y
    pub in_block : (x : ℕ) → site (code_of g n) (side x) ≡ block_at (code_of g n) x
    pub is_thread : (x : ℕ) → x < length (code_of g n).nodes → is_choosing (kind_at (code_of g n) x) ≡ true → IsThread (code_of g n) ps (side x)
    pub of_cond : home (code_of g n) (side d) ≡ b
    pub of_switch : (x k a : ℕ) → kind_at (code_of g n) x ≡ Choose d k a → home (code_of g n) (side x) ≡ b

  -- where block b of cond d isn't chosen
  module _ (side : ℕ → ThreadKind) (d b : ℕ) (choosing : is_choosing (kind_at (code_of g n) d) ≡ true) (no_switch : (e k a : ℕ)
      → kind_at (code_of g n) d ≡ Choose e k a → ⊥)
      (owner : owner_of (code_of g n) b ≡ d ∷ []) (low : b < length (code_of g n).owners) (is : IsSide side d b) where
    -- a switch of the cond
    switch-of : (x : ℕ) → In x (switches_at (code_of g n) d) → (k : ℕ) × (a : ℕ) × (kind_at (code_of g n) x ≡ Choose d k a)
    switch-of x m = go (kind_at (code_of g n) x) refl (in-filter (λ z. is_switch_of d (kind_at (code_of g n) z)) x (node_numbers (code_of g n)) m).1
      where
        go : (k : Kind) → kind_at (code_of g n) x ≡ k → is_switch_of d k ≡ true → (k : ℕ) × (a : ℕ) × (kind_at (code_of g n) x ≡ Choose d k a)
        go (Choose e k a) q h = (k, a, q ∙ ap (λ z. Choose z k a) (number-eq e d h))
        go k q h = absurd (true≢false (sym h))

    -- stands beside it
    switch-beside : (x : ℕ) → In x (switches_at (code_of g n) d) → block_at (code_of g n) d ≡ block_at (code_of g n) x
    switch-beside x m = let r = switch-of x m in
        named-block g accepted n there x d (Choose d r.0 r.1) (choosing-there x (Choose d r.0 r.1) r.2 refl) r.2 (inl refl)

    -- each is a thread that runs for the block or inside it
    pub skipped-home : (t : ThreadKind) → In t (skipped_threads side (code_of g n) ps d b) → IsThread (code_of g n) ps t × Inner b (home (code_of g n) t)
    skipped-home t (inl e) = subst (λ z. IsThread (code_of g n) ps z × Inner b (home (code_of g n) z)) e
        (is.is_thread d (choosing-there d (kind_at (code_of g n) d) refl choosing) choosing, subst (Inner b) (sym is.of_cond) Itself)
    skipped-home t (inr m) = elim (in-append t (map side (switches_at (code_of g n) d)) (standing_threads (length (code_of g n).owners) (code_of g n) ps b) m) [
      | inl q ↦ (let r = in-map side t (switches_at (code_of g n) d) q in
          let w = switch-of r.0 r.1 in
          subst (λ z. IsThread (code_of g n) ps z × Inner b (home (code_of g n) z)) r.2
          (is.is_thread r.0 (choosing-there r.0 (Choose d w.0 w.1) w.2 refl) (ap is_choosing w.2), subst (Inner b) (sym (is.of_switch r.0 w.0 w.1 w.2)) Itself))
      | inr q ↦ (let r = standing-site (length (code_of g n).owners) b low t q in
          (r.0, within-trans (length g.codes) (code_of g n) its-text r.1 (site-home t r.0)))
    ]

    -- what stands for the block stands behind the cond
    standing-behind : (x : ℕ) → block_at (code_of g n) d ≡ block_at (code_of g n) x
        → In (side x) (standing_threads (length (code_of g n).owners) (code_of g n) ps b) → ⊥
    standing-behind x s m = not-before (block_at (code_of g n) d) (subst (λ z. block_at (code_of g n) d < z) (is.in_block x ∙ sym s)
        (behind b d owner (site (code_of g n) (side x)) (standing-site (length (code_of g n).owners) b low (side x) m).1))

    -- each once
    pub skipped-once : Distinct (skipped_threads side (code_of g n) ps d b)
    skipped-once = (
      λ m. elim (in-append (side d) (map side (switches_at (code_of g n) d)) (standing_threads (length (code_of g n).owners) (code_of g n) ps b) m) [
        | inl q ↦ (let r = in-map side (side d) (switches_at (code_of g n) d) q in let w = switch-of r.0 r.1 in
            no_switch d w.0 w.1 (ap (kind_at (code_of g n)) (sym (is.one r.0 d r.2)) ∙ w.2))
        | inr q ↦ standing-behind d refl q
      ],
      distinct-append (map side (switches_at (code_of g n) d)) (standing_threads (length (code_of g n).owners) (code_of g n) ps b)
          (distinct-map side (switches_at (code_of g n) d) (distinct-filter (λ x. is_switch_of d (kind_at (code_of g n) x)) (node_numbers (code_of g n))
          (distinct-below (length (code_of g n).nodes))) (λ x y p q e. is.one x y e))
          (standing-once (length (code_of g n).owners) b low)
          (λ t p q. (let r = in-map side t (switches_at (code_of g n) d) p in
          standing-behind r.0 (switch-beside r.0 r.1) (subst (λ z. In z (standing_threads (length (code_of g n).owners) (code_of g n) ps b)) (sym r.2) q))),
    )
