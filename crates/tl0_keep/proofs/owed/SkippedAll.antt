-- Each thread that runs for a block, or inside it, is among those that a skip skips where the block isn't chosen.
use Rattle.std.proofs.Common.{◌≡◌, ℕ, zero, suc, ◌+◌, ◌<◌, ◌≤◌, ◌==◌, true, List, [], ◌∷◌, map, flat_map, length, refl, sym, ap, subst, ◌∙◌}
use Rattle.std.proofs.Common.{arith, inl, inr, ◌⊎◌, true≢false}
use Rattle.tam_word.specs.Lists.{below}
use Rattle.tam_word.proofs.Tests.{eq-number, self-eq}
use Rattle.tam_word.proofs.Members.{In, left-in, right-in, map-in, filter-in, flat_map-in, below-in}
use Rattle.tam_graph.specs.declared.kind.Kind.{Kind}
use Rattle.tam_graph.specs.declared.kind.Kind.TheVariants.{Cond, Switch as Choose}
use Rattle.tam_graph.specs.Graphs.{Code, Graph, code_of, kind_at, block_at, node_numbers, nodes_in, owner_of}
use Rattle.tam_graph.specs.Accepted.{IsAccepted, is_switch_of}
use Rattle.tam_graph.proofs.BranchBlocks.{branches-below}
use Rattle.tam_split.specs.Partitions.{Parts}
use Rattle.tam_flow.proofs.Operands.{named-block}
use Rattle.tl0_keep.specs.Compiled.{parts_at, is_choosing, yes_of, no_of}
use Rattle.tl0_keep.proofs.code.ThreadKinds.{ThreadKind, Entry, Class, Then_of, Else_of, IsThread, then_block, else_block}
use Rattle.tl0_keep.proofs.code.BranchOwning.{owner-cond, branches-owned, switch-cond}
use Rattle.tl0_keep.proofs.code.BlockTree.{Itself, Inside, owner-before}
use Rattle.tl0_keep.proofs.owed.Skipped.{site, home, standing_at, standing_threads, switches_at, skipped_threads, its-text, Inner, choosing-there}

-- an owner alone
head-one : {i j : ℕ} → i ∷ [] ≡ j ∷ [] → i ≡ j
head-one e = cc

-- two conds with the same branches
cond-then : {p y z q v w : ℕ} → Cond p y z ≡ Cond q v w → y ≡ v
cond-then e = cc

cond-else : {p y z q v w : ℕ} → Cond p y z ≡ Cond q v w → z ≡ w
cond-else e = cc

module _ (g : Graph) (accepted : IsAccepted g) (n : ℕ) (there : n < length g.codes) (ps : List Parts) where
  -- the code
  abbrev c : Code
  c = code_of g n

  -- block v is inside block u
  abbrev In_block : ℕ → ℕ → Type 0
  In_block u v = Inner g accepted n there ps u v

  -- block v is block b, or inside a branch of a cond of block b
  data Under (b v : ℕ) : Type 0 where
    Here : b ≡ v → Under b v
    Below_cond : (x u : ℕ) → block_at (code_of g n) x ≡ b → owner_of (code_of g n) u ≡ x ∷ [] → In_block u v → Under b v

  under : (b v : ℕ) → In_block b v → Under b v
  under b v Itself = Here refl
  under b v (Inside {d = d} e w) = go (under b (block_at (code_of g n) d) w)
    where
      go : Under b (block_at (code_of g n) d) → Under b v
      go (Here q) = Below_cond d v (sym q) e Itself
      go (Below_cond x u q o i) = Below_cond x u q o (Inside e i)

  -- ---- what stands for a block

  -- a node of the block brings its threads
  by-node : (fuel b x : ℕ) (t : ThreadKind) → x < length (code_of g n).nodes → block_at (code_of g n) x ≡ b
      → In t (standing_at (standing_threads fuel (code_of g n) ps) x (kind_at (code_of g n) x)) → In t (standing_threads (suc fuel) (code_of g n) ps b)
  by-node fuel b x t low at i = right-in t (map (Class b) (below (length (parts_at ps b))))
      (flat_map (λ y. standing_at (standing_threads fuel (code_of g n) ps) y (kind_at (code_of g n) y)) (nodes_in (code_of g n) b))
      (flat_map-in (λ y. standing_at (standing_threads fuel (code_of g n) ps) y (kind_at (code_of g n) y)) x t (nodes_in (code_of g n) b)
      (filter-in (λ y. block_at (code_of g n) y == b) x (node_numbers (code_of g n)) (below-in x (length (code_of g n).nodes) low)
      (eq-number (block_at (code_of g n) x) b at)) i)

  -- a thread that stands in the block
  stands-here : (fuel b : ℕ) → 0 < b → (t : ThreadKind) → IsThread (code_of g n) ps t → b ≡ site (code_of g n) t
      → In t (standing_threads (suc fuel) (code_of g n) ps b)
  stands-here fuel b pos Entry h e = absurd (omega (arith, pos, e))
  stands-here fuel b pos (Class d k) h e = left-in (Class d k) (map (Class b) (below (length (parts_at ps b))))
      (flat_map (λ y. standing_at (standing_threads fuel (code_of g n) ps) y (kind_at (code_of g n) y)) (nodes_in (code_of g n) b))
      (subst (λ z. In (Class z k) (map (Class b) (below (length (parts_at ps b))))) e
      (map-in (Class b) k (below (length (parts_at ps b))) (below-in k (length (parts_at ps b)) (subst (λ z. k < length (parts_at ps z)) (sym e) h.1))))
  stands-here fuel b pos (Then_of x) h e = by-node fuel b x (Then_of x) h.0 (sym e) (go (kind_at (code_of g n) x) h.1)
    where
      go : (k : Kind) → is_choosing k ≡ true → In (Then_of x) (standing_at (standing_threads fuel (code_of g n) ps) x k)
      go (Cond p y z) q = inl refl
      go (Choose d k a) q = inl refl
      go k q = absurd (true≢false (sym q))
  stands-here fuel b pos (Else_of x) h e = by-node fuel b x (Else_of x) h.0 (sym e) (go (kind_at (code_of g n) x) h.1)
    where
      go : (k : Kind) → is_choosing k ≡ true → In (Else_of x) (standing_at (standing_threads fuel (code_of g n) ps) x k)
      go (Cond p y z) q = inr (inl refl)
      go (Choose d k a) q = inr (inl refl)
      go k q = absurd (true≢false (sym q))

  -- a thread that stands in the block or inside it, where the depth suffices
  pub standing-all : (fuel b : ℕ) → length (code_of g n).owners ≤ fuel + b → b < length (code_of g n).owners → 0 < b → (t : ThreadKind)
      → IsThread (code_of g n) ps t → In_block b (site (code_of g n) t) → In t (standing_threads fuel (code_of g n) ps b)
  standing-all zero b deep low pos t h i = absurd (omega (arith, deep, low))
  standing-all (suc fuel) b deep low pos t h i = go (under b (site (code_of g n) t) i) (λ u d l p j. standing-all fuel u d l p t h j)
    where
      go : Under b (site (code_of g n) t)
          → ((u : ℕ) → length (code_of g n).owners ≤ fuel + u → u < length (code_of g n).owners → 0 < u → In_block u (site (code_of g n) t)
          → In t (standing_threads fuel (code_of g n) ps u))
          → In t (standing_threads (suc fuel) (code_of g n) ps b)
      go (Here q) on = stands-here fuel b pos t h q
      go (Below_cond x u q o j) on = by-cond (owner-cond (length g.codes) (code_of g n) (its-text g accepted n there ps) u x o)
        where
          before : b < u
          before = let l = owner-before (length g.codes) (code_of g n) (its-text g accepted n there ps) u x o in omega (arith, l, q)

          by-cond : (p : ℕ) × ((y : ℕ) × ((z : ℕ) × ((kind_at (code_of g n) x ≡ Cond p y z) × ((u ≡ y) ⊎ (u ≡ z)))))
              → In t (standing_threads (suc fuel) (code_of g n) ps b)
          by-cond (p, (y, (z, (k, side)))) =
              let x-low = choosing-there g accepted n there ps x (Cond p y z) k refl in
              let w = branches-below (length g.codes) (code_of g n) (its-text g accepted n there ps) x p y z x-low k in
              by-node fuel b x t x-low q (subst (λ (e : Kind). In t (standing_at (standing_threads fuel (code_of g n) ps) x e)) (sym k) (into w.0 w.1 side))
            where
              into : y < length (code_of g n).owners → z < length (code_of g n).owners → (u ≡ y) ⊎ (u ≡ z)
                  → In t (standing_at (standing_threads fuel (code_of g n) ps) x (Cond p y z))
              into a d (inl e) = inr (inr (left-in t (standing_threads fuel (code_of g n) ps y) (standing_threads fuel (code_of g n) ps z)
                  (subst (λ v. In t (standing_threads fuel (code_of g n) ps v)) e
                  (on u (omega (arith, deep, before)) (subst (λ v. v < length (code_of g n).owners) (sym e) a) (omega (arith, before)) j))))
              into a d (inr e) = inr (inr (right-in t (standing_threads fuel (code_of g n) ps y) (standing_threads fuel (code_of g n) ps z)
                  (subst (λ v. In t (standing_threads fuel (code_of g n) ps v)) e
                  (on u (omega (arith, deep, before)) (subst (λ v. v < length (code_of g n).owners) (sym e) d) (omega (arith, before)) j))))

  -- ---- what is skipped

  -- what a thread that runs for block b is: a connector of the side, or of a switch, or a thread that stands in the block
  pub data RunsHere (side : ℕ → ThreadKind) (d b : ℕ) (t : ThreadKind) : Type 0 where
    Is_side : t ≡ side d → RunsHere side d b t
    Is_switch : (x k a : ℕ) → t ≡ side x → kind_at (code_of g n) x ≡ Choose d k a → RunsHere side d b t
    Stands_here : b ≡ site (code_of g n) t → RunsHere side d b t

  -- a block with a smaller number has an owner in the block where the thread stands
  home-owner : (t : ThreadKind) → IsThread (code_of g n) ps t → (e : ℕ) → owner_of (code_of g n) (home (code_of g n) t) ≡ e ∷ []
      → (home (code_of g n) t ≡ site (code_of g n) t) ⊎ (block_at (code_of g n) e ≡ site (code_of g n) t)
  home-owner Entry h e o = inl refl
  home-owner (Class b k) h e o = inl refl
  home-owner (Then_of x) h e o = inr (go (kind_at (code_of g n) x) refl h.1)
    where
      go : (k : Kind) → kind_at (code_of g n) x ≡ k → is_choosing k ≡ true → block_at (code_of g n) e ≡ block_at (code_of g n) x
      go (Cond p y z) q s = ap (block_at (code_of g n)) (head-one (sym o ∙ (ap (λ (k : Kind). owner_of (code_of g n) (then_block (code_of g n) k)) q
          ∙ (branches-owned (length g.codes) (code_of g n) (its-text g accepted n there ps) x p y z q).0)))
      go (Choose d k a) q s =
          let r = switch-cond g accepted n there x d k a q in
          let b = branches-owned (length g.codes) (code_of g n) (its-text g accepted n there ps) d r.0 r.1.0 r.1.1.0 r.1.1.1 in
          let w : e ≡ d = head-one (sym o ∙ (ap (λ (k : Kind). owner_of (code_of g n) (then_block (code_of g n) k)) q
          ∙ (ap (λ (k : Kind). owner_of (code_of g n) (yes_of k)) r.1.1.1 ∙ b.0))) in
          ap (block_at (code_of g n)) w
          ∙ named-block g accepted n there x d (Choose d k a) (choosing-there g accepted n there ps x (Choose d k a) q refl) q (inl refl)
      go k q s = absurd (true≢false (sym s))
  home-owner (Else_of x) h e o = inr (go (kind_at (code_of g n) x) refl h.1)
    where
      go : (k : Kind) → kind_at (code_of g n) x ≡ k → is_choosing k ≡ true → block_at (code_of g n) e ≡ block_at (code_of g n) x
      go (Cond p y z) q s = ap (block_at (code_of g n)) (head-one (sym o ∙ (ap (λ (k : Kind). owner_of (code_of g n) (else_block (code_of g n) k)) q
          ∙ (branches-owned (length g.codes) (code_of g n) (its-text g accepted n there ps) x p y z q).1)))
      go (Choose d k a) q s =
          let r = switch-cond g accepted n there x d k a q in
          let b = branches-owned (length g.codes) (code_of g n) (its-text g accepted n there ps) d r.0 r.1.0 r.1.1.0 r.1.1.1 in
          let w : e ≡ d = head-one (sym o ∙ (ap (λ (k : Kind). owner_of (code_of g n) (else_block (code_of g n) k)) q
          ∙ (ap (λ (k : Kind). owner_of (code_of g n) (no_of k)) r.1.1.1 ∙ b.1))) in
          ap (block_at (code_of g n)) w
          ∙ named-block g accepted n there x d (Choose d k a) (choosing-there g accepted n there ps x (Choose d k a) q refl) q (inl refl)
      go k q s = absurd (true≢false (sym s))

  module _ (side : ℕ → ThreadKind) (d b : ℕ) (low : b < length (code_of g n).owners) (pos : 0 < b)
      (here : (t : ThreadKind) → IsThread (code_of g n) ps t → home (code_of g n) t ≡ b → RunsHere side d b t) where
    -- a thread that stands in the block or inside it
    stands : (t : ThreadKind) → IsThread (code_of g n) ps t → In_block b (site (code_of g n) t) → In t (skipped_threads side (code_of g n) ps d b)
    stands t h i = inr (right-in t (map side (switches_at (code_of g n) d)) (standing_threads (length (code_of g n).owners) (code_of g n) ps b)
        (standing-all (length (code_of g n).owners) b (omega arith) low pos t h i))

    -- each thread that runs for the block or inside it is skipped
    pub skipped-all : (t : ThreadKind) → IsThread (code_of g n) ps t → In_block b (home (code_of g n) t) → In t (skipped_threads side (code_of g n) ps d b)
    skipped-all t h i = go (home (code_of g n) t) refl i
      where
        by : RunsHere side d b t → In t (skipped_threads side (code_of g n) ps d b)
        by (Is_side e) = inl (sym e)
        by (Is_switch x k a e q) = inr (left-in t (map side (switches_at (code_of g n) d)) (standing_threads (length (code_of g n).owners) (code_of g n) ps b)
            (subst (λ z. In z (map side (switches_at (code_of g n) d))) (sym e) (map-in side x (switches_at (code_of g n) d)
            (filter-in (λ y. is_switch_of d (kind_at (code_of g n) y)) x (node_numbers (code_of g n))
            (below-in x (length (code_of g n).nodes) (choosing-there g accepted n there ps x (Choose d k a) q refl))
            (ap (is_switch_of d) q ∙ self-eq d)))))
        by (Stands_here e) = stands t h (subst (In_block b) e Itself)

        go : (v : ℕ) → home (code_of g n) t ≡ v → In_block b v → In t (skipped_threads side (code_of g n) ps d b)
        go v e Itself = by (here t h e)
        go v e (Inside {d = f} o w) = elim (home-owner t h f (ap (owner_of (code_of g n)) e ∙ o)) [
          | inl q ↦ stands t h (subst (In_block b) (sym e ∙ q) (Inside o w))
          | inr q ↦ stands t h (subst (In_block b) q w)
        ]

  -- ---- both sides of a cond

  module _ (d p y z : ℕ) (k : kind_at (code_of g n) d ≡ Cond p y z) where
    -- its branches
    abbrev Owned : Type 0
    Owned = (owner_of (code_of g n) y ≡ d ∷ []) × (owner_of (code_of g n) z ≡ d ∷ []) × (y ≡ z → ⊥) × (0 < y) × (0 < z)

    owned : Owned
    owned = branches-owned (length g.codes) (code_of g n) (its-text g accepted n there ps) d p y z k

    -- a cond that has the block as a branch is this one
    same-cond : (x q v w b : ℕ) → kind_at (code_of g n) x ≡ Cond q v w → owner_of (code_of g n) b ≡ d ∷ [] → (v ≡ b) ⊎ (w ≡ b)
        → (x ≡ d) × (y ≡ v) × (z ≡ w)
    same-cond x q v w b e o s =
        let r = branches-owned (length g.codes) (code_of g n) (its-text g accepted n there ps) x q v w e in
        let same : x ≡ d = by r.0 r.1 s in
        let f : Cond p y z ≡ Cond q v w = sym k ∙ (ap (kind_at (code_of g n)) (sym same) ∙ e) in
        (same, cond-then f, cond-else f)
      where
        by : owner_of (code_of g n) v ≡ x ∷ [] → owner_of (code_of g n) w ≡ x ∷ [] → (v ≡ b) ⊎ (w ≡ b) → x ≡ d
        by m l (inl s) = head-one (sym m ∙ (ap (owner_of (code_of g n)) s ∙ o))
        by m l (inr s) = head-one (sym l ∙ (ap (owner_of (code_of g n)) s ∙ o))

    -- who runs for the else block
    pub else-here : (t : ThreadKind) → IsThread (code_of g n) ps t → home (code_of g n) t ≡ z → RunsHere Else_of d z t
    else-here Entry h e = absurd (let l = owned.4 in omega (arith, l, e))
    else-here (Class b j) h e = Stands_here (sym e)
    else-here (Then_of x) h e = go (kind_at (code_of g n) x) refl h.1
      where
        go : (w : Kind) → kind_at (code_of g n) x ≡ w → is_choosing w ≡ true → RunsHere Else_of d z (Then_of x)
        go (Cond q v w) f s =
            let r = same-cond x q v w z f owned.1 (inl (sym (ap (then_block (code_of g n)) f) ∙ e)) in
            absurd (owned.2 (r.1 ∙ (sym (ap (then_block (code_of g n)) f) ∙ e)))
        go (Choose m j a) f s =
            let r = switch-cond g accepted n there x m j a f in
            let at : r.1.0 ≡ z = sym (ap yes_of r.1.1.1) ∙ (sym (ap (then_block (code_of g n)) f) ∙ e) in
            let o = same-cond m r.0 r.1.0 r.1.1.0 z r.1.1.1 owned.1 (inl at) in
            absurd (owned.2 (o.1 ∙ at))
        go w f s = absurd (true≢false (sym s))
    else-here (Else_of x) h e = go (kind_at (code_of g n) x) refl h.1
      where
        go : (w : Kind) → kind_at (code_of g n) x ≡ w → is_choosing w ≡ true → RunsHere Else_of d z (Else_of x)
        go (Cond q v w) f s = Is_side (ap Else_of (same-cond x q v w z f owned.1 (inr (sym (ap (else_block (code_of g n)) f) ∙ e))).0)
        go (Choose m j a) f s =
            let r = switch-cond g accepted n there x m j a f in
            let at : r.1.1.0 ≡ z = sym (ap no_of r.1.1.1) ∙ (sym (ap (else_block (code_of g n)) f) ∙ e) in
            let o = same-cond m r.0 r.1.0 r.1.1.0 z r.1.1.1 owned.1 (inr at) in
            Is_switch x j a refl (f ∙ ap (λ v. Choose v j a) o.0)
        go w f s = absurd (true≢false (sym s))

    -- and for the then block
    pub then-here : (t : ThreadKind) → IsThread (code_of g n) ps t → home (code_of g n) t ≡ y → RunsHere Then_of d y t
    then-here Entry h e = absurd (let l = owned.3 in omega (arith, l, e))
    then-here (Class b j) h e = Stands_here (sym e)
    then-here (Then_of x) h e = go (kind_at (code_of g n) x) refl h.1
      where
        go : (w : Kind) → kind_at (code_of g n) x ≡ w → is_choosing w ≡ true → RunsHere Then_of d y (Then_of x)
        go (Cond q v w) f s = Is_side (ap Then_of (same-cond x q v w y f owned.0 (inl (sym (ap (then_block (code_of g n)) f) ∙ e))).0)
        go (Choose m j a) f s =
            let r = switch-cond g accepted n there x m j a f in
            let at : r.1.0 ≡ y = sym (ap yes_of r.1.1.1) ∙ (sym (ap (then_block (code_of g n)) f) ∙ e) in
            let o = same-cond m r.0 r.1.0 r.1.1.0 y r.1.1.1 owned.0 (inl at) in
            Is_switch x j a refl (f ∙ ap (λ v. Choose v j a) o.0)
        go w f s = absurd (true≢false (sym s))
    then-here (Else_of x) h e = go (kind_at (code_of g n) x) refl h.1
      where
        go : (w : Kind) → kind_at (code_of g n) x ≡ w → is_choosing w ≡ true → RunsHere Then_of d y (Else_of x)
        go (Cond q v w) f s =
            let r = same-cond x q v w y f owned.0 (inr (sym (ap (else_block (code_of g n)) f) ∙ e)) in
            absurd (owned.2 (sym (r.2 ∙ (sym (ap (else_block (code_of g n)) f) ∙ e))))
        go (Choose m j a) f s =
            let r = switch-cond g accepted n there x m j a f in
            let at : r.1.1.0 ≡ y = sym (ap no_of r.1.1.1) ∙ (sym (ap (else_block (code_of g n)) f) ∙ e) in
            let o = same-cond m r.0 r.1.0 r.1.1.0 y r.1.1.1 owned.0 (inr at) in
            absurd (owned.2 (sym (o.2 ∙ at)))
        go w f s = absurd (true≢false (sym s))
