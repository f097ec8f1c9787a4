-- Edges that all go to higher places make no cycle, so a few vertices and such edges are the graph of a block.
use Rattle.std.proofs.Common.{◌≡◌, ℕ, ◌<◌, ◌≤◌, ◌&&◌, Bool, true, false, [], ◌∷◌, refl, subst, inl, inr, ◌⊎◌, arith, length, nat_lt}
use Rattle.std.specs.List.{AllByRecursion}
use Rattle.std.proofs.lemmas.List.Elements.{recursion_from_All}
use Rattle.tam_word.specs.Lists.{any_of}
use Rattle.tam_word.proofs.Tests.{number-eq, below-test, true-both}
use Rattle.tam_word.proofs.Members.{In, in-all, any-in}
use Rattle.tam_graph.specs.Edges.{Edges, reaches, has_no_cycle}
use Rattle.tam_graph.proofs.Reaching.{reaches-cases}
use Rattle.tam_split.specs.Blocks.{BlockGraph}
use Rattle.tam_split.specs.KeptParts.{IsSmallBlock}
use Rattle.tam_split.specs.RisingEdges.{RisingEdges}

-- the edge goes to a higher place, and to one of the first n
abbrev Rises : ℕ → ℕ × ℕ → Type 0
Rises n e = (e.0 < e.1) × (e.1 < n)

-- what is reached by such edges is no lower
reached-above : (n : ℕ) (es : Edges) → AllByRecursion (Rises n) es → (x y : ℕ) → reaches es x y ≡ true → x ≤ y
reached-above n [] h x y r = let e : x ≡ y = number-eq x y r in omega (arith, e)
reached-above n (e ∷ es) h x y r = go (reaches-cases e es x y r) (reached-above n es h.1 x y) (reached-above n es h.1 x e.0) (reached-above n es h.1 e.1 y)
  where
    go : (reaches es x y ≡ true) ⊎ ((reaches es x e.0 ≡ true) × (reaches es e.1 y ≡ true)) → (reaches es x y ≡ true → x ≤ y)
        → (reaches es x e.0 ≡ true → x ≤ e.0) → (reaches es e.1 y ≡ true → e.1 ≤ y) → x ≤ y
    go (inl p) whole before behind = whole p
    go (inr p) whole before behind = let a = before p.0 in let b = behind p.1 in let c = h.0.0 in omega (arith, a, b, c)

-- each of the edges is such
edge-rises : (n : ℕ) (es : Edges) → AllByRecursion (Rises n) es → (e : ℕ × ℕ) → In e es → Rises n e
edge-rises n [] h e i = absurd i
edge-rises n (d ∷ es) h e (inl p) = subst (Rises n) p h.0
edge-rises n (d ∷ es) h e (inr i) = edge-rises n es h.1 e i

-- edges that all go to higher places make no cycle
pub rising-no_cycle : (n : ℕ) (es : Edges) → RisingEdges n es → has_no_cycle es ≡ true
rising-no_cycle n es h = go (any_of (λ e. reaches es e.1 e.0) es) refl
  where
    go : (t : Bool) → any_of (λ e. reaches es e.1 e.0) es ≡ t → has_no_cycle es ≡ true
    go true p =
        let each = recursion_from_All (Rises n) es h in
        let r = any-in (λ (e : ℕ × ℕ). reaches es e.1 e.0) es p in
        let back = reached-above n es each r.0.1 r.0.0 r.2 in
        let on = (edge-rises n es each r.0 r.1).0 in
        absurd (omega (arith, back, on))
    go false p = rw p refl

-- both places of such an edge are among the first n
edge-within : (n : ℕ) (e : ℕ × ℕ) → Rises n e → (nat_lt e.0 n && nat_lt e.1 n) ≡ true
edge-within n e r =
    let first : e.0 < n = omega (arith, r.0, r.1) in
    true-both (nat_lt e.0 n) (nat_lt e.1 n) (below-test e.0 n first) (below-test e.1 n r.1)

-- a few vertices and edges that go to higher places of theirs are the graph of a block
pub rising-block : (b : BlockGraph) → length b.vertices ≤ 512 → RisingEdges (length b.vertices) b.edges → IsSmallBlock b
rising-block b few rising = record {
  few = few;
  block = record {
    within = in-all (λ (e : ℕ × ℕ). nat_lt e.0 (length b.vertices) && nat_lt e.1 (length b.vertices)) b.edges
        (λ e i. edge-within (length b.vertices) e
        (edge-rises (length b.vertices) b.edges (recursion_from_All (Rises (length b.vertices)) b.edges rising) e i));
    no_cycle = rising-no_cycle (length b.vertices) b.edges rising;
  };
}
