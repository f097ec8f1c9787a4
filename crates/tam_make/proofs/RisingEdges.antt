-- Where nodes take values of earlier nodes alone, no node reaches itself.
use Rattle.std.proofs.Common.{◌≡◌, ℕ, ◌<◌, ◌≤◌, nat_lt, ◌==◌, ◌&&◌, Bool, true, false, List, [], ◌∷◌, refl, ap, inl, inr, arith, map}
use Rattle.tam_word.specs.Lists.{all_of, has}
use Rattle.tam_word.proofs.Tests.{number-eq, test-below, both-true}
use Rattle.tam_word.proofs.Members.{In, all-in, any-in, in-map, in-flat_map, one-first}
use Rattle.tam_graph.specs.Graphs.{Code, kind_at, block_at, node_numbers, nodes_in, operands_of, is_split}
use Rattle.tam_graph.specs.Edges.{Edges, reaches, reaches_itself}
use Rattle.tam_graph.specs.Accepted.{edges_to, value_edges, on_cycle, is_cycle}
use Rattle.tam_graph.proofs.Reaching.{reaches-cases}
use Rattle.tam_word.proofs.Members.{in-filter}

-- each edge goes from a number to a larger one
abbrev AllRise : Edges → Type 0
AllRise es = (e : ℕ × ℕ) → In e es → e.0 < e.1

-- a walk of them doesn't fall
never-falls : (es : Edges) → AllRise es → (x y : ℕ) → reaches es x y ≡ true → x ≤ y
never-falls [] rise x y h = let e : x ≡ y = number-eq x y h in omega arith
never-falls (e ∷ es) rise x y h =
    let less = never-falls es (λ d m. rise d (inr m)) in
    let here : e.0 < e.1 = rise e (inl refl) in
    elim (reaches-cases e es x y h) [
      | inl a ↦ less x y a
      | inr b ↦ (let first : x ≤ e.0 = less x e.0 b.0 in let rest : e.1 ≤ y = less e.1 y b.1 in omega (arith, first, rest, here))
    ]

-- so no number reaches itself
none-itself : (es : Edges) → AllRise es → (x : ℕ) → reaches_itself es x ≡ true → ⊥
none-itself es rise x h =
    let r = any-in (λ (e : ℕ × ℕ). (e.0 == x) && reaches es e.1 x) es h in
    let p = both-true (r.0.0 == x) (reaches es r.0.1 x) r.2 in
    let same : r.0.0 ≡ x = number-eq r.0.0 x p.0 in
    let here : r.0.0 < r.0.1 = rise r.0 r.1 in
    let on : r.0.1 ≤ x = never-falls es rise r.0.1 x p.1 in omega (arith, same, here, on)

-- each node of a code takes values of earlier nodes alone
abbrev pub rises : Code → Bool
rises c = all_of (λ x. all_of (λ a. nat_lt a x) (operands_of c (kind_at c x))) (node_numbers c)

module _ (c : Code) (rising : rises c ≡ true) where
  -- the edges into a node rise
  edge-rises : (x : ℕ) → In x (node_numbers c) → (s : Bool) (e : ℕ × ℕ)
      → In e (elim s as (λ _. Edges) [ true ↦ [] | false ↦ map (λ a. (a, x)) (operands_of c (kind_at c x)) ]) → e.0 < e.1
  edge-rises x m true e i = absurd i
  edge-rises x m false e i =
      let r = in-map (λ (a : ℕ). (a, x)) e (operands_of c (kind_at c x)) i in
      let node = all-in (λ (x : ℕ). all_of (λ a. nat_lt a x) (operands_of c (kind_at c x))) (node_numbers c) rising x m in
      let less : r.0 < x = test-below r.0 x (all-in (λ (a : ℕ). nat_lt a x) (operands_of c (kind_at c x)) node r.0 r.1) in
      let first : r.0 ≡ e.0 = ap (λ (d : ℕ × ℕ). d.0) r.2 in
      let second : x ≡ e.1 = ap (λ (d : ℕ × ℕ). d.1) r.2 in omega (arith, less, first, second)

  -- and so do all of a block
  block-rises : (b : ℕ) → AllRise (value_edges c b)
  block-rises b e i =
      let r = in-flat_map (edges_to c) e (nodes_in c b) i in
      edge-rises r.0 (in-filter (λ x. block_at c x == b) r.0 (node_numbers c) r.1).0 (is_split (kind_at c r.0)) e r.2

  -- no block has a node on a cycle
  none-on-cycle : (b : ℕ) → on_cycle c b ≡ []
  none-on-cycle b = go (on_cycle c b) refl
    where
      go : (xs : List ℕ) → on_cycle c b ≡ xs → on_cycle c b ≡ []
      go [] e = e
      go (x ∷ xs) e = absurd (none-itself (value_edges c b) (block-rises b) x (one-first (reaches_itself (value_edges c b)) (nodes_in c b) x xs e).1)

  -- so no node is told
  pub no-cycle : (x : ℕ) → is_cycle c x ≡ false
  no-cycle x = ap (λ (xs : List ℕ). has xs x) (none-on-cycle (block_at c x))
