-- Marking what a node reaches: pass by pass, and node by node within a pass.
use Rattle.std.proofs.Common.{◌≡◌, ℕ, suc, zero, ◌+◌, ◌<◌, Bool, true, false, not, ◌==◌, ◌||◌, ◌&&◌, List, [], ◌∷◌, length, slice_set, refl, sym, ap}
use Rattle.std.proofs.Common.{◌∙◌, subst, arith, inl, inr, ◌⊎◌, true≢false}
use Rattle.std.proofs.lemmas.List.{length-set}
use Rattle.tam_word.proofs.Tests.{number-eq, eq-number, both-true, not-true}
use Rattle.tam_word.proofs.Members.{In, any-in, in-any}
use Rattle.tam_word.proofs.Each.{last-or_before}
use Rattle.tam_graph.specs.Graphs.{Code, block_at}
use Rattle.tam_graph.specs.Edges.{reaches_itself, Walk, Stay, Along}
use Rattle.tam_graph.specs.Accepted.{value_edges}
use Rattle.tam_check.specs.Sources.{sources_of, is_marked, unmarked, takes_marked, is_new, goes, AreReached, AreClosed}
use Rattle.tam_check.proofs.BlockEdges.{source-edge, edge-source, edge-in, goes-edge, goes-on, goes-walk}

-- the marks between two passes
pub record IsMarking (c : Code) (b from : ℕ) (marks : List Bool) (grew : Bool) : Type 0 where
  pub len : length marks ≡ length c.nodes
  pub reached : AreReached c b from marks
  pub closed : grew ≡ false → AreClosed c b from marks

-- the marks within a pass, before node n
pub record IsPass (c : Code) (b from : ℕ) (old marks : List Bool) (n : ℕ) (grew : Bool) : Type 0 where
  pub len : length marks ≡ length c.nodes
  pub reached : AreReached c b from marks
  pub kept : grew ≡ false → marks ≡ old
  pub fewer : (unmarked marks < unmarked old) ⊎ (marks ≡ old)
  pub fewer_grown : grew ≡ true → unmarked marks < unmarked old
  pub closed : grew ≡ false → (y : ℕ) → y < n → block_at c y ≡ b → takes_marked c from marks y ≡ true → is_marked marks y ≡ true

-- ---- one mark

-- a mark that is made makes no other
marked-cases : (marks : List Bool) (n y : ℕ) → is_marked (slice_set marks n true) y ≡ true → (y ≡ n) ⊎ (is_marked marks y ≡ true)
marked-cases [] n y h = inr h
marked-cases (m ∷ ms) zero zero h = inl refl
marked-cases (m ∷ ms) zero (suc y) h = inr h
marked-cases (m ∷ ms) (suc n) zero h = inr h
marked-cases (m ∷ ms) (suc n) (suc y) h = elim (marked-cases ms n y h) [ inl e ↦ inl (ap suc e) | inr k ↦ inr k ]

-- and one mark less is missing
fewer-marked : (marks : List Bool) (n : ℕ) → n < length marks → is_marked marks n ≡ false → unmarked (slice_set marks n true) < unmarked marks
fewer-marked [] n l h = absurd (omega arith)
fewer-marked (true ∷ ms) zero l h = absurd (true≢false h)
fewer-marked (false ∷ ms) zero l h = omega arith
fewer-marked (true ∷ ms) (suc n) l h = fewer-marked ms n (omega arith) h
fewer-marked (false ∷ ms) (suc n) l h = let i = fewer-marked ms n (omega arith) h in omega (arith, i)

-- what holds or holds
or-cases : (s t : Bool) → (s || t) ≡ true → (s ≡ true) ⊎ (t ≡ true)
or-cases true t h = inl refl
or-cases false t h = inr h

-- where not both hold, but the first does, the second fails
and-false_second : (s t : Bool) → (s && t) ≡ false → s ≡ true → t ≡ false
and-false_second true t h k = h
and-false_second false t h k = absurd (true≢false (sym k))

module _ (c : Code) (b from : ℕ) where
  -- what takes a marked value is gone to
  goes-new : (marks : List Bool) (y : ℕ) → AreReached c b from marks → y < length c.nodes → block_at c y ≡ b → takes_marked c from marks y ≡ true
      → goes (value_edges c b) from y ≡ true
  goes-new marks y reached l e h =
      let r = any-in (λ a. (a == from) || is_marked marks a) (sources_of c y) h in
      let edge = source-edge c b r.0 y l e r.1 in
      elim (or-cases (r.0 == from) (is_marked marks r.0) r.2) [
        | inl p ↦ goes-edge (value_edges c b) from y (subst (λ z. In {X = ℕ × ℕ} (z, y) (value_edges c b)) (number-eq r.0 from p) edge)
        | inr p ↦ goes-on (value_edges c b) from r.0 y (reached r.0 p) edge
      ]

  module _ (old marks : List Bool) (n : ℕ) (grew : Bool) (p : IsPass c b from old marks n grew) where
    -- a node that is new is marked
    pub pass-marked : n < length c.nodes → is_new c b from marks n ≡ true → IsPass c b from old (slice_set marks n true) (n + 1) true
    pass-marked l new =
        let s = both-true (not (is_marked marks n)) _ new in
        let t = both-true (block_at c n == b) (takes_marked c from marks n) s.1 in
        let here = goes-new marks n p.reached l (number-eq (block_at c n) b t.0) t.1 in
        let fewer = fewer-marked marks n (omega (arith, l, p.len)) (not-true (is_marked marks n) s.0) in
        let less : unmarked (slice_set marks n true) < unmarked old = elim p.fewer [
          | inl q ↦ omega (arith, fewer, q)
          | inr e ↦ subst
              (λ z. unmarked (slice_set marks n true) < unmarked z) e fewer
        ] in
        record {
          len = length-set marks n true ∙ p.len;
          reached = λ y h. elim (marked-cases marks n y h) [ inl e ↦ subst (λ z. goes (value_edges c b) from z ≡ true) (sym e) here | inr k ↦ p.reached y k ];
          kept = λ e. absurd (true≢false e);
          fewer = inl less;
          fewer_grown = λ e. less;
          closed = λ e. absurd (true≢false e);
        }

    -- any other is left
    pub pass-left : is_new c b from marks n ≡ false → IsPass c b from old marks (n + 1) grew
    pass-left none = record {
      len = p.len;
      reached = p.reached;
      kept = p.kept;
      fewer = p.fewer;
      fewer_grown = p.fewer_grown;
      closed = closed;
    }
      where
        here : block_at c n ≡ b → takes_marked c from marks n ≡ true → is_marked marks n ≡ true
        here e h = go (is_marked marks n) refl
          where
            go : (t : Bool) → is_marked marks n ≡ t → is_marked marks n ≡ true
            go true q = q
            go false q =
                let f = and-false_second (not (is_marked marks n)) _ none (rw q refl) in
                let g = and-false_second (block_at c n == b) _ f (eq-number (block_at c n) b e) in
                absurd (true≢false (sym h ∙ g))

        closed : grew ≡ false → (y : ℕ) → y < n + 1 → block_at c y ≡ b → takes_marked c from marks y ≡ true → is_marked marks y ≡ true
        closed g y l e h = elim (last-or_before y n (omega arith)) [
          | inl below ↦ p.closed g y below e h
          | inr same ↦ subst (λ z. is_marked marks z ≡ true) (sym same)
              (here (subst (λ z. block_at c z ≡ b) same e) (subst (λ z. takes_marked c from marks z ≡ true) same h))
        ]

-- ---- at the end

module _ (c : Code) (b from : ℕ) (marks : List Bool) (closed : AreClosed c b from marks) where
  -- an edge from a marked node or from the first goes to a marked one
  marked-next : (a y : ℕ) → In {X = ℕ × ℕ} (a, y) (value_edges c b) → ((a == from) || is_marked marks a) ≡ true → is_marked marks y ≡ true
  marked-next a y m h =
      let s = edge-source c b a y m in
      closed y s.0 s.1 (in-any (λ z. (z == from) || is_marked marks z) (sources_of c y) a s.2 h)

  -- a walk from a marked node ends at one
  marked-walk : {x y : ℕ} → Walk (value_edges c b) x y → is_marked marks x ≡ true → is_marked marks y ≡ true
  marked-walk Stay h = h
  marked-walk (Along {x} {y} e w) h = marked-walk w (marked-next x y (edge-in (value_edges c b) x y e) (or-second (x == from) (is_marked marks x) h))
    where
      or-second : (s t : Bool) → t ≡ true → (s || t) ≡ true
      or-second true t k = refl
      or-second false t k = k

  -- what one goes to is marked
  marked-gone : (y : ℕ) → goes (value_edges c b) from y ≡ true → is_marked marks y ≡ true
  marked-gone y h =
      let r = goes-walk (value_edges c b) from y h in
      marked-walk r.2 (marked-next from r.0 r.1 (or-first (from == from) (is_marked marks from) (eq-number from from refl)))
    where
      or-first : (s t : Bool) → s ≡ true → (s || t) ≡ true
      or-first true t k = refl
      or-first false t k = absurd (true≢false (sym k))

-- where all that is reached is marked, the first is where it reaches itself
pub marked-itself : (c : Code) (b x : ℕ) (marks : List Bool) → IsMarking c b x marks false → is_marked marks x ≡ reaches_itself (value_edges c b) x
marked-itself c b x marks m = go (is_marked marks x) refl (reaches_itself (value_edges c b) x) refl
  where
    go : (s : Bool) → is_marked marks x ≡ s → (t : Bool) → reaches_itself (value_edges c b) x ≡ t → is_marked marks x ≡ reaches_itself (value_edges c b) x
    go true p t q = p ∙ sym (m.reached x p)
    go false p true q = absurd (true≢false (sym (marked-gone c b x marks (m.closed refl) x q) ∙ p))
    go false p false q = p ∙ sym q
