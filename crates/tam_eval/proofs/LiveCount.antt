-- An activation is given back exactly where it has no vertex left.
use Rattle.std.proofs.Common.{◌≡◌, ℕ, zero, suc, ◌<◌, ◌≤◌, Bool, true, false, not, ◌==◌, ◌&&◌, List, [], ◌∷◌, length, nat_lt, refl, sym, subst, ap, ◌∙◌}
use Rattle.std.proofs.Common.{arith, tests, true≢false}
use Rattle.std.specs.Prelude.{count_by, slice_index_or}
use Rattle.std.proofs.lemmas.List.Sums.{count_by-le-length}
use Rattle.tam_word.specs.Lists.{below, all_of}
use Rattle.tam_word.proofs.Tests.{number-eq, self-eq, both-true, true-both, not-true}
use Rattle.tam_word.proofs.Members.{In, all-in, in-all, any-in, in-any, below-in}
use Rattle.tam_graph.specs.declared.kind.Kind.{Kind}
use Rattle.tam_graph.specs.declared.kind.Kind.TheVariants.{Param, Const, Op as Operate, Seq, Call, Arg, Ret, Give, Alloc, Fetch, Store, Cond, Switch, Merge}
use Rattle.tam_graph.specs.declared.kind.Kind.TheVariants.{Enter, Leave}
use Rattle.tam_graph.specs.Graphs.{Graph, kind_at, block_at, fires, is_inlet, node_numbers}
use Rattle.tam_split.specs.Blocks.{vertices_of}
use Rattle.tam_split.specs.declared.vertex.Vertex.{Vertex}
use Rattle.tam_world.specs.Worlds.{its_code, has_word, has_entered}
use Rattle.tam_eval.specs.GraphRuns.{GraphState, is_enabled, stands_ready, has_fired, is_vertex_done, is_node_done, is_given_back, live_activations}
use Rattle.tam_eval.specs.Waiting.{is_unfed, is_empty_inlet, vertices_left}
use Rattle.tam_eval.proofs.Counting.{count-none, none-counted, count-places, count-below_alike, length-below}
use Rattle.tam_eval.proofs.Enabled.{enabled-fires, enabled-block}

-- of a node's vertices the one that fires has to be done, if it has one, and the inlet, if it has one
abbrev both_done : Kind → Bool → Bool → Bool
both_done k f w = all_of (λ (v : Vertex). elim v.inlet [ true ↦ w | false ↦ f ]) (vertices_of 0 k)

-- in parts
abbrev DoneParts : Kind → Bool → Bool → Type 0
DoneParts k f w = (fires k ≡ true → f ≡ true) × (is_inlet k ≡ true → w ≡ true)

-- a node with both
split-parts : (f w : Bool) → (elim f [ true ↦ elim w [ true ↦ true | false ↦ false ] | false ↦ false ]) ≡ true → (f ≡ true) × (w ≡ true)
split-parts true true h = (refl, refl)
split-parts true false h = absurd (true≢false (sym h))
split-parts false w h = absurd (true≢false (sym h))

-- a node with one
one-part : (f : Bool) → (elim f [ true ↦ true | false ↦ false ]) ≡ true → f ≡ true
one-part true h = refl
one-part false h = absurd (true≢false (sym h))

-- where both are done, each is
done-parts : (k : Kind) (f w : Bool) → both_done k f w ≡ true → DoneParts k f w
done-parts (Param j) f w h = (λ e. absurd (true≢false (sym e)), λ e. one-part w h)
done-parts (Ret j l) f w h = (λ e. absurd (true≢false (sym e)), λ e. one-part w h)
done-parts (Merge j l) f w h = (λ e. absurd (true≢false (sym e)), λ e. one-part w h)
done-parts (Enter j) f w h = (λ e. absurd (true≢false (sym e)), λ e. one-part w h)
done-parts (Call j) f w h = let p = split-parts f w h in (λ e. p.0, λ e. p.1)
done-parts (Alloc j) f w h = let p = split-parts f w h in (λ e. p.0, λ e. p.1)
done-parts (Fetch j l) f w h = let p = split-parts f w h in (λ e. p.0, λ e. p.1)
done-parts (Const j) f w h = (λ e. one-part f h, λ e. absurd (true≢false (sym e)))
done-parts (Operate o j l) f w h = (λ e. one-part f h, λ e. absurd (true≢false (sym e)))
done-parts (Seq j l) f w h = (λ e. one-part f h, λ e. absurd (true≢false (sym e)))
done-parts (Arg j l m) f w h = (λ e. one-part f h, λ e. absurd (true≢false (sym e)))
done-parts (Give j l) f w h = (λ e. one-part f h, λ e. absurd (true≢false (sym e)))
done-parts (Store j l m) f w h = (λ e. one-part f h, λ e. absurd (true≢false (sym e)))
done-parts (Cond j l m) f w h = (λ e. one-part f h, λ e. absurd (true≢false (sym e)))
done-parts (Switch j l m) f w h = (λ e. one-part f h, λ e. absurd (true≢false (sym e)))
done-parts (Leave j l) f w h = (λ e. one-part f h, λ e. absurd (true≢false (sym e)))

-- and where each is done, both are
parts-done : (k : Kind) (f w : Bool) → DoneParts k f w → both_done k f w ≡ true
parts-done (Param j) f w (a, b) = rw (b refl) refl
parts-done (Ret j l) f w (a, b) = rw (b refl) refl
parts-done (Merge j l) f w (a, b) = rw (b refl) refl
parts-done (Enter j) f w (a, b) = rw (b refl) refl
parts-done (Call j) f w (a, b) = rw (a refl, b refl) refl
parts-done (Alloc j) f w (a, b) = rw (a refl, b refl) refl
parts-done (Fetch j l) f w (a, b) = rw (a refl, b refl) refl
parts-done (Const j) f w (a, b) = rw (a refl) refl
parts-done (Operate o j l) f w (a, b) = rw (a refl) refl
parts-done (Seq j l) f w (a, b) = rw (a refl) refl
parts-done (Arg j l m) f w (a, b) = rw (a refl) refl
parts-done (Give j l) f w (a, b) = rw (a refl) refl
parts-done (Store j l m) f w (a, b) = rw (a refl) refl
parts-done (Cond j l m) f w (a, b) = rw (a refl) refl
parts-done (Switch j l m) f w (a, b) = rw (a refl) refl
parts-done (Leave j l) f w (a, b) = rw (a refl) refl

module _ (g : Graph) (s : GraphState) (i : ℕ) where
  -- the vertices of a node, by the two tests
  vertices-same : (x : ℕ) (k : Kind) → all_of (is_vertex_done g s i) (vertices_of x k) ≡ both_done k (has_fired g s i x) (has_word s.world i x)
  vertices-same x (Param j) = refl
  vertices-same x (Ret j l) = refl
  vertices-same x (Merge j l) = refl
  vertices-same x (Enter j) = refl
  vertices-same x (Call j) = refl
  vertices-same x (Alloc j) = refl
  vertices-same x (Fetch j l) = refl
  vertices-same x (Const j) = refl
  vertices-same x (Operate o j l) = refl
  vertices-same x (Seq j l) = refl
  vertices-same x (Arg j l m) = refl
  vertices-same x (Give j l) = refl
  vertices-same x (Store j l m) = refl
  vertices-same x (Cond j l m) = refl
  vertices-same x (Switch j l m) = refl
  vertices-same x (Leave j l) = refl

  -- a node of a block that was entered has fired and has its value, where it is done
  node-parts : (x : ℕ) → is_node_done g s i x ≡ true → has_entered s.world i (block_at (its_code g s.world i) x) ≡ true
      → DoneParts (kind_at (its_code g s.world i) x) (has_fired g s i x) (has_word s.world i x)
  node-parts x done in_block =
      done-parts (kind_at (its_code g s.world i) x) (has_fired g s i x) (has_word s.world i x)
      (sym (vertices-same x (kind_at (its_code g s.world i) x)) ∙ (rw (is_node_done, in_block) at done))

  -- what has fired may fire and isn't ready
  fired-parts : (x : ℕ) → has_fired g s i x ≡ true → (is_enabled g s.world i x ≡ true) × (stands_ready s i x ≡ false)
  fired-parts x h = go (is_enabled g s.world i x) refl
    where
      go : (t : Bool) → is_enabled g s.world i x ≡ t → (is_enabled g s.world i x ≡ true) × (stands_ready s i x ≡ false)
      go true p = (p, not-true (stands_ready s i x) (rw (has_fired, p) at h))
      go false p = absurd (true≢false (sym (rw (has_fired, p) at h)))

  -- where no vertex is left, it is given back
  pub none-left : vertices_left g s.world s.ready i ≡ 0 → is_given_back g s i ≡ true
  none-left none = in-all (is_node_done g s i) (node_numbers (its_code g s.world i)) each
    where
      no_ready : count_by (λ r. r.0 == i) s.ready ≡ 0
      no_ready = omega arith

      not-ready : (x : ℕ) → stands_ready s i x ≡ false
      not-ready x = go (stands_ready s i x) refl
        where
          go : (t : Bool) → stands_ready s i x ≡ t → t ≡ false
          go false p = refl
          go true p =
              let r = any-in (λ r. (r.0 == i) && (r.1 == x)) s.ready p in
              let here = (both-true (r.0.0 == i) (r.0.1 == x) r.2).0 in
              absurd (true≢false (sym here ∙ none-counted (λ (q : ℕ × ℕ). q.0 == i) s.ready no_ready r.0 r.1))

      each : (x : ℕ) → In x (node_numbers (its_code g s.world i)) → is_node_done g s i x ≡ true
      each x there = go (has_entered s.world i (block_at (its_code g s.world i) x)) refl
        where
          unfed : is_unfed g s.world i x ≡ false
          unfed = none-counted (is_unfed g s.world i) (node_numbers (its_code g s.world i)) (omega arith) x there

          full : is_empty_inlet g s.world i x ≡ false
          full = none-counted (is_empty_inlet g s.world i) (node_numbers (its_code g s.world i)) (omega arith) x there

          and-not : (a b : Bool) → (a && not b) ≡ false → a ≡ true → b ≡ true
          and-not true true h e = refl
          and-not true false h e = absurd (true≢false h)
          and-not false b h e = absurd (true≢false (sym e))

          go : (t : Bool) → has_entered s.world i (block_at (its_code g s.world i) x) ≡ t → is_node_done g s i x ≡ true
          go false p = rw (is_node_done, p) refl
          go true p = rw (is_node_done, p) (vertices-same x (kind_at (its_code g s.world i) x)
              ∙ parts-done (kind_at (its_code g s.world i) x) (has_fired g s i x) (has_word s.world i x) (
                λ f. rw (
                  has_fired,
                  and-not (fires (kind_at (its_code g s.world i) x)) (is_enabled g s.world i x) (rw (is_unfed, p) at unfed) f,
                  not-ready x,
                ) refl,
                λ l. and-not (is_inlet (kind_at (its_code g s.world i) x)) (has_word s.world i x) (rw (is_empty_inlet, p) at full) l,
              ))

  -- where what is ready may fire, and it is given back, none is left
  pub given-none : all_of (λ r. is_enabled g s.world r.0 r.1) s.ready ≡ true → is_given_back g s i ≡ true → vertices_left g s.world s.ready i ≡ 0
  given-none may given = omega (arith, no_ready, no_unfed, no_empty)
    where
      parts : (x : ℕ) → In x (node_numbers (its_code g s.world i)) → has_entered s.world i (block_at (its_code g s.world i) x) ≡ true
          → DoneParts (kind_at (its_code g s.world i) x) (has_fired g s i x) (has_word s.world i x)
      parts x there in_block = node-parts x (all-in (is_node_done g s i) (node_numbers (its_code g s.world i)) given x there) in_block

      no_unfed : count_by (is_unfed g s.world i) (node_numbers (its_code g s.world i)) ≡ 0
      no_unfed = count-none (is_unfed g s.world i) (node_numbers (its_code g s.world i)) each
        where
          each : (x : ℕ) → In x (node_numbers (its_code g s.world i)) → is_unfed g s.world i x ≡ false
          each x there = go (has_entered s.world i (block_at (its_code g s.world i) x)) refl (fires (kind_at (its_code g s.world i) x)) refl
            where
              go : (t : Bool) → has_entered s.world i (block_at (its_code g s.world i) x) ≡ t
                  → (f : Bool) → fires (kind_at (its_code g s.world i) x) ≡ f → is_unfed g s.world i x ≡ false
              go false p f q = rw (is_unfed, p) refl
              go true p false q = rw (is_unfed, p, q) refl
              go true p true q = rw (is_unfed, p, q, (fired-parts x ((parts x there p).0 q)).0) refl

      no_empty : count_by (is_empty_inlet g s.world i) (node_numbers (its_code g s.world i)) ≡ 0
      no_empty = count-none (is_empty_inlet g s.world i) (node_numbers (its_code g s.world i)) each
        where
          each : (x : ℕ) → In x (node_numbers (its_code g s.world i)) → is_empty_inlet g s.world i x ≡ false
          each x there = go (has_entered s.world i (block_at (its_code g s.world i) x)) refl (is_inlet (kind_at (its_code g s.world i) x)) refl
            where
              go : (t : Bool) → has_entered s.world i (block_at (its_code g s.world i) x) ≡ t
                  → (l : Bool) → is_inlet (kind_at (its_code g s.world i) x) ≡ l → is_empty_inlet g s.world i x ≡ false
              go false p l q = rw (is_empty_inlet, p) refl
              go true p false q = rw (is_empty_inlet, p, q) refl
              go true p true q = rw (is_empty_inlet, p, q, (parts x there p).1 q) refl

      -- a node that isn't there doesn't fire
      there-fires : (x : ℕ) → fires (kind_at (its_code g s.world i) x) ≡ true → x < length (its_code g s.world i).nodes
      there-fires x f = go (its_code g s.world i).nodes x f
        where
          go : (ns : List _) (n : ℕ) → fires (kind_at (record (its_code g s.world i) { nodes = ns }) n) ≡ true → n < length ns
          go [] n k = absurd (true≢false (sym k))
          go (m ∷ ms) zero k = omega arith
          go (m ∷ ms) (suc n) k = let l = go ms n k in omega arith

      no_ready : count_by (λ r. r.0 == i) s.ready ≡ 0
      no_ready = count-none (λ (r : ℕ × ℕ). r.0 == i) s.ready (λ r there. each r there (r.0 == i) refl)
        where
          each : (r : ℕ × ℕ) → In r s.ready → (t : Bool) → (r.0 == i) ≡ t → t ≡ false
          each r there false p = refl
          each r there true p =
              let same = number-eq r.0 i p in
              let may_it : is_enabled g s.world i r.1 ≡ true = subst (λ k. is_enabled g s.world k r.1 ≡ true) same
              (all-in (λ (q : ℕ × ℕ). is_enabled g s.world q.0 q.1) s.ready may r there) in
              let fires_it = enabled-fires g s.world i r.1 may_it in
              let fired = (parts r.1 (below-in r.1 (length (its_code g s.world i).nodes) (there-fires r.1 fires_it))
              (enabled-block g s.world i r.1 may_it)).0 fires_it in
              let stands : stands_ready s i r.1 ≡ true = in-any (λ q. (q.0 == i) && (q.1 == r.1)) s.ready r there
              (true-both (r.0 == i) (r.1 == r.1) p (self-eq r.1)) in
              absurd (true≢false (sym stands ∙ (fired-parts r.1 fired).1))

  -- so it is live where some are left
  pub live-left : all_of (λ r. is_enabled g s.world r.0 r.1) s.ready ≡ true → nat_lt 0 (vertices_left g s.world s.ready i) ≡ not (is_given_back g s i)
  live-left may = go (vertices_left g s.world s.ready i) refl (is_given_back g s i) refl
    where
      go : (n : ℕ) → vertices_left g s.world s.ready i ≡ n → (t : Bool) → is_given_back g s i ≡ t → nat_lt 0 n ≡ not t
      go zero p true q = refl
      go zero p false q = absurd (true≢false (sym (none-left p) ∙ q))
      go (suc n) p true q = absurd (let none = given-none may q in omega arith)
      go (suc n) p false q = grind (arith, tests)

-- what is counted of each activation tells how many are live
pub live-counted : (g : Graph) (s : GraphState) (left : List ℕ) → ((i : ℕ) → slice_index_or left i 0 ≡ vertices_left g s.world s.ready i)
    → length left ≡ length s.world.activations → all_of (λ r. is_enabled g s.world r.0 r.1) s.ready ≡ true
    → count_by (nat_lt 0) left ≡ live_activations g s
live-counted g s left counts one_each may =
    count-places (nat_lt 0) left
    ∙ count-below_alike (λ i. nat_lt 0 (slice_index_or left i 0)) (λ i. not (is_given_back g s i)) (length left)
    (λ i l. ap (nat_lt 0) (counts i) ∙ live-left g s i may)
    ∙ ap (λ n. count_by (λ i. not (is_given_back g s i)) (below n)) one_each

-- no more are live than have begun
pub live-most : (g : Graph) (s : GraphState) → live_activations g s ≤ length s.world.activations
live-most g s = omega (
  arith,
  count_by-le-length (λ i. not (is_given_back g s i)) (below (length s.world.activations)),
  length-below (length s.world.activations),
)
