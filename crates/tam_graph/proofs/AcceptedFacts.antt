-- What an accepted graph's nodes are: the lines' names, the depths, and that branches aren't bodies.
use Rattle.std.proofs.Common.{◌≡◌, ℕ, ◌<◌, List, [], ◌++◌, Bool, true, false, not, refl, sym, subst, ap, inl, true≢false, map, length, Some, None, slice_get}
use Rattle.std.proofs.Common.{◌==◌, ◌&&◌, nat_lt}
use Rattle.std.specs.List.{flat_map}
use Rattle.std.proofs.lemmas.Option.{slice_get_within}
use Rattle.tam_word.specs.Lists.{below, where_so}
use Rattle.tam_word.proofs.Tests.{self-eq, below-test, both-true}
use Rattle.tam_word.proofs.Members.{In, all-in, left-in, right-in, map-in, flat_map-in, below-in}
use Rattle.tam_graph.specs.declared.kind.Kind.{Kind}
use Rattle.tam_graph.specs.declared.kind.Kind.TheVariants.{Call, Cond, Enter}
use Rattle.tam_graph.specs.Graphs.{Code, Graph, code_of, or_kind, kind_at, node_numbers}
use Rattle.tam_graph.specs.Written.{is_operand, is_call_node, is_cond_node, is_line}
use Rattle.tam_graph.specs.declared.check_cause.CheckCause.{CheckCause}
use Rattle.tam_graph.specs.declared.check_cause.CheckCause.TheVariants.{DepthMismatch as Depth_mismatch, MainType as Main_type, WrongBlock as Wrong_block}
use Rattle.tam_graph.specs.declared.check_cause.CheckCause.TheVariants.{PlaceTwice as Place_twice, PlaceRange as Place_range, PlaceMissing as Place_missing}
use Rattle.tam_graph.specs.declared.check_cause.CheckCause.TheVariants.{Cycle}
use Rattle.tam_graph.specs.Accepted.{is_wrong_block, is_place_twice, is_place_range, is_place_missing, is_main_type}
use Rattle.tam_graph.specs.Accepted.{is_cycle, has_right_depth, faults_at, faults_of, IsAccepted}

-- a node that does something else than `in` 0 is there
pub node-there : (c : Code) (x : ℕ) → ((kind_at c x ≡ Enter 0) → ⊥) → x < length c.nodes
node-there c x n = go (slice_get c.nodes x) refl
  where
    go : (o : _) → slice_get c.nodes x ≡ o → x < length c.nodes
    go None e = absurd (n (ap or_kind e))
    go (Some m) e = slice_get_within c.nodes x m e

-- ---- no fault

module _ (g : Graph) (acc : IsAccepted g) (n : ℕ) (l : n < length g.codes) where
  -- no node has a fault
  no-fault-at : (x : ℕ) → x < length (code_of g n).nodes → (f : CheckCause) → In f (faults_at g n x) → ⊥
  no-fault-at x m f a =
      let in-node = map-in (λ (f : CheckCause). (n, x, f)) f (faults_at g n x) a in
      let in-code = flat_map-in (λ (x : ℕ). map (λ (f : CheckCause). (n, x, f)) (faults_at g n x)) x (n, x, f) (node_numbers (code_of g n))
      (below-in x (length (code_of g n).nodes) m) in-node in
      let in-graph = flat_map-in (λ (n : ℕ). flat_map (λ (x : ℕ). map (λ (f : CheckCause). (n, x, f)) (faults_at g n x)) (node_numbers (code_of g n))) n (
        n,
        x,
        f,
      ) (below (length g.codes)) (below-in n (length g.codes) l) in-code in
      none (faults_of g) acc.no_fault in-graph
    where
      none : (fs : List (ℕ × ℕ × CheckCause)) → fs ≡ [] → In (n, x, f) fs → ⊥
      none fs e b = let z = rw e at b in z

  -- a cause that holds is told
  so-among : {X : Type 0} (b : Bool) (x : X) → b ≡ true → In x (where_so b x)
  so-among true x h = inl refl
  so-among false x h = absurd (true≢false (sym h))

  module _ (x : ℕ) (m : x < length (code_of g n).nodes) where
    -- its depth is right
    pub right-depth : has_right_depth g (code_of g n) x (kind_at (code_of g n) x) ≡ true
    right-depth = go (has_right_depth g (code_of g n) x (kind_at (code_of g n) x)) refl
      where
        go : (b : Bool) → has_right_depth g (code_of g n) x (kind_at (code_of g n) x) ≡ b → has_right_depth g (code_of g n) x (kind_at (code_of g n) x) ≡ true
        go true e = e
        go false e =
            let w = so-among (not (has_right_depth g (code_of g n) x (kind_at (code_of g n) x))) Depth_mismatch (rw e refl) in
            absurd (no-fault-at x m Depth_mismatch
            (right-in Depth_mismatch (where_so (is_wrong_block (code_of g n) x) Wrong_block) _
            (right-in Depth_mismatch (where_so (is_place_twice (code_of g n) x) Place_twice) _
            (right-in Depth_mismatch (where_so (is_place_range g (code_of g n) x (kind_at (code_of g n) x)) Place_range) _
            (right-in Depth_mismatch (where_so (is_place_missing g (code_of g n) x (kind_at (code_of g n) x)) Place_missing) _
            (left-in Depth_mismatch (where_so (not (has_right_depth g (code_of g n) x (kind_at (code_of g n) x))) Depth_mismatch)
            (where_so ((n == g.main) && is_main_type (code_of g n) x (kind_at (code_of g n) x)) Main_type
            ++ where_so (is_cycle (code_of g n) x) Cycle) w))))))

    -- no earlier node stands for the same place
    pub once-placed : is_place_twice (code_of g n) x ≡ false
    once-placed = go (is_place_twice (code_of g n) x) refl
      where
        go : (b : Bool) → is_place_twice (code_of g n) x ≡ b → is_place_twice (code_of g n) x ≡ false
        go false e = e
        go true e =
            let w = so-among (is_place_twice (code_of g n) x) Place_twice e in
            absurd (no-fault-at x m Place_twice
            (right-in Place_twice (where_so (is_wrong_block (code_of g n) x) Wrong_block) _
            (left-in Place_twice (where_so (is_place_twice (code_of g n) x) Place_twice) _ w)))

    -- what `main` takes and gives are words
    pub right-main : n ≡ g.main → is_main_type (code_of g n) x (kind_at (code_of g n) x) ≡ false
    right-main same = go (is_main_type (code_of g n) x (kind_at (code_of g n) x)) refl
      where
        go : (b : Bool) → is_main_type (code_of g n) x (kind_at (code_of g n) x) ≡ b → is_main_type (code_of g n) x (kind_at (code_of g n) x) ≡ false
        go false e = e
        go true e =
            let t : (n == g.main) ≡ true = subst (λ z. (n == z) ≡ true) same (self-eq n) in
            let w = so-among ((n == g.main) && is_main_type (code_of g n) x (kind_at (code_of g n) x)) Main_type (rw (t, e) refl) in
            absurd (no-fault-at x m Main_type
            (right-in Main_type (where_so (is_wrong_block (code_of g n) x) Wrong_block) _
            (right-in Main_type (where_so (is_place_twice (code_of g n) x) Place_twice) _
            (right-in Main_type (where_so (is_place_range g (code_of g n) x (kind_at (code_of g n) x)) Place_range) _
            (right-in Main_type (where_so (is_place_missing g (code_of g n) x (kind_at (code_of g n) x)) Place_missing) _
            (right-in Main_type (where_so (not (has_right_depth g (code_of g n) x (kind_at (code_of g n) x))) Depth_mismatch) _
            (left-in Main_type (where_so ((n == g.main) && is_main_type (code_of g n) x (kind_at (code_of g n) x)) Main_type)
            (where_so (is_cycle (code_of g n) x) Cycle) w)))))))

    -- its line names nodes of the right kind
    pub right-line : is_line (length g.codes) (code_of g n) (kind_at (code_of g n) x) ≡ true
    right-line = all-in (λ (x : ℕ). is_line (length g.codes) (code_of g n) (kind_at (code_of g n) x)) (node_numbers (code_of g n))
        ((acc.written n (below-test n (length g.codes) l)).lines) x (below-in x (length (code_of g n).nodes) m)

-- ---- what lines name

-- an operand is no call
pub operand-no_call : (c : Code) (a d : ℕ) → is_operand c a ≡ true → kind_at c a ≡ Call d → ⊥
operand-no_call c a d h e = let r = both-true (nat_lt a (length c.nodes)) _ h in true≢false (sym (rw e at r.1))

-- a call node is a call
pub call-node : (c : Code) (f : ℕ) → is_call_node c f ≡ true → (d : ℕ) × (kind_at c f ≡ Call d)
call-node c f h = go (kind_at c f) refl
  where
    go : (k : Kind) → kind_at c f ≡ k → (d : ℕ) × (kind_at c f ≡ Call d)
    go (Call d) e = (d, e)
    go k e = let t = rw e at (both-true (nat_lt f (length c.nodes)) _ h).1 in absurd (true≢false (sym t))

-- and a cond node a cond
pub cond-node : (c : Code) (d : ℕ) → is_cond_node c d ≡ true → (p y n : ℕ) × (kind_at c d ≡ Cond p y n)
cond-node c d h = go (kind_at c d) refl
  where
    go : (k : Kind) → kind_at c d ≡ k → (p y n : ℕ) × (kind_at c d ≡ Cond p y n)
    go (Cond p y n) e = (p, y, n, e)
    go k e = let t = rw e at (both-true (nat_lt d (length c.nodes)) _ h).1 in absurd (true≢false (sym t))
