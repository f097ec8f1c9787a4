-- The lists of a code's table, node by node.
use Rattle.std.proofs.Common.{◌≡◌, ◌∙◌, ℕ, suc, ◌<◌, ◌≤◌, ◌==◌, ◌&&◌, Bool, true, false, List, ◌∷◌, [], ◌++◌}
use Rattle.std.proofs.Common.{Option, Some, None, length, filter, nat_lt, refl, sym, ap, subst, arith, tests, ⊎_elim, length-append}
use Rattle.std.specs.Prelude.{slice_get}
use Rattle.tam_word.specs.Lists.{below, has, where_so}
use Rattle.tam_word.proofs.Sifted.{filter-twice}
use Rattle.tam_graph.specs.declared.node.Node.{Node}
use Rattle.tam_word.proofs.Tests.{test-below}
use Rattle.tam_word.proofs.Each.{get-left, get-last, get-past, last-or_before}
use Rattle.tam_world.specs.declared.table.Table.{Table}
use Rattle.tam_world.specs.Tables.{IsTableOf, AreTables}
use Rattle.tam_graph.specs.Graphs.{Graph, Code, code_of, or_code, no_code, kind_at, block_at, or_kind, or_block, operands_of, fires, is_inlet}
use Rattle.tam_graph.specs.Graphs.{node_numbers}
use Rattle.tam_world.specs.Takers.{firers_in, inlets_in}
use Rattle.tam_world.specs.Sought.{is_keyed}
use Rattle.tam_world.proofs.TableLemmas.{filter-last}
use Rattle.tam_world.proofs.Needed.{needs-none, needs-all}

-- the lists are those of the nodes below x
pub record AreListsBelow (c : Code) (takers firers inlets : ℕ → List ℕ) (x : ℕ) : Type 0 where
  pub takers_below : (y : ℕ) → takers y ≡ filter (λ n. fires (kind_at c n) && has (operands_of c (kind_at c n)) y) (below x)
  pub firers_below : (b : ℕ) → firers b ≡ filter (λ n. (block_at c n == b) && fires (kind_at c n)) (below x)
  pub inlets_below : (y : ℕ) → inlets y ≡ filter (λ n. is_keyed y (block_at c n) (kind_at c n)) (below x)

-- a node more
pub lists-next : (c : Code) (takers firers inlets takers' firers' inlets' : ℕ → List ℕ) (x : ℕ) (node : Node)
    → AreListsBelow c takers firers inlets x
    → slice_get c.nodes x ≡ Some node
    → ((y : ℕ) → takers' y ≡ takers y ++ where_so (fires node.kind && has (operands_of c node.kind) y) x)
    → ((b : ℕ) → firers' b ≡ firers b ++ where_so ((node.block == b) && fires node.kind) x)
    → ((y : ℕ) → inlets' y ≡ inlets y ++ where_so (is_keyed y node.block node.kind) x) → AreListsBelow c takers' firers' inlets' (suc x)
lists-next c takers firers inlets takers' firers' inlets' x node lists read more_takers more_firers more_inlets = record {
  takers_below = λ y.
      let test : ℕ → Bool = λ n. fires (kind_at c n) && has (operands_of c (kind_at c n)) y in
      more_takers y ∙ ap (λ l. l ++ where_so (fires node.kind && has (operands_of c node.kind) y) x) (lists.takers_below y)
      ∙ ap (λ (o : Option Node). filter test (below x) ++ where_so (fires (or_kind o) && has (operands_of c (or_kind o)) y) x) (sym read)
      ∙ sym (filter-last test (below x) x);
  firers_below = λ b.
      let test : ℕ → Bool = λ n. (block_at c n == b) && fires (kind_at c n) in
      more_firers b ∙ ap (λ l. l ++ where_so ((node.block == b) && fires node.kind) x) (lists.firers_below b)
      ∙ ap (λ (o : Option Node). filter test (below x) ++ where_so ((or_block o == b) && fires (or_kind o)) x) (sym read)
      ∙ sym (filter-last test (below x) x);
  inlets_below = λ y.
      let test : ℕ → Bool = λ n. is_keyed y (block_at c n) (kind_at c n) in
      more_inlets y ∙ ap (λ l. l ++ where_so (is_keyed y node.block node.kind) x) (lists.inlets_below y)
      ∙ ap (λ (o : Option Node). filter test (below x) ++ where_so (is_keyed y (or_block o) (or_kind o)) x) (sym read)
      ∙ sym (filter-last test (below x) x);
}

-- all nodes: the nodes of a block that fire
pub firers-all : (c : Code) (takers firers inlets : ℕ → List ℕ) → AreListsBelow c takers firers inlets (length c.nodes) → (b : ℕ) → firers b ≡ firers_in c b
firers-all c takers firers inlets lists b =
    lists.firers_below b ∙ sym (filter-twice (λ n. block_at c n == b) (λ n. fires (kind_at c n)) (node_numbers c))

-- the lists are those of the inlets below x, by block
abbrev pub AreInletsBelow : Code → (ℕ → List ℕ) → ℕ → Type 0
AreInletsBelow c lists x = (b : ℕ) → lists b ≡ filter (λ n. (block_at c n == b) && is_inlet (kind_at c n)) (below x)

-- a node more
pub inlets-next : (c : Code) (lists more : ℕ → List ℕ) (x : ℕ) (node : Node) → AreInletsBelow c lists x → slice_get c.nodes x ≡ Some node
    → ((b : ℕ) → more b ≡ lists b ++ where_so ((node.block == b) && is_inlet node.kind) x) → AreInletsBelow c more (suc x)
inlets-next c lists more x node before read longer = λ b.
    let test : ℕ → Bool = λ n. (block_at c n == b) && is_inlet (kind_at c n) in
    longer b ∙ ap (λ l. l ++ where_so ((node.block == b) && is_inlet node.kind) x) (before b)
    ∙ ap (λ (o : Option Node). filter test (below x) ++ where_so ((or_block o == b) && is_inlet (or_kind o)) x) (sym read)
    ∙ sym (filter-last test (below x) x)

-- all nodes
pub inlets-all : (c : Code) (lists : ℕ → List ℕ) → AreInletsBelow c lists (length c.nodes) → (b : ℕ) → lists b ≡ inlets_in c b
inlets-all c lists below_all b = below_all b ∙ sym (filter-twice (λ n. block_at c n == b) (λ n. is_inlet (kind_at c n)) (node_numbers c))

-- the codes below k have their tables
pub record AreTablesBelow (g : Graph) (tables : List Table) (k : ℕ) : Type 0 where
  pub count : length tables ≡ k
  pub each : (j : ℕ) → j < k → IsTableOf (code_of g j) (slice_get tables j)

-- no code
pub tables-none : (g : Graph) → AreTablesBelow g [] 0
tables-none g = record { count = refl; each = λ j h. absurd (omega arith) }

-- a code more
pub tables-next : (g : Graph) (tables : List Table) (k : ℕ) (t : Table) → AreTablesBelow g tables k → IsTableOf (code_of g k) (Some t)
    → AreTablesBelow g (tables ++ t ∷ []) (suc k)
tables-next g tables k t below_k is = record {
  count = omega (arith, length-append tables (t ∷ []), below_k.count);
  each = λ j h. ⊎_elim (λ before. subst (IsTableOf (code_of g j)) (sym (get-left tables (t ∷ []) j (omega (arith, below_k.count, before))))
      (below_k.each j before)) (last j) (last-or_before j k h);
}
  where
    last : (j : ℕ) → j ≡ k → IsTableOf (code_of g j) (slice_get (tables ++ t ∷ []) j)
    last j e =
        let P : ℕ → Type 0 = λ n. IsTableOf (code_of g n) (slice_get (tables ++ t ∷ []) n) in
        subst P (below_k.count ∙ sym e) (subst (IsTableOf (code_of g (length tables))) (sym (get-last tables t)) (subst (λ n. IsTableOf (code_of g n)
        (Some t)) (sym below_k.count) is))

-- all codes
pub tables-all : (g : Graph) (tables : List Table) → AreTablesBelow g tables (length g.codes) → AreTables g tables
tables-all g tables below_all k = go (nat_lt k (length g.codes)) refl
  where
    go : (b : Bool) → nat_lt k (length g.codes) ≡ b → IsTableOf (code_of g k) (slice_get tables k)
    go true e = below_all.each k (test-below k (length g.codes) e)
    go false e =
        let past : length g.codes ≤ k = grind (arith, tests) in
        let none : slice_get tables k ≡ None = get-past tables k (omega (arith, past, below_all.count)) in
        let no_such : code_of g k ≡ no_code = ap or_code (get-past g.codes k past) in
        rw (none, no_such) (record {
          takers = λ y. refl;
          firers = λ b. refl;
          inlets = λ y. refl;
          block_inlets = λ b. refl;
          starters = refl;
          needs = needs-all no_code [] (needs-none no_code);
          few = omega arith;
        })
