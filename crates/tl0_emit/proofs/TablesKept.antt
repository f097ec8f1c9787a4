-- What the tables of a code hold at a node, and those of its blocks at a block.
use Rattle.std.proofs.Common.{◌≡◌, ◌∙◌, ℕ, suc, ◌+◌, ◌<◌, ◌≤◌, true, length, slice_index, sym, ap, arith}
use Rattle.std.proofs.lemmas.List.Sums.{length-filter, count_by-le-length}
use Rattle.tam_graph.specs.Graphs.{Code, kind_at, is_inlet, node_numbers}
use Rattle.tam_graph.proofs.FewNodes.{length-below}
use Rattle.tam_order.proofs.ClassNumbers.{length-numbers, numbers-at}
use Rattle.tl0_keep.specs.Compiled.{slot_of, inlet_of, place_in, choosing_nodes, is_choosing, parts_at, number_of_classes, thread_of_inlet}
use Rattle.tl0_keep.proofs.code.SiftedPlaces.{all-classes}
use Rattle.tl0_emit.specs.CodeParts.{its_code}
use Rattle.tl0_emit.specs.BlockTables.{first_thread, AreBlocksOf}
use Rattle.tl0_emit.specs.Tables.{code_tabled, AreTablesOf}
use Rattle.tl0_emit.specs.declared.code_blocks.CodeBlocks.TheInside.{Inside as BlocksInside}
use Rattle.tl0_emit.specs.declared.code_tables.CodeTables.TheInside.{Inside}
use Rattle.tl0_emit.proofs.NodeSteps.{place-few}
use Rattle.tl0_emit.proofs.BlockSteps.{first-next}

-- a code has no more conds and switches than nodes
pub choosing-few : (c : Code) → length (choosing_nodes c) ≤ length c.nodes
choosing-few c =
    let f = length-filter (λ x. is_choosing (kind_at c x)) (node_numbers c) in
    let k = count_by-le-length (λ x. is_choosing (kind_at c x)) (node_numbers c) in
    let m = length-below (length c.nodes) in
    omega (arith, f, k, m)

-- ---- blocks

module _ (i : BlocksInside) (t : AreBlocksOf i) where
  -- there is a first thread for each block, and the first connector
  pub starts-long : length i.starts.items ≡ suc (length i.code.now.owners)
  starts-long = ap length t.starts ∙ length-numbers (first_thread i.parts.now) (suc (length i.code.now.owners))

  -- the first thread of a block
  pub start-read : (b : ℕ) → b ≤ length i.code.now.owners → slice_index i.starts.items b ≡ first_thread i.parts.now b
  start-read b l = ap (λ xs. slice_index xs b) t.starts ∙ numbers-at (first_thread i.parts.now) (suc (length i.code.now.owners)) b (omega (arith, l))

  -- with the classes of the block it is at most 1,025
  pub start-few : (b : ℕ) → b < length i.code.now.owners → first_thread i.parts.now b + length (parts_at i.parts.now b) ≤ 1025
  start-few b l = let f = t.few (b + 1) (omega (arith, l)) in let n = first-next i.parts.now b in omega (arith, f, n)

  -- the first connector stands behind all classes
  pub connector-first : first_thread i.parts.now (length i.code.now.owners) ≡ 1 + number_of_classes i.parts.now
  connector-first = ap (first_thread i.parts.now) (sym t.parts.blocks) ∙ (let a = all-classes i.parts.now in omega (arith, a))

-- ---- nodes

module _ (i : Inside) (t : AreTablesOf i) where
  -- the code has as many nodes
  own-nodes : length i.blocks.code.nodes ≡ length (its_code (code_tabled i)).nodes
  own-nodes = ap (λ (c : Code). length c.nodes) t.own

  -- there is a slot for each node, and one number more
  pub slots-long : length i.slots.items ≡ suc (length (its_code (code_tabled i)).nodes)
  slots-long = ap length t.slots ∙ (length-numbers (slot_of i.blocks.code) (suc (length i.blocks.code.nodes)) ∙ ap (λ n. suc n) own-nodes)

  -- that of a node
  pub slot-read : (x : ℕ) → x ≤ length (its_code (code_tabled i)).nodes → slice_index i.slots.items x ≡ slot_of (its_code (code_tabled i)) x
  slot-read x l =
      ap (λ xs. slice_index xs x) t.slots
      ∙ (numbers-at (slot_of i.blocks.code) (suc (length i.blocks.code.nodes)) x (let n = own-nodes in omega (arith, l, n))
      ∙ ap (λ (c : Code). slot_of c x) t.own)

  -- there is a number of an inlet for each node
  pub inlets-long : length i.inlets.items ≡ length (its_code (code_tabled i)).nodes
  inlets-long = ap length t.inlets ∙ (length-numbers (inlet_of i.program.now i.blocks.code) (length i.blocks.code.nodes) ∙ own-nodes)

  -- that of a node
  pub inlet-read : (x : ℕ) → x < length (its_code (code_tabled i)).nodes → slice_index i.inlets.items x ≡ inlet_of i.program.now (its_code (code_tabled i)) x
  inlet-read x l =
      ap (λ xs. slice_index xs x) t.inlets
      ∙ (numbers-at (inlet_of i.program.now i.blocks.code) (length i.blocks.code.nodes) x (let n = own-nodes in omega (arith, l, n))
      ∙ ap (λ (c : Code). inlet_of i.program.now c x) t.own)

  -- there is a number among the choosing nodes for each
  pub choices-long : length i.choices.items ≡ length (its_code (code_tabled i)).nodes
  choices-long = ap length t.choices ∙ (length-numbers (place_in (choosing_nodes i.blocks.code)) (length i.blocks.code.nodes) ∙ own-nodes)

  -- that of a node
  pub choice-read : (x : ℕ) → x < length (its_code (code_tabled i)).nodes
      → slice_index i.choices.items x ≡ place_in (choosing_nodes (its_code (code_tabled i))) x
  choice-read x l =
      ap (λ xs. slice_index xs x) t.choices
      ∙ (numbers-at (place_in (choosing_nodes i.blocks.code)) (length i.blocks.code.nodes) x (let n = own-nodes in omega (arith, l, n))
      ∙ ap (λ (c : Code). place_in (choosing_nodes c) x) t.own)

  -- it is at most how many nodes there are
  pub choice-few : (x : ℕ) → place_in (choosing_nodes (its_code (code_tabled i))) x ≤ length (its_code (code_tabled i)).nodes
  choice-few x =
      let p = place-few (choosing_nodes (its_code (code_tabled i))) x in
      let f = choosing-few (its_code (code_tabled i)) in
      omega (arith, p, f)

  -- there is a thread for each node
  pub inlet_threads-long : length i.inlet_threads.items ≡ length (its_code (code_tabled i)).nodes
  inlet_threads-long = t.inlet_threads.each ∙ own-nodes

  -- that of an inlet
  pub inlet_thread-read : (x : ℕ) → x < length (its_code (code_tabled i)).nodes → is_inlet (kind_at (its_code (code_tabled i)) x) ≡ true
      → slice_index i.inlet_threads.items x ≡ thread_of_inlet (its_code (code_tabled i)) i.blocks.parts x
  inlet_thread-read x l h =
      t.inlet_threads.own x (let n = own-nodes in omega (arith, l, n)) (ap (λ (c : Code). is_inlet (kind_at c x)) t.own ∙ h)
      ∙ ap (λ (c : Code). thread_of_inlet c i.blocks.parts x) t.own
