-- The text of a node's line by its parts, of a block by its nodes, and of a graph by its codes.
use Rattle.std.proofs.Common.{◌≡◌, ◌∙◌, ℕ, suc, List, [], ◌∷◌, ◌++◌, Bool, true, false, flat_map, map, refl, sym, ap, append_assoc, true≢false, length}
use Rattle.std.specs.Prelude.{codes, Option, Some, None, slice_get, is_none}
use Rattle.std.proofs.lemmas.Grind.{flat_map-append}
use Rattle.std.proofs.lemmas.List.Folds.{flat_map-map}
use Rattle.tam_word.proofs.Members.{all-in, get-in, below-in}
use Rattle.tam_graph.specs.declared.node.Node.{Node}
use Rattle.tam_graph.specs.declared.kind.Kind.{Kind}
use Rattle.tam_graph.specs.declared.kind.Kind.TheVariants.{Param, Const, Op as Operate, Seq, Call, Arg, Ret, Give, Alloc, Fetch, Store, Cond, Switch, Merge}
use Rattle.tam_graph.specs.declared.kind.Kind.TheVariants.{Enter, Leave}
use Rattle.tam_graph.specs.Graphs.{Code, Graph, kind_at, nodes_in, node_numbers, or_kind, or_depth}
use Rattle.tam_text.specs.Names.{is_name}
use Rattle.tam_graph.specs.Written.{Visit, AtNode, AtElse, AtEnd, branches, visits, is_line}
use Rattle.tam_graph.specs.Texts.{Line, Bytes, line_text, visit_line, node_line, tokens, is_named, suffix, or_bytes, or_name, end_line, code_lines, canonical}
use Rattle.tam_graph.specs.Reading.{is_named_right, IsCodeOfText}
use Rattle.std.proofs.lemmas.Option.{slice_get_within}
use Rattle.tam_print.specs.PrintedLines.{prefix_text, block_text, branches_text, code_text}

-- ---- nodes

-- the line of a node with a name
named-line : (g : Graph) (c : Code) (name : List ℕ) (k : Kind)
    → line_text (Bytes name ∷ Bytes (codes "=") ∷ tokens g c k) ≡ name ++ (codes " = " ++ line_text (tokens g c k))
named-line g c name (Param k) = refl
named-line g c name (Const w) = refl
named-line g c name (Operate o a b) = refl
named-line g c name (Seq a b) = refl
named-line g c name (Call d) = refl
named-line g c name (Arg f k a) = refl
named-line g c name (Ret f k) = refl
named-line g c name (Give k a) = refl
named-line g c name (Alloc n) = refl
named-line g c name (Fetch a i) = refl
named-line g c name (Store a i v) = refl
named-line g c name (Cond p y n) = refl
named-line g c name (Switch d k a) = refl
named-line g c name (Merge d k) = refl
named-line g c name (Enter k) = refl
named-line g c name (Leave k a) = refl

-- a line's tokens with a name before them, where it has one
abbrev with_name : Bool → List ℕ → Line → Line
with_name t name ts = elim t [ true ↦ Bytes name ∷ Bytes (codes "=") ∷ ts | false ↦ ts ]

-- the line of a node, by what stands at its number
abbrev line_at : Graph → Code → Option Node → Line
line_at g c o = with_name (is_named (or_kind o)) (or_name o ++ suffix (or_depth o)) (tokens g c (or_kind o))

-- a name that is one isn't empty
no-name : is_name [] ≡ true → ⊥
no-name h = true≢false (sym h)

module _ (g : Graph) (codes_there : ℕ) (c : Code) (code : IsCodeOfText codes_there c) (x : ℕ) (n : Node) (there : slice_get c.nodes x ≡ Some n) where
  -- the node's line is one of the text
  pub right-line : is_line codes_there c n.kind ≡ true
  right-line =
      let h = all-in (λ x. is_line codes_there c (kind_at c x)) (node_numbers c) code.written.lines x
      (below-in x (length c.nodes) (slice_get_within c.nodes x n there)) in rw there at h

  -- it is what stands before the verb, and the tokens behind it
  pub node-text : line_text (node_line g c x) ≡ prefix_text n.name n.depth ++ line_text (tokens g c n.kind)
  node-text =
      ap (λ o. line_text (line_at g c o)) there
      ∙ go (is_named n.kind) n.name (all-in is_named_right c.nodes code.nodes_named n (get-in c.nodes x n there))
    where
      go : (t : Bool) (name : Option (List ℕ)) → (elim t as (λ _. Bool) [ true ↦ is_name (or_bytes name) | false ↦ is_none name ]) ≡ true
          → line_text (with_name t (or_bytes name ++ suffix n.depth) (tokens g c n.kind)) ≡ prefix_text name n.depth ++ line_text (tokens g c n.kind)
      go true None h = absurd (no-name h)
      go true (Some name) h =
          named-line g c (name ++ suffix n.depth) n.kind ∙ append_assoc name (suffix n.depth) (codes " = " ++ line_text (tokens g c n.kind))
          ∙ ap (λ l. name ++ l) (sym (append_assoc (suffix n.depth) (codes " = ") (line_text (tokens g c n.kind))))
          ∙ sym (append_assoc name (suffix n.depth ++ codes " = ") (line_text (tokens g c n.kind)))
      go false None h = refl
      go false (Some name) h = absurd (true≢false (sym h))

-- ---- blocks

-- the line of a node and what follows it
abbrev pub item_text : Graph → Code → ℕ → ℕ → List ℕ
item_text g c nesting x = line_text (node_line g c x) ++ branches_text g c nesting (kind_at c x)

module _ (g : Graph) (c : Code) (nesting : ℕ) where
  -- the text of a visit
  abbrev visit_text : Visit → List ℕ
  visit_text v = line_text (visit_line g c v)

  -- the branches' text
  branches-are : (x : ℕ) (k : Kind) → flat_map visit_text (branches (visits nesting c) x k) ≡ branches_text g c nesting k
  branches-are x (Cond p y n) =
      flat_map-append visit_text (visits nesting c y) (AtElse x ∷ visits nesting c n ++ AtEnd x ∷ [])
      ∙ ap (λ l. block_text g c nesting y ++ (codes "else\n" ++ l)) (flat_map-append visit_text (visits nesting c n) (AtEnd x ∷ []))
  branches-are x k = refl

  -- the text of nodes, one after the other
  nodes-text : (xs : List ℕ) → flat_map visit_text (flat_map (λ x. AtNode x ∷ branches (visits nesting c) x (kind_at c x)) xs)
      ≡ flat_map (item_text g c nesting) xs
  nodes-text [] = refl
  nodes-text (x ∷ xs) =
      flat_map-append visit_text (AtNode x ∷ branches (visits nesting c) x (kind_at c x))
      (flat_map (λ x. AtNode x ∷ branches (visits nesting c) x (kind_at c x)) xs)
      ∙ ap (λ l. (line_text (node_line g c x) ++ l) ++ flat_map visit_text (flat_map (λ x. AtNode x ∷ branches (visits nesting c) x (kind_at c x)) xs))
      (branches-are x (kind_at c x)) ∙ ap (λ l. item_text g c nesting x ++ l) (nodes-text xs)

  -- a block's text is that of its nodes
  pub block-text : (b : ℕ) → block_text g c (suc nesting) b ≡ flat_map (item_text g c nesting) (nodes_in c b)
  block-text b = nodes-text (nodes_in c b)

-- a node's line and what follows it, one behind the other
pub item-added : (g : Graph) (c : Code) (nesting x : ℕ) (n : Node) → slice_get c.nodes x ≡ Some n → (old between new : List ℕ)
    → between ≡ old ++ line_text (node_line g c x) → new ≡ between ++ branches_text g c nesting n.kind → new ≡ old ++ item_text g c nesting x
item-added g c nesting x n there old between new p q =
    q ∙ ap (λ l. l ++ branches_text g c nesting n.kind) p ∙ append_assoc old (line_text (node_line g c x)) (branches_text g c nesting n.kind)
    ∙ ap (λ (o : Option Node). old ++ (line_text (node_line g c x) ++ branches_text g c nesting (or_kind o))) (sym there)

-- ---- codes

-- a code's text
pub code-text : (g : Graph) (c : Code)
    → code_text g c ≡ line_text (Bytes (codes "code") ∷ Bytes c.name ∷ []) ++ (block_text g c (length c.owners) 0 ++ codes "end\n")
code-text g c =
    let lines = map (visit_line g c) (visits (length c.owners) c 0) in
    flat_map-append line_text ((Bytes (codes "code") ∷ Bytes c.name ∷ []) ∷ lines) (end_line ∷ [])
    ∙ append_assoc (line_text (Bytes (codes "code") ∷ Bytes c.name ∷ [])) (flat_map line_text lines) (codes "end\n")
    ∙ ap (λ l. line_text (Bytes (codes "code") ∷ Bytes c.name ∷ []) ++ (l ++ codes "end\n"))
    (flat_map-map line_text (visit_line g c) (visits (length c.owners) c 0))

-- a code's lines, one behind the other
pub code-added : (g : Graph) (c : Code) (name : List ℕ) (owners : List (Option ℕ)) → name ≡ c.name → owners ≡ c.owners → (old first body : List ℕ)
    → first ≡ old ++ line_text (Bytes (codes "code") ∷ Bytes name ∷ []) → body ≡ first ++ block_text g c (length owners) 0
    → body ++ codes "end\n" ≡ old ++ code_text g c
code-added g c name owners named owned old first body p q =
    let head = line_text (Bytes (codes "code") ∷ Bytes c.name ∷ []) in
    let begun : first ≡ old ++ head = p ∙ ap (λ n. old ++ line_text (Bytes (codes "code") ∷ Bytes n ∷ [])) named in
    let filled : body ≡ (old ++ head) ++ block_text g c (length c.owners) 0 = q ∙ ap (λ os. first ++ block_text g c (length os) 0) owned
    ∙ ap (λ l. l ++ block_text g c (length c.owners) 0) begun in
    ap (λ l. l ++ codes "end\n") filled ∙ append_assoc (old ++ head) (block_text g c (length c.owners) 0) (codes "end\n")
    ∙ append_assoc old head (block_text g c (length c.owners) 0 ++ codes "end\n") ∙ ap (λ l. old ++ l) (sym (code-text g c))

-- codes' lines as texts
codes-text : (g : Graph) (cs : List Code) → flat_map line_text (flat_map (code_lines g) cs) ≡ flat_map (code_text g) cs
codes-text g [] = refl
codes-text g (c ∷ cs) = flat_map-append line_text (code_lines g c) (flat_map (code_lines g) cs) ∙ ap (λ l. code_text g c ++ l) (codes-text g cs)

-- a graph's text
pub canonical-is : (g : Graph) → canonical g ≡ codes "dg 1\n" ++ flat_map (code_text g) g.codes
canonical-is g = ap (λ l. codes "dg 1\n" ++ l) (codes-text g g.codes)
