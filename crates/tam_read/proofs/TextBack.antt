-- A text that reads as a graph has no fault, and the graph is that of its codes.
use Rattle.std.proofs.Common.{◌≡◌, ℕ, zero, suc, ◌+◌, ◌<◌, ◌≤◌, Bool, true, false, ◌&&◌, ◌==◌, nat_lt, List, [], ◌∷◌, ◌++◌, length, map, flat_map, Some, None}
use Rattle.std.proofs.Common.{Option, refl, sym, ap, ap₂, subst, ◌∙◌, true≢false, append_assoc, arith, inl, inr, ◌⊎◌, ⊎_elim}
use Rattle.std.specs.Prelude.{codes as bytes_of, slice_get, sum_by}
use Rattle.std.proofs.lemmas.Bool.{ltb-true}
use Rattle.std.proofs.lemmas.List.{append-nil, map-append}
use Rattle.std.proofs.lemmas.List.Concat.{flat_map-cons, flat_map-append}
use Rattle.tam_word.specs.Lists.{all_of, any_of, all_differ, same_bytes, below}
use Rattle.tam_word.proofs.Members.{In, left-in, right-in, in-append, in-get, all-in, below-in, in-any, get-in, in-map}
use Rattle.tam_graph.specs.declared.node.Node.{Node}
use Rattle.tam_text.specs.Lines.{lines_of, words_of, token_lines, are_good_bytes}
use Rattle.tam_text.specs.Names.{is_name}
use Rattle.tam_graph.specs.Graphs.{Code, Graph, graph_of, code_of, or_code, main_among, blocks_of, owner_of, one_or_none}
use Rattle.tam_graph.specs.Texts.{Bytes, Line, graph_lines, code_lines}
use Rattle.tam_graph.specs.Written.{depth_of_block, number_of_vertices}
use Rattle.tam_graph.specs.Reading.{same_line, same_lines, has_short_blocks, is_named_right, names_in, given_names, IsCode, IsCodeOfText, IsOfText, Reads}
use Rattle.tam_text.proofs.SameBytes.{same_self, same_equal}
use Rattle.tam_graph.proofs.NodeNames.{differ-behind}
use Rattle.tam_graph.proofs.Visited.{size, opened}
use Rattle.tam_read.specs.declared.form.Verb.TheVariants as verb
use Rattle.tam_read.specs.declared.form.Role.TheVariants as role
use Rattle.tam_read.specs.declared.table.Made.{Made}
use Rattle.tam_read.specs.Sentences.{Sentence, sentence_of, is_code, makes, names_made, code_begun, roles_of, is_name_for, each_token}
use Rattle.tam_read.specs.Faults.{vertices, until_code, said, said_from, sayings, is_head, has_bad_name, has_bad_number, faults, first_pass, last_line}
use Rattle.tam_read.specs.Tables.{Entries, found, is_node, nodes_from, codes_from, code_entries, code_behind}
use Rattle.tam_read.specs.Naming.{Known, faults_known}
use Rattle.tam_read.specs.Parts.{or_nameless, pieces, codes_in, faults_of_pieces, known_in, Piece}
use Rattle.tam_read.proofs.Nested.{Tree, flat, Fits}
use Rattle.tam_read.proofs.Codes.{CodeLines, lines_of_code, lines_of_codes}
use Rattle.tam_read.proofs.Clean.{AreClean, Apart, DifferBehind, NoCode}
use Rattle.tam_read.proofs.Contexts.{put_before}
use Rattle.tam_read.proofs.CodeByCode.{sayings-said_from, faults-by-codes}
use Rattle.tam_read.proofs.Looked.{code_list, found-codes}
use Rattle.tam_read.proofs.TreeBuilt.{shape, tree_nodes, tree_owners}
use Rattle.tam_read.proofs.TreeVisited.{in_row, below-row}
use Rattle.tam_read.proofs.BlocksInOrder.{IsOfTree, few-blocks}
use Rattle.tam_read.proofs.ReadCodes.{body_lines, body-no-code, known_of, known_among, code_of_lines, codes_read, plain_pieces}
use Rattle.tam_read.proofs.ReadCodes.{unnumbered, pieces-unnumbered, pieces-of-codes, codes-said, codes-of-pieces, code_said}
use Rattle.tam_read.proofs.Worded.{words_said}
use Rattle.tam_read.proofs.Spelling.{IsGood}
use Rattle.tam_read.proofs.TreeSpelled.{IsGoodLine}
use Rattle.tam_read.proofs.CodesSpelled.{entries_of, skip-lines}
use Rattle.tam_read.proofs.Goodness.{names-right, numbers-right, known-right}
use Rattle.tam_read.proofs.Bounded.{Bounded}
use Rattle.tam_read.proofs.BlockLimits.{Owned, owns, total, total-sum, counted, vertices-append, vertices-are}
use Rattle.tam_read.proofs.NamesDiffer.{tree-names, few-names}
use Rattle.tam_read.proofs.WrittenTrees.{shape_of}
use Rattle.tam_read.proofs.WrittenCodes.{IsNumbered}
use Rattle.tam_read.proofs.TokensBack.{AreNamed}
use Rattle.tam_read.proofs.LinesBack.{parse-plain, AreTokens}
use Rattle.tam_read.proofs.TreeBack.{alone, first-line}
use Rattle.tam_read.proofs.NodesBack.{Lined, Ends, Makes, Passes, tree-lined}
use Rattle.tam_read.proofs.CodeBack.{AreCodes, owners-back}
use Rattle.tam_read.proofs.CodeSame.{IsFaultless, nodes-same, holds-back, tree-faultless}
use Rattle.tam_read.proofs.CleanBack.{StandsIn, bounded-back}
use Rattle.tam_read.proofs.CodesClean.{IsCleanable, AreNewCodes, AreRight, codes-clean-back}
use Rattle.tam_read.proofs.FirstBack.{good-lines, AreParsed, IsPassed, all-passed, pieces-none}
use Rattle.tam_read.proofs.CodesBack.{blocks-all, node-right, IsSaidCode, AreSaid, AreCodesBack, codes-back, two-back}

-- ---- the table of codes

-- the codes' names with their numbers
abbrev pub code_names : ℕ → List Code → Entries
code_names n [] = []
code_names n (c ∷ cs) = (c.name, record { role = role.Callee; number = n }) ∷ code_names (suc n) cs

pub names-entered : (g : Graph) (n : ℕ) (cs : List Code) (ds : List CodeLines) → AreSaid g cs ds → code_list n (lines_of_codes ds) ≡ code_names n cs
names-entered g n [] [] s = refl
names-entered g n [] (d ∷ ds) s = absurd s
names-entered g n (c ∷ cs) [] s = absurd s
names-entered g n (c ∷ cs) (d ∷ ds) s =
    let first : code_entries n d.head ≡ (c.name, record { role = role.Callee; number = n }) ∷ [] = ap (code_entries n) (s.0).head in
    let next : code_behind d.head.verb n ≡ suc n = ap (λ v. code_behind v n) d.begins ∙ omega arith in
    ap₂ (λ es k. es ++ code_list k (body_lines d ++ lines_of_codes ds)) first next
    ∙ ap (λ es. (c.name, record { role = role.Callee; number = n }) ∷ es)
    (skip-lines (suc n) (body_lines d) (lines_of_codes ds) (body-no-code d) ∙ names-entered g (suc n) cs ds s.1)

pub name-found : (n : ℕ) (cs : List Code) → all_differ same_bytes (map (λ c. c.name) cs) ≡ true → (i : ℕ) (c : Code) → slice_get cs i ≡ Some c
    → found c.name (code_names n cs) ≡ Some (record { role = role.Callee; number = n + i })
name-found n [] d i c e = absurd cc
name-found n (b ∷ cs) d zero c e =
    let same : b ≡ c = cc in
    let here : same_bytes c.name b.name ≡ true = ap (λ z. same_bytes c.name z.name) same ∙ same_self c.name in
    let make : ℕ → Option Made = λ k. Some (record { role = role.Callee; number = k }) in
    rw (found, here) (ap make (omega arith))
name-found n (b ∷ cs) d (suc i) c e =
    let p = differ-behind b.name (map (λ c. c.name) cs) d in
    let make : ℕ → Option Made = λ k. Some (record { role = role.Callee; number = k }) in
    let other : same_bytes c.name b.name ≡ false = differs (same_bytes c.name b.name) refl p.0 in
    rw (found, other) (name-found (suc n) cs p.1 i c e ∙ ap make (omega arith))
  where
    named : (xs : List Code) (k : ℕ) → slice_get xs k ≡ Some c → In c.name (map (λ c. c.name) xs)
    named [] k f = absurd cc
    named (x ∷ xs) zero f = let same : x ≡ c = cc in inl (ap (λ z. z.name) same)
    named (x ∷ xs) (suc k) f = inr (named xs k f)

    differs : (t : Bool) → same_bytes c.name b.name ≡ t → any_of (same_bytes b.name) (map (λ c. c.name) cs) ≡ false → same_bytes c.name b.name ≡ false
    differs false f none = f
    differs true f none =
        let is = same_equal c.name b.name f in
        let turned : same_bytes b.name c.name ≡ true = ap (λ z. same_bytes z c.name) (sym is) ∙ same_self c.name in
        absurd (true≢false (sym (in-any (same_bytes b.name) (map (λ c. c.name) cs) c.name (named cs i e) turned) ∙ none))

-- ---- names that differ, line by line

differ-parts : (xs ys : List (List ℕ)) → all_differ same_bytes (xs ++ ys) ≡ true → Apart xs ys × (all_differ same_bytes ys ≡ true)
differ-parts [] ys d = (λ n p q. p, d)
differ-parts (x ∷ xs) ys d =
    let h = differ-behind x (xs ++ ys) d in
    let i = differ-parts xs ys h.1 in (
      λ n p q. ⊎_elim (λ same. true≢false (sym (in-any (same_bytes x) (xs ++ ys) n (right-in n xs ys q) (ap (same_bytes x) (sym same) ∙ same_self x)) ∙ h.0))
          (λ k. i.0 n k q) p,
      i.1,
    )

differ-lines : (ss : List Sentence) → all_differ same_bytes (flat_map names_made ss) ≡ true → DifferBehind ss
differ-lines [] d = tt
differ-lines (s ∷ ss) d =
    let p = differ-parts (names_made s) (flat_map names_made ss) (ap (all_differ same_bytes) (sym (flat_map-cons names_made s ss)) ∙ d) in
    (p.0, differ-lines ss p.1)

-- ---- new codes

begun-behind : (before ss : List Sentence) → NoCode ss → flat_map code_begun (put_before before ss) ≡ flat_map code_begun before
begun-behind before [] none = refl
begun-behind before (s ∷ ss) none =
    let nothing : code_begun s ≡ [] = rw (code_begun, none.0) refl in
    begun-behind (s ∷ before) ss none.1 ∙ flat_map-cons code_begun s before ∙ ap (λ ns. ns ++ flat_map code_begun before) nothing

pub new-codes : (g : Graph) (before : List Sentence) (cs : List Code) (ds : List CodeLines) → AreSaid g cs ds
    → all_differ same_bytes (map (λ c. c.name) cs) ≡ true
    → Apart (map (λ c. c.name) cs) (flat_map code_begun before) → length cs + length (flat_map code_begun before) ≤ 256 → AreNewCodes before ds
new-codes g before [] [] s d apart few = tt
new-codes g before [] (x ∷ ds) s d apart few = absurd s
new-codes g before (c ∷ cs) [] s d apart few = absurd s
new-codes g before (c ∷ cs) (x ∷ ds) s d apart few =
    let p = differ-behind c.name (map (λ c. c.name) cs) d in
    let begun : code_begun x.head ≡ c.name ∷ [] = ap code_begun (s.0).head in
    let next : flat_map code_begun (put_before before (lines_of_code x)) ≡ c.name ∷ flat_map code_begun before =
    begun-behind (x.head ∷ before) (body_lines x) (body-no-code x) ∙ flat_map-cons code_begun x.head before
    ∙ ap (λ ns. ns ++ flat_map code_begun before) begun in (
      λ n h q. ⊎_elim (λ same. apart n (inl same) q) (λ k. k) (subst (λ ns. In n ns) begun h),
      omega (arith, few),
      new-codes g (put_before before (lines_of_code x)) cs ds s.1 p.1
          (λ n h q. ⊎_elim (λ same. true≢false (sym
          (in-any (same_bytes c.name) (map (λ c. c.name) cs) n h (ap (same_bytes c.name) (sym same) ∙ same_self c.name)) ∙ p.0)) (λ k. apart n (inr h) k)
          (subst (λ ns. In n ns) next q))
          (omega (arith, few, ap length next)),
    )

-- a code's lines stand beside a code
pub said-there : (g : Graph) (cs : List Code) (ds : List CodeLines) → AreSaid g cs ds → (d : CodeLines) → In d ds → (c : Code) × In c cs × IsSaidCode g c d
said-there g [] [] s d i = absurd i
said-there g [] (x ∷ ds) s d i = absurd s
said-there g (c ∷ cs) [] s d i = absurd s
said-there g (c ∷ cs) (x ∷ ds) s d (inl e) = (c, inl refl, subst (λ z. IsSaidCode g c z) e s.0)
said-there g (c ∷ cs) (x ∷ ds) s d (inr i) = let r = said-there g cs ds s.1 d i in (r.0, inr r.1, r.2)

-- ---- one code

module _ (g : Graph) (codes : ℕ) (few : codes ≤ 256) (c : Code) (are : AreNamed g codes c) (of : IsCodeOfText codes c) (d : CodeLines) (said : IsSaidCode g c d)
    (es : Entries) (known : AreCodes g codes es) where
  many : length c.nodes ≡ size (shape d.body)
  many = said.numbered.many ∙ ap size (sym said.same)

  lined : Lined g c (body_lines d) 0 (length c.nodes)
  lined =
      let last : 0 + size (shape d.body) ≡ length c.nodes = omega (arith, many) in
      let ends : Lined g c (d.close ∷ []) (0 + size (shape d.body)) (0 + size (shape d.body)) = Passes (ap is_node d.closes) (ap makes d.closes) Ends in
      tree-lined g c d.body 0 (length c.nodes) (d.close ∷ []) d.fits said.says (subst (λ z. Lined g c (d.close ∷ []) (0 + size (shape d.body)) z) last ends)

  a_code : IsCode c
  a_code = (codes, few, of)

  nodes-are : c.nodes ≡ tree_nodes (known_of es d) d.body 0 1
  nodes-are =
      nodes-same g codes c are (node-right codes c of) a_code (body_lines d) lined es known d.body said.numbered.tree said.same
      said.numbered.stands said.numbered.nodes said.numbered.blocks said.says said.numbered.many

  owners-are : c.owners ≡ None ∷ tree_owners d.body 0
  owners-are = said.numbered.owners ∙ ap (λ os. None ∷ os) (owners-back d.body said.numbered.tree 0 said.same said.numbered.nodes)

  pub code-is : c ≡ code_of_lines es d
  code-is =
      let make : List ℕ → List Node → List (Option ℕ) → Code = λ n ns os. record { name = n; nodes = ns; owners = os } in
      let name : c.name ≡ or_nameless (code_begun d.head) = sym (ap (λ s. or_nameless (code_begun s)) said.head) in
      ap (λ n. make n c.nodes c.owners) name ∙ ap (λ ns. make (or_nameless (code_begun d.head)) ns c.owners) nodes-are
      ∙ ap (make (or_nameless (code_begun d.head)) (tree_nodes (known_of es d) d.body 0 1)) owners-are

  of-tree : IsOfTree (known_of es d) d.body c
  of-tree = record { fits = d.fits; nodes = nodes-are; owners = owners-are }

  -- no line of its body has a fault by itself
  pub body-faultless : (s : Sentence) → In s (body_lines d) → IsFaultless (known_of es d) s
  body-faultless s i =
      let close : IsFaultless (known_of es d) d.close =
      subst (λ z. IsFaultless (known_of es d) z) (sym said.close) (record { form = refl; names = refl; numbers = refl; known = refl; parse = refl }) in
      ⊎_elim (λ h. tree-faultless g codes c are (node-right codes c of) a_code (body_lines d) lined es known d.body 0 d.fits said.says s h)
      (λ h. last s h close) (in-append s (flat d.body) (d.close ∷ []) i)
    where
      last : (s : Sentence) → In s (d.close ∷ []) → IsFaultless (known_of es d) d.close → IsFaultless (known_of es d) s
      last s (inl e) f = subst (λ z. IsFaultless (known_of es d) z) e f
      last s (inr k) f = absurd k

  good-line : (s : Sentence) → In s (body_lines d) → IsGoodLine (known_of es d) s
  good-line s i =
      let f = body-faultless s i in
      let k = known-right (known_of es d) s f.known in
      record {
        form = f.form;
        node =
            λ e. record { node = e; form = f.form; names = (names-right s f.names).0; numbers = numbers-right s f.numbers; nodes = k.0; codes = k.1 };
      }

  head-right : (has_bad_name d.head ≡ false) × (has_bad_number d.head ≡ false) × (names_made d.head ≡ []) × (sentence_of (words_said d.head) ≡ d.head ∷ [])
  head-right =
      let named : is_name_for role.Code c.name ≡ true = of.named in
      let each : each_token is_name_for (role.Code ∷ []) (c.name ∷ []) ≡ true = rw (each_token, named) refl in
      let h : Sentence = record { name = []; verb = verb.Code; rest = c.name ∷ [] } in
      let tokens : AreTokens (roles_of verb.Code) (c.name ∷ []) = record { many = refl; named = each; numbered = refl } in (
        ap has_bad_name said.head ∙ rw (has_bad_name, each) refl,
        ap has_bad_number said.head,
        ap names_made said.head,
        subst (λ z. sentence_of (words_said z) ≡ z ∷ []) (sym said.head) (parse-plain verb.Code (c.name ∷ []) refl tokens),
      )

  vertices-few : vertices (flat d.body) ≤ 1024
  vertices-few =
      let long : length c.owners ≡ suc (opened (shape d.body)) = few-blocks (known_of es d) d.body c of-tree in
      let sum : sum_by (number_of_vertices c) (blocks_of c) ≡ total (number_of_vertices c) (in_row 0 (length c.owners)) =
      total-sum (number_of_vertices c) (blocks_of c) ∙ ap (total (number_of_vertices c)) (below-row (length c.owners)) in
      let alike_sum = alike (in_row 0 (length c.owners)) in
      let all = blocks-all (length c.owners) d.body 0 1 d.fits (omega (arith, long)) (omega (arith, long)) in
      let small : sum_by (number_of_vertices c) (blocks_of c) < 1025 = ltb-true (sum_by (number_of_vertices c) (blocks_of c)) 1025 of.written.small in
      omega (arith, sum, alike_sum, all, small)
    where
      alike : (xs : List ℕ) → total (number_of_vertices c) xs ≡ total (λ z. counted z d.body 0 1) xs
      alike [] = refl
      alike (x ∷ xs) = ap₂ (λ a b. a + b) (vertices-are (known_of es d) d.body c of-tree x) (alike xs)

  bounded : has_short_blocks c ≡ true → Bounded d.body 0 0
  bounded short =
      let q = known_of es d in
      let long : length c.owners ≡ suc (opened (shape d.body)) = few-blocks (known_of es d) d.body c of-tree in
      let holds = holds-back g codes c are (node-right codes c of) a_code (body_lines d) lined es known d.body said.numbered.tree 0 0 1 said.same
      said.numbered.stands said.numbered.nodes said.numbered.blocks said.says in
      let owned : Owned c d.body 0 1 = owns c d.body 0 1 (None ∷ []) [] (owners-are ∙ ap (λ os. None ∷ os) (sym (append-nil (tree_owners d.body 0)))) refl in
      let first : slice_get c.owners 0 ≡ Some None = ap (λ os. slice_get os 0) owners-are in
      let shallow : (z : ℕ) → z < length c.owners → depth_of_block (length c.owners) c z ≤ 16 = λ z l.
      (let i : depth_of_block (length c.owners) c z < 17 =
      ltb-true _ 17 (all-in (λ b. nat_lt (depth_of_block (length c.owners) c b) 17) (blocks_of c) of.written.shallow z (below-in z (length c.owners) l)) in
      omega arith) in
      let small : (z : ℕ) → z < length c.owners → counted z d.body 0 1 ≤ 128 = λ z l.
      (let i : number_of_vertices c z < 129 =
      ltb-true _ 129 (all-in (λ b. nat_lt (number_of_vertices c b) 129) (blocks_of c) short z (below-in z (length c.owners) l)) in
      let e = vertices-are q d.body c of-tree z in omega (arith, i, e)) in
      let outer = small 0 (omega (arith, long)) in
      bounded-back c q (length c.owners) d.body 0 0 1 0 0 holds owned (omega arith) (omega arith) (omega (arith, long)) (top first) shallow
      (omega (arith, outer)) (λ z lo hi. small z (omega (arith, long)))
    where
      top : slice_get c.owners 0 ≡ Some None → StandsIn c 0 0
      top e zero l = refl
      top e (suc f) l = let own : owner_of c 0 ≡ [] = ap one_or_none e in rw (depth_of_block, own) refl

  -- so its lines may be clean
  pub cleanable : has_short_blocks c ≡ true → IsCleanable d
  cleanable short =
      let names : all_differ same_bytes (flat_map names_made (flat d.body)) ≡ true =
      ap (all_differ same_bytes) (sym (ap (λ ns. given_names (map (λ n. n.name) ns)) nodes-are
      ∙ tree-names (known_of es d) d.body 0 1 d.fits (λ s i. good-line s (left-in s (flat d.body) (d.close ∷ []) i)))) ∙ of.nodes_differ in
      let no_name : names_made d.close ≡ [] = ap names_made said.close in
      let close : flat_map names_made (d.close ∷ []) ≡ [] = flat_map-cons names_made d.close [] ∙ ap (λ ns. ns ++ []) no_name in
      let all : flat_map names_made (body_lines d) ≡ flat_map names_made (flat d.body) =
      flat_map-append names_made (flat d.body) (d.close ∷ []) ∙ ap (λ ns. flat_map names_made (flat d.body) ++ ns) close
      ∙ append-nil (flat_map names_made (flat d.body)) in
      let no_vertex : vertices (d.close ∷ []) ≡ 0 = ap (λ s. vertices (s ∷ [])) said.close in
      record {
        bounded = bounded short;
        differ = differ-lines (body_lines d) (ap (all_differ same_bytes) all ∙ names);
        few = (let v = vertices-append (flat d.body) (d.close ∷ []) in let f = vertices-few in omega (arith, v, no_vertex, f));
        right = right;
        nameless = head-right.2;
      }
    where
      right : (s : Sentence) → In s (lines_of_code d) → (has_bad_name s ≡ false) × (has_bad_number s ≡ false)
      right s (inl e) = subst (λ z. (has_bad_name z ≡ false) × (has_bad_number z ≡ false)) e (head-right.0, head-right.1)
      right s (inr i) = let f = body-faultless s i in (f.names, f.numbers)

  pub parsed : (s : Sentence) → In s (lines_of_code d) → sentence_of (words_said s) ≡ s ∷ []
  parsed s (inl e) = subst (λ z. sentence_of (words_said z) ≡ z ∷ []) e head-right.3
  parsed s (inr i) = (body-faultless s i).parse
