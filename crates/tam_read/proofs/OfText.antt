-- A text without a fault reads as the graph of its codes.
use Rattle.std.proofs.Common.{◌≡◌, ℕ, zero, suc, ◌+◌, ◌<◌, ◌≤◌, Bool, true, false, List, [], ◌∷◌, ◌++◌, length, map, flat_map, Some, refl, sym, ap, ap₂}
use Rattle.std.proofs.Common.{subst, ◌∙◌, arith, inl}
use Rattle.std.specs.Prelude.{slice_get, codes as bytes_of}
use Rattle.std.specs.List.{filter}
use Rattle.tam_word.specs.Lists.{all_differ, same_bytes}
use Rattle.tam_word.proofs.Members.{In, get-in, in-all, in-map}
use Rattle.tam_text.specs.Lines.{lines_of, words_of, token_lines, is_some_of, are_good_bytes}
use Rattle.tam_graph.specs.Graphs.{Code, Graph, graph_of, code_of, or_code}
use Rattle.tam_graph.specs.Texts.{Line, Bytes, graph_lines, code_lines}
use Rattle.tam_graph.specs.Written.{IsWritten}
use Rattle.tam_graph.specs.Reading.{same_lines, has_short_blocks, is_short, IsCodeOfText, IsOfText, Reads}
use Rattle.tam_read.specs.Sentences.{Sentence, has_form, code_begun}
use Rattle.tam_read.specs.Faults.{vertices, faults, said, said_from, sayings, opened}
use Rattle.tam_read.specs.Parts.{or_nameless}
use Rattle.tam_read.proofs.Nested.{flat}
use Rattle.tam_read.proofs.Codes.{CodeLines, lines_of_code, lines_of_codes}
use Rattle.tam_read.proofs.Clean.{clean-parts, names-differ}
use Rattle.tam_read.proofs.CodeByCode.{sayings-said_from, clean-prefix}
use Rattle.tam_read.proofs.BlocksInOrder.{nodes-ordered, blocks-ordered}
use Rattle.tam_read.proofs.ReadCodes.{body_lines, body-no-code, code_of_lines, code-of-tree, known_of, codes_read}
use Rattle.tam_read.proofs.Worded.{words_said}
use Rattle.tam_read.proofs.TreeSpelled.{same-first}
use Rattle.tam_read.proofs.CodesSpelled.{IsGoodCode, entries_of, graph_read, codes-spelled}
use Rattle.tam_read.proofs.TextLines.{lines-good, all-good, all-words}
use Rattle.tam_read.proofs.Goodness.{first-faultless, read, good-codes, formed, clean-there, in-codes, names-right}
use Rattle.tam_read.proofs.NodesRight.{lines-right, depths-right, names-right as nodes-named}
use Rattle.tam_read.proofs.Bounded.{IsCleanCode, codes-clean, code-bounded, code-vertices}
use Rattle.tam_read.proofs.BlockLimits.{vertices-append, blocks-small, code-small, blocks-shallow}
use Rattle.tam_read.proofs.NamesDiffer.{mapped, code-names-differ, codes-differ, head-named, few-codes}

-- at each place there is an element
there : {X : Type 0} (xs : List X) (k : ℕ) → k < length xs → (x : X) × (slice_get xs k ≡ Some x)
there [] k l = absurd (omega arith)
there (x ∷ xs) zero l = (x, refl)
there (x ∷ xs) (suc k) l = there xs k (omega arith)

-- an element of an image
get-mapped : {X Y : Type 0} (f : X → Y) (xs : List X) (k : ℕ) (x : X) → slice_get xs k ≡ Some x → slice_get (map f xs) k ≡ Some (f x)
get-mapped f [] k x e = absurd cc
get-mapped f (y ∷ ys) zero x e = let same : y ≡ x = cc in ap (λ z. Some (f z)) same
get-mapped f (y ∷ ys) (suc k) x e = get-mapped f ys k x e

-- the names of the codes
names-mapped : (ds : List CodeLines) (some : List CodeLines) → map (λ c. c.name) (map (code_of_lines (entries_of ds)) some)
    ≡ map (λ d. or_nameless (code_begun d.head)) some
names-mapped ds [] = refl
names-mapped ds (d ∷ some) = ap (λ ns. or_nameless (code_begun d.head) ∷ ns) (names-mapped ds some)

module _ (bytes : List ℕ) (none : faults bytes ≡ []) where
  -- each code is that of a text
  code-is : (d : CodeLines) → In d (read bytes none).lines → IsCodeOfText (length (read bytes none).lines)
      (code_of_lines (entries_of (read bytes none).lines) d)
  code-is d i =
      let ds = (read bytes none).lines in
      let es = entries_of ds in
      let c = code_of_lines es d in
      let of = code-of-tree es d in
      let good = good-codes bytes none d i in
      let k = codes-clean [] ds refl (read bytes none).clean d i in
      let bound = (code-bounded d k).bounded in
      let all = code-vertices d k in
      let few : vertices (flat d.body) ≤ 1024 = omega (arith, all, vertices-append (flat d.body) (d.close ∷ [])) in
      let head = clean-there [] (lines_of_codes ds) d.head (read bytes none).clean (in-codes ds d d.head i (inl refl)) in
      record {
        written = record {
          nodes_in_order = nodes-ordered (known_of es d) d.body c of;
          blocks_in_order = blocks-ordered (known_of es d) d.body c of;
          lines = lines-right ds d good;
          depths = depths-right ds d good;
          shallow = blocks-shallow (known_of es d) d.body c of bound;
          small_blocks = blocks-small (known_of es d) d.body c of bound 513 (omega arith);
          small = code-small (known_of es d) d.body c of bound few;
        };
        named = head-named d good.head (names-right d.head (clean-parts head.0 d.head head.1).names).1;
        nodes_named = nodes-named ds d good;
        nodes_differ = code-names-differ ds d good (names-differ (d.head ∷ k.before) (body_lines d)
            (clean-prefix (d.head ∷ k.before) (body_lines d) k.rest k.clean.1) (body-no-code d));
      }

  -- with blocks no larger than a text's
  code-short : (d : CodeLines) → In d (read bytes none).lines → has_short_blocks (code_of_lines (entries_of (read bytes none).lines) d) ≡ true
  code-short d i =
      let ds = (read bytes none).lines in
      let es = entries_of ds in
      let k = codes-clean [] ds refl (read bytes none).clean d i in
      blocks-small (known_of es d) d.body (code_of_lines es d) (code-of-tree es d) (code-bounded d k).bounded 129 (omega arith)

  all-short : is_short (graph_read (read bytes none).lines) ≡ true
  all-short =
      let ds = (read bytes none).lines in
      in-all has_short_blocks (map (code_of_lines (entries_of ds)) ds) (λ c i. let m = in-map (code_of_lines (entries_of ds)) c ds i in
      subst (λ z. has_short_blocks z ≡ true) m.2 (code-short m.0 m.1))

  each : (n : ℕ) → n < length (map (code_of_lines (entries_of (read bytes none).lines)) (read bytes none).lines)
      → IsCodeOfText (length (map (code_of_lines (entries_of (read bytes none).lines)) (read bytes none).lines))
      (code_of (graph_read (read bytes none).lines) n)
  each n l =
      let ds = (read bytes none).lines in
      let make = code_of_lines (entries_of ds) in
      let long : length (map make ds) ≡ length ds = mapped make ds in
      let d = there ds n (omega (arith, long)) in
      let is : code_of (graph_read ds) n ≡ make d.0 = ap or_code (get-mapped make ds n d.0 d.1) in
      subst (λ c. IsCodeOfText (length (map make ds)) c) (sym is) (subst (λ m. IsCodeOfText m (make d.0)) (sym long) (code-is d.0 (get-in ds n d.0 d.1)))

  -- so is the graph
  pub graph-of-text : IsOfText (graph_read (read bytes none).lines)
  graph-of-text =
      let ds = (read bytes none).lines in
      let heads : (d : CodeLines) → In d ds → has_form d.head.name d.head.rest d.head.verb ≡ true = λ d i. (good-codes bytes none d i).head in
      record {
        each_code = λ n l. each n l;
        few_codes = (let few = few-codes ds (read bytes none).clean (λ s i. formed bytes none s i) heads in omega
            (arith, mapped (code_of_lines (entries_of ds)) ds));
        codes_differ = ap (all_differ same_bytes) (names-mapped ds ds) ∙ codes-differ ds (read bytes none).clean (λ s i. formed bytes none s i) heads;
        main = refl;
      }

  -- the lines are the graph's
  pub lines-spelled : same_lines (token_lines bytes) (graph_lines (graph_read (read bytes none).lines)) ≡ true
  lines-spelled =
      let ds = (read bytes none).lines in
      let w = all-words _ 1 (lines_of bytes) (first-faultless bytes none) in
      let words : token_lines bytes ≡ w.head ∷ map words_said (lines_of_codes ds) = w.parts
      ∙ ap (λ ss. w.head ∷ map words_said ss) (sym (sayings-said_from 1 (lines_of bytes)) ∙ (read bytes none).said) in
      ap (λ ws. same_lines ws (graph_lines (graph_read ds))) words
      ∙ same-first w.head (map words_said (lines_of_codes ds)) (Bytes (bytes_of "dg") ∷ Bytes (bytes_of "1") ∷ [])
      (flat_map (code_lines (graph_read ds)) (graph_read ds).codes) w.spelled
      (codes-spelled ds ds (λ d i. good-codes bytes none d i))

  graph-is : graph_read (read bytes none).lines ≡ graph_of (codes_read bytes)
  graph-is = ap graph_of (sym (read bytes none).codes)

  -- the text reads as the graph of the codes that are read
  pub faultless-reads : Reads bytes (graph_of (codes_read bytes))
  faultless-reads = subst (λ g. Reads bytes g) graph-is (record {
    good = lines-good bytes (all-good _ [] 1 (lines_of bytes) (first-faultless bytes none));
    text = graph-of-text;
    short = all-short;
    lines = lines-spelled;
  })
