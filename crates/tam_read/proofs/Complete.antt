-- A text that reads as a graph has no fault, and what is read of it is that graph.
use Rattle.std.proofs.Common.{◌≡◌, ℕ, zero, suc, ◌+◌, ◌<◌, ◌≤◌, Bool, true, false, List, [], ◌∷◌, ◌++◌, length, map}
use Rattle.std.proofs.Common.{flat_map, Option, Some, refl, sym, ap, ap₂, subst, ◌∙◌, arith, inl, inr, ⊎_elim}
use Rattle.std.specs.Prelude.{codes as bytes_of, slice_get}
use Rattle.tam_word.specs.Lists.{all_of}
use Rattle.tam_word.proofs.Members.{In, left-in, right-in, in-append, in-get, get-in, all-in, in-map, map-in}
use Rattle.tam_graph.specs.declared.node.Node.{Node}
use Rattle.tam_text.specs.Lines.{lines_of, words_of, token_lines}
use Rattle.tam_text.specs.Names.{is_name}
use Rattle.tam_graph.specs.Graphs.{Code, Graph, graph_of, code_of, or_code}
use Rattle.tam_graph.specs.Texts.{Bytes, Line, graph_lines, code_lines}
use Rattle.tam_graph.specs.Reading.{same_line, same_lines, has_short_blocks, is_named_right, IsCodeOfText, IsOfText, Reads}
use Rattle.tam_read.specs.declared.form.Role.TheVariants as role
use Rattle.tam_read.specs.Sentences.{Sentence, sentence_of}
use Rattle.tam_read.specs.Faults.{is_head, said, said_from, sayings, faults, first_pass, last_line}
use Rattle.tam_read.specs.declared.table.Made.{Made}
use Rattle.tam_read.specs.Tables.{Entries, found, codes_from}
use Rattle.tam_read.specs.Naming.{Known, faults_known}
use Rattle.tam_read.specs.Parts.{pieces, codes_in, known_in, Piece}
use Rattle.tam_read.proofs.Codes.{CodeLines, lines_of_code, lines_of_codes}
use Rattle.tam_read.specs.Faults.{open_after}
use Rattle.tam_read.proofs.Clean.{AreClean}
use Rattle.tam_read.proofs.Contexts.{put_before}
use Rattle.tam_read.proofs.CodeByCode.{sayings-said_from, faults-by-codes}
use Rattle.tam_read.proofs.Looked.{code_list, found-codes}
use Rattle.tam_read.proofs.ReadCodes.{body_lines, known_of, known_among, code_of_lines, codes_read, plain_pieces, unnumbered}
use Rattle.tam_read.proofs.ReadCodes.{pieces-unnumbered, pieces-of-codes, codes-said, codes-of-pieces, code_said}
use Rattle.tam_read.proofs.Worded.{words_said}
use Rattle.tam_read.proofs.CodesSpelled.{entries_of}
use Rattle.tam_read.proofs.TokensBack.{AreNamed}
use Rattle.tam_read.proofs.TreeBack.{first-line}
use Rattle.tam_read.proofs.CodeBack.{AreCodes}
use Rattle.tam_read.proofs.CodesClean.{codes-clean-back}
use Rattle.tam_read.proofs.FirstBack.{good-lines, AreParsed, IsPassed, all-passed, pieces-none}
use Rattle.tam_read.proofs.CodesBack.{IsSaidCode, AreSaid, AreCodesBack, codes-back, two-back}
use Rattle.tam_read.proofs.TextBack.{code_names, names-entered, name-found, new-codes, said-there, code-is, body-faultless, cleanable, parsed}

-- the words of a head are a head
head-is : (w : List (List ℕ)) → w ≡ bytes_of "dg" ∷ bytes_of "1" ∷ [] → is_head w ≡ true
head-is w e = ap is_head e

-- a line of codes is one of a code
of-codes : (ds : List CodeLines) (s : Sentence) → In s (lines_of_codes ds) → (d : CodeLines) × In d ds × In s (lines_of_code d)
of-codes [] s i = absurd i
of-codes (d ∷ ds) s i =
    ⊎_elim (λ h. (d, inl refl, h)) (λ h. let r = of-codes ds s h in (r.0, inr r.1, r.2)) (in-append s (lines_of_code d) (lines_of_codes ds) i)

-- what a code's name names
abbrev a_code : ℕ → Option Made
a_code k = Some (record { role = role.Callee; number = k })

-- an element is within
within : (xs : List Code) (k : ℕ) (c : Code) → slice_get xs k ≡ Some c → k < length xs
within [] k c e = absurd cc
within (x ∷ xs) zero c e = omega arith
within (x ∷ xs) (suc k) c e = let h = within xs k c e in omega arith

-- and there is one at each place
there : (xs : List Code) (k : ℕ) → k < length xs → (c : Code) × (slice_get xs k ≡ Some c)
there [] k l = absurd (omega arith)
there (x ∷ xs) zero l = (x, refl)
there (x ∷ xs) (suc k) l = there xs k (omega arith)

module _ (bytes : List ℕ) (g : Graph) (r : Reads bytes g) where
  -- each of its codes is that of a text
  of-text : (c : Code) → In c g.codes → IsCodeOfText (length g.codes) c
  of-text c i =
      let k = in-get c g.codes i in
      let is : code_of g k.0 ≡ c = ap or_code k.1 in
      subst (λ z. IsCodeOfText (length g.codes) z) is (r.text.each_code k.0 (within g.codes k.0 c k.1))

  -- with names
  named : (c : Code) → In c g.codes → AreNamed g (length g.codes) c
  named c i = record {
    codes_named = λ d l. (r.text.each_code d l).named;
    nodes_named = λ x n e. all-in is_named_right c.nodes (of-text c i).nodes_named n (get-in c.nodes x n e);
  }

  -- the lines of its text
  lines : (ws : List (List (List ℕ))) → same_lines ws (flat_map (code_lines g) g.codes) ≡ true → AreCodesBack g g.codes ws
  lines ws h = codes-back g (length g.codes) g.codes (λ c i. (named c i, of-text c i)) ws h

  few : length g.codes ≤ 256
  few = r.text.few_codes

  module _ (ds : List CodeLines) (said : AreSaid g g.codes ds) where
    -- the codes are found by their names
    known : AreCodes g (length g.codes) (entries_of ds)
    known = record { found_at = λ d l. at d (there g.codes d l) }
      where
        at : (d : ℕ) → (c : Code) × (slice_get g.codes d ≡ Some c) → found (code_of g d).name (entries_of ds) ≡ Some (record { role = role.Callee; number = d })
        at d c =
            let is : code_of g d ≡ c.0 = ap or_code c.1 in
            ap (λ z. found z.name (entries_of ds)) is ∙ found-codes (c.0).name 0 (lines_of_codes ds) []
            ∙ ap (found (c.0).name) (names-entered g 0 g.codes ds said)
            ∙ name-found 0 g.codes r.text.codes_differ d c.0 c.1 ∙ ap a_code (omega arith)

    -- they are clean
    clean : AreClean [] (lines_of_codes ds) × (open_after (put_before [] (lines_of_codes ds)) ≡ [])
    clean =
        codes-clean-back [] ds refl
        (λ d i. let k = said-there g g.codes ds said d i in cleanable g (length g.codes) few k.0 (named k.0 k.1) (of-text k.0 k.1) d k.2 (entries_of ds) known
        (all-in has_short_blocks g.codes r.short k.0 k.1))
        (new-codes g [] g.codes ds said r.text.codes_differ (λ n p q. q) (let f = few in omega arith))

    all-parsed : AreParsed (lines_of_codes ds)
    all-parsed s i =
        let d = of-codes ds s i in
        let k = said-there g g.codes ds said d.0 d.1 in
        parsed g (length g.codes) few k.0 (named k.0 k.1) (of-text k.0 k.1) d.0 k.2 (entries_of ds) known s d.2

    -- what their lines name is found
    all-known : (d : CodeLines) → In d ds → (s : Sentence) → In s (body_lines d) → faults_known (known_of (entries_of ds) d) s ≡ []
    all-known d i s j =
        let k = said-there g g.codes ds said d i in
        (body-faultless g (length g.codes) few k.0 (named k.0 k.1) (of-text k.0 k.1) d k.2 (entries_of ds) known s j).known

    -- each code is that of its lines
    codes-same : (cs : List Code) (some : List CodeLines) → ((c : Code) → In c cs → In c g.codes) → AreSaid g cs some
        → cs ≡ map (code_of_lines (entries_of ds)) some
    codes-same [] [] h s = refl
    codes-same [] (d ∷ some) h s = absurd s
    codes-same (c ∷ cs) [] h s = absurd s
    codes-same (c ∷ cs) (d ∷ some) h s =
        let i = h c (inl refl) in
        ap₂ (λ a rest. a ∷ rest) (code-is g (length g.codes) few c (named c i) (of-text c i) d s.0 (entries_of ds) known)
        (codes-same cs some (λ z j. h z (inr j)) s.1)

    module _ (w : List (List ℕ)) (words : token_lines bytes ≡ w ∷ map words_said (lines_of_codes ds)) (is : is_head w ≡ true) where
      passed : IsPassed (last_line bytes) 1 [] (lines_of bytes) (lines_of_codes ds)
      passed = all-passed (last_line bytes) 1 (lines_of bytes) w (lines_of_codes ds) (good-lines bytes r.good) words is all-parsed clean.0 clean.1

      whole : sayings (said_from 1 (lines_of bytes)) ≡ lines_of_codes ds
      whole = sayings-said_from 1 (lines_of bytes) ∙ passed.sentences

      entries-are : codes_in (said_from 1 (lines_of bytes)) ≡ entries_of ds
      entries-are = ap (λ ss. codes_from 0 ss []) whole

      pieces-are : map unnumbered (pieces (said_from 1 (lines_of bytes))) ≡ map (λ d. (d.head, body_lines d)) ds
      pieces-are = pieces-unnumbered (said_from 1 (lines_of bytes)) ∙ ap plain_pieces whole ∙ pieces-of-codes ds

      -- the text has no fault
      faultless : faults bytes ≡ []
      faultless = faults-by-codes bytes passed.none
          ∙ pieces-none (codes_in (said_from 1 (lines_of bytes))) (pieces (said_from 1 (lines_of bytes))) (λ q i s j. piece q i s j)
        where
          piece : (q : Piece) → In q (pieces (said_from 1 (lines_of bytes))) → (s : Sentence) → In s (sayings q.body)
              → faults_known (known_in (codes_in (said_from 1 (lines_of bytes))) q.body) s ≡ []
          piece q i s j =
              let m = subst (λ ps. In (unnumbered q) ps) pieces-are (map-in unnumbered q (pieces (said_from 1 (lines_of bytes))) i) in
              let d = in-map (λ d. (d.head, body_lines d)) (unnumbered q) ds m in
              let body : body_lines d.0 ≡ sayings q.body = ap (λ p. p.1) d.2 in
              ap₂ (λ es ss. faults_known (known_among es ss) s) entries-are (sym body) ∙ all-known d.0 d.1 s (subst (λ ss. In s ss) (sym body) j)

      -- and reads as the graph of its codes
      graph-is : g ≡ graph_of (codes_read bytes)
      graph-is =
          let ns = said_from 1 (lines_of bytes) in
          let codes : codes_read bytes ≡ map (code_of_lines (entries_of ds)) ds =
          codes-of-pieces (codes_in ns) (pieces ns) ∙ ap (map (code_said (codes_in ns))) pieces-are ∙ codes-said (codes_in ns) ds
          ∙ ap (λ es. map (code_of_lines es) ds) entries-are in
          let same : g.codes ≡ codes_read bytes = codes-same g.codes ds (λ c i. i) said ∙ sym codes in
          let make : List Code → ℕ → Graph = λ cs m. record { codes = cs; main = m } in
          ap (make g.codes) r.text.main ∙ ap graph_of same

  -- both
  pub complete : (faults bytes ≡ []) × (g ≡ graph_of (codes_read bytes))
  complete =
      let f = first-line (token_lines bytes) (Bytes (bytes_of "dg") ∷ Bytes (bytes_of "1") ∷ []) (flat_map (code_lines g) g.codes) r.lines in
      let b = lines f.others f.second in
      let words : token_lines bytes ≡ f.line ∷ map words_said (lines_of_codes b.lines) = f.parts ∙ ap (λ ws. f.line ∷ ws) b.words in
      let is = head-is f.line (two-back f.line (bytes_of "dg") (bytes_of "1") f.first) in
      (faultless b.lines b.said f.line words is, graph-is b.lines b.said f.line words is)
