-- The codes that are read of a text without a fault of the first pass: each is built of a tree of lines.
use Rattle.std.proofs.Common.{◌≡◌, ℕ, zero, suc, ◌+◌, ◌≤◌, Bool, true, false, List, [], ◌∷◌, ◌++◌, length, map, flat_map, None, refl, sym, ap, ap₂, subst}
use Rattle.std.proofs.Common.{◌∙◌, true≢false, append_assoc, arith}
use Rattle.std.proofs.lemmas.List.{map-append, append-nil}
use Rattle.tam_text.specs.Lines.{lines_of, words_of}
use Rattle.tam_graph.specs.Graphs.{Code}
use Rattle.tam_read.specs.declared.form.Verb.{Verb}
use Rattle.tam_read.specs.declared.form.Verb.TheVariants as verb
use Rattle.tam_read.specs.Sentences.{Sentence, is_code, code_begun}
use Rattle.tam_read.specs.Faults.{until_code, open_after, sayings, said, said_from, first_pass, last_line}
use Rattle.tam_read.specs.Tables.{Entries, nodes_from, codes_from}
use Rattle.tam_read.specs.Naming.{Known}
use Rattle.tam_read.specs.Building.{Built, built, nothing_built}
use Rattle.tam_read.specs.Parts.{Numbered, Piece, body_of, pieces, known_in, codes_in, code_built, or_nameless, part_made, parts_in}
use Rattle.tam_read.proofs.Nested.{Tree, Done, Plain, Branch, flat, Fits, is_plain_verb, Nests}
use Rattle.tam_read.proofs.Codes.{CodeLines, lines_of_code, lines_of_codes, InCodes, in_codes, nests}
use Rattle.tam_read.proofs.Clean.{AreClean, NoCode, clean-lines}
use Rattle.tam_read.proofs.Contexts.{until-here, until-prefix}
use Rattle.tam_read.proofs.CodeByCode.{sayings-said_from}
use Rattle.tam_read.proofs.TreeBuilt.{tree_nodes, tree_owners, code-built}
use Rattle.tam_read.proofs.BlocksInOrder.{IsOfTree}

-- ---- pieces without the numbers of their lines

-- the codes of sentences, each the first line and the lines up to the next code
abbrev pub plain_pieces : List Sentence → List (Sentence × List Sentence)
plain_pieces [] = []
plain_pieces (s ∷ ss) = elim (is_code s.verb) [ true ↦ (s, until_code ss) ∷ plain_pieces ss | false ↦ plain_pieces ss ]

-- a piece without numbers
abbrev pub unnumbered : Piece → Sentence × List Sentence
unnumbered q = (q.head, sayings q.body)

-- the lines up to the next code
body-unnumbered : (ps : Numbered) → sayings (body_of ps) ≡ until_code (sayings ps)
body-unnumbered [] = refl
body-unnumbered (p ∷ ps) = go (is_code p.1.verb) refl (body-unnumbered ps)
  where
    go : (b : Bool) → is_code p.1.verb ≡ b → sayings (body_of ps) ≡ until_code (sayings ps) → sayings (body_of (p ∷ ps)) ≡ until_code (p.1 ∷ sayings ps)
    go true e i = rw (body_of, until_code, e) refl
    go false e i = rw (body_of, until_code, e) (ap (λ ss. p.1 ∷ ss) i)

-- the codes of lines
pub pieces-unnumbered : (ps : Numbered) → map unnumbered (pieces ps) ≡ plain_pieces (sayings ps)
pieces-unnumbered [] = refl
pieces-unnumbered (p ∷ ps) = go (is_code p.1.verb) refl (pieces-unnumbered ps)
  where
    go : (b : Bool) → is_code p.1.verb ≡ b → map unnumbered (pieces ps) ≡ plain_pieces (sayings ps)
        → map unnumbered (pieces (p ∷ ps)) ≡ plain_pieces (p.1 ∷ sayings ps)
    go true e i = rw (pieces, plain_pieces, e) (ap₂ (λ b qs. (p.1, b) ∷ qs) (body-unnumbered ps) i)
    go false e i = rw (pieces, plain_pieces, e) i

-- ---- the pieces of codes that are trees

-- lines one behind the other
no-code-append : (xs ys : List Sentence) → NoCode xs → NoCode ys → NoCode (xs ++ ys)
no-code-append [] ys a b = b
no-code-append (x ∷ xs) ys a b = (a.0, no-code-append xs ys a.1 b)

-- a plain verb begins no code
plain-no-code : (v : Verb) → is_plain_verb v ≡ true → is_code v ≡ false
plain-no-code verb.Code e = absurd (true≢false (sym e))
plain-no-code v e = refl

-- no line of a tree begins a code
pub tree-no-code : (t : Tree) → Fits t → NoCode (flat t)
tree-no-code Done f = tt
tree-no-code (Plain s r) f = (plain-no-code s.verb f.0, tree-no-code r f.1)
tree-no-code (Branch s y t n e r) f = (
  ap is_code f.0,
  no-code-append (flat y) (t ∷ (flat n ++ (e ∷ flat r))) (tree-no-code y f.1)
      (ap is_code f.2, no-code-append (flat n) (e ∷ flat r) (tree-no-code n f.3) (ap is_code f.4, tree-no-code r f.5)),
)

-- the lines of a code behind its first
abbrev pub body_lines : CodeLines → List Sentence
body_lines d = flat d.body ++ d.close ∷ []

-- no line of a body does
pub body-no-code : (d : CodeLines) → NoCode (body_lines d)
body-no-code d = no-code-append (flat d.body) (d.close ∷ []) (tree-no-code d.body d.fits) (ap is_code d.closes, tt)

-- lines before a code
skip-no-code : (xs rest : List Sentence) → NoCode xs → plain_pieces (xs ++ rest) ≡ plain_pieces rest
skip-no-code [] rest none = refl
skip-no-code (x ∷ xs) rest none = rw (plain_pieces, none.0) (skip-no-code xs rest none.1)

-- codes begin at once
none-before-codes : (ds : List CodeLines) → until_code (lines_of_codes ds) ≡ []
none-before-codes [] = refl
none-before-codes (d ∷ ds) = until-here d.head (body_lines d ++ lines_of_codes ds) (ap is_code d.begins)

-- the codes of codes' lines
pub pieces-of-codes : (ds : List CodeLines) → plain_pieces (lines_of_codes ds) ≡ map (λ d. (d.head, body_lines d)) ds
pieces-of-codes [] = refl
pieces-of-codes (d ∷ ds) =
    let so : is_code d.head.verb ≡ true = ap is_code d.begins in
    rw (plain_pieces, so)
    (ap₂ (λ b qs. (d.head, b) ∷ qs) (until-prefix (body_lines d) (lines_of_codes ds) (body-no-code d) (none-before-codes ds))
    (skip-no-code (body_lines d) (lines_of_codes ds) (body-no-code d) ∙ pieces-of-codes ds))

-- ---- what is read

-- the names that are known in a code of these lines
abbrev pub known_among : Entries → List Sentence → Known
known_among codes body = record { nodes = nodes_from 0 body []; codes = codes }

-- the code of lines
abbrev pub code_said : Entries → Sentence × List Sentence → Code
code_said codes p = code_built (or_nameless (code_begun p.0)) (built (known_among codes p.1) nothing_built p.1)

-- the names that are known in a code
abbrev pub known_of : Entries → CodeLines → Known
known_of codes d = known_among codes (body_lines d)

-- the code of a code's lines
abbrev pub code_of_lines : Entries → CodeLines → Code
code_of_lines codes d = record {
  name = or_nameless (code_begun d.head);
  nodes = tree_nodes (known_of codes d) d.body 0 1;
  owners = None ∷ tree_owners d.body 0;
}

-- it is built of the lines
code-said : (codes : Entries) (d : CodeLines) → code_said codes (d.head, body_lines d) ≡ code_of_lines codes d
code-said codes d = ap (code_built (or_nameless (code_begun d.head))) (code-built (known_of codes d) d.body d.close d.fits d.closes)

-- it is that of its tree
pub code-of-tree : (codes : Entries) (d : CodeLines) → IsOfTree (known_of codes d) d.body (code_of_lines codes d)
code-of-tree codes d = record { fits = d.fits; nodes = refl; owners = refl }

-- so are all
pub codes-said : (codes : Entries) (ds : List CodeLines) → map (code_said codes) (map (λ d. (d.head, body_lines d)) ds) ≡ map (code_of_lines codes) ds
codes-said codes [] = refl
codes-said codes (d ∷ ds) = ap₂ (λ c cs. c ∷ cs) (code-said codes d) (codes-said codes ds)

-- the codes of pieces
pub codes-of-pieces : (codes : Entries) (qs : List Piece) → map (λ p. p.code) (map (part_made codes) qs) ≡ map (code_said codes) (map unnumbered qs)
codes-of-pieces codes [] = refl
codes-of-pieces codes (q ∷ qs) = ap (λ cs. code_said codes (unnumbered q) ∷ cs) (codes-of-pieces codes qs)

-- the codes of a text
abbrev pub codes_read : List ℕ → List Code
codes_read bytes = map (λ p. p.code) (parts_in bytes)

-- a text without a fault of the first pass: its codes, each a tree of lines, that are clean
pub record IsRead (bytes : List ℕ) : Type 0 where
  pub lines : List CodeLines
  pub said : sayings (said_from 1 (lines_of bytes)) ≡ lines_of_codes lines
  pub clean : AreClean [] (lines_of_codes lines)
  pub codes : codes_read bytes ≡ map (code_of_lines (codes_from 0 (lines_of_codes lines) [])) lines

-- such a text is read
pub text-is-read : (bytes : List ℕ) → first_pass (last_line bytes) [] 1 (lines_of bytes) ≡ [] → IsRead bytes
text-is-read bytes e =
    let ns = said_from 1 (lines_of bytes) in
    let ss = said (map words_of (lines_of bytes)) in
    let i = in_codes (length ss) ss (omega arith) (nests (last_line bytes) [] 1 (lines_of bytes) e) in
    let whole : sayings ns ≡ lines_of_codes i.codes = sayings-said_from 1 (lines_of bytes) ∙ i.whole in
    let entries : codes_in ns ≡ codes_from 0 (lines_of_codes i.codes) [] = ap (λ ts. codes_from 0 ts []) whole in
    record {
      lines = i.codes;
      said = whole;
      clean = subst (λ ts. AreClean [] ts) i.whole (clean-lines (last_line bytes) [] 1 (lines_of bytes) e);
      codes =
          codes-of-pieces (codes_in ns) (pieces ns) ∙ ap (map (code_said (codes_in ns))) (pieces-unnumbered ns ∙ ap plain_pieces whole
          ∙ pieces-of-codes i.codes)
          ∙ codes-said (codes_in ns) i.codes ∙ ap (λ es. map (code_of_lines es) i.codes) entries;
    }
