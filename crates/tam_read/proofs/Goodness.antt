-- No line of a text without a fault has a fault: its names and numbers are right, and what it names is found.
use Rattle.std.proofs.Common.{◌≡◌, ℕ, suc, ◌+◌, ◌≤◌, Bool, true, false, not, ◌&&◌, List, [], ◌∷◌, ◌++◌, length, map, flat_map, refl, sym, ap, ap₂, subst, ◌∙◌}
use Rattle.std.proofs.Common.{true≢false, arith, inl, inr, ◌⊎◌, ⊎_elim}
use Rattle.tam_word.specs.Lists.{where_so, all_of}
use Rattle.tam_word.proofs.Members.{In, left-in, right-in, in-append, in-map, map-in, none-left, none-right, map-none}
use Rattle.tam_word.proofs.Tests.{both-true, not-true}
use Rattle.tam_text.specs.Names.{is_name}
use Rattle.tam_text.specs.Lines.{lines_of, words_of}
use Rattle.tam_read.specs.declared.cause.ReadCause.{ReadCause}
use Rattle.tam_read.specs.declared.cause.ReadCause.TheVariants.{UnknownName, UnknownCode}
use Rattle.tam_read.specs.declared.form.Role.{Role}
use Rattle.tam_read.specs.declared.form.Verb.TheVariants as verb
use Rattle.tam_read.specs.Sentences.{Sentence, has_form, roles_of, each_token, is_name_for, is_number_for, names_made}
use Rattle.tam_read.specs.Faults.{has_bad_name, has_bad_number, faults_of_sentence, said, said_from, sayings, first_pass, last_line, faults}
use Rattle.tam_read.specs.Tables.{Entries, is_node, codes_from}
use Rattle.tam_read.specs.Naming.{Known, is_node_found, is_code_found, faults_known, faults_within}
use Rattle.tam_read.specs.Parts.{Numbered, Piece, pieces, known_in, codes_in, faults_of_pieces}
use Rattle.tam_read.proofs.Nothing.{where_none}
use Rattle.tam_read.proofs.Codes.{CodeLines, lines_of_code, lines_of_codes}
use Rattle.tam_read.proofs.Clean.{AreClean, IsClean, clean-parts}
use Rattle.tam_read.proofs.Contexts.{put_before}
use Rattle.tam_read.proofs.CodeByCode.{sayings-said_from, faults-by-codes}
use Rattle.tam_read.proofs.ReadCodes.{plain_pieces, unnumbered, pieces-unnumbered, pieces-of-codes, body_lines, known_among, known_of, IsRead, text-is-read}
use Rattle.tam_read.proofs.Spelling.{IsGood}
use Rattle.tam_read.proofs.TreeSpelled.{IsGoodLine}
use Rattle.tam_read.proofs.TextLines.{all-formed}
use Rattle.tam_read.proofs.CodesSpelled.{IsGoodCode, entries_of}

-- a sentence among clean ones is clean, behind some
pub clean-there : (before ss : List Sentence) (s : Sentence) → AreClean before ss → In s ss → (b : List Sentence) × (faults_of_sentence b s ≡ [])
clean-there before [] s c i = absurd i
clean-there before (t ∷ ss) s c (inl e) = (before, subst (λ z. faults_of_sentence before z ≡ []) e c.0)
clean-there before (t ∷ ss) s c (inr i) = clean-there (t ∷ before) ss s c.1 i

-- what isn't refused holds
not-so : (t : Bool) → not t ≡ false → t ≡ true
not-so true h = refl
not-so false h = absurd (true≢false h)

-- its names and its numbers
pub names-right : (s : Sentence) → has_bad_name s ≡ false → (all_of is_name (names_made s) ≡ true) × (each_token is_name_for (roles_of s.verb) s.rest ≡ true)
names-right s e = both-true (all_of is_name (names_made s)) (each_token is_name_for (roles_of s.verb) s.rest)
    (not-so (all_of is_name (names_made s) && each_token is_name_for (roles_of s.verb) s.rest) e)

-- its numbers
pub numbers-right : (s : Sentence) → has_bad_number s ≡ false → each_token is_number_for (roles_of s.verb) s.rest ≡ true
numbers-right s e = not-so (each_token is_number_for (roles_of s.verb) s.rest) e

-- what a line without a fault of the second pass names is found
pub known-right : (k : Known) (s : Sentence) → faults_known k s ≡ [] → (each_token (is_node_found k.nodes) (roles_of s.verb) s.rest ≡ true)
    × (each_token (is_code_found k.codes) (roles_of s.verb) s.rest ≡ true)
known-right k s e =
    let nodes = each_token (is_node_found k.nodes) (roles_of s.verb) s.rest in
    let codes = each_token (is_code_found k.codes) (roles_of s.verb) s.rest in (
      not-so nodes (where_none (not nodes) UnknownName (none-left (where_so (not nodes) UnknownName) (where_so (not codes) UnknownCode) e)),
      not-so codes (where_none (not codes) UnknownCode (none-right (where_so (not nodes) UnknownName) (where_so (not codes) UnknownCode) e)),
    )

-- no line of a code without a fault has one
within-right : (k : Known) (body : Numbered) → faults_within k body ≡ [] → (s : Sentence) → In s (sayings body) → faults_known k s ≡ []
within-right k [] e s i = absurd i
within-right k (p ∷ body) e s (inl same) = subst (λ z. faults_known k z ≡ []) same
    (map-none (λ c. (p.0, c)) (faults_known k p.1) (none-left (map (λ c. (p.0, c)) (faults_known k p.1)) (faults_within k body) e))
within-right k (p ∷ body) e s (inr i) = within-right k body (none-right (map (λ c. (p.0, c)) (faults_known k p.1)) (faults_within k body) e) s i

-- nor one of codes without a fault
pieces-right : (codes : Entries) (qs : List Piece) → faults_of_pieces codes qs ≡ [] → (q : Piece) → In q qs → (s : Sentence) → In s (sayings q.body)
    → faults_known (known_in codes q.body) s ≡ []
pieces-right codes [] e q i s j = absurd i
pieces-right codes (p ∷ qs) e q (inl same) s j =
    let p_right = within-right (known_in codes p.body) p.body (none-left (faults_within (known_in codes p.body) p.body) (faults_of_pieces codes qs) e) in
    subst (λ z. (s : Sentence) → In s (sayings z.body) → faults_known (known_in codes z.body) s ≡ []) same p_right s j
pieces-right codes (p ∷ qs) e q (inr i) s j = pieces-right codes qs (none-right (faults_within (known_in codes p.body) p.body)
    (faults_of_pieces codes qs) e) q i s j

-- a line of a code is one of the codes' lines
pub in-codes : (ds : List CodeLines) (d : CodeLines) (s : Sentence) → In d ds → In s (lines_of_code d) → In s (lines_of_codes ds)
in-codes [] d s i j = absurd i
in-codes (e ∷ ds) d s (inl same) j = left-in s (lines_of_code e) (lines_of_codes ds) (subst (λ z. In s (lines_of_code z)) (sym same) j)
in-codes (e ∷ ds) d s (inr i) j = right-in s (lines_of_code e) (lines_of_codes ds) (in-codes ds d s i j)

-- ---- a text without a fault

-- a text without a fault has none of the first pass
no-first : (fs gs : List (ℕ × ReadCause)) → (elim fs as (λ _. List (ℕ × ReadCause)) [ [] ↦ gs | f ∷ more ↦ f ∷ more ]) ≡ [] → fs ≡ []
no-first [] gs e = refl
no-first (f ∷ fs) gs e = absurd cc

-- a text without a fault has none of the first pass
pub first-faultless : (bytes : List ℕ) → faults bytes ≡ [] → first_pass (last_line bytes) [] 1 (lines_of bytes) ≡ []
first-faultless bytes e = no-first (first_pass (last_line bytes) [] 1 (lines_of bytes)) _ e

module _ (bytes : List ℕ) (none : faults bytes ≡ []) where
  first : first_pass (last_line bytes) [] 1 (lines_of bytes) ≡ []
  first = first-faultless bytes none

  pub read : IsRead bytes
  read = text-is-read bytes (first-faultless bytes none)

  entries-are : codes_in (said_from 1 (lines_of bytes)) ≡ entries_of read.lines
  entries-are = ap (λ ss. codes_from 0 ss []) read.said

  no-piece : faults_of_pieces (codes_in (said_from 1 (lines_of bytes))) (pieces (said_from 1 (lines_of bytes))) ≡ []
  no-piece = sym (faults-by-codes bytes first) ∙ none

  -- each line of the codes has its form
  pub formed : (s : Sentence) → In s (lines_of_codes read.lines) → has_form s.name s.rest s.verb ≡ true
  formed s i = all-formed (map words_of (lines_of bytes)) s (subst (λ ss. In s ss) (sym read.said ∙ sayings-said_from 1 (lines_of bytes)) i)

  -- what a line of a code's body names is found
  found-there : (d : CodeLines) → In d read.lines → (s : Sentence) → In s (body_lines d) → faults_known (known_of (entries_of read.lines) d) s ≡ []
  found-there d i s j =
      let ns = said_from 1 (lines_of bytes) in
      let plain : map unnumbered (pieces ns) ≡ map (λ d. (d.head, body_lines d)) read.lines = pieces-unnumbered ns ∙ ap plain_pieces read.said
      ∙ pieces-of-codes read.lines in
      let m : In (d.head, body_lines d) (map unnumbered (pieces ns)) = subst (λ ps. In (d.head, body_lines d) ps) (sym plain)
      (map-in (λ d. (d.head, body_lines d)) d read.lines i) in
      let q = in-map unnumbered (d.head, body_lines d) (pieces ns) m in
      let body : sayings (q.0).body ≡ body_lines d = ap (λ p. p.1) q.2 in
      let h : faults_known (known_among (codes_in ns) (sayings (q.0).body)) s
      ≡ [] = pieces-right (codes_in ns) (pieces ns) no-piece q.0 q.1 s (subst (λ ss. In s ss) (sym body) j) in
      ap₂ (λ es ss. faults_known (known_among es ss) s) (sym entries-are) (sym body) ∙ h

  -- no line of its codes has a fault
  pub good-codes : (d : CodeLines) → In d read.lines → IsGoodCode (entries_of read.lines) d
  good-codes d i = record {
    head = formed d.head (in-codes read.lines d d.head i (inl refl));
    lines = λ s j. good s j;
  }
    where
      good : (s : Sentence) → In s (body_lines d) → IsGoodLine (known_of (entries_of read.lines) d) s
      good s j =
          let there = in-codes read.lines d s i (inr j) in
          let c = clean-there [] (lines_of_codes read.lines) s read.clean there in
          let p = clean-parts c.0 s c.1 in
          let k = known-right (known_of (entries_of read.lines) d) s (found-there d i s j) in
          record {
            form = formed s there;
            node = λ e. record {
              node = e;
              form = formed s there;
              names = (names-right s p.names).0;
              numbers = numbers-right s p.numbers;
              nodes = k.0;
              codes = k.1;
            };
          }
