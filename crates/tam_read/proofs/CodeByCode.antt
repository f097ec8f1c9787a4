-- The second pass goes code by code.
use Rattle.std.proofs.Common.{◌≡◌, ℕ, zero, suc, ◌+◌, ◌≤◌, ◌<◌, Bool, true, false, List, [], ◌∷◌, ◌++◌, length, map, take, flat_map, refl, sym, ap, subst}
use Rattle.std.proofs.Common.{◌∙◌, true≢false, arith}
use Rattle.std.proofs.lemmas.List.{map-append}
use Rattle.std.proofs.lemmas.List.Concat.{flat_map-cons}
use Rattle.tam_word.specs.Lists.{any_of, same_bytes}
use Rattle.tam_text.specs.Lines.{lines_of, words_of}
use Rattle.tam_read.specs.declared.cause.ReadCause.{ReadCause}
use Rattle.tam_read.specs.declared.form.Verb.{Verb}
use Rattle.tam_read.specs.declared.form.Verb.TheVariants as verb
use Rattle.tam_read.specs.declared.form.Role.{Role}
use Rattle.tam_read.specs.declared.form.Role.TheVariants as role
use Rattle.tam_read.specs.Sentences.{Sentence, sentence_of, is_code, code_begun}
use Rattle.tam_read.specs.Faults.{until_code, is_out_of_place, makes_named, faults_of_names, sayings, said, said_from, second_pass, faults_of_second}
use Rattle.tam_read.specs.Faults.{first_pass, last_line, faults, first_fault}
use Rattle.tam_read.specs.Tables.{Entries, found, nodes_from, codes_from}
use Rattle.tam_read.specs.Naming.{Known, is_made, faults_within}
use Rattle.tam_read.specs.Parts.{Numbered, Piece, body_of, pieces, known_in, faults_of_pieces, codes_in}
use Rattle.tam_read.proofs.Clean.{AreClean, NoCode, DifferBehind, clean-lines, clean-parts, names-differ}
use Rattle.tam_read.proofs.Looked.{node_list, found-nodes, nodes-found, code_list, found-codes, codes-found}
use Rattle.tam_read.proofs.Contexts.{put_before, until-here, code-faultless, body-faults}

-- ---- sentences and their numbers

-- what the lines say, their numbers left out
pub sayings-said_from : (n : ℕ) (lines : List (List ℕ)) → sayings (said_from n lines) ≡ said (map words_of lines)
sayings-said_from n [] = refl
sayings-said_from n (line ∷ lines) =
    map-append (λ (p : ℕ × Sentence). p.1) (map (λ s. (n, s)) (sentence_of (words_of line))) (said_from (n + 1) lines)
    ∙ ap (λ ss. ss ++ sayings (said_from (n + 1) lines)) (unnumbered (sentence_of (words_of line)))
    ∙ ap (λ ss. sentence_of (words_of line) ++ ss) (sayings-said_from (n + 1) lines)
    ∙ sym (flat_map-cons sentence_of (words_of line) (map words_of lines))
  where
    unnumbered : (ss : List Sentence) → sayings (map (λ s. (n, s)) ss) ≡ ss
    unnumbered [] = refl
    unnumbered (s ∷ ss) = ap (λ ts. s ∷ ts) (unnumbered ss)

-- ---- pieces

-- the lines from the next code on
abbrev pub rest_of : Numbered → Numbered
rest_of [] = []
rest_of (p ∷ ps) = elim (is_code p.1.verb) [ true ↦ p ∷ ps | false ↦ rest_of ps ]

-- no line, or the first begins a code
abbrev pub Starts : List Sentence → Type 0
Starts [] = Unit {0}
Starts (s ∷ ss) = is_code s.verb ≡ true

-- lines are those up to the next code and the rest
pub record AreCut (ps : Numbered) : Type 0 where
  pub parts : ps ≡ body_of ps ++ rest_of ps
  pub body : NoCode (sayings (body_of ps))
  pub rest : Starts (sayings (rest_of ps))
  pub fewer : length (rest_of ps) ≤ length ps
  pub same : pieces ps ≡ pieces (rest_of ps)

-- lines are cut before the next code
pub are-cut : (ps : Numbered) → AreCut ps
are-cut [] = record { parts = refl; body = tt; rest = tt; fewer = omega arith; same = refl }
are-cut (p ∷ ps) = go (is_code p.1.verb) refl (are-cut ps)
  where
    go : (b : Bool) → is_code p.1.verb ≡ b → AreCut ps → AreCut (p ∷ ps)
    go true e c = record {
      parts = rw (body_of, rest_of, e) refl;
      body = rw (body_of, e) tt;
      rest = rw (rest_of, e) e;
      fewer = rw (rest_of, e) (omega arith);
      same = rw (rest_of, e) refl;
    }
    go false e c = record {
      parts = rw (body_of, rest_of, e) (ap (λ qs. p ∷ qs) c.parts);
      body = rw (body_of, e) (e, c.body);
      rest = rw (rest_of, e) c.rest;
      fewer = rw (rest_of, e) (let h = c.fewer in omega arith);
      same = rw (pieces, rest_of, e) c.same;
    }

-- nothing stands before a code that begins
none-until : (ss : List Sentence) → Starts ss → until_code ss ≡ []
none-until [] h = refl
none-until (s ∷ ss) h = until-here s ss h

-- where lines are clean, those in front are, and those behind
pub clean-prefix : (before xs ys : List Sentence) → AreClean before (xs ++ ys) → AreClean before xs
clean-prefix before [] ys c = tt
clean-prefix before (x ∷ xs) ys c = (c.0, clean-prefix (x ∷ before) xs ys c.1)

-- and those behind
pub clean-back : (before xs ys : List Sentence) → AreClean before (xs ++ ys) → AreClean (put_before before xs) ys
clean-back before [] ys c = c
clean-back before (x ∷ xs) ys c = clean-back (x ∷ before) xs ys c.1

-- clean lines begin with a code
pub clean-starts : (ss : List Sentence) → AreClean [] ss → Starts ss
clean-starts [] c = tt
clean-starts (s ∷ ss) c = at s.verb (clean-parts [] s c.0).place
  where
    at : (v : Verb) → is_out_of_place v [] ≡ false → is_code v ≡ true
    at verb.Code e = refl
    at v e = absurd (true≢false e)

module _ (all : List Sentence) (codes : Entries) (agree : (t : List ℕ) → is_made role.Callee (found t codes)
    ≡ any_of (same_bytes t) (flat_map code_begun all)) where
  -- code by code
  pub by-codes : (n : ℕ) (before : List Sentence) (ns : Numbered) → length ns ≤ n → Starts (sayings ns) → AreClean before (sayings ns)
      → second_pass all before ns ≡ faults_of_pieces codes (pieces ns)
  by-codes n before [] few starts c = refl
  by-codes zero before (p ∷ ps) few starts c = absurd (omega arith)
  by-codes (suc n) before (p ∷ ps) few starts c =
      let cut = are-cut ps in
      let body = body_of ps in
      let tail = rest_of ps in
      let k = known_in codes body in
      let both : AreClean (p.1 ∷ before) (sayings body ++ sayings tail) = subst (λ ss. AreClean (p.1 ∷ before) ss) (ap sayings cut.parts
      ∙ map-append (λ (q : ℕ × Sentence). q.1) body tail) c.1 in
      let differ : DifferBehind (sayings body) = names-differ (p.1 ∷ before) (sayings body)
      (clean-prefix (p.1 ∷ before) (sayings body) (sayings tail) both) cut.body in
      let nodes : (r : Role) (t : List ℕ) → is_made r (found t k.nodes) ≡ any_of (makes_named r t) (sayings body) =
      λ r t. ap (is_made r) (found-nodes t 0 (sayings body) []) ∙ nodes-found r t 0 (sayings body) differ in
      let none : until_code (p.1 ∷ before) ≡ [] = until-here p.1 before starts in
      let within = body-faults all k (sayings body) nodes agree (p.1 ∷ before) body tail cut.body (none-until (sayings tail) cut.rest)
      (λ f. ap (λ us. any_of f (us ++ sayings body)) none) in
      let later = by-codes n (put_before (p.1 ∷ before) (sayings body)) tail (let h = cut.fewer in omega arith) cut.rest
      (clean-back (p.1 ∷ before) (sayings body) (sayings tail) both) in
      ap (λ cs. map (λ c. (p.0, c)) cs ++ second_pass all (p.1 ∷ before) ps)
      (code-faultless all (until_code before ++ (p.1 ∷ until_code (sayings ps))) p.1 starts)
      ∙ ap (second_pass all (p.1 ∷ before)) cut.parts
      ∙ within ∙ ap (λ fs. faults_within k body ++ fs) (later ∙ sym (ap (faults_of_pieces codes) cut.same))
      ∙ sym (rw (pieces, starts) refl)

-- the names of a text's codes are found where a code has them
pub codes-agree : (all : List Sentence) (t : List ℕ) → is_made role.Callee (found t (codes_from 0 all [])) ≡ any_of (same_bytes t) (flat_map code_begun all)
codes-agree all t = ap (is_made role.Callee) (found-codes t 0 all []) ∙ codes-found t 0 all

-- the faults of the second pass of a text without a fault of the first
pub second-by-codes : (bytes : List ℕ) → first_pass (last_line bytes) [] 1 (lines_of bytes) ≡ []
    → faults_of_second (said_from 1 (lines_of bytes)) ≡ faults_of_pieces (codes_from 0 (sayings (said_from 1 (lines_of bytes))) [])
    (pieces (said_from 1 (lines_of bytes)))
second-by-codes bytes e =
    let ns = said_from 1 (lines_of bytes) in
    let clean : AreClean [] (sayings ns) = subst (λ ss. AreClean [] ss) (sym (sayings-said_from 1 (lines_of bytes)))
    (clean-lines (last_line bytes) [] 1 (lines_of bytes) e) in
    by-codes (sayings ns) (codes_from 0 (sayings ns) []) (codes-agree (sayings ns)) (length ns) [] ns (omega arith) (clean-starts (sayings ns) clean) clean

-- the faults of a text without a fault of the first pass
pub faults-by-codes : (bytes : List ℕ) → first_pass (last_line bytes) [] 1 (lines_of bytes) ≡ []
    → faults bytes ≡ faults_of_pieces (codes_in (said_from 1 (lines_of bytes))) (pieces (said_from 1 (lines_of bytes)))
faults-by-codes bytes e = rw (faults, e) (second-by-codes bytes e)
