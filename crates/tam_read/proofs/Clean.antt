-- A text without a fault of the first pass: none of its sentences has one.
use Rattle.std.proofs.Common.{◌≡◌, ℕ, ◌+◌, ◌≤◌, Bool, true, false, not, List, [], ◌∷◌, ◌++◌, length, map, flat_map, refl, sym, ap, subst, ◌∙◌, inl, inr, ◌⊎◌}
use Rattle.std.proofs.Common.{⊎_elim, true≢false, arith}
use Rattle.std.specs.List.{filter}
use Rattle.std.proofs.lemmas.List.Concat.{flat_map-cons}
use Rattle.tam_word.specs.Lists.{where_so, any_of, same_bytes}
use Rattle.tam_word.proofs.Members.{In, left-in, right-in, in-append, in-any, none-left, none-right, map-none}
use Rattle.tam_text.specs.Lines.{words_of, are_good_bytes, is_some_of}
use Rattle.tam_text.proofs.SameBytes.{same_self}
use Rattle.tam_read.specs.declared.cause.ReadCause.{ReadCause}
use Rattle.tam_read.specs.declared.cause.ReadCause.TheVariants.{BadByte, BadLine, BadName, BadNumber, BadNesting, TwiceNamed, TooMany}
use Rattle.tam_read.specs.declared.cause.Limit.TheVariants.{Codes, CodeVertices, BlockVertices, Nesting}
use Rattle.tam_read.specs.Sentences.{Sentence, sentence_of, is_code, names_made, code_begun}
use Rattle.tam_read.specs.Faults.{open_after, until_code, said, is_head, is_out_of_place, has_bad_name, has_bad_number, is_named_again, passes, some_shared}
use Rattle.tam_read.specs.Faults.{faults_of_sentence, faults_of_words, faults_of_line, with_line, first_pass}
use Rattle.tam_read.proofs.Passed.{one_sentence, head_says_nothing, no_bad_head}
use Rattle.tam_read.proofs.Nothing.{where_none, neither}

-- none of the sentences has a fault, where these stand before the first, the nearest first
abbrev pub AreClean : List Sentence → List Sentence → Type 0
AreClean before [] = Unit {0}
AreClean before (s ∷ ss) = (faults_of_sentence before s ≡ []) × AreClean (s ∷ before) ss

-- by the sentence of a line
clean-said : (before ss rest : List Sentence) → length ss ≤ 1 → (elim ss as
    (λ _. List ReadCause) [ [] ↦ BadLine ∷ [] | s ∷ more ↦ faults_of_sentence before s ]) ≡ []
    → AreClean (ss ++ before) rest → AreClean before (ss ++ rest)
clean-said before [] rest one e h = absurd cc
clean-said before (s ∷ []) rest one e h = (e, h)
clean-said before (s ∷ t ∷ ss) rest one e h = absurd (omega arith)

-- by the words of a line
clean-words : (before : List (List (List ℕ))) (ws : List (List ℕ)) (rest : List Sentence) → faults_of_words before ws ≡ []
    → AreClean (said (filter is_some_of (ws ∷ []) ++ before)) rest → AreClean (said before) (sentence_of ws ++ rest)
clean-words before [] rest e h = h
clean-words [] (w ∷ ws) rest e h =
    let none : sentence_of (w ∷ ws) ≡ [] = head_says_nothing (w ∷ ws) (no_bad_head (is_head (w ∷ ws)) e) in
    let before_is : said ((w ∷ ws) ∷ []) ≡ [] = flat_map-cons sentence_of (w ∷ ws) [] ∙ ap (λ ss. ss ++ []) none in
    subst (λ (ss : List Sentence). AreClean [] (ss ++ rest)) (sym none) (subst (λ (ss : List Sentence). AreClean ss rest) before_is h)
clean-words (b ∷ before) (w ∷ ws) rest e h =
    clean-said (said (b ∷ before)) (sentence_of (w ∷ ws)) rest (one_sentence (w ∷ ws)) e
    (subst (λ (ss : List Sentence). AreClean ss rest) (flat_map-cons sentence_of (w ∷ ws) (b ∷ before)) h)

-- so of a text without a fault of the first pass
pub clean-lines : (last : ℕ) (before : List (List (List ℕ))) (n : ℕ) (lines : List (List ℕ)) → first_pass last before n lines ≡ []
    → AreClean (said before) (said (map words_of lines))
clean-lines last before n [] e = tt
clean-lines last before n (line ∷ lines) e =
    let here = none-left (map (λ c. (n, c)) (faults_of_line before line)) (first_pass last (with_line line before) (n + 1) lines) e in
    let words : faults_of_words before (words_of line) ≡ [] = none-right (where_so (not (are_good_bytes line)) BadByte)
    (faults_of_words before (words_of line)) (map-none (λ c. (n, c)) (faults_of_line before line) here) in
    let later = clean-lines last (with_line line before) (n + 1) lines (none-right (map (λ c. (n, c)) (faults_of_line before line))
    (first_pass last (with_line line before) (n + 1) lines) e) in
    subst (λ (ss : List Sentence). AreClean (said before) ss) (sym (flat_map-cons sentence_of (words_of line) (map words_of lines)))
    (clean-words before (words_of line) (said (map words_of lines)) words later)

-- ---- what a sentence without a fault has

-- no fault of any kind
pub record IsClean (before : List Sentence) (s : Sentence) : Type 0 where
  pub names : has_bad_name s ≡ false
  pub numbers : has_bad_number s ≡ false
  pub place : is_out_of_place s.verb (map (λ o. o.opening) (open_after before)) ≡ false
  pub new_code : some_shared (code_begun s) (flat_map code_begun before) ≡ false
  pub new_node : some_shared (names_made s) (flat_map names_made (until_code before)) ≡ false
  pub within : map TooMany (filter (passes before s) (Codes ∷ CodeVertices ∷ BlockVertices ∷ Nesting ∷ [])) ≡ []

-- a sentence without a fault has none of each kind
pub clean-parts : (before : List Sentence) (s : Sentence) → faults_of_sentence before s ≡ [] → IsClean before s
clean-parts before s e =
    let a = where_so (has_bad_name s) BadName in
    let b = where_so (has_bad_number s) BadNumber in
    let d = where_so (is_out_of_place s.verb (map (λ o. o.opening) (open_after before))) BadNesting in
    let t = where_so (is_named_again before s) TwiceNamed in
    let m = map TooMany (filter (passes before s) (Codes ∷ CodeVertices ∷ BlockVertices ∷ Nesting ∷ [])) in
    let p3 = none-left (a ++ b ++ d ++ t) m e in
    let p2 = none-left (a ++ b ++ d) t p3 in
    let p1 = none-left (a ++ b) d p2 in
    let again = neither (some_shared (code_begun s) (flat_map code_begun before)) (some_shared (names_made s) (flat_map names_made (until_code before)))
    (where_none (is_named_again before s) TwiceNamed (none-right (a ++ b ++ d) t p3)) in
    record {
      names = where_none (has_bad_name s) BadName (none-left a b p1);
      numbers = where_none (has_bad_number s) BadNumber (none-right a b p1);
      place = where_none (is_out_of_place s.verb (map (λ o. o.opening) (open_after before))) BadNesting (none-right (a ++ b) d p2);
      new_code = again.0;
      new_node = again.1;
      within = none-right (a ++ b ++ d ++ t) m e;
    }

-- ---- names that differ

-- no element of one list is one of the other
abbrev pub Apart : List (List ℕ) → List (List ℕ) → Type 0
Apart xs ys = (n : List ℕ) → In n xs → In n ys → ⊥

-- where no name is shared, the lists are apart
pub not-shared : (xs ys : List (List ℕ)) → some_shared xs ys ≡ false → Apart xs ys
not-shared xs ys h n p q = true≢false (sym (in-any (λ n. any_of (same_bytes n) ys) xs n p (in-any (same_bytes n) ys n q (same_self n))) ∙ h)

-- the names of each line's node are apart from those of the nodes behind it
abbrev pub DifferBehind : List Sentence → Type 0
DifferBehind [] = Unit {0}
DifferBehind (s ∷ ss) = Apart (names_made s) (flat_map names_made ss) × DifferBehind ss

-- no code begins
abbrev pub NoCode : List Sentence → Type 0
NoCode [] = Unit {0}
NoCode (s ∷ ss) = (is_code s.verb ≡ false) × NoCode ss

-- a line that begins no code stands in its code
until-same : (s : Sentence) (before : List Sentence) → is_code s.verb ≡ false → until_code (s ∷ before) ≡ s ∷ until_code before
until-same s before e = rw (until_code, e) refl

-- the names of a code's later nodes are apart from those of the earlier
later-apart : (before ss : List Sentence) → AreClean before ss → NoCode ss → Apart (flat_map names_made ss) (flat_map names_made (until_code before))
later-apart before [] c none n p q = absurd p
later-apart before (s ∷ ss) c none n p q =
    ⊎_elim (λ here. not-shared (names_made s) (flat_map names_made (until_code before)) (clean-parts before s c.0).new_node n here q)
    (λ later. later-apart (s ∷ before) ss c.1 none.1 n later
    (subst (λ names. In n names) (sym (ap (flat_map names_made) (until-same s before none.0) ∙ flat_map-cons names_made s (until_code before)))
    (right-in n (names_made s) (flat_map names_made (until_code before)) q)))
    (in-append n (names_made s) (flat_map names_made ss) (subst (λ names. In n names) (flat_map-cons names_made s ss) p))

-- so the names of a code's nodes differ
pub names-differ : (before ss : List Sentence) → AreClean before ss → NoCode ss → DifferBehind ss
names-differ before [] c none = tt
names-differ before (s ∷ ss) c none = (
  λ n here later. later-apart (s ∷ before) ss c.1 none.1 n later
      (subst (λ names. In n names) (sym (ap (flat_map names_made) (until-same s before none.0) ∙ flat_map-cons names_made s (until_code before)))
      (left-in n (names_made s) (flat_map names_made (until_code before)) here)),
  names-differ (s ∷ before) ss c.1 none.1,
)
