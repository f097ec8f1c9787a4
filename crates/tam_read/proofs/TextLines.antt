-- The lines of a text without a fault of the first pass: its bytes are good, and its words are a head and those of its sentences.
use Rattle.std.proofs.Common.{◌≡◌, ℕ, suc, ◌+◌, ◌≤◌, Bool, true, false, not, ◌&&◌, ◌||◌, ◌==◌, List, [], ◌∷◌, ◌++◌, length, map, flat_map, refl, sym, ap, ap₂}
use Rattle.std.proofs.Common.{subst, ◌∙◌, true≢false, append_assoc, arith, inl, inr, ◌⊎◌, ⊎_elim}
use Rattle.std.specs.Prelude.{codes as bytes_of}
use Rattle.std.specs.List.{filter, onto_first}
use Rattle.std.proofs.Math.Dec.{leb}
use Rattle.std.proofs.lemmas.List.{map-append}
use Rattle.std.proofs.lemmas.List.Concat.{flat_map-cons}
use Rattle.tam_word.specs.Lists.{where_so, same_list, same_bytes, all_of}
use Rattle.tam_word.proofs.Members.{In, in-append, none-left, none-right, map-none}
use Rattle.tam_word.proofs.Tests.{true-both}
use Rattle.tam_text.specs.Lines.{lines_of, words_of, token_lines, is_some_of, is_at_end, is_good_byte, are_good_bytes}
use Rattle.tam_graph.specs.Texts.{Line, Bytes}
use Rattle.tam_graph.specs.Reading.{same_line, same_lines}
use Rattle.tam_read.specs.declared.cause.ReadCause.{ReadCause}
use Rattle.tam_read.specs.declared.cause.ReadCause.TheVariants.{BadByte, BadHead, BadLine}
use Rattle.tam_read.specs.Sentences.{Sentence, sentence_of, has_form}
use Rattle.tam_read.specs.Faults.{said, is_head, faults_of_sentence, faults_of_words, faults_of_line, faults_at_end, with_line, first_pass}
use Rattle.tam_read.proofs.Passed.{one_sentence, head_says_nothing, no_bad_head}
use Rattle.tam_read.proofs.Nothing.{where_none}
use Rattle.tam_read.proofs.Worded.{words_said, IsSaidSo, words-back}

-- ---- bytes

-- the first byte of the first line is that of the bytes
pub first-line : (bs : List ℕ) (l : List ℕ) (ls : List (List ℕ)) → lines_of bs ≡ l ∷ ls → is_at_end l ≡ is_at_end bs
first-line [] l ls e = absurd cc
first-line (b ∷ bs) l ls e = go (b == 10) refl (lines_of bs) refl
  where
    go : (t : Bool) → (b == 10) ≡ t → (ms : List (List ℕ)) → lines_of bs ≡ ms → is_at_end l ≡ (b == 10)
    go true p ms q = let one : b ∷ [] ≡ l = (let z : (b ∷ []) ∷ lines_of bs ≡ l ∷ ls = rw (lines_of, p) at e in cc) in ap is_at_end (sym one)
    go false p [] q = let one : b ∷ [] ≡ l = (let z : (b ∷ []) ∷ [] ≡ l ∷ ls = rw (lines_of, p, q) at e in cc) in ap is_at_end (sym one)
    go false p (m ∷ ms) q = let one : b ∷ m ≡ l = (let z : (b ∷ m) ∷ ms ≡ l ∷ ls = rw (lines_of, p, q) at e in cc) in ap is_at_end (sym one)

-- where all pass, the first does, and those behind it
pub first-of : {X : Type 0} (f : X → Bool) (x : X) (xs : List X) → all_of f (x ∷ xs) ≡ true → (f x ≡ true) × (all_of f xs ≡ true)
first-of f x xs e = go (f x) refl
  where
    go : (b : Bool) → f x ≡ b → (f x ≡ true) × (all_of f xs ≡ true)
    go true p = (p, rw (all_of, p) at e)
    go false p = absurd (true≢false (sym (rw (all_of, p) at e)))

-- where bytes are good, the first is, and those behind it
pub good-parts : (b : ℕ) (bs : List ℕ) → are_good_bytes (b ∷ bs) ≡ true → (is_good_byte b bs ≡ true) × (are_good_bytes bs ≡ true)
good-parts b bs e = go (is_good_byte b bs) refl
  where
    go : (t : Bool) → is_good_byte b bs ≡ t → (is_good_byte b bs ≡ true) × (are_good_bytes bs ≡ true)
    go true p = (p, rw (are_good_bytes, p) at e)
    go false p = absurd (true≢false (sym (rw (are_good_bytes, p) at e)))

-- and the other way round
pub good-both : (b : ℕ) (bs : List ℕ) → is_good_byte b bs ≡ true → are_good_bytes bs ≡ true → are_good_bytes (b ∷ bs) ≡ true
good-both b bs p q = rw (are_good_bytes, p) q

-- where each line's bytes are good, all are
pub lines-good : (bs : List ℕ) → all_of are_good_bytes (lines_of bs) ≡ true → are_good_bytes bs ≡ true
lines-good [] e = refl
lines-good (b ∷ bs) e = go (b == 10) refl (lines_of bs) refl (lines-good bs)
  where
    go : (t : Bool) → (b == 10) ≡ t → (ms : List (List ℕ)) → lines_of bs ≡ ms → (all_of are_good_bytes (lines_of bs) ≡ true → are_good_bytes bs ≡ true)
        → are_good_bytes (b ∷ bs) ≡ true
    go true p ms q i =
        let parts = first-of are_good_bytes (b ∷ []) (lines_of bs) (rw (lines_of, p) at e) in
        good-both b bs (rw (is_good_byte, p) refl) (i parts.1)
    go false p [] q i =
        let parts = first-of are_good_bytes (b ∷ []) [] (rw (lines_of, p, q) at e) in
        let none : bs ≡ [] = empty bs q in
        subst (λ cs. are_good_bytes (b ∷ cs) ≡ true) (sym none) parts.0
      where
        empty : (cs : List ℕ) → lines_of cs ≡ [] → cs ≡ []
        empty [] h = refl
        empty (c ∷ cs) h = absurd (some (c == 10) refl (lines_of cs) refl)
          where
            some : (t : Bool) → (c == 10) ≡ t → (ms : List (List ℕ)) → lines_of cs ≡ ms → ⊥
            some true r ms s = let z : (c ∷ []) ∷ lines_of cs ≡ [] = rw (lines_of, r) at h in cc
            some false r [] s = let z : (c ∷ []) ∷ [] ≡ [] = rw (lines_of, r, s) at h in cc
            some false r (m ∷ ms) s = let z : (c ∷ m) ∷ ms ≡ [] = rw (lines_of, r, s) at h in cc
    go false p (m ∷ ms) q i =
        let parts = first-of are_good_bytes (b ∷ m) ms (rw (lines_of, p, q) at e) in
        let line = good-parts b m parts.0 in
        let here : is_good_byte b bs ≡ true = ap (λ t. (b == 10) || ((b == 9) || ((leb 32 b && leb b 126) || ((b == 13) && t)))) (sym (first-line bs m ms q))
        ∙ line.0 in
        let both : all_of are_good_bytes (m ∷ ms) ≡ true = rw (all_of, line.1) parts.1 in
        good-both b bs here (i (ap (all_of are_good_bytes) q ∙ both))

-- no line of a text without a fault of the first pass has a bad byte
pub all-good : (last : ℕ) (before : List (List (List ℕ))) (n : ℕ) (lines : List (List ℕ)) → first_pass last before n lines ≡ []
    → all_of are_good_bytes lines ≡ true
all-good last before n [] e = refl
all-good last before n (line ∷ lines) e =
    let here = none-left (map (λ c. (n, c)) (faults_of_line before line)) (first_pass last (with_line line before) (n + 1) lines) e in
    let later = none-right (map (λ c. (n, c)) (faults_of_line before line)) (first_pass last (with_line line before) (n + 1) lines) e in
    let bytes = where_none (not (are_good_bytes line)) BadByte (none-left (where_so (not (are_good_bytes line)) BadByte)
    (faults_of_words before (words_of line)) (map-none (λ c. (n, c)) (faults_of_line before line) here)) in
    rw (all_of, not-bad (are_good_bytes line) bytes) (all-good last (with_line line before) (n + 1) lines later)
  where
    not-bad : (t : Bool) → not t ≡ false → t ≡ true
    not-bad true h = refl
    not-bad false h = absurd (true≢false h)

-- ---- words

-- a line behind the head that has words is that of a sentence
by-said : (before : List Sentence) (ws : List (List ℕ)) (ss : List Sentence) → sentence_of ws ≡ ss → length ss ≤ 1
    → (elim ss as (λ _. List ReadCause) [ [] ↦ BadLine ∷ [] | s ∷ more ↦ faults_of_sentence before s ]) ≡ []
    → (s : Sentence) × (ss ≡ s ∷ []) × IsSaidSo ws s
by-said before ws [] is one e = absurd cc
by-said before ws (s ∷ []) is one e = (s, refl, words-back ws s is)
by-said before ws (s ∷ t ∷ ss) is one e = absurd (omega arith)

-- the words of lines with words, behind a head
pub words-behind : (last : ℕ) (b : List (List ℕ)) (before : List (List (List ℕ))) (n : ℕ) (lines : List (List ℕ)) → first_pass last (b ∷ before) n lines ≡ []
    → filter is_some_of (map words_of lines) ≡ map words_said (said (map words_of lines))
words-behind last b before n [] e = refl
words-behind last b before n (line ∷ lines) e =
    let here = none-left (map (λ c. (n, c)) (faults_of_line (b ∷ before) line)) (first_pass last (with_line line (b ∷ before)) (n + 1) lines) e in
    let later = none-right (map (λ c. (n, c)) (faults_of_line (b ∷ before) line)) (first_pass last (with_line line (b ∷ before)) (n + 1) lines) e in
    let words : faults_of_words (b ∷ before) (words_of line) ≡ [] =
    none-right (where_so (not (are_good_bytes line)) BadByte) (faults_of_words (b ∷ before) (words_of line))
    (map-none (λ c. (n, c)) (faults_of_line (b ∷ before) line) here) in
    go (words_of line) words (λ c d k. words-behind last c d (n + 1) lines k) later
    ∙ sym (ap (map words_said) (flat_map-cons sentence_of (words_of line) (map words_of lines))
    ∙ map-append words_said (sentence_of (words_of line)) (said (map words_of lines)))
  where
    go : (ws : List (List ℕ)) → faults_of_words (b ∷ before) ws ≡ []
        → ((c : List (List ℕ)) (d : List (List (List ℕ))) → first_pass last (c ∷ d) (n + 1) lines ≡ []
        → filter is_some_of (map words_of lines) ≡ map words_said (said (map words_of lines)))
        → first_pass last (filter is_some_of (ws ∷ []) ++ (b ∷ before)) (n + 1) lines ≡ []
        → filter is_some_of (ws ∷ map words_of lines) ≡ map words_said (sentence_of ws) ++ map words_said (said (map words_of lines))
    go [] f i k = i b before k
    go (w ∷ ws) f i k =
        let s = by-said (said (b ∷ before)) (w ∷ ws) (sentence_of (w ∷ ws)) refl (one_sentence (w ∷ ws)) f in
        ap₂ (λ u us. u ∷ us) s.2.words (i (w ∷ ws) (b ∷ before) k) ∙ ap (λ ss. map words_said ss ++ map words_said (said (map words_of lines))) (sym s.1)

-- ---- the head

-- the words of a head
head-by : (ws : List (List ℕ)) → is_head ws ≡ true → same_line ws (Bytes (bytes_of "dg") ∷ Bytes (bytes_of "1") ∷ []) ≡ true
head-by [] e = e
head-by (w ∷ ws) e = go (same_bytes w (bytes_of "dg")) refl ws e
  where
    go : (t : Bool) → same_bytes w (bytes_of "dg") ≡ t → (ws : List (List ℕ)) → is_head (w ∷ ws) ≡ true
        → same_line (w ∷ ws) (Bytes (bytes_of "dg") ∷ Bytes (bytes_of "1") ∷ []) ≡ true
    go false p ws e = absurd (true≢false (sym (rw (is_head, same_list, p) at e)))
    go true p [] e = absurd (true≢false (sym (rw (is_head, same_list, p) at e)))
    go true p (v ∷ ws) e = then (same_bytes v (bytes_of "1")) refl ws (rw (is_head, same_list, p) at e)
      where
        then : (t : Bool) → same_bytes v (bytes_of "1") ≡ t → (ws : List (List ℕ)) → same_list same_bytes (v ∷ ws) (bytes_of "1" ∷ []) ≡ true
            → same_line (w ∷ v ∷ ws) (Bytes (bytes_of "dg") ∷ Bytes (bytes_of "1") ∷ []) ≡ true
        then false q ws e = absurd (true≢false (sym (rw (same_list, q) at e)))
        then true q [] e = true-both _ _ p (true-both _ _ q refl)
        then true q (u ∷ us) e = absurd (true≢false (sym (rw (same_list, q) at e)))

-- the lines with words: a head, and those of the sentences
pub record AreWorded (ls : List (List (List ℕ))) (ss : List Sentence) : Type 0 where
  pub head : List (List ℕ)
  pub parts : ls ≡ head ∷ map words_said ss
  pub spelled : same_line head (Bytes (bytes_of "dg") ∷ Bytes (bytes_of "1") ∷ []) ≡ true

-- the lines of a text without a fault of the first pass
pub all-words : (last n : ℕ) (lines : List (List ℕ)) → first_pass last [] n lines ≡ []
    → AreWorded (filter is_some_of (map words_of lines)) (said (map words_of lines))
all-words last n [] e = absurd cc
all-words last n (line ∷ lines) e =
    let here = none-left (map (λ c. (n, c)) (faults_of_line [] line)) (first_pass last (with_line line []) (n + 1) lines) e in
    let later = none-right (map (λ c. (n, c)) (faults_of_line [] line)) (first_pass last (with_line line []) (n + 1) lines) e in
    let words : faults_of_words [] (words_of line) ≡ [] =
    none-right (where_so (not (are_good_bytes line)) BadByte) (faults_of_words [] (words_of line)) (map-none (λ c. (n, c)) (faults_of_line [] line) here) in
    subst (λ ss. AreWorded (filter is_some_of (map words_of (line ∷ lines))) ss) (sym (flat_map-cons sentence_of (words_of line) (map words_of lines)))
    (go (words_of line) words (λ k. all-words last (n + 1) lines k) later)
  where
    go : (ws : List (List ℕ)) → faults_of_words [] ws ≡ [] → (first_pass last [] (n + 1) lines ≡ []
        → AreWorded (filter is_some_of (map words_of lines)) (said (map words_of lines)))
        → first_pass last (filter is_some_of (ws ∷ []) ++ []) (n + 1) lines ≡ []
        → AreWorded (filter is_some_of (ws ∷ map words_of lines)) (sentence_of ws ++ said (map words_of lines))
    go [] f i k = i k
    go (w ∷ ws) f i k =
        let is = no_bad_head (is_head (w ∷ ws)) f in
        subst (λ ss. AreWorded ((w ∷ ws) ∷ filter is_some_of (map words_of lines)) (ss ++ said (map words_of lines))) (sym (head_says_nothing (w ∷ ws) is))
        (record { head = w ∷ ws; parts = ap (λ ls. (w ∷ ws) ∷ ls) (words-behind last (w ∷ ws) [] (n + 1) lines k); spelled = head-by (w ∷ ws) is })

-- ---- forms

-- each sentence of lines has its verb's form
pub all-formed : (lines : List (List (List ℕ))) (s : Sentence) → In s (said lines) → has_form s.name s.rest s.verb ≡ true
all-formed [] s i = absurd i
all-formed (ws ∷ lines) s i =
    ⊎_elim (λ here. at (sentence_of ws) refl (one_sentence ws) here) (λ later. all-formed lines s later)
    (in-append s (sentence_of ws) (said lines) (subst (λ ss. In s ss) (flat_map-cons sentence_of ws lines) i))
  where
    at : (ss : List Sentence) → sentence_of ws ≡ ss → length ss ≤ 1 → In s ss → has_form s.name s.rest s.verb ≡ true
    at [] e one i = absurd i
    at (t ∷ []) e one (inl same) = subst (λ z. has_form z.name z.rest z.verb ≡ true) same (words-back ws t e).form
    at (t ∷ []) e one (inr k) = absurd k
    at (t ∷ u ∷ ss) e one i = absurd (omega arith)
