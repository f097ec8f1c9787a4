-- The first pass by what is kept finds the first fault of the text.
use Rattle.std.proofs.Common.{◌≡◌, ℕ, ◌+◌, ◌≤◌, Bool, true, false, not, List, [], ◌∷◌, ◌++◌, length, map, take, refl, sym, ap, ◌∙◌, arith}
use Rattle.std.specs.Prelude.{codes}
use Rattle.std.specs.List.{filter}
use Rattle.std.proofs.lemmas.List.Concat.{flat_map-cons}
use Rattle.std.proofs.lemmas.Slice.Eq.{bytes_eq-Decides}
use Rattle.tam_word.specs.Lists.{where_so, same_list, same_bytes}
use Rattle.tam_text.specs.Lines.{words_of, are_good_bytes, is_some_of}
use Rattle.tam_read.specs.declared.cause.ReadCause.{ReadCause}
use Rattle.tam_read.specs.declared.cause.ReadCause.TheVariants.{BadByte, BadHead, BadLine, Ended}
use Rattle.tam_read.specs.declared.form.Verb.{Verb}
use Rattle.tam_read.specs.Sentences.{Sentence, sentence_of, said_by, said_named, verb_called, has_form}
use Rattle.tam_read.specs.Faults.{said, is_head, faults_of_sentence, faults_of_words, faults_of_line, faults_at_end, with_line, first_pass, open_after, Open}
use Rattle.tam_read.specs.Kept.{Kept, kept_of, counted}
use Rattle.tam_read.specs.Passing.{Read, read_of, faults_said, kept_said, faults_read, read_behind, faults_line, faults_end, faults_lines}
use Rattle.tam_read.proofs.Keeping.{faults_kept-of, kept_behind-of}
use Rattle.tam_text.proofs.SameBytes.{same_bytes_is}

-- ---- a line has one sentence at most

-- at most one by the form
by_form : (t : Bool) (s : Sentence) → length {A = Sentence} (elim t [ true ↦ s ∷ [] | false ↦ [] ]) ≤ 1
by_form true s = omega arith
by_form false s = omega arith

-- by the verbs
by_verbs : (vs : List Verb) (name : List (List ℕ)) (rest : List (List ℕ))
    → length {A = Sentence} (elim vs as (λ _. List Sentence) [
      | [] ↦ []
      | v ∷ us ↦ elim
          (has_form name rest v) [ true ↦ record { name = name; verb = v; rest = rest } ∷ [] | false ↦ [] ]
    ]) ≤ 1
by_verbs [] name rest = omega arith
by_verbs (v ∷ us) name rest = by_form (has_form name rest v) (record { name = name; verb = v; rest = rest })

-- at most one is said
one_said : (name : List (List ℕ)) (t : List ℕ) (rest : List (List ℕ)) → length (said_by name t rest) ≤ 1
one_said name t rest = by_verbs (verb_called t) name rest

-- also behind a name
one_named : (n : List ℕ) (ts : List (List ℕ)) → length (said_named n ts) ≤ 1
one_named n [] = omega arith
one_named n (t ∷ ts) = one_said (n ∷ []) t ts

-- by the sign
by_sign : (t : Bool) (xs ys : List Sentence) → length xs ≤ 1 → length ys ≤ 1 → length {A = Sentence} (elim t [ true ↦ xs | false ↦ ys ]) ≤ 1
by_sign true xs ys p q = p
by_sign false xs ys p q = q

-- one at most
pub one_sentence : (ws : List (List ℕ)) → length (sentence_of ws) ≤ 1
one_sentence [] = omega arith
one_sentence (t ∷ []) = one_said [] t []
one_sentence (n ∷ e ∷ ts) = by_sign (same_bytes e (codes "=")) (said_named n ts) (said_by [] n (e ∷ ts)) (one_named n ts) (one_said [] n (e ∷ ts))

-- ---- one line

-- by the sentence
by_sentence : (before : List Sentence) (ss : List Sentence) → faults_said (kept_of before) ss
    ≡ elim ss as (λ _. List ReadCause) [ [] ↦ BadLine ∷ [] | s ∷ more ↦ faults_of_sentence before s ]
by_sentence before [] = refl
by_sentence before (s ∷ ss) = faults_kept-of before s

-- the faults of words are those of the definition
faults_read-of : (before : List (List (List ℕ))) (ws : List (List ℕ)) → faults_read (is_some_of before) (kept_of (said before)) ws ≡ faults_of_words before ws
faults_read-of before [] = refl
faults_read-of [] (w ∷ ws) = refl
faults_read-of (b ∷ before) (w ∷ ws) = by_sentence (said (b ∷ before)) (sentence_of (w ∷ ws))

-- the faults of a line by what was read
pub faults_line-of : (before : List (List (List ℕ))) (line : List ℕ) → faults_line (read_of before) line ≡ faults_of_line before line
faults_line-of before line = ap (λ fs. where_so (not (are_good_bytes line)) BadByte ++ fs) (faults_read-of before (words_of line))

-- what is kept behind them
kept_said-of : (before : List Sentence) (ss : List Sentence) → length ss ≤ 1 → kept_said (kept_of before) ss ≡ kept_of (ss ++ before)
kept_said-of before [] h = refl
kept_said-of before (s ∷ []) h = kept_behind-of before s
kept_said-of before (s ∷ t ∷ ss) h = absurd (omega arith)

-- what is read
abbrev made : Bool → Kept → Read
made h k = record { has_head = h; kept = k }

-- bytes that pass are equal
same_is : (xs ys : List ℕ) → same_bytes xs ys ≡ true → xs ≡ ys
same_is xs ys e = (bytes_eq-Decides xs ys).0 (sym (same_bytes_is xs ys) ∙ e)

-- where both hold, each does
both : (t u : Bool) → (elim t [ true ↦ u | false ↦ false ]) ≡ true → (t ≡ true) × (u ≡ true)
both true u e = (refl, e)
both false u e = absurd cc

-- a head is no sentence
pub head_says_nothing : (ws : List (List ℕ)) → is_head ws ≡ true → sentence_of ws ≡ []
head_says_nothing [] e = refl
head_says_nothing (w ∷ []) e = absurd (let p = both (same_bytes w (codes "dg")) false e in let q : false ≡ true = p.1 in cc)
head_says_nothing (w ∷ v ∷ []) e =
    let p = both (same_bytes w (codes "dg")) (same_list same_bytes (v ∷ []) (codes "1" ∷ [])) e in
    let q = both (same_bytes v (codes "1")) true p.1 in
    rw (same_is w (codes "dg") p.0, same_is v (codes "1") q.0) refl
head_says_nothing (w ∷ v ∷ u ∷ ws) e =
    absurd (let p = both (same_bytes w (codes "dg")) (same_list same_bytes (v ∷ u ∷ ws) (codes "1" ∷ [])) e
    in let q = both (same_bytes v (codes "1")) false p.1 in let r : false ≡ true = q.1 in cc)

-- where no bad head is told, it is a head
pub no_bad_head : (t : Bool) → where_so (not t) BadHead ≡ [] → t ≡ true
no_bad_head true e = refl
no_bad_head false e = absurd cc

-- what is read behind words
read_behind-of : (before : List (List (List ℕ))) (ws : List (List ℕ)) → faults_of_words before ws ≡ []
    → read_behind (is_some_of before) (kept_of (said before)) ws ≡ read_of (filter is_some_of (ws ∷ []) ++ before)
read_behind-of before [] e = refl
read_behind-of [] (w ∷ ws) e = ap (λ ss. made true (kept_of ss)) (sym (flat_map-cons sentence_of (w ∷ ws) []
    ∙ ap (λ ss. ss ++ []) (head_says_nothing (w ∷ ws) (no_bad_head (is_head (w ∷ ws)) e))))
read_behind-of (b ∷ before) (w ∷ ws) e =
    ap (made true) (kept_said-of (said (b ∷ before)) (sentence_of (w ∷ ws)) (one_sentence (w ∷ ws))
    ∙ ap kept_of (sym (flat_map-cons sentence_of (w ∷ ws) (b ∷ before))))

-- where two lists together are empty, the second is
pub none_behind : {X : Type 0} (xs ys : List X) → xs ++ ys ≡ [] → ys ≡ []
none_behind [] ys e = e
none_behind (x ∷ xs) ys e = absurd cc

-- ---- all lines

-- line by line
by_line : {X Y : Type 0} (f : X → Y) (xs : List X) (ys zs : List Y) → (xs ≡ [] → take 1 ys ≡ take 1 zs) → take 1 (map f xs ++ ys) ≡ take 1 (map f xs ++ zs)
by_line f [] ys zs h = h refl
by_line f (x ∷ xs) ys zs h = refl

-- something is open where a block is counted
some-counted : (os : List Open) → is_some_of (map counted os) ≡ is_some_of os
some-counted [] = refl
some-counted (o ∷ os) = refl

-- the faults at the end
ends-of : (before : List (List (List ℕ))) → faults_end (read_of before) ≡ faults_at_end before
ends-of [] = refl
ends-of (b ∷ before) = ap (λ t. where_so t Ended) (some-counted (open_after (said (b ∷ before))))

-- the first fault by what is kept is the first fault
pub faults_lines-of : (last : ℕ) (before : List (List (List ℕ))) (n : ℕ) (lines : List (List ℕ))
    → take 1 (faults_lines last (read_of before) n lines) ≡ take 1 (first_pass last before n lines)
faults_lines-of last before n [] = ap (λ fs. take 1 (map (λ c. (last, c)) fs)) (ends-of before)
faults_lines-of last before n (line ∷ lines) =
    let same = faults_line-of before line in
    let go : faults_line (read_of before) line ≡ [] → take 1 (faults_lines last (read_behind (is_some_of before) (kept_of (said before)) (words_of line))
    (n + 1) lines) ≡ take 1 (first_pass last (with_line line before) (n + 1) lines) =
    λ e. ap (λ r. take 1 (faults_lines last r (n + 1) lines)) (read_behind-of before (words_of line) (none_behind _ _ (sym same ∙ e)))
    ∙ faults_lines-of last (with_line line before) (n + 1) lines in
    by_line (λ c. (n, c)) (faults_line (read_of before) line) _ _ go ∙ ap
    (λ fs. take 1 (map (λ c. (n, c)) fs ++ first_pass last (with_line line before) (n + 1) lines)) same
