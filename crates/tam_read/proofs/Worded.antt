-- The words of a line are those of its sentence.
use Rattle.std.proofs.Common.{◌≡◌, ℕ, suc, ◌-◌, ◌+◌, ◌≤◌, Bool, true, false, ◌&&◌, ◌==◌, List, [], ◌∷◌, ◌++◌, length, take, Option, Some, None, refl, sym, ap}
use Rattle.std.proofs.Common.{ap₂, subst, ◌∙◌, true≢false, arith}
use Rattle.std.specs.Prelude.{codes, slice_index, decimal}
use Rattle.std.proofs.lemmas.List.{append-nil}
use Rattle.std.proofs.lemmas.Fmt.{decimal_digit}
use Rattle.std.proofs.Math.Dec.{leb}
use Rattle.std.proofs.lemmas.Bool.{leb-true}
use Rattle.tam_word.specs.Lists.{first_of, same_bytes}
use Rattle.tam_word.proofs.Members.{one-first}
use Rattle.tam_word.proofs.Tests.{both-true, number-eq}
use Rattle.tam_graph.specs.Texts.{suffix}
use Rattle.tam_text.proofs.SameBytes.{same_equal}
use Rattle.tam_read.specs.declared.form.Verb.{Verb}
use Rattle.tam_read.specs.declared.form.Role.{Role}
use Rattle.tam_read.specs.declared.form.Role.TheVariants as role
use Rattle.tam_read.specs.Sentences.{Sentence, verb_text, verb_called, all_verbs, makes, roles_of, same_role, has_form, has_depth, without_depth, name_made}
use Rattle.tam_read.specs.Sentences.{said_by, said_named, sentence_of}
use Rattle.tam_read.specs.Building.{depth_written, depth_made}

-- the words of a sentence
abbrev pub with_name : List (List ℕ) → List (List ℕ) → List (List ℕ)
with_name [] ws = ws
with_name (n ∷ ns) ws = n ∷ codes "=" ∷ ws

-- the words of a sentence
abbrev pub words_said : Sentence → List (List ℕ)
words_said s = with_name s.name (verb_text s.verb ∷ s.rest)

-- the words say the sentence, and it has its verb's form
pub record IsSaidSo (ws : List (List ℕ)) (s : Sentence) : Type 0 where
  pub words : ws ≡ words_said s
  pub form : has_form s.name s.rest s.verb ≡ true

-- behind a name or none
said-by : (name : List (List ℕ)) (t : List ℕ) (rest : List (List ℕ)) (s : Sentence) → said_by name t rest ≡ s ∷ [] → IsSaidSo (with_name name (t ∷ rest)) s
said-by name t rest s e = at (verb_called t) refl (subst (λ z. z ≡ s ∷ []) refl e)
  where
    by_form : (v : Verb) (b : Bool) → has_form name rest v ≡ b → t ≡ verb_text v
        → (elim b as (λ _. List Sentence) [ true ↦ record { name = name; verb = v; rest = rest } ∷ [] | false ↦ [] ]) ≡ s ∷ []
        → IsSaidSo (with_name name (t ∷ rest)) s
    by_form v false f w e = absurd cc
    by_form v true f w e =
        let whole : Sentence = record { name = name; verb = v; rest = rest } in
        let same : whole ≡ s = cc in
        subst (λ z. IsSaidSo (with_name name (t ∷ rest)) z) same (record { words = ap (λ u. with_name name (u ∷ rest)) w; form = f })

    at : (vs : List Verb) → verb_called t ≡ vs → said_by name t rest ≡ s ∷ [] → IsSaidSo (with_name name (t ∷ rest)) s
    at [] f e = absurd (let z : [] ≡ s ∷ [] = sym (rw (said_by, f) refl) ∙ e in cc)
    at (v ∷ vs) f e =
        let first = one-first (λ v. same_bytes t (verb_text v)) all_verbs v vs f in
        by_form v (has_form name rest v) refl (same_equal t (verb_text v) first.1) (rw (said_by, f) at e)

-- behind a name and `=`
said-named : (n : List ℕ) (ts : List (List ℕ)) (s : Sentence) → said_named n ts ≡ s ∷ [] → IsSaidSo (n ∷ codes "=" ∷ ts) s
said-named n [] s e = absurd cc
said-named n (t ∷ ts) s e = said-by (n ∷ []) t ts s e

-- the words of a line that has a sentence
pub words-back : (ws : List (List ℕ)) (s : Sentence) → sentence_of ws ≡ s ∷ [] → IsSaidSo ws s
words-back [] s e = absurd cc
words-back (t ∷ []) s e = said-by [] t [] s e
words-back (n ∷ e ∷ ts) s h = at (same_bytes e (codes "=")) refl
  where
    at : (b : Bool) → same_bytes e (codes "=") ≡ b → IsSaidSo (n ∷ e ∷ ts) s
    at true p = subst (λ z. IsSaidSo (n ∷ z ∷ ts) s) (sym (same_equal e (codes "=") p)) (said-named n ts s (rw (sentence_of, p) at h))
    at false p = said-by [] n (e ∷ ts) s (rw (sentence_of, p) at h)

-- ---- the token before `=`

-- the last two of a list
last-two : (t : List ℕ) → 2 ≤ length t → take (length t - 2) t ++ (slice_index t (length t - 2) ∷ slice_index t (length t - 1) ∷ []) ≡ t
last-two [] h = absurd (omega arith)
last-two (a ∷ []) h = absurd (omega arith)
last-two (a ∷ b ∷ []) h = refl
last-two (a ∷ b ∷ c ∷ t) h =
    let two : suc (suc (suc (length t))) - 2 ≡ suc (suc (suc (length t)) - 2) = omega arith in
    let one : suc (suc (suc (length t))) - 1 ≡ suc (suc (suc (length t)) - 1) = omega arith in
    rw (two, one) (ap (λ l. a ∷ l) (last-two (b ∷ c ∷ t) (omega arith)))

-- the suffix of a depth that is written
suffix-written : (l : ℕ) → 49 ≤ l → l ≤ 51 → suffix (l - 48) ≡ 58 ∷ l ∷ []
suffix-written l lo hi =
    let e : l - 48 ≡ suc (l - 49) = omega arith in
    let f : 48 + suc (l - 49) ≡ l = omega arith in
    ap suffix e ∙ ap (λ ds. 58 ∷ ds) (decimal_digit (suc (l - 49)) (omega arith) ∙ ap (λ b. b ∷ []) f)

-- a token is its name and its depth
pub depth-again : (t : List ℕ) → without_depth t ++ suffix (depth_written t) ≡ t
depth-again t = go (has_depth t) refl
  where
    go : (b : Bool) → has_depth t ≡ b → without_depth t ++ suffix (depth_written t) ≡ t
    go false p = rw (without_depth, depth_written, p) (append-nil t)
    go true p =
        let last = slice_index t (length t - 1) in
        let a = both-true (leb 2 (length t)) _ p in
        let b = both-true (slice_index t (length t - 2) == 58) _ a.1 in
        let d = both-true (leb 49 last) (leb last 51) b.1 in
        rw (without_depth, depth_written, p)
        (ap (λ z. take (length t - 2) t ++ z) (suffix-written last (leb-true 49 last d.0) (leb-true last 51 d.1)
        ∙ ap (λ z. z ∷ last ∷ []) (sym (number-eq (slice_index t (length t - 2)) 58 b.0))) ∙ last-two t (leb-true 2 (length t) a.0))

-- so is that of each verb
pub token-again : (v : Verb) (n : List ℕ) → name_made v n ++ suffix (depth_made v (n ∷ [])) ≡ n
token-again v n = go (makes v) refl
  where
    by_role : (r : Role) (b : Bool) → same_role r role.Value ≡ b → makes v ≡ Some r → name_made v n ++ suffix (depth_made v (n ∷ [])) ≡ n
    by_role r true p e = rw (name_made, depth_made, e, p) (depth-again n)
    by_role r false p e = rw (name_made, depth_made, e, p) (append-nil n)

    go : (o : Option Role) → makes v ≡ o → name_made v n ++ suffix (depth_made v (n ∷ [])) ≡ n
    go None e = rw (name_made, depth_made, e) (append-nil n)
    go (Some r) e = by_role r (same_role r role.Value) refl e
