-- The faults of the second pass, code by code, are those that look-ups in tables tell.
use Rattle.std.proofs.Common.{◌≡◌, ℕ, zero, suc, ◌+◌, ◌≤◌, Bool, true, false, not, ◌||◌, List, [], ◌∷◌, ◌++◌, length, map, flat_map, refl, sym, ap, subst}
use Rattle.std.proofs.Common.{◌∙◌, true≢false, append_assoc, arith}
use Rattle.std.proofs.lemmas.List.{map-append, append-nil}
use Rattle.std.proofs.lemmas.List.Concat.{flat_map-cons}
use Rattle.tam_word.specs.Lists.{where_so, any_of, same_bytes}
use Rattle.tam_text.specs.Lines.{words_of}
use Rattle.tam_read.specs.declared.cause.ReadCause.{ReadCause}
use Rattle.tam_read.specs.declared.cause.ReadCause.TheVariants.{UnknownName, UnknownCode}
use Rattle.tam_read.specs.declared.form.Verb.{Verb}
use Rattle.tam_read.specs.declared.form.Verb.TheVariants as verb
use Rattle.tam_read.specs.declared.form.Role.{Role}
use Rattle.tam_read.specs.declared.form.Role.TheVariants as role
use Rattle.tam_read.specs.Sentences.{Sentence, sentence_of, roles_of, is_code, each_token, code_begun}
use Rattle.tam_read.specs.Faults.{open_after, until_code, is_out_of_place, makes_named, is_known_node, is_known_code, faults_of_names, sayings, said}
use Rattle.tam_read.specs.Faults.{said_from, second_pass, faults_of_second}
use Rattle.tam_read.specs.Tables.{Entries, found, nodes_from, codes_from}
use Rattle.tam_read.specs.Naming.{Known, is_made, is_node_found, is_code_found, faults_known, faults_within}
use Rattle.tam_read.specs.Parts.{Numbered, Piece, body_of, pieces, known_in, faults_of_pieces}
use Rattle.tam_read.proofs.Among.{any_of_append}
use Rattle.tam_read.proofs.Clean.{AreClean, NoCode, clean-parts, names-differ}
use Rattle.tam_read.proofs.Looked.{node_list, found-nodes, nodes-found, code_list, found-codes, codes-found}

-- ---- a line by what it names

-- tests that agree agree on tokens
each-alike : (f g : Role → List ℕ → Bool) → ((r : Role) (t : List ℕ) → f r t ≡ g r t) → (rs : List Role) (ts : List (List ℕ))
    → each_token f rs ts ≡ each_token g rs ts
each-alike f g h [] ts = refl
each-alike f g h (r ∷ rs) [] = refl
each-alike f g h (r ∷ rs) (t ∷ ts) = ap (λ b. elim b [ true ↦ each_token f rs ts | false ↦ false ]) (h r t)
    ∙ ap (λ b. elim (g r t) [ true ↦ b | false ↦ false ]) (each-alike f g h rs ts)

-- the tests of nodes agree
node-alike : (nodes : Entries) (code : List Sentence) → ((r : Role) (t : List ℕ) → is_made r (found t nodes) ≡ any_of (makes_named r t) code)
    → (r : Role) (t : List ℕ) → is_node_found nodes r t ≡ is_known_node code r t
node-alike nodes code h role.Value t = h role.Value t
node-alike nodes code h role.Call t = h role.Call t
node-alike nodes code h role.Cond t = h role.Cond t
node-alike nodes code h r t = refl

-- the tests of codes agree
code-alike : (codes : Entries) (all : List Sentence) → ((t : List ℕ) → is_made role.Callee (found t codes) ≡ any_of (same_bytes t) (flat_map code_begun all))
    → (r : Role) (t : List ℕ) → is_code_found codes r t ≡ is_known_code all r t
code-alike codes all h role.Callee t = h t
code-alike codes all h r t = refl

-- a line of a code
pub faults-alike : (k : Known) (all code : List Sentence) (s : Sentence)
    → ((r : Role) (t : List ℕ) → is_made r (found t k.nodes) ≡ any_of (makes_named r t) code)
    → ((t : List ℕ) → is_made role.Callee (found t k.codes) ≡ any_of (same_bytes t) (flat_map code_begun all)) → faults_of_names all code s ≡ faults_known k s
faults-alike k all code s h g =
    ap (λ b. where_so (not b) UnknownName ++ where_so (not (each_token (is_known_code all) (roles_of s.verb) s.rest)) UnknownCode)
    (sym (each-alike (is_node_found k.nodes) (is_known_node code) (node-alike k.nodes code h) (roles_of s.verb) s.rest))
    ∙ ap (λ b. where_so (not (each_token (is_node_found k.nodes) (roles_of s.verb) s.rest)) UnknownName ++ where_so (not b) UnknownCode)
    (sym (each-alike (is_code_found k.codes) (is_known_code all) (code-alike k.codes all g) (roles_of s.verb) s.rest))

-- what begins a code is the verb `code`
pub code-verb : (v : Verb) → is_code v ≡ true → v ≡ verb.Code
code-verb verb.Code e = refl
code-verb v e = absurd (true≢false (sym e))

-- a line that begins a code names nothing
no-names : (all code : List Sentence) (s : Sentence) (v : Verb) → v ≡ verb.Code
    → (where_so (not (each_token (is_known_node code) (roles_of v) s.rest)) UnknownName ++ where_so
    (not (each_token (is_known_code all) (roles_of v) s.rest)) UnknownCode) ≡ []
no-names all code s v e = ap (λ v. where_so (not (each_token (is_known_node code) (roles_of v) s.rest)) UnknownName ++ where_so
    (not (each_token (is_known_code all) (roles_of v) s.rest)) UnknownCode) e ∙ at s.rest
  where
    at : (ts : List (List ℕ)) → (where_so (not (each_token (is_known_node code) (role.Code ∷ []) ts)) UnknownName ++ where_so
        (not (each_token (is_known_code all) (role.Code ∷ []) ts)) UnknownCode) ≡ []
    at [] = refl
    at (t ∷ ts) = refl

-- the first line of a code names nothing
pub code-faultless : (all code : List Sentence) (s : Sentence) → is_code s.verb ≡ true → faults_of_names all code s ≡ []
code-faultless all code s e = no-names all code s s.verb (code-verb s.verb e)

-- ---- the lines around a line

-- an element may stand behind others
any-moved : {X : Type 0} (f : X → Bool) (x : X) (us vs : List X) → any_of f (x ∷ (us ++ vs)) ≡ any_of f (us ++ x ∷ vs)
any-moved f x [] vs = refl
any-moved f x (u ∷ us) vs = go (f x) refl (f u) refl (any-moved f x us vs)
  where
    go : (a : Bool) → f x ≡ a → (b : Bool) → f u ≡ b → any_of f (x ∷ (us ++ vs)) ≡ any_of f (us ++ x ∷ vs)
        → any_of f (x ∷ (u ∷ (us ++ vs))) ≡ any_of f (u ∷ (us ++ x ∷ vs))
    go true p true q i = rw (any_of, p, q) refl
    go true p false q i = rw (any_of, p, q) (sym (rw (any_of, p) refl) ∙ i)
    go false p true q i = rw (any_of, p, q) refl
    go false p false q i = rw (any_of, p, q) (rw (any_of, p) at i)

-- sentences put before others, one by one
abbrev pub put_before : List Sentence → List Sentence → List Sentence
put_before before [] = before
put_before before (s ∷ ss) = put_before (s ∷ before) ss

-- behind a code that begins nothing of it stands
pub until-here : (s : Sentence) (ss : List Sentence) → is_code s.verb ≡ true → until_code (s ∷ ss) ≡ []
until-here s ss e = rw (until_code, e) refl

-- a line of a code is one of its lines
until-on : (s : Sentence) (ss : List Sentence) → is_code s.verb ≡ false → until_code (s ∷ ss) ≡ s ∷ until_code ss
until-on s ss e = rw (until_code, e) refl

-- lines without a code, up to the next code
pub until-prefix : (bs tail : List Sentence) → NoCode bs → until_code tail ≡ [] → until_code (bs ++ tail) ≡ bs
until-prefix [] tail none e = e
until-prefix (b ∷ bs) tail none e = until-on b (bs ++ tail) none.0 ∙ ap (λ ss. b ∷ ss) (until-prefix bs tail none.1 e)

module _ (all : List Sentence) (k : Known) (whole : List Sentence) (nodes : (r : Role) (t : List ℕ)
    → is_made r (found t k.nodes) ≡ any_of (makes_named r t) whole)
    (codes : (t : List ℕ) → is_made role.Callee (found t k.codes) ≡ any_of (same_bytes t) (flat_map code_begun all)) where
  -- the lines of a code
  pub body-faults : (before : List Sentence) (bs tail : Numbered) → NoCode (sayings bs) → until_code (sayings tail) ≡ []
      → ((f : Sentence → Bool) → any_of f (until_code before ++ sayings bs) ≡ any_of f whole)
      → second_pass all before (bs ++ tail) ≡ faults_within k bs ++ second_pass all (put_before before (sayings bs)) tail
  body-faults before [] tail none e h = refl
  body-faults before (p ∷ bs) tail none e h =
      let context = until_code before ++ (p.1 ∷ until_code (sayings (bs ++ tail))) in
      let behind : until_code (sayings (bs ++ tail)) ≡ sayings bs = ap until_code (map-append (λ (q : ℕ × Sentence). q.1) bs tail)
      ∙ until-prefix (sayings bs) (sayings tail) none.1 e in
      let is : (f : Sentence → Bool) → any_of f context ≡ any_of f whole = λ f. ap (λ ss. any_of f (until_code before ++ (p.1 ∷ ss))) behind ∙ h f in
      let here : faults_of_names all context p.1 ≡ faults_known k p.1 = faults-alike k all context p.1 (λ r t. nodes r t ∙ sym (is (makes_named r t))) codes in
      let next : (f : Sentence → Bool) → any_of f (until_code (p.1 ∷ before) ++ sayings bs) ≡ any_of f whole =
      λ f. ap (λ us. any_of f (us ++ sayings bs)) (until-on p.1 before none.0) ∙ (any-moved f p.1 (until_code before) (sayings bs) ∙ h f) in
      ap (λ cs. map (λ c. (p.0, c)) cs ++ second_pass all (p.1 ∷ before) (bs ++ tail)) here
      ∙ ap (λ fs. map (λ c. (p.0, c)) (faults_known k p.1) ++ fs) (body-faults (p.1 ∷ before) bs tail none.1 e next)
      ∙ sym (append_assoc (map (λ c. (p.0, c)) (faults_known k p.1)) (faults_within k bs) (second_pass all (put_before (p.1 ∷ before) (sayings bs)) tail))
