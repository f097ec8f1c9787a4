-- What a look-up in a table says of the lines whose names were put in.
use Rattle.std.proofs.Common.{◌≡◌, ℕ, ◌+◌, Bool, true, false, ◌&&◌, ◌||◌, List, [], ◌∷◌, ◌++◌, map, flat_map, Option, Some, None, refl, sym, ap, subst, ◌∙◌}
use Rattle.std.proofs.Common.{inl, inr, true≢false, append_assoc}
use Rattle.std.proofs.lemmas.List.{append-nil}
use Rattle.std.proofs.lemmas.List.Concat.{flat_map-cons}
use Rattle.tam_word.specs.Lists.{any_of, same_bytes}
use Rattle.tam_word.proofs.Tests.{both-true}
use Rattle.tam_word.proofs.Members.{In, any-in, flat_map-in}
use Rattle.tam_text.proofs.SameBytes.{same_equal, same_self}
use Rattle.tam_read.specs.declared.form.Verb.{Verb}
use Rattle.tam_read.specs.declared.form.Verb.TheVariants as verb
use Rattle.tam_read.specs.declared.form.Role.{Role}
use Rattle.tam_read.specs.declared.form.Role.TheVariants as role
use Rattle.tam_read.specs.declared.table.Made.{Made}
use Rattle.tam_read.specs.Sentences.{Sentence, makes, same_role, is_code, names_made, code_begun}
use Rattle.tam_read.specs.Faults.{makes_named}
use Rattle.tam_read.specs.Tables.{Entries, found, with_entry, put_in, put_all, number_behind, node_entries, nodes_from, code_entries, code_behind, codes_from}
use Rattle.tam_read.specs.Naming.{is_made}
use Rattle.tam_read.proofs.Clean.{DifferBehind, Apart}
use Rattle.tam_read.proofs.Among.{any_of_append}

-- the first, or else the second
abbrev pub or_else : Option Made → Option Made → Option Made
or_else None o = o
or_else (Some m) o = Some m

-- a look-up in entries behind others
pub found-append : (t : List ℕ) (es fs : Entries) → found t (es ++ fs) ≡ or_else (found t es) (found t fs)
found-append t [] fs = refl
found-append t (e ∷ es) fs = go (same_bytes t e.0) refl (found-append t es fs)
  where
    go : (b : Bool) → same_bytes t e.0 ≡ b → found t (es ++ fs) ≡ or_else (found t es) (found t fs)
        → found t (e ∷ (es ++ fs)) ≡ or_else (found t (e ∷ es)) (found t fs)
    go true p i = rw (found, p) refl
    go false p i = rw (found, p) i

-- a name that is put in where it is found changes nothing
or-itself : (t n : List ℕ) (m : Made) (es : Entries) (o : Option Made) (other : Made) → found n es ≡ Some other → found t es ≡ o
    → or_else o (found t ((n, m) ∷ [])) ≡ o
or-itself t n m es (Some x) other e f = refl
or-itself t n m es None other e f = go (same_bytes t n) refl
  where
    go : (b : Bool) → same_bytes t n ≡ b → found t ((n, m) ∷ []) ≡ None
    go false p = rw (found, p) refl
    go true p = absurd (let q : None ≡ Some other = sym f ∙ (ap (λ x. found x es) (same_equal t n p) ∙ e) in cc)

-- a look-up behind a name that is put in
found-put_in : (t n : List ℕ) (m : Made) (es : Entries) → found t (put_in n m es) ≡ found t (es ++ (n, m) ∷ [])
found-put_in t n m es = go (found n es) refl
  where
    go : (o : Option Made) → found n es ≡ o → found t (with_entry n m es (found n es)) ≡ found t (es ++ (n, m) ∷ [])
    go None e = ap (λ o. found t (with_entry n m es o)) e
    go (Some other) e = ap (λ o. found t (with_entry n m es o)) e ∙ sym (found-append t es ((n, m) ∷ []) ∙ or-itself t n m es (found t es) other e refl)

-- and behind names
pub found-put_all : (t : List ℕ) (more es : Entries) → found t (put_all more es) ≡ found t (es ++ more)
found-put_all t [] es = ap (found t) (sym (append-nil es))
found-put_all t (e ∷ more) es =
    found-put_all t more (put_in e.0 e.1 es) ∙ found-append t (put_in e.0 e.1 es) more
    ∙ ap (λ o. or_else o (found t more)) (found-put_in t e.0 e.1 es) ∙ sym (found-append t (es ++ e ∷ []) more)
    ∙ ap (found t) (append_assoc es (e ∷ []) more)

-- the entries of lines in a row
abbrev pub node_list : ℕ → List Sentence → Entries
node_list x [] = []
node_list x (s ∷ ss) = node_entries x s ++ node_list (number_behind s.verb x) ss

-- a look-up in a table of nodes is one in their entries
pub found-nodes : (t : List ℕ) (x : ℕ) (ss : List Sentence) (es : Entries) → found t (nodes_from x ss es) ≡ found t (es ++ node_list x ss)
found-nodes t x [] es = ap (found t) (sym (append-nil es))
found-nodes t x (s ∷ ss) es =
    found-nodes t (number_behind s.verb x) ss (put_all (node_entries x s) es)
    ∙ found-append t (put_all (node_entries x s) es) (node_list (number_behind s.verb x) ss)
    ∙ ap (λ o. or_else o (found t (node_list (number_behind s.verb x) ss))) (found-put_all t (node_entries x s) es)
    ∙ sym (found-append t (es ++ node_entries x s) (node_list (number_behind s.verb x) ss))
    ∙ ap (found t) (append_assoc es (node_entries x s) (node_list (number_behind s.verb x) ss))

-- the entries of codes in a row
abbrev pub code_list : ℕ → List Sentence → Entries
code_list n [] = []
code_list n (s ∷ ss) = code_entries n s ++ code_list (code_behind s.verb n) ss

-- and so of codes
pub found-codes : (t : List ℕ) (n : ℕ) (ss : List Sentence) (es : Entries) → found t (codes_from n ss es) ≡ found t (es ++ code_list n ss)
found-codes t n [] es = ap (found t) (sym (append-nil es))
found-codes t n (s ∷ ss) es =
    found-codes t (code_behind s.verb n) ss (put_all (code_entries n s) es)
    ∙ found-append t (put_all (code_entries n s) es) (code_list (code_behind s.verb n) ss)
    ∙ ap (λ o. or_else o (found t (code_list (code_behind s.verb n) ss))) (found-put_all t (code_entries n s) es)
    ∙ sym (found-append t (es ++ code_entries n s) (code_list (code_behind s.verb n) ss))
    ∙ ap (found t) (append_assoc es (code_entries n s) (code_list (code_behind s.verb n) ss))

-- a look-up among names of one thing
pub found-one : (t : List ℕ) (ns : List (List ℕ)) (m : Made) (b : Bool) → any_of (same_bytes t) ns ≡ b
    → found t (map (λ n. (n, m)) ns) ≡ (elim b [ true ↦ Some m | false ↦ None ])
found-one t [] m true e = absurd (true≢false (sym e))
found-one t [] m false e = refl
found-one t (n ∷ ns) m b e = go (same_bytes t n) refl b e (found-one t ns m)
  where
    go : (c : Bool) → same_bytes t n ≡ c → (b : Bool) → any_of (same_bytes t) (n ∷ ns) ≡ b
        → ((b : Bool) → any_of (same_bytes t) ns ≡ b → found t (map (λ n. (n, m)) ns) ≡ (elim b [ true ↦ Some m | false ↦ None ]))
        → found t ((n, m) ∷ map (λ n. (n, m)) ns) ≡ (elim b [ true ↦ Some m | false ↦ None ])
    go true p true q i = rw (found, p) refl
    go true p false q i = absurd (true≢false (rw (any_of, p) at q))
    go false p b q i = rw (found, p) (i b (rw (any_of, p) at q))

-- ---- codes: a name is found where a code has it

-- a code of the name is among them
pub codes-found : (t : List ℕ) (n : ℕ) (ss : List Sentence) → is_made role.Callee (found t (code_list n ss)) ≡ any_of (same_bytes t) (flat_map code_begun ss)
codes-found t n [] = refl
codes-found t n (s ∷ ss) =
    ap (is_made role.Callee) (found-append t (code_entries n s) (code_list (code_behind s.verb n) ss))
    ∙ go (any_of (same_bytes t) (code_begun s)) refl (codes-found t (code_behind s.verb n) ss)
    ∙ sym (ap (any_of (same_bytes t)) (flat_map-cons code_begun s ss) ∙ any_of_append (same_bytes t) (code_begun s) (flat_map code_begun ss))
  where
    go : (b : Bool) → any_of (same_bytes t) (code_begun s) ≡ b → is_made role.Callee (found t (code_list (code_behind s.verb n) ss))
        ≡ any_of (same_bytes t) (flat_map code_begun ss)
        → is_made role.Callee (or_else (found t (code_entries n s)) (found t (code_list (code_behind s.verb n) ss)))
        ≡ (any_of (same_bytes t) (code_begun s) || any_of (same_bytes t) (flat_map code_begun ss))
    go true e i = rw (found-one t (code_begun s) (record { role = role.Callee; number = n }) true e, e) refl
    go false e i = rw (found-one t (code_begun s) (record { role = role.Callee; number = n }) false e, e) i

-- ---- nodes: a name is found in a role where a node has it in this role

-- the name of a node that makes it is one of the names
named-in : (r : Role) (t : List ℕ) (s : Sentence) → makes_named r t s ≡ true → In t (names_made s)
named-in r t s h = go (makes s.verb) refl
  where
    has : any_of (same_bytes t) (names_made s) ≡ true → In t (names_made s)
    has h = let m = any-in (same_bytes t) (names_made s) h in subst (λ n. In n (names_made s)) (sym (same_equal t m.0 m.2)) m.1

    go : (o : Option Role) → makes s.verb ≡ o → In t (names_made s)
    go None e = absurd (true≢false (sym (rw (makes_named, e) at h)))
    go (Some q) e = has (both-true (same_role r q) (any_of (same_bytes t) (names_made s)) (rw (makes_named, e) at h)).1

-- a name of an earlier node is that of no later one
not-later : (r : Role) (t : List ℕ) (s : Sentence) (ss : List Sentence) → Apart (names_made s) (flat_map names_made ss)
    → any_of (same_bytes t) (names_made s) ≡ true → any_of (makes_named r t) ss ≡ false
not-later r t s ss apart here = go (any_of (makes_named r t) ss) refl
  where
    go : (b : Bool) → any_of (makes_named r t) ss ≡ b → any_of (makes_named r t) ss ≡ false
    go false e = e
    go true e =
        let m = any-in (makes_named r t) ss e in
        let n = any-in (same_bytes t) (names_made s) here in
        absurd (apart t (subst (λ x. In x (names_made s)) (sym (same_equal t n.0 n.2)) n.1) (flat_map-in names_made m.0 t ss m.1 (named-in r t m.0 m.2)))

-- where the names of nodes differ
pub nodes-found : (r : Role) (t : List ℕ) (x : ℕ) (ss : List Sentence) → DifferBehind ss → is_made r (found t (node_list x ss)) ≡ any_of (makes_named r t) ss
nodes-found r t x [] d = refl
nodes-found r t x (s ∷ ss) d =
    ap (is_made r) (found-append t (node_entries x s) (node_list (number_behind s.verb x) ss))
    ∙ go (makes s.verb) refl (nodes-found r t (number_behind s.verb x) ss d.1)
  where
    later : Option Made
    later = found t (node_list (number_behind s.verb x) ss)

    named : (q : Role) → makes s.verb ≡ Some q → (b : Bool) → any_of (same_bytes t) (names_made s) ≡ b
        → is_made r (found t (node_list (number_behind s.verb x) ss)) ≡ any_of (makes_named r t) ss
        → is_made r (or_else (found t (map (λ n. (n, record { role = q; number = x })) (names_made s))) (found t (node_list (number_behind s.verb x) ss)))
        ≡ any_of (makes_named r t) (s ∷ ss)
    named q e false f i = rw (found-one t (names_made s) (record { role = q; number = x }) false f, any_of, makes_named, e, f) (absent (same_role r q) i)
      where
        absent : (c : Bool) → is_made r (found t (node_list (number_behind s.verb x) ss)) ≡ any_of (makes_named r t) ss
            → is_made r (found t (node_list (number_behind s.verb x) ss)) ≡ (elim (c && false) [ true ↦ true | false ↦ any_of (makes_named r t) ss ])
        absent true i = i
        absent false i = i
    named q e true f i = rw (found-one t (names_made s) (record { role = q; number = x }) true f, any_of, makes_named, e, f)
        (present (same_role r q) (not-later r t s ss d.0 f))
      where
        present : (c : Bool) → any_of (makes_named r t) ss ≡ false → c ≡ (elim (c && true) [ true ↦ true | false ↦ any_of (makes_named r t) ss ])
        present true n = refl
        present false n = sym n

    go : (o : Option Role) → makes s.verb ≡ o → is_made r (found t (node_list (number_behind s.verb x) ss)) ≡ any_of (makes_named r t) ss
        → is_made r (or_else (found t (node_entries x s)) (found t (node_list (number_behind s.verb x) ss))) ≡ any_of (makes_named r t) (s ∷ ss)
    go None e i = rw (node_entries, any_of, makes_named, e) i
    go (Some q) e i = rw (node_entries, e) (named q e (any_of (same_bytes t) (names_made s)) refl i)
