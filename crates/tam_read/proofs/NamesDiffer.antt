-- The names of a text's codes differ, and those of a code's nodes.
use Rattle.std.proofs.Common.{◌≡◌, ℕ, suc, ◌+◌, ◌<◌, ◌≤◌, Bool, true, false, ◌&&◌, ◌==◌, nat_lt, List, [], ◌∷◌, ◌++◌, length, take, map, flat_map, Option}
use Rattle.std.proofs.Common.{Some, None, refl, sym, ap, ap₂, subst, ◌∙◌, true≢false, append_assoc, arith, inl, inr, ◌⊎◌, ⊎_elim}
use Rattle.std.proofs.lemmas.Bool.{ltb-false}
use Rattle.std.proofs.lemmas.List.{length-append, map-append}
use Rattle.std.proofs.lemmas.List.Concat.{flat_map-cons, flat_map-append}
use Rattle.tam_word.specs.Lists.{all_of, any_of, all_differ, same_bytes}
use Rattle.tam_word.specs.Numbers.{some_if}
use Rattle.tam_word.proofs.Members.{In, left-in, right-in, in-append, any-in}
use Rattle.tam_word.proofs.Tests.{both-true, number-eq}
use Rattle.tam_graph.specs.declared.node.Node.{Node}
use Rattle.tam_text.specs.Names.{is_name}
use Rattle.tam_graph.specs.Graphs.{Code}
use Rattle.tam_graph.specs.Reading.{given_names, names_in}
use Rattle.tam_text.proofs.SameBytes.{same_equal}
use Rattle.tam_graph.proofs.Visited.{opened}
use Rattle.tam_read.specs.declared.cause.Limit.TheVariants.{Codes}
use Rattle.tam_read.specs.declared.form.Verb.{Verb}
use Rattle.tam_read.specs.declared.form.Verb.TheVariants as verb
use Rattle.tam_read.specs.declared.form.Role.{Role}
use Rattle.tam_read.specs.declared.form.Role.TheVariants as role
use Rattle.tam_read.specs.Sentences.{Sentence, has_form, makes, roles_of, is_code, names_made, name_made, code_begun, each_token, is_name_for}
use Rattle.tam_read.specs.Faults.{some_shared, passes, faults_of_sentence}
use Rattle.tam_read.specs.Tables.{is_node}
use Rattle.tam_read.specs.Naming.{Known}
use Rattle.tam_read.specs.Building.{name_given}
use Rattle.tam_read.specs.Parts.{or_nameless}
use Rattle.tam_read.proofs.Nested.{Tree, Done, Plain, Branch, flat, Fits}
use Rattle.tam_read.proofs.Codes.{CodeLines, lines_of_code, lines_of_codes}
use Rattle.tam_read.proofs.Clean.{AreClean, NoCode, Apart, DifferBehind, clean-parts, not-shared}
use Rattle.tam_read.proofs.TreeBuilt.{shape, tree_nodes}
use Rattle.tam_read.proofs.ReadCodes.{body_lines, body-no-code, known_of, code_of_lines}
use Rattle.tam_read.proofs.Spelling.{IsGood, form-parts, one-element, no-element}
use Rattle.tam_read.proofs.TreeSpelled.{IsGoodLine, plain-is-node}
use Rattle.tam_read.proofs.CodesSpelled.{IsGoodCode, entries_of}
use Rattle.tam_read.proofs.Bounded.{limit-kept}

-- ---- the names of nodes

-- one name more, or none
given-one : (ns : List (List ℕ)) (rest : List (Option (List ℕ))) → length ns ≤ 1 → all_of is_name ns ≡ true
    → given_names (name_given ns ∷ rest) ≡ ns ++ given_names rest
given-one [] rest few h = refl
given-one (n ∷ []) rest few h = go (is_name n) refl
  where
    go : (b : Bool) → is_name n ≡ b → given_names (name_given (n ∷ []) ∷ rest) ≡ n ∷ given_names rest
    go true e = ap (λ b. given_names (some_if b n ∷ rest)) e
    go false e = absurd (true≢false (sym (rw (all_of, e) at h)))
given-one (n ∷ m ∷ ns) rest few h = absurd (omega arith)

-- an image is as long as the list
pub mapped : {X Y : Type 0} (f : X → Y) (xs : List X) → length (map f xs) ≡ length xs
mapped f [] = refl
mapped f (x ∷ xs) = ap suc (mapped f xs)

-- a line has at most one name
pub few-names : (s : Sentence) → has_form s.name s.rest s.verb ≡ true → length (names_made s) ≤ 1
few-names s f = go (makes s.verb) refl
  where
    go : (o : Option Role) → makes s.verb ≡ o → length (names_made s) ≤ 1
    go None e = let p = number-eq (length s.name) 0 (rw e at (form-parts (makes s.verb) s.name s.rest (roles_of s.verb) f).0) in omega
        (arith, mapped (name_made s.verb) s.name)
    go (Some r) e = let p = number-eq (length s.name) 1 (rw e at (form-parts (makes s.verb) s.name s.rest (roles_of s.verb) f).0) in omega
        (arith, mapped (name_made s.verb) s.name)

-- a line without a node has no name
no-names : (s : Sentence) → has_form s.name s.rest s.verb ≡ true → makes s.verb ≡ None → names_made s ≡ []
no-names s f e = ap (map (name_made s.verb)) (no-element s.name (number-eq (length s.name) 0
    (rw e at (form-parts (makes s.verb) s.name s.rest (roles_of s.verb) f).0)))

-- the names of two lists
given-append : (xs ys : List (Option (List ℕ))) → given_names (xs ++ ys) ≡ given_names xs ++ given_names ys
given-append [] ys = refl
given-append (None ∷ xs) ys = given-append xs ys
given-append (Some x ∷ xs) ys = ap (λ zs. x ∷ zs) (given-append xs ys)

-- the names of nodes
abbrev names_of : List Node → List (List ℕ)
names_of ns = given_names (map (λ n. n.name) ns)

-- of nodes one behind the other
names-append : (xs ys : List Node) → names_of (xs ++ ys) ≡ names_of xs ++ names_of ys
names-append xs ys = ap given_names (map-append (λ (n : Node). n.name) xs ys) ∙ given-append (map (λ n. n.name) xs) (map (λ n. n.name) ys)

-- the names of a tree's nodes are those of its lines
pub tree-names : (q : Known) (t : Tree) (b k : ℕ) → Fits t → ((s : Sentence) → In s (flat t) → IsGoodLine q s)
    → names_of (tree_nodes q t b k) ≡ flat_map names_made (flat t)
tree-names q Done b k f good = refl
tree-names q (Plain s r) b k f good =
    let g = (good s (inl refl)).node (plain-is-node s.verb f.0) in
    given-one (names_made s) (map (λ n. n.name) (tree_nodes q r b k)) (few-names s g.form) g.names
    ∙ ap (λ ns. names_made s ++ ns) (tree-names q r b k f.1 (λ z i. good z (inr i)))
    ∙ sym (flat_map-cons names_made s (flat r))
tree-names q (Branch s y t o e r) b k f good =
    let j = suc k + opened (shape y) in
    let m = suc j + opened (shape o) in
    let g = (good s (inl refl)).node (ap is_node f.0) in
    let behind_y = t ∷ (flat o ++ (e ∷ flat r)) in
    let in_rest : (z : Sentence) → In z behind_y → In z (flat (Branch s y t o e r)) = λ z i. inr (right-in z (flat y) behind_y i) in
    let in_e : (z : Sentence) → In z (e ∷ flat r) → In z (flat (Branch s y t o e r)) = λ z i. in_rest z (inr (right-in z (flat o) (e ∷ flat r) i)) in
    let none_t = no-names t (good t (in_rest t (inl refl))).form (ap makes f.2) in
    let none_e = no-names e (good e (in_e e (inl refl))).form (ap makes f.4) in
    let ys = tree_nodes q y k (suc k) in
    let os = tree_nodes q o j (suc j) in
    let rs = tree_nodes q r b m in
    let of_e : flat_map names_made (e ∷ flat r) ≡ flat_map names_made (flat r) = flat_map-cons names_made e (flat r)
    ∙ ap (λ ns. ns ++ flat_map names_made (flat r)) none_e in
    let of_o : flat_map names_made (flat o ++ (e ∷ flat r)) ≡ flat_map names_made (flat o) ++ flat_map names_made (flat r) = flat_map-append names_made
    (flat o) (e ∷ flat r) ∙ ap (λ ns. flat_map names_made (flat o) ++ ns) of_e in
    let of_t : flat_map names_made behind_y ≡ flat_map names_made (flat o) ++ flat_map names_made (flat r) =
    flat_map-cons names_made t (flat o ++ (e ∷ flat r)) ∙ ap₂ (λ a b. a ++ b) none_t of_o in
    let whole : flat_map names_made (flat (Branch s y t o e r)) ≡ names_made s ++
    (flat_map names_made (flat y) ++ (flat_map names_made (flat o) ++ flat_map names_made (flat r))) =
    flat_map-cons names_made s (flat y ++ behind_y) ∙ ap (λ ns. names_made s ++ ns) (flat_map-append names_made (flat y) behind_y
    ∙ ap (λ ns. flat_map names_made (flat y) ++ ns) of_t) in
    given-one (names_made s) (map (λ n. n.name) (ys ++ (os ++ rs))) (few-names s g.form) g.names
    ∙ ap (λ ns. names_made s ++ ns) (names-append ys (os ++ rs) ∙ ap₂ (λ a c. a ++ c)
    (tree-names q y k (suc k) f.1 (λ z i. good z (inr (left-in z (flat y) behind_y i))))
    (names-append os rs ∙ ap₂ (λ a c. a ++ c) (tree-names q o j (suc j) f.3 (λ z i. good z (in_rest z (inr (left-in z (flat o) (e ∷ flat r) i)))))
    (tree-names q r b m f.5 (λ z i. good z (in_e z (inr i))))))
    ∙ sym whole

-- ---- lists of names that differ

-- a name that is none of others
differs-first : (n : List ℕ) (ns : List (List ℕ)) → (In n ns → ⊥) → all_differ same_bytes ns ≡ true → all_differ same_bytes (n ∷ ns) ≡ true
differs-first n ns absent h = go (any_of (same_bytes n) ns) refl
  where
    go : (b : Bool) → any_of (same_bytes n) ns ≡ b → all_differ same_bytes (n ∷ ns) ≡ true
    go false e = rw (all_differ, e) h
    go true e = let m = any-in (same_bytes n) ns e in absurd (absent (subst (λ z. In z ns) (sym (same_equal n m.0 m.2)) m.1))

-- of at most one name each
one-by-one : (ns ms : List (List ℕ)) → length ns ≤ 1 → Apart ns ms → all_differ same_bytes ms ≡ true → all_differ same_bytes (ns ++ ms) ≡ true
one-by-one [] ms few apart h = h
one-by-one (n ∷ []) ms few apart h = differs-first n ms (apart n (inl refl)) h
one-by-one (n ∷ m ∷ ns) ms few apart h = absurd (omega arith)

-- the names of lines that differ
pub all-names-differ : (ss : List Sentence) → DifferBehind ss → ((s : Sentence) → In s ss → length (names_made s) ≤ 1)
    → all_differ same_bytes (flat_map names_made ss) ≡ true
all-names-differ [] d few = refl
all-names-differ (s ∷ ss) d few =
    ap (all_differ same_bytes) (flat_map-cons names_made s ss) ∙ one-by-one (names_made s) (flat_map names_made ss) (few s (inl refl)) d.0
    (all-names-differ ss d.1 (λ z i. few z (inr i)))

-- fewer lines differ too
pub differ-prefix : (xs ys : List Sentence) → DifferBehind (xs ++ ys) → DifferBehind xs
differ-prefix [] ys d = tt
differ-prefix (x ∷ xs) ys d = (
  λ n p q. d.0 n p (subst (λ ns. In n ns) (sym (flat_map-append names_made xs ys))
      (left-in n (flat_map names_made xs) (flat_map names_made ys) q)),
  differ-prefix xs ys d.1,
)

-- the names of the nodes of a code differ
pub code-names-differ : (ds : List CodeLines) (d : CodeLines) → IsGoodCode (entries_of ds) d → DifferBehind (body_lines d)
    → all_differ same_bytes (names_in (code_of_lines (entries_of ds) d)) ≡ true
code-names-differ ds d good differ =
    let q = known_of (entries_of ds) d in
    let here : (s : Sentence) → In s (flat d.body) → IsGoodLine q s = λ s i. good.lines s (left-in s (flat d.body) (d.close ∷ []) i) in
    ap (all_differ same_bytes) (tree-names q d.body 0 1 d.fits here)
    ∙ all-names-differ (flat d.body) (differ-prefix (flat d.body) (d.close ∷ []) differ) (λ s i. few-names s (here s i).form)

-- ---- the names of codes

-- the names of later codes are apart from those of earlier ones
codes-apart : (before ss : List Sentence) → AreClean before ss → Apart (flat_map code_begun ss) (flat_map code_begun before)
codes-apart before [] c n p q = absurd p
codes-apart before (s ∷ ss) c n p q =
    ⊎_elim (λ here. not-shared (code_begun s) (flat_map code_begun before) (clean-parts before s c.0).new_code n here q)
    (λ later. codes-apart (s ∷ before) ss c.1 n later (subst (λ ns. In n ns) (sym (flat_map-cons code_begun s before))
    (right-in n (code_begun s) (flat_map code_begun before) q)))
    (in-append n (code_begun s) (flat_map code_begun ss) (subst (λ ns. In n ns) (flat_map-cons code_begun s ss) p))

-- a line begins at most one code
one-code : (s : Sentence) → has_form s.name s.rest s.verb ≡ true → length (code_begun s) ≤ 1
one-code s f = go (is_code s.verb) refl
  where
    short : (xs : List (List ℕ)) → length (take 1 xs) ≤ 1
    short [] = omega arith
    short (x ∷ xs) = omega arith

    go : (b : Bool) → is_code s.verb ≡ b → length (code_begun s) ≤ 1
    go true e = rw (code_begun, e) (short s.rest)
    go false e = rw (code_begun, e) (omega arith)

-- the names of the codes of clean lines differ
begun-differ : (before ss : List Sentence) → AreClean before ss → ((s : Sentence) → In s ss → has_form s.name s.rest s.verb ≡ true)
    → all_differ same_bytes (flat_map code_begun ss) ≡ true
begun-differ before [] c form = refl
begun-differ before (s ∷ ss) c form =
    ap (all_differ same_bytes) (flat_map-cons code_begun s ss)
    ∙ one-by-one (code_begun s) (flat_map code_begun ss) (one-code s (form s (inl refl)))
    (λ n here later. codes-apart (s ∷ before) ss c.1 n later (subst (λ ns. In n ns) (sym (flat_map-cons code_begun s before))
    (left-in n (code_begun s) (flat_map code_begun before) here)))
    (begun-differ (s ∷ before) ss c.1 (λ z i. form z (inr i)))

-- a code's lines begin it alone
none-begun : (ss : List Sentence) → NoCode ss → flat_map code_begun ss ≡ []
none-begun [] none = refl
none-begun (s ∷ ss) none =
    let here : code_begun s ≡ [] = rw (code_begun, none.0) refl in
    flat_map-cons code_begun s ss ∙ ap₂ (λ a b. a ++ b) here (none-begun ss none.1)

-- the first line of a code begins the code of its name
head-name : (d : CodeLines) → has_form d.head.name d.head.rest d.head.verb ≡ true → code_begun d.head ≡ or_nameless (code_begun d.head) ∷ []
head-name d f =
    let p = both-true (length d.head.name == 0) (length d.head.rest == 1) (ap (has_form d.head.name d.head.rest) (sym d.begins) ∙ f) in
    let one = one-element d.head.rest (number-eq (length d.head.rest) 1 p.1) in
    let begun : code_begun d.head ≡ one.0 ∷ [] = rw (code_begun, ap is_code d.begins) (ap (take 1) one.1) in
    begun ∙ ap (λ n. n ∷ []) (sym (ap or_nameless begun))

-- the names of the codes, one each
pub begun-names : (ds : List CodeLines) → ((d : CodeLines) → In d ds → has_form d.head.name d.head.rest d.head.verb ≡ true)
    → flat_map code_begun (lines_of_codes ds) ≡ map (λ d. or_nameless (code_begun d.head)) ds
begun-names [] form = refl
begun-names (d ∷ ds) form =
    flat_map-cons code_begun d.head (body_lines d ++ lines_of_codes ds)
    ∙ ap₂ (λ a b. a ++ b) (head-name d (form d (inl refl)))
    (flat_map-append code_begun (body_lines d) (lines_of_codes ds) ∙ ap₂ (λ a b. a ++ b) (none-begun (body_lines d) (body-no-code d))
    (begun-names ds (λ z i. form z (inr i))))

-- so the names of the codes differ
pub codes-differ : (ds : List CodeLines) → AreClean [] (lines_of_codes ds) → ((s : Sentence) → In s (lines_of_codes ds) → has_form s.name s.rest s.verb ≡ true)
    → ((d : CodeLines) → In d ds → has_form d.head.name d.head.rest d.head.verb ≡ true)
    → all_differ same_bytes (map (λ d. or_nameless (code_begun d.head)) ds) ≡ true
codes-differ ds c form heads = ap (all_differ same_bytes) (sym (begun-names ds heads)) ∙ begun-differ [] (lines_of_codes ds) c form

-- and each is a name
pub head-named : (d : CodeLines) → has_form d.head.name d.head.rest d.head.verb ≡ true → each_token is_name_for (roles_of d.head.verb) d.head.rest ≡ true
    → is_name (or_nameless (code_begun d.head)) ≡ true
head-named d f h =
    let p = both-true (length d.head.name == 0) (length d.head.rest == 1) (ap (has_form d.head.name d.head.rest) (sym d.begins) ∙ f) in
    let one = one-element d.head.rest (number-eq (length d.head.rest) 1 p.1) in
    let begun : or_nameless (code_begun d.head) ≡ one.0 = rw (code_begun, ap is_code d.begins) (ap (λ r. or_nameless (take 1 r)) one.1) in
    let k : each_token is_name_for (role.Code ∷ []) (one.0 ∷ []) ≡ true = ap₂ (λ v r. each_token is_name_for (roles_of v) r) (sym d.begins) (sym one.1) ∙ h in
    ap is_name begun ∙ at one.0 (is_name one.0) refl k
  where
    at : (m : List ℕ) (b : Bool) → is_name m ≡ b → each_token is_name_for (role.Code ∷ []) (m ∷ []) ≡ true → is_name m ≡ true
    at m true e k = e
    at m false e k = absurd (true≢false (sym (rw (each_token, is_name_for, e) at k)))

-- ---- how many codes

-- not more than 256 codes begin
few-begun : (before ss : List Sentence) → AreClean before ss → ((s : Sentence) → In s ss → has_form s.name s.rest s.verb ≡ true)
    → length (flat_map code_begun before) ≤ 256 → length (flat_map code_begun ss) + length (flat_map code_begun before) ≤ 256
few-begun before [] c form h = omega (arith, h)
few-begun before (s ∷ ss) c form h =
    let next : length (flat_map code_begun (s ∷ before)) ≡ length (code_begun s) + length (flat_map code_begun before) = ap length
    (flat_map-cons code_begun s before) ∙ length-append (code_begun s) (flat_map code_begun before) in
    let here : length (code_begun s) + length (flat_map code_begun before) ≤ 256 = go (is_code s.verb) refl in
    let i = few-begun (s ∷ before) ss c.1 (λ z i. form z (inr i)) (omega (arith, next, here)) in
    omega (arith, i, next, ap length (flat_map-cons code_begun s ss), length-append (code_begun s) (flat_map code_begun ss))
  where
    second : (t u : Bool) → t ≡ true → (t && u) ≡ false → u ≡ false
    second true u p e = e
    second false u p e = absurd cc

    go : (b : Bool) → is_code s.verb ≡ b → length (code_begun s) + length (flat_map code_begun before) ≤ 256
    go false e = rw (code_begun, e) (omega (arith, h))
    go true e =
        let less : length (flat_map code_begun before) ≤ 255 = ltb-false 255 (length (flat_map code_begun before))
        (second (is_code s.verb) (nat_lt 255 (length (flat_map code_begun before))) e (limit-kept before s Codes c.0)) in
        let one = one-code s (form s (inl refl)) in
        omega arith

-- there are at most 256 codes
pub few-codes : (ds : List CodeLines) → AreClean [] (lines_of_codes ds) → ((s : Sentence) → In s (lines_of_codes ds) → has_form s.name s.rest s.verb ≡ true)
    → ((d : CodeLines) → In d ds → has_form d.head.name d.head.rest d.head.verb ≡ true) → length ds ≤ 256
few-codes ds c form heads =
    let i = few-begun [] (lines_of_codes ds) c form (omega arith) in
    omega (arith, i, ap length (begun-names ds heads), mapped (λ (d : CodeLines). or_nameless (code_begun d.head)) ds)
