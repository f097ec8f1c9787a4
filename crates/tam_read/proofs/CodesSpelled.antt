-- The lines of codes spell the lines of the graph of these codes.
use Rattle.std.proofs.Common.{◌≡◌, ℕ, zero, suc, ◌+◌, ◌≤◌, ◌<◌, Bool, true, false, ◌&&◌, List, [], ◌∷◌, ◌++◌, length, map, flat_map, take, Option, Some, None}
use Rattle.std.proofs.Common.{refl, sym, ap, ap₂, subst, ◌∙◌, true≢false, append_assoc, arith, inl, inr, ◌⊎◌, ⊎_elim}
use Rattle.std.specs.Prelude.{codes as bytes_of, slice_get}
use Rattle.std.proofs.lemmas.List.{map-append, append-nil}
use Rattle.std.proofs.lemmas.List.Concat.{flat_map-cons}
use Rattle.tam_word.specs.Lists.{all_of, same_bytes}
use Rattle.tam_word.specs.Numbers.{some_if}
use Rattle.tam_word.proofs.Members.{In, left-in, right-in, in-append, in-map}
use Rattle.tam_word.proofs.Tests.{true-both, both-true, number-eq}
use Rattle.tam_graph.specs.declared.node.Node.{Node}
use Rattle.tam_text.specs.Names.{is_name}
use Rattle.tam_graph.specs.Graphs.{Code, Graph, graph_of, code_of, or_code}
use Rattle.tam_graph.specs.Texts.{Line, Bytes, node_name, or_name, or_bytes, visit_line, end_line, code_lines}
use Rattle.tam_graph.specs.Reading.{same_line, same_lines}
use Rattle.tam_graph.specs.Written.{visits}
use Rattle.tam_graph.proofs.Visited.{size, visits_of}
use Rattle.tam_text.proofs.SameBytes.{same_self}
use Rattle.tam_read.specs.declared.form.Verb.{Verb}
use Rattle.tam_read.specs.declared.form.Verb.TheVariants as verb
use Rattle.tam_read.specs.declared.form.Role.{Role}
use Rattle.tam_read.specs.declared.form.Role.TheVariants as role
use Rattle.tam_read.specs.declared.table.Made.{Made}
use Rattle.tam_read.specs.Sentences.{Sentence, has_form, verb_text, makes, roles_of, is_code, names_made, name_made, code_begun}
use Rattle.tam_read.specs.Tables.{Entries, found, code_entries, code_behind, codes_from}
use Rattle.tam_read.specs.Naming.{Known}
use Rattle.tam_read.specs.Building.{name_given}
use Rattle.tam_read.specs.Parts.{or_nameless}
use Rattle.tam_read.proofs.Nested.{Tree, flat}
use Rattle.tam_read.proofs.Codes.{CodeLines, lines_of_code, lines_of_codes}
use Rattle.tam_read.proofs.Clean.{NoCode}
use Rattle.tam_read.proofs.Looked.{node_list, found-nodes, code_list, found-codes}
use Rattle.tam_read.proofs.TreeBuilt.{shape}
use Rattle.tam_read.proofs.BlocksInOrder.{IsOfTree, stands, visited-so}
use Rattle.tam_read.proofs.ReadCodes.{body_lines, body-no-code, known_of, code_of_lines, code-of-tree}
use Rattle.tam_read.proofs.Worded.{with_name, words_said}
use Rattle.tam_read.proofs.Spelling.{AreFound, IsMade, IsGood, form-parts, one-element}
use Rattle.tam_read.proofs.TreeSpelled.{IsGoodLine, same-append, same-first, no-words, tree-spelled, end-spelled}
use Rattle.tam_read.proofs.Entered.{found-in, IsEntered, tree-entered, no-entry}

-- ---- nodes of a name

-- an element of a list of one is that one
only-name : (n m : List ℕ) → In n (m ∷ []) → m ≡ n
only-name n m (inl e) = e
only-name n m (inr k) = absurd k

-- where all of one are names, it is one
alone-named : (m : List ℕ) → all_of is_name (m ∷ []) ≡ true → is_name m ≡ true
alone-named m h = go (is_name m) refl
  where
    go : (b : Bool) → is_name m ≡ b → is_name m ≡ true
    go true p = p
    go false p = absurd (true≢false (sym (rw (all_of, p) at h)))

-- the node of an entry has its name
pub entered-name : (c : Code) (q : Known) (ss : List Sentence) (n : List ℕ) (m : Made) (e : IsEntered c q ss n m) → IsGood q e.line → e.node.name ≡ Some n
entered-name c q ss n m e good =
    let p = form-parts (makes e.line.verb) e.line.name e.line.rest (roles_of e.line.verb) good.form in
    let one = one-element e.line.name (number-eq (length e.line.name) 1 (rw e.role at p.0)) in
    let names : names_made e.line ≡ name_made e.line.verb one.0 ∷ [] = ap (map (name_made e.line.verb)) one.1 in
    let same : name_made e.line.verb one.0 ≡ n = only-name n (name_made e.line.verb one.0) (subst (λ ns. In n ns) names e.named) in
    let named : is_name (name_made e.line.verb one.0) ≡ true = alone-named (name_made e.line.verb one.0) (ap (all_of is_name) (sym names) ∙ good.names) in
    e.made.name ∙ ap name_given names ∙ ap (λ b. some_if b (name_made e.line.verb one.0)) named ∙ ap Some same

-- ---- codes of a name

-- the one name that is begun
only-begun : (n : List ℕ) (rest : List (List ℕ)) → In n (take 1 rest) → or_nameless (take 1 rest) ≡ n
only-begun n [] i = absurd i
only-begun n (m ∷ rest) i = only-name n m i

-- the name that a line begins is its first
begun-by : (n : List ℕ) (s : Sentence) → In n (code_begun s) → or_nameless (code_begun s) ≡ n
begun-by n s i = go (is_code s.verb) refl
  where
    go : (b : Bool) → is_code s.verb ≡ b → or_nameless (code_begun s) ≡ n
    go true e = rw (code_begun, e) (only-begun n s.rest (rw (code_begun, e) at i))
    go false e = absurd (rw (code_begun, e) at i)

-- a line that begins no code leaves the number
plain-behind : (v : Verb) (n : ℕ) → is_code v ≡ false → code_behind v n ≡ n
plain-behind verb.Code n e = absurd (true≢false e)
plain-behind v n e = refl

-- one that does counts one more
code-behind : (v : Verb) (n : ℕ) → v ≡ verb.Code → code_behind v n ≡ suc n
code-behind v n e = ap (λ w. code_behind w n) e ∙ omega arith

-- a line that begins no code enters none
none-begun : (s : Sentence) (n : ℕ) → is_code s.verb ≡ false → code_entries n s ≡ []
none-begun s n e = rw (code_entries, code_begun, e) refl

-- lines without a code have no entry of a code
pub skip-lines : (n : ℕ) (xs rest : List Sentence) → NoCode xs → code_list n (xs ++ rest) ≡ code_list n rest
skip-lines n [] rest none = refl
skip-lines n (x ∷ xs) rest none =
    ap (λ es. es ++ code_list (code_behind x.verb n) (xs ++ rest)) (none-begun x n none.0) ∙ ap (λ k. code_list k (xs ++ rest)) (plain-behind x.verb n none.0)
    ∙ skip-lines n xs rest none.1

-- an entry's code stands at its number
pub record IsCodeAt (ds : List CodeLines) (first : ℕ) (t : List ℕ) (m : Made) : Type 0 where
  pub place : ℕ
  pub number : m.number ≡ first + place
  pub code : CodeLines
  pub there : slice_get ds place ≡ Some code
  pub named : or_nameless (code_begun code.head) ≡ t

-- an entry of a code's name has its number
pub code-entered : (ds : List CodeLines) (first : ℕ) (t : List ℕ) (m : Made) → In (t, m) (code_list first (lines_of_codes ds)) → IsCodeAt ds first t m
code-entered [] first t m i = absurd i
code-entered (d ∷ ds) first t m i =
    ⊎_elim
    (λ here.
    let p = in-map (λ c. (c, record { role = role.Callee; number = first })) (t, m) (code_begun d.head) here in
    let pair : (p.0, record { role = role.Callee; number = first }) ≡ (t, m) = p.2 in
    let name : p.0 ≡ t = ap (λ z. z.0) pair in
    let number : first ≡ m.number = ap (λ z. z.1.number) pair in
    record { place = 0; number = omega (arith, number); code = d; there = refl; named = begun-by t d.head (subst (λ k. In k (code_begun d.head)) name p.1) })
    (λ later.
    let skipped : code_list (code_behind d.head.verb first) (body_lines d ++ lines_of_codes ds) ≡ code_list (suc first) (lines_of_codes ds) =
    ap (λ k. code_list k (body_lines d ++ lines_of_codes ds)) (code-behind d.head.verb first d.begins)
    ∙ skip-lines (suc first) (body_lines d) (lines_of_codes ds) (body-no-code d) in
    let e = code-entered ds (suc first) t m (subst (λ es. In (t, m) es) skipped later) in
    record { place = suc e.place; number = e.number ∙ omega arith; code = e.code; there = e.there; named = e.named })
    (in-append (t, m) (code_entries first d.head) (code_list (code_behind d.head.verb first) (body_lines d ++ lines_of_codes ds)) i)

-- an element of an image
pub get-mapped : {X Y : Type 0} (f : X → Y) (xs : List X) (k : ℕ) (x : X) → slice_get xs k ≡ Some x → slice_get (map f xs) k ≡ Some (f x)
get-mapped f [] k x e = absurd cc
get-mapped f (y ∷ ys) zero x e = let same : y ≡ x = cc in ap (λ z. Some (f z)) same
get-mapped f (y ∷ ys) (suc k) x e = get-mapped f ys k x e

-- ---- a graph of codes

-- the names of the codes of a text
abbrev pub entries_of : List CodeLines → Entries
entries_of ds = codes_from 0 (lines_of_codes ds) []

-- the graph of the codes
abbrev pub graph_read : List CodeLines → Graph
graph_read ds = graph_of (map (code_of_lines (entries_of ds)) ds)

-- no line of the code has a fault
pub record IsGoodCode (es : Entries) (d : CodeLines) : Type 0 where
  pub head : has_form d.head.name d.head.rest d.head.verb ≡ true
  pub lines : (s : Sentence) → In s (body_lines d) → IsGoodLine (known_of es d) s

module _ (es : Entries) (d : CodeLines) (good : IsGoodCode es d) where
  -- what a name names is one of the code's nodes
  pub node-entered : (t : List ℕ) (m : Made) → found t (known_of es d).nodes ≡ Some m → IsEntered (code_of_lines es d) (known_of es d) (flat d.body) t m
  node-entered t m e =
      let c = code_of_lines es d in
      let q = known_of es d in
      let i = found-in t (node_list 0 (body_lines d)) m (sym (found-nodes t 0 (body_lines d) []) ∙ e) in
      ⊎_elim (λ w. w) (λ w. absurd (none w)) (tree-entered c q d.body 0 0 1 d.fits (stands q d.body c (code-of-tree es d)) (d.close ∷ []) t m i)
    where
      none : In (t, m) (node_list (0 + size (shape d.body)) (d.close ∷ [])) → ⊥
      none w = subst (λ z. In (t, m) (z ++ [])) (no-entry d.close (0 + size (shape d.body)) (ap makes d.closes)) w

  pub entered-good : (t : List ℕ) (m : Made) (e : IsEntered (code_of_lines es d) (known_of es d) (flat d.body) t m) → IsGood (known_of es d) e.line
  entered-good t m e = (good.lines e.line (left-in e.line (flat d.body) (d.close ∷ []) e.among)).node e.is-node

  nodes-there : (t : List ℕ) (m : Made) → found t (known_of es d).nodes ≡ Some m → node_name (code_of_lines es d) m.number ≡ t
  nodes-there t m e =
      let w = node-entered t m e in
      ap or_name w.there ∙ ap or_bytes (entered-name (code_of_lines es d) (known_of es d) (flat d.body) t m w (entered-good t m w))

-- a name of a code names it
pub codes-there : (ds : List CodeLines) (t : List ℕ) (m : Made) → found t (entries_of ds) ≡ Some m → (code_of (graph_read ds) m.number).name ≡ t
codes-there ds t m e =
    let w = code-entered ds 0 t m (found-in t (code_list 0 (lines_of_codes ds)) m (sym (found-codes t 0 (lines_of_codes ds) []) ∙ e)) in
    let number : m.number ≡ w.place = w.number ∙ omega arith in
    ap (λ n. (code_of (graph_read ds) n).name) number
    ∙ ap (λ o. (or_code o).name) (get-mapped (code_of_lines (entries_of ds)) ds w.place w.code w.there) ∙ w.named

-- what names name is there
pub are-found : (ds : List CodeLines) (d : CodeLines) → IsGoodCode (entries_of ds) d
    → AreFound (graph_read ds) (code_of_lines (entries_of ds) d) (known_of (entries_of ds) d)
are-found ds d good = record { nodes = nodes-there (entries_of ds) d good; codes = codes-there ds }

-- the first line of a code
head-spelled : (s : Sentence) → s.verb ≡ verb.Code → has_form s.name s.rest s.verb ≡ true
    → same_line (words_said s) (Bytes (bytes_of "code") ∷ Bytes (or_nameless (code_begun s)) ∷ []) ≡ true
head-spelled s e f =
    let p = both-true _ _ (ap (has_form s.name s.rest) (sym e) ∙ f) in
    let none : s.name ≡ [] = no-words s.name (number-eq (length s.name) 0 p.0) in
    let one = one-element s.rest (number-eq (length s.rest) 1 p.1) in
    let begun : or_nameless (code_begun s) ≡ one.0 = rw (code_begun, ap is_code e) (ap (λ r. or_nameless (take 1 r)) one.1) in
    let words : words_said s ≡ bytes_of "code" ∷ one.0 ∷ [] = ap₂ (λ n r. with_name n (verb_text s.verb ∷ r)) none one.1
    ∙ ap (λ v. verb_text v ∷ one.0 ∷ []) e in
    ap₂ (λ ws n. same_line ws (Bytes (bytes_of "code") ∷ Bytes n ∷ [])) words begun
    ∙ true-both _ _ (same_self (bytes_of "code")) (true-both _ _ (same_self one.0) refl)

-- a code's lines spell the code's lines
pub code-spelled : (ds : List CodeLines) (d : CodeLines) → IsGoodCode (entries_of ds) d
    → same_lines (map words_said (lines_of_code d)) (code_lines (graph_read ds) (code_of_lines (entries_of ds) d)) ≡ true
code-spelled ds d good =
    let g = graph_read ds in
    let q = known_of (entries_of ds) d in
    let c = code_of_lines (entries_of ds) d in
    let of = code-of-tree (entries_of ds) d in
    let body = tree-spelled g c q (are-found ds d good) d.body 0 0 1 d.fits (stands q d.body c of)
    (λ s i. good.lines s (left-in s (flat d.body) (d.close ∷ []) i)) in
    let last = end-spelled d.close d.closes (good.lines d.close (right-in d.close (flat d.body) (d.close ∷ []) (inl refl))).form in
    ap₂ (λ ws vs. same_lines (words_said d.head ∷ ws) ((Bytes (bytes_of "code") ∷ Bytes c.name ∷ []) ∷ (map (visit_line g c) vs ++ end_line ∷ [])))
    (map-append words_said (flat d.body) (d.close ∷ [])) (visited-so q d.body c of)
    ∙ same-first (words_said d.head) (map words_said (flat d.body) ++ words_said d.close ∷ []) (Bytes (bytes_of "code") ∷ Bytes c.name ∷ [])
    (map (visit_line g c) (visits_of (shape d.body) 0) ++ end_line ∷ [])
    (head-spelled d.head d.begins good.head)
    (same-append (map words_said (flat d.body)) (words_said d.close ∷ []) (map (visit_line g c) (visits_of (shape d.body) 0)) (end_line ∷ []) body
    (same-first (words_said d.close) [] end_line [] last refl))

-- and those of codes the graph's
pub codes-spelled : (ds some : List CodeLines) → ((d : CodeLines) → In d some → IsGoodCode (entries_of ds) d)
    → same_lines (map words_said (lines_of_codes some)) (flat_map (code_lines (graph_read ds)) (map (code_of_lines (entries_of ds)) some)) ≡ true
codes-spelled ds [] good = refl
codes-spelled ds (d ∷ some) good =
    let g = graph_read ds in
    let c = code_of_lines (entries_of ds) d in
    ap₂ same_lines (map-append words_said (lines_of_code d) (lines_of_codes some)) (flat_map-cons (code_lines g) c (map (code_of_lines (entries_of ds)) some))
    ∙ same-append (map words_said (lines_of_code d)) (map words_said (lines_of_codes some)) (code_lines g c)
    (flat_map (code_lines g) (map (code_of_lines (entries_of ds)) some))
    (code-spelled ds d (good d (inl refl))) (codes-spelled ds some (λ e i. good e (inr i)))
