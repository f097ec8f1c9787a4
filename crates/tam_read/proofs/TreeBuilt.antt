-- What is built of a tree of lines.
use Rattle.std.proofs.Common.{◌≡◌, ℕ, zero, suc, ◌+◌, ◌≤◌, Bool, true, false, List, [], ◌∷◌, ◌++◌, length, Option, Some, None, refl, sym, ap, subst, ◌∙◌}
use Rattle.std.proofs.Common.{append_assoc, arith}
use Rattle.std.proofs.lemmas.List.{append-nil, length-append}
use Rattle.tam_word.specs.Lists.{changed_at}
use Rattle.tam_graph.specs.declared.kind.Kind.{Kind}
use Rattle.tam_graph.specs.declared.kind.Kind.TheVariants as kind
use Rattle.tam_graph.specs.declared.node.Node.{Node}
use Rattle.tam_graph.proofs.Visited.{Items, Done as NoItem, Plain as Item, Branch as Split, is_plain, size, opened}
use Rattle.tam_read.specs.declared.form.Verb.{Verb}
use Rattle.tam_read.specs.declared.form.Verb.TheVariants as verb
use Rattle.tam_read.specs.declared.branch.Branch.{Branch as OpenBlock}
use Rattle.tam_read.specs.Sentences.{Sentence, roles_of, names_made}
use Rattle.tam_read.specs.Naming.{Known, first_number, second_number, third_number}
use Rattle.tam_read.specs.Building.{kind_made, kind_said, depth_made, name_given, node_said, Built, built, built_behind, built_by, turned_else, with_else}
use Rattle.tam_read.specs.Building.{else_kind, block_within, cond_within, outside, a_branch}
use Rattle.tam_read.proofs.Nested.{Tree, Done, Plain, Branch, flat, Fits, is_plain_verb}

-- a tree without its sentences
abbrev pub shape : Tree → Items
shape Done = NoItem
shape (Plain s r) = Item (shape r)
shape (Branch s y t n e r) = Split (shape y) (shape n) (shape r)

-- the node of a line that isn't a cond's
abbrev pub node_plain : Known → ℕ → Sentence → Node
node_plain k b s = node_said k b 0 s

-- the node of a cond
abbrev pub node_cond : Known → ℕ → ℕ → ℕ → Sentence → Node
node_cond k b y n s = record {
  name = name_given (names_made s);
  depth = depth_made s.verb s.name;
  block = b;
  kind = kind.Cond (first_number k (roles_of s.verb) s.rest) y n;
}

-- the nodes of a tree in block b, where k is the next block
abbrev pub tree_nodes : Known → Tree → ℕ → ℕ → List Node
tree_nodes q Done b k = []
tree_nodes q (Plain s r) b k = node_plain q b s ∷ tree_nodes q r b k
tree_nodes q (Branch s y t n e r) b k =
    node_cond q b k (suc k + opened (shape y)) s
    ∷ (tree_nodes q y k (suc k) ++ (tree_nodes q n (suc k + opened (shape y)) (suc (suc k + opened (shape y))) ++ tree_nodes q r b
    (suc (suc k + opened (shape y)) + opened (shape n))))

-- for each block that it opens its cond, where x is the next node
abbrev pub tree_owners : Tree → ℕ → List (Option ℕ)
tree_owners Done x = []
tree_owners (Plain s r) x = tree_owners r (suc x)
tree_owners (Branch s y t n e r) x =
    Some x ∷ (tree_owners y (suc x) ++ (Some x ∷ (tree_owners n (suc x + size (shape y)) ++ tree_owners r (suc x + size (shape y) + size (shape n)))))

-- a tree makes as many nodes as its size
pub length-tree_nodes : (q : Known) (t : Tree) (b k : ℕ) → length (tree_nodes q t b k) ≡ size (shape t)
length-tree_nodes q Done b k = refl
length-tree_nodes q (Plain s r) b k = ap suc (length-tree_nodes q r b k)
length-tree_nodes q (Branch s y t n e r) b k =
    let j = suc k + opened (shape y) in
    let l = suc j + opened (shape n) in
    ap suc (length-append (tree_nodes q y k (suc k)) (tree_nodes q n j (suc j) ++ tree_nodes q r b l)
    ∙ ap (λ z. length (tree_nodes q y k (suc k)) + z) (length-append (tree_nodes q n j (suc j)) (tree_nodes q r b l))
    ∙ three _ _ _ _ _ _ (length-tree_nodes q y k (suc k)) (length-tree_nodes q n j (suc j)) (length-tree_nodes q r b l))
  where
    three : (p q w p' q' w' : ℕ) → p ≡ p' → q ≡ q' → w ≡ w' → p + (q + w) ≡ p' + (q' + w')
    three p q w p' q' w' e f g = omega arith

-- and opens as many blocks
pub length-tree_owners : (t : Tree) (x : ℕ) → length (tree_owners t x) ≡ opened (shape t)
length-tree_owners Done x = refl
length-tree_owners (Plain s r) x = length-tree_owners r (suc x)
length-tree_owners (Branch s y t n e r) x =
    let u = suc x + size (shape y) in
    let v = suc x + size (shape y) + size (shape n) in
    ap suc (length-append (tree_owners y (suc x)) (Some x ∷ (tree_owners n u ++ tree_owners r v))
    ∙ ap (λ z. length (tree_owners y (suc x)) + suc z) (length-append (tree_owners n u) (tree_owners r v))
    ∙ three _ _ _ _ _ _ (length-tree_owners y (suc x)) (length-tree_owners n u) (length-tree_owners r v))
  where
    three : (p q w p' q' w' : ℕ) → p ≡ p' → q ≡ q' → w ≡ w' → p + suc (q + w) ≡ p' + suc (q' + w')
    three p q w p' q' w' e f g = omega arith

-- what is built so far
abbrev a_built : List Node → List (Option ℕ) → List OpenBlock → Built
a_built ns os w = record { nodes = ns; owners = os; within = w }

-- the kind of a plain verb has no block
kind-same : (v : Verb) (x y z next : ℕ) → is_plain_verb v ≡ true → kind_made v x y z next ≡ kind_made v x y z 0
kind-same verb.Cond x y z next e = absurd cc
kind-same v x y z next e = refl

-- so is its node
node-same : (q : Known) (b next : ℕ) (s : Sentence) → is_plain_verb s.verb ≡ true → node_said q b next s ≡ node_plain q b s
node-same q b next s e =
    ap (λ k. let n : Node = record { name = name_given (names_made s); depth = depth_made s.verb s.name; block = b; kind = k } in n)
    (kind-same s.verb (first_number q (roles_of s.verb) s.rest) (second_number q (roles_of s.verb) s.rest) (third_number q (roles_of s.verb) s.rest) next e)

-- behind a plain line
plain-by : (q : Known) (b : Built) (s : Sentence) (v : Verb) → is_plain_verb v ≡ true
    → built_by q b s v ≡ a_built (b.nodes ++ node_said q (block_within b.within) (length b.owners) s ∷ []) b.owners b.within
plain-by q b s verb.Code e = absurd cc
plain-by q b s verb.Cond e = absurd cc
plain-by q b s verb.Else e = absurd cc
plain-by q b s verb.End e = absurd cc
plain-by q b s v e = refl

-- an element in a row is changed at its place
pub changed-there : {X : Type 0} (f : X → X) (prefix : List X) (x : X) (back : List X) (n : ℕ) → length prefix ≡ n
    → changed_at n f (prefix ++ x ∷ back) ≡ prefix ++ f x ∷ back
changed-there f [] x back zero e = refl
changed-there f [] x back (suc n) e = absurd (omega arith)
changed-there f (y ∷ prefix) x back zero e = absurd (omega arith)
changed-there f (y ∷ prefix) x back (suc n) e = ap (λ l. y ∷ l) (changed-there f prefix x back n (omega arith))

-- a list with one more is longer by one
one-longer : {X : Type 0} (xs : List X) (x : X) (n : ℕ) → length xs ≡ n → length (xs ++ x ∷ []) ≡ suc n
one-longer xs x n e = length-append xs (x ∷ []) ∙ omega arith

-- the lines of a tree with a cond, with lines behind
pub flat-branch : (s : Sentence) (y : Tree) (t : Sentence) (n : Tree) (e : Sentence) (r : Tree) (rest : List Sentence)
    → flat (Branch s y t n e r) ++ rest ≡ s ∷ (flat y ++ (t ∷ (flat n ++ (e ∷ (flat r ++ rest)))))
flat-branch s y t n e r rest =
    ap (λ l. s ∷ l) (append_assoc (flat y) (t ∷ (flat n ++ (e ∷ flat r))) rest ∙ ap (λ l. flat y ++ (t ∷ l)) (append_assoc (flat n) (e ∷ flat r) rest))

-- the node of a cond's line, its else block still without a number
cond-node : (q : Known) (b next : ℕ) (s : Sentence) → s.verb ≡ verb.Cond → node_said q b next s ≡ node_cond q b next 0 s
cond-node q b next s e =
    ap (λ k. let n : Node = record { name = name_given (names_made s); depth = depth_made s.verb s.name; block = b; kind = k } in n)
    (ap (λ v. kind_made v (first_number q (roles_of s.verb) s.rest) (second_number q (roles_of s.verb) s.rest)
    (third_number q (roles_of s.verb) s.rest) next) e)

-- behind the line of a cond
cond-built : (q : Known) (s : Sentence) (ns : List Node) (os : List (Option ℕ)) (b c : ℕ) (w : List OpenBlock) (x k : ℕ) → s.verb ≡ verb.Cond → length ns ≡ x
    → length os ≡ k
    → built_behind q (a_built ns os (a_branch b c ∷ w)) s ≡ a_built (ns ++ node_cond q b k 0 s ∷ []) (os ++ Some x ∷ []) (a_branch k x ∷ a_branch b c ∷ w)
cond-built q s ns os b c w x k e lx lk =
    ap (built_by q (a_built ns os (a_branch b c ∷ w)) s) e
    ∙ ap (λ m. a_built (ns ++ m ∷ []) (os ++ Some (length ns) ∷ []) (a_branch (length os) (length ns) ∷ a_branch b c ∷ w)) (cond-node q b (length os) s e)
    ∙ ap (λ i. a_built (ns ++ node_cond q b i 0 s ∷ []) (os ++ Some (length ns) ∷ []) (a_branch i (length ns) ∷ a_branch b c ∷ w)) lk
    ∙ ap (λ i. a_built (ns ++ node_cond q b k 0 s ∷ []) (os ++ Some i ∷ []) (a_branch k i ∷ a_branch b c ∷ w)) lx

-- behind its `else`
else-built : (q : Known) (s t : Sentence) (ns ys : List Node) (os : List (Option ℕ)) (b c k : ℕ) (w : List OpenBlock) (x j : ℕ) → t.verb ≡ verb.Else
    → length ns ≡ x → length os ≡ j
    → built_behind q (a_built ((ns ++ node_cond q b k 0 s ∷ []) ++ ys) os (a_branch k x ∷ a_branch b c ∷ w)) t
    ≡ a_built ((ns ++ node_cond q b k j s ∷ []) ++ ys) (os ++ Some x ∷ []) (a_branch j x ∷ a_branch b c ∷ w)
else-built q s t ns ys os b c k w x j e lx lj =
    let prefix = ns ++ node_cond q b k 0 s ∷ [] in
    let there : changed_at x (with_else (length os)) (prefix ++ ys) ≡ (ns ++ node_cond q b k (length os) s ∷ []) ++ ys =
    ap (changed_at x (with_else (length os))) (append_assoc ns (node_cond q b k 0 s ∷ []) ys)
    ∙ changed-there (with_else (length os)) ns (node_cond q b k 0 s) ys x lx
    ∙ sym (append_assoc ns (node_cond q b k (length os) s ∷ []) ys) in
    ap (built_by q (a_built (prefix ++ ys) os (a_branch k x ∷ a_branch b c ∷ w)) t) e
    ∙ ap (λ z. a_built z (os ++ Some x ∷ []) (a_branch (length os) x ∷ a_branch b c ∷ w)) there
    ∙ ap (λ i. a_built ((ns ++ node_cond q b k i s ∷ []) ++ ys) (os ++ Some x ∷ []) (a_branch i x ∷ a_branch b c ∷ w)) lj

-- behind its `end`
end-built : (q : Known) (e : Sentence) (ns : List Node) (os : List (Option ℕ)) (o : OpenBlock) (w : List OpenBlock) → e.verb ≡ verb.End
    → built_behind q (a_built ns os (o ∷ w)) e ≡ a_built ns os w
end-built q e ns os o w is = ap (built_by q (a_built ns os (o ∷ w)) e) is

-- the nodes and the owners of a branch in a row
branch-nodes : (ns : List Node) (m : Node) (ys zs rs : List Node) → (((ns ++ m ∷ []) ++ ys) ++ zs) ++ rs ≡ ns ++ (m ∷ (ys ++ (zs ++ rs)))
branch-nodes ns m ys zs rs = append_assoc ((ns ++ m ∷ []) ++ ys) zs rs ∙ append_assoc (ns ++ m ∷ []) ys (zs ++ rs) ∙ append_assoc ns (m ∷ []) (ys ++ (zs ++ rs))

-- and the owners
branch-owners : (os : List (Option ℕ)) (o : Option ℕ) (ys zs rs : List (Option ℕ))
    → ((((os ++ o ∷ []) ++ ys) ++ o ∷ []) ++ zs) ++ rs ≡ os ++ (o ∷ (ys ++ (o ∷ (zs ++ rs))))
branch-owners os o ys zs rs =
    append_assoc (((os ++ o ∷ []) ++ ys) ++ o ∷ []) zs rs ∙ append_assoc ((os ++ o ∷ []) ++ ys) (o ∷ []) (zs ++ rs)
    ∙ append_assoc (os ++ o ∷ []) ys (o ∷ (zs ++ rs)) ∙ append_assoc os (o ∷ []) (ys ++ (o ∷ (zs ++ rs)))

-- the lines of a tree build its nodes and its owners, and what stands behind them builds on
pub tree-built : (q : Known) (t : Tree) → Fits t → (ns : List Node) (os : List (Option ℕ)) (b c : ℕ) (w : List OpenBlock) (x k : ℕ) (rest : List Sentence)
    → length ns ≡ x → length os ≡ k
    → built q (a_built ns os (a_branch b c ∷ w)) (flat t ++ rest) ≡ built q (a_built (ns ++ tree_nodes q t b k) (os ++ tree_owners t x) (a_branch b c ∷ w)) rest
tree-built q Done f ns os b c w x k rest lx lk =
    ap (λ z. built q (a_built z os (a_branch b c ∷ w)) rest) (sym (append-nil ns))
    ∙ ap (λ z. built q (a_built (ns ++ []) z (a_branch b c ∷ w)) rest) (sym (append-nil os))
tree-built q (Plain s r) f ns os b c w x k rest lx lk =
    ap (λ z. built q z (flat r ++ rest)) (plain-by q (a_built ns os (a_branch b c ∷ w)) s s.verb f.0
    ∙ ap (λ m. a_built (ns ++ m ∷ []) os (a_branch b c ∷ w)) (node-same q b (length os) s f.0))
    ∙ tree-built q r f.1 (ns ++ node_plain q b s ∷ []) os b c w (suc x) k rest (one-longer ns (node_plain q b s) x lx) lk
    ∙ ap (λ z. built q (a_built z (os ++ tree_owners r (suc x)) (a_branch b c ∷ w)) rest) (append_assoc ns (node_plain q b s ∷ []) (tree_nodes q r b k))
tree-built q (Branch s y t n e r) f ns os b c w x k rest lx lk =
    let j = suc k + opened (shape y) in
    let l = suc j + opened (shape n) in
    let u = suc x + size (shape y) in
    let v = suc x + size (shape y) + size (shape n) in
    let out : List OpenBlock = a_branch b c ∷ w in
    let ns1 = ns ++ node_cond q b k 0 s ∷ [] in
    let os1 = os ++ Some x ∷ [] in
    let ys = tree_nodes q y k (suc k) in
    let os2 = os1 ++ tree_owners y (suc x) in
    let ns3 = (ns ++ node_cond q b k j s ∷ []) ++ ys in
    let os3 = os2 ++ Some x ∷ [] in
    let zs = tree_nodes q n j (suc j) in
    let os4 = os3 ++ tree_owners n u in
    let rest3 = flat r ++ rest in
    let rest2 = flat n ++ (e ∷ rest3) in
    let len_os1 : length os1 ≡ suc k = one-longer os (Some x) k lk in
    let len_os2 : length os2 ≡ j = length-append os1 (tree_owners y (suc x)) ∙ omega (arith, len_os1, length-tree_owners y (suc x)) in
    let len_os3 : length os3 ≡ suc j = one-longer os2 (Some x) j len_os2 in
    let len_os4 : length os4 ≡ l = length-append os3 (tree_owners n u) ∙ omega (arith, len_os3, length-tree_owners n u) in
    let len_m : length (ns ++ node_cond q b k j s ∷ []) ≡ suc x = one-longer ns (node_cond q b k j s) x lx in
    let len_ns3 : length ns3 ≡ u = length-append (ns ++ node_cond q b k j s ∷ []) ys ∙ omega (arith, len_m, length-tree_nodes q y k (suc k)) in
    let len_ns4 : length (ns3 ++ zs) ≡ v = length-append ns3 zs ∙ omega (arith, len_ns3, length-tree_nodes q n j (suc j)) in
    ap (built q (a_built ns os out)) (flat-branch s y t n e r rest)
    ∙ ap (λ z. built q z (flat y ++ (t ∷ rest2))) (cond-built q s ns os b c w x k f.0 lx lk)
    ∙ tree-built q y f.1 ns1 os1 k x out (suc x) (suc k) (t ∷ rest2) (one-longer ns (node_cond q b k 0 s) x lx) len_os1
    ∙ ap (λ z. built q z rest2) (else-built q s t ns ys os2 b c k w x j f.2 lx len_os2)
    ∙ tree-built q n f.3 ns3 os3 j x out u (suc j) (e ∷ rest3) len_ns3 len_os3
    ∙ ap (λ z. built q z rest3) (end-built q e (ns3 ++ zs) os4 (a_branch j x) out f.4)
    ∙ tree-built q r f.5 (ns3 ++ zs) os4 b c w v l rest len_ns4 len_os4
    ∙ ap (λ z. built q (a_built z (os4 ++ tree_owners r v) out) rest) (branch-nodes ns (node_cond q b k j s) ys zs (tree_nodes q r b l))
    ∙ ap (λ z. built q (a_built (ns ++ (node_cond q b k j s ∷ (ys ++ (zs ++ tree_nodes q r b l)))) z out) rest)
    (branch-owners os (Some x) (tree_owners y (suc x)) (tree_owners n u) (tree_owners r v))

-- what the lines of a code build
pub code-built : (q : Known) (t : Tree) (e : Sentence) → Fits t → e.verb ≡ verb.End
    → built q (a_built [] (None ∷ []) (a_branch 0 0 ∷ [])) (flat t ++ e ∷ []) ≡ a_built (tree_nodes q t 0 1) (None ∷ tree_owners t 0) []
code-built q t e f is =
    tree-built q t f [] (None ∷ []) 0 0 [] 0 1 (e ∷ []) refl refl
    ∙ end-built q e (tree_nodes q t 0 1) (None ∷ tree_owners t 0) (a_branch 0 0) [] is
