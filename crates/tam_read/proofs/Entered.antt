-- What a name names stands at its number: the node of its line, or the code of its first line.
use Rattle.std.proofs.Common.{◌≡◌, ℕ, zero, suc, ◌+◌, ◌≤◌, ◌<◌, Bool, true, false, List, [], ◌∷◌, ◌++◌, length, map, flat_map, Option, Some, None, refl, sym}
use Rattle.std.proofs.Common.{ap, ap₂, subst, ◌∙◌, true≢false, append_assoc, arith, inl, inr, ◌⊎◌, ⊎_elim}
use Rattle.std.specs.Prelude.{slice_get}
use Rattle.tam_word.specs.Lists.{same_bytes}
use Rattle.tam_word.proofs.Members.{In, left-in, right-in, in-append, in-map}
use Rattle.tam_graph.specs.declared.node.Node.{Node}
use Rattle.tam_graph.specs.Graphs.{Code}
use Rattle.tam_graph.proofs.Visited.{size, opened}
use Rattle.tam_text.proofs.SameBytes.{same_equal}
use Rattle.tam_read.specs.declared.form.Verb.{Verb}
use Rattle.tam_read.specs.declared.form.Verb.TheVariants as verb
use Rattle.tam_read.specs.declared.form.Role.{Role}
use Rattle.tam_read.specs.declared.table.Made.{Made}
use Rattle.tam_read.specs.Sentences.{Sentence, makes, names_made}
use Rattle.tam_read.specs.Tables.{Entries, found, is_node, number_behind, node_entries}
use Rattle.tam_read.specs.Naming.{Known}
use Rattle.tam_read.proofs.Nested.{Tree, Done, Plain, Branch, flat, Fits, is_plain_verb}
use Rattle.tam_read.proofs.Looked.{node_list}
use Rattle.tam_read.proofs.TreeBuilt.{shape, node_plain, node_cond}
use Rattle.tam_read.proofs.TreeVisited.{Holds}
use Rattle.tam_read.proofs.Spelling.{IsMade}
use Rattle.tam_read.proofs.TreeSpelled.{plain-is-node, plain-made, cond-made}

-- what is found is an entry
pub found-in : (t : List ℕ) (es : Entries) (m : Made) → found t es ≡ Some m → In (t, m) es
found-in t [] m e = absurd cc
found-in t (p ∷ es) m e = go (same_bytes t p.0) refl (found-in t es m)
  where
    go : (b : Bool) → same_bytes t p.0 ≡ b → (found t es ≡ Some m → In (t, m) es) → In (t, m) (p ∷ es)
    go true f i = let here : p.1 ≡ m = (let z : Some p.1 ≡ Some m = rw (found, f) at e in cc) in inl (ap₂ (λ a b. (a, b)) (sym (same_equal t p.0 f)) here)
    go false f i = inr (i (rw (found, f) at e))

-- the entry's node stands at its number, and is made of a line of such a name
pub record IsEntered (c : Code) (q : Known) (ss : List Sentence) (n : List ℕ) (m : Made) : Type 0 where
  pub line : Sentence
  pub among : In line ss
  pub node : Node
  pub there : slice_get c.nodes m.number ≡ Some node
  pub made : IsMade q line node
  pub is-node : is_node line.verb ≡ true
  pub named : In n (names_made line)
  pub role : makes line.verb ≡ Some m.role

-- an entry of some lines is one of more
wider-entered : (c : Code) (q : Known) (ss ts : List Sentence) (n : List ℕ) (m : Made) → ((s : Sentence) → In s ss → In s ts) → IsEntered c q ss n m
    → IsEntered c q ts n m
wider-entered c q ss ts n m h e = record {
  line = e.line;
  among = h e.line e.among;
  node = e.node;
  there = e.there;
  made = e.made;
  is-node = e.is-node;
  named = e.named;
  role = e.role;
}

-- an entry of a line
line-entered : (c : Code) (q : Known) (s : Sentence) (x : ℕ) (node : Node) (n : List ℕ) (m : Made) → slice_get c.nodes x ≡ Some node → IsMade q s node
    → is_node s.verb ≡ true → In (n, m) (node_entries x s) → IsEntered c q (s ∷ []) n m
line-entered c q s x node n m h made is i = go (makes s.verb) refl
  where
    go : (o : Option Role) → makes s.verb ≡ o → IsEntered c q (s ∷ []) n m
    go None e = absurd (rw (node_entries, e) at i)
    go (Some r) e =
        let p = in-map (λ n. (n, record { role = r; number = x })) (n, m) (names_made s) (rw (node_entries, e) at i) in
        let pair : (p.0, record { role = r; number = x }) ≡ (n, m) = p.2 in
        let name : p.0 ≡ n = ap (λ z. z.0) pair in
        let role_is : r ≡ m.role = ap (λ z. z.1.role) pair in
        let number_is : x ≡ m.number = ap (λ z. z.1.number) pair in
        record {
          line = s;
          among = inl refl;
          node = node;
          there = subst (λ k. slice_get c.nodes k ≡ Some node) number_is h;
          made = made;
          is-node = is;
          named = subst (λ k. In k (names_made s)) name p.1;
          role = e ∙ ap Some role_is;
        }

-- behind a node's line the number is one more
next-number : (v : Verb) (x : ℕ) → is_node v ≡ true → number_behind v x ≡ suc x
next-number v x e = rw (number_behind, e) (omega arith)

-- behind another line it is the same
same-number : (v : Verb) (x : ℕ) → is_node v ≡ false → number_behind v x ≡ x
same-number v x e = rw (number_behind, e) refl

-- a line without a node enters none
pub no-entry : (s : Sentence) (x : ℕ) → makes s.verb ≡ None → node_entries x s ≡ []
no-entry s x e = rw (node_entries, e) refl

-- an entry of lines that begin with a tree is one of its nodes, or one of the lines behind it
pub tree-entered : (c : Code) (q : Known) (t : Tree) (b x k : ℕ) → Fits t → Holds c q t b x k → (rest : List Sentence) (n : List ℕ) (m : Made)
    → In (n, m) (node_list x (flat t ++ rest)) → IsEntered c q (flat t) n m ⊎ In (n, m) (node_list (x + size (shape t)) rest)
tree-entered c q Done b x k f h rest n m i = let e : x + 0 ≡ x = omega arith in inr (rw e i)
tree-entered c q (Plain s r) b x k f h rest n m i =
    let is = plain-is-node s.verb f.0 in
    let next : x + suc (size (shape r)) ≡ suc x + size (shape r) = omega arith in
    ⊎_elim
    (λ here. inl (wider-entered c q (s ∷ []) (flat (Plain s r)) n m (λ z j. left-in z (s ∷ []) (flat r) j)
    (line-entered c q s x (node_plain q b s) n m h.0 (plain-made q b s f.0) is here)))
    (λ later. ⊎_elim
    (λ e. inl (wider-entered c q (flat r) (flat (Plain s r)) n m (λ z j. inr j) e))
    (λ j. inr (rw next j))
    (tree-entered c q r b (suc x) k f.1 h.1 rest n m (subst (λ y. In (n, m) (node_list y (flat r ++ rest))) (next-number s.verb x is) later)))
    (in-append (n, m) (node_entries x s) (node_list (number_behind s.verb x) (flat r ++ rest)) i)
tree-entered c q (Branch s y t o e r) b x k f h rest n m i =
    let j = suc k + opened (shape y) in
    let l = suc j + opened (shape o) in
    let u = suc x + size (shape y) in
    let v = suc x + size (shape y) + size (shape o) in
    let whole = flat (Branch s y t o e r) in
    let behind_y = t ∷ (flat o ++ (e ∷ flat r)) in
    let is : is_node s.verb ≡ true = ap is_node f.0 in
    let turn : is_node t.verb ≡ false = ap is_node f.2 in
    let ends : is_node e.verb ≡ false = ap is_node f.4 in
    let none_t : (z : ℕ) → node_entries z t ≡ [] = λ z. no-entry t z (ap makes f.2) in
    let none_e : (z : ℕ) → node_entries z e ≡ [] = λ z. no-entry e z (ap makes f.4) in
    let rest3 = flat r ++ rest in
    let rest2 = flat o ++ (e ∷ rest3) in
    let parts : whole ++ rest ≡ s ∷ (flat y ++ (t ∷ rest2)) =
    ap (λ z. s ∷ z) (append_assoc (flat y) behind_y rest ∙ ap (λ z. flat y ++ (t ∷ z)) (append_assoc (flat o) (e ∷ flat r) rest)) in
    let last : x + size (shape (Branch s y t o e r)) ≡ v + size (shape r) = omega arith in
    let in_y : (z : Sentence) → In z (flat y) → In z whole = λ z p. inr (left-in z (flat y) behind_y p) in
    let in_o : (z : Sentence) → In z (flat o) → In z whole = λ z p. inr (right-in z (flat y) behind_y (inr (left-in z (flat o) (e ∷ flat r) p))) in
    let in_r : (z : Sentence) → In z (flat r) → In z whole = λ z p. inr (right-in z (flat y) behind_y (inr (right-in z (flat o) (e ∷ flat r) (inr p)))) in
    let from_r : In (n, m) (node_list v rest3) → IsEntered c q whole n m ⊎ In (n, m) (node_list (x + size (shape (Branch s y t o e r))) rest) =
    λ p. ⊎_elim (λ w. inl (wider-entered c q (flat r) whole n m in_r w)) (λ w. inr (rw last w)) (tree-entered c q r b v l f.5 h.3 rest n m p) in
    let from_e : In (n, m) (node_list v (e ∷ rest3)) → IsEntered c q whole n m ⊎ In (n, m) (node_list (x + size (shape (Branch s y t o e r))) rest) =
    λ p. from_r (subst (λ z. In (n, m) (node_list z rest3)) (same-number e.verb v ends)
    (subst (λ z. In (n, m) (z ++ node_list (number_behind e.verb v) rest3)) (none_e v) p)) in
    let from_o : In (n, m) (node_list u rest2) → IsEntered c q whole n m ⊎ In (n, m) (node_list (x + size (shape (Branch s y t o e r))) rest) =
    λ p. ⊎_elim (λ w. inl (wider-entered c q (flat o) whole n m in_o w)) from_e (tree-entered c q o j u (suc j) f.3 h.2 (e ∷ rest3) n m p) in
    let from_t : In (n, m) (node_list u (t ∷ rest2)) → IsEntered c q whole n m ⊎ In (n, m) (node_list (x + size (shape (Branch s y t o e r))) rest) =
    λ p. from_o (subst (λ z. In (n, m) (node_list z rest2)) (same-number t.verb u turn)
    (subst (λ z. In (n, m) (z ++ node_list (number_behind t.verb u) rest2)) (none_t u) p)) in
    let from_y : In (n, m) (node_list (suc x) (flat y ++ (t ∷ rest2))) → IsEntered c q whole n m ⊎ In (n, m)
    (node_list (x + size (shape (Branch s y t o e r))) rest) =
    λ p. ⊎_elim (λ w. inl (wider-entered c q (flat y) whole n m in_y w)) from_t (tree-entered c q y k (suc x) (suc k) f.1 h.1 (t ∷ rest2) n m p) in
    ⊎_elim
    (λ here. inl (wider-entered c q (s ∷ []) whole n m (λ z p. left-in z (s ∷ []) (flat y ++ behind_y) p)
    (line-entered c q s x (node_cond q b k j s) n m h.0 (cond-made q b k j s f.0) is here)))
    (λ later. from_y (subst (λ z. In (n, m) (node_list z (flat y ++ (t ∷ rest2)))) (next-number s.verb x is) later))
    (in-append (n, m) (node_entries x s) (node_list (number_behind s.verb x) (flat y ++ (t ∷ rest2))) (subst (λ z. In (n, m) (node_list x z)) parts i))
