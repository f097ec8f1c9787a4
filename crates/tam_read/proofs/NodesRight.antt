-- The nodes of a code that is read: their lines, depths and names are right.
use Rattle.std.proofs.Common.{◌≡◌, ℕ, zero, suc, ◌+◌, ◌^◌, ◌<◌, ◌≤◌, Bool, true, false, not, ◌&&◌, nat_lt, List, [], ◌∷◌, ◌++◌, length, map, flat_map, Option}
use Rattle.std.proofs.Common.{Some, None, refl, sym, ap, ap₂, subst, ◌∙◌, true≢false, arith, inl, inr, ◌⊎◌, ⊎_elim}
use Rattle.std.specs.Prelude.{slice_get, nat_le}
use Rattle.std.proofs.Math.Dec.{leb, leb-zero}
use Rattle.std.proofs.lemmas.Bool.{le-leb}
use Rattle.std.proofs.lemmas.Option.{slice_get_within}
use Rattle.std.proofs.lemmas.List.{length-map}
use Rattle.tam_word.specs.Lists.{all_of}
use Rattle.tam_word.specs.Numbers.{word_of, place_of}
use Rattle.tam_word.proofs.Members.{In, left-in, right-in, in-append, in-all, get-in, in-below}
use Rattle.tam_word.proofs.Tests.{below-test}
use Rattle.tam_word.proofs.Spelled.{decimal_up_to-is}
use Rattle.tam_graph.specs.declared.node.Node.{Node}
use Rattle.tam_graph.specs.Graphs.{Code, kind_at, depth_at, or_kind, or_depth, node_numbers}
use Rattle.tam_graph.specs.Written.{is_operand, is_line, greatest_depth}
use Rattle.tam_graph.specs.Reading.{is_named_right}
use Rattle.tam_read.specs.declared.form.Role.{Role}
use Rattle.tam_read.specs.declared.form.Role.TheVariants as role
use Rattle.tam_read.specs.declared.table.Made.{Made}
use Rattle.tam_read.specs.Sentences.{Sentence, makes, roles_of, same_role, each_token, is_number_for}
use Rattle.tam_read.specs.Tables.{found, is_node}
use Rattle.tam_read.specs.Naming.{Known, is_made, is_node_found, is_code_found, number_for, first_number, second_number, third_number, or_number, or_zero}
use Rattle.tam_read.specs.Building.{kind_made, kind_said, depth_made, else_kind}
use Rattle.tam_read.proofs.Nested.{Tree, Done, Plain, Branch, flat, Fits}
use Rattle.tam_read.proofs.Codes.{CodeLines, lines_of_codes}
use Rattle.tam_read.proofs.Looked.{found-codes, code_list}
use Rattle.tam_read.proofs.TreeBuilt.{node_plain, node_cond, tree_nodes, shape}
use Rattle.tam_graph.proofs.Visited.{opened}
use Rattle.tam_read.proofs.ReadCodes.{body_lines, known_of, code_of_lines}
use Rattle.tam_read.proofs.Spelling.{IsMade, IsGood, is_no_code, roles-no-code, made-some, some-there, few-roles, form-parts}
use Rattle.tam_read.proofs.TreeSpelled.{plain-is-node, plain-made, cond-made}
use Rattle.tam_read.proofs.Entered.{IsEntered, found-in}
use Rattle.tam_read.proofs.CodesSpelled.{IsGoodCode, entries_of, node-entered, entered-good, IsCodeAt, code-entered}
use Rattle.tam_read.proofs.LinesRight.{named_for, operand-there, call-there, cond-there, is_right, AreRight, line-right, word-small, depth-small, no-depth}
use Rattle.tam_read.proofs.LinesRight.{named-right}

-- ---- each node is made of a line

-- the node is made of one of the lines
pub record IsOfLine (q : Known) (ss : List Sentence) (n : Node) : Type 0 where
  pub line : Sentence
  pub among : In line ss
  pub made : IsMade q line n
  pub is-node : is_node line.verb ≡ true

-- a line of some is one of more
wider-line : (q : Known) (ss ts : List Sentence) (n : Node) → ((s : Sentence) → In s ss → In s ts) → IsOfLine q ss n → IsOfLine q ts n
wider-line q ss ts n h e = record { line = e.line; among = h e.line e.among; made = e.made; is-node = e.is-node }

-- each node of a tree is made of one of its lines
pub node-of-line : (q : Known) (t : Tree) (b k : ℕ) → Fits t → (n : Node) → In n (tree_nodes q t b k) → IsOfLine q (flat t) n
node-of-line q Done b k f n i = absurd i
node-of-line q (Plain s r) b k f n (inl e) = record {
  line = s;
  among = inl refl;
  made = subst (λ m. IsMade q s m) e (plain-made q b s f.0);
  is-node = plain-is-node s.verb f.0;
}
node-of-line q (Plain s r) b k f n (inr i) = wider-line q (flat r) (flat (Plain s r)) n (λ z j. inr j) (node-of-line q r b k f.1 n i)
node-of-line q (Branch s y t o e r) b k f n (inl h) =
    record { line = s; among = inl refl; made = subst (λ m. IsMade q s m) h (cond-made q b k (suc k + opened (shape y)) s f.0); is-node = ap is_node f.0 }
node-of-line q (Branch s y t o e r) b k f n (inr i) =
    let j = suc k + opened (shape y) in
    let l = suc j + opened (shape o) in
    let whole = flat (Branch s y t o e r) in
    let behind_y = t ∷ (flat o ++ (e ∷ flat r)) in
    ⊎_elim (λ p. wider-line q (flat y) whole n (λ z w. inr (left-in z (flat y) behind_y w)) (node-of-line q y k (suc k) f.1 n p))
    (λ p. ⊎_elim
    (λ p. wider-line q (flat o) whole n (λ z w. inr (right-in z (flat y) behind_y (inr (left-in z (flat o) (e ∷ flat r) w))))
    (node-of-line q o j (suc j) f.3 n p))
    (λ p. wider-line q (flat r) whole n (λ z w. inr (right-in z (flat y) behind_y (inr (right-in z (flat o) (e ∷ flat r) (inr w)))))
    (node-of-line q r b l f.5 n p))
    (in-append n (tree_nodes q o j (suc j)) (tree_nodes q r b l) p))
    (in-append n (tree_nodes q y k (suc k)) (tree_nodes q o j (suc j) ++ tree_nodes q r b l) i)

-- at each place there is a node
there : (ns : List Node) (x : ℕ) → x < length ns → (n : Node) × (slice_get ns x ≡ Some n)
there [] x l = absurd (omega arith)
there (n ∷ ns) zero l = (n, refl)
there (n ∷ ns) (suc x) l = there ns x (omega arith)

-- where there is an element the place is within
get-within : {X : Type 0} (xs : List X) (k : ℕ) (x : X) → slice_get xs k ≡ Some x → k < length xs
get-within [] k x e = absurd cc
get-within (y ∷ ys) zero x e = omega arith
get-within (y ∷ ys) (suc k) x e = let h = get-within ys k x e in omega arith

-- where each token passes, the first does, and those behind it
first-of-token : (f : Role → List ℕ → Bool) (r : Role) (rs : List Role) (t : List ℕ) (ts : List (List ℕ)) → each_token f (r ∷ rs) (t ∷ ts) ≡ true
    → (f r t ≡ true) × (each_token f rs ts ≡ true)
first-of-token f r rs t ts e = go (f r t) refl
  where
    go : (b : Bool) → f r t ≡ b → (f r t ≡ true) × (each_token f rs ts ≡ true)
    go true p = (p, rw (each_token, p) at e)
    go false p = absurd (true≢false (sym (rw (each_token, p) at e)))

module _ (ds : List CodeLines) (d : CodeLines) (good : IsGoodCode (entries_of ds) d) where
  -- a name that is found in a role names a node that can be named so
  entry-right : (r : Role) (t : List ℕ) (m : Made) → found t (known_of (entries_of ds) d).nodes ≡ Some m → same_role r m.role ≡ true
      → (e : IsEntered (code_of_lines (entries_of ds) d) (known_of (entries_of ds) d) (flat d.body) t m)
      → (nat_lt m.number (length (code_of_lines (entries_of ds) d).nodes) ≡ true) × (named_for r e.line.verb ≡ true)
  entry-right r t m f s e = (
    below-test m.number (length (code_of_lines (entries_of ds) d).nodes) (get-within (code_of_lines (entries_of ds) d).nodes m.number e.node e.there),
    rw (named_for, e.role) s,
  )

  -- a token's number is right in its role
  token-right : (r : Role) (t : List ℕ) → is_number_for r t ≡ true → is_node_found (known_of (entries_of ds) d).nodes r t ≡ true
      → is_code_found (known_of (entries_of ds) d).codes r t ≡ true
      → is_right (length ds) (code_of_lines (entries_of ds) d) r (number_for (known_of (entries_of ds) d) r t) ≡ true
  token-right role.Value t a b k =
      let m = made-some role.Value (found t (known_of (entries_of ds) d).nodes) b in
      let e = node-entered (entries_of ds) d good t m.0 m.1 in
      let h = entry-right role.Value t m.0 m.1 m.2 e in
      ap (λ o. is_operand (code_of_lines (entries_of ds) d) (or_number o)) m.1
      ∙ operand-there (code_of_lines (entries_of ds) d) m.0.number h.0 e.line.verb _ _ _ e.made.next e.made.other (ap or_kind e.there ∙ e.made.kind) h.1
  token-right role.Call t a b k =
      let m = made-some role.Call (found t (known_of (entries_of ds) d).nodes) b in
      let e = node-entered (entries_of ds) d good t m.0 m.1 in
      let h = entry-right role.Call t m.0 m.1 m.2 e in
      ap (λ o. is_right (length ds) (code_of_lines (entries_of ds) d) role.Call (or_number o)) m.1
      ∙ call-there (code_of_lines (entries_of ds) d) m.0.number h.0 e.line.verb _ _ _ e.made.next e.made.other (ap or_kind e.there ∙ e.made.kind) h.1
  token-right role.Cond t a b k =
      let m = made-some role.Cond (found t (known_of (entries_of ds) d).nodes) b in
      let e = node-entered (entries_of ds) d good t m.0 m.1 in
      let h = entry-right role.Cond t m.0 m.1 m.2 e in
      ap (λ o. is_right (length ds) (code_of_lines (entries_of ds) d) role.Cond (or_number o)) m.1
      ∙ cond-there (code_of_lines (entries_of ds) d) m.0.number h.0 e.line.verb _ _ _ e.made.next e.made.other (ap or_kind e.there ∙ e.made.kind) h.1
  token-right role.Callee t a b k =
      let m = made-some role.Callee (found t (known_of (entries_of ds) d).codes) k in
      let w = code-entered ds 0 t m.0 (found-in t (code_list 0 (lines_of_codes ds)) m.0 (sym (found-codes t 0 (lines_of_codes ds) []) ∙ m.1)) in
      let within = get-within ds w.place w.code w.there in
      ap (λ o. nat_lt (or_number o) (length ds)) m.1 ∙ below-test m.0.number (length ds) (omega (arith, w.number))
  token-right role.Code t a b k = refl
  token-right role.Place t a b k =
      let p = some-there (place_of t) a in
      let is = decimal_up_to-is 63 t p.0 (omega arith) p.1 in
      ap (λ o. nat_lt (or_zero o) 64) p.1 ∙ below-test p.0 64 (omega (arith, is.1))
  token-right role.Word t a b k =
      let w = some-there (word_of t) a in
      ap (λ o. nat_lt (or_zero o) (2 ^ 32)) w.1 ∙ below-test w.0 (2 ^ 32) (word-small t w.0 w.1)

  -- so are those of a line
  tokens-right : (rs : List Role) (ts : List (List ℕ)) → length ts ≡ length rs → length rs ≤ 3 → each_token is_number_for rs ts ≡ true
      → each_token (is_node_found (known_of (entries_of ds) d).nodes) rs ts ≡ true
      → each_token (is_code_found (known_of (entries_of ds) d).codes) rs ts ≡ true
      → AreRight (length ds) (code_of_lines (entries_of ds) d) rs (first_number (known_of (entries_of ds) d) rs ts)
      (second_number (known_of (entries_of ds) d) rs ts) (third_number (known_of (entries_of ds) d) rs ts)
  tokens-right [] ts l few a b k = tt
  tokens-right (r ∷ rs) [] l few a b k = absurd (omega arith)
  tokens-right (r ∷ []) (t ∷ ts) l few a b k = token-right r t (first-of-token is_number_for r [] t ts a).0
      (first-of-token (is_node_found (known_of (entries_of ds) d).nodes) r [] t ts b).0
      (first-of-token (is_code_found (known_of (entries_of ds) d).codes) r [] t ts k).0
  tokens-right (r ∷ s ∷ rs) (t ∷ []) l few a b k = absurd (omega arith)
  tokens-right (r ∷ s ∷ []) (t ∷ u ∷ ts) l few a b k =
      let a1 = first-of-token is_number_for r (s ∷ []) t (u ∷ ts) a in
      let b1 = first-of-token (is_node_found (known_of (entries_of ds) d).nodes) r (s ∷ []) t (u ∷ ts) b in
      let k1 = first-of-token (is_code_found (known_of (entries_of ds) d).codes) r (s ∷ []) t (u ∷ ts) k in (
        token-right r t a1.0 b1.0 k1.0,
        token-right s u (first-of-token is_number_for s [] u ts a1.1).0
            (first-of-token (is_node_found (known_of (entries_of ds) d).nodes) s [] u ts b1.1).0
            (first-of-token (is_code_found (known_of (entries_of ds) d).codes) s [] u ts k1.1).0,
      )
  tokens-right (r ∷ s ∷ p ∷ rs) (t ∷ u ∷ []) l few a b k = absurd (omega arith)
  tokens-right (r ∷ s ∷ p ∷ rs) (t ∷ u ∷ v ∷ ts) l few a b k =
      let a1 = first-of-token is_number_for r (s ∷ p ∷ rs) t (u ∷ v ∷ ts) a in
      let b1 = first-of-token (is_node_found (known_of (entries_of ds) d).nodes) r (s ∷ p ∷ rs) t (u ∷ v ∷ ts) b in
      let k1 = first-of-token (is_code_found (known_of (entries_of ds) d).codes) r (s ∷ p ∷ rs) t (u ∷ v ∷ ts) k in
      let a2 = first-of-token is_number_for s (p ∷ rs) u (v ∷ ts) a1.1 in
      let b2 = first-of-token (is_node_found (known_of (entries_of ds) d).nodes) s (p ∷ rs) u (v ∷ ts) b1.1 in
      let k2 = first-of-token (is_code_found (known_of (entries_of ds) d).codes) s (p ∷ rs) u (v ∷ ts) k1.1 in
      let a3 = first-of-token is_number_for p rs v ts a2.1 in
      let b3 = first-of-token (is_node_found (known_of (entries_of ds) d).nodes) p rs v ts b2.1 in
      let k3 = first-of-token (is_code_found (known_of (entries_of ds) d).codes) p rs v ts k2.1 in
      (token-right r t a1.0 b1.0 k1.0, token-right s u a2.0 b2.0 k2.0, token-right p v a3.0 b3.0 k3.0)

  -- each node is made of a line without a fault
  good-node : (n : Node) → In n (code_of_lines (entries_of ds) d).nodes
      → (s : Sentence) × IsMade (known_of (entries_of ds) d) s n × IsGood (known_of (entries_of ds) d) s
  good-node n i =
      let e = node-of-line (known_of (entries_of ds) d) d.body 0 1 d.fits n i in
      (e.line, e.made, (good.lines e.line (left-in e.line (flat d.body) (d.close ∷ []) e.among)).node e.is-node)

  right-of : (n : Node) → In n (code_of_lines (entries_of ds) d).nodes → is_line (length ds) (code_of_lines (entries_of ds) d) n.kind ≡ true
  right-of n i =
      let w = good-node n i in
      let s = w.0 in
      let k = known_of (entries_of ds) d in
      let p = form-parts (makes s.verb) s.name s.rest (roles_of s.verb) w.2.form in
      ap (is_line (length ds) (code_of_lines (entries_of ds) d)) w.1.kind
      ∙ line-right (length ds) (code_of_lines (entries_of ds) d) s.verb (first_number k (roles_of s.verb) s.rest) (second_number k (roles_of s.verb) s.rest)
      (third_number k (roles_of s.verb) s.rest) w.1.next w.1.other w.2.node
      (tokens-right (roles_of s.verb) s.rest p.1 (few-roles s.verb) w.2.numbers w.2.nodes w.2.codes)

  pub lines-right : all_of (λ x. is_line (length ds) (code_of_lines (entries_of ds) d) (kind_at (code_of_lines (entries_of ds) d) x))
      (node_numbers (code_of_lines (entries_of ds) d)) ≡ true
  lines-right =
      let code = code_of_lines (entries_of ds) d in
      in-all (λ x. is_line (length ds) code (kind_at code x)) (node_numbers code) (λ x i.
      let n = there code.nodes x (in-below x (length code.nodes) i) in
      ap (λ o. is_line (length ds) code (or_kind o)) n.1 ∙ right-of n.0 (get-in code.nodes x n.0 n.1))

  -- a depth isn't greater than its node's value allows
  depth-right : (x : ℕ) (n : Node) → slice_get (code_of_lines (entries_of ds) d).nodes x ≡ Some n
      → nat_le n.depth (greatest_depth (code_of_lines (entries_of ds) d) x) ≡ true
  depth-right x n e = go (named_for role.Value (good-node n (get-in (code_of_lines (entries_of ds) d).nodes x n e)).0.verb) refl
    where
      go : (b : Bool) → named_for role.Value (good-node n (get-in (code_of_lines (entries_of ds) d).nodes x n e)).0.verb ≡ b
          → nat_le n.depth (greatest_depth (code_of_lines (entries_of ds) d) x) ≡ true
      go false h =
          let w = good-node n (get-in (code_of_lines (entries_of ds) d).nodes x n e) in
          let none : n.depth ≡ 0 = w.1.depth ∙ no-depth w.0.verb w.0.name h in
          ap (λ k. nat_le k (greatest_depth (code_of_lines (entries_of ds) d) x)) none ∙ leb-zero (greatest_depth (code_of_lines (entries_of ds) d) x)
      go true h =
          let w = good-node n (get-in (code_of_lines (entries_of ds) d).nodes x n e) in
          let within = below-test x (length (code_of_lines (entries_of ds) d).nodes) (get-within (code_of_lines (entries_of ds) d).nodes x n e) in
          let value = operand-there (code_of_lines (entries_of ds) d) x within w.0.verb _ _ _ w.1.next w.1.other (ap or_kind e ∙ w.1.kind) h in
          let few : n.depth ≤ 3 = subst (λ k. k ≤ 3) (sym w.1.depth) (depth-small w.0.verb w.0.name) in
          rw (greatest_depth, value) (le-leb n.depth 3 few)

  pub depths-right : all_of (λ x. nat_le (depth_at (code_of_lines (entries_of ds) d) x) (greatest_depth (code_of_lines (entries_of ds) d) x))
      (node_numbers (code_of_lines (entries_of ds) d)) ≡ true
  depths-right =
      let code = code_of_lines (entries_of ds) d in
      in-all (λ x. nat_le (depth_at code x) (greatest_depth code x)) (node_numbers code) (λ x i.
      let n = there code.nodes x (in-below x (length code.nodes) i) in
      ap (λ o. nat_le (or_depth o) (greatest_depth code x)) n.1 ∙ depth-right x n.0 n.1)

  pub names-right : all_of is_named_right (code_of_lines (entries_of ds) d).nodes ≡ true
  names-right =
      let code = code_of_lines (entries_of ds) d in
      in-all is_named_right code.nodes (λ n i. let w = good-node n i in named-right (known_of (entries_of ds) d) w.0 n w.1 w.2)
