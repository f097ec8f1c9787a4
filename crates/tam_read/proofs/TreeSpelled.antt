-- The lines of a tree spell the lines of the code that they make.
use Rattle.std.proofs.Common.{◌≡◌, ℕ, zero, suc, ◌+◌, ◌≤◌, Bool, true, false, ◌&&◌, List, [], ◌∷◌, ◌++◌, length, map, flat_map, Option, Some, None, refl, sym}
use Rattle.std.proofs.Common.{ap, ap₂, subst, ◌∙◌, true≢false, append_assoc, arith, inl, inr, ◌⊎◌}
use Rattle.std.specs.Prelude.{codes, slice_get}
use Rattle.std.proofs.lemmas.List.{map-append}
use Rattle.tam_word.proofs.Members.{In, left-in, right-in}
use Rattle.tam_word.proofs.Tests.{true-both, both-true, number-eq}
use Rattle.tam_graph.specs.declared.kind.Kind.{Kind}
use Rattle.tam_graph.specs.declared.kind.Kind.TheVariants as kind
use Rattle.tam_graph.specs.declared.node.Node.{Node}
use Rattle.tam_graph.specs.Graphs.{Code, Graph}
use Rattle.tam_graph.specs.Texts.{Line, Bytes, visit_line, end_line}
use Rattle.tam_graph.specs.Reading.{same_line, same_lines}
use Rattle.tam_graph.specs.Written.{Visit, AtNode, AtElse, AtEnd}
use Rattle.tam_graph.proofs.Visited.{Items, size, opened, visits_of, is_plain}
use Rattle.tam_text.proofs.SameBytes.{same_self}
use Rattle.tam_read.specs.declared.form.Verb.{Verb}
use Rattle.tam_read.specs.declared.form.Verb.TheVariants as verb
use Rattle.tam_read.specs.Sentences.{Sentence, has_form, verb_text, roles_of, names_made}
use Rattle.tam_read.specs.Tables.{is_node}
use Rattle.tam_read.specs.Naming.{Known, first_number, second_number, third_number}
use Rattle.tam_read.specs.Building.{kind_made, kind_said, else_kind, depth_made, name_given}
use Rattle.tam_read.proofs.Nested.{Tree, Done, Plain, Branch, flat, Fits, is_plain_verb}
use Rattle.tam_read.proofs.TreeBuilt.{shape, node_plain, node_cond}
use Rattle.tam_read.proofs.TreeVisited.{Holds, plain-kind}
use Rattle.tam_read.proofs.Worded.{with_name, words_said}
use Rattle.tam_read.proofs.Spelling.{AreFound, IsMade, IsGood, line-spelled}

-- ---- the nodes of lines are made of them

-- a plain verb is that of a node
pub plain-is-node : (v : Verb) → is_plain_verb v ≡ true → is_node v ≡ true
plain-is-node verb.Code e = absurd (true≢false (sym e))
plain-is-node verb.Else e = absurd (true≢false (sym e))
plain-is-node verb.End e = absurd (true≢false (sym e))
plain-is-node v e = refl

-- a kind that is no cond has no else block
else-plain : (n : ℕ) (k : Kind) → is_plain k ≡ true → k ≡ else_kind n k
else-plain n (kind.Cond p y m) e = absurd (true≢false (sym e))
else-plain n k e = refl

-- a plain line's node
pub plain-made : (q : Known) (b : ℕ) (s : Sentence) → is_plain_verb s.verb ≡ true → IsMade q s (node_plain q b s)
plain-made q b s e = record { next = 0; other = 0; name = refl; depth = refl; kind = else-plain 0 (kind_said q 0 s) (plain-kind s.verb _ _ _ 0 e) }

-- a cond's node
pub cond-made : (q : Known) (b y n : ℕ) (s : Sentence) → s.verb ≡ verb.Cond → IsMade q s (node_cond q b y n s)
cond-made q b y n s e = record {
  next = y;
  other = n;
  name = refl;
  depth = refl;
  kind = sym (ap (λ v. else_kind n (kind_made v (first_number q (roles_of s.verb) s.rest) (second_number q (roles_of s.verb) s.rest)
      (third_number q (roles_of s.verb) s.rest) y)) e);
}

-- ---- lines

-- a line without a fault, that of a node or not
pub record IsGoodLine (q : Known) (s : Sentence) : Type 0 where
  pub form : has_form s.name s.rest s.verb ≡ true
  pub node : is_node s.verb ≡ true → IsGood q s

-- lines and others behind them
pub same-append : (ws vs : List (List (List ℕ))) (ls ms : List Line) → same_lines ws ls ≡ true → same_lines vs ms ≡ true
    → same_lines (ws ++ vs) (ls ++ ms) ≡ true
same-append [] vs [] ms a b = b
same-append [] vs (l ∷ ls) ms a b = absurd (true≢false (sym a))
same-append (w ∷ ws) vs [] ms a b = absurd (true≢false (sym a))
same-append (w ∷ ws) vs (l ∷ ls) ms a b = let p = both-true (same_line w l) (same_lines ws ls) a in true-both _ _ p.0 (same-append ws vs ls ms p.1 b)

-- a line before others
pub same-first : (w : List (List ℕ)) (ws : List (List (List ℕ))) (l : Line) (ls : List Line) → same_line w l ≡ true → same_lines ws ls ≡ true
    → same_lines (w ∷ ws) (l ∷ ls) ≡ true
same-first w ws l ls a b = true-both _ _ a b

-- a list without length is empty
pub no-words : (xs : List (List ℕ)) → length xs ≡ 0 → xs ≡ []
no-words [] e = refl
no-words (x ∷ xs) e = absurd (omega arith)

-- the words of a line with a verb alone
alone-by : (v : Verb) (name rest : List (List ℕ)) → (v ≡ verb.Else) ⊎ (v ≡ verb.End) → has_form name rest v ≡ true
    → with_name name (verb_text v ∷ rest) ≡ verb_text v ∷ []
alone-by v name rest (inl e) f =
    let p = both-true _ _ (ap (has_form name rest) (sym e) ∙ f) in
    ap₂ (λ n r. with_name n (verb_text v ∷ r)) (no-words name (number-eq (length name) 0 p.0)) (no-words rest (number-eq (length rest) 0 p.1))
alone-by v name rest (inr e) f =
    let p = both-true _ _ (ap (has_form name rest) (sym e) ∙ f) in
    ap₂ (λ n r. with_name n (verb_text v ∷ r)) (no-words name (number-eq (length name) 0 p.0)) (no-words rest (number-eq (length rest) 0 p.1))

-- a line `else`
pub else-spelled : (s : Sentence) → s.verb ≡ verb.Else → has_form s.name s.rest s.verb ≡ true → same_line (words_said s) (Bytes (codes "else") ∷ []) ≡ true
else-spelled s e f = ap (λ ws. same_line ws (Bytes (codes "else") ∷ [])) (alone-by s.verb s.name s.rest (inl e) f ∙ ap (λ v. verb_text v ∷ []) e)

-- a line `end`
pub end-spelled : (s : Sentence) → s.verb ≡ verb.End → has_form s.name s.rest s.verb ≡ true → same_line (words_said s) end_line ≡ true
end-spelled s e f = ap (λ ws. same_line ws end_line) (alone-by s.verb s.name s.rest (inr e) f ∙ ap (λ v. verb_text v ∷ []) e)

-- the visits of a branch, one behind the other
branch-visits : (x : ℕ) (vy vn vr : List Visit) → (AtNode x ∷ (vy ++ (AtElse x ∷ vn ++ AtEnd x ∷ [])) ++ vr)
    ≡ AtNode x ∷ (vy ++ (AtElse x ∷ (vn ++ (AtEnd x ∷ vr))))
branch-visits x vy vn vr =
    ap (λ l. AtNode x ∷ l) (append_assoc vy (AtElse x ∷ vn ++ AtEnd x ∷ []) vr ∙ ap (λ l. vy ++ (AtElse x ∷ l)) (append_assoc vn (AtEnd x ∷ []) vr))

module _ (g : Graph) (c : Code) (q : Known) (are : AreFound g c q) where
  -- the lines of a tree spell the lines of its visits
  pub tree-spelled : (t : Tree) (b x k : ℕ) → Fits t → Holds c q t b x k → ((s : Sentence) → In s (flat t) → IsGoodLine q s)
      → same_lines (map words_said (flat t)) (map (visit_line g c) (visits_of (shape t) x)) ≡ true
  tree-spelled Done b x k f h good = refl
  tree-spelled (Plain s r) b x k f h good =
      true-both _ _ (line-spelled g c q are s ((good s (inl refl)).node (plain-is-node s.verb f.0)) (node_plain q b s) (plain-made q b s f.0) x h.0)
      (tree-spelled r b (suc x) k f.1 h.1 (λ u i. good u (inr i)))
  tree-spelled (Branch s y t n e r) b x k f h good =
      let j = suc k + opened (shape y) in
      let l = suc j + opened (shape n) in
      let u = suc x + size (shape y) in
      let v = suc x + size (shape y) + size (shape n) in
      let vy = visits_of (shape y) (suc x) in
      let vn = visits_of (shape n) u in
      let vr = visits_of (shape r) v in
      let show : List Visit → List Line = map (visit_line g c) in
      let say : List Sentence → List (List (List ℕ)) = map words_said in
      let behind_y = t ∷ (flat n ++ (e ∷ flat r)) in
      let in_y : (z : Sentence) → In z (flat y) → In z (flat (Branch s y t n e r)) = λ z i. inr (left-in z (flat y) behind_y i) in
      let in_rest : (z : Sentence) → In z behind_y → In z (flat (Branch s y t n e r)) = λ z i. inr (right-in z (flat y) behind_y i) in
      let in_n : (z : Sentence) → In z (flat n) → In z (flat (Branch s y t n e r)) = λ z i. in_rest z (inr (left-in z (flat n) (e ∷ flat r) i)) in
      let in_e : (z : Sentence) → In z (e ∷ flat r) → In z (flat (Branch s y t n e r)) = λ z i. in_rest z (inr (right-in z (flat n) (e ∷ flat r) i)) in
      let first = line-spelled g c q are s ((good s (inl refl)).node (ap is_node f.0)) (node_cond q b k j s) (cond-made q b k j s f.0) x h.0 in
      let part_y = tree-spelled y k (suc x) (suc k) f.1 h.1 (λ z i. good z (in_y z i)) in
      let turn = else-spelled t f.2 (good t (in_rest t (inl refl))).form in
      let part_n = tree-spelled n j u (suc j) f.3 h.2 (λ z i. good z (in_n z i)) in
      let last = end-spelled e f.4 (good e (in_e e (inl refl))).form in
      let part_r = tree-spelled r b v l f.5 h.3 (λ z i. good z (in_e z (inr i))) in
      let words : say (flat (Branch s y t n e r)) ≡ words_said s ∷ (say (flat y) ++ (words_said t ∷ (say (flat n) ++ (words_said e ∷ say (flat r))))) =
      ap (λ ws. words_said s ∷ ws) (map-append words_said (flat y) behind_y
      ∙ ap (λ ws. say (flat y) ++ (words_said t ∷ ws)) (map-append words_said (flat n) (e ∷ flat r))) in
      let shown : show (visits_of (shape (Branch s y t n e r)) x) ≡ visit_line g c (AtNode x) ∷
      (show vy ++ (visit_line g c (AtElse x) ∷ (show vn ++ (visit_line g c (AtEnd x) ∷ show vr)))) =
      ap show (branch-visits x vy vn vr)
      ∙ ap (λ ls. visit_line g c (AtNode x) ∷ ls) (map-append (visit_line g c) vy (AtElse x ∷ (vn ++ (AtEnd x ∷ vr)))
      ∙ ap (λ ls. show vy ++ (visit_line g c (AtElse x) ∷ ls)) (map-append (visit_line g c) vn (AtEnd x ∷ vr))) in
      ap₂ same_lines words shown
      ∙ same-first (words_said s) (say (flat y) ++ (words_said t ∷ (say (flat n) ++ (words_said e ∷ say (flat r))))) (visit_line g c (AtNode x))
      (show vy ++ (visit_line g c (AtElse x) ∷ (show vn ++ (visit_line g c (AtEnd x) ∷ show vr)))) first
      (same-append (say (flat y)) (words_said t ∷ (say (flat n) ++ (words_said e ∷ say (flat r)))) (show vy)
      (visit_line g c (AtElse x) ∷ (show vn ++ (visit_line g c (AtEnd x) ∷ show vr))) part_y
      (same-first (words_said t) (say (flat n) ++ (words_said e ∷ say (flat r))) (visit_line g c (AtElse x))
      (show vn ++ (visit_line g c (AtEnd x) ∷ show vr)) turn
      (same-append (say (flat n)) (words_said e ∷ say (flat r)) (show vn) (visit_line g c (AtEnd x) ∷ show vr) part_n
      (same-first (words_said e) (say (flat r)) (visit_line g c (AtEnd x)) (show vr) last part_r))))
