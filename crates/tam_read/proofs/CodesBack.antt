-- The lines of the codes of a text's graph are the lines of codes of sentences.
use Rattle.std.proofs.Common.{◌≡◌, ℕ, zero, suc, ◌+◌, ◌<◌, ◌≤◌, Bool, true, false, ◌&&◌, ◌==◌, nat_lt, List, [], ◌∷◌, ◌++◌, length, map, flat_map}
use Rattle.std.proofs.Common.{Some, None, refl, sym, ap, ap₂, subst, ◌∙◌, true≢false, append_assoc, arith, inl, inr, ◌⊎◌, ⊎_elim}
use Rattle.std.specs.Prelude.{codes as bytes_of, slice_get, nat_le}
use Rattle.std.proofs.Math.Dec.{leb}
use Rattle.std.proofs.lemmas.Bool.{leb-true, cases_lt}
use Rattle.std.proofs.lemmas.List.{map-append}
use Rattle.std.proofs.lemmas.List.Concat.{flat_map-cons}
use Rattle.tam_word.specs.Lists.{all_of, same_bytes, below}
use Rattle.tam_word.proofs.Members.{In, all-in, below-in, get-in}
use Rattle.tam_word.proofs.Tests.{both-true, number-eq, eq-number}
use Rattle.tam_graph.specs.declared.node.Node.{Node}
use Rattle.tam_text.specs.Names.{is_name}
use Rattle.tam_graph.specs.Graphs.{Code, Graph, kind_at, depth_at, or_kind, or_depth, node_numbers}
use Rattle.tam_graph.specs.Texts.{Bytes, Line, visit_line, end_line, code_lines}
use Rattle.tam_graph.specs.Reading.{same_line, same_lines, is_named_right, IsCodeOfText}
use Rattle.tam_graph.specs.Written.{is_operand, is_line, greatest_depth}
use Rattle.tam_text.proofs.SameBytes.{same_equal}
use Rattle.tam_graph.proofs.Visited.{size, opened}
use Rattle.tam_read.specs.declared.form.Verb.TheVariants as verb
use Rattle.tam_read.specs.declared.form.Role.TheVariants as role
use Rattle.tam_read.specs.Sentences.{Sentence, vertices_of}
use Rattle.tam_read.specs.Faults.{vertices}
use Rattle.tam_read.proofs.Nested.{Tree, Done, Plain, Branch, flat, Fits}
use Rattle.tam_read.proofs.Codes.{CodeLines, lines_of_code, lines_of_codes}
use Rattle.tam_read.proofs.TreeBuilt.{shape}
use Rattle.tam_read.proofs.TreeVisited.{in_row}
use Rattle.tam_read.proofs.BlockLimits.{total, counted, where_true, total-none, total-both, vertices-append}
use Rattle.tam_read.proofs.WrittenTrees.{Numbered, numbered_visits, shape_of}
use Rattle.tam_read.proofs.WrittenCodes.{IsNumbered, written-numbered}
use Rattle.tam_read.proofs.Worded.{words_said}
use Rattle.tam_read.proofs.KindsAgain.{verb_of}
use Rattle.tam_read.proofs.LinesRight.{named_for}
use Rattle.tam_read.proofs.TokensBack.{AreNamed, operand-kind}
use Rattle.tam_read.proofs.LinesBack.{IsRightNode}
use Rattle.tam_read.proofs.TreeBack.{SaysAll, alone, AreSplit, split-lines, IsFirst, first-line, alone-back, IsBack, tree-back}

-- ---- the vertices of all blocks are no fewer than those of the lines

total-some : (b v n m : ℕ) → n ≤ b → b < n + m → v ≤ total (λ d. where_true (b == d) v) (in_row n m)
total-some b v n zero lo hi = absurd (omega arith)
total-some b v n (suc m) lo hi = go (b == n) refl (λ more. total-some b v (suc n) m more (omega arith))
  where
    go : (t : Bool) → (b == n) ≡ t → (suc n ≤ b → v ≤ total (λ d. where_true (b == d) v) (in_row (suc n) m))
        → v ≤ where_true (b == n) v + total (λ d. where_true (b == d) v) (in_row (suc n) m)
    go true e i = rw e (omega arith)
    go false e i = let j = i (other (λ same. true≢false (sym (eq-number b n same) ∙ e))) in rw e (omega (arith, j))
      where
        other : (b ≡ n → ⊥) → suc n ≤ b
        other h = ⊎_elim (λ less. less) (λ most. absurd (h (omega arith))) (cases_lt n b)

pub blocks-all : (n : ℕ) (t : Tree) (b k : ℕ) → Fits t → b < n → k + opened (shape t) ≤ n → vertices (flat t) ≤ total (λ d. counted d t b k) (in_row 0 n)
blocks-all n Done b k f low few = omega arith
blocks-all n (Plain s r) b k f low few =
    let a = total-both (λ d. where_true (b == d) (vertices_of s.verb)) (λ d. counted d r b k) (in_row 0 n) in
    let o = total-some b (vertices_of s.verb) 0 n (omega arith) (omega arith) in
    let i = blocks-all n r b k f.1 low few in
    omega (arith, a, o, i)
blocks-all n (Branch s y t o e r) b k f low few =
    let j = suc k + opened (shape y) in
    let m = suc j + opened (shape o) in
    let xs = in_row 0 n in
    let a1 = total-both (λ d. where_true (b == d) 1) (λ d. counted d y k (suc k) + (counted d o j (suc j) + counted d r b m)) xs in
    let a2 = total-both (λ d. counted d y k (suc k)) (λ d. counted d o j (suc j) + counted d r b m) xs in
    let a3 = total-both (λ d. counted d o j (suc j)) (λ d. counted d r b m) xs in
    let once = total-some b 1 0 n (omega arith) (omega arith) in
    let one : vertices_of s.verb ≡ 1 = ap vertices_of f.0 in
    let none_t : vertices_of t.verb ≡ 0 = ap vertices_of f.2 in
    let none_e : vertices_of e.verb ≡ 0 = ap vertices_of f.4 in
    let v1 = vertices-append (flat y) (t ∷ (flat o ++ (e ∷ flat r))) in
    let v2 = vertices-append (flat o) (e ∷ flat r) in
    let iy = blocks-all n y k (suc k) f.1 (omega arith) (omega arith) in
    let io = blocks-all n o j (suc j) f.3 (omega arith) (omega arith) in
    let ir = blocks-all n r b m f.5 low (omega arith) in
    omega (arith, a1, a2, a3, once, one, none_t, none_e, v1, v2, iy, io, ir)

-- ---- the nodes of a code of a text

pub node-right : (codes : ℕ) (c : Code) → IsCodeOfText codes c → (x : ℕ) (n : Node) → slice_get c.nodes x ≡ Some n → IsRightNode codes c n
node-right codes c of x n e =
    let low : x < length c.nodes = within c.nodes x n e in
    let i = below-in x (length c.nodes) low in
    let line : is_line codes c n.kind ≡ true =
    ap (λ o. is_line codes c (or_kind o)) (sym e) ∙ all-in (λ x. is_line codes c (kind_at c x)) (node_numbers c) of.written.lines x i in
    let deep : nat_le n.depth (greatest_depth c x) ≡ true =
    ap (λ o. nat_le (or_depth o) (greatest_depth c x)) (sym e)
    ∙ all-in (λ x. nat_le (depth_at c x) (greatest_depth c x)) (node_numbers c) of.written.depths x i in
    let named : is_named_right n ≡ true = all-in is_named_right c.nodes of.nodes_named n (get-in c.nodes x n e) in
    record { line = line; named = named; shallow = small (is_operand c x) refl deep; flat = λ h. zero_depth (is_operand c x) refl deep h }
  where
    within : (xs : List Node) (k : ℕ) (m : Node) → slice_get xs k ≡ Some m → k < length xs
    within [] k m e = absurd cc
    within (y ∷ ys) zero m e = omega arith
    within (y ∷ ys) (suc k) m e = let h = within ys k m e in omega arith

    small : (b : Bool) → is_operand c x ≡ b → nat_le n.depth (greatest_depth c x) ≡ true → n.depth ≤ 3
    small true p h = leb-true n.depth 3 (rw (greatest_depth, p) at h)
    small false p h = let z : n.depth ≤ 0 = leb-true n.depth 0 (rw (greatest_depth, p) at h) in omega arith

    zero_depth : (b : Bool) → is_operand c x ≡ b → nat_le n.depth (greatest_depth c x) ≡ true → named_for role.Value (verb_of n.kind) ≡ false → n.depth ≡ 0
    zero_depth true p h no_role = absurd (true≢false (sym (operand-kind c x n.kind (ap or_kind e) p).1 ∙ no_role))
    zero_depth false p h no_role = let z : n.depth ≤ 0 = leb-true n.depth 0 (rw (greatest_depth, p) at h) in omega arith

-- ---- a code's lines

-- the code's lines are those of sentences that say its nodes
pub record IsSaidCode (g : Graph) (c : Code) (d : CodeLines) : Type 0 where
  pub numbered : IsNumbered c
  pub same : shape d.body ≡ shape_of numbered.tree
  pub says : SaysAll g c d.body 0
  pub head : d.head ≡ record { name = []; verb = verb.Code; rest = c.name ∷ [] }
  pub close : d.close ≡ alone verb.End

pub record IsCodeBack (g : Graph) (c : Code) (ws : List (List (List ℕ))) : Type 0 where
  pub lines : CodeLines
  pub said : IsSaidCode g c lines
  pub words : ws ≡ map words_said (lines_of_code lines)

pub two-back : (w : List (List ℕ)) (a b : List ℕ) → same_line w (Bytes a ∷ Bytes b ∷ []) ≡ true → w ≡ a ∷ b ∷ []
two-back [] a b h = absurd (true≢false (sym h))
two-back (t ∷ []) a b h = absurd (true≢false (sym (both-true (same_bytes t a) false h).1))
two-back (t ∷ u ∷ []) a b h =
    let p = both-true (same_bytes t a) _ h in
    let q = both-true (same_bytes u b) true p.1 in
    ap₂ (λ x y. x ∷ y ∷ []) (same_equal t a p.0) (same_equal u b q.0)
two-back (t ∷ u ∷ v ∷ ts) a b h = absurd (true≢false (sym (both-true (same_bytes u b) false (both-true (same_bytes t a) _ h).1).1))

no-lines : (ws : List (List (List ℕ))) → same_lines ws [] ≡ true → ws ≡ []
no-lines [] h = refl
no-lines (w ∷ ws) h = absurd (true≢false (sym h))

pub code-back : (g : Graph) (codes : ℕ) (c : Code) → AreNamed g codes c → IsCodeOfText codes c → (ws : List (List (List ℕ)))
    → same_lines ws (code_lines g c) ≡ true → IsCodeBack g c ws
code-back g codes c are of ws h =
    let u = written-numbered codes c of.written in
    let body_lines : List Line = map (visit_line g c) (numbered_visits u.tree) in
    let lines : same_lines ws ((Bytes (bytes_of "code") ∷ Bytes c.name ∷ []) ∷ (body_lines ++ end_line ∷ [])) ≡ true =
    ap (λ vs. same_lines ws ((Bytes (bytes_of "code") ∷ Bytes c.name ∷ []) ∷ (map (visit_line g c) vs ++ end_line ∷ []))) (sym u.visited) ∙ h in
    let f = first-line ws (Bytes (bytes_of "code") ∷ Bytes c.name ∷ []) (body_lines ++ end_line ∷ []) lines in
    let s = split-lines f.others body_lines (end_line ∷ []) f.second in
    let l = first-line s.back end_line [] s.second in
    let t = tree-back g codes c are (node-right codes c of) u.tree 0 0 u.stands u.nodes (omega (arith, u.many)) s.prefix s.first in
    let head : Sentence = record { name = []; verb = verb.Code; rest = c.name ∷ [] } in
    record {
      lines = record { head = head; body = t.tree; close = alone verb.End; begins = refl; fits = t.fits; closes = refl };
      said = record { numbered = u; same = t.same; says = t.says; head = refl; close = refl };
      words =
          f.parts ∙ ap₂ (λ a b. a ∷ b) (two-back f.line (bytes_of "code") c.name f.first) (s.parts ∙ ap₂ (λ a b. a ++ b) t.words
          (l.parts ∙ ap₂ (λ a b. a ∷ b) (alone-back l.line (bytes_of "end") l.first) (no-lines l.others l.second)))
          ∙ ap (λ vs. words_said head ∷ vs) (sym (map-append words_said (flat t.tree) (alone verb.End ∷ [])));
    }

-- codes beside their lines, one each
abbrev pub AreSaid : Graph → List Code → List CodeLines → Type 0
AreSaid g [] [] = Unit {0}
AreSaid g [] (d ∷ ds) = ⊥
AreSaid g (c ∷ cs) [] = ⊥
AreSaid g (c ∷ cs) (d ∷ ds) = IsSaidCode g c d × AreSaid g cs ds

pub record AreCodesBack (g : Graph) (cs : List Code) (ws : List (List (List ℕ))) : Type 0 where
  pub lines : List CodeLines
  pub said : AreSaid g cs lines
  pub words : ws ≡ map words_said (lines_of_codes lines)

-- the lines of codes
pub codes-back : (g : Graph) (codes : ℕ) (cs : List Code) → ((c : Code) → In c cs → AreNamed g codes c × IsCodeOfText codes c) → (ws : List (List (List ℕ)))
    → same_lines ws (flat_map (code_lines g) cs) ≡ true → AreCodesBack g cs ws
codes-back g codes [] h ws e = record { lines = []; said = tt; words = no-lines ws e }
codes-back g codes (c ∷ cs) h ws e =
    let here = h c (inl refl) in
    let s = split-lines ws (code_lines g c) (flat_map (code_lines g) cs) (ap (same_lines ws) (sym (flat_map-cons (code_lines g) c cs)) ∙ e) in
    let b = code-back g codes c here.0 here.1 s.prefix s.first in
    let r = codes-back g codes cs (λ z i. h z (inr i)) s.back s.second in
    record {
      lines = b.lines ∷ r.lines;
      said = (b.said, r.said);
      words = s.parts ∙ ap₂ (λ a b. a ++ b) b.words r.words ∙ sym (map-append words_said (lines_of_code b.lines) (lines_of_codes r.lines));
    }
