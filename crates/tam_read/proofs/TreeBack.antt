-- Lines that spell the lines of a code are the lines of a tree of sentences, one for each of its nodes.
use Rattle.std.proofs.Common.{◌≡◌, ℕ, zero, suc, ◌+◌, ◌<◌, ◌≤◌, Bool, true, false, ◌&&◌, List, [], ◌∷◌, ◌++◌, length, map, Some}
use Rattle.std.proofs.Common.{None, refl, sym, ap, ap₂, subst, ◌∙◌, true≢false, append_assoc, arith, inl, inr}
use Rattle.std.specs.Prelude.{codes as bytes_of, slice_get}
use Rattle.std.proofs.lemmas.List.{map-append}
use Rattle.tam_word.specs.Lists.{same_bytes}
use Rattle.tam_word.proofs.Tests.{both-true, true-both as both-hold}
use Rattle.tam_graph.specs.declared.kind.Kind.{Kind}
use Rattle.tam_graph.specs.declared.kind.Kind.TheVariants as kind
use Rattle.tam_graph.specs.declared.node.Node.{Node}
use Rattle.tam_graph.specs.Graphs.{Code, Graph, kind_at, or_kind}
use Rattle.tam_graph.specs.Texts.{Token, Bytes, Line, visit_line, end_line, node_line}
use Rattle.tam_graph.specs.Reading.{same_line, same_lines}
use Rattle.tam_graph.specs.Written.{Visit, AtNode, AtElse, AtEnd}
use Rattle.tam_graph.proofs.Visited.{Items, Plain as PlainItem, Branch as SplitItem, size, opened, is_plain}
use Rattle.tam_text.proofs.SameBytes.{same_equal}
use Rattle.tam_read.specs.declared.form.Verb.{Verb}
use Rattle.tam_read.specs.declared.form.Verb.TheVariants as verb
use Rattle.tam_read.specs.Sentences.{Sentence, verb_text}
use Rattle.tam_read.proofs.Nested.{Tree, Done, Plain, Branch, flat, Fits, is_plain_verb}
use Rattle.tam_read.proofs.TreeBuilt.{shape}
use Rattle.tam_read.proofs.WrittenTrees.{Numbered, Done as NoNode, Plain as Node1, Branch as Cond1, numbered_visits, Stands, shape_of, InRow}
use Rattle.tam_read.proofs.Worded.{words_said}
use Rattle.tam_read.proofs.KindsAgain.{verb_of}
use Rattle.tam_read.proofs.TokensBack.{AreNamed}
use Rattle.tam_read.proofs.LinesBack.{Says, IsRightNode, IsSentence, line-back}

-- a sentence of a verb alone
abbrev pub alone : Verb → Sentence
alone v = record { name = []; verb = v; rest = [] }

-- each line of the tree says its node, from x on
abbrev pub SaysAll : Graph → Code → Tree → ℕ → Type 0
SaysAll g c Done x = Unit {0}
SaysAll g c (Plain s r) x = Says g c x s × SaysAll g c r (suc x)
SaysAll g c (Branch s y t n e r) x =
    Says g c x s × SaysAll g c y (suc x) × (t ≡ alone verb.Else) × SaysAll g c n (suc x + size (shape y)) × (e ≡ alone verb.End)
    × SaysAll g c r (suc x + size (shape y) + size (shape n))

-- lines that spell lines one behind the other
pub record AreSplit (ws : List (List (List ℕ))) (ls ms : List Line) : Type 0 where
  pub prefix : List (List (List ℕ))
  pub back : List (List (List ℕ))
  pub parts : ws ≡ prefix ++ back
  pub first : same_lines prefix ls ≡ true
  pub second : same_lines back ms ≡ true

pub split-lines : (ws : List (List (List ℕ))) (ls ms : List Line) → same_lines ws (ls ++ ms) ≡ true → AreSplit ws ls ms
split-lines ws [] ms h = record { prefix = []; back = ws; parts = refl; first = refl; second = h }
split-lines [] (l ∷ ls) ms h = absurd (true≢false (sym h))
split-lines (w ∷ ws) (l ∷ ls) ms h =
    let p = both-true (same_line w l) (same_lines ws (ls ++ ms)) h in
    let i = split-lines ws ls ms p.1 in
    record {
      prefix = w ∷ i.prefix;
      back = i.back;
      parts = ap (λ vs. w ∷ vs) i.parts;
      first = both-hold (same_line w l) (same_lines i.prefix ls) p.0 i.first;
      second = i.second;
    }

-- a line before others
pub record IsFirst (ws : List (List (List ℕ))) (l : Line) (ls : List Line) : Type 0 where
  pub line : List (List ℕ)
  pub others : List (List (List ℕ))
  pub parts : ws ≡ line ∷ others
  pub first : same_line line l ≡ true
  pub second : same_lines others ls ≡ true

pub first-line : (ws : List (List (List ℕ))) (l : Line) (ls : List Line) → same_lines ws (l ∷ ls) ≡ true → IsFirst ws l ls
first-line [] l ls h = absurd (true≢false (sym h))
first-line (w ∷ ws) l ls h = let p = both-true (same_line w l) (same_lines ws ls) h in record { line = w; others = ws; parts = refl; first = p.0; second = p.1 }

-- a line of one token
pub alone-back : (w : List (List ℕ)) (bs : List ℕ) → same_line w (Bytes bs ∷ []) ≡ true → w ≡ bs ∷ []
alone-back [] bs h = absurd (true≢false (sym h))
alone-back (t ∷ []) bs h = ap (λ z. z ∷ []) (same_equal t bs (both-true (same_bytes t bs) true h).0)
alone-back (t ∷ u ∷ ts) bs h = absurd (true≢false (sym (both-true (same_bytes t bs) false h).1))

-- the verb of a kind that is no cond
plain-verb : (k : Kind) → is_plain k ≡ true → is_plain_verb (verb_of k) ≡ true
plain-verb (kind.Param k) e = refl
plain-verb (kind.Const w) e = refl
plain-verb (kind.Op o a b) e = refl
plain-verb (kind.Seq a b) e = refl
plain-verb (kind.Call d) e = refl
plain-verb (kind.Arg f k a) e = refl
plain-verb (kind.Ret f k) e = refl
plain-verb (kind.Give k a) e = refl
plain-verb (kind.Alloc n) e = refl
plain-verb (kind.Fetch a i) e = refl
plain-verb (kind.Store a i v) e = refl
plain-verb (kind.Cond p y n) e = absurd (true≢false (sym e))
plain-verb (kind.Switch d k a) e = refl
plain-verb (kind.Merge d k) e = refl
plain-verb (kind.Enter k) e = refl
plain-verb (kind.Leave k a) e = refl

-- at each place there is a node
node-there : (ns : List Node) (x : ℕ) → x < length ns → (n : Node) × (slice_get ns x ≡ Some n)
node-there [] x l = absurd (omega arith)
node-there (n ∷ ns) zero l = (n, refl)
node-there (n ∷ ns) (suc x) l = node-there ns x (omega arith)

-- the tree of the lines
pub record IsBack (g : Graph) (c : Code) (t : Numbered) (x : ℕ) (ws : List (List (List ℕ))) : Type 0 where
  pub tree : Tree
  pub fits : Fits tree
  pub same : shape tree ≡ shape_of t
  pub words : ws ≡ map words_said (flat tree)
  pub says : SaysAll g c tree x

-- the visits of a branch, one behind the other
branch-visits : (x : ℕ) (vy vn vr : List Visit)
    → (AtNode x ∷ ((vy ++ (AtElse x ∷ vn ++ AtEnd x ∷ [])) ++ vr)) ≡ AtNode x ∷ (vy ++ (AtElse x ∷ (vn ++ (AtEnd x ∷ vr))))
branch-visits x vy vn vr =
    ap (λ l. AtNode x ∷ l) (append_assoc vy (AtElse x ∷ vn ++ AtEnd x ∷ []) vr ∙ ap (λ l. vy ++ (AtElse x ∷ l)) (append_assoc vn (AtEnd x ∷ []) vr))

module _ (g : Graph) (codes : ℕ) (c : Code) (are : AreNamed g codes c) (right : (x : ℕ) (n : Node) → slice_get c.nodes x ≡ Some n → IsRightNode codes c n) where
  -- the sentence of a node's line
  node-back : (x : ℕ) → x < length c.nodes → (w : List (List ℕ)) → same_line w (node_line g c x) ≡ true → IsSentence g c x w
  node-back x l w h = let n = node-there c.nodes x l in line-back g codes c are x n.0 n.1 (right x n.0 n.1) w h

  -- the lines of a tree of nodes
  pub tree-back : (t : Numbered) (b x : ℕ) → Stands c b t → InRow t x → x + size (shape_of t) ≤ length c.nodes → (ws : List (List (List ℕ)))
      → same_lines ws (map (visit_line g c) (numbered_visits t)) ≡ true → IsBack g c t x ws
  tree-back NoNode b x s i l [] h = record { tree = Done; fits = tt; same = refl; words = refl; says = tt }
  tree-back NoNode b x s i l (w ∷ ws) h = absurd (true≢false (sym h))
  tree-back (Node1 y r) b x s i l ws h =
      let f = first-line ws (node_line g c y) (map (visit_line g c) (numbered_visits r)) h in
      let here : same_line f.line (node_line g c x) ≡ true = ap (λ z. same_line f.line (node_line g c z)) (sym i.0) ∙ f.first in
      let k = node-back x (omega arith) f.line here in
      let rest = tree-back r b (suc x) s.2 i.1 (omega arith) f.others f.second in
      let kind_is : kind_at c y ≡ k.says.node.kind = ap (kind_at c) i.0 ∙ ap or_kind k.says.there in
      record {
        tree = Plain k.sentence rest.tree;
        fits = (ap is_plain_verb k.says.verb ∙ plain-verb k.says.node.kind (ap is_plain (sym kind_is) ∙ s.1), rest.fits);
        same = ap PlainItem rest.same;
        words = f.parts ∙ ap₂ (λ a b. a ∷ b) k.words rest.words;
        says = (k.says, rest.says);
      }
  tree-back (Cond1 y p a d ys ns r) b x s i l ws h =
      let vy = numbered_visits ys in
      let vn = numbered_visits ns in
      let vr = numbered_visits r in
      let show : List Visit → List Line = map (visit_line g c) in
      let shown : show (numbered_visits (Cond1 y p a d ys ns r))
      ≡ node_line g c y ∷ (show vy ++ (visit_line g c (AtElse y) ∷ (show vn ++ (end_line ∷ show vr)))) =
      ap show (branch-visits y vy vn vr)
      ∙ ap (λ ls. node_line g c y ∷ ls) (map-append (visit_line g c) vy (AtElse y ∷ (vn ++ (AtEnd y ∷ vr)))
      ∙ ap (λ ls. show vy ++ (visit_line g c (AtElse y) ∷ ls)) (map-append (visit_line g c) vn (AtEnd y ∷ vr))) in
      let f = first-line ws (node_line g c y) (show vy ++ (visit_line g c (AtElse y) ∷ (show vn ++ (end_line ∷ show vr))))
      (ap (same_lines ws) (sym shown) ∙ h) in
      let here : same_line f.line (node_line g c x) ≡ true = ap (λ z. same_line f.line (node_line g c z)) (sym i.0) ∙ f.first in
      let k = node-back x (omega arith) f.line here in
      let one = split-lines f.others (show vy) (visit_line g c (AtElse y) ∷ (show vn ++ (end_line ∷ show vr))) f.second in
      let turn = first-line one.back (visit_line g c (AtElse y)) (show vn ++ (end_line ∷ show vr)) one.second in
      let two = split-lines turn.others (show vn) (end_line ∷ show vr) turn.second in
      let ends = first-line two.back end_line (show vr) two.second in
      let by = tree-back ys a (suc x) s.2 i.1 (omega arith) one.prefix one.first in
      let bn = tree-back ns d (suc x + size (shape_of ys)) s.3 i.2 (omega arith) two.prefix two.first in
      let br = tree-back r b (suc x + size (shape_of ys) + size (shape_of ns)) s.4 i.3 (omega arith) ends.others ends.second in
      let kind_is : k.says.node.kind ≡ kind.Cond p a d = sym (ap (kind_at c) i.0 ∙ ap or_kind k.says.there) ∙ s.1 in
      let t = alone verb.Else in
      let e = alone verb.End in
      let size_y : size (shape by.tree) ≡ size (shape_of ys) = ap size by.same in
      let size_n : size (shape bn.tree) ≡ size (shape_of ns) = ap size bn.same in
      record {
        tree = Branch k.sentence by.tree t bn.tree e br.tree;
        fits = (k.says.verb ∙ ap verb_of kind_is, by.fits, refl, bn.fits, refl, br.fits);
        same = ap (λ z. SplitItem z (shape bn.tree) (shape br.tree)) by.same
            ∙ ap (λ z. SplitItem (shape_of ys) z (shape br.tree)) bn.same ∙ ap (SplitItem (shape_of ys) (shape_of ns)) br.same;
        words =
            f.parts ∙ ap₂ (λ a b. a ∷ b) k.words (one.parts
            ∙ ap₂ (λ a b. a ++ b) by.words (turn.parts ∙ ap₂ (λ a b. a ∷ b) (alone-back turn.line (bytes_of "else") turn.first)
            (two.parts ∙ ap₂ (λ a b. a ++ b) bn.words (ends.parts ∙ ap₂ (λ a b. a ∷ b) (alone-back ends.line (bytes_of "end") ends.first) br.words))))
            ∙ sym (ap (λ vs. words_said k.sentence ∷ vs) (map-append words_said (flat by.tree) (t ∷ (flat bn.tree ++ (e ∷ flat br.tree)))
            ∙ ap (λ vs. map words_said (flat by.tree) ++ (words_said t ∷ vs)) (map-append words_said (flat bn.tree) (e ∷ flat br.tree))));
        says = (
          k.says,
          by.says,
          refl,
          subst (λ z. SaysAll g c bn.tree (suc x + z)) (sym size_y) bn.says,
          refl,
          subst (λ z. SaysAll g c br.tree (suc x + z + size (shape bn.tree))) (sym size_y)
              (subst (λ z. SaysAll g c br.tree (suc x + size (shape_of ys) + z)) (sym size_n) br.says),
        );
      }
