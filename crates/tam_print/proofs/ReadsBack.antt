-- The canonical text of a graph reads as the graph.
use Rattle.std.proofs.Common.{◌≡◌, ℕ, ◌<◌, List, [], ◌∷◌, Bool, true, false, refl, sym, ap, subst, ◌∙◌, ◌&&◌, length, map, inl, inr, ◌⊎◌}
use Rattle.std.specs.Prelude.{codes}
use Rattle.std.proofs.lemmas.Option.{slice_get_within}
use Rattle.tam_word.specs.Lists.{all_of}
use Rattle.tam_word.proofs.Tests.{both-true, true-both}
use Rattle.tam_word.proofs.Members.{In, in-all, in-map, in-append, in-flat_map, flat_map-in, in-below, in-get}
use Rattle.tam_graph.specs.declared.kind.Kind.{Kind}
use Rattle.tam_graph.specs.declared.kind.Kind.TheVariants.{Param, Const, Op as Operate, Seq, Call, Arg, Ret, Give, Alloc, Fetch, Store, Cond, Switch, Merge}
use Rattle.tam_graph.specs.declared.kind.Kind.TheVariants.{Enter, Leave}
use Rattle.tam_graph.specs.Graphs.{Code, Graph, code_of, or_code, kind_at}
use Rattle.tam_text.specs.Lines.{is_some_of}
use Rattle.tam_graph.specs.Written.{Visit, AtNode, AtElse, AtEnd, visits, node_visited}
use Rattle.tam_graph.specs.Texts.{Bytes, Line, token_text, visit_line, node_line, tokens, code_lines, graph_lines, canonical, is_named, end_line}
use Rattle.tam_graph.specs.Reading.{is_token, same_line, same_lines, is_short, IsCodeOfText, IsOfText, Reads}
use Rattle.tam_text.proofs.PlainWords.{all-parts, all-more, name-word}
use Rattle.tam_print.proofs.Cutting.{is_printed, is_printed_line, text-words, text-good}
use Rattle.tam_print.proofs.Printed.{is_right, right-printed, right-token, node-right}

-- a line with tokens, each right
abbrev is_right_line : Line → Bool
is_right_line l = is_some_of l && all_of is_right l

-- its tokens' texts are words
tokens-printed : (l : Line) → all_of is_right l ≡ true → all_of is_printed l ≡ true
tokens-printed [] h = refl
tokens-printed (t ∷ ts) h = let p = all-parts is_right t ts h in all-more is_printed t ts (right-printed t p.0) (tokens-printed ts p.1)

-- so it is a printed line
line-printed : (l : Line) → is_right_line l ≡ true → is_printed_line l ≡ true
line-printed l h = let p = both-true (is_some_of l) (all_of is_right l) h in true-both (is_some_of l) (all_of is_printed l) p.0 (tokens-printed l p.1)

-- and so line by line
lines-printed : (ls : List Line) → all_of is_right_line ls ≡ true → all_of is_printed_line ls ≡ true
lines-printed [] h = refl
lines-printed (l ∷ ls) h = let p = all-parts is_right_line l ls h in all-more is_printed_line l ls (line-printed l p.0) (lines-printed ls p.1)

-- the texts of a line's tokens spell the line
line-same : (l : Line) → all_of is_right l ≡ true → same_line (map token_text l) l ≡ true
line-same [] h = refl
line-same (t ∷ ts) h =
    let p = all-parts is_right t ts h in
    true-both (is_token (token_text t) t) (same_line (map token_text ts) ts) (right-token t p.0) (line-same ts p.1)

-- and so line by line
lines-same : (ls : List Line) → all_of is_right_line ls ≡ true → same_lines (map (map token_text) ls) ls ≡ true
lines-same [] h = refl
lines-same (l ∷ ls) h =
    let p = all-parts is_right_line l ls h in
    true-both (same_line (map token_text l) l) (same_lines (map (map token_text) ls) ls)
    (line-same l (both-true (is_some_of l) (all_of is_right l) p.0).1) (lines-same ls p.1)

-- a kind has a token
some-tokens : (g : Graph) (c : Code) (k : Kind) → is_some_of (tokens g c k) ≡ true
some-tokens g c (Param k) = refl
some-tokens g c (Const w) = refl
some-tokens g c (Operate o a b) = refl
some-tokens g c (Seq a b) = refl
some-tokens g c (Call d) = refl
some-tokens g c (Arg f k a) = refl
some-tokens g c (Ret f k) = refl
some-tokens g c (Give k a) = refl
some-tokens g c (Alloc n) = refl
some-tokens g c (Fetch a i) = refl
some-tokens g c (Store a i v) = refl
some-tokens g c (Cond p y n) = refl
some-tokens g c (Switch d k a) = refl
some-tokens g c (Merge d k) = refl
some-tokens g c (Enter k) = refl
some-tokens g c (Leave k a) = refl

-- and so has the line of a node
some-line : (g : Graph) (c : Code) (x : ℕ) → is_some_of (node_line g c x) ≡ true
some-line g c x = go (is_named (kind_at c x)) refl
  where
    go : (t : Bool) → is_named (kind_at c x) ≡ t → is_some_of (node_line g c x) ≡ true
    go true e = rw (node_line, e) refl
    go false e = rw (node_line, e) (some-tokens g c (kind_at c x))

module _ (g : Graph) (text : IsOfText g) where
  -- the lines of a code
  module _ (c : Code) (code : IsCodeOfText (length g.codes) c) where
    -- a node that is visited is one of the code
    visited-there : (x : ℕ) → In (AtNode x) (visits (length c.owners) c 0) → x < length c.nodes
    visited-there x i =
        in-below x (length c.nodes)
        (subst (λ l. In x l) code.written.nodes_in_order (flat_map-in node_visited (AtNode x) x (visits (length c.owners) c 0) i (inl refl)))

    -- the line of a visit
    visit-right : (v : Visit) → In v (visits (length c.owners) c 0) → is_right_line (visit_line g c v) ≡ true
    visit-right (AtNode x) i =
        true-both (is_some_of (node_line g c x)) (all_of is_right (node_line g c x)) (some-line g c x) (node-right g text c code x (visited-there x i))
    visit-right (AtElse x) i = refl
    visit-right (AtEnd x) i = refl

    -- each line
    code-right : (l : Line) → In l (code_lines g c) → is_right_line l ≡ true
    code-right l i = go (in-append l ((Bytes (codes "code") ∷ Bytes c.name ∷ []) ∷ map (visit_line g c) (visits (length c.owners) c 0)) (end_line ∷ []) i)
      where
        go : In l ((Bytes (codes "code") ∷ Bytes c.name ∷ []) ∷ map (visit_line g c) (visits (length c.owners) c 0)) ⊎ In l (end_line ∷ [])
            → is_right_line l ≡ true
        go (inl (inl e)) = ap is_right_line (sym e)
            ∙ all-more is_right (Bytes (codes "code")) (Bytes c.name ∷ []) refl (all-more is_right (Bytes c.name) [] (name-word c.name code.named) refl)
        go (inl (inr k)) =
            let v = in-map (visit_line g c) l (visits (length c.owners) c 0) k in ap is_right_line (sym v.2) ∙ visit-right v.0 v.1
        go (inr (inl e)) = ap is_right_line (sym e)
        go (inr (inr k)) = absurd k

  -- each line of the graph
  graph-right : (l : Line) → In l (graph_lines g) → is_right_line l ≡ true
  graph-right l (inl e) = ap is_right_line (sym e)
  graph-right l (inr i) = go (in-flat_map (code_lines g) l g.codes i)
    where
      go : (c : Code) × In c g.codes × In l (code_lines g c) → is_right_line l ≡ true
      go (c, m, k) =
          let p = in-get c g.codes m in
          let is : code_of g p.0 ≡ c = ap or_code p.1 in
          code-right c (subst (λ z. IsCodeOfText (length g.codes) z) is (text.each_code p.0 (slice_get_within g.codes p.0 c p.1))) l k

  -- all of them
  all-right : all_of is_right_line (graph_lines g) ≡ true
  all-right = in-all is_right_line (graph_lines g) graph-right

  -- so the canonical text reads as the graph
  pub reads-back : is_short g ≡ true → Reads (canonical g) g
  reads-back short =
      let printed = lines-printed (graph_lines g) all-right in
      record {
        good = text-good (graph_lines g) printed;
        text = text;
        short = short;
        lines = ap (λ ws. same_lines ws (graph_lines g)) (text-words (graph_lines g) printed) ∙ lines-same (graph_lines g) all-right;
      }
