-- Vertices and edges gathered one after another.
use Rattle.std.proofs.Common.{◌≡◌, ℕ, zero, suc, ◌+◌, ◌<◌, Bool, true, false, cond, ◌==◌, List, [], ◌∷◌, ◌++◌, refl, sym, ap, ap₂, ◌∙◌}
use Rattle.std.proofs.Common.{arith, length, map, filter, flat_map, take, get_or, slice_get, Option, Some, subst}
use Rattle.std.proofs.Common.{add-one, append_assoc}
use Rattle.std.proofs.lemmas.List.{map-append, append-nil, take_more, length-take}
use Rattle.std.proofs.lemmas.List.Concat.{flat_map-append}
use Rattle.std.proofs.lemmas.List.Elements.{filter-append}
use Rattle.tam_word.specs.Lists.{below, placed_from, has}
use Rattle.tam_word.proofs.Tests.{eq-number, differs-number}
use Rattle.tam_graph.specs.declared.node.Node.{Node}
use Rattle.tam_graph.specs.Graphs.{Code, or_kind, or_block, kind_at, block_at}
use Rattle.tam_split.specs.declared.vertex.Vertex.{Vertex}
use Rattle.tam_split.specs.Blocks.{vertices_of, is_ask, taken_by, feeds, edges_from}
use Rattle.tam_split.specs.Takers.{or_nothing, edges_to_takers, TakeTheSame}
use Rattle.tam_graph.specs.Edges.{Edges}

-- ---- vertices

-- the vertices of a block among the first n nodes
abbrev pub vertices_up_to : Code → ℕ → ℕ → List Vertex
vertices_up_to c b n = flat_map (λ x. vertices_of x (kind_at c x)) (filter (λ x. block_at c x == b) (below n))

-- one node more
vertices-next : (c : Code) (b n : ℕ) (t : Bool) → (block_at c n == b) ≡ t
    → vertices_up_to c b (n + 1) ≡ vertices_up_to c b n ++ flat_map (λ x. vertices_of x (kind_at c x)) (cond t (n ∷ []) [])
vertices-next c b n t e =
    let one : filter (λ x. block_at c x == b) (n ∷ []) ≡ cond t (n ∷ []) [] = ap (λ s. cond s (n ∷ []) []) e in
    ap (vertices_up_to c b) (add-one n)
    ∙ (ap (flat_map (λ x. vertices_of x (kind_at c x))) (filter-append (λ x. block_at c x == b) (below n) (n ∷ []) ∙ ap
    (λ xs. filter (λ x. block_at c x == b) (below n) ++ xs) one)
    ∙ flat_map-append (λ x. vertices_of x (kind_at c x)) (filter (λ x. block_at c x == b) (below n)) (cond t (n ∷ []) []))

-- a node of the block adds its vertices
pub vertices-more : (c : Code) (b n : ℕ) → block_at c n ≡ b → vertices_up_to c b (n + 1) ≡ vertices_up_to c b n ++ vertices_of n (kind_at c n)
vertices-more c b n e =
    vertices-next c b n true (eq-number (block_at c n) b e) ∙ ap (λ vs. vertices_up_to c b n ++ vs) (append-nil (vertices_of n (kind_at c n)))

-- another node adds none
pub vertices-same : (c : Code) (b n : ℕ) → (block_at c n ≡ b → ⊥) → vertices_up_to c b (n + 1) ≡ vertices_up_to c b n
vertices-same c b n d = vertices-next c b n false (differs-number (block_at c n) b d) ∙ append-nil (vertices_up_to c b n)

-- the node at a place
pub node-there : (nodes : List Node) (n : ℕ) (line : Node) → n < length nodes → line ≡ get_or nodes n line → slice_get nodes n ≡ Some line
node-there [] n line h e = absurd (omega arith)
node-there (x ∷ xs) zero line h e = ap Some (sym e)
node-there (x ∷ xs) (suc n) line h e = node-there xs n line (omega arith) e

-- a step at a node of the block
pub step-more : (c : Code) (b n : ℕ) (vs ws : List Vertex) (line : Node) → slice_get c.nodes n ≡ Some line → line.block ≡ b
    → vs ≡ vertices_up_to c b n → ws ≡ vs ++ vertices_of n line.kind → ws ≡ vertices_up_to c b (n + 1)
step-more c b n vs ws line there same before after =
    let k : kind_at c n ≡ line.kind = ap or_kind there in
    after ∙ (ap₂ (λ xs k. xs ++ vertices_of n k) before (sym k) ∙ sym (vertices-more c b n (ap or_block there ∙ same)))

-- a step at another node
pub step-same : (c : Code) (b n : ℕ) (vs : List Vertex) (line : Node) → slice_get c.nodes n ≡ Some line → (line.block ≡ b → ⊥)
    → vs ≡ vertices_up_to c b n → vs ≡ vertices_up_to c b (n + 1)
step-same c b n vs line there other before = before ∙ sym (vertices-same c b n (λ e. other (sym (ap or_block there) ∙ e)))

-- ---- edges

-- what is kept of what the vertices take
abbrev pub Taken : Type 0
Taken = List (Option (List ℕ))

-- an element more has the next place
placed-append : {X : Type 0} (n : ℕ) (xs ys : List X) → placed_from n (xs ++ ys) ≡ placed_from n xs ++ placed_from (n + length xs) ys
placed-append n [] ys = ap (λ m. placed_from m ys) (let e : n ≡ n + 0 = omega arith in e)
placed-append n (x ∷ xs) ys =
    ap (λ rs. (n, x) ∷ rs) (placed-append (n + 1) xs ys ∙ ap (λ m. placed_from (n + 1) xs ++ placed_from m ys)
    (let e : n + 1 + length xs ≡ n + suc (length xs) = omega arith in e))

-- of the first n + 1 elements
pub placed-more : {X : Type 0} (xs : List X) (n : ℕ) (d : X) → n < length xs → placed_from 0 (take (n + 1) xs) ≡ placed_from 0 (take n xs) ++
    (n, get_or xs n d) ∷ []
placed-more xs n d h =
    let long : 0 + length (take n xs) ≡ n = omega (arith, length-take n xs) in
    ap (placed_from 0) (take_more xs n d h) ∙ (placed-append 0 (take n xs) (get_or xs n d ∷ []) ∙ ap
    (λ m. placed_from 0 (take n xs) ++ (m, get_or xs n d) ∷ []) long)

-- the edges to the first n takers
abbrev pub edges_up_to : Taken → ℕ → ℕ → ℕ → Edges
edges_up_to ts place node n = edges_to_takers (take n ts) place node

-- one taker more
edges-next : (ts : Taken) (place node n : ℕ) (d : Option (List ℕ)) → n < length ts → (t : Bool) → has (or_nothing (get_or ts n d)) node ≡ t
    → edges_up_to ts place node (n + 1) ≡ edges_up_to ts place node n ++ cond t ((place, n) ∷ []) []
edges-next ts place node n d h t e =
    let f : ℕ × Option (List ℕ) → Bool = λ v. has (or_nothing v.1) node in
    let g : ℕ × Option (List ℕ) → ℕ × ℕ = λ v. (place, v.0) in
    let one : map g (filter f ((n, get_or ts n d) ∷ [])) ≡ cond t ((place, n) ∷ []) [] = last t e in
    ap (λ rs. map g (filter f rs)) (placed-more ts n d h)
    ∙ (ap (map g) (filter-append f (placed_from 0 (take n ts)) ((n, get_or ts n d) ∷ []))
    ∙ (map-append g (filter f (placed_from 0 (take n ts))) (filter f ((n, get_or ts n d) ∷ [])) ∙ ap (λ rs. edges_up_to ts place node n ++ rs) one))
  where
    last : (s : Bool) → has (or_nothing (get_or ts n d)) node ≡ s → map {B = ℕ × ℕ} (λ (v : ℕ × Option (List ℕ)). (place, v.0))
        (filter (λ (v : ℕ × Option (List ℕ)). has (or_nothing v.1) node) ((n, get_or ts n d) ∷ [])) ≡ cond s ((place, n) ∷ []) []
    last true p = rw p refl
    last false p = rw p refl

-- a step at a vertex that takes the value
pub step-edge : (ts : Taken) (place node n : ℕ) (d : Option (List ℕ)) (olds es fs : Edges) → n < length ts → has (or_nothing (get_or ts n d)) node ≡ true
    → es ≡ olds ++ edges_up_to ts place node n → fs ≡ es ++ (place, n) ∷ [] → fs ≡ olds ++ edges_up_to ts place node (n + 1)
step-edge ts place node n d olds es fs h e before after =
    after ∙ (ap (λ l. l ++ (place, n) ∷ []) before ∙ (append_assoc olds (edges_up_to ts place node n) ((place, n) ∷ []) ∙ ap (λ l. olds ++ l)
    (sym (edges-next ts place node n d h true e))))

-- a step at another vertex
pub step-none : (ts : Taken) (place node n : ℕ) (d : Option (List ℕ)) (olds es : Edges) → n < length ts → has (or_nothing (get_or ts n d)) node ≡ false
    → es ≡ olds ++ edges_up_to ts place node n → es ≡ olds ++ edges_up_to ts place node (n + 1)
step-none ts place node n d olds es h e before =
    before ∙ ap (λ l. olds ++ l) (sym (edges-next ts place node n d h false e ∙ append-nil (edges_up_to ts place node n)))

-- ---- what is kept for each vertex

-- one vertex more
pub same-push : (c : Code) (vs : List Vertex) (ts : Taken) (v : Vertex) (t : Option (List ℕ)) → TakeTheSame c vs ts
    → ((x : ℕ) → has (or_nothing t) x ≡ has (taken_by c v) x) → TakeTheSame c (vs ++ v ∷ []) (ts ++ t ∷ [])
same-push c [] [] v t s h = (h, tt)
same-push c [] (u ∷ ts) v t s h = absurd s
same-push c (w ∷ vs) [] v t s h = absurd s
same-push c (w ∷ vs) (u ∷ ts) v t s h = (s.0, same-push c vs ts v t s.1 h)

-- a step at a vertex
pub step-taken : (c : Code) (vs : List Vertex) (n : ℕ) (d : Vertex) (ts us : Taken) (t : Option (List ℕ)) → n < length vs → TakeTheSame c (take n vs) ts
    → us ≡ ts ++ t ∷ [] → ((x : ℕ) → has (or_nothing t) x ≡ has (taken_by c (get_or vs n d)) x) → TakeTheSame c (take (n + 1) vs) us
step-taken c vs n d ts us t h before after same =
    subst (λ ws. TakeTheSame c ws us) (sym (take_more vs n d h))
    (subst (λ ws. TakeTheSame c (take n vs ++ get_or vs n d ∷ []) ws) (sym after) (same-push c (take n vs) ts (get_or vs n d) t before same))

-- there is an entry for each
pub same-length : (c : Code) (vs : List Vertex) (ts : Taken) → TakeTheSame c vs ts → length ts ≡ length vs
same-length c [] [] s = refl
same-length c [] (u ∷ ts) s = absurd s
same-length c (w ∷ vs) [] s = absurd s
same-length c (w ∷ vs) (u ∷ ts) s = ap suc (same-length c vs ts s.1)

-- the edges from a vertex that is no ask run to those for which its node is kept
pub takers-edges : (c : Code) (vs : List Vertex) (ts : Taken) (place : ℕ) (u : Vertex) → TakeTheSame c vs ts → is_ask u.half ≡ false
    → edges_to_takers ts place u.node ≡ edges_from c (placed_from 0 vs) (place, u)
takers-edges c vs ts place u s giver = go vs ts 0 s
  where
    go : (vs : List Vertex) (ts : Taken) (n : ℕ) → TakeTheSame c vs ts
        → map {B = ℕ × ℕ} (λ (v : ℕ × Option (List ℕ)). (place, v.0)) (filter (λ (v : ℕ × Option (List ℕ)). has (or_nothing v.1) u.node) (placed_from n ts))
        ≡ edges_from c (placed_from n vs) (place, u)
    go [] [] n s = refl
    go [] (t ∷ ts) n s = absurd s
    go (v ∷ vs) [] n s = absurd s
    go (v ∷ vs) (t ∷ ts) n s = one (has (taken_by c v) u.node) refl (go vs ts (n + 1) s.1)
      where
        one : (b : Bool) → has (taken_by c v) u.node ≡ b
            → map {B = ℕ × ℕ} (λ (v : ℕ × Option (List ℕ)). (place, v.0))
            (filter (λ (v : ℕ × Option (List ℕ)). has (or_nothing v.1) u.node) (placed_from (n + 1) ts))
            ≡ edges_from c (placed_from (n + 1) vs) (place, u)
            → map {B = ℕ × ℕ} (λ (v : ℕ × Option (List ℕ)). (place, v.0))
            (filter (λ (v : ℕ × Option (List ℕ)). has (or_nothing v.1) u.node) (placed_from n (t ∷ ts)))
            ≡ edges_from c (placed_from n (v ∷ vs)) (place, u)
        one true p i = rw (s.0 u.node ∙ p, feeds, giver, p) (ap (λ es. (place, n) ∷ es) i)
        one false p i = rw (s.0 u.node ∙ p, feeds, giver, p) i

-- no edges run from an ask
pub ask-edges : (c : Code) (vs : List (ℕ × Vertex)) (u : ℕ × Vertex) → is_ask u.1.half ≡ true → edges_from c vs u ≡ []
ask-edges c [] u asks = refl
ask-edges c (v ∷ vs) u asks = rw (feeds, asks) (ask-edges c vs u asks)

-- the edges from the first n vertices
abbrev pub edges_of_first : Code → List Vertex → ℕ → Edges
edges_of_first c vs n = flat_map (edges_from c (placed_from 0 vs)) (placed_from 0 (take n vs))

-- one vertex more adds the edges from it
pub first-more : (c : Code) (vs : List Vertex) (n : ℕ) (d : Vertex) → n < length vs
    → edges_of_first c vs (n + 1) ≡ edges_of_first c vs n ++ edges_from c (placed_from 0 vs) (n, get_or vs n d)
first-more c vs n d h =
    ap (flat_map (edges_from c (placed_from 0 vs))) (placed-more vs n d h)
    ∙ (flat_map-append (edges_from c (placed_from 0 vs)) (placed_from 0 (take n vs)) ((n, get_or vs n d) ∷ [])
    ∙ ap (λ es. edges_of_first c vs n ++ es) (append-nil (edges_from c (placed_from 0 vs) (n, get_or vs n d))))

-- a step from one vertex to the next
pub step-first : (c : Code) (vs : List Vertex) (n : ℕ) (d : Vertex) (es fs : Edges) → n < length vs → es ≡ edges_of_first c vs n
    → fs ≡ es ++ edges_from c (placed_from 0 vs) (n, get_or vs n d) → fs ≡ edges_of_first c vs (n + 1)
step-first c vs n d es fs h before after = after ∙ (ap (λ l. l ++ edges_from c (placed_from 0 vs) (n, get_or vs n d)) before ∙ sym (first-more c vs n d h))

-- a step at an ask
pub step-ask : (c : Code) (vs : List Vertex) (n : ℕ) (d : Vertex) (es : Edges) → n < length vs → is_ask (get_or vs n d).half ≡ true → es ≡ edges_of_first c vs n
    → es ≡ edges_of_first c vs (n + 1)
step-ask c vs n d es h asks before =
    step-first c vs n d es es h before (sym (ap (λ fs. es ++ fs) (ask-edges c (placed_from 0 vs) (n, get_or vs n d) asks) ∙ append-nil es))
