-- A code whose nodes agree with a tree of lines, place by place, is visited as the tree is.
use Rattle.std.proofs.Common.{◌≡◌, ℕ, zero, suc, ◌+◌, ◌<◌, ◌≤◌, ◌⊎◌, inl, inr, Bool, true, false, cond, eqb, List, [], ◌∷◌, ◌++◌, length, refl, sym, ap}
use Rattle.std.proofs.Common.{subst, ◌∙◌, arith}
use Rattle.std.specs.List.{flat_map, filter}
use Rattle.std.proofs.lemmas.List.{append-nil}
use Rattle.std.proofs.lemmas.List.Elements.{filter-append}
use Rattle.std.proofs.lemmas.List.Concat.{flat_map-cons}
use Rattle.std.proofs.lemmas.Bool.{eq-eqb, ne_eqb, cases_lt}
use Rattle.tam_word.specs.Lists.{below}
use Rattle.tam_graph.specs.declared.kind.Kind.{Kind}
use Rattle.tam_graph.specs.declared.kind.Kind.TheVariants.{Cond}
use Rattle.tam_graph.specs.Graphs.{Code, kind_at, block_at, nodes_in, node_numbers}
use Rattle.tam_graph.specs.Written.{Visit, AtNode, AtElse, AtEnd, branches, visits}

-- lines as a tree: a line, or a cond with what stands in its then block and its else block
pub data Items : Type 0 where
  Done : Items
  Plain : (rest : Items) → Items
  Branch : (yes : Items) → (no_part : Items) → (rest : Items) → Items

-- how many nodes, and how many blocks inside
abbrev pub size : Items → ℕ
size Done = 0
size (Plain r) = suc (size r)
size (Branch y n r) = suc (size y + (size n + size r))

abbrev pub opened : Items → ℕ
opened Done = 0
opened (Plain r) = opened r
opened (Branch y n r) = suc (opened y + suc (opened n + opened r))

-- the visits of a tree whose first node has number x
abbrev pub visits_of : Items → ℕ → List Visit
visits_of Done x = []
visits_of (Plain r) x = AtNode x ∷ visits_of r (suc x)
visits_of (Branch y n r) x = AtNode x ∷ (visits_of y (suc x) ++ (AtElse x ∷ visits_of n (suc x + size y) ++ AtEnd x ∷ []))
    ++ visits_of r (suc x + size y + size n)

-- no cond
abbrev pub is_plain : Kind → Bool
is_plain (Cond p y n) = false
is_plain k = true

-- the code's nodes from x on are those of the tree in block b, where k is the next block
abbrev pub Agrees : Code → Items → ℕ → ℕ → ℕ → Type 0
Agrees c Done b x k = Unit {0}
Agrees c (Plain r) b x k = (block_at c x ≡ b) × (is_plain (kind_at c x) ≡ true) × Agrees c r b (suc x) k
Agrees c (Branch y n r) b x k =
    (block_at c x ≡ b) × ((p : ℕ) × (kind_at c x ≡ Cond p k (suc k + opened y))) × Agrees c y k (suc x) (suc k)
    × Agrees c n (suc k + opened y) (suc x + size y) (suc (suc k + opened y))
    × Agrees c r b (suc x + size y + size n) (suc (suc k + opened y) + opened n)

-- ---- numbers in a row

abbrev rising : ℕ → ℕ → List ℕ
rising x zero = []
rising x (suc m) = x ∷ rising (suc x) m

rising-split : (x m n : ℕ) → rising x (m + n) ≡ rising x m ++ rising (x + m) n
rising-split x zero n = let a : 0 + n ≡ n = omega arith in let b : x + 0 ≡ x = omega arith in rw (a, b) refl
rising-split x (suc m) n =
    let a : suc m + n ≡ suc (m + n) = omega arith in
    let b : x + suc m ≡ suc x + m = omega arith in
    rw (a, b) (ap (λ xs. x ∷ xs) (rising-split (suc x) m n))

below-rising : (n : ℕ) → below n ≡ rising 0 n
below-rising zero = refl
below-rising (suc n) =
    let a : suc n ≡ n + 1 = omega arith in
    let b : 0 + n ≡ n = omega arith in
    ap (λ xs. xs ++ n ∷ []) (below-rising n) ∙ sym (ap (rising 0) a ∙ rising-split 0 n 1 ∙ ap (λ k. rising 0 n ++ rising k 1) b)

filter-split : (test : ℕ → Bool) (xs ys : List ℕ) → filter test (xs ++ ys) ≡ filter test xs ++ filter test ys
filter-split test xs ys = filter-append test xs ys

none_pass : (test : ℕ → Bool) (x m : ℕ) → ((z : ℕ) → x ≤ z → z < x + m → test z ≡ false) → filter test (rising x m) ≡ []
none_pass test x zero h = refl
none_pass test x (suc m) h =
    let here : test x ≡ false = h x (omega arith) (omega arith) in
    rw here (none_pass test (suc x) m (λ z le lt. h z (omega arith) (omega arith)))

-- ---- the blocks of a tree's nodes

-- b, or one of those opened in the tree
abbrev Labelled : ℕ → ℕ → ℕ → ℕ → Type 0
Labelled b k most w = (w ≡ b) ⊎ ((k ≤ w) × (w < most))

-- none of those opened
abbrev Apart : ℕ → ℕ → ℕ → Type 0
Apart k most w = (w < k) ⊎ (most ≤ w)

wider : (b b' k k' most most' w : ℕ) → Labelled b' k' most' w → ((w ≡ b') → Labelled b k most w) → k ≤ k' → most' ≤ most → Labelled b k most w
wider b b' k k' most most' w (inl e) h lo hi = h e
wider b b' k k' most most' w (inr p) h lo hi = inr (omega (arith, p.0), omega (arith, p.1))

labels : (c : Code) (t : Items) (b x k : ℕ) → Agrees c t b x k → (z : ℕ) → x ≤ z → z < x + size t → Labelled b k (k + opened t) (block_at c z)
labels c Done b x k a z le lt = absurd (omega arith)
labels c (Plain r) b x k a z le lt =
    elim (cases_lt x z) [
      | inl more ↦ labels c r b (suc x) k a.2 z (omega arith) (omega arith)
      | inr same ↦ let e : x ≡ z = omega arith in inl (subst (λ (y : ℕ). block_at c y ≡ b) e a.0)
    ]
labels c (Branch y n r) b x k a z le lt =
    elim (cases_lt x z) [
      | inr same ↦ let e : x ≡ z = omega arith in inl (subst (λ (y : ℕ). block_at c y ≡ b) e a.0)
      | inl more ↦ elim (cases_lt z (suc x + size y)) [
        | inl in_y ↦ wider b k k (suc k) _ (suc k + opened y) (block_at c z) (labels c y k (suc x) (suc k) a.2 z (omega arith) in_y)
            (λ e. inr (omega (arith, e), omega (arith, e))) (omega arith) (omega arith)
        | inr past_y ↦ elim (cases_lt z (suc x + size y + size n)) [
          | inl in_n ↦ wider b (suc k + opened y) k (suc (suc k + opened y)) _ (suc (suc k + opened y) + opened n) (block_at c z)
              (labels c n (suc k + opened y) (suc x + size y) (suc (suc k + opened y)) a.3 z past_y in_n) (λ e. inr (
                omega (arith, e),
                omega (arith, e),
              )) (omega arith) (omega arith)
          | inr past_n ↦ wider b b k (suc (suc k + opened y) + opened n) _ (suc (suc k + opened y) + opened n + opened r) (block_at c z)
              (labels c r b (suc x + size y + size n) (suc (suc k + opened y) + opened n) a.4 z past_n (omega arith)) (λ e. inl e) (omega arith) (omega arith)
        ]
      ]
    ]

-- the nodes of a block that stand in a row
nodes_within : (c : Code) (d x m r : ℕ) → length c.nodes ≡ x + (m + r) → ((z : ℕ) → (z < x) ⊎ (x + m ≤ z) → block_at c z ≡ d → ⊥)
    → nodes_in c d ≡ filter (λ z. eqb (block_at c z) d) (rising x m)
nodes_within c d x m r e out =
    let test : ℕ → Bool = λ z. eqb (block_at c z) d in
    let zero_x : 0 + x ≡ x = omega arith in
    let all : node_numbers c ≡ rising 0 x ++ (rising x m ++ rising (x + m) r) =
    below-rising (length c.nodes) ∙ ap (rising 0) e ∙ rising-split 0 x (m + r) ∙ ap (λ k. rising 0 x ++ rising k (m + r)) zero_x
    ∙ ap (λ xs. rising 0 x ++ xs) (rising-split x m r) in
    let prefix : filter test (rising 0 x) ≡ [] = none_pass test 0 x (λ z lo hi. ne_eqb (block_at c z) d (out z (inl (omega arith)))) in
    let back : filter test (rising (x + m) r) ≡ [] = none_pass test (x + m) r (λ z lo hi. ne_eqb (block_at c z) d (out z (inr lo))) in
    ap (filter test) all ∙ filter-split test (rising 0 x) (rising x m ++ rising (x + m) r)
    ∙ ap (λ xs. xs ++ filter test (rising x m ++ rising (x + m) r)) prefix
    ∙ filter-split test (rising x m) (rising (x + m) r) ∙ ap (λ xs. filter test (rising x m) ++ xs) back ∙ append-nil (filter test (rising x m))

-- ---- the visits

-- the code has the tree's nodes, and the blocks that the tree opens have no others
record IsWithin (c : Code) (t : Items) (x k : ℕ) : Type 0 where
  apart : (z : ℕ) → (z < x) ⊎ (x + size t ≤ z) → Apart k (k + opened t) (block_at c z)
  behind : ℕ
  count : length c.nodes ≡ x + (size t + behind)

narrower : (k most k' most' w : ℕ) → Apart k most w → k ≤ k' → most' ≤ most → Apart k' most' w
narrower k most k' most' w (inl h) lo hi = inl (omega arith)
narrower k most k' most' w (inr h) lo hi = inr (omega arith)

-- a labelled node is apart from blocks that lie elsewhere
elsewhere : (b k most k' most' w : ℕ) → Labelled b k most w → Apart k' most' b → (most ≤ k') ⊎ (most' ≤ k) → Apart k' most' w
elsewhere b k most k' most' w (inl e) h side = subst (λ (v : ℕ). Apart k' most' v) (sym e) h
elsewhere b k most k' most' w (inr p) h (inl s) = inl (omega (arith, p.1))
elsewhere b k most k' most' w (inr p) h (inr s) = inr (omega (arith, p.0))

module _ (c : Code) (y n r : Items) (b x k : ℕ) (a : Agrees c (Branch y n r) b x k) (low : b < k) (f : IsWithin c (Branch y n r) x k) where
  -- the next blocks and nodes behind the then block, and behind the else block
  abbrev k1 : ℕ
  k1 = suc k + opened y

  abbrev k2 : ℕ
  k2 = suc (suc k + opened y) + opened n

  abbrev x1 : ℕ
  x1 = suc x + size y

  abbrev x2 : ℕ
  x2 = suc x + size y + size n

  outer : (z k' most' : ℕ) → (z < x) ⊎ (x2 + size r ≤ z) → k ≤ k' → most' ≤ k2 + opened r → Apart k' most' (block_at c z)
  outer z k' most' (inl h) lo hi = narrower k (k + opened (Branch y n r)) k' most' (block_at c z) (f.apart z (inl h)) lo (omega arith)
  outer z k' most' (inr h) lo hi = narrower k (k + opened (Branch y n r)) k' most' (block_at c z) (f.apart z (inr (omega arith))) lo (omega arith)

  at_cond : (z k' most' : ℕ) → z ≡ x → k ≤ k' → Apart k' most' (block_at c z)
  at_cond z k' most' e lo = inl (let w : block_at c z ≡ b = ap (block_at c) e ∙ a.0 in omega arith)

  in_y : (z k' most' : ℕ) → suc x ≤ z → z < x1 → k1 ≤ k' → Apart k' most' (block_at c z)
  in_y z k' most' lo hi far =
      elsewhere k (suc k) (suc k + opened y) k' most' (block_at c z) (labels c y k (suc x) (suc k) a.2 z lo hi) (inl (omega arith)) (inl (omega arith))

  in_n : (z k' most' : ℕ) → x1 ≤ z → z < x2 → (most' ≤ k1) ⊎ (k2 ≤ k') → Apart k' most' (block_at c z)
  in_n z k' most' lo hi (inl s) =
      elsewhere k1 (suc k1) k2 k' most' (block_at c z) (labels c n k1 x1 (suc k1) a.3 z lo hi) (inr (omega arith)) (inr (omega arith))
  in_n z k' most' lo hi (inr s) =
      elsewhere k1 (suc k1) k2 k' most' (block_at c z) (labels c n k1 x1 (suc k1) a.3 z lo hi) (inl (omega arith)) (inl (omega arith))

  in_r : (z k' most' : ℕ) → x2 ≤ z → z < x2 + size r → k ≤ k' → most' ≤ k2 → Apart k' most' (block_at c z)
  in_r z k' most' lo hi far near =
      elsewhere b k2 (k2 + opened r) k' most' (block_at c z) (labels c r b x2 k2 a.4 z lo hi) (inl (omega arith)) (inr (omega arith))

  -- the then block's nodes and those of the blocks in it stand in its lines alone
  out_y : (z : ℕ) → (z < suc x) ⊎ (x1 ≤ z) → Apart k k1 (block_at c z)
  out_y z (inl h) = elim (cases_lt z x) [ inl lt ↦ outer z k k1 (inl lt) (omega arith) (omega arith) | inr le ↦ at_cond z k k1 (omega arith) (omega arith) ]
  out_y z (inr h) =
      elim (cases_lt z x2) [
        | inl lt ↦ in_n z k k1 h lt (inl (omega arith))
        | inr le ↦ elim (cases_lt z (x2 + size r)) [
          | inl lt ↦ in_r z k k1 le lt (omega arith) (omega arith)
          | inr past ↦ outer z k k1 (inr past) (omega arith) (omega arith)
        ]
      ]

  out_n : (z : ℕ) → (z < x1) ⊎ (x2 ≤ z) → Apart k1 k2 (block_at c z)
  out_n z (inl h) =
      elim (cases_lt z x) [
        | inl lt ↦ outer z k1 k2 (inl lt) (omega arith) (omega arith)
        | inr le ↦ elim (cases_lt x z) [ inl lt ↦ in_y z k1 k2 (omega arith) h (omega arith) | inr same ↦ at_cond z k1 k2 (omega arith) (omega arith) ]
      ]
  out_n z (inr h) =
      elim (cases_lt z (x2 + size r)) [
        | inl lt ↦ in_r z k1 k2 h lt (omega arith) (omega arith)
        | inr past ↦ outer z k1 k2 (inr past) (omega arith) (omega arith)
      ]

  out_r : (z : ℕ) → (z < x2) ⊎ (x2 + size r ≤ z) → Apart k2 (k2 + opened r) (block_at c z)
  out_r z (inr h) = outer z k2 (k2 + opened r) (inr h) (omega arith) (omega arith)
  out_r z (inl h) =
      elim (cases_lt z x) [
        | inl lt ↦ outer z k2 (k2 + opened r) (inl lt) (omega arith) (omega arith)
        | inr le ↦ elim (cases_lt x z) [
          | inr same ↦ at_cond z k2 (k2 + opened r) (omega arith) (omega arith)
          | inl lt ↦ elim (cases_lt z x1) [
            | inl in_then ↦ in_y z k2 (k2 + opened r) (omega arith) in_then (omega arith)
            | inr past ↦ in_n z k2 (k2 + opened r) past h (inr (omega arith))
          ]
        ]
      ]

-- a node and what stands behind it
abbrev step : ℕ → Code → ℕ → List Visit
step f c z = AtNode z ∷ branches (visits f c) z (kind_at c z)

plain_branches : (each : ℕ → List Visit) (x : ℕ) (k : Kind) → is_plain k ≡ true → branches each x k ≡ []
plain_branches each x (Cond p y n) e = absurd cc
plain_branches each x k e = refl

passes : (c : Code) (b x : ℕ) (xs : List ℕ) → block_at c x ≡ b → filter (λ z. eqb (block_at c z) b) (x ∷ xs) ≡ x ∷ filter (λ z. eqb (block_at c z) b) xs
passes c b x xs e = ap (λ t. cond t (x ∷ filter (λ z. eqb (block_at c z) b) xs) (filter (λ z. eqb (block_at c z) b) xs)) (eq-eqb (block_at c x) b e)

within_rest : (c : Code) (r : Items) (b x k : ℕ) → block_at c x ≡ b → b < k → IsWithin c (Plain r) x k → IsWithin c r (suc x) k
within_rest c r b x k here low f = record {
  apart = λ z. out z;
  behind = f.behind;
  count = f.count ∙ omega arith;
}
  where
    out : (z : ℕ) → (z < suc x) ⊎ (suc x + size r ≤ z) → Apart k (k + opened r) (block_at c z)
    out z (inr h) = f.apart z (inr (omega arith))
    out z (inl h) =
        elim (cases_lt z x) [
          | inl lt ↦ f.apart z (inl lt)
          | inr le ↦ inl (let e : z ≡ x = omega arith in let w : block_at c z ≡ b = ap (block_at c) e ∙ here in omega arith)
        ]

not_at : (k most d w : ℕ) → Apart k most w → k ≤ d → d < most → w ≡ d → ⊥
not_at k most d w (inl h) lo hi e = omega arith
not_at k most d w (inr h) lo hi e = omega arith

not_outer : (b k most w : ℕ) → Labelled k (suc k) most w → b < k → w ≡ b → ⊥
not_outer b k most w (inl h) low e = omega arith
not_outer b k most w (inr h) low e = omega (arith, h.0)

-- the nodes of a tree in a row, each with what stands behind it
in_row : (f : ℕ) (c : Code) (t : Items) (b x k : ℕ) → Agrees c t b x k → b < k → opened t ≤ f → IsWithin c t x k
    → flat_map (step f c) (filter (λ z. eqb (block_at c z) b) (rising x (size t))) ≡ visits_of t x
in_row f c Done b x k a low deep w = refl
in_row f c (Plain r) b x k a low deep w =
    let first = passes c b x (rising (suc x) (size r)) a.0 in
    let nothing = plain_branches (visits f c) x (kind_at c x) a.1 in
    ap (flat_map (step f c)) first ∙ flat_map-cons (step f c) x (filter (λ z. eqb (block_at c z) b) (rising (suc x) (size r)))
    ∙ ap (λ vs. (AtNode x ∷ vs) ++ flat_map (step f c) (filter (λ z. eqb (block_at c z) b) (rising (suc x) (size r)))) nothing
    ∙ ap (λ vs. AtNode x ∷ vs) (in_row f c r b (suc x) k a.2 low deep (within_rest c r b x k a.0 low w))
in_row zero c (Branch y n r) b x k a low deep w = absurd (omega arith)
in_row (suc f) c (Branch y n r) b x k a low deep w =
    let test : ℕ → Bool = λ z. eqb (block_at c z) b in
    let j = suc k + opened y in
    let m = suc (suc k + opened y) + opened n in
    let u = suc x + size y in
    let v = suc x + size y + size n in
    let all : rising (suc x) (size y + (size n + size r)) ≡ rising (suc x) (size y) ++ (rising u (size n) ++ rising v (size r)) =
    rising-split (suc x) (size y) (size n + size r) ∙ ap (λ xs. rising (suc x) (size y) ++ xs) (rising-split u (size n) (size r)) in
    let none_y : filter test (rising (suc x) (size y)) ≡ [] =
    none_pass test (suc x) (size y) (λ z lo hi. ne_eqb (block_at c z) b (not_outer b k j (block_at c z) (labels c y k (suc x) (suc k) a.2 z lo hi) low)) in
    let none_n : filter test (rising u (size n)) ≡ [] =
    none_pass test u (size n) (λ z lo hi. ne_eqb (block_at c z) b (not_outer b j m (block_at c z) (labels c n j u (suc j) a.3 z lo hi) (omega arith))) in
    let kept : filter test (rising (suc x) (size y + (size n + size r))) ≡ filter test (rising v (size r)) =
    ap (filter test) all ∙ filter-split test (rising (suc x) (size y)) (rising u (size n) ++ rising v (size r))
    ∙ ap (λ xs. xs ++ filter test (rising u (size n) ++ rising v (size r))) none_y
    ∙ filter-split test (rising u (size n)) (rising v (size r)) ∙ ap (λ xs. xs ++ filter test (rising v (size r))) none_n in
    let row_y : nodes_in c k ≡ filter (λ z. eqb (block_at c z) k) (rising (suc x) (size y)) =
    nodes_within c k (suc x) (size y) (size n + (size r + w.behind)) (w.count
    ∙ omega arith) (λ z o. not_at k j k (block_at c z) (out_y c y n r b x k a low w z o) (omega arith) (omega arith)) in
    let row_n : nodes_in c j ≡ filter (λ z. eqb (block_at c z) j) (rising u (size n)) =
    nodes_within c j u (size n) (size r + w.behind) (w.count
    ∙ omega arith) (λ z o. not_at j m j (block_at c z) (out_n c y n r b x k a low w z o) (omega arith) (omega arith)) in
    let in_y : IsWithin c y (suc x) (suc k) = record {
      apart = λ z o. narrower k j (suc k) (suc k + opened y) (block_at c z) (out_y c y n r b x k a low w z o) (omega arith) (omega arith);
      behind = size n + (size r + w.behind);
      count = w.count ∙ omega arith;
    } in
    let in_n : IsWithin c n u (suc j) = record {
      apart = λ z o. narrower j m (suc j) (suc j + opened n) (block_at c z) (out_n c y n r b x k a low w z o) (omega arith) (omega arith);
      behind = size r + w.behind;
      count = w.count ∙ omega arith;
    } in
    let in_r : IsWithin c r v m = record { apart = λ z o. out_r c y n r b x k a low w z o; behind = w.behind; count = w.count ∙ omega arith } in
    let then_part : visits (suc f) c k ≡ visits_of y (suc x) = ap (flat_map (step f c)) row_y
    ∙ in_row f c y k (suc x) (suc k) a.2 (omega arith) (omega arith) in_y in
    let else_part : visits (suc f) c j ≡ visits_of n u = ap (flat_map (step f c)) row_n ∙ in_row f c n j u (suc j) a.3 (omega arith) (omega arith) in_n in
    let rest_part = in_row (suc f) c r b v m a.4 (omega arith) (omega arith) in_r in
    let here : branches (visits (suc f) c) x (kind_at c x) ≡ visits_of y (suc x) ++ (AtElse x ∷ visits_of n u ++ AtEnd x ∷ []) =
    ap (branches (visits (suc f) c) x) (a.1).1 ∙ ap (λ vs. vs ++ (AtElse x ∷ visits (suc f) c j ++ AtEnd x ∷ [])) then_part
    ∙ ap (λ vs. visits_of y (suc x) ++ (AtElse x ∷ vs ++ AtEnd x ∷ [])) else_part in
    ap (flat_map (step (suc f) c)) (passes c b x (rising (suc x) (size y + (size n + size r))) a.0 ∙ ap (λ xs. x ∷ xs) kept)
    ∙ flat_map-cons (step (suc f) c) x (filter test (rising v (size r)))
    ∙ ap (λ vs. (AtNode x ∷ vs) ++ flat_map (step (suc f) c) (filter test (rising v (size r)))) here
    ∙ ap (λ vs. (AtNode x ∷ (visits_of y (suc x) ++ (AtElse x ∷ visits_of n u ++ AtEnd x ∷ []))) ++ vs) rest_part

-- a code that agrees with a tree, and has no more nodes, is visited as the tree is
pub visits-is : (f : ℕ) (c : Code) (t : Items) → Agrees c t 0 0 1 → length c.nodes ≡ size t → opened t ≤ f → ((z : ℕ) → size t ≤ z → block_at c z ≡ 0)
    → visits (suc f) c 0 ≡ visits_of t 0
visits-is f c t a all deep none =
    let zero_n : 0 + size t ≡ size t = omega arith in
    let w : IsWithin c t 0 1 = record { apart = λ z o. inl (outside_all z o); behind = 0; count = all ∙ omega arith } in
    ap (λ xs. flat_map (step f c) (filter (λ z. eqb (block_at c z) 0) xs)) (below-rising (length c.nodes) ∙ ap (rising 0) all)
    ∙ in_row f c t 0 0 1 a (omega arith) deep w
  where
    outside_all : (z : ℕ) → (z < 0) ⊎ (0 + size t ≤ z) → block_at c z < 1
    outside_all z (inl h) = absurd (omega arith)
    outside_all z (inr h) = let e = none z (omega arith) in omega arith
