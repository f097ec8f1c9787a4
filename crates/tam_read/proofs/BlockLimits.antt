-- The blocks of a code that is read: none stands too deep, and none has too many vertices.
use Rattle.std.proofs.Common.{◌≡◌, ◌≢◌, ℕ, zero, suc, ◌+◌, ◌<◌, ◌≤◌, Bool, true, false, ◌==◌, nat_lt, List, [], ◌∷◌, ◌++◌, length, filter, Option, Some, None}
use Rattle.std.proofs.Common.{refl, sym, ap, ap₂, subst, ◌∙◌, true≢false, append_assoc, arith, inl, inr, ◌⊎◌, ⊎_elim}
use Rattle.std.specs.Prelude.{slice_get, sum_by}
use Rattle.std.proofs.lemmas.List.{append-nil, length-append}
use Rattle.std.proofs.lemmas.List.Sums.{sum_by-cons}
use Rattle.std.proofs.lemmas.Bool.{cases_lt}
use Rattle.tam_word.specs.Lists.{all_of, below}
use Rattle.tam_word.proofs.Members.{In, in-all, in-below}
use Rattle.tam_word.proofs.Tests.{number-eq, number-differs, eq-number, differs-number, below-test}
use Rattle.tam_graph.specs.declared.kind.Kind.{Kind}
use Rattle.tam_graph.specs.Graphs.{Code, kind_at, block_at, or_kind, or_block, owner_of, one_or_none, is_split, nodes_in, node_numbers, blocks_of}
use Rattle.tam_graph.specs.Written.{depth_of_block, vertices_at, number_of_vertices}
use Rattle.tam_graph.proofs.Visited.{size, opened}
use Rattle.tam_read.specs.declared.form.Verb.{Verb}
use Rattle.tam_read.specs.declared.form.Verb.TheVariants as verb
use Rattle.tam_read.specs.Sentences.{Sentence, vertices_of}
use Rattle.tam_read.specs.Faults.{vertices}
use Rattle.tam_read.specs.Naming.{Known}
use Rattle.tam_read.specs.Building.{kind_made}
use Rattle.tam_read.proofs.Nested.{Tree, Done, Plain, Branch, flat, Fits, is_plain_verb}
use Rattle.tam_read.proofs.TreeBuilt.{shape, tree_owners, length-tree_owners}
use Rattle.tam_read.proofs.TreeVisited.{Holds, in_row, below-row}
use Rattle.tam_read.proofs.BlocksInOrder.{IsOfTree, stands, few-blocks, few-nodes}
use Rattle.tam_read.proofs.Bounded.{Bounded}

-- ---- how deep a block stands

-- the owners of the tree's blocks stand at their numbers
abbrev pub Owned : Code → Tree → ℕ → ℕ → Type 0
Owned c Done x k = Unit {0}
Owned c (Plain s r) x k = Owned c r (suc x) k
Owned c (Branch s y t n e r) x k =
    (slice_get c.owners k ≡ Some (Some x)) × Owned c y (suc x) (suc k) × (slice_get c.owners (suc k + opened (shape y)) ≡ Some (Some x))
    × Owned c n (suc x + size (shape y)) (suc (suc k + opened (shape y)))
    × Owned c r (suc x + size (shape y) + size (shape n)) (suc (suc k + opened (shape y)) + opened (shape n))

-- an owner behind others stands at their number
at_prefix : (prefix : List (Option ℕ)) (o : Option ℕ) (back : List (Option ℕ)) → slice_get (prefix ++ o ∷ back) (length prefix) ≡ Some o
at_prefix [] o back = refl
at_prefix (f ∷ fs) o back = at_prefix fs o back

-- so does one in a row of owners
owner_at : (c : Code) (k : ℕ) (prefix : List (Option ℕ)) (o : Option ℕ) (back : List (Option ℕ)) → c.owners ≡ prefix ++ o ∷ back → length prefix ≡ k
    → slice_get c.owners k ≡ Some o
owner_at c k prefix o back e l = ap (λ os. slice_get os k) e ∙ ap (slice_get (prefix ++ o ∷ back)) (sym l) ∙ at_prefix prefix o back

-- a row with one more is longer by one
longer : (prefix : List (Option ℕ)) (o : Option ℕ) (k : ℕ) → length prefix ≡ k → length (prefix ++ o ∷ []) ≡ suc k
longer prefix o k l = length-append prefix (o ∷ []) ∙ omega arith

-- the owners in a row stand at the numbers of the tree's blocks
pub owns : (c : Code) (t : Tree) (x k : ℕ) (prefix back : List (Option ℕ)) → c.owners ≡ prefix ++ (tree_owners t x ++ back) → length prefix ≡ k → Owned c t x k
owns c Done x k prefix back e l = tt
owns c (Plain s r) x k prefix back e l = owns c r (suc x) k prefix back e l
owns c (Branch s y t n e r) x k prefix back same l =
    let j = suc k + opened (shape y) in
    let m = suc j + opened (shape n) in
    let u = suc x + size (shape y) in
    let v = suc x + size (shape y) + size (shape n) in
    let ys = tree_owners y (suc x) in
    let ns = tree_owners n u in
    let rs = tree_owners r v in
    let f1 = prefix ++ Some x ∷ [] in
    let f2 = f1 ++ ys in
    let f3 = f2 ++ Some x ∷ [] in
    let f4 = f3 ++ ns in
    let l1 : length f1 ≡ suc k = longer prefix (Some x) k l in
    let l2 : length f2 ≡ j = length-append f1 ys ∙ omega (arith, l1, length-tree_owners y (suc x)) in
    let l3 : length f3 ≡ suc j = longer f2 (Some x) j l2 in
    let l4 : length f4 ≡ m = length-append f3 ns ∙ omega (arith, l3, length-tree_owners n u) in
    let e0 : (ys ++ (Some x ∷ (ns ++ rs))) ++ back ≡ ys ++ (Some x ∷ (ns ++ (rs ++ back))) = append_assoc ys (Some x ∷ (ns ++ rs)) back
    ∙ ap (λ z. ys ++ (Some x ∷ z)) (append_assoc ns rs back) in
    let e1 : c.owners ≡ f1 ++ (ys ++ (Some x ∷ (ns ++ (rs ++ back)))) = same ∙ ap (λ z. prefix ++ (Some x ∷ z)) e0
    ∙ sym (append_assoc prefix (Some x ∷ []) (ys ++ (Some x ∷ (ns ++ (rs ++ back))))) in
    let e2 : c.owners ≡ f2 ++ (Some x ∷ (ns ++ (rs ++ back))) = e1 ∙ sym (append_assoc f1 ys (Some x ∷ (ns ++ (rs ++ back)))) in
    let e3 : c.owners ≡ f3 ++ (ns ++ (rs ++ back)) = e2 ∙ sym (append_assoc f2 (Some x ∷ []) (ns ++ (rs ++ back))) in
    let e4 : c.owners ≡ f4 ++ (rs ++ back) = e3 ∙ sym (append_assoc f3 ns (rs ++ back)) in (
      owner_at c k prefix (Some x) ((ys ++ (Some x ∷ (ns ++ rs))) ++ back) same l,
      owns c y (suc x) (suc k) f1 (Some x ∷ (ns ++ (rs ++ back))) e1 l1,
      owner_at c j f2 (Some x) (ns ++ (rs ++ back)) e2 l2,
      owns c n u (suc j) f3 (rs ++ back) e3 l3,
      owns c r v m f4 back e4 l4,
    )

-- the block stands in at most h others, as far as one looks
abbrev pub IsWithin : Code → ℕ → ℕ → Type 0
IsWithin c b h = (f : ℕ) → depth_of_block f c b ≤ h

-- a branch stands in one block more than its cond
deeper : (c : Code) (b d x h : ℕ) → IsWithin c b h → slice_get c.owners d ≡ Some (Some x) → block_at c x ≡ b → IsWithin c d (suc h)
deeper c b d x h w o e zero = omega arith
deeper c b d x h w o e (suc f) = let own : owner_of c d ≡ x ∷ [] = ap one_or_none o in rw (depth_of_block, own, e) (let k = w f in omega arith)

-- the blocks of a tree stand in at most 16
pub tree-shallow : (c : Code) (q : Known) (t : Tree) (b x k h v : ℕ) → Holds c q t b x k → Owned c t x k → Bounded t h v → IsWithin c b h → (d : ℕ) → k ≤ d
    → d < k + opened (shape t) → IsWithin c d 16
tree-shallow c q Done b x k h v s o bound w d lo hi = absurd (omega arith)
tree-shallow c q (Plain l r) b x k h v s o bound w d lo hi = tree-shallow c q r b (suc x) k h (vertices_of l.verb + v) s.1 o bound.1 w d lo hi
tree-shallow c q (Branch l y t n e r) b x k h v s o bound w d lo hi =
    let j = suc k + opened (shape y) in
    let m = suc j + opened (shape n) in
    let in_b : block_at c x ≡ b = ap or_block s.0 in
    let then_in : IsWithin c k (suc h) = deeper c b k x h w o.0 in_b in
    let else_in : IsWithin c j (suc h) = deeper c b j x h w o.2 in_b in
    let most : suc h ≤ 16 = bound.1 in
    let looser : (z : ℕ) → IsWithin c z (suc h) → IsWithin c z 16 = λ z i f. let g = i f in omega arith in
    ⊎_elim
    (λ (p : d < suc k). let is : d ≡ k = omega arith in subst (λ z. IsWithin c z 16) (sym is) (looser k then_in))
    (λ (p : suc k ≤ d). ⊎_elim
    (λ (a : d < j). tree-shallow c q y k (suc x) (suc k) (suc h) 0 s.1 o.1 bound.2 then_in d p a)
    (λ (a : j ≤ d). ⊎_elim
    (λ (z : d < suc j). let is : d ≡ j = omega arith in subst (λ z. IsWithin c z 16) (sym is) (looser j else_in))
    (λ (z : suc j ≤ d). ⊎_elim
    (λ (i : d < m). tree-shallow c q n j (suc x + size (shape y)) (suc j) (suc h) 0 s.2 o.3 bound.3 else_in d z i)
    (λ (i : m ≤ d). tree-shallow c q r b (suc x + size (shape y) + size (shape n)) m h (1 + v) s.3 o.4 bound.4 w d i (omega arith))
    (cases_lt d m))
    (cases_lt d (suc j)))
    (cases_lt d j))
    (cases_lt d (suc k))

-- ---- vertices

-- a sum over numbers
abbrev pub total : (ℕ → ℕ) → List ℕ → ℕ
total f [] = 0
total f (x ∷ xs) = f x + total f xs

-- the sum is the total
pub total-sum : (f : ℕ → ℕ) (xs : List ℕ) → sum_by f xs ≡ total f xs
total-sum f [] = refl
total-sum f (x ∷ xs) = sum_by-cons f x xs ∙ ap (λ n. f x + n) (total-sum f xs)

-- a number where a test holds, or 0
abbrev pub where_true : Bool → ℕ → ℕ
where_true true v = v
where_true false v = 0

-- the total of those that pass is that of all, each counted where it passes
total-filter : (f : ℕ → ℕ) (test : ℕ → Bool) (xs : List ℕ) → total f (filter test xs) ≡ total (λ x. where_true (test x) (f x)) xs
total-filter f test [] = refl
total-filter f test (x ∷ xs) = go (test x) refl (total-filter f test xs)
  where
    go : (b : Bool) → test x ≡ b → total f (filter test xs) ≡ total (λ x. where_true (test x) (f x)) xs
        → total f (filter test (x ∷ xs)) ≡ where_true (test x) (f x) + total (λ x. where_true (test x) (f x)) xs
    go true e i = rw (filter, e) (ap (λ n. f x + n) i)
    go false e i = rw (filter, e) (i ∙ omega arith)

-- the total of a row is that of its two parts
pub total-split : (f : ℕ → ℕ) (x m n : ℕ) → total f (in_row x (m + n)) ≡ total f (in_row x m) + total f (in_row (x + m) n)
total-split f x zero n = let a : 0 + n ≡ n = omega arith in let b : x + 0 ≡ x = omega arith in rw (a, b) (omega arith)
total-split f x (suc m) n =
    let a : suc m + n ≡ suc (m + n) = omega arith in
    let b : x + suc m ≡ suc x + m = omega arith in
    rw (a, b) (let i = total-split f (suc x) m n in omega arith)

-- the vertices of block d in a tree whose block is b, where k is the next block
abbrev pub counted : ℕ → Tree → ℕ → ℕ → ℕ
counted d Done b k = 0
counted d (Plain s r) b k = where_true (b == d) (vertices_of s.verb) + counted d r b k
counted d (Branch s y t n e r) b k =
    where_true (b == d) 1 + (counted d y k (suc k) + (counted d n (suc k + opened (shape y)) (suc (suc k + opened (shape y))) + counted d r b
    (suc (suc k + opened (shape y)) + opened (shape n))))

-- a plain verb's kind has the verb's vertices
vertices-made : (v : Verb) (x y z n : ℕ) → is_plain_verb v ≡ true → (elim (is_split (kind_made v x y z n)) [ true ↦ 2 | false ↦ 1 ]) ≡ vertices_of v
vertices-made verb.Code x y z n e = absurd (true≢false (sym e))
vertices-made verb.Cond x y z n e = absurd (true≢false (sym e))
vertices-made verb.Else x y z n e = absurd (true≢false (sym e))
vertices-made verb.End x y z n e = absurd (true≢false (sym e))
vertices-made v x y z n e = refl

-- what a node adds to block d
abbrev added : Code → ℕ → ℕ → ℕ
added c d x = where_true (block_at c x == d) (vertices_at c x)

-- the vertices of block d among a tree's nodes
pub tree-counted : (c : Code) (q : Known) (d : ℕ) (t : Tree) (b x k : ℕ) → Fits t → Holds c q t b x k
    → total (λ x. where_true (block_at c x == d) (vertices_at c x)) (in_row x (size (shape t))) ≡ counted d t b k
tree-counted c q d Done b x k f h = refl
tree-counted c q d (Plain s r) b x k f h =
    let block : block_at c x ≡ b = ap or_block h.0 in
    let many : vertices_at c x ≡ vertices_of s.verb = ap (λ o. elim (is_split (or_kind o)) [ true ↦ 2 | false ↦ 1 ]) h.0 ∙ vertices-made s.verb _ _ _ 0 f.0 in
    ap₂ (λ a v. where_true (a == d) v + total (λ x. where_true (block_at c x == d) (vertices_at c x)) (in_row (suc x) (size (shape r)))) block many
    ∙ ap (λ n. where_true (b == d) (vertices_of s.verb) + n) (tree-counted c q d r b (suc x) k f.1 h.1)
tree-counted c q d (Branch s y t n e r) b x k f h =
    let g : ℕ → ℕ = λ x. where_true (block_at c x == d) (vertices_at c x) in
    let j = suc k + opened (shape y) in
    let m = suc j + opened (shape n) in
    let u = suc x + size (shape y) in
    let v = suc x + size (shape y) + size (shape n) in
    let block : block_at c x ≡ b = ap or_block h.0 in
    let many : vertices_at c x ≡ 1 = ap (λ o. elim (is_split (or_kind o)) [ true ↦ 2 | false ↦ 1 ]) h.0 in
    let split = total-split g (suc x) (size (shape y)) (size (shape n) + size (shape r))
    ∙ ap (λ z. total g (in_row (suc x) (size (shape y))) + z) (total-split g u (size (shape n)) (size (shape r))) in
    ap₂ (λ a w. where_true (a == d) w + total g (in_row (suc x) (size (shape y) + (size (shape n) + size (shape r))))) block many
    ∙ ap (λ z. where_true (b == d) 1 + z) (split ∙ ap₂ (λ a z. a + z) (tree-counted c q d y k (suc x) (suc k) f.1 h.1)
    (ap₂ (λ a z. a + z) (tree-counted c q d n j u (suc j) f.3 h.2) (tree-counted c q d r b v m f.5 h.3)))

-- no vertex of a tree stands in other blocks than its own
elsewhere : (d : ℕ) (t : Tree) (b k : ℕ) → (b == d) ≡ false → (d < k) ⊎ (k + opened (shape t) ≤ d) → counted d t b k ≡ 0
elsewhere d Done b k no_b out = refl
elsewhere d (Plain s r) b k no_b out = let i = elsewhere d r b k no_b out in rw (counted, no_b) (omega (arith, i))
elsewhere d (Branch s y t n e r) b k no_b out =
    let j = suc k + opened (shape y) in
    let m = suc j + opened (shape n) in
    let no_k : (k == d) ≡ false = differs-number k d (⊎_elim (λ p. λ same. omega arith) (λ p. λ same. omega arith) out) in
    let no_j : (j == d) ≡ false = differs-number j d (⊎_elim (λ p. λ same. omega arith) (λ p. λ same. omega arith) out) in
    let a = elsewhere d y k (suc k) no_k (⊎_elim (λ p. inl (omega arith)) (λ p. inr (omega arith)) out) in
    let b2 = elsewhere d n j (suc j) no_j (⊎_elim (λ p. inl (omega arith)) (λ p. inr (omega arith)) out) in
    let c = elsewhere d r b m no_b (⊎_elim (λ p. inl (omega arith)) (λ p. inr (omega arith)) out) in
    rw (counted, no_b) (omega (arith, a, b2, c))

-- its own block has few
own-few : (b : ℕ) (t : Tree) (k h v : ℕ) → b < k → v ≤ 128 → Bounded t h v → counted b t b k + v ≤ 128
own-few b Done k h v lt few bound = omega arith
own-few b (Plain s r) k h v lt few bound =
    let same : (b == b) ≡ true = eq-number b b refl in
    let i = own-few b r k h (vertices_of s.verb + v) lt bound.0 bound.1 in
    rw (counted, same) (omega (arith, i))
own-few b (Branch s y t n e r) k h v lt few bound =
    let j = suc k + opened (shape y) in
    let m = suc j + opened (shape n) in
    let same : (b == b) ≡ true = eq-number b b refl in
    let a = elsewhere b y k (suc k) (differs-number k b (λ e. omega arith)) (inl (omega arith)) in
    let d = elsewhere b n j (suc j) (differs-number j b (λ e. omega arith)) (inl (omega arith)) in
    let i = own-few b r m h (1 + v) (omega arith) bound.0 bound.4 in
    rw (counted, same) (omega (arith, a, d, i))

-- and so has each block that it opens
pub inner-few : (d : ℕ) (t : Tree) (b k h v : ℕ) → b < k → Bounded t h v → k ≤ d → d < k + opened (shape t) → counted d t b k ≤ 128
inner-few d Done b k h v lt bound lo hi = absurd (omega arith)
inner-few d (Plain s r) b k h v lt bound lo hi =
    let no_b : (b == d) ≡ false = differs-number b d (λ e. omega arith) in
    let i = inner-few d r b k h (vertices_of s.verb + v) lt bound.1 lo hi in
    rw (counted, no_b) (omega (arith, i))
inner-few d (Branch s y t n e r) b k h v lt bound lo hi =
    let j = suc k + opened (shape y) in
    let m = suc j + opened (shape n) in
    let no_b : (b == d) ≡ false = differs-number b d (λ e. omega arith) in
    let in_y : d < j → counted d y k (suc k) ≤ 128 =
    λ p. ⊎_elim (λ (z : d < suc k). let is : k ≡ d = omega arith in subst (λ w. counted w y k (suc k) ≤ 128) is
    (let i = own-few k y (suc k) (suc h) 0 (omega arith) (omega arith) bound.2 in omega arith))
    (λ (z : suc k ≤ d). inner-few d y k (suc k) (suc h) 0 (omega arith) bound.2 z p) (cases_lt d (suc k)) in
    let in_n : j ≤ d → d < m → counted d n j (suc j) ≤ 128 =
    λ p o. ⊎_elim (λ (z : d < suc j). let is : j ≡ d = omega arith in subst (λ w. counted w n j (suc j) ≤ 128) is
    (let i = own-few j n (suc j) (suc h) 0 (omega arith) (omega arith) bound.3 in omega arith))
    (λ (z : suc j ≤ d). inner-few d n j (suc j) (suc h) 0 (omega arith) bound.3 z o) (cases_lt d (suc j)) in
    let off_y : j ≤ d → counted d y k (suc k) ≡ 0 = λ p. elsewhere d y k (suc k) (differs-number k d (λ e. omega arith)) (inr (omega arith)) in
    let off_n : (d < j) ⊎ (m ≤ d) → counted d n j (suc j) ≡ 0 =
    λ p. elsewhere d n j (suc j) (differs-number j d (λ e. ⊎_elim (λ w. omega arith) (λ w. omega arith) p))
    (⊎_elim (λ w. inl (omega arith)) (λ w. inr (omega arith)) p) in
    let off_r : d < m → counted d r b m ≡ 0 = λ p. elsewhere d r b m no_b (inl p) in
    rw (counted, no_b)
    (⊎_elim
    (λ (p : d < j). let a = in_y p in let z = off_n (inl p) in let w = off_r (omega arith) in omega arith)
    (λ (p : j ≤ d). ⊎_elim
    (λ (o : d < m). let a = off_y p in let z = in_n p o in let w = off_r o in omega arith)
    (λ (o : m ≤ d). let a = off_y p in let z = off_n (inr o) in let w = inner-few d r b m h (1 + v) (omega arith) bound.4 o (omega arith) in omega arith)
    (cases_lt d m))
    (cases_lt d j))

-- block 0 too
pub outer-few : (t : Tree) (h : ℕ) → Bounded t h 0 → counted 0 t 0 1 ≤ 128
outer-few t h bound = let i = own-few 0 t 1 h 0 (omega arith) (omega arith) bound in omega arith

-- ---- all blocks together

-- a number before a row isn't in it
pub total-none : (b v n m : ℕ) → b < n → total (λ d. where_true (b == d) v) (in_row n m) ≡ 0
total-none b v n zero lt = refl
total-none b v n (suc m) lt =
    let off : (b == n) ≡ false = differs-number b n (λ e. omega arith) in
    let i = total-none b v (suc n) m (omega arith) in
    rw (total, off) (omega (arith, i))

-- a number is in a row at most once
total-once : (b v n m : ℕ) → total (λ d. where_true (b == d) v) (in_row n m) ≤ v
total-once b v n zero = omega arith
total-once b v n (suc m) = go (b == n) refl (total-once b v (suc n) m)
  where
    go : (t : Bool) → (b == n) ≡ t → total (λ d. where_true (b == d) v) (in_row (suc n) m) ≤ v
        → where_true (b == n) v + total (λ d. where_true (b == d) v) (in_row (suc n) m) ≤ v
    go false e i = rw e (omega (arith, i))
    go true e i = let is : b ≡ n = number-eq b n e in let z = total-none b v (suc n) m (omega arith) in rw e (omega (arith, z))

-- the total of sums is the sum of totals
pub total-both : (f g : ℕ → ℕ) (xs : List ℕ) → total (λ d. f d + g d) xs ≡ total f xs + total g xs
total-both f g [] = refl
total-both f g (x ∷ xs) = let i = total-both f g xs in omega (arith, i)

-- the vertices of lines one behind the other
pub vertices-append : (xs ys : List Sentence) → vertices (xs ++ ys) ≡ vertices xs + vertices ys
vertices-append [] ys = omega arith
vertices-append (x ∷ xs) ys = let i = vertices-append xs ys in omega (arith, i)

-- the vertices of all blocks are those of the lines
pub blocks-few : (n : ℕ) (t : Tree) (b k : ℕ) → Fits t → total (λ d. counted d t b k) (in_row 0 n) ≤ vertices (flat t)
blocks-few n Done b k f = zeros (in_row 0 n)
  where
    zeros : (xs : List ℕ) → total (λ d. 0) xs ≤ 0
    zeros [] = omega arith
    zeros (x ∷ xs) = let i = zeros xs in omega arith
blocks-few n (Plain s r) b k f =
    let a = total-both (λ d. where_true (b == d) (vertices_of s.verb)) (λ d. counted d r b k) (in_row 0 n) in
    let o = total-once b (vertices_of s.verb) 0 n in
    let i = blocks-few n r b k f.1 in
    omega (arith, a, o, i)
blocks-few n (Branch s y t o e r) b k f =
    let j = suc k + opened (shape y) in
    let m = suc j + opened (shape o) in
    let xs = in_row 0 n in
    let a1 = total-both (λ d. where_true (b == d) 1) (λ d. counted d y k (suc k) + (counted d o j (suc j) + counted d r b m)) xs in
    let a2 = total-both (λ d. counted d y k (suc k)) (λ d. counted d o j (suc j) + counted d r b m) xs in
    let a3 = total-both (λ d. counted d o j (suc j)) (λ d. counted d r b m) xs in
    let once = total-once b 1 0 n in
    let one : vertices_of s.verb ≡ 1 = ap vertices_of f.0 in
    let none_t : vertices_of t.verb ≡ 0 = ap vertices_of f.2 in
    let none_e : vertices_of e.verb ≡ 0 = ap vertices_of f.4 in
    let v1 = vertices-append (flat y) (t ∷ (flat o ++ (e ∷ flat r))) in
    let v2 = vertices-append (flat o) (e ∷ flat r) in
    let iy = blocks-few n y k (suc k) f.1 in
    let io = blocks-few n o j (suc j) f.3 in
    let ir = blocks-few n r b m f.5 in
    omega (arith, a1, a2, a3, once, one, none_t, none_e, v1, v2, iy, io, ir)

-- ---- a code of a tree

module _ (q : Known) (t : Tree) (c : Code) (of : IsOfTree q t c) where
  -- a block's vertices are those of its lines
  pub vertices-are : (d : ℕ) → number_of_vertices c d ≡ counted d t 0 1
  vertices-are d =
      total-sum (vertices_at c) (nodes_in c d) ∙ total-filter (vertices_at c) (λ x. block_at c x == d) (node_numbers c)
      ∙ ap (total (λ x. where_true (block_at c x == d) (vertices_at c x))) (below-row (length c.nodes) ∙ ap (in_row 0) (few-nodes q t c of))
      ∙ tree-counted c q d t 0 0 1 of.fits (stands q t c of)

module _ (q : Known) (t : Tree) (c : Code) (of : IsOfTree q t c) (bound : Bounded t 0 0) where
  -- no block has more vertices than a text may give it
  pub blocks-small : (n : ℕ) → 128 < n → all_of (λ b. nat_lt (number_of_vertices c b) n) (blocks_of c) ≡ true
  blocks-small n above = in-all (λ b. nat_lt (number_of_vertices c b) n) (blocks_of c) (λ d i.
      let within : d < length c.owners = in-below d (length c.owners) i in
      let many : number_of_vertices c d ≡ counted d t 0 1 = vertices-are q t c of d in
      let blocks = few-blocks q t c of in
      let few : counted d t 0 1 ≤ 128 = ⊎_elim
      (λ (z : d < 1). let is : 0 ≡ d = omega arith in subst (λ w. counted w t 0 1 ≤ 128) is (outer-few t 0 bound))
      (λ (z : 1 ≤ d). inner-few d t 0 1 0 0 (omega arith) bound z (omega arith)) (cases_lt d 1) in
      below-test (number_of_vertices c d) n (omega arith))

  pub code-small : vertices (flat t) ≤ 1024 → nat_lt (sum_by (number_of_vertices c) (blocks_of c)) 1025 ≡ true
  code-small few =
      let s : sum_by (number_of_vertices c) (blocks_of c) ≡ total (number_of_vertices c) (in_row 0 (length c.owners)) =
      total-sum (number_of_vertices c) (blocks_of c) ∙ ap (total (number_of_vertices c)) (below-row (length c.owners)) in
      let same : total (number_of_vertices c) (in_row 0 (length c.owners))
      ≡ total (λ d. counted d t 0 1) (in_row 0 (length c.owners)) = alike (in_row 0 (length c.owners)) in
      let most = blocks-few (length c.owners) t 0 1 of.fits in
      below-test (sum_by (number_of_vertices c) (blocks_of c)) 1025 (omega (arith, s, same, most))
    where
      alike : (xs : List ℕ) → total (number_of_vertices c) xs ≡ total (λ d. counted d t 0 1) xs
      alike [] = refl
      alike (x ∷ xs) = ap₂ (λ a b. a + b) (vertices-are q t c of x) (alike xs)

  pub blocks-shallow : all_of (λ b. nat_lt (depth_of_block (length c.owners) c b) 17) (blocks_of c) ≡ true
  blocks-shallow = in-all (λ b. nat_lt (depth_of_block (length c.owners) c b) 17) (blocks_of c) (λ d i.
      let within : d < length c.owners = in-below d (length c.owners) i in
      let blocks = few-blocks q t c of in
      let owned : Owned c t 0 1 = owns c t 0 1 (None ∷ []) [] (of.owners ∙ ap (λ os. None ∷ os) (sym (append-nil (tree_owners t 0)))) refl in
      let first : slice_get c.owners 0 ≡ Some None = ap (λ os. slice_get os 0) of.owners in
      let outer : IsWithin c 0 0 = top first in
      let deep : IsWithin c d 16 = ⊎_elim
      (λ (z : d < 1). let is : 0 ≡ d = omega arith in subst (λ w. IsWithin c w 16) is (λ f. let g = outer f in omega arith))
      (λ (z : 1 ≤ d). tree-shallow c q t 0 0 1 0 0 (stands q t c of) owned bound outer d z (omega arith)) (cases_lt d 1) in
      let few = deep (length c.owners) in
      below-test (depth_of_block (length c.owners) c d) 17 (omega arith))
    where
      top : slice_get c.owners 0 ≡ Some None → IsWithin c 0 0
      top e zero = omega arith
      top e (suc f) = let own : owner_of c 0 ≡ [] = ap one_or_none e in rw (depth_of_block, own) (omega arith)
