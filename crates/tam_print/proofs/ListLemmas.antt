-- Lists at places: one more list behind, one list longer; and the nodes of each block, one node after the other.
use Rattle.std.proofs.Common.{◌≤◌, ◌+◌, flat_map, drop, get_or, append_assoc, add-one, ◌≡◌, ◌≢◌, ◌∙◌, ℕ, zero, suc, ◌<◌, ◌==◌, Bool, true, false, List, []}
use Rattle.std.proofs.Common.{◌∷◌, ◌++◌, length, filter, slice_set, refl, sym, ap, arith}
use Rattle.std.specs.Prelude.{Some, slice_get}
use Rattle.std.specs.declared.vec.Vec.{Vec}
use Rattle.std.specs.declared.alloc.Global.{Global}
use Rattle.std.proofs.Math.Seq.{drop-cons}
use Rattle.std.proofs.lemmas.List.{append-nil, drop_all}
use Rattle.std.proofs.lemmas.Option.{slice_get-get_or}
use Rattle.tam_word.specs.Lists.{where_so, below}
use Rattle.tam_word.proofs.Tests.{number-eq, number-differs}
use Rattle.tam_word.proofs.Members.{get-in, in-filter, in-below}
use Rattle.tam_graph.specs.declared.node.Node.{Node}
use Rattle.tam_graph.specs.Graphs.{Code, block_at, or_block, nodes_in, node_numbers}
use Rattle.tam_print.specs.BlockLists.{listed, AreBlocks}

-- an empty list behind the others
pub listed-longer : (lists : List (Vec ℕ Global)) (v : Vec ℕ Global) → v.items ≡ [] → (z : ℕ) → listed (lists ++ v ∷ []) z ≡ listed lists z
listed-longer [] v none zero = none
listed-longer [] v none (suc z) = refl
listed-longer (u ∷ us) v none zero = refl
listed-longer (u ∷ us) v none (suc z) = listed-longer us v none z

-- a list that was set
listed-set_here : (lists : List (Vec ℕ Global)) (p : ℕ) (v : Vec ℕ Global) → p < length lists → listed (slice_set lists p v) p ≡ v.items
listed-set_here [] p v inside = absurd (omega arith)
listed-set_here (u ∷ us) zero v inside = refl
listed-set_here (u ∷ us) (suc p) v inside = listed-set_here us p v (omega arith)

-- the others
listed-set_other : (lists : List (Vec ℕ Global)) (p z : ℕ) (v : Vec ℕ Global) → p ≢ z → listed (slice_set lists p v) z ≡ listed lists z
listed-set_other [] p z v other = refl
listed-set_other (u ∷ us) zero zero v other = absurd (other refl)
listed-set_other (u ∷ us) zero (suc z) v other = refl
listed-set_other (u ∷ us) (suc p) zero v other = refl
listed-set_other (u ∷ us) (suc p) (suc z) v other = listed-set_other us p z v (λ e. other (ap suc e))

-- a number behind one of the lists
pub listed-added : (lists : List (Vec ℕ Global)) (p x : ℕ) (v : Vec ℕ Global) → p < length lists → v.items ≡ listed lists p ++ x ∷ []
    → (z : ℕ) → listed (slice_set lists p v) z ≡ listed lists z ++ where_so (p == z) x
listed-added lists p x v inside longer z = go (p == z) refl
  where
    go : (b : Bool) → (p == z) ≡ b → listed (slice_set lists p v) z ≡ listed lists z ++ where_so b x
    go true e = rw (← number-eq p z e) (listed-set_here lists p v inside ∙ longer)
    go false e = listed-set_other lists p z v (number-differs p z e) ∙ sym (append-nil (listed lists z))

-- a list with one more behind, sifted
filter-last : (test : ℕ → Bool) (xs : List ℕ) (x : ℕ) → filter test (xs ++ x ∷ []) ≡ filter test xs ++ where_so (test x) x
filter-last test [] x = go (test x) refl
  where
    go : (b : Bool) → test x ≡ b → filter test (x ∷ []) ≡ where_so b x
    go true e = rw (filter, e) refl
    go false e = rw (filter, e) refl
filter-last test (y ∷ ys) x = go (test y) refl (filter-last test ys x)
  where
    go : (b : Bool) → test y ≡ b → filter test (ys ++ x ∷ []) ≡ filter test ys ++ where_so (test x) x
        → filter test (y ∷ (ys ++ x ∷ [])) ≡ filter test (y ∷ ys) ++ where_so (test x) x
    go true e i = rw (filter, e) (ap (λ l. y ∷ l) i)
    go false e i = rw (filter, e) i

-- the lists of the nodes below n
abbrev pub AreBelow : Code → List (Vec ℕ Global) → ℕ → Type 0
AreBelow c lists n = (b : ℕ) → listed lists b ≡ filter (λ x. block_at c x == b) (below n)

-- the next node behind the list of its block
pub below-next : (c : Code) (old new : List (Vec ℕ Global)) (n : ℕ) (node : Node) → slice_get c.nodes n ≡ Some node → AreBelow c old n
    → ((b : ℕ) → listed new b ≡ listed old b ++ where_so (node.block == b) n) → AreBelow c new (suc n)
below-next c old new n node there lists added b =
    let block : block_at c n ≡ node.block = ap or_block there in
    added b ∙ ap (λ l. l ++ where_so (node.block == b) n) (lists b)
    ∙ ap (λ k. filter (λ x. block_at c x == b) (below n) ++ where_so (k == b) n) (sym block)
    ∙ sym (filter-last (λ x. block_at c x == b) (below n) n)

-- a node of a block is one of the code
pub listed-there : (c : Code) (blocks : List (Vec ℕ Global)) → AreBlocks c blocks → (b : ℕ) (list : List ℕ) → list ≡ listed blocks b → (i : ℕ)
    → i < length list → get_or list i 0 < length c.nodes
listed-there c blocks are b list is i l =
    let at : slice_get (nodes_in c b) i ≡ Some (get_or list i 0) = ap (λ (l : List ℕ). slice_get l i) (sym (is ∙ are b)) ∙ slice_get-get_or list i 0 l in
    in-below (get_or list i 0) (length c.nodes)
    (in-filter (λ x. block_at c x == b) (get_or list i 0) (node_numbers c) (get-in (nodes_in c b) i (get_or list i 0) at)).0

-- ---- a text that grows by the texts of a list's elements

module _ {X : Type 0} (f : X → List ℕ) (xs : List X) (i : ℕ) (whole : List ℕ) where
  -- by the next one
  pub grows-next : (d : X) (old new : List ℕ) → i < length xs → new ≡ old ++ f (get_or xs i d) → old ++ flat_map f (drop i xs) ≡ whole
      → new ++ flat_map f (drop (i + 1) xs) ≡ whole
  grows-next d old new l more h =
      ap (λ t. t ++ flat_map f (drop (i + 1) xs)) more ∙ append_assoc old (f (get_or xs i d)) (flat_map f (drop (i + 1) xs))
      ∙ ap (λ ys. old ++ flat_map f ys) (ap (λ k. get_or xs i d ∷ drop k xs) (add-one i) ∙ sym (drop-cons xs i d l)) ∙ h

  -- to the end
  pub grows-end : (text : List ℕ) → length xs ≤ i → text ++ flat_map f (drop i xs) ≡ whole → text ≡ whole
  grows-end text l h = sym (append-nil text) ∙ ap (λ ys. text ++ flat_map f ys) (sym (drop_all i xs l)) ∙ h
