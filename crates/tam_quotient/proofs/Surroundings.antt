-- The ways read from tables of classes, of what they lead to and of dependences are those of the partition.
use Rattle.std.proofs.Common.{◌≡◌, ℕ, ◌+◌, ◌<◌, ◌≤◌, List, [], ◌∷◌, ◌++◌, Bool, true, false, ◌&&◌, refl, sym, ap, ap₂, subst, subst₂, arith, ◌∙◌, true≢false}
use Rattle.std.proofs.Common.{length, map, filter, get_or, nat_lt, inl, inr, tests}
use Rattle.std.specs.List.{All, concat}
use Rattle.std.proofs.lemmas.List.{length-append}
use Rattle.std.proofs.lemmas.Option.{slice_get-get_or}
use Rattle.tam_word.specs.Lists.{below, all_of, has}
use Rattle.tam_word.proofs.Tests.{test-below, below-test}
use Rattle.tam_word.proofs.Members.{In, in-below, get-in, in-has, has-in, in-filter, filter-in, below-in}
use Rattle.tam_graph.specs.Edges.{Edges, reaches}
use Rattle.tam_graph.proofs.Quotients.{under, unlooped-reaches, reaches-unlooped}
use Rattle.tam_split.specs.Blocks.{BlockGraph, vertex_at, places, inlets_of, outlets_of, dependences}
use Rattle.tam_split.specs.Partitions.{Parts, class_of, leads_to}
use Rattle.tam_split.specs.PartitionLaws.{IsBlockGraph, IsPartition}
use Rattle.tam_split.specs.KeptParts.{AreClasses}
use Rattle.tam_split.proofs.Partitioning.{edge-within}
use Rattle.tam_sets.specs.Sets.{places_where}
use Rattle.tam_sets.proofs.PlacesWhere.{places-same, has-where}
use Rattle.tam_quotient.specs.declared.ways.Ways.{Ways}
use Rattle.tam_quotient.specs.Quotients.{leads_to_outlet, allows, ahead_of, behind_of, entering_of, allowed_of}
use Rattle.tam_quotient.specs.Tables.{set_at, column, entered, is_met, permitted}
use Rattle.tam_quotient.specs.Spreads.{renamed, AreBelow}
use Rattle.tam_quotient.specs.Joins.{ways_of, ways_to}
use Rattle.tam_quotient.proofs.Places.{same-test}
use Rattle.tam_quotient.proofs.Tabling.{get-table, length-table, map-below, none-inlet}

-- ---- few classes

-- where no list is empty, there are no more lists than elements
lists-elements : (ps : Parts) → all_of (λ p. nat_lt 0 (length p)) ps ≡ true → length ps ≤ length (concat ps)
lists-elements [] h = omega arith
lists-elements (p ∷ ps) h = go (nat_lt 0 (length p)) refl (lists-elements ps)
  where
    go : (t : Bool) → nat_lt 0 (length p) ≡ t → (all_of (λ q. nat_lt 0 (length q)) ps ≡ true → length ps ≤ length (concat ps))
        → length (p ∷ ps) ≤ length (concat (p ∷ ps))
    go true e i =
        let r : length ps ≤ length (concat ps) = i (rw (all_of, e) at h) in
        let l : 0 < length p = test-below 0 (length p) e in
        let s : length (p ++ concat ps) ≡ length p + length (concat ps) = length-append p (concat ps) in
        omega arith
    go false e i = absurd (true≢false (sym (rw (all_of, e) at h)))

-- so there are at most 512
pub few-classes : (ps : Parts) → AreClasses ps → length ps ≤ 512
few-classes ps kept = let l = lists-elements ps kept.none_empty in omega (arith, l, kept.few)

-- ---- what each class leads to

-- edges whose ends have the same names are the same
renamed-same : (f g : ℕ → ℕ) (es : Edges) → ((e : ℕ × ℕ) → In e es → (f e.0 ≡ g e.0) × (f e.1 ≡ g e.1)) → under f es ≡ under g es
renamed-same f g [] h = refl
renamed-same f g (e ∷ es) h =
    let r = h e (inl refl) in
    ap₂ (λ (d : ℕ × ℕ) ds. d ∷ ds) (ap₂ (λ (x y : ℕ). (x, y)) r.0 r.1) (renamed-same f g es (λ d i. h d (inr i)))

-- a table of the same sets is the same
map-same : (f g : ℕ → List ℕ) → ((k : ℕ) → f k ≡ g k) → (xs : List ℕ) → map f xs ≡ map g xs
map-same f g h [] = refl
map-same f g h (x ∷ xs) = ap₂ (λ (y : List ℕ) ys. y ∷ ys) (h x) (map-same f g h xs)

-- lists that pass alike pass alike with one number more that does
all-step : (s t : ℕ → Bool) (x : ℕ) (xs ys : List ℕ) → s x ≡ t x → all_of s xs ≡ all_of t ys → all_of s (x ∷ xs) ≡ all_of t (x ∷ ys)
all-step s t x xs ys q i = go (t x) refl
  where
    go : (u : Bool) → t x ≡ u → all_of s (x ∷ xs) ≡ all_of t (x ∷ ys)
    go true p = rw (all_of, q ∙ p, p) i
    go false p = rw (all_of, q ∙ p, p) refl

-- numbers below n have places in a list of n
filtered_there : (test : ℕ → Bool) (n : ℕ) (xs names : List ℕ) → xs ≡ filter test (below n) → length names ≡ n → All (λ place. place < length names) xs
filtered_there test n xs names e m k d h =
    let i : In (get_or xs k d) (filter test (below n)) = subst (λ ys. In (get_or xs k d) ys) e (get-in xs k (get_or xs k d) (slice_get-get_or xs k d h)) in
    let l = in-below (get_or xs k d) n (in-filter test (get_or xs k d) (below n) i).0 in
    omega (arith, l, m)

-- the table has for each vertex the inlets that reach it, and of other places any
abbrev pub HaveInlets : BlockGraph → List (List ℕ) → Type 0
HaveInlets b needs = (i o : ℕ) → (vertex_at b i).inlet ≡ true → o < length b.vertices → has (set_at needs o) i ≡ reaches b.edges i o

module _ (b : BlockGraph) (graph : IsBlockGraph b) (ps : Parts) (whole : IsPartition b ps) (least : length ps ≤ 512) where
  -- the class of each place
  abbrev pub classes : List ℕ
  classes = map (class_of ps) (places b)

  -- what each class leads to
  abbrev pub leads : List (List ℕ)
  leads = map (ahead_of b ps) (below (length ps))

  -- the inlets on which each vertex depends
  abbrev pub depends : List (List ℕ)
  depends = map (dependences b) (places b)

  -- the class at a place
  class-at : (x : ℕ) → x < length b.vertices → get_or classes x 0 ≡ class_of ps x
  class-at x h = get-table (class_of ps) (length b.vertices) x 0 h

  -- the classes of edges' ends are below their number
  pub classes-below : AreBelow (length ps) b.edges classes
  classes-below = record {
    ends = λ i h.
        let r = edge-within b graph (get_or b.edges i (0, 0)) (get-in b.edges i (get_or b.edges i (0, 0)) (slice_get-get_or b.edges i (0, 0) h)) in
        let n = length-table (class_of ps) (length b.vertices) in
        (omega (arith, r.0, n), omega (arith, r.1, n));
    names_below = λ x h.
        let n = length-table (class_of ps) (length b.vertices) in
        let l : x < length b.vertices = omega (arith, h, n) in
        subst (λ z. z < length ps) (sym (class-at x l)) (whole.in_one x l);
  }

  -- the edges between the classes
  renamed-under : renamed classes b.edges ≡ under (class_of ps) b.edges
  renamed-under = renamed-same (λ x. get_or classes x 0) (class_of ps) b.edges
      (λ e i. let r = edge-within b graph e i in (class-at e.0 r.0, class-at e.1 r.1))

  -- what is reached by them is what the classes lead to
  pub leads-table : map (λ k. places_where (reaches (renamed classes b.edges) k)) (below (length ps)) ≡ leads
  leads-table = map-same (λ k. places_where (reaches (renamed classes b.edges) k)) (ahead_of b ps) row (below (length ps))
    where
      row : (k : ℕ) → places_where (reaches (renamed classes b.edges) k) ≡ ahead_of b ps k
      row k = ap (λ es. places_where (reaches es k)) renamed-under
          ∙ places-same (reaches (under (class_of ps) b.edges) k) (leads_to b.edges ps k) (λ x l.
          same-test (reaches (under (class_of ps) b.edges) k x) (leads_to b.edges ps k x)
          (reaches-unlooped (under (class_of ps) b.edges) k x) (unlooped-reaches (under (class_of ps) b.edges) k x))

  -- ---- the ways

  -- what class c leads to stands at its place
  lead-at : (c : ℕ) → c < length ps → set_at leads c ≡ ahead_of b ps c
  lead-at c h = get-table (ahead_of b ps) (length ps) c [] h

  -- and has what it leads to
  lead-has : (c k : ℕ) → c < length ps → k < 512 → has (set_at leads c) k ≡ leads_to b.edges ps c k
  lead-has c k h l = ap (λ xs. has xs k) (lead-at c h) ∙ has-where (leads_to b.edges ps c) k l

  -- an inlet is a place
  pub inlet-low : (i : ℕ) → (vertex_at b i).inlet ≡ true → i < length b.vertices
  inlet-low i h = go (nat_lt i (length b.vertices)) refl
    where
      go : (t : Bool) → nat_lt i (length b.vertices) ≡ t → i < length b.vertices
      go true p = test-below i (length b.vertices) p
      go false p = let l : length b.vertices ≤ i = grind (arith, tests) in absurd (true≢false (sym h ∙ none-inlet b i l))

  -- the inlets have a place exactly where it is one
  inlets-has : (i : ℕ) → has (inlets_of b) i ≡ (vertex_at b i).inlet
  inlets-has i = same-test (has (inlets_of b) i) (vertex_at b i).inlet (λ t. (in-filter (λ x. (vertex_at b x).inlet) i (places b) (has-in (inlets_of b) i t)).1)
      (λ t. in-has (inlets_of b) i (filter-in (λ x. (vertex_at b x).inlet) i (places b) (below-in i (length b.vertices) (inlet-low i t)) t))

  -- the dependences of a vertex have the inlets that reach it
  depends-has : (i o : ℕ) → (vertex_at b i).inlet ≡ true → o < length b.vertices → has (set_at depends o) i ≡ reaches b.edges i o
  depends-has i o h l =
      ap (λ xs. has xs i) (get-table (dependences b) (length b.vertices) o [] l)
      ∙ same-test (has (dependences b o) i) (reaches b.edges i o)
      (λ t. (in-filter (λ j. reaches b.edges j o) i (inlets_of b) (has-in (dependences b o) i t)).1)
      (λ t. in-has (dependences b o) i (filter-in (λ j. reaches b.edges j o) i (inlets_of b)
      (filter-in (λ x. (vertex_at b x).inlet) i (places b) (below-in i (length b.vertices) (inlet-low i h)) h) t))

  module _ (k : ℕ) (there : k < length ps) where
    small : k < 512
    small = omega (arith, there, least)

    -- what leads to the class
    column-behind : column leads k ≡ behind_of b ps k
    column-behind = ap (λ n. places_where (λ c. nat_lt c n && has (set_at leads c) k)) (length-table (ahead_of b ps) (length ps))
        ∙ places-same _ _ (λ c l. go c (nat_lt c (length ps)) refl)
      where
        go : (c : ℕ) (t : Bool) → nat_lt c (length ps) ≡ t → (nat_lt c (length ps) && has (set_at leads c) k) ≡
            (nat_lt c (length ps) && leads_to b.edges ps c k)
        go c true p = rw p (lead-has c k (test-below c (length ps) p) small)
        go c false p = rw p refl

    -- which inlets lead to it
    entered-entering : entered (inlets_of b) classes (column leads k) ≡ entering_of b ps k
    entered-entering = ap (entered (inlets_of b) classes) column-behind
        ∙ places-same _ _ (λ i l. ap (λ t. t && has (behind_of b ps k) (get_or classes i 0)) (inlets-has i)
        ∙ go i (vertex_at b i).inlet refl)
      where
        go : (i : ℕ) (t : Bool) → (vertex_at b i).inlet ≡ t
            → ((vertex_at b i).inlet && has (behind_of b ps k) (get_or classes i 0)) ≡ ((vertex_at b i).inlet && leads_to b.edges ps (class_of ps i) k)
        go i false p = rw p refl
        go i true p =
            let l = inlet-low i p in
            let c : class_of ps i < length ps = whole.in_one i l in
            rw p (ap (has (behind_of b ps k)) (class-at i l)
            ∙ (has-where (λ d. nat_lt d (length ps) && leads_to b.edges ps d k) (class_of ps i) (omega (arith, c, least))
            ∙ ap (λ t. t && leads_to b.edges ps (class_of ps i) k) (below-test (class_of ps i) (length ps) c)))

    -- and which are allowed, by a table that has for each vertex the inlets that reach it
    permitted-allowed : (needs : List (List ℕ)) → HaveInlets b needs → permitted (inlets_of b) (outlets_of b) classes (set_at leads k) needs ≡ allowed_of b ps k
    permitted-allowed needs needed = places-same _ _ (λ i l. ap (λ t. t && all_of (is_met classes (set_at leads k) needs i) (outlets_of b)) (inlets-has i)
        ∙ go i (vertex_at b i).inlet refl)
      where
        led : (o : ℕ) → o < length b.vertices → has (set_at leads k) (get_or classes o 0) ≡ leads_to b.edges ps k (class_of ps o)
        led o h = ap (has (set_at leads k)) (class-at o h) ∙ lead-has k (class_of ps o) there (let c : class_of ps o < length ps = whole.in_one o h in
            omega (arith, c, least))

        same : (i o : ℕ) → (vertex_at b i).inlet ≡ true → o < length b.vertices → (vertex_at b o).outlet ≡ true
            → is_met classes (set_at leads k) needs i o ≡ allows b ps k i o
        same i o p h out = step (leads_to b.edges ps k (class_of ps o)) refl
          where
            step : (t : Bool) → leads_to b.edges ps k (class_of ps o) ≡ t → is_met classes (set_at leads k) needs i o ≡ allows b ps k i o
            step true e = rw (is_met, led o h ∙ e, allows, leads_to_outlet, out, e) (needed i o p h)
            step false e = rw (is_met, led o h ∙ e, allows, leads_to_outlet, out, e) refl

        outlets-all : (i : ℕ) → (vertex_at b i).inlet ≡ true → (os : List ℕ) → ((o : ℕ) → In o os → o < length b.vertices)
            → all_of (is_met classes (set_at leads k) needs i) (filter (λ o. (vertex_at b o).outlet) os) ≡ all_of (allows b ps k i) os
        outlets-all i p [] low = refl
        outlets-all i p (o ∷ os) low = step (vertex_at b o).outlet refl (outlets-all i p os (λ x m. low x (inr m)))
          where
            step : (t : Bool) → (vertex_at b o).outlet ≡ t
                → all_of (is_met classes (set_at leads k) needs i) (filter (λ o. (vertex_at b o).outlet) os) ≡ all_of (allows b ps k i) os
                → all_of (is_met classes (set_at leads k) needs i) (filter (λ o. (vertex_at b o).outlet) (o ∷ os)) ≡ all_of (allows b ps k i) (o ∷ os)
            step true e r =
                let kept : filter (λ x. (vertex_at b x).outlet) (o ∷ os) ≡ o ∷ filter (λ x. (vertex_at b x).outlet) os = rw e refl in
                ap (all_of (is_met classes (set_at leads k) needs i)) kept
                ∙ all-step (is_met classes (set_at leads k) needs i) (allows b ps k i) o (filter (λ x. (vertex_at b x).outlet) os) os
                (same i o p (low o (inl refl)) e) r
            step false e r = rw (e, all_of) r

        go : (i : ℕ) (t : Bool) → (vertex_at b i).inlet ≡ t → ((vertex_at b i).inlet && all_of (is_met classes (set_at leads k) needs i) (outlets_of b))
            ≡ ((vertex_at b i).inlet && all_of (allows b ps k i) (places b))
        go i false p = rw p refl
        go i true p = ap (λ t. (vertex_at b i).inlet && t) (outlets-all i p (places b) (λ o m. in-below o (length b.vertices) m))

    -- so the ways are those of the partition
    pub ways-same : (needs : List (List ℕ)) → HaveInlets b needs → ways_to (inlets_of b) (outlets_of b) classes leads needs k ≡ ways_of b ps k
    ways-same needs needed = ways-eq (lead-at k there) column-behind entered-entering (permitted-allowed needs needed)
      where
        made : List ℕ → List ℕ → List ℕ → List ℕ → Ways
        made a d f h = record { ahead = a; behind = d; entering = f; allowed = h }

        ways-eq : {a c d e f g h j : List ℕ} → a ≡ c → d ≡ e → f ≡ g → h ≡ j → made a d f h ≡ made c e g j
        ways-eq p q r s = cc

  -- ---- the same over lists that are these tables

  -- the ends of the edges have classes
  pub are_below : (n : ℕ) (es : Edges) (names : List ℕ) → n ≡ length ps → es ≡ b.edges → names ≡ classes → AreBelow n es names
  are_below n es names p q r =
      subst (λ m. AreBelow m es names) (sym p) (subst (λ ds. AreBelow (length ps) ds names) (sym q)
      (subst (λ xs. AreBelow (length ps) b.edges xs) (sym r) classes-below))

  -- the sets are what the classes lead to
  pub are_leads : (n : ℕ) (es : Edges) (names : List ℕ) (sets : List (List ℕ)) → n ≡ length ps → es ≡ b.edges → names ≡ classes
      → sets ≡ map (λ k. places_where (reaches (renamed names es) k)) (below n) → sets ≡ leads
  are_leads n es names sets p q r e =
      e ∙ (ap (λ m. map (λ k. places_where (reaches (renamed names es) k)) (below m)) p
      ∙ (ap (λ ds. map (λ k. places_where (reaches (renamed names ds) k)) (below (length ps))) q
      ∙ (ap (λ xs. map (λ k. places_where (reaches (renamed xs b.edges) k)) (below (length ps))) r ∙ leads-table)))

  -- there are as many as classes
  pub leads-count : (sets : List (List ℕ)) → sets ≡ leads → length sets ≡ length ps
  leads-count sets e = ap length e ∙ length-table (ahead_of b ps) (length ps)

  -- each place has a class
  pub classes-count : (names : List ℕ) → names ≡ classes → length names ≡ length b.vertices
  classes-count names e = ap length e ∙ length-table (class_of ps) (length b.vertices)

  -- each vertex has its dependences
  pub depends-count : (sets : List (List ℕ)) → sets ≡ depends → length sets ≡ length b.vertices
  depends-count sets e = ap length e ∙ length-table (dependences b) (length b.vertices)

  -- each inlet has a class
  pub inlets_there : (ins names : List ℕ) → ins ≡ inlets_of b → names ≡ classes → All (λ place. place < length names) ins
  inlets_there ins names p q = filtered_there (λ x. (vertex_at b x).inlet) (length b.vertices) ins names p (classes-count names q)

  -- and each outlet
  pub outlets_there : (outs names : List ℕ) → outs ≡ outlets_of b → names ≡ classes → All (λ place. place < length names) outs
  outlets_there outs names p q = filtered_there (λ x. (vertex_at b x).outlet) (length b.vertices) outs names p (classes-count names q)

  -- the ways read from them are those of the partition
  pub are_ways : (ins outs names : List ℕ) (sets needs : List (List ℕ)) → ins ≡ inlets_of b → outs ≡ outlets_of b → names ≡ classes → sets ≡ leads
      → HaveInlets b needs → map (ways_to ins outs names sets needs) (below (length sets)) ≡ map (ways_of b ps) (below (length ps))
  are_ways ins outs names sets needs i o p q needed = ap (λ m. map (ways_to ins outs names sets needs) (below m)) (leads-count sets q)
      ∙ map-below (ways_to ins outs names sets needs) (ways_of b ps) (length ps) (λ k h. subst₂ (λ is os. ways_to is os names sets needs k ≡ ways_of b ps k)
      (sym i) (sym o) (ap (λ xs. ways_to (inlets_of b) (outlets_of b) xs sets needs k) p ∙ (ap (λ xs. ways_to (inlets_of b) (outlets_of b) classes xs needs k) q
      ∙ ways-same k h needs needed)))

  -- where the table is that of the dependences
  pub depends-inlets : (needs : List (List ℕ)) → needs ≡ depends → HaveInlets b needs
  depends-inlets needs e i o h l = ap (λ ss. has (set_at ss o) i) e ∙ depends-has i o h l

-- what stands at the place of a class in the table of ways
pub way-read : (b : BlockGraph) (ps : Parts) (ways : List Ways) (k : ℕ) (w : Ways) → ways ≡ map (ways_of b ps) (below (length ps)) → k < length ps
    → w ≡ get_or ways k w → w ≡ ways_of b ps k
way-read b ps ways k w e h r = r ∙ (ap (λ ws. get_or ws k w) e ∙ get-table (ways_of b ps) (length ps) k w h)

-- there is an entry for each class
pub ways-count : (b : BlockGraph) (ps : Parts) (ways : List Ways) → ways ≡ map (ways_of b ps) (below (length ps)) → length ways ≡ length ps
ways-count b ps ways e = ap length e ∙ length-table (ways_of b ps) (length ps)

-- what stands at the place of a vertex in the table of dependences
pub depends-read : (b : BlockGraph) (needs : List (List ℕ)) (o : ℕ) (xs : List ℕ) → needs ≡ map (dependences b) (places b) → o < length b.vertices
    → xs ≡ get_or needs o xs → xs ≡ dependences b o
depends-read b needs o xs e h r = r ∙ (ap (λ ys. get_or ys o xs) e ∙ get-table (dependences b) (length b.vertices) o xs h)

-- both ends of an edge have classes
pub edge-classes : (b : BlockGraph) → IsBlockGraph b → (ps : Parts) → IsPartition b ps → (es : Edges) (i : ℕ) → es ≡ b.edges → i < length b.edges
    → (class_of ps (get_or es i (0, 0)).0 < length ps) × (class_of ps (get_or es i (0, 0)).1 < length ps)
edge-classes b graph ps whole es i e h =
    let own : ℕ × ℕ = get_or b.edges i (0, 0) in
    let r = edge-within b graph own (get-in b.edges i own (slice_get-get_or b.edges i (0, 0) h)) in
    let P : ℕ × ℕ → Type 0 = λ d. (class_of ps d.0 < length ps) × (class_of ps d.1 < length ps) in
    subst P (ap (λ ds. get_or ds i (0, 0)) (sym e)) (whole.in_one own.0 r.0, whole.in_one own.1 r.1)
