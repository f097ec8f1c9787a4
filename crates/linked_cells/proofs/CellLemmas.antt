-- What is seen of the places of a block as cells, and what a change of a place changes.
use Rattle.std.proofs.Common.{◌≡◌, refl, sym, ap, subst, ◌∙◌, arith, ℕ, zero, suc, ◌<◌, ◌≤◌, List, [], ◌∷◌, ◌++◌, length, get_or, slice_set, Option}
use Rattle.std.proofs.Common.{Some, None, length-set}
use Rattle.std.specs.Mem.{type_size}
use denote.RawPtr.{Ptr}
use Rattle.linked_cells.specs.declared.cell_table.Cell.{Cell}
use Rattle.linked_cells.specs.contracts.cell_table.Cell.{the_row as cell_row}
use Rattle.linked_cells.specs.Addresses.{nth_address, index_at, IsAddress, IsFilled}
use Rattle.linked_cells.specs.Cells.{LinkedCell, cell_at, seen, cells_of, IsLinked, AreLinked, relinked, with_address, with_link}
use Rattle.linked_cells.specs.declared.memory.Memory.{Memory}
use Rattle.linked_cells.specs.declared.cell_table.CellTable.TheInside.{Inside}
use Rattle.linked_cells.specs.contracts.cell_table.CellTable.{the_invariant}

-- a cell takes 16 bytes
pub cell_size : type_size cell_row ≡ 16
cell_size = refl

module _ (at : Ptr) where
  -- the number of the place at the address of place i is i
  pub index_at-nth_address : (i : ℕ) → index_at cell_row at (nth_address cell_row at i) ≡ i
  index_at-nth_address i = omega arith

  -- a place begins there
  pub IsAddress-nth_address : (i : ℕ) → IsAddress cell_row at (nth_address cell_row at i)
  IsAddress-nth_address i = ap (nth_address cell_row at) (sym (index_at-nth_address i))

  -- so many cells are seen
  pub length-cells_of : (n : ℕ) (places : List (Option Cell)) → n ≤ length places → length (cells_of at n places) ≡ n
  length-cells_of zero places le = refl
  length-cells_of (suc n) [] le = absurd (omega arith)
  length-cells_of (suc n) (c ∷ places) le = ap suc (length-cells_of n places (omega arith))

  -- the cell that is seen in place i
  pub cell_at-cells_of : (n i : ℕ) (places : List (Option Cell)) → i < n → n ≤ length places → cell_at (cells_of at n places) i ≡ seen at (get_or places i None)
  cell_at-cells_of zero i places lt le = absurd (omega arith)
  cell_at-cells_of (suc n) i [] lt le = absurd (omega arith)
  cell_at-cells_of (suc n) zero (c ∷ places) lt le = refl
  cell_at-cells_of (suc n) (suc i) (c ∷ places) lt le = cell_at-cells_of n i places (omega arith) (omega arith)

  -- a place is changed
  pub cells_of-slice_set : (n i : ℕ) (places : List (Option Cell)) (c : Option Cell) → i < n → n ≤ length places
      → cells_of at n (slice_set places i c) ≡ slice_set (cells_of at n places) i (seen at c)
  cells_of-slice_set zero i places c lt le = absurd (omega arith)
  cells_of-slice_set (suc n) i [] c lt le = absurd (omega arith)
  cells_of-slice_set (suc n) zero (d ∷ places) c lt le = refl
  cells_of-slice_set (suc n) (suc i) (d ∷ places) c lt le = ap (λ cells. seen at d ∷ cells) (cells_of-slice_set n i places c (omega arith) (omega arith))

  -- the next place is filled
  pub cells_of-suc : (n : ℕ) (places : List (Option Cell)) (c : Option Cell) → n < length places → cells_of at (suc n) (slice_set places n c) ≡
      cells_of at n places ++ seen at c ∷ []
  cells_of-suc n [] c lt = absurd (omega arith)
  cells_of-suc zero (d ∷ places) c lt = refl
  cells_of-suc (suc n) (d ∷ places) c lt = ap (λ cells. seen at d ∷ cells) (cells_of-suc n places c (omega arith))

  -- a linked place is filled
  pub filled : (n : ℕ) (c : Option Cell) → IsLinked at n c → (x : Cell) × (c ≡ Some x)
  filled n None linked = absurd linked
  filled n (Some x) linked = (x, refl)

-- what holds of a list's element holds where another is set for which it holds too
pub each_set : {X : Type 0} (P : X → Type 0) (d : X) (xs : List X) (k : ℕ) (x : X) → P x → (j : ℕ) → P (get_or xs j d) → P (get_or (slice_set xs k x) j d)
each_set P d [] k x px j pj = pj
each_set P d (y ∷ xs) zero x px zero pj = px
each_set P d (y ∷ xs) zero x px (suc j) pj = pj
each_set P d (y ∷ xs) (suc k) x px zero pj = pj
each_set P d (y ∷ xs) (suc k) x px (suc j) pj = each_set P d xs k x px j pj

-- a block whose first places hold linked cells, with the address that its owner has
pub record Block (base : Ptr) (count : ℕ) : Type 0 where
  pub at : Ptr
  pub same : at ≡ base
  pub places : List (Option Cell)
  pub linked : AreLinked base count places

-- the block of a table
abbrev pub block_of_table : (t : Inside) → the_invariant t → Block t.base.ptr t.count
block_of_table t inv = record { at = t.memory.at; same = inv.0; places = t.memory.places; linked = inv.5 }

module _ (base : Ptr) (count : ℕ) (k : Block base count) where
  -- its cells
  abbrev pub cells_in : List LinkedCell
  cells_in = cells_of base count k.places

  -- a number of a cell that is seen is one of those
  pub within : (now : List LinkedCell) → cells_in ≡ now → (i : ℕ) → i < length now → i < count
  within now is i lt = subst (λ n. i < n) (ap length (sym is) ∙ length-cells_of base count k.places k.linked.within) lt

  module _ (p : Ptr) (i : ℕ) (is : p ≡ nth_address cell_row k.at i) (lt : i < count) where
    -- the number of the place there
    pub index_of : index_at cell_row k.at p ≡ i
    index_of = ap (index_at cell_row k.at) is ∙ index_at-nth_address k.at i

    -- the same for the block's address
    pub index_from : index_at cell_row base p ≡ i
    index_from = ap (λ a. index_at cell_row a p) (sym k.same) ∙ index_of

    -- what is in the place there
    pub there : get_or k.places (index_at cell_row k.at p) None ≡ get_or k.places i None
    there = ap (λ j. get_or k.places j None) index_of

    -- a place begins there
    pub addressed : IsAddress cell_row k.at p
    addressed = subst (IsAddress cell_row k.at) (sym is) (IsAddress-nth_address k.at i)

    -- the same for the block's address
    pub addressed_from : IsAddress cell_row base p
    addressed_from = subst (λ a. IsAddress cell_row a p) k.same addressed

    -- the place there can be read
    pub readable : IsAddress cell_row k.at p × IsFilled k.places (index_at cell_row k.at p)
    readable = (addressed, filled base count (get_or k.places (index_at cell_row k.at p) None) (subst (IsLinked base count) (sym there) (k.linked.each i lt)))

    -- what is read there is what is seen
    pub read_is : (x : Cell) → get_or k.places (index_at cell_row k.at p) None ≡ Some x → cell_at cells_in i ≡ seen base (Some x)
    read_is x reads = cell_at-cells_of base count i k.places lt k.linked.within ∙ ap (seen base) (sym there ∙ reads)

    -- the link of what is read there leads to a cell
    pub leads : (x : Cell) → get_or k.places (index_at cell_row k.at p) None ≡ Some x → IsLinked base count (Some x)
    leads x reads = subst (IsLinked base count) (sym there ∙ reads) (k.linked.each i lt)

    module _ (l : Ptr) (far : IsAddress cell_row base l) (in_range : index_at cell_row base l < count) where
      pub relinked_linked : (c : Option Cell) → IsLinked base count c → IsLinked base count (relinked c l)
      relinked_linked None linked = absurd linked
      relinked_linked (Some x) linked = (far, in_range)

      pub relinked_seen : (c : Option Cell) → IsLinked base count c → seen base (relinked c l) ≡ record (seen base c) { link = index_at cell_row base l }
      relinked_seen None linked = absurd linked
      relinked_seen (Some x) linked = refl

      -- the block where the link there is changed
      abbrev pub relinks : (m : Memory Cell) → m.at ≡ k.at → m.places ≡ with_address k.places (index_at cell_row k.at p) l → Block base count
      relinks m at_same changes = record {
        at = m.at;
        same = at_same ∙ k.same;
        places = m.places;
        linked = subst (AreLinked base count) (sym changes) (record {
          each = λ j below. each_set (IsLinked base count) None k.places (index_at cell_row k.at p) _
              (relinked_linked (get_or k.places (index_at cell_row k.at p) None) (subst (IsLinked base count) (sym there) (k.linked.each i lt))) j
              (k.linked.each j below);
          within = subst (λ n. count ≤ n) (sym (length-set k.places (index_at cell_row k.at p) _)) k.linked.within;
        });
      }

      -- its cells
      pub relinks_is : (places : List (Option Cell)) → places ≡ with_address k.places (index_at cell_row k.at p) l
          → cells_of base count places ≡ with_link cells_in i (index_at cell_row base l)
      relinks_is places changes =
          ap (cells_of base count) (changes ∙ ap (with_address_at l) index_of) ∙ cells_of-slice_set base count i k.places _ lt k.linked.within
          ∙ ap (slice_set cells_in i) (relinked_seen (get_or k.places i None) (k.linked.each i lt)
          ∙ ap (λ (c : LinkedCell). record c { link = index_at cell_row base l }) (sym (cell_at-cells_of base count i k.places lt k.linked.within)))
        where
          with_address_at : Ptr → ℕ → List (Option Cell)
          with_address_at q j = with_address k.places j q

    -- the cells where another cell is written there
    pub writes_is : (x : Cell) (places : List (Option Cell)) → places ≡ slice_set k.places (index_at cell_row k.at p) (Some x)
        → cells_of base count places ≡ slice_set cells_in i (seen base (Some x))
    writes_is x places changes =
        ap (cells_of base count) (changes ∙ ap (λ j. slice_set k.places j (Some x)) index_of) ∙ cells_of-slice_set base count i k.places (Some x) lt
        k.linked.within

  module _ (x : Cell) (leads : IsLinked base count (Some x)) where
    -- the address in a link is that of its number
    pub link_address : x.link ≡ nth_address cell_row k.at (index_at cell_row base x.link)
    link_address = subst (λ a. x.link ≡ nth_address cell_row a (index_at cell_row base x.link)) (sym k.same) leads.0

  -- a cell is put behind another, in two changes of links; m is the memory behind the first of them
  pub record Linking (own head : Ptr) (i at : ℕ) (m : Memory Cell) : Type 0 where
    pub own_is : own ≡ nth_address cell_row k.at i
    pub head_is : head ≡ nth_address cell_row k.at at
    pub own_in : i < count
    pub head_in : at < count
    pub cell : Cell
    pub reads : get_or k.places (index_at cell_row k.at head) None ≡ Some cell
    pub same : m.at ≡ k.at
    pub changes : m.places ≡ with_address k.places (index_at cell_row k.at own) cell.link

  module _ (own head : Ptr) (i at : ℕ) (m : Memory Cell) (l : Linking own head i at m) where
    pub to : IsLinked base count (Some l.cell)
    to = leads head at l.head_is l.head_in l.cell l.reads

    -- the block between the two
    abbrev pub halfway : Block base count
    halfway = relinks own i l.own_is l.own_in l.cell.link to.0 to.1 m l.same l.changes

    -- its cells
    pub halfway_is : cells_of base count m.places ≡ with_link cells_in i (cell_at cells_in at).link
    halfway_is =
        relinks_is own i l.own_is l.own_in l.cell.link to.0 to.1 m.places l.changes
        ∙ ap (λ (c : LinkedCell). with_link cells_in i c.link) (sym (read_is head at l.head_is l.head_in l.cell l.reads))

    -- where the head lies in it
    pub halfway_head : head ≡ nth_address cell_row m.at at
    halfway_head = l.head_is ∙ ap (λ a. nth_address cell_row a at) (sym l.same)
