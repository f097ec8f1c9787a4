-- What a change of a cell's link does to the lists through cells.
use Rattle.std.proofs.Common.{◌≡◌, refl, sym, ap, subst, ◌∙◌, arith, ℕ, zero, suc, ◌<◌, List, [], ◌∷◌, length, get_or, slice_set, length-set}
use Rattle.std.specs.Prelude.{◌≢◌}
use Rattle.linked_cells.specs.Cells.{LinkedCell, cell_at, with_link, linked, unlinked}
use Rattle.linked_cells.specs.Lists.{behind, from, last_from, IsApart, StaysApart, StaysApartFromBoth, IsPushed, IsAppended, IsPopped}

-- the element that was set
get_or-set_same : {X : Type 0} (xs : List X) (i : ℕ) (x d : X) → i < length xs → get_or (slice_set xs i x) i d ≡ x
get_or-set_same [] i x d lt = absurd (omega arith)
get_or-set_same (y ∷ xs) zero x d lt = refl
get_or-set_same (y ∷ xs) (suc i) x d lt = get_or-set_same xs i x d (omega arith)

-- another element
get_or-set_other : {X : Type 0} (xs : List X) (i j : ℕ) (x d : X) → i ≢ j → get_or (slice_set xs i x) j d ≡ get_or xs j d
get_or-set_other [] i j x d other = refl
get_or-set_other (y ∷ xs) zero zero x d other = absurd (other refl)
get_or-set_other (y ∷ xs) zero (suc j) x d other = refl
get_or-set_other (y ∷ xs) (suc i) zero x d other = refl
get_or-set_other (y ∷ xs) (suc i) (suc j) x d other = get_or-set_other xs i j x d (λ e. other (ap suc e))

module _ (cells : List LinkedCell) (at j : ℕ) where
  -- the link that was changed
  link_same : at < length cells → (cell_at (with_link cells at j) at).link ≡ j
  link_same lt = ap (λ (c : LinkedCell). c.link) (get_or-set_same cells at (record (cell_at cells at) { link = j }) _ lt)

  -- another link
  link_other : (k : ℕ) → at ≢ k → (cell_at (with_link cells at j) k).link ≡ (cell_at cells k).link
  link_other k other = ap (λ (c : LinkedCell). c.link) (get_or-set_other cells at k _ _ other)

  -- a list without that cell stays
  pub behind-with_link : StaysApart cells (with_link cells at j) at
  behind-with_link head zero apart = refl
  behind-with_link head (suc n) apart =
      let same : (cell_at (with_link cells at j) head).link ≡ (cell_at cells head).link = link_other head apart.0 in
      (λ i. same i ∷ behind (with_link cells at j) (same i) n) ∙ ap (λ l. (cell_at cells head).link ∷ l) (behind-with_link (cell_at cells head).link n apart.1)

  -- the list behind that cell begins with the new one
  behind-with_link_same : at < length cells → (n : ℕ) → IsApart at (from cells j n) → behind (with_link cells at j) at (suc n) ≡ from cells j n
  behind-with_link_same lt n apart =
      (λ i. link_same lt i ∷ behind (with_link cells at j) (link_same lt i) n) ∙ ap (λ l. j ∷ l) (behind-with_link j n apart)

-- the first cell behind a head is gone
pub popped : (cells : List LinkedCell) (head : ℕ) → head < length cells → IsPopped cells (unlinked cells head) head
popped cells head lt zero apart = refl
popped cells head lt (suc n) apart =
    let first = (cell_at cells head).link in let second = (cell_at cells first).link in
    ap (λ l. first ∷ l) (sym (behind-with_link_same cells head second lt n apart.1))

-- what is apart from a list isn't its last
apart_last : (cells : List LinkedCell) (k head n : ℕ) → IsApart k (from cells head n) → k ≢ last_from cells head n
apart_last cells k head zero apart = apart.0
apart_last cells k head (suc n) apart = apart_last cells k (cell_at cells head).link n apart.1

module _ (cells : List LinkedCell) (at i : ℕ) (at_in : at < length cells) (i_in : i < length cells) where
  -- the cells between the two changes
  abbrev halfway : List LinkedCell
  halfway = with_link cells i (cell_at cells at).link

  halfway_in : at < length halfway
  halfway_in = subst (λ n. at < n) (sym (length-set cells i _)) at_in

  -- a list without both cells stays
  pub stays : StaysApartFromBoth cells (linked cells at i) at i
  stays head n at_apart i_apart =
      let same = behind-with_link cells i (cell_at cells at).link head n i_apart in
      behind-with_link halfway at i head n (subst (IsApart at) (ap (λ l. head ∷ l) (sym same)) at_apart) ∙ same

  -- the cell is the first behind the other
  pub pushed : IsPushed cells (linked cells at i) at i
  pushed n at_apart i_apart =
      let next = (cell_at cells at).link in let half = behind-with_link_here n at_apart i_apart in
      behind-with_link_same halfway at i halfway_in n ((λ e. i_apart.0 (sym e)), subst (IsApart at) (sym half) at_apart) ∙ ap (λ l. i ∷ l) half
    where
      behind-with_link_here : (m : ℕ) → IsApart at (behind cells at m) → IsApart i (from cells at m) → behind halfway i m ≡ behind cells at m
      behind-with_link_here zero a b = refl
      behind-with_link_here (suc m) a b = behind-with_link_same cells i (cell_at cells at).link i_in m b.1

  -- behind the last cell of a list it is the last
  pub appended : IsAppended cells (linked cells at i) at i
  appended head zero is distinct i_apart = subst (λ h. behind (linked cells at i) h 1 ≡ i ∷ []) is
      (pushed 0 tt (subst (λ h. IsApart i (h ∷ [])) (sym is) i_apart))
  appended head (suc n) is distinct i_apart =
      let first = (cell_at cells head).link in let other : head ≢ at = λ e. apart_last cells head first n distinct.0 (e ∙ is) in
      let same : (cell_at (linked cells at i) head).link ≡ first =
      link_other halfway at i head (λ e. other (sym e)) ∙ link_other cells i (cell_at cells at).link head i_apart.0 in
      (λ j. same j ∷ behind (linked cells at i) (same j) (suc n)) ∙ ap (λ l. first ∷ l) (appended first n is distinct.1 i_apart.1)
