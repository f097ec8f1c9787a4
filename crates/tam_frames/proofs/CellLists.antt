-- Lists through cells where words or links of some of them change.
use Rattle.std.proofs.Common.{◌≡◌, ◌≢◌, ◌∙◌, sym, ap, refl, ℕ, zero, suc, ◌+◌, ◌<◌, ◌≤◌, List, [], ◌∷◌, length, map, arith, inl, inr}
use Rattle.std.specs.Prelude.{slice_set}
use Rattle.std.specs.List.{AllByRecursion}
use Rattle.std.proofs.lemmas.Bool.{cases_eq}
use Rattle.std.proofs.lemmas.List.{length-set, get_or-set_same, get_or-set_other}
use Rattle.linked_cells.specs.Cells.{LinkedCell, cell_at, no_cell, with_words, with_link, linked}
use Rattle.linked_cells.specs.Lists.{behind, IsApart}

-- what holds of each, holds also of what follows from it
pub AllByRecursion-weaker : (P Q : ℕ → Type 0) → ((i : ℕ) → P i → Q i) → (is : List ℕ) → AllByRecursion P is → AllByRecursion Q is
AllByRecursion-weaker P Q weaker [] all = tt
AllByRecursion-weaker P Q weaker (i ∷ is) all = (weaker i all.0, AllByRecursion-weaker P Q weaker is all.1)

-- what holds of each of a list holds of each of the other
pub AllByRecursion-map : (P Q : ℕ → Type 0) (f : ℕ → ℕ) → ((i : ℕ) → P i → Q (f i)) → (is : List ℕ) → AllByRecursion P is → AllByRecursion Q (map f is)
AllByRecursion-map P Q f each [] all = tt
AllByRecursion-map P Q f each (i ∷ is) all = (each i all.0, AllByRecursion-map P Q f each is all.1)

-- a number that is none of a list's is apart from it
pub IsApart-all : (i : ℕ) (is : List ℕ) → AllByRecursion (λ j. i ≢ j) is → IsApart i is
IsApart-all i [] all = tt
IsApart-all i (j ∷ js) all = (all.0, IsApart-all i js all.1)

-- the links of some cells are the same
pub record KeepsLinks (P : ℕ → Type 0) (old new : List LinkedCell) : Type 0 where
  pub same : (j : ℕ) → P j → (cell_at new j).link ≡ (cell_at old j).link

-- a list of such cells stays
pub behind-same : {P : ℕ → Type 0} {old new : List LinkedCell} → KeepsLinks P old new → (head n : ℕ) → P head → AllByRecursion P (behind old head n)
    → behind new head n ≡ behind old head n
behind-same keeps head zero first all = refl
behind-same {P} {old} {new} keeps head (suc n) first all =
    let next : ℕ = (cell_at old head).link in
    (λ i. keeps.same head first i ∷ behind new (keeps.same head first i) n) ∙ ap (λ (l : List ℕ). next ∷ l) (behind-same keeps next n all.0 all.1)

-- cell i has other words, and nothing else changes
pub record IsWritten (old new : List LinkedCell) (i first second : ℕ) : Type 0 where
  pub first_is : (cell_at new i).first ≡ first
  pub second_is : (cell_at new i).second ≡ second
  pub others : (j : ℕ) → j ≢ i → cell_at new j ≡ cell_at old j
  pub links : (j : ℕ) → (cell_at new j).link ≡ (cell_at old j).link
  pub length_same : length new ≡ length old

-- links may change, and no words do
pub record KeepsWords (old new : List LinkedCell) : Type 0 where
  pub first_same : (j : ℕ) → (cell_at new j).first ≡ (cell_at old j).first
  pub second_same : (j : ℕ) → (cell_at new j).second ≡ (cell_at old j).second
  pub length_same : length new ≡ length old

-- then each list stays
pub behind-written : {old new : List LinkedCell} {i first second : ℕ} → IsWritten old new i first second → (head n : ℕ)
    → behind new head n ≡ behind old head n
behind-written written head zero = refl
behind-written {old} {new} written head (suc n) =
    let next : ℕ = (cell_at old head).link in
    (λ i. written.links head i ∷ behind new (written.links head i) n) ∙ ap (λ (l : List ℕ). next ∷ l) (behind-written written next n)

module _ (cells : List LinkedCell) (i : ℕ) (there : i < length cells) where
  -- words are set
  pub is-written : (first second : ℕ) → IsWritten cells (with_words cells i first second) i first second
  is-written first second =
      let x : LinkedCell = record { first = first; second = second; link = (cell_at cells i).link } in
      let here : cell_at (slice_set cells i x) i ≡ x = get_or-set_same cells i x no_cell there in
      record {
        first_is = ap (λ (c : LinkedCell). c.first) here;
        second_is = ap (λ (c : LinkedCell). c.second) here;
        others = λ j other. get_or-set_other cells i j x no_cell other;
        links = λ j. elim (cases_eq j i) [
          | inl is ↦ ap (λ (k : ℕ). (cell_at (slice_set cells i x) k).link) is ∙ ap (λ (c : LinkedCell). c.link) here
              ∙ ap (λ (k : ℕ). (cell_at cells k).link) (sym is)
          | inr other ↦ ap (λ (c : LinkedCell). c.link) (get_or-set_other cells i j x no_cell other)
        ];
        length_same = length-set cells i x;
      }

  -- a link is set
  pub keeps-link : (l : ℕ) → KeepsWords cells (with_link cells i l)
  keeps-link l =
      let x : LinkedCell = record (cell_at cells i) { link = l } in
      let here : cell_at (slice_set cells i x) i ≡ x = get_or-set_same cells i x no_cell there in
      record {
        first_same = λ j. elim (cases_eq j i) [
          | inl is ↦ ap (λ (k : ℕ). (cell_at (slice_set cells i x) k).first) is ∙ ap (λ (c : LinkedCell). c.first) here
              ∙ ap (λ (k : ℕ). (cell_at cells k).first) (sym is)
          | inr other ↦ ap (λ (c : LinkedCell). c.first) (get_or-set_other cells i j x no_cell other)
        ];
        second_same = λ j. elim (cases_eq j i) [
          | inl is ↦ ap (λ (k : ℕ). (cell_at (slice_set cells i x) k).second) is ∙ ap (λ (c : LinkedCell). c.second) here
              ∙ ap (λ (k : ℕ). (cell_at cells k).second) (sym is)
          | inr other ↦ ap (λ (c : LinkedCell). c.second) (get_or-set_other cells i j x no_cell other)
        ];
        length_same = length-set cells i x;
      }

  -- other cells stay
  pub other-link : (l j : ℕ) → j ≢ i → cell_at (with_link cells i l) j ≡ cell_at cells j
  other-link l j other = get_or-set_other cells i j (record (cell_at cells i) { link = l }) no_cell other

-- two cells are there
pub record BothThere (cells : List LinkedCell) (at i : ℕ) : Type 0 where
  pub at_there : at < length cells
  pub there : i < length cells

module _ {cells : List LinkedCell} {at i : ℕ} (both : BothThere cells at i) where
  -- the cells where the link of the second leads behind the first
  abbrev half : List LinkedCell
  half = with_link cells i (cell_at cells at).link

  first_half : KeepsWords cells half
  first_half = keeps-link cells i both.there (cell_at cells at).link

  at_half : at < length half
  at_half = omega (arith, both.at_there, first_half.length_same)

  -- the second is put behind the first
  pub keeps-linked : KeepsWords cells (linked cells at i)
  keeps-linked =
      let second_half : KeepsWords half (linked cells at i) = keeps-link half at at_half i in record {
        first_same = λ j. second_half.first_same j ∙ first_half.first_same j;
        second_same = λ j. second_half.second_same j ∙ first_half.second_same j;
        length_same = second_half.length_same ∙ first_half.length_same;
      }

  -- the cells apart from both stay
  pub other-linked : (j : ℕ) → j ≢ at → j ≢ i → cell_at (linked cells at i) j ≡ cell_at cells j
  other-linked j other_at other = other-link half at at_half i j other_at ∙ other-link cells i both.there (cell_at cells at).link j other

-- only cells from a on change, w at most, and the second of them doesn't
pub record ChangesFrame (old new : List LinkedCell) (a w : ℕ) : Type 0 where
  pub length_same : length new ≡ length old
  pub before : (j : ℕ) → j < a → cell_at new j ≡ cell_at old j
  pub after : (j : ℕ) → a + w ≤ j → cell_at new j ≡ cell_at old j
  pub header : cell_at new (a + 1) ≡ cell_at old (a + 1)

-- cell i is one of those that may change
pub record IsOneOf (a w i : ℕ) : Type 0 where
  pub from_a : a ≤ i
  pub below : i < a + w
  pub beside : i ≢ a + 1

-- one of them is written
pub changes-written : {old new : List LinkedCell} {a w i first second : ℕ} → IsOneOf a w i → IsWritten old new i first second → ChangesFrame old new a w
changes-written {a = a} one written = record {
  length_same = written.length_same;
  before = λ j lt. written.others j (omega arith);
  after = λ j le. written.others j (omega arith);
  header = written.others (a + 1) (λ same. one.beside (sym same));
}

-- the link of one of them is set
pub changes-link : (cells : List LinkedCell) {a w i : ℕ} → IsOneOf a w i → i < length cells → (l : ℕ) → ChangesFrame cells (with_link cells i l) a w
changes-link cells {a = a} {i = i} one there l = record {
  length_same = (keeps-link cells i there l).length_same;
  before = λ j lt. other-link cells i there l j (omega arith);
  after = λ j le. other-link cells i there l j (omega arith);
  header = other-link cells i there l (a + 1) (λ same. one.beside (sym same));
}

-- one of them is put behind another of them
pub changes-linked : {cells : List LinkedCell} {a w at i : ℕ} → IsOneOf a w at → IsOneOf a w i → BothThere cells at i
    → ChangesFrame cells (linked cells at i) a w
changes-linked {a = a} one other both = record {
  length_same = (keeps-linked both).length_same;
  before = λ j lt. other-linked both j (omega arith) (omega arith);
  after = λ j le. other-linked both j (omega arith) (omega arith);
  header = other-linked both (a + 1) (λ same. one.beside (sym same)) (λ same. other.beside (sym same));
}

-- one change behind another
pub changes-both : {old mid new : List LinkedCell} {a w : ℕ} → ChangesFrame old mid a w → ChangesFrame mid new a w → ChangesFrame old new a w
changes-both one two = record {
  length_same = two.length_same ∙ one.length_same;
  before = λ j lt. two.before j lt ∙ one.before j lt;
  after = λ j le. two.after j le ∙ one.after j le;
  header = two.header ∙ one.header;
}
