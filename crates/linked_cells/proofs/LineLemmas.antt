-- What a change of links makes of a line, and what two lines have to do with each other.
use Rattle.std.proofs.Common.{◌≡◌, ◌≢◌, ◌∙◌, refl, sym, ap, subst, arith, ℕ, zero, suc, ◌+◌, ◌-◌, ◌<◌, List, [], ◌∷◌, ◌++◌, length, length-set}
use Rattle.std.specs.Prelude.{drop}
use Rattle.std.specs.List.{AllByRecursion}
use Rattle.linked_cells.specs.declared.line.Line.{Line}
use Rattle.linked_cells.specs.Cells.{LinkedCell, cell_at, with_link, linked}
use Rattle.linked_cells.specs.Lists.{behind, from, last_from, IsApart, IsDistinct, IsPushed, IsAppended, IsPopped}
use Rattle.linked_cells.specs.Lines.{IsLine, items_of}

-- the last of a list, or a number where it has none
abbrev pub last_of : ℕ → List ℕ → ℕ
last_of i [] = i
last_of i (j ∷ js) = last_of j js

-- the last of the cells behind a cell
pub last-is : (cells : List LinkedCell) (at n : ℕ) → last_from cells at n ≡ last_of at (behind cells at n)
last-is cells at zero = refl
last-is cells at (suc n) = last-is cells (cell_at cells at).link n

-- where there is one, it is the last behind each cell
last-same : (cells : List LinkedCell) (at i n : ℕ) → n ≢ 0 → last_of i (behind cells at n) ≡ last_of at (behind cells at n)
last-same cells at i zero some = absurd (some refl)
last-same cells at i (suc n) some = refl

-- the one that was put behind the others
last-appended : (i j : ℕ) (js : List ℕ) → last_of i (js ++ j ∷ []) ≡ j
last-appended i j [] = refl
last-appended i j (k ∷ js) = last-appended k j js

-- what holds of each holds of the last
pub last-all : (P : ℕ → Type 0) (i : ℕ) (js : List ℕ) → AllByRecursion P (i ∷ js) → P (last_of i js)
last-all P i [] all = all.0
last-all P i (j ∷ js) all = last-all P j js all.1

-- a number apart from a list and from one more
pub apart-appended : (i j : ℕ) (js : List ℕ) → IsApart i js → i ≢ j → IsApart i (js ++ j ∷ [])
apart-appended i j [] apart other = (other, tt)
apart-appended i j (k ∷ js) apart other = (apart.0, apart-appended i j js apart.1 other)

-- one more number that the list doesn't have
pub distinct-appended : (is : List ℕ) (j : ℕ) → IsDistinct is → IsApart j is → IsDistinct (is ++ j ∷ [])
distinct-appended [] j distinct apart = (tt, tt)
distinct-appended (i ∷ is) j distinct apart = (
  apart-appended i j is distinct.0 (λ e. apart.0 (sym e)),
  distinct-appended is j distinct.1 apart.1,
)

-- what holds of each, with one more
pub all-appended : (P : ℕ → Type 0) (is : List ℕ) (j : ℕ) → AllByRecursion P is → P j → AllByRecursion P (is ++ j ∷ [])
all-appended P [] j all one = (one, tt)
all-appended P (i ∷ is) j all one = (all.0, all-appended P is j all.1 one)

-- without the first behind the head
distinct-dropped : (i : ℕ) (js : List ℕ) → IsDistinct (i ∷ js) → IsDistinct (i ∷ drop 1 js)
distinct-dropped i [] distinct = distinct
distinct-dropped i (j ∷ js) distinct = (distinct.0.1, distinct.1.1)

all-dropped : (P : ℕ → Type 0) (i : ℕ) (js : List ℕ) → AllByRecursion P (i ∷ js) → AllByRecursion P (i ∷ drop 1 js)
all-dropped P i [] all = all
all-dropped P i (j ∷ js) all = (all.0, all.1.1)

-- what follows from what holds of each
all-weaker : (P Q : ℕ → Type 0) → ((i : ℕ) → P i → Q i) → (is : List ℕ) → AllByRecursion P is → AllByRecursion Q is
all-weaker P Q weaker [] all = tt
all-weaker P Q weaker (i ∷ is) all = (weaker i all.0, all-weaker P Q weaker is all.1)

-- links alone change
pub length-linked : (cells : List LinkedCell) (at i : ℕ) → length (linked cells at i) ≡ length cells
length-linked cells at i =
    let half : List LinkedCell = with_link cells i (cell_at cells at).link in
    length-set half at (record (cell_at half at) { link = i }) ∙ length-set cells i (record (cell_at cells i) { link = (cell_at cells at).link })

module _ {cells : List LinkedCell} {line : Line} (is : IsLine cells line (items_of cells line)) where
  -- the last cell of a line is there
  pub last-there : line.last < length cells
  last-there = subst (λ i. i < length cells) (sym (is.last_is ∙ last-is cells line.root line.count))
      (last-all (λ i. i < length cells) line.root (items_of cells line) is.there)

  -- it stays the last where another goes to the front
  pub last-stays : (i : ℕ) → line.count ≢ 0 → line.last ≡ last_of i (items_of cells line)
  last-stays i some = is.last_is ∙ last-is cells line.root line.count ∙ sym (last-same cells line.root i line.count some)

  -- and where the first of two or more goes
  pub last-rest : line.count ≢ 0 → line.count - 1 ≢ 0 → line.last ≡ last_of line.root (drop 1 (items_of cells line))
  last-rest some more =
      let first : ℕ = (cell_at cells line.root).link in
      let less : line.count ≡ suc (line.count - 1) = omega (arith, some) in
      is.last_is ∙ last-is cells line.root line.count ∙ ap (λ n. last_of line.root (behind cells line.root n)) less
      ∙ sym (last-same cells first line.root (line.count - 1) more)
      ∙ sym (ap (λ n. last_of line.root (drop 1 (behind cells line.root n))) less)

-- which is the last where no other was
pub last-alone : (cells : List LinkedCell) (line : Line) (i : ℕ) → line.count ≡ 0 → i ≡ last_of i (items_of cells line)
last-alone cells line i none = sym (ap (λ n. last_of i (behind cells line.root n)) none)

-- cells that were there are there still
still-there : (m n : ℕ) → n ≡ m → (is : List ℕ) → AllByRecursion (λ i. i < m) is → AllByRecursion (λ i. i < n) is
still-there m n same is all = all-weaker (λ i. i < m) (λ i. i < n) (λ i lt. omega (arith, lt, same)) is all

module _ {old new : List LinkedCell} {line : Line} (is : IsLine old line (items_of old line)) (length_same : length new ≡ length old) where
  module _ (i : ℕ) (there : i < length old) (apart : IsApart i (from old line.root line.count)) where
    -- a cell behind the last
    pub line-back : IsAppended old new line.last i
        → IsLine new (record { root = line.root; last = i; count = line.count + 1 }) (items_of old line ++ i ∷ [])
    line-back appended = record {
      linked = list;
      last_is = sym (last-is new line.root (line.count + 1) ∙ ap (last_of line.root) list ∙ last-appended line.root i (items_of old line));
      distinct = (
        apart-appended line.root i (items_of old line) is.distinct.0 (λ e. apart.0 (sym e)),
        distinct-appended (items_of old line) i is.distinct.1 apart.1,
      );
      there = still-there (length old) (length new) length_same (line.root ∷ items_of old line ++ i ∷ [])
          (is.there.0, all-appended (λ j. j < length old) (items_of old line) i is.there.1 there);
    }
      where
        more : line.count + 1 ≡ suc line.count
        more = omega arith

        list : behind new line.root (line.count + 1) ≡ items_of old line ++ i ∷ []
        list = ap (behind new line.root) more ∙ appended line.root line.count is.last_is is.distinct apart

    -- a cell before the first
    pub line-front : (last : ℕ) → last ≡ last_of i (items_of old line) → IsPushed old new line.root i
        → IsLine new (record { root = line.root; last = last; count = line.count + 1 }) (i ∷ items_of old line)
    line-front last last_is pushed = record {
      linked = list;
      last_is = last_is ∙ sym (last-is new line.root (line.count + 1) ∙ ap (last_of line.root) list);
      distinct = (((λ e. apart.0 (sym e)), is.distinct.0), (apart.1, is.distinct.1));
      there = still-there (length old) (length new) length_same (line.root ∷ i ∷ items_of old line) (is.there.0, (there, is.there.1));
    }
      where
        more : line.count + 1 ≡ suc line.count
        more = omega arith

        list : behind new line.root (line.count + 1) ≡ i ∷ items_of old line
        list = ap (behind new line.root) more ∙ pushed line.count is.distinct.0 apart

  -- without the first cell
  pub line-rest : (last : ℕ) → line.count ≢ 0 → last ≡ last_of line.root (drop 1 (items_of old line)) → IsPopped old new line.root
      → IsLine new (record { root = line.root; last = last; count = line.count - 1 }) (drop 1 (items_of old line))
  line-rest last some last_is popped = record {
    linked = list;
    last_is = last_is ∙ sym (last-is new line.root (line.count - 1) ∙ ap (last_of line.root) list);
    distinct = distinct-dropped line.root (items_of old line) is.distinct;
    there = still-there (length old) (length new) length_same (line.root ∷ drop 1 (items_of old line))
        (all-dropped (λ j. j < length old) line.root (items_of old line) is.there);
  }
    where
      less : line.count ≡ suc (line.count - 1)
      less = omega (arith, some)

      list : behind new line.root (line.count - 1) ≡ drop 1 (items_of old line)
      list = sym (ap (λ n. drop 1 (behind old line.root n)) less
          ∙ ap (λ l. drop 1 l) (popped (line.count - 1) (subst (λ n. IsApart line.root (behind old line.root n)) less is.distinct.0)))
