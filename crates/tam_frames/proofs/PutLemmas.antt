-- Cells that are put, one or several.
use Rattle.std.proofs.Common.{◌≡◌, ◌≢◌, ◌∙◌, sym, ap, refl, ℕ, ◌+◌, ◌<◌, ◌≤◌, Bool, true, false, List, [], ◌∷◌, ◌++◌, length, arith, inl, inr}
use Rattle.std.specs.Prelude.{max, nat_lt, slice_index}
use Rattle.std.proofs.lemmas.Bool.{cases_eq, cases_lt, lt-ltb, ltb-true, ltb-false}
use Rattle.std.proofs.lemmas.List.{get_or_push, get_or_append_left, get_or_past, length_push}
use Rattle.linked_cells.specs.Cells.{LinkedCell, cell_at, no_cell, with_words, with_cell, with_put}
use Rattle.tam_frames.specs.FrameCells.{ArePut}
use Rattle.tam_frames.proofs.CellLists.{IsWritten, is-written}

-- cell i has these words, and it may be the next one; other cells stay
pub record IsPut (old new : List LinkedCell) (i first second : ℕ) : Type 0 where
  pub first_is : (cell_at new i).first ≡ first
  pub second_is : (cell_at new i).second ≡ second
  pub others : (j : ℕ) → j ≢ i → cell_at new j ≡ cell_at old j
  pub length_is : length new ≡ max (length old) (i + 1)
  pub link : i < length old → (cell_at new i).link ≡ (cell_at old i).link

module _ (cells : List LinkedCell) (i first second : ℕ) (next : i ≤ length cells) where
  -- in either case
  put-by : (b : Bool) → nat_lt i (length cells) ≡ b
      → IsPut cells (elim b [ true ↦ with_words cells i first second | false ↦ with_cell cells first second ]) i first second
  put-by true is =
      let there : i < length cells = ltb-true i (length cells) is in
      let written : IsWritten cells (with_words cells i first second) i first second = is-written cells i there first second in record {
        first_is = written.first_is;
        second_is = written.second_is;
        others = written.others;
        length_is = omega (arith, written.length_same, there);
        link = λ lt. written.links i;
      }
  put-by false is =
      let x : LinkedCell = record { first = first; second = second; link = length cells } in
      let last : length cells ≡ i = omega (arith, ltb-false i (length cells) is, next) in record {
        first_is = ap (λ (c : LinkedCell). c.first) (get_or_push cells x no_cell i last);
        second_is = ap (λ (c : LinkedCell). c.second) (get_or_push cells x no_cell i last);
        others = others;
        length_is = omega (arith, length_push cells x, last);
        link = λ lt. absurd (omega (arith, lt, last));
      }
    where
      others : (j : ℕ) → j ≢ i → cell_at (with_cell cells first second) j ≡ cell_at cells j
      others j other =
          let x : LinkedCell = record { first = first; second = second; link = length cells } in elim (cases_lt j (length cells)) [
            | inl lt ↦ get_or_append_left cells (x ∷ []) no_cell j lt
            | inr le ↦ get_or_past (cells ++ x ∷ []) j no_cell (omega (arith, length_push cells x, le, other, ltb-false i (length cells) is, next))
                ∙ sym (get_or_past cells j no_cell le)
          ]

  -- a cell is put
  pub is-put : IsPut cells (with_put cells i first second) i first second
  is-put = put-by (nat_lt i (length cells)) refl

-- a cell that is there is put
pub is-set : (cells : List LinkedCell) (i first second : ℕ) → i < length cells → IsPut cells (with_words cells i first second) i first second
is-set cells i first second there = put-by cells i first second (omega (arith, there)) true (lt-ltb i (length cells) there)

-- none is put
pub none-put : (old : List LinkedCell) (a : ℕ) (words : List ℕ) → a ≤ length old → ArePut old old a words 0
none-put old a words next = record {
  length_is = omega (arith, next);
  first = λ i lt. absurd (omega (arith, lt));
  second = λ i lt. absurd (omega (arith, lt));
  before = λ j lt. refl;
  after = λ j le. refl;
}

-- one more is put
pub one-more-put : {old mid new : List LinkedCell} {a : ℕ} {words : List ℕ} {n : ℕ} → ArePut old mid a words n → IsPut mid new (a + n) (slice_index words n) n
    → ArePut old new a words (n + 1)
one-more-put {new = new} {a} {words} {n} put one = record {
  length_is = omega (arith, one.length_is, put.length_is);
  first = λ i lt. elim (cases_eq i n) [
    | inl is ↦ ap (λ (e : ℕ). (cell_at new (a + e)).first) is ∙ one.first_is ∙ ap (slice_index words) (sym is)
    | inr other ↦ ap (λ (c : LinkedCell). c.first) (one.others (a + i) (omega (arith, other))) ∙ put.first i (omega (arith, lt, other))
  ];
  second = λ i lt. elim (cases_eq i n) [
    | inl is ↦ ap (λ (e : ℕ). (cell_at new (a + e)).second) is ∙ one.second_is ∙ sym is
    | inr other ↦ ap (λ (c : LinkedCell). c.second) (one.others (a + i) (omega (arith, other))) ∙ put.second i (omega (arith, lt, other))
  ];
  before = λ j lt. one.others j (omega (arith, lt)) ∙ put.before j lt;
  after = λ j le. one.others j (omega (arith, le)) ∙ put.after j (omega (arith, le));
}
