-- The pieces of an order's text, one after the other, and the items that they spell.
use Rattle.std.proofs.Common.{◌≡◌, ℕ, zero, suc, ◌+◌, ◌-◌, ◌≤◌, Bool, true, false, not, ltb, eqb, cond, List, [], ◌∷◌, ◌++◌, length}
use Rattle.std.proofs.Common.{take, drop, get_or, Option, Some, None, Result, Ok, Err, refl, sym, ap, ◌∙◌, arith, append_assoc}
use Rattle.std.specs.Prelude.{MatchOption}
use Rattle.std.specs.List.{slice_split, onto_first, position, position_or_len}
use Rattle.std.proofs.lemmas.Bool.{ltb-true, ltb-false, eqb-true}
use Rattle.std.proofs.lemmas.List.{take_all, length-drop}
use Rattle.std.proofs.lemmas.List.Splits.{slice_split_first}
use Rattle.tam_msgs.specs.declared.item.Item.{Item}
use Rattle.tam_msgs.specs.Orders.{item_of, item_before, items_from, without_last_line_feed}

-- ---- pieces

-- where no element passes, the list is the one part
one_part : {X : Type 0} (p : X → Bool) (xs : List X) → length xs ≤ position_or_len p xs → slice_split p xs ≡ xs ∷ []
one_part p [] h = refl
one_part p (x ∷ xs) h = go (p x) h (one_part p xs)
  where
    go : (t : Bool) → length (x ∷ xs) ≤ cond (not t) (1 + position_or_len p xs) 0 → (length xs ≤ position_or_len p xs → slice_split p xs ≡ xs ∷ [])
        → cond t ([] ∷ slice_split p xs) (onto_first x (slice_split p xs)) ≡ (x ∷ xs) ∷ []
    go true l i = absurd (omega arith)
    go false l i = ap (onto_first x) (i (omega arith))

-- what stands behind the first n + 1 elements
behind : {X : Type 0} (xs : List X) (n : ℕ) → take (length xs - (n + 1)) (drop (n + 1) xs) ≡ drop (n + 1) xs
behind xs n = take_all (length xs - (n + 1)) (drop (n + 1) xs) (simp length-drop (omega arith))

-- the parts by the place of the first element that passes
pub parts_at : {X : Type 0} (p : X → Bool) (xs : List X) (place : Option ℕ) (d : X) → place ≡ position p xs
    → MatchOption place (slice_split p xs ≡ xs ∷ []) (λ n. slice_split p xs ≡ take n xs ∷ slice_split p (take (length xs - (n + 1)) (drop (n + 1) xs)))
parts_at {X = X} p xs place d e = go (ltb (position_or_len p xs) (length xs)) refl place e
  where
    go : (t : Bool) → ltb (position_or_len p xs) (length xs) ≡ t → (r : Option ℕ) → r ≡ cond t (Some (position_or_len p xs)) None
        → MatchOption r (slice_split p xs ≡ xs ∷ []) (λ n. slice_split p xs ≡ take n xs ∷ slice_split p (take (length xs - (n + 1)) (drop (n + 1) xs)))
    go true b None f = absurd cc
    go true b (Some n) f =
        let here : n ≡ position_or_len p xs = cc in
        let first = slice_split_first p xs d (ltb-true (position_or_len p xs) (length xs) b) in
        rw here (first ∙ ap (λ (ys : List X). take (position_or_len p xs) xs ∷ slice_split p ys) (sym (behind xs (position_or_len p xs))))
    go false b None f = one_part p xs (ltb-false (position_or_len p xs) (length xs) b)
    go false b (Some n) f = absurd cc

-- ---- the last line feed

-- where the last byte is LF, all before it are left
pub last_dropped : (bs : List ℕ) (n : ℕ) → length bs ≡ n + 1 → get_or bs n 0 ≡ 10 → take n bs ≡ without_last_line_feed bs
last_dropped [] n l e = absurd (omega arith)
last_dropped (b ∷ []) zero l e = rw e refl
last_dropped (b ∷ []) (suc n) l e = absurd (omega arith)
last_dropped (b ∷ c ∷ bs) zero l e = absurd (omega arith)
last_dropped (b ∷ c ∷ bs) (suc n) l e = ap (λ (xs : List ℕ). b ∷ xs) (last_dropped (c ∷ bs) n (omega arith) e)

-- where it isn't, all are
pub last_kept : (bs : List ℕ) (n : ℕ) → length bs ≡ n + 1 → (get_or bs n 0 ≡ 10 → ⊥) → bs ≡ without_last_line_feed bs
last_kept [] n l e = absurd (omega arith)
last_kept (b ∷ []) zero l e = go (eqb b 10) refl
  where
    go : (t : Bool) → eqb b 10 ≡ t → b ∷ [] ≡ (elim t [ true ↦ [] | false ↦ b ∷ [] ])
    go true f = absurd (e (eqb-true b 10 f))
    go false f = refl
last_kept (b ∷ []) (suc n) l e = absurd (omega arith)
last_kept (b ∷ c ∷ bs) zero l e = absurd (omega arith)
last_kept (b ∷ c ∷ bs) (suc n) l e = ap (λ (xs : List ℕ). b ∷ xs) (last_kept (c ∷ bs) n (omega arith) e)

-- ---- items

-- items before those that are read behind them
abbrev pub items_before : List Item → Result (List Item) ℕ → Result (List Item) ℕ
items_before done (Ok items) = Ok (done ++ items)
items_before done (Err place) = Err place

-- one item more before the others
item_more : (done : List Item) (item : Item) (r : Result (List Item) ℕ) → items_before done (item_before item r) ≡ items_before (done ++ item ∷ []) r
item_more done item (Ok items) = ap (λ (xs : List Item). Ok xs) (sym (append_assoc done (item ∷ []) items))
item_more done item (Err place) = refl

-- a piece that spells an item
pub piece_read : (done : List Item) (piece : List ℕ) (pieces : List (List ℕ)) (item : Item) (n : ℕ) → Some item ≡ item_of piece
    → items_before done (items_from n (piece ∷ pieces)) ≡ items_before (done ++ item ∷ []) (items_from (suc n) pieces)
piece_read done piece pieces item n e = go (item_of piece) e
  where
    go : (o : Option Item) → Some item ≡ o → items_before done (elim o [ None ↦ Err n | Some i ↦ item_before i (items_from (suc n) pieces) ])
        ≡ items_before (done ++ item ∷ []) (items_from (suc n) pieces)
    go None f = absurd cc
    go (Some i) f = let same : i ≡ item = cc in rw same (item_more done item (items_from (suc n) pieces))
