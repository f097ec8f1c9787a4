-- A run moved in front of what stands between it and an earlier run, and merged into that by a sort.
use Rattle.std.proofs.Common.{◌≡◌, ℕ, ◌+◌, ◌-◌, ◌≤◌, List, ◌++◌, sym, ap, ap₂, subst, ◌∙◌, arith, length, take, drop}
use Rattle.std.proofs.Common.{append_assoc, length-append, length-drop, length-take-le}
use Rattle.std.specs.Prelude.{slice_range}
use Rattle.std.specs.List.Sorted.{IsPermutation, IsNonDecreasingBy}
use Rattle.std.proofs.lemmas.List.{take_at, drop_at, drop-drop, take-append-drop}
use borrow.Rule.Slice.PartMut.{put_mid, mid_of}
use Rattle.tam_word.specs.Lists.{merge_rising}
use Rattle.tam_word.proofs.Members.{in-has}
use Rattle.tam_split.specs.KeptParts.{AreApart, with_joined}
use Rattle.tam_split.proofs.Rising.{sort-merges}

-- a list in five pieces: what stands in front of a first run, the run, what stands between, a second run, the rest
module _ (w xs p m q ys : List ℕ) (is : w ≡ xs ++ (p ++ (m ++ (q ++ ys)))) (from middle start end : ℕ)
    (e1 : length xs ≡ from) (e2 : from + length p ≡ middle) (e3 : middle + length m ≡ start) (e4 : start + length q ≡ end) where
  -- the first run ends there
  long : length (xs ++ p) ≡ middle
  long = omega (arith, length-append xs p)

  -- what stands in front of its end
  before : take middle w ≡ xs ++ p
  before = ap (take middle) (is ∙ sym (append_assoc xs p (m ++ (q ++ ys)))) ∙ take_at (xs ++ p) (m ++ (q ++ ys)) middle long

  -- what stands behind it
  behind : drop middle w ≡ (m ++ q) ++ ys
  behind = ap (drop middle) (is ∙ sym (append_assoc xs p (m ++ (q ++ ys)))) ∙ (drop_at (xs ++ p) (m ++ (q ++ ys)) middle long ∙ sym (append_assoc m q ys))

  -- the part that is turned
  part : mid_of middle (end - middle) w ≡ m ++ q
  part = ap (take (end - middle)) behind ∙ take_at (m ++ q) ys (end - middle) (omega (arith, length-append m q))

  -- the rest
  rest : drop (end - middle) (drop middle w) ≡ ys
  rest = ap (drop (end - middle)) behind ∙ drop_at (m ++ q) ys (end - middle) (omega (arith, length-append m q))

  -- the part, turned
  turned : (t : List ℕ) → t ≡ drop (start - middle) (mid_of middle (end - middle) w) ++ take (start - middle) (mid_of middle (end - middle) w) → t ≡ q ++ m
  turned t h =
      h ∙ ap₂ (λ a b. a ++ b) (ap (drop (start - middle)) part ∙ drop_at m q (start - middle) (omega arith))
      (ap (take (start - middle)) part ∙ take_at m q (start - middle) (omega arith))

  -- the list behind the turn
  abbrev after_turn : List ℕ
  after_turn = xs ++ ((p ++ q) ++ (m ++ ys))

  turn : (t : List ℕ) → t ≡ q ++ m → put_mid middle (end - middle) w t ≡ after_turn
  turn t h =
      let cut : put_mid middle (end - middle) w t ≡ (xs ++ p) ++ ((q ++ m) ++ ys) = ap₂ (λ a b. a ++ b) before (ap₂ (λ a b. a ++ b) h rest) in
      let regroup : (xs ++ p) ++ ((q ++ m) ++ ys) ≡ xs ++ ((p ++ q) ++ (m ++ ys)) = simp append_assoc in cut ∙ regroup

  -- the part that is sorted
  sorted-part : (k : ℕ) → k ≡ middle + (end - start) - from → mid_of from k after_turn ≡ p ++ q
  sorted-part k h =
      ap (take k) (drop_at xs ((p ++ q) ++ (m ++ ys)) from e1) ∙ take_at (p ++ q) (m ++ ys) k (omega (arith, length-append p q))

  -- the list behind the sort
  put-sorted : (k : ℕ) → k ≡ middle + (end - start) - from → (zs : List ℕ) → put_mid from k after_turn zs ≡ xs ++ (zs ++ (m ++ ys))
  put-sorted k h zs =
      ap₂ (λ a b. a ++ (zs ++ b)) (take_at xs ((p ++ q) ++ (m ++ ys)) from e1)
      (ap (drop k) (drop_at xs ((p ++ q) ++ (m ++ ys)) from e1) ∙ drop_at (p ++ q) (m ++ ys) k (omega (arith, length-append p q)))

  -- all together
  pub pieces-joined : (k : ℕ) → k ≡ middle + (end - start) - from → AreApart p q → (t zs : List ℕ)
      → t ≡ drop (start - middle) (mid_of middle (end - middle) w) ++ take (start - middle) (mid_of middle (end - middle) w)
      → IsPermutation (mid_of from k (put_mid middle (end - middle) w t)) zs → IsNonDecreasingBy (λ x. x) zs
      → put_mid from k (put_mid middle (end - middle) w t) zs ≡ xs ++ (merge_rising p q ++ (m ++ ys))
  pieces-joined k h apart t zs at moved sorted =
      let v : put_mid middle (end - middle) w t ≡ after_turn = turn t (turned t at) in
      let runs : IsPermutation (p ++ q) zs = subst (λ l. IsPermutation l zs) (ap (mid_of from k) v ∙ sorted-part k h) moved in
      let same : zs ≡ merge_rising p q =
      sort-merges p q zs apart.first apart.second (λ z i j. apart.none_in_both z (in-has p z i) (in-has q z j)) runs sorted in
      ap (λ l. put_mid from k l zs) v ∙ (put-sorted k h zs ∙ ap (λ l. xs ++ (l ++ (m ++ ys))) same)

-- a list from a place on, cut at a later one
cut-again : (w : List ℕ) (i j : ℕ) → i ≤ j → drop i w ≡ slice_range w i j ++ drop j w
cut-again w i j h =
    let e : i + (j - i) ≡ j = omega arith in
    sym (ap (λ l. slice_range w i j ++ l) (ap (λ n. drop n w) (sym e) ∙ sym (drop-drop (j - i) i w)) ∙ take-append-drop (j - i) (drop i w))

-- a piece is as long as its bounds say
length-piece : (w : List ℕ) (i j : ℕ) → i ≤ j → j ≤ length w → i + length (slice_range w i j) ≡ j
length-piece w i j h l =
    let n : j - i ≤ length (drop i w) = omega (arith, length-drop i w) in let e : length (slice_range w i j) ≡ j - i = length-take-le (j - i)
    (drop i w) n in omega arith

-- the runs between these bounds are joined
pub runs-joined : (w : List ℕ) (from middle start end : ℕ) → from ≤ middle → middle ≤ start → start ≤ end → end ≤ length w
    → AreApart (slice_range w from middle) (slice_range w start end) → (k : ℕ) → k ≡ middle + (end - start) - from → (t zs : List ℕ)
    → t ≡ drop (start - middle) (mid_of middle (end - middle) w) ++ take (start - middle) (mid_of middle (end - middle) w)
    → IsPermutation (mid_of from k (put_mid middle (end - middle) w t)) zs → IsNonDecreasingBy (λ x. x) zs
    → put_mid from k (put_mid middle (end - middle) w t) zs ≡ with_joined w from middle start end
runs-joined w from middle start end a b c d apart k h t zs at moved sorted =
    let p = slice_range w from middle in
    let m = slice_range w middle start in
    let q = slice_range w start end in
    let is : w ≡ take from w ++ (p ++ (m ++ (q ++ drop end w))) =
    sym (take-append-drop from w)
    ∙ ap (λ l. take from w ++ l) (cut-again w from middle a ∙ ap (λ l. p ++ l) (cut-again w middle start b ∙ ap (λ l. m ++ l) (cut-again w start end c))) in
    pieces-joined w (take from w) p m q (drop end w) is from middle start end (length-take-le from w (omega arith)) (length-piece w from middle a (omega arith))
    (length-piece w middle start b (omega arith)) (length-piece w start end c d) k h apart t zs at moved sorted
