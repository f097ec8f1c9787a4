-- The least places of classes, rising: what is taken out of a rising list, and what the first of two merged classes begins with.
use Rattle.std.proofs.Common.{◌≡◌, ℕ, ◌<◌, true, List, [], ◌∷◌, ◌++◌, refl, sym, ap, subst, ◌∙◌, arith, inl, inr, ◌⊎◌}
use Rattle.std.proofs.Common.{length, map}
use Rattle.std.proofs.Common.{append_assoc}
use Rattle.std.specs.Prelude.{slice_index}
use Rattle.std.proofs.lemmas.List.{map-append}
use Rattle.tam_word.specs.Lists.{merge_rising}
use Rattle.tam_word.proofs.Members.{In, in-append, left-in, right-in}
use Rattle.tam_split.specs.Partitions.{Parts}
use Rattle.tam_split.specs.KeptParts.{is_rising}
use Rattle.tam_split.proofs.Rising.{head-below, tail-rising, rising-cons, merge-least}

-- a rising list without one of its numbers
rising-without : (xs : List ℕ) (y : ℕ) (ys : List ℕ) → is_rising (xs ++ y ∷ ys) ≡ true → is_rising (xs ++ ys) ≡ true
rising-without [] y ys h = tail-rising y ys h
rising-without (x ∷ xs) y ys h =
    rising-cons x (xs ++ ys) (λ z i. head-below x (xs ++ y ∷ ys) h z (still z (in-append z xs ys i))) (rising-without xs y ys (tail-rising x (xs ++ y ∷ ys) h))
  where
    still : (z : ℕ) → In z xs ⊎ In z ys → In z (xs ++ y ∷ ys)
    still z (inl i) = left-in z xs (y ∷ ys) i
    still z (inr i) = right-in z xs (y ∷ ys) (inr i)

-- what stands behind a number is above it
rising-behind : (xs : List ℕ) (x : ℕ) (ys : List ℕ) → is_rising (xs ++ x ∷ ys) ≡ true → (y : ℕ) → In y ys → x < y
rising-behind [] x ys h y i = head-below x ys h y i
rising-behind (w ∷ xs) x ys h y i = rising-behind xs x ys (tail-rising w (xs ++ x ∷ ys) h) y i

-- the first place of a class
abbrev pub least : List ℕ → ℕ
least p = slice_index p 0

-- the least place of two merged classes is that of the one with the lower least place
merged-least : (p q : List ℕ) → is_rising p ≡ true → is_rising q ≡ true → 0 < length p → 0 < length q → least p < least q → least (merge_rising p q) ≡ least p
merged-least [] q u v a b l = absurd (omega arith)
merged-least (x ∷ xs) [] u v a b l = absurd (omega arith)
merged-least (x ∷ xs) (y ∷ ys) u v a b l =
    ap least (merge-least x xs (y ∷ ys) u (λ z i. elim i [ inl e ↦ subst (λ w. x < w) e l | inr j ↦ (let m : y < z = head-below y ys v z j in omega arith) ]))

-- the classes are still ordered by their least places when a later class is put into an earlier one
pub least-merged : (ps : Parts) (p : List ℕ) (ms : Parts) (q : List ℕ) (qs : Parts) → is_rising p ≡ true → is_rising q ≡ true → 0 < length p → 0 < length q
    → is_rising (map least (ps ++ p ∷ (ms ++ q ∷ qs))) ≡ true → is_rising (map least (ps ++ merge_rising p q ∷ (ms ++ qs))) ≡ true
least-merged ps p ms q qs u v a b h =
    let cut : map least (ps ++ p ∷ (ms ++ q ∷ qs)) ≡ map least ps ++ least p ∷ (map least ms ++ least q ∷ map least qs) =
    map-append least ps (p ∷ (ms ++ q ∷ qs)) ∙ ap (λ xs. map least ps ++ least p ∷ xs) (map-append least ms (q ∷ qs)) in
    let rises : is_rising (map least ps ++ least p ∷ (map least ms ++ least q ∷ map least qs)) ≡ true = subst (λ xs. is_rising xs ≡ true) cut h in
    let low : least p < least q = rising-behind (map least ps) (least p) (map least ms ++ least q ∷ map least qs) rises (least q)
    (right-in (least q) (map least ms) (least q ∷ map least qs) (inl refl)) in
    let same : least (merge_rising p q) ≡ least p = merged-least p q u v a b low in
    let left : is_rising (map least ps ++ least p ∷ (map least ms ++ map least qs)) ≡ true = without (map least ps) (least p) (map least ms) (least q)
    (map least qs) rises in
    let back : map least ps ++ least p ∷ (map least ms ++ map least qs) ≡ map least (ps ++ merge_rising p q ∷ (ms ++ qs)) =
    ap (λ w. map least ps ++ w ∷ (map least ms ++ map least qs)) (sym same)
    ∙ (ap (λ xs. map least ps ++ least (merge_rising p q) ∷ xs) (sym (map-append least ms qs)) ∙ sym (map-append least ps (merge_rising p q ∷ (ms ++ qs)))) in
    subst (λ xs. is_rising xs ≡ true) back left
  where
    without : (xs : List ℕ) (x : ℕ) (ys : List ℕ) (y : ℕ) (zs : List ℕ) → is_rising (xs ++ x ∷ (ys ++ y ∷ zs)) ≡ true → is_rising (xs ++ x ∷ (ys ++ zs)) ≡ true
    without xs x ys y zs r =
        let near : is_rising ((xs ++ x ∷ ys) ++ y ∷ zs) ≡ true = subst (λ ws. is_rising ws ≡ true) (sym (append_assoc xs (x ∷ ys) (y ∷ zs))) r in
        subst (λ ws. is_rising ws ≡ true) (append_assoc xs (x ∷ ys) zs) (rising-without (xs ++ x ∷ ys) y zs near)
