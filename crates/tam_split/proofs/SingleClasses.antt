-- One class for each place: how the classes are stored, and that the type keeps what it keeps.
use Rattle.std.proofs.Common.{◌≡◌, ℕ, zero, suc, ◌+◌, ◌<◌, ◌≤◌, true, nat_lt, List, [], ◌∷◌, ◌++◌, refl, sym, ap, subst, ◌∙◌, arith, inl, inr}
use Rattle.std.proofs.Common.{length, map, add-one}
use Rattle.std.specs.List.{concat}
use Rattle.std.proofs.lemmas.List.{map-append}
use Rattle.tam_word.specs.Lists.{below}
use Rattle.tam_word.proofs.Members.{In, in-all, in-map, in-below, in-append}
use Rattle.tam_split.specs.Partitions.{single}
use Rattle.tam_split.specs.KeptParts.{is_rising, HaveEach, AreClasses, AreFlat, cut_from, ends_from}
use Rattle.tam_split.proofs.Partitioning.{length-below, single-parts}
use Rattle.tam_split.proofs.Rising.{rising-cons, head-below, tail-rising}
use Rattle.tam_split.proofs.Flat.{concat-append, ends-append, cut-all}
use Rattle.tam_split.proofs.Merged.{parts-each}
use Rattle.tam_split.proofs.LeastPlaces.{least}

-- one place more
single-more : (n : ℕ) → single (suc n) ≡ single n ++ (n ∷ []) ∷ []
single-more n = map-append (λ (x : ℕ). x ∷ []) (below n) (n ∷ [])

-- the places of all classes
pub concat-single : (n : ℕ) → concat (single n) ≡ below n
concat-single zero = refl
concat-single (suc n) = ap concat (single-more n) ∙ (concat-append (single n) ((n ∷ []) ∷ []) ∙ ap (λ xs. xs ++ n ∷ []) (concat-single n))

-- one end more
pub ends-more : (n : ℕ) → ends_from 0 (single (n + 1)) ≡ ends_from 0 (single n) ++ (n + 1) ∷ []
ends-more n =
    let long : 0 + length (concat (single n)) + 1 ≡ n + 1 = omega (arith, ap length (concat-single n), length-below n) in
    ap (λ m. ends_from 0 (single m)) (add-one n)
    ∙ (ap (ends_from 0) (single-more n) ∙ (ends-append 0 (single n) ((n ∷ []) ∷ []) ∙ ap (λ m. ends_from 0 (single n) ++ m ∷ []) long))

-- one place more
pub places-more : (n : ℕ) → below (n + 1) ≡ below n ++ n ∷ []
places-more n = ap below (add-one n)

-- one more behind a rising list that is below it
rising-push : (xs : List ℕ) (y : ℕ) → is_rising xs ≡ true → ((x : ℕ) → In x xs → x < y) → is_rising (xs ++ y ∷ []) ≡ true
rising-push [] y h f = refl
rising-push (x ∷ xs) y h f =
    rising-cons x (xs ++ y ∷ []) (λ z i. elim (in-append z xs (y ∷ []) i) [ inl j ↦ head-below x xs h z j | inr j ↦ last z j ])
    (rising-push xs y (tail-rising x xs h) (λ z i. f z (inr i)))
  where
    last : (z : ℕ) → In z (y ∷ []) → x < z
    last z (inl e) = subst (λ w. x < w) e (f x (inl refl))
    last z (inr b) = absurd b

-- the numbers below n rise
pub rising-below : (n : ℕ) → is_rising (below n) ≡ true
rising-below zero = refl
rising-below (suc n) = rising-push (below n) n (rising-below n) (λ x i. in-below x n i)

-- the least places are the places
least-single : (n : ℕ) → map least (single n) ≡ below n
least-single n = go (below n)
  where
    go : (xs : List ℕ) → map least (map (λ x. x ∷ []) xs) ≡ xs
    go [] = refl
    go (x ∷ xs) = ap (λ ys. x ∷ ys) (go xs)

-- the type keeps what it keeps
single-kept : (n : ℕ) → n ≤ 512 → AreClasses (single n)
single-kept n few =
    let long : length (concat (single n)) ≡ n = ap length (concat-single n) ∙ length-below n in record {
      few = omega arith;
      each_once = subst (λ m. HaveEach m (single n)) (sym long) (parts-each n (single n) (single-parts n));
      none_empty = in-all (λ (p : List ℕ). nat_lt 0 (length p)) (single n) (λ p i. let r = in-map (λ (x : ℕ). x ∷ []) p (below n) i in
          subst (λ (q : List ℕ). nat_lt 0 (length q) ≡ true) r.2 refl);
      rising = in-all is_rising (single n) (λ p i. let r = in-map (λ (x : ℕ). x ∷ []) p (below n) i in subst (λ q. is_rising q ≡ true) r.2 refl);
      by_least = subst (λ xs. is_rising xs ≡ true) (sym (least-single n)) (rising-below n);
    }

-- the classes as they are stored
pub single-flat : (n : ℕ) → n ≤ 512 → AreFlat (cut_from 0 (below n) (ends_from 0 (single n))) (below n) (ends_from 0 (single n))
single-flat n few =
    subst (λ ps. AreFlat ps (below n) (ends_from 0 (single n))) (sym (single-cut n))
    (record { places_of = sym (concat-single n); ends_of = refl; classes = single-kept n few })
  where
    single-cut : (m : ℕ) → cut_from 0 (below m) (ends_from 0 (single m)) ≡ single m
    single-cut m = subst (λ xs. cut_from 0 xs (ends_from 0 (single m)) ≡ single m) (concat-single m) (cut-all (single m))

-- and cut out again
pub single-back : (n : ℕ) → cut_from 0 (below n) (ends_from 0 (single n)) ≡ single n
single-back m = subst (λ xs. cut_from 0 xs (ends_from 0 (single m)) ≡ single m) (concat-single m) (cut-all (single m))
