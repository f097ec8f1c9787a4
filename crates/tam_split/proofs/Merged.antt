-- Two classes merged: what it does to the classes, and to the list in which they are stored.
use Rattle.std.proofs.Common.{◌≡◌, ℕ, suc, ◌+◌, ◌<◌, Bool, true, nat_lt, List, [], ◌∷◌, ◌++◌, refl, sym, ap, subst, ◌∙◌}
use Rattle.std.proofs.Common.{arith, inl, inr, ◌⊎◌, length}
use Rattle.std.proofs.Common.{append_assoc, length-append}
use Rattle.std.specs.List.{concat}
use Rattle.tam_word.specs.Lists.{all_of, has, merge_rising, without_place, changed_at}
use Rattle.tam_word.proofs.Tests.{below-test, test-below}
use Rattle.tam_word.proofs.Members.{In, in-has, has-in, all-in, in-all, left-in, right-in, in-append}
use Rattle.tam_split.specs.Partitions.{Parts, class_at, merged}
use Rattle.tam_split.specs.KeptParts.{is_rising, HaveEach, AreClasses}
use Rattle.tam_split.proofs.Classes.{stands-in, in-class_at, IsParts, merged-parts}
use Rattle.tam_split.proofs.Rising.{merge-rising, length-merge}
use Rattle.tam_split.proofs.Flat.{concat-append}
use Rattle.tam_split.proofs.LeastPlaces.{least-merged}

-- ---- the classes

-- the class behind others
pub class_at-behind : (ps : Parts) (q : List ℕ) (qs : Parts) → class_at (ps ++ q ∷ qs) (length ps) ≡ q
class_at-behind [] q qs = refl
class_at-behind (p ∷ ps) q qs = class_at-behind ps q qs

-- a class taken out
without-behind : (ps : Parts) (q : List ℕ) (qs : Parts) → without_place (length ps) (ps ++ q ∷ qs) ≡ ps ++ qs
without-behind [] q qs = refl
without-behind (p ∷ ps) q qs = ap (λ rs. p ∷ rs) (without-behind ps q qs)

-- a class changed
changed-behind : (f : List ℕ → List ℕ) (ps : Parts) (q : List ℕ) (qs : Parts) → changed_at (length ps) f (ps ++ q ∷ qs) ≡ ps ++ f q ∷ qs
changed-behind f [] q qs = refl
changed-behind f (p ∷ ps) q qs = ap (λ rs. p ∷ rs) (changed-behind f ps q qs)

-- ---- each place once

-- in the words of the laws
each-parts : (n : ℕ) (ps : Parts) → HaveEach n ps → IsParts n ps
each-parts n ps h = record {
  in_one = h.in_one;
  once = λ x k l s t. h.only_one k l x (in-has (class_at ps k) x (stands-in ps k x s)) (in-has (class_at ps l) x (stands-in ps l x t));
  inside = λ k x s. h.inside k x (in-has (class_at ps k) x (stands-in ps k x s));
}

-- and in those of the type
pub parts-each : (n : ℕ) (ps : Parts) → IsParts n ps → HaveEach n ps
parts-each n ps h = record {
  in_one = h.in_one;
  only_one = λ k l x s t. h.once x k l (in-class_at ps k x (has-in (class_at ps k) x s)) (in-class_at ps l x (has-in (class_at ps l) x t));
  inside = λ k x s. h.inside k x (in-class_at ps k x (has-in (class_at ps k) x s));
}

-- ---- two classes merged

-- the places of a later class are put into an earlier one
module _ (ps : Parts) (p : List ℕ) (ms : Parts) (q : List ℕ) (qs : Parts) where
  -- before the merge
  abbrev pub apart : Parts
  apart = ps ++ p ∷ (ms ++ q ∷ qs)

  -- behind it
  abbrev pub united : Parts
  united = ps ++ merge_rising p q ∷ (ms ++ qs)

  -- the number of the later class
  abbrev pub later : ℕ
  later = length ps + suc (length ms)

  -- the classes in front of the later one
  prefix : (r : List ℕ) → ps ++ r ∷ (ms ++ q ∷ qs) ≡ (ps ++ r ∷ ms) ++ q ∷ qs
  prefix r = sym (append_assoc ps (r ∷ ms) (q ∷ qs))

  -- how many there are
  length-prefix : (r : List ℕ) → length (ps ++ r ∷ ms) ≡ later
  length-prefix r = length-append ps (r ∷ ms)

  -- the later class
  pub class_at-later : class_at apart later ≡ q
  class_at-later =
      subst (λ n. class_at apart n ≡ q) (length-prefix p) (subst (λ rs. class_at rs (length (ps ++ p ∷ ms)) ≡ q) (sym (prefix p))
      (class_at-behind (ps ++ p ∷ ms) q qs))

  -- what the merge leaves
  pub merged-is : merged apart (length ps) later ≡ united
  merged-is =
      let changed : changed_at (length ps) (λ r. merge_rising r (class_at apart later)) apart ≡ ps ++ merge_rising p q ∷ (ms ++ q ∷ qs) =
      changed-behind (λ r. merge_rising r (class_at apart later)) ps p (ms ++ q ∷ qs) ∙ ap (λ r. ps ++ merge_rising p r ∷ (ms ++ q ∷ qs)) class_at-later in
      let out : without_place later (ps ++ merge_rising p q ∷ (ms ++ q ∷ qs)) ≡ united =
      subst (λ n. without_place n (ps ++ merge_rising p q ∷ (ms ++ q ∷ qs)) ≡ united) (length-prefix (merge_rising p q))
      (ap (λ rs. without_place (length (ps ++ merge_rising p q ∷ ms)) rs) (prefix (merge_rising p q))
      ∙ (without-behind (ps ++ merge_rising p q ∷ ms) q qs ∙ append_assoc ps (merge_rising p q ∷ ms) qs)) in
      ap (λ rs. without_place later rs) changed ∙ out

  -- the list in which they are stored, in pieces
  pub concat-apart : concat apart ≡ concat ps ++ (p ++ (concat ms ++ (q ++ concat qs)))
  concat-apart = concat-append ps (p ∷ (ms ++ q ∷ qs)) ∙ ap (λ xs. concat ps ++ (p ++ xs)) (concat-append ms (q ∷ qs))

  -- and behind the merge
  pub concat-united : concat united ≡ concat ps ++ (merge_rising p q ++ (concat ms ++ concat qs))
  concat-united = concat-append ps (merge_rising p q ∷ (ms ++ qs)) ∙ ap (λ xs. concat ps ++ (merge_rising p q ++ xs)) (concat-append ms qs)

  -- no place is lost
  length-united : length (concat united) ≡ length (concat apart)
  length-united =
      let a = ap length concat-apart in
      let u = ap length concat-united in
      omega (
        arith,
        length-append (concat ps) (p ++ (concat ms ++ (q ++ concat qs))),
        length-append p (concat ms ++ (q ++ concat qs)),
        length-append (concat ms) (q ++ concat qs),
        length-append q (concat qs),
        length-append (concat ps) (merge_rising p q ++ (concat ms ++ concat qs)),
        length-append (merge_rising p q) (concat ms ++ concat qs),
        length-append (concat ms) (concat qs),
        length-merge p q,
      )

  -- ---- what the type keeps

  -- what each class passes, each does behind the merge, if the merged one does
  pub all-united : (test : List ℕ → Bool) → all_of test apart ≡ true → test (merge_rising p q) ≡ true → all_of test united ≡ true
  all-united test h t = in-all test united each
    where
      old : (r : List ℕ) → In r apart → test r ≡ true
      old r i = all-in test apart h r i

      behind : (r : List ℕ) → In r ms ⊎ In r qs → test r ≡ true
      behind r (inl i) = old r (right-in r ps (p ∷ (ms ++ q ∷ qs)) (inr (left-in r ms (q ∷ qs) i)))
      behind r (inr i) = old r (right-in r ps (p ∷ (ms ++ q ∷ qs)) (inr (right-in r ms (q ∷ qs) (inr i))))

      cases : (r : List ℕ) → In r ps ⊎ In r (merge_rising p q ∷ (ms ++ qs)) → test r ≡ true
      cases r (inl i) = old r (left-in r ps (p ∷ (ms ++ q ∷ qs)) i)
      cases r (inr (inl e)) = subst (λ w. test w ≡ true) e t
      cases r (inr (inr i)) = behind r (in-append r ms qs i)

      each : (r : List ℕ) → In r united → test r ≡ true
      each r i = cases r (in-append r ps (merge_rising p q ∷ (ms ++ qs)) i)

  -- the two classes are among them
  first-among : In p apart
  first-among = right-in p ps (p ∷ (ms ++ q ∷ qs)) (inl refl)

  second-among : In q apart
  second-among = right-in q ps (p ∷ (ms ++ q ∷ qs)) (inr (right-in q ms (q ∷ qs) (inl refl)))

  module _ (kept : AreClasses apart) where
    -- both rise
    pub first-rising : is_rising p ≡ true
    first-rising = all-in is_rising apart kept.rising p first-among

    pub second-rising : is_rising q ≡ true
    second-rising = all-in is_rising apart kept.rising q second-among

    -- they have no place in common
    pub none-in_both : (z : ℕ) → In z p → In z q → ⊥
    none-in_both z i j =
        let e : length ps ≡ later =
        kept.each_once.only_one (length ps) later z (subst (λ xs. has xs z ≡ true) (sym (class_at-behind ps p (ms ++ q ∷ qs))) (in-has p z i))
        (subst (λ xs. has xs z ≡ true) (sym class_at-later) (in-has q z j)) in omega arith

    -- the merged class rises
    merged-rising : is_rising (merge_rising p q) ≡ true
    merged-rising = merge-rising p q first-rising second-rising none-in_both

    -- neither is empty
    first-long : 0 < length p
    first-long = test-below 0 (length p) (all-in (λ (r : List ℕ). nat_lt 0 (length r)) apart kept.none_empty p first-among)

    second-long : 0 < length q
    second-long = test-below 0 (length q) (all-in (λ (r : List ℕ). nat_lt 0 (length r)) apart kept.none_empty q second-among)

    -- nor is the merged one
    merged-long : 0 < length (merge_rising p q)
    merged-long = let a = first-long in omega (arith, length-merge p q, a)

    -- each place still stands in one class
    united-each : HaveEach (length (concat united)) united
    united-each =
        let n = length (concat apart) in
        let long : length apart ≡ length ps + suc (length ms + suc (length qs)) =
        omega (arith, length-append ps (p ∷ (ms ++ q ∷ qs)), length-append ms (q ∷ qs)) in
        let after : IsParts n (merged apart (length ps) later) = merged-parts n apart (each-parts n apart kept.each_once) (length ps) later (omega arith)
        (omega arith) in
        let each : HaveEach n united = parts-each n united (subst (λ rs. IsParts n rs) merged-is after) in
        subst (λ m. HaveEach m united) (sym length-united) each

    -- the type keeps what it keeps
    pub united-kept : AreClasses united
    united-kept = record {
      few = let e = length-united in let f = kept.few in omega arith;
      each_once = united-each;
      none_empty = all-united (λ (r : List ℕ). nat_lt 0 (length r)) kept.none_empty (below-test 0 (length (merge_rising p q)) merged-long);
      rising = all-united is_rising kept.rising merged-rising;
      by_least = least-merged ps p ms q qs first-rising second-rising first-long second-long kept.by_least;
    }
