-- Names that differ, and what is found among labels.
use Rattle.std.proofs.Common.{◌≡◌, ℕ, Bool, true, false, List, [], ◌∷◌, ◌++◌, map, Option, Some, is_some, refl, sym, subst, ◌∙◌, true≢false}
use Rattle.tam_word.specs.Lists.{any_of, all_differ, same_bytes}
use Rattle.tam_text.proofs.SameBytes.{same_equal, same_self}
use Rattle.rv_asm.specs.Faults.{Labels, found}

-- the names of labels
abbrev pub names : Labels → List (List ℕ)
names ls = map (λ l. l.0) ls

-- a label is found where its name is among those
by_test : (t : Bool) (n : ℕ) (o : Option ℕ) (u : Bool) → is_some o ≡ u → is_some (elim t [ true ↦ Some n | false ↦ o ]) ≡ elim t [ true ↦ true | false ↦ u ]
by_test true n o u e = refl
by_test false n o u e = e

-- among labels
pub found-among : (name : List ℕ) (ls : Labels) → is_some (found name ls) ≡ any_of (same_bytes name) (names ls)
found-among name [] = refl
found-among name (l ∷ ls) = by_test (same_bytes name l.0) l.1 (found name ls) (any_of (same_bytes name) (names ls)) (found-among name ls)

-- where none passes, neither does the first, nor one behind it
none_of_both : (t u : Bool) → (elim t [ true ↦ true | false ↦ u ]) ≡ false → (t ≡ false) × (u ≡ false)
none_of_both true u e = absurd (true≢false e)
none_of_both false u e = (refl, e)

-- and back
neither : (t u : Bool) → t ≡ false → u ≡ false → (elim t [ true ↦ true | false ↦ u ]) ≡ false
neither true u e f = absurd (true≢false e)
neither false u e f = f

-- the same the other way round
pub other_way : (x y : List ℕ) → same_bytes x y ≡ false → same_bytes y x ≡ false
other_way x y e = go (same_bytes y x) refl
  where
    go : (t : Bool) → same_bytes y x ≡ t → same_bytes y x ≡ false
    go false p = p
    go true p =
        let is : y ≡ x = same_equal y x p in
        let self : same_bytes x y ≡ true = subst (λ (z : List ℕ). same_bytes x z ≡ true) (sym is) (same_self x) in
        absurd (true≢false (sym self ∙ e))

-- none passes with one more behind that doesn't
none_with : (test : List ℕ → Bool) (xs : List (List ℕ)) (x : List ℕ) → any_of test xs ≡ false → test x ≡ false → any_of test (xs ++ x ∷ []) ≡ false
none_with test [] x e f = neither (test x) false f refl
none_with test (y ∷ xs) x e f =
    let p = none_of_both (test y) (any_of test xs) e in neither (test y) (any_of test (xs ++ x ∷ [])) p.0 (none_with test xs x p.1 f)

-- where none passes, one in the middle doesn't
none_within : (test : List ℕ → Bool) (xs : List (List ℕ)) (x : List ℕ) (ys : List (List ℕ)) → any_of test (xs ++ x ∷ ys) ≡ false → test x ≡ false
none_within test [] x ys e = (none_of_both (test x) (any_of test ys) e).0
none_within test (y ∷ xs) x ys e = none_within test xs x ys (none_of_both (test y) (any_of test (xs ++ x ∷ ys)) e).1

-- two facts of names that differ
differ_parts : (t u : Bool) → (elim t [ true ↦ false | false ↦ u ]) ≡ true → (t ≡ false) × (u ≡ true)
differ_parts true u e = absurd (true≢false (sym e))
differ_parts false u e = (refl, e)

-- and back
differ_both : (t u : Bool) → t ≡ false → u ≡ true → (elim t [ true ↦ false | false ↦ u ]) ≡ true
differ_both true u e f = absurd (true≢false e)
differ_both false u e f = f

-- a new name behind names that differ
pub differ_with : (xs : List (List ℕ)) (x : List ℕ) → all_differ same_bytes xs ≡ true → any_of (same_bytes x) xs ≡ false
    → all_differ same_bytes (xs ++ x ∷ []) ≡ true
differ_with [] x d n = refl
differ_with (y ∷ xs) x d n =
    let p = differ_parts (any_of (same_bytes y) xs) (all_differ same_bytes xs) d in
    let q = none_of_both (same_bytes x y) (any_of (same_bytes x) xs) n in
    differ_both (any_of (same_bytes y) (xs ++ x ∷ [])) (all_differ same_bytes (xs ++ x ∷ [])) (none_with (same_bytes y) xs x p.0 (other_way x y q.0))
    (differ_with xs x p.1 q.1)

-- a name among names that differ isn't one of those before it
pub new_within : (xs : List (List ℕ)) (x : List ℕ) (ys : List (List ℕ)) → all_differ same_bytes (xs ++ x ∷ ys) ≡ true → any_of (same_bytes x) xs ≡ false
new_within [] x ys d = refl
new_within (y ∷ xs) x ys d =
    let p = differ_parts (any_of (same_bytes y) (xs ++ x ∷ ys)) (all_differ same_bytes (xs ++ x ∷ ys)) d in
    neither (same_bytes x y) (any_of (same_bytes x) xs) (other_way y x (none_within (same_bytes y) xs x ys p.0)) (new_within xs x ys p.1)
