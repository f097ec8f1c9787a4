-- Results that are printed, and their marks.
use Rattle.std.proofs.Common.{◌≡◌, ◌≢◌, ◌∙◌, ℕ, zero, suc, ◌==◌, Bool, true, false, List, [], ◌∷◌, ◌++◌, replicate, Some, refl, sym, ap, subst}
use Rattle.std.specs.Prelude.{slice_get, slice_set}
use Rattle.tam_word.specs.Lists.{any_of}
use Rattle.tam_word.proofs.Tests.{number-eq, number-differs}
use Rattle.rv_host.specs.HostStates.{is_printed, AreMarked}

-- what was set at a place stands there
set-same : (marks : List Bool) (k : ℕ) (b c : Bool) → slice_get (slice_set marks k b) k ≡ Some c → b ≡ c
set-same [] k b c there = absurd cc
set-same (m ∷ marks) zero b c there = cc
set-same (m ∷ marks) (suc k) b c there = set-same marks k b c there

-- at other places stands what stood there
set-other : (marks : List Bool) (k j : ℕ) (b : Bool) → k ≢ j → slice_get (slice_set marks k b) j ≡ slice_get marks j
set-other [] k j b differ = refl
set-other (m ∷ marks) zero zero b differ = absurd (differ refl)
set-other (m ∷ marks) zero (suc j) b differ = refl
set-other (m ∷ marks) (suc k) zero b differ = refl
set-other (m ∷ marks) (suc k) (suc j) b differ = set-other marks k j b (λ same. differ (ap suc same))

-- a result that is printed last is printed
printed-last : (printed : List (ℕ × ℕ)) (k w : ℕ) → is_printed (printed ++ (k, w) ∷ []) k ≡ true
printed-last [] k w = go (k == k) refl
  where
    go : (b : Bool) → (k == k) ≡ b → is_printed ((k, w) ∷ []) k ≡ true
    go true e = rw (any_of, e) refl
    go false e = absurd (number-differs k k e refl)
printed-last (kw ∷ printed) k w = go (kw.0 == k) refl (printed-last printed k w)
  where
    go : (b : Bool) → (kw.0 == k) ≡ b → is_printed (printed ++ (k, w) ∷ []) k ≡ true → is_printed (kw ∷ (printed ++ (k, w) ∷ [])) k ≡ true
    go true e i = rw (any_of, e) refl
    go false e i = rw (any_of, e) i

-- any other is printed where it was before
printed-beside : (printed : List (ℕ × ℕ)) (k j w : ℕ) → (k == j) ≡ false → is_printed (printed ++ (k, w) ∷ []) j ≡ is_printed printed j
printed-beside [] k j w differ = rw (any_of, differ) refl
printed-beside (kw ∷ printed) k j w differ = go (kw.0 == j) refl (printed-beside printed k j w differ)
  where
    go : (b : Bool) → (kw.0 == j) ≡ b → is_printed (printed ++ (k, w) ∷ []) j ≡ is_printed printed j
        → is_printed (kw ∷ (printed ++ (k, w) ∷ [])) j ≡ is_printed (kw ∷ printed) j
    go true e i = rw (any_of, any_of, e) refl
    go false e i = rw (any_of, any_of, e) i

-- a result that is printed and marked
pub mark-printed : (marks : List Bool) (printed : List (ℕ × ℕ)) (k w : ℕ) → AreMarked marks printed
    → AreMarked (slice_set marks k true) (printed ++ (k, w) ∷ [])
mark-printed marks printed k w are j b there = go (k == j) refl
  where
    go : (t : Bool) → (k == j) ≡ t → is_printed (printed ++ (k, w) ∷ []) j ≡ b
    go true e =
        let same : k ≡ j = number-eq k j e in
        subst (λ (n : ℕ). is_printed (printed ++ (k, w) ∷ []) n ≡ b) same
        (printed-last printed k w
        ∙ set-same marks k true b (subst (λ (n : ℕ). slice_get (slice_set marks k true) n ≡ Some b) (sym same) there))
    go false e = printed-beside printed k j w e ∙ are j b (sym (set-other marks k j true (number-differs k j e)) ∙ there)

-- where nothing was printed, nothing is marked
pub none-marked : (n : ℕ) → AreMarked (replicate n false) []
none-marked zero k b there = absurd cc
none-marked (suc n) zero b there = cc
none-marked (suc n) (suc k) b there = none-marked n k b there
