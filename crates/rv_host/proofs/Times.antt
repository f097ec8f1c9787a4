-- How often a number stands in a list, where the list gets one more or loses one.
use Rattle.std.proofs.Common.{◌≡◌, ◌≢◌, ◌∙◌, ℕ, suc, ◌+◌, ◌==◌, Bool, true, false, not, List, [], ◌∷◌, ◌++◌, length, filter, refl, sym, ap, arith}
use Rattle.tam_word.specs.Lists.{has, any_of}
use Rattle.tam_word.proofs.Tests.{number-eq, self-eq, differs-number}
use Rattle.rv_host.specs.LiveFrames.{times, once_where}

module _ (x : ℕ) (xs : List ℕ) (f : ℕ) where
  -- a number at the head
  times-here : (x == f) ≡ true → times (x ∷ xs) f ≡ suc (times xs f)
  times-here q = rw (times, q) refl

  -- another there
  times-past : (x == f) ≡ false → times (x ∷ xs) f ≡ times xs f
  times-past q = rw (times, q) refl

-- a number that stands once is there, and one that doesn't stand isn't
pub has-times : (xs : List ℕ) (f : ℕ) (b : Bool) → times xs f ≡ once_where b → has xs f ≡ b
has-times [] f true e = absurd cc
has-times [] f false e = refl
has-times (x ∷ xs) f b e = go (x == f) refl b e (has-times xs f)
  where
    go : (t : Bool) → (x == f) ≡ t → (b : Bool) → times (x ∷ xs) f ≡ once_where b → ((b : Bool) → times xs f ≡ once_where b → has xs f ≡ b)
        → has (x ∷ xs) f ≡ b
    go true q true e rest = rw (any_of, q) refl
    go true q false e rest = let k = sym (times-here x xs f q) ∙ e in absurd cc
    go false q b e rest = rw (any_of, q) (rest b (sym (times-past x xs f q) ∙ e))

-- one more at the end
pub times-same : (xs : List ℕ) (f : ℕ) → times (xs ++ f ∷ []) f ≡ suc (times xs f)
times-same [] f = times-here f [] f (self-eq f)
times-same (x ∷ xs) f = go (x == f) refl (times-same xs f)
  where
    go : (t : Bool) → (x == f) ≡ t → times (xs ++ f ∷ []) f ≡ suc (times xs f) → times (x ∷ (xs ++ f ∷ [])) f ≡ suc (times (x ∷ xs) f)
    go true q e = times-here x (xs ++ f ∷ []) f q ∙ (ap suc e ∙ ap suc (sym (times-here x xs f q)))
    go false q e = times-past x (xs ++ f ∷ []) f q ∙ (e ∙ ap suc (sym (times-past x xs f q)))

-- and another
pub times-other : (xs : List ℕ) (f g : ℕ) → f ≢ g → times (xs ++ f ∷ []) g ≡ times xs g
times-other [] f g d = times-past f [] g (differs-number f g d)
times-other (x ∷ xs) f g d = go (x == g) refl (times-other xs f g d)
  where
    go : (t : Bool) → (x == g) ≡ t → times (xs ++ f ∷ []) g ≡ times xs g → times (x ∷ (xs ++ f ∷ [])) g ≡ times (x ∷ xs) g
    go true q e = times-here x (xs ++ f ∷ []) g q ∙ (ap suc e ∙ sym (times-here x xs g q))
    go false q e = times-past x (xs ++ f ∷ []) g q ∙ (e ∙ sym (times-past x xs g q))

-- the list without a number
abbrev pub without : ℕ → List ℕ → List ℕ
without f xs = filter (λ n. not (n == f)) xs

module _ (x : ℕ) (xs : List ℕ) (f : ℕ) where
  -- the number at the head is left out
  without-here : (x == f) ≡ true → without f (x ∷ xs) ≡ without f xs
  without-here q = rw q refl

  -- another isn't
  without-past : (x == f) ≡ false → without f (x ∷ xs) ≡ x ∷ without f xs
  without-past q = rw q refl

-- that number doesn't stand there
pub times-without : (xs : List ℕ) (f : ℕ) → times (without f xs) f ≡ 0
times-without [] f = refl
times-without (x ∷ xs) f = go (x == f) refl (times-without xs f)
  where
    go : (t : Bool) → (x == f) ≡ t → times (without f xs) f ≡ 0 → times (without f (x ∷ xs)) f ≡ 0
    go true q e = ap (λ (l : List ℕ). times l f) (without-here x xs f q) ∙ e
    go false q e = ap (λ (l : List ℕ). times l f) (without-past x xs f q) ∙ (times-past x (without f xs) f q ∙ e)

-- the others stand as often
pub times-left : (xs : List ℕ) (f g : ℕ) → f ≢ g → times (without f xs) g ≡ times xs g
times-left [] f g d = refl
times-left (x ∷ xs) f g d = go (x == f) refl (x == g) refl (times-left xs f g d)
  where
    go : (t : Bool) → (x == f) ≡ t → (u : Bool) → (x == g) ≡ u → times (without f xs) g ≡ times xs g
        → times (without f (x ∷ xs)) g ≡ times (x ∷ xs) g
    go true q true r e = absurd (d (sym (number-eq x f q) ∙ number-eq x g r))
    go true q false r e = ap (λ (l : List ℕ). times l g) (without-here x xs f q) ∙ (e ∙ sym (times-past x xs g r))
    go false q true r e =
        ap (λ (l : List ℕ). times l g) (without-past x xs f q) ∙ (times-here x (without f xs) g r ∙ (ap suc e ∙ sym (times-here x xs g r)))
    go false q false r e =
        ap (λ (l : List ℕ). times l g) (without-past x xs f q) ∙ (times-past x (without f xs) g r ∙ (e ∙ sym (times-past x xs g r)))

-- as many are left as didn't stand there
pub length-without : (xs : List ℕ) (f : ℕ) → length (without f xs) + times xs f ≡ length xs
length-without [] f = refl
length-without (x ∷ xs) f = go (x == f) refl (length-without xs f)
  where
    go : (t : Bool) → (x == f) ≡ t → length (without f xs) + times xs f ≡ length xs → length (without f (x ∷ xs)) + times (x ∷ xs) f ≡ length (x ∷ xs)
    go true q e =
        let l : length (without f (x ∷ xs)) ≡ length (without f xs) = ap length (without-here x xs f q) in
        let t = times-here x xs f q in
        omega (arith, l, t, e)
    go false q e =
        let l : length (without f (x ∷ xs)) ≡ suc (length (without f xs)) = ap length (without-past x xs f q) in
        let t = times-past x xs f q in
        omega (arith, l, t, e)
