-- The numbers of frames where one is taken or given back.
use Rattle.std.proofs.Common.{◌≡◌, ◌≢◌, ◌∙◌, ℕ, zero, suc, ◌+◌, ◌-◌, ◌<◌, ◌≤◌, ◌==◌, ◌⊎◌, inl, inr, nat_lt}
use Rattle.std.proofs.Common.{tests, Bool, true, false, List, [], ◌∷◌, ◌++◌, length, replicate, refl, sym, ap, subst, arith}
use Rattle.std.proofs.Common.{true≢false}
use Rattle.std.specs.Prelude.{slice_set}
use Rattle.std.proofs.lemmas.List.{length_push, length-replicate}
use Rattle.tam_word.specs.Lists.{has, any_of}
use Rattle.tam_word.proofs.Tests.{number-eq, number-differs, test-below}
use Rattle.rv_host.specs.LiveFrames.{Numbers, is_marked, marked, times, once_where, AreLive, AreFree, AreNumbers, first_numbers}
use Rattle.rv_host.proofs.Times.{has-times, times-same, times-other, without, times-without, times-left, length-without}

-- a number that is set is marked so
pub marked-same : (marks : List Bool) (f : ℕ) (b : Bool) → f < length marks → is_marked (slice_set marks f b) f ≡ b
marked-same [] f b l = absurd (omega arith)
marked-same (m ∷ marks) zero b l = refl
marked-same (m ∷ marks) (suc f) b l = marked-same marks f b (omega arith)

-- the others as before
pub marked-other : (marks : List Bool) (f g : ℕ) (b : Bool) → f ≢ g → is_marked (slice_set marks f b) g ≡ is_marked marks g
marked-other [] f g b d = refl
marked-other (m ∷ marks) zero zero b d = absurd (d refl)
marked-other (m ∷ marks) zero (suc g) b d = refl
marked-other (m ∷ marks) (suc f) zero b d = refl
marked-other (m ∷ marks) (suc f) (suc g) b d = marked-other marks f g b (λ e. d (ap suc e))

-- a number that is marked may be
pub marked-inside : (marks : List Bool) (f : ℕ) → is_marked marks f ≡ true → f < length marks
marked-inside [] f e = absurd (true≢false (sym e))
marked-inside (m ∷ marks) zero e = omega arith
marked-inside (m ∷ marks) (suc f) e = let i = marked-inside marks f e in omega arith

-- one that is marked is another than one that isn't
marked-differ : (marks : List Bool) (f g : ℕ) → is_marked marks f ≡ true → is_marked marks g ≡ false → f ≢ g
marked-differ marks f g a b e = true≢false (sym a ∙ (ap (is_marked marks) e ∙ b))

-- a number isn't the first of a list in which it doesn't stand
not-first : (g : ℕ) (gs : List ℕ) (f : ℕ) → has (g ∷ gs) f ≡ false → (f ≢ g) × (has gs f ≡ false)
not-first g gs f e = go (g == f) refl e
  where
    go : (t : Bool) → (g == f) ≡ t → has (g ∷ gs) f ≡ false → (f ≢ g) × (has gs f ≡ false)
    go true q e = absurd (true≢false (rw (any_of, q) at e))
    go false q e = (λ s. number-differs g f q (sym s), rw (any_of, q) at e)

-- free numbers stay so where a number that is none of them is marked
free-marked : (marks : List Bool) (used f : ℕ) (free : List ℕ) → has free f ≡ false → AreFree marks used free → AreFree (slice_set marks f true) used free
free-marked marks used f [] n a = tt
free-marked marks used f (g ∷ gs) n a =
    let d = not-first g gs f n in
    (a.0, (marked-other marks f g true d.0 ∙ a.1.0, (a.1.1.0, free-marked marks used f gs d.1 a.1.1.1)))

-- a number isn't marked where it is given back, nor where it wasn't before
unmarked-set : (marks : List Bool) (f g : ℕ) → is_marked marks g ≡ false → is_marked (slice_set marks f false) g ≡ false
unmarked-set [] f g e = e
unmarked-set (m ∷ marks) zero zero e = refl
unmarked-set (m ∷ marks) zero (suc g) e = e
unmarked-set (m ∷ marks) (suc f) zero e = e
unmarked-set (m ∷ marks) (suc f) (suc g) e = unmarked-set marks f g e

-- free numbers stay so where one is given back
free-unmarked : (marks : List Bool) (used f : ℕ) (free : List ℕ) → AreFree marks used free → AreFree (slice_set marks f false) used free
free-unmarked marks used f [] a = tt
free-unmarked marks used f (g ∷ gs) a = (a.0, (unmarked-set marks f g a.1.0, (a.1.1.0, free-unmarked marks used f gs a.1.1.1)))

-- a live number is none of the free ones
live-apart : (marks : List Bool) (used f : ℕ) (free : List ℕ) → is_marked marks f ≡ true → AreFree marks used free → has free f ≡ false
live-apart marks used f [] l a = refl
live-apart marks used f (g ∷ gs) l a = go (g == f) refl (live-apart marks used f gs l a.1.1.1)
  where
    go : (t : Bool) → (g == f) ≡ t → has gs f ≡ false → has (g ∷ gs) f ≡ false
    go true q e = absurd (marked-differ marks f g l a.1.0 (sym (number-eq g f q)))
    go false q e = rw (any_of, q) e

-- as many may be
pub length-marks : (marks : List Bool) (f : ℕ) (b : Bool) → length (slice_set marks f b) ≡ length marks
length-marks [] f b = refl
length-marks (m ∷ marks) zero b = refl
length-marks (m ∷ marks) (suc f) b = ap suc (length-marks marks f b)

-- one more is marked
pub marked-more : (marks : List Bool) (f : ℕ) → f < length marks → is_marked marks f ≡ false → marked (slice_set marks f true) ≡ suc (marked marks)
marked-more [] f l e = absurd (omega arith)
marked-more (true ∷ marks) zero l e = absurd (true≢false e)
marked-more (false ∷ marks) zero l e = refl
marked-more (true ∷ marks) (suc f) l e = ap suc (marked-more marks f (omega arith) e)
marked-more (false ∷ marks) (suc f) l e = marked-more marks f (omega arith) e

-- one less is
pub marked-less : (marks : List Bool) (f : ℕ) → is_marked marks f ≡ true → suc (marked (slice_set marks f false)) ≡ marked marks
marked-less [] f e = absurd (true≢false (sym e))
marked-less (true ∷ marks) zero e = refl
marked-less (false ∷ marks) zero e = absurd (true≢false (sym e))
marked-less (true ∷ marks) (suc f) e = ap suc (marked-less marks f e)
marked-less (false ∷ marks) (suc f) e = marked-less marks f e

-- a number is below another or not
before : (f n : ℕ) → (f < n) ⊎ (n ≤ f)
before f n = go (nat_lt f n) refl
  where
    go : (t : Bool) → nat_lt f n ≡ t → (f < n) ⊎ (n ≤ f)
    go true e = inl (test-below f n e)
    go false e = inr (grind (arith, tests))

-- ---- one is taken

module _ (n : Numbers) (are : AreNumbers n) where
  module _ (f : ℕ) (free : List ℕ) (first : n.free ≡ f ∷ free) where
    -- what is known of the free numbers, by the first of them
    first-free : AreFree n.marks (n.count + length n.free) (f ∷ free)
    first-free = subst (λ (x : List ℕ). AreFree n.marks (n.count + length n.free) x) first are.are_free

    -- the first free number may be
    pub free-inside : f < length n.marks
    free-inside = let a = first-free.0 in omega (arith, a, are.few)

    -- and isn't live
    pub free-unlive : is_marked n.marks f ≡ false
    free-unlive = first-free.1.0

    -- the numbers once it is taken
    pub numbers-reused : AreNumbers (record { marks = slice_set n.marks f true; count = n.count + 1; free = free })
    numbers-reused =
        let k : length n.free ≡ suc (length free) = ap length first in
        let m = length-marks n.marks f true in
        let used : n.count + length n.free ≡ n.count + 1 + length free = omega (arith, k) in
        let b = first-free.0 in
        let c = marked-more n.marks f free-inside free-unlive in
        record {
          counted = omega (arith, c, are.counted);
          few = omega (arith, k, m, are.few);
          unused = λ g l. let d : f ≢ g = omega (arith, k, b, l) in marked-other n.marks f g true d ∙ are.unused g (omega (arith, k, l));
          are_free = subst (λ (u : ℕ). AreFree (slice_set n.marks f true) u free) used
              (free-marked n.marks (n.count + length n.free) f free first-free.1.1.0 first-free.1.1.1);
        }

  module _ (none : n.free ≡ []) where
    -- a number that was never used isn't live
    pub fresh-unlive : is_marked n.marks n.count ≡ false
    fresh-unlive = let k : length n.free ≡ 0 = ap length none in are.unused n.count (omega (arith, k))

    -- the numbers once it is taken
    pub numbers-grown : n.count < length n.marks → AreNumbers (record { marks = slice_set n.marks n.count true; count = n.count + 1; free = [] })
    numbers-grown room =
        let k : length n.free ≡ 0 = ap length none in
        let m = length-marks n.marks n.count true in
        let c = marked-more n.marks n.count room (fresh-unlive) in
        record {
          counted = omega (arith, c, are.counted);
          few = omega (arith, m, room);
          unused = λ g l.
              let d : n.count ≢ g = omega (arith, l) in
              marked-other n.marks n.count g true d ∙ are.unused g (omega (arith, k, l));
          are_free = tt;
        }

  -- ---- one is given back

  module _ (f : ℕ) (live : is_marked n.marks f ≡ true) where
    -- some number is live
    pub some-live : 0 < n.count
    some-live = let c = marked-less n.marks f live in omega (arith, c, are.counted)

    -- there is room for one more free number
    pub free-room : length n.free < length n.marks
    free-room = let c = some-live in omega (arith, c, are.few)

    -- the numbers once it is given back
    pub numbers-given : AreNumbers (record { marks = slice_set n.marks f false; count = n.count - 1; free = f ∷ n.free })
    numbers-given =
        let s = some-live in
        let m = length-marks n.marks f false in
        let c = marked-less n.marks f live in
        let used : n.count + length n.free ≡ n.count - 1 + suc (length n.free) = omega (arith, s) in
        let below : f < n.count - 1 + suc (length n.free) = elim (before f (n.count + length n.free)) [
          | inl l ↦ omega (arith, l, used)
          | inr l ↦ absurd (true≢false (sym live ∙ are.unused f l))
        ] in
        record {
          counted = omega (arith, c, are.counted);
          few = omega (arith, used, m, are.few);
          unused = λ g l. unmarked-set n.marks f g (are.unused g (omega (arith, used, l)));
          are_free = (
            below,
            (
              marked-same n.marks f false (marked-inside n.marks f live),
              (
                live-apart n.marks (n.count + length n.free) f n.free live are.are_free,
                subst (λ (u : ℕ). AreFree (slice_set n.marks f false) u n.free) used
                    (free-unmarked n.marks (n.count + length n.free) f n.free are.are_free),
              ),
            ),
          );
        }

-- ---- the first numbers

-- where none is marked, no number is
unmarked-none : (n f : ℕ) → is_marked (replicate n false) f ≡ false
unmarked-none zero f = refl
unmarked-none (suc n) zero = refl
unmarked-none (suc n) (suc f) = unmarked-none n f

-- and there are none
marked-none : (n : ℕ) → marked (replicate n false) ≡ 0
marked-none zero = refl
marked-none (suc n) = marked-none n

-- before the first event
pub numbers-first : (n : ℕ) → 0 < n → AreNumbers (first_numbers n)
numbers-first n some =
    let l : length (replicate n false) ≡ n = length-replicate n false in
    let m = length-marks (replicate n false) 0 true in
    let inside : 0 < length (replicate n false) = omega (arith, l, some) in
    let c = marked-more (replicate n false) 0 inside (unmarked-none n 0) in
    let z = marked-none n in
    record {
      counted = omega (arith, c, z);
      few = omega (arith, l, m, some);
      unused = λ f b. let d : 0 ≢ f = omega (arith, b) in marked-other (replicate n false) 0 f true d ∙ unmarked-none n f;
      are_free = tt;
    }

-- the root's number is live then
pub live-first : (n : ℕ) → 0 < n → AreLive (first_numbers n) (0 ∷ [])
live-first n some =
    let l : length (replicate n false) ≡ n = length-replicate n false in
    let inside : 0 < length (replicate n false) = omega (arith, l, some) in
    record { many = refl; once = λ f. go inside f }
  where
    go : 0 < length (replicate n false) → (f : ℕ) → times (0 ∷ []) f ≡ once_where (is_marked (slice_set (replicate n false) 0 true) f)
    go inside zero = ap once_where (sym (marked-same (replicate n false) 0 true inside))
    go inside (suc f) =
        let d : 0 ≢ suc f = omega arith in
        let e = marked-other (replicate n false) 0 (suc f) true d ∙ unmarked-none n (suc f) in
        times-other [] 0 (suc f) d ∙ ap once_where (sym e)

-- ---- the list of live numbers

module _ (n : Numbers) (live : List ℕ) (are : AreLive n live) where
  -- a number stands there where it is marked
  pub has-live : (f : ℕ) → has live f ≡ is_marked n.marks f
  has-live f = has-times live f (is_marked n.marks f) (are.once f)

  -- one that is taken is a live one more
  pub live-taken : (f : ℕ) (free : List ℕ) → is_marked n.marks f ≡ false → f < length n.marks
      → AreLive (record { marks = slice_set n.marks f true; count = n.count + 1; free = free }) (live ++ f ∷ [])
  live-taken f free unlive inside = record {
    many = length_push live f ∙ ap (λ (k : ℕ). k + 1) are.many;
    once = λ g. go g (f == g) refl;
  }
    where
      go : (g : ℕ) (t : Bool) → (f == g) ≡ t → times (live ++ f ∷ []) g ≡ once_where (is_marked (slice_set n.marks f true) g)
      go g true q =
          let e : f ≡ g = number-eq f g q in
          subst (λ (x : ℕ). times (live ++ f ∷ []) x ≡ once_where (is_marked (slice_set n.marks f true) x)) e
          (times-same live f ∙ (ap suc (are.once f ∙ ap once_where unlive) ∙ ap once_where (sym (marked-same n.marks f true inside))))
      go g false q =
          let d = number-differs f g q in
          times-other live f g d ∙ (are.once g ∙ ap once_where (sym (marked-other n.marks f g true d)))

  -- one that is given back isn't live
  pub live-given : (f : ℕ) (free : List ℕ) → is_marked n.marks f ≡ true
      → AreLive (record { marks = slice_set n.marks f false; count = n.count - 1; free = free }) (without f live)
  live-given f free marked_so = record {
    many =
        let l = length-without live f in
        let o : times live f ≡ 1 = are.once f ∙ ap once_where marked_so in
        omega (arith, l, o, are.many);
    once = λ g. go g (f == g) refl;
  }
    where
      go : (g : ℕ) (t : Bool) → (f == g) ≡ t → times (without f live) g ≡ once_where (is_marked (slice_set n.marks f false) g)
      go g true q =
          let e : f ≡ g = number-eq f g q in
          subst (λ (x : ℕ). times (without f live) x ≡ once_where (is_marked (slice_set n.marks f false) x)) e
          (times-without live f ∙ ap once_where (sym (marked-same n.marks f false (marked-inside n.marks f marked_so))))
      go g false q =
          let d = number-differs f g q in
          times-left live f g d ∙ (are.once g ∙ ap once_where (sym (marked-other n.marks f g false d)))
