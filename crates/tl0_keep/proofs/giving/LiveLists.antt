-- Frames as a list: which changes leave each live one owing something, and how many are live behind them.
use Rattle.std.proofs.Common.{◌≡◌, ℕ, zero, suc, ◌+◌, ◌<◌, ◌≤◌, cond, List, [], ◌∷◌, ◌++◌, Option, Some, None, slice_get, slice_set, count_by}
use Rattle.std.proofs.Common.{refl, ap, sym, ◌∙◌, subst, arith, inl, inr, ◌⊎◌}
use Rattle.std.proofs.lemmas.Option.{none-some, same_Some}
use Rattle.std.proofs.lemmas.List.Sums.{sum_by-cons, sum_by_push}
use Rattle.frame_tables.specs.FrameTables.{Frame, is_held, changed_in}

-- ---- frames as a list

-- each live one owes something
abbrev pub LiveOwe : List (Option Frame) → Type 0
LiveOwe hs = (f : ℕ) (h : Frame) → slice_get hs f ≡ Some (Some h) → 0 < h.owed

-- one is changed
pub changed-owe : (hs : List (Option Frame)) (f : ℕ) (change : Frame → Frame) → ((h : Frame) → slice_get hs f ≡ Some (Some h) → 0 < (change h).owed)
    → LiveOwe hs → (i : ℕ) (k : Frame) → slice_get (changed_in hs f change) i ≡ Some (Some k) → 0 < k.owed
changed-owe [] f change up owe i k e = absurd (none-some (Some k) e)
changed-owe (None ∷ hs) zero change up owe i k e = owe i k e
changed-owe (Some h ∷ hs) zero change up owe zero k e =
    subst (λ (x : Frame). 0 < x.owed) (same_Some (change h) k (same_Some (Some (change h)) (Some k) e)) (up h refl)
changed-owe (Some h ∷ hs) zero change up owe (suc i) k e = owe (suc i) k e
changed-owe (None ∷ hs) (suc f) change up owe zero k e = owe 0 k e
changed-owe (Some h ∷ hs) (suc f) change up owe zero k e = owe 0 k e
changed-owe (None ∷ hs) (suc f) change up owe (suc i) k e = changed-owe hs f change up (λ j. owe (suc j)) i k e
changed-owe (Some h ∷ hs) (suc f) change up owe (suc i) k e = changed-owe hs f change up (λ j. owe (suc j)) i k e

-- how many are live, by the first
pub live-cons : (x : Option Frame) (hs : List (Option Frame)) → count_by is_held (x ∷ hs) ≡ cond {A = ℕ} (is_held x) 1 0 + count_by is_held hs
live-cons x hs = sum_by-cons (λ y. cond {A = ℕ} (is_held y) 1 0) x hs

-- as many are live
pub changed-live : (hs : List (Option Frame)) (f : ℕ) (change : Frame → Frame) → count_by is_held (changed_in hs f change) ≡ count_by is_held hs
changed-live [] f change = refl
changed-live (None ∷ hs) zero change = refl
changed-live (Some h ∷ hs) zero change = refl
changed-live (None ∷ hs) (suc f) change =
    live-cons None (changed_in hs f change) ∙ (ap (λ n. 0 + n) (changed-live hs f change) ∙ sym (live-cons None hs))
changed-live (Some h ∷ hs) (suc f) change =
    live-cons (Some h) (changed_in hs f change) ∙ (ap (λ n. 1 + n) (changed-live hs f change) ∙ sym (live-cons (Some h) hs))

-- another stands at a place, or none
pub set-owe : (hs : List (Option Frame)) (f : ℕ) (x : Option Frame) → ((k : Frame) → x ≡ Some k → 0 < k.owed) → LiveOwe hs
    → (i : ℕ) (k : Frame) → slice_get (slice_set hs f x) i ≡ Some (Some k) → 0 < k.owed
set-owe [] f x new owe i k e = absurd (none-some (Some k) e)
set-owe (y ∷ hs) zero x new owe zero k e = new k (same_Some x (Some k) e)
set-owe (y ∷ hs) zero x new owe (suc i) k e = owe (suc i) k e
set-owe (y ∷ hs) (suc f) x new owe zero k e = owe 0 k e
set-owe (y ∷ hs) (suc f) x new owe (suc i) k e = set-owe hs f x new (λ j. owe (suc j)) i k e

-- one more is live at most
pub set-live : (hs : List (Option Frame)) (f : ℕ) (x : Option Frame) → count_by is_held (slice_set hs f x) ≤ count_by is_held hs + cond {A = ℕ} (is_held x) 1 0
set-live [] f x = omega arith
set-live (y ∷ hs) zero x = let a = live-cons x hs in let b = live-cons y hs in omega arith
set-live (y ∷ hs) (suc f) x =
    let a = live-cons y (slice_set hs f x) in
    let b = live-cons y hs in
    let l = set-live hs f x in
    omega arith

-- what is set to nothing may be changed before
pub set-changed : (hs : List (Option Frame)) (f : ℕ) (change : Frame → Frame) → slice_set (changed_in hs f change) f None ≡ slice_set hs f None
set-changed [] f change = refl
set-changed (None ∷ hs) zero change = refl
set-changed (Some h ∷ hs) zero change = refl
set-changed (None ∷ hs) (suc f) change = ap (λ (l : List (Option Frame)). None ∷ l) (set-changed hs f change)
set-changed (Some h ∷ hs) (suc f) change = ap (λ (l : List (Option Frame)). Some h ∷ l) (set-changed hs f change)

-- what was set stands there, or nothing was changed
pub set-there : (hs : List (Option Frame)) (f : ℕ) (x : Option Frame) → (slice_set hs f x ≡ hs) ⊎ (slice_get (slice_set hs f x) f ≡ Some x)
set-there [] f x = inl refl
set-there (y ∷ hs) zero x = inr refl
set-there (y ∷ hs) (suc f) x = elim (set-there hs f x) [ inl e ↦ inl (ap (λ (l : List (Option Frame)). y ∷ l) e) | inr e ↦ inr e ]

-- one more is live behind them
pub more-live : (hs : List (Option Frame)) (h : Frame) → count_by is_held (hs ++ Some h ∷ []) ≡ count_by is_held hs + 1
more-live hs h = sum_by_push (λ y. cond {A = ℕ} (is_held y) 1 0) hs (Some h)

-- ---- what is kept

-- who is live owes something still, and at most so many more are live
pub record Keeps (more : ℕ) (hs ks : List (Option Frame)) : Type 0 where
  pub owe : LiveOwe hs → LiveOwe ks
  pub few : count_by is_held ks ≤ count_by is_held hs + more

-- a list of frames keeps itself
pub keeps-same : (hs : List (Option Frame)) → Keeps 0 hs hs
keeps-same hs = record { owe = λ o. o; few = omega arith }

-- what keeps frames that are kept keeps them
pub keeps-on : (more : ℕ) (hs ks ls : List (Option Frame)) → Keeps more hs ks → Keeps 0 ks ls → Keeps more hs ls
keeps-on more hs ks ls a b = record { owe = λ o. b.owe (a.owe o); few = let p = a.few in let q = b.few in omega arith }

-- a change that leaves what is owed
pub keeps-changed : (hs : List (Option Frame)) (f : ℕ) (change : Frame → Frame) → ((h : Frame) → (change h).owed ≡ h.owed) → Keeps 0 hs (changed_in hs f change)
keeps-changed hs f change same = record {
  owe = λ o. changed-owe hs f change (λ h e. subst (λ n. 0 < n) (sym (same h)) (o f h e)) o;
  few = let e = changed-live hs f change in omega arith;
}
