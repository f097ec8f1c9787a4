-- Lists at places: one more list behind, one list longer, and a number put into a list; numbers sifted.
use Rattle.std.proofs.Common.{◌≡◌, ◌≢◌, ◌∙◌, ℕ, zero, suc, ◌<◌, ◌==◌, Bool, true, false, List, [], ◌∷◌, ◌++◌, length, filter, slice_set, refl, sym, ap, arith}
use Rattle.std.specs.declared.vec.Vec.{Vec}
use Rattle.std.specs.declared.alloc.Global.{Global}
use Rattle.std.proofs.lemmas.List.{append-nil}
use Rattle.tam_word.specs.Lists.{where_so}
use Rattle.tam_word.proofs.Tests.{number-eq, number-differs}
use Rattle.tam_world.specs.Tables.{listed}

-- an empty list behind the others
pub listed-longer : (lists : List (Vec ℕ Global)) (v : Vec ℕ Global) → v.items ≡ [] → (z : ℕ) → listed (lists ++ v ∷ []) z ≡ listed lists z
listed-longer [] v none zero = none
listed-longer [] v none (suc z) = refl
listed-longer (u ∷ us) v none zero = refl
listed-longer (u ∷ us) v none (suc z) = listed-longer us v none z

-- a list that was set
pub listed-set_here : (lists : List (Vec ℕ Global)) (p : ℕ) (v : Vec ℕ Global) → p < length lists → listed (slice_set lists p v) p ≡ v.items
listed-set_here [] p v inside = absurd (omega arith)
listed-set_here (u ∷ us) zero v inside = refl
listed-set_here (u ∷ us) (suc p) v inside = listed-set_here us p v (omega arith)

-- the others
pub listed-set_other : (lists : List (Vec ℕ Global)) (p z : ℕ) (v : Vec ℕ Global) → p ≢ z → listed (slice_set lists p v) z ≡ listed lists z
listed-set_other [] p z v other = refl
listed-set_other (u ∷ us) zero zero v other = absurd (other refl)
listed-set_other (u ∷ us) zero (suc z) v other = refl
listed-set_other (u ∷ us) (suc p) zero v other = refl
listed-set_other (u ∷ us) (suc p) (suc z) v other = listed-set_other us p z v (λ e. other (ap suc e))

-- a number behind one of the lists
pub listed-added : (lists : List (Vec ℕ Global)) (p x : ℕ) (v : Vec ℕ Global) → p < length lists → v.items ≡ listed lists p ++ x ∷ []
    → (z : ℕ) → listed (slice_set lists p v) z ≡ listed lists z ++ where_so (p == z) x
listed-added lists p x v inside longer z = go (p == z) refl
  where
    go : (b : Bool) → (p == z) ≡ b → listed (slice_set lists p v) z ≡ listed lists z ++ where_so b x
    go true e = rw (← number-eq p z e) (listed-set_here lists p v inside ∙ longer)
    go false e = listed-set_other lists p z v (number-differs p z e) ∙ sym (append-nil (listed lists z))

-- a list with one more behind, sifted
pub filter-last : (test : ℕ → Bool) (xs : List ℕ) (x : ℕ) → filter test (xs ++ x ∷ []) ≡ filter test xs ++ where_so (test x) x
filter-last test [] x = go (test x) refl
  where
    go : (b : Bool) → test x ≡ b → filter test (x ∷ []) ≡ where_so b x
    go true e = rw (filter, e) refl
    go false e = rw (filter, e) refl
filter-last test (y ∷ ys) x = go (test y) refl (filter-last test ys x)
  where
    go : (b : Bool) → test y ≡ b → filter test (ys ++ x ∷ []) ≡ filter test ys ++ where_so (test x) x
        → filter test (y ∷ (ys ++ x ∷ [])) ≡ filter test (y ∷ ys) ++ where_so (test x) x
    go true e i = rw (filter, e) (ap (λ l. y ∷ l) i)
    go false e i = rw (filter, e) i
