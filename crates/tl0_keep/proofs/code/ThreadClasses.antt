-- Which class's a thread is, by its number.
use Rattle.std.proofs.Common.{◌≡◌, ℕ, zero, suc, ◌+◌, ◌-◌, ◌*◌, ◌<◌, ◌≤◌, Bool, true, false, nat_lt, List, [], ◌∷◌, length, refl, sym, ap, ◌∙◌, arith}
use Rattle.std.proofs.lemmas.List.Sums.{sum_by-cons}
use Rattle.tam_word.proofs.Tests.{below-test, test-below}
use Rattle.tam_graph.specs.Graphs.{Code}
use Rattle.tam_split.specs.Partitions.{Parts}
use Rattle.tl0_keep.specs.Compiled.{parts_at, classes_before, number_of_classes, place_in, choosing_nodes}
use Rattle.tl0_keep.specs.ThreadJournals.{class_from, class_of_thread}
use Rattle.tl0_keep.proofs.code.ThreadKinds.{ThreadKind, Entry, Class, Then_of, Else_of, IsThread, number_of_thread}

-- a test that fails
not-below : (x n : ℕ) → n ≤ x → nat_lt x n ≡ false
not-below x n l = go (nat_lt x n) refl
  where
    go : (t : Bool) → nat_lt x n ≡ t → nat_lt x n ≡ false
    go false e = e
    go true e = let z = test-below x n e in absurd (omega (arith, z, l))

-- the class at a place
class-at : (ps : List Parts) (first b k : ℕ) → k < length (parts_at ps b) → class_from ps first (classes_before ps b + k) ≡ (first + b, k) ∷ []
class-at [] first b k l = absurd (omega arith)
class-at (p ∷ ps) first zero k l =
    let z : 0 + k ≡ k = omega arith in
    let y : first + 0 ≡ first = omega arith in
    ap (class_from (p ∷ ps) first) z ∙ (here ∙ ap (λ x. (x, k) ∷ []) (sym y))
  where
    here : class_from (p ∷ ps) first k ≡ (first, k) ∷ []
    here = rw (class_from, below-test k (length p) l) refl
class-at (p ∷ ps) first (suc b) k l =
    let out : nat_lt (length p + classes_before ps b + k) (length p) ≡ false =
    not-below (length p + classes_before ps b + k) (length p) (omega arith) in
    let back : length p + classes_before ps b + k - length p ≡ classes_before ps b + k = omega arith in
    let on : suc first + b ≡ first + suc b = omega arith in
    rw (class_from, out, back) (class-at ps (suc first) b k l ∙ ap (λ x. (x, k) ∷ []) on)

-- past all there is none
class-past : (ps : List Parts) (first j : ℕ) → class_from ps first (number_of_classes ps + j) ≡ []
class-past [] first j = refl
class-past (p ∷ ps) first j =
    let s : number_of_classes (p ∷ ps) ≡ length p + number_of_classes ps = sum_by-cons length p ps in
    let out : nat_lt (number_of_classes (p ∷ ps) + j) (length p) ≡ false = not-below (number_of_classes (p ∷ ps) + j) (length p) (omega (arith, s)) in
    let back : number_of_classes (p ∷ ps) + j - length p ≡ number_of_classes ps + j = omega (arith, s) in
    rw (class_from, out, back) (class-past ps (suc first) j)

-- the class of a kind of thread
abbrev pub kind_class : ThreadKind → List (ℕ × ℕ)
kind_class (Class b k) = (b, k) ∷ []
kind_class Entry = []
kind_class (Then_of x) = []
kind_class (Else_of x) = []

-- so it is found
pub class-of-number : (c : Code) (ps : List Parts) (n : ThreadKind) → IsThread c ps n → class_of_thread ps (number_of_thread c ps n) ≡ kind_class n
class-of-number c ps Entry h = refl
class-of-number c ps (Class b k) h =
    let e : 1 + classes_before ps b + k ≡ suc (classes_before ps b + k) = omega arith in
    let z : 0 + b ≡ b = omega arith in
    ap (class_of_thread ps) e ∙ (class-at ps 0 b k h.1 ∙ ap (λ x. (x, k) ∷ []) z)
class-of-number c ps (Then_of x) h =
    let e : 1 + number_of_classes ps + 2 * place_in (choosing_nodes c) x ≡ suc (number_of_classes ps + 2 * place_in (choosing_nodes c) x) = omega arith in
    ap (class_of_thread ps) e ∙ class-past ps 0 (2 * place_in (choosing_nodes c) x)
class-of-number c ps (Else_of x) h =
    let e : suc (1 + number_of_classes ps + 2 * place_in (choosing_nodes c) x) ≡ suc (number_of_classes ps + (1 + 2 * place_in (choosing_nodes c) x)) =
    omega arith in
    ap (class_of_thread ps) e ∙ class-past ps 0 (1 + 2 * place_in (choosing_nodes c) x)
