-- The number of the class in which a place stands, class by class.
use Rattle.std.proofs.Common.{◌≡◌, ℕ, zero, suc, ◌<◌, true, false, [], ◌∷◌, length, drop, refl, arith}
use Rattle.tam_word.specs.Lists.{has}
use Rattle.tam_split.specs.Partitions.{Parts, class_of, class_at}

-- it stands in the first of those that are left
pub class-here : (parts : Parts) (x k : ℕ) → k < length parts → has (class_at parts k) x ≡ true → class_of (drop k parts) x ≡ 0
class-here [] x k inside here = absurd (omega arith)
class-here (p ∷ ps) x zero inside here = rw (class_of, here) refl
class-here (p ∷ ps) x (suc k) inside here = class-here ps x k (omega arith) here

-- or not
pub class-next : (parts : Parts) (x k : ℕ) → k < length parts → has (class_at parts k) x ≡ false
    → class_of (drop k parts) x ≡ suc (class_of (drop (suc k) parts) x)
class-next [] x k inside not_here = absurd (omega arith)
class-next (p ∷ ps) x zero inside not_here = rw (class_of, not_here) refl
class-next (p ∷ ps) x (suc k) inside not_here = class-next ps x k (omega arith) not_here
