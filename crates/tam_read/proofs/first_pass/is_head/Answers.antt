use Rattle.std.proofs.Common.{◌≡◌, ℕ, ◌<◌, ◌≤◌, Bool, true, false, List, [], ◌∷◌, length, Bor, refl, arith}
use Rattle.tam_word.specs.Lists.{same_bytes}
use Rattle.std.specs.Prelude.{codes}
use Rattle.tam_read.specs.Faults.{is_head}
use Rattle.tam_read.specs.SaidView.{texts}
use Rattle.tam_read.proofs.first_pass.is_head.Goals as goal

never : (t : Bool) → false ≡ elim t [ true ↦ false | false ↦ false ]
never true = refl
never false = refl

nor : (t u : Bool) → false ≡ elim t [ true ↦ elim u [ true ↦ false | false ↦ false ] | false ↦ false ]
nor true u = never u
nor false u = refl

too_short : (ws : List (Bor (List ℕ))) → length ws < 2 → false ≡ is_head (texts ws)
too_short [] h = refl
too_short (w ∷ []) h = never (same_bytes w.now (codes "dg"))
too_short (w ∷ v ∷ ws) h = absurd (omega arith)

too_long : (ws : List (Bor (List ℕ))) → 3 ≤ length ws → false ≡ is_head (texts ws)
too_long [] h = absurd (omega arith)
too_long (w ∷ []) h = absurd (omega arith)
too_long (w ∷ v ∷ []) h = absurd (omega arith)
too_long (w ∷ v ∷ u ∷ ws) h = nor (same_bytes w.now (codes "dg")) (same_bytes v.now (codes "1"))

pub returns-in_default : goal.returns-in_default
returns-in_default c = record { value = too_short c.args.words.now (omega arith) }

pub returns-in_default-2 : goal.returns-in_default-2
returns-in_default-2 c = record { value = too_long c.args.words.now (omega arith) }
