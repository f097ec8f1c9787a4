use Rattle.std.proofs.Common.{◌≡◌, ℕ, ◌≤◌, Bool, true, false, eqb, List, [], ◌∷◌, length, refl, arith}
use Rattle.tam_word.specs.Lists.{same_bytes}
use Rattle.tam_read.proofs.said.is_sign.Goals as goal

longer : (t : Bool) → false ≡ elim t [ true ↦ false | false ↦ false ]
longer true = refl
longer false = refl

no_sign : (bs : List ℕ) → 2 ≤ length bs → false ≡ same_bytes bs (61 ∷ [])
no_sign [] h = absurd (omega arith)
no_sign (b ∷ []) h = absurd (omega arith)
no_sign (b ∷ c ∷ bs) h = longer (eqb b 61)

pub returns-in_default-2 : goal.returns-in_default-2
returns-in_default-2 c = record { value = no_sign c.args.token.now c.in_default.len_at_least }
