-- Endings differ.
use Rattle.std.proofs.Common.{◌≡◌, ◌≢◌, ◌⊎◌, inl, inr, refl}
use Rattle.tam_input.specs.declared.ending.Ending.{Ending}
use Rattle.tam_input.specs.declared.ending.Ending.TheVariants.{Done, Refused, Usage, ReadFault, ResultsMissing, DoubleWrite, OutOfRange, FramesFull}
use Rattle.tam_input.specs.declared.ending.Ending.TheVariants.{CellsFull, BudgetSpent, WriteFault, NoMemory, Broken, NoWords}

-- an ending is a write fault or it isn't
pub broke-or : (end : Ending) → (end ≡ WriteFault) ⊎ (end ≢ WriteFault)
broke-or Done = inr (λ e. absurd (cc))
broke-or Refused = inr (λ e. absurd (cc))
broke-or Usage = inr (λ e. absurd (cc))
broke-or ReadFault = inr (λ e. absurd (cc))
broke-or ResultsMissing = inr (λ e. absurd (cc))
broke-or DoubleWrite = inr (λ e. absurd (cc))
broke-or OutOfRange = inr (λ e. absurd (cc))
broke-or FramesFull = inr (λ e. absurd (cc))
broke-or CellsFull = inr (λ e. absurd (cc))
broke-or BudgetSpent = inr (λ e. absurd (cc))
broke-or WriteFault = inl refl
broke-or NoMemory = inr (λ e. absurd (cc))
broke-or Broken = inr (λ e. absurd (cc))
broke-or NoWords = inr (λ e. absurd (cc))
