use Rattle.std.proofs.Common.{◌≡◌, ◌∷◌, [], ℕ, zero, suc, refl, get_or}
use Rattle.tam_sets.proofs.SetBits.{bits-none}
use Rattle.tam_sets.proofs.set.Set.empty.Goals as goal

-- none of eight zeros is another number
zeros : (k : ℕ) → ◌≡◌ {A = ℕ} (get_or (0 ∷ 0 ∷ 0 ∷ 0 ∷ 0 ∷ 0 ∷ 0 ∷ 0 ∷ []) k 0) 0
zeros zero = refl
zeros (suc zero) = refl
zeros (suc (suc zero)) = refl
zeros (suc (suc (suc zero))) = refl
zeros (suc (suc (suc (suc zero)))) = refl
zeros (suc (suc (suc (suc (suc zero))))) = refl
zeros (suc (suc (suc (suc (suc (suc zero)))))) = refl
zeros (suc (suc (suc (suc (suc (suc (suc zero))))))) = refl
zeros (suc (suc (suc (suc (suc (suc (suc (suc k)))))))) = refl

pub returns : goal.returns
returns c = record { value = bits-none (0 ∷ 0 ∷ 0 ∷ 0 ∷ 0 ∷ 0 ∷ 0 ∷ 0 ∷ []) (λ k l. zeros k) }
