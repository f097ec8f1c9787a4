-- A name and zeros behind it.
use Rattle.std.proofs.Common.{◌≡◌, ℕ, List, length, take, drop, ◌++◌, ◌-◌, refl}
use Rattle.std.specs.Prelude.{replicate}
use Rattle.std.proofs.lemmas.List.{take_at, drop_at, drop-replicate}
use Rattle.tam_text.specs.Names.{IsName}

pub padded : (name prefix : List ℕ) → prefix ≡ name → IsName name
    → IsName (take (length name) (prefix ++ drop (length name) (replicate 32 0)))
    × (drop (length name) (prefix ++ drop (length name) (replicate 32 0)) ≡ replicate (32 - length name) 0)
    × (length (take (length name) (prefix ++ drop (length name) (replicate 32 0))) ≡ length name)
padded name prefix is named = rw (
  is,
  take_at name (drop (length name) (replicate 32 0)) (length name) refl,
  drop_at name (drop (length name) (replicate 32 0)) (length name) refl,
  drop-replicate {X = ℕ} (length name) 32 0,
) (named, refl, refl)
