-- Activations that the code keeps, after one of them changed.
use Rattle.std.proofs.Common.{◌≡◌, ◌∙◌, ℕ, zero, suc, ◌<◌, ◌≤◌, List, [], ◌∷◌, length, get_or, slice_set, refl, ap, arith}
use Rattle.std.proofs.Common.{Ok, Err, Result, OnOk}
use Rattle.tam_word.specs.Lists.{changed_at}
use Rattle.tam_world.specs.Worlds.{ActivationState}
use Rattle.tam_world.specs.declared.activation.Activation.{Activation}
use Rattle.tam_world.specs.Kept.{activation_of, activations_of}

-- what follows where a call went well
pub on_ok : {T E : Type 0} {P Q : Type 0} (r : Result T E) → (P → Q) → OnOk r P → OnOk r Q
on_ok (Ok v) follow holds = follow holds
on_ok (Err e) follow holds = holds

-- an activation that isn't there isn't changed
pub changed_at-past : {X : Type 0} (n : ℕ) (f : X → X) (xs : List X) → length xs ≤ n → changed_at n f xs ≡ xs
changed_at-past n f [] past = refl
changed_at-past zero f (x ∷ xs) past = absurd (omega arith)
changed_at-past (suc n) f (x ∷ xs) past = ap (λ l. x ∷ l) (changed_at-past n f xs (omega arith))

-- an activation that was set
pub activations-changed : (f : ActivationState → ActivationState) (before after : Activation) (i : ℕ) (activations : List Activation)
    → i < length activations → before ≡ get_or activations i before → activation_of after ≡ f (activation_of before)
    → activations_of (slice_set activations i after) ≡ changed_at i f (activations_of activations)
activations-changed f before after i [] inside read is = absurd (omega arith)
activations-changed f before after zero (a ∷ activations) inside read is =
    ap (λ (x : ActivationState). x ∷ activations_of activations) (is ∙ ap (λ (x : Activation). f (activation_of x)) read)
activations-changed f before after (suc i) (a ∷ activations) inside read is =
    ap (λ (l : List ActivationState). activation_of a ∷ l) (activations-changed f before after i activations (omega arith) read is)
