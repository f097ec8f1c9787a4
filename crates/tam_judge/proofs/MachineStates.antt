-- The state that the checker of journals keeps, after an event's effect.
use Rattle.std.proofs.Common.{◌≡◌, ◌∙◌, ℕ, [], List, ◌∷◌, ◌++◌, refl, ap, sym, length, Ok, Err, Result, OnOk}
use Rattle.std.proofs.lemmas.List.{append-nil}
use Rattle.tam_msgs.specs.declared.message.Message.{Message}
use Rattle.tam_world.specs.Worlds.{World, Delivery, changes}
use Rattle.tam_flow.specs.Journals.{State}
use Rattle.tam_judge.specs.Machines.{effected, settled}

-- what follows where a call went well
pub on_ok : {T E : Type 0} {P Q : Type 0} (r : Result T E) → (P → Q) → OnOk r P → OnOk r Q
on_ok (Ok v) follow holds = follow holds
on_ok (Err e) follow holds = holds

-- nothing was sent
pub state-world : (s : State) (w : World) → record s { world = w } ≡ effected s (changes w)
state-world s w = rw (append-nil s.sent) refl

-- nothing was done
pub state-same : (s : State) → s ≡ effected s (changes s.world)
state-same s = state-world s s.world

-- what a delivery comes to, by what it is
pub settles-as : (s t : State) (d e : Delivery) → d ≡ e → t ≡ settled s e → t ≡ settled s d
settles-as s t d e same is = is ∙ ap (settled s) (sym same)
