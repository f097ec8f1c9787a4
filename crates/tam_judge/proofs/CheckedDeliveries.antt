-- The delivery of a message by the checker of journals.
use Rattle.std.proofs.Common.{◌≡◌, ◌∙◌, ℕ, true, false, List, [], ◌∷◌, ◌++◌, Option, Some, None, is_none, is_some}
use Rattle.std.proofs.Common.{reverse, slice_get, refl, sym, ap, true≢false}
use Rattle.std.proofs.lemmas.List.{reverse-append}
use Rattle.tam_msgs.specs.declared.message.Message.{Message}
use Rattle.tam_world.specs.Worlds.{Delivery, Went, Printed, Faulted, delivered}
use Rattle.tam_flow.specs.Journals.{State, or_message, after_delivery, deliver_all}
use Rattle.tam_world.specs.declared.delivery.Fault.{Fault as KeptFault}
use Rattle.tam_judge.specs.Machines.{or_no_fault, settled}

-- a delivery was refused
pub is-refused : (r : Option KeptFault) → is_some r ≡ true → is_none (or_no_fault r) ≡ false
is-refused None h = absurd (true≢false (sym h))
is-refused (Some r) h = refl

-- none was
pub not-refused : (r : Option KeptFault) → is_some r ≡ false → or_no_fault r ≡ None
not-refused None h = refl
not-refused (Some r) h = absurd (true≢false h)

-- a message more has arrived
pub arrived-more : (ms : List ℕ) (m : ℕ) → reverse (ms ++ m ∷ []) ≡ m ∷ reverse ms
arrived-more ms m = reverse-append ms (m ∷ [])

-- what a delivery comes to, with the number of its message
settled-after : (s : State) (m : ℕ) (d : Delivery) → settled (record s { arrived = m ∷ s.arrived }) d ≡ after_delivery s m d
settled-after s m (Went e) = refl
settled-after s m (Printed k v) = refl
settled-after s m (Faulted f) = refl

-- the state after the delivery of a message that was sent
pub delivered-is : (s t : State) (m : ℕ) (x : Message) (arrived : List ℕ) → slice_get s.sent m ≡ Some x → arrived ≡ m ∷ s.arrived
    → t ≡ settled (record s { arrived = arrived }) (delivered s.world x) → t ≡ deliver_all s m (or_message (slice_get s.sent m))
delivered-is s t m x arrived found more is =
    is ∙ ap (λ (l : List ℕ). settled (record s { arrived = l }) (delivered s.world x)) more ∙ settled-after s m (delivered s.world x)
    ∙ ap (λ (o : Option Message). deliver_all s m (or_message o)) (sym found)
