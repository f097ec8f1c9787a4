-- What the delivery of an access leaves of a state: its activations, the runs that were made, and the messages that have arrived.
use Rattle.std.proofs.Common.{◌≡◌, ℕ, Bool, true, false, ◌∷◌}
use Rattle.std.proofs.Common.{refl}
use Rattle.tam_istr.specs.Cells.{Access, Now, Deferred, Stored, Twice, NotBelow, NoArray}
use Rattle.tam_graph.specs.declared.kind.Kind.{Kind}
use Rattle.tam_graph.specs.declared.kind.Kind.TheVariants.{Fetch, Store}
use Rattle.tam_world.specs.Worlds.{accessed as accessed_in}
use Rattle.tam_flow.specs.Journals.{State, after_delivery}

-- a fetch
abbrev pub is_fetch : Kind → Bool
is_fetch (Fetch a j) = true
is_fetch _ = false

-- a store
abbrev pub is_store : Kind → Bool
is_store (Store a j v) = true
is_store _ = false

-- what an access leaves has as many activations
pub access-size : (s : State) (n t j : ℕ) (r : ℕ × ℕ) (v : ℕ) (acc : Access)
    → (after_delivery s n (accessed_in s.world t j r v acc)).world.activations ≡ s.world.activations
access-size s n t j r v (Now u) = refl
access-size s n t j r v (Deferred rows) = refl
access-size s n t j r v (Stored rows rs) = refl
access-size s n t j r v (Twice first) = refl
access-size s n t j r v (NotBelow l) = refl
access-size s n t j r v NoArray = refl

-- and as many runs have been made
pub access-ran : (s : State) (n t j : ℕ) (r : ℕ × ℕ) (v : ℕ) (acc : Access) → (after_delivery s n (accessed_in s.world t j r v acc)).ran ≡ s.ran
access-ran s n t j r v (Now u) = refl
access-ran s n t j r v (Deferred rows) = refl
access-ran s n t j r v (Stored rows rs) = refl
access-ran s n t j r v (Twice first) = refl
access-ran s n t j r v (NotBelow l) = refl
access-ran s n t j r v NoArray = refl

-- and this message has arrived
pub access-arrived : (s : State) (n t j : ℕ) (r : ℕ × ℕ) (v : ℕ) (acc : Access) → (after_delivery s n (accessed_in s.world t j r v acc)).arrived ≡ n ∷ s.arrived
access-arrived s n t j r v (Now u) = refl
access-arrived s n t j r v (Deferred rows) = refl
access-arrived s n t j r v (Stored rows rs) = refl
access-arrived s n t j r v (Twice first) = refl
access-arrived s n t j r v (NotBelow l) = refl
access-arrived s n t j r v NoArray = refl
