-- What the code's answers to a firing and to a delivery say, in the words of the definitions.
use Rattle.std.specs.Prelude.{ℕ, ◌≡◌, ◌+◌, ◌≤◌, List, [], ◌∷◌, ◌++◌, Option, Some, None, map, length}
use Rattle.tam_istr.specs.Cells.{cells_used}
use Rattle.tam_istr.specs.CellAnswers.{reader_pair}
use Rattle.tam_msgs.specs.Messages.{answers}
use Rattle.tam_msgs.specs.declared.message.Message.{Message}
use Rattle.tam_msgs.specs.declared.message.Message.TheVariants.{Word as Carry, Frame as Begin, Cells as Make}
use Rattle.tam_graph.specs.declared.kind.Kind.{Kind}
use Rattle.tam_graph.specs.Graphs.{Graph, operands_of}
use Rattle.tam_world.specs.Worlds.{World, Effect, Delivery, Went, Printed, Faulted, Fault, Second_store, Outside_cells}
use Rattle.tam_world.specs.Worlds.{begun, changes, sends_only, got, entered, its_code, words_of, firing_of}
use Rattle.tam_world.specs.declared.effect.Effect.{Effect as Answer}
use Rattle.tam_world.specs.declared.effect.Effect.TheVariants.{Nothing, Gives, Enters, Sends}
use Rattle.tam_world.specs.declared.delivery.Fault.{Fault as KeptFault}
use Rattle.tam_world.specs.declared.delivery.Fault.TheVariants.{SecondStore, OutsideCells}
use Rattle.tam_world.specs.declared.delivery.Delivery.{Delivery as DeliveryAnswer}
use Rattle.tam_world.specs.declared.delivery.Delivery.TheVariants.{Went as Has_gone, Begins, Answered, Printed as Is_printed, Faulted as Has_fault}

-- ---- a firing

-- the effect that an answer says, in a world
abbrev pub effect_in : World → Answer → Effect
effect_in w Nothing = changes w
effect_in w (Gives at word) = changes (got w at.activation at.node word)
effect_in w (Enters activation block) = changes (entered w activation block)
effect_in w (Sends message) = sends_only w (message ∷ [])

-- what a node of this kind does, once its operands have words
abbrev pub effect_with : Graph → World → ℕ → ℕ → Kind → List (List ℕ) → Effect
effect_with g w i x kind [] = changes w
effect_with g w i x kind (vs ∷ more) = firing_of g w i x kind vs

-- what a node of this kind does
abbrev pub fired_as : Graph → World → ℕ → ℕ → Kind → Effect
fired_as g w i x kind = effect_with g w i x kind (words_of w i (operands_of (its_code g w i) kind))

-- one word, two or three, as a list of at most one list
abbrev pub one_listed : Option ℕ → List (List ℕ)
one_listed None = []
one_listed (Some u) = (u ∷ []) ∷ []

abbrev pub two_listed : Option (ℕ × ℕ) → List (List ℕ)
two_listed None = []
two_listed (Some p) = (p.0 ∷ p.1 ∷ []) ∷ []

abbrev pub three_listed : Option (ℕ × ℕ × ℕ) → List (List ℕ)
three_listed None = []
three_listed (Some p) = (p.0 ∷ p.1 ∷ p.2 ∷ []) ∷ []

-- ---- a delivery

-- the world with an activation more
abbrev pub with_begun : World → ℕ → ℕ → ℕ → World
with_begun w k f x = record w { activations = w.activations ++ begun k f x ∷ [] }

-- an access that found a fault
abbrev pub fault_of : KeptFault → Fault
fault_of (SecondStore first second) = Second_store first second
fault_of (OutsideCells site index len) = Outside_cells site index len

-- the delivery that an answer says, in the world with its cells as they are then
abbrev pub delivery_in : World → DeliveryAnswer → Delivery
delivery_in w (Has_gone effect) = Went (effect_in w effect)
delivery_in w (Begins code call) =
    Went (sends_only (with_begun w code call.activation call.node) (Carry call.activation call.node (length w.activations) ∷ []))
delivery_in w (Answered word readers) = Went (sends_only w (answers word (map reader_pair readers.items)))
delivery_in w (Is_printed place word) = Printed place word
delivery_in w (Has_fault fault) = Faulted (fault_of fault)

-- how many cells a message asks for
abbrev pub cells_wished : Message → ℕ
cells_wished (Make n f x) = n
cells_wished _ = 0

-- no activation changes, one array more at most is made, and no more cells come to be in use than these
pub record ChangesCells (old new : World) (wished : ℕ) : Type 0 where
  pub activations : new.activations ≡ old.activations
  pub arrays : length new.arrays ≤ length old.arrays + 1
  pub used : cells_used new.arrays ≤ cells_used old.arrays + wished

-- how many activations begin by an answer
abbrev pub begun_by : DeliveryAnswer → ℕ
begun_by (Begins code call) = 1
begun_by _ = 0

-- and how many a message asks for
abbrev pub activations_wished : Message → ℕ
activations_wished (Begin c f x) = 1
activations_wished _ = 0

-- where a word goes outside or an access finds a fault, the world is as it was
abbrev pub LeavesWorld : World → World → DeliveryAnswer → Type 0
LeavesWorld old new (Is_printed place word) = new ≡ old
LeavesWorld old new (Has_fault fault) = new ≡ old
LeavesWorld old new (Has_gone effect) = Unit {0}
LeavesWorld old new (Begins code call) = Unit {0}
LeavesWorld old new (Answered word readers) = Unit {0}

-- a delivery finds no fault
abbrev pub GoesWell : Delivery → Type 0
GoesWell (Went effect) = Unit {0}
GoesWell (Printed place word) = Unit {0}
GoesWell (Faulted fault) = ⊥
