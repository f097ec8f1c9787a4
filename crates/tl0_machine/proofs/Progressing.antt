-- What comes of instructions one behind another, and of an event that carries them out.
use Rattle.std.proofs.Common.{◌≡◌, ℕ, List, Result, Err, refl}
use Rattle.tam_msgs.specs.declared.item.Item.{Item}
use Rattle.tam_msgs.specs.declared.stop.Stop.TheVariants.{DoubleWrite, OutOfRange, FramesFull, CellsFull, BudgetSpent, NoMemory}
use Rattle.tl0_code.specs.Machines.{Machine, Progress, Fine, Broken, then_do}
use Rattle.tl0_code.specs.ThreadRuns.{as_outcome}
use Rattle.tl0_machine.specs.declared.stop0.Stop0.{Stop0}
use Rattle.tl0_machine.specs.declared.stop0.Stop0.TheVariants.{Stop as Stops, Wild as Goes_wild}
use Rattle.tl0_machine.specs.ThreadStates.{SeenState, machine_with, IsProgress}
use Rattle.tl0_machine.specs.ThreadEvents.{MayWant, IsOutcome, told_of}

-- what breaks isn't gone on with
pub then-breaks : (x : Progress) (go : Machine → Progress) (m n : Machine) (e : Stop0) → IsProgress x m (Err e) → IsProgress (then_do x go) n (Err e)
then-breaks x go m n (Goes_wild what k) is = rw is refl
then-breaks x go m n (Stops NoMemory) is = tt
then-breaks x go m n (Stops (DoubleWrite a b)) is = absurd is
then-breaks x go m n (Stops (OutOfRange a b k)) is = absurd is
then-breaks x go m n (Stops (FramesFull k)) is = absurd is
then-breaks x go m n (Stops (CellsFull a b)) is = absurd is
then-breaks x go m n (Stops (BudgetSpent k)) is = absurd is

-- what went well is gone on with
pub then-goes : (x : Progress) (go : Machine → Progress) (m n : Machine) (r : Result Unit Stop0) → x ≡ Fine m → IsProgress (go m) n r
    → IsProgress (then_do x go) n r
then-goes x go m n r is next = rw is next

-- memory may be wanted of an event that carries out instructions
may-want : (x : Progress) (before : Machine) → MayWant (as_outcome x before)
may-want (Fine m) before = tt
may-want (Broken what n) before = tt

-- where instructions break, so does the event that carries them out
pub outcome-breaks : (x : Progress) (before m : Machine) (s : SeenState) (order : List Item) (printed : List (ℕ × ℕ)) (e : Stop0)
    → told_of before ≡ told_of (machine_with s order printed) → IsProgress x m (Err e) → IsOutcome (as_outcome x before) s order printed (Err e)
outcome-breaks x before m s order printed (Goes_wild what k) told is = rw is (refl, told)
outcome-breaks x before m s order printed (Stops NoMemory) told is = may-want x before
outcome-breaks x before m s order printed (Stops (DoubleWrite a b)) told is = absurd is
outcome-breaks x before m s order printed (Stops (OutOfRange a b k)) told is = absurd is
outcome-breaks x before m s order printed (Stops (FramesFull k)) told is = absurd is
outcome-breaks x before m s order printed (Stops (CellsFull a b)) told is = absurd is
outcome-breaks x before m s order printed (Stops (BudgetSpent k)) told is = absurd is
