-- Runs and the firing rules: every line is a result, a quiet run has exactly the results, and every other end has its cause in the rules.
use Rattle.std.specs.Prelude.{ℕ, ◌+◌, ◌*◌, ◌≡◌, ◌<◌, ◌↔◌, List, Some, slice_get, length, Contains, ⊤}
use Rattle.tam_msgs.specs.declared.limits.Limits.{Limits}
use Rattle.tam_graph.specs.Graphs.{Graph, code_of, results_of}
use Rattle.tam_fire.specs.FiringRules.{Path, Known, Result, DoubleWrite, OutsideAccess, Instance, Instances, Activations, Asked, Allocs, cells_of}
use Rattle.tam_msgs.specs.Messages.{site_pair}
use Rattle.tam_msgs.specs.Runs.{End, Quiet, Double_write, Out_of_range, Frames_full, Cells_full, Budget_spent, Wild, Trap, Report, missing_of}

-- each line is a result of the rules
abbrev pub LinesAreResults : Graph → List ℕ → Report → Type 0
LinesAreResults g args r = (k w : ℕ) → Contains r.printed (k, w) → Result g args k w

-- no place has two lines
abbrev pub LinesDiffer : Report → Type 0
LinesDiffer r = (i j k v w : ℕ) → slice_get r.printed i ≡ Some (k, v) → slice_get r.printed j ≡ Some (k, w) → i ≡ j

-- the lines are exactly the results, and a result of `main` is missing exactly where no number of unfoldings gives it
pub record IsExact (g : Graph) (args : List ℕ) (r : Report) : Type 0 where
  pub lines : (k w : ℕ) → Contains r.printed (k, w) ↔ Result g args k w
  pub missing : (k : ℕ) → Contains (missing_of r.how r.results r.printed) k ↔ ((k < results_of (code_of g g.main)) × ((w : ℕ) → ¬ Result g args k w))

-- some unfoldings begin more activations
abbrev pub TooManyActivations : Graph → List ℕ → ℕ → Type 0
TooManyActivations g args limit = (n : ℕ) × (qs : List Path) × Activations (Known g args n) qs × (limit < length qs)

-- some unfoldings ask for more cells
abbrev pub TooManyCells : Graph → List ℕ → ℕ → Type 0
TooManyCells g args limit = (n : ℕ) × (asks : List Asked) × Allocs g (Known g args n) asks × (limit < cells_of asks)

-- of some unfoldings, four times the active instances and 16 are more
abbrev pub TooManyEvents : Graph → List ℕ → ℕ → Type 0
TooManyEvents g args limit = (n : ℕ) × (xs : List Instance) × Instances (Known g args n) xs × (limit < 4 * length xs + 16)

-- the cause of an end in the rules
abbrev pub HasCause : Graph → List ℕ → Limits → End → Type 0
HasCause g args limits Quiet = ⊤
HasCause g args limits (Double_write s t) = DoubleWrite g args (site_pair s) (site_pair t)
HasCause g args limits (Out_of_range s i l) = OutsideAccess g args (site_pair s) i l
HasCause g args limits (Frames_full n) = (n ≡ limits.frames) × TooManyActivations g args n
HasCause g args limits (Cells_full u l) = (limits.cells < u + l) × TooManyCells g args limits.cells
HasCause g args limits (Budget_spent n) = (n ≡ limits.budget) × TooManyEvents g args n
HasCause g args limits (Wild what n) = ⊥
HasCause g args limits (Trap pc cause) = ⊥

-- the report is right: its lines are results, each place has one at most, a quiet run is exact, and an end has its cause
pub record IsRight (g : Graph) (args : List ℕ) (limits : Limits) (r : Report) : Type 0 where
  pub results : LinesAreResults g args r
  pub each_once : LinesDiffer r
  pub exact : r.how ≡ Quiet → IsExact g args r
  pub cause : HasCause g args limits r.how
