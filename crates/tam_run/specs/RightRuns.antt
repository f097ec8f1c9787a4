-- The law of runs, of every level: each run of an accepted graph is borne out by a journal; so it is right, where the limits leave room it is quiet, and
-- quiet runs agree, whatever the levels, the orders and the limits.
use Rattle.std.specs.Prelude.{ℕ, ◌≤◌, ◌≡◌, List, length, Contains, IsPermutation}
use Rattle.tam_msgs.specs.declared.item.Item.{Item}
use Rattle.tam_msgs.specs.declared.limits.Limits.{Limits}
use Rattle.tam_msgs.specs.Messages.{AreLimits}
use Rattle.tam_msgs.specs.Runs.{Quiet, Report, missing_of}
use Rattle.tam_graph.specs.Graphs.{Graph, AreArguments}
use Rattle.tam_graph.specs.Accepted.{IsAccepted}
use Rattle.tam_fire.specs.FiringRules.{Path, Known, Result, Activations}
use Rattle.tam_split.specs.GraphPartitions.{Partitions}
use Rattle.tam_flow.specs.BorneOut.{IsBorneOut}
use Rattle.tam_flow.specs.Headline.{IsRight}
use Rattle.tam_run.specs.declared.level.Level.{Level}
use Rattle.tam_run.specs.declared.level.Level.TheVariants as level
use Rattle.tam_eval.specs.GraphRuns.{graph_text}
use Rattle.tam_eval.specs.GraphLaws.{ActivationsSuffice}
use Rattle.tl0_code.specs.ThreadRuns.{thread_text}
use Rattle.tl0_keep.specs.Compiled.{compiled}
use Rattle.tl0_keep.specs.ThreadLaws.{IsJob, HasRoomAside, FramesSuffice}
use Rattle.rv_inst.specs.Images.{Image}
use Rattle.rv_keep.specs.Image.{image_of}
use Rattle.rv_keep.specs.HostRuns.{image_text}
use Rattle.tam_fits.specs.LiveFrames.{ImageFramesSuffice}
use Rattle.tam_run.specs.Accounts.{account_text, image_account}
use Rattle.tam_run.specs.Levels.{told_at, account_at}

-- each run of an accepted graph, at every level, is borne out by a journal over some valid partitions
abbrev pub RunsAreBorneOut : Type 0
RunsAreBorneOut = (level : Level) (g : Graph) (args : List ℕ) (order : List Item) (limits : Limits) → IsAccepted g → AreArguments g args → AreLimits limits
    → (all : Partitions) × IsBorneOut g all args limits (told_at level g args order limits)

-- each run that is borne out is right
abbrev pub RunsAreRight : Type 0
RunsAreRight = (g : Graph) (all : Partitions) (args : List ℕ) (limits : Limits) (r : Report) → IsBorneOut g all args limits r → IsRight g args limits r

-- the limits leave room for what the rules give: for its activations, and for all else
pub record HasRoom (g : Graph) (args : List ℕ) (limits : Limits) : Type 0 where
  pub activations : (n : ℕ) (qs : List Path) → Activations (Known g args n) qs → length qs ≤ limits.frames
  pub aside : HasRoomAside g args limits

-- a run that is borne out within such limits is quiet
abbrev pub RoomIsQuiet : Type 0
RoomIsQuiet = (g : Graph) (all : Partitions) (args : List ℕ) (limits : Limits) (r : Report) → IsBorneOut g all args limits r → HasRoom g args limits
    → r.how ≡ Quiet

-- at each delivery of a wish for an activation in the run at a level, the live ones and the one asked for are within the stated count
abbrev pub LiveSuffice : Level → Graph → List ℕ → List Item → Limits → Type 0
LiveSuffice level.Graph g args order limits = ActivationsSuffice g args order limits
LiveSuffice level.Tl0 g args order limits = FramesSuffice g args order limits
LiveSuffice level.Rv32 g args order limits = ImageFramesSuffice (image_of (compiled g)) args order limits

-- where the limits leave room for all else, and for the live ones, the run is quiet
abbrev pub LiveRoomIsQuiet : Type 0
LiveRoomIsQuiet = (level : Level) (g : Graph) (args : List ℕ) (order : List Item) (limits : Limits) → IsJob g args limits → HasRoomAside g args limits
    → LiveSuffice level g args order limits → (told_at level g args order limits).how ≡ Quiet

-- two reports have the same lines but for their order, and the same missing lines
pub record SameLines (r s : Report) : Type 0 where
  pub lines : IsPermutation r.printed s.printed
  pub missing : missing_of r.how r.results r.printed ≡ missing_of s.how s.results s.printed

-- two quiet runs of one graph on the same arguments do, at any levels, under any orders and limits
abbrev pub QuietRunsAgree : Type 0
QuietRunsAgree = (g : Graph) (all others : Partitions) (args : List ℕ) (limits more : Limits) (r s : Report) → IsBorneOut g all args limits r
    → IsBorneOut g others args more s → r.how ≡ Quiet → s.how ≡ Quiet → SameLines r s

-- so do quiet runs at any two levels, be they the same or not
abbrev pub QuietLevelsAgree : Type 0
QuietLevelsAgree = (one other : Level) (g : Graph) (args : List ℕ) (order items : List Item) (limits more : Limits) → IsJob g args limits → IsJob g args more
    → (told_at one g args order limits).how ≡ Quiet → (told_at other g args items more).how ≡ Quiet
    → SameLines (told_at one g args order limits) (told_at other g args items more)

-- no result that the rules give is missing
abbrev pub NoResultIsMissing : Type 0
NoResultIsMissing = (g : Graph) (all : Partitions) (args : List ℕ) (limits : Limits) (r : Report) (k w : ℕ) → IsBorneOut g all args limits r
    → Result g args k w → ¬ Contains (missing_of r.how r.results r.printed) k

-- the machine's run reports what the threads' run reports: the same lines, in a text with one more, that of the instructions
abbrev pub MachineTellsThreads : Type 0
MachineTellsThreads = (g : Graph) (args : List ℕ) (order : List Item) (limits : Limits) → IsJob g args limits
    → told_at level.Rv32 g args order limits ≡ told_at level.Tl0 g args order limits

-- the text of what each level tells is the text of that level's run
pub record TextsAreTold : Type 0 where
  pub graph : (g : Graph) (args : List ℕ) (order : List Item) (limits : Limits)
      → account_text (account_at level.Graph g args order limits) ≡ graph_text g args order limits
  pub threads : (g : Graph) (args : List ℕ) (order : List Item) (limits : Limits)
      → account_text (account_at level.Tl0 g args order limits) ≡ thread_text (compiled g) args order limits
  pub images : (image : Image) (args : List ℕ) (order : List Item) (limits : Limits)
      → account_text (image_account image args order limits) ≡ image_text image args order limits
