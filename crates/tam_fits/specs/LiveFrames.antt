-- The frames that are live in the run of the image of an accepted graph's code: whom messages and readers name is live, and where the live frames are
-- few enough, and there is room for all else, the run is quiet.
-- The rules in words: docs/ARCHITECTURE.md, "Machine code".
use Rattle.std.specs.Prelude.{ℕ, ◌+◌, ◌≡◌, ◌≢◌, ◌≤◌, ◌↔◌, Bool, true, false, not, ◌==◌, List, ◌++◌, flat_map, slice_get, length, IsTrue, Contains}
use Rattle.tam_word.specs.Lists.{has}
use Rattle.tam_msgs.specs.declared.limits.Limits.{Limits}
use Rattle.tam_msgs.specs.declared.item.Item.{Item}
use Rattle.tam_msgs.specs.declared.choice.Choice.{Choice}
use Rattle.tam_msgs.specs.declared.choice.Choice.TheVariants.{Deliver as Choose_delivery}
use Rattle.tam_msgs.specs.Messages.{outside}
use Rattle.tam_msgs.specs.Runs.{Quiet, choice}
use Rattle.tam_graph.specs.Graphs.{Graph}
use Rattle.tl0_keep.specs.Compiled.{compiled}
use Rattle.tl0_keep.specs.ThreadNames.{named_in, waiting_at}
use Rattle.tl0_keep.specs.ThreadLaws.{IsJob, is_wish, HasRoomAside, FramesSuffice}
use Rattle.rv_inst.specs.Harts.{reg}
use Rattle.rv_inst.specs.Images.{Image}
use Rattle.rv_keep.specs.Image.{image_of}
use Rattle.rv_keep.specs.Hosts.{Host, At_poll}
use Rattle.rv_keep.specs.HostRuns.{image_told}
use Rattle.rv_keep.specs.StepLaws.{poll_behind, host_at, host_left}

-- ---- whom the host names

-- as receiver or asker of a message, or as who waits at a cell
abbrev pub names_in : Host → List ℕ
names_in s = flat_map named_in s.pending ++ flat_map (flat_map waiting_at) s.arrays

-- each frame that is named is live, but for the outside
abbrev pub NamesLive : Host → Type 0
NamesLive s = (f : ℕ) → Contains (names_in s) f → f ≢ outside → IsTrue (has s.live f)

-- so it is at each poll of the run, and as each end leaves it
abbrev pub ImagesNameLive : Type 0
ImagesNameLive = (g : Graph) (args : List ℕ) (order : List Item) (limits : Limits) (n : ℕ) → IsJob g args limits
    → NamesLive (host_at (poll_behind (image_of (compiled g)) args order limits n))

-- a number that was given back, and wasn't given out again, isn't live
abbrev pub FreeNotLive : Host → Type 0
FreeNotLive s = (f : ℕ) → Contains s.free f → has s.live f ≡ false

-- so it is there too
abbrev pub ImagesFreeNotLive : Type 0
ImagesFreeNotLive = (g : Graph) (args : List ℕ) (order : List Item) (limits : Limits) (n : ℕ) → IsJob g args limits
    → FreeNotLive (host_at (poll_behind (image_of (compiled g)) args order limits n))

-- whom the host names is live also as the whole run leaves it
abbrev pub ImagesLeaveLive : Type 0
ImagesLeaveLive = (g : Graph) (args : List ℕ) (order : List Item) (limits : Limits) → IsJob g args limits
    → NamesLive (host_left (image_of (compiled g)) args order limits)

-- ---- room for live frames

-- what is chosen is the delivery of a wish for a frame
abbrev pub chooses_wish : Host → Choice × List Item → Bool
chooses_wish s (Choose_delivery k, rest) = is_wish (slice_get s.pending k)
chooses_wish s _ = false

-- the event that is made at the poll delivers a wish for a frame
abbrev pub grants_frame : Host → Bool
grants_frame s = chooses_wish s (choice s.order (not (reg s.hart 10 == 0)) (length s.pending))

-- at each such poll of the run of an image, the live frames and the one asked for are within the stated count
abbrev pub ImageFramesSuffice : Image → List ℕ → List Item → Limits → Type 0
ImageFramesSuffice image args order limits = (n : ℕ) (s : Host) → poll_behind image args order limits n ≡ At_poll s → grants_frame s ≡ true
    → length s.live + 1 ≤ limits.frames

-- frames suffice in the run of the image where they do in the run of its threads, and only there
abbrev pub FramesSufficeAlike : Type 0
FramesSufficeAlike = (g : Graph) (args : List ℕ) (order : List Item) (limits : Limits) → IsJob g args limits
    → (FramesSuffice g args order limits ↔ ImageFramesSuffice (image_of (compiled g)) args order limits)

-- then, with room for all else, the run is quiet
abbrev pub ImageRoomIsQuiet : Type 0
ImageRoomIsQuiet = (g : Graph) (args : List ℕ) (order : List Item) (limits : Limits) → IsJob g args limits → HasRoomAside g args limits
    → ImageFramesSuffice (image_of (compiled g)) args order limits → (image_told (image_of (compiled g)) args order limits).how ≡ Quiet
