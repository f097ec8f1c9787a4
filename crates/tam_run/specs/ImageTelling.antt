-- What a run of an image tells from a state on.
use Rattle.std.specs.Prelude.{ℕ, ◌≡◌, List, [], Some, None, length}
use Rattle.tam_istr.specs.Cells.{cells_used}
use Rattle.tam_msgs.specs.declared.counts.Counts.{Counts}
use Rattle.tam_msgs.specs.declared.item.Item.{Item}
use Rattle.tam_msgs.specs.declared.limits.Limits.{Limits}
use Rattle.rv_inst.specs.Harts.{Hart}
use Rattle.rv_inst.specs.Images.{Image}
use Rattle.rv_keep.specs.Hosts.{Host}
use Rattle.rv_keep.specs.HostRuns.{host_step}
use Rattle.rv_host.specs.LiveFrames.{AreLive}
use Rattle.rv_host.specs.HostStates.{host_with, AreMarked}
use Rattle.rv_host.specs.HostEvents.{HostRun}
use Rattle.tam_run.specs.Accounts.{Account}
use Rattle.tam_run.specs.Telling.{Run, Tells, Stand, stand_in}

-- what a state has counted
abbrev pub host_counts : Host → Counts
host_counts s = record { events = s.events; activations = s.activations; cells = cells_used s.arrays }

-- the run of an image within limits
abbrev pub image_run : Image → Limits → Run Host
image_run image limits = record {
  step = host_step image limits;
  budget = limits.budget;
  results = image.results;
  printed = λ s. s.printed;
  counts = host_counts;
  machine = λ s. Some s.hart;
}

-- what contracts see of a run of an image: the image, the host and the machine
pub record MachineRun : Type 0 where
  pub image : Image
  pub host : HostRun
  pub hart : Hart

-- where it stands, whatever is left of the order list, whatever was printed, and in whatever order frames came to be live
abbrev pub image_stand : MachineRun → Stand
image_stand run = stand_in (image_run run.image run.host.limits) (host_with run.host.state run.hart [] [] [])

-- it goes on, these results were printed and no others, and under this order list it tells this account, with some list of the live frames
pub record ImageTells (run : MachineRun) (order : List Item) (printed : List (ℕ × ℕ)) (a : Account) : Type 0 where
  pub going : run.host.ended ≡ None
  pub as_many : run.image.results ≡ length run.host.state.marks
  pub marks : AreMarked run.host.state.marks printed
  pub live : List ℕ
  pub are_live : AreLive run.host.state.numbers live
  pub tells : Tells (image_run run.image run.host.limits) (host_with run.host.state run.hart order printed live) a
