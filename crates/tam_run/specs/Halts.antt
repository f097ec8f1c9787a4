-- Why a run halts at a level, as every level says it.
use Rattle.tl0_machine.specs.declared.stop0.Wild.{Wild}
use Rattle.tl0_machine.specs.declared.stop0.Wild.TheVariants as wild
use Rattle.tl0_machine.specs.declared.stop0.Stop0.{Stop0}
use Rattle.tl0_machine.specs.declared.stop0.Stop0.TheVariants.{Stop as Stops, Wild as Goes_wild}
use Rattle.rv_host.specs.declared.stop_rv.HostWild.{HostWild}
use Rattle.rv_host.specs.declared.stop_rv.HostWild.TheVariants as host_wild
use Rattle.rv_host.specs.declared.stop_rv.StopRv.{StopRv}
use Rattle.rv_host.specs.declared.stop_rv.StopRv.TheVariants.{Stop as Host_stops, Wild as Host_goes_wild, Trap as Host_traps}
use Rattle.tam_run.specs.declared.halt.Cause.{Cause}
use Rattle.tam_run.specs.declared.halt.Cause.TheVariants as cause
use Rattle.tam_run.specs.declared.halt.Halt.{Halt}
use Rattle.tam_run.specs.declared.halt.Halt.TheVariants as halt

-- what thread code names that isn't there
abbrev pub thread_cause : Wild → Cause
thread_cause wild.Frame = cause.Frame
thread_cause wild.Inlet = cause.Inlet
thread_cause wild.Thread = cause.Thread
thread_cause wild.Array = cause.Array
thread_cause wild.Place = cause.Place
thread_cause wild.Skip = cause.Skip

-- what machine code names that isn't there
abbrev pub host_cause : HostWild → Cause
host_cause host_wild.Frame = cause.Frame
host_cause host_wild.Array = cause.Array
host_cause host_wild.Place = cause.Place
host_cause host_wild.Ecall = cause.Ecall

-- why a run of threads halts
abbrev pub thread_halt : Stop0 → Halt
thread_halt (Stops stop) = halt.Stop stop
thread_halt (Goes_wild what n) = halt.Wild (thread_cause what) n

-- why a run of an image does
abbrev pub host_halt : StopRv → Halt
host_halt (Host_stops stop) = halt.Stop stop
host_halt (Host_goes_wild what n) = halt.Wild (host_cause what) n
host_halt (Host_traps pc cause) = halt.Trap pc cause
