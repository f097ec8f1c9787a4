-- What an event does to the state that the evaluator keeps.
use Rattle.std.specs.Prelude.{◌++◌, ◌≡◌, Result, OnOk}
use Rattle.tam_graph.specs.Graphs.{Graph}
use Rattle.tam_world.specs.Worlds.{World, Effect}
use Rattle.tam_eval.specs.GraphRuns.{joins}
use Rattle.tam_eval.specs.Machines.{EvalState, state_of}
use Rattle.tam_eval.specs.declared.machine.Machine.{Machine}

-- the state after an event with this effect
abbrev pub effected : Graph → EvalState → Effect → EvalState
effected g s e = record s { world = e.world; ready = s.ready ++ joins g s.world e.world; pending = s.pending ++ e.sends }

-- where the call went well, the state is the one after this effect on its world
abbrev pub HasEffect : {T E : Type 0} → Graph → Machine → Machine → (World → Effect) → Result T E → Type 0
HasEffect g old new effect result = OnOk result (state_of new ≡ effected g (state_of old) (effect (state_of old).world))
