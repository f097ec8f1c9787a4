-- What contracts see of the machine that checks journals, and what an effect and a delivery do to the state that it keeps.
use Rattle.std.specs.Prelude.{ℕ, List, [], ◌∷◌, ◌++◌, ◌≡◌, Option, Some, None, Result, OnOk, map, reverse}
use Rattle.tam_world.specs.Worlds.{World, Effect, Delivery, Went, Printed, Faulted, Fault}
use Rattle.tam_world.specs.Effects.{fault_of}
use Rattle.tam_world.specs.declared.delivery.Fault.{Fault as KeptFault}
use Rattle.tam_flow.specs.Journals.{State}
use Rattle.tam_judge.specs.declared.machine.Machine.{Machine}
use Rattle.tam_judge.specs.declared.machine.ClassRun.{ClassRun}

-- ---- the state that the code keeps

-- the fault that an access found, if one did
abbrev pub or_no_fault : Option KeptFault → Option Fault
or_no_fault None = None
or_no_fault (Some f) = Some (fault_of f)

-- a run of a class as activation, block and class
abbrev pub run_of : ClassRun → ℕ × ℕ × ℕ
run_of r = (r.act, r.block, r.class)

-- the runs
abbrev pub runs_of : List ClassRun → List (ℕ × ℕ × ℕ)
runs_of runs = map run_of runs

-- the state
abbrev pub state_of : Machine → State
state_of m = record {
  world = m.world;
  sent = m.sent.items;
  arrived = reverse m.arrived.items;
  ran = reverse (runs_of m.ran.items);
  printed = m.printed.items;
  fault = or_no_fault m.fault;
}

-- ---- what is done to it

-- the state after an effect
abbrev pub effected : State → Effect → State
effected s e = record s { world = e.world; sent = s.sent ++ e.sends }

-- the state after what comes of a delivery, but for the number of its message
abbrev pub settled : State → Delivery → State
settled s (Went e) = effected s e
settled s (Printed k v) = record s { printed = s.printed ++ (k, v) ∷ [] }
settled s (Faulted f) = record s { fault = Some f }

-- where the call went well, the state is the one after this effect on its world
abbrev pub HasEffect : {T E : Type 0} → Machine → Machine → (World → Effect) → Result T E → Type 0
HasEffect old new effect result = OnOk result (state_of new ≡ effected (state_of old) (effect (state_of old).world))

-- where the call went well, the state is the one after what comes of this delivery in its world
abbrev pub Settles : {T E : Type 0} → Machine → Machine → (World → Delivery) → Result T E → Type 0
Settles old new delivery result = OnOk result (state_of new ≡ settled (state_of old) (delivery (state_of old).world))
