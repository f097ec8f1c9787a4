-- The names of the causes of traps, as they stand in every text.
-- The rules in words: docs/MACHINE.md, "RV32IM".
use Rattle.std.specs.Prelude.{ℕ, List, codes}
use Rattle.rv_inst.specs.declared.trap_cause.TrapCause.{TrapCause}
use Rattle.rv_inst.specs.declared.trap_cause.TrapCause.TheVariants.{FetchAddress, JumpAlign, Unknown, LoadAddress, StoreAddress, LoadAlign, StoreAlign, Break}
use Rattle.rv_inst.specs.declared.trap_cause.TrapCause.TheVariants.{NoPoll}

-- the name of a cause
abbrev pub trap_text : TrapCause → List ℕ
trap_text FetchAddress = codes "FetchAddress"
trap_text JumpAlign = codes "JumpAlign"
trap_text Unknown = codes "Unknown"
trap_text LoadAddress = codes "LoadAddress"
trap_text StoreAddress = codes "StoreAddress"
trap_text LoadAlign = codes "LoadAlign"
trap_text StoreAlign = codes "StoreAlign"
trap_text Break = codes "Break"
trap_text NoPoll = codes "NoPoll"
