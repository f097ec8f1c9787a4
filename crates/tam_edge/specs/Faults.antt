-- Counts of faults: a fault is answered only where the count of what was asked says so. And counts of ends that were given.
use Rattle.std.specs.Prelude.{◌≡◌, ℕ, zero, suc, ◌+◌, ◌-◌, ◌^◌, ◌≤◌, min, Result, Ok, Err}
use Rattle.tam_edge.specs.declared.files.FileError.{FileError}
use Rattle.tam_edge.specs.declared.files.FileError.TheVariants.{Failed, NoMemory}
use Rattle.tam_edge.specs.declared.whole.ReadError.{ReadError}
use Rattle.tam_edge.specs.declared.whole.ReadError.TheVariants as whole

-- one more, but no more than the last value of a u64
abbrev pub next_count : ℕ → ℕ
next_count count = min (count + 1) (2 ^ 64 - 1)

-- the count rose, or stands at its last value
abbrev pub Rose : ℕ → ℕ → Type 0
Rose before now = next_count before ≤ now

-- a fault was counted: the count did not fall, and it rose or stands at its last value
abbrev pub CountsFault : ℕ → ℕ → Type 0
CountsFault before now = (before ≤ now) × Rose before now

-- what a read leaves of the count of its name
abbrev pub CountsRead : {T : Type 0} → ℕ → ℕ → Result T FileError → Type 0
CountsRead before now (Ok given) = now ≡ before
CountsRead before now (Err Failed) = CountsFault before now
CountsRead before now (Err NoMemory) = now ≡ before

-- what a read leaves of the count of ends: it rises by one where the end of a name was given, and else stays
abbrev pub CountsEnd : ℕ → ℕ → Result ℕ FileError → Type 0
CountsEnd before now (Ok zero) = now ≡ next_count before
CountsEnd before now (Ok (suc count)) = now ≡ before
CountsEnd before now (Err error) = now ≡ before

-- what the reading of a whole file leaves of it: its end was given once, or not at all where it wasn't read whole
abbrev pub CountsEndWhole : {T E : Type 0} → ℕ → ℕ → Result T E → Type 0
CountsEndWhole before now (Ok given) = now ≡ next_count before
CountsEndWhole before now (Err error) = now ≡ before

-- what a write leaves of the count of its sink
abbrev pub CountsPut : {T E : Type 0} → ℕ → ℕ → Result T E → Type 0
CountsPut before now (Ok taken) = now ≡ before
CountsPut before now (Err failed) = CountsFault before now

-- what the reading of a whole file leaves of the count of its name
abbrev pub CountsReadWhole : {T : Type 0} → ℕ → ℕ → Result T ReadError → Type 0
CountsReadWhole before now (Ok given) = now ≡ before
CountsReadWhole before now (Err whole.Fault) = CountsFault before now
CountsReadWhole before now (Err whole.TooLong) = now ≡ before
CountsReadWhole before now (Err whole.NoMemory) = now ≡ before
