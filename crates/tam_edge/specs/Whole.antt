-- What the reading of a whole file and the writing of a whole text leave.
use Rattle.std.specs.Prelude.{◌≡◌, ℕ, ◌+◌, ◌<◌, ◌≤◌, List, ◌++◌, length, Option, None, Some, Result, Ok, Err, [], ⊤}
use Rattle.std.specs.Io.KnownBytes.{Appends}
use Rattle.tam_edge.specs.declared.files.FileError.{FileError}
use Rattle.tam_edge.specs.declared.files.FileError.TheVariants as file
use Rattle.tam_edge.specs.declared.whole.ReadError.{ReadError}
use Rattle.tam_edge.specs.declared.whole.ReadError.TheVariants.{Fault, TooLong, NoMemory}

-- why a file isn't read whole, where a read of it gave nothing
abbrev pub read_error_of : FileError → ReadError
read_error_of file.Failed = Fault
read_error_of file.NoMemory = NoMemory

-- told bytes that were left were given whole, and nothing is left
abbrev pub GivesAll : Option (List ℕ) → Option (List ℕ) → List ℕ → Type 0
GivesAll None now given = ⊤
GivesAll (Some before) None given = ⊥
GivesAll (Some before) (Some now) given = (before ≡ given) × (now ≡ [])

-- told bytes that are left are a suffix of those before, and at most one more than the limit are gone
abbrev pub LeavesSuffix : Option (List ℕ) → Option (List ℕ) → ℕ → Type 0
LeavesSuffix None now limit = ⊤
LeavesSuffix (Some before) None limit = ⊥
LeavesSuffix (Some before) (Some now) limit = (given : List ℕ) × (before ≡ given ++ now) × (length given ≤ limit + 1)

-- told bytes are more than the limit
abbrev pub IsLonger : Option (List ℕ) → ℕ → Type 0
IsLonger None limit = ⊤
IsLonger (Some before) limit = limit < length before

-- told bytes are at most as many as the limit
abbrev pub IsWithin : Option (List ℕ) → ℕ → Type 0
IsWithin None limit = ⊤
IsWithin (Some before) limit = length before ≤ limit

-- too long is answered only for more than the limit, and a whole file only for no more
abbrev pub TellsTooLong : {T : Type 0} → Option (List ℕ) → ℕ → Result T ReadError → Type 0
TellsTooLong before limit (Ok given) = IsWithin before limit
TellsTooLong before limit (Err TooLong) = IsLonger before limit
TellsTooLong before limit (Err Fault) = ⊤
TellsTooLong before limit (Err NoMemory) = ⊤

-- of the text a prefix was taken
abbrev pub AppendsPrefix : Option (List ℕ) → Option (List ℕ) → List ℕ → Type 0
AppendsPrefix old new bytes = (prefix rest : List ℕ) × (bytes ≡ prefix ++ rest) × Appends old new prefix
