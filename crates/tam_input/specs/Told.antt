-- What the files tell: what is left of each name, how often a read of it failed, and how often the end of one was given.
use Rattle.std.specs.Prelude.{ℕ, zero, suc, ◌≡◌, List, [], Option, Some, None, ⊤}
use Rattle.tam_edge.specs.Faults.{next_count, Rose}

-- the bytes that are left of each name, where they are told
abbrev pub Files : Type 0
Files = List ℕ → Option (List ℕ)

-- what the files tell at one time
pub record Told : Type 0 where
  pub left : Files
  pub faults : List ℕ → ℕ  -- of each name
  pub ends : ℕ  -- of all names together

-- what files tell, by what they are
abbrev pub told : {F : Type 0} → (F → Files) → (F → List ℕ → ℕ) → (F → ℕ) → F → Told
told left faults ends files = record { left = left files; faults = faults files; ends = ends files }

-- a read of the file failed: its count rose, or stands at its last value
abbrev pub HasFailed : Told → Told → List ℕ → Type 0
HasFailed before now file = Rose (before.faults file) (now.faults file)

-- a count that rose so often, or stands at its last value
abbrev pub count_up : ℕ → ℕ → ℕ
count_up zero count = count
count_up (suc n) count = next_count (count_up n count)

-- the end of a file was given so often
abbrev pub GivesEnds : Told → Told → ℕ → Type 0
GivesEnds before now n = now.ends ≡ count_up n before.ends

-- ---- contents

-- the bytes of each name
abbrev pub Contents : Type 0
Contents = List ℕ → List ℕ

-- each name has the bytes that are told of it, where they are told
abbrev pub Agrees : Files → Contents → Type 0
Agrees left contents = (file bytes : List ℕ) → left file ≡ Some bytes → contents file ≡ bytes

-- so it is with some bytes of each name, which agree with all that is told
abbrev pub ForSome : Files → (Contents → Type 0) → Type 0
ForSome left P = (contents : Contents) × Agrees left contents × P contents

-- these bytes are a file's, where they are told
abbrev pub IsContent : Option (List ℕ) → List ℕ → Type 0
IsContent None bytes = ⊤
IsContent (Some told) bytes = told ≡ bytes

-- so it is with some bytes of one file, which agree with what is told of it
abbrev pub OfSome : Option (List ℕ) → (List ℕ → Type 0) → Type 0
OfSome left P = (bytes : List ℕ) × IsContent left bytes × P bytes
