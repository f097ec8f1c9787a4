-- What files in memory are to their callers, and what a read of them does.
use Rattle.std.specs.Prelude.{◌≡◌, ◌⊎◌, min, ℕ, List, [], length, map, Contains, Option, Result, Ok, Err, Vec}
use Rattle.std.specs.declared.alloc.Global.{Global}
use Rattle.tam_edge.specs.declared.files.FileError.{FileError}
use Rattle.tam_edge.specs.declared.files.FileError.TheVariants.{Failed, NoMemory}
use Rattle.tam_edge.specs.Entries.{Entry, value_of, value_by, IsMissing}
use Rattle.tam_edge.specs.Faults.{next_count, CountsEnd}
use Rattle.tam_edge.specs.Pieces.{at_most}

-- the files in order, each with its name and the bytes left; the numbers of the calls that fail; the calls made; how often an end was given;
-- the faults, by name; how many bytes one call gives at most, if that is bounded
pub record FilesInMemory : Type 0 where
  pub files : List (List ℕ × List ℕ)
  pub fail : List ℕ
  pub calls : ℕ
  pub ends : ℕ
  pub faults : List (List ℕ × ℕ)
  pub most : Option ℕ

-- the bytes of the first file of that name, none where no file has it
abbrev pub bytes_held : List (Entry (Vec ℕ Global)) → List ℕ → List ℕ
bytes_held files name = value_by (λ bytes. bytes.items) [] files name

-- the bytes that are left of the first file of that name, none where the name is not held
abbrev pub bytes_left : FilesInMemory → List ℕ → List ℕ
bytes_left memory name = value_of [] memory.files name

-- how many reads of that name have failed
abbrev pub fault_count : FilesInMemory → List ℕ → ℕ
fault_count memory name = value_of 0 memory.faults name

-- the names of the files, in order
abbrev pub names_of : FilesInMemory → List (List ℕ)
names_of memory = map (λ file. file.0) memory.files

-- the next call is one of those that fail, or no file has that name
abbrev pub IsToFail : FilesInMemory → List ℕ → Type 0
IsToFail memory name = Contains memory.fail (next_count memory.calls) ⊎ IsMissing memory.files name

-- The call was not to fail: all that fits in the room was given, or a piece of it where that is bounded, and the call is counted.
pub record GivesAllThatFits (before now : FilesInMemory) (name : List ℕ) (room count : ℕ) : Type 0 where
  pub not_to_fail : ¬ IsToFail before name
  pub next_end : CountsEnd before.ends now.ends (Ok count)
  pub count_is : count ≡ at_most before.most (min (length (bytes_left before name)) room)
  pub next_call : now.calls ≡ next_count before.calls
  pub same_fail : now.fail ≡ before.fail
  pub same_names : names_of now ≡ names_of before
  pub same_faults : now.faults ≡ before.faults
  pub same_most : now.most ≡ before.most

-- The call was to fail: the count of that name is one more, or stands at its last value, and the call is counted.
pub record NotesFault (before now : FilesInMemory) (name : List ℕ) : Type 0 where
  pub to_fail : IsToFail before name
  pub raised : fault_count now name ≡ next_count (fault_count before name)
  pub next_call : now.calls ≡ next_count before.calls
  pub same_fail : now.fail ≡ before.fail
  pub same_ends : now.ends ≡ before.ends
  pub same_files : now.files ≡ before.files
  pub same_most : now.most ≡ before.most

-- The call was to fail, and memory was wanted to note the name's first fault: nothing at all has changed.
pub record WantsMemory (before now : FilesInMemory) (name : List ℕ) : Type 0 where
  pub to_fail : IsToFail before name
  pub first_fault : fault_count before name ≡ 0
  pub unchanged : now ≡ before

-- what a read of files in memory does, by its answer
abbrev pub ReadsMemory : FilesInMemory → FilesInMemory → List ℕ → ℕ → Result ℕ FileError → Type 0
ReadsMemory before now name room (Ok count) = GivesAllThatFits before now name room count
ReadsMemory before now name room (Err Failed) = NotesFault before now name
ReadsMemory before now name room (Err NoMemory) = WantsMemory before now name
