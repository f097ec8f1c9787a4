-- What is told in place of an answer to a file: faults of the words, of reading, files that are too long, and want of memory.
-- The rule in words: docs/FORMATS.md, "Command line".
use Rattle.std.specs.Prelude.{ℕ, ◌≡◌, ◌+◌, ◌<◌, ◌≤◌, Bool, true, false, List, [], ◌++◌, length, codes, Option, Some, None, Ok, Err}
use Rattle.tam_word.specs.Lists.{same_bytes}
use Rattle.tam_msgs.specs.declared.item.Item.{Item}
use Rattle.tam_msgs.specs.Orders.{order_of}
use Rattle.tam_msgs.specs.Runs.{line}
use Rattle.tam_words.specs.declared.mode.Mode.{Mode}
use Rattle.tam_words.specs.declared.mode.Mode.TheVariants as mode
use Rattle.tam_words.specs.declared.usage_cause.UsageCause.{UsageCause}
use Rattle.tam_words.specs.declared.usage_cause.UsageCause.TheVariants.{Order as Bad_order}
use Rattle.tam_words.specs.Names.{cause_name, reads_file}
use Rattle.tam_words.specs.Jobs.{Asked, Job, Usage, JobParts}
use Rattle.tam_input.specs.declared.ending.Ending.{Ending}
use Rattle.tam_input.specs.declared.ending.Ending.TheVariants as ending
use Rattle.tam_input.specs.declared.refusal.Refusal.{Refusal}
use Rattle.tam_input.specs.declared.refusal.Refusal.TheVariants as refusal
use Rattle.tam_input.specs.Told.{Told, HasFailed, GivesEnds, Contents}

-- ---- lines

-- the line of a usage fault
abbrev pub usage_line : UsageCause → List ℕ
usage_line cause = line (codes "usage " ++ cause_name cause)

-- the line of a read that failed
abbrev pub read_fault_line : List ℕ
read_fault_line = line (codes "read fault")

-- the line of a file of too many bytes
abbrev pub too_long_line : List ℕ
too_long_line = line (codes "refused too long")

-- the line of want of memory
abbrev pub no_memory_line : List ℕ
no_memory_line = line (codes "no memory")

-- how the program ends after a refusal
abbrev pub refusal_ending : Refusal → Ending
refusal_ending refusal.TooLong = ending.Refused
refusal_ending (refusal.Usage cause) = ending.Usage
refusal_ending refusal.NotRead = ending.ReadFault
refusal_ending refusal.NoMemory = ending.NoMemory

-- and its line
abbrev pub refusal_line : Refusal → List ℕ
refusal_line refusal.TooLong = too_long_line
refusal_line (refusal.Usage cause) = usage_line cause
refusal_line refusal.NotRead = read_fault_line
refusal_line refusal.NoMemory = no_memory_line

-- ---- files

-- the most bytes of an order file
abbrev pub most_order_bytes : ℕ
most_order_bytes = 1048576

-- the most bytes of the text that a mode reads: none where it reads no file
abbrev pub most_bytes : Mode → ℕ
most_bytes mode.Graph = 1048576
most_bytes mode.Tl0 = 1048576
most_bytes mode.Rv32 = 1048576
most_bytes mode.Check = 1048576
most_bytes mode.EmitDg = 1048576
most_bytes mode.Sets = 1048576
most_bytes mode.Parts = 1048576
most_bytes mode.EmitTl0 = 1048576
most_bytes mode.EmitAsm = 1048576
most_bytes mode.EmitImage = 1048576
most_bytes mode.Assemble = 67108864
most_bytes mode.ExecTl0 = 67108864
most_bytes mode.ExecRv32 = 67108864
most_bytes mode.Make = 0

-- a file, but for one that was read already
abbrev pub unless_read : Option (List ℕ) → List ℕ → Option (List ℕ)
unless_read None name = Some name
unless_read (Some file) name = elim (same_bytes file name) [ true ↦ None | false ↦ Some name ]

-- the file whose text a job reads: that of its name, unless its mode reads none or it was read as the order file, which leaves nothing of it
abbrev pub text_file : JobParts → Option (List ℕ)
text_file job = elim (reads_file job.mode) [ true ↦ unless_read job.order_file job.name | false ↦ None ]

-- the bytes of a file, none where there is no file
abbrev pub bytes_of : Contents → Option (List ℕ) → List ℕ
bytes_of contents None = []
bytes_of contents (Some file) = contents file

-- the text that a job reads
abbrev pub text_of : JobParts → Contents → List ℕ
text_of job contents = bytes_of contents (text_file job)

-- how many files there are, of at most one
abbrev pub file_count : Option (List ℕ) → ℕ
file_count None = 0
file_count (Some file) = 1

-- how many files a job reads
abbrev pub files_read : JobParts → ℕ
files_read job = file_count (text_file job) + file_count job.order_file

-- how many files are read at most
abbrev pub most_files : Asked → ℕ
most_files (Job job) = files_read job
most_files (Usage cause) = 0

-- the order list of a job: that of its option, or the one in its order file
pub data IsOrder (job : JobParts) (contents : Contents) : List Item → Type 0 where
  from_words : job.order_file ≡ None → IsOrder job contents job.order
  from_file : {file : List ℕ} {order : List Item} → job.order_file ≡ Some file → length (contents file) ≤ most_order_bytes
      → order_of (contents file) ≡ Ok order → IsOrder job contents order

-- ---- why a job isn't answered

-- by what the words ask for, by the contents of the files and by what reading them did, the refusal that is told before the job's text is looked into
pub data Refuses (ask : Asked) (contents : Contents) (before now : Told) : Refusal → Type 0 where
  -- a fault of the words
  usage : {cause : UsageCause} → ask ≡ Usage cause → GivesEnds before now 0 → Refuses ask contents before now (refusal.Usage cause)
  -- a read of the order file failed, before its end
  order_failed : {job : JobParts} {file : List ℕ} → ask ≡ Job job → job.order_file ≡ Some file → HasFailed before now file → GivesEnds before now 0
      → Refuses ask contents before now refusal.NotRead
  -- it holds too many bytes
  long_order : {job : JobParts} {file : List ℕ} → ask ≡ Job job → job.order_file ≡ Some file → most_order_bytes < length (contents file)
      → GivesEnds before now 0 → Refuses ask contents before now refusal.TooLong
  -- it holds no order list
  no_order : {job : JobParts} {file : List ℕ} {item : ℕ} → ask ≡ Job job → job.order_file ≡ Some file → length (contents file) ≤ most_order_bytes
      → order_of (contents file) ≡ Err item → GivesEnds before now 1 → Refuses ask contents before now (refusal.Usage Bad_order)
  -- there is an order list, and a read of the job's file failed, before its end
  text_failed : {job : JobParts} {order : List Item} {file : List ℕ} → ask ≡ Job job → IsOrder job contents order → text_file job ≡ Some file
      → HasFailed before now file → GivesEnds before now (file_count job.order_file) → Refuses ask contents before now refusal.NotRead
  -- or it holds too many bytes
  too_long : {job : JobParts} {order : List Item} {file : List ℕ} → ask ≡ Job job → IsOrder job contents order → text_file job ≡ Some file
      → most_bytes job.mode < length (contents file) → GivesEnds before now (file_count job.order_file) → Refuses ask contents before now refusal.TooLong
  -- memory was wanted
  wanted : (n : ℕ) → n ≤ most_files ask → GivesEnds before now n → Refuses ask contents before now refusal.NoMemory
