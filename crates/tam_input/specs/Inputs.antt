-- What was read for a job, and what reading leaves of the files.
use Rattle.std.specs.Prelude.{ℕ, ◌≡◌, ◌<◌, ◌≤◌, ◌⊎◌, List, [], length, Option, Some, None, Result, Ok, Err, ⊤}
use Rattle.tam_edge.specs.declared.whole.ReadError.{ReadError}
use Rattle.tam_edge.specs.declared.whole.ReadError.TheVariants as whole
use Rattle.tam_msgs.specs.declared.item.Item.{Item}
use Rattle.tam_msgs.specs.declared.limits.Limits.{Limits}
use Rattle.tam_msgs.specs.declared.order.OrderError.{OrderError}
use Rattle.tam_msgs.specs.declared.order.OrderError.TheVariants as order
use Rattle.tam_msgs.specs.Orders.{order_of}
use Rattle.tam_make.specs.declared.shape.Shape.{Shape}
use Rattle.tam_words.specs.declared.mode.Mode.{Mode}
use Rattle.tam_words.specs.declared.words_error.WordsError.{WordsError}
use Rattle.tam_words.specs.declared.words_error.WordsError.TheVariants as words
use Rattle.tam_words.specs.declared.usage_cause.UsageCause.TheVariants.{Order as Bad_order}
use Rattle.tam_words.specs.Names.{shape_of}
use Rattle.tam_words.specs.Jobs.{Asked, Job, Usage, JobParts}
use Rattle.tam_input.specs.declared.refusal.Refusal.{Refusal}
use Rattle.tam_input.specs.declared.refusal.Refusal.TheVariants as refusal
use Rattle.tam_input.specs.Told.{Files, Told, HasFailed, GivesEnds, Contents, OfSome}
use Rattle.tam_input.specs.Refusing.{IsOrder, text_file, text_of, file_count, files_read, most_bytes, most_order_bytes}

-- ---- what was read

-- what a mode, a shape and its count, arguments, an order list and limits ask of a text
pub record Request : Type 0 where
  pub mode : Mode
  pub shape : Option Shape  -- that of the name
  pub count : ℕ
  pub args : List ℕ
  pub order : List Item
  pub limits : Limits

-- what a job asks of its text, under an order list
abbrev pub request_of : JobParts → List Item → Request
request_of job order = record { mode = job.mode; shape = shape_of job.name; count = job.count; args = job.args; order = order; limits = job.limits }

-- the words ask for a job; it asks so of these bytes, its text, under its order list; and each of its files was read to its end
pub record IsInput (ask : Asked) (contents : Contents) (before now : Told) (request : Request) (bytes : List ℕ) : Type 0 where
  pub job : JobParts
  pub order : List Item
  pub asked : ask ≡ Job job
  pub same : request ≡ request_of job order
  pub ordered : IsOrder job contents order
  pub text : text_of job contents ≡ bytes
  pub few : length bytes ≤ most_bytes job.mode
  pub to_end : GivesEnds before now (files_read job)

-- ---- what is left

-- a read failed
abbrev pub IsFault : {X : Type 0} → Result X Refusal → Type 0
IsFault (Err refusal.NotRead) = ⊤
IsFault result = ⊥

-- of a file whose bytes are told none is left
abbrev pub IsReadOut : Option (List ℕ) → Option (List ℕ) → Type 0
IsReadOut None now = ⊤
IsReadOut (Some bytes) now = now ≡ Some []

-- the job reads the file
abbrev pub NamesFile : JobParts → List ℕ → Type 0
NamesFile job file = (job.order_file ≡ Some file) ⊎ (text_file job ≡ Some file)

-- the words name the file
abbrev pub Names : Asked → List ℕ → Type 0
Names (Job job) file = NamesFile job file
Names (Usage cause) file = ⊥

-- Nothing changes of a file that isn't named. Where a read failed, the count of a named file rose, or stands at its last value; else no count changed.
pub record KeepsNamed (Named : List ℕ → Type 0) (before now : Told) (Failed : Type 0) : Type 0 where
  pub other_left : (file : List ℕ) → ¬ Named file → now.left file ≡ before.left file
  pub other_faults : (file : List ℕ) → ¬ Named file → now.faults file ≡ before.faults file
  pub counted : Failed → (file : List ℕ) × Named file × HasFailed before now file
  pub uncounted : ¬ Failed → (file : List ℕ) → now.faults file ≡ before.faults file

-- each named file was read out
abbrev pub ReadsOut : (List ℕ → Type 0) → Files → Files → Type 0
ReadsOut Named left left_new = (file : List ℕ) → Named file → IsReadOut (left file) (left_new file)

-- ---- one file

-- why a file that isn't read whole isn't
abbrev pub refusal_of : ReadError → Refusal
refusal_of whole.Fault = refusal.NotRead
refusal_of whole.TooLong = refusal.TooLong
refusal_of whole.NoMemory = refusal.NoMemory

-- why words give no job
abbrev pub refusal_of_words : WordsError → Refusal
refusal_of_words (words.Usage cause) = refusal.Usage cause
refusal_of_words words.NoMemory = refusal.NoMemory

-- why a text gives no order list
abbrev pub refusal_of_order : OrderError → Refusal
refusal_of_order (order.Bad place) = refusal.Usage Bad_order
refusal_of_order order.NoMemory = refusal.NoMemory

-- why a file wasn't read: it holds too many bytes, or a read failed, or memory was wanted; its end wasn't given
abbrev pub RefusesFile : Told → Told → List ℕ → ℕ → Refusal → Type 0
RefusesFile before now file most refusal.TooLong = OfSome (before.left file) (λ bytes. most < length bytes)
RefusesFile before now file most refusal.NotRead = HasFailed before now file
RefusesFile before now file most refusal.NoMemory = ⊤
RefusesFile before now file most (refusal.Usage cause) = ⊥

-- the bytes are those of the file, or none where there is no file
abbrev pub IsTextOf : Files → Option (List ℕ) → List ℕ → Type 0
IsTextOf left None bytes = bytes ≡ []
IsTextOf left (Some file) bytes = OfSome (left file) (λ content. bytes ≡ content)

-- why the text of a file wasn't read, if there is a file
abbrev pub RefusesText : Told → Told → Option (List ℕ) → ℕ → Refusal → Type 0
RefusesText before now None most refused = ⊥
RefusesText before now (Some file) most refused = RefusesFile before now file most refused

-- this order list was read of a file
abbrev pub IsOrderIn : Option (List ℕ) → List Item → Type 0
IsOrderIn left order = OfSome left (λ bytes. (length bytes ≤ most_order_bytes) × (order_of bytes ≡ Ok order))

-- why none was read of a file: it holds too many bytes or no order list, or a read failed, or memory was wanted
pub data RefusesOrder (before now : Told) (file : List ℕ) : Refusal → Type 0 where
  long : OfSome (before.left file) (λ bytes. most_order_bytes < length bytes) → GivesEnds before now 0 → RefusesOrder before now file refusal.TooLong
  no_list : OfSome (before.left file) (λ bytes. (length bytes ≤ most_order_bytes) × ((item : ℕ) × (order_of bytes ≡ Err item))) → GivesEnds before now 1
      → RefusesOrder before now file (refusal.Usage Bad_order)
  not_read : HasFailed before now file → GivesEnds before now 0 → RefusesOrder before now file refusal.NotRead
  no_room : (n : ℕ) → n ≤ 1 → GivesEnds before now n → RefusesOrder before now file refusal.NoMemory
