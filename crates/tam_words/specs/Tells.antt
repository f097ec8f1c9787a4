-- What an error says of the words.
use Rattle.std.specs.Prelude.{◌≡◌, Result, Err}
use Rattle.tam_msgs.specs.declared.order.OrderError.{OrderError}
use Rattle.tam_msgs.specs.declared.order.OrderError.TheVariants.{Bad}
use Rattle.tam_msgs.specs.declared.order.OrderError.TheVariants as order
use Rattle.tam_words.specs.declared.usage_cause.UsageCause.{UsageCause}
use Rattle.tam_words.specs.declared.usage_cause.UsageCause.TheVariants.{Order as Bad_order, Words}
use Rattle.tam_words.specs.declared.words_error.WordsError.{WordsError}
use Rattle.tam_words.specs.declared.words_error.WordsError.TheVariants.{Usage as Fault, NoMemory}
use Rattle.clap.specs.declared.error.kind.ErrorKind.{ErrorKind}
use Rattle.clap.specs.declared.error.kind.ErrorKind.TheVariants as kind
use Rattle.tam_words.specs.Jobs.{Asked, Usage}

-- a bad order list is a usage fault
abbrev pub words_error_of : OrderError → WordsError
words_error_of (Bad place) = Fault Bad_order
words_error_of order.NoMemory = NoMemory

-- what `clap` refuses are words that don't match the command
abbrev pub words_error_of_kind : ErrorKind → WordsError
words_error_of_kind kind.OutOfMemory = NoMemory
words_error_of_kind _ = Fault Words

-- an error names the cause that the words have; want of memory says nothing of them
abbrev pub Tells : Asked → WordsError → Type 0
Tells ask (Fault cause) = ask ≡ Usage cause
Tells ask NoMemory = Unit {0}

-- an error names the cause of a value that isn't there; want of memory says nothing of it
abbrev pub TellsOf : {X : Type 0} → Result X UsageCause → WordsError → Type 0
TellsOf value (Fault cause) = value ≡ Err cause
TellsOf value NoMemory = Unit {0}
