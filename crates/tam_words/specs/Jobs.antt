-- What the words of the command line ask for: a job, or the first thing that is wrong with them.
-- The rule in words: docs/FORMATS.md, "Command line".
use Rattle.std.specs.Prelude.{ℕ, Bool, true, false, not, ◌&&◌, ◌||◌, List, [], Option, Some, None, is_some, unwrap_or, Result, Ok, Err, codes}
use Rattle.clap.specs.Words.{Row}
use Rattle.tam_msgs.specs.declared.item.Item.{Item}
use Rattle.tam_msgs.specs.declared.limits.Limits.{Limits}
use Rattle.tam_make.specs.declared.shape.Shape.{Shape}
use Rattle.tam_make.specs.MadeTexts.{IsCount}
use Rattle.tam_words.specs.declared.mode.Mode.{Mode}
use Rattle.tam_words.specs.declared.usage_cause.UsageCause.{UsageCause}
use Rattle.tam_words.specs.declared.usage_cause.UsageCause.TheVariants.{Words, Mode as Unknown_mode, Extra, Shape as Unknown_shape, Count}
use Rattle.tam_words.specs.declared.usage_cause.UsageCause.TheVariants.{Args, Order, Budget, Frames, Cells}
use Rattle.tam_words.specs.Names.{mode_of, shape_of, runs, makes}
use Rattle.tam_words.specs.Command.{is_matched, matches, given}
use Rattle.tam_words.specs.Options.{args_of, short_order_of, limit_of, usual_limits, count_of}

-- what is to be done
pub record JobParts : Type 0 where
  pub mode : Mode
  pub name : List ℕ  -- of the file, or of a shape
  pub count : ℕ  -- 0 where none is given
  pub args : List ℕ
  pub order : List Item
  pub order_file : Option (List ℕ)  -- its name
  pub limits : Limits

-- the parts as one record
abbrev pub job_parts : Mode → List ℕ → ℕ → List ℕ → List Item → Option (List ℕ) → Limits → JobParts
job_parts m n c a o f l = record { mode = m; name = n; count = c; args = a; order = o; order_file = f; limits = l }

-- there is a shape, which may have the count
abbrev pub IsMakeable : Option Shape → ℕ → Type 0
IsMakeable None count = ⊥
IsMakeable (Some shape) count = IsCount shape count

-- a job, or what is wrong with the words
pub data Asked : Type 0 where
  Job : (job : JobParts) → Asked
  Usage : (cause : UsageCause) → Asked

-- what is asked with a value, if there is one
abbrev pub asks_with : {X : Type 0} → Result X UsageCause → (X → Asked) → Asked
asks_with (Ok x) ask = ask x
asks_with (Err cause) ask = Usage cause

-- a value, or else a cause
abbrev pub some_or : {X : Type 0} → UsageCause → Option X → Result X UsageCause
some_or cause (Some x) = Ok x
some_or cause None = Err cause

-- a test that has to hold, or else a cause
abbrev pub holds_or : UsageCause → Bool → Result (Unit {0}) UsageCause
holds_or cause true = Ok tt
holds_or cause false = Err cause

-- a value is given that is the count's
abbrev pub has_count : List Row → Bool
has_count rows = is_some (given (codes "count") rows)

-- an option is given
abbrev pub has_option : List Row → Bool
has_option rows =
    is_some (given (codes "args") rows) || (is_some (given (codes "order") rows) || (is_some (given (codes "order-file") rows)
    || (is_some (given (codes "budget") rows) || (is_some (given (codes "frames") rows) || is_some (given (codes "cells") rows)))))

-- there is a count or an option that doesn't belong to the mode, or there are options that don't belong together
abbrev pub is_extra : Mode → List Row → Bool
is_extra mode rows =
    (not (makes mode) && has_count rows) || ((not (runs mode) && has_option rows)
    || (is_some (given (codes "order") rows) && is_some (given (codes "order-file") rows)))

-- the limits that options set, or the first cause why they set none
abbrev pub limits_of : List Row → Result Limits UsageCause
limits_of rows =
    elim (limit_of 1000000 0 4294967295 (given (codes "budget") rows)) [
      | None ↦ Err Budget
      | Some b ↦ elim (limit_of 4096 1 16384 (given (codes "frames") rows)) [
        | None ↦ Err Frames
        | Some f ↦ elim (limit_of 1048576 0 4194304 (given (codes "cells") rows)) [
          | None ↦ Err Cells
          | Some c ↦ Ok (record { budget = b; frames = f; cells = c })
        ]
      ]
    ]

-- the job of a mode on a file with options, if each option's value is right
abbrev pub job_of : Mode → List ℕ → List Row → Asked
job_of mode name rows =
    asks_with (some_or Args (args_of (unwrap_or (given (codes "args") rows) []))) (λ args.
    asks_with (some_or Order (short_order_of (unwrap_or (given (codes "order") rows) []))) (λ order.
    asks_with (limits_of rows) (λ limits.
    Job (job_parts mode name 0 args order (given (codes "order-file") rows) limits))))

-- the job of a mode that makes its input, if the name is that of a shape, which may have the count
abbrev pub made_job_of : Mode → List ℕ → List Row → Asked
made_job_of mode name rows =
    asks_with (some_or Unknown_shape (shape_of name)) (λ shape.
    asks_with (some_or Count (count_of shape (given (codes "count") rows))) (λ count.
    Job (job_parts mode name count [] [] None usual_limits)))

-- the job of a mode, where what is given belongs to it
abbrev pub mode_job_of : Mode → List ℕ → List Row → Asked
mode_job_of mode name rows =
    asks_with (holds_or Extra (not (is_extra mode rows))) (λ _.
    elim (makes mode) [ true ↦ made_job_of mode name rows | false ↦ job_of mode name rows ])

-- what matches ask for
abbrev pub asked_by : List Row → Asked
asked_by rows =
    asks_with (some_or Words (given (codes "mode") rows)) (λ word.
    asks_with (some_or Words (given (codes "name") rows)) (λ name.
    asks_with (some_or Unknown_mode (mode_of word)) (λ mode.
    mode_job_of mode name rows)))

-- what the words ask for: they match the command, and ask what their matches do
unfoldable pub asked : List (List ℕ) → Asked
asked words = asks_with (holds_or Words (is_matched words)) (λ _. asked_by (matches words))
