-- The words of the command line as one simple command of `clap`. Which words match it, and by what values, is for the specs of `clap` to say.
-- The rule in words: docs/FORMATS.md, "Command line".
use Rattle.std.specs.Prelude.{ℕ, Bool, true, false, List, [], ◌∷◌, Option, Some, codes}
use Rattle.clap.specs.Words.{App, Kinds, Row, Rule, fault_of, first_of, matches_of, new_app, new_rule, with_rule}
use Rattle.clap.specs.Simple.{on_top}

-- ---- the command

-- a command without arguments, without a help flag and without a version flag, whose words begin behind the program's name
abbrev pub bare_command : App
bare_command = on_top (λ top. record top { no_binary_name = true; disable_help_flag = true; disable_version_flag = true }) (new_app (codes "tam"))

-- a word that has to stand in its place
abbrev pub required_word : List ℕ → Rule
required_word name = record (new_rule name) { required = true }

-- a word that may stand in its place
abbrev pub optional_word : List ℕ → Rule
optional_word name = new_rule name

-- an option with one value, which stands behind `=` or is the next word
abbrev pub option_of : List ℕ → Rule
option_of name = record (new_rule name) { long = Some name }

-- MODE, NAME and perhaps COUNT, in this order
abbrev pub placed_command : App
placed_command =
    with_rule (with_rule (with_rule bare_command (required_word (codes "mode"))) (required_word (codes "name"))) (optional_word (codes "count"))

-- those and the options: the command of the program's words
unfoldable pub command : App
command =
    with_rule (with_rule (with_rule (with_rule (with_rule (with_rule placed_command
    (option_of (codes "args"))) (option_of (codes "order"))) (option_of (codes "order-file")))
    (option_of (codes "budget"))) (option_of (codes "frames"))) (option_of (codes "cells"))

-- ---- words

-- `clap` has no fault to tell
abbrev pub is_faultless : Kinds → Bool
is_faultless [] = true
is_faultless (kind ∷ kinds) = false

-- the words match the command
unfoldable pub is_matched : List (List ℕ) → Bool
is_matched words = is_faultless (fault_of command words)

-- the matches of the command on the words
unfoldable pub matches : List (List ℕ) → List Row
matches words = matches_of command words

-- the value that matches give the argument of a name
abbrev pub given : List ℕ → List Row → Option (List ℕ)
given name rows = first_of name rows
