-- The command at words that are written out, as the rule has it: docs/FORMATS.md, "Command line".
use Rattle.std.proofs.Common.{◌≡◌, true, false, [], ◌∷◌, refl, codes}
use Rattle.std.specs.Prelude.{Some, None}
use Rattle.clap.proofs.OnLiterals.{clap_on_literals}
use Rattle.tam_words.specs.declared.usage_cause.UsageCause.TheVariants.{Words, Mode, Extra}
use Rattle.tam_words.specs.Command.{command, given, is_matched, matches}
use Rattle.tam_words.specs.Names.{mode_name, mode_of}
use Rattle.tam_words.specs.Jobs.{Usage, asked}

-- MODE alone is no command
mode_alone : asked (codes "graph" ∷ []) ≡ Usage Words
unfolding clap_on_literals command is_matched matches asked
mode_alone = refl

-- the value of an option may be the next word, before MODE
next_word : (is_matched (codes "--args" ∷ codes "2,3" ∷ codes "graph" ∷ codes "a.dg" ∷ []) ≡ true)
    × (given (codes "args") (matches (codes "--args" ∷ codes "2,3" ∷ codes "graph" ∷ codes "a.dg" ∷ [])) ≡ Some (codes "2,3"))
    × (given (codes "mode") (matches (codes "--args" ∷ codes "2,3" ∷ codes "graph" ∷ codes "a.dg" ∷ [])) ≡ Some (codes "graph"))
unfolding clap_on_literals command is_matched matches
next_word = (refl, refl, refl)

-- no value begins with `-` as the next word
negative_word : is_matched (codes "graph" ∷ codes "f" ∷ codes "--args" ∷ codes "-2,3" ∷ []) ≡ false
unfolding clap_on_literals command is_matched
negative_word = refl

-- but behind `=` it may
negative_behind : (is_matched (codes "graph" ∷ codes "f" ∷ codes "--args=-2,3" ∷ []) ≡ true)
    × (given (codes "args") (matches (codes "graph" ∷ codes "f" ∷ codes "--args=-2,3" ∷ [])) ≡ Some (codes "-2,3"))
unfolding clap_on_literals command is_matched matches
negative_behind = (refl, refl)

-- an option comes once
twice : is_matched (codes "graph" ∷ codes "f" ∷ codes "--cells=1" ∷ codes "--cells=1" ∷ []) ≡ false
unfolding clap_on_literals command is_matched
twice = refl

-- behind `--` each word is a value
behind_dashes : (is_matched (codes "--" ∷ codes "graph" ∷ codes "--args=1" ∷ []) ≡ true)
    × (given (codes "name") (matches (codes "--" ∷ codes "graph" ∷ codes "--args=1" ∷ [])) ≡ Some (codes "--args=1"))
    × (given (codes "args") (matches (codes "--" ∷ codes "graph" ∷ codes "--args=1" ∷ [])) ≡ None)
unfolding clap_on_literals command is_matched matches
behind_dashes = (refl, refl, refl)

-- there is no help
no_help : is_matched (codes "graph" ∷ codes "f" ∷ codes "--help" ∷ []) ≡ false
unfolding clap_on_literals command is_matched
no_help = refl

-- an unknown mode
unknown_mode : asked (codes "fly" ∷ codes "f" ∷ []) ≡ Usage Mode
unfolding clap_on_literals command is_matched matches asked mode_of mode_name
unknown_mode = refl

-- a count belongs to `make` alone
count_elsewhere : asked (codes "graph" ∷ codes "f" ∷ codes "2" ∷ []) ≡ Usage Extra
unfolding clap_on_literals command is_matched matches asked mode_of mode_name
count_elsewhere = refl
