use Rattle.std.proofs.Common.{rules, map}
use Rattle.std.specs.String.{string_bytes}
use Rattle.clap.specs.Words.{app_of, found_of, kind_of, rows_of}
use Rattle.tam_words.proofs.CommandLemmas.{matched_by, matches_by, refused_by}
use Rattle.tam_words.proofs.command.match_words.Goals as goal

pub returns-clause-matched : goal.returns-clause-matched
returns-clause-matched c =
    matched_by (app_of c.in_ok-command.field-0) (map string_bytes c.args.words.now) c.in_ok-command.ensures.value c.in_ok-try_get_matches_from.ensures.kinds

pub returns-clause-found : goal.returns-clause-found
returns-clause-found c =
    matches_by (app_of c.in_ok-command.field-0) (map string_bytes c.args.words.now) (rows_of (found_of c.in_ok-try_get_matches_from.field-0))
    c.in_ok-command.ensures.value (λ s. (c.in_ok-try_get_matches_from.ensures.matches s).0)

pub returns-in_err-try_get_matches_from-clause-refused : goal.returns-in_err-try_get_matches_from-clause-refused
returns-in_err-try_get_matches_from-clause-refused c =
    let told =
    refused_by (app_of c.in_ok-command.field-0) (map string_bytes c.args.words.now) (kind_of c.in_err-try_get_matches_from.field-0.0)
    c.in_ok-command.ensures.value c.in_err-try_get_matches_from.ensures.kinds in
    search (rules, told)
