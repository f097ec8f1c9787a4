use Rattle.std.proofs.Common.{◌≡◌, length}
use Rattle.tam_read.specs.Sentences.{each_token}
use Rattle.tam_read.specs.SaidView.{texts}
use Rattle.tam_read.specs.Tables.{table}
use Rattle.tam_read.specs.Naming.{is_code_found}
use Rattle.tam_read.proofs.naming.are_codes_found.Given as goal

abbrev pub invariant-loop-roles : goal.invariant-loop-roles
invariant-loop-roles l = each_token (is_code_found (table l.codes)) l.roles (texts l.names)
    ≡ each_token (is_code_found (table l.codes)) l.fn.roles (texts l.fn.names)

abbrev pub decreases-loop-roles : goal.decreases-loop-roles
decreases-loop-roles l = length l.roles
