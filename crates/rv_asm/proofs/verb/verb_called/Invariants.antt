-- The verb that the token writes is among those that are left.
use Rattle.std.proofs.Common.{◌≡◌, drop}
use Rattle.std.specs.List.{find}
use Rattle.tam_word.specs.Lists.{same_bytes}
use Rattle.rv_asm.specs.declared.verb.TheConstants.{VERBS}
use Rattle.rv_asm.specs.InstNames.{verb_text, verb_called}
use Rattle.rv_asm.proofs.verb.verb_called.Given as goal

abbrev pub invariant-loop-verb : goal.invariant-loop-verb
invariant-loop-verb l = find (λ v. same_bytes l.token (verb_text v)) (drop l.verb-index VERBS) ≡ verb_called l.token
