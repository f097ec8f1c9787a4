use Rattle.std.proofs.Common.{◌≡◌, drop}
use Rattle.tam_word.specs.Lists.{first_of, same_bytes}
use Rattle.tam_read.specs.declared.form.TheConstants.{VERBS}
use Rattle.tam_read.specs.Sentences.{verb_text, verb_called}
use Rattle.tam_read.proofs.form.verb_called.Given as goal

abbrev pub invariant-loop-verb : goal.invariant-loop-verb
invariant-loop-verb l = first_of (λ v. same_bytes l.token (verb_text v)) (drop l.verb-index VERBS) ≡ verb_called l.token
