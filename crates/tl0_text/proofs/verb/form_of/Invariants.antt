-- No form that was passed has the word.
use Rattle.std.proofs.Common.{◌≡◌, length}
use Rattle.std.specs.List.{find}
use Rattle.tam_word.specs.Lists.{same_bytes}
use Rattle.tl0_text.specs.CodeSayings.{form_text, form_of}
use Rattle.tl0_text.proofs.verb.form_of.Given as goal

abbrev pub invariant-loop-rest : goal.invariant-loop-rest
invariant-loop-rest l = find (λ f. same_bytes l.word (form_text f)) l.rest ≡ form_of l.fn.next l.word

abbrev pub decreases-loop-rest : goal.decreases-loop-rest
decreases-loop-rest l = length l.rest
