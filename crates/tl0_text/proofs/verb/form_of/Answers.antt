-- A form that doesn't have the word is passed.
use Rattle.std.proofs.Common.{sym, ◌∙◌, ap, arith}
use Rattle.tam_word.specs.Lists.{same_bytes}
use Rattle.tl0_text.specs.declared.verb.Form.TheVariants.{Code}
use Rattle.tl0_text.specs.CodeSayings.{form_text}
use Rattle.tl0_text.proofs.Looping.{find-behind}
use Rattle.tl0_text.proofs.verb.form_of.Goals as goal

pub loop-rest-preserved : goal.loop-rest-preserved
loop-rest-preserved c =
    find-behind (λ f. same_bytes c.args.word.now (form_text f)) c.loop-rest.rest.now Code (omega arith)
    (ap (same_bytes c.args.word.now) (sym c.form_text.ensures.value) ∙ sym c.is_same.ensures.value ∙ c.if-is_same.false)
    ∙ c.loop-rest.invariant
