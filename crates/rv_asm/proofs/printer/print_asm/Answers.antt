-- The text that is printed reads as the image, and isn't too long to be assembled.
use Rattle.std.proofs.Common.{ℕ, ◌^◌, List, ap, ◌∙◌, subst}
use Rattle.std.proofs.lemmas.Result.{IfOk-weaker}
use Rattle.rv_image.specs.ImageLaws.{AreBelow}
use Rattle.rv_asm.specs.AsmText.{asm_text}
use Rattle.rv_asm.proofs.PrintedReads.{printed_text}
use Rattle.rv_asm.proofs.PrintedLength.{printed_short}
use Rattle.rv_asm.proofs.printer.print_asm.Goals as goal

pub returns-clause-reads : goal.returns-clause-reads
returns-clause-reads c =
    IfOk-weaker c.print_lines.result _ _ (λ v e. printed_text v.items c.args.image.now c.words.ensures.in_range
    (subst (λ (ws : List ℕ). AreBelow (2 ^ 32) ws) c.words.ensures.value c.print_lines.ensures.below)
    (e ∙ ap (λ (ws : List ℕ). asm_text (record c.args.image.now { words = ws })) c.words.ensures.value)) c.print_lines.ensures.value

pub returns-clause-short : goal.returns-clause-short
returns-clause-short c =
    IfOk-weaker c.print_lines.result _ _ (λ v e. printed_short v.items c.args.image.now c.words.ensures.in_range
    (subst (λ (ws : List ℕ). AreBelow (2 ^ 32) ws) c.words.ensures.value c.print_lines.ensures.below)
    (e ∙ ap (λ (ws : List ℕ). asm_text (record c.args.image.now { words = ws })) c.words.ensures.value)) c.print_lines.ensures.value
