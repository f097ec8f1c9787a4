-- What is printed is the text of the program, and reads as it.
use Rattle.std.proofs.Common.{◌≡◌, ℕ, List, ◌++◌, ap, ap₂, ◌∙◌, sym, subst}
use Rattle.std.specs.List.{AllByRecursion}
use Rattle.tl0_code.specs.ThreadCode.{CodeText, IsCodeText}
use Rattle.tl0_code.specs.CodeTexts.{program_text}
use Rattle.tl0_text.specs.Printing.{is_word, printed}
use Rattle.tl0_text.proofs.Printed.{printed-is, print-reads}
use Rattle.tl0_text.proofs.printer.print0.Goals as goal

pub returns-clause-value : goal.returns-clause-value
returns-clause-value c =
    c.in_ok-push_program.ensures.ok
    ∙ ap (λ l. l ++ printed (record { main = c.main.result; codes = c.codes.result.now })) c.new-text.ensures.items
    ∙ ap₂ (λ (m : ℕ) (cs : List CodeText). printed (record { main = m; codes = cs })) c.main.ensures.value c.codes.ensures.value
    ∙ printed-is c.args.program.now

pub returns-clause-reads : goal.returns-clause-reads
returns-clause-reads c =
    let is : c.push_program.new.text.items ≡ program_text c.args.program.now =
    c.in_ok-push_program.ensures.ok
    ∙ ap (λ l. l ++ printed (record { main = c.main.result; codes = c.codes.result.now })) c.new-text.ensures.items
    ∙ ap₂ (λ (m : ℕ) (cs : List CodeText). printed (record { main = m; codes = cs })) c.main.ensures.value c.codes.ensures.value
    ∙ printed-is c.args.program.now in
    print-reads c.args.program.now c.push_program.new.text.items c.codes.ensures.limits
    (ap is_word (sym c.main.ensures.value) ∙ c.push_program.ensures.main)
    (subst (λ (cs : List CodeText). AllByRecursion IsCodeText cs) c.codes.ensures.value c.in_ok-push_program.ensures.each) is
