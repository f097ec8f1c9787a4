use Rattle.std.proofs.Common.{◌≡◌, ◌∙◌, ◌++◌}
use Rattle.std.specs.Prelude.{codes}
use Rattle.tam_print.specs.PrintedLines.{code_text}
use Rattle.tam_print.proofs.Texts.{code-added}
use Rattle.tam_print.proofs.printing.push_code.Goals as goal

pub returns : goal.returns
returns c =
    let whole : c.push_block.new.text.items ++ codes "end\n" ≡ c.args.text.now.items ++ code_text c.args.g.now c.args.code.now =
    code-added c.args.g.now c.args.code.now c.bytes.result.now c.owners.result.now (c.bytes.ensures.value ∙ c.name.ensures.value) c.owners.ensures.value
    c.args.text.now.items c.push_one.new.text.items c.push_block.new.text.items c.in_ok-push_one.ensures.ok c.in_ok-push_block.ensures.ok in
    record { ok = rw whole at c.push_alone.ensures.ok }
