use Rattle.std.proofs.Common.{◌≡◌, ◌++◌, drop, flat_map}
use Rattle.std.specs.Prelude.{codes}
use Rattle.tam_print.specs.PrintedLines.{code_text}
use Rattle.tam_print.proofs.printing.text_of.Given as goal

abbrev pub invariant-loop-n : goal.invariant-loop-n
invariant-loop-n l =
    l.text.items ++ flat_map (code_text l.g) (drop l.n l.g.codes) ≡ codes "dg 1\n" ++ flat_map (code_text l.g) l.g.codes
