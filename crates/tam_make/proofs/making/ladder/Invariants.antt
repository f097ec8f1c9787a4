use Rattle.std.proofs.Common.{◌≡◌, ◌+◌, ◌++◌, flat_map}
use Rattle.std.specs.Prelude.{codes}
use Rattle.tam_word.specs.Lists.{below}
use Rattle.tam_make.specs.MadeTexts.{ladder_main, step_text}
use Rattle.tam_make.proofs.making.ladder.Given as goal

abbrev pub invariant-loop-i : goal.invariant-loop-i
invariant-loop-i l = l.text.items ≡ codes "dg 1\n" ++ (ladder_main ++ flat_map (λ i. step_text l.n (i + 1)) (below l.i))
