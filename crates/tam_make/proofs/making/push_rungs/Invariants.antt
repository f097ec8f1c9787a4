use Rattle.std.proofs.Common.{◌≡◌, ◌++◌, flat_map}
use Rattle.tam_word.specs.Lists.{below}
use Rattle.tam_make.specs.MadeTexts.{rung_text}
use Rattle.tam_make.proofs.making.push_rungs.Given as goal

abbrev pub invariant-loop-i : goal.invariant-loop-i
invariant-loop-i l = l.text.items ≡ l.initial.text.items ++ flat_map rung_text (below l.i)
