use Rattle.std.proofs.Common.{◌≡◌, flat_map}
use Rattle.tam_word.specs.Lists.{below}
use Rattle.tam_list.specs.Listings.{code_text}
use Rattle.tam_list.specs.Told.{told_of}
use Rattle.tam_list.proofs.blocks.print_blocks.Given as goal

abbrev pub invariant-loop-code : goal.invariant-loop-code
invariant-loop-code l = l.text.items ≡ flat_map (code_text (told_of l.told) l.g) (below l.code)
