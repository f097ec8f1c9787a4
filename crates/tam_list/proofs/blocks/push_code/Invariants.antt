use Rattle.std.proofs.Common.{◌≡◌, ◌++◌, flat_map}
use Rattle.tam_word.specs.Lists.{below}
use Rattle.tam_graph.specs.Graphs.{code_of}
use Rattle.tam_list.specs.Listings.{block_text}
use Rattle.tam_list.specs.Told.{told_of}
use Rattle.tam_list.proofs.blocks.push_code.Given as goal

abbrev pub invariant-loop-block : goal.invariant-loop-block
invariant-loop-block l = l.text.items ≡ l.initial.text.items ++ flat_map (block_text (told_of l.told) (code_of l.g l.code)) (below l.block)
