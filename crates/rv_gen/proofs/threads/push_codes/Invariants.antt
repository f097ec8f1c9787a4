-- The codes that were passed stand behind the words, and where the next one begins.
use Rattle.std.proofs.Common.{◌≡◌, ◌++◌, flat_map}
use Rattle.tam_word.specs.Lists.{below}
use Rattle.rv_keep.specs.Image.{code_insts, start_of}
use Rattle.rv_gen.specs.Parts.{words_of}
use Rattle.rv_gen.proofs.threads.push_codes.Given as goal

abbrev pub invariant-loop-number : goal.invariant-loop-number
invariant-loop-number l = record {
  ok : l.words.items ≡ l.fn.words.items ++ words_of (flat_map (code_insts l.program) (below l.number));
  first : l.first ≡ start_of l.program l.number 0;
}
