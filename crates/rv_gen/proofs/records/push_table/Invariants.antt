-- The addresses of the codes that were passed stand behind the words, and where the next record stands.
use Rattle.std.proofs.Common.{◌≡◌, ◌++◌, map}
use Rattle.tam_word.specs.Lists.{below}
use Rattle.rv_keep.specs.Image.{record_of}
use Rattle.rv_gen.proofs.records.push_table.Given as goal

abbrev pub invariant-loop-number : goal.invariant-loop-number
invariant-loop-number l = record {
  ok : l.words.items ≡ l.fn.words.items ++ map (record_of l.program) (below l.number);
  address : l.address ≡ record_of l.program l.number;
}
