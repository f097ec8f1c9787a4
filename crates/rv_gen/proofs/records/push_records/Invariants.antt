-- The records of the codes that were passed stand behind the words, and where the threads and the record of the next one stand.
use Rattle.std.proofs.Common.{◌≡◌, ◌++◌, flat_map}
use Rattle.tam_word.specs.Lists.{below}
use Rattle.rv_keep.specs.Image.{start_of, record_of, record_and_inlets}
use Rattle.rv_gen.proofs.records.push_records.Given as goal

abbrev pub invariant-loop-number : goal.invariant-loop-number
invariant-loop-number l = record {
  ok : l.words.items ≡ l.fn.words.items ++ flat_map (record_and_inlets l.program) (below l.number);
  first : l.first ≡ start_of l.program l.number 0;
  address : l.address ≡ record_of l.program l.number;
}
