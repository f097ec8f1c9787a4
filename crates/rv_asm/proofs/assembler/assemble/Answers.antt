-- What the two passes give, or refuse.
use Rattle.rv_asm.proofs.Assembled.{few_words, in_image, first_of_second, first_of_first}
use Rattle.rv_asm.proofs.TextsRead.{refused_by_memory}
use Rattle.rv_asm.proofs.ImagesRead.{read_image, only_image}
use Rattle.rv_asm.proofs.PrintedReads.{printed_text}
use Rattle.rv_asm.proofs.assembler.assemble.Goals as goal

pub words_of-requires : goal.words_of-requires
words_of-requires c =
    record { few = few_words c.args.text.now c.in-Ok.pass c.in-Ok.ensures.faultless c.in-Ok.ensures.ok c.deref.result.now c.deref.ensures.value }

pub of-requires : goal.of-requires
of-requires c =
    record {
      in_range = in_image c.args.text.now c.in-Ok.pass c.in-Ok.ensures.faultless c.in-Ok.ensures.ok c.deref.result.now c.in-Ok-words_of.words.items
          c.deref.ensures.value c.in-Ok-words_of.ensures.len;
    }

pub returns-in-Ok-words_of-clause-reads : goal.returns-in-Ok-words_of-clause-reads
returns-in-Ok-words_of-clause-reads c =
    read_image c.args.text.now c.in-Ok.pass c.in-Ok.ensures.faultless c.in-Ok.ensures.ok c.deref.result.now c.in-Ok-words_of.words.items c.deref.ensures.value
    c.in-Ok-words_of.ensures.len c.in-Ok-words_of.ensures.ok c.of.result c.of.ensures.value

pub returns-in-Ok-words_of-clause-complete : goal.returns-in-Ok-words_of-clause-complete
returns-in-Ok-words_of-clause-complete c =
    only_image c.args.text.now c.in-Ok.pass c.in-Ok.ensures.faultless c.in-Ok.ensures.ok c.deref.result.now c.in-Ok-words_of.words.items c.deref.ensures.value
    c.in-Ok-words_of.ensures.len c.in-Ok-words_of.ensures.ok c.of.result c.of.ensures.value

pub returns-in-Err-clause-complete : goal.returns-in-Err-clause-complete
returns-in-Err-clause-complete c =
    λ i g. refused_by_memory c.args.text.now i c.in-Err.error g (first_of_first c.args.text.now c.in-Err.error c.in-Err.ensures.refused)

pub returns-clause-complete : goal.returns-clause-complete
returns-clause-complete c =
    λ i g. refused_by_memory c.args.text.now i c.in-Err-words_of.error g (first_of_second c.args.text.now c.in-Ok.pass c.in-Ok.ensures.faultless
    c.in-Ok.ensures.ok c.deref.result.now c.deref.ensures.value c.in-Err-words_of.error c.in-Err-words_of.ensures.refused)

pub returns-in-Ok-words_of-clause-printed : goal.returns-in-Ok-words_of-clause-printed
returns-in-Ok-words_of-clause-printed c =
    λ i h b e. only_image c.args.text.now c.in-Ok.pass c.in-Ok.ensures.faultless c.in-Ok.ensures.ok c.deref.result.now c.in-Ok-words_of.words.items
    c.deref.ensures.value c.in-Ok-words_of.ensures.len c.in-Ok-words_of.ensures.ok c.of.result c.of.ensures.value i (printed_text c.args.text.now i h b e)

pub returns-in-Err-clause-printed : goal.returns-in-Err-clause-printed
returns-in-Err-clause-printed c =
    λ i h b e. refused_by_memory c.args.text.now i c.in-Err.error (printed_text c.args.text.now i h b e)
    (first_of_first c.args.text.now c.in-Err.error c.in-Err.ensures.refused)

pub returns-clause-printed : goal.returns-clause-printed
returns-clause-printed c =
    λ i h b e. refused_by_memory c.args.text.now i c.in-Err-words_of.error (printed_text c.args.text.now i h b e)
    (first_of_second c.args.text.now c.in-Ok.pass c.in-Ok.ensures.faultless c.in-Ok.ensures.ok c.deref.result.now c.deref.ensures.value
    c.in-Err-words_of.error c.in-Err-words_of.ensures.refused)
