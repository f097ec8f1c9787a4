use Rattle.std.proofs.Common.{arith, sym}
use Rattle.tam_word.proofs.NumberLemmas.{hexadecimal_is, some_digits}
use Rattle.tam_word.proofs.read.read_hexadecimal.Goals as goal

pub returns : goal.returns
returns c =
    record {
      value = hexadecimal_is c.number_up_to.result c.args.digits.now (some_digits c.args.digits.now c.if-is_empty.ensures) (omega arith)
          (sym c.if-not-are_digits.ensures.value) c.number_up_to.ensures.found c.number_up_to.ensures.beyond;
    }
