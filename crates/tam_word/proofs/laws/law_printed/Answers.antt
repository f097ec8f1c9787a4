use Rattle.tam_word.proofs.Spelled.{decimal_up_to-again, decimal_up_to-is}
use Rattle.tam_word.proofs.SignedText.{word_of-signed_text}
use Rattle.tam_word.proofs.laws.law_printed.Goals as goal

pub returns-clause-words : goal.returns-clause-words
returns-clause-words c = word_of-signed_text

pub returns-clause-numbers : goal.returns-clause-numbers
returns-clause-numbers c = decimal_up_to-again

pub returns-clause-spelt_once : goal.returns-clause-spelt_once
returns-clause-spelt_once c = λ most n text. decimal_up_to-is most text n
