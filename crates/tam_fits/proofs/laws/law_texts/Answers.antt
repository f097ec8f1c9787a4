use Rattle.tam_fits.proofs.laws.law_texts.Goals as goal
use Rattle.tam_fits.proofs.TextBytes.{texts-short, by_pairs-short}

pub returns-clause-short : goal.returns-clause-short
returns-clause-short c = texts-short

pub returns-clause-by_pairs : goal.returns-clause-by_pairs
returns-clause-by_pairs c = by_pairs-short
