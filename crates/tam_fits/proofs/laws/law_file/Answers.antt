use Rattle.tam_fits.proofs.laws.law_file.Goals as goal
use Rattle.tam_fits.proofs.FilesRead.{images-ranged, images-words, files-short, files-read}

pub returns-clause-file : goal.returns-clause-file
returns-clause-file c = images-ranged

pub returns-clause-words : goal.returns-clause-words
returns-clause-words c = images-words

pub returns-clause-short : goal.returns-clause-short
returns-clause-short c = files-short

pub returns-clause-read : goal.returns-clause-read
returns-clause-read c = files-read
