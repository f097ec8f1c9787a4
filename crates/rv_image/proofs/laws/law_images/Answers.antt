use Rattle.rv_image.proofs.laws.law_images.Goals as goal
use Rattle.rv_image.proofs.ImageLemmas.{images-pass, no-fault-image, files-differ}

pub returns-clause-images : goal.returns-clause-images
returns-clause-images c = images-pass

pub returns-clause-files : goal.returns-clause-files
returns-clause-files c = no-fault-image

pub returns-clause-differ : goal.returns-clause-differ
returns-clause-differ c = files-differ
