-- What is told of a block, by the mode.
use Rattle.std.specs.Prelude.{ℕ, List}
use Rattle.tam_split.specs.Blocks.{BlockGraph}
use Rattle.tam_list.specs.declared.told.Told.{Told}
use Rattle.tam_list.specs.declared.told.Told.TheVariants.{Sets, Classes}
use Rattle.tam_list.specs.Listings.{sets_of, classes_of}

-- the sets of its vertices, or its classes
abbrev pub told_of : Told → BlockGraph → List ℕ
told_of Sets b = sets_of b
told_of Classes b = classes_of b
