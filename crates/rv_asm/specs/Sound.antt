-- What is said keeps the ranges of an image all along.
use Rattle.std.specs.Prelude.{◌≡◌, ◌≤◌, true, length, List, map, ℕ, Result, Ok}
use Rattle.rv_image.specs.ImageFiles.{max_words, max_places}
use Rattle.rv_image.specs.ImageFiles.{is_stride}
use Rattle.rv_asm.specs.declared.asm_error.AsmCause.{AsmCause}
use Rattle.rv_asm.specs.Statements.{Code}
use Rattle.rv_asm.specs.Faults.{Said, Placed}

-- the numbers are in their ranges, and there aren't too many words
pub record IsSound (s : Said) : Type 0 where
  pub stride : is_stride s.stride ≡ true
  pub params : s.params ≤ max_places
  pub results : s.results ≤ max_places
  pub few : length s.words ≤ max_words

-- words without their lines
abbrev pub codes_of : Placed → List Code
codes_of ps = map (λ p. p.1) ps

-- words that are there
abbrev pub all_there : List ℕ → List (Result ℕ AsmCause)
all_there ws = map (λ w. Ok w) ws
