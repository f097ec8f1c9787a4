-- Machine code, and the machine that it starts.
-- The rules in words: docs/MACHINE.md, "RV32IM" and "Image file".
use Rattle.std.specs.Prelude.{ℕ, ◌*◌, List, ◌++◌, flat_map, replicate}
use Rattle.rv_inst.specs.Harts.{Hart, bytes_of}

-- machine code: its words, the bytes of a frame, and how many params and results its `main` has
pub record Image : Type 0 where
  pub stride : ℕ
  pub params : ℕ
  pub results : ℕ
  pub words : List ℕ

-- the bytes of words
abbrev pub bytes_of_words : List ℕ → List ℕ
bytes_of_words ws = flat_map (bytes_of 4) ws

-- the machine at the first word, with room for so many frames behind the last
abbrev pub hart_opening : Image → ℕ → Hart
hart_opening image frames = record { regs = replicate 32 0; pc = 0; memory = bytes_of_words image.words ++ replicate (frames * image.stride) 0; steps = 0 }
