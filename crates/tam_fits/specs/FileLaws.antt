-- The image of an accepted graph's code is one of an image file, which isn't too long to be read, and is read as that image.
-- The rules in words: docs/MACHINE.md, "Image file".
use Rattle.std.specs.Prelude.{◌^◌, ◌≡◌, ◌≤◌, None, Ok, length}
use Rattle.tam_graph.specs.Graphs.{Graph}
use Rattle.tam_graph.specs.Accepted.{IsAccepted}
use Rattle.tl0_keep.specs.Compiled.{compiled}
use Rattle.rv_inst.specs.Images.{Image}
use Rattle.rv_image.specs.ImageFiles.{IsImage, image_bytes, fault_of, ReadsImage}
use Rattle.rv_image.specs.ImageLaws.{AreBelow}
use Rattle.rv_keep.specs.Image.{image_of}

-- the image is within the ranges of an image file
abbrev pub ImagesAreInRange : Type 0
ImagesAreInRange = (g : Graph) → IsAccepted g → IsImage (image_of (compiled g))

-- and its words are words
abbrev pub ImagesHaveWords : Type 0
ImagesHaveWords = (g : Graph) → IsAccepted g → AreBelow (2 ^ 32) (image_of (compiled g)).words

-- its file has no more bytes than may be read, and no fault
abbrev pub FilesAreShort : Type 0
FilesAreShort = (g : Graph) → IsAccepted g
    → (length (image_bytes (image_of (compiled g))) ≤ 67108864) × (fault_of (image_bytes (image_of (compiled g))) ≡ None)

-- and is that of no other image of words
abbrev pub FilesReadAgain : Type 0
FilesReadAgain = (g : Graph) (image : Image) → IsAccepted g → AreBelow (2 ^ 32) image.words → ReadsImage (image_bytes (image_of (compiled g))) (Ok image)
    → image ≡ image_of (compiled g)
