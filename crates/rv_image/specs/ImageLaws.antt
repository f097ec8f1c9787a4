-- The laws of image files: an image has one file, and a file is that of one image or has a fault.
-- The rules in words: docs/MACHINE.md, "Image file".
use Rattle.std.specs.Prelude.{◌≡◌, ℕ, ◌^◌, ◌<◌, List, None, slice_index}
use Rattle.rv_inst.specs.Images.{Image}
use Rattle.rv_image.specs.ImageFiles.{IsImage, image_bytes, fault_of}

-- each number is below n
abbrev pub AreBelow : ℕ → List ℕ → Type 0
AreBelow n xs = (k : ℕ) → slice_index xs k < n

-- the file of an image in range has no fault
abbrev pub ImagesHaveNoFault : Type 0
ImagesHaveNoFault = (image : Image) → IsImage image → fault_of (image_bytes image) ≡ None

-- a list of bytes without a fault is the file of an image in range
abbrev pub NoFaultIsAnImage : Type 0
NoFaultIsAnImage = (bytes : List ℕ) → AreBelow (2 ^ 8) bytes → fault_of bytes ≡ None → (image : Image) × IsImage image × (bytes ≡ image_bytes image)

-- images of words with one file are one
abbrev pub FilesDiffer : Type 0
FilesDiffer = (i j : Image) → IsImage i → IsImage j → AreBelow (2 ^ 32) i.words → AreBelow (2 ^ 32) j.words → image_bytes i ≡ image_bytes j → i ≡ j
