-- Which bytes are the file of an image, and what is the first fault of others.
-- The rules in words: docs/MACHINE.md, "Image file".
use Rattle.std.specs.Prelude.{◌≡◌, ℕ, ◌+◌, ◌*◌, ◌%◌, ◌<◌, ◌≤◌, Bool, true, false, not, ◌&&◌, ◌||◌, ◌==◌, nat_lt, nat_le, List, [], ◌∷◌, ◌++◌, length, Option}
use Rattle.std.specs.Prelude.{Some, None, Result, Ok, Err}
use Rattle.rv_inst.specs.Harts.{read_at}
use Rattle.rv_inst.specs.Images.{Image, bytes_of_words}
use Rattle.rv_image.specs.declared.image_error.ImageCause.{ImageCause}
use Rattle.rv_image.specs.declared.image_error.ImageCause.TheVariants.{Magic, Version, Size, Stride, Params, Results}
use Rattle.rv_image.specs.declared.image_error.ImageError.{ImageError}
use Rattle.rv_image.specs.declared.image_error.ImageError.TheVariants.{Bad, NoMemory}

-- ---- the numbers of the format

-- the first word of a file: the bytes `TAMI`
abbrev pub magic_number : ℕ
magic_number = 0x494d4154

-- the second: the version of the format
abbrev pub format_version : ℕ
format_version = 1

-- the bytes before the words of an image
abbrev pub header_bytes : ℕ
header_bytes = 24

-- the most words of an image
abbrev pub max_words : ℕ
max_words = 16777210

-- the fewest bytes of a frame
abbrev pub min_stride : ℕ
min_stride = 16

-- the most
abbrev pub max_stride : ℕ
max_stride = 65536

-- the most params, and the most results
abbrev pub max_places : ℕ
max_places = 64

-- ---- images and their files

-- a number of bytes that a frame may have: a multiple of 4
abbrev pub is_stride : ℕ → Bool
is_stride stride = (stride % 4 == 0) && (nat_le min_stride stride && nat_le stride max_stride)

-- the numbers of an image are in their ranges
pub record IsImage (image : Image) : Type 0 where
  pub stride : is_stride image.stride ≡ true
  pub params : image.params ≤ max_places
  pub results : image.results ≤ max_places
  pub some_word : 0 < length image.words
  pub words : length image.words ≤ max_words

-- the words before those of an image
abbrev pub header : Image → List ℕ
header image = magic_number ∷ format_version ∷ length image.words ∷ image.stride ∷ image.params ∷ image.results ∷ []

-- the bytes of its file
unfoldable pub image_bytes : Image → List ℕ
image_bytes image = bytes_of_words (header image ++ image.words)

-- a fault at a byte where the test holds, or else what is found behind it
abbrev pub found_if : Bool → ℕ → ImageCause → Option (ℕ × ImageCause) → Option (ℕ × ImageCause)
found_if true at cause behind = Some (at, cause)
found_if false at cause behind = behind

-- a count of words that the file doesn't have, or that no image has
abbrev pub is_bad_count : ℕ → ℕ → Bool
is_bad_count size count = (count == 0) || (nat_lt max_words count || not (size == header_bytes + 4 * count))

-- the first fault of a file with a whole header
abbrev pub header_fault : List ℕ → Option (ℕ × ImageCause)
header_fault bytes =
    found_if (not (read_at bytes 0 4 == magic_number)) 0 Magic
    (found_if (not (read_at bytes 4 4 == format_version)) 4 Version
    (found_if (is_bad_count (length bytes) (read_at bytes 8 4)) 8 Size
    (found_if (not (is_stride (read_at bytes 12 4))) 12 Stride
    (found_if (nat_lt max_places (read_at bytes 16 4)) 16 Params
    (found_if (nat_lt max_places (read_at bytes 20 4)) 20 Results None)))))

-- the first fault of a file, and the byte at which it stands
abbrev pub fault_of : List ℕ → Option (ℕ × ImageCause)
fault_of bytes = found_if (nat_lt (length bytes) header_bytes) 8 Size (header_fault bytes)

-- what is read: the image whose file this is, or the first fault; memory may be wanting for an image
abbrev pub ReadsImage : List ℕ → Result Image ImageError → Type 0
ReadsImage bytes (Ok image) = IsImage image × (bytes ≡ image_bytes image)
ReadsImage bytes (Err (Bad at cause)) = fault_of bytes ≡ Some (at, cause)
ReadsImage bytes (Err NoMemory) = fault_of bytes ≡ None
