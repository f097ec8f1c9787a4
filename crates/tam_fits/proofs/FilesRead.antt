-- The image of an accepted graph's code as a file.
use Rattle.std.proofs.Common.{◌≡◌, ℕ, zero, suc, ◌*◌, ◌^◌, ◌<◌, ◌≤◌, true, List, [], ◌∷◌, ◌++◌, length, sym, arith, tests, inl, inr, refl}
use Rattle.tam_word.proofs.Members.{In}
use Rattle.tl0_code.specs.ThreadCode.{Program}
use Rattle.tl0_code.specs.CodeRules.{IsChecked}
use Rattle.tl0_keep.specs.Compiled.{compiled}
use Rattle.rv_inst.specs.Images.{Image}
use Rattle.rv_inst.proofs.Bytes.{length-bytes_of_words}
use Rattle.rv_image.specs.ImageFiles.{IsImage, is_stride, header, image_bytes}
use Rattle.rv_image.specs.ImageLaws.{AreBelow}
use Rattle.rv_image.proofs.ImageLemmas.{images-pass, files-differ}
use Rattle.rv_keep.specs.Image.{image_of, image_words, words_in_all, stride_of}
use Rattle.rv_keep.proofs.CheckedCode.{head-is}
use Rattle.rv_keep.proofs.ImageLengths.{image-long}
use Rattle.rv_keep.proofs.FrameWidths.{IsStride, stride-wide}
use Rattle.rv_keep.proofs.ImageWords.{image-word}
use Rattle.tam_fits.specs.FileLaws.{ImagesAreInRange, ImagesHaveWords, FilesAreShort, FilesReadAgain}
use Rattle.tam_fits.proofs.Fitting.{checked-fits}

-- what passes the tests
stride-test : (n k : ℕ) → n ≡ 4 * k → 16 ≤ n → n ≤ 28708 → is_stride n ≡ true
stride-test n k e l m = grind (arith, tests)

-- numbers that are all below n are at each place
all-below : (n : ℕ) → 0 < n → (xs : List ℕ) → ((w : ℕ) → In w xs → w < n) → AreBelow n xs
all-below n l [] h k = l
all-below n l (x ∷ xs) h zero = h x (inl refl)
all-below n l (x ∷ xs) h (suc k) = all-below n l xs (λ w m. h w (inr m)) k

module _ (p : Program) (checked : IsChecked p) (fits : words_in_all p ≤ 16777210) where
  -- the image of checked code that isn't too long is in range
  image-ranged : IsImage (image_of p)
  unfolding image_of
  image-ranged =
      let w : IsStride (stride_of p) = stride-wide p checked in
      let h = head-is p p.main checked checked.main in
      let l : length (image_words p) ≡ words_in_all p = image-long p in
      record {
        stride = stride-test (stride_of p) w.words w.whole w.many w.few;
        params = h.few_params;
        results = h.few_results;
        some_word = omega (arith, l);
        words = omega (arith, l, fits);
      }

  -- and has words
  words-below : AreBelow (2 ^ 32) (image_of p).words
  unfolding image_of
  words-below = all-below (2 ^ 32) (omega arith) (image_words p) (image-word p checked fits)

-- the file of an image in range isn't too long
file-short : (image : Image) → IsImage image → length (image_bytes image) ≤ 67108864
unfolding image_bytes
file-short image h = let l = length-bytes_of_words (header image ++ image.words) in let m = h.words in omega (arith, l, m)

-- ---- the laws

-- the image is in range
pub images-ranged : ImagesAreInRange
images-ranged g accepted = let f = checked-fits g accepted in image-ranged (compiled g) f.0 f.1

-- and has words
pub images-words : ImagesHaveWords
images-words g accepted = let f = checked-fits g accepted in words-below (compiled g) f.0 f.1

-- its file isn't too long, and has no fault
pub files-short : FilesAreShort
files-short g accepted =
    let h = images-ranged g accepted in (file-short (image_of (compiled g)) h, images-pass (image_of (compiled g)) h)

-- and is that of no other image
pub files-read : FilesReadAgain
files-read g image accepted words reads =
    files-differ image (image_of (compiled g)) reads.0 (images-ranged g accepted) words (images-words g accepted) (sym reads.1)
