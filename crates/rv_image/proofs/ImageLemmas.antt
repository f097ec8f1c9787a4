-- An image's file has no fault, and a file without a fault is an image's.
use Rattle.std.proofs.Common.{◌≡◌, ℕ, zero, suc, ◌+◌, ◌-◌, ◌*◌, ◌^◌, ◌<◌, ◌≤◌, ◌==◌, Bool, true, false, not, nat_lt, List, [], ◌∷◌, ◌++◌}
use Rattle.std.proofs.Common.{length, drop, refl, sym, ap, ◌∙◌, arith, tests, get_or-drop, Option, None}
use Rattle.std.proofs.lemmas.List.{length-drop}
use Rattle.rv_inst.specs.Harts.{read_at, bytes_of}
use Rattle.rv_inst.specs.Images.{Image, bytes_of_words}
use Rattle.rv_inst.proofs.Bytes.{length-bytes_of_words}
use Rattle.rv_image.specs.ImageFiles.{max_words, max_places}
use Rattle.rv_image.specs.ImageFiles.{magic_number, format_version, header_bytes}
use Rattle.rv_image.specs.declared.image_error.ImageCause.{ImageCause}
use Rattle.rv_image.specs.declared.image_error.ImageCause.TheVariants.{Magic, Version, Size, Stride, Params, Results}
use Rattle.rv_image.specs.ImageFiles.{is_stride, IsImage, header, image_bytes, found_if, is_bad_count, fault_of}
use Rattle.rv_image.specs.ImageLaws.{AreBelow}
use Rattle.rv_image.proofs.WordBytes.{next-word, word-there, bytes-differ, words_of, words_of-back}

-- ---- a file without a fault

-- where nothing is found, the test fails, and nothing is found behind it
not-found : (t : Bool) (at : ℕ) (cause : ImageCause) (behind : Option (ℕ × ImageCause)) → found_if t at cause behind ≡ None
    → (t ≡ false) × (behind ≡ None)
not-found true at cause behind h = absurd cc
not-found false at cause behind h = (refl, h)

-- a test of equality that fails to fail
equal : (x y : ℕ) → not (x == y) ≡ false → x ≡ y
equal x y h = grind (arith, tests)

-- a number that isn't above
within : (x y : ℕ) → nat_lt x y ≡ false → y ≤ x
within x y h = grind (arith, tests)

-- a test that doesn't fail
holds : (t : Bool) → not t ≡ false → t ≡ true
holds true h = refl
holds false h = absurd cc

-- a count that isn't bad
good-count : (size count : ℕ) → is_bad_count size count ≡ false → (0 < count) × (count ≤ max_words) × (size ≡ header_bytes + 4 * count)
good-count size count h = (grind (arith, tests), grind (arith, tests), grind (arith, tests))

-- what the header of a file without a fault says
record IsHeader (bytes : List ℕ) : Type 0 where
  whole : header_bytes ≤ length bytes
  magic : read_at bytes 0 4 ≡ magic_number
  version : read_at bytes 4 4 ≡ format_version
  some_word : 0 < read_at bytes 8 4
  words : read_at bytes 8 4 ≤ max_words
  size : length bytes ≡ header_bytes + 4 * read_at bytes 8 4
  stride : is_stride (read_at bytes 12 4) ≡ true
  params : read_at bytes 16 4 ≤ max_places
  results : read_at bytes 20 4 ≤ max_places

-- it says so
header-said : (bytes : List ℕ) → fault_of bytes ≡ None → IsHeader bytes
header-said bytes h =
    let a = not-found _ _ _ _ h in
    let b = not-found _ _ _ _ a.1 in
    let c = not-found _ _ _ _ b.1 in
    let d = not-found _ _ _ _ c.1 in
    let e = not-found _ _ _ _ d.1 in
    let f = not-found _ _ _ _ e.1 in
    let g = not-found _ _ _ _ f.1 in
    let n = good-count (length bytes) (read_at bytes 8 4) d.0 in
    record {
      whole = within _ _ a.0;
      magic = equal _ _ b.0;
      version = equal _ _ c.0;
      some_word = n.0;
      words = n.1;
      size = n.2;
      stride = holds _ e.0;
      params = within _ _ f.0;
      results = within _ _ g.0;
    }

-- the image of a file's header and of words
abbrev pub image_with : List ℕ → List ℕ → Image
image_with bytes words = record { stride = read_at bytes 12 4; params = read_at bytes 16 4; results = read_at bytes 20 4; words = words }

-- six words before others
six : (bs : List ℕ) → AreBelow 256 bs → header_bytes ≤ length bs
    → bytes_of_words (read_at bs 0 4 ∷ read_at bs 4 4 ∷ read_at bs 8 4 ∷ read_at bs 12 4 ∷ read_at bs 16 4 ∷ read_at bs 20 4 ∷ []) ++ drop 24 bs ≡ bs
six bs h l =
    let a : bs ≡ bytes_of 4 (read_at bs 0 4) ++ drop 4 bs = next-word bs 0 h (omega arith) in
    let b : drop 4 bs ≡ bytes_of 4 (read_at bs 4 4) ++ drop 8 bs = next-word bs 4 h (omega arith) in
    let c : drop 8 bs ≡ bytes_of 4 (read_at bs 8 4) ++ drop 12 bs = next-word bs 8 h (omega arith) in
    let d : drop 12 bs ≡ bytes_of 4 (read_at bs 12 4) ++ drop 16 bs = next-word bs 12 h (omega arith) in
    let e : drop 16 bs ≡ bytes_of 4 (read_at bs 16 4) ++ drop 20 bs = next-word bs 16 h (omega arith) in
    let f : drop 20 bs ≡ bytes_of 4 (read_at bs 20 4) ++ drop 24 bs = next-word bs 20 h (omega arith) in
    sym (a ∙ ap (λ (x : List ℕ). bytes_of 4 (read_at bs 0 4) ++ x) (b ∙ ap (λ (x : List ℕ). bytes_of 4 (read_at bs 4 4) ++ x)
    (c ∙ ap (λ (x : List ℕ). bytes_of 4 (read_at bs 8 4) ++ x) (d ∙ ap (λ (x : List ℕ). bytes_of 4 (read_at bs 12 4) ++ x)
    (e ∙ ap (λ (x : List ℕ). bytes_of 4 (read_at bs 16 4) ++ x) f)))))

-- a file by its six words and the rest
abbrev filed : ℕ → ℕ → ℕ → ℕ → ℕ → ℕ → List ℕ → List ℕ
filed a b c d e f rest = bytes_of_words (a ∷ b ∷ c ∷ d ∷ e ∷ f ∷ []) ++ rest

-- a file without a fault is that of the image of its header and of the words behind
pub image-read : (bytes words : List ℕ) → AreBelow 256 bytes → fault_of bytes ≡ None → bytes_of_words words ≡ drop 24 bytes
    → IsImage (image_with bytes words) × (bytes ≡ image_bytes (image_with bytes words))
unfolding image_bytes
image-read bytes words b h e =
    let s = header-said bytes h in
    let m : 4 * length words ≡ length bytes - 24 = sym (length-bytes_of_words words) ∙ (ap length e ∙ length-drop 24 bytes) in
    let n : read_at bytes 8 4 ≡ length words = let z : length bytes ≡ header_bytes + 4 * read_at bytes 8 4 = s.size in omega arith in
    let w1 : 0 < length words = let z : 0 < read_at bytes 8 4 = s.some_word in omega arith in
    let w2 : length words ≤ max_words = let z : read_at bytes 8 4 ≤ max_words = s.words in omega arith in
    let p : filed (read_at bytes 0 4) (read_at bytes 4 4) (read_at bytes 8 4) (read_at bytes 12 4) (read_at bytes 16 4) (read_at bytes 20 4) (drop 24 bytes)
    ≡ bytes = six bytes b s.whole in
    let q : bytes ≡ image_bytes (image_with bytes words) =
    sym p
    ∙ (ap (λ (x : ℕ). filed x (read_at bytes 4 4) (read_at bytes 8 4) (read_at bytes 12 4) (read_at bytes 16 4) (read_at bytes 20 4) (drop 24 bytes)) s.magic
    ∙ (ap (λ (x : ℕ). filed magic_number x (read_at bytes 8 4) (read_at bytes 12 4) (read_at bytes 16 4) (read_at bytes 20 4) (drop 24 bytes)) s.version
    ∙ (ap (λ (x : ℕ). filed magic_number format_version x (read_at bytes 12 4) (read_at bytes 16 4) (read_at bytes 20 4) (drop 24 bytes)) n
    ∙ ap (λ (x : List ℕ). filed magic_number format_version (length words) (read_at bytes 12 4) (read_at bytes 16 4) (read_at bytes 20 4) x) (sym e)))) in
    (record { stride = s.stride; params = s.params; results = s.results; some_word = w1; words = w2 }, q)

-- the image of numbers that the header says
pub image-made : (bytes words : List ℕ) (s p r : ℕ) → AreBelow 256 bytes → fault_of bytes ≡ None → bytes_of_words words ≡ drop 24 bytes
    → s ≡ read_at bytes 12 4 → p ≡ read_at bytes 16 4 → r ≡ read_at bytes 20 4
    → let i : Image = record { stride = s; params = p; results = r; words = words } in IsImage i × (bytes ≡ image_bytes i)
image-made bytes words s p r b h e es ep er = rw (es, ep, er) (image-read bytes words b h e)

-- so a file without a fault is some image's
pub no-fault-image : (bytes : List ℕ) → AreBelow (2 ^ 8) bytes → fault_of bytes ≡ None → (image : Image) × IsImage image × (bytes ≡ image_bytes image)
no-fault-image bytes b h =
    let s = header-said bytes h in
    let c : AreBelow 256 (drop 24 bytes) = λ k. rw get_or-drop (b (24 + k)) in
    let z : length bytes ≡ header_bytes + 4 * read_at bytes 8 4 = s.size in
    let m : length (drop 24 bytes) ≡ 4 * read_at bytes 8 4 = simp length-drop (omega arith) in
    let words : List ℕ = words_of (read_at bytes 8 4) (drop 24 bytes) in
    let r = image-read bytes words b h (words_of-back (read_at bytes 8 4) (drop 24 bytes) c m) in
    (image_with bytes words, r.0, r.1)

-- ---- the file of an image

-- a stride is a word
stride-below : (s : ℕ) → is_stride s ≡ true → s ≤ 65536
stride-below s h = grind (arith, tests)

-- each word of the file is one
file-words : (i : Image) → IsImage i → AreBelow (2 ^ 32) i.words → AreBelow (2 ^ 32) (header i ++ i.words)
file-words i r h zero = omega arith
file-words i r h (suc zero) = omega arith
file-words i r h (suc (suc zero)) = let z : length i.words ≤ max_words = r.words in omega arith
file-words i r h (suc (suc (suc zero))) = let z : i.stride ≤ 65536 = stride-below i.stride r.stride in omega arith
file-words i r h (suc (suc (suc (suc zero)))) = let z : i.params ≤ max_places = r.params in omega arith
file-words i r h (suc (suc (suc (suc (suc zero))))) = let z : i.results ≤ max_places = r.results in omega arith
file-words i r h (suc (suc (suc (suc (suc (suc k)))))) = h k

-- nothing is found where the test fails and nothing is found behind it
passes : (t : Bool) (at : ℕ) (cause : ImageCause) (behind : Option (ℕ × ImageCause)) → t ≡ false → behind ≡ None → found_if t at cause behind ≡ None
passes t at cause behind p q = ap (λ (x : Bool). found_if x at cause behind) p ∙ q

-- a number that is the wanted one
same : (x y : ℕ) → x ≡ y → not (x == y) ≡ false
same x y h = grind (arith, tests)

-- one that isn't above
no-more : (x y : ℕ) → y ≤ x → nat_lt x y ≡ false
no-more x y h = grind (arith, tests)

-- a count that is right
right-count : (size count : ℕ) → 0 < count → count ≤ max_words → size ≡ header_bytes + 4 * count → is_bad_count size count ≡ false
right-count size count p q r = grind (arith, tests)

-- the file of an image has no fault
pub images-pass : (i : Image) → IsImage i → fault_of (image_bytes i) ≡ None
unfolding image_bytes
images-pass i r =
    let bytes : List ℕ = image_bytes i in
    let ws : List ℕ = header i ++ i.words in
    let l : length bytes ≡ 4 * length ws = length-bytes_of_words ws in
    let m : length bytes ≡ 24 + 4 * length i.words = omega arith in
    let zs : i.stride ≤ 65536 = stride-below i.stride r.stride in
    let zw : length i.words ≤ max_words = r.words in
    let zp : i.params ≤ max_places = r.params in
    let zr : i.results ≤ max_places = r.results in
    let a : read_at bytes 0 4 ≡ magic_number = word-there ws 0 (omega arith) (omega arith) in
    let b : read_at bytes 4 4 ≡ format_version = word-there ws 1 (omega arith) (omega arith) in
    let c : read_at bytes 8 4 ≡ length i.words = word-there ws 2 (omega arith) (omega arith) in
    let d : read_at bytes 12 4 ≡ i.stride = word-there ws 3 (omega arith) (omega arith) in
    let e : read_at bytes 16 4 ≡ i.params = word-there ws 4 (omega arith) (omega arith) in
    let f : read_at bytes 20 4 ≡ i.results = word-there ws 5 (omega arith) (omega arith) in
    let n : is_bad_count (length bytes) (read_at bytes 8 4) ≡ false =
    ap (λ (x : ℕ). is_bad_count (length bytes) x) c ∙ right-count (length bytes) (length i.words) r.some_word zw m in
    let s : not (is_stride (read_at bytes 12 4)) ≡ false = ap (λ (x : ℕ). not (is_stride x)) d ∙ ap not r.stride in
    passes _ 8 Size _ (no-more (length bytes) 24 (omega arith)) (passes _ 0 Magic _ (same _ _ a) (passes _ 4 Version _ (same _ _ b) (passes _ 8 Size _ n
    (passes _ 12 Stride _ s (passes _ 16 Params _ (no-more max_places (read_at bytes 16 4) (omega arith))
    (passes _ 20 Results None (no-more max_places (read_at bytes 20 4) (omega arith)) refl))))))

-- images with the same numbers are the same
image-eq : (i j : Image) → i.stride ≡ j.stride → i.params ≡ j.params → i.results ≡ j.results → i.words ≡ j.words → i ≡ j
image-eq i j a b c d =
    ap (λ (x : ℕ). (record { stride = x; params = i.params; results = i.results; words = i.words })) a
    ∙ (ap (λ (x : ℕ). (record { stride = j.stride; params = x; results = i.results; words = i.words })) b
    ∙ (ap (λ (x : ℕ). (record { stride = j.stride; params = j.params; results = x; words = i.words })) c
    ∙ ap (λ (x : List ℕ). (record { stride = j.stride; params = j.params; results = j.results; words = x })) d))

-- images with one file are one
pub files-differ : (i j : Image) → IsImage i → IsImage j → AreBelow (2 ^ 32) i.words → AreBelow (2 ^ 32) j.words → image_bytes i ≡ image_bytes j → i ≡ j
unfolding image_bytes
files-differ i j r s h k e =
    let p : header i ++ i.words ≡ header j ++ j.words =
    bytes-differ (header i ++ i.words) (header j ++ j.words) (file-words i r h) (file-words j s k) e in
    image-eq i j (cc) (cc) (cc) (cc)
