-- The bytes of the widest frame are whole words, more than 16 and few.
use Rattle.std.proofs.Common.{◌≡◌, ℕ, suc, ◌+◌, ◌*◌, ◌<◌, ◌≤◌, List, [], ◌∷◌, length, max, refl, arith, slice_get}
use Rattle.std.specs.Prelude.{fold}
use Rattle.tl0_code.specs.ThreadCode.{CodeText, Program, or_text}
use Rattle.tl0_code.specs.CodeRules.{IsChecked}
use Rattle.rv_keep.specs.Image.{frame_bytes, stride_of}

-- words, and no more bytes than a frame of any code has
record IsWide (n : ℕ) : Type 0 where
  pub words : ℕ
  pub whole : n ≡ 4 * words
  pub few : n ≤ 28708

-- so is the greater of two
wide-max : (m n : ℕ) → IsWide m → IsWide n → IsWide (max m n)
wide-max m n a b =
    let p : m ≡ 4 * a.words = a.whole in
    let q : n ≡ 4 * b.words = b.whole in
    let r : m ≤ 28708 = a.few in
    let s : n ≤ 28708 = b.few in
    record { words = max a.words b.words; whole = omega arith; few = omega arith }

-- the greatest so far, and a code more
abbrev wider : ℕ → CodeText → ℕ
wider n c = max n (frame_bytes c)

-- the greatest
wide-fold : (cs : List CodeText) (n : ℕ) → IsWide n → ((k : ℕ) → k < length cs → IsWide (frame_bytes (or_text (slice_get cs k)))) → IsWide (fold wider n cs)
wide-fold [] n a h = a
wide-fold (c ∷ cs) n a h = wide-fold cs (wider n c) (wide-max n (frame_bytes c) a (h 0 (omega arith))) (λ k l. h (suc k) (omega (arith, l)))

-- it is at least the first
fold-above : (cs : List CodeText) (n : ℕ) → n ≤ fold wider n cs
fold-above [] n = omega arith
fold-above (c ∷ cs) n = let a : wider n c ≤ fold wider (wider n c) cs = fold-above cs (wider n c) in omega arith

-- and a frame has more than 16 bytes
fold-many : (cs : List CodeText) → 0 < length cs → ((k : ℕ) → k < length cs → 16 ≤ frame_bytes (or_text (slice_get cs k))) → 16 ≤ fold wider 0 cs
fold-many [] l h = absurd (omega arith)
fold-many (c ∷ cs) l h =
    let a : wider 0 c ≤ fold wider (wider 0 c) cs = fold-above cs (wider 0 c) in
    let b : 16 ≤ frame_bytes c = h 0 (omega arith) in
    omega arith

-- a frame of checked code
frame-wide : (p : Program) (k : ℕ) → IsChecked p → k < length p.codes → IsWide (frame_bytes (or_text (slice_get p.codes k)))
frame-wide p k c l =
    let t : CodeText = or_text (slice_get p.codes k) in
    let a : t.slots ≤ 1026 = (c.within.each_code k l).few_slots in
    let b : length t.threads ≤ 3073 = (c.within.each_code k l).few_threads in
    record { words = 5 + t.slots + 2 * length t.threads; whole = omega arith; few = omega arith }

-- what the widest frame of checked code has
pub record IsStride (n : ℕ) : Type 0 where
  pub words : ℕ
  pub whole : n ≡ 4 * words
  pub many : 16 ≤ n
  pub few : n ≤ 28708

-- it has
pub stride-wide : (p : Program) → IsChecked p → IsStride (stride_of p)
stride-wide p c =
    let a : IsWide (stride_of p) =
    wide-fold p.codes 0 (record { words = 0; whole = refl; few = omega arith }) (λ k l. frame-wide p k c l) in
    record { words = a.words; whole = a.whole; many = fold-many p.codes c.within.some_code (λ k l. omega arith); few = a.few }
