-- Frames that a write doesn't touch: each stands as it stood, with its ready list; and so do other frames where one is written to.
use Rattle.std.proofs.Common.{◌≡◌, ◌≢◌, ℕ, zero, suc, ◌+◌, ◌*◌, ◌^◌, ◌<◌, ◌≤◌, ◌⊎◌, inl, inr, List, [], ◌∷◌, length, map, refl, sym, ap, ◌∙◌, arith}
use Rattle.std.proofs.Common.{true, subst, Some, slice_get}
use Rattle.std.proofs.Math.Nat.{suc-mul}
use Rattle.std.proofs.lemmas.Nat.{mul-le}
use Rattle.std.proofs.lemmas.List.{length-take-le}
use Rattle.tam_word.specs.Lists.{has}
use Rattle.tam_word.proofs.Members.{In, in-has, in-map}
use Rattle.frame_tables.specs.FrameTables.{Frame}
use Rattle.tl0_code.specs.ThreadCode.{Program, code_text}
use Rattle.rv_inst.specs.Harts.{read_at, written_at}
use Rattle.rv_inst.proofs.Memory.{length-written}
use Rattle.rv_inst.proofs.Signed.{below-or-not}
use Rattle.rv_keep.specs.FrameRecords.{head_at, number_at, table_at, owed_at, slot_at, cell_at, next_at}
use Rattle.rv_keep.specs.FrameBytes.{FrameStands}
use Rattle.rv_keep.specs.LinkedLists.{Chain}
use Rattle.rv_keep.specs.Image.{words_in_all}
use Rattle.rv_keep.specs.Relation.{FrameHolds, frame_address, cell_address, own_part}
use Rattle.rv_keep.proofs.Frames.{word-apart}

-- a write ends before a region of the memory, or begins behind it
abbrev pub IsApart : ℕ → ℕ → ℕ → Type 0
IsApart a from to = (a + 4 ≤ from) ⊎ (to ≤ a)

-- a word in the region is as it was
pub word-still : (m : List ℕ) (a w b from to : ℕ) → IsApart a from to → from ≤ b → b + 4 ≤ to → a ≤ length m → read_at (written_at m a 4 w) b 4 ≡ read_at m b 4
word-still m a w b from to (inl p) l u i = word-apart m a w b (inr (omega arith)) i
word-still m a w b from to (inr p) l u i = word-apart m a w b (inl (omega arith)) i

-- a list has an element only at a place below its length
pub get-below : (xs : List ℕ) (k c : ℕ) → slice_get xs k ≡ Some c → k < length xs
get-below [] k c h = absurd cc
get-below (x ∷ xs) zero c h = omega arith
get-below (x ∷ xs) (suc k) c h = let r : k < length xs = get-below xs k c h in omega arith

-- a frame whose bytes are the region stands
pub stands-still : (m : List ℕ) (a w at number : ℕ) (f : Frame) → FrameStands m at number f → IsApart a at (at + cell_at (length f.slots) (length f.counts))
    → a + 4 ≤ length m → FrameStands (written_at m a 4 w) at number f
stands-still m a w at number f fr p i =
    let e : length (written_at m a 4 w) ≡ length m = length-written m a 4 w i in
    let ins : at + cell_at (length f.slots) (length f.counts) ≤ length m = fr.inside in
    let sm : length m < 2 ^ 32 = fr.small in
    let l : a ≤ length m = omega arith in
    let to : ℕ = at + cell_at (length f.slots) (length f.counts) in
    record {
      aligned = fr.aligned;
      inside = omega arith;
      small = omega arith;
      numbered = word-still m a w (at + number_at) at to p (omega arith) (omega arith) l ∙ fr.numbered;
      owes = word-still m a w (at + owed_at) at to p (omega arith) (omega arith) l ∙ fr.owes;
      slots = λ k h. word-still m a w (at + slot_at k) at to p (omega arith) (omega arith) l ∙ fr.slots k h;
      words = fr.words;
      counts = λ k d h. word-still m a w (at + cell_at (length f.slots) k) at to p (omega arith)
          (count-inside f k (suc d) h) l ∙ fr.counts k d h;
    }
  where
    count-inside : (g : Frame) (k c : ℕ) → slice_get g.counts k ≡ Some c
        → at + cell_at (length g.slots) k + 4 ≤ at + cell_at (length g.slots) (length g.counts)
    count-inside g k c h = let b : k < length g.counts = get-below g.counts k c h in omega arith

-- a chain whose words are apart from the write stands
pub chain-still : (cells : List ℕ) (m : List ℕ) (a w off first from to : ℕ) → IsApart a from to → a ≤ length m
    → ((c : ℕ) → In c cells → (from ≤ c + off) × (c + off + 4 ≤ to)) → Chain m off first cells → Chain (written_at m a 4 w) off first cells
chain-still [] m a w off first from to p i q c = c
chain-still (x ∷ xs) m a w off first from to p i q c =
    let b = q x (inl refl) in
    let e : read_at (written_at m a 4 w) (x + off) 4 ≡ read_at m (x + off) 4 = word-still m a w (x + off) from to p b.0 b.1 i in (
      c.0,
      c.1,
      subst (λ (y : ℕ). Chain (written_at m a 4 w) off y xs) (sym e) (chain-still xs m a w off (read_at m (x + off) 4) from to p i (λ d k. q d (inr k)) c.2),
    )

-- ---- whole frames

-- how many slots and counts a frame's own part has
own-slots : (p : Program) (m : List ℕ) (f c : ℕ) (h : Frame) → FrameHolds p m f c h → length (own_part (code_text p c) h).slots ≡ (code_text p c).slots
own-slots p m f c h e = length-take-le (code_text p c).slots h.slots e.slots_there

own-counts : (p : Program) (m : List ℕ) (f c : ℕ) (h : Frame) → FrameHolds p m f c h
    → length (own_part (code_text p c) h).counts ≡ length (code_text p c).threads
own-counts p m f c h e = length-take-le (length (code_text p c).threads) h.counts e.counts_there

-- a live frame whose bytes a write doesn't touch is as it was, its ready list too
pub frame-still : (p : Program) (m : List ℕ) (a w f c : ℕ) (h : Frame) → FrameHolds p m f c h
    → IsApart a (frame_address p f) (frame_address p f + cell_at (code_text p c).slots (length (code_text p c).threads)) → a + 4 ≤ length m
    → FrameHolds p (written_at m a 4 w) f c h
frame-still p m a w f c h e q i =
    let at : ℕ = frame_address p f in
    let to : ℕ = at + cell_at (code_text p c).slots (length (code_text p c).threads) in
    let l : a ≤ length m = omega arith in
    let ls : length (own_part (code_text p c) h).slots ≡ (code_text p c).slots = own-slots p m f c h e in
    let lc : length (own_part (code_text p c) h).counts ≡ length (code_text p c).threads = own-counts p m f c h e in
    let r : at + cell_at (length (own_part (code_text p c) h).slots) (length (own_part (code_text p c) h).counts) ≡ to =
    ap (λ (x : ℕ). at + cell_at x (length (own_part (code_text p c) h).counts)) ls ∙ ap (λ (x : ℕ). at + cell_at (code_text p c).slots x) lc in
    let head : read_at (written_at m a 4 w) (at + head_at) 4 ≡ read_at m (at + head_at) 4 = word-still m a w (at + head_at) at to q (omega arith)
    (omega arith) l in
    record {
      code_there = e.code_there;
      slots_there = e.slots_there;
      counts_there = e.counts_there;
      stands = stands-still m a w at f (own_part (code_text p c) h) e.stands (subst (λ (x : ℕ). IsApart a at x) (sym r) q) i;
      owed_small = e.owed_small;
      some_owed = e.some_owed;
      table = word-still m a w (at + table_at) at to q (omega arith) (omega arith) l ∙ e.table;
      ready = subst (λ (x : ℕ). Chain (written_at m a 4 w) next_at x (map (cell_address p f c) h.ready)) (sym head)
          (chain-still (map (cell_address p f c) h.ready) m a w next_at (read_at m (at + head_at) 4) at to q l (cells-in h.ready e.ready_there) e.ready);
      ready_there = e.ready_there;
      ready_spent = e.ready_spent;
      ready_starts = λ t k. let b : t < length (code_text p c).threads = e.ready_there t k in
          word-still m a w (cell_address p f c t) at to q (omega arith) (omega arith) l ∙ e.ready_starts t k;
      counts_small = e.counts_small;
    }
  where
    cells-in : (ts : List ℕ) → ((t : ℕ) → has ts t ≡ true → t < length (code_text p c).threads) → (d : ℕ) → In d (map (cell_address p f c) ts)
        → (frame_address p f ≤ d + next_at) × (d + next_at + 4 ≤ frame_address p f + cell_at (code_text p c).slots (length (code_text p c).threads))
    cells-in ts b d k =
        let g = in-map (cell_address p f c) d ts k in
        let u : g.0 < length (code_text p c).threads = b g.0 (in-has ts g.0 g.1) in
        let v : cell_address p f c g.0 ≡ d = g.2 in
        (omega arith, omega arith)

-- frames of other numbers stand a stride apart
pub strides-apart : (stride f g : ℕ) → f < g → f * stride + stride ≤ g * stride
strides-apart stride f g l =
    let e : suc f * stride ≤ g * stride = mul-le (suc f) stride g stride l (omega arith) in
    let d : suc f * stride ≡ f * stride + stride = suc-mul f stride in
    omega arith

-- so a place in one is apart from another
pub others-apart : (p : Program) (stride f g off size : ℕ) → f ≢ g → off + 4 ≤ stride → size ≤ stride
    → IsApart (4 * words_in_all p + f * stride + off) (4 * words_in_all p + g * stride) (4 * words_in_all p + g * stride + size)
others-apart p stride f g off size n l u = elim (below-or-not f g) [
  | inl b ↦ let e : f * stride + stride ≤ g * stride = strides-apart stride f g b in inl (omega arith)
  | inr b ↦ let e : g * stride + stride ≤ f * stride = strides-apart stride g f (omega arith) in inr (omega arith)
]
