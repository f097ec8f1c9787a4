-- A word that goes into a slot of a live frame: the bytes of that frame are its with the slot changed, and the two runs stay related.
use Rattle.std.proofs.Common.{◌≡◌, ℕ, zero, suc, ◌+◌, ◌^◌, ◌<◌, ◌≤◌, inl, inr, List, [], ◌∷◌, length, map, take, refl, sym, ap, ◌∙◌, arith, true, subst}
use Rattle.std.specs.Prelude.{slice_set}
use Rattle.std.proofs.lemmas.List.{length-take-le}
use Rattle.tam_word.specs.Lists.{has}
use Rattle.tam_word.proofs.Members.{In, in-has, in-map}
use Rattle.frame_tables.specs.FrameTables.{Frame}
use Rattle.tl0_code.specs.ThreadCode.{Program, code_text}
use Rattle.rv_inst.specs.Harts.{read_at, written_at}
use Rattle.rv_keep.specs.FrameRecords.{head_at, table_at, slot_at, cell_at, next_at}
use Rattle.rv_keep.specs.FrameBytes.{FrameStands, slot_is}
use Rattle.rv_keep.specs.LinkedLists.{Chain}
use Rattle.rv_keep.specs.Relation.{FrameHolds, frame_address, cell_address, own_part}
use Rattle.rv_keep.proofs.Frames.{slot-written}
use Rattle.rv_keep.proofs.Registers.{set-length}
use Rattle.rv_keep.proofs.FramesApart.{IsApart, word-still, chain-still}

-- the first elements of a list with one of them set
pub take-set : (n : ℕ) (xs : List ℕ) (k w : ℕ) → take n (slice_set xs k w) ≡ slice_set (take n xs) k w
take-set zero [] k w = refl
take-set zero (x ∷ xs) zero w = refl
take-set zero (x ∷ xs) (suc k) w = refl
take-set (suc n) [] k w = refl
take-set (suc n) (x ∷ xs) zero w = refl
take-set (suc n) (x ∷ xs) (suc k) w = ap (λ (y : List ℕ). x ∷ y) (take-set n xs k w)

-- a frame with a slot set
abbrev pub slotted_frame : Frame → ℕ → ℕ → Frame
slotted_frame h d w = record h { slots = slice_set h.slots d w }

-- a live frame after a word went into one of its slots
pub frame-slotted : (p : Program) (m : List ℕ) (f c d w : ℕ) (h : Frame) → FrameHolds p m f c h → d < (code_text p c).slots → w < 2 ^ 32
    → FrameHolds p (written_at m (frame_address p f + slot_at d) 4 w) f c (slotted_frame h d w)
frame-slotted p m f c d w h e l u =
    let at : ℕ = frame_address p f in
    let a : ℕ = at + slot_at d in
    let own : Frame = own_part (code_text p c) h in
    let ls : length own.slots ≡ (code_text p c).slots = length-take-le (code_text p c).slots h.slots e.slots_there in
    let lc : length own.counts ≡ length (code_text p c).threads = length-take-le (length (code_text p c).threads) h.counts e.counts_there in
    let ins : at + cell_at (length own.slots) (length own.counts) ≤ length m = e.stands.inside in
    let i : a + 4 ≤ length m = omega arith in
    let j : a ≤ length m = omega arith in
    let from : ℕ = at + cell_at (code_text p c).slots 0 in
    let to : ℕ = at + cell_at (code_text p c).slots (length (code_text p c).threads) in
    let q : IsApart a from to = inl (omega arith) in
    let low : IsApart a at (at + slot_at 0) = inr (omega arith) in
    let s : FrameStands (written_at m a 4 w) at f (slot_is own d w) = slot-written m at f own d w e.stands (omega arith) u in
    let t : take (code_text p c).slots (slice_set h.slots d w) ≡ slice_set (take (code_text p c).slots h.slots) d w =
    take-set (code_text p c).slots h.slots d w in
    let z : length (slice_set h.slots d w) ≡ length h.slots = set-length h.slots d w in
    let st : (code_text p c).slots ≤ length h.slots = e.slots_there in
    let head : read_at (written_at m a 4 w) (at + head_at) 4 ≡ read_at m (at + head_at) 4 =
    word-still m a w (at + head_at) at (at + slot_at 0) low (omega arith) (omega arith) j in
    record {
      code_there = e.code_there;
      slots_there = omega arith;
      counts_there = e.counts_there;
      stands = subst (λ (x : List ℕ). FrameStands (written_at m a 4 w) at f (record own { slots = x })) (sym t) s;
      owed_small = e.owed_small;
      some_owed = e.some_owed;
      table = word-still m a w (at + table_at) at (at + slot_at 0) low (omega arith) (omega arith) j ∙ e.table;
      ready = subst (λ (x : ℕ). Chain (written_at m a 4 w) next_at x (map (cell_address p f c) h.ready)) (sym head)
          (chain-still (map (cell_address p f c) h.ready) m a w next_at (read_at m (at + head_at) 4) from to q j (cells-in h.ready e.ready_there) e.ready);
      ready_there = e.ready_there;
      ready_spent = e.ready_spent;
      ready_starts = λ t k. let b : t < length (code_text p c).threads = e.ready_there t k in
          word-still m a w (cell_address p f c t) from to q (omega arith) (omega arith) j ∙ e.ready_starts t k;
      counts_small = e.counts_small;
    }
  where
    cells-in : (ts : List ℕ) → ((t : ℕ) → has ts t ≡ true → t < length (code_text p c).threads) → (x : ℕ) → In x (map (cell_address p f c) ts)
        → (frame_address p f + cell_at (code_text p c).slots 0 ≤ x + next_at)
        × (x + next_at + 4 ≤ frame_address p f + cell_at (code_text p c).slots (length (code_text p c).threads))
    cells-in ts b x k =
        let g = in-map (cell_address p f c) x ts k in
        let u : g.0 < length (code_text p c).threads = b g.0 (in-has ts g.0 g.1) in
        let v : cell_address p f c g.0 ≡ x = g.2 in
        (omega arith, omega arith)
