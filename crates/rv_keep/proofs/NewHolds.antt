-- A frame that is taken holds where its bytes were written.
use Rattle.std.proofs.Common.{◌≡◌, ℕ, zero, suc, ◌+◌, ◌-◌, ◌*◌, ◌%◌, ◌^◌, ◌<◌, ◌≤◌, ◌⊎◌, List, [], ◌∷◌, ◌++◌, length, map, take, refl, sym, ap, ◌∙◌}
use Rattle.std.proofs.Common.{arith, true, false, Bool, Some, slice_get, inl, inr, nat_lt}
use Rattle.std.proofs.Math.Nat.{mul_left_comm}
use Rattle.std.specs.Prelude.{slice_index, slice_set, replicate, fold, max}
use Rattle.std.proofs.lemmas.List.{length-take-le, length-append, length-replicate, take-take, take_at}
use Rattle.tam_word.proofs.Members.{In, in-map}
use Rattle.tam_word.proofs.Tests.{test-below}
use Rattle.tam_msgs.specs.declared.limits.Limits.{Limits}
use Rattle.frame_tables.specs.FrameTables.{Frame, new_frame}
use Rattle.tl0_code.specs.ThreadCode.{CodeText, Program, code_text, or_text, counts_of, greater, greatest, widest_slots, widest_threads}
use Rattle.rv_keep.specs.KernelFrames.{begun}
use Rattle.rv_keep.specs.Image.{words_in_all, stride_of, frame_bytes, record_of, inlets_of_code}
use Rattle.rv_keep.specs.MachineLaws.{MayRun}
use Rattle.rv_keep.specs.Relation.{FrameHolds, frame_address, own_part}
use Rattle.rv_keep.proofs.OtherFrames.{stride-wide}
use Rattle.rv_keep.proofs.SlotRelated.{slotted_frame}
use Rattle.rv_keep.proofs.Registers.{set-length}
use Rattle.rv_keep.proofs.ImageLengths.{length-mapped}
use Rattle.rv_keep.proofs.CheckedCode.{head-is, count-there, at-least}
use Rattle.rv_keep.proofs.RecordsStand.{SmallCode, small-code, record-ends}
use Rattle.rv_keep.proofs.Regions.{NewFrame, HeadWords, fresh_slot, head-begun, new-stands}

-- ---- the room of a frame

-- the greater of two is at least each
greater-left : (m n : ℕ) → m ≤ greater m n
greater-left m n = go (nat_lt m n) refl
  where
    go : (t : Bool) → nat_lt m n ≡ t → m ≤ elim t [ true ↦ n | false ↦ m ]
    go true e = let l : m < n = test-below m n e in omega arith
    go false e = omega arith

-- and the second
greater-right : (m n : ℕ) → n ≤ greater m n
greater-right m n = go (nat_lt m n) refl
  where
    go : (t : Bool) → nat_lt m n ≡ t → n ≤ elim t [ true ↦ n | false ↦ m ]
    go true e = omega arith
    go false e = at-least m n e

-- the greatest of what codes have is at least what a code has
pub greatest-each : (g : CodeText → ℕ) (cs : List CodeText) (c : ℕ) → c < length cs → g (or_text (slice_get cs c)) ≤ greatest (map g cs)
greatest-each g [] c l = absurd (omega arith)
greatest-each g (x ∷ cs) zero l = greater-left (g x) (greatest (map g cs))
greatest-each g (x ∷ cs) (suc c) l =
    let a : g (or_text (slice_get cs c)) ≤ greatest (map g cs) = greatest-each g cs c (omega arith) in
    let b : greatest (map g cs) ≤ greater (g x) (greatest (map g cs)) = greater-right (g x) (greatest (map g cs)) in
    omega arith

-- the stride is a number of words
stride-words : (cs : List CodeText) (n q : ℕ) → n ≡ 4 * q → (k : ℕ) × (fold (λ a c. max a (frame_bytes c)) n cs ≡ 4 * k)
stride-words [] n q e = (q, e)
stride-words (c ∷ cs) n q e =
    let b : frame_bytes c ≡ 4 * (5 + c.slots + 2 * length c.threads) = omega arith in
    stride-words cs (max n (frame_bytes c)) (max q (5 + c.slots + 2 * length c.threads)) (omega arith)

-- four times a product
four-out : (f k : ℕ) → f * (4 * k) ≡ 4 * (f * k)
four-out f k = mul_left_comm f 4 k

-- so each frame's address is aligned
pub address-aligned : (p : Program) (f : ℕ) → frame_address p f % 4 ≡ 0
address-aligned p f =
    let k = stride-words p.codes 0 0 refl in
    let a : f * stride_of p ≡ f * (4 * k.0) = ap (λ (x : ℕ). f * x) k.1 in
    let b : f * (4 * k.0) ≡ 4 * (f * k.0) = four-out f k.0 in
    omega arith

-- ---- slots and counts

-- the slots of a frame of which the first two are set
abbrev pub fresh_slots : ℕ → ℕ → ℕ → List ℕ
fresh_slots wide s0 s1 = slice_set (slice_set (replicate wide 0) 0 s0) 1 s1

-- zeros stay zeros
zeros : (j k i : ℕ) → slice_index (take j (replicate k 0)) i ≡ 0
zeros zero k i = refl
zeros (suc j) zero i = refl
zeros (suc j) (suc k) zero = refl
zeros (suc j) (suc k) (suc i) = zeros j k i

-- each slot of its own part
fresh-is : (s wide s0 s1 i : ℕ) → 2 ≤ s → s ≤ wide → slice_index (take s (fresh_slots wide s0 s1)) i ≡ fresh_slot s0 s1 i
fresh-is zero wide s0 s1 i l w = absurd (omega arith)
fresh-is (suc zero) wide s0 s1 i l w = absurd (omega arith)
fresh-is (suc (suc s)) zero s0 s1 i l w = absurd (omega arith)
fresh-is (suc (suc s)) (suc zero) s0 s1 i l w = absurd (omega arith)
fresh-is (suc (suc s)) (suc (suc wide)) s0 s1 zero l w = refl
fresh-is (suc (suc s)) (suc (suc wide)) s0 s1 (suc zero) l w = refl
fresh-is (suc (suc s)) (suc (suc wide)) s0 s1 (suc (suc i)) l w = zeros s wide i

-- the counts of its own part
own-counts : (counts : List ℕ) (t wide : ℕ) → length counts ≡ t → t ≤ wide → take t (take wide (counts ++ replicate wide 0)) ≡ counts
own-counts counts t wide e l = take-take t wide (counts ++ replicate wide 0) l ∙ take_at counts (replicate wide 0) t e

-- how many counts a frame has room for
wide-counts : (counts : List ℕ) (wide : ℕ) → length (take wide (counts ++ replicate wide 0)) ≡ wide
wide-counts counts wide =
    let zs : List ℕ = replicate wide 0 in
    let a : length (counts ++ zs) ≡ length counts + length zs = length-append counts zs in
    let b : length zs ≡ wide = length-replicate wide 0 in
    length-take-le wide (counts ++ zs) (omega arith)

-- a count that a list has, or 0
count-or-zero : (counts : List ℕ) (a wide k n : ℕ) → slice_get (take a (counts ++ replicate wide 0)) k ≡ Some n → (In n counts) ⊎ (n ≡ 0)
count-or-zero [] zero wide k n e = absurd cc
count-or-zero (c ∷ cs) zero wide k n e = absurd cc
count-or-zero [] (suc a) zero k n e = absurd cc
count-or-zero [] (suc a) (suc wide) zero n e = let q : 0 ≡ n = cc in inr (sym q)
count-or-zero [] (suc a) (suc wide) (suc k) n e = elim (count-or-zero [] a wide k n e) [ inl i ↦ absurd i | inr z ↦ inr z ]
count-or-zero (c ∷ cs) (suc a) wide zero n e = let q : c ≡ n = cc in inl (inl q)
count-or-zero (c ∷ cs) (suc a) wide (suc k) n e = elim (count-or-zero cs a wide k n e) [ inl i ↦ inl (inr i) | inr z ↦ inr z ]

-- ---- the frame

-- the frame that is taken for code c, with its first two slots
abbrev pub taken_frame : Program → ℕ → ℕ → ℕ → Frame
taken_frame p c s0 s1 = slotted_frame (slotted_frame (new_frame (widest_slots p) (widest_threads p) (counts_of (code_text p c))) 0 s0) 1 s1

-- what is asked of a memory for it
pub record RoomFor (p : Program) (m : List ℕ) (f c s0 s1 : ℕ) : Type 0 where
  pub code_there : c < length p.codes
  pub first_small : s0 < 2 ^ 32
  pub second_small : s1 < 2 ^ 32
  pub number_small : f < 2 ^ 32
  pub room : frame_address p f + stride_of p ≤ length m
  pub small : length m < 2 ^ 32

-- how many slots it has behind the first two
abbrev pub more_slots : Program → ℕ → ℕ
more_slots p c = (code_text p c).slots - 2

-- the memory with its bytes
abbrev pub begun_for : Program → List ℕ → ℕ → ℕ → ℕ → ℕ → List ℕ
begun_for p m f c s0 s1 = begun m (frame_address p f) f (inlets_of_code p c) s0 s1 (more_slots p c) (counts_of (code_text p c))

-- its own part is a new frame
pub new-frame : (p : Program) (args : List ℕ) (limits : Limits) (m : List ℕ) (f c s0 s1 : ℕ) → MayRun p args limits → RoomFor p m f c s0 s1
    → NewFrame m (frame_address p f) f (inlets_of_code p c) s0 s1 (more_slots p c) (counts_of (code_text p c))
    (own_part (code_text p c) (taken_frame p c s0 s1))
new-frame p args limits m f c s0 s1 r k =
    let x : CodeText = code_text p c in
    let cl : c < length p.codes = k.code_there in
    let two : 2 ≤ x.slots = (head-is p c r.checked cl).two_slots in
    let ws : x.slots ≤ widest_slots p = greatest-each (λ y. y.slots) p.codes c cl in
    let wt : length x.threads ≤ widest_threads p = greatest-each (λ y. length y.threads) p.codes c cl in
    let lc : length (counts_of x) ≡ length x.threads = length-mapped (λ t. t.count) x.threads in
    let wide : frame_bytes x ≤ stride_of p = stride-wide p c cl in
    let sm : SmallCode p c = small-code p args limits c r cl in
    let fits : words_in_all p ≤ 16777210 = sm.fits in
    let re : record_of p c + 4 * (4 + length x.threads + 4 * length x.inlets) ≤ 4 * words_in_all p = record-ends p c cl in
    let room : frame_address p f + stride_of p ≤ length m = k.room in
    let lf : length (fresh_slots (widest_slots p) s0 s1) ≡ widest_slots p =
    set-length (slice_set (replicate (widest_slots p) 0) 0 s0) 1 s1 ∙ (set-length (replicate (widest_slots p) 0) 0 s0 ∙ length-replicate (widest_slots p) 0) in
    let lo : length (take x.slots (fresh_slots (widest_slots p) s0 s1)) ≡ x.slots = length-take-le x.slots (fresh_slots (widest_slots p) s0 s1) (omega arith) in
    record {
      aligned = address-aligned p f;
      room = omega arith;
      small = k.small;
      number_small = k.number_small;
      table_small = omega arith;
      first_small = k.first_small;
      second_small = k.second_small;
      counts_small = counts-small;
      slots_many = omega arith;
      slots_are = λ s. fresh-is x.slots (widest_slots p) s0 s1 s two ws;
      counts_are = own-counts (counts_of x) (length x.threads) (widest_threads p) lc wt;
      owed_is = refl;
    }
  where
    counts-small : (w : ℕ) → In w (counts_of (code_text p c)) → w < 2 ^ 32
    counts-small w i =
        let g = in-map (λ t. t.count) w (code_text p c).threads i in
        let b = count-there p c g.0 r.checked k.code_there g.1 in
        let u : g.0.count ≤ 65535 = b.1 in
        let e : g.0.count ≡ w = g.2 in
        omega arith

-- it holds
pub new-holds : (p : Program) (args : List ℕ) (limits : Limits) (m : List ℕ) (f c s0 s1 : ℕ) → MayRun p args limits → RoomFor p m f c s0 s1
    → FrameHolds p (begun_for p m f c s0 s1) f c (taken_frame p c s0 s1)
new-holds p args limits m f c s0 s1 r k =
    let x : CodeText = code_text p c in
    let cl : c < length p.codes = k.code_there in
    let n = new-frame p args limits m f c s0 s1 r k in
    let h : HeadWords (begun_for p m f c s0 s1) (frame_address p f) f (inlets_of_code p c) s0 s1 (length (counts_of x)) =
    head-begun m (frame_address p f) f (inlets_of_code p c) s0 s1 (more_slots p c) (counts_of x) (own_part x (taken_frame p c s0 s1)) n in
    let ws : x.slots ≤ widest_slots p = greatest-each (λ y. y.slots) p.codes c cl in
    let wt : length x.threads ≤ widest_threads p = greatest-each (λ y. length y.threads) p.codes c cl in
    let lc : length (counts_of x) ≡ length x.threads = length-mapped (λ t. t.count) x.threads in
    let lf : length (fresh_slots (widest_slots p) s0 s1) ≡ widest_slots p =
    set-length (slice_set (replicate (widest_slots p) 0) 0 s0) 1 s1 ∙ (set-length (replicate (widest_slots p) 0) 0 s0 ∙ length-replicate (widest_slots p) 0) in
    let lt : length (take (widest_threads p) (counts_of x ++ replicate (widest_threads p) 0)) ≡ widest_threads p =
    wide-counts (counts_of x) (widest_threads p) in
    let some : 0 < length x.threads = (small-code p args limits c r cl).some_thread in
    record {
      code_there = cl;
      slots_there = omega arith;
      counts_there = omega arith;
      stands = new-stands m (frame_address p f) f (inlets_of_code p c) s0 s1 (more_slots p c) (counts_of x) (own_part x (taken_frame p c s0 s1)) n;
      owed_small = omega arith;
      some_owed = omega arith;
      table = h.tabled;
      ready = h.list;
      ready_there = λ t e. absurd cc;
      ready_spent = λ t e. absurd cc;
      ready_starts = λ t e. absurd cc;
      counts_small = small-counts;
    }
  where
    small-counts : (t n : ℕ) → slice_get (take (widest_threads p) (counts_of (code_text p c) ++ replicate (widest_threads p) 0)) t ≡ Some n → n ≤ 65535
    small-counts t n e = elim (count-or-zero (counts_of (code_text p c)) (widest_threads p) (widest_threads p) t n e) [
      | inl i ↦
          let g = in-map (λ y. y.count) n (code_text p c).threads i in
          let b = count-there p c g.0 r.checked k.code_there g.1 in
          let u : g.0.count ≤ 65535 = b.1 in
          let q : g.0.count ≡ n = g.2 in
          omega arith
      | inr z ↦ omega arith
    ]
