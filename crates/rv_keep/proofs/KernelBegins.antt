-- The kernel's part that begins a frame, up to the routine that posts its thread 0.
use Rattle.std.proofs.Common.{◌≡◌, ◌≢◌, ℕ, zero, suc, ◌+◌, ◌*◌, ◌%◌, ◌^◌, ◌<◌, ◌≤◌, List, [], ◌∷◌, length, refl, sym, ap, ◌∙◌, arith, true, subst}
use Rattle.std.specs.Prelude.{slice_index}
use Rattle.tam_word.specs.Lists.{has}
use Rattle.tam_word.specs.Words.{wrapped}
use Rattle.rv_inst.specs.declared.r_name.RName.TheVariants.{Add as R_add}
use Rattle.rv_inst.specs.declared.shift_name.ShiftName.TheVariants.{Slli}
use Rattle.rv_inst.specs.Harts.{Hart, reg, read_at, written_at}
use Rattle.rv_inst.proofs.Memory.{length-written, read-before}
use Rattle.rv_keep.specs.Expansions.{lw, sw}
use Rattle.rv_inst.specs.Steps.{StandsAt}
use Rattle.rv_keep.specs.FrameRecords.{slots_at}
use Rattle.rv_keep.specs.KernelPlaces.{begin_at, kernel_end}
use Rattle.rv_keep.specs.KernelSteps.{AtKernel, KernelStands}
use Rattle.rv_keep.specs.KernelFrames.{Beginning, NumbersStand, cleared}
use Rattle.rv_keep.proofs.Walks.{At, AtSet, at-start, at-lw, at-sw, at-reg, at-shift}
use Rattle.rv_keep.proofs.KernelStands.{kernel-still}
use Rattle.rv_keep.proofs.KernelDelivers.{sum-is, addresses}
use Rattle.rv_keep.proofs.KernelLoops.{begin_used}

-- ---- memory whose words before a frame are as they were

-- the words before the frame are as they were, and the kernel stands
pub record Behind (frame : ℕ) (m k : List ℕ) : Type 0 where
  pub long : length k ≡ length m
  pub kernel : KernelStands m → KernelStands k
  pub reads : (b : ℕ) → b + 4 ≤ frame → read_at k b 4 ≡ read_at m b 4

-- after nothing
pub behind-none : (frame : ℕ) (m : List ℕ) → Behind frame m m
behind-none frame m = record { long = refl; kernel = λ k. k; reads = λ b l. refl }

-- after one more write behind the frame's start
pub behind-write : (frame : ℕ) (m k : List ℕ) (a w : ℕ) → Behind frame m k → kernel_end ≤ frame → frame ≤ a → a + 4 ≤ length m
    → Behind frame m (written_at k a 4 w)
behind-write frame m k a w p be l i =
    let e : length k ≡ length m = p.long in
    record {
      long = length-written k a 4 w (omega arith) ∙ e;
      kernel = λ s. kernel-still k a w (p.kernel s) (omega arith) (omega arith);
      reads = λ b q. read-before k a 4 w b 4 (omega arith) (omega arith) ∙ p.reads b q;
    }

-- after the slots are cleared
pub behind-cleared : (j frame : ℕ) (m k : List ℕ) (a : ℕ) → Behind frame m k → kernel_end ≤ frame → frame ≤ a → a + 4 * j ≤ length m
    → Behind frame m (cleared k a j)
behind-cleared zero frame m k a p be l i = p
behind-cleared (suc j) frame m k a p be l i =
    behind-cleared j frame m (written_at k a 4 0) (a + 4) (behind-write frame m k a 0 p be l (omega arith)) be (omega arith) (omega arith)

-- numbers stand
pub behind-numbers : (cs : List ℕ) (frame : ℕ) (m k : List ℕ) (b : ℕ) → Behind frame m k → b + 4 * length cs ≤ frame → NumbersStand m b cs → NumbersStand k b cs
behind-numbers [] frame m k b p l s = tt
behind-numbers (c ∷ cs) frame m k b p l s = (p.reads b (omega arith) ∙ s.0, behind-numbers cs frame m k (b + 4) p (omega arith) s.1)

-- ---- the frame's head

-- what the numbers have as bounds; `at` is the record, `length` how long the memory is
pub record Bounds (at frame long code base : ℕ) : Type 0 where
  pub at_aligned : at % 4 ≡ 0
  pub frame_aligned : frame % 4 ≡ 0
  pub behind : kernel_end ≤ frame
  pub before : at + 20 ≤ frame
  pub room : frame + (slots_at + 8) ≤ long
  pub long_small : long < 2 ^ 32
  pub code_small : code < 2 ^ 29
  pub row_aligned : (4 * code + base) % 4 ≡ 0
  pub row_inside : 4 * code + base + 4 ≤ long

-- they have them
pub bounds : (h : Hart) (frame at table start slots : ℕ) (counts : List ℕ) → AtKernel h begin_at → Beginning h frame at table start slots counts
    → Bounds at frame (length h.memory) (reg h 12) (reg h 21)
bounds h frame at table start slots counts a d =
    let p : 0 < length counts = d.record_is.some_thread in
    let q : at + 16 + 4 * length counts ≤ frame = d.record_before in
    let r : frame + (slots_at + 8 + 4 * slots) + 8 * length counts ≤ length h.memory = d.room in
    record {
      at_aligned = d.record_is.aligned;
      frame_aligned = d.frame_in.aligned;
      behind = d.frame_in.behind;
      before = omega arith;
      room = omega arith;
      long_small = a.small;
      code_small = d.code_small;
      row_aligned = d.code_word.aligned;
      row_inside = d.code_word.inside;
    }

-- a place in the head of a frame
pub record Place (frame off long : ℕ) : Type 0 where
  pub small : frame + off < 2 ^ 32
  pub aligned : (frame + off) % 4 ≡ 0
  pub inside : frame + off + 4 ≤ long

-- each offset below 28 is one
pub place : (off at frame long code base : ℕ) → Bounds at frame long code base → off % 4 ≡ 0 → off ≤ 24 → Place frame off long
place off at frame long code base b al l =
    let p : frame % 4 ≡ 0 = b.frame_aligned in
    let q : frame + (slots_at + 8) ≤ long = b.room in
    let r : long < 2 ^ 32 = b.long_small in
    record { small = omega arith; aligned = omega arith; inside = omega arith }

-- and in a code's record
pub record Entry (at off long frame : ℕ) : Type 0 where
  pub small : at + off < 2 ^ 32
  pub aligned : (at + off) % 4 ≡ 0
  pub inside : at + off + 4 ≤ long
  pub before : at + off + 4 ≤ frame

-- each offset below 16 is one, and 16
pub entry : (off at frame long code base : ℕ) → Bounds at frame long code base → off % 4 ≡ 0 → off ≤ 16 → Entry at off long frame
entry off at frame long code base b al l =
    let p : at % 4 ≡ 0 = b.at_aligned in
    let q : frame + (slots_at + 8) ≤ long = b.room in
    let r : long < 2 ^ 32 = b.long_small in
    let s : at + 20 ≤ frame = b.before in
    record { small = omega arith; aligned = omega arith; inside = omega arith; before = omega arith }

-- a code's number times 4
times-four : (code : ℕ) → code < 2 ^ 29 → wrapped (code * 4) ≡ 4 * code
times-four code l = omega arith

-- in 5 steps the machine has the frame's address and that of the code's record
pub record Found (h : Hart) (frame at : ℕ) : Type 0 where
  pub regs : List ℕ
  pub here : At 5 h 120 begin_used regs h.memory
  pub frame_is : slice_index regs 10 ≡ frame
  pub at_is : slice_index regs 5 ≡ at
  pub others : (r : ℕ) → r ≢ 5 → r ≢ 10 → slice_index regs r ≡ reg h r

-- it comes there
pub finds : (h : Hart) (frame at table start slots : ℕ) (counts : List ℕ) → AtKernel h begin_at → Beginning h frame at table start slots counts
    → Found h frame at
finds h frame at table start slots counts a d =
    let m : List ℕ = h.memory in
    let xs : List ℕ = begin_used in
    let s = a.kernel.begins in
    let b : Bounds at frame (length m) (reg h 12) (reg h 21) = bounds h frame at table start slots counts a d in
    let row : ℕ = 4 * reg h 12 + reg h 21 in
    let ri : row + 4 ≤ length m = b.row_inside in
    let sm : length m < 2 ^ 32 = b.long_small in
    let rs : row < 2 ^ 32 = omega arith in
    let fr : frame + (slots_at + 8) ≤ length m = b.room in
    let fs : frame < 2 ^ 32 = omega arith in
    let w2 : AtSet 2 h 108 xs h.regs m 10 frame = addresses h 100 xs frame (at-start h 100 xs a.at a.registers) refl s.0 s.1.0 d.frame_is fs in
    let e2 : wrapped (slice_index w2.regs 12 * 4) ≡ 4 * reg h 12 =
    ap (λ (x : ℕ). wrapped (x * 4)) (w2.others 12 (omega arith)) ∙ times-four (reg h 12) b.code_small in
    let w3 : AtSet 3 h 112 xs w2.regs m 5 (4 * reg h 12) = at-shift 2 h 108 xs w2.regs m Slli 4 12 2 (4 * reg h 12) w2.here s.1.1.0 e2 refl (omega arith) in
    let e3 : slice_index w3.regs 21 ≡ reg h 21 = w3.others 21 (omega arith) ∙ w2.others 21 (omega arith) in
    let w4 : AtSet 4 h 116 xs w3.regs m 5 row =
    at-reg 3 h 112 xs w3.regs m R_add 4 5 21 row w3.here s.1.1.1.0
    (sum-is (slice_index w3.regs 5) (slice_index w3.regs 21) (4 * reg h 12) (reg h 21) row w3.gives e3 refl rs) refl (omega arith) in
    let w5 : AtSet 5 h 120 xs w4.regs m 5 at =
    at-lw 4 h 116 xs w4.regs m 4 0 5 row at w4.here s.1.1.1.1.0 (sum-is (slice_index w4.regs 5) 0 row 0 row w4.gives refl (omega arith) rs) b.row_aligned
    b.row_inside d.code_word.is refl (omega arith) in
    record {
      regs = w5.regs;
      here = w5.here;
      frame_is = w5.others 10 (omega arith) ∙ (w4.others 10 (omega arith) ∙ (w3.others 10 (omega arith) ∙ w2.gives));
      at_is = w5.gives;
      others = λ r p q. w5.others r p ∙ (w4.others r p ∙ (w3.others r p ∙ w2.others r q));
    }

-- a register goes into a place of the head
pub puts : (n : ℕ) (h : Hart) (pc : ℕ) (regs k : List ℕ) (x off v frame : ℕ) → At n h pc begin_used regs k
    → StandsAt k pc (sw x off 10) → slice_index regs 10 ≡ frame → Place frame off (length h.memory) → Behind frame h.memory k → slice_index regs x ≡ v
    → At (n + 1) h (pc + 4) begin_used regs (written_at k (frame + off) 4 v)
puts n h pc regs k x off v frame w s e p b g =
    let i : frame + off + 4 ≤ length k = subst (λ (y : ℕ). frame + off + 4 ≤ y) (sym b.long) p.inside in
    at-sw n h pc begin_used regs k x off 10 (frame + off) v w s (sum-is (slice_index regs 10) off frame off (frame + off) e refl refl p.small) p.aligned i g

-- a word of the code's record is read
pub takes : (n : ℕ) (h : Hart) (pc : ℕ) (regs k : List ℕ) (x off v at frame : ℕ) → At n h pc begin_used regs k
    → StandsAt k pc (lw (suc x) off 5) → slice_index regs 5 ≡ at → Entry at off (length h.memory) frame → Behind frame h.memory k
    → read_at h.memory (at + off) 4 ≡ v
    → has begin_used (suc x) ≡ true → suc x < 32
    → AtSet (n + 1) h (pc + 4) begin_used regs k (suc x) v
takes n h pc regs k x off v at frame w s e p b g u l =
    let i : at + off + 4 ≤ length k = subst (λ (y : ℕ). at + off + 4 ≤ y) (sym b.long) p.inside in
    at-lw n h pc begin_used regs k x off 5 (at + off) v w s (sum-is (slice_index regs 5) off at off (at + off) e refl refl p.small) p.aligned i
    (b.reads (at + off) p.before ∙ g) u l
