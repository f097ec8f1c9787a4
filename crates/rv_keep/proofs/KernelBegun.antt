-- The kernel's part that begins a frame, whole: its head, what it owes, its slots, its entry counts.
use Rattle.std.proofs.Common.{◌≡◌, ◌≢◌, ℕ, suc, ◌+◌, ◌*◌, ◌%◌, ◌^◌, ◌<◌, ◌≤◌, List, [], ◌∷◌, length, refl, ap, ◌∙◌, arith, false, subst}
use Rattle.std.specs.Prelude.{slice_index}
use Rattle.tam_word.specs.Lists.{has}
use Rattle.rv_inst.specs.declared.r_name.RName.TheVariants.{Add as R_add}
use Rattle.rv_inst.specs.declared.i_name.IName.TheVariants.{Addi}
use Rattle.rv_inst.specs.Harts.{Hart, reg, read_at, written_at}
use Rattle.rv_keep.specs.FrameRecords.{head_at, number_at, table_at, owed_at, slots_at}
use Rattle.rv_keep.specs.KernelPlaces.{begin_at, post_at, clear_at, fill_at, kernel_end}
use Rattle.rv_keep.specs.Expansions.{minus}
use Rattle.rv_keep.specs.KernelSteps.{AtKernel, KernelStands, Goes}
use Rattle.rv_keep.specs.KernelFrames.{Beginning, NumbersStand, headed, cleared, begun}
use Rattle.rv_keep.proofs.Walks.{At, AtSet, at-imm, at-reg, at-jal, at-link}
use Rattle.rv_keep.proofs.KernelDelivers.{sum-is}
use Rattle.rv_keep.proofs.KernelLoops.{begin_used, Cleared, clears-slots, Filled, fills-counts, filled-kernel}
use Rattle.rv_keep.proofs.KernelBegins.{Behind, behind-none, behind-write, behind-cleared, behind-numbers, Bounds, bounds, Place, place, Entry, entry}
use Rattle.rv_keep.proofs.KernelBegins.{Found, finds}
use Rattle.rv_keep.proofs.KernelBegins.{puts, takes}

-- a write to a place of the head
behind-put : (frame off w long at code base : ℕ) (m k : List ℕ) → Bounds at frame (length m) code base → Behind frame m k → Place frame off (length m)
    → Behind frame m (written_at k (frame + off) 4 w)
behind-put frame off w long at code base m k b p q = behind-write frame m k (frame + off) w p b.behind (omega arith) q.inside

-- the machine is in this part: it has the frame's address and the record's, and all else but 6, 7, 11, 12 and 28 as at the start
record Kept (h : Hart) (regs : List ℕ) (frame at : ℕ) : Type 0 where
  pub frame_is : slice_index regs 10 ≡ frame
  pub at_is : slice_index regs 5 ≡ at
  pub others : (r : ℕ) → has begin_used r ≡ false → slice_index regs r ≡ reg h r

-- so it is where another register is set
kept-on : (h : Hart) (n pc : ℕ) (was k : List ℕ) (x w frame at : ℕ) (p : AtSet n h pc begin_used was k x w) → Kept h was frame at → 10 ≢ x → 5 ≢ x
    → Kept h p.regs frame at
kept-on h n pc was k x w frame at p q d e =
    record { frame_is = p.others 10 d ∙ q.frame_is; at_is = p.others 5 e ∙ q.at_is; others = p.here.same }

-- in 9 steps the first three words of the head stand
record Head (h : Hart) (frame at table : ℕ) : Type 0 where
  pub regs : List ℕ
  pub here : At 9 h 136 begin_used regs (written_at (written_at (written_at h.memory (frame + head_at) 4 0) (frame + number_at) 4 (reg h 11))
      (frame + table_at) 4 table)
  pub kept : Kept h regs frame at
  pub behind : Behind frame h.memory (written_at (written_at (written_at h.memory (frame + head_at) 4 0) (frame + number_at) 4 (reg h 11)) (frame + table_at)
      4 table)

-- they do
first-words : (h : Hart) (frame at table start slots : ℕ) (counts : List ℕ) → AtKernel h begin_at → Beginning h frame at table start slots counts
    → Head h frame at table
first-words h frame at table start slots counts a d =
    let m : List ℕ = h.memory in
    let b : Bounds at frame (length m) (reg h 12) (reg h 21) = bounds h frame at table start slots counts a d in
    let p1 : Place frame head_at (length m) = place head_at at frame (length m) (reg h 12) (reg h 21) b refl (omega arith) in
    let p2 : Place frame number_at (length m) = place number_at at frame (length m) (reg h 12) (reg h 21) b refl (omega arith) in
    let p3 : Place frame table_at (length m) = place table_at at frame (length m) (reg h 12) (reg h 21) b refl (omega arith) in
    let e0 : Entry at 0 (length m) frame = entry 0 at frame (length m) (reg h 12) (reg h 21) b refl (omega arith) in
    let m1 : List ℕ = written_at m (frame + head_at) 4 0 in
    let m2 : List ℕ = written_at m1 (frame + number_at) 4 (reg h 11) in
    let b1 : Behind frame m m1 = behind-put frame head_at 0 0 at (reg h 12) (reg h 21) m m b (behind-none frame m) p1 in
    let b2 : Behind frame m m2 = behind-put frame number_at (reg h 11) 0 at (reg h 12) (reg h 21) m m1 b b1 p2 in
    let w5 : Found h frame at = finds h frame at table start slots counts a d in
    let z5 : slice_index w5.regs 0 ≡ 0 = w5.others 0 (omega arith) (omega arith) ∙ a.zero_stays in
    let w6 : At 6 h 124 begin_used w5.regs m1 =
    puts 5 h 120 w5.regs m 0 head_at 0 frame w5.here a.kernel.begins.1.1.1.1.1.0 w5.frame_is p1 (behind-none frame m) z5 in
    let w7 : At 7 h 128 begin_used w5.regs m2 =
    puts 6 h 124 w5.regs m1 11 number_at (reg h 11) frame w6 (b1.kernel a.kernel).begins.1.1.1.1.1.1.0 w5.frame_is p2 b1
    (w5.others 11 (omega arith) (omega arith)) in
    let zero_on : at + 0 ≡ at = omega arith in
    let r0 : read_at m (at + 0) 4 ≡ table = ap (λ (x : ℕ). read_at m x 4) zero_on ∙ d.record_is.table_is in
    let w8 : AtSet 8 h 132 begin_used w5.regs m2 6 table =
    takes 7 h 128 w5.regs m2 5 0 table at frame w7 (b2.kernel a.kernel).begins.1.1.1.1.1.1.1.0 w5.at_is e0 b2 r0 refl (omega arith) in
    let f8 : slice_index w8.regs 10 ≡ frame = w8.others 10 (omega arith) ∙ w5.frame_is in
    record {
      regs = w8.regs;
      here = puts 8 h 132 w8.regs m2 6 table_at table frame w8.here (b2.kernel a.kernel).begins.1.1.1.1.1.1.1.1.0 f8 p3 b2 w8.gives;
      kept = record { frame_is = f8; at_is = w8.others 5 (omega arith) ∙ w5.at_is; others = w8.here.same };
      behind = behind-put frame table_at table 0 at (reg h 12) (reg h 21) m m2 b b2 p3;
    }

-- in 15 the head stands, and register 6 has the address of thread 0's cell, as has 11
record Headed (h : Hart) (frame at table cell : ℕ) : Type 0 where
  pub regs : List ℕ
  pub here : At 15 h clear_at begin_used regs (headed h.memory frame (reg h 11) table (reg h 13) (reg h 14))
  pub kept : Kept h regs frame at
  pub cell_is : slice_index regs 6 ≡ frame + cell
  pub cell_also : slice_index regs 11 ≡ frame + cell
  pub behind : Behind frame h.memory (headed h.memory frame (reg h 11) table (reg h 13) (reg h 14))

-- it does
heads : (h : Hart) (frame at table start slots : ℕ) (counts : List ℕ) → AtKernel h begin_at → Beginning h frame at table start slots counts
    → frame + (slots_at + 8 + 4 * slots) < 2 ^ 32 → Headed h frame at table (slots_at + 8 + 4 * slots)
heads h frame at table start slots counts a d u =
    let m : List ℕ = h.memory in
    let cell : ℕ = slots_at + 8 + 4 * slots in
    let b : Bounds at frame (length m) (reg h 12) (reg h 21) = bounds h frame at table start slots counts a d in
    let p4 : Place frame slots_at (length m) = place slots_at at frame (length m) (reg h 12) (reg h 21) b refl (omega arith) in
    let p5 : Place frame (slots_at + 4) (length m) = place (slots_at + 4) at frame (length m) (reg h 12) (reg h 21) b refl (omega arith) in
    let e4 : Entry at 4 (length m) frame = entry 4 at frame (length m) (reg h 12) (reg h 21) b refl (omega arith) in
    let w : Head h frame at table = first-words h frame at table start slots counts a d in
    let m3 : List ℕ = written_at (written_at (written_at m (frame + head_at) 4 0) (frame + number_at) 4 (reg h 11)) (frame + table_at) 4 table in
    let m4 : List ℕ = written_at m3 (frame + slots_at) 4 (reg h 13) in
    let m5 : List ℕ = headed m frame (reg h 11) table (reg h 13) (reg h 14) in
    let b4 : Behind frame m m4 = behind-put frame slots_at (reg h 13) 0 at (reg h 12) (reg h 21) m m3 b w.behind p4 in
    let b5 : Behind frame m m5 = behind-put frame (slots_at + 4) (reg h 14) 0 at (reg h 12) (reg h 21) m m4 b b4 p5 in
    let s5 = (b5.kernel a.kernel).begins in
    let w10 : At 10 h 140 begin_used w.regs m4 =
    puts 9 h 136 w.regs m3 13 slots_at (reg h 13) frame w.here (w.behind.kernel a.kernel).begins.1.1.1.1.1.1.1.1.1.0 w.kept.frame_is p4 w.behind
    (w.kept.others 13 refl) in
    let w11 : At 11 h 144 begin_used w.regs m5 =
    puts 10 h 140 w.regs m4 14 (slots_at + 4) (reg h 14) frame w10 (b4.kernel a.kernel).begins.1.1.1.1.1.1.1.1.1.1.0 w.kept.frame_is p5 b4
    (w.kept.others 14 refl) in
    let w12 : AtSet 12 h 148 begin_used w.regs m5 6 cell =
    takes 11 h 144 w.regs m5 5 4 cell at frame w11 s5.1.1.1.1.1.1.1.1.1.1.1.0 w.kept.at_is e4 b5 d.record_is.cell_is refl (omega arith) in
    let k12 : Kept h w12.regs frame at = kept-on h 12 148 w.regs m5 6 cell frame at w12 w.kept (omega arith) (omega arith) in
    let c12 : cell + frame ≡ frame + cell = omega arith in
    let w13 : AtSet 13 h 152 begin_used w12.regs m5 6 (frame + cell) =
    at-reg 12 h 148 begin_used w12.regs m5 R_add 5 6 10 (frame + cell) w12.here s5.1.1.1.1.1.1.1.1.1.1.1.1.0
    (sum-is (slice_index w12.regs 6) (slice_index w12.regs 10) cell frame (frame + cell) w12.gives k12.frame_is c12 u) refl (omega arith) in
    let k13 : Kept h w13.regs frame at = kept-on h 13 152 w12.regs m5 6 (frame + cell) frame at w13 k12 (omega arith) (omega arith) in
    let c13 : frame + cell + 0 ≡ frame + cell = omega arith in
    let w14 : AtSet 14 h 156 begin_used w13.regs m5 11 (frame + cell) =
    at-imm 13 h 152 begin_used w13.regs m5 Addi 10 6 0 (frame + cell) w13.here s5.1.1.1.1.1.1.1.1.1.1.1.1.1.0
    (sum-is (slice_index w13.regs 6) 0 (frame + cell) 0 (frame + cell) w13.gives refl c13 u) refl (omega arith) in
    record {
      regs = w14.regs;
      here = at-jal 14 h 156 begin_used w14.regs m5 232 clear_at w14.here s5.1.1.1.1.1.1.1.1.1.1.1.1.1.1.0 refl refl;
      kept = kept-on h 14 156 w13.regs m5 11 (frame + cell) frame at w14 k13 (omega arith) (omega arith);
      cell_is = w14.others 6 (omega arith) ∙ w13.gives;
      cell_also = w14.gives;
      behind = b5;
    }

-- in 18 what the frame owes stands, and register 28 has the address of the third slot
record Owing (h : Hart) (frame at cell threads : ℕ) (memory : List ℕ) : Type 0 where
  pub regs : List ℕ
  pub here : At 18 h 400 begin_used regs memory
  pub kept : Kept h regs frame at
  pub cell_is : slice_index regs 6 ≡ frame + cell
  pub cell_also : slice_index regs 11 ≡ frame + cell
  pub threads_are : slice_index regs 7 ≡ threads
  pub slot_is : slice_index regs 28 ≡ frame + (slots_at + 8)
  pub behind : Behind frame h.memory memory

-- the memory there
abbrev pub owing : List ℕ → ℕ → ℕ → ℕ → ℕ → ℕ → ℕ → List ℕ
owing m frame number table s0 s1 threads = written_at (headed m frame number table s0 s1) (frame + owed_at) 4 threads

-- it does
owes : (h : Hart) (frame at table start slots : ℕ) (counts : List ℕ) → AtKernel h begin_at → Beginning h frame at table start slots counts
    → frame + (slots_at + 8 + 4 * slots) < 2 ^ 32
    → Owing h frame at (slots_at + 8 + 4 * slots) (length counts) (owing h.memory frame (reg h 11) table (reg h 13) (reg h 14) (length counts))
owes h frame at table start slots counts a d u =
    let m : List ℕ = h.memory in
    let cell : ℕ = slots_at + 8 + 4 * slots in
    let b : Bounds at frame (length m) (reg h 12) (reg h 21) = bounds h frame at table start slots counts a d in
    let p6 : Place frame owed_at (length m) = place owed_at at frame (length m) (reg h 12) (reg h 21) b refl (omega arith) in
    let e8 : Entry at 8 (length m) frame = entry 8 at frame (length m) (reg h 12) (reg h 21) b refl (omega arith) in
    let w : Headed h frame at table cell = heads h frame at table start slots counts a d u in
    let m5 : List ℕ = headed m frame (reg h 11) table (reg h 13) (reg h 14) in
    let m6 : List ℕ = owing m frame (reg h 11) table (reg h 13) (reg h 14) (length counts) in
    let b6 : Behind frame m m6 = behind-put frame owed_at (length counts) 0 at (reg h 12) (reg h 21) m m5 b w.behind p6 in
    let s5 = (w.behind.kernel a.kernel).clears in
    let w16 : AtSet 16 h 392 begin_used w.regs m5 7 (length counts) =
    takes 15 h clear_at w.regs m5 6 8 (length counts) at frame w.here s5.0 w.kept.at_is e8 w.behind d.record_is.threads_are refl (omega arith) in
    let k16 : Kept h w16.regs frame at = kept-on h 16 392 w.regs m5 7 (length counts) frame at w16 w.kept (omega arith) (omega arith) in
    let w17 : At 17 h 396 begin_used w16.regs m6 =
    puts 16 h 392 w16.regs m5 7 owed_at (length counts) frame w16.here s5.1.0 k16.frame_is p6 w.behind w16.gives in
    let f8 : frame + (slots_at + 8) < 2 ^ 32 = omega arith in
    let w18 : AtSet 18 h 400 begin_used w16.regs m6 28 (frame + (slots_at + 8)) =
    at-imm 17 h 396 begin_used w16.regs m6 Addi 27 10 (slots_at + 8) (frame + (slots_at + 8)) w17 (b6.kernel a.kernel).clears.1.1.0
    (sum-is (slice_index w16.regs 10) (slots_at + 8) frame (slots_at + 8) (frame + (slots_at + 8)) k16.frame_is refl refl f8) refl (omega arith) in
    record {
      regs = w18.regs;
      here = w18.here;
      kept = kept-on h 18 400 w16.regs m6 28 (frame + (slots_at + 8)) frame at w18 k16 (omega arith) (omega arith);
      cell_is = w18.others 6 (omega arith) ∙ (w16.others 6 (omega arith) ∙ w.cell_is);
      cell_also = w18.others 11 (omega arith) ∙ (w16.others 11 (omega arith) ∙ w.cell_also);
      threads_are = w18.others 7 (omega arith) ∙ w16.gives;
      slot_is = w18.gives;
      behind = b6;
    }

-- behind the slots, the record's last words are read, and the machine is at the loop over the counts
record Filling (n : ℕ) (h : Hart) (frame at cell start threads : ℕ) (memory : List ℕ) : Type 0 where
  pub regs : List ℕ
  pub here : At n h 168 begin_used regs memory
  pub frame_is : slice_index regs 10 ≡ frame
  pub source_is : slice_index regs 5 ≡ at + 16
  pub target_is : slice_index regs 6 ≡ frame + cell
  pub threads_are : slice_index regs 7 ≡ threads
  pub cell_is : slice_index regs 11 ≡ frame + cell
  pub start_is : slice_index regs 12 ≡ start
  pub zero_stays : slice_index regs 0 ≡ 0
  pub behind : Behind frame h.memory memory

-- the memory there
abbrev pub slotted : List ℕ → ℕ → ℕ → ℕ → ℕ → ℕ → ℕ → ℕ → List ℕ
slotted m frame number table s0 s1 threads slots = cleared (owing m frame number table s0 s1 threads) (frame + (slots_at + 8)) slots

-- it comes there
clears : (h : Hart) (frame at table start slots : ℕ) (counts : List ℕ) → AtKernel h begin_at → Beginning h frame at table start slots counts
    → frame + (slots_at + 8 + 4 * slots) < 2 ^ 32
    → Filling (18 + (4 * slots + 1) + 1 + 1 + 1) h frame at (slots_at + 8 + 4 * slots) start (length counts)
    (slotted h.memory frame (reg h 11) table (reg h 13) (reg h 14) (length counts) slots)
clears h frame at table start slots counts a d u =
    let m : List ℕ = h.memory in
    let cell : ℕ = slots_at + 8 + 4 * slots in
    let b : Bounds at frame (length m) (reg h 12) (reg h 21) = bounds h frame at table start slots counts a d in
    let be : kernel_end ≤ frame = b.behind in
    let fa : frame % 4 ≡ 0 = b.frame_aligned in
    let sm : length m < 2 ^ 32 = b.long_small in
    let ro : frame + cell + 8 * length counts ≤ length m = d.room in
    let e12 : Entry at 12 (length m) frame = entry 12 at frame (length m) (reg h 12) (reg h 21) b refl (omega arith) in
    let e16 : Entry at 16 (length m) frame = entry 16 at frame (length m) (reg h 12) (reg h 21) b refl (omega arith) in
    let w : Owing h frame at cell (length counts) (owing m frame (reg h 11) table (reg h 13) (reg h 14) (length counts)) =
    owes h frame at table start slots counts a d u in
    let m6 : List ℕ = owing m frame (reg h 11) table (reg h 13) (reg h 14) (length counts) in
    let m7 : List ℕ = cleared m6 (frame + (slots_at + 8)) slots in
    let l6 : length m6 ≡ length m = w.behind.long in
    let i6 : frame + (slots_at + 8) + 4 * slots ≤ length m6 = omega arith in
    let i7 : frame + (slots_at + 8) + 4 * slots ≤ length m = omega arith in
    let b7 : Behind frame m m7 = behind-cleared slots frame m m6 (frame + (slots_at + 8)) w.behind be (omega arith) i7 in
    let t = (b7.kernel a.kernel) in
    let g6 : slice_index w.regs 6 ≡ frame + (slots_at + 8) + 4 * slots = w.cell_is ∙ omega arith in
    let c : Cleared (18 + (4 * slots + 1)) h w.regs m7 =
    clears-slots slots 18 h w.regs m6 (frame + (slots_at + 8)) w.here (w.behind.kernel a.kernel) (omega arith) (w.kept.others 0 refl ∙ a.zero_stays)
    w.slot_is g6
    (omega arith) (omega arith) i6 in
    let n : ℕ = 18 + (4 * slots + 1) in
    let w20 : At (n + 1) h fill_at begin_used c.regs m7 = at-jal n h 416 begin_used c.regs m7 (minus 256) fill_at c.here t.clears.1.1.1.1.1.1.1.0 refl refl in
    let a20 : slice_index c.regs 5 ≡ at = c.others 5 (omega arith) ∙ w.kept.at_is in
    let w21 : AtSet (n + 1 + 1) h 164 begin_used c.regs m7 12 start =
    takes (n + 1) h fill_at c.regs m7 11 12 start at frame w20 t.fills.0 a20 e12 b7 d.record_is.start_is refl (omega arith) in
    let a21 : slice_index w21.regs 5 ≡ at = w21.others 5 (omega arith) ∙ a20 in
    let w22 : AtSet (n + 1 + 1 + 1) h 168 begin_used w21.regs m7 5 (at + 16) =
    at-imm (n + 1 + 1) h 164 begin_used w21.regs m7 Addi 4 5 16 (at + 16) w21.here t.fills.1.0
    (sum-is (slice_index w21.regs 5) 16 at 16 (at + 16) a21 refl refl e16.small) refl (omega arith) in
    record {
      regs = w22.regs;
      here = w22.here;
      frame_is = w22.others 10 (omega arith) ∙ (w21.others 10 (omega arith) ∙ (c.others 10 (omega arith) ∙ w.kept.frame_is));
      source_is = w22.gives;
      target_is = w22.others 6 (omega arith) ∙ (w21.others 6 (omega arith) ∙ (c.others 6 (omega arith) ∙ w.cell_is));
      threads_are = w22.others 7 (omega arith) ∙ (w21.others 7 (omega arith) ∙ (c.others 7 (omega arith) ∙ w.threads_are));
      cell_is = w22.others 11 (omega arith) ∙ (w21.others 11 (omega arith) ∙ (c.others 11 (omega arith) ∙ w.cell_also));
      start_is = w22.others 12 (omega arith) ∙ w21.gives;
      zero_stays = w22.others 0 (omega arith) ∙ (w21.others 0 (omega arith) ∙ (c.others 0 (omega arith) ∙ (w.kept.others 0 refl ∙ a.zero_stays)));
      behind = b7;
    }

-- the frame's bytes are there, and the kernel comes to post thread 0
begins-some : (h : Hart) (frame at table start slots c : ℕ) (cs : List ℕ) → AtKernel h begin_at → Beginning h frame at table start slots (c ∷ cs)
    → Goes (24 + 4 * slots + 6 * suc (length cs)) h post_at begin_used
    ((1, 244) ∷ (10, frame) ∷ (11, frame + (slots_at + 8 + 4 * slots)) ∷ (12, start) ∷ [])
    (begun h.memory frame (reg h 11) table (reg h 13) (reg h 14) slots (c ∷ cs))
begins-some h frame at table start slots c cs a d =
    let m : List ℕ = h.memory in
    let cell : ℕ = slots_at + 8 + 4 * slots in
    let b : Bounds at frame (length m) (reg h 12) (reg h 21) = bounds h frame at table start slots (c ∷ cs) a d in
    let be : kernel_end ≤ frame = b.behind in
    let fa : frame % 4 ≡ 0 = b.frame_aligned in
    let aa : at % 4 ≡ 0 = b.at_aligned in
    let sm : length m < 2 ^ 32 = b.long_small in
    let ro : frame + cell + 8 * suc (length cs) ≤ length m = d.room in
    let bf : at + 16 + 4 * suc (length cs) ≤ frame = d.record_before in
    let u : frame + cell < 2 ^ 32 = omega arith in
    let w : Filling (18 + (4 * slots + 1) + 1 + 1 + 1) h frame at cell start (suc (length cs))
    (slotted m frame (reg h 11) table (reg h 13) (reg h 14) (suc (length cs)) slots) = clears h frame at table start slots (c ∷ cs) a d u in
    let m7 : List ℕ = slotted m frame (reg h 11) table (reg h 13) (reg h 14) (suc (length cs)) slots in
    let m8 : List ℕ = begun m frame (reg h 11) table (reg h 13) (reg h 14) slots (c ∷ cs) in
    let l7 : length m7 ≡ length m = w.behind.long in
    let s7 : NumbersStand m7 (at + 16) (c ∷ cs) = behind-numbers (c ∷ cs) frame m m7 (at + 16) w.behind bf d.record_is.counts_are in
    let n : ℕ = 18 + (4 * slots + 1) + 1 + 1 + 1 in
    let f : Filled (n + 6 * suc (length cs)) h w.regs m8 =
    fills-counts cs c n h w.regs m7 (at + 16) (frame + cell) w.here (w.behind.kernel a.kernel) (omega arith) w.zero_stays w.source_is w.target_is
    w.threads_are s7
    (omega arith) (omega arith) (omega arith) (omega arith) (omega arith) in
    let k8 : KernelStands m8 = filled-kernel (c ∷ cs) m7 (frame + cell) (w.behind.kernel a.kernel) (omega arith) (omega arith) in
    let q : ℕ = n + 6 * suc (length cs) in
    let w24 : At (q + 1) h 240 begin_used f.regs m8 = at-jal q h 192 begin_used f.regs m8 48 240 f.here k8.fills.1.1.1.1.1.1.1.1.0 refl refl in
    let w25 : AtSet (q + 1 + 1) h post_at begin_used f.regs m8 1 244 =
    at-link (q + 1) h 240 begin_used f.regs m8 0 8 post_at w24 k8.delivers.1.1.1.1.1.1.1.1.1.1.1.0 refl refl refl (omega arith) in
    let t : q + 1 + 1 ≡ 24 + 4 * slots + 6 * suc (length cs) = omega arith in
    let r : At (24 + 4 * slots + 6 * suc (length cs)) h post_at begin_used w25.regs m8 =
    subst (λ (x : ℕ). At x h post_at begin_used w25.regs m8) t w25.here in
    record {
      regs = w25.regs;
      comes = r.comes;
      many = r.many;
      same = r.same;
      set = (
        w25.gives,
        (
          w25.others 10 (omega arith) ∙ (f.others 10 (omega arith) (omega arith) (omega arith) (omega arith) ∙ w.frame_is),
          (
            w25.others 11 (omega arith) ∙ (f.others 11 (omega arith) (omega arith) (omega arith) (omega arith) ∙ w.cell_is),
            (w25.others 12 (omega arith) ∙ (f.others 12 (omega arith) (omega arith) (omega arith) (omega arith) ∙ w.start_is), tt),
          ),
        ),
      );
    }

-- the same of any counts
pub begins-frame : (h : Hart) (frame at table start slots : ℕ) (counts : List ℕ) → AtKernel h begin_at → Beginning h frame at table start slots counts
    → Goes (24 + 4 * slots + 6 * length counts) h post_at begin_used
    ((1, 244) ∷ (10, frame) ∷ (11, frame + (slots_at + 8 + 4 * slots)) ∷ (12, start) ∷ [])
    (begun h.memory frame (reg h 11) table (reg h 13) (reg h 14) slots counts)
begins-frame h frame at table start slots [] a d = let p : 0 < length {A = ℕ} [] = d.record_is.some_thread in absurd (omega arith)
begins-frame h frame at table start slots (c ∷ cs) a d = begins-some h frame at table start slots c cs a d
