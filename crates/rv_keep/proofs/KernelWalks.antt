-- The parts of the kernel that poll, rest, stop and run, step by step.
use Rattle.std.proofs.Common.{◌≡◌, ◌≢◌, ℕ, suc, ◌+◌, ◌-◌, ◌%◌, ◌^◌, ◌<◌, ◌≤◌, List, [], ◌∷◌, length, refl, ◌∙◌, arith, true}
use Rattle.std.specs.Prelude.{slice_index}
use Rattle.tam_word.specs.Lists.{has}
use Rattle.tam_word.specs.declared.op.Op.TheVariants.{Or}
use Rattle.tam_word.specs.Words.{wrapped, meaning}
use Rattle.rv_inst.specs.declared.r_name.RName.TheVariants.{Or as R_or}
use Rattle.rv_inst.proofs.Memory.{length-written, read-before}
use Rattle.rv_inst.specs.declared.i_name.IName.TheVariants.{Addi}
use Rattle.rv_inst.specs.declared.branch_name.BranchName.TheVariants.{Beq, Bne}
use Rattle.rv_inst.specs.Harts.{Hart, reg, read_at, written_at}
use Rattle.rv_keep.specs.FrameRecords.{head_at, number_at, owed_at, slots_at}
use Rattle.rv_keep.specs.KernelPlaces.{rest_at, poll_at, deliver_at, run_at, begin_at, stop_at, kernel_end}
use Rattle.rv_keep.specs.Expansions.{minus}
use Rattle.rv_keep.specs.KernelSteps.{AtKernel, KernelStands, Goes, GoesCalling, FrameIn}
use Rattle.rv_keep.proofs.Posted.{bne-taken, bne-untaken}
use Rattle.rv_keep.proofs.Linked.{beq-taken, beq-untaken}
use Rattle.rv_keep.proofs.Walks.{At, AtSet, at-start, at-lw, at-sw, at-imm, at-reg, at-call, at-taken, at-untaken, at-jal}
use Rattle.rv_keep.proofs.KernelStands.{kernel-still}

-- the same as where a register has got a number, behind a write
record Stored (n : ℕ) (h : Hart) (pc : ℕ) (xs memory : List ℕ) (x w : ℕ) : Type 0 where
  pub regs : List ℕ
  pub here : At n h pc xs regs memory
  pub gives : slice_index regs x ≡ w
  pub others : (r : ℕ) → r ≢ x → slice_index regs r ≡ slice_index h.regs r

-- nothing is left to do: the kernel polls again
pub turns-back : (h : Hart) → AtKernel h 80 → reg h 10 ≡ 0 → Goes 1 h poll_at [] [] h.memory
turns-back h a e =
    let m : List ℕ = h.memory in
    let s = a.kernel.polls in
    let w0 : At 0 h 80 [] h.regs m = at-start h 80 [] a.at a.registers in
    let w1 : At 1 h 68 [] h.regs m =
    at-taken 0 h 80 [] h.regs m Beq 10 0 (minus 12) 68 w0 s.1.1.1.0 (beq-taken (reg h 10) (reg h 0) 0 e a.zero_stays) refl refl in
    record { regs = h.regs; comes = w1.comes; many = w1.many; same = w1.same; set = tt }

-- a thread is to be run
pub turns-to-run : (h : Hart) → AtKernel h 80 → reg h 10 ≡ 1 → Goes 3 h run_at (5 ∷ []) [] h.memory
turns-to-run h a e =
    let m : List ℕ = h.memory in
    let xs : List ℕ = 5 ∷ [] in
    let s = a.kernel.polls in
    let z : reg h 0 ≡ 0 = a.zero_stays in
    let w0 : At 0 h 80 xs h.regs m = at-start h 80 xs a.at a.registers in
    let w1 : At 1 h 84 xs h.regs m =
    at-untaken 0 h 80 xs h.regs m Beq 10 0 (minus 12) w0 s.1.1.1.0 (beq-untaken (reg h 10) (reg h 0) 1 0 e z (omega arith)) in
    let v1 : wrapped (reg h 0 + 1) ≡ 1 = omega arith in
    let w2 : AtSet 2 h 88 xs h.regs m 5 1 = at-imm 1 h 84 xs h.regs m Addi 4 0 1 1 w1 s.1.1.1.1.0 v1 refl (omega arith) in
    let w3 : At 3 h run_at xs w2.regs m =
    at-taken 2 h 88 xs w2.regs m Beq 10 5 228 run_at w2.here s.1.1.1.1.1.0
    (beq-taken (slice_index w2.regs 10) (slice_index w2.regs 5) 1 (w2.others 10 (omega arith) ∙ e) w2.gives) refl refl in
    record { regs = w2.regs; comes = w3.comes; many = w3.many; same = w3.same; set = tt }

-- a word is to be delivered, or a frame to be begun: the machine comes behind the test for a run
turns-past-run : (h : Hart) (c : ℕ) → AtKernel h 80 → reg h 10 ≡ suc (suc c) → AtSet 4 h 96 (5 ∷ []) h.regs h.memory 5 2
turns-past-run h c a e =
    let m : List ℕ = h.memory in
    let xs : List ℕ = 5 ∷ [] in
    let s = a.kernel.polls in
    let z : reg h 0 ≡ 0 = a.zero_stays in
    let w0 : At 0 h 80 xs h.regs m = at-start h 80 xs a.at a.registers in
    let w1 : At 1 h 84 xs h.regs m =
    at-untaken 0 h 80 xs h.regs m Beq 10 0 (minus 12) w0 s.1.1.1.0 (beq-untaken (reg h 10) (reg h 0) (suc (suc c)) 0 e z (omega arith)) in
    let v1 : wrapped (reg h 0 + 1) ≡ 1 = omega arith in
    let w2 : AtSet 2 h 88 xs h.regs m 5 1 = at-imm 1 h 84 xs h.regs m Addi 4 0 1 1 w1 s.1.1.1.1.0 v1 refl (omega arith) in
    let w3 : At 3 h 92 xs w2.regs m =
    at-untaken 2 h 88 xs w2.regs m Beq 10 5 228 w2.here s.1.1.1.1.1.0
    (beq-untaken (slice_index w2.regs 10) (slice_index w2.regs 5) (suc (suc c)) 1 (w2.others 10 (omega arith) ∙ e) w2.gives (omega arith)) in
    let z2 : slice_index w2.regs 0 ≡ 0 = w2.others 0 (omega arith) ∙ z in
    let v3 : wrapped (slice_index w2.regs 0 + 2) ≡ 2 = omega arith in
    let w4 : AtSet 4 h 96 xs w2.regs m 5 2 = at-imm 3 h 92 xs w2.regs m Addi 4 0 2 2 w3 s.1.1.1.1.1.1.0 v3 refl (omega arith) in
    record { regs = w4.regs; here = w4.here; gives = w4.gives; others = λ r q. w4.others r q ∙ w2.others r q }

-- a word is to be delivered
pub turns-to-deliver : (h : Hart) → AtKernel h 80 → reg h 10 ≡ 2 → Goes 5 h deliver_at (5 ∷ []) [] h.memory
turns-to-deliver h a e =
    let w : AtSet 4 h 96 (5 ∷ []) h.regs h.memory 5 2 = turns-past-run h 0 a e in
    let k : At 5 h deliver_at (5 ∷ []) w.regs h.memory =
    at-taken 4 h 96 (5 ∷ []) w.regs h.memory Beq 10 5 100 deliver_at w.here a.kernel.polls.1.1.1.1.1.1.1.0
    (beq-taken (slice_index w.regs 10) (slice_index w.regs 5) 2 (w.others 10 (omega arith) ∙ e) w.gives) refl refl in
    record { regs = w.regs; comes = k.comes; many = k.many; same = k.same; set = tt }

-- a frame is to be begun
pub turns-to-begin : (h : Hart) → AtKernel h 80 → reg h 10 ≡ 3 → Goes 5 h begin_at (5 ∷ []) [] h.memory
turns-to-begin h a e =
    let w : AtSet 4 h 96 (5 ∷ []) h.regs h.memory 5 2 = turns-past-run h 1 a e in
    let k : At 5 h begin_at (5 ∷ []) w.regs h.memory =
    at-untaken 4 h 96 (5 ∷ []) w.regs h.memory Beq 10 5 100 w.here a.kernel.polls.1.1.1.1.1.1.1.0
    (beq-untaken (slice_index w.regs 10) (slice_index w.regs 5) 3 2 (w.others 10 (omega arith) ∙ e) w.gives (omega arith)) in
    record { regs = w.regs; comes = k.comes; many = k.many; same = k.same; set = tt }

-- the kernel polls
pub poll-calls : (h : Hart) → AtKernel h poll_at → GoesCalling 2 h 80 (10 ∷ 17 ∷ []) ((10, meaning Or (reg h 8) (reg h 9)) ∷ (17, 0) ∷ []) h.memory
poll-calls h a =
    let m : List ℕ = h.memory in
    let xs : List ℕ = 10 ∷ 17 ∷ [] in
    let s = a.kernel.polls in
    let v : ℕ = meaning Or (reg h 8) (reg h 9) in
    let w0 : At 0 h 68 xs h.regs m = at-start h 68 xs a.at a.registers in
    let w1 : AtSet 1 h 72 xs h.regs m 10 v = at-reg 0 h 68 xs h.regs m R_or 9 8 9 v w0 s.0 refl refl (omega arith) in
    let z1 : slice_index w1.regs 0 ≡ 0 = w1.others 0 (omega arith) ∙ a.zero_stays in
    let v1 : wrapped (slice_index w1.regs 0 + 0) ≡ 0 = omega arith in
    let w2 : AtSet 2 h 76 xs w1.regs m 17 0 = at-imm 1 h 72 xs w1.regs m Addi 16 0 0 0 w1.here s.1.0 v1 refl (omega arith) in
    record {
      regs = w2.regs;
      calls = at-call 2 h 76 xs w2.regs m w2.here s.1.1.0;
      many = w2.here.many;
      same = w2.here.same;
      set = (w2.others 10 (omega arith) ∙ w1.gives, (w2.gives, tt));
    }

-- what the frame owes is one less
owes-less : (h : Hart) (xs : List ℕ) (frame n : ℕ) → has xs 5 ≡ true → AtKernel h stop_at → reg h 8 ≡ frame → FrameIn h.memory frame
    → read_at h.memory (frame + owed_at) 4 ≡ suc n
    → n < 2 ^ 32 - 1 → Stored 3 h 368 xs (written_at h.memory (frame + owed_at) 4 n) 5 n
owes-less h xs frame n k a e f r u =
    let m : List ℕ = h.memory in
    let s = a.kernel.stops in
    let al : frame % 4 ≡ 0 = f.aligned in
    let ins : frame + slots_at ≤ length m = f.inside in
    let sm : length m < 2 ^ 32 = a.small in
    let w0 : At 0 h 356 xs h.regs m = at-start h 356 xs a.at a.registers in
    let d0 : wrapped (reg h 8 + owed_at) ≡ frame + owed_at = omega arith in
    let w1 : AtSet 1 h 360 xs h.regs m 5 (suc n) =
    at-lw 0 h 356 xs h.regs m 4 owed_at 8 (frame + owed_at) (suc n) w0 s.0 d0 (omega arith) (omega arith) r k (omega arith) in
    let g1 : slice_index w1.regs 5 ≡ suc n = w1.gives in
    let v1 : wrapped (slice_index w1.regs 5 + minus 1) ≡ n = omega arith in
    let w2 : AtSet 2 h 364 xs w1.regs m 5 n = at-imm 1 h 360 xs w1.regs m Addi 4 5 (minus 1) n w1.here s.1.0 v1 k (omega arith) in
    let e2 : slice_index w2.regs 8 ≡ frame = w2.others 8 (omega arith) ∙ (w1.others 8 (omega arith) ∙ e) in
    let d2 : wrapped (slice_index w2.regs 8 + owed_at) ≡ frame + owed_at = omega arith in
    record {
      regs = w2.regs;
      here = at-sw 2 h 364 xs w2.regs m 5 owed_at 8 (frame + owed_at) n w2.here s.1.1.0 d2 (omega arith) (omega arith) w2.gives;
      gives = w2.gives;
      others = λ q p. w2.others q p ∙ w1.others q p;
    }

-- the frame owes more
pub stop-owes : (h : Hart) (frame n : ℕ) → AtKernel h stop_at → reg h 8 ≡ frame → FrameIn h.memory frame → read_at h.memory (frame + owed_at) 4 ≡ suc (suc n)
    → suc n < 2 ^ 32 - 1 → Goes 4 h rest_at (5 ∷ []) [] (written_at h.memory (frame + owed_at) 4 (suc n))
stop-owes h frame n a e f r u =
    let m : List ℕ = written_at h.memory (frame + owed_at) 4 (suc n) in
    let be : kernel_end ≤ frame = f.behind in
    let ins : frame + slots_at ≤ length h.memory = f.inside in
    let k : KernelStands m = kernel-still h.memory (frame + owed_at) (suc n) a.kernel (omega arith) (omega arith) in
    let w : Stored 3 h 368 (5 ∷ []) m 5 (suc n) = owes-less h (5 ∷ []) frame (suc n) refl a e f r u in
    let z : slice_index w.regs 0 ≡ 0 = w.others 0 (omega arith) ∙ a.zero_stays in
    let t : At 4 h rest_at (5 ∷ []) w.regs m =
    at-taken 3 h 368 (5 ∷ []) w.regs m Bne 5 0 (minus 312) rest_at w.here k.stops.1.1.1.0
    (bne-taken (slice_index w.regs 5) (slice_index w.regs 0) n w.gives z) refl refl in
    record { regs = w.regs; comes = t.comes; many = t.many; same = t.same; set = tt }

-- it owes nothing more
pub stop-gives : (h : Hart) (frame number : ℕ) → AtKernel h stop_at → reg h 8 ≡ frame → FrameIn h.memory frame
    → read_at h.memory (frame + owed_at) 4 ≡ 1
    → read_at h.memory (frame + number_at) 4 ≡ number
    → GoesCalling 6 h 384 (5 ∷ 10 ∷ 17 ∷ []) ((10, number) ∷ (17, 6) ∷ []) (written_at h.memory (frame + owed_at) 4 0)
stop-gives h frame number a e f r p =
    let xs : List ℕ = 5 ∷ 10 ∷ 17 ∷ [] in
    let m : List ℕ = written_at h.memory (frame + owed_at) 4 0 in
    let al : frame % 4 ≡ 0 = f.aligned in
    let be : kernel_end ≤ frame = f.behind in
    let ins : frame + slots_at ≤ length h.memory = f.inside in
    let sm : length h.memory < 2 ^ 32 = a.small in
    let k : KernelStands m = kernel-still h.memory (frame + owed_at) 0 a.kernel (omega arith) (omega arith) in
    let lm : length m ≡ length h.memory = length-written h.memory (frame + owed_at) 4 0 (omega arith) in
    let w3 : Stored 3 h 368 xs m 5 0 = owes-less h xs frame 0 refl a e f r (omega arith) in
    let z3 : slice_index w3.regs 0 ≡ 0 = w3.others 0 (omega arith) ∙ a.zero_stays in
    let w4 : At 4 h 372 xs w3.regs m =
    at-untaken 3 h 368 xs w3.regs m Bne 5 0 (minus 312) w3.here k.stops.1.1.1.0 (bne-untaken (slice_index w3.regs 5) (slice_index w3.regs 0) w3.gives z3) in
    let e4 : slice_index w3.regs 8 ≡ frame = w3.others 8 (omega arith) ∙ e in
    let d4 : wrapped (slice_index w3.regs 8 + number_at) ≡ frame + number_at = omega arith in
    let p4 : read_at m (frame + number_at) 4 ≡ number = read-before h.memory (frame + owed_at) 4 0 (frame + number_at) 4 (omega arith) (omega arith) ∙ p in
    let w5 : AtSet 5 h 376 xs w3.regs m 10 number =
    at-lw 4 h 372 xs w3.regs m 9 number_at 8 (frame + number_at) number w4 k.stops.1.1.1.1.0 d4 (omega arith) (omega arith) p4 refl (omega arith) in
    let z5 : slice_index w5.regs 0 ≡ 0 = w5.others 0 (omega arith) ∙ z3 in
    let v5 : wrapped (slice_index w5.regs 0 + 6) ≡ 6 = omega arith in
    let w6 : AtSet 6 h 380 xs w5.regs m 17 6 = at-imm 5 h 376 xs w5.regs m Addi 16 0 6 6 w5.here k.stops.1.1.1.1.1.0 v5 refl (omega arith) in
    record {
      regs = w6.regs;
      calls = at-call 6 h 380 xs w6.regs m w6.here k.stops.1.1.1.1.1.1.0;
      many = w6.here.many;
      same = w6.here.same;
      set = (w6.others 10 (omega arith) ∙ w5.gives, (w6.gives, tt));
    }

-- from behind the call
pub given-rests : (h : Hart) → AtKernel h 384 → Goes 1 h rest_at [] [] h.memory
given-rests h a =
    let w : At 1 h rest_at [] h.regs h.memory =
    at-jal 0 h 384 [] h.regs h.memory (minus 328) rest_at (at-start h 384 [] a.at a.registers) a.kernel.stops.1.1.1.1.1.1.1.0 refl refl in
    record { regs = h.regs; comes = w.comes; many = w.many; same = w.same; set = tt }

-- the head of the frame's list is looked at
rests-looks : (h : Hart) (xs : List ℕ) (frame head : ℕ) → has xs 5 ≡ true → AtKernel h rest_at → reg h 8 ≡ frame → FrameIn h.memory frame
    → read_at h.memory (frame + head_at) 4 ≡ head → AtSet 1 h 60 xs h.regs h.memory 5 head
rests-looks h xs frame head k a e f r =
    let m : List ℕ = h.memory in
    let al : frame % 4 ≡ 0 = f.aligned in
    let ins : frame + slots_at ≤ length m = f.inside in
    let sm : length m < 2 ^ 32 = a.small in
    let d0 : wrapped (reg h 8 + head_at) ≡ frame + head_at = omega arith in
    at-lw 0 h 56 xs h.regs m 4 head_at 8 (frame + head_at) head (at-start h 56 xs a.at a.registers) a.kernel.rests.0 d0 (omega arith) (omega arith) r k
    (omega arith)

-- another thread of the frame is ready
pub rests-ready : (h : Hart) (frame head : ℕ) → AtKernel h rest_at → reg h 8 ≡ frame → FrameIn h.memory frame
    → read_at h.memory (frame + head_at) 4 ≡ suc head → Goes 2 h poll_at (5 ∷ []) [] h.memory
rests-ready h frame head a e f r =
    let w1 : AtSet 1 h 60 (5 ∷ []) h.regs h.memory 5 (suc head) = rests-looks h (5 ∷ []) frame (suc head) refl a e f r in
    let z : slice_index w1.regs 0 ≡ 0 = w1.others 0 (omega arith) ∙ a.zero_stays in
    let t : At 2 h poll_at (5 ∷ []) w1.regs h.memory =
    at-taken 1 h 60 (5 ∷ []) w1.regs h.memory Bne 5 0 8 poll_at w1.here a.kernel.rests.1.0
    (bne-taken (slice_index w1.regs 5) (slice_index w1.regs 0) head w1.gives z) refl refl in
    record { regs = w1.regs; comes = t.comes; many = t.many; same = t.same; set = tt }

-- none is
pub rests-none : (h : Hart) (frame : ℕ) → AtKernel h rest_at → reg h 8 ≡ frame → FrameIn h.memory frame → read_at h.memory (frame + head_at) 4 ≡ 0
    → Goes 3 h poll_at (5 ∷ 8 ∷ []) ((8, 0) ∷ []) h.memory
rests-none h frame a e f r =
    let xs : List ℕ = 5 ∷ 8 ∷ [] in
    let w1 : AtSet 1 h 60 xs h.regs h.memory 5 0 = rests-looks h xs frame 0 refl a e f r in
    let z : slice_index w1.regs 0 ≡ 0 = w1.others 0 (omega arith) ∙ a.zero_stays in
    let w2 : At 2 h 64 xs w1.regs h.memory =
    at-untaken 1 h 60 xs w1.regs h.memory Bne 5 0 8 w1.here a.kernel.rests.1.0 (bne-untaken (slice_index w1.regs 5) (slice_index w1.regs 0) w1.gives z) in
    let v : wrapped (slice_index w1.regs 0 + 0) ≡ 0 = omega arith in
    let w3 : AtSet 3 h poll_at xs w1.regs h.memory 8 0 = at-imm 2 h 64 xs w1.regs h.memory Addi 7 0 0 0 w2 a.kernel.rests.1.1.0 v refl (omega arith) in
    record { regs = w3.regs; comes = w3.here.comes; many = w3.here.many; same = w3.here.same; set = (w3.gives, tt) }
