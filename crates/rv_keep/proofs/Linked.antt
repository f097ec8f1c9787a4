-- The routine where the last of the count is spent: the thread goes to the front of its frame's list, and the frame maybe into the queue.
use Rattle.std.proofs.Common.{◌≡◌, ◌≢◌, ℕ, suc, ◌+◌, ◌%◌, ◌^◌, ◌<◌, ◌≤◌, List, length, refl, ap, ◌∙◌, arith, true, false}
use Rattle.std.specs.Prelude.{slice_index, slice_set}
use Rattle.tam_word.specs.Words.{wrapped}
use Rattle.tam_word.proofs.Tests.{eq-number, differs-number}
use Rattle.rv_inst.specs.declared.branch_name.BranchName.TheVariants.{Beq, Bne}
use Rattle.rv_inst.specs.Harts.{Hart, Done, reg, read_at, written_at}
use Rattle.rv_inst.specs.Execution.{hart_step, is_taken}
use Rattle.rv_inst.specs.Steps.{Stands}
use Rattle.rv_inst.proofs.Memory.{stands-written, length-written, read-before}
use Rattle.rv_inst.proofs.Moves.{lw-step, sw-step, taken-step, untaken-step}
use Rattle.rv_keep.specs.FrameBytes.{further}
use Rattle.rv_keep.specs.Posting.{gone, Returns, AtPost, FrameApart, started, linked}
use Rattle.rv_keep.proofs.Posted.{Went, went-store, went-jump, went-set, spends, goes-back, bne-taken, bne-untaken}
use Rattle.rv_keep.specs.FrameRecords.{head_at, slots_at}
use Rattle.rv_keep.specs.KernelPlaces.{post_end}
use Rattle.rv_keep.specs.Kernel.{post}

-- the kernel stands and the memory is as long after a write behind it
pub record Still (m k : List ℕ) : Type 0 where
  pub long : length k ≡ length m
  pub stands : Stands m 248 post → Stands k 248 post

-- after one write
pub still-one : (m : List ℕ) (a w : ℕ) → post_end ≤ a → a + 4 ≤ length m → Still m (written_at m a 4 w)
still-one m a w b l = record { long = length-written m a 4 w l; stands = λ s. stands-written m a w 248 post b l s }

-- after writes and writes
pub still-joined : (m k n : List ℕ) → Still m k → Still k n → Still m n
still-joined m k n p q = record { long = q.long ∙ p.long; stands = λ s. q.stands (p.stands s) }

-- after the cell is written twice
pub still-started : (m : List ℕ) (cell start : ℕ) → post_end ≤ cell → cell + 4 ≤ length m → Still m (started m cell start)
still-started m cell start b l =
    let k : List ℕ = written_at m cell 4 0 in
    let e : length k ≡ length m = length-written m cell 4 0 l in
    still-joined m k (started m cell start) (still-one m cell 0 b l) (still-one k cell start b (omega arith))

-- the head of the list is read past those writes
head-started : (m : List ℕ) (frame cell start : ℕ) → frame + slots_at ≤ cell → cell + 4 ≤ length m
    → read_at (started m cell start) (frame + head_at) 4 ≡ read_at m (frame + head_at) 4
head-started m frame cell start b l =
    let k : List ℕ = written_at m cell 4 0 in
    let e : length k ≡ length m = length-written m cell 4 0 l in
    read-before k cell 4 start (frame + head_at) 4 (omega arith) (omega arith) ∙ read-before m cell 4 0 (frame + head_at) 4 (omega arith) (omega arith)

-- the cell gets the address of the code, and the head of the list is read, in 3 more steps
links-cell : (h : Hart) (frame cell start back head : ℕ) → AtPost h frame cell start back → FrameApart frame cell → read_at h.memory (frame + head_at) 4 ≡ head
    → Went 3 h 260 (written_at h.memory cell 4 0) 5 0 → Went 6 h 272 (started h.memory cell start) 6 head
links-cell h frame cell start back head a f e g3 =
    let m : List ℕ = h.memory in
    let m0 : List ℕ = written_at m cell 4 0 in
    let m1 : List ℕ = started m cell start in
    let be : post_end ≤ cell = a.cell_behind in
    let ins : cell + 8 ≤ length m = a.cell_inside in
    let sm : length m < 2 ^ 32 = a.small in
    let ali : frame % 4 ≡ 0 = f.aligned in
    let bef : frame + slots_at ≤ cell = f.before in
    let l : length h.regs ≡ 32 = a.registers in
    let t0 : Still m m0 = still-one m cell 0 be (omega arith) in
    let t1 : Still m m1 = still-started m cell start be (omega arith) in
    let l0 : length m0 ≡ length m = t0.long in
    let l1 : length m1 ≡ length m = t1.long in
    let st : Stands m0 248 post = t0.stands a.stands in
    let su : Stands m1 248 post = t1.stands a.stands in
    let z : slice_index g3.regs 0 ≡ 0 = g3.others 0 (omega arith) (omega arith) ∙ a.zero_stays in
    let g4 : Went 4 h 264 m0 5 0 =
    went-store 3 h 260 m0 m0 5 0 g3 (untaken-step (gone h 3 260 g3.regs m0) Bne 5 0 52 st.1.1.1.0
    (bne-untaken (slice_index g3.regs 5) (slice_index g3.regs 0) g3.gives z)) in
    let c4 : slice_index g4.regs 11 ≡ cell = g4.others 11 (omega arith) (omega arith) ∙ a.cell_is in
    let d4 : slice_index g4.regs 12 ≡ start = g4.others 12 (omega arith) (omega arith) ∙ a.start_is in
    let ad4 : wrapped (slice_index g4.regs 11 + 0) ≡ cell = omega arith in
    let k4 : hart_step (gone h 4 264 g4.regs m0) ≡ Done (further (gone h 4 264 g4.regs m0) 1 g4.regs m1) =
    sw-step (gone h 4 264 g4.regs m0) 11 12 0 cell st.1.1.1.1.0 ad4 a.cell_aligned (omega arith)
    ∙ ap (λ (x : ℕ). Done (further (gone h 4 264 g4.regs m0) 1 g4.regs (written_at m0 cell 4 x))) d4 in
    let g5 : Went 5 h 268 m1 5 0 = went-store 4 h 264 m0 m1 5 0 g4 k4 in
    let c5 : slice_index g5.regs 10 ≡ frame = g5.others 10 (omega arith) (omega arith) ∙ a.frame_is in
    let ad5 : wrapped (slice_index g5.regs 10 + head_at) ≡ frame + head_at = omega arith in
    let hd : read_at m1 (frame + head_at) 4 ≡ head = head-started m frame cell start bef (omega arith) ∙ e in
    let k5 : hart_step (gone h 5 268 g5.regs m1) ≡ Done (further (gone h 5 268 g5.regs m1) 1 (slice_set g5.regs 6 head) m1) =
    lw-step (gone h 5 268 g5.regs m1) 5 10 head_at (frame + head_at) su.1.1.1.1.1.0 ad5 (omega arith) (omega arith)
    ∙ ap (λ (x : ℕ). Done (further (gone h 5 268 g5.regs m1) 1 (slice_set g5.regs 6 x) m1)) hd in
    went-set 5 h 268 m1 5 0 6 head g5 (λ r p q. q) (omega arith) k5

-- after the link is written too
pub still-link : (m : List ℕ) (cell start head : ℕ) → post_end ≤ cell → cell + 8 ≤ length m → Still m (written_at (started m cell start) (cell + 4) 4 head)
still-link m cell start head b l =
    let t : Still m (started m cell start) = still-started m cell start b (omega arith) in
    let e : length (started m cell start) ≡ length m = t.long in
    still-joined m (started m cell start) (written_at (started m cell start) (cell + 4) 4 head) t
    (still-one (started m cell start) (cell + 4) head (omega arith) (omega arith))

-- and after the head is
pub still-linked : (m : List ℕ) (frame cell start head : ℕ) → post_end ≤ frame → frame + slots_at ≤ cell → cell + 8 ≤ length m
    → Still m (linked m frame cell start head)
still-linked m frame cell start head b f l =
    let k : List ℕ = written_at (started m cell start) (cell + 4) 4 head in
    let t : Still m k = still-link m cell start head (omega arith) l in
    let e : length k ≡ length m = t.long in
    still-joined m k (linked m frame cell start head) t (still-one k (frame + head_at) cell (omega arith) (omega arith))

-- the cell is linked to what was the head, and becomes the head, in 2 more
links-list : (h : Hart) (frame cell start back head : ℕ) → AtPost h frame cell start back → FrameApart frame cell
    → Went 6 h 272 (started h.memory cell start) 6 head → Went 8 h 280 (linked h.memory frame cell start head) 6 head
links-list h frame cell start back head a f g6 =
    let m : List ℕ = h.memory in
    let m1 : List ℕ = started m cell start in
    let m2 : List ℕ = written_at m1 (cell + 4) 4 head in
    let m3 : List ℕ = linked m frame cell start head in
    let be : post_end ≤ cell = a.cell_behind in
    let ins : cell + 8 ≤ length m = a.cell_inside in
    let sm : length m < 2 ^ 32 = a.small in
    let ali : frame % 4 ≡ 0 = f.aligned in
    let cal : cell % 4 ≡ 0 = a.cell_aligned in
    let bef : frame + slots_at ≤ cell = f.before in
    let t1 : Still m m1 = still-started m cell start be (omega arith) in
    let t2 : Still m m2 = still-link m cell start head be ins in
    let l1 : length m1 ≡ length m = t1.long in
    let l2 : length m2 ≡ length m = t2.long in
    let s1 : Stands m1 248 post = t1.stands a.stands in
    let s2 : Stands m2 248 post = t2.stands a.stands in
    let c6 : slice_index g6.regs 11 ≡ cell = g6.others 11 (omega arith) (omega arith) ∙ a.cell_is in
    let ad6 : wrapped (slice_index g6.regs 11 + 4) ≡ cell + 4 = omega arith in
    let k6 : hart_step (gone h 6 272 g6.regs m1) ≡ Done (further (gone h 6 272 g6.regs m1) 1 g6.regs m2) =
    sw-step (gone h 6 272 g6.regs m1) 11 6 4 (cell + 4) s1.1.1.1.1.1.1.0 ad6 (omega arith) (omega arith)
    ∙ ap (λ (x : ℕ). Done (further (gone h 6 272 g6.regs m1) 1 g6.regs (written_at m1 (cell + 4) 4 x))) g6.gives in
    let g7 : Went 7 h 276 m2 6 head = went-store 6 h 272 m1 m2 6 head g6 k6 in
    let c7 : slice_index g7.regs 11 ≡ cell = g7.others 11 (omega arith) (omega arith) ∙ a.cell_is in
    let f7 : slice_index g7.regs 10 ≡ frame = g7.others 10 (omega arith) (omega arith) ∙ a.frame_is in
    let ad7 : wrapped (slice_index g7.regs 10 + head_at) ≡ frame + head_at = omega arith in
    let k7 : hart_step (gone h 7 276 g7.regs m2) ≡ Done (further (gone h 7 276 g7.regs m2) 1 g7.regs m3) =
    sw-step (gone h 7 276 g7.regs m2) 10 11 head_at (frame + head_at) s2.1.1.1.1.1.1.1.0 ad7 (omega arith) (omega arith)
    ∙ ap (λ (x : ℕ). Done (further (gone h 7 276 g7.regs m2) 1 g7.regs (written_at m2 (frame + head_at) 4 x))) c7 in
    went-store 7 h 276 m2 m3 6 head g7 k7

-- where the count was 1, the machine comes with the thread in its frame's list to the test of the list
links : (h : Hart) (frame cell start back head : ℕ) → AtPost h frame cell start back → FrameApart frame cell → read_at h.memory cell 4 ≡ 1
    → read_at h.memory (frame + head_at) 4 ≡ head → Went 8 h 280 (linked h.memory frame cell start head) 6 head
links h frame cell start back head a f c e =
    links-list h frame cell start back head a f (links-cell h frame cell start back head a f e (spends h frame cell start back 0 a c (omega arith)))

-- where the list wasn't empty, the routine goes back in 10 steps
pub post-lists : (h : Hart) (frame cell start back head : ℕ) → AtPost h frame cell start back → FrameApart frame cell → read_at h.memory cell 4 ≡ 1
    → read_at h.memory (frame + head_at) 4 ≡ suc head → Returns 10 h back (linked h.memory frame cell start (suc head))
post-lists h frame cell start back head a f c e =
    let m : List ℕ = linked h.memory frame cell start (suc head) in
    let t : Still h.memory m = still-linked h.memory frame cell start (suc head) f.behind f.before a.cell_inside in
    let s : Stands m 248 post = t.stands a.stands in
    let g8 : Went 8 h 280 m 6 (suc head) = links h frame cell start back (suc head) a f c e in
    let z : slice_index g8.regs 0 ≡ 0 = g8.others 0 (omega arith) (omega arith) ∙ a.zero_stays in
    let g9 : Went 9 h 312 m 6 (suc head) = went-jump 8 h 280 312 m 6 (suc head) g8
    (taken-step (gone h 8 280 g8.regs m) Bne 6 0 32 312 s.1.1.1.1.1.1.1.1.0
    (bne-taken (slice_index g8.regs 6) (slice_index g8.regs 0) head g8.gives z) refl refl) in
    goes-back 9 h frame cell start back m 6 (suc head) a s.1.1.1.1.1.1.1.1.1.1.1.1.1.1.1.1.0 g9

-- where it was empty, the machine comes to the test of the current frame
pub empties : (h : Hart) (frame cell start back : ℕ) → AtPost h frame cell start back → FrameApart frame cell → read_at h.memory cell 4 ≡ 1
    → read_at h.memory (frame + head_at) 4 ≡ 0 → Went 9 h 284 (linked h.memory frame cell start 0) 6 0
empties h frame cell start back a f c e =
    let m : List ℕ = linked h.memory frame cell start 0 in
    let t : Still h.memory m = still-linked h.memory frame cell start 0 f.behind f.before a.cell_inside in
    let s : Stands m 248 post = t.stands a.stands in
    let g8 : Went 8 h 280 m 6 0 = links h frame cell start back 0 a f c e in
    let z : slice_index g8.regs 0 ≡ 0 = g8.others 0 (omega arith) (omega arith) ∙ a.zero_stays in
    went-store 8 h 280 m m 6 0 g8
    (untaken-step (gone h 8 280 g8.regs m) Bne 6 0 32 s.1.1.1.1.1.1.1.1.0 (bne-untaken (slice_index g8.regs 6) (slice_index g8.regs 0) g8.gives z))

-- a branch on equal numbers is taken
pub beq-taken : (a b c : ℕ) → a ≡ c → b ≡ c → is_taken Beq a b ≡ true
beq-taken a b c p q = let e : a ≡ b = omega arith in eq-number a b e

-- and on others it isn't
pub beq-untaken : (a b c d : ℕ) → a ≡ c → b ≡ d → d ≢ c → is_taken Beq a b ≡ false
beq-untaken a b c d p q n = let e : a ≢ b = omega arith in differs-number a b e

-- where the list was empty and the frame is the current one, the routine goes back in 11 steps
pub post-current : (h : Hart) (frame cell start back : ℕ) → AtPost h frame cell start back → FrameApart frame cell → read_at h.memory cell 4 ≡ 1
    → read_at h.memory (frame + head_at) 4 ≡ 0 → reg h 8 ≡ frame → Returns 11 h back (linked h.memory frame cell start 0)
post-current h frame cell start back a f c e r8 =
    let m : List ℕ = linked h.memory frame cell start 0 in
    let t : Still h.memory m = still-linked h.memory frame cell start 0 f.behind f.before a.cell_inside in
    let s : Stands m 248 post = t.stands a.stands in
    let g9 : Went 9 h 284 m 6 0 = empties h frame cell start back a f c e in
    let p : slice_index g9.regs 10 ≡ frame = g9.others 10 (omega arith) (omega arith) ∙ a.frame_is in
    let q : slice_index g9.regs 8 ≡ frame = g9.others 8 (omega arith) (omega arith) ∙ r8 in
    let g10 : Went 10 h 312 m 6 0 = went-jump 9 h 284 312 m 6 0 g9
    (taken-step (gone h 9 284 g9.regs m) Beq 10 8 28 312 s.1.1.1.1.1.1.1.1.1.0
    (beq-taken (slice_index g9.regs 10) (slice_index g9.regs 8) frame p q) refl refl) in
    goes-back 10 h frame cell start back m 6 0 a s.1.1.1.1.1.1.1.1.1.1.1.1.1.1.1.1.0 g10
